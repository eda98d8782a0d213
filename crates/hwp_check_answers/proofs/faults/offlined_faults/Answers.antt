use Rattle.std.proofs.Common.{sym}
use Rattle.std.proofs.lemmas.Result.{IfOk-weaker}
use Rattle.hwp_check_answers.proofs.OfflinedLaws.{judged-by, judged-none}
use Rattle.hwp_check_answers.proofs.faults.offlined_faults.Goals as goal

pub returns-then-not-watches : goal.returns-then-not-watches
returns-then-not-watches c = judged-none c.args.script.now c.args.report.now c.args.cpu c.args.commands.now c.args.rows.now c.requires.of_script c.requires.of_report c.first_of_any.result (sym c.if-not-watches.ensures) c.first_of_any.ensures

pub returns : goal.returns
returns c = IfOk-weaker c.scan.result _ _ (λ found. judged-by c.args.script.now c.args.report.now c.args.cpu c.args.commands.now c.args.rows.now c.requires.of_script c.requires.of_report c.in_ok-dues.dues.items c.as_slice-4.result.now found c.as_slice-4.ensures.value c.in_ok-dues.ensures) c.scan.ensures
