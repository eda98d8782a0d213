use Rattle.std.proofs.Common.{sym}
use Rattle.std.proofs.lemmas.Result.{IfOk-weaker}
use Rattle.hwp_check_answers.proofs.OfflinedOrder.{answered-if, free-if}
use Rattle.hwp_check_answers.proofs.offlines.unanswered_if.Goals as goal

pub returns-then-not-watches : goal.returns-then-not-watches
returns-then-not-watches c = free-if c.args.commands.now c.args.rows.now (sym c.if-not-watches.ensures)

pub returns : goal.returns
returns c = IfOk-weaker c.unanswered.result _ _ (λ found. answered-if c.args.commands.now c.args.rows.now found (sym c.if-not-watches.ensures)) c.unanswered.ensures
