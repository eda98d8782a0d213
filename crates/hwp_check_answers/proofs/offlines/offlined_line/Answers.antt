use Rattle.std.proofs.Common.{ℕ, Option, subst, sym, MatchOption}
use Rattle.hwp_check_answers.specs.Offlining.{AreAllDue, IsFirstOfflined}
use Rattle.hwp_check_answers.proofs.OfflinedOrder.{heading-first, judged-line, none-lacking, row-within}
use Rattle.hwp_check_answers.proofs.offlines.offlined_line.Goals as goal

pub returns-in-Some : goal.returns-in-Some
returns-in-Some c = heading-first c.args.script.now c.args.report.now c.args.cpu c.args.commands.now c.args.rows.now c.args.heading _ c.in_ok-lacking.lacking c.in-Some.is c.in_ok-lacking.ensures

pub line_of-requires : goal.line_of-requires
line_of-requires c =
    row-within c.args.script.now c.args.report.now c.args.cpu c.args.commands.now c.args.rows.now c.in_ok-found-in-None.found c.args.heading c.requires.room c.in_ok-found-in-None.ensures

pub returns-in_ok-found-in-None : goal.returns-in_ok-found-in-None
returns-in_ok-found-in-None c =
    subst (λ (o : Option ℕ). MatchOption o (AreAllDue c.args.script.now c.args.report.now c.args.cpu c.args.commands.now c.args.rows.now) (IsFirstOfflined c.args.script.now c.args.report.now c.args.cpu c.args.commands.now c.args.rows.now c.args.heading)) (sym c.line_of.ensures)
    (judged-line c.args.script.now c.args.report.now c.args.cpu c.args.commands.now c.args.rows.now c.args.heading c.in_ok-found-in-None.found c.requires.of_report
    (none-lacking c.args.commands.now c.args.rows.now c.in_ok-lacking.lacking c.in-None.is c.in_ok-lacking.ensures) c.in_ok-found-in-None.ensures)
