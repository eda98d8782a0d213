use Rattle.std.proofs.Common.{sym, ℕ, Option, subst}
use Rattle.hwp_check_rules.specs.Firsts.{IsLeast}
use Rattle.hwp_check_rules.specs.MarkFaults.{IsMarkLacking}
use Rattle.hwp_check_marks.specs.Lacking.{IsHomeLacking}
use Rattle.hwp_check_marks.specs.Walks.{IsLowest}
use Rattle.hwp_check_marks.proofs.LackLaws.{line-least, lowest-of, none-lacks}
use Rattle.hwp_check_marks.proofs.lacking.lacking.Goals as goal

pub returns-in-Some : goal.returns-in-Some
returns-in-Some c =
    let all : IsLowest (IsHomeLacking c.args.script.now c.args.report.now) c.lowest_in.result =
    lowest-of c.args.script.now c.args.report.now c.in_ok-asked.asked c.in_ok-had.had c.as_slice-pages.result.now c.as_slice.result.now c.lowest_in.result c.as_slice-pages.ensures c.as_slice.ensures
    c.in_ok-asked.ensures c.in_ok-had.ensures c.lowest_in.ensures in
    subst (λ (n : ℕ). IsLeast (IsMarkLacking c.args.script.now c.args.report.now) n) (sym c.line_of.ensures)
    (line-least c.args.script.now c.args.report.now c.in-Some.home (subst (λ (o : Option ℕ). IsLowest (IsHomeLacking c.args.script.now c.args.report.now) o) c.in-Some.is all))

pub returns : goal.returns
returns c =
    let all : IsLowest (IsHomeLacking c.args.script.now c.args.report.now) c.lowest_in.result =
    lowest-of c.args.script.now c.args.report.now c.in_ok-asked.asked c.in_ok-had.had c.as_slice-pages.result.now c.as_slice.result.now c.lowest_in.result c.as_slice-pages.ensures c.as_slice.ensures
    c.in_ok-asked.ensures c.in_ok-had.ensures c.lowest_in.ensures in
    none-lacks c.args.script.now c.args.report.now (subst (λ (o : Option ℕ). IsLowest (IsHomeLacking c.args.script.now c.args.report.now) o) c.in-None.is all)
