use Rattle.std.proofs.Common.{ℕ, List, subst}
use Rattle.hwp_banks.specs.declared.Origin.TheVariants as origins
use Rattle.hwp_law.specs.Commands.{arrival_of}
use Rattle.hwp_law.specs.hwp_severity.declared.Arrival.{Arrival}
use Rattle.hwp_check_event_line.specs.Firsts.{shown_lines}
use Rattle.hwp_check_events.specs.Cases.{CaseValue}
use Rattle.hwp_check_event_line.specs.Reading.{copies_in}
use Rattle.hwp_check_events.specs.Copied.{copied_by}
use Rattle.hwp_check_events.specs.Judged.{IsAccessJudged}
use Rattle.hwp_check_events.proofs.CopyLaws.{met-copied}
use Rattle.hwp_check_events.proofs.JudgeLaws.{access-judged}
use Rattle.hwp_check_events.proofs.judge.judge_copy.Goals as goal

pub returns : goal.returns
returns c =
    let s = c.case.inside in
    let judged = access-judged s.script.now s.report.now s.who c.args.raw.now c.access_faults.new.raw s.lines.now c.access_faults.result.wrong c.access_faults.result.lacks _
    s.copied.now c.arrival_of-how.result c.checks_of-checks.result s.copied.now c.checks_of-checks.ensures.0 (met-copied c.checks_of-checks.result s.copied.now c.checks_of-checks.ensures.2)
    c.checks_of-checks.ensures.2 c.access_faults.ensures.scanned c.access_faults.ensures.lacks c.access_faults.ensures.left in
    subst (λ (v : CaseValue). IsAccessJudged v.script v.report v.who (arrival_of v.command) origins.Access (copied_by v.script.layout (copies_in v.copies) v.report v.who v.command) c.args.raw.now c.access_faults.new.raw (shown_lines v.lines) c.access_faults.result) c.case.view_is
    (subst (λ (h : Arrival). IsAccessJudged s.script.now s.report.now s.who h origins.Access (copied_by s.script.now.layout (copies_in s.copies.now) s.report.now s.who s.command.now) c.args.raw.now c.access_faults.new.raw (shown_lines s.lines.now) c.access_faults.result) c.arrival_of-how.ensures
    (subst (λ (l : List ℕ). IsAccessJudged s.script.now s.report.now s.who c.arrival_of-how.result origins.Access l c.args.raw.now c.access_faults.new.raw (shown_lines s.lines.now) c.access_faults.result) c.case.invariant.copied_is
    (record { scanned = judged.0; lacks = judged.1; left_is = judged.2 })))
