use Rattle.std.proofs.Common.{ℕ, sym, subst, ◌∙◌, []}
use Rattle.std.proofs.lemmas.List.{length-replicate}
use Rattle.hwp_law.specs.Events.{access_lines}
use Rattle.hwp_law.specs.Commands.{arrival_of}
use Rattle.hwp_law.specs.hwp_severity.declared.Arrival.{Arrival}
use Rattle.hwp_check_event_line.specs.Firsts.{shown_lines}
use Rattle.hwp_check_events.specs.Cases.{CaseValue}
use Rattle.hwp_check_events.specs.Judged.{IsAccessJudged}
use Rattle.hwp_check_events.proofs.CopyLaws.{met-plain}
use Rattle.hwp_check_events.proofs.JudgeLaws.{access-judged}
use Rattle.hwp_check_events.proofs.judge.judge_access.Goals as goal

pub returns : goal.returns
returns c =
    let s = c.case.inside in
    let count = c.checks_of-checks.ensures.2 ∙ c.case.invariant.checks in
    let judged = access-judged s.script.now s.report.now s.who c.args.raw.now c.access_faults.new.raw s.lines.now c.access_faults.result.wrong c.access_faults.result.lacks c.args.origin
    (access_lines s.report.now s.who c.args.at) c.arrival_of-how.result c.checks_of-checks.result [] c.checks_of-checks.ensures.0 (met-plain c.checks_of-checks.result _ c.args.at c.checks_of-checks.ensures.1 count)
    (count ∙ sym (length-replicate {A = ℕ} _ c.args.at)) c.access_faults.ensures.scanned c.access_faults.ensures.lacks c.access_faults.ensures.left in
    subst (λ (v : CaseValue). IsAccessJudged v.script v.report v.who (arrival_of v.command) c.args.origin (access_lines v.report v.who c.args.at) c.args.raw.now c.access_faults.new.raw (shown_lines v.lines) c.access_faults.result) c.case.view_is
    (subst (λ (h : Arrival). IsAccessJudged s.script.now s.report.now s.who h c.args.origin (access_lines s.report.now s.who c.args.at) c.args.raw.now c.access_faults.new.raw (shown_lines s.lines.now) c.access_faults.result) c.arrival_of-how.ensures
    (record { scanned = judged.0; lacks = judged.1; left_is = judged.2 }))
