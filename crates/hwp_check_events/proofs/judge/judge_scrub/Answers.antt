use Rattle.std.proofs.Common.{◌∙◌, ap, sym, subst}
use Rattle.hwp_law.specs.Commands.{arrival_of}
use Rattle.hwp_check_event_line.specs.Firsts.{shown_lines}
use Rattle.hwp_check_events.specs.Cases.{CaseValue}
use Rattle.hwp_check_events.specs.Judged.{IsScrubJudged, IsTable}
use Rattle.hwp_check_event_line.specs.Misfits.{is_scrubbed}
use Rattle.hwp_check_events.proofs.JudgeLaws.{scrub-judged}
use Rattle.hwp_check_events.proofs.judge.judge_scrub.Goals as goal

pub returns : goal.returns
returns c =
    let s = c.case.inside in
    let judged = scrub-judged s.script.now s.report.now s.who c.args.raw.now c.scrub_faults.new.raw s.lines.now c.scrub_faults.result.wrong c.scrub_faults.result.lacks c.arrival_of-how.result (arrival_of s.command.now) c.args.table.now
    c.is_scrubbed-whole.result c.args.first c.args.last c.arrival_of-how.ensures (subst (λ (v : CaseValue). IsTable v.script v.who c.args.table.now) (sym c.case.view_is) c.requires.table)
    (c.is_scrubbed-whole.ensures ∙ ap is_scrubbed c.case.invariant.answer) c.scrub_faults.ensures.scanned c.scrub_faults.ensures.lacks c.scrub_faults.ensures.left in
    subst (λ (v : CaseValue). IsScrubJudged v.script v.report v.who (arrival_of v.command) c.args.first c.args.last c.args.raw.now c.scrub_faults.new.raw (shown_lines v.lines) c.scrub_faults.result) c.case.view_is
    (record { scanned = judged.0; lacks = judged.1; left_is = judged.2 })
