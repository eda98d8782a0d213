use Rattle.std.proofs.Common.{subst}
use Rattle.hwp_law.specs.Commands.{arrival_of}
use Rattle.hwp_check_event_line.specs.Firsts.{shown_lines}
use Rattle.hwp_check_events.specs.Cases.{CaseValue}
use Rattle.hwp_check_events.specs.Judged.{IsRaiseJudged}
use Rattle.hwp_check_events.proofs.JudgeLaws.{raise-judged}
use Rattle.hwp_check_events.proofs.judge.judge_raise.Goals as goal

pub returns : goal.returns
returns c =
    let s = c.case.inside in
    let judged = raise-judged s.script.now s.report.now s.who c.args.raw.now c.raise_faults.new.raw s.lines.now c.raise_faults.result.wrong c.raise_faults.result.lacks c.arrival_of-how.result (arrival_of s.command.now) s.known.answer
    c.arrival_of-how.ensures c.case.invariant.answer c.raise_faults.ensures.scanned c.raise_faults.ensures.lacks c.raise_faults.ensures.left in
    subst (λ (v : CaseValue). IsRaiseJudged v.script v.report v.who (arrival_of v.command) c.args.raw.now c.raise_faults.new.raw (shown_lines v.lines) c.raise_faults.result) c.case.view_is
    (record { scanned = judged.0; lacks = judged.1; left_is = judged.2 })
