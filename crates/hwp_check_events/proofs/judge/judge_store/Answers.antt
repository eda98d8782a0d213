use Rattle.std.proofs.Common.{Bool, cond, sym, ◌∙◌, subst}
use Rattle.hwp_banks.specs.declared.Origin.TheVariants as origins
use Rattle.hwp_law.specs.Commands.{arrival_of}
use Rattle.hwp_law.specs.Events.{access_lines}
use Rattle.hwp_check_event_line.specs.Firsts.{shown_lines}
use Rattle.hwp_check_event_line.specs.Reading.{copies_in}
use Rattle.hwp_check_events.specs.Copied.{copied_by}
use Rattle.hwp_check_events.specs.Judged.{IsAccessJudged}
use Rattle.hwp_check_events.proofs.judge.judge_store.Goals as goal

pub returns-then-has_copied : goal.returns-then-has_copied
returns-then-has_copied c =
    let v = c.args.case.now in
    subst (λ (b : Bool). IsAccessJudged v.script v.report v.who (arrival_of v.command) origins.Access (cond b (copied_by v.script.layout (copies_in v.copies) v.report v.who v.command) (access_lines v.report v.who c.args.at)) c.args.raw.now c.judge_copy.new.raw (shown_lines v.lines) c.judge_copy.result)
    (sym c.if-has_copied.true ∙ c.has_copied.ensures) c.judge_copy.ensures

pub returns-else-has_copied : goal.returns-else-has_copied
returns-else-has_copied c =
    let v = c.args.case.now in
    subst (λ (b : Bool). IsAccessJudged v.script v.report v.who (arrival_of v.command) origins.Access (cond b (copied_by v.script.layout (copies_in v.copies) v.report v.who v.command) (access_lines v.report v.who c.args.at)) c.args.raw.now c.judge_access.new.raw (shown_lines v.lines) c.judge_access.result)
    (sym c.if-has_copied.false ∙ c.has_copied.ensures) c.judge_access.ensures
