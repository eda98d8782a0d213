use Rattle.std.proofs.Common.{List, is_some, ap, ◌∙◌}
use Rattle.hwp_law.specs.hwp_severity.declared.Grade.{Grade}
use Rattle.hwp_law.specs.hwp_severity.Handling.{lowest_stop}
use Rattle.hwp_claim.specs.Events.{held_with}
use Rattle.hwp_claim.proofs.BankGrades.{held-is, stops-is}
use Rattle.hwp_claim.proofs.EventTells.{begun}
use Rattle.hwp_claim.proofs.handler.Handler.new.Goals as goal

pub returns : goal.returns
returns c = begun c.args.layout.now c.args.alloc c.args.who c.args.thread (record { mcg = c.args.mcg; mode = c.args.mode }) c.args.banks.now c.is_some-stops.result c.new-events.result.left c.new-events.result.told c.tell_on-at.new.events c.tell_on-at.result
    (c.is_some-stops.ensures ∙ ap is_some (c.handle-decision.ensures.stop ∙ ap lowest_stop c.handle-decision.ensures.acts) ∙ stops-is c.args.mcg c.args.mode c.args.banks.now)
    (c.new-events.ensures.left ∙ ap (λ (grades : List Grade). held_with 0 c.args.banks.now grades) c.handle-decision.ensures.acts ∙ held-is c.args.mcg c.args.mode c.args.banks.now)
    c.new-events.ensures.told
    c.tell_on-at.ensures.events
    c.tell_on-at.ensures.at
