use Rattle.std.proofs.Common.{length, ap, ◌∙◌}
use Rattle.hwp_claim_frame.specs.hwp_page.History.{BodyValue}
use Rattle.hwp_soft.specs.Softs.{with_entry}
use Rattle.hwp_soft.proofs.MoveBegins.{begins-moving}
use Rattle.hwp_soft.proofs.soft.relocate.Goals as goal

pub returns : goal.returns
returns c = begins-moving c.args.who c.args.frame c.args.page c.args.body c.args.to c.args.cycle _ _ _ _ c.into_parts-body.ensures.1
    (c.len.ensures ∙ ap (λ (b : BodyValue). length b.log) c.into_parts-body.ensures.0)
    (c.append.ensures ∙ ap (with_entry c.args.who) c.into_parts-body.ensures.0) c.new.ensures
