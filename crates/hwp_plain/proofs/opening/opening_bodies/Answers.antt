use Rattle.std.proofs.Common.{◌≡◌, ◌+◌, List, Option, Some, None, map, replicate, sym, ap, subst, arith}
use Rattle.std.specs.Arc.{arc_value}
use Rattle.hwp_core_rule.specs.hwp_geom.declared.Layout.{Layout}
use Rattle.hwp_core_rule.specs.hwp_page.History.{BodyValue}
use Rattle.hwp_core_rule.specs.Lists.{EachMember}
use Rattle.hwp_core_rule.specs.Calls.{FitsLayout}
use Rattle.hwp_plain.specs.Openings.{home_with}
use Rattle.hwp_plain.proofs.SlotLists.{slots_open, no-shelf, frame-more, shelf-more}
use Rattle.hwp_plain.proofs.opening.opening_bodies.Goals as goal

pub loop-frame-preserved : goal.loop-frame-preserved
loop-frame-preserved c =
    subst (λ (l : List (Option BodyValue)). (map home_with l ≡ replicate (c.loop-frame._frame + 1) (Some None)) × EachMember (FitsLayout (arc_value c.args.layout.now)) l) (sym c.in_ok-push.ensures.items)
    (frame-more (arc_value c.args.layout.now) c.loop-frame.bodies.items c.loop-frame._frame c.loop-frame.invariant.0 c.loop-frame.invariant.1)

pub loop-page-init : goal.loop-page-init
loop-page-init c =
    let past = c.loop-frame-test.false in
    let few = c.loop-frame.auto._frame-end in
    let frames : c.deref-declared.result.now.frames ≡ (arc_value c.args.layout.now).frames = ap (λ (l : Layout). l.frames) c.deref-declared.ensures in
    (no-shelf (arc_value c.args.layout.now) c.loop-frame.bodies.items c.loop-frame._frame (arc_value c.args.layout.now).frames (omega (arith, frames)) c.loop-frame.invariant.0, c.loop-frame.invariant.1)

pub loop-page-preserved : goal.loop-page-preserved
loop-page-preserved c =
    subst (λ (l : List (Option BodyValue)). (map home_with l ≡ slots_open (arc_value c.args.layout.now).frames (c.loop-page.page + 1)) × EachMember (FitsLayout (arc_value c.args.layout.now)) l) (sym c.in_ok-push-2.ensures.items)
    (shelf-more (arc_value c.args.layout.now) c.loop-page.bodies.items (arc_value c.args.layout.now).frames c.loop-page.page c.in_ok-body.body c.in_ok-body.ensures c.loop-page.invariant.0 c.loop-page.invariant.1)
