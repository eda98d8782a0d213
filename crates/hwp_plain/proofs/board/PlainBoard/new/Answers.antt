use Rattle.std.proofs.Common.{◌≡◌, ap, ◌∙◌, sym, subst, rules}
use Rattle.std.specs.Arc.{arc_value}
use Rattle.hwp_core_rule.specs.hwp_geom.declared.Layout.{Layout}
use Rattle.hwp_core_rule.specs.Opening.{opening_homes}
use Rattle.hwp_plain.specs.declared.trail.Trail.TheVariants.{Opening}
use Rattle.hwp_plain.specs.Boards.{IsBoard, state_of}
use Rattle.hwp_plain.specs.Slots.{AreOfLayout}
use Rattle.hwp_plain.proofs.AtHome.{homes-made, layouts-made}
use Rattle.hwp_plain.proofs.BoardOpens.{state-open, board-open}
use Rattle.hwp_plain.proofs.board.PlainBoard.new.Goals as goal

pub invariant_of-result : goal.invariant_of-result
invariant_of-result c =
    let same : arc_value c.in_ok-layout.layout ≡ c.args.layout.now = search rules in
    let homes = homes-made c.in_ok-slots.slots.items c.in_ok-bodies.bodies.items c.in_ok-slots.ensures ∙ c.in_ok-bodies.ensures.homes ∙ ap opening_homes same in
    let layouts = layouts-made (arc_value c.in_ok-layout.layout) c.in_ok-slots.slots.items c.in_ok-bodies.bodies.items c.in_ok-slots.ensures c.in_ok-bodies.ensures.layouts in
    subst (λ (l : Layout). IsBoard l c.in_ok-words.words.items c.in_ok-slots.slots.items Opening 0) (sym same)
    (board-open c.args.layout.now c.in_ok-words.words.items c.in_ok-slots.slots.items c.requires.sound c.in_ok-words.ensures homes (subst (λ (l : Layout). AreOfLayout l c.in_ok-slots.slots.items) same layouts))

pub returns-clause-state : goal.returns-clause-state
returns-clause-state c =
    let same : arc_value c.in_ok-layout.layout ≡ c.args.layout.now = search rules in
    let homes = homes-made c.in_ok-slots.slots.items c.in_ok-bodies.bodies.items c.in_ok-slots.ensures ∙ c.in_ok-bodies.ensures.homes ∙ ap opening_homes same in
    let layouts = layouts-made (arc_value c.in_ok-layout.layout) c.in_ok-slots.slots.items c.in_ok-bodies.bodies.items c.in_ok-slots.ensures c.in_ok-bodies.ensures.layouts in
    ap (λ (l : Layout). state_of l c.in_ok-words.words.items c.in_ok-slots.slots.items Opening) same
    ∙ state-open c.args.layout.now c.in_ok-words.words.items c.in_ok-slots.slots.items c.requires.sound c.in_ok-words.ensures homes (subst (λ (l : Layout). AreOfLayout l c.in_ok-slots.slots.items) same layouts)
