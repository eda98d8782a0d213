use Rattle.std.proofs.Common.{◌+◌, length, map, sym, ap, ◌∙◌, refl, subst}
use Rattle.std.specs.Prelude.{IfOk}
use Rattle.std.specs.Arc.{arc_value}
use Rattle.hwp_core_rule.specs.hwp_geom.declared.Layout.{Layout}
use Rattle.hwp_core_rule.specs.Lists.{EachMember, Homes}
use Rattle.hwp_core_rule.specs.parts.Holdings.{HoldsNothing}
use Rattle.hwp_plain.specs.Ends.{IsMachineOf}
use Rattle.hwp_plain.specs.Openings.{home_with}
use Rattle.hwp_plain.specs.Boards.{Board, state_of}
use Rattle.hwp_plain.proofs.AtHome.{bodies-count, bodies-taken}
use Rattle.hwp_plain.proofs.board.PlainBoard.close.Goals as goal

pub machine_of-requires : goal.machine_of-requires
machine_of-requires c =
    let nothing = subst (λ (b : Board). EachMember HoldsNothing b.state.views) (sym c.self.view_is) c.requires.nothing in
    let layout = arc_value c.self.inside.layout in
    let state = state_of layout c.self.inside.words.items c.self.inside.slots.items c.self.inside.trail in
    let bodies = bodies-taken layout state c.self.invariant.reached.holds nothing c.self.inside.slots.items c.in_ok-bodies.bodies.items refl c.in_ok-bodies.ensures in
    record { count = bodies-count layout state c.self.invariant.reached.holds c.in_ok-bodies.bodies.items bodies ∙ ap (λ (l : Layout). l.frames + length l.pages) (sym c.deref.ensures) }

pub returns : goal.returns
returns c =
    let nothing = subst (λ (b : Board). EachMember HoldsNothing b.state.views) (sym c.self.view_is) c.requires.nothing in
    let layout = arc_value c.self.inside.layout in
    let state = state_of layout c.self.inside.words.items c.self.inside.slots.items c.self.inside.trail in
    let bodies = bodies-taken layout state c.self.invariant.reached.holds nothing c.self.inside.slots.items c.in_ok-bodies.bodies.items refl c.in_ok-bodies.ensures in
    subst (λ (b : Board). IfOk c.machine_of.result (IsMachineOf b.layout b.state.words b.state.homes)) c.self.view_is
    (subst (λ (homes : Homes). IfOk c.machine_of.result (IsMachineOf layout c.self.inside.words.items homes)) (sym bodies)
    (subst (λ (l : Layout). IfOk c.machine_of.result (IsMachineOf l c.self.inside.words.items (map home_with c.in_ok-bodies.bodies.items))) c.deref.ensures c.machine_of.ensures))
