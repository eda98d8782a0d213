use Rattle.std.proofs.Common.{◌≡◌, ℕ, ◌+◌, ◌-◌, ◌≤◌, ◌<◌, ◌^◌, arith, length, take, drop, refl, sym, ap, ◌∙◌, subst}
use Rattle.std.specs.Prelude.{IfOk}
use Rattle.std.specs.Arc.{arc_value}
use Rattle.hwp_core_rule.specs.hwp_geom.declared.Layout.{Layout}
use Rattle.hwp_core_rule.specs.Lists.{EachMember, Homes}
use Rattle.hwp_core_rule.specs.Words.{index}
use Rattle.hwp_core_rule.specs.declared.SharedWord.TheVariants as places
use Rattle.hwp_core_rule.specs.parts.Holdings.{HoldsNothing}
use Rattle.hwp_plain.specs.Ends.{AreHistories, AreLed}
use Rattle.hwp_plain.proofs.AllHome.{led-here}
use Rattle.hwp_plain.specs.Boards.{Board, state_of}
use Rattle.hwp_plain.proofs.AtHome.{bodies-taken}
use Rattle.hwp_plain.proofs.CacheRange.{caches-many, range-fits}
use Rattle.hwp_plain.proofs.board.PlainBoard.histories.Goals as goal

pub histories-requires-clause-led : goal.histories-requires-clause-led
histories-requires-clause-led c =
    let nothing = subst (λ (b : Board). EachMember HoldsNothing b.state.views) (sym c.self.view_is) c.requires.nothing in
    let state = state_of (arc_value c.self.inside.layout) c.self.inside.words.items c.self.inside.slots.items c.self.inside.trail in
    let bodies = bodies-taken (arc_value c.self.inside.layout) state c.self.invariant.reached.holds nothing c.self.inside.slots.items c.in_ok-bodies.bodies.items refl c.in_ok-bodies.ensures in
    subst (λ (homes : Homes). AreLed c.from.result (take (c.index-from.result + c.len.result - c.index-from.result) (drop c.index-from.result c.deref-2.result.now)) homes) bodies
    (led-here (arc_value c.self.inside.layout) state c.self.invariant.reached.holds nothing c.index-from.result c.len.result c.from.result c.deref-2.result.now c.deref-2.ensures.value
    (c.index-from.ensures.value ∙ ap (λ (l : Layout). index l (places.Cache (record { 0 = 0 }))) c.deref.ensures)
    (c.len.ensures ∙ ap (λ (l : Layout). length l.pages) c.deref-3.ensures)
    (c.from.ensures ∙ ap (λ (l : Layout). l.frames) c.deref-4.ensures))

pub returns-clause-pages : goal.returns-clause-pages
returns-clause-pages c =
    let nothing = subst (λ (b : Board). EachMember HoldsNothing b.state.views) (sym c.self.view_is) c.requires.nothing in
    let state = state_of (arc_value c.self.inside.layout) c.self.inside.words.items c.self.inside.slots.items c.self.inside.trail in
    let bodies = bodies-taken (arc_value c.self.inside.layout) state c.self.invariant.reached.holds nothing c.self.inside.slots.items c.in_ok-bodies.bodies.items refl c.in_ok-bodies.ensures in
    subst (λ (homes : Homes). IfOk c.histories.result (λ pages. AreHistories homes pages)) (sym bodies ∙ ap (λ (b : Board). b.state.homes) c.self.view_is) c.histories.ensures.pages

pub overflow_add-caches : goal.overflow_add-caches
overflow_add-caches c =
    let fits : c.index-from.result + c.len.result < 2 ^ 64 = range-fits (arc_value c.self.inside.layout) (state_of (arc_value c.self.inside.layout) c.self.inside.words.items c.self.inside.slots.items c.self.inside.trail) c.self.invariant.reached.holds c.index-from.result c.len.result (c.index-from.ensures.value ∙ ap (λ (l : Layout). index l (places.Cache (record { 0 = 0 }))) c.deref.ensures)
    (c.len.ensures ∙ ap (λ (l : Layout). length l.pages) c.deref-3.ensures) in
    omega (arith, fits)

pub histories-requires-clause-few : goal.histories-requires-clause-few
histories-requires-clause-few c =
    let at : c.from.result ≡ (arc_value c.self.inside.layout).frames = c.from.ensures ∙ ap (λ (l : Layout). l.frames) c.deref-4.ensures in
    omega (arith, at, c.self.invariant.reached.holds.sound.frames)

pub histories-requires-clause-caches : goal.histories-requires-clause-caches
histories-requires-clause-caches c =
    let many = caches-many (arc_value c.self.inside.layout) (state_of (arc_value c.self.inside.layout) c.self.inside.words.items c.self.inside.slots.items c.self.inside.trail) c.self.invariant.reached.holds c.index-from.result c.len.result c.deref-2.result.now c.deref-2.ensures.value (c.index-from.ensures.value ∙ ap (λ (l : Layout). index l (places.Cache (record { 0 = 0 }))) c.deref.ensures)
    (c.len.ensures ∙ ap (λ (l : Layout). length l.pages) c.deref-3.ensures) in
    omega (arith, many, c.self.invariant.reached.holds.sound.pages)

pub returns-clause-count : goal.returns-clause-count
returns-clause-count c =
    subst (λ (n : ℕ). IfOk c.histories.result (λ pages. length pages ≡ n))
    (caches-many (arc_value c.self.inside.layout) (state_of (arc_value c.self.inside.layout) c.self.inside.words.items c.self.inside.slots.items c.self.inside.trail) c.self.invariant.reached.holds c.index-from.result c.len.result c.deref-2.result.now c.deref-2.ensures.value (c.index-from.ensures.value ∙ ap (λ (l : Layout). index l (places.Cache (record { 0 = 0 }))) c.deref.ensures)
    (c.len.ensures ∙ ap (λ (l : Layout). length l.pages) c.deref-3.ensures) ∙ ap (λ (b : Board). length b.layout.pages) c.self.view_is) c.histories.ensures.count
