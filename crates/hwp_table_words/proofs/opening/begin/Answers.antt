use Rattle.std.proofs.Common.{◌≡◌, ℕ, List, ◌*◌, ap, ◌∙◌, sym, subst, take}
use Rattle.std.specs.Arc.{arc_value}
use Rattle.std.proofs.lemmas.Result.{IfOk-from_err}
use Rattle.hwp_core_rule.specs.hwp_geom.declared.Layout.{Layout}
use Rattle.hwp_core_rule.specs.hwp_geom.Layout.{IsSound}
use Rattle.hwp_core_rule.specs.Lists.{EachMember}
use Rattle.hwp_core_rule.specs.Opening.{opening_homes}
use Rattle.hwp_core_rule.specs.Words.{size}
use Rattle.hwp_core_rule.specs.Calls.{FitsLayout}
use Rattle.hwp_table_words.specs.Order.{IsOpened}
use Rattle.hwp_table_words.proofs.Opened.{opens, counted-words, counted-slots}
use Rattle.hwp_table_words.proofs.opening.begin.Goals as goal

pub new-requires : goal.new-requires
new-requires g c =
    let same : c.deref-declared.result.now ≡ arc_value c.args.layout.now = c.deref-declared.ensures in
    opens g.W.Ways.ways c.deref-declared.result.now c.as_slice.result.now c.in_ok-bodies.bodies.items (subst IsSound (sym same) c.requires.sound)
    (subst (λ (l : List ℕ). IsOpened c.deref-declared.result.now (g.W.Ways.ways * c.deref-declared.result.now.cpus) l) (sym c.as_slice.ensures.value) c.in_ok-words.ensures) (c.in_ok-bodies.ensures.homes ∙ ap opening_homes (sym same))
    (subst (λ (l : Layout). EachMember (FitsLayout l) c.in_ok-bodies.bodies.items) (sym same) c.in_ok-bodies.ensures.layouts)

pub returns-in-Ok-clause-table : goal.returns-in-Ok-clause-table
returns-in-Ok-clause-table g c =
    let same : c.deref-declared.result.now ≡ arc_value c.args.layout.now = c.deref-declared.ensures in
    let words-are : IsOpened (arc_value c.args.layout.now) (g.W.Ways.ways * (arc_value c.args.layout.now).cpus) c.as_slice.result.now =
    subst (λ (l : Layout). IsOpened l (g.W.Ways.ways * l.cpus) c.as_slice.result.now) same
    (subst (λ (l : List ℕ). IsOpened c.deref-declared.result.now (g.W.Ways.ways * c.deref-declared.result.now.cpus) l) (sym c.as_slice.ensures.value) c.in_ok-words.ensures) in
    let e = c.in-Ok.ensures.ok in (
      record {
        sound = c.requires.sound;
        words = e.0 ∙ counted-words g.W.Ways.ways (arc_value c.args.layout.now) c.as_slice.result.now c.in_ok-bodies.bodies.items c.requires.sound words-are c.in_ok-bodies.ensures.homes;
        slots = e.1 ∙ counted-slots (arc_value c.args.layout.now) (take (size (arc_value c.args.layout.now)) c.as_slice.result.now) c.in_ok-bodies.bodies.items c.requires.sound words-are.first c.in_ok-bodies.ensures.homes;
      },
      e.5 ∙ same,
    )

pub returns-in_err-words-clause-table : goal.returns-in_err-words-clause-table
returns-in_err-words-clause-table g c = IfOk-from_err c.from_residual.result _ c.from_residual.ensures.0

pub returns-in_err-words-clause-seat : goal.returns-in_err-words-clause-seat
returns-in_err-words-clause-seat g c = IfOk-from_err c.from_residual.result _ c.from_residual.ensures.0

pub returns-in_err-bodies-clause-table : goal.returns-in_err-bodies-clause-table
returns-in_err-bodies-clause-table g c = IfOk-from_err c.from_residual-in_err-bodies.result _ c.from_residual-in_err-bodies.ensures.0

pub returns-in_err-bodies-clause-seat : goal.returns-in_err-bodies-clause-seat
returns-in_err-bodies-clause-seat g c = IfOk-from_err c.from_residual-in_err-bodies.result _ c.from_residual-in_err-bodies.ensures.0

pub returns-clause-table : goal.returns-clause-table
returns-clause-table g c = tt

pub returns-clause-seat : goal.returns-clause-seat
returns-clause-seat g c = tt
