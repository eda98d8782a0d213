use Rattle.std.proofs.Common.{◌≡◌, ◌+◌, List, length, map, ap, sym, ◌∙◌, subst}
use Rattle.std.specs.Prelude.{IfOk}
use Rattle.std.proofs.lemmas.List.{length-map}
use Rattle.hwp_core_rule.specs.hwp_geom.declared.Layout.{Layout}
use Rattle.hwp_plain.specs.Ends.{IsMachineOf}
use Rattle.hwp_plain.specs.Openings.{home_with}
use Rattle.hwp_table_words.specs.Ends.{EndValue}
use Rattle.hwp_table_words.specs.Stands.{Content}
use Rattle.hwp_table_words.proofs.closing.Ended.machine.Goals as goal

pub machine_of-requires : goal.machine_of-requires
machine_of-requires g c =
    let slots-are : c.self.inside.slots.value.items ≡ c.args.bodies.items = ap (λ (e : EndValue). e.slots) c.self.view_is ∙ c.requires.bodies in
    let layout-is : c.self.inside.table.value.shared.key ≡ c.args.layout.now = ap (λ (e : EndValue). e.layout) c.self.view_is ∙ c.requires.layout in
    record { count = ap (λ (xs : List Content). length xs) (sym slots-are) ∙ sym (length-map c.self.inside.slots.value.items home_with) ∙ c.self.invariant.holds.slots ∙ ap (λ (l : Layout). l.frames + length l.pages) layout-is }

pub returns : goal.returns
returns g c =
    let slots-are : c.self.inside.slots.value.items ≡ c.args.bodies.items = ap (λ (e : EndValue). e.slots) c.self.view_is ∙ c.requires.bodies in
    let layout-is : c.self.inside.table.value.shared.key ≡ c.args.layout.now = ap (λ (e : EndValue). e.layout) c.self.view_is ∙ c.requires.layout in
    subst (λ (e : EndValue). IfOk c.machine_of.result (IsMachineOf e.layout e.words (map home_with e.slots))) c.self.view_is
    (subst (λ (l : Layout). IfOk c.machine_of.result (IsMachineOf l c.self.inside.words.items (map home_with c.self.inside.slots.value.items))) (sym layout-is)
    (subst (λ (xs : List Content). IfOk c.machine_of.result (IsMachineOf c.args.layout.now c.self.inside.words.items (map home_with xs))) (sym slots-are) c.machine_of.ensures))
