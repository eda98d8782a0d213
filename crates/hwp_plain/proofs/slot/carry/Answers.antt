use Rattle.std.proofs.Common.{◌<◌, length, sym, ◌∙◌, subst}
use Rattle.std.proofs.lemmas.Option.{none-some}
use Rattle.hwp_core_rule.specs.declared.SlotMove.{SlotMove}
use Rattle.hwp_core_rule.specs.SlotMoves.{IsWithin}
use Rattle.hwp_plain.proofs.Carried.{out-home, out-met, home-met, out-layouts, home-layouts}
use Rattle.hwp_plain.proofs.slot.carry.Goals as goal

pub returns-in-Home-replace-clause-homes : goal.returns-in-Home-replace-clause-homes
returns-in-Home-replace-clause-homes c = rw c.in-Out.is (out-home c.args.slots.now.items c.in-Out.slot c.replace.new.dest c.replace.ensures.after)

pub returns-in-Home-replace-clause-met : goal.returns-in-Home-replace-clause-met
returns-in-Home-replace-clause-met c =
    let less : c.in-Out.slot < length c.args.slots.now.items = subst (λ (t : SlotMove). IsWithin (length c.args.slots.now.items) t) c.in-Out.is c.requires.within in
    rw c.in-Out.is (out-met c.args.slots.now.items c.in-Out.slot c.index_mut.result.now c.in-Home-replace.body c.of-in-Out.result.value less c.index_mut.ensures.value
    (sym c.replace.ensures.value ∙ c.in-Home-replace.is) c.of-in-Out.ensures)

pub returns-in-Home-replace-clause-layouts : goal.returns-in-Home-replace-clause-layouts
returns-in-Home-replace-clause-layouts c = λ layout of fits.
    let less : c.in-Out.slot < length c.args.slots.now.items = subst (λ (t : SlotMove). IsWithin (length c.args.slots.now.items) t) c.in-Out.is c.requires.within in
    out-layouts c.args.slots.now.items c.in-Out.slot layout of c.index_mut.result.now c.replace.new.dest c.in-Home-replace.body less c.index_mut.ensures.value
    (sym c.replace.ensures.value ∙ c.in-Home-replace.is) c.replace.ensures.after

pub returns-in-Home-clause-homes : goal.returns-in-Home-clause-homes
returns-in-Home-clause-homes c = rw c.in-Home.is (home-met c.args.slots.now.items c.in-Home.slot c.args.body c.of-content.result.value c.of-content.ensures)

pub returns-in-Home-clause-layouts : goal.returns-in-Home-clause-layouts
returns-in-Home-clause-layouts c = λ layout of fits. (home-layouts c.args.slots.now.items c.in-Home.slot layout of c.args.body fits, λ b e. absurd (none-some b e))
