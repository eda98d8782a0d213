use Rattle.std.proofs.Common.{List, Option, None, get_or, refl, sym, ap, ◌∙◌}
use Rattle.std.specs.Option.{option_and_then}
use Rattle.std.proofs.lemmas.Option.{get_or_from_slice_get}
use Rattle.hwp_law.specs.hwp_geom.declared.VSlot.{VSlot}
use Rattle.hwp_check_event_line.proofs.Lookups.{found-there, none-there}
use Rattle.hwp_check_event_line.proofs.reading.copy_of.Goals as goal

pub returns-in-Some-get : goal.returns-in-Some-get
returns-in-Some-get c =
    let own = found-there c.args.copies.now c.args.copies.now c.from.result c.args.who.cpu.0 c.in-Some.list.now refl c.from.ensures c.in-Some.ensures.lookup.0 c.in-Some.ensures.lookup.1 in
    let there = found-there c.as_slice.result.now c.in-Some.list.now c.args.who.seq c.args.who.seq c.in-Some-get.from.now c.as_slice.ensures refl c.in-Some-get.ensures.lookup.0 c.in-Some-get.ensures.lookup.1 in
    sym (ap (λ (o : Option (List (Option VSlot))). option_and_then (λ (l : List (Option VSlot)). get_or l c.args.who.seq None) o) own ∙ get_or_from_slice_get c.in-Some.list.now c.args.who.seq c.in-Some-get.from.now None there)

pub returns-in-None : goal.returns-in-None
returns-in-None c =
    sym (ap (λ (o : Option (List (Option VSlot))). option_and_then (λ (l : List (Option VSlot)). get_or l c.args.who.seq None) o)
    (none-there c.args.copies.now c.args.copies.now c.from.result c.args.who.cpu.0 refl c.from.ensures c.in-None.ensures.lookup.0))
