use Rattle.std.proofs.Common.{refl}
use Rattle.std.specs.Arc.{arc_value}
use Rattle.hwp_page.proofs.Histories.{IsKept-opened, opening_is}
use Rattle.hwp_page.proofs.replay.Replay.new.Goals as goal

pub invariant_of-result : goal.invariant_of-result
invariant_of-result c =
    rw (c.in_ok-clone.ensures.cases)
    (IsKept-opened c.as_slice.result.now c.from.result _ c.requires.sound c.requires.inside (cc (c.as_slice.ensures, c.deref-declared.ensures)) c.from.ensures c.new.ensures.items
    (rw (c.is_locked.ensures, c.deref-declared.ensures) at c.opening.ensures))

pub returns : goal.returns
returns c = record {
  page_is = refl;
  layout_is = c.in_ok-clone.ensures.cases;
  no_entry = c.new.ensures.items;
  opening = opening_is (arc_value c.args.layout.now) c.args.page c.as_slice.result.now c.from.result _ c.requires.inside (cc (c.as_slice.ensures, c.deref-declared.ensures)) c.from.ensures
      (rw (c.is_locked.ensures, c.deref-declared.ensures) at c.opening.ensures);
}
