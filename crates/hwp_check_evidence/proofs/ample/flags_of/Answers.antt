use Rattle.std.proofs.Common.{fold, refl, sym, ◌∙◌}
use Rattle.std.proofs.lemmas.List.{at_drop_all}
use Rattle.hwp_law.specs.Commands.{has_watch}
use Rattle.hwp_check_evidence.specs.Ample.{noted_list}
use Rattle.hwp_check_evidence.proofs.FindingLaws.{fold-next}
use Rattle.hwp_check_evidence.proofs.ample.flags_of.Goals as goal

pub loop-list-init : goal.loop-list-init
loop-list-init c = rw (c.in_ok-flags.ensures.items_if_clones_equal, c.len.ensures) refl

pub loop-list-preserved : goal.loop-list-preserved
loop-list-preserved c =
    rw (c.note_list.ensures, c.has_watch-watches.ensures, c.as_slice.ensures) (
    fold-next (noted_list (has_watch c.args.script.now)) c.loop-list.flags.items _ c.args.script.now.lists c.loop-list.list-index _
    (rw c.as_slice-list-items.ensures at c.loop-list-test.true) (rw c.as_slice-list-items.ensures at c.list-item.is) c.loop-list.invariant
    )

pub returns : goal.returns
returns c = sym (at_drop_all (fold (noted_list (has_watch c.args.script.now)) c.loop-list.flags.items) c.args.script.now.lists c.loop-list.list-index (rw c.as_slice-list-items.ensures at c.loop-list-test.false)) ∙ c.loop-list.invariant
