use Rattle.std.proofs.Common.{◌≡◌, ◌<◌, List, Some, get_or, length, slice_get, refl, sym, ap, ◌∙◌, arith}
use Rattle.std.proofs.lemmas.Option.{slice_get-get_or, slice_get_read}
use Rattle.hwp_check_rules.specs.hwp_geom.declared.PageKind.{PageKind}
use Rattle.hwp_check_state.proofs.HistoryWrongs.{all-fit, come-next, come-room, come-wrong}
use Rattle.hwp_check_state.proofs.histories.histories_fault.Goals as goal

pub walk-requires-clause-declared : goal.walk-requires-clause-declared
walk-requires-clause-declared c =
    let within : c.loop-number.number < length c.args.report.now.pages = rw c.as_slice-entries-items.ensures at c.loop-number-test.true in
    let inside : c.loop-number.number < length c.args.script.now.layout.pages = omega (arith, within, c.requires.shape.pages) in
    slice_get-get_or c.args.script.now.layout.pages c.loop-number.number _ inside ∙ ap (λ (l : List PageKind). Some (get_or l c.loop-number.number _)) (sym c.as_slice-kinds.ensures)

pub walk-requires-clause-room : goal.walk-requires-clause-room
walk-requires-clause-room c =
    let item : slice_get c.args.report.now.pages c.loop-number.number ≡ Some c.entries-item.result =
    rw c.as_slice-entries-items.ensures at (slice_get_read _ _ _ _ refl c.loop-number-test.true c.entries-item.is) in
    come-room c.as_slice.result.now c.loop-number.invariant (item ∙ ap Some (sym c.as_slice.ensures)) c.requires.room

pub returns-in-Err : goal.returns-in-Err
returns-in-Err c =
    let item : slice_get c.args.report.now.pages c.loop-number.number ≡ Some c.entries-item.result =
    rw c.as_slice-entries-items.ensures at (slice_get_read _ _ _ _ refl c.loop-number-test.true c.entries-item.is) in
    come-wrong c.as_slice.result.now c.in-Err.at c.loop-number.invariant (item ∙ ap Some (sym c.as_slice.ensures)) c.in-Err.ensures

pub loop-number-preserved : goal.loop-number-preserved
loop-number-preserved c =
    let item : slice_get c.args.report.now.pages c.loop-number.number ≡ Some c.entries-item.result =
    rw c.as_slice-entries-items.ensures at (slice_get_read _ _ _ _ refl c.loop-number-test.true c.entries-item.is) in
    let done = c.in-Ok.ensures in
    come-next c.as_slice.result.now c.in-Ok.next c.loop-number.invariant (item ∙ ap Some (sym c.as_slice.ensures)) done.0 done.1

pub returns : goal.returns
returns c = all-fit c.args.script.now c.args.report.now c.loop-number.number c.loop-number.invariant.below (rw c.as_slice-entries-items.ensures at c.loop-number-test.false)
