use Rattle.std.proofs.Common.{rules, arith, ◌≡◌, ◌<◌, Some, slice_get, get_or, refl, ap, ◌∙◌}
use Rattle.std.proofs.lemmas.Option.{slice_get_read}
use Rattle.hwp_check_rules.specs.hwp_page.Step.{opening_of}
use Rattle.hwp_check_state.proofs.WalkLaws.{maps-within, walked-end, walked-next, walked-room, walked-start, walked-wrong}
use Rattle.hwp_check_state.proofs.histories.walk.Goals as goal

pub loop-entry-init : goal.loop-entry-init
loop-entry-init c = walked-start c.args.script.now c.args.page c.args.entries.now c.args.heading c.args.kind c.opening-state.result c.requires.declared (c.opening-state.ensures ∙ ap (opening_of c.args.kind) c.is_locked.ensures)

pub returns-then-not-is_right : goal.returns-then-not-is_right
returns-then-not-is_right c =
    let there : slice_get c.args.entries.now c.loop-entry.entry-index ≡ Some c.entry-item.result = slice_get_read _ _ _ _ refl c.loop-entry-test.true c.entry-item.is in
    walked-wrong c.entry-item.result _ c.loop-entry.invariant there (ap (λ k. get_or c.loop-entry.lasts k 0) c.from-cpu.ensures) c.if-not-is_right.ensures

pub step-requires : goal.step-requires
step-requires c = maps-within c.args.script.now.layout c.args.page c.loop-entry.state c.entry-item.result.what c.requires.sound c.if-not-is_right.ensures.allowed

pub overflow_add-line-in-loop-entry : goal.overflow_add-line-in-loop-entry
overflow_add-line-in-loop-entry c =
    let there : slice_get c.args.entries.now c.loop-entry.entry-index ≡ Some c.entry-item.result = slice_get_read _ _ _ _ refl c.loop-entry-test.true c.entry-item.is in
    let room = walked-room c.entry-item.result c.loop-entry.invariant there in
    omega (arith, room, c.requires.room, c.entry_height-line.ensures)

pub loop-entry-preserved : goal.loop-entry-preserved
loop-entry-preserved c =
    let there : slice_get c.args.entries.now c.loop-entry.entry-index ≡ Some c.entry-item.result = slice_get_read _ _ _ _ refl c.loop-entry-test.true c.entry-item.is in
    let inside : c.entry-item.result.who.cpu.0 < 256 = search rules in
    rw (c.step.ensures, c.from-cpu.ensures, c.entry_height-line.ensures)
    (walked-next c.entry-item.result (get_or c.loop-entry.lasts c.from-cpu.result 0) c.loop-entry.invariant there (ap (λ k. get_or c.loop-entry.lasts k 0) c.from-cpu.ensures) inside c.if-not-is_right.ensures)

pub returns : goal.returns
returns c = walked-end c.loop-entry.invariant (let e = c.loop-entry-test.false in let a = c.loop-entry.auto.entry-index-end in omega arith)
