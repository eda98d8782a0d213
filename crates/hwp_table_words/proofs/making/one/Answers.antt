use Rattle.std.proofs.Common.{◌∙◌, ap, refl}
use Rattle.hwp_core_rule.specs.declared.SharedWord.{SharedWord}
use Rattle.hwp_core_rule.specs.Words.{index, size}
use Rattle.hwp_table_words.specs.Order.{in_table}
use Rattle.hwp_table_words.proofs.Made as made
use Rattle.hwp_table_words.proofs.making.one.Goals as goal

pub lay-requires-clause-there : goal.lay-requires-clause-there
lay-requires-clause-there g c =
    made.there g.W.Ways.ways c.args.layout.now c.args.sheet.now.key c.args.sheet.now.table_id c.args.seat.now.table_id c.args.seat.now.me c.args.order.now.items c.requires.seat c.args.who c.args.step.now c.args.body
    c.requires.guarded c.requires.right c.requires.can c.slot_move-home.result c.slot_move-home.ensures

pub step_as-found-requires-clause-named : goal.step_as-found-requires-clause-named
step_as-found-requires-clause-named g c = (refl, refl)

pub step_as-found-requires-clause-can : goal.step_as-found-requires-clause-can
step_as-found-requires-clause-can g c =
    made.can-named g.W.Ways.ways c.args.layout.now c.args.sheet.now.key c.args.sheet.now.table_id c.args.seat.now.table_id c.args.seat.now.me c.args.order.now.items c.requires.seat c.args.who c.args.step.now c.args.body
    c.requires.guarded c.requires.right c.requires.can
    c.slot_move-home.result c.slot_move-home.ensures c.lay.new.seat.me c.lay.new.seat.table_id c.lay.new.order.items c.lay.ensures.same.1 c.lay.ensures.same.0 c.lay.ensures.laid c.lay.ensures.first c.lay.ensures.times c.lay.ensures.count
    c.word_of-word.result (c.word_of-word.ensures.value ∙ ap (λ (p : SharedWord). in_table (size c.args.layout.now) (index c.args.layout.now p)) c.place.ensures) c.word_of-word.ensures.within

pub settle-body-requires-clause-brought : goal.settle-body-requires-clause-brought
settle-body-requires-clause-brought g c =
    made.brought-to g.W.Ways.ways c.args.layout.now c.args.sheet.now.key c.args.sheet.now.table_id c.args.seat.now.table_id c.args.seat.now.me c.args.order.now.items c.requires.seat c.args.who c.args.step.now c.args.body
    c.requires.guarded c.requires.right c.requires.can
    c.slot_move-home.result c.slot_move-home.ensures c.lay.new.seat.me c.lay.new.seat.table_id c.lay.new.order.items c.lay.ensures.same.1 c.lay.ensures.same.0 c.lay.ensures.laid c.lay.ensures.first c.lay.ensures.times c.lay.ensures.count
    c.word_of-word.result (c.word_of-word.ensures.value ∙ ap (λ (p : SharedWord). in_table (size c.args.layout.now) (index c.args.layout.now p)) c.place.ensures) c.word_of-word.ensures.within
    c.step_as-found.result c.step_as-found.new.seat.me c.step_as-found.new.seat.table_id c.step_as-found.ensures.same c.step_as-found.ensures.made c.slot_move-to.result c.slot_move-to.ensures

pub settle-body-requires-clause-first : goal.settle-body-requires-clause-first
settle-body-requires-clause-first g c =
    made.first-to g.W.Ways.ways c.args.layout.now c.args.sheet.now.key c.args.sheet.now.table_id c.args.seat.now.table_id c.args.seat.now.me c.args.order.now.items c.requires.seat c.args.who c.args.step.now c.args.body
    c.requires.guarded c.requires.right c.requires.can
    c.slot_move-home.result c.slot_move-home.ensures c.lay.new.seat.me c.lay.new.seat.table_id c.lay.new.order.items c.lay.ensures.same.1 c.lay.ensures.same.0 c.lay.ensures.laid c.lay.ensures.first c.lay.ensures.times c.lay.ensures.count
    c.word_of-word.result (c.word_of-word.ensures.value ∙ ap (λ (p : SharedWord). in_table (size c.args.layout.now) (index c.args.layout.now p)) c.place.ensures) c.word_of-word.ensures.within
    c.step_as-found.result c.step_as-found.new.seat.me c.step_as-found.new.seat.table_id c.step_as-found.ensures.same c.step_as-found.ensures.made c.slot_move-to.result c.slot_move-to.ensures

pub settle-body-requires-clause-room : goal.settle-body-requires-clause-room
settle-body-requires-clause-room g c =
    made.room-to g.W.Ways.ways c.args.layout.now c.args.sheet.now.key c.args.sheet.now.table_id c.args.seat.now.table_id c.args.seat.now.me c.args.order.now.items c.requires.seat c.args.who c.args.step.now c.args.body
    c.requires.guarded c.requires.right c.requires.can
    c.slot_move-home.result c.slot_move-home.ensures c.lay.new.seat.me c.lay.new.seat.table_id c.lay.new.order.items c.lay.ensures.same.1 c.lay.ensures.same.0 c.lay.ensures.laid c.lay.ensures.first c.lay.ensures.times c.lay.ensures.count
    c.word_of-word.result (c.word_of-word.ensures.value ∙ ap (λ (p : SharedWord). in_table (size c.args.layout.now) (index c.args.layout.now p)) c.place.ensures) c.word_of-word.ensures.within
    c.step_as-found.result c.step_as-found.new.seat.me c.step_as-found.new.seat.table_id c.step_as-found.ensures.same c.step_as-found.ensures.made c.slot_move-to.result c.slot_move-to.ensures

pub returns-clause-seat : goal.returns-clause-seat
returns-clause-seat g c =
    made.seat-now g.W.Ways.ways c.args.layout.now c.args.sheet.now.key c.args.sheet.now.table_id c.args.seat.now.table_id c.args.seat.now.me c.args.order.now.items c.requires.seat c.args.who c.args.step.now c.args.body
    c.requires.guarded c.requires.right c.requires.can
    c.slot_move-home.result c.slot_move-home.ensures c.lay.new.seat.me c.lay.new.seat.table_id c.lay.new.order.items c.lay.ensures.same.1 c.lay.ensures.same.0 c.lay.ensures.laid c.lay.ensures.first c.lay.ensures.times c.lay.ensures.count
    c.word_of-word.result (c.word_of-word.ensures.value ∙ ap (λ (p : SharedWord). in_table (size c.args.layout.now) (index c.args.layout.now p)) c.place.ensures) c.word_of-word.ensures.within
    c.step_as-found.result c.step_as-found.new.seat.me c.step_as-found.new.seat.table_id c.step_as-found.ensures.same c.step_as-found.ensures.made c.slot_move-to.result c.slot_move-to.ensures
    c.settle-body.new.seat.me c.settle-body.new.seat.table_id c.settle-body.new.order.items c.settle-body.result c.settle-body.ensures.same.1 c.settle-body.ensures.same.0 c.settle-body.ensures.empty c.settle-body.ensures.order c.settle-body.ensures.body c.settle-body.ensures.none c.settle-body.ensures.kept

pub returns-clause-told : goal.returns-clause-told
returns-clause-told g c =
    made.steps-now g.W.Ways.ways c.args.layout.now c.args.sheet.now.key c.args.sheet.now.table_id c.args.seat.now.table_id c.args.seat.now.me c.args.order.now.items c.requires.seat c.args.who c.args.step.now c.args.body
    c.requires.guarded c.requires.right c.requires.can
    c.slot_move-home.result c.slot_move-home.ensures c.lay.new.seat.me c.lay.new.seat.table_id c.lay.new.order.items c.lay.ensures.same.1 c.lay.ensures.same.0 c.lay.ensures.laid c.lay.ensures.first c.lay.ensures.times c.lay.ensures.count
    c.word_of-word.result (c.word_of-word.ensures.value ∙ ap (λ (p : SharedWord). in_table (size c.args.layout.now) (index c.args.layout.now p)) c.place.ensures) c.word_of-word.ensures.within
    c.step_as-found.result c.step_as-found.new.seat.me c.step_as-found.new.seat.table_id c.step_as-found.ensures.same c.step_as-found.ensures.made c.slot_move-to.result c.slot_move-to.ensures
    c.settle-body.new.seat.me c.settle-body.new.seat.table_id c.settle-body.new.order.items c.settle-body.result c.settle-body.ensures.same.1 c.settle-body.ensures.same.0 c.settle-body.ensures.empty c.settle-body.ensures.order c.settle-body.ensures.body c.settle-body.ensures.none c.settle-body.ensures.kept

pub returns-clause-moved : goal.returns-clause-moved
returns-clause-moved g c =
    made.moves-now g.W.Ways.ways c.args.layout.now c.args.sheet.now.key c.args.sheet.now.table_id c.args.seat.now.table_id c.args.seat.now.me c.args.order.now.items c.requires.seat c.args.who c.args.step.now c.args.body
    c.requires.guarded c.requires.right c.requires.can
    c.slot_move-home.result c.slot_move-home.ensures c.lay.new.seat.me c.lay.new.seat.table_id c.lay.new.order.items c.lay.ensures.same.1 c.lay.ensures.same.0 c.lay.ensures.laid c.lay.ensures.first c.lay.ensures.times c.lay.ensures.count
    c.word_of-word.result (c.word_of-word.ensures.value ∙ ap (λ (p : SharedWord). in_table (size c.args.layout.now) (index c.args.layout.now p)) c.place.ensures) c.word_of-word.ensures.within
    c.step_as-found.result c.step_as-found.new.seat.me c.step_as-found.new.seat.table_id c.step_as-found.ensures.same c.step_as-found.ensures.made c.slot_move-to.result c.slot_move-to.ensures
    c.settle-body.new.seat.me c.settle-body.new.seat.table_id c.settle-body.new.order.items c.settle-body.result c.settle-body.ensures.same.1 c.settle-body.ensures.same.0 c.settle-body.ensures.empty c.settle-body.ensures.order c.settle-body.ensures.body c.settle-body.ensures.none c.settle-body.ensures.kept

pub returns-clause-caching : goal.returns-clause-caching
returns-clause-caching g c =
    made.caching-now g.W.Ways.ways c.args.layout.now c.args.sheet.now.key c.args.sheet.now.table_id c.args.seat.now.table_id c.args.seat.now.me c.args.order.now.items c.requires.seat c.args.who c.args.step.now c.args.body
    c.requires.guarded c.requires.right c.requires.can
    c.slot_move-home.result c.slot_move-home.ensures c.lay.new.seat.me c.lay.new.seat.table_id c.lay.new.order.items c.lay.ensures.same.1 c.lay.ensures.same.0 c.lay.ensures.laid c.lay.ensures.first c.lay.ensures.times c.lay.ensures.count
    c.word_of-word.result (c.word_of-word.ensures.value ∙ ap (λ (p : SharedWord). in_table (size c.args.layout.now) (index c.args.layout.now p)) c.place.ensures) c.word_of-word.ensures.within
    c.step_as-found.result c.step_as-found.new.seat.me c.step_as-found.new.seat.table_id c.step_as-found.ensures.same c.step_as-found.ensures.made c.slot_move-to.result c.slot_move-to.ensures
    c.settle-body.new.seat.me c.settle-body.new.seat.table_id c.settle-body.new.order.items c.settle-body.result c.settle-body.ensures.same.1 c.settle-body.ensures.same.0 c.settle-body.ensures.empty c.settle-body.ensures.order c.settle-body.ensures.body c.settle-body.ensures.none c.settle-body.ensures.kept
