use Rattle.std.proofs.Common.{◌<◌, ◌^◌, arith}
use Rattle.std.specs.Arc.{arc_value}
use Rattle.hwp_core_rule.specs.Calls.{logs}
use Rattle.hwp_plain.proofs.Stepped.{begun, can-on, told-on, moved-on, home-now, kept-now, told-now, moved-now}
use Rattle.hwp_plain.proofs.board.PlainBoard.make.Goals as goal

pub carry-carried-requires-clause-home : goal.carry-carried-requires-clause-home
carry-carried-requires-clause-home c =
    let is = begun (can-on c.self.view_is c.requires.can) c.self.invariant.reached.holds.words c.deref.ensures c.deref-2.ensures c.place.ensures c.index-at.ensures.value c.index-at.ensures.within c.index-found.ensures c.slot_move.ensures in
    home-now (arc_value c.self.inside.layout) c.self.inside.words.items c.self.inside.slots.items c.self.inside.trail c.self.inside.seat c.self.invariant c.args.who c.args.step.now c.args.body c.index-at.result c.index-found.result.now c.word_after.result c.slot_move.result is

pub invariant_of-self : goal.invariant_of-self
invariant_of-self c =
    let fits : c.index-found.result.now < 2 ^ 64 = omega arith in
    let is = begun (can-on c.self.view_is c.requires.can) c.self.invariant.reached.holds.words c.deref.ensures c.deref-2.ensures c.place.ensures c.index-at.ensures.value c.index-at.ensures.within c.index-found.ensures c.slot_move.ensures in
    let layouts = c.carry-carried.ensures.layouts (arc_value c.self.inside.layout) c.self.invariant.bodies is.can.layout_is in
    kept-now (arc_value c.self.inside.layout) c.self.inside.words.items c.self.inside.slots.items c.self.inside.trail c.self.inside.seat c.self.invariant c.args.who c.args.step.now c.args.body c.index-at.result c.index-found.result.now c.word_after.result c.slot_move.result is
    fits c.word_after.ensures c.carry-carried.new.slots.items c.carry-carried.result.content c.carry-carried.result.body c.carry-carried.ensures.homes c.carry-carried.ensures.met c.carry-carried.ensures.flow c.of-before.result c.of-before.ensures c.of.result c.of.ensures
    layouts.0

pub returns-clause-told : goal.returns-clause-told
returns-clause-told c =
    let fits : c.index-found.result.now < 2 ^ 64 = omega arith in
    let is = begun (can-on c.self.view_is c.requires.can) c.self.invariant.reached.holds.words c.deref.ensures c.deref-2.ensures c.place.ensures c.index-at.ensures.value c.index-at.ensures.within c.index-found.ensures c.slot_move.ensures in
    let layouts = c.carry-carried.ensures.layouts (arc_value c.self.inside.layout) c.self.invariant.bodies is.can.layout_is in
    told-on c.self.view_is
    (told-now (arc_value c.self.inside.layout) c.self.inside.words.items c.self.inside.slots.items c.self.inside.trail c.self.inside.seat c.self.invariant c.args.who c.args.step.now c.args.body c.index-at.result c.index-found.result.now c.word_after.result c.slot_move.result is
    fits c.word_after.ensures c.carry-carried.new.slots.items c.carry-carried.result.content c.carry-carried.result.body c.carry-carried.ensures.homes c.carry-carried.ensures.met c.carry-carried.ensures.flow c.of-before.result c.of-before.ensures c.of.result c.of.ensures
    layouts.1 c.carry-carried.ensures.none c.carry-carried.ensures.kept)

pub returns-clause-moved : goal.returns-clause-moved
returns-clause-moved c =
    let fits : c.index-found.result.now < 2 ^ 64 = omega arith in
    let is = begun (can-on c.self.view_is c.requires.can) c.self.invariant.reached.holds.words c.deref.ensures c.deref-2.ensures c.place.ensures c.index-at.ensures.value c.index-at.ensures.within c.index-found.ensures c.slot_move.ensures in
    moved-on (logs c.args.body) c.carry-carried.result.body c.self.view_is
    (moved-now (arc_value c.self.inside.layout) c.self.inside.words.items c.self.inside.slots.items c.self.inside.trail c.self.inside.seat c.self.invariant c.args.who c.args.step.now c.args.body c.index-at.result c.index-found.result.now c.word_after.result c.slot_move.result is
    fits c.word_after.ensures c.carry-carried.new.slots.items c.carry-carried.result.content c.carry-carried.result.body c.carry-carried.ensures.homes c.carry-carried.ensures.met c.carry-carried.ensures.flow c.of-before.result c.of-before.ensures c.of.result c.of.ensures
    c.self.inside.ready c.self.inside.made c.kind-self-inside.result c.kind-self-inside.ensures)
