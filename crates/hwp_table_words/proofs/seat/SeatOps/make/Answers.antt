use Rattle.std.proofs.Common.{ap, ◌∙◌}
use Rattle.std.specs.Prelude.{None}
use Rattle.hwp_core_rule.specs.Calls.{logs}
use Rattle.hwp_table_words.specs.Seats.{value_of}
use Rattle.hwp_table_words.specs.Stands.{Me}
use Rattle.hwp_table_words.proofs.Made.{can-on, moved-on, told-on}
use Rattle.hwp_table_words.proofs.SeatMakes.{guarded-on}
use Rattle.hwp_table_words.proofs.SeatMakes as makes
use Rattle.hwp_table_words.proofs.seat.SeatOps.make.Goals as goal

pub invariant_of-self : goal.invariant_of-self
invariant_of-self g c = (
  makes.seat-hit g.W.Ways.ways c.self.inside.layout.now c.self.inside.sheet.now.key c.self.inside.sheet.now.table_id c.self.inside.seat.table_id c.self.inside.seat.me c.self.inside.order.items c.self.invariant.0
      c.args.who c.args.step.now c.args.body c.self.invariant.1.guarded (can-on c.self.view_is c.requires.can) c.in-Some.found c.look.new.seat.me c.look.new.seat.table_id c.in-Some.ensures.same c.in-Some.ensures.looked c.in-Some.ensures.load.0 c.in-Some.ensures.load.1,
  makes.cache-hit g.W.Ways.ways c.self.inside.layout.now c.self.inside.sheet.now.key c.self.inside.sheet.now.table_id c.self.inside.seat.table_id c.self.inside.seat.me c.self.inside.order.items c.self.invariant.0
      c.args.who c.args.step.now c.args.body c.self.invariant.1.guarded (can-on c.self.view_is c.requires.can) c.in-Some.found c.look.new.seat.me c.look.new.seat.table_id c.in-Some.ensures.same c.in-Some.ensures.looked c.in-Some.ensures.load.0 c.in-Some.ensures.load.1
      c.self.inside.counts c.saturating_add-self-inside.result c.self.invariant.1.counted c.saturating_add-self-inside.ensures,
)

pub returns-in-Some-clause-told : goal.returns-in-Some-clause-told
returns-in-Some-clause-told g c = told-on c.self.view_is
    (makes.steps-hit g.W.Ways.ways c.self.inside.layout.now c.self.inside.sheet.now.key c.self.inside.sheet.now.table_id c.self.inside.seat.table_id c.self.inside.seat.me c.self.inside.order.items c.self.invariant.0
    c.args.who c.args.step.now c.args.body c.self.invariant.1.guarded (can-on c.self.view_is c.requires.can) c.in-Some.found c.look.new.seat.me c.look.new.seat.table_id c.in-Some.ensures.same c.in-Some.ensures.looked c.in-Some.ensures.load.0 c.in-Some.ensures.load.1)

pub returns-in-Some-clause-moved : goal.returns-in-Some-clause-moved
returns-in-Some-clause-moved g c = moved-on (logs c.args.body) None c.self.view_is
    (makes.moves-hit g.W.Ways.ways c.self.inside.layout.now c.self.inside.sheet.now.key c.self.inside.sheet.now.table_id c.self.inside.seat.table_id c.self.inside.seat.me c.self.inside.order.items c.self.invariant.0
    c.args.who c.args.step.now c.args.body c.self.invariant.1.guarded (can-on c.self.view_is c.requires.can) c.in-Some.found c.look.new.seat.me c.look.new.seat.table_id c.in-Some.ensures.same c.in-Some.ensures.looked c.in-Some.ensures.load.0 c.in-Some.ensures.load.1)

pub follow-requires-clause-listed : goal.follow-requires-clause-listed
follow-requires-clause-listed g c =
    makes.listed-met g.W.Ways.ways c.self.inside.layout.now c.self.inside.sheet.now.key c.self.inside.sheet.now.table_id c.look.new.seat.me c.args.who c.args.step.now c.args.body
    (guarded-on c.in_default.ensures.looked c.self.invariant.1.guarded) c.one-met.new.seat.me c.one-met.new.seat.table_id c.one-met.new.order.items c.one-met.ensures.seat
    c.one-met.result.found c.one-met.result.body c.one-met.ensures.told c.one-met.ensures.moved c.one-met.ensures.caching

pub follow-requires-clause-guarded : goal.follow-requires-clause-guarded
follow-requires-clause-guarded g c =
    makes.guard-met g.W.Ways.ways c.self.inside.layout.now c.self.inside.sheet.now.key c.self.inside.sheet.now.table_id c.look.new.seat.me c.args.who c.args.step.now c.args.body
    (guarded-on c.in_default.ensures.looked c.self.invariant.1.guarded) c.one-met.new.seat.me c.one-met.new.seat.table_id c.one-met.new.order.items c.one-met.ensures.seat
    c.one-met.result.found c.one-met.result.body c.one-met.ensures.told c.one-met.ensures.moved c.one-met.ensures.caching

pub invariant_of-self-2 : goal.invariant_of-self-2
invariant_of-self-2 g c = (
  makes.seat-last g.W.Ways.ways c.self.inside.layout.now c.self.inside.sheet.now.key c.self.inside.sheet.now.table_id c.look.new.seat.me c.args.who c.args.step.now c.args.body
      (guarded-on c.in_default.ensures.looked c.self.invariant.1.guarded) c.one-met.new.seat.me c.one-met.new.seat.table_id c.one-met.new.order.items c.one-met.ensures.seat
      c.one-met.result.found c.one-met.result.body c.one-met.ensures.told c.one-met.ensures.moved c.one-met.ensures.caching c.follow.new.seat.me c.follow.new.seat.table_id c.follow.ensures.same c.follow.ensures.rest,
  record { guarded = c.follow.ensures.guarded; counted = c.follow.ensures.counts },
)

pub returns-clause-moved : goal.returns-clause-moved
returns-clause-moved g c = moved-on (logs c.args.body) c.one-met.result.body (ap (λ (m : Me). value_of c.self.inside.sheet.now.table_id c.self.inside.layout.now m.0) c.in_default.ensures.looked ∙ c.self.view_is)
    (makes.moves-last g.W.Ways.ways c.self.inside.layout.now c.self.inside.sheet.now.key c.self.inside.sheet.now.table_id c.look.new.seat.me c.args.who c.args.step.now c.args.body
    (guarded-on c.in_default.ensures.looked c.self.invariant.1.guarded) c.one-met.new.seat.me c.one-met.new.seat.table_id c.one-met.new.order.items c.one-met.ensures.seat
    c.one-met.result.found c.one-met.result.body c.one-met.ensures.told c.one-met.ensures.moved c.one-met.ensures.caching c.follow.new.seat.me c.follow.new.seat.table_id c.follow.ensures.same c.follow.ensures.rest)
