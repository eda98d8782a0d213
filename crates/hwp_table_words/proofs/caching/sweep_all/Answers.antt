use Rattle.std.proofs.Common.{ℕ, ◌*◌, ◌<◌, ◌≤◌, List, length, get_or, refl, sym, ◌∙◌, subst, arith}
use Rattle.std.proofs.lemmas.Option.{slice_get_within}
use Rattle.hwp_core_rule.specs.declared.View.{View}
use Rattle.hwp_table_words.specs.tlb.Rule.{locks_in, times}
use Rattle.hwp_table_words.proofs.EntryAsks.{read-in}
use Rattle.hwp_table_words.proofs.Follows.{mines-same, swept-next}
use Rattle.hwp_table_words.proofs.Sweeps.{swept-on, swept-same}
use Rattle.hwp_table_words.proofs.caching.sweep_all.Goals as goal

pub loop-slot-init : goal.loop-slot-init
loop-slot-init g c = record { same = refl; rest = swept-same c.args.seat.now.me; swept = λ j f less. absurd (omega (arith, less)); counts = c.requires.counts }

pub loop-slot-preserved : goal.loop-slot-preserved
loop-slot-preserved g c = record {
  same = c.sweep_slot.ensures.same ∙ c.loop-slot.invariant.same;
  rest = swept-on c.loop-slot.invariant.rest c.sweep_slot.ensures.rest;
  swept = swept-next (g.W.Ways.ways * c.args.layout.now.cpus) c.args.layout.now.frames c.loop-slot.slot-index c.args.order.now (get_or c.args.order.now c.loop-slot.slot-index 0) c.loop-slot.seat.me.0.caching c.sweep_slot.new.seat.me.0.caching
      (read-in c.args.order.now c.loop-slot.slot-index c.loop-slot-test.true) c.sweep_slot.ensures.rest.grows c.sweep_slot.ensures.swept c.loop-slot.invariant.swept;
  counts = c.sweep_slot.ensures.counts;
}

pub sweep_slot-requires-clause-at : goal.sweep_slot-requires-clause-at
sweep_slot-requires-clause-at g c = record { few = c.requires.at.few; key_is = c.requires.at.key_is; table = c.requires.at.table; same = c.loop-slot.invariant.same ∙ c.requires.at.same }

pub sweep_slot-requires-clause-locked : goal.sweep_slot-requires-clause-locked
sweep_slot-requires-clause-locked g c less = subst (λ (l : List (ℕ × View)). 0 < times (get_or c.args.order.now c.loop-slot.slot-index 0) (locks_in l)) (sym (mines-same c.args.seat.now.me c.loop-slot.seat.me c.loop-slot.invariant.rest.rest))
    (c.requires.locked c.loop-slot.slot-index (get_or c.args.order.now c.loop-slot.slot-index 0) (read-in c.args.order.now c.loop-slot.slot-index c.loop-slot-test.true) less)

pub sweep_slot-requires-clause-counts : goal.sweep_slot-requires-clause-counts
sweep_slot-requires-clause-counts g c = c.loop-slot.invariant.counts

pub returns-clause-same : goal.returns-clause-same
returns-clause-same g c = c.loop-slot.invariant.same

pub returns-clause-rest : goal.returns-clause-rest
returns-clause-rest g c = c.loop-slot.invariant.rest

pub returns-clause-swept : goal.returns-clause-swept
returns-clause-swept g c i x at less =
    let inside : i < length c.args.order.now = slice_get_within c.args.order.now i x at in
    let end : length c.args.order.now ≤ c.loop-slot.slot-index = c.loop-slot-test.false in
    c.loop-slot.invariant.swept i x (omega (arith, inside, end)) at less

pub returns-clause-counts : goal.returns-clause-counts
returns-clause-counts g c = c.loop-slot.invariant.counts
