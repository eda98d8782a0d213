use Rattle.std.proofs.Common.{ℕ, ◌*◌, ◌<◌, ◌≤◌, List, refl, sym, ap, ◌∙◌, subst, arith}
use Rattle.hwp_core_rule.specs.declared.View.{View}
use Rattle.hwp_table_words.specs.tlb.Caching.{upto_of}
use Rattle.hwp_table_words.specs.tlb.Rule.{locks_in, times}
use Rattle.hwp_table_words.specs.Stands.{Me}
use Rattle.hwp_table_words.proofs.Sweeps.{swept-on, swept-same, through}
use Rattle.hwp_table_words.proofs.caching.sweep.Goals as goal

pub loop-place-init : goal.loop-place-init
loop-place-init g c = record { same = refl; rest = swept-same c.args.seat.now.me; upto = omega arith; counts = c.requires.counts }

pub loop-place-preserved : goal.loop-place-preserved
loop-place-preserved g c = record {
  same = c.clear.ensures.same ∙ c.loop-place.invariant.same;
  rest = swept-on c.loop-place.invariant.rest c.clear.ensures.rest;
  upto = let less : c.loop-place.place < upto_of c.args.frame.0 c.clear.new.seat.me.0.caching.cleared = c.clear.ensures.cleared in omega (arith, less);
  counts = c.clear.ensures.counts;
}

pub clear-requires-clause-at : goal.clear-requires-clause-at
clear-requires-clause-at g c = record { few = c.requires.at.few; key_is = c.requires.at.key_is; table = c.requires.at.table; same = c.loop-place.invariant.same ∙ c.requires.at.same }

pub clear-requires-clause-inside : goal.clear-requires-clause-inside
clear-requires-clause-inside g c = subst (λ (n : ℕ). c.loop-place.place < n) (λ i. c.ways.ensures.value i * c.from.ensures i) c.loop-place-test.true

pub clear-requires-clause-can : goal.clear-requires-clause-can
clear-requires-clause-can g c = record {
  locked = subst (λ (l : List (ℕ × View)). 0 < times c.args.frame.0 (locks_in l)) (sym (ap (λ (m : Me). m.0.known.mines) c.loop-place.invariant.rest.rest)) c.requires.locked;
  before = c.loop-place.invariant.upto;
}

pub clear-requires-clause-counts : goal.clear-requires-clause-counts
clear-requires-clause-counts g c = c.loop-place.invariant.counts

pub returns-clause-same : goal.returns-clause-same
returns-clause-same g c = c.loop-place.invariant.same

pub returns-clause-rest : goal.returns-clause-rest
returns-clause-rest g c = c.loop-place.invariant.rest

pub returns-clause-swept : goal.returns-clause-swept
returns-clause-swept g c = subst (λ (n : ℕ). n ≤ upto_of c.args.frame.0 c.loop-place.seat.me.0.caching.cleared) (λ i. c.ways.ensures.value i * c.from.ensures i)
    (through (c.ways.result * c.from.result) c.loop-place.place (upto_of c.args.frame.0 c.loop-place.seat.me.0.caching.cleared) c.loop-place-test.false c.loop-place.invariant.upto)

pub returns-clause-counts : goal.returns-clause-counts
returns-clause-counts g c = c.loop-place.invariant.counts
