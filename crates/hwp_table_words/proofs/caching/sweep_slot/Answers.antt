use Rattle.std.proofs.Common.{ℕ, ◌*◌, ◌<◌, ◌≤◌, sym, subst}
use Rattle.hwp_table_words.specs.tlb.Caching.{upto_of}
use Rattle.hwp_table_words.specs.tlb.Rule.{locks_in, times}
use Rattle.hwp_table_words.proofs.caching.sweep_slot.Goals as goal

pub sweep-requires-clause-locked : goal.sweep-requires-clause-locked
sweep-requires-clause-locked g c = subst (λ (n : ℕ). 0 < times n (locks_in c.args.seat.now.me.0.known.mines)) (sym c.in-Some.ensures.some.0) (c.requires.locked c.in-Some.ensures.some.1)

pub returns-clause-swept : goal.returns-clause-swept
returns-clause-swept g c less = subst (λ (n : ℕ). g.W.Ways.ways * c.args.layout.now.cpus ≤ upto_of n c.sweep.new.seat.me.0.caching.cleared) c.in-Some.ensures.some.0 c.sweep.ensures.swept
