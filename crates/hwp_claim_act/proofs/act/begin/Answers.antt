use Rattle.std.proofs.Common.{inr, sym, vec_capacity, arith}
use Rattle.hwp_claim_act.proofs.act.begin.Goals as goal

pub returns-in-Ok-with_capacity : goal.returns-in-Ok-with_capacity
returns-in-Ok-with_capacity c = inr (inr (record {
  ready = record { cached = c.requires.cached; room = c.requires.room; signalling = sym (rw (c.situation.ensures, c.state.ensures.value, c.if-signalling.true) at c.signals-signalling.ensures) };
  read = c.new-read.result;
  capacity = vec_capacity c.in-Ok-with_capacity.seen;
  enough = let k = c.in-Ok-with_capacity.ensures.capacity in let n = rw c.layout.ensures at c.len.ensures in omega (arith, k, n);
  begun = c.new-read.ensures;
  next_is = c.after_read.ensures;
}))
