use Rattle.std.proofs.Common.{inr}
use Rattle.hwp_evict.proofs.evict.enter.Goals as goal

pub returns-in-Ok-make_entry : goal.returns-in-Ok-make_entry
returns-in-Ok-make_entry c = inr (record {
  now = c.in-Ok-make_entry.body;
  made = rw c.in-Ok-make_entry.is at c.make_entry.ensures;
  next_is = rw (c.hold-maps.ensures, c.state.ensures.value, c.len.ensures) at c.go_out.ensures;
})
