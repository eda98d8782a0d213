use Rattle.hwp_claim_act.proofs.act.go_out.Goals as goal

pub returns : goal.returns
returns c = record {
  can = c.requires;
  entered = c.enter-entered.result;
  made = c.enter-entered.ensures;
  clear = c.new-clear.result;
  begun = rw (c.hold-maps.ensures, c.state.ensures.value, c.bars-barred.ensures, c.situation.ensures, c.state-2.ensures.value) at c.new-clear.ensures;
  next_is = c.after_clear.ensures;
}
