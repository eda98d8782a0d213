use Rattle.std.proofs.Common.{◌∙◌}
use Rattle.std.proofs.lemmas.List.{take_all}
use Rattle.hwp_kill.proofs.Places.{more}
use Rattle.hwp_kill.proofs.signal_list.SignalRoom.list.Goals as goal

pub loop-signal-init : goal.loop-signal-init
loop-signal-init c = c.self.invariant

pub loop-signal-preserved : goal.loop-signal-preserved
loop-signal-preserved c = (
  more _ c.as_slice-signal-items.ensures.signals c.loop-signal-test.true c.loop-signal.invariant.0 c.push_reserved.ensures.items,
  rw c.push_reserved.ensures.capacity c.loop-signal.invariant.1,
)

pub returns : goal.returns
returns c =
    c.from_vec.ensures ∙ c.loop-signal.invariant.0 ∙ take_all c.loop-signal.signal-index c.args.signals.now (rw c.as_slice-signal-items.ensures.signals at c.loop-signal-test.false)
