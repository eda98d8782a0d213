use Rattle.std.proofs.Common.{◌≡◌, ◌≤◌, take, vec_capacity}
use Rattle.hwp_kill.specs.Limits.{signal_limit}
use Rattle.hwp_kill.proofs.signal_list.SignalRoom.list.Given as goal

abbrev pub invariant-loop-signal : goal.invariant-loop-signal
invariant-loop-signal l = (l.places.items ≡ take l.signal-index l.signals) × (signal_limit ≤ vec_capacity l.places)
