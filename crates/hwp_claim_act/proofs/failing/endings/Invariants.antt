use Rattle.std.proofs.Common.{◌≡◌, ◌≤◌, length, take}
use Rattle.hwp_claim_act.specs.Abandons.{endings_of}
use Rattle.hwp_claim_act.proofs.failing.endings.Given as goal

abbrev pub invariant-loop-signal : goal.invariant-loop-signal
invariant-loop-signal l = (l.endings ≡ endings_of l.layout (take l.signal-index l.signals)) × (length l.endings ≤ l.signal-index)
