-- Which of two commands of a processor comes first.
use Rattle.std.specs.Prelude.{◌≡◌, ◌<◌, ◌≤◌}
use Rattle.hwp_kill.specs.hwp_geom.declared.Who.{Who}

-- the one is of an earlier command of the same processor
abbrev pub IsEarlier : Who → Who → Type 0
IsEarlier a b = (a.cpu ≡ b.cpu) × (a.seq < b.seq)

-- the one is of no later command than the other, where both are of one processor
abbrev pub IsNotLater : Who → Who → Type 0
IsNotLater who other = who.cpu ≡ other.cpu → who.seq ≤ other.seq
