-- A count of faults, without a bound.
use Rattle.std.specs.Prelude.{ℕ, ◌+◌}
use Rattle.hwp_io.specs.declared.counts.FaultCount.{FaultCount, Zero, OneMore'}

-- how many calls failed
abbrev pub count : FaultCount → ℕ
count Zero = 0
count (OneMore' p before) = count before + 1
