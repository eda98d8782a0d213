-- What clauses see of the events of a machine check.
use Rattle.std.specs.Prelude.{List}
use Rattle.hwp_claim.specs.declared.told.Held.{Held}
use Rattle.hwp_claim.specs.declared.told.EventOutcome.{EventOutcome}

-- those of which it is told what was done, and those that are left, both in the order of their banks
pub record Queue : Type 0 where
  pub told : List EventOutcome
  pub left : List Held
