-- What the machine checks of a command told so far, and the room that there is for more.
use Rattle.std.specs.Prelude.{ℕ, ◌-◌, List, [], ◌++◌, length}
use Rattle.hwp_claim.specs.declared.told.EventOutcome.{EventOutcome}

pub record LinesValue : Type 0 where
  pub told : List EventOutcome
  pub spare : ℕ

abbrev pub no_lines : LinesValue
no_lines = record { told = []; spare = 0 }

abbrev pub with_lines : LinesValue → List EventOutcome → LinesValue
with_lines lines more = record { told = lines.told ++ more; spare = lines.spare - length more }
