-- When bytes are the text of a script.
use Rattle.std.specs.Prelude.{◌≡◌, ℕ, List}
use Rattle.hwp_script_read.specs.declared.Script.{Script}
use Rattle.hwp_script_read.specs.Reads.{Reads}

-- the bytes are read as this script, and as no other
pub record IsTextOf (bytes : List ℕ) (s : Script) : Type 0 where
  pub reads : Reads bytes s
  pub only : (t : Script) → Reads bytes t → t ≡ s
