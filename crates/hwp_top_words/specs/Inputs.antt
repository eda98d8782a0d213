-- What a source gave: a script, or bytes that are refused.
use Rattle.std.specs.Prelude.{◌≢◌, ℕ, List, Option}
use Rattle.std.specs.Io.KnownBytes.{Consumes, IsAtEnd}
use Rattle.hwp_script.specs.hwp_script_read.declared.Script.{Script}
use Rattle.hwp_script.specs.hwp_script_read.declared.Refused.{Refused}
use Rattle.hwp_script.specs.hwp_script_read.declared.Why.TheVariants as whys
use Rattle.hwp_script.specs.hwp_script_read.Reads.{Reads, IsRefused}

-- a source gave these bytes, and they are refused so: they are the text of no script; all reasons but the length need the whole input
pub record Refuses (left left' : Option (List ℕ)) (refused : Refused) : Type 0 where
  pub bytes : List ℕ
  pub consumed : Consumes left left' bytes
  pub whole : refused.why ≢ whys.TooLong → IsAtEnd left'
  pub refusal : IsRefused bytes refused

-- a source gave these bytes to its end, and they are the text of the script
pub record Takes (left left' : Option (List ℕ)) (script : Script) : Type 0 where
  pub bytes : List ℕ
  pub consumed : Consumes left left' bytes
  pub at_end : IsAtEnd left'
  pub reads : Reads bytes script
