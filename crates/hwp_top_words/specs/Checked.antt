-- What `check` takes from a source, and what it says.
use Rattle.std.specs.Prelude.{◌≡◌, ℕ, ◌*◌, ◌^◌, ◌<◌, ◌≤◌, ◌⊎◌, List, Option, length}
use Rattle.std.specs.Io.KnownBytes.{Consumes, IsAtEnd}
use Rattle.hwp_script.specs.hwp_script_read.declared.Refused.{Refused}
use Rattle.hwp_script.specs.hwp_script_read.declared.Why.TheVariants as whys
use Rattle.hwp_check.specs.hwp_check_rules.declared.verdicts.Verdict.{Verdict}
use Rattle.hwp_check.specs.hwp_check_rules.declared.verdicts.Verdict.TheVariants as verdicts
use Rattle.hwp_check.specs.Judging.{IsJudgedInput, IsRefusedInput}
use Rattle.hwp_check.specs.Text.{verdict_text}

-- the bytes of a script and a report: 17 MiB
abbrev pub check_limit : ℕ
check_limit = 17 * 2 ^ 20

-- 0 where the report is legal, else 1
abbrev pub verdict_status : Verdict → ℕ
verdict_status verdicts.Legal = 0
verdict_status (verdicts.Not line rule) = 1

-- a source gave an input to its end, no longer than it may be, and this is the text of the verdict on it, and its status
pub record IsChecked (left left' : Option (List ℕ)) (status : ℕ) (text : List ℕ) : Type 0 where
  pub bytes : List ℕ
  pub consumed : Consumes left left' bytes
  pub at_end : IsAtEnd left'
  pub within : length bytes ≤ check_limit
  pub verdict : Verdict
  pub judged : IsJudgedInput bytes verdict
  pub status_is : status ≡ verdict_status verdict
  pub text_is : text ≡ verdict_text verdict

-- these bytes are too long
pub record IsTooLong (bytes : List ℕ) (refused : Refused) : Type 0 where
  pub long : check_limit < length bytes
  pub told : refused ≡ record { line = 0; why = whys.TooLong }

-- a source gave more than an input may have, and the refusal says so; or an input to its end, no longer than that, whose script is refused
pub record RefusesChecked (left left' : Option (List ℕ)) (refused : Refused) : Type 0 where
  pub bytes : List ℕ
  pub consumed : Consumes left left' bytes
  pub refusal : IsTooLong bytes refused ⊎ (IsAtEnd left' × (length bytes ≤ check_limit) × IsRefusedInput bytes refused)
