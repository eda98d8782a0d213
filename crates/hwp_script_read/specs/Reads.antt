-- When bytes are the text of a script, and when they are refused.
use Rattle.std.specs.Prelude.{◌≡◌, ℕ, ◌<◌, ◌≤◌, length, List}
use Rattle.hwp_script_lines.specs.Lines.{AreLinesOf}
use Rattle.hwp_script_lines.specs.declared.Numbered.{Numbered}
use Rattle.hwp_script_lines.specs.hwp_script_words.Limits.{script_limit}
use Rattle.hwp_script_read.specs.Refusals.{AreScript, AreRefused}
use Rattle.hwp_script_lines.specs.declared.Script.{Script}
use Rattle.hwp_script_read.specs.declared.why.Refused.{Refused}
use Rattle.hwp_script_read.specs.declared.why.Why.{Why}
use Rattle.hwp_script_read.specs.declared.why.Why.TheVariants as whys

-- the bytes are the text of the script
pub record Reads (bytes : List ℕ) (s : Script) : Type 0 where
  pub short : length bytes ≤ script_limit
  pub lines : List Numbered
  pub numbered : AreLinesOf bytes lines
  pub script : AreScript lines s

-- the bytes are not too long, and their lines are refused so
pub record IsFaulty (bytes : List ℕ) (r : Refused) : Type 0 where
  pub short : length bytes ≤ script_limit
  pub lines : List Numbered
  pub numbered : AreLinesOf bytes lines
  pub refused : AreRefused lines r

-- the bytes are refused so, by cases on the reason
abbrev pub IsRefusedFor : List ℕ → Refused → Why → Type 0
IsRefusedFor bytes r whys.TooLong = (r.line ≡ 0) × (script_limit < length bytes)
IsRefusedFor bytes r w = IsFaulty bytes r

-- the bytes are refused so: as too long, or at the first line at fault
pub record IsRefused (bytes : List ℕ) (r : Refused) : Type 0 where
  pub reason : IsRefusedFor bytes r r.why
