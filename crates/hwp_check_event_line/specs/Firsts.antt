-- The first of the event lines of a command that isn't right at its place.
use Rattle.std.specs.Prelude.{◌≡◌, ℕ, ◌<◌, Bool, true, false, List, Option, Some, None, MatchOption, map, slice_get}
use Rattle.hwp_law.specs.hwp_report_text.declared.EventLine.{EventLine}
use Rattle.hwp_check_event_line.specs.declared.shown.Shown.{Shown}

-- the event lines that are shown
abbrev pub shown_lines : List Shown → List EventLine
shown_lines shown = map (λ (s : Shown). s.line) shown

-- each is right
abbrev pub AreRight : (ℕ → EventLine → Type 0) → List EventLine → Type 0
AreRight Right lines = (number : ℕ) (line : EventLine) → slice_get lines number ≡ Some line → Right number line

-- those with lower numbers than this are
abbrev pub AreRightTo : (ℕ → EventLine → Type 0) → List EventLine → ℕ → Type 0
AreRightTo Right lines n = (number : ℕ) (line : EventLine) → number < n → slice_get lines number ≡ Some line → Right number line

-- this one isn't, and those before it are
pub record IsFirstWrong (Right : ℕ → EventLine → Type 0) (lines : List EventLine) (number : ℕ) : Type 0 where
  pub line : EventLine
  pub there : slice_get lines number ≡ Some line
  pub before : AreRightTo Right lines number
  pub wrong : Right number line → ⊥

-- all are right, or this is the first that isn't
abbrev pub IsScanned : (ℕ → EventLine → Type 0) → List EventLine → Option ℕ → Type 0
IsScanned Right lines found = MatchOption found (AreRight Right lines) (IsFirstWrong Right lines)

-- the first that isn't, by the one found so far and whether this one is right
abbrev pub first_of : Option ℕ → Bool → ℕ → Option ℕ
first_of (Some found) right number = Some found
first_of None true number = None
first_of None false number = Some number

-- so far: all are right, or the first that isn't was found
abbrev pub IsScannedTo : (ℕ → EventLine → Type 0) → List EventLine → ℕ → Option ℕ → Type 0
IsScannedTo Right lines n found = MatchOption found (AreRightTo Right lines n) (IsFirstWrong Right lines)
