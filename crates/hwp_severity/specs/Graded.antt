-- The severity table: fourteen rows, of which the first that matches gives the grade. This project's rule.
use Rattle.std.specs.Prelude.{◌≡◌, ℕ, ◌==◌, nat_le, Bool, true, false, not, ◌&&◌, ◌||◌, List, [], ◌∷◌, if◌then◌else◌}
use Rattle.hwp_geom.specs.declared.Mode.{Mode}
use Rattle.hwp_geom.specs.declared.Mode.TheVariants.{User, Kernel}
use Rattle.hwp_banks.specs.declared.Status.{Status}
use Rattle.hwp_banks.specs.Status.{is_valid, is_overflowed, is_uncorrected, is_enabled, is_misc_valid, is_addr_valid, is_context_corrupt, is_signaled, is_action_required, error_code_of}
use Rattle.hwp_severity.specs.declared.types.Grade.{Grade}
use Rattle.hwp_severity.specs.declared.types.McgBits.{McgBits}
use Rattle.hwp_severity.specs.declared.types.Severity.{Severity}
use Rattle.hwp_severity.specs.declared.types.Severity.TheVariants as severities

-- user mode
abbrev pub is_user : Mode → Bool
is_user User = true
is_user Kernel = false

-- the code of a data load or of an instruction fetch
abbrev pub is_access : Status → Bool
is_access s = (error_code_of s == 0x134) || (error_code_of s == 0x150)

-- the code of memory scrubbing or of an explicit writeback of the last-level cache
abbrev pub is_background : Status → Bool
is_background s = (nat_le 0xc0 (error_code_of s) && nat_le (error_code_of s) 0xcf) || (error_code_of s == 0x17a)

-- the address and the misc are valid
abbrev pub is_placed : Status → Bool
is_placed s = is_addr_valid s && is_misc_valid s

-- a row: its number, its condition and its severity
abbrev pub Row : Type 0
Row = ℕ × Bool × Severity

-- the rows, but for the last
abbrev pub rows : Status → McgBits → Mode → List Row
rows s g m =
    (1, not (is_valid s), severities.None)
    ∷ (2, not (is_enabled s), severities.None)
    ∷ (3, is_context_corrupt s, severities.Stop)
    ∷ (4, not (is_uncorrected s), severities.Keep)
    ∷ (5, not g.ripv && not g.eipv, severities.Stop)
    ∷ (6, not (is_signaled s) && not (is_action_required s), severities.Deferred)
    ∷ (7, not (is_signaled s) && is_action_required s, severities.Stop)
    ∷ (8, is_action_required s && is_overflowed s, severities.Stop)
    ∷ (9, is_action_required s && is_access s && is_placed s && is_user m && g.ripv, severities.Required)
    ∷ (10, is_action_required s && is_access s && is_placed s && not (is_user m) && g.ripv, severities.Stop)
    ∷ (11, is_action_required s, severities.Stop)
    ∷ (12, not (is_action_required s) && not (is_overflowed s) && is_background s && is_placed s, severities.Optional)
    ∷ (13, is_signaled s && not (is_action_required s), severities.Logged)
    ∷ []

-- the grade of the first row that matches, or that of row S14: anything else
abbrev pub first_match : List Row → Grade
first_match [] = record { severity = severities.Logged; row = 14 }
first_match (r ∷ rs) = if r.1 then record { severity = r.2; row = r.0 } else first_match rs

-- the grade of a status
abbrev pub graded : Status → McgBits → Mode → Grade
graded s g m = first_match (rows s g m)

-- rows 1 to 5 do not match: software may recover from the error
pub record IsRecoverable (s : Status) (g : McgBits) : Type 0 where
  pub valid : is_valid s ≡ true
  pub enabled : is_enabled s ≡ true
  pub spares_context : is_context_corrupt s ≡ false
  pub uncorrected : is_uncorrected s ≡ true
  pub has_place_to_go : (not g.ripv && not g.eipv) ≡ false
