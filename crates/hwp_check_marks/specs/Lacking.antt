-- Which entries have not the marks that they ask for.
use Rattle.std.specs.Prelude.{◌≡◌, ℕ, nat_lt, Bool, false, cond, List, [], ◌∷◌, Option, Some, None}
use Rattle.std.specs.HashMap.{HashMap}
use Rattle.hwp_check_rules.specs.hwp_geom.declared.Who.{Who}
use Rattle.hwp_check_rules.specs.hwp_page.declared.Entry.{Entry}
use Rattle.hwp_check_rules.specs.hwp_page.declared.What.{What}
use Rattle.hwp_check_rules.specs.hwp_page.declared.What.TheVariants as entries
use Rattle.hwp_check_rules.specs.hwp_script_words.declared.Script.{Script}
use Rattle.hwp_check_rules.specs.hwp_report_text.declared.Report.{Report}
use Rattle.hwp_check_rules.specs.hwp_law.Pairings.{has_page, is_soft}
use Rattle.hwp_check_rules.specs.Firsts.{sooner_if}
use Rattle.hwp_check_rules.specs.MarkFaults.{LacksMarks, home_of}
use Rattle.hwp_check_frames.specs.Counts.{at_key}
use Rattle.hwp_check_marks.specs.Tallies.{key_of}
use Rattle.hwp_check_marks.specs.declared.kinds.Kind.{Kind}
use Rattle.hwp_check_marks.specs.declared.kinds.Kind.TheVariants as kinds

-- the kind of marks that an entry asks for, one each
abbrev pub kind_asked : What → Option Kind
kind_asked (entries.Fail situation required seen signals) = cond (has_page situation) (Some (kinds.Failure situation)) None
kind_asked entries.Soft = Some kinds.Moved
kind_asked what = None

-- by the counts of entries and of marks, the command has fewer marks of the kind than entries
abbrev pub has_fewer : {S : Type 0} → HashMap ((ℕ × ℕ) × ℕ) ℕ S → HashMap ((ℕ × ℕ) × ℕ) ℕ S → Who → Option Kind → Bool
has_fewer asked had who None = false
has_fewer asked had who (Some kind) = nat_lt (at_key had (key_of who kind)) (at_key asked (key_of who kind))

abbrev pub is_lacking : {S : Type 0} → HashMap ((ℕ × ℕ) × ℕ) ℕ S → HashMap ((ℕ × ℕ) × ℕ) ℕ S → Entry → Bool
is_lacking asked had e = has_fewer asked had e.who (kind_asked e.what)

-- the lowest of the numbers that entries which ask have; found is the lowest so far
abbrev pub lowest_entry : (Entry → Bool) → (Entry → ℕ) → Option ℕ → List Entry → Option ℕ
lowest_entry asks wants found [] = found
lowest_entry asks wants found (e ∷ es) = lowest_entry asks wants (sooner_if (asks e) found (wants e)) es

abbrev pub lowest_in : (Entry → Bool) → (Entry → ℕ) → Option ℕ → List (List Entry) → Option ℕ
lowest_in asks wants found [] = found
lowest_in asks wants found (es ∷ rest) = lowest_in asks wants (lowest_entry asks wants found es) rest

-- the frame with this number is that of a command's failures, or of its soft offlines, that lack marks
pub record IsHomeLacking (script : Script) (report : Report) (home : ℕ) : Type 0 where
  pub who : Who
  pub soft : Bool
  pub lacks : LacksMarks report who soft
  pub home_is : home ≡ home_of script report who soft

-- the frame of the entry's command, by what the entry is
abbrev pub entry_home : Script → Report → Entry → ℕ
entry_home script report e = home_of script report e.who (is_soft e.what)
