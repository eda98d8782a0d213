-- The first answer of each command of a processor, and the entries that its lines name.
use Rattle.std.specs.Prelude.{◌≡◌, ℕ, ◌<◌, ◌==◌, ◌&&◌, ◌||◌, Bool, true, false, cond, List, Option, Some, None, fold, is_some, length, option_and_then, slice_index_or, slice_set}
use Rattle.std.specs.HashMap.{HashMap}
use Rattle.std.specs.HashMap as hash
use Rattle.std.specs.List.{list_any}
use Rattle.std.specs.Option.{option_or}
use Rattle.hwp_law.specs.hwp_page.declared.At.{At}
use Rattle.hwp_law.specs.hwp_report_text.declared.Answer.{Answer}
use Rattle.hwp_law.specs.hwp_report_text.declared.CpuLine.{CpuLine}
use Rattle.hwp_law.specs.hwp_report_text.declared.CpuLine.TheVariants as lines
use Rattle.hwp_law.specs.hwp_report_text.Offlines.{offline_answer}
use Rattle.hwp_law.specs.Lines.{answer_among}
use Rattle.hwp_law.specs.States.{entry_named}
use Rattle.hwp_check_evidence.specs.declared.names.Names.{Names}

-- the answers with a line more: an answer that came before stays
abbrev pub answered_by : List (Option Answer) → CpuLine → List (Option Answer)
answered_by list (lines.Event event) = list
answered_by list (lines.Offlined offlined) = list
answered_by list (lines.Guest guest) = list
answered_by list (lines.Answer seq answer) = slice_set list seq (option_or (slice_index_or list seq None) (Some answer))

-- these are the answers of the first commands
abbrev pub AreAnswersOf : List CpuLine → List (Option Answer) → Type 0
AreAnswersOf rows list = (seq : ℕ) → seq < length list → slice_index_or list seq None ≡ answer_among rows seq

-- the entry that an answer names, if there is one
abbrev pub entry_of : Option Answer → Option At
entry_of answer = option_and_then entry_named answer

-- this place is named
abbrev pub is_at : Option At → At → Bool
is_at None at = false
is_at (Some named) at = (named.page.0 == at.page.0) && (named.entry == at.entry)

-- places of entries are kept by the number of a command, the page, and the number in the page's history
abbrev pub is_place : (ℕ × ℕ) × ℕ → (ℕ × ℕ) × ℕ → Bool
is_place x y = ((x.0.0 == y.0.0) && (x.0.1 == y.0.1)) && (x.1 == y.1)

abbrev pub noted_at : {S : Type 0} → HashMap ((ℕ × ℕ) × ℕ) Bool S → (ℕ × ℕ) × ℕ → Option Bool
noted_at m q = hash.get is_place m q

-- what is kept with the place more that a line of the command names; with a line more that is no answer; and of all lines
abbrev pub noted_by : (ℕ × ℕ) × ℕ → Option Bool → ℕ → Option At → Option Bool
noted_by q found seq None = found
noted_by q found seq (Some at) = cond (is_place ((seq, at.page.0), at.entry) q) (Some true) found

abbrev pub row_noted : (ℕ × ℕ) × ℕ → Option Bool → CpuLine → Option Bool
row_noted q found (lines.Event event) = found
row_noted q found (lines.Offlined line) = noted_by q found line.seq (entry_named (offline_answer line.result))
row_noted q found (lines.Guest guest) = found
row_noted q found (lines.Answer seq answer) = found

abbrev pub rows_noted : (ℕ × ℕ) × ℕ → List CpuLine → Option Bool
rows_noted q rows = fold (row_noted q) None rows

-- the place is kept for the command
abbrev pub is_noted : {S : Type 0} → HashMap ((ℕ × ℕ) × ℕ) Bool S → ℕ → At → Bool
is_noted m seq at = is_some (noted_at m ((seq, at.page.0), at.entry))

-- the line is of the command, is no answer, and names the place
abbrev pub names_beside : ℕ → At → CpuLine → Bool
names_beside seq at (lines.Event event) = false
names_beside seq at (lines.Offlined line) = (line.seq == seq) && is_at (entry_named (offline_answer line.result)) at
names_beside seq at (lines.Guest guest) = false
names_beside seq at (lines.Answer s answer) = false

-- the command's answer names the place, or another line of it does
abbrev pub is_named : Names → ℕ → At → Bool
is_named names seq at = is_at (slice_index_or names.answers.items seq None) at || is_noted names.beside seq at

-- these are the places that the lines of so many commands name
pub record AreNames (commands : ℕ) (rows : List CpuLine) (names : Names) : Type 0 where
  pub answers : (seq : ℕ) → seq < commands → slice_index_or names.answers.items seq None ≡ entry_of (answer_among rows seq)
  pub beside : (seq : ℕ) (at : At) → is_noted names.beside seq at ≡ list_any (names_beside seq at) rows
