-- How often the failures of a report that a thread needed the page for count each key, and the marks whose event line asks for
-- one.
use Rattle.std.specs.Prelude.{ℕ, ◌+◌, ◌==◌, ◌&&◌, Bool, false, not, cond, List, [], ◌∷◌, Option, Some, None, is_some, sum_by}
use Rattle.std.specs.HashMap.{HashMap}
use Rattle.hwp_check_rules.specs.hwp_geom.declared.Who.{Who}
use Rattle.hwp_check_rules.specs.hwp_page.declared.Entry.{Entry}
use Rattle.hwp_check_rules.specs.hwp_page.declared.Situation.{Situation}
use Rattle.hwp_check_rules.specs.hwp_page.declared.What.{What}
use Rattle.hwp_check_rules.specs.hwp_page.declared.What.TheVariants as entries
use Rattle.hwp_check_rules.specs.hwp_report_text.declared.FrameLine.{FrameLine}
use Rattle.hwp_check_rules.specs.hwp_report_text.declared.How.{How}
use Rattle.hwp_check_rules.specs.hwp_report_text.declared.How.TheVariants as hows
use Rattle.hwp_check_rules.specs.hwp_report_text.declared.MarkLine.{MarkLine}
use Rattle.hwp_check_rules.specs.hwp_report_text.declared.MarkLine.TheVariants as marks
use Rattle.hwp_check_rules.specs.hwp_law.Pairings.{has_page}
use Rattle.hwp_check_frames.specs.Counts.{at_key, raise}
use Rattle.hwp_check_frames.specs.Said.{row_at}
use Rattle.hwp_check_frames.specs.Own.{own_raise}
use Rattle.hwp_check_marks.specs.Tallies.{key_of}
use Rattle.hwp_check_marks.specs.declared.kinds.Kind.TheVariants as kinds
use Rattle.hwp_check_frames.specs.declared.Noted.{Noted}

-- how much an entry raises the count of a key
abbrev pub what_needed : (ℕ × ℕ) × ℕ → Who → What → ℕ
what_needed q who (entries.Fail situation required seen signals) = cond (is_some required) (raise (key_of who (kinds.Failure situation)) q) 0
what_needed q who what = 0

abbrev pub entry_needed : (ℕ × ℕ) × ℕ → Entry → ℕ
entry_needed q e = what_needed q e.who e.what

abbrev pub page_needed : (ℕ × ℕ) × ℕ → List Entry → ℕ
page_needed q list = sum_by (entry_needed q) list

abbrev pub pages_needed : (ℕ × ℕ) × ℕ → List (List Entry) → ℕ
pages_needed q pages = sum_by (page_needed q) pages

-- the line has the row of an access that needs the page
abbrev pub is_nine : Option Noted → Bool
is_nine None = false
is_nine (Some noted) = noted.row == 9

-- how much the mark raises the count of a key, where so many marks of each command stand before it
abbrev pub how_urgent : {S : Type 0} → HashMap (((ℕ × ℕ) × ℕ) × ℕ) Noted S → ((ℕ × ℕ) × ℕ → ℕ) → ℕ → (ℕ × ℕ) × ℕ → Who → How → ℕ
how_urgent rows had frame q who (hows.Failure hardware situation outcome) =
    cond (hardware && is_nine (row_at rows (((who.cpu.0, who.seq), frame), had ((who.cpu.0, who.seq), frame)))) (raise (key_of who (kinds.Failure situation)) q) 0
how_urgent rows had frame q who how = 0

abbrev pub mark_urgent : {S : Type 0} → HashMap (((ℕ × ℕ) × ℕ) × ℕ) Noted S → ((ℕ × ℕ) × ℕ → ℕ) → ℕ → (ℕ × ℕ) × ℕ → MarkLine → ℕ
mark_urgent rows had frame q (marks.Poisoned cycle who how) = how_urgent rows had frame q who how
mark_urgent rows had frame q (marks.Unpoisoned cycle who) = 0

-- the same of some marks, and of the records of frames, from this number on
abbrev pub marks_urgent : {S : Type 0} → HashMap (((ℕ × ℕ) × ℕ) × ℕ) Noted S → ((ℕ × ℕ) × ℕ → ℕ) → ℕ → (ℕ × ℕ) × ℕ → List MarkLine → ℕ
marks_urgent rows had frame q [] = 0
marks_urgent rows had frame q (m ∷ ms) = mark_urgent rows had frame q m + marks_urgent rows (λ x. had x + own_raise frame x m) frame q ms

abbrev pub frames_urgent : {S : Type 0} → HashMap (((ℕ × ℕ) × ℕ) × ℕ) Noted S → ℕ → (ℕ × ℕ) × ℕ → List FrameLine → ℕ
frames_urgent rows n q [] = 0
frames_urgent rows n q (l ∷ ls) = marks_urgent rows (λ x. 0) n q l.marks + frames_urgent rows (n + 1) q ls

-- by these counts the entry is a failure of which not as many needed the page as event lines ask
abbrev pub differs : {S : Type 0} → HashMap ((ℕ × ℕ) × ℕ) ℕ S → HashMap ((ℕ × ℕ) × ℕ) ℕ S → Who → Situation → Bool
differs needed urgent who situation = not (at_key needed (key_of who (kinds.Failure situation)) == at_key urgent (key_of who (kinds.Failure situation)))

abbrev pub is_misneeded : {S : Type 0} → HashMap ((ℕ × ℕ) × ℕ) ℕ S → HashMap ((ℕ × ℕ) × ℕ) ℕ S → Who → What → Bool
is_misneeded needed urgent who (entries.Fail situation required seen signals) = has_page situation && differs needed urgent who situation
is_misneeded needed urgent who what = false

abbrev pub is_misrequired : {S : Type 0} → HashMap ((ℕ × ℕ) × ℕ) ℕ S → HashMap ((ℕ × ℕ) × ℕ) ℕ S → Entry → Bool
is_misrequired needed urgent e = is_misneeded needed urgent e.who e.what
