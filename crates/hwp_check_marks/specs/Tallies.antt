-- How often the marks and the entries of a report count each key: a command with a kind of marks.
use Rattle.std.specs.Prelude.{◌≡◌, false, ℕ, ◌+◌, ◌&&◌, ◌||◌, nat_le, Bool, not, cond, List, sum_by}
use Rattle.std.specs.HashMap.{HashMap}
use Rattle.hwp_check_rules.specs.hwp_geom.declared.Who.{Who}
use Rattle.hwp_check_rules.specs.hwp_page.declared.Entry.{Entry}
use Rattle.hwp_check_rules.specs.hwp_page.declared.What.{What}
use Rattle.hwp_check_rules.specs.hwp_page.declared.What.TheVariants as entries
use Rattle.hwp_check_rules.specs.hwp_report_text.declared.FrameLine.{FrameLine}
use Rattle.hwp_check_rules.specs.hwp_report_text.declared.How.{How}
use Rattle.hwp_check_rules.specs.hwp_report_text.declared.How.TheVariants as hows
use Rattle.hwp_check_rules.specs.hwp_report_text.declared.MarkLine.{MarkLine}
use Rattle.hwp_check_rules.specs.hwp_report_text.declared.MarkLine.TheVariants as marks
use Rattle.hwp_check_rules.specs.hwp_law.Pairings.{has_page, situation_number}
use Rattle.hwp_check_frames.specs.Counts.{at_key, raise}
use Rattle.hwp_check_marks.specs.declared.kinds.Kind.{Kind}
use Rattle.hwp_check_marks.specs.declared.kinds.Kind.TheVariants as kinds

abbrev pub kind_number : Kind → ℕ
kind_number (kinds.Failure situation) = situation_number situation
kind_number kinds.Moved = 10
kind_number kinds.Commanded = 11

abbrev pub key_of : Who → Kind → (ℕ × ℕ) × ℕ
key_of who kind = ((who.cpu.0, who.seq), kind_number kind)

-- how much a mark raises the count of a key: it counts each kind that it is of
abbrev pub how_raise : (ℕ × ℕ) × ℕ → Who → How → ℕ
how_raise q who (hows.Failure hardware situation outcome) =
    raise (key_of who (kinds.Failure situation)) q + cond (not hardware) (raise (key_of who kinds.Commanded) q) 0
how_raise q who hows.Moved = raise (key_of who kinds.Moved) q
how_raise q who hows.TakenFree = 0

abbrev pub mark_raise : (ℕ × ℕ) × ℕ → MarkLine → ℕ
mark_raise q (marks.Poisoned cycle who how) = how_raise q who how
mark_raise q (marks.Unpoisoned cycle who) = raise (key_of who kinds.Commanded) q

abbrev pub marks_raise : (ℕ × ℕ) × ℕ → List MarkLine → ℕ
marks_raise q list = sum_by (mark_raise q) list

abbrev pub frames_raise : (ℕ × ℕ) × ℕ → List FrameLine → ℕ
frames_raise q frames = sum_by (λ (l : FrameLine). marks_raise q l.marks) frames

-- the same of an entry
abbrev pub what_raise : (ℕ × ℕ) × ℕ → Who → What → ℕ
what_raise q who (entries.Fail situation required seen signals) = raise (key_of who (kinds.Failure situation)) q
what_raise q who entries.Soft = raise (key_of who kinds.Moved) q
what_raise q who what = 0

abbrev pub entry_raise : (ℕ × ℕ) × ℕ → Entry → ℕ
entry_raise q e = what_raise q e.who e.what

abbrev pub page_raise : (ℕ × ℕ) × ℕ → List Entry → ℕ
page_raise q list = sum_by (entry_raise q) list

abbrev pub pages_raise : (ℕ × ℕ) × ℕ → List (List Entry) → ℕ
pages_raise q pages = sum_by (page_raise q) pages

-- the counts are those of these entries; and those of the marks in these records, and of further ones
abbrev pub CountEntries : {S : Type 0} → List (List Entry) → HashMap ((ℕ × ℕ) × ℕ) ℕ S → Type 0
CountEntries pages counts = (q : (ℕ × ℕ) × ℕ) → at_key counts q ≡ pages_raise q pages

abbrev pub CountMarks : {S : Type 0} → List FrameLine → List MarkLine → HashMap ((ℕ × ℕ) × ℕ) ℕ S → Type 0
CountMarks above before counts = (q : (ℕ × ℕ) × ℕ) → at_key counts q ≡ frames_raise q above + marks_raise q before

-- how many marks of a kind a command may have, by the count of its entries
abbrev pub may_have : Kind → ℕ → ℕ
may_have (kinds.Failure situation) n = n
may_have kinds.Moved n = n
may_have kinds.Commanded n = 1

-- the command has had as many marks of the kind as it may
abbrev pub is_reached : {S : Type 0} → HashMap ((ℕ × ℕ) × ℕ) ℕ S → HashMap ((ℕ × ℕ) × ℕ) ℕ S → Who → Kind → Bool
is_reached entries had who kind = nat_le (may_have kind (at_key entries (key_of who kind))) (at_key had (key_of who kind))

-- a mark more is one too many
abbrev pub is_over : {S : Type 0} → HashMap ((ℕ × ℕ) × ℕ) ℕ S → HashMap ((ℕ × ℕ) × ℕ) ℕ S → MarkLine → Bool
is_over entries had (marks.Poisoned cycle who (hows.Failure hardware situation outcome)) =
    (has_page situation && is_reached entries had who (kinds.Failure situation)) || (not hardware && is_reached entries had who kinds.Commanded)
is_over entries had (marks.Poisoned cycle who hows.Moved) = is_reached entries had who kinds.Moved
is_over entries had (marks.Poisoned cycle who hows.TakenFree) = false
is_over entries had (marks.Unpoisoned cycle who) = is_reached entries had who kinds.Commanded
