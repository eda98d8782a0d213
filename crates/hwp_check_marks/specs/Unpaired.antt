-- The marks of a command that its entries, or its one answer, don't account for.
use Rattle.std.specs.Prelude.{◌≡◌, ◌⊎◌, ℕ, ◌+◌, ◌<◌, ◌≤◌, ◌&&◌, ◌||◌, nat_le, not, Bool, true, false, List, Some, count_by, slice_get, sum_by, take}
use Rattle.hwp_check_rules.specs.hwp_geom.declared.Frame.{Frame}
use Rattle.hwp_check_rules.specs.hwp_geom.declared.Who.{Who}
use Rattle.hwp_check_rules.specs.hwp_page.declared.Entry.{Entry}
use Rattle.hwp_check_rules.specs.hwp_page.declared.Situation.{Situation}
use Rattle.hwp_check_rules.specs.hwp_page.declared.What.{What}
use Rattle.hwp_check_rules.specs.hwp_report_text.declared.FrameLine.{FrameLine}
use Rattle.hwp_check_rules.specs.hwp_report_text.declared.How.TheVariants as hows
use Rattle.hwp_check_rules.specs.hwp_report_text.declared.MarkLine.{MarkLine}
use Rattle.hwp_check_rules.specs.hwp_report_text.declared.MarkLine.TheVariants as marks
use Rattle.hwp_check_rules.specs.hwp_report_text.declared.Report.{Report}
use Rattle.hwp_check_rules.specs.hwp_law.Lines.{is_same_command, marks_of}
use Rattle.hwp_check_rules.specs.hwp_law.Pairings.{entries_of, has_page, is_commands, is_failure, is_failure_mark, is_move_mark, is_soft, marks_in}
use Rattle.hwp_check_marks.specs.declared.kinds.Kind.{Kind}
use Rattle.hwp_check_marks.specs.declared.kinds.Kind.TheVariants as kinds
use Rattle.hwp_check_rules.specs.MarkFaults.{IsMovedOnly, IsSecond, IsUnpaired}
use Rattle.hwp_check_rules.specs.Standing.{mark_line}

-- the mark is of this command and of this kind
abbrev pub is_kind : Who → Kind → MarkLine → Bool
is_kind who (kinds.Failure situation) m = is_failure_mark who situation m
is_kind who kinds.Moved m = is_move_mark who m
is_kind who kinds.Commanded m = is_commands who m

-- the entry is of this kind
abbrev pub is_entry : Kind → What → Bool
is_entry (kinds.Failure situation) what = is_failure situation what
is_entry kinds.Moved what = is_soft what
is_entry kinds.Commanded what = false

-- how many marks of the kind the command may have: as many as entries, or one
abbrev pub allowed : Report → Who → Kind → ℕ
allowed report who (kinds.Failure situation) = entries_of report who (is_failure situation)
allowed report who kinds.Moved = entries_of report who is_soft
allowed report who kinds.Commanded = 1

-- no command has more marks of a kind than it may
pub record AreFew (report : Report) (who : Who) : Type 0 where
  pub failures : (situation : Situation) → has_page situation ≡ true → marks_in report (is_failure_mark who situation) ≤ entries_of report who (is_failure situation)
  pub moves : marks_in report (is_move_mark who) ≤ entries_of report who is_soft
  pub one : marks_in report (is_commands who) ≤ 1

abbrev pub AllFew : Report → Type 0
AllFew report = (who : Who) → AreFew report who

-- what is wrong with a mark that is one too many
abbrev pub IsTooMany : Report → Frame → ℕ → MarkLine → Type 0
IsTooMany report frame place mark = IsUnpaired report frame place mark ⊎ IsMovedOnly report frame place mark ⊎ IsSecond report frame place mark

-- a mark that is one too many
pub record IsExtra (report : Report) (line : ℕ) : Type 0 where
  pub frame : Frame
  pub place : ℕ
  pub mark : MarkLine
  pub there : slice_get (marks_of report frame.0) place ≡ Some mark
  pub line_is : line ≡ mark_line report frame.0 place
  pub wrong : IsTooMany report frame place mark

-- so many marks of the kind stand before a place in a record, and in the records above it
abbrev pub in_frames : Who → Kind → List FrameLine → ℕ
in_frames who kind frames = sum_by (λ (l : FrameLine). count_by (is_kind who kind) l.marks) frames

abbrev pub before_in : Who → Kind → List FrameLine → List MarkLine → ℕ
before_in who kind above list = in_frames who kind above + count_by (is_kind who kind) list

-- so many entries of the command and of the kind are in a history, and in all
abbrev pub in_page : Who → Kind → List Entry → ℕ
in_page who kind entries = count_by (λ (e : Entry). is_same_command who e.who && is_entry kind e.what) entries

abbrev pub in_pages : Who → Kind → List (List Entry) → ℕ
in_pages who kind pages = sum_by (in_page who kind) pages

-- as many marks of the kind as the command may have stand before
abbrev pub exceeds : Report → Who → Kind → List FrameLine → List MarkLine → Bool
exceeds report who kind above before = nat_le (allowed report who kind) (before_in who kind above before)

-- the mark is one too many
abbrev pub is_extra : Report → List FrameLine → List MarkLine → MarkLine → Bool
is_extra report above before (marks.Poisoned cycle who (hows.Failure hardware situation outcome)) =
    (has_page situation && exceeds report who (kinds.Failure situation) above before) || (not hardware && exceeds report who kinds.Commanded above before)
is_extra report above before (marks.Poisoned cycle who hows.Moved) = exceeds report who kinds.Moved above before
is_extra report above before (marks.Poisoned cycle who hows.TakenFree) = false
is_extra report above before (marks.Unpoisoned cycle who) = exceeds report who kinds.Commanded above before

-- so many first marks of a record, below these frames, are none too many; and this is the first that is
abbrev pub NoneExtra : Report → List FrameLine → List MarkLine → ℕ → Type 0
NoneExtra report above list n = (place : ℕ) (mark : MarkLine) → place < n → slice_get list place ≡ Some mark → is_extra report above (take place list) mark ≡ false

pub record IsFirstExtra (report : Report) (above : List FrameLine) (list : List MarkLine) (place : ℕ) : Type 0 where
  pub mark : MarkLine
  pub there : slice_get list place ≡ Some mark
  pub before : NoneExtra report above list place
  pub extra : is_extra report above (take place list) mark ≡ true
