-- How many marks of soft offlines each command has in each frame, where lines beside its answer tell of such.
use Rattle.std.specs.Prelude.{ℕ, ◌+◌, nat_lt, true, false, cond, List, [], ◌∷◌, sum_by}
use Rattle.std.specs.HashMap.{HashMap}
use Rattle.hwp_check_rules.specs.hwp_geom.declared.Who.{Who}
use Rattle.hwp_check_rules.specs.hwp_report_text.declared.FrameLine.{FrameLine}
use Rattle.hwp_check_rules.specs.hwp_report_text.declared.How.{How}
use Rattle.hwp_check_rules.specs.hwp_report_text.declared.How.TheVariants as hows
use Rattle.hwp_check_rules.specs.hwp_report_text.declared.MarkLine.{MarkLine}
use Rattle.hwp_check_rules.specs.hwp_report_text.declared.MarkLine.TheVariants as marks
use Rattle.hwp_check_frames.specs.Beside.{spot}
use Rattle.hwp_check_frames.specs.Counts.{at_key, raise}

-- how much a mark with this key raises the count of another: nothing where no line was counted with it
abbrev pub told_raise : {S : Type 0} → HashMap ((ℕ × ℕ) × ℕ) ℕ S → (ℕ × ℕ) × ℕ → (ℕ × ℕ) × ℕ → ℕ
told_raise lines key q = cond (nat_lt 0 (at_key lines key)) (raise key q) 0

abbrev pub how_told : {S : Type 0} → HashMap ((ℕ × ℕ) × ℕ) ℕ S → ℕ → (ℕ × ℕ) × ℕ → Who → How → ℕ
how_told lines frame q who (hows.Failure hardware situation outcome) = 0
how_told lines frame q who hows.Moved = told_raise lines (spot who frame true) q
how_told lines frame q who hows.TakenFree = told_raise lines (spot who frame false) q

abbrev pub mark_told : {S : Type 0} → HashMap ((ℕ × ℕ) × ℕ) ℕ S → ℕ → (ℕ × ℕ) × ℕ → MarkLine → ℕ
mark_told lines frame q (marks.Poisoned cycle who how) = how_told lines frame q who how
mark_told lines frame q (marks.Unpoisoned cycle who) = 0

-- the same of the marks of a frame, and of the records of frames, from this number on
abbrev pub marks_told : {S : Type 0} → HashMap ((ℕ × ℕ) × ℕ) ℕ S → ℕ → (ℕ × ℕ) × ℕ → List MarkLine → ℕ
marks_told lines frame q list = sum_by (mark_told lines frame q) list

abbrev pub frames_told : {S : Type 0} → HashMap ((ℕ × ℕ) × ℕ) ℕ S → ℕ → (ℕ × ℕ) × ℕ → List FrameLine → ℕ
frames_told lines n q [] = 0
frames_told lines n q (l ∷ ls) = marks_told lines n q l.marks + frames_told lines (n + 1) q ls
