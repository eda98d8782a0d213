-- How many marks each command's events caused in each frame.
use Rattle.std.specs.Prelude.{ℕ, ◌+◌, cond, List, [], ◌∷◌, sum_by}
use Rattle.hwp_check_rules.specs.hwp_report_text.declared.FrameLine.{FrameLine}
use Rattle.hwp_check_rules.specs.hwp_report_text.declared.MarkLine.{MarkLine}
use Rattle.hwp_check_rules.specs.hwp_report_text.declared.How.{How}
use Rattle.hwp_check_rules.specs.hwp_report_text.declared.How.TheVariants as hows
use Rattle.hwp_check_rules.specs.hwp_report_text.declared.MarkLine.TheVariants as marks
use Rattle.hwp_check_rules.specs.hwp_geom.declared.Who.{Who}
use Rattle.hwp_check_frames.specs.Counts.{raise}

-- how much a mark of an event raises the count of its command's such marks in the frame
abbrev pub how_own : ℕ → (ℕ × ℕ) × ℕ → Who → How → ℕ
how_own frame q who (hows.Failure hardware situation outcome) = cond hardware (raise ((who.cpu.0, who.seq), frame) q) 0
how_own frame q who how = 0

abbrev pub own_raise : ℕ → (ℕ × ℕ) × ℕ → MarkLine → ℕ
own_raise frame q (marks.Poisoned cycle who how) = how_own frame q who how
own_raise frame q (marks.Unpoisoned cycle who) = 0

-- the same of the marks of a frame
abbrev pub marks_own : ℕ → (ℕ × ℕ) × ℕ → List MarkLine → ℕ
marks_own frame q list = sum_by (own_raise frame q) list

-- those of frames, from this number on
abbrev pub frames_own : ℕ → (ℕ × ℕ) × ℕ → List FrameLine → ℕ
frames_own n q [] = 0
frames_own n q (l ∷ ls) = marks_own n q l.marks + frames_own (n + 1) q ls
