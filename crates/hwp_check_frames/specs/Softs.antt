-- How many marks of soft offlines each command has in a record, with each result.
use Rattle.std.specs.Prelude.{ℕ, Bool, true, false, cond, List}
use Rattle.std.specs.List.{sum_by}
use Rattle.hwp_check_rules.specs.hwp_geom.declared.Who.{Who}
use Rattle.hwp_check_rules.specs.hwp_report_text.declared.How.{How}
use Rattle.hwp_check_rules.specs.hwp_report_text.declared.How.TheVariants as hows
use Rattle.hwp_check_rules.specs.hwp_report_text.declared.MarkLine.{MarkLine}
use Rattle.hwp_check_rules.specs.hwp_report_text.declared.MarkLine.TheVariants as marks
use Rattle.hwp_check_frames.specs.Counts.{raise}

-- what counts a command's marks that moved the content, and those that took a free frame
abbrev pub soft_key : Who → Bool → (ℕ × ℕ) × ℕ
soft_key who moved = ((who.cpu.0, who.seq), cond moved 1 0)

-- how much a mark raises the count of a key
abbrev pub how_soft : (ℕ × ℕ) × ℕ → Who → How → ℕ
how_soft q who (hows.Failure hardware situation outcome) = 0
how_soft q who hows.Moved = raise (soft_key who true) q
how_soft q who hows.TakenFree = raise (soft_key who false) q

abbrev pub soft_raise : (ℕ × ℕ) × ℕ → MarkLine → ℕ
soft_raise q (marks.Poisoned cycle who how) = how_soft q who how
soft_raise q (marks.Unpoisoned cycle who) = 0

-- the same of marks
abbrev pub marks_soft : (ℕ × ℕ) × ℕ → List MarkLine → ℕ
marks_soft q list = sum_by (soft_raise q) list
