-- What is kept of a frame's record for the commands of one processor, mark by mark.
use Rattle.std.specs.Prelude.{◌≡◌, ℕ, ◌+◌, ◌==◌, max, min, cond, not, Bool, true, false, List, [], ◌∷◌, Some, length, slice_get}
use Rattle.hwp_law.specs.hwp_geom.declared.Cpu.{Cpu}
use Rattle.hwp_law.specs.hwp_report_text.declared.FrameLine.{FrameLine}
use Rattle.hwp_law.specs.hwp_report_text.declared.MarkLine.{MarkLine}
use Rattle.hwp_law.specs.Records.{is_poisoning, who_in}
use Rattle.hwp_check_event_line.specs.declared.nears.Nears.{Nears}
use Rattle.hwp_check_event_line.specs.declared.nears.MarkIndex.{MarkIndex}

-- the highest number that a command can have
abbrev pub top : ℕ
top = 4294967295

-- the number of the mark's command, if it is one of the processor
abbrev pub seq_by : Cpu → ℕ → MarkLine → ℕ
seq_by cpu other m = cond ((who_in m).cpu.0 == cpu.0) (who_in m).seq other

-- the mark says as much
abbrev pub says : Bool → MarkLine → Bool
says true m = is_poisoning m
says false m = not (is_poisoning m)

-- the lowest command of the processor among the marks; and from each mark on
abbrev pub lowest : Cpu → List MarkLine → ℕ
lowest cpu [] = top
lowest cpu (m ∷ ms) = min (seq_by cpu top m) (lowest cpu ms)

abbrev pub lows : Cpu → List MarkLine → List ℕ
lows cpu [] = []
lows cpu (m ∷ ms) = lowest cpu (m ∷ ms) ∷ lows cpu ms

-- the highest, where it is this before them; and up to each mark
abbrev pub higher : Cpu → ℕ → MarkLine → ℕ
higher cpu found m = max found (seq_by cpu 0 m)

abbrev pub highs : Cpu → ℕ → List MarkLine → List ℕ
highs cpu found [] = []
highs cpu found (m ∷ ms) = higher cpu found m ∷ highs cpu (higher cpu found m) ms

-- how many of the first marks say the same; and how many from each mark on say what it says
abbrev pub run : Bool → List MarkLine → ℕ
run b [] = 0
run b (m ∷ ms) = cond (says b m) (run b ms + 1) 0

abbrev pub runs : List MarkLine → List ℕ
runs [] = []
runs (m ∷ ms) = run (is_poisoning m) (m ∷ ms) ∷ runs ms

-- what is kept of a record is right
pub record AreNears (cpu : Cpu) (list : List MarkLine) (nears : Nears) : Type 0 where
  pub lows_are : nears.lows.items ≡ lows cpu list
  pub highs_are : nears.highs.items ≡ highs cpu 0 list
  pub runs_are : nears.runs.items ≡ runs list

-- and of the records of all frames
pub record IsPast (cpu : Cpu) (frames : List FrameLine) (past : MarkIndex) : Type 0 where
  pub many : length past.frames.items ≡ length frames
  pub each : (frame : ℕ) (line : FrameLine) (nears : Nears) → slice_get frames frame ≡ Some line → slice_get past.frames.items frame ≡ Some nears → AreNears cpu line.marks nears
