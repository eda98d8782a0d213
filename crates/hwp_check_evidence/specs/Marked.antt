-- What the records of frames say of a command.
use Rattle.std.specs.Prelude.{ℕ, ◌^◌, ◌==◌, min, cond, List, fold}
use Rattle.hwp_law.specs.hwp_geom.declared.Cpu.{Cpu}
use Rattle.hwp_law.specs.hwp_report_text.declared.FrameLine.{FrameLine}
use Rattle.hwp_law.specs.hwp_report_text.declared.MarkLine.{MarkLine}
use Rattle.hwp_law.specs.Records.{is_by_hardware, who_in}

-- what stands for no command
abbrev pub no_command : ℕ
no_command = 2 ^ 32

-- the command of the processor at whose end a bank's event had poisoned a frame, with one mark more: an event of another processor
-- comes before all of its commands
abbrev pub reported_at : Cpu → MarkLine → ℕ
reported_at cpu m = cond ((who_in m).cpu.0 == cpu.0) (who_in m).seq 0

abbrev pub reported_by : Cpu → ℕ → MarkLine → ℕ
reported_by cpu n m = cond (is_by_hardware m) (min n (reported_at cpu m)) n

-- with a frame's record; and with those of all
abbrev pub reported_in : Cpu → ℕ → FrameLine → ℕ
reported_in cpu n line = fold (reported_by cpu) n line.marks

abbrev pub reported : Cpu → List FrameLine → ℕ
reported cpu frames = fold (reported_in cpu) no_command frames
