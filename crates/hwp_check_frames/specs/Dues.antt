-- The frames that each command of a processor takes out of use, by its notes.
use Rattle.std.specs.Prelude.{◌≡◌, ℕ, List, Option, Some, None, length, slice_get, take}
use Rattle.hwp_check_rules.specs.hwp_geom.declared.Cpu.{Cpu}
use Rattle.hwp_check_rules.specs.hwp_geom.declared.Frame.{Frame}
use Rattle.hwp_check_rules.specs.hwp_geom.declared.Layout.{Layout}
use Rattle.hwp_check_rules.specs.hwp_geom.declared.Who.{Who}
use Rattle.hwp_check_rules.specs.hwp_script_words.declared.Command.{Command}
use Rattle.hwp_check_rules.specs.hwp_report_text.declared.CpuLine.{CpuLine}
use Rattle.hwp_check_rules.specs.hwp_law.Notes.{notes}
use Rattle.hwp_check_rules.specs.hwp_law.Watched.{Watched, due}
use Rattle.hwp_check_rules.specs.hwp_law.Lines.{answered, events_among}
use Rattle.hwp_check_rules.specs.hwp_law.Offlined.{watched_from}

-- the command of a processor with this number
abbrev pub who_at : Cpu → ℕ → Who
who_at cpu seq = record { cpu = cpu; seq = seq }

-- the collector of a processor before the command with this number
abbrev pub watched_at : Layout → List Command → List CpuLine → ℕ → Option Watched
watched_at layout list rows seq = watched_from layout rows 0 (take seq (answered list rows)) None

-- the frames that the command with this number takes out of use
abbrev pub due_at : Layout → List Command → List CpuLine → ℕ → List Frame
due_at layout list rows seq = due (watched_at layout list rows seq) (notes layout (events_among rows seq))

-- of the first commands, so many, a list each has them
pub record AreDues (layout : Layout) (list : List Command) (rows : List CpuLine) (count : ℕ) (dues : List (List Frame)) : Type 0 where
  pub many : length dues ≡ count
  pub each : (seq : ℕ) (frames : List Frame) → slice_get dues seq ≡ Some frames → frames ≡ due_at layout list rows seq
