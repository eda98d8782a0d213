-- How many event lines each command has, and whether one of them ended the machine's run.
use Rattle.std.specs.Prelude.{◌≡◌, ℕ, ◌+◌, ◌<◌, ◌≤◌, ◌||◌, Bool, true, false, cond, List, length, slice_index_or, slice_set}
use Rattle.std.specs.List.{list_any}
use Rattle.hwp_law.specs.hwp_report_text.declared.CpuLine.{CpuLine}
use Rattle.hwp_law.specs.hwp_report_text.declared.CpuLine.TheVariants as lines
use Rattle.hwp_law.specs.Notes.{ends_machine}
use Rattle.hwp_law.specs.hwp_report_text.Acts.{is_panic, is_stopping}
use Rattle.hwp_law.specs.Lines.{events_among}

-- the counts with a line more
abbrev pub counted : List ℕ → CpuLine → List ℕ
counted counts (lines.Event event) = slice_set counts event.seq (slice_index_or counts event.seq 0 + 1)
counted counts (lines.Offlined offlined) = counts
counted counts (lines.Guest guest) = counts
counted counts (lines.Answer seq answer) = counts

-- and the flags
abbrev pub flagged_by : List Bool → CpuLine → List Bool
flagged_by flags (lines.Event event) = cond (is_stopping event.acted || is_panic event.acted) (slice_set flags event.seq true) flags
flagged_by flags (lines.Offlined offlined) = flags
flagged_by flags (lines.Guest guest) = flags
flagged_by flags (lines.Answer seq answer) = flags

-- no command has more than so many
abbrev pub AreFew : ℕ → List ℕ → Type 0
AreFew n counts = (seq : ℕ) → slice_index_or counts seq 0 ≤ n

-- these are the counts, and the flags, of the first commands
abbrev pub AreCounts : List CpuLine → List ℕ → Type 0
AreCounts rows counts = (seq : ℕ) → seq < length counts → slice_index_or counts seq 0 ≡ length (events_among rows seq)

abbrev pub AreFlags : List CpuLine → List Bool → Type 0
AreFlags rows flags = (seq : ℕ) → seq < length flags → slice_index_or flags seq false ≡ list_any ends_machine (events_among rows seq)
