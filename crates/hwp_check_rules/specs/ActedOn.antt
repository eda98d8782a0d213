-- The script that was acted on, and which stores copied, as lists.
use Rattle.std.specs.Prelude.{◌≡◌, ℕ, ◌<◌, ◌==◌, ◌&&◌, ◌||◌, List, [], Option, Some, None, get_or, length, option_and_then, option_map, slice_get, slice_set, take, unwrap_or}
use Rattle.hwp_law.specs.hwp_geom.declared.Layout.{Layout}
use Rattle.hwp_law.specs.hwp_geom.declared.VSlot.{VSlot}
use Rattle.hwp_law.specs.Cows.{Cow, acting, copied_from}
use Rattle.hwp_law.specs.hwp_report_text.declared.Answer.{Answer}
use Rattle.hwp_law.specs.hwp_report_text.declared.Answer.TheVariants as answers
use Rattle.hwp_law.specs.hwp_report_text.declared.CpuLine.{CpuLine}
use Rattle.hwp_law.specs.hwp_report_text.declared.CpuLine.TheVariants as lines
use Rattle.hwp_law.specs.hwp_report_text.declared.Report.{Report}
use Rattle.hwp_law.specs.hwp_script_words.declared.Command.{Command}
use Rattle.hwp_law.specs.hwp_script_words.declared.Script.{Script}
use Rattle.hwp_law.specs.Acting.{acting_from}
use Rattle.hwp_law.specs.Lines.{answered, answers_to}
use Rattle.hwp_check_rules.specs.declared.cows.CowFlags.{CowFlags}

-- the flags of a translation, as the law has them
abbrev pub cow_in : CowFlags → Cow
cow_in flags = record { frozen = flags.frozen; switched = flags.switched }

-- the flags after a store through another, or the same, with this answer
abbrev pub stored_after : VSlot → VSlot → Answer → Cow → Cow
stored_after slot other (answers.Stored at) c = record c { switched = c.switched || (c.frozen && (other.0 == slot.0)) }
stored_after slot other answer c = c

-- the answers of commands with a line of their processor noted: an answer is that of the command with its number
abbrev pub noted : CpuLine → List Answer → List Answer
noted (lines.Event event) given = given
noted (lines.Offlined offlined) given = given
noted (lines.Guest guest) given = given
noted (lines.Answer seq answer) given = slice_set given seq answer

-- the first n commands of a processor, as it acted on them
pub record AreActed (layout : Layout) (pairs : List (Command × Answer)) (commands : List Command) (n : ℕ) (list : List Command) : Type 0 where
  pub many : length list ≡ n
  pub each : (i : ℕ) → i < n → slice_get list i ≡ option_map (acting layout (take i pairs)) (slice_get commands i)

-- the translations that they copied from
pub record AreCopied (layout : Layout) (pairs : List (Command × Answer)) (commands : List Command) (n : ℕ) (list : List (Option VSlot)) : Type 0 where
  pub many : length list ≡ n
  pub each : (i : ℕ) → i < n → get_or list i None ≡ option_and_then (copied_from layout (take i pairs)) (slice_get commands i)

-- so for the first n processors
pub record IsActedOn (script : Script) (report : Report) (lists : List (List Command)) (copies : List (List (Option VSlot))) (n : ℕ) : Type 0 where
  pub many : length lists ≡ n
  pub copied_many : length copies ≡ n
  pub each :
      (cpu : ℕ) (commands : List Command) → cpu < n → slice_get script.lists cpu ≡ Some commands
      → slice_get lists cpu ≡ Some (acting_from script.layout [] commands (answers_to commands (unwrap_or (slice_get report.cpus cpu) [])))
  pub copied :
      (cpu : ℕ) (commands : List Command) (list : List (Option VSlot)) → cpu < n → slice_get script.lists cpu ≡ Some commands → slice_get copies cpu ≡ Some list
      → (i : ℕ) → get_or list i None ≡ option_and_then (copied_from script.layout (take i (answered commands (unwrap_or (slice_get report.cpus cpu) [])))) (slice_get commands i)
