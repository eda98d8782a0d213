-- The lines of frames: where each is, which of its lines are marked, and how many are poisoned.
use Rattle.std.specs.Prelude.{◌≡◌, ◌↔◌, ℕ, ◌<◌, Bool, true, false, List, Some, length, count_by, IsBitSet}
use Rattle.hwp_script_words.specs.hwp_geom.declared.Frame.{Frame}
use Rattle.hwp_script_words.specs.hwp_geom.declared.Layout.{Layout}
use Rattle.hwp_script_words.specs.hwp_geom.declared.Who.{Who}
use Rattle.hwp_script_words.specs.declared.Command.{Command}
use Rattle.hwp_script_words.specs.declared.Command.TheVariants as commands
use Rattle.hwp_script_words.specs.declared.Script.{Script}
use Rattle.hwp_report_text.specs.declared.Answer.TheVariants as answers
use Rattle.hwp_report_text.specs.declared.FrameLine.{FrameLine}
use Rattle.hwp_report_text.specs.declared.Whereabouts.{Whereabouts}
use Rattle.hwp_report_text.specs.declared.Whereabouts.TheVariants as places
use Rattle.hwp_report_text.specs.declared.Report.{Report}
use Rattle.hwp_law.specs.Lines.{answer_of}
use Rattle.hwp_law.specs.Commands.{command_at}
use Rattle.hwp_law.specs.Records.{IsFrameRecord, ends_poisoned}

-- a frame's place fits the layout and its record: `kernel` is by the layout, and `handled` exactly where another frame is
-- poisoned
abbrev pub IsPlaced : Layout → Bool → Bool → Whereabouts → Type 0
IsPlaced layout kernel poisoned places.Free = (kernel ≡ false) × (poisoned ≡ false)
IsPlaced layout kernel poisoned places.Kernel = kernel ≡ true
IsPlaced layout kernel poisoned places.Handled = (kernel ≡ false) × (poisoned ≡ true)
IsPlaced layout kernel poisoned (places.Of page) = (kernel ≡ false) × (poisoned ≡ false) × (page.0 < length layout.pages)

-- the command was made, and answered `done`
pub record WasDone (script : Script) (report : Report) (command : Command) : Type 0 where
  pub who : Who
  pub made : command_at script who ≡ Some command
  pub answered : answer_of report who ≡ Some answers.Done

-- the line of a frame
pub record IsFrameLine (script : Script) (report : Report) (kernel : Bool) (frame : Frame) (line : FrameLine) : Type 0 where
  pub place : IsPlaced script.layout kernel (ends_poisoned line.marks) line.place
  pub bad : (n : ℕ) → IsBitSet line.bad.0 n ↔ WasDone script report (commands.Bad frame n)
  pub weak : (n : ℕ) → IsBitSet line.weak.0 n ↔ WasDone script report (commands.Weak frame n)
  pub kept : IsFrameRecord script report kernel frame

-- the frames whose record ends in a poisoning
abbrev pub poisoned_count : List FrameLine → ℕ
poisoned_count frames = count_by (λ (l : FrameLine). ends_poisoned l.marks) frames
