-- Which lines of a report break the rule of guests: answers that tell otherwise of an access than its guest admits it, and guests' lines.
use Rattle.std.specs.Prelude.{◌≡◌, ◌≢◌, ◌⊎◌, ℕ, ◌+◌, List, [], ◌∷◌, Option, Some, None, slice_get, take}
use Rattle.hwp_law.specs.hwp_geom.declared.Cpu.{Cpu}
use Rattle.hwp_law.specs.hwp_geom.declared.Layout.{Layout}
use Rattle.hwp_law.specs.hwp_script_words.declared.Command.{Command}
use Rattle.hwp_law.specs.hwp_script_words.declared.Script.{Script}
use Rattle.hwp_law.specs.hwp_report_text.declared.Answer.{Answer}
use Rattle.hwp_law.specs.hwp_report_text.declared.Answer.TheVariants as answers
use Rattle.hwp_law.specs.hwp_report_text.declared.CpuLine.{CpuLine}
use Rattle.hwp_law.specs.hwp_report_text.declared.CpuLine.TheVariants as lines
use Rattle.hwp_law.specs.hwp_report_text.declared.GuestLine.{GuestLine}
use Rattle.hwp_law.specs.hwp_report_text.declared.Report.{Report}
use Rattle.hwp_law.specs.GuestRule.{denied, guest_lines}
use Rattle.hwp_law.specs.Guests.{DoesNothing}
use Rattle.hwp_law.specs.Lines.{answered, guests_among}
use Rattle.hwp_check_rules.specs.Standing.{cpu_line, row_line}

-- an answer as the guest makes it, if this one is due where it doesn't admit the access: that one, or `stopped`, and nothing is done. Where
-- it admits the access, or no guest is asked, any answer but the two of guests
abbrev pub IsAdmitted : Option Answer → Answer → Type 0 → Type 0
IsAdmitted (Some due) answer Nothing = ((answer ≡ due) ⊎ (answer ≡ answers.Stopped)) × Nothing
IsAdmitted None answer Nothing = (answer ≢ answers.GuestBad) × (answer ≢ answers.GuestStopped)

-- the answer is another, or the command does something, by the earlier commands of the processor with their answers
pub record IsMisadmitted (script : Script) (report : Report) (cpu : Cpu) (commands : List Command) (rows : List CpuLine) (seq : ℕ) (answer : Answer) : Type 0 where
  pub command : Command
  pub made : slice_get commands seq ≡ Some command
  pub wrong : IsAdmitted (denied script.layout (take seq (answered commands rows)) command) answer (DoesNothing report (record { cpu = cpu; seq = seq })) → ⊥

-- the guest's line isn't that of the answer behind it
pub record IsMistold (layout : Layout) (commands : List Command) (rows : List CpuLine) (row : ℕ) (line : GuestLine) : Type 0 where
  pub command : Command
  pub answer : Answer
  pub made : slice_get commands line.seq ≡ Some command
  pub next : slice_get rows (row + 1) ≡ Some (lines.Answer line.seq answer)
  pub wrong : guest_lines layout line.seq command answer ≢ line ∷ []

-- the answer is one of which a guest has to be told, and the command has no guest's line
pub record LacksGuest (layout : Layout) (commands : List Command) (rows : List CpuLine) (seq : ℕ) (answer : Answer) : Type 0 where
  pub command : Command
  pub made : slice_get commands seq ≡ Some command
  pub due : guest_lines layout seq command answer ≢ []
  pub none : guests_among rows seq ≡ []

-- what is wrong about a line of a processor; and whether it is an answer whose guest's line lacks
abbrev pub IsGuestWrong : Script → Report → Cpu → List Command → List CpuLine → ℕ → CpuLine → Type 0
IsGuestWrong script report cpu commands rows row (lines.Answer seq answer) = IsMisadmitted script report cpu commands rows seq answer
IsGuestWrong script report cpu commands rows row (lines.Guest line) = IsMistold script.layout commands rows row line
IsGuestWrong script report cpu commands rows row _ = ⊥

abbrev pub IsGuestLacking : Layout → List Command → List CpuLine → CpuLine → Type 0
IsGuestLacking layout commands rows (lines.Answer seq answer) = LacksGuest layout commands rows seq answer
IsGuestLacking layout commands rows _ = ⊥

-- the first line of a processor where a guest's line lacks, or the line that is wrong
pub record IsGuestFault (script : Script) (report : Report) (line : ℕ) : Type 0 where
  pub cpu : Cpu
  pub commands : List Command
  pub rows : List CpuLine
  pub row : ℕ
  pub shown : CpuLine
  pub of_script : slice_get script.lists cpu.0 ≡ Some commands
  pub of_report : slice_get report.cpus cpu.0 ≡ Some rows
  pub there : slice_get rows row ≡ Some shown
  pub fault :
      (IsGuestLacking script.layout commands rows shown × (line ≡ cpu_line report cpu.0))
      ⊎ (IsGuestWrong script report cpu commands rows row shown × (line ≡ row_line report cpu.0 row))
