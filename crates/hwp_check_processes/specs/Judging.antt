-- Which lines of a processor are wrong by the rule of guests, by which of its commands guests admit, which do something, and which have a
-- guest's line.
use Rattle.std.specs.Prelude.{◌≡◌, ◌≢◌, ℕ, ◌+◌, ◌<◌, ◌==◌, ◌⊎◌, Bool, true, false, List, [], Option, Some, None, if◌then◌else◌, length, option_and_then, slice_get, slice_index_or, take}
use Rattle.std.specs.List.{list_any}
use Rattle.hwp_check_rules.specs.hwp_geom.declared.Cpu.{Cpu}
use Rattle.hwp_check_rules.specs.hwp_geom.declared.Layout.{Layout}
use Rattle.hwp_check_rules.specs.hwp_guest.declared.Admit.{Admit}
use Rattle.hwp_check_rules.specs.hwp_guest.declared.Admit.TheVariants as admissions
use Rattle.hwp_check_rules.specs.hwp_script_words.declared.Command.{Command}
use Rattle.hwp_check_rules.specs.hwp_script_words.declared.Script.{Script}
use Rattle.hwp_check_rules.specs.hwp_report_text.declared.Answer.{Answer}
use Rattle.hwp_check_rules.specs.hwp_report_text.declared.Answer.TheVariants as answers
use Rattle.hwp_check_rules.specs.hwp_report_text.declared.CpuLine.{CpuLine}
use Rattle.hwp_check_rules.specs.hwp_report_text.declared.CpuLine.TheVariants as lines
use Rattle.hwp_check_rules.specs.hwp_report_text.declared.Report.{Report}
use Rattle.hwp_check_rules.specs.hwp_law.Guests.{DoesNothing}
use Rattle.hwp_check_rules.specs.hwp_law.Lines.{answered}
use Rattle.hwp_check_rules.specs.hwp_law.GuestRule.{denial, denied, guest_lines}
use Rattle.hwp_check_rules.specs.GuestFaults.{IsAdmitted, IsGuestLacking, IsGuestWrong, IsMistold}
use Rattle.hwp_check_rules.specs.Standing.{cpu_line, row_line}
use Rattle.hwp_check_processes.specs.Telling.{is_guest_of}

-- the answer is one of the two of guests; and it can be that of an access that isn't admitted
abbrev pub says_denied : Answer → Bool
says_denied answers.GuestBad = true
says_denied answers.GuestStopped = true
says_denied answer = false

abbrev pub says_bad : Answer → Bool
says_bad answers.GuestBad = true
says_bad answers.Stopped = true
says_bad answer = false

abbrev pub says_stopped : Answer → Bool
says_stopped answers.GuestStopped = true
says_stopped answers.Stopped = true
says_stopped answer = false

-- the answer of the command with the number, if the line is one; and if it stands right behind a row
abbrev pub answer_by : ℕ → CpuLine → Option Answer
answer_by seq (lines.Answer number answer) = if number == seq then Some answer else None
answer_by seq line = None

abbrev pub answer_behind : List CpuLine → ℕ → ℕ → Option Answer
answer_behind rows row seq = option_and_then (answer_by seq) (slice_get rows (row + 1))

-- the command with the number has to be answered otherwise, or does something where it has to do nothing
pub record IsMisadmittedBy (commands : List Command) (admits : List Admit) (flags : List Bool) (seq : ℕ) (answer : Answer) : Type 0 where
  pub command : Command
  pub made : slice_get commands seq ≡ Some command
  pub wrong : IsAdmitted (denial (slice_index_or admits seq admissions.Yes)) answer (slice_index_or flags seq false ≡ false) → ⊥

-- the line in a row is a wrong answer, or a wrong line of a guest
abbrev pub IsWrongBy : Layout → List Command → List CpuLine → List Admit → List Bool → ℕ → CpuLine → Type 0
IsWrongBy layout commands rows admits flags row (lines.Answer seq answer) = IsMisadmittedBy commands admits flags seq answer
IsWrongBy layout commands rows admits flags row (lines.Guest line) = IsMistold layout commands rows row line
IsWrongBy layout commands rows admits flags row line = ⊥

-- none of the first n lines is; or this is the first that is
abbrev pub AreRight : Layout → List Command → List CpuLine → List Admit → List Bool → ℕ → Type 0
AreRight layout commands rows admits flags n = (row : ℕ) (line : CpuLine) → row < n → slice_get rows row ≡ Some line → IsWrongBy layout commands rows admits flags row line → ⊥

pub record IsFirstWrong (layout : Layout) (commands : List Command) (rows : List CpuLine) (admits : List Admit) (flags : List Bool) (row : ℕ) : Type 0 where
  pub line : CpuLine
  pub there : slice_get rows row ≡ Some line
  pub wrong : IsWrongBy layout commands rows admits flags row line
  pub before : AreRight layout commands rows admits flags row

-- the answer is one of which a guest has to be told, and the flags show no guest's line of the command
pub record LacksGuestBy (layout : Layout) (commands : List Command) (told : List Bool) (seq : ℕ) (answer : Answer) : Type 0 where
  pub command : Command
  pub made : slice_get commands seq ≡ Some command
  pub due : guest_lines layout seq command answer ≢ []
  pub none : slice_index_or told seq false ≡ false

abbrev pub IsLackingBy : Layout → List Command → List Bool → CpuLine → Type 0
IsLackingBy layout commands told (lines.Answer seq answer) = LacksGuestBy layout commands told seq answer
IsLackingBy layout commands told line = ⊥

-- of each command of which a guest may have to be told, the flags show whether it has a guest's line
abbrev pub AreTold : Layout → List Command → List CpuLine → List Bool → Type 0
AreTold layout commands rows told = (seq : ℕ) (command : Command) (answer : Answer) → slice_get commands seq ≡ Some command → guest_lines layout seq command answer ≢ []
    → slice_index_or told seq false ≡ list_any (is_guest_of seq) rows

-- the guest's line of none of the first n lines lacks; or this is the first whose guest's line does
abbrev pub AreEnough : Layout → List Command → List CpuLine → ℕ → Type 0
AreEnough layout commands rows n = (row : ℕ) (line : CpuLine) → row < n → slice_get rows row ≡ Some line → IsGuestLacking layout commands rows line → ⊥

pub record IsFirstLacking (layout : Layout) (commands : List Command) (rows : List CpuLine) (row : ℕ) : Type 0 where
  pub line : CpuLine
  pub there : slice_get rows row ≡ Some line
  pub lacks : IsGuestLacking layout commands rows line
  pub before : AreEnough layout commands rows row

-- what is known of a processor's commands is right: which accesses guests don't admit, which of those do something, and which commands have a
-- guest's line
pub record IsKnown (layout : Layout) (report : Report) (cpu : Cpu) (commands : List Command) (rows : List CpuLine) (admits : List Admit) (flags told : List Bool) : Type 0 where
  pub told_is : AreTold layout commands rows told
  pub denied_is : (seq : ℕ) (command : Command) → slice_get commands seq ≡ Some command → denial (slice_index_or admits seq admissions.Yes) ≡ denied layout (take seq (answered commands rows)) command
  pub idle : (seq : ℕ) (command : Command) (due : Answer) → slice_get commands seq ≡ Some command → denied layout (take seq (answered commands rows)) command ≡ Some due
      → slice_index_or flags seq false ≡ false → DoesNothing report (record { cpu = cpu; seq = seq })
  pub nothing : (seq : ℕ) (command : Command) (due : Answer) → slice_get commands seq ≡ Some command → denied layout (take seq (answered commands rows)) command ≡ Some due
      → DoesNothing report (record { cpu = cpu; seq = seq }) → slice_index_or flags seq false ≡ false

-- no line of a processor breaks the rule; or this line of the report is the first of the processor that does
pub record HasNoFault (script : Script) (report : Report) (cpu : Cpu) (commands : List Command) (rows : List CpuLine) : Type 0 where
  pub enough : AreEnough script.layout commands rows (length rows)
  pub right : (row : ℕ) (line : CpuLine) → slice_get rows row ≡ Some line → IsGuestWrong script report cpu commands rows row line → ⊥

abbrev pub HasNoFaultOn : Script → Report → Cpu → Type 0
HasNoFaultOn script report cpu = (commands : List Command) (rows : List CpuLine) → slice_get script.lists cpu.0 ≡ Some commands → slice_get report.cpus cpu.0 ≡ Some rows → HasNoFault script report cpu commands rows

-- the first wrong line, where no guest's line lacks
pub record IsFirstIn (script : Script) (report : Report) (cpu : Cpu) (commands : List Command) (rows : List CpuLine) (row : ℕ) : Type 0 where
  pub line : CpuLine
  pub there : slice_get rows row ≡ Some line
  pub enough : AreEnough script.layout commands rows (length rows)
  pub wrong : IsGuestWrong script report cpu commands rows row line
  pub before : (other : ℕ) (line : CpuLine) → other < row → slice_get rows other ≡ Some line → IsGuestWrong script report cpu commands rows other line → ⊥

pub record IsFirstOn (script : Script) (report : Report) (cpu : Cpu) (line : ℕ) : Type 0 where
  pub commands : List Command
  pub rows : List CpuLine
  pub of_script : slice_get script.lists cpu.0 ≡ Some commands
  pub of_report : slice_get report.cpus cpu.0 ≡ Some rows
  pub first :
      ((row : ℕ) × IsFirstLacking script.layout commands rows row × (line ≡ cpu_line report cpu.0))
      ⊎ ((row : ℕ) × IsFirstIn script report cpu commands rows row × (line ≡ row_line report cpu.0 row))
