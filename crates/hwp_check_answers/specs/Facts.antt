-- What is known of the commands of one processor by their numbers.
use Rattle.std.specs.Prelude.{◌≡◌, ◌<◌, ℕ, false, List, Some, length, replicate, slice_get, take, Option}
use Rattle.hwp_check_evidence.specs.hwp_geom.declared.Cpu.{Cpu}
use Rattle.hwp_check_evidence.specs.hwp_geom.declared.Who.{Who}
use Rattle.hwp_check_evidence.specs.hwp_script_words.declared.Command.{Command}
use Rattle.hwp_check_evidence.specs.hwp_script_words.declared.Script.{Script}
use Rattle.hwp_check_evidence.specs.hwp_report_text.declared.Answer.{Answer}
use Rattle.hwp_check_evidence.specs.hwp_report_text.declared.CpuLine.{CpuLine}
use Rattle.hwp_check_evidence.specs.hwp_report_text.declared.CpuLine.TheVariants as lines
use Rattle.hwp_check_evidence.specs.hwp_report_text.declared.Report.{Report}
use Rattle.hwp_check_evidence.specs.hwp_law.Lines.{seq_of}
use Rattle.hwp_check_evidence.specs.hwp_law.Offlined.{IsOffline}
use Rattle.hwp_check_evidence.specs.Counts.{AreCounts, AreFlags}
use Rattle.hwp_check_evidence.specs.Firsts.{AreNames, is_named}
use Rattle.hwp_check_evidence.specs.Named.{flagged_pages}
use Rattle.hwp_check_rules.specs.AnswerFaults.{IsAnswerWrong}
use Rattle.hwp_check_causes.specs.Befores.{AreBefore}
use Rattle.hwp_check_answers.specs.Judging.{IsGood}
use Rattle.hwp_check_causes.specs.Knowing.{IsKnown, IsOwn}
use Rattle.hwp_check_answers.specs.declared.facts.Facts.{Facts}
use Rattle.hwp_check_answers.specs.declared.judging.Naming.{Naming}
use Rattle.hwp_check_causes.specs.declared.ReportFacts.{ReportFacts}
use Rattle.hwp_check_causes.specs.declared.ProcessorFacts.{ProcessorFacts}
use Rattle.hwp_check_evidence.specs.hwp_geom.declared.VSlot.{VSlot}
use Rattle.hwp_check_evidence.specs.hwp_geom.declared.Layout.{Layout}

-- the policies, the events and the ends of the commands
pub record AreFacts (layout : Layout) (commands : List Command) (rows : List CpuLine) (facts : Facts) : Type 0 where
  pub policies : AreBefore layout commands rows facts.policies.items
  pub counts_many : length facts.counts.items ≡ length commands
  pub counts : AreCounts rows facts.counts.items
  pub ends_many : length facts.ends.items ≡ length commands
  pub ends : AreFlags rows facts.ends.items

-- the entries that the commands' lines name
pub record AreNamings (copies : Who → Option VSlot) (report : Report) (cpu : Cpu) (commands : List Command) (rows : List CpuLine) (naming : Naming) : Type 0 where
  pub names : AreNames (length commands) rows naming.names
  pub many : length naming.others.items ≡ length commands
  pub others : naming.others.items ≡ flagged_pages (is_named naming.names) copies cpu (replicate (length commands) false) 0 report.pages

abbrev pub at_number : Cpu → ℕ → Who
at_number cpu seq = record { cpu = cpu; seq = seq }

-- nothing is wrong about a line of the command: an answer is good, and the report shows the cause of what came of a frame that was taken
-- out of use beside it
abbrev pub IsGoodOf : Script → (Who → Option VSlot) → Report → Cpu → List CpuLine → Command → CpuLine → Type 0
IsGoodOf script copies report cpu before command (lines.Answer seq answer) = IsGood script copies report before (at_number cpu seq) command answer
IsGoodOf script copies report cpu before command (lines.Offlined line) = IsOffline script report (at_number cpu line.seq) line.frame line.result
IsGoodOf script copies report cpu before command _ = Unit {0}

-- or something is
abbrev pub IsBadOf : Script → (Who → Option VSlot) → Report → Cpu → List CpuLine → Command → CpuLine → Type 0
IsBadOf script copies report cpu before command (lines.Answer seq answer) = IsAnswerWrong script copies report before (at_number cpu seq) command answer
IsBadOf script copies report cpu before command (lines.Offlined line) = IsOffline script report (at_number cpu line.seq) line.frame line.result → ⊥
IsBadOf script copies report cpu before command _ = ⊥

-- the same of a line, if it is of a command
abbrev pub IsGoodRow : Script → (Who → Option VSlot) → Report → Cpu → List Command → List CpuLine → CpuLine → Type 0
IsGoodRow script copies report cpu commands before line = (command : Command) → slice_get commands (seq_of line) ≡ Some command → IsGoodOf script copies report cpu before command line

pub record IsBadRow (script : Script) (copies : Who → Option VSlot) (report : Report) (cpu : Cpu) (commands : List Command) (before : List CpuLine) (line : CpuLine) : Type 0 where
  pub command : Command
  pub made : slice_get commands (seq_of line) ≡ Some command
  pub wrong : IsBadOf script copies report cpu before command line

-- the first lines are good
abbrev pub AreGoodRows : Script → (Who → Option VSlot) → Report → Cpu → List Command → List CpuLine → ℕ → Type 0
AreGoodRows script copies report cpu commands rows n = (row : ℕ) (line : CpuLine) → row < n → slice_get rows row ≡ Some line → IsGoodRow script copies report cpu commands (take row rows) line

-- this is the first that isn't
pub record IsFirstBad (script : Script) (copies : Who → Option VSlot) (report : Report) (cpu : Cpu) (commands : List Command) (rows : List CpuLine) (end row : ℕ) : Type 0 where
  pub line : CpuLine
  pub within : row < end
  pub there : slice_get rows row ≡ Some line
  pub bad : IsBadRow script copies report cpu commands (take row rows) line
  pub before : AreGoodRows script copies report cpu commands rows row

-- all that is known of a processor, whose commands and lines these are
pub record IsReady (script : Script) (copies : Who → Option VSlot) (report : Report) (cpu : Cpu) (commands : List Command) (rows : List CpuLine) (known : ReportFacts) (own : ProcessorFacts) (facts : Facts) (naming : Naming) : Type 0 where
  pub of_script : slice_get script.lists cpu.0 ≡ Some commands
  pub of_report : slice_get report.cpus cpu.0 ≡ Some rows
  pub report_known : IsKnown script report known
  pub own_known : IsOwn script report cpu own
  pub are_facts : AreFacts script.layout commands rows facts
  pub are_named : AreNamings copies report cpu commands rows naming
