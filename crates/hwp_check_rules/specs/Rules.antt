-- The nine rules of a report, in their order, each by itself.
use Rattle.std.specs.Prelude.{◌≡◌, ◌↔◌, ℕ, Bool, true, cond, List, Some, IsBitSet, IsSome, count_by, length, slice_get, Option}
use Rattle.hwp_law.specs.hwp_geom.declared.Cpu.{Cpu}
use Rattle.hwp_law.specs.hwp_geom.declared.FileNo.{FileNo}
use Rattle.hwp_law.specs.hwp_geom.declared.Frame.{Frame}
use Rattle.hwp_law.specs.hwp_geom.declared.Page.{Page}
use Rattle.hwp_law.specs.hwp_geom.declared.Who.{Who}
use Rattle.hwp_law.specs.hwp_page.History.{IsReplay}
use Rattle.hwp_law.specs.hwp_page.declared.Entry.{Entry}
use Rattle.hwp_law.specs.hwp_page.declared.PageState.{PageState}
use Rattle.hwp_law.specs.hwp_script_words.declared.Command.{Command}
use Rattle.hwp_law.specs.hwp_script_words.declared.Command.TheVariants as commands
use Rattle.hwp_law.specs.hwp_script_words.declared.Script.{Script}
use Rattle.hwp_law.specs.hwp_report_text.declared.Answer.{Answer}
use Rattle.hwp_law.specs.hwp_report_text.declared.Answer.TheVariants as answers
use Rattle.hwp_law.specs.hwp_report_text.declared.CpuLine.{CpuLine}
use Rattle.hwp_law.specs.hwp_report_text.declared.CpuLine.TheVariants as lines
use Rattle.hwp_law.specs.hwp_report_text.declared.FrameLine.{FrameLine}
use Rattle.hwp_law.specs.hwp_report_text.declared.Report.{Report}
use Rattle.hwp_law.specs.hwp_report_text.declared.Stop.{Stop}
use Rattle.hwp_law.specs.Commands.{command_at}
use Rattle.hwp_law.specs.Answers.{AreInWindows}
use Rattle.hwp_law.specs.Endings.{EndingsStay}
use Rattle.hwp_law.specs.Entries.{AreMadeBy}
use Rattle.hwp_law.specs.Events.{AreEvents}
use Rattle.hwp_law.specs.Frames.{IsPlaced, WasDone, poisoned_count}
use Rattle.hwp_law.specs.Halts.{IsStopOf}
use Rattle.hwp_law.specs.History.{AreOrdered}
use Rattle.hwp_law.specs.Lines.{answered}
use Rattle.hwp_law.specs.Losses.{IsNumber, is_lost, losses_such, tells_number}
use Rattle.hwp_law.specs.Offlined.{AreOfflined}
use Rattle.hwp_law.specs.Pairings.{AreRecorded}
use Rattle.hwp_law.specs.Records.{IsFrameRecord, ends_poisoned}
use Rattle.hwp_law.specs.PageHistory.{is_of}
use Rattle.hwp_law.specs.SeenPolicies.{AreSeen, SeenNeverFalls}
use Rattle.hwp_law.specs.Stops.{StaysStopped}
use Rattle.hwp_check_rules.specs.Answered.{AreAnswered}
use Rattle.hwp_law.specs.Copies.{AreLastStores, AreNamed}
use Rattle.hwp_law.specs.hwp_geom.declared.VSlot.{VSlot}

-- 1: the report has the script's version, and as many files, frames, pages and processors
pub record ShapeFits (script : Script) (report : Report) : Type 0 where
  pub version : report.version ≡ script.layout.version
  pub files : length report.files ≡ script.layout.files
  pub frames : length report.frames ≡ script.layout.frames
  pub pages : length report.pages ≡ length script.layout.pages
  pub cpus : length report.cpus ≡ script.layout.cpus

-- 2: each history is legal from its opening, rises along each processor, and has entries that their commands make
abbrev pub AreLegal : Script → Report → Type 0
AreLegal script report = (page : Page) (entries : List Entry) → slice_get report.pages page.0 ≡ Some entries → (state : PageState) × IsReplay script.layout page entries state

pub record HistoriesFit (script : Script) (copies : Who → Option VSlot) (report : Report) : Type 0 where
  pub legal : AreLegal script report
  pub made : AreMadeBy script copies report.pages
  pub ordered : AreOrdered report.pages

-- 3: each command has one answer, in order, and answers, events and frames taken out of use are such as the histories and records show
abbrev pub AreAllAnswered : Script → Report → Type 0
AreAllAnswered script report = (cpu : Cpu) (commands : List Command) (rows : List CpuLine) → slice_get script.lists cpu.0 ≡ Some commands → slice_get report.cpus cpu.0 ≡ Some rows → AreAnswered script report cpu commands rows

pub record AnswersFit (script : Script) (copies : Who → Option VSlot) (report : Report) : Type 0 where
  pub answered : AreAllAnswered script report
  pub named : AreNamed copies report.pages report.cpus
  pub last : AreLastStores copies report
  pub windows : AreInWindows report.pages report.cpus
  pub endings : EndingsStay script report
  pub events : AreEvents script copies report
  pub offlined : (who : Who) (command : Command) → command_at script who ≡ Some command → AreOfflined script report who

-- 4: each policy seen is one that the thread had, and along a processor's commands none is older than the one before
pub record SeenFit (script : Script) (report : Report) : Type 0 where
  pub right : AreSeen script report
  pub falls_never : SeenNeverFalls report

-- 5: the records of frames alternate, and have beside them entries, lines of commands and events
pub record MarksFit (script : Script) (report : Report) : Type 0 where
  pub kept : (frame : Frame) (kernel : Bool) (line : FrameLine) → slice_get script.layout.kernel frame.0 ≡ Some kernel → slice_get report.frames frame.0 ≡ Some line → IsFrameRecord script report kernel frame
  pub recorded : (who : Who) → AreRecorded script report who

-- 6: the count is the number of frames whose record ends in a poisoning
abbrev pub CountFits : Report → Type 0
CountFits report = report.count ≡ poisoned_count report.frames

-- 7: what the report says of each file is the number of its losses, and each number that a processor was told of it is right
pub record IsTold (script : Script) (report : Report) (file : FileNo) (lost : ℕ) : Type 0 where
  pub lost_is : lost ≡ losses_such is_lost script report file
  pub numbers : (cpu : Cpu) (list : List Command) (rows : List CpuLine) → slice_get script.lists cpu.0 ≡ Some list → slice_get report.cpus cpu.0 ≡ Some rows
      → (i : ℕ) (p : Command × Answer) → slice_get {X = Command × Answer} (answered list rows) i ≡ Some p
      → tells_number file p.0 p.1 ≡ true → IsNumber script report file cpu (answered list rows) i

abbrev pub LossesFit : Script → Report → Type 0
LossesFit script report = (file : FileNo) (lost : ℕ) → slice_get report.files file.0 ≡ Some lost → IsTold script report file lost

-- 8: the stop is none exactly where no answer is `stopped`, else that of a command which stopped the machine; and a processor
-- stays stopped
pub record StopFits (script : Script) (report : Report) : Type 0 where
  pub told : (cpu : Cpu) (rows : List CpuLine) (row seq : ℕ) → slice_get report.cpus cpu.0 ≡ Some rows → slice_get rows row ≡ Some (lines.Answer seq answers.Stopped) → IsSome report.stop
  pub caused : (stop : Stop) → report.stop ≡ Some stop → IsStopOf script report stop
  pub stays : (cpu : Cpu) (rows : List CpuLine) → slice_get report.cpus cpu.0 ≡ Some rows → StaysStopped rows

-- a frame's line has the place that the layout and its record say, and the bad and weak lines that commands marked
pub record IsFrameShown (script : Script) (report : Report) (kernel : Bool) (frame : Frame) (line : FrameLine) : Type 0 where
  pub place : IsPlaced script.layout kernel (ends_poisoned line.marks) line.place
  pub bad : (n : ℕ) → IsBitSet line.bad.0 n ↔ WasDone script report (commands.Bad frame n)
  pub weak : (n : ℕ) → IsBitSet line.weak.0 n ↔ WasDone script report (commands.Weak frame n)

-- 9: each frame's line is right, and a page is cached exactly where one frame says it
pub record FramesFit (script : Script) (report : Report) : Type 0 where
  pub shown : (frame : Frame) (kernel : Bool) (line : FrameLine) → slice_get script.layout.kernel frame.0 ≡ Some kernel → slice_get report.frames frame.0 ≡ Some line → IsFrameShown script report kernel frame line
  pub held : (page : Page) (entries : List Entry) (state : PageState) → slice_get report.pages page.0 ≡ Some entries → IsReplay script.layout page entries state → count_by (λ (f : FrameLine). is_of page f.place) report.frames ≡ cond state.cached 1 0
