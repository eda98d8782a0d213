-- The whole law of a report, of all commands: also where memory fails, machine checks come and the machine stops.
use Rattle.std.specs.Prelude.{◌≡◌, Bool, List, Option, Some, length, slice_get}
use Rattle.hwp_script_words.specs.hwp_geom.declared.Cpu.{Cpu}
use Rattle.hwp_script_words.specs.hwp_geom.declared.Frame.{Frame}
use Rattle.hwp_script_words.specs.hwp_geom.declared.Page.{Page}
use Rattle.hwp_script_words.specs.hwp_geom.declared.VSlot.{VSlot}
use Rattle.hwp_script_words.specs.hwp_geom.declared.Who.{Who}
use Rattle.hwp_report_text.specs.hwp_page.declared.Entry.{Entry}
use Rattle.hwp_script_words.specs.declared.Command.{Command}
use Rattle.hwp_script_words.specs.declared.Script.{Script}
use Rattle.hwp_report_text.specs.declared.CpuLine.{CpuLine}
use Rattle.hwp_report_text.specs.declared.FrameLine.{FrameLine}
use Rattle.hwp_report_text.specs.declared.Report.{Report}
use Rattle.hwp_law.specs.Commands.{command_at}
use Rattle.hwp_law.specs.Acting.{acting_script, copied_at}
use Rattle.hwp_law.specs.Answers.{AreInWindows}
use Rattle.hwp_law.specs.Causes.{AreCaused}
use Rattle.hwp_law.specs.Copies.{AreLastStores, AreNamed}
use Rattle.hwp_law.specs.Events.{AreEvents}
use Rattle.hwp_law.specs.Endings.{EndingsStay}
use Rattle.hwp_law.specs.Entries.{AreMadeBy}
use Rattle.hwp_law.specs.Frames.{IsFrameLine, poisoned_count}
use Rattle.hwp_law.specs.Guests.{AreGuestsKept}
use Rattle.hwp_law.specs.Halts.{StopAgrees}
use Rattle.hwp_law.specs.History.{AreOrdered}
use Rattle.hwp_law.specs.Losses.{LossesAgree}
use Rattle.hwp_law.specs.Pairings.{AreRecorded}
use Rattle.hwp_law.specs.Offlined.{AreOfflined}
use Rattle.hwp_law.specs.PageHistory.{IsHistory}
use Rattle.hwp_law.specs.Private.{ArePrivate}
use Rattle.hwp_law.specs.SeenPolicies.{AreSeen, SeenNeverFalls}

-- the report is of the script's version, with a line, a history or lines for each frame, page and processor of the script
pub record HasShape (script : Script) (report : Report) : Type 0 where
  pub version : report.version ≡ script.layout.version
  pub frames : length report.frames ≡ script.layout.frames
  pub pages : length report.pages ≡ length script.layout.pages
  pub cpus : length report.cpus ≡ script.layout.cpus

-- the histories of pages: legal, and of entries that their commands make
pub record HistoriesFit (script : Script) (copies : Who → Option VSlot) (report : Report) : Type 0 where
  pub legal : (page : Page) (entries : List Entry) → slice_get report.pages page.0 ≡ Some entries → IsHistory script.layout report.frames page entries
  pub made : AreMadeBy script copies report.pages
  pub ordered : AreOrdered report.pages
  pub seen : AreSeen script report
  pub falls_never : SeenNeverFalls report

-- the lines of processors: answers, each with its cause, events, and frames taken out of use beside an answer
pub record AnswersFit (script : Script) (copies : Who → Option VSlot) (report : Report) : Type 0 where
  pub caused : (cpu : Cpu) (commands : List Command) (lines : List CpuLine) → slice_get script.lists cpu.0 ≡ Some commands → slice_get report.cpus cpu.0 ≡ Some lines → AreCaused script report cpu 0 commands lines
  pub named : AreNamed copies report.pages report.cpus
  pub last : AreLastStores copies report
  pub windows : AreInWindows report.pages report.cpus
  pub endings : EndingsStay script report
  pub events : AreEvents script copies report
  pub offlined : (who : Who) (command : Command) → command_at script who ≡ Some command → AreOfflined script report who
  pub stop : StopAgrees script report

-- the lines of frames, what their records have beside them, and how many are poisoned
pub record FramesFit (script : Script) (report : Report) : Type 0 where
  pub lines : (frame : Frame) (kernel : Bool) (line : FrameLine) → slice_get script.layout.kernel frame.0 ≡ Some kernel → slice_get report.frames frame.0 ≡ Some line → IsFrameLine script report kernel frame line
  pub recorded : (who : Who) → AreRecorded script report who
  pub count : report.count ≡ poisoned_count report.frames

-- the report is one of a run of the script: it is judged by what the processors acted on, by what forked processes read, and by what
-- guests were told
pub record IsLawful (script : Script) (report : Report) : Type 0 where
  pub shape : HasShape script report
  pub histories : HistoriesFit (acting_script script report) (copied_at script report) report
  pub answers : AnswersFit (acting_script script report) (copied_at script report) report
  pub frames : FramesFit (acting_script script report) report
  pub losses : LossesAgree script report
  pub private : ArePrivate script report
  pub guests : AreGuestsKept script report
