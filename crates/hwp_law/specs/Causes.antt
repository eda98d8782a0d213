-- What stands in a report for each answer.
use Rattle.std.specs.Prelude.{◌≡◌, ◌≢◌, ℕ, ◌+◌, ◌<◌, true, false, List, [], ◌∷◌, Some, length, bit_and, IsSome, IsSomeAnd, Any}
use Rattle.std.specs.List.{list_any}
use Rattle.hwp_script_words.specs.hwp_geom.Layout.{is_locked}
use Rattle.hwp_script_words.specs.hwp_geom.declared.Cpu.{Cpu}
use Rattle.hwp_script_words.specs.hwp_geom.declared.Frame.{Frame}
use Rattle.hwp_script_words.specs.hwp_geom.declared.Mask.{Mask}
use Rattle.hwp_script_words.specs.hwp_geom.declared.Page.{Page}
use Rattle.hwp_script_words.specs.hwp_geom.declared.Thread.{Thread}
use Rattle.hwp_script_words.specs.hwp_geom.declared.Who.{Who}
use Rattle.hwp_report_text.specs.hwp_kill.declared.Code.TheVariants.{Ar}
use Rattle.hwp_report_text.specs.hwp_kill.declared.Signal.{Signal}
use Rattle.hwp_report_text.specs.hwp_kill.Prctl.{reply}
use Rattle.hwp_report_text.specs.hwp_page.declared.At.{At}
use Rattle.hwp_report_text.specs.hwp_page.declared.Entry.{Entry}
use Rattle.hwp_report_text.specs.hwp_page.declared.Met.TheVariants.{Sigbus}
use Rattle.hwp_report_text.specs.hwp_page.declared.Outcome.{Outcome}
use Rattle.hwp_report_text.specs.hwp_page.declared.Outcome.TheVariants as outcomes
use Rattle.hwp_report_text.specs.hwp_page.declared.What.{What}
use Rattle.hwp_report_text.specs.hwp_page.declared.What.TheVariants as entries
use Rattle.hwp_report_text.specs.hwp_page.Orders.{IsNotLater}
use Rattle.hwp_script_words.specs.declared.Command.{Command}
use Rattle.hwp_script_words.specs.declared.Command.TheVariants as commands
use Rattle.hwp_script_words.specs.declared.Script.{Script}
use Rattle.hwp_report_text.specs.declared.Answer.{Answer}
use Rattle.hwp_report_text.specs.declared.Answer.TheVariants as answers
use Rattle.hwp_report_text.specs.declared.CpuLine.{CpuLine}
use Rattle.hwp_report_text.specs.declared.CpuLine.TheVariants as lines
use Rattle.hwp_report_text.specs.declared.FrameLine.{FrameLine}
use Rattle.hwp_report_text.specs.declared.How.{How}
use Rattle.hwp_report_text.specs.declared.How.TheVariants as hows
use Rattle.hwp_report_text.specs.declared.MarkLine.{MarkLine}
use Rattle.hwp_report_text.specs.declared.MarkLine.TheVariants as marks
use Rattle.hwp_report_text.specs.declared.Report.{Report}
use Rattle.hwp_law.specs.Outcomes.{reply_answer}
use Rattle.hwp_law.specs.Answers.{IsAnswer, StandsAt, is_ample}
use Rattle.hwp_law.specs.Commands.{current_thread, is_kernels}
use Rattle.hwp_law.specs.Notes.{ends_machine}
use Rattle.hwp_law.specs.Endings.{IsGone}
use Rattle.hwp_law.specs.Lines.{bad_lines_of, events_of, marks_of}
use Rattle.hwp_law.specs.Places.{entry_at}
use Rattle.hwp_law.specs.Settings.{arguments}
use Rattle.hwp_law.specs.Policies.{policy_before}
use Rattle.hwp_law.specs.Records.{WasPoisoned, how_in, is_by_hardware, outcome_in, who_in}
use Rattle.hwp_law.specs.States.{HadState}

-- the entry sent SIGBUS to the thread that met it: for a page that it may not use, or because memory failed under it
abbrev pub SendsSigbus : Thread → What → Type 0
SendsSigbus thread (entries.Load slot line (Sigbus other)) = other ≡ thread
SendsSigbus thread (entries.Store slot line (Sigbus other)) = other ≡ thread
SendsSigbus thread (entries.Fail situation required seen signals) = Any (λ (s : Signal). (s.thread ≡ thread) × (s.code ≡ Ar)) signals
SendsSigbus thread _ = ⊥

-- at the place stands an entry of the command that sent it SIGBUS
pub record IsSigbus (report : Report) (who : Who) (command : Command) (at : At) : Type 0 where
  pub entry : Entry
  pub there : entry_at report.pages at ≡ Some entry
  pub own : entry.who ≡ who
  pub sends : IsSomeAnd (current_thread command) (λ (thread : Thread). SendsSigbus thread entry.what)

-- an answer that each access may have beside its own; when its guest doesn't admit it, the rule of guests says
abbrev pub IsAccessAnswer : Script → Report → Who → Command → Answer → Type 0
IsAccessAnswer script report who command (answers.Sigbus at) = IsSigbus report who command at
IsAccessAnswer script report who command (answers.Gone page) = IsGone script report who page
IsAccessAnswer script report who command answers.GuestBad = Unit {0}
IsAccessAnswer script report who command answers.GuestStopped = Unit {0}
IsAccessAnswer script report who command answer = IsAnswer script report.pages report.stop who command answer

-- the lines are some, and all of them bad
pub record AreBadLines (bad mask : ℕ) : Type 0 where
  pub some : mask ≢ 0
  pub within : bit_and mask bad ≡ mask

-- after so many entries the page was cached, and the lines are bad in some frame
pub record HadBadLines (script : Script) (report : Report) (mask : Mask) (at : At) : Type 0 where
  pub cached : HadState script.layout report.pages at (λ s. s.cached ≡ true)
  pub frame : ℕ
  pub bad : AreBadLines (bad_lines_of report frame) mask.0

-- an answer of a command that copies a page's content
abbrev pub IsCopyAnswer : Script → Report → Who → Command → Page → Answer → Type 0
IsCopyAnswer script report who command page (answers.BadLines mask at) = (at.page ≡ page) × HadBadLines script report mask at
IsCopyAnswer script report who command page answer = IsAnswer script report.pages report.stop who command answer

-- an answer of `out`, which looks at the lines of a page that isn't locked alone
abbrev pub IsOutAnswer : Script → Report → Who → Page → Answer → Type 0
IsOutAnswer script report who page (answers.BadLines mask at) =
    (is_locked script.layout page ≡ false) × IsCopyAnswer script report who (commands.Out page) page (answers.BadLines mask at)
IsOutAnswer script report who page answer = IsCopyAnswer script report who (commands.Out page) page answer

-- the frame has a mark of this command, and it is such
abbrev pub HasMark : Report → Who → Frame → (MarkLine → Type 0) → Type 0
HasMark report who frame Such = Any (λ (m : MarkLine). (who_in m ≡ who) × Such m) (marks_of report frame.0)

-- the mark tells this result
abbrev pub ComesTo : Outcome → MarkLine → Type 0
ComesTo outcome m = IsSomeAnd (how_in m) (λ (how : How). outcome_in how ≡ outcome)

-- the mark is one that takes back a poisoning
abbrev pub TakesBack : MarkLine → Type 0
TakesBack (marks.Poisoned cycle who how) = ⊥
TakesBack (marks.Unpoisoned cycle who) = Unit {0}

-- the answer of a failure of a frame that a command brings about
abbrev pub IsFailureAnswer : Report → Who → Frame → Answer → Type 0
IsFailureAnswer report who frame answers.Recovered = HasMark report who frame (ComesTo outcomes.Recovered)
IsFailureAnswer report who frame answers.Delayed = HasMark report who frame (ComesTo outcomes.Delayed)
IsFailureAnswer report who frame answers.Ignored = HasMark report who frame (ComesTo outcomes.Ignored)
IsFailureAnswer report who frame answers.Already = WasPoisoned (marks_of report frame.0) who true
IsFailureAnswer report who frame _ = ⊥

-- the answer of a soft offline of a frame that isn't the kernel's
abbrev pub IsOfflineAnswer : Script → Report → Who → Frame → Answer → Type 0
IsOfflineAnswer script report who frame (answers.Moved other at) =
    StandsAt report.pages who at entries.Soft × HasMark report who frame (λ (m : MarkLine). how_in m ≡ Some hows.Moved)
IsOfflineAnswer script report who frame answers.TakenFree = HasMark report who frame (λ (m : MarkLine). how_in m ≡ Some hows.TakenFree)
IsOfflineAnswer script report who frame answers.Already = WasPoisoned (marks_of report frame.0) who true
IsOfflineAnswer script report who frame (answers.HasBad mask) = AreBadLines (bad_lines_of report frame.0) mask.0
IsOfflineAnswer script report who frame answers.NoFrame = is_ample script ≡ false
IsOfflineAnswer script report who frame _ = ⊥

-- some frame was poisoned for a bank's event, by no later command of the processor
abbrev pub WasHardwareSeen : Report → Who → Type 0
WasHardwareSeen report who = Any (λ (l : FrameLine). Any (λ (m : MarkLine). (is_by_hardware m ≡ true) × IsNotLater (who_in m) who) l.marks) report.frames

-- the answer of a command that takes back a failure
abbrev pub IsUnpoisonAnswer : Report → Who → Frame → Answer → Type 0
IsUnpoisonAnswer report who frame answers.Done = HasMark report who frame TakesBack
IsUnpoisonAnswer report who frame answers.NotPoisoned = WasPoisoned (marks_of report frame.0) who false
IsUnpoisonAnswer report who frame answers.HardwareSeen = WasHardwareSeen report who
IsUnpoisonAnswer report who frame (answers.HasBad mask) = AreBadLines (bad_lines_of report frame.0) mask.0
IsUnpoisonAnswer report who frame (answers.InUse count) = Unit {0}
IsUnpoisonAnswer report who frame _ = ⊥

-- the number is that of the command's event lines
abbrev pub IsEventCount : Report → Who → ℕ → Type 0
IsEventCount report who n = n ≡ length (events_of report who)

-- the report shows the cause of a command's answer, when memory can fail
abbrev pub IsCaused : Script → Report → Who → Command → Answer → Type 0
IsCaused script report who command answers.Stopped = IsSome report.stop
IsCaused script report who (commands.Load thread slot line) answer = IsAccessAnswer script report who (commands.Load thread slot line) answer
IsCaused script report who (commands.Fetch thread slot line) answer = IsAccessAnswer script report who (commands.Fetch thread slot line) answer
IsCaused script report who (commands.KLoad thread slot line) answer = IsAccessAnswer script report who (commands.KLoad thread slot line) answer
IsCaused script report who (commands.Store thread slot line word) answer = IsAccessAnswer script report who (commands.Store thread slot line word) answer
IsCaused script report who (commands.Sync page) answer = IsCopyAnswer script report who (commands.Sync page) page answer
IsCaused script report who (commands.Out page) answer = IsOutAnswer script report who page answer
IsCaused script report who (commands.Fsync file) (answers.Eio lost) = 0 < lost
IsCaused script report who (commands.Prctl thread args) (answers.Gone page) = IsGone script report who page
IsCaused script report who (commands.Prctl thread args) answer = answer ≡ reply_answer (reply (policy_before script report who thread) (arguments args))
IsCaused script report who (commands.Fork thread process) (answers.Gone page) = IsGone script report who page
IsCaused script report who (commands.Bad frame line) answers.Done = Unit {0}
IsCaused script report who (commands.Weak frame line) answers.Done = Unit {0}
IsCaused script report who (commands.Scrub first last) (answers.Scrubbed n) = IsEventCount report who n
IsCaused script report who (commands.RaiseUser thread ripv eipv) (answers.Raised n) = IsEventCount report who n
IsCaused script report who (commands.RaiseUser thread ripv eipv) (answers.Gone page) = IsGone script report who page
IsCaused script report who (commands.RaiseKernel ripv eipv) (answers.Raised n) = IsEventCount report who n
IsCaused script report who (commands.Inject frame) answer = (script.layout.recovery ≡ true) × IsFailureAnswer report who frame answer
IsCaused script report who (commands.Soft frame) answers.Kernel = is_kernels script.layout frame ≡ true
IsCaused script report who (commands.Soft frame) answer = (is_kernels script.layout frame ≡ false) × IsOfflineAnswer script report who frame answer
IsCaused script report who (commands.Unpoison frame) answer = IsUnpoisonAnswer report who frame answer
IsCaused script report who command answer = IsAnswer script report.pages report.stop who command answer

-- after such a line the command answers `stopped`
abbrev pub IsHeeded : Report → Who → Answer → Type 0
IsHeeded report who answer = list_any ends_machine (events_of report who) ≡ true → answer ≡ answers.Stopped

-- the next line isn't that of an event
abbrev pub IsPastEvents : List CpuLine → Type 0
IsPastEvents (lines.Event event ∷ rest) = ⊥
IsPastEvents _ = Unit {0}

-- the next line is that of an answer
abbrev pub IsAtAnswer : List CpuLine → Type 0
IsAtAnswer (lines.Answer seq answer ∷ rest) = Unit {0}
IsAtAnswer _ = ⊥

-- the commands from number n on have exactly one answer each, in order, and the report shows its cause. Before it stand first the
-- command's event lines, then those of frames that it took out of use, and then one of a guest's machine check at most
abbrev pub AreCaused : Script → Report → Cpu → ℕ → List Command → List CpuLine → Type 0
AreCaused script report cpu n [] [] = Unit {0}
AreCaused script report cpu n (command ∷ commands) (lines.Event event ∷ rest) = (event.seq ≡ n) × AreCaused script report cpu n (command ∷ commands) rest
AreCaused script report cpu n (command ∷ commands) (lines.Offlined line ∷ rest) =
    (line.seq ≡ n) × IsPastEvents rest × AreCaused script report cpu n (command ∷ commands) rest
AreCaused script report cpu n (command ∷ commands) (lines.Guest line ∷ rest) =
    (line.seq ≡ n) × IsAtAnswer rest × AreCaused script report cpu n (command ∷ commands) rest
AreCaused script report cpu n (command ∷ commands) (lines.Answer seq answer ∷ rest) =
    (seq ≡ n) × IsCaused script report (record { cpu = cpu; seq = n }) command answer × IsHeeded report (record { cpu = cpu; seq = n }) answer × AreCaused script report cpu (n + 1) commands rest
AreCaused script report cpu n _ _ = ⊥
