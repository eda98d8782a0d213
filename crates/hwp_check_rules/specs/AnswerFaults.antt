-- Which lines of a report break the rule of answers and events.
use Rattle.std.specs.Prelude.{◌≡◌, ◌≢◌, ◌⊎◌, ℕ, ◌<◌, true, List, Some, length, slice_get, take, Option}
use Rattle.hwp_law.specs.hwp_geom.declared.Cpu.{Cpu}
use Rattle.hwp_law.specs.hwp_geom.declared.Proc.{Proc}
use Rattle.hwp_law.specs.hwp_geom.declared.Who.{Who}
use Rattle.hwp_law.specs.hwp_page.Orders.{IsEarlier}
use Rattle.hwp_law.specs.hwp_page.declared.At.{At}
use Rattle.hwp_law.specs.hwp_page.declared.Entry.{Entry}
use Rattle.hwp_law.specs.hwp_script_words.declared.Command.{Command}
use Rattle.hwp_law.specs.hwp_script_words.declared.Script.{Script}
use Rattle.hwp_law.specs.hwp_report_text.declared.Answer.{Answer}
use Rattle.hwp_law.specs.hwp_report_text.declared.Answer.TheVariants as answers
use Rattle.hwp_law.specs.hwp_report_text.declared.CpuLine.{CpuLine}
use Rattle.hwp_law.specs.hwp_report_text.declared.CpuLine.TheVariants as lines
use Rattle.hwp_law.specs.hwp_report_text.declared.OfflinedLine.{OfflinedLine}
use Rattle.hwp_law.specs.hwp_report_text.Offlines.{offline_answer}
use Rattle.hwp_law.specs.hwp_report_text.declared.Report.{Report}
use Rattle.hwp_law.specs.Copies.{is_store, must_be_named}
use Rattle.hwp_law.specs.Commands.{command_at, process_at}
use Rattle.hwp_law.specs.Endings.{HasEnded, IsOver, WasGone}
use Rattle.hwp_law.specs.Lines.{events_of, offlined_of, rows_of, seq_of, answer_of}
use Rattle.hwp_law.specs.Offlined.{IsOffline, due_of}
use Rattle.hwp_law.specs.Places.{entry_at}
use Rattle.hwp_law.specs.States.{IsInWindow, entry_named, state_named}
use Rattle.hwp_check_event_line.specs.Misfits.{IsWrong, Lacks, found_by}
use Rattle.hwp_check_rules.specs.Answered.{HasAnswer, IsInPlace, IsBehindEvents, IsRight, events_before, offlined_before}
use Rattle.hwp_check_rules.specs.Standing.{cpu_line, row_line}
use Rattle.hwp_law.specs.hwp_geom.declared.VSlot.{VSlot}
use Rattle.hwp_law.specs.Private.{freeze_from, loaded, private_word}
use Rattle.hwp_law.specs.Policies.{answered_before}

-- a command has no answer
pub record IsUnanswered (script : Script) (report : Report) (line : ℕ) : Type 0 where
  pub cpu : Cpu
  pub commands : List Command
  pub rows : List CpuLine
  pub seq : ℕ
  pub of_script : slice_get script.lists cpu.0 ≡ Some commands
  pub of_report : slice_get report.cpus cpu.0 ≡ Some rows
  pub within : seq < length commands
  pub lacks : HasAnswer rows seq → ⊥
  pub line_is : line ≡ cpu_line report cpu.0

-- a command has fewer event lines than its machine checks ask
pub record LacksEvents (script : Script) (copies : Who → Option VSlot) (report : Report) (line : ℕ) : Type 0 where
  pub who : Who
  pub command : Command
  pub made : command_at script who ≡ Some command
  pub lacks : Lacks script copies report who command (found_by script copies report who) (events_of report who)
  pub line_is : line ≡ cpu_line report who.cpu.0

-- a command took fewer frames out of use than its notes ask
pub record LacksOfflined (script : Script) (report : Report) (line : ℕ) : Type 0 where
  pub who : Who
  pub command : Command
  pub made : command_at script who ≡ Some command
  pub lacks : length (offlined_of report who) < length (due_of script report who)
  pub line_is : line ≡ cpu_line report who.cpu.0

-- an entry of the command that a line has to name is not the one that its answer names, nor does another line of the command name it
pub record IsUnnamed (copies : Who → Option VSlot) (report : Report) (who : Who) (answer : Answer) : Type 0 where
  pub at : At
  pub entry : Entry
  pub there : entry_at report.pages at ≡ Some entry
  pub own : entry.who ≡ who
  pub answering : must_be_named (copies who) entry.what ≡ true
  pub other : entry_named answer ≢ Some at
  pub beside : (row : ℕ) (line : OfflinedLine) → slice_get (rows_of report who) row ≡ Some (lines.Offlined line) → line.seq ≡ who.seq → entry_named (offline_answer line.result) ≢ Some at

-- the answer says what state a page was in when the command can't have seen it, by the lines before
pub record IsOutside (report : Report) (before : List CpuLine) (who : Who) (answer : Answer) : Type 0 where
  pub at : At
  pub names : state_named answer ≡ Some at
  pub outside : IsInWindow report.pages before who at → ⊥

-- the command copied a page, and behind the place that its answer names stands a store of it more
pub record IsNotLast (copies : Who → Option VSlot) (report : Report) (who : Who) (answer : Answer) : Type 0 where
  pub from : VSlot
  pub at : At
  pub later : At
  pub entry : Entry
  pub copied : copies who ≡ Some from
  pub stored : answer ≡ answers.Stored at
  pub there : entry_at report.pages later ≡ Some entry
  pub own : entry.who ≡ who
  pub same_page : later.page ≡ at.page
  pub behind : at.entry < later.entry
  pub stores : is_store entry.what ≡ true

-- the process whose thread makes the command had ended, and the answer says otherwise
pub record IsRevived (script : Script) (report : Report) (later : Who) (answer : Answer) : Type 0 where
  pub who : Who
  pub process : Proc
  pub ended : HasEnded script report who process ⊎ WasGone script report who process
  pub before : IsEarlier who later
  pub process_is : process_at script later ≡ Some process
  pub wrong : IsOver answer → ⊥

-- what is wrong about an answer behind these lines of its processor
abbrev pub IsAnswerWrong : Script → (Who → Option VSlot) → Report → List CpuLine → Who → Command → Answer → Type 0
IsAnswerWrong script copies report before who command answer =
    (IsRight script report who command answer → ⊥) ⊎ IsUnnamed copies report who answer ⊎ IsNotLast copies report who answer ⊎ IsOutside report before who answer ⊎ IsRevived script report who answer

-- an event line is not the one that its command's machine checks ask at its place
pub record IsEventWrong (script : Script) (copies : Who → Option VSlot) (report : Report) (rows : List CpuLine) (row : ℕ) (who : Who) (command : Command) : Type 0 where
  pub wrong : IsWrong script copies report who command (found_by script copies report who) (events_of report who) (events_before rows row who.seq)

-- the line of a frame taken out of use stands where it may, and tells the frame that is due there: by its number among such lines of its
-- command
pub record IsDue (script : Script) (report : Report) (rows : List CpuLine) (row : ℕ) (who : Who) (line : OfflinedLine) : Type 0 where
  pub frame : slice_get (due_of script report who) (offlined_before rows row who.seq) ≡ Some line.frame
  pub past : IsBehindEvents rows row who.seq

-- the line isn't such, or the report doesn't show the cause of its result
abbrev pub IsOfflinedWrong : Script → Report → List CpuLine → ℕ → Who → OfflinedLine → Type 0
IsOfflinedWrong script report rows row who line = (IsDue script report rows row who line → ⊥) ⊎ (IsOffline script report who line.frame line.result → ⊥)

-- what is wrong about a line of a command: an answer is judged by the lines before it, since of lines that stand wrong the first is
-- named; what a guest's line says is the matter of GuestFaults
abbrev pub IsLineWrong : Script → (Who → Option VSlot) → Report → Cpu → List CpuLine → ℕ → CpuLine → Command → Type 0
IsLineWrong script copies report cpu rows row (lines.Answer seq answer) command = IsAnswerWrong script copies report (take row rows) (record { cpu = cpu; seq = seq }) command answer
IsLineWrong script copies report cpu rows row (lines.Event event) command = IsEventWrong script copies report rows row (record { cpu = cpu; seq = event.seq }) command
IsLineWrong script copies report cpu rows row (lines.Offlined line) command = IsOfflinedWrong script report rows row (record { cpu = cpu; seq = line.seq }) line
IsLineWrong script copies report cpu rows row _ command = ⊥

-- a line of a processor that is not in its place, or is wrong
pub record IsRowFault (script : Script) (copies : Who → Option VSlot) (report : Report) (line : ℕ) : Type 0 where
  pub cpu : Cpu
  pub commands : List Command
  pub rows : List CpuLine
  pub row : ℕ
  pub shown : CpuLine
  pub of_script : slice_get script.lists cpu.0 ≡ Some commands
  pub of_report : slice_get report.cpus cpu.0 ≡ Some rows
  pub there : slice_get rows row ≡ Some shown
  pub line_is : line ≡ row_line report cpu.0 row
  pub wrong :
      (IsInPlace commands rows row shown → ⊥)
      ⊎ ((command : Command) × (slice_get commands (seq_of shown) ≡ Some command) × IsLineWrong script copies report cpu rows row shown command)

abbrev pub IsAnswerFault : Script → (Who → Option VSlot) → Report → ℕ → Type 0
IsAnswerFault script copies report line = IsUnanswered script report line ⊎ LacksEvents script copies report line ⊎ LacksOfflined script report line ⊎ IsRowFault script copies report line

-- an answer `value` of a load through a frozen translation is another word than that of a full copy at the fork
pub record IsPrivateFault (script : Script) (report : Report) (line : ℕ) : Type 0 where
  pub who : Who
  pub command : Command
  pub slot : VSlot
  pub at_line : ℕ
  pub fork : ℕ
  pub word : ℕ
  pub at : At
  pub rows : List CpuLine
  pub row : ℕ
  pub made : command_at script who ≡ Some command
  pub loads : loaded command ≡ Some (slot, at_line)
  pub frozen : freeze_from script.layout slot 0 (answered_before script report who) ≡ Some fork
  pub answered : answer_of report who ≡ Some (answers.Value word at)
  pub of_report : slice_get report.cpus who.cpu.0 ≡ Some rows
  pub there : slice_get rows row ≡ Some (lines.Answer who.seq (answers.Value word at))
  pub line_is : line ≡ row_line report who.cpu.0 row
  pub wrong : word ≢ private_word script.layout report who.cpu fork slot at_line (answered_before script report who)
