-- A processor with its commands, and one of its commands with its event lines: what clauses see of them, and that what is kept of them is right.
-- `copies` tells by processors which commands copied, and from where.
use Rattle.std.specs.Prelude.{◌≡◌, ◌≤◌, ◌<◌, ◌+◌, ◌^◌, ℕ, List, [], Option, Some, length, slice_get, sum_by, unwrap_or}
use Rattle.hwp_banks.specs.hwp_geom.declared.Cpu.{Cpu}
use Rattle.hwp_banks.specs.hwp_geom.declared.VSlot.{VSlot}
use Rattle.hwp_banks.specs.hwp_geom.declared.Who.{Who}
use Rattle.hwp_law.specs.hwp_script_words.declared.Command.{Command}
use Rattle.hwp_law.specs.hwp_script_words.declared.Script.{Script}
use Rattle.hwp_law.specs.hwp_report_text.declared.Answer.{Answer}
use Rattle.hwp_law.specs.hwp_report_text.declared.CpuLine.{CpuLine}
use Rattle.hwp_law.specs.hwp_report_text.declared.Report.{Report}
use Rattle.hwp_law.specs.Commands.{is_check}
use Rattle.hwp_law.specs.Lines.{answer_of}
use Rattle.hwp_law.specs.Pairings.{entries_of}
use Rattle.hwp_check_event_line.specs.Reading.{copies_in}
use Rattle.hwp_check_event_line.specs.Scripts.{IsDeclared}
use Rattle.hwp_check_event_line.specs.declared.Shown.{Shown}
use Rattle.hwp_check_events.specs.Copied.{AreCopied, copied_by}
use Rattle.hwp_check_events.specs.Indexed.{AreChecks, AreFirst}
use Rattle.hwp_check_event_line.specs.OfCommands.{AreShown, shown_from}
use Rattle.hwp_check_event_line.specs.Misfits.{IsFit}
use Rattle.hwp_check_events.specs.declared.known.Known.{Known}

-- what clauses see of a command
pub record CaseValue : Type 0 where
  pub script : Script
  pub copies : List (List (Option VSlot))
  pub report : Report
  pub who : Who
  pub command : Command
  pub lines : List Shown

-- its machine checks and its answer are what the report says, and these are the lines of the machine checks of its copy
pub record IsCase (script : Script) (copies : List (List (Option VSlot))) (report : Report) (who : Who) (command : Command) (known : Known) (copied : List ℕ) : Type 0 where
  pub frames : length report.frames ≤ 65536
  pub few : known.checks + 1 < 2 ^ 64
  pub checks : known.checks ≡ entries_of report who is_check
  pub answer : known.answer ≡ answer_of report who
  pub fit : IsFit command
  pub copied_is : copied ≡ copied_by script.layout (copies_in copies) report who command

-- what clauses see of a processor
pub record ProcessorValue : Type 0 where
  pub script : Script
  pub copies : List (List (Option VSlot))
  pub report : Report
  pub cpu : Cpu
  pub commands : List Command

-- the lines of a processor
abbrev pub rows_in : Report → Cpu → List CpuLine
rows_in report cpu = unwrap_or (slice_get report.cpus cpu.0) []

-- these are its commands in a script that can be, and the report isn't too long
pub record IsOfScript (p : ProcessorValue) : Type 0 where
  pub valid : IsDeclared p.script
  pub frames : length p.report.frames ≤ 65536
  pub room : sum_by length p.report.pages + 1 < 2 ^ 64
  pub of_script : slice_get p.script.lists p.cpu.0 ≡ Some p.commands

-- for each of its commands the event lines, the first answer, the machine checks, and those of its copy
pub record IsIndexed (p : ProcessorValue) (lists : List (List Shown)) (answers : List (Option Answer)) (checks : List ℕ) (copied : List (List ℕ)) : Type 0 where
  pub of_script : IsOfScript p
  pub lists_are : AreShown (rows_in p.report p.cpu) (length p.commands) lists
  pub answers_are : AreFirst (rows_in p.report p.cpu) (length p.commands) answers
  pub checks_are : AreChecks p.cpu (length p.commands) p.report.pages checks
  pub copied_are : AreCopied p.script.layout (copies_in p.copies) p.report p.cpu p.commands (length p.commands) copied

-- this is its command with the number
pub record IsCaseAt (p : ProcessorValue) (n : ℕ) (c : CaseValue) : Type 0 where
  pub made : slice_get p.commands n ≡ Some c.command
  pub case_is : c ≡ record { script = p.script; copies = p.copies; report = p.report; who = record { cpu = p.cpu; seq = n }; command = c.command; lines = shown_from n 0 (rows_in p.report p.cpu) }
