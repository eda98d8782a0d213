-- What is known of a script and its report.
use Rattle.std.specs.Prelude.{◌≡◌, ◌<◌, length}
use Rattle.std.specs.List.{list_any}
use Rattle.hwp_check_evidence.specs.hwp_geom.declared.Cpu.{Cpu}
use Rattle.hwp_check_evidence.specs.hwp_geom.declared.Thread.{Thread}
use Rattle.hwp_check_evidence.specs.hwp_geom.declared.Who.{Who}
use Rattle.hwp_check_evidence.specs.hwp_script_words.declared.Command.{Command}
use Rattle.hwp_check_evidence.specs.hwp_script_words.declared.Command.TheVariants as commands
use Rattle.hwp_check_evidence.specs.hwp_script_words.declared.PrctlArgs.{PrctlArgs}
use Rattle.hwp_check_evidence.specs.hwp_law.Notes.{ends_machine}
use Rattle.hwp_check_evidence.specs.hwp_law.Lines.{events_of}
use Rattle.hwp_check_evidence.specs.hwp_law.Policies.{policy_before}
use Rattle.hwp_check_evidence.specs.Ends.{ArePageEnds, own_ends}
use Rattle.hwp_check_evidence.specs.Marked.{reported}
use Rattle.hwp_check_evidence.specs.Windows.{AreSpans}
use Rattle.hwp_check_event_line.specs.Nears.{IsPast}
use Rattle.hwp_check_event_line.specs.Results.{AreResults}
use Rattle.hwp_check_causes.specs.declared.facts.ProcessorFacts.{ProcessorFacts}
use Rattle.hwp_check_causes.specs.declared.facts.CommandFacts.{CommandFacts}
use Rattle.hwp_check_evidence.specs.hwp_script_words.declared.Script.{Script}
use Rattle.hwp_check_evidence.specs.hwp_report_text.declared.Report.{Report}
use Rattle.hwp_check_evidence.specs.hwp_law.Answers.{is_ample}
use Rattle.hwp_check_evidence.specs.Glances.{AreGlances}
use Rattle.hwp_check_causes.specs.Befores.{thread_numbers}
use Rattle.hwp_check_causes.specs.declared.facts.ReportFacts.{ReportFacts}

-- it is right
pub record IsKnown (script : Script) (report : Report) (known : ReportFacts) : Type 0 where
  pub ample : known.ample ≡ is_ample script
  pub glances : AreGlances script.layout report.pages known.glances.items

-- what is known of it for the answers of a processor is right
pub record IsOwn (script : Script) (report : Report) (cpu : Cpu) (own : ProcessorFacts) : Type 0 where
  pub ends : ArePageEnds script.layout cpu report.pages own.ends.items
  pub ended : own.ended.items ≡ own_ends script.layout cpu report.pages
  pub spans : AreSpans cpu report.pages own.spans.items
  pub seen : own.reported ≡ reported cpu report.frames
  pub past : IsPast cpu report.frames own.past
  pub results : AreResults cpu report.frames own.results

-- and what is known of a command
pub record IsTold (script : Script) (report : Report) (who : Who) (command : Command) (told : CommandFacts) : Type 0 where
  pub old : (thread : Thread) (args : PrctlArgs) → thread.0 < thread_numbers → command ≡ commands.Prctl thread args → told.old ≡ policy_before script report who thread
  pub events : told.events ≡ length (events_of report who)
  pub ends : told.ends ≡ list_any ends_machine (events_of report who)
