-- A command with its script and the report, and that what is known of them is right.
use Rattle.hwp_check_evidence.specs.hwp_geom.declared.Who.{Who}
use Rattle.hwp_check_evidence.specs.hwp_script_words.declared.Command.{Command}
use Rattle.hwp_check_evidence.specs.hwp_script_words.declared.Script.{Script}
use Rattle.hwp_check_evidence.specs.hwp_report_text.declared.Report.{Report}
use Rattle.hwp_check_causes.specs.Knowing.{IsKnown, IsOwn, IsTold}
use Rattle.hwp_check_causes.specs.declared.facts.CommandFacts.{CommandFacts}
use Rattle.hwp_check_causes.specs.declared.facts.ProcessorFacts.{ProcessorFacts}
use Rattle.hwp_check_causes.specs.declared.facts.ReportFacts.{ReportFacts}

-- what clauses see of a case
pub record CaseValue : Type 0 where
  pub script : Script
  pub report : Report
  pub who : Who
  pub command : Command

-- what is known of the report, of the command's processor and of the command is right
pub record IsCase (script : Script) (report : Report) (who : Who) (command : Command) (facts : ReportFacts) (processor : ProcessorFacts) (of_command : CommandFacts) : Type 0 where
  pub known : IsKnown script report facts
  pub own : IsOwn script report who.cpu processor
  pub told : IsTold script report who command of_command
