-- What clauses see of a processor, and of the answer that a command was given. `copies` tells by processors which commands copied, and from where.
use Rattle.std.specs.Prelude.{List, Option}
use Rattle.hwp_check_evidence.specs.hwp_geom.declared.Cpu.{Cpu}
use Rattle.hwp_check_evidence.specs.hwp_geom.declared.Who.{Who}
use Rattle.hwp_check_evidence.specs.hwp_script_words.declared.Command.{Command}
use Rattle.hwp_check_evidence.specs.hwp_script_words.declared.Script.{Script}
use Rattle.hwp_check_evidence.specs.hwp_report_text.declared.Answer.{Answer}
use Rattle.hwp_check_evidence.specs.hwp_report_text.declared.CpuLine.{CpuLine}
use Rattle.hwp_check_evidence.specs.hwp_report_text.declared.Report.{Report}
use Rattle.hwp_check_evidence.specs.hwp_geom.declared.VSlot.{VSlot}

-- a processor, with its commands in the script and its lines in the report
pub record ProcessorValue : Type 0 where
  pub script : Script
  pub copies : List (List (Option VSlot))
  pub report : Report
  pub cpu : Cpu
  pub commands : List Command
  pub rows : List CpuLine

-- an answer, after these lines of the command's processor
pub record AnswerValue : Type 0 where
  pub script : Script
  pub copies : List (List (Option VSlot))
  pub report : Report
  pub who : Who
  pub command : Command
  pub before : List CpuLine
  pub answer : Answer
