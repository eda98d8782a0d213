-- The policies of threads, as a report shows them.
use Rattle.std.specs.Prelude.{List, [], take, slice_get, unwrap_or}
use Rattle.hwp_script_words.specs.hwp_geom.declared.Cpu.{Cpu}
use Rattle.hwp_script_words.specs.hwp_geom.declared.Thread.{Thread}
use Rattle.hwp_script_words.specs.hwp_geom.declared.Who.{Who}
use Rattle.hwp_report_text.specs.hwp_kill.declared.Policy.{Policy}
use Rattle.hwp_script_words.specs.declared.Command.{Command}
use Rattle.hwp_script_words.specs.declared.Script.{Script}
use Rattle.hwp_report_text.specs.declared.Answer.{Answer}
use Rattle.hwp_report_text.specs.declared.Report.{Report}
use Rattle.hwp_law.specs.Settings.{last_policy, settings}
use Rattle.hwp_law.specs.Lines.{answered}

-- the commands of a processor with their answers, and those before one of them
abbrev pub answered_on : Script → Report → Cpu → List (Command × Answer)
answered_on script report cpu = answered (unwrap_or (slice_get script.lists cpu.0) []) (unwrap_or (slice_get report.cpus cpu.0) [])

abbrev pub answered_before : Script → Report → Who → List (Command × Answer)
answered_before script report who = take who.seq (answered_on script report who.cpu)

-- the policy of a thread before a command of its processor
abbrev pub policy_before : Script → Report → Who → Thread → Policy
policy_before script report who thread = last_policy (settings script.layout thread (answered_before script report who))
