-- The laws of memory failure, of a run on threads.
use Rattle.hwp_threads.specs.hwp_core_rule.declared.State.{State}
use Rattle.hwp_top_words.specs.hwp_script_read.declared.Script.{Script}
use Rattle.hwp_top_report.specs.hwp_report_text.declared.Report.{Report}
use Rattle.hwp_top_report.specs.hwp_law.Law.{IsLawful}
use Rattle.hwp_top_report.specs.Loads.{AreGoodLoads}
use Rattle.hwp_top_report.specs.Retired.{AreHandledRetired, IsBoardOf}
use Rattle.hwp_top_report.proofs.Retired.{handled-out-of-use}
use Rattle.hwp_top_report.proofs.loads.GoodLoads.{no-bad-bytes}
use Rattle.hwp_threads.specs.hwp_table_words.Ends.{EndValue}
use Rattle.hwp_top.specs.ThreadRuns.{IsThreadRun, last_of}

-- On every board of the run, before, between and after its steps, a handled frame is out of use.
pub threads-handled-out-of-use : (script : Script) (report : Report) (ended : EndValue) (run : IsThreadRun script report ended) (board : State) → IsBoardOf script.layout run.turns board → AreHandledRetired script.layout board
threads-handled-out-of-use script report ended run = handled-out-of-use script.layout run.turns run.rule

-- Each load that got a word got the content of its page, and a step of its command had shown the frame's bad lines, of which the line
-- is none.
pub threads-no-bad-bytes : (script : Script) (report : Report) (ended : EndValue) (run : IsThreadRun script report ended) → IsLawful script report → AreGoodLoads script.layout report run.turns
threads-no-bad-bytes script report ended run lawful = no-bad-bytes script run.turns (last_of ended run.played) report run.rule run.leads run.ends run.nothing lawful.shape lawful.histories.legal
