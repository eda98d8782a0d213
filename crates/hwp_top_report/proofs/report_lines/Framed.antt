-- The lines of frames, what their records have beside them and the count of the poisoned are those of the law.
use Rattle.std.proofs.Common.{ℕ, List, Option}
use Rattle.hwp_law_served.specs.hwp_geom.declared.Who.{Who}
use Rattle.hwp_law_served.specs.hwp_geom.declared.VSlot.{VSlot}
use Rattle.hwp_law_served.specs.hwp_geom.declared.Cpu.{Cpu}
use Rattle.hwp_law_served.specs.hwp_core_rule.declared.State.{State}
use Rattle.hwp_law_served.specs.hwp_core_rule.Boards.{Played}
use Rattle.hwp_law_served.specs.hwp_script_words.declared.Script.{Script}
use Rattle.hwp_law_served.specs.hwp_report_text.declared.Report.{Report}
use Rattle.hwp_law_served.specs.hwp_law.Law.{FramesFit}
use Rattle.hwp_law_served.specs.Runs.{IsRunOf}
use Rattle.hwp_law_served.proofs.LastBoard.{ended}
use Rattle.hwp_top_report.proofs.report_lines.FrameLines.{count-is, frame-line}
use Rattle.hwp_top_report.proofs.report_lines.Recorded.{recorded}

pub frames-lawful : (script : Script) (copies : Who → Option VSlot) (seat : Cpu → ℕ) (turns : List Played) (last : State) (report : Report) → IsRunOf script copies seat turns last report → FramesFit script report
frames-lawful script copies seat turns last report run = record {
  lines = frame-line script copies seat turns last report run;
  recorded = recorded script copies seat last report (ended script copies seat turns last report run);
  count = count-is script copies seat turns last report run;
}
