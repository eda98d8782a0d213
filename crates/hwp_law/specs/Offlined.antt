-- The frames that a command takes out of use beside its answer: which of them, and what came of each.
use Rattle.std.specs.Prelude.{◌≡◌, ℕ, ◌+◌, List, [], ◌∷◌, Option, None, All, map, IsSome}
use Rattle.hwp_script_words.specs.hwp_geom.declared.Frame.{Frame}
use Rattle.hwp_script_words.specs.hwp_geom.declared.Layout.{Layout}
use Rattle.hwp_script_words.specs.hwp_geom.declared.Who.{Who}
use Rattle.hwp_script_words.specs.declared.Command.{Command}
use Rattle.hwp_script_words.specs.declared.Script.{Script}
use Rattle.hwp_report_text.specs.Offlines.{offline_answer}
use Rattle.hwp_report_text.specs.declared.Answer.{Answer}
use Rattle.hwp_report_text.specs.declared.CpuLine.{CpuLine}
use Rattle.hwp_report_text.specs.declared.OfflinedLine.{OfflinedLine}
use Rattle.hwp_report_text.specs.declared.OfflineResult.{OfflineResult}
use Rattle.hwp_report_text.specs.declared.OfflineResult.TheVariants as results
use Rattle.hwp_report_text.specs.declared.Report.{Report}
use Rattle.hwp_law.specs.Notes.{notes}
use Rattle.hwp_law.specs.Watched.{Watched, due, watched_after}
use Rattle.hwp_law.specs.Causes.{IsOfflineAnswer}
use Rattle.hwp_law.specs.Lines.{events_among, events_of, offlined_of, rows_of}
use Rattle.hwp_law.specs.Policies.{answered_before}

-- the collector of a processor with these lines after some of its commands, the first of which has number n, with their answers
abbrev pub watched_from : Layout → List CpuLine → ℕ → List (Command × Answer) → Option Watched → Option Watched
watched_from layout rows n [] before = before
watched_from layout rows n (p ∷ rest) before = watched_from layout rows (n + 1) rest (watched_after p.0 p.1 (notes layout (events_among rows n)) before)

-- the collector of a processor before a command
abbrev pub watched_before : Script → Report → Who → Option Watched
watched_before script report who = watched_from script.layout (rows_of report who) 0 (answered_before script report who) None

-- the frames that a command takes out of use: by its notes, over what its processor's earlier commands noted
abbrev pub due_of : Script → Report → Who → List Frame
due_of script report who = due (watched_before script report who) (notes script.layout (events_of report who))

-- the report shows the cause of what came of a frame: that of the same answer of `soft`, or that the machine had stopped
abbrev pub IsOffline : Script → Report → Who → Frame → OfflineResult → Type 0
IsOffline script report who frame results.Stopped = IsSome report.stop
IsOffline script report who frame result = IsOfflineAnswer script report who frame (offline_answer result)

-- the lines of a command tell the frames that it took out of use, one each and in order, and the report shows the cause of what they say
pub record AreOfflined (script : Script) (report : Report) (who : Who) : Type 0 where
  pub frames : map (λ (l : OfflinedLine). l.frame) (offlined_of report who) ≡ due_of script report who
  pub caused : All (λ (l : OfflinedLine). IsOffline script report who l.frame l.result) (offlined_of report who)
