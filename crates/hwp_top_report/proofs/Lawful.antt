-- The report of a run keeps the whole law.
use Rattle.std.proofs.Common.{ℕ, List, Option}
use Rattle.hwp_law_served.specs.hwp_geom.declared.Cpu.{Cpu}
use Rattle.hwp_law_served.specs.hwp_geom.declared.Who.{Who}
use Rattle.hwp_law_served.specs.hwp_geom.declared.VSlot.{VSlot}
use Rattle.hwp_law_served.specs.hwp_core_rule.declared.State.{State}
use Rattle.hwp_law_served.specs.hwp_core_rule.Boards.{Played}
use Rattle.hwp_law_served.specs.hwp_script_words.declared.Script.{Script}
use Rattle.hwp_law_served.specs.hwp_report_text.declared.Report.{Report}
use Rattle.hwp_law_served.specs.hwp_law.Law.{AnswersFit, HasShape, HistoriesFit, IsLawful}
use Rattle.hwp_law_served.proofs.Reported.{histories-lead, histories-ordered}
use Rattle.hwp_law_served.specs.Runs.{HaveServed, IsRunOf}
use Rattle.hwp_top_report.proofs.Caused.{all-caused, stop-agrees}
use Rattle.hwp_top_report.proofs.Guests.{guests-kept}
use Rattle.hwp_top_report.proofs.OfflinedLines.{are-offlined}
use Rattle.hwp_law_served.proofs.RunEnds.{IsEnd}
use Rattle.hwp_top_report.proofs.endings.Endings.{endings-stay}
use Rattle.hwp_top_report.proofs.report_lines.Framed.{frames-lawful}
use Rattle.hwp_law_served.proofs.LastBoard.{ended}
use Rattle.hwp_top_report.proofs.losses.LossesAgree.{losses-lawful}
use Rattle.hwp_law_served.proofs.deeds.Made.{entries-made-by, entries-named}
use Rattle.hwp_top_report.proofs.report_lines.Events.{events-are}
use Rattle.hwp_top_report.proofs.policies.Policies.{are-seen, never-falls}
use Rattle.hwp_law_served.proofs.Windows.{states-in-windows}
use Rattle.hwp_law_served.specs.hwp_script_words.Valid.{IsValid}
use Rattle.hwp_law_served.specs.hwp_law.Acting.{acting_script, copied_at}
use Rattle.hwp_top_report.proofs.forks.Private.{private-holds}
use Rattle.hwp_law_served.proofs.copied.CopyLast.{last-stores}
use Rattle.hwp_top_report.proofs.copied.CopyWords.{copies-keep-words}
use Rattle.hwp_top_report.proofs.copied.LossesActed.{losses-acted}

module _ (script : Script) (copies : Who → Option VSlot) (seat : Cpu → ℕ) (turns : List Played) (last : State) (report : Report) (run : IsRunOf script copies seat turns last report) where
  abbrev end : IsEnd script copies seat last report
  end = ended script copies seat turns last report run

  pub shape-fits : HasShape script report
  shape-fits = record { version = run.lengths.version; frames = run.lengths.frames; pages = run.lengths.pages; cpus = run.lengths.cpus }

  pub histories-fit : HistoriesFit script copies report
  histories-fit = record {
    legal = histories-lead script.layout last report end.board;
    made = entries-made-by script copies seat last report end;
    ordered = histories-ordered script.layout last report end.board;
    seen = are-seen script copies seat turns last report run;
    falls_never = never-falls script copies seat turns last report run;
  }

  pub answers-fit : AnswersFit script copies report
  answers-fit = record {
    caused = all-caused script copies seat turns last report run;
    named = entries-named script copies seat last report end;
    last = last-stores script copies seat last report end;
    windows = states-in-windows script copies seat last report end;
    endings = endings-stay script copies seat turns last report run;
    events = events-are script copies seat turns last report run;
    stop = stop-agrees script copies seat turns last report run;
    offlined = are-offlined script copies seat last report end;
  }

-- the whole, of what the processors of a script acted on, and of what the rows of its own commands say of guests
pub law-holds : (script : Script) → IsValid script → (seat : Cpu → ℕ) (turns : List Played) (last : State) (report : Report) → (run : IsRunOf (acting_script script report) (copied_at script report) seat turns last report) → HaveServed script seat last run.rows report.cpus
    → IsLawful script report
law-holds script valid seat turns last report run served =
    let acted : Script = acting_script script report in
    let histories : HistoriesFit (acting_script script report) (copied_at script report) report = histories-fit acted (copied_at script report) seat turns last report run in
    let answers : AnswersFit (acting_script script report) (copied_at script report) report = answers-fit acted (copied_at script report) seat turns last report run in
    record {
      shape = record { version = run.lengths.version; frames = run.lengths.frames; pages = run.lengths.pages; cpus = run.lengths.cpus };
      histories = histories;
      answers = answers;
      frames = frames-lawful acted (copied_at script report) seat turns last report run;
      losses = losses-acted script report (losses-lawful acted (copied_at script report) seat turns last report run);
      private = private-holds script report valid histories answers (copies-keep-words acted (copied_at script report) seat last report (ended acted (copied_at script report) seat turns last report run));
      guests = guests-kept script valid seat turns last report run served;
    }
