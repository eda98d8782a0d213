-- The report of any run that has ended is lawful, and of that run.
use Rattle.std.proofs.Common.{◌≡◌, List, Some, length, sym, ap, ◌∙◌, subst}
use Rattle.std.proofs.lemmas.List.{length-map}
use Rattle.hwp_cpu_row.specs.hwp_script_words.declared.Script.{Script}
use Rattle.hwp_cpu_row.specs.hwp_script_words.Valid.{IsValid}
use Rattle.hwp_cpu_row.specs.hwp_report_text.declared.CpuLine.{CpuLine}
use Rattle.hwp_cpu_row.specs.hwp_report_text.declared.Stop.{Stop}
use Rattle.hwp_cpu_row.specs.hwp_report_text.declared.Report.{Report}
use Rattle.hwp_law_served.specs.hwp_law.Acting.{acting_script, copied_at}
use Rattle.hwp_law_served.specs.hwp_law.Law.{IsLawful}
use Rattle.hwp_law_served.specs.hwp_law.Runs.{IsOfRun}
use Rattle.hwp_table_words.specs.hwp_core_rule.declared.State.{State}
use Rattle.hwp_table_words.specs.hwp_core_rule.Boards.{Played}
use Rattle.hwp_cpu_row.specs.declared.Row.{Row}
use Rattle.hwp_law_served.specs.Rows.{lines_from}
use Rattle.hwp_law_served.specs.Runs.{AreRecords, HasStopCause, HaveServed, IsRunOf, notes_of}
use Rattle.hwp_law_served.proofs.lines.FrameRecords.{gathered}
use Rattle.hwp_law_served.proofs.LastBoard.{stops-first, were-out}
use Rattle.hwp_law_served.proofs.copied.RunActed.{acting-long, run-served, run-stops}
use Rattle.hwp_top_report.proofs.Lawful.{law-holds}
use Rattle.hwp_top_report.proofs.copied.Apart.{run-apart}
use Rattle.hwp_top_report.specs.Closing.{IsClosing}
use Rattle.hwp_top_report.specs.Finishes.{HasEnded, own_seat}
use Rattle.hwp_top_report.proofs.Led.{last-holds, last-noted}

-- of any run that has ended
module _ (script : Script) (turns : List Played) (state : State) (rows : List (List Row)) (valid : IsValid script) (ended : HasEnded script turns state rows)
    (report : Report) (closing : IsClosing script.layout state script.lists rows report) where
  caused : (stop : Stop) → report.stop ≡ Some stop → HasStopCause script rows stop
  caused stop is = let by = closing.cause stop is in record { command = by.command; row = by.row; command_is = by.command_is; row_is = by.row_is; cause = by.cause }

  pub lines-served : HaveServed script own_seat state rows report.cpus
  lines-served = subst (HaveServed script own_seat state rows) (sym closing.lines) ended.served

  -- each frame's record has what the processors noted of that frame
  pub records-noted : AreRecords (notes_of 0 rows) report
  records-noted = λ frame line there.
      let on = closing.ends.frames frame line there in
      gathered script.layout own_seat state (last-holds script turns state rows valid ended) ended.seated (notes_of 0 rows) (last-noted script turns state rows valid ended) frame on.word on.there line.marks (closing.marks frame line there)

  -- it is a run of what the processors acted on
  pub run-of : IsRunOf (acting_script script report) (copied_at script report) own_seat turns state report
  run-of = record {
    rule = ended.rule;
    moves = ended.moves;
    seated = ended.seated;
    settled = ended.settled;
    rows = rows;
    served = run-served script report own_seat state rows lines-served;
    apart = run-apart script report valid;
    records = records-noted;
    ends = closing.ends;
    lengths = record {
      version = closing.version;
      lists = acting-long script report ∙ valid.one_each;
      cpus = ap (λ (c : List (List CpuLine)). length c) closing.lines ∙ length-map rows (lines_from 0) ∙ ended.count;
      rows_fit = ended.count;
      frames = closing.frames;
      pages = closing.pages;
    };
    cause = λ stop is. run-stops script report rows stop (caused stop is);
  }

  pub run-of-run : IsOfRun script report
  run-of-run = record {
    stops_first = stops-first (acting_script script report) (copied_at script report) own_seat turns state report run-of;
    were_out = were-out (acting_script script report) (copied_at script report) own_seat turns state report run-of;
  }

  pub run-lawful : IsLawful script report
  unfolding run-of
  run-lawful = law-holds script valid own_seat turns state report run-of lines-served
