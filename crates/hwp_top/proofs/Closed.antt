-- The table was closed with what the workers' runs led to, and the report is of that.
use Rattle.std.proofs.Common.{◌≡◌, ◌⊎◌, inl, inr, ℕ, ◌<◌, ◌==◌, List, Some, None, length, slice_get, refl, sym, ap, ◌∙◌, subst, arith}
use Rattle.std.specs.Int.{from_bool}
use Rattle.std.specs.List.{sum_by}
use Rattle.std.proofs.lemmas.List.{length-map}
use Rattle.hwp_threads.specs.hwp_geom.declared.Layout.{Layout}
use Rattle.hwp_threads.specs.hwp_core_rule.declared.State.{State}
use Rattle.hwp_threads.specs.hwp_core_rule.declared.View.{View}
use Rattle.hwp_threads.specs.hwp_core_rule.Opening.{below, opening, opening_view}
use Rattle.hwp_threads.specs.hwp_core_rule.parts.Holdings.{HoldsNothing}
use Rattle.hwp_threads.proofs.of_hwp_core_rule.Lists.{at_map, from_bool-same, term-le}
use Rattle.hwp_threads.proofs.of_hwp_core_rule.WordsOpen.{length-below}
use Rattle.hwp_threads.specs.hwp_core_rule.Boards.{Played}
use Rattle.hwp_threads.specs.hwp_core_rule.Hands.{Hand}
use Rattle.hwp_threads.specs.Parts.{Own}
use Rattle.hwp_top_words.specs.hwp_script_read.declared.Script.{Script}
use Rattle.hwp_top_words.specs.hwp_script_read.hwp_script_words.Valid.{IsValid}
use Rattle.hwp_top_report.specs.hwp_report_text.declared.Report.{Report}
use Rattle.hwp_top_report.proofs.of_hwp_law_served.Homes.{there-is}
use Rattle.hwp_top_report.specs.hwp_cpu_row.declared.Row.{Row}
use Rattle.hwp_top_report.specs.hwp_law.Acting.{acting_script, copied_at}
use Rattle.hwp_top_report.specs.hwp_law_served.Runs.{IsRunOf}
use Rattle.hwp_top_report.proofs.AnswerSights.{report-shown, scrubs-shown}
use Rattle.hwp_cpu.specs.declared.Processor.{Processor}
use Rattle.hwp_cpu.specs.Serving.{Fits, FitsAt, IsDone}
use Rattle.hwp_threads.specs.hwp_table_words.Ends.{EndValue, HasAll, IsEnd, board_of}
use Rattle.hwp_threads.specs.hwp_table_words.Known.{Known, moves_by}
use Rattle.hwp_threads.specs.hwp_table_words.Stands.{Content}
use Rattle.hwp_top_report.specs.Closing.{IsClosing}
use Rattle.hwp_cpu.specs.Processors.{AreFinished}
use Rattle.hwp_top_report.specs.Finishes.{HasEnded, HasEndedAt, IsFinished, own_seat}
use Rattle.hwp_top_report.proofs.Came.{last-bare}
use Rattle.hwp_top_report.proofs.RunLaws.{lines-served, records-noted, run-of}
use Rattle.hwp_top.specs.ThreadRuns.{AreDone, HaveRun, IsThreadPlayed, IsThreadRun, tasks_then}
use Rattle.hwp_top.proofs.ThreadsEnded.{InTurns, all-ended, in-order}
use Rattle.hwp_top.proofs.ProcessorServes.{finished-over}

-- a processor that is finished holds nothing
holds-none : (layout : Layout) (view : View) (p : Processor) → Fits layout view p → p.course ≡ None → HoldsNothing view
holds-none layout view p fits none =
    let done : IsDone layout view p.cpu p.commands p.rows.items p.local = subst (FitsAt layout view p.cpu p.commands p.rows.items p.local) none fits.at in
    record {
      refs = ap (λ (h : Hand). h.refs) done.hand_is;
      locks = ap (λ (h : Hand). h.locks) done.hand_is;
      pages = ap (λ (h : Hand). h.pages) done.hand_is;
      reserved = ap (λ (h : Hand). h.reserved) done.hand_is;
      hands = ap (λ (h : Hand). h.hands) done.hand_is;
      owed = done.owed;
      bodies = ap (λ (h : Hand). h.bodies) done.hand_is;
    }

module _ (script : Script) (v : Known) (now : List Processor) (rows : List (List Row)) (valid : IsValid script) (have : HaveRun script v now) (finished : AreFinished now rows) where
  count : length have.owns ≡ script.layout.cpus
  count = have.count ∙ have.begin.one_each ∙ valid.one_each

  finished-then : AreFinished (tasks_then have.owns) rows
  finished-then = subst (λ (ps : List Processor). AreFinished ps rows) have.now_are finished

  -- the table can be closed
  pub has-all : HasAll script.layout v
  has-all = record { all = all; nothing = λ i x at. nothing x (have.others i x at) }
    where
      all : (c : ℕ) → c < script.layout.cpus → 0 < sum_by (λ (x : ℕ × View). from_bool (x.0 == c)) v.mines
      all c less =
          let own = there-is have.owns c (omega (arith, less, count)) in
          let seen = (have.each c own.0 own.1).view in
          let one = from_bool-same seen.1.0 c (ap (λ (y : ℕ × View). y.0) seen.3) in
          let term = term-le (λ (x : ℕ × View). from_bool (x.0 == c)) v.mines seen.0 seen.1 seen.2 in
          omega (arith, one, term)

      nothing : (x : ℕ × View) → HoldsNothing x.1 ⊎ ((o : Own Processor) × (slice_get have.owns x.0 ≡ Some o) × (x.1 ≡ o.to.view)) → HoldsNothing x.1
      nothing x (inl h) = h
      nothing x (inr (o, at, is)) =
          subst HoldsNothing (sym is) (holds-none script.layout o.to.view o.to.task (have.each x.0 o at).begun.fits (finished-over (tasks_then have.owns) rows x.0 o.to.task finished-then (at_map (λ (y : Own Processor). y.to.task) have.owns x.0 o at)))

  module _ (ways : ℕ) (words : List ℕ) (slots : List Content) (entries : List ℕ) (end : IsEnd ways script.layout v words slots entries) where
    done : AreDone script (board_of words slots end.views) rows
    done = record {
      moves = end.moves;
      run = end.run;
      tasks = have.tasks;
      begin = have.begin;
      owns = have.owns;
      parts = record {
        count = count ∙ sym (length-map (below script.layout.cpus) opening_view ∙ length-below script.layout.cpus);
        each = λ c o at. let h = have.each c o at in record {
          run = h.run;
          moves_are = sym (subst (λ (k : ℕ). moves_by k v.own ≡ moves_by k end.moves) (ap (λ (y : ℕ × View). y.0) h.view.3) (end.own h.view.0 h.view.1 h.view.2)) ∙ h.moves;
          going = h.going;
        };
      };
      begun = λ c o at. (have.each c o at).begun;
      finished = finished-then;
    }

pub closed-run : (ways : ℕ) (script : Script) (ended : EndValue) (now : List Processor) (rows : List (List Row)) → IsValid script → ended.layout ≡ script.layout → HaveRun script ended.known now → AreFinished now rows → IsEnd ways ended.layout ended.known ended.words ended.slots ended.entries → IsThreadPlayed script ended rows
unfolding done
closed-run ways script ended now rows valid layout_is have finished end =
    let there : IsEnd ways script.layout ended.known ended.words ended.slots ended.entries = subst (λ (l : Layout). IsEnd ways l ended.known ended.words ended.slots ended.entries) layout_is end in
    record {
      layout_is = layout_is;
      views = there.views;
      done = done script ended.known now rows valid have finished ways ended.words ended.slots ended.entries there;
      all = has-all script ended.known now rows valid have finished;
      views_are = there.mines;
      moves_are = there.own;
    }

-- ---- the report

module _ (script : Script) (ended : EndValue) (rows : List (List Row)) (valid : IsValid script) (played : IsThreadPlayed script ended rows) where
  abbrev last : State
  last = board_of ended.words ended.slots played.views

  abbrev ordered : InTurns script.layout (opening script.layout) played.done.moves last
  ordered = in-order script last rows valid played.done

  abbrev turns : List Played
  turns = ordered.turns

  ended-run : HasEnded script turns last rows
  ended-run = all-ended script last rows valid played.done

  abbrev at : HasEndedAt script ended rows
  at = record { turns = turns; state = last; run = ended-run; layout_is = played.layout_is; words_are = refl; bodies_are = refl }

  pub thread-ended : HasEndedAt script ended rows
  thread-ended = at

  module _ (report : Report) (now : EndValue) (is : IsFinished script ended rows report now) where
    closing : IsClosing script.layout last script.lists rows report
    closing = is.closing at

    run : IsRunOf (acting_script script report) (copied_at script report) own_seat turns last report
    run = run-of script turns last rows valid ended-run report closing

    of-end : IsThreadRun script report ended
    of-end = record {
      rows = rows;
      played = played;
      turns = turns;
      made = ordered.made;
      rule = ended-run.rule;
      leads = ended-run.moves;
      served = lines-served script turns last rows valid ended-run report closing;
      records = records-noted script turns last rows valid ended-run report closing;
      nothing = last-bare script turns last rows valid ended-run;
      settled = ended-run.settled;
      ends = closing.ends;
      shown = report-shown (acting_script script report) (copied_at script report) own_seat turns last report run;
      scrubs = scrubs-shown (acting_script script report) (copied_at script report) own_seat turns last report run;
    }

    pub thread-run : IsThreadRun script report now
    thread-run = subst (IsThreadRun script report) (sym is.same) of-end
