-- The event lines of each processor are those of its commands, whose rows lead from what the banks held before to what they hold after.
use Rattle.std.proofs.Common.{◌≡◌, ℕ, suc, ◌+◌, ◌-◌, ◌<◌, Bool, true, false, List, [], ◌∷◌, ◌++◌, Option, Some, None, MatchBool, length, map, option_and_then, replicate, slice_get, refl, sym, ap, ◌∙◌, subst, arith}
use Rattle.std.proofs.lemmas.List.Sums.{length-filter}
use Rattle.std.proofs.lemmas.Option.{slice_get_within}
use Rattle.hwp_law_served.specs.hwp_geom.declared.VSlot.{VSlot}
use Rattle.hwp_law_served.specs.hwp_geom.declared.Cpu.{Cpu}
use Rattle.hwp_law_served.specs.hwp_geom.declared.Frame.{Frame}
use Rattle.hwp_law_served.specs.hwp_geom.declared.Mode.{Mode}
use Rattle.hwp_law_served.specs.hwp_geom.declared.Mode.TheVariants as modes
use Rattle.hwp_law_served.specs.hwp_geom.declared.Thread.{Thread}
use Rattle.hwp_law_served.specs.hwp_geom.declared.Who.{Who}
use Rattle.hwp_law_served.specs.hwp_banks.declared.Origin.{Origin}
use Rattle.hwp_law_served.specs.hwp_banks.declared.Origin.TheVariants as origins
use Rattle.hwp_law_served.specs.hwp_core_rule.declared.Made.{Made}
use Rattle.hwp_law_served.specs.hwp_core_rule.declared.State.{State}
use Rattle.hwp_law_served.specs.hwp_core_rule.declared.View.{View}
use Rattle.hwp_law_served.specs.hwp_core_rule.Lists.{EachMember}
use Rattle.hwp_law_served.specs.hwp_core_rule.Boards.{Played, view_of}
use Rattle.hwp_law_served.specs.hwp_core_rule.Known.{deeds, such_deeds}
use Rattle.hwp_law_served.specs.hwp_script_words.declared.Command.{Command}
use Rattle.hwp_law_served.specs.hwp_script_words.declared.Command.TheVariants as commands
use Rattle.hwp_law_served.specs.hwp_script_words.declared.Script.{Script}
use Rattle.hwp_law_served.specs.hwp_report_text.declared.Answer.{Answer}
use Rattle.hwp_law_served.specs.hwp_report_text.declared.Answer.TheVariants as answers
use Rattle.hwp_law_served.specs.hwp_report_text.declared.EventLine.{EventLine}
use Rattle.hwp_law_served.specs.hwp_report_text.declared.Report.{Report}
use Rattle.hwp_law_served.specs.hwp_law.Checks.{IsCheck}
use Rattle.hwp_law_served.specs.hwp_banks.Banks.{Banks, empty_banks, raw_event}
use Rattle.hwp_law_served.specs.hwp_law.Commands.{arrival_of, command_at, is_check}
use Rattle.hwp_law_served.specs.hwp_severity.declared.Arrival.{Arrival}
use Rattle.hwp_law_served.specs.hwp_law.Events.{AreAccessChecks, AreEvents, AreEventsFrom, AreEventsOf, AreScrubbed, IsAccessChecked, IsDamaged, IsRaise, logged_if_done, store_lines}
use Rattle.hwp_law_served.specs.hwp_law.Events as law
use Rattle.hwp_law_served.specs.hwp_law.Lines.{answer_of, events_of}
use Rattle.hwp_law_served.specs.hwp_law.Pairings.{entries_of}
use Rattle.hwp_law_served.specs.hwp_cpu_row.declared.Row.{Row}
use Rattle.hwp_law_served.specs.hwp_claim.declared.EventOutcome.{EventOutcome}
use Rattle.hwp_law_served.specs.hwp_claim.Checks.{IsActedOn, SawBad, lines_of, restarting}
use Rattle.hwp_law_served.specs.hwp_cpu_row.Acts.{event_at}
use Rattle.hwp_law_served.specs.Runs.{IsRunOf, row_at}
use Rattle.hwp_law_served.specs.Served.{AreRowsServed}
use Rattle.hwp_law_served.specs.hwp_scrub.Visits.{scrubbing}
use Rattle.hwp_top_report.proofs.copied.CopyEvents.{copy-checked}
use Rattle.hwp_law_served.proofs.deeds.Made.{command-is}
use Rattle.hwp_law_served.specs.Told.{AreToldBy, AreToldWith, IsAccessTold, IsRaiseTold, IsScrubTold, IsUntold, is_raised}
use Rattle.hwp_top_report.proofs.report_lines.Checks.{HasResult, check-so, checks-so}
use Rattle.hwp_law_served.proofs.RunEnds.{IsEnd, rows-of, served-of}
use Rattle.hwp_law_served.proofs.LastBoard.{ended}
use Rattle.hwp_law_served.proofs.RowLines.{answer-told, events-by-row, told_at}
use Rattle.hwp_top_report.proofs.deeds.CountedEntries.{entries-inside}
use Rattle.hwp_law_served.proofs.lines.OfRows.{row-of}
use Rattle.hwp_top_report.proofs.report_lines.Records.{result-told}
use Rattle.hwp_top_report.proofs.report_lines.Scrubbed.{scrubbed-so}
use Rattle.hwp_top_report.proofs.report_lines.SpoiledLines.{bad-shown}

-- a `raise` is a machine check by its lines in the report as by its row
same-raised : (answer : Answer) (seq : ℕ) (told : List EventOutcome) → law.is_raised (Some answer) (map (event_at seq) told) ≡ is_raised answer told
same-raised (answers.Raised n) seq told = refl
same-raised answers.Stopped seq [] = refl
same-raised answers.Stopped seq (t ∷ ts) = refl
same-raised answer seq told = refl

module _ (script : Script) (copies : Who → Option VSlot) (seat : Cpu → ℕ) (turns : List Played) (last : State) (report : Report) (run : IsRunOf script copies seat turns last report) where
  abbrev end : IsEnd script copies seat last report
  end = ended script copies seat turns last report run

  module _ (who : Who) (inside : who.cpu.0 < script.layout.cpus) (row : Row) (row_is : row_at end.rows who ≡ Some row) where
    abbrev view : View
    view = view_of last (seat who.cpu)

    abbrev lines_of_row : List EventLine
    lines_of_row = map (event_at who.seq) row.told

    answered : answer_of report who ≡ Some row.answer
    answered = let r = row-of script copies seat last report end who row row_is in answer-told script copies seat last report end view who r.of ∙ ap (λ (x : Row). Some x.answer) r.same

    results : EachMember (HasResult script copies seat last report end who inside) row.told
    results i t there found some = result-told script copies seat last report end who row row_is i t found there some

    -- an access has as many machine checks as entries of them
    checks-count : entries_of report who is_check ≡ length (such_deeds is_check who view)
    checks-count = entries-inside script copies seat last report end who is_check inside ∙ sym (length-filter (λ (m : Made). is_check m.entry.what) (deeds who view))

    of-access : (thread : Thread) (line : ℕ) (origin : Origin) (mode : Mode) → ((frame : Frame) → SawBad script.layout view who line frame → IsDamaged report origin frame.0 line) → (before after : Banks) → IsAccessTold script.layout view who thread line origin mode before row.told after
        → IsAccessChecked script report who (restarting mode) origin line before lines_of_row after
    of-access thread line origin mode damaged before after told =
        let are = checks-so script copies seat last report end who inside thread line origin mode damaged before told.checks told.are
        (subst (EachMember (HasResult script copies seat last report end who inside)) told.told_is results) in
        subst (λ (n : ℕ). AreAccessChecks script report who (restarting mode) origin (replicate n line) before lines_of_row after) (told.count ∙ sym checks-count)
        (subst (λ (l : List EventOutcome). AreAccessChecks script report who (restarting mode) origin (replicate (length told.checks) line) before (map (event_at who.seq) l) after) (sym told.told_is)
        (subst (AreAccessChecks script report who (restarting mode) origin (replicate (length told.checks) line) before (map (event_at who.seq) (lines_of told.checks))) (sym told.after_is) are))

    of-raise : (thread : Option Thread) (how : Arrival) (before after : Banks) → IsRaiseTold script.layout view who thread how row.answer before row.told after → IsRaise script report who how before lines_of_row after
    of-raise thread how before after told =
        subst (λ (o : Option Answer). MatchBool (law.is_raised o lines_of_row) (IsCheck script report who how before lines_of_row × (after ≡ empty_banks)) ((lines_of_row ≡ []) × (after ≡ before))) (sym answered)
        (subst (λ (b : Bool). MatchBool b (IsCheck script report who how before lines_of_row × (after ≡ empty_banks)) ((lines_of_row ≡ []) × (after ≡ before))) (sym (same-raised row.answer who.seq row.told)) (which (is_raised row.answer row.told) told))
      where
        which : (b : Bool) → MatchBool b (IsActedOn script.layout view who thread how before row.told × (after ≡ empty_banks)) (IsUntold row.told before after) → MatchBool b (IsCheck script report who how before lines_of_row × (after ≡ empty_banks)) ((lines_of_row ≡ []) × (after ≡ before))
        which true is = (check-so script copies seat last report end who inside thread how before row.told is.0 results, is.1)
        which false is = (ap (map (event_at who.seq)) is.0, is.1)

    untold : (before after : Banks) → IsUntold row.told before after → (lines_of_row ≡ []) × (after ≡ before)
    untold before after is = (ap (map (event_at who.seq)) is.0, is.1)

    of-scrub : (first last_frame : Frame) (before after : Banks) → IsScrubTold script.layout view who first last_frame row.answer before row.told after → AreScrubbed script report who scrubbing first.0 (last_frame.0 + 1 - first.0) before lines_of_row after
    of-scrub first last_frame before after told =
        let r = row-of script copies seat last report end who row row_is in
        scrubbed-so script copies seat last report end who r.of first last_frame row.answer before row.told after told answered results

    of-command : (command : Command) (before after : Banks) → copies who ≡ None → AreToldBy script.layout view who command row.answer before row.told after → AreEventsOf script copies report who (arrival_of command) command before lines_of_row after
    of-command (commands.Load thread slot line) before after none told = of-access thread line origins.Access modes.User (λ frame saw. bad-shown script copies seat last report end who.cpu inside who line frame saw) before after told
    of-command (commands.Fetch thread slot line) before after none told = of-access thread line origins.Fetch modes.User (λ frame saw. bad-shown script copies seat last report end who.cpu inside who line frame saw) before after told
    of-command (commands.KLoad thread slot line) before after none told = of-access thread line origins.Access modes.Kernel (λ frame saw. bad-shown script copies seat last report end who.cpu inside who line frame saw) before after told
    of-command (commands.Store thread slot line word) before after none told =
        subst (λ (o : Option VSlot). AreAccessChecks script report who (restarting modes.User) origins.Access (store_lines script.layout report who o slot line) before lines_of_row after) (sym none)
        (of-access thread line origins.Access modes.User (λ frame saw. bad-shown script copies seat last report end who.cpu inside who line frame saw) before after told)
    of-command (commands.Scrub first last_frame) before after none told = of-scrub first last_frame before after told
    of-command (commands.RaiseUser thread ripv eipv) before after none told = of-raise (Some thread) (arrival_of (commands.RaiseUser thread ripv eipv)) before after told
    of-command (commands.RaiseKernel ripv eipv) before after none told = of-raise None (arrival_of (commands.RaiseKernel ripv eipv)) before after told
    of-command (commands.Log status addr misc) before after none told =
        (ap (map (event_at who.seq)) told.0, told.1 ∙ ap (λ (o : Option Answer). logged_if_done o (raw_event status addr misc) before) (sym answered))
    of-command command before after none told = untold before after told

    -- also where it copied a page first
    of-any : (copied : Option VSlot) → copies who ≡ copied → (command : Command) → command_at script who ≡ Some command → (before after : Banks) → AreToldWith script.layout copied view who command row.answer before row.told after → AreEventsOf script copies report who (arrival_of command) command before lines_of_row after
    of-any None none command command_is before after told = of-command command before after none told
    of-any (Some from) some (commands.Store thread to line word) command_is before after told =
        subst (λ (o : Option VSlot). AreAccessChecks script report who (restarting modes.User) origins.Access (store_lines script.layout report who o to line) before lines_of_row after) (sym some)
        (copy-checked script copies seat last report end who inside thread from to line word some command_is before row.told after told results)
    of-any (Some from) some command command_is before after told = absurd told

  module _ (cpu : Cpu) (inside : cpu.0 < script.layout.cpus) (own : List Row) (own_is : slice_get end.rows cpu.0 ≡ Some own) (whole : List Command) (whole_is : slice_get script.lists cpu.0 ≡ Some whole) where
    -- what begins at the n-th member of a list
    abbrev StandsFrom : {A : Type 0} → ℕ → List A → List A → Type 0
    StandsFrom {A} n list whole = (i : ℕ) (x : A) → slice_get list i ≡ Some x → slice_get whole (n + i) ≡ Some x

    -- the commands from number n on
    events-from : (earlier : List (Command × Answer)) (n : ℕ) (before : Banks) (list : List Command) (rows : List Row) (after : Banks) → AreRowsServed script.layout copies earlier (view_of last (seat cpu)) cpu n before list rows after → length rows ≡ length list → StandsFrom n rows own → StandsFrom n list whole
        → AreEventsFrom script copies report cpu n list before
    events-from earlier n before [] rows after are fit of_rows of_list = tt
    events-from earlier n before (c ∷ cs) [] after are fit of_rows of_list = absurd (let none : 0 ≡ suc (length cs) = fit in omega arith)
    events-from earlier n before (c ∷ cs) (row ∷ rows) after (between, served, rest) fit of_rows of_list =
        let who : Who = record { cpu = cpu; seq = n } in
        let same : n + 0 ≡ n = omega arith in
        let row_is : row_at end.rows who ≡ Some row = ap (λ (o : Option (List Row)). option_and_then (λ (l : List Row). slice_get l n) o) own_is ∙ subst (λ (k : ℕ). slice_get own k ≡ Some row) same (of_rows 0 row refl) in
        let told : events_of report who ≡ map (event_at n) row.told = events-by-row script copies seat last report end who ∙ ap (λ (o : Option Row). map (event_at n) (told_at o)) row_is in (
          between,
          subst (λ (es : List EventLine). AreEventsOf script copies report who (arrival_of c) c before es between) (sym told) (of-any who inside row row_is (copies who) refl c (command-is script who whole c whole_is (subst (λ (k : ℕ). slice_get whole k ≡ Some c) same (of_list 0 c refl))) before between served.told),
          events-from (earlier ++ (c, row.answer) ∷ []) (n + 1) between cs rows after rest (let one : suc (length rows) ≡ suc (length cs) = fit in let less : length rows ≡ length cs = omega arith in less)
              (λ i r there. let more : n + suc i ≡ (n + 1) + i = omega arith in subst (λ (k : ℕ). slice_get own k ≡ Some r) more (of_rows (suc i) r there))
              (λ i x there. let more : n + suc i ≡ (n + 1) + i = omega arith in subst (λ (k : ℕ). slice_get whole k ≡ Some x) more (of_list (suc i) x there)),
        )

  pub events-are : AreEvents script copies report
  events-are cpu list list_is =
      let inside : cpu.0 < script.layout.cpus = subst (λ (n : ℕ). cpu.0 < n) end.lists_fit (slice_get_within script.lists cpu.0 list list_is) in
      let own = rows-of script copies seat last report end cpu inside in
      let served = (served-of script copies seat last report end cpu list own.0 list_is own.1).0 in
      events-from cpu inside own.0 own.1 list list_is [] 0 empty_banks list own.0 served.banks served.rows_are served.count
      (λ i r there. let same : i ≡ 0 + i = omega arith in subst (λ (k : ℕ). slice_get own.0 k ≡ Some r) same there)
      (λ i x there. let same : i ≡ 0 + i = omega arith in subst (λ (k : ℕ). slice_get list k ≡ Some x) same there)
