-- Each command of a run has its answer, in order, and the report shows its cause; and the stop record is that of a command that
-- stopped the machine.
use Rattle.std.proofs.Common.{◌≡◌, ℕ, zero, suc, ◌+◌, ◌<◌, List, [], ◌∷◌, ◌++◌, Option, None, Some, length, map, slice_get, option_and_then, append_assoc, sym, ap, ◌∙◌, subst, arith, refl}
use Rattle.std.specs.List.{list_any}
use Rattle.std.proofs.lemmas.Option.{same_Some}
use Rattle.hwp_law_served.specs.hwp_geom.declared.VSlot.{VSlot}
use Rattle.hwp_law_served.specs.hwp_geom.declared.Cpu.{Cpu}
use Rattle.hwp_law_served.specs.hwp_geom.declared.Who.{Who}
use Rattle.hwp_law_served.specs.hwp_core_rule.declared.State.{State}
use Rattle.hwp_law_served.specs.hwp_core_rule.Boards.{Played, view_of}
use Rattle.hwp_law_served.specs.hwp_script_words.declared.Command.{Command}
use Rattle.hwp_law_served.specs.hwp_script_words.declared.Script.{Script}
use Rattle.hwp_law_served.specs.hwp_report_text.declared.Answer.{Answer}
use Rattle.hwp_law_served.specs.hwp_report_text.declared.Answer.TheVariants as answers
use Rattle.hwp_law_served.specs.hwp_report_text.declared.CpuLine.{CpuLine}
use Rattle.hwp_law_served.specs.hwp_report_text.declared.CpuLine.TheVariants as lines
use Rattle.hwp_law_served.specs.hwp_report_text.declared.GuestLine.{GuestLine}
use Rattle.hwp_law_served.specs.hwp_report_text.declared.Report.{Report}
use Rattle.hwp_law_served.specs.hwp_report_text.declared.Stop.{Stop}
use Rattle.hwp_law_served.specs.hwp_law.Causes.{AreCaused, IsHeeded, IsPastEvents, IsCaused as IsLawCaused}
use Rattle.hwp_law_served.specs.hwp_law.Notes.{ends_machine}
use Rattle.hwp_law_served.specs.hwp_law.Commands.{command_at, current_thread}
use Rattle.hwp_law_served.specs.hwp_law.Halts.{CanStop as CanStopFor, IsStopOf, StopAgrees}
use Rattle.hwp_law_served.specs.hwp_law.Stops.{StaysStopped}
use Rattle.hwp_law_served.specs.hwp_cpu_row.declared.Offlining.{Offlining}
use Rattle.hwp_law_served.specs.hwp_cpu_row.declared.Row.{Row}
use Rattle.hwp_law_served.specs.hwp_claim.declared.EventOutcome.{EventOutcome}
use Rattle.hwp_law_served.specs.Rows.{end_lines, event_line, lines_from, offlined_line}
use Rattle.hwp_law_served.specs.Runs.{IsCauseOf, IsRunOf, row_at}
use Rattle.hwp_law_served.specs.Served.{CanStop}
use Rattle.hwp_law_served.specs.Served as served
use Rattle.hwp_top_report.proofs.copied.CopyCaused.{is-caused}
use Rattle.hwp_law_served.proofs.RunEnds.{IsEnd, IsOf, command-of, rows-of-lines}
use Rattle.hwp_law_served.proofs.LastBoard.{ended, ended-rows}
use Rattle.hwp_law_served.proofs.deeds.Made.{command-is, some-so}
use Rattle.hwp_law_served.proofs.RowLines.{answer-told, answers-rise, events-told, row-of-line}
use Rattle.hwp_law_served.proofs.copied.CopyTells.{told-so}
use Rattle.hwp_top_report.proofs.StopCauses.{can-stop, ends-by}
use Rattle.hwp_law_served.proofs.Stops.{StopBy, stopper}

-- after a first `stopped` among the rows of a processor, its lines have no other answer
stays-lines : (rows : List Row) → served.StaysStopped rows → StaysStopped (lines_from 0 rows)
stays-lines rows stays i j m n answer less first second =
    let one = row-of-line 0 rows i m answers.Stopped first in
    let two = row-of-line 0 rows j n answer second in
    let rise : m < n = answers-rise 0 rows i j m n answers.Stopped answer less first second in
    let here : m ≡ 0 + one.k = one.number in
    let later : n ≡ 0 + two.k = two.number in
    sym two.answer_is ∙ stays one.k two.k one.row two.row (omega (arith, rise, here, later)) one.row_is two.row_is one.answer_is

module _ (script : Script) (copies : Who → Option VSlot) (seat : Cpu → ℕ) (turns : List Played) (last : State) (report : Report) (run : IsRunOf script copies seat turns last report) where
  abbrev end : IsEnd script copies seat last report
  end = ended script copies seat turns last report run

  -- where a line ends the machine the command is answered so
  heeded : (who : Who) (of : IsOf script copies end.rows (view_of last (seat who.cpu)) who) → IsHeeded report who of.row.answer
  heeded who of any = of.served.heeded (sym (ends-by who.seq of.row.told) ∙ sym (ap (list_any ends_machine) (events-told script copies seat last report end (view_of last (seat who.cpu)) who of)) ∙ any)

  module _ (cpu : Cpu) (all : List Command) (all_is : slice_get script.lists cpu.0 ≡ Some all) (own : List Row) (own_is : slice_get end.rows cpu.0 ≡ Some own) where
    -- the lines of a command's events, of frames that were taken out of use beside it, and of a guest go before its answer
    past-events : (n : ℕ) (command : Command) (list : List Command) (told : List EventOutcome) (rest : List CpuLine) → AreCaused script report cpu n (command ∷ list) rest → AreCaused script report cpu n (command ∷ list) (map (event_line n) told ++ rest)
    past-events n command list [] rest caused = caused
    past-events n command list (t ∷ ts) rest caused = (refl, past-events n command list ts rest caused)

    past-offlined : (n : ℕ) (command : Command) (list : List Command) (offlined : List Offlining) (rest : List CpuLine) → IsPastEvents rest → AreCaused script report cpu n (command ∷ list) rest
        → IsPastEvents (map (offlined_line n) offlined ++ rest) × AreCaused script report cpu n (command ∷ list) (map (offlined_line n) offlined ++ rest)
    past-offlined n command list [] rest past caused = (past, caused)
    past-offlined n command list (o ∷ os) rest past caused = let later = past-offlined n command list os rest past caused in (tt, (refl, later.0, later.1))

    past-guest : (n : ℕ) (command : Command) (list : List Command) (guest : Option GuestLine) (answer : Answer) (rest : List CpuLine) → AreCaused script report cpu n (command ∷ list) (lines.Answer n answer ∷ rest)
        → IsPastEvents (end_lines n guest answer ++ rest) × AreCaused script report cpu n (command ∷ list) (end_lines n guest answer ++ rest)
    past-guest n command list None answer rest caused = (tt, caused)
    past-guest n command list (Some line) answer rest caused = (tt, (refl, tt, caused))

    -- a command with its row
    one-caused : (n : ℕ) (command : Command) (row : Row) → slice_get all n ≡ Some command → slice_get own n ≡ Some row → IsLawCaused script report (record { cpu = cpu; seq = n }) command row.answer × IsHeeded report (record { cpu = cpu; seq = n }) row.answer
    one-caused n command row command_is row_is =
        let who : Who = record { cpu = cpu; seq = n } in
        let of = command-of script copies seat last report end who all command all_is command_is in
        let same_list : of.list ≡ all = same_Some of.list all (sym of.list_is ∙ all_is) in
        let same_command : of.command ≡ command = same_Some of.command command (sym of.command_is ∙ ap (λ (l : List Command). slice_get l n) same_list ∙ command_is) in
        let same_own : of.own ≡ own = same_Some of.own own (sym of.own_is ∙ own_is) in
        let same_row : of.row ≡ row = same_Some of.row row (sym of.row_is ∙ ap (λ (l : List Row). slice_get l n) same_own ∙ row_is) in (
          subst (λ (r : Row). IsLawCaused script report who command r.answer) same_row (subst (λ (c : Command). IsLawCaused script report who c of.row.answer) same_command (is-caused script copies seat last report end who of)),
          subst (λ (r : Row). IsHeeded report who r.answer) same_row (heeded who of),
        )

    -- the commands from number n on
    caused-from : (n : ℕ) (list : List Command) (rows : List Row) → ((i : ℕ) (c : Command) → slice_get list i ≡ Some c → slice_get all (n + i) ≡ Some c) → ((i : ℕ) (r : Row) → slice_get rows i ≡ Some r → slice_get own (n + i) ≡ Some r) → length rows ≡ length list
        → AreCaused script report cpu n list (lines_from n rows)
    caused-from n [] [] commands its same = tt
    caused-from n [] (row ∷ rows) commands its same = absurd (let none : suc (length rows) ≡ zero = same in omega arith)
    caused-from n (c ∷ cs) [] commands its same = absurd (let none : zero ≡ suc (length cs) = same in omega arith)
    caused-from n (c ∷ cs) (row ∷ rows) commands its same =
        let first : n + 0 ≡ n = omega arith in
        let one = one-caused n c row (subst (λ (k : ℕ). slice_get all k ≡ Some c) first (commands 0 c refl)) (subst (λ (k : ℕ). slice_get own k ≡ Some row) first (its 0 row refl)) in
        let next : (i : ℕ) → n + suc i ≡ (n + 1) + i = λ i. omega arith in
        let later = caused-from (n + 1) cs rows (λ i d there. subst (λ (k : ℕ). slice_get all k ≡ Some d) (next i) (commands (suc i) d there)) (λ i r there. subst (λ (k : ℕ). slice_get own k ≡ Some r) (next i) (its (suc i) r there))
        (let both : suc (length rows) ≡ suc (length cs) = same in let less : length rows ≡ length cs = omega arith in less) in
        let answer : List CpuLine = end_lines n row.guest row.answer ++ lines_from (n + 1) rows in
        let last = past-guest n c cs row.guest row.answer (lines_from (n + 1) rows) (refl, one.0, one.1, later) in
        let behind : AreCaused script report cpu n (c ∷ cs) (map (offlined_line n) row.offlined ++ answer) = (past-offlined n c cs row.offlined answer last.0 last.1).1 in
        subst (AreCaused script report cpu n (c ∷ cs))
        (sym (append_assoc (map (event_line n) row.told) (map (offlined_line n) row.offlined ++ end_lines n row.guest row.answer) (lines_from (n + 1) rows)
        ∙ ap (λ (l : List CpuLine). map (event_line n) row.told ++ l) (append_assoc (map (offlined_line n) row.offlined) (end_lines n row.guest row.answer) (lines_from (n + 1) rows))))
        (past-events n c cs row.told (map (offlined_line n) row.offlined ++ answer) behind)

  pub all-caused : (cpu : Cpu) (list : List Command) (rows : List CpuLine) → slice_get script.lists cpu.0 ≡ Some list → slice_get report.cpus cpu.0 ≡ Some rows → AreCaused script report cpu 0 list rows
  all-caused cpu list rows list_is rows_is =
      let has = rows-of-lines script copies seat last report end cpu rows rows_is in
      let same : has.list ≡ list = same_Some has.list list (sym has.list_is ∙ list_is) in
      let zeroth : (i : ℕ) → i ≡ 0 + i = λ i. omega arith in
      subst (AreCaused script report cpu 0 list) (sym has.lines_are) (caused-from cpu list list_is has.own has.own_is 0 list has.own (λ i c there. subst (λ (k : ℕ). slice_get list k ≡ Some c) (zeroth i) there)
      (λ i r there. subst (λ (k : ℕ). slice_get has.own k ≡ Some r) (zeroth i) there) (has.served.count ∙ ap (λ (l : List Command). length l) same))

  -- ---- the stop

  stop-of : (stop : Stop) → report.stop ≡ Some stop → IsStopOf script report stop
  stop-of stop is =
      let who : Who = stop.who in
      let by : StopBy script copies seat last report end who = stopper script copies seat last report end stop is in
      let cause = run.cause stop is in
      let of = command-of script copies seat last report end who by.list by.own.command by.list_is by.own.there in
      let same_list : of.list ≡ by.list = same_Some of.list by.list (sym of.list_is ∙ by.list_is) in
      let same_own : of.own ≡ by.rows = same_Some of.own by.rows (sym of.own_is ∙ by.rows_is) in
      let same_command : of.command ≡ by.own.command = same_Some of.command by.own.command (sym of.command_is ∙ ap (λ (l : List Command). slice_get l who.seq) same_list ∙ by.own.there) in
      let same_row : of.row ≡ by.own.row = same_Some of.row by.own.row (sym of.row_is ∙ ap (λ (l : List Row). slice_get l who.seq) same_own ∙ by.own.answered.row_is) in
      let at : command_at script who ≡ Some of.command = command-is script who of.list of.command of.list_is of.command_is in
      let caused_command : cause.command ≡ of.command = same_Some cause.command of.command (sym cause.command_is ∙ at) in
      let its : row_at end.rows who ≡ Some of.row = ap (λ (o : Option (List Row)). option_and_then (λ (own : List Row). slice_get own who.seq) o) of.own_is ∙ of.row_is in
      let caused_row : cause.row ≡ of.row = same_Some cause.row of.row (sym cause.row_is ∙ ap (λ (l : List (List Row)). row_at l who) (sym (ended-rows script copies seat turns last report run)) ∙ its) in
      let can : CanStop script.layout of.command of.row.told = subst (λ (c : Command). CanStop script.layout c of.row.told) (sym same_command) (subst (λ (r : Row). CanStop script.layout by.own.command r.told) (sym same_row) by.own.can) in
      let is_cause : IsCauseOf of.command of.row.told stop.cause = subst (λ (c : Command). IsCauseOf c of.row.told stop.cause) caused_command (subst (λ (r : Row). IsCauseOf cause.command r.told stop.cause) caused_row cause.cause) in
      record {
        cause = some-so (λ (command : Command). CanStopFor script report who command stop.cause) (command_at script who) of.command at
            (can-stop script report (view_of last (seat who.cpu)) who of.command of.row.told (current_thread of.command) stop.cause (events-told script copies seat last report end (view_of last (seat who.cpu)) who of)
            (told-so script.layout (view_of last (seat who.cpu)) who (copies who) of.command of.row.answer of.before of.row.told of.after of.served.told) can is_cause);
        answered = answer-told script copies seat last report end (view_of last (seat who.cpu)) who of ∙ ap (λ (r : Row). Some r.answer) same_row ∙ ap (λ (a : Answer). Some a) by.own.answered.stopped;
      }

  pub stop-agrees : StopAgrees script report
  stop-agrees = record {
    caused = stop-of;
    stays = λ cpu rows rows_is.
        let has = rows-of-lines script copies seat last report end cpu rows rows_is in
        subst StaysStopped (sym has.lines_are) (stays-lines has.own has.served.stays);
  }
