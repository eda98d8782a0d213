-- Each answer of a run rests on what its own command was shown.
use Rattle.std.proofs.Common.{◌≡◌, ◌⊎◌, ℕ, ◌+◌, ◌<◌, Bool, true, false, cond, nat_le, List, Option, Some, None, map, slice_get, take, option_and_then, sym, ap, ◌∙◌, subst, refl, true≢false}
use Rattle.std.proofs.lemmas.Option.{none-some, same_Some}
use Rattle.hwp_law_served.specs.hwp_geom.declared.VSlot.{VSlot}
use Rattle.hwp_law_served.specs.hwp_geom.declared.Cpu.{Cpu}
use Rattle.hwp_law_served.specs.hwp_geom.declared.Frame.{Frame}
use Rattle.hwp_law_served.specs.hwp_geom.declared.Layout.{Layout}
use Rattle.hwp_law_served.specs.hwp_geom.declared.Proc.{Proc}
use Rattle.hwp_law_served.specs.hwp_geom.declared.Thread.{Thread}
use Rattle.hwp_law_served.specs.hwp_geom.declared.Who.{Who}
use Rattle.hwp_law_served.specs.hwp_banks.Addresses.{frame_at}
use Rattle.hwp_law_served.specs.hwp_page.declared.Outcome.{Outcome}
use Rattle.hwp_law_served.specs.hwp_page.declared.Outcome.TheVariants as outcomes
use Rattle.hwp_law_served.specs.hwp_page.Situations.{outcome_of}
use Rattle.hwp_law_served.specs.hwp_severity.declared.Severity.{Severity}
use Rattle.hwp_law_served.specs.hwp_severity.declared.Severity.TheVariants as severities
use Rattle.hwp_law_served.specs.hwp_core_rule.declared.SharedWord.TheVariants as places
use Rattle.hwp_law_served.specs.hwp_core_rule.declared.State.{State}
use Rattle.hwp_law_served.specs.hwp_core_rule.declared.View.{View}
use Rattle.hwp_law_served.specs.hwp_core_rule.Lists.{EachMember}
use Rattle.hwp_law_served.proofs.of_hwp_core_rule.Lists.{each-map, each-weaken}
use Rattle.hwp_law_served.specs.hwp_core_rule.Boards.{Played, view_of}
use Rattle.hwp_law_served.specs.hwp_claim_frame.Claims.{SawPoison}
use Rattle.hwp_law_served.specs.hwp_script_words.declared.Command.{Command}
use Rattle.hwp_law_served.specs.hwp_script_words.declared.Command.TheVariants as commands
use Rattle.hwp_law_served.specs.hwp_script_words.declared.Script.{Script}
use Rattle.hwp_law_served.specs.hwp_report_text.declared.Acted.{Acted}
use Rattle.hwp_law_served.specs.hwp_report_text.declared.Acted.TheVariants as acts
use Rattle.hwp_law_served.specs.hwp_report_text.declared.Answer.{Answer}
use Rattle.hwp_law_served.specs.hwp_report_text.declared.Answer.TheVariants as answers
use Rattle.hwp_law_served.specs.hwp_report_text.declared.Report.{Report}
use Rattle.hwp_law_served.specs.hwp_banks.Banks.{Banks}
use Rattle.hwp_law_served.specs.hwp_law.Commands.{command_at, current_thread, process_at, process_of_thread, thread_of}
use Rattle.hwp_law_served.specs.hwp_law.Lines.{answer_of, answered, events_of}
use Rattle.hwp_law_served.specs.hwp_law.Losses.{numbers_after}
use Rattle.hwp_law_served.specs.hwp_law.Outcomes.{outcome_act}
use Rattle.hwp_law_served.specs.hwp_claim.declared.Found.{Found}
use Rattle.hwp_law_served.specs.hwp_cpu_row.declared.Offlining.{Offlining}
use Rattle.hwp_law_served.specs.hwp_cpu_row.declared.Row.{Row}
use Rattle.hwp_law_served.specs.hwp_claim.declared.EventOutcome.{EventOutcome}
use Rattle.hwp_law_served.specs.hwp_claim.Fits.{IsDone, IsFailed}
use Rattle.hwp_law_served.specs.hwp_claim.Told.{at_once, frame_of, is_already, required_by, severity_at_once}
use Rattle.hwp_law_served.specs.Scrubs.{ScrubsShown}
use Rattle.hwp_law_served.specs.Shown.{AlreadyShown, IsShown, OfflineShown}
use Rattle.hwp_law_served.proofs.turns.SeatKnows.{Said}
use Rattle.hwp_law_served.proofs.turns.SeatTells.{all-told, told}
use Rattle.hwp_law_served.specs.hwp_scrub.Visits.{AreBanks}
use Rattle.hwp_law_served.specs.Causes.{IsCausedWith}
use Rattle.hwp_law_served.specs.hwp_cpu_row.Acts.{event_at}
use Rattle.hwp_law_served.specs.Rows.{offlined_at}
use Rattle.hwp_law_served.specs.Runs.{IsRunOf, row_at}
use Rattle.hwp_law_served.specs.Served.{IsOffliningServed, IsRowServed, SawRunning}
use Rattle.hwp_law_served.specs.Told.{IsScrubTold}
use Rattle.hwp_law_served.proofs.RunEnds.{command-of}
use Rattle.hwp_law_served.proofs.LastBoard.{ended}
use Rattle.hwp_law_served.proofs.RowLines.{answer-told, events-by-row, events-told, offlined-by-row, offlines_at, told_at}
use Rattle.hwp_law_served.proofs.lines.OfRows.{row-of}
use Rattle.hwp_top_report.proofs.report_lines.ScrubShown.{bad-shown, looked-at, weak-shown}
use Rattle.hwp_law_served.proofs.RowTold.{IsToldRight}
use Rattle.hwp_law_served.proofs.copied.CopyTells.{told-so}
use Rattle.hwp_law_served.proofs.copied.Uncopied.{told-uncopied}
use Rattle.hwp_top_report.proofs.copied.CopyShown.{answer-with, goes-with}
use Rattle.hwp_top_report.proofs.Shown.{already-shown, beside-shown, runs-shown, word-shown}
use Rattle.hwp_top_report.proofs.losses.NumbersTold.{number-known}

-- the list of a processor that has such a command
pub record HasCommand (script : Script) (who : Who) (command : Command) : Type 0 where
  pub list : List Command
  pub list_is : slice_get script.lists who.cpu.0 ≡ Some list
  pub command_is : slice_get list who.seq ≡ Some command

pub has-command : (script : Script) (who : Who) (command : Command) → command_at script who ≡ Some command → HasCommand script who command
has-command script who command is = which (slice_get script.lists who.cpu.0) refl is
  where
    which : (o : Option (List Command)) → slice_get script.lists who.cpu.0 ≡ o → option_and_then (λ (l : List Command). slice_get l who.seq) o ≡ Some command → HasCommand script who command
    which None none there = absurd (none-some command there)
    which (Some list) some there = record { list = list; list_is = some; command_is = there }

-- the command that the thread of a process makes
pub process-command : (script : Script) (who : Who) (process : Proc) → process_at script who ≡ Some process → (command : Command) × (command_at script who ≡ Some command)
process-command script who process is = which (command_at script who) refl is
  where
    which : (o : Option Command) → command_at script who ≡ o → option_and_then (process_of_thread script.layout) (option_and_then thread_of o) ≡ Some process → (command : Command) × (command_at script who ≡ Some command)
    which None none there = absurd (none-some process there)
    which (Some command) some there = (command, some)

-- ---- of an event whose frame was poisoned already

-- what is done without a step isn't that
abbrev is_told_already : Option Acted → Bool
is_told_already None = false
is_told_already (Some acted) = is_already acted

failure-not-already : (x y z : Bool) → is_told_already (cond x (Some acts.Held) (cond y (Some acts.Outside) (cond z None (Some acts.Panic)))) ≡ false
failure-not-already true y z = refl
failure-not-already false true z = refl
failure-not-already false false true = refl
failure-not-already false false false = refl

once-not-already : (layout : Layout) (held_back : Bool) (frame : ℕ) (severity : Severity) → is_told_already (severity_at_once layout held_back frame severity) ≡ false
once-not-already layout held_back frame severities.Stop = refl
once-not-already layout held_back frame severities.None = refl
once-not-already layout held_back frame severities.Keep = refl
once-not-already layout held_back frame severities.Deferred = refl
once-not-already layout held_back frame severities.Logged = refl
once-not-already layout held_back frame severities.Optional = failure-not-already held_back (nat_le layout.frames frame) layout.recovery
once-not-already layout held_back frame severities.Required = failure-not-already held_back (nat_le layout.frames frame) layout.recovery

result-not-already : (o : Outcome) → is_already (outcome_act o) ≡ false
result-not-already outcomes.Recovered = refl
result-not-already outcomes.Delayed = refl
result-not-already outcomes.Ignored = refl

-- so its failure took place, and the command saw the poison
saw-already : (layout : Layout) (view : View) (who : Who) (thread : Option Thread) (t : EventOutcome) → IsToldRight layout view who thread t → t.acted ≡ acts.Already → SawPoison view who (frame_of t.held)
saw-already layout view who thread t (b, right) already = which (at_once layout b t.held) refl right
  where
    failed : (found : Option Found) → IsFailed layout view who (frame_of t.held) (required_by thread t.held.grade.severity) t.acted found → SawPoison view who (frame_of t.held)
    failed None is = is.1
    failed (Some found) is = absurd (true≢false (sym (ap is_already (sym is.0 ∙ already)) ∙ result-not-already (outcome_of found.situation)))

    which : (o : Option Acted) → at_once layout b t.held ≡ o → IsDone layout view who (required_by thread t.held.grade.severity) t o → SawPoison view who (frame_of t.held)
    which None none done = failed t.found done
    which (Some acted) some done = absurd (true≢false (sym (ap is_already (sym done.0 ∙ already)) ∙ sym (ap is_told_already some) ∙ once-not-already layout b (frame_at t.held.event.addr) t.held.grade.severity))

module _ (script : Script) (copies : Who → Option VSlot) (seat : Cpu → ℕ) (turns : List Played) (last : State) (report : Report) (run : IsRunOf script copies seat turns last report) where
  -- a command of the script, with its row and what its seat knows of it
  pub record Serves (who : Who) (command : Command) : Type 0 where
    pub earlier : List (Command × Answer)
    pub inside : who.cpu.0 < script.layout.cpus
    pub row : Row
    pub before : Banks
    pub free : AreBanks before
    pub after : Banks
    pub served : IsRowServed script.layout earlier (copies who) (view_of last (seat who.cpu)) who command before row after
    pub answered : answer_of report who ≡ Some row.answer
    pub events : events_of report who ≡ map (event_at who.seq) row.told

  pub serves : (who : Who) (command : Command) → command_at script who ≡ Some command → Serves who command
  serves who command at =
      let end = ended script copies seat turns last report run in
      let has = has-command script who command at in
      let of = command-of script copies seat last report end who has.list command has.list_is has.command_is in
      let same_command : of.command ≡ command = same_Some of.command command (sym of.command_is ∙ ap (λ (l : List Command). slice_get l who.seq) (same_Some of.list has.list (sym of.list_is ∙ has.list_is)) ∙ has.command_is) in
      record {
        earlier = of.earlier;
        inside = of.inside;
        row = of.row;
        before = of.before;
        free = of.free;
        after = of.after;
        served = subst (λ (c : Command). IsRowServed script.layout of.earlier (copies who) (view_of last (seat who.cpu)) who c of.before of.row of.after) same_command of.served;
        answered = answer-told script copies seat last report end (view_of last (seat who.cpu)) who of;
        events = events-told script copies seat last report end (view_of last (seat who.cpu)) who of;
      }

  -- and with this answer
  pub record Answers (who : Who) (command : Command) (answer : Answer) : Type 0 where
    pub earlier : List (Command × Answer)
    pub inside : who.cpu.0 < script.layout.cpus
    pub row : Row
    pub answer_is : row.answer ≡ answer
    pub before : Banks
    pub after : Banks
    pub served : IsRowServed script.layout earlier (copies who) (view_of last (seat who.cpu)) who command before row after

  pub answers-of : (who : Who) (command : Command) (answer : Answer) → command_at script who ≡ Some command → answer_of report who ≡ Some answer → Answers who command answer
  answers-of who command answer at is =
      let a = serves who command at in
      record { earlier = a.earlier; inside = a.inside; row = a.row; answer_is = same_Some a.row.answer answer (sym a.answered ∙ is); before = a.before; after = a.after; served = a.served }

  -- its answer has its cause
  pub caused-so : {who : Who} {command : Command} {answer : Answer} (a : Answers who command answer) → IsCausedWith script.layout a.earlier (copies who) (view_of last (seat who.cpu)) who command a.before a.row.told a.row.own answer
  caused-so {who} {command} a = subst (IsCausedWith script.layout a.earlier (copies who) (view_of last (seat who.cpu)) who command a.before a.row.told a.row.own) a.answer_is a.served.caused

  said : (cpu : Cpu) → cpu.0 < script.layout.cpus → Said (told script.layout turns) (view_of last (seat cpu))
  said cpu inside = all-told script.layout turns last run.rule run.moves (seat cpu) (view_of last (seat cpu)) (run.seated.there cpu inside)

  events-shown : (who : Who) (o : Option Row) → row_at (ended script copies seat turns last report run).rows who ≡ o → EachMember (AlreadyShown script.layout turns who) (map (event_at who.seq) (told_at o))
  events-shown who None none = λ i e there. absurd (none-some e there)
  events-shown who (Some row) some =
      let r = row-of script copies seat last report (ended script copies seat turns last report run) who row some in
      let view : View = view_of last (seat who.cpu) in
      let right : EachMember (IsToldRight script.layout view who (current_thread r.of.command)) row.told = subst (λ (x : Row). EachMember (IsToldRight script.layout view who (current_thread r.of.command)) x.told) r.same
      (told-so script.layout view who (copies who) r.of.command r.of.row.answer r.of.before r.of.row.told r.of.after r.of.served.told) in
      each-map (event_at who.seq) (AlreadyShown script.layout turns who) row.told
      (each-weaken (IsToldRight script.layout view who (current_thread r.of.command)) (λ (t : EventOutcome). AlreadyShown script.layout turns who (event_at who.seq t)) row.told
      (λ t is. already-shown script turns view (said who.cpu r.of.inside) who r.of.earlier t who.seq (saw-already script.layout view who (current_thread r.of.command) t is)) right)

  offlined-shown : (who : Who) (o : Option Row) → row_at (ended script copies seat turns last report run).rows who ≡ o → EachMember (OfflineShown script turns who) (map (offlined_at who.seq) (offlines_at o))
  offlined-shown who None none = λ i l there. absurd (none-some l there)
  offlined-shown who (Some row) some =
      let r = row-of script copies seat last report (ended script copies seat turns last report run) who row some in
      let view : View = view_of last (seat who.cpu) in
      let served : EachMember (IsOffliningServed script.layout view who) row.offlined = subst (λ (x : Row). EachMember (IsOffliningServed script.layout view who) x.offlined) r.same r.of.served.offlined in
      each-map (offlined_at who.seq) (OfflineShown script turns who) row.offlined
      (each-weaken (IsOffliningServed script.layout view who) (λ (x : Offlining). OfflineShown script turns who (offlined_at who.seq x)) row.offlined
      (λ x is. beside-shown script turns view (said who.cpu r.of.inside) who r.of.earlier x who.seq is) served)

  -- each answer, each line of an event and of a frame taken out of use, and each number of a handle rests on what its command was shown
  pub report-shown : IsShown script copies report turns
  report-shown = record {
    answers = λ who command answer at is.
        let a = answers-of who command answer at is in
        answer-with script copies seat last report (ended script copies seat turns last report run) turns who a.inside (said who.cpu a.inside) a.earlier (copies who) command a.before a.row.told a.row.own answer refl at (caused-so a);
    going = λ who process answer at is.
        let has = process-command script who process at in
        let a = answers-of who has.0 answer has.1 is in
        goes-with script copies seat last report (ended script copies seat turns last report run) turns who a.inside (said who.cpu a.inside) a.earlier process (copies who) has.0 a.before a.row.told a.row.own answer has.1 at (caused-so a);
    running = λ who command answer at is.
        let a = answers-of who command answer at is in
        runs-shown script.layout turns (view_of last (seat who.cpu)) (said who.cpu a.inside) who answer (subst (λ (x : Answer). (x ≡ answers.Stopped) ⊎ SawRunning (view_of last (seat who.cpu)) who) a.answer_is a.served.running);
    events = λ who. subst (EachMember (AlreadyShown script.layout turns who)) (sym (events-by-row script copies seat last report (ended script copies seat turns last report run) who)) (events-shown who (row_at (ended script copies seat turns last report run).rows who) refl);
    offlined = λ who. subst (EachMember (OfflineShown script turns who)) (sym (offlined-by-row script copies seat last report (ended script copies seat turns last report run) who)) (offlined-shown who (row_at (ended script copies seat turns last report run).rows who) refl);
    handles = λ cpu list rows list_is rows_is file i p there tells.
        let known = number-known script copies seat last report (ended script copies seat turns last report run) cpu list rows list_is rows_is file i p there tells in
        word-shown script.layout turns (view_of last (seat cpu)) (said cpu known.0) (record { cpu = cpu; seq = i }) (λ (word : ℕ). word ≡ numbers_after file 0 (take (i + 1) (answered list rows))) (places.Loss file)
        (numbers_after file 0 (take (i + 1) (answered list rows))) refl known.1.0;
  }

  -- what a scrub told
  scrub-told : {who : Who} {first last_frame : Frame} (a : Serves who (commands.Scrub first last_frame)) → IsScrubTold script.layout (view_of last (seat who.cpu)) who first last_frame a.row.answer a.before a.row.told a.after
  scrub-told {who} {first} {last_frame} a = told-uncopied script.layout (copies who) (view_of last (seat who.cpu)) who (commands.Scrub first last_frame) a.row.answer a.before a.row.told a.after refl a.served.told

  -- and so does each line of a scrub
  pub scrubs-shown : ScrubsShown script report turns
  scrubs-shown = record {
    bad = λ who first last_frame at.
        let a = serves who (commands.Scrub first last_frame) at in
        bad-shown script report turns (view_of last (seat who.cpu)) (said who.cpu a.inside) who first last_frame a.before a.free a.row.told a.after a.events a.row.answer (scrub-told a);
    weak = λ who first last_frame at.
        let a = serves who (commands.Scrub first last_frame) at in
        weak-shown script report turns (view_of last (seat who.cpu)) (said who.cpu a.inside) who first last_frame a.before a.free a.row.told a.after a.events a.row.answer (scrub-told a);
    whole = λ who first last_frame n at is.
        let a = serves who (commands.Scrub first last_frame) at in
        let answer : a.row.answer ≡ answers.Scrubbed n = same_Some a.row.answer (answers.Scrubbed n) (sym a.answered ∙ is) in
        looked-at script report turns (view_of last (seat who.cpu)) (said who.cpu a.inside) who first last_frame a.before a.free a.row.told a.after a.events
        (subst (λ (x : Answer). IsScrubTold script.layout (view_of last (seat who.cpu)) who first last_frame x a.before a.row.told a.after) answer (scrub-told a));
  }
