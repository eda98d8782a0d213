-- The report shows the cause of the answer of each command, also of a store that copied a page first.
use Rattle.std.proofs.Common.{◌≡◌, inl, inr, ℕ, ◌<◌, List, [], ◌∷◌, ◌++◌, Option, None, Some, length, slice_get, option_and_then, take, append_assoc, refl, sym, ap, ◌∙◌}
use Rattle.std.proofs.lemmas.List.{length-map}
use Rattle.hwp_law_served.specs.hwp_geom.declared.Cpu.{Cpu}
use Rattle.hwp_law_served.specs.hwp_geom.declared.Page.{Page}
use Rattle.hwp_law_served.specs.hwp_geom.declared.Thread.{Thread}
use Rattle.hwp_law_served.specs.hwp_geom.declared.VSlot.{VSlot}
use Rattle.hwp_law_served.specs.hwp_geom.declared.Who.{Who}
use Rattle.hwp_law_served.specs.hwp_banks.Banks.{Banks}
use Rattle.hwp_law_served.specs.hwp_page.declared.At.{At}
use Rattle.hwp_law_served.specs.hwp_page.declared.Met.TheVariants.{Sigbus}
use Rattle.hwp_law_served.specs.hwp_page.declared.What.{What}
use Rattle.hwp_law_served.specs.hwp_page.declared.What.TheVariants as entries
use Rattle.hwp_law_served.specs.hwp_core_rule.declared.Made.{Made}
use Rattle.hwp_law_served.specs.hwp_core_rule.declared.State.{State}
use Rattle.hwp_law_served.specs.hwp_core_rule.declared.View.{View}
use Rattle.hwp_law_served.proofs.of_hwp_core_rule.Lists.{at_last, at_longer}
use Rattle.hwp_law_served.specs.hwp_core_rule.Boards.{view_of}
use Rattle.hwp_law_served.specs.hwp_core_rule.Known.{IsAt, deeds}
use Rattle.hwp_law_served.specs.hwp_script_words.declared.Command.{Command}
use Rattle.hwp_law_served.specs.hwp_script_words.declared.Command.TheVariants as commands
use Rattle.hwp_law_served.specs.hwp_script_words.declared.Script.{Script}
use Rattle.hwp_law_served.specs.hwp_report_text.declared.Answer.{Answer}
use Rattle.hwp_law_served.specs.hwp_report_text.declared.Answer.TheVariants as answers
use Rattle.hwp_law_served.specs.hwp_report_text.declared.EventLine.{EventLine}
use Rattle.hwp_law_served.specs.hwp_report_text.declared.MarkLine.{MarkLine}
use Rattle.hwp_law_served.specs.hwp_report_text.declared.Report.{Report}
use Rattle.hwp_law_served.specs.hwp_law.Causes.{ComesTo, IsCaused as IsLawCaused, IsSigbus, TakesBack}
use Rattle.hwp_law_served.specs.hwp_law.Commands.{command_at}
use Rattle.hwp_law_served.specs.hwp_law.Policies.{answered_before}
use Rattle.hwp_law_served.specs.hwp_law.Records.{how_in}
use Rattle.hwp_law_served.specs.hwp_cpu_row.declared.FrameChange.{FrameChange}
use Rattle.hwp_law_served.specs.hwp_cpu_row.declared.FrameChange.TheVariants as owns
use Rattle.hwp_law_served.specs.hwp_cpu_row.declared.Row.{Row}
use Rattle.hwp_law_served.specs.hwp_claim.declared.EventOutcome.{EventOutcome}
use Rattle.hwp_law_served.specs.hwp_fault.declared.Request.{Request}
use Rattle.hwp_law_served.specs.hwp_fault.Touches.{refusal_by}
use Rattle.hwp_law_served.specs.hwp_cpu_access.Runs.{made_by}
use Rattle.hwp_law_served.specs.Causes.{IsCausedWith}
use Rattle.hwp_law_served.specs.Copied.{IsCopyCaused, IsCopyEnded, store_by, sub_next}
use Rattle.hwp_law_served.specs.Rows.{offlined}
use Rattle.hwp_law_served.specs.hwp_cpu_row.Acts.{event_at}
use Rattle.hwp_law_served.specs.Runs.{row_at}
use Rattle.hwp_top_report.proofs.Ample.{not-ample}
use Rattle.hwp_top_report.proofs.Answered.{HasFacts, by-failure, law-caused, made-stands, sigbus}
use Rattle.hwp_law_served.proofs.RunEnds.{IsEnd, IsOf}
use Rattle.hwp_top_report.proofs.copied.CopyGoing.{copy-gone}
use Rattle.hwp_top_report.proofs.endings.Gone.{is-gone}
use Rattle.hwp_law_served.proofs.copied.RunFacts.{IsOwnAccess, next-own}
use Rattle.hwp_law_served.proofs.copied.StoredLast.{stored-last}
use Rattle.hwp_law_served.proofs.deeds.Made.{command-is}
use Rattle.hwp_top_report.proofs.report_lines.Records.{own-mark}
use Rattle.hwp_law_served.proofs.RowLines.{answered-so, events-told}
use Rattle.hwp_law_served.proofs.Seen.{MadeWhat, has-signalled, listed-as-own}
use Rattle.hwp_law_served.proofs.Stops.{stop-by}

-- an entry within a command's, with what it is
made-within : (view : View) (who : Who) (front : List Made) (m : Made) (behind : List Made) (at : At) (what : What) → deeds who view ≡ front ++ m ∷ behind → m.page ≡ at.page → m.place ≡ at.entry → m.entry.what ≡ what → MadeWhat view who at what
made-within view who front m behind at what all page_is place_is what_is =
    let there : slice_get (deeds who view) (length front) ≡ Some m
    = ap (λ (l : List Made). slice_get l (length front)) (all ∙ sym (append_assoc front (m ∷ []) behind)) ∙ at_longer (front ++ m ∷ []) behind (length front) m (at_last front m) in
    let own = listed-as-own view who (length front) m there in
    record {
      j = own.0;
      made = m;
      there = own.1;
      entry_is = ap (λ (w : Who). record { who = w; what = m.entry.what }) own.2 ∙ ap (λ (x : What). record { who = who; what = x }) what_is;
      place_is = ap (λ (p : Page). record { page = p; entry = m.place }) page_is ∙ ap (λ (n : ℕ). record { page = at.page; entry = n }) place_is;
    }

module _ (script : Script) (copies : Who → Option VSlot) (seat : Cpu → ℕ) (last : State) (report : Report) (end : IsEnd script copies seat last report) (cpu : Cpu) (inside : cpu.0 < script.layout.cpus) where
  module _ (who : Who) (thread : Thread) (from to : VSlot) (line word : ℕ) (before : Banks) (told : List EventOutcome) where
    -- an access of its copy was refused
    refused : (store : Request) (page : Page) (a : Request) (front : List Made) (m : Made) (at : At) → store.slot ≡ to → store.thread ≡ thread → IsOwnAccess store page from a → deeds who (view_of last (seat cpu)) ≡ front ++ m ∷ [] → IsAt at.page at.entry (refusal_by a.kind a.slot a.line a.thread) m
        → IsSigbus report who (commands.Store thread to line word) at
    refused store page a front m at slot_is thread_is (inl (n, same)) all is =
        sigbus script copies seat last report end cpu inside who (commands.Store thread to line word) thread at (entries.Load from n (Sigbus store.thread)) refl thread_is
        (made-stands script copies seat last report end cpu inside (made-within (view_of last (seat cpu)) who front m [] at (entries.Load from n (Sigbus store.thread)) all is.0 is.1
        (is.2 ∙ ap (λ (b : Request). refusal_by b.kind b.slot b.line b.thread) same)))
    refused store page a front m at slot_is thread_is (inr (n, w, same)) all is =
        sigbus script copies seat last report end cpu inside who (commands.Store thread to line word) thread at (entries.Store store.slot n (Sigbus store.thread)) refl thread_is
        (made-stands script copies seat last report end cpu inside (made-within (view_of last (seat cpu)) who front m [] at (entries.Store store.slot n (Sigbus store.thread)) all is.0 is.1
        (is.2 ∙ ap (λ (b : Request). refusal_by b.kind b.slot b.line b.thread) same)))

  copy-law : (who : Who) (thread : Thread) (from to : VSlot) (line word : ℕ) (before : Banks) (told : List EventOutcome) (own : Option FrameChange) (answer : Answer) → command_at script who ≡ Some (commands.Store thread to line word)
      → HasFacts script copies seat last report end cpu inside who (commands.Store thread to line word) told own → IsCopyCaused script.layout (view_of last (seat cpu)) who thread from to line word before told answer → IsLawCaused script report who (commands.Store thread to line word) answer
  copy-law who thread from to line word before told own answer at facts caused = which answer caused.ended
    where
      which : (a : Answer) → IsCopyEnded script.layout (view_of last (seat cpu)) (store_by who thread to line word caused.page caused.process) caused.has.page (sub_next (store_by who thread to line word caused.page caused.process) from word caused.has.runs) caused.has.runs caused.has.rest told a
          → IsLawCaused script report who (commands.Store thread to line word) a
      which (answers.Stored bt) (going, switched) =
          let end_ = stored-last script.layout (view_of last (seat cpu)) (store_by who thread to line word caused.page caused.process) from word before caused.has bt switched in (
            record { 0 = end_.mask },
            made-stands script copies seat last report end cpu inside (made-within (view_of last (seat cpu)) who end_.front end_.last end_.behind bt _ end_.all (end_.stands.0 ∙ sym end_.page_is) end_.stands.1 end_.stands.2),
          )
      which (answers.Sigbus bt) (going, inl was) =
          refused who thread from to line word before told (store_by who thread to line word caused.page caused.process) caused.has.page was.behind.access (made_by caused.has.runs ++ was.front) was.last bt refl refl
          (next-own (store_by who thread to line word caused.page caused.process) caused.has.page from word caused.has.runs was.behind.access was.behind.access_is)
          (caused.has.all ∙ ap (λ (l : List Made). made_by caused.has.runs ++ l) was.rest_is ∙ sym (append_assoc (made_by caused.has.runs) was.front (was.last ∷ []))) was.refused
      which (answers.Sigbus bt) (going, inr was) = by-failure script copies seat last report end cpu inside who (commands.Store thread to line word) bt (facts.signalled bt was.first)
      which answers.NoFrame (going, found) = not-ample script copies seat last report end cpu inside who found.available
      which (answers.Gone ended) is = is-gone script copies seat last report end cpu inside who (commands.Store thread to line word) thread ended at refl
          (copy-gone script.layout (view_of last (seat cpu)) (store_by who thread to line word caused.page caused.process) caused.has.page (sub_next (store_by who thread to line word caused.page caused.process) from word caused.has.runs) caused.has.runs caused.has.rest told ended is)
      which answers.Stopped is = stop-by script copies seat last report end cpu who inside is.stopped
      which answers.GuestBad is = tt
      which answers.GuestStopped is = tt
      which _ is = absurd is

  law-with : (who : Who) (earlier : List (Command × Answer)) → earlier ≡ answered_before script report who → (copied : Option VSlot) (command : Command) (before : Banks) (told : List EventOutcome) (own : Option FrameChange) (answer : Answer) → command_at script who ≡ Some command
      → HasFacts script copies seat last report end cpu inside who command told own → IsCausedWith script.layout earlier copied (view_of last (seat cpu)) who command before told own answer → IsLawCaused script report who command answer
  law-with who earlier is None command before told own answer at facts caused = law-caused script copies seat last report end cpu inside who earlier is command told own answer at facts caused
  law-with who earlier is (Some from) (commands.Store thread to line word) before told own answer at facts caused = copy-law who thread from to line word before told own answer at facts caused
  law-with who earlier is (Some from) command before told own answer at facts caused = absurd caused

-- the report shows the cause of an answer
pub is-caused : (script : Script) (copies : Who → Option VSlot) (seat : Cpu → ℕ) (last : State) (report : Report) (end : IsEnd script copies seat last report) → (who : Who) (of : IsOf script copies end.rows (view_of last (seat who.cpu)) who) → IsLawCaused script report who of.command of.row.answer
is-caused script copies seat last report end who of =
    let row_is : row_at end.rows who ≡ Some of.row = ap (λ (o : Option (List Row)). option_and_then (λ (own : List Row). slice_get own who.seq) o) of.own_is ∙ of.row_is in
    let before : of.earlier ≡ answered_before script report who = of.earlier_is ∙ ap (take who.seq) (sym (answered-so script copies seat last report end who.cpu of.list of.own of.list_is of.own_is)) in
    law-with script copies seat last report end who.cpu of.inside who of.earlier before (copies who) of.command of.before of.row.told of.row.own of.row.answer (command-is script who of.list of.command of.list_is of.command_is)
    (record {
      signalled = λ at is. has-signalled (view_of last (seat who.cpu)) who of.command of.row at of.served.accounted is;
      count = ap (λ (l : List EventLine). length l) (events-told script copies seat last report end (view_of last (seat who.cpu)) who of) ∙ length-map of.row.told (event_at who.seq);
      marked = λ frame outcome come. own-mark script copies seat last report end who of.row row_is (owns.Failed frame come.found) come.own_is (ComesTo outcome) come.outcome_is;
      offlined = λ frame cycle moved own_is. own-mark script copies seat last report end who of.row row_is (owns.Offlined frame cycle moved) own_is (λ (m : MarkLine). how_in m ≡ Some (offlined moved)) refl;
      revived = λ frame cycle own_is. own-mark script copies seat last report end who of.row row_is (owns.Revived frame cycle) own_is TakesBack tt;
    }) of.served.caused
