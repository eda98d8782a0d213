-- What the answer of a store that copied a page first rests on was shown by its own turns; and so of any command.
use Rattle.std.proofs.Common.{◌≡◌, ◌⊎◌, inl, inr, ℕ, ◌<◌, false, List, [], Option, None, Some, option_and_then, option_map, refl, sym, ap, ◌∙◌, subst}
use Rattle.std.specs.Option.{option_map_or}
use Rattle.std.proofs.lemmas.Option.{same_Some}
use Rattle.hwp_law_served.specs.hwp_geom.declared.Cpu.{Cpu}
use Rattle.hwp_law_served.specs.hwp_geom.declared.Page.{Page}
use Rattle.hwp_law_served.specs.hwp_geom.declared.Proc.{Proc}
use Rattle.hwp_law_served.specs.hwp_geom.declared.Thread.{Thread}
use Rattle.hwp_law_served.specs.hwp_geom.declared.VSlot.{VSlot}
use Rattle.hwp_law_served.specs.hwp_geom.declared.Who.{Who}
use Rattle.hwp_law_served.specs.hwp_banks.Banks.{Banks}
use Rattle.hwp_law_served.specs.hwp_page.Refusals.{IsAway}
use Rattle.hwp_law_served.specs.hwp_page.Step.{IsOf}
use Rattle.hwp_law_served.specs.hwp_core_rule.declared.Log.{Log}
use Rattle.hwp_law_served.specs.hwp_core_rule.declared.SharedWord.TheVariants as places
use Rattle.hwp_law_served.specs.hwp_core_rule.declared.State.{State}
use Rattle.hwp_law_served.specs.hwp_core_rule.Logs.{state_of}
use Rattle.hwp_law_served.specs.hwp_core_rule.Boards.{Played, view_of}
use Rattle.hwp_law_served.specs.hwp_script_words.declared.Command.{Command}
use Rattle.hwp_law_served.specs.hwp_script_words.declared.Command.TheVariants as commands
use Rattle.hwp_law_served.specs.hwp_script_words.declared.Script.{Script}
use Rattle.hwp_law_served.specs.hwp_report_text.declared.Answer.{Answer}
use Rattle.hwp_law_served.specs.hwp_report_text.declared.Answer.TheVariants as answers
use Rattle.hwp_law_served.specs.hwp_report_text.declared.Report.{Report}
use Rattle.hwp_law_served.specs.hwp_law.Commands.{command_at, process_at, process_of_thread, thread_of}
use Rattle.hwp_law_served.specs.hwp_law.Copies.{ended_through}
use Rattle.hwp_law_served.specs.hwp_law.Endings.{IsOver}
use Rattle.hwp_law_served.specs.hwp_law.Runs.{slot_ended, slot_of}
use Rattle.hwp_law_served.specs.Shown.{AnswerShown, GoesOn, ProcessShown}
use Rattle.hwp_law_served.specs.Turns.{SawPage}
use Rattle.hwp_law_served.specs.hwp_cpu_row.declared.FrameChange.{FrameChange}
use Rattle.hwp_law_served.specs.hwp_claim.declared.EventOutcome.{EventOutcome}
use Rattle.hwp_law_served.specs.Causes.{IsCausedWith, SawProcess}
use Rattle.hwp_law_served.specs.Copied.{FoundNone, IsCopyCaused, IsCopyEnded, store_by, sub_next}
use Rattle.hwp_law_served.proofs.of_hwp_law.ActingLaws.{slot-uncopied}
use Rattle.hwp_law_served.proofs.turns.SeatKnows.{Said}
use Rattle.hwp_law_served.proofs.turns.SeatTells.{told}
use Rattle.hwp_law_served.proofs.RunEnds.{IsEnd}
use Rattle.hwp_law_served.proofs.copied.EndedThrough.{ended-so}
use Rattle.hwp_top_report.proofs.Shown.{answer-shown, gone-shown, goes-shown, one-page, page-shown, process-is, process-shown, stopped-shown, word-shown}
use Rattle.hwp_top_report.proofs.copied.CopyGoing.{copy-goes, copy-gone}

module _ (script : Script) (copies : Who → Option VSlot) (seat : Cpu → ℕ) (last : State) (report : Report) (end : IsEnd script copies seat last report) (turns : List Played) (who : Who) (inside : who.cpu.0 < script.layout.cpus) (said : Said (told script.layout turns) (view_of last (seat who.cpu))) where
  -- through which translation it ended
  ended-there : (thread : Thread) (from to : VSlot) (line word : ℕ) → copies who ≡ Some from → command_at script who ≡ Some (commands.Store thread to line word) → slot_ended script copies report who ≡ Some (ended_through script.layout report who from to)
  ended-there thread from to line word some at =
      ap (λ (o : Option Command). option_map (λ (s : VSlot). option_map_or (λ (f : VSlot). ended_through script.layout report who f s) (copies who) s) (option_and_then slot_of o)) at
      ∙ ap (λ (o : Option VSlot). Some (option_map_or (λ (f : VSlot). ended_through script.layout report who f to) o to)) some

  copy-shown : (thread : Thread) (from to : VSlot) (line word : ℕ) (before : Banks) (told_ : List EventOutcome) (answer : Answer) → copies who ≡ Some from → command_at script who ≡ Some (commands.Store thread to line word)
      → IsCopyCaused script.layout (view_of last (seat who.cpu)) who thread from to line word before told_ answer → AnswerShown script turns who (slot_ended script copies report who) (commands.Store thread to line word) answer
  copy-shown thread from to line word before told_ (answers.Stored place) some at caused = tt
  copy-shown thread from to line word before told_ (answers.Sigbus place) some at caused = tt
  copy-shown thread from to line word before told_ answers.NoFrame some at caused =
      let found = caused.ended.1 in
      record {
        available = word-shown script.layout turns (view_of last (seat who.cpu)) said who (λ (w : ℕ). w ≡ 0) places.Available 0 refl found.available;
        out = λ other page other_is of.
            let same : other ≡ ended_through script.layout report who from to = same_Some other (ended_through script.layout report who from to) (sym other_is ∙ ended-there thread from to line word some at) in
            let page_is : found.behind.access.page ≡ page = one-page script.layout (ended_through script.layout report who from to) found.behind.access.page page
            (ended-so script copies seat last report end who inside thread from to line word before told_ some at caused) (subst (λ (v : VSlot). IsOf script.layout page v) same of) in
            subst (λ (p : Page). SawPage script.layout turns who p (λ (log : Log). (state_of script.layout log).cached ≡ false)) page_is
            (page-shown script.layout turns (view_of last (seat who.cpu)) said who (λ (log : Log). (state_of script.layout log).cached ≡ false) found.behind.access.page found.place IsAway found.away found.away.such);
      }
  copy-shown thread from to line word before told_ (answers.Gone ended) some at caused =
      gone-shown script turns (view_of last (seat who.cpu)) said who [] (commands.Store thread to line word) thread ended at refl (copy-gone script.layout (view_of last (seat who.cpu)) (store_by who thread to line word caused.page caused.process) caused.has.page (sub_next (store_by who thread to line word caused.page caused.process) from word caused.has.runs) caused.has.runs caused.has.rest told_ ended caused.ended)
  copy-shown thread from to line word before told_ answers.Stopped some at caused = stopped-shown script.layout turns (view_of last (seat who.cpu)) said who caused.ended.stopped
  copy-shown thread from to line word before told_ answers.GuestBad some at caused = tt
  copy-shown thread from to line word before told_ answers.GuestStopped some at caused = tt
  copy-shown thread from to line word before told_ _ some at caused = absurd caused.ended

  -- the answer of any command
  pub answer-with : (earlier : List (Command × Answer)) (copied : Option VSlot) (command : Command) (before : Banks) (told_ : List EventOutcome) (own : Option FrameChange) (answer : Answer) → copies who ≡ copied → command_at script who ≡ Some command
      → IsCausedWith script.layout earlier copied (view_of last (seat who.cpu)) who command before told_ own answer → AnswerShown script turns who (slot_ended script copies report who) command answer
  answer-with earlier None command before told_ own answer none at caused =
      subst (λ (through : Option VSlot). AnswerShown script turns who through command answer) (sym (slot-uncopied script copies report who none ∙ ap (option_and_then slot_of) at))
      (answer-shown script turns (view_of last (seat who.cpu)) said who earlier command told_ own answer at caused)
  answer-with earlier (Some from) (commands.Store thread to line word) before told_ own answer some at caused = copy-shown thread from to line word before told_ answer some at caused
  answer-with earlier (Some from) command before told_ own answer some at caused = absurd caused

  -- its process
  goes-so : (process : Proc) (answer : Answer) → IsOver answer ⊎ ProcessShown script.layout turns who process 0 → GoesOn script.layout turns who process answer
  goes-so process answers.Stopped either = tt
  goes-so process (answers.Gone page) either = tt
  goes-so process answer (inr shown) = shown
  goes-so process answer (inl over) = absurd over

  copy-on : (process : Proc) (thread : Thread) (from to : VSlot) (line word : ℕ) (before : Banks) (told_ : List EventOutcome) (answer : Answer) → process_of_thread script.layout thread ≡ Some process
      → IsCopyCaused script.layout (view_of last (seat who.cpu)) who thread from to line word before told_ answer → GoesOn script.layout turns who process answer
  copy-on process thread from to line word before told_ answer of caused = goes-so process answer (elim (copy-goes script.layout (view_of last (seat who.cpu)) (store_by who thread to line word caused.page caused.process) _ _ _ _ told_ answer caused.ended) [
    | inl over ↦ inl over
    | inr saw ↦ inr (process-shown script.layout turns (view_of last (seat who.cpu)) said who process of saw)
  ])

  pub goes-with : (earlier : List (Command × Answer)) (process : Proc) (copied : Option VSlot) (command : Command) (before : Banks) (told_ : List EventOutcome) (own : Option FrameChange) (answer : Answer) → command_at script who ≡ Some command → process_at script who ≡ Some process
      → IsCausedWith script.layout earlier copied (view_of last (seat who.cpu)) who command before told_ own answer → GoesOn script.layout turns who process answer
  goes-with earlier process None command before told_ own answer at of caused = goes-shown script turns (view_of last (seat who.cpu)) said who earlier process command told_ own answer at of caused
  goes-with earlier process (Some from) (commands.Store thread to line word) before told_ own answer at of caused =
      copy-on process thread from to line word before told_ answer (sym (process-is script who (commands.Store thread to line word) at) ∙ of) caused
  goes-with earlier process (Some from) command before told_ own answer at of caused = absurd caused
