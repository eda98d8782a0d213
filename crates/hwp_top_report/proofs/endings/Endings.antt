-- After a command that ended a process, or was answered that it had ended, the processor's later commands of its threads are
-- answered so too.
use Rattle.std.proofs.Common.{◌≡◌, ◌≢◌, ◌⊎◌, ℕ, inl, inr, ◌+◌, ◌<◌, true, List, Option, Some, None, IsSomeAnd, slice_get, option_and_then, option_map, refl, sym, ap, ◌∙◌, subst, arith}
use Rattle.std.proofs.lemmas.Option.{none-some, same_Some}
use Rattle.hwp_law_served.specs.hwp_geom.declared.VSlot.{VSlot}
use Rattle.hwp_law_served.specs.hwp_geom.declared.Cpu.{Cpu}
use Rattle.hwp_law_served.specs.hwp_geom.declared.Layout.{Layout}
use Rattle.hwp_law_served.specs.hwp_geom.declared.Page.{Page}
use Rattle.hwp_law_served.specs.hwp_geom.declared.Proc.{Proc}
use Rattle.hwp_law_served.specs.hwp_geom.declared.Thread.{Thread}
use Rattle.hwp_law_served.specs.hwp_geom.declared.Who.{Who}
use Rattle.hwp_law_served.specs.hwp_page.declared.At.{At}
use Rattle.hwp_law_served.specs.hwp_page.declared.Entry.{Entry}
use Rattle.hwp_law_served.specs.hwp_page.Endings.{is_ending}
use Rattle.hwp_law_served.specs.hwp_page.Orders.{IsEarlier}
use Rattle.hwp_law_served.specs.hwp_core_rule.declared.SharedWord.TheVariants as places
use Rattle.hwp_law_served.specs.hwp_core_rule.declared.State.{State}
use Rattle.hwp_law_served.specs.hwp_core_rule.declared.View.{View}
use Rattle.hwp_law_served.specs.hwp_core_rule.Lists.{EachMember}
use Rattle.hwp_law_served.specs.hwp_core_rule.Boards.{Played, view_of}
use Rattle.hwp_law_served.specs.hwp_core_rule.Known.{Saw}
use Rattle.hwp_law_served.specs.hwp_script_words.declared.Command.{Command}
use Rattle.hwp_law_served.specs.hwp_script_words.declared.Command.TheVariants as commands
use Rattle.hwp_law_served.specs.hwp_script_words.declared.Script.{Script}
use Rattle.hwp_law_served.specs.hwp_report_text.declared.Answer.{Answer}
use Rattle.hwp_law_served.specs.hwp_report_text.declared.Answer.TheVariants as answers
use Rattle.hwp_law_served.specs.hwp_report_text.declared.Report.{Report}
use Rattle.hwp_law_served.specs.hwp_law.Commands.{Access, access_of, process_of_thread, thread_of}
use Rattle.hwp_law_served.specs.hwp_law.Endings.{EndingsStay, HasEnded, IsOver, WasGone}
use Rattle.hwp_law_served.proofs.Reported.{entry-listed}
use Rattle.hwp_law_served.specs.hwp_cpu_row.declared.FrameChange.{FrameChange}
use Rattle.hwp_law_served.specs.hwp_claim.declared.EventOutcome.{EventOutcome}
use Rattle.hwp_law_served.specs.hwp_banks.Banks.{Banks}
use Rattle.hwp_law_served.specs.Causes.{IsAnswerCaused, IsCausedWith, IsTableCaused, SawProcess, WasSignalled}
use Rattle.hwp_law_served.specs.Copied.{store_by, sub_next}
use Rattle.hwp_top_report.proofs.copied.CopyGoing.{copy-goes, copy-gone}
use Rattle.hwp_law_served.specs.Runs.{IsRunOf}
use Rattle.hwp_law_served.proofs.RunKeeps.{run-keeps}
use Rattle.hwp_law_served.proofs.RunEnds.{IsEnd, own-view}
use Rattle.hwp_top_report.proofs.endings.EndingKept.{ends-kept}
use Rattle.hwp_top_report.proofs.endings.EndingSeen.{KnowEnds}
use Rattle.hwp_law_served.proofs.LastBoard.{ended}
use Rattle.hwp_top_report.proofs.AnswerSights.{answers-of, process-command}
use Rattle.hwp_top_report.proofs.Shown.{process-is}

module _ (layout : Layout) (earlier : List (Command × Answer)) (view : View) (who : Who) (process : Proc) where
  -- the word of the thread's process
  saw-process : (thread : Thread) (word : ℕ) → process_of_thread layout thread ≡ Some process → SawProcess layout view who thread word → Saw view who (places.Process process) word
  saw-process thread word is saw = subst (λ (p : Proc). Saw view who (places.Process p) word) (same_Some saw.process process (sym saw.process_is ∙ is)) saw.saw

  abbrev IsProcess : Command → Type 0
  IsProcess command = option_and_then (process_of_thread layout) (thread_of command) ≡ Some process

  -- a command of the process's threads is answered that it is over, or saw it going on
  table-going : (command : Command) (answer : Answer) → IsProcess command → IsTableCaused layout earlier view who command answer → IsOver answer ⊎ Saw view who (places.Process process) 0
  table-going command (answers.Gone page) is caused = inl tt
  table-going (commands.Load thread slot line) (answers.Value word bt) is caused = inr (saw-process thread 0 is caused.1.going)
  table-going (commands.Load thread slot line) (answers.Sigbus bt) is caused = inr (saw-process thread 0 is caused.going)
  table-going (commands.Load thread slot line) answers.NoFrame is caused = inr (saw-process thread 0 is caused.going)
  table-going (commands.Fetch thread slot line) (answers.Value word bt) is caused = inr (saw-process thread 0 is caused.1.going)
  table-going (commands.Fetch thread slot line) (answers.Sigbus bt) is caused = inr (saw-process thread 0 is caused.going)
  table-going (commands.Fetch thread slot line) answers.NoFrame is caused = inr (saw-process thread 0 is caused.going)
  table-going (commands.KLoad thread slot line) (answers.Value word bt) is caused = inr (saw-process thread 0 is caused.1.going)
  table-going (commands.KLoad thread slot line) (answers.Sigbus bt) is caused = inr (saw-process thread 0 is caused.going)
  table-going (commands.KLoad thread slot line) answers.NoFrame is caused = inr (saw-process thread 0 is caused.going)
  table-going (commands.Store thread slot line word) (answers.Stored bt) is caused = inr (saw-process thread 0 is caused.1.going)
  table-going (commands.Store thread slot line word) (answers.Sigbus bt) is caused = inr (saw-process thread 0 is caused.going)
  table-going (commands.Store thread slot line word) answers.NoFrame is caused = inr (saw-process thread 0 is caused.going)
  table-going (commands.Prctl thread args) answer is caused = inr (saw-process thread 0 is caused.going)
  table-going (commands.Fork thread child) answers.Done is caused = inr (saw-process thread 0 is caused.0)
  table-going (commands.Free slot) answer is caused = absurd (none-some process is)
  table-going (commands.Drop page) answer is caused = absurd (none-some process is)
  table-going (commands.Sync page) answer is caused = absurd (none-some process is)
  table-going (commands.Out page) answer is caused = absurd (none-some process is)
  table-going (commands.Fsync file) answer is caused = absurd (none-some process is)
  table-going (commands.Open file) answer is caused = absurd (none-some process is)
  table-going (commands.Log status addr misc) answer is caused = absurd (none-some process is)
  table-going (commands.Watch threshold window) answer is caused = absurd (none-some process is)
  table-going (commands.Bad frame line) answer is caused = absurd (none-some process is)
  table-going (commands.Weak frame line) answer is caused = absurd (none-some process is)
  table-going command answer is caused = absurd caused

  -- an access has its thread
  access-thread : (command : Command) (a : Access) → access_of command ≡ Some a → thread_of command ≡ Some a.thread
  access-thread (commands.Load thread slot line) a is = ap (option_map (λ (b : Access). b.thread)) is
  access-thread (commands.Fetch thread slot line) a is = ap (option_map (λ (b : Access). b.thread)) is
  access-thread (commands.KLoad thread slot line) a is = ap (option_map (λ (b : Access). b.thread)) is
  access-thread (commands.Store thread slot line word) a is = ap (option_map (λ (b : Access). b.thread)) is
  access-thread command a is = absurd (none-some a is)

  signalled-going : (command : Command) (told : List EventOutcome) (at : At) (o : Option Access) → access_of command ≡ o → IsProcess command → IsSomeAnd o (λ (a : Access). WasSignalled layout view who command a.thread told at) → Saw view who (places.Process process) 0
  signalled-going command told at None access is was = absurd was
  signalled-going command told at (Some a) access is was = saw-process a.thread 0 (sym (ap (option_and_then (process_of_thread layout)) (access-thread command a access)) ∙ is) was.going

  either-going : (command : Command) (told : List EventOutcome) (at : At) → IsProcess command → IsTableCaused layout earlier view who command (answers.Sigbus at) ⊎ IsSomeAnd (access_of command) (λ (a : Access). WasSignalled layout view who command a.thread told at)
      → IsOver (answers.Sigbus at) ⊎ Saw view who (places.Process process) 0
  either-going command told at is (inl caused) = table-going command (answers.Sigbus at) is caused
  either-going command told at is (inr was) = inr (signalled-going command told at (access_of command) refl is was)

  -- an access that its guest didn't admit
  denied-going : (command : Command) (o : Option Access) → access_of command ≡ o → IsProcess command → IsSomeAnd o (λ (a : Access). SawProcess layout view who a.thread 0) → Saw view who (places.Process process) 0
  denied-going command None access is saw = absurd saw
  denied-going command (Some a) access is saw = saw-process a.thread 0 (sym (ap (option_and_then (process_of_thread layout)) (access-thread command a access)) ∙ is) saw

  going : (command : Command) (told : List EventOutcome) (own : Option FrameChange) (answer : Answer) → IsProcess command → IsAnswerCaused layout earlier view who command told own answer → IsOver answer ⊎ Saw view who (places.Process process) 0
  going command told own answers.Stopped is caused = inl tt
  going (commands.RaiseUser thread ripv eipv) told own (answers.Raised n) is caused = inr (saw-process thread 0 is caused.0)
  going (commands.RaiseUser thread ripv eipv) told own (answers.Gone page) is caused = inl tt
  going (commands.RaiseKernel ripv eipv) told own (answers.Raised n) is caused = absurd (none-some process is)
  going (commands.Scrub first last) told own (answers.Scrubbed n) is caused = absurd (none-some process is)
  going (commands.Inject frame) told own answer is caused = absurd (none-some process is)
  going (commands.Soft frame) told own answer is caused = absurd (none-some process is)
  going (commands.Unpoison frame) told own answer is caused = absurd (none-some process is)
  going command told own (answers.Sigbus at) is caused = either-going command told at is caused
  going command told own answers.GuestBad is caused = inr (denied-going command (access_of command) refl is caused.1)
  going command told own answers.GuestStopped is caused = inr (denied-going command (access_of command) refl is caused.1)
  going command told own answer is caused = table-going command answer is caused

  -- a command that was answered that the process had ended saw its word
  table-gone : (command : Command) (page : Page) → IsProcess command → IsTableCaused layout earlier view who command (answers.Gone page) → Saw view who (places.Process process) (page.0 + 1)
  table-gone (commands.Load thread slot line) page is caused = saw-process thread _ is caused.0.ended
  table-gone (commands.Fetch thread slot line) page is caused = saw-process thread _ is caused.0.ended
  table-gone (commands.KLoad thread slot line) page is caused = saw-process thread _ is caused.0.ended
  table-gone (commands.Store thread slot line word) page is caused = saw-process thread _ is caused.0.ended
  table-gone (commands.Prctl thread args) page is caused = saw-process thread _ is caused.0.ended
  table-gone (commands.Fork thread child) page is caused = saw-process thread _ is caused.0.ended
  table-gone command page is caused = absurd caused

  gone : (command : Command) (told : List EventOutcome) (own : Option FrameChange) (page : Page) → IsProcess command → IsAnswerCaused layout earlier view who command told own (answers.Gone page) → Saw view who (places.Process process) (page.0 + 1)
  gone (commands.RaiseUser thread ripv eipv) told own page is caused = saw-process thread _ is caused.0.ended
  gone (commands.Inject frame) told own page is caused = absurd caused.1
  gone (commands.Soft frame) told own page is caused = absurd (none-some process is)
  gone (commands.Unpoison frame) told own page is caused = absurd (none-some process is)
  gone command told own page is caused = table-gone command page is caused

  -- also where it copied a page first
  going-with : (copied : Option VSlot) (command : Command) (before : Banks) (told : List EventOutcome) (own : Option FrameChange) (answer : Answer) → IsProcess command → IsCausedWith layout earlier copied view who command before told own answer → IsOver answer ⊎ Saw view who (places.Process process) 0
  going-with None command before told own answer is caused = going command told own answer is caused
  going-with (Some from) (commands.Store thread to line word) before told own answer is caused = elim (copy-goes layout view (store_by who thread to line word caused.page caused.process) _ _ _ _ told answer caused.ended) [
    | inl over ↦ inl over
    | inr saw ↦ inr (saw-process thread 0 is saw)
  ]
  going-with (Some from) command before told own answer is caused = absurd caused

  gone-with : (copied : Option VSlot) (command : Command) (before : Banks) (told : List EventOutcome) (own : Option FrameChange) (page : Page) → IsProcess command → IsCausedWith layout earlier copied view who command before told own (answers.Gone page) → Saw view who (places.Process process) (page.0 + 1)
  gone-with None command before told own page is caused = gone command told own page is caused
  gone-with (Some from) (commands.Store thread to line word) before told own page is caused =
      saw-process thread (page.0 + 1) is (copy-gone layout view (store_by who thread to line word caused.page caused.process) caused.has.page (sub_next (store_by who thread to line word caused.page caused.process) from word caused.has.runs) caused.has.runs caused.has.rest told page caused.ended).ended
  gone-with (Some from) command before told own page is caused = absurd caused

module _ (script : Script) (copies : Who → Option VSlot) (seat : Cpu → ℕ) (turns : List Played) (last : State) (report : Report) (run : IsRunOf script copies seat turns last report) where
  abbrev end : IsEnd script copies seat last report
  end = ended script copies seat turns last report run

  know : EachMember (KnowEnds script.layout) last.views
  know = run-keeps script.layout (λ (s : State) (v : View). KnowEnds script.layout v) (ends-kept script.layout) turns last run.rule run.moves

  module _ (later : Who) (process : Proc) (inside : later.cpu.0 < script.layout.cpus) (saw : Saw (view_of last (seat later.cpu)) later (places.Process process) 0) (who : Who) (earlier : IsEarlier who later) where
    abbrev view : View
    view = view_of last (seat later.cpu)

    knows : KnowEnds script.layout view
    knows = know (seat later.cpu) view (end.seated.there later.cpu inside)

    not-ended : HasEnded script report who process → ⊥
    not-ended has =
        let listed = entry-listed script.layout last report end.board has.at has.entry has.there in
        let made = listed.3 in
        let that = made.3 in
        let own_who : made.1.entry.who ≡ who = ap (λ (x : Entry). x.who) that.entry_is ∙ has.own in
        let own = own-view script copies seat last report end listed.0 listed.1 made.1.entry.who listed.2 ((end.board.holds.rule.processors.commands.own listed.0 listed.1 listed.2).made made.0 made.1 made.2) in
        let cpu_is : made.1.entry.who.cpu ≡ later.cpu = ap (λ (w : Who). w.cpu) own_who ∙ earlier.0 in
        let there : slice_get (view_of last (seat later.cpu)).made made.0 ≡ Some made.1 = sym (ap (λ (x : View). slice_get x.made made.0) (own.1 ∙ ap (λ (c : Cpu). view_of last (seat c)) cpu_is)) ∙ made.2 in
        let ending : is_ending script.layout process made.1.entry.what ≡ true = ap (λ (x : Entry). is_ending script.layout process x.what) that.entry_is ∙ has.ending in
        let before : IsEarlier made.1.entry.who saw.1.stamp.who = subst (IsEarlier made.1.entry.who) (sym saw.3.0) (subst (λ (w : Who). IsEarlier w later) (sym own_who) earlier) in
        knows.unended saw.0 saw.1 saw.2 process saw.3.1 saw.3.2 made.0 made.1 there ending before

    not-gone : WasGone script report who process → ⊥
    not-gone was =
        let has = process-command script who process was.process_is in
        let a = answers-of script copies seat turns last report run who has.0 (answers.Gone was.page) has.1 was.answered in
        let first : Saw (view_of last (seat who.cpu)) who (places.Process process) (was.page.0 + 1) = gone-with script.layout a.earlier (view_of last (seat who.cpu)) who process (copies who) has.0 a.before a.row.told a.row.own was.page (sym (process-is script who has.0 has.1) ∙ was.process_is)
        (subst (IsCausedWith script.layout a.earlier (copies who) (view_of last (seat who.cpu)) who has.0 a.before a.row.told a.row.own) a.answer_is a.served.caused) in
        let mine : Saw (view_of last (seat later.cpu)) who (places.Process process) (was.page.0 + 1) = subst (λ (c : Cpu). Saw (view_of last (seat c)) who (places.Process process) (was.page.0 + 1)) earlier.0 first in
        let some : mine.1.word ≢ 0 = λ none. (let no_ : was.page.0 + 1 ≡ 0 = sym mine.3.2 ∙ none in omega (arith, no_)) in
        let before : IsEarlier mine.1.stamp.who saw.1.stamp.who = subst (IsEarlier mine.1.stamp.who) (sym saw.3.0) (subst (λ (w : Who). IsEarlier w later) (sym mine.3.0) earlier) in
        knows.stays mine.0 mine.1 mine.2 saw.0 saw.1 saw.2 process mine.3.1 saw.3.1 before some saw.3.2

  pub endings-stay : EndingsStay script report
  endings-stay who later process answer how earlier of is =
      let has = process-command script later process of in
      let a = answers-of script copies seat turns last report run later has.0 answer has.1 is in
      which how a.inside (going-with script.layout a.earlier (view_of last (seat later.cpu)) later process (copies later) has.0 a.before a.row.told a.row.own answer (sym (process-is script later has.0 has.1) ∙ of)
      (subst (IsCausedWith script.layout a.earlier (copies later) (view_of last (seat later.cpu)) later has.0 a.before a.row.told a.row.own) a.answer_is a.served.caused))
    where
      which : HasEnded script report who process ⊎ WasGone script report who process → later.cpu.0 < script.layout.cpus → IsOver answer ⊎ Saw (view_of last (seat later.cpu)) later (places.Process process) 0 → IsOver answer
      which how inside (inl over) = over
      which (inl has) inside (inr saw) = absurd (not-ended later process inside saw who earlier has)
      which (inr was) inside (inr saw) = absurd (not-gone later process inside saw who earlier was)
