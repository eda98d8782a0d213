-- What a command's cause rests on was shown by turns of the command itself.
use Rattle.std.proofs.Common.{◌≡◌, ◌≢◌, ◌⊎◌, ℕ, ◌+◌, ◌==◌, not, true, false, List, Option, Some, None, length, slice_get, option_and_then, refl, sym, ap, ◌∙◌, subst, inl, inr, true≢false, ◌<◌}
use Rattle.std.specs.Prelude.{IsSomeAnd}
use Rattle.std.proofs.lemmas.Bool.{eq-eqb, eqb-true, not-false}
use Rattle.std.proofs.lemmas.Option.{none-some, same_Some}
use Rattle.hwp_law_served.specs.hwp_geom.declared.Frame.{Frame}
use Rattle.hwp_law_served.specs.hwp_geom.declared.Layout.{Layout}
use Rattle.hwp_law_served.specs.hwp_geom.declared.Mask.{Mask}
use Rattle.hwp_law_served.specs.hwp_geom.declared.Page.{Page}
use Rattle.hwp_law_served.specs.hwp_geom.declared.Proc.{Proc}
use Rattle.hwp_law_served.specs.hwp_geom.declared.Thread.{Thread}
use Rattle.hwp_law_served.specs.hwp_geom.declared.TransDecl.{TransDecl}
use Rattle.hwp_law_served.specs.hwp_geom.declared.VSlot.{VSlot}
use Rattle.hwp_law_served.specs.hwp_geom.declared.Who.{Who}
use Rattle.hwp_law_served.specs.hwp_kill.declared.Reply.{Reply}
use Rattle.hwp_law_served.specs.hwp_kill.declared.Reply.TheVariants as replies
use Rattle.hwp_law_served.specs.hwp_kill.Prctl.{reply}
use Rattle.hwp_law_served.specs.hwp_page.declared.At.{At}
use Rattle.hwp_law_served.specs.hwp_page.declared.PageState.{PageState}
use Rattle.hwp_law_served.specs.hwp_page.Refusals.{IsAway}
use Rattle.hwp_law_served.specs.hwp_page.Step.{IsOf}
use Rattle.hwp_law_served.specs.hwp_words.Counters.{hardware_of}
use Rattle.hwp_law_served.specs.hwp_words.Frames.{count_of, is_kernel, is_poisoned, lock_of}
use Rattle.hwp_law_served.specs.hwp_words.Stops.{stopper_of}
use Rattle.hwp_law_served.specs.hwp_core_rule.declared.Length.{Length}
use Rattle.hwp_law_served.specs.hwp_core_rule.declared.Log.{Log}
use Rattle.hwp_law_served.specs.hwp_core_rule.declared.SharedWord.{SharedWord}
use Rattle.hwp_law_served.specs.hwp_core_rule.declared.SharedWord.TheVariants as places
use Rattle.hwp_law_served.specs.hwp_core_rule.declared.Rec.{Rec}
use Rattle.hwp_law_served.specs.hwp_core_rule.declared.Sight.{Sight}
use Rattle.hwp_law_served.specs.hwp_core_rule.declared.Step.TheVariants as steps
use Rattle.hwp_law_served.specs.hwp_core_rule.declared.View.{View}
use Rattle.hwp_law_served.specs.hwp_core_rule.Lists.{SomeMember}
use Rattle.hwp_law_served.specs.hwp_core_rule.Logs.{state_of}
use Rattle.hwp_law_served.specs.hwp_core_rule.Steps.{place_of}
use Rattle.hwp_law_served.specs.hwp_core_rule.Boards.{Played}
use Rattle.hwp_law_served.specs.hwp_core_rule.Known.{Saw, SawAdopted, SawBadOf, SawLog, SawStop}
use Rattle.hwp_law_served.specs.hwp_claim_frame.Claims.{SawPoison}
use Rattle.hwp_law_served.specs.hwp_core_rule.Pages.{SawState}
use Rattle.hwp_law_served.specs.hwp_script_words.declared.Command.{Command}
use Rattle.hwp_law_served.specs.hwp_script_words.declared.Command.TheVariants as commands
use Rattle.hwp_law_served.specs.hwp_script_words.declared.PrctlArgs.{PrctlArgs}
use Rattle.hwp_law_served.specs.hwp_script_words.declared.Script.{Script}
use Rattle.hwp_law_served.specs.hwp_report_text.declared.Answer.{Answer}
use Rattle.hwp_law_served.specs.hwp_report_text.declared.Answer.TheVariants as answers
use Rattle.hwp_law_served.specs.hwp_report_text.Offlines.{offline_answer}
use Rattle.hwp_law_served.specs.hwp_report_text.declared.OfflineResult.{OfflineResult}
use Rattle.hwp_law_served.specs.hwp_report_text.declared.OfflineResult.TheVariants as results
use Rattle.hwp_law_served.specs.hwp_law.Outcomes.{reply_answer}
use Rattle.hwp_law_served.specs.hwp_report_text.declared.Acted.TheVariants as acts
use Rattle.hwp_law_served.specs.hwp_law.Commands.{Access, access_of, command_at, process_at, process_of_thread, thread_of}
use Rattle.hwp_law_served.specs.hwp_law.Settings.{arguments, last_policy, settings}
use Rattle.hwp_law_served.specs.hwp_law.Runs.{slot_of}
use Rattle.hwp_law_served.specs.hwp_cpu_row.declared.FrameChange.{FrameChange}
use Rattle.hwp_law_served.specs.hwp_cpu_row.declared.Offlining.{Offlining}
use Rattle.hwp_law_served.specs.hwp_claim.declared.EventOutcome.{EventOutcome}
use Rattle.hwp_law_served.specs.hwp_claim.Told.{frame_of}
use Rattle.hwp_law_served.specs.Shown.{AdoptShown, AlreadyShown, AnswerShown, GoesOn, GoneShown, IsFree, LengthShown, NoFrameShown, OfflineShown, ProcessShown, RunningShown, StopShown, IsRevivable}
use Rattle.hwp_law_served.specs.Turns.{Finds, FindsBad, HasFrameOf, SawPage, SeesPage, TurnBy}
use Rattle.hwp_law_served.proofs.turns.SeatKnows.{IsUnder, Said}
use Rattle.hwp_law_served.proofs.turns.SeatTells.{ShowsAdopted, told}
use Rattle.hwp_law_served.specs.Causes.{FoundGone, FoundNoFrame, FoundState, FoundStopped, IsAnswerCaused, IsOfflineCaused, IsSoftCaused, IsTableCaused, SawBadLines, SawProcess, WasSignalled, IsUnpoisonCaused}
use Rattle.hwp_law_served.specs.hwp_cpu_row.Acts.{event_at}
use Rattle.hwp_law_served.specs.hwp_soft_move.Seizes.{IsUsers}
use Rattle.hwp_law_served.specs.Offlinings.{IsOfflineServed}
use Rattle.hwp_law_served.specs.Rows.{offlined_at}
use Rattle.hwp_law_served.specs.Served.{IsOffliningServed, SawRunning}
use Rattle.hwp_law_served.proofs.OfflineCames.{came-of}
use Rattle.hwp_law_served.proofs.deeds.Made.{some-so}

-- a translation is of one page
pub one-page : (layout : Layout) (slot : VSlot) (a b : Page) → IsOf layout a slot → IsOf layout b slot → a ≡ b
one-page layout slot a b = which (slice_get layout.trans slot.0)
  where
    which : (o : Option TransDecl) → IsSomeAnd o (λ (t : TransDecl). t.page ≡ a) → IsSomeAnd o (λ (t : TransDecl). t.page ≡ b) → a ≡ b
    which None of is = absurd of
    which (Some t) of is = sym of ∙ is

-- the process of a command, from the command
pub process-is : (script : Script) (who : Who) (command : Command) → command_at script who ≡ Some command → process_at script who ≡ option_and_then (process_of_thread script.layout) (thread_of command)
process-is script who command is = ap (λ (o : Option Command). option_and_then (process_of_thread script.layout) (option_and_then thread_of o)) is

module _ (layout : Layout) (turns : List Played) (view : View) (said : Said (told layout turns) view) (who : Who) where
  turn-so : (Such Other : Rec → View → Type 0) (by : Who) → by ≡ who → ((made : Rec) (v : View) → Such made v → Other made v) → TurnBy layout turns by Such → TurnBy layout turns who Other
  turn-so Such Other by same so turn = record {
    before = turn.before;
    turn = turn.turn;
    after = turn.after;
    all = turn.all;
    board = turn.board;
    led = turn.led;
    view = turn.view;
    knows = turn.knows;
    own = turn.own ∙ same;
    such = so turn.turn.made turn.view turn.such;
  }

  -- a word that the command saw
  pub word-shown : (P : ℕ → Type 0) (place : SharedWord) (word : ℕ) → P word → Saw view who place word → Finds layout turns who place P
  word-shown P place word such saw =
      let s : Sight = saw.1 in
      turn-so (λ (made : Rec) (v : View). (place_of made.step ≡ s.place) × (made.found ≡ s.word) × IsUnder s v × ShowsAdopted s made.step) (λ (made : Rec) (v : View). (place_of made.step ≡ place) × P made.found) s.stamp.who saw.3.0
      (λ made v is. (is.0 ∙ saw.3.1, subst P (sym (is.1 ∙ saw.3.2)) such)) (said.sights saw.0 s saw.2)

  -- a free frame that the command adopted
  pub adopt-shown : (frame : Frame) (word : ℕ) → IsFree word → SawAdopted view who frame word → AdoptShown layout turns who frame
  adopt-shown frame word free saw =
      let s : Sight = saw.1 in
      turn-so (λ (made : Rec) (v : View). (place_of made.step ≡ s.place) × (made.found ≡ s.word) × IsUnder s v × ShowsAdopted s made.step) (λ (made : Rec) (v : View). (made.step ≡ steps.Adopt frame) × IsFree made.found) s.stamp.who saw.3.0.0
      (λ made v is. (is.3.adopted frame saw.3.0.1 saw.3.1 (ap lock_of saw.3.0.2 ∙ free.bare.unlocked), subst IsFree (sym (is.1 ∙ saw.3.0.2)) free)) (said.sights saw.0 s saw.2)

  -- bad lines of a frame that the command saw under the frame's lock
  look-shown : (page : Page) (frame : Frame) (mask : ℕ) → SawBadOf view who page frame mask → FindsBad layout turns who page frame mask
  look-shown page frame mask saw =
      let s : Sight = saw.1 in
      turn-so (λ (made : Rec) (v : View). (place_of made.step ≡ s.place) × (made.found ≡ s.word) × IsUnder s v × ShowsAdopted s made.step) (λ (made : Rec) (v : View). (place_of made.step ≡ places.Bad frame) × (made.found ≡ mask) × HasFrameOf page frame v) s.stamp.who saw.3.0.0
      (λ made v is. (is.0 ∙ saw.3.0.1, is.1 ∙ saw.3.0.2, is.2.locked frame (page.0 + 1) saw.3.0.1 saw.3.1 saw.3.2)) (said.sights saw.0 s saw.2)

  -- a history that the command saw
  pub log-shown : (P : Log → Type 0) (log : Log) → P log → SawLog view who log → SawPage layout turns who log.page P
  log-shown P log such saw =
      let l : Length = saw.1 in
      let same : l.log ≡ log = saw.3.2 in
      turn-so (λ (made : Rec) (v : View). SeesPage l.log.page (λ (x : Log). x ≡ l.log) v) (λ (made : Rec) (v : View). SeesPage log.page P v) l.stamp.who saw.3.0
      (λ made v sees. sees-so l same v sees) (said.lengths saw.0 l saw.2 (saw.3.1 ∙ ap (λ (x : Log). Some x.page) (sym same)))
    where
      sees-so : (l : Length) → l.log ≡ log → (v : View) → SeesPage l.log.page (λ (x : Log). x ≡ l.log) v → SeesPage log.page P v
      sees-so l same v sees = record {
        locked = (sees.locked.0, sees.locked.1, sees.locked.2, sees.locked.3 ∙ ap (λ (x : Log). x.page) same);
        body = (
          sees.body.0,
          sees.body.1,
          sees.body.2,
          (
            sees.body.3.0 ∙ ap (λ (x : Log). x.page) same,
            subst P (sym (sees.body.3.1 ∙ same)) such,
          ),
        );
      }

  pub page-shown : (P : Log → Type 0) (page : Page) (place : ℕ) (Such : PageState → Type 0) → (saw : SawState layout view who page place Such) → P saw.log → SawPage layout turns who page P
  page-shown P page place Such saw such = subst (λ (p : Page). SawPage layout turns who p P) saw.page_is (log-shown P saw.log such saw.saw)

  -- a number of entries after which the command saw the page
  pub length-shown : {at : At} {Such : PageState → Type 0} → SawState layout view who at.page at.entry Such → LengthShown layout turns who at
  length-shown {at = at} {Such = Such} saw = page-shown (λ (log : Log). length log.entries ≡ at.entry) at.page at.entry Such saw saw.place_is

  -- the machine had stopped, or the command stopped it
  pub stopped-shown : SawStop view who ⊎ SomeMember (λ (w : Who). w ≡ who) view.stops → StopShown layout turns who
  stopped-shown (inl saw) = inl (word-shown (λ (word : ℕ). stopper_of word ≢ 0) places.Stop saw.word (λ none. true≢false (sym saw.stopped ∙ ap not (eq-eqb (stopper_of saw.word) 0 none))) saw.saw)
  stopped-shown (inr own) = inr (subst (λ (by : Who). TurnBy layout turns by (λ (made : Rec) (v : View). (made.step ≡ steps.Stop by.cpu) × (made.found ≡ 0))) own.3 (said.stops own.0 own.1 own.2))

  pub stop-shown : (command : Command) → FoundStopped layout view who command → StopShown layout turns who
  stop-shown command found = stopped-shown found.stopped

  -- the machine ran
  running-shown : (answer : Answer) → SawRunning view who → RunningShown layout turns who answer
  running-shown answers.Stopped saw = tt
  running-shown answer saw = word-shown (λ (word : ℕ). stopper_of word ≡ 0) places.Stop saw.word (eqb-true (stopper_of saw.word) 0 (not-false (stopper_of saw.word == 0) saw.running)) saw.saw

  pub runs-shown : (answer : Answer) → (answer ≡ answers.Stopped) ⊎ SawRunning view who → RunningShown layout turns who answer
  runs-shown answer (inl stopped) = subst (RunningShown layout turns who) (sym stopped) tt
  runs-shown answer (inr saw) = running-shown answer saw

  -- the word of the process of the command's thread
  pub process-shown : {thread : Thread} {word : ℕ} (process : Proc) → process_of_thread layout thread ≡ Some process → SawProcess layout view who thread word → ProcessShown layout turns who process word
  process-shown {word = word} process is saw =
      subst (λ (p : Proc). ProcessShown layout turns who p word) (same_Some saw.process process (sym saw.process_is ∙ is)) (word-shown (λ (found : ℕ). found ≡ word) (places.Process saw.process) word refl saw.saw)

module _ (script : Script) (turns : List Played) (view : View) (said : Said (told script.layout turns) view) (who : Who) (earlier : List (Command × Answer)) where
  -- the process of the command's thread had ended
  pub gone-shown : (command : Command) (thread : Thread) (page : Page) → command_at script who ≡ Some command → thread_of command ≡ Some thread → FoundGone script.layout view who thread page → GoneShown script turns who page
  gone-shown command thread page at of gone =
      let process = gone.ended.process in
      let is : process_at script who ≡ Some process = process-is script who command at ∙ ap (λ (o : Option Thread). option_and_then (process_of_thread script.layout) o) of ∙ gone.ended.process_is in
      some-so (λ (p : Proc). ProcessShown script.layout turns who p (page.0 + 1)) (process_at script who) process is (process-shown script.layout turns view said who process gone.ended.process_is gone.ended)

  -- no frame was available, and the page was in none
  no-frame-shown : (command : Command) (thread : Thread) (slot : VSlot) (line : ℕ) → slot_of command ≡ Some slot → FoundNoFrame script.layout view who thread slot line → NoFrameShown script turns who (slot_of command)
  no-frame-shown command thread slot line its found = record {
    available = word-shown script.layout turns view said who (λ (word : ℕ). word ≡ 0) places.Available 0 refl found.available;
    out = λ other page other_is of.
        let same : other ≡ slot = same_Some other slot (sym other_is ∙ its) in
        let page_is : found.page ≡ page = one-page script.layout slot found.page page found.page_is (subst (IsOf script.layout page) same of) in
        subst (λ (p : Page). SawPage script.layout turns who p (λ (log : Log). (state_of script.layout log).cached ≡ false)) page_is
        (page-shown script.layout turns view said who (λ (log : Log). (state_of script.layout log).cached ≡ false) found.page found.place IsAway found.away found.away.such);
  }

  replied-shown : (thread : Thread) (args : PrctlArgs) (r : Reply) → AnswerShown script turns who None (commands.Prctl thread args) (reply_answer r)
  replied-shown thread args (replies.Set policy) = tt
  replied-shown thread args (replies.Is policy) = tt
  replied-shown thread args replies.Einval = tt

  -- lines of a page that a copy found bad
  bad-shown : {Such : PageState → Type 0} (place : At) (page : Page) (mask : Mask) → place.page ≡ page → FoundState script.layout view who place Such → SawBadLines script.layout view who page mask
      → LengthShown script.layout turns who place × ((frame : Frame) × FindsBad script.layout turns who place.page frame mask.0)
  bad-shown place page mask same found lines = (
    length-shown script.layout turns view said who found.saw,
    (lines.frame, subst (λ (p : Page). FindsBad script.layout turns who p lines.frame mask.0) (sym same) (look-shown script.layout turns view said who page lines.frame mask.0 lines.saw)),
  )

  -- what the answer rests on, where the command brought no failure about
  table-shown : (command : Command) (answer : Answer) → command_at script who ≡ Some command → IsTableCaused script.layout earlier view who command answer → AnswerShown script turns who (slot_of command) command answer
  table-shown (commands.Load thread slot line) (answers.Value word entry) at caused = tt
  table-shown (commands.Load thread slot line) (answers.Sigbus entry) at caused = tt
  table-shown (commands.Load thread slot line) answers.NoFrame at caused = no-frame-shown (commands.Load thread slot line) thread slot line refl caused
  table-shown (commands.Load thread slot line) (answers.Gone page) at caused = gone-shown (commands.Load thread slot line) thread page at refl caused.0
  table-shown (commands.Fetch thread slot line) (answers.Value word entry) at caused = tt
  table-shown (commands.Fetch thread slot line) (answers.Sigbus entry) at caused = tt
  table-shown (commands.Fetch thread slot line) answers.NoFrame at caused = no-frame-shown (commands.Fetch thread slot line) thread slot line refl caused
  table-shown (commands.Fetch thread slot line) (answers.Gone page) at caused = gone-shown (commands.Fetch thread slot line) thread page at refl caused.0
  table-shown (commands.KLoad thread slot line) (answers.Value word entry) at caused = tt
  table-shown (commands.KLoad thread slot line) (answers.Sigbus entry) at caused = tt
  table-shown (commands.KLoad thread slot line) answers.NoFrame at caused = no-frame-shown (commands.KLoad thread slot line) thread slot line refl caused
  table-shown (commands.KLoad thread slot line) (answers.Gone page) at caused = gone-shown (commands.KLoad thread slot line) thread page at refl caused.0
  table-shown (commands.Store thread slot line word) (answers.Stored entry) at caused = tt
  table-shown (commands.Store thread slot line word) (answers.Sigbus entry) at caused = tt
  table-shown (commands.Store thread slot line word) answers.NoFrame at caused = no-frame-shown (commands.Store thread slot line word) thread slot line refl caused
  table-shown (commands.Store thread slot line word) (answers.Gone page) at caused = gone-shown (commands.Store thread slot line word) thread page at refl caused.0
  table-shown (commands.Free slot) (answers.DoneAt entry) at caused = tt
  table-shown (commands.Free slot) (answers.NotMapped place) at caused = length-shown script.layout turns view said who caused.1.saw
  table-shown (commands.Drop page) (answers.DoneAt entry) at caused = tt
  table-shown (commands.Drop page) (answers.NotResident place) at caused = length-shown script.layout turns view said who caused.1.saw
  table-shown (commands.Drop page) (answers.Locked place) at caused = length-shown script.layout turns view said who caused.1.saw
  table-shown (commands.Drop page) (answers.Dirty place) at caused = length-shown script.layout turns view said who caused.1.saw
  table-shown (commands.Drop page) (answers.Mapped place) at caused = length-shown script.layout turns view said who caused.1.saw
  table-shown (commands.Sync page) (answers.DoneAt entry) at caused = tt
  table-shown (commands.Sync page) (answers.NotResident place) at caused = length-shown script.layout turns view said who caused.1.saw
  table-shown (commands.Sync page) (answers.BadLines mask place) at caused = bad-shown place page mask caused.0 caused.1 caused.2
  table-shown (commands.Out page) (answers.DoneAt entry) at caused = tt
  table-shown (commands.Out page) (answers.NotResident place) at caused = length-shown script.layout turns view said who caused.1.saw
  table-shown (commands.Out page) (answers.Locked place) at caused = length-shown script.layout turns view said who caused.1.saw
  table-shown (commands.Out page) (answers.BadLines mask place) at caused = bad-shown place page mask caused.0 caused.1 caused.2
  table-shown (commands.Fsync file) answers.Done at caused = tt
  table-shown (commands.Fsync file) (answers.Eio more) at caused = tt
  table-shown (commands.Open file) (answers.Opened word) at caused = tt
  table-shown (commands.Prctl thread args) (answers.Gone page) at caused = gone-shown (commands.Prctl thread args) thread page at refl caused.0
  table-shown (commands.Prctl thread args) answer at caused =
      subst (AnswerShown script turns who None (commands.Prctl thread args)) (sym caused.replied) (replied-shown thread args (reply (last_policy (settings script.layout thread earlier)) (arguments args)))
  table-shown (commands.Fork thread process) answers.Done at caused = tt
  table-shown (commands.Fork thread process) (answers.Gone page) at caused = gone-shown (commands.Fork thread process) thread page at refl caused.0
  table-shown (commands.Log status addr misc) answers.Done at caused = tt
  table-shown (commands.Watch threshold window) answers.Done at caused = tt
  table-shown (commands.Bad frame line) answers.Done at caused = tt
  table-shown (commands.Weak frame line) answers.Done at caused = tt
  table-shown command answer at caused = absurd caused

  -- SIGBUS itself rests on no word
  sigbus-shown : (command : Command) (at : At) → AnswerShown script turns who (slot_of command) command (answers.Sigbus at)
  sigbus-shown (commands.Inject frame) at = tt
  sigbus-shown (commands.Soft frame) at = tt
  sigbus-shown (commands.Unpoison frame) at = tt
  sigbus-shown (commands.Fsync file) at = tt
  sigbus-shown command at = tt

  -- nor does a guest that doesn't admit an access
  denied-bad : (command : Command) → AnswerShown script turns who (slot_of command) command answers.GuestBad
  denied-bad (commands.Inject frame) = tt
  denied-bad (commands.Soft frame) = tt
  denied-bad (commands.Unpoison frame) = tt
  denied-bad (commands.Fsync file) = tt
  denied-bad command = tt

  denied-stopped : (command : Command) → AnswerShown script turns who (slot_of command) command answers.GuestStopped
  denied-stopped (commands.Inject frame) = tt
  denied-stopped (commands.Soft frame) = tt
  denied-stopped (commands.Unpoison frame) = tt
  denied-stopped (commands.Fsync file) = tt
  denied-stopped command = tt

  -- what came of taking a frame out of use rests on this, by the answer of a `soft` that says the same
  came-shown : (frame : Frame) (change : Option FrameChange) (result : OfflineResult) → IsOfflineServed script.layout view who frame change result → AnswerShown script turns who None (commands.Soft frame) (offline_answer result)
  came-shown frame change (results.Moved other entry) (users, marked, (word, free)) =
      adopt-shown script.layout turns view said who other word (record { bare = free.bare; uncounted = free.uncounted }) free.saw
  came-shown frame change results.TakenFree came = tt
  came-shown frame change results.Already (users, saw, none) = word-shown script.layout turns view said who (λ (word : ℕ). is_poisoned word ≡ true) (places.Frame frame) saw.word saw.poisoned saw.saw
  came-shown frame change (results.HasBad mask) (users, lines, none) =
      word-shown script.layout turns view said who (λ (word : ℕ). word ≡ mask.0) (places.Bad frame) mask.0 refl (lines.saw.0, lines.saw.1, lines.saw.2, lines.saw.3.0)
  came-shown frame change results.NoFrame (users, saw, none) = record {
    available = word-shown script.layout turns view said who (λ (word : ℕ). word ≡ 0) places.Available 0 refl saw;
    out = λ slot page of. absurd (none-some slot of);
  }
  came-shown frame change results.Stopped (saw, none) = stopped-shown script.layout turns view said who (inl saw)

  -- what the answer of a soft offline rests on
  offline-shown : (frame : Frame) (own : Option FrameChange) (answer : Answer) → IsUsers script.layout frame → IsOfflineCaused script.layout view who frame own answer → AnswerShown script turns who None (commands.Soft frame) answer
  offline-shown frame own (answers.Moved other entry) users caused = came-shown frame own (results.Moved other entry) (came-of script.layout view who frame own (results.Moved other entry) users caused)
  offline-shown frame own answers.TakenFree users caused = tt
  offline-shown frame own answers.Already users caused = came-shown frame own results.Already (came-of script.layout view who frame own results.Already users caused)
  offline-shown frame own (answers.HasBad mask) users caused = came-shown frame own (results.HasBad mask) (came-of script.layout view who frame own (results.HasBad mask) users caused)
  offline-shown frame own answers.NoFrame users caused = came-shown frame own results.NoFrame (came-of script.layout view who frame own results.NoFrame users caused)
  offline-shown frame own answer users caused = absurd caused

  soft-shown : (frame : Frame) (own : Option FrameChange) (answer : Answer) → IsSoftCaused script.layout view who frame own answer → AnswerShown script turns who None (commands.Soft frame) answer
  soft-shown frame own answers.Kernel caused =
      word-shown script.layout turns view said who (λ (word : ℕ). is_kernel word ≡ true) (places.Frame frame) caused.0.word caused.0.kernel caused.0.saw
  soft-shown frame own answer caused = offline-shown frame own answer caused.0 caused.1

  -- the line of a frame that was taken out of use beside the command
  pub beside-shown : (o : Offlining) (seq : ℕ) → IsOffliningServed script.layout view who o → OfflineShown script turns who (offlined_at seq o)
  beside-shown o seq is = (came-shown o.frame o.change o.result is.came, runs-shown script.layout turns view said who (offline_answer o.result) (ran is.running))
    where
      ran : (o.result ≡ results.Stopped) ⊎ SawRunning view who → (offline_answer o.result ≡ answers.Stopped) ⊎ SawRunning view who
      ran (inl stopped) = inl (ap offline_answer stopped)
      ran (inr saw) = inr saw

  -- what the answer of a command that takes a poison back rests on
  unpoison-shown : (frame : Frame) (own : Option FrameChange) (answer : Answer) → IsUnpoisonCaused script.layout view who frame own answer → AnswerShown script turns who None (commands.Unpoison frame) answer
  unpoison-shown frame own answers.Done caused = record {
    revivable = word-shown script.layout turns view said who (λ (word : ℕ). IsRevivable word × (is_poisoned word ≡ true)) (places.Frame frame) caused.revivable.word (caused.revivable.revivable, caused.revivable.poisoned) caused.revivable.saw;
    counter = word-shown script.layout turns view said who (λ (word : ℕ). hardware_of word ≡ 0) places.Counter caused.counter.word caused.counter.none caused.counter.saw;
    bad = word-shown script.layout turns view said who (λ (word : ℕ). word ≡ 0) (places.Bad frame) 0 refl caused.bad;
  }
  unpoison-shown frame own answers.NotPoisoned caused = word-shown script.layout turns view said who (λ (word : ℕ). is_poisoned word ≡ false) (places.Frame frame) caused.word caused.sound caused.saw
  unpoison-shown frame own answers.HardwareSeen caused = word-shown script.layout turns view said who (λ (word : ℕ). 0 < hardware_of word) places.Counter caused.word caused.some caused.saw
  unpoison-shown frame own (answers.HasBad mask) caused = word-shown script.layout turns view said who (λ (word : ℕ). word ≡ mask.0) (places.Bad frame) mask.0 refl caused.saw
  unpoison-shown frame own (answers.InUse count) caused =
      word-shown script.layout turns view said who (λ (word : ℕ). (¬ IsRevivable word) × (count_of word ≡ count)) (places.Frame frame) caused.word (caused.used, caused.count_is) caused.saw
  unpoison-shown frame own answer caused = absurd caused

  pub answer-shown : (command : Command) (told : List EventOutcome) (own : Option FrameChange) (answer : Answer) → command_at script who ≡ Some command → IsAnswerCaused script.layout earlier view who command told own answer → AnswerShown script turns who (slot_of command) command answer
  answer-shown command told own answers.Stopped at caused = stop-shown script.layout turns view said who command caused
  answer-shown (commands.RaiseUser thread ripv eipv) told own (answers.Raised n) at caused = tt
  answer-shown (commands.RaiseUser thread ripv eipv) told own (answers.Gone page) at caused = gone-shown (commands.RaiseUser thread ripv eipv) thread page at refl caused.0
  answer-shown (commands.RaiseKernel ripv eipv) told own (answers.Raised n) at caused = tt
  answer-shown (commands.Scrub first last) told own (answers.Scrubbed n) at caused = tt
  answer-shown (commands.Inject frame) told own answers.Recovered at caused = tt
  answer-shown (commands.Inject frame) told own answers.Delayed at caused = tt
  answer-shown (commands.Inject frame) told own answers.Ignored at caused = tt
  answer-shown (commands.Inject frame) told own answers.Already at caused =
      word-shown script.layout turns view said who (λ (word : ℕ). is_poisoned word ≡ true) (places.Frame frame) caused.1.0.word caused.1.0.poisoned caused.1.0.saw
  answer-shown (commands.Inject frame) told own answer at caused = absurd caused.1
  answer-shown (commands.Soft frame) told own answer at caused = soft-shown frame own answer caused
  answer-shown (commands.Unpoison frame) told own answer at caused = unpoison-shown frame own answer caused.1
  answer-shown command told own (answers.Sigbus entry) at caused = sigbus-shown command entry
  answer-shown command told own answers.GuestBad at caused = denied-bad command
  answer-shown command told own answers.GuestStopped at caused = denied-stopped command
  answer-shown command told own answer at caused = table-shown command answer at caused

  -- an event's frame that was poisoned already
  pub already-shown : (t : EventOutcome) (seq : ℕ) → (t.acted ≡ acts.Already → SawPoison view who (frame_of t.held)) → AlreadyShown script.layout turns who (event_at seq t)
  already-shown t seq so is = let saw = so is in word-shown script.layout turns view said who (λ (word : ℕ). is_poisoned word ≡ true) (places.Frame (frame_of t.held)) saw.word saw.poisoned saw.saw

  module _ (process : Proc) where
    -- the thread of the command found its process going on
    runs-on : (command : Command) (thread : Thread) → thread_of command ≡ Some thread → option_and_then (process_of_thread script.layout) (thread_of command) ≡ Some process → SawProcess script.layout view who thread 0 → ProcessShown script.layout turns who process 0
    runs-on command thread of is saw = process-shown script.layout turns view said who process (sym (ap (λ (o : Option Thread). option_and_then (process_of_thread script.layout) o) of) ∙ is) saw

    goes-table : (command : Command) (answer : Answer) → option_and_then (process_of_thread script.layout) (thread_of command) ≡ Some process → IsTableCaused script.layout earlier view who command answer → GoesOn script.layout turns who process answer
    goes-table command answers.Stopped is caused = tt
    goes-table command (answers.Gone page) is caused = tt
    goes-table (commands.Load thread slot line) (answers.Value word entry) is caused = runs-on (commands.Load thread slot line) thread refl is caused.1.going
    goes-table (commands.Load thread slot line) (answers.Sigbus entry) is caused = runs-on (commands.Load thread slot line) thread refl is caused.going
    goes-table (commands.Load thread slot line) answers.NoFrame is caused = runs-on (commands.Load thread slot line) thread refl is caused.going
    goes-table (commands.Fetch thread slot line) (answers.Value word entry) is caused = runs-on (commands.Fetch thread slot line) thread refl is caused.1.going
    goes-table (commands.Fetch thread slot line) (answers.Sigbus entry) is caused = runs-on (commands.Fetch thread slot line) thread refl is caused.going
    goes-table (commands.Fetch thread slot line) answers.NoFrame is caused = runs-on (commands.Fetch thread slot line) thread refl is caused.going
    goes-table (commands.KLoad thread slot line) (answers.Value word entry) is caused = runs-on (commands.KLoad thread slot line) thread refl is caused.1.going
    goes-table (commands.KLoad thread slot line) (answers.Sigbus entry) is caused = runs-on (commands.KLoad thread slot line) thread refl is caused.going
    goes-table (commands.KLoad thread slot line) answers.NoFrame is caused = runs-on (commands.KLoad thread slot line) thread refl is caused.going
    goes-table (commands.Store thread slot line word) (answers.Stored entry) is caused = runs-on (commands.Store thread slot line word) thread refl is caused.1.going
    goes-table (commands.Store thread slot line word) (answers.Sigbus entry) is caused = runs-on (commands.Store thread slot line word) thread refl is caused.going
    goes-table (commands.Store thread slot line word) answers.NoFrame is caused = runs-on (commands.Store thread slot line word) thread refl is caused.going
    goes-table (commands.Prctl thread args) answer is caused = runs-on (commands.Prctl thread args) thread refl is caused.going
    goes-table (commands.Fork thread child) answers.Done is caused = runs-on (commands.Fork thread child) thread refl is caused.0
    goes-table (commands.Free slot) answer is caused = absurd (none-some process is)
    goes-table (commands.Drop page) answer is caused = absurd (none-some process is)
    goes-table (commands.Sync page) answer is caused = absurd (none-some process is)
    goes-table (commands.Out page) answer is caused = absurd (none-some process is)
    goes-table (commands.Fsync file) answer is caused = absurd (none-some process is)
    goes-table (commands.Open file) answer is caused = absurd (none-some process is)
    goes-table (commands.Log status addr misc) answer is caused = absurd (none-some process is)
    goes-table (commands.Watch threshold window) answer is caused = absurd (none-some process is)
    goes-table (commands.Bad frame line) answer is caused = absurd (none-some process is)
    goes-table (commands.Weak frame line) answer is caused = absurd (none-some process is)
    goes-table command answer is caused = absurd caused

    -- an access whose thread was signalled for a failure
    goes-signalled : (command : Command) (told : List EventOutcome) (at : At) → option_and_then (process_of_thread script.layout) (thread_of command) ≡ Some process → IsSomeAnd (access_of command) (λ (a : Access). WasSignalled script.layout view who command a.thread told at)
        → ProcessShown script.layout turns who process 0
    goes-signalled (commands.Load thread slot line) told at is was = runs-on (commands.Load thread slot line) thread refl is was.going
    goes-signalled (commands.Fetch thread slot line) told at is was = runs-on (commands.Fetch thread slot line) thread refl is was.going
    goes-signalled (commands.KLoad thread slot line) told at is was = runs-on (commands.KLoad thread slot line) thread refl is was.going
    goes-signalled (commands.Store thread slot line word) told at is was = runs-on (commands.Store thread slot line word) thread refl is was.going
    goes-signalled command told at is was = absurd was

    goes-sigbus : (command : Command) (told : List EventOutcome) (at : At) → option_and_then (process_of_thread script.layout) (thread_of command) ≡ Some process
        → IsTableCaused script.layout earlier view who command (answers.Sigbus at) ⊎ IsSomeAnd (access_of command) (λ (a : Access). WasSignalled script.layout view who command a.thread told at) → ProcessShown script.layout turns who process 0
    goes-sigbus command told at is (inl caused) = goes-table command (answers.Sigbus at) is caused
    goes-sigbus command told at is (inr was) = goes-signalled command told at is was

    -- an access that its guest didn't admit
    goes-denied : (command : Command) → option_and_then (process_of_thread script.layout) (thread_of command) ≡ Some process → IsSomeAnd (access_of command) (λ (a : Access). SawProcess script.layout view who a.thread 0) → ProcessShown script.layout turns who process 0
    goes-denied (commands.Load thread slot line) is saw = runs-on (commands.Load thread slot line) thread refl is saw
    goes-denied (commands.Fetch thread slot line) is saw = runs-on (commands.Fetch thread slot line) thread refl is saw
    goes-denied (commands.KLoad thread slot line) is saw = runs-on (commands.KLoad thread slot line) thread refl is saw
    goes-denied (commands.Store thread slot line word) is saw = runs-on (commands.Store thread slot line word) thread refl is saw
    goes-denied command is saw = absurd saw

    goes : (command : Command) (told : List EventOutcome) (own : Option FrameChange) (answer : Answer) → option_and_then (process_of_thread script.layout) (thread_of command) ≡ Some process → IsAnswerCaused script.layout earlier view who command told own answer
        → GoesOn script.layout turns who process answer
    goes command told own answers.Stopped is caused = tt
    goes command told own (answers.Gone page) is caused = tt
    goes (commands.RaiseUser thread ripv eipv) told own (answers.Raised n) is caused = runs-on (commands.RaiseUser thread ripv eipv) thread refl is caused.0
    goes (commands.RaiseKernel ripv eipv) told own answer is caused = absurd (none-some process is)
    goes (commands.Scrub first last) told own answer is caused = absurd (none-some process is)
    goes (commands.Inject frame) told own answer is caused = absurd (none-some process is)
    goes (commands.Soft frame) told own answer is caused = absurd (none-some process is)
    goes (commands.Unpoison frame) told own answer is caused = absurd (none-some process is)
    goes command told own (answers.Sigbus at) is caused = goes-sigbus command told at is caused
    goes command told own answers.GuestBad is caused = goes-denied command is caused.1
    goes command told own answers.GuestStopped is caused = goes-denied command is caused.1
    goes command told own answer is caused = goes-table command answer is caused

    pub goes-shown : (command : Command) (told : List EventOutcome) (own : Option FrameChange) (answer : Answer) → command_at script who ≡ Some command → process_at script who ≡ Some process → IsAnswerCaused script.layout earlier view who command told own answer
        → GoesOn script.layout turns who process answer
    goes-shown command told own answer at is caused = goes command told own answer (sym (process-is script who command at) ∙ is) caused
