-- Each command has its answer, in order, and the report shows its cause.
use Rattle.std.proofs.Common.{◌≡◌, ◌≢◌, ◌⊎◌, inl, inr, ℕ, ◌<◌, Bool, true, false, bit_and, List, Option, Some, length, slice_get, option_map, unwrap_or, refl, sym, ap, ◌∙◌, subst}
use Rattle.std.proofs.lemmas.Option.{get_or_from_slice_get, none-some, same_Some, slice_get_within}
use Rattle.hwp_law_served.specs.hwp_geom.declared.VSlot.{VSlot}
use Rattle.hwp_law_served.specs.hwp_geom.declared.Cpu.{Cpu}
use Rattle.hwp_law_served.specs.hwp_geom.declared.Frame.{Frame}
use Rattle.hwp_law_served.specs.hwp_geom.declared.Mask.{Mask}
use Rattle.hwp_law_served.specs.hwp_geom.declared.Page.{Page}
use Rattle.hwp_law_served.specs.hwp_geom.declared.Thread.{Thread}
use Rattle.hwp_law_served.specs.hwp_geom.declared.Who.{Who}
use Rattle.hwp_law_served.specs.hwp_geom.Layout.{is_locked}
use Rattle.hwp_law_served.specs.hwp_kill.Prctl.{reply}
use Rattle.hwp_law_served.specs.hwp_page.declared.At.{At}
use Rattle.hwp_law_served.specs.hwp_page.declared.Entry.{Entry}
use Rattle.hwp_law_served.specs.hwp_page.declared.Outcome.{Outcome}
use Rattle.hwp_law_served.specs.hwp_page.declared.PageState.{PageState}
use Rattle.hwp_law_served.specs.hwp_page.declared.What.{What}
use Rattle.hwp_law_served.specs.hwp_page.declared.Met.TheVariants.{Sigbus}
use Rattle.hwp_law_served.specs.hwp_page.declared.What.TheVariants as entries
use Rattle.hwp_law_served.specs.hwp_core_rule.declared.Made.{Made}
use Rattle.hwp_law_served.specs.hwp_core_rule.declared.SharedWord.TheVariants as places
use Rattle.hwp_law_served.specs.hwp_core_rule.declared.State.{State}
use Rattle.hwp_law_served.specs.hwp_core_rule.declared.View.{View}
use Rattle.hwp_law_served.specs.hwp_core_rule.Boards.{view_of}
use Rattle.hwp_law_served.specs.hwp_core_rule.Known.{HasMade, Saw, SawBadOf}
use Rattle.hwp_law_served.proofs.of_hwp_core_rule.tasks.SightKeeps.{bad-lines-stay}
use Rattle.hwp_law_served.specs.hwp_soft_move.Seizes.{IsUsers}
use Rattle.hwp_law_served.specs.hwp_script_words.declared.PrctlArgs.{PrctlArgs}
use Rattle.hwp_law_served.specs.hwp_script_words.declared.Command.{Command}
use Rattle.hwp_law_served.specs.hwp_script_words.declared.Command.TheVariants as commands
use Rattle.hwp_law_served.specs.hwp_script_words.declared.Script.{Script}
use Rattle.hwp_law_served.specs.hwp_report_text.declared.Answer.{Answer}
use Rattle.hwp_law_served.specs.hwp_report_text.declared.Answer.TheVariants as answers
use Rattle.hwp_law_served.specs.hwp_report_text.declared.FrameLine.{FrameLine}
use Rattle.hwp_law_served.specs.hwp_report_text.declared.MarkLine.{MarkLine}
use Rattle.hwp_law_served.specs.hwp_report_text.declared.OfflineResult.{OfflineResult}
use Rattle.hwp_law_served.specs.hwp_report_text.declared.OfflineResult.TheVariants as results
use Rattle.hwp_law_served.specs.hwp_report_text.declared.Report.{Report}
use Rattle.hwp_law_served.specs.hwp_law.Outcomes.{reply_answer}
use Rattle.hwp_law_served.specs.hwp_law.Answers.{StandsAt}
use Rattle.hwp_law_served.specs.hwp_law.Causes.{AreBadLines, ComesTo, HadBadLines, HasMark, IsCaused as IsLawCaused, IsFailureAnswer, IsOfflineAnswer, IsOutAnswer, IsSigbus, IsUnpoisonAnswer, SendsSigbus, TakesBack}
use Rattle.hwp_law_served.specs.hwp_law.Commands.{command_at, current_thread}
use Rattle.hwp_law_served.specs.hwp_law.Lines.{bad_lines_of, events_of}
use Rattle.hwp_law_served.specs.hwp_law.Offlined.{IsOffline}
use Rattle.hwp_law_served.specs.hwp_law.Places.{entry_at}
use Rattle.hwp_law_served.specs.hwp_law.Settings.{arguments, last_policy, settings}
use Rattle.hwp_law_served.specs.hwp_law.Policies.{answered_before, policy_before}
use Rattle.hwp_law_served.specs.hwp_law.Records.{how_in}
use Rattle.hwp_law_served.specs.hwp_law.States.{HadState}
use Rattle.hwp_law_served.proofs.Homes.{there-is}
use Rattle.hwp_law_served.proofs.Reported.{listed-entry}
use Rattle.hwp_law_served.specs.hwp_cpu_row.declared.FrameChange.{FrameChange}
use Rattle.hwp_law_served.specs.hwp_cpu_row.declared.FrameChange.TheVariants as owns
use Rattle.hwp_law_served.specs.hwp_claim.declared.EventOutcome.{EventOutcome}
use Rattle.hwp_law_served.specs.hwp_claim.Told.{first_signal}
use Rattle.hwp_law_served.specs.Causes.{HasCome, IsAnswerCaused, IsInjectCaused, IsOfflineCaused, IsSoftCaused, IsUnpoisonCaused, SawBadLines}
use Rattle.hwp_law_served.specs.Offlinings.{IsOfflineServed, left_at}
use Rattle.hwp_law_served.specs.Rows.{offlined}
use Rattle.hwp_law_served.proofs.HadStates.{had}
use Rattle.hwp_law_served.proofs.OfflineCames.{came-of}
use Rattle.hwp_top_report.proofs.AllowedThere.{had-so}
use Rattle.hwp_top_report.proofs.Ample.{not-ample}
use Rattle.hwp_law_served.proofs.of_hwp_law.PageLocks.{had-unlocked}
use Rattle.hwp_law_served.proofs.RunEnds.{IsEnd}
use Rattle.hwp_top_report.proofs.endings.Gone.{is-gone}
use Rattle.hwp_law_served.proofs.deeds.Made.{some-so}
use Rattle.hwp_top_report.proofs.marks.RecordPlaces.{was-hardware-seen, was-poisoned}
use Rattle.hwp_law_served.proofs.Seen.{HasSignalled, MadeWhat, made-what}
use Rattle.hwp_top_report.proofs.Signalled.{signalled-sends}
use Rattle.hwp_law_served.proofs.Stops.{stop-by, stop-there}

module _ (script : Script) (copies : Who → Option VSlot) (seat : Cpu → ℕ) (last : State) (report : Report) (end : IsEnd script copies seat last report) (cpu : Cpu) (inside : cpu.0 < script.layout.cpus) where
  abbrev view : View
  view = view_of last (seat cpu)

  there : slice_get last.views (seat cpu) ≡ Some view
  there = end.seated.there cpu inside

  -- the entry that the command made stands in the report
  pub made-stands : {who : Who} {at : At} {what : What} → MadeWhat view who at what → StandsAt report.pages who at what
  made-stands m =
      let listed = listed-entry script.layout last report end.board (seat cpu) m.j view m.made there m.there in
      sym (ap (λ (b : At). entry_at report.pages b) m.place_is) ∙ listed ∙ ap (λ (e : Entry). Some e) m.entry_is

  stands : {Such : Made → Type 0} {who : Who} {at : At} {what : What} → HasMade Such view who at.page at.entry what → StandsAt report.pages who at what
  stands has = made-stands (made-what has)

  -- the entry that sent SIGBUS stands in the report
  pub sigbus : (who : Who) (command : Command) (thread : Thread) (at : At) (what : What) → current_thread command ≡ Some thread → SendsSigbus thread what → StandsAt report.pages who at what → IsSigbus report who command at
  sigbus who command thread at what current sends stands_ = record {
    entry = record { who = who; what = what };
    there = stands_;
    own = refl;
    sends = some-so (λ (t : Thread). SendsSigbus t what) (current_thread command) thread current sends;
  }

  -- a look at the page's frame showed its bad lines
  looked : {who : Who} (page : Page) {frame : Frame} {mask : ℕ} → SawBadOf view who page frame mask → Saw view who (places.Bad frame) mask
  looked page saw = (saw.0, saw.1, saw.2, saw.3.0)

  -- lines that a step of the command showed as bad in a frame are bad in it at the end
  bad-at-end : {who : Who} (frame : Frame) (mask : Mask) → frame.0 < script.layout.frames → mask.0 ≢ 0 → Saw view who (places.Bad frame) mask.0 → AreBadLines (bad_lines_of report frame.0) mask.0
  bad-at-end frame mask inside_ some saw =
      let line = there-is report.frames frame.0 (subst (λ (n : ℕ). frame.0 < n) (sym end.board.frames_fit) inside_) in
      let bads = (end.board.ends.frames frame line.0 line.1).bad in
      record {
        some = some;
        within = subst (λ (bad : ℕ). bit_and mask.0 bad ≡ mask.0) (sym (ap (λ (o : Option FrameLine). unwrap_or (option_map (λ (l : FrameLine). l.bad.0) o) 0) line.1))
            (bad-lines-stay script.layout last end.board.holds (seat cpu) there frame saw bads);
      }

  -- those of a page's frame
  bad-lines : (who : Who) (page : Page) (mask : Mask) (at : At) → HadState script.layout report.pages at (λ (s : PageState). s.cached ≡ true) → SawBadLines script.layout view who page mask → HadBadLines script report mask at
  bad-lines who page mask at cached lines = record { cached = cached; frame = lines.frame.0; bad = bad-at-end lines.frame mask lines.inside lines.some (looked page lines.saw) }

  -- so `out` found them, of a page that isn't locked
  abbrev IsIn : PageState → Type 0
  IsIn s = (s.cached ≡ true) × (s.locked ≡ false)

  out-lines : (who : Who) (page : Page) (mask : Mask) (at : At) → at.page ≡ page → HadState script.layout report.pages at IsIn → SawBadLines script.layout view who page mask → IsOutAnswer script report who page (answers.BadLines mask at)
  out-lines who page mask at page_is was lines =
      let unlocked = had-unlocked script.layout report.pages at (had-so IsIn (λ (s : PageState). s.locked ≡ false) (λ s is. is.1) was) in (
        sym (ap (is_locked script.layout) page_is) ∙ unlocked,
        (page_is, bad-lines who page mask at (had-so IsIn (λ (s : PageState). s.cached ≡ true) (λ s is. is.0) was) lines),
      )

  -- a failure came to its answer
  failure : (who : Who) (frame : Frame) (own : Option FrameChange) (answer : Answer) → ((frame : Frame) (outcome : Outcome) → HasCome script.layout view who frame own outcome → HasMark report who frame (ComesTo outcome))
      → IsInjectCaused script.layout view who frame own answer → IsFailureAnswer report who frame answer
  failure who frame own answers.Recovered marked come = marked frame _ come
  failure who frame own answers.Delayed marked come = marked frame _ come
  failure who frame own answers.Ignored marked come = marked frame _ come
  failure who frame own answers.Already marked found = was-poisoned script copies seat last report end cpu inside who frame found.0.word true found.0.poisoned found.0.saw
  failure who frame own _ marked caused = absurd caused

  -- a frame that isn't the kernel's is one of the script's
  users-inside : (frame : Frame) → IsUsers script.layout frame → frame.0 < script.layout.frames
  users-inside frame users = subst (λ (n : ℕ). frame.0 < n) end.board.holds.sound.kernel (slice_get_within script.layout.kernel frame.0 false users)

  abbrev IsMarkedSo : Who → Option FrameChange → Type 0
  IsMarkedSo who own = (frame : Frame) (cycle : ℕ) (moved : Bool) → own ≡ Some (owns.Offlined frame cycle moved) → HasMark report who frame (λ (m : MarkLine). how_in m ≡ Some (offlined moved))

  abbrev IsRevivedSo : Who → Option FrameChange → Type 0
  IsRevivedSo who own = (frame : Frame) (cycle : ℕ) → own ≡ Some (owns.Revived frame cycle) → HasMark report who frame TakesBack

  -- the entry by which a page left the frame stands in the report
  abbrev HasLeft : Who → OfflineResult → Type 0
  HasLeft who result = (at : At) → left_at result ≡ Some at → StandsAt report.pages who at entries.Soft

  -- what came of taking a frame out of use has its cause in the report: as an answer of `soft`, and beside another command
  pub came : (who : Who) (frame : Frame) (change : Option FrameChange) (result : OfflineResult) → IsMarkedSo who change → HasLeft who result → IsOfflineServed script.layout view who frame change result → IsOffline script report who frame result
  came who frame change (results.Moved other bt) marked left (users, (cycle, is), free) = (left bt refl, marked frame cycle true is)
  came who frame change results.TakenFree marked left (users, (cycle, is)) = marked frame cycle false is
  came who frame change results.Already marked left (users, saw, none) = was-poisoned script copies seat last report end cpu inside who frame saw.word true saw.poisoned saw.saw
  came who frame change (results.HasBad mask) marked left (users, lines, none) = bad-at-end frame mask (users-inside frame users) lines.some (looked lines.page lines.saw)
  came who frame change results.NoFrame marked left (users, saw, none) = not-ample script copies seat last report end cpu inside who saw
  came who frame change results.Stopped marked left (saw, none) = stop-by script copies seat last report end cpu who inside (inl saw)

  -- an answer of a soft offline of a frame that isn't the kernel's
  offline : (who : Who) (frame : Frame) (own : Option FrameChange) (answer : Answer) → IsUsers script.layout frame → IsMarkedSo who own → IsOfflineCaused script.layout view who frame own answer → IsOfflineAnswer script report who frame answer
  offline who frame own (answers.Moved other bt) users marked caused = came who frame own (results.Moved other bt) marked (λ at is. subst (λ (b : At). StandsAt report.pages who b entries.Soft) (same_Some bt at is) (stands caused.made.made)) (came-of script.layout view who frame own (results.Moved other bt) users caused)
  offline who frame own answers.TakenFree users marked caused = came who frame own results.TakenFree marked (λ at is. absurd (none-some at is)) (came-of script.layout view who frame own results.TakenFree users caused)
  offline who frame own answers.Already users marked caused = came who frame own results.Already marked (λ at is. absurd (none-some at is)) (came-of script.layout view who frame own results.Already users caused)
  offline who frame own (answers.HasBad mask) users marked caused = came who frame own (results.HasBad mask) marked (λ at is. absurd (none-some at is)) (came-of script.layout view who frame own (results.HasBad mask) users caused)
  offline who frame own answers.NoFrame users marked caused = came who frame own results.NoFrame marked (λ at is. absurd (none-some at is)) (came-of script.layout view who frame own results.NoFrame users caused)
  offline who frame own _ users marked caused = absurd caused

  soft : (who : Who) (frame : Frame) (own : Option FrameChange) (answer : Answer) → IsMarkedSo who own → IsSoftCaused script.layout view who frame own answer → IsLawCaused script report who (commands.Soft frame) answer
  soft who frame own answers.Stopped marked caused = absurd caused.1
  soft who frame own answers.Kernel marked caused = get_or_from_slice_get script.layout.kernel frame.0 true false caused.0.declared
  soft who frame own answer marked caused = (get_or_from_slice_get script.layout.kernel frame.0 false false caused.0, offline who frame own answer caused.0 marked caused.1)

  -- an answer of a command that takes a poison back
  unpoison : (who : Who) (frame : Frame) (own : Option FrameChange) (answer : Answer) → IsRevivedSo who own → IsUnpoisonCaused script.layout view who frame own answer → IsUnpoisonAnswer report who frame answer
  unpoison who frame own answers.Done marked caused = marked frame caused.cycle caused.own_is
  unpoison who frame own answers.NotPoisoned marked caused = was-poisoned script copies seat last report end cpu inside who frame caused.word false caused.sound caused.saw
  unpoison who frame own answers.HardwareSeen marked caused = was-hardware-seen script copies seat last report end cpu inside who caused.word caused.some caused.saw
  unpoison who frame own (answers.HasBad mask) marked caused = bad-at-end frame mask caused.inside caused.some caused.saw
  unpoison who frame own (answers.InUse count) marked caused = tt
  unpoison who frame own _ marked caused = absurd caused

  -- the entry of a failure that signalled the thread
  pub by-failure : (who : Who) (command : Command) (at : At) → HasSignalled view who command at → IsSigbus report who command at
  by-failure who command at has = signalled-sends script copies seat last report end cpu inside who command at has

  -- the policy that prctl(2) met is the one of the report
  replied : (who : Who) (earlier : List (Command × Answer)) → earlier ≡ answered_before script report who → (thread : Thread) (args : PrctlArgs) → reply_answer (reply (last_policy (settings script.layout thread earlier)) (arguments args)) ≡ reply_answer (reply (policy_before script report who thread) (arguments args))
  replied who earlier before thread args = ap (λ (l : List (Command × Answer)). reply_answer (reply (last_policy (settings script.layout thread l)) (arguments args))) before

  neither : ⊥ ⊎ ⊥ → ⊥
  neither (inl never) = never
  neither (inr never) = never

  -- what the row of a command says of its entries, its event lines and its mark
  pub record HasFacts (who : Who) (command : Command) (told : List EventOutcome) (own : Option FrameChange) : Type 0 where
    pub signalled : (at : At) → first_signal told ≡ Some at → HasSignalled view who command at
    pub count : length (events_of report who) ≡ length told
    pub marked : (frame : Frame) (outcome : Outcome) → HasCome script.layout view who frame own outcome → HasMark report who frame (ComesTo outcome)
    pub offlined : IsMarkedSo who own
    pub revived : IsRevivedSo who own

  pub law-caused : (who : Who) (earlier : List (Command × Answer)) → earlier ≡ answered_before script report who → (command : Command) (told : List EventOutcome) (own : Option FrameChange) (answer : Answer) → command_at script who ≡ Some command → HasFacts who command told own
      → IsAnswerCaused script.layout earlier view who command told own answer → IsLawCaused script report who command answer
  law-caused who earlier before command told own answers.Stopped at facts caused = stop-there script copies seat last report end cpu who command inside caused
  law-caused who earlier before (commands.Load thread slot line) told own (answers.Value word bt) at facts caused = (caused.0, stands caused.1.made)
  law-caused who earlier before (commands.Load thread slot line) told own (answers.Sigbus bt) at facts (inl caused) = sigbus who (commands.Load thread slot line) thread bt (entries.Load slot line (Sigbus thread)) refl refl (stands caused.made)
  law-caused who earlier before (commands.Load thread slot line) told own (answers.Sigbus bt) at facts (inr was) = by-failure who (commands.Load thread slot line) bt (facts.signalled bt was.first)
  law-caused who earlier before (commands.Load thread slot line) told own answers.NoFrame at facts caused = not-ample script copies seat last report end cpu inside who caused.available
  law-caused who earlier before (commands.Load thread slot line) told own (answers.Gone page) at facts caused = is-gone script copies seat last report end cpu inside who (commands.Load thread slot line) thread page at refl caused.0
  law-caused who earlier before (commands.Load thread slot line) told own answers.GuestBad at facts caused = tt
  law-caused who earlier before (commands.Load thread slot line) told own answers.GuestStopped at facts caused = tt
  law-caused who earlier before (commands.Fetch thread slot line) told own (answers.Value word bt) at facts caused = (caused.0, stands caused.1.made)
  law-caused who earlier before (commands.Fetch thread slot line) told own (answers.Sigbus bt) at facts (inl caused) = sigbus who (commands.Fetch thread slot line) thread bt (entries.Load slot line (Sigbus thread)) refl refl (stands caused.made)
  law-caused who earlier before (commands.Fetch thread slot line) told own (answers.Sigbus bt) at facts (inr was) = by-failure who (commands.Fetch thread slot line) bt (facts.signalled bt was.first)
  law-caused who earlier before (commands.Fetch thread slot line) told own answers.NoFrame at facts caused = not-ample script copies seat last report end cpu inside who caused.available
  law-caused who earlier before (commands.Fetch thread slot line) told own (answers.Gone page) at facts caused = is-gone script copies seat last report end cpu inside who (commands.Fetch thread slot line) thread page at refl caused.0
  law-caused who earlier before (commands.Fetch thread slot line) told own answers.GuestBad at facts caused = tt
  law-caused who earlier before (commands.Fetch thread slot line) told own answers.GuestStopped at facts caused = tt
  law-caused who earlier before (commands.KLoad thread slot line) told own (answers.Value word bt) at facts caused = (caused.0, stands caused.1.made)
  law-caused who earlier before (commands.KLoad thread slot line) told own (answers.Sigbus bt) at facts (inl caused) = sigbus who (commands.KLoad thread slot line) thread bt (entries.Load slot line (Sigbus thread)) refl refl (stands caused.made)
  law-caused who earlier before (commands.KLoad thread slot line) told own (answers.Sigbus bt) at facts (inr was) = by-failure who (commands.KLoad thread slot line) bt (facts.signalled bt was.first)
  law-caused who earlier before (commands.KLoad thread slot line) told own answers.NoFrame at facts caused = not-ample script copies seat last report end cpu inside who caused.available
  law-caused who earlier before (commands.KLoad thread slot line) told own (answers.Gone page) at facts caused = is-gone script copies seat last report end cpu inside who (commands.KLoad thread slot line) thread page at refl caused.0
  law-caused who earlier before (commands.KLoad thread slot line) told own answers.GuestBad at facts caused = tt
  law-caused who earlier before (commands.KLoad thread slot line) told own answers.GuestStopped at facts caused = tt
  law-caused who earlier before (commands.Store thread slot line word) told own (answers.Stored bt) at facts caused = (caused.0, stands caused.1.made)
  law-caused who earlier before (commands.Store thread slot line word) told own (answers.Sigbus bt) at facts (inl caused) = sigbus who (commands.Store thread slot line word) thread bt (entries.Store slot line (Sigbus thread)) refl refl (stands caused.made)
  law-caused who earlier before (commands.Store thread slot line word) told own (answers.Sigbus bt) at facts (inr was) = by-failure who (commands.Store thread slot line word) bt (facts.signalled bt was.first)
  law-caused who earlier before (commands.Store thread slot line word) told own answers.NoFrame at facts caused = not-ample script copies seat last report end cpu inside who caused.available
  law-caused who earlier before (commands.Store thread slot line word) told own (answers.Gone page) at facts caused = is-gone script copies seat last report end cpu inside who (commands.Store thread slot line word) thread page at refl caused.0
  law-caused who earlier before (commands.Store thread slot line word) told own answers.GuestBad at facts caused = tt
  law-caused who earlier before (commands.Store thread slot line word) told own answers.GuestStopped at facts caused = tt
  law-caused who earlier before (commands.Free slot) told own (answers.DoneAt bt) at facts caused = stands caused.1.made
  law-caused who earlier before (commands.Free slot) told own (answers.NotMapped bt) at facts caused = (caused.0, had script copies seat last report end cpu inside caused.1.saw)
  law-caused who earlier before (commands.Drop page) told own (answers.DoneAt bt) at facts caused = (caused.0, stands caused.1.made)
  law-caused who earlier before (commands.Drop page) told own (answers.NotResident bt) at facts caused = (caused.0, had script copies seat last report end cpu inside caused.1.saw)
  law-caused who earlier before (commands.Drop page) told own (answers.Locked bt) at facts caused = (caused.0, had script copies seat last report end cpu inside caused.1.saw)
  law-caused who earlier before (commands.Drop page) told own (answers.Dirty bt) at facts caused = (caused.0, had script copies seat last report end cpu inside caused.1.saw)
  law-caused who earlier before (commands.Drop page) told own (answers.Mapped bt) at facts caused = (caused.0, had script copies seat last report end cpu inside caused.1.saw)
  law-caused who earlier before (commands.Sync page) told own (answers.DoneAt bt) at facts caused = (caused.0, stands caused.1.made)
  law-caused who earlier before (commands.Sync page) told own (answers.NotResident bt) at facts caused = (caused.0, had script copies seat last report end cpu inside caused.1.saw)
  law-caused who earlier before (commands.Sync page) told own (answers.BadLines mask bt) at facts caused = (caused.0, bad-lines who page mask bt (had script copies seat last report end cpu inside caused.1.saw) caused.2)
  law-caused who earlier before (commands.Out page) told own (answers.DoneAt bt) at facts caused = (caused.0, stands caused.1.made)
  law-caused who earlier before (commands.Out page) told own (answers.NotResident bt) at facts caused = (caused.0, had script copies seat last report end cpu inside caused.1.saw)
  law-caused who earlier before (commands.Out page) told own (answers.Locked bt) at facts caused = (caused.0, had script copies seat last report end cpu inside caused.1.saw)
  law-caused who earlier before (commands.Out page) told own (answers.BadLines mask bt) at facts caused = out-lines who page mask bt caused.0 (had script copies seat last report end cpu inside caused.1.saw) caused.2
  law-caused who earlier before (commands.Fsync file) told own answers.Done at facts caused = tt
  law-caused who earlier before (commands.Fsync file) told own (answers.Eio more) at facts caused = caused.1
  law-caused who earlier before (commands.Open file) told own (answers.Opened word) at facts caused = tt
  law-caused who earlier before (commands.Prctl thread args) told own (answers.Gone page) at facts caused = is-gone script copies seat last report end cpu inside who (commands.Prctl thread args) thread page at refl caused.0
  law-caused who earlier before (commands.Prctl thread args) told own answers.GuestBad at facts caused = absurd caused.1
  law-caused who earlier before (commands.Prctl thread args) told own answers.GuestStopped at facts caused = absurd caused.1
  law-caused who earlier before (commands.Prctl thread args) told own (answers.Sigbus bt) at facts (inl caused) = caused.replied ∙ replied who earlier before thread args
  law-caused who earlier before (commands.Prctl thread args) told own (answers.Sigbus bt) at facts (inr was) = absurd was
  law-caused who earlier before (commands.Prctl thread args) told own answer at facts caused = caused.replied ∙ replied who earlier before thread args
  law-caused who earlier before (commands.Fork thread process) told own answers.Done at facts caused = tt
  law-caused who earlier before (commands.Fork thread process) told own (answers.Gone page) at facts caused = is-gone script copies seat last report end cpu inside who (commands.Fork thread process) thread page at refl caused.0
  law-caused who earlier before (commands.Log status addr misc) told own answers.Done at facts caused = tt
  law-caused who earlier before (commands.Watch threshold window) told own answers.Done at facts caused = tt
  law-caused who earlier before (commands.Bad frame line) told own answers.Done at facts caused = tt
  law-caused who earlier before (commands.Weak frame line) told own answers.Done at facts caused = tt
  law-caused who earlier before (commands.RaiseUser thread ripv eipv) told own (answers.Raised n) at facts caused = caused.1.count ∙ sym facts.count
  law-caused who earlier before (commands.RaiseUser thread ripv eipv) told own (answers.Gone page) at facts caused = is-gone script copies seat last report end cpu inside who (commands.RaiseUser thread ripv eipv) thread page at refl caused.0
  law-caused who earlier before (commands.RaiseKernel ripv eipv) told own (answers.Raised n) at facts caused = caused.count ∙ sym facts.count
  law-caused who earlier before (commands.Scrub first last_frame) told own (answers.Scrubbed n) at facts caused = caused.count ∙ sym facts.count
  law-caused who earlier before (commands.Inject frame) told own answer at facts caused = (caused.0, failure who frame own answer facts.marked caused.1)
  law-caused who earlier before (commands.Soft frame) told own answer at facts caused = soft who frame own answer facts.offlined caused
  law-caused who earlier before (commands.Unpoison frame) told own answer at facts caused = unpoison who frame own answer facts.revived caused.1
  law-caused who earlier before command told own (answers.Sigbus bt) at facts caused = absurd (neither caused)
  law-caused who earlier before command told own answers.GuestBad at facts caused = absurd caused.1
  law-caused who earlier before command told own answers.GuestStopped at facts caused = absurd caused.1
  law-caused who earlier before command told own answer at facts caused = absurd caused
