-- What a processor knows of an earlier command stays true over each step of a later one.
use Rattle.std.proofs.Common.{◌≡◌, ◌≢◌, ◌⊎◌, inl, inr, ℕ, ◌==◌, Bool, true, false, cond, List, Option, Some, None, IsSomeAnd, refl, sym, ap, ◌∙◌, subst}
use Rattle.hwp_law.specs.hwp_geom.declared.Damage.{Damage}
use Rattle.hwp_law.specs.hwp_geom.declared.Frame.{Frame}
use Rattle.hwp_law.specs.hwp_geom.declared.Layout.{Layout}
use Rattle.hwp_law.specs.hwp_geom.declared.Mask.{Mask}
use Rattle.hwp_law.specs.hwp_geom.declared.Page.{Page}
use Rattle.hwp_law.specs.hwp_geom.declared.Thread.{Thread}
use Rattle.hwp_law.specs.hwp_geom.declared.VSlot.{VSlot}
use Rattle.hwp_law.specs.hwp_geom.declared.Who.{Who}
use Rattle.hwp_law.specs.hwp_page.declared.At.{At}
use Rattle.hwp_law.specs.hwp_page.declared.Outcome.{Outcome}
use Rattle.hwp_law.specs.hwp_page.declared.PageState.{PageState}
use Rattle.hwp_law.specs.hwp_page.declared.What.{What}
use Rattle.hwp_law.specs.hwp_page.declared.What.TheVariants as entries
use Rattle.hwp_law.specs.hwp_page.History.{BodyValue}
use Rattle.hwp_plain.specs.hwp_core_rule.declared.InHand.{InHand}
use Rattle.hwp_plain.specs.hwp_core_rule.declared.Log.{Log}
use Rattle.hwp_plain.specs.hwp_core_rule.declared.SharedWord.{SharedWord}
use Rattle.hwp_plain.specs.hwp_core_rule.declared.SharedWord.TheVariants as places
use Rattle.hwp_plain.specs.hwp_core_rule.declared.Spoiled.{Spoiled}
use Rattle.hwp_plain.specs.hwp_core_rule.declared.Step.{Step}
use Rattle.hwp_plain.specs.hwp_core_rule.declared.Step.TheVariants as steps
use Rattle.hwp_plain.specs.hwp_core_rule.declared.View.{View}
use Rattle.hwp_plain.specs.hwp_core_rule.Lists.{SomeMember}
use Rattle.hwp_plain.specs.hwp_core_rule.Logs.{log_of}
use Rattle.hwp_plain.specs.hwp_core_rule.Steps.{goes}
use Rattle.hwp_plain.specs.hwp_core_rule.Views.{body_of, listed_of, loaded, noted, put_home, taken, view_by}
use Rattle.hwp_plain.proofs.of_hwp_core_rule.Lists.{some-push}
use Rattle.hwp_plain.specs.hwp_core_rule.Calls.{CanMake, Steps, logs}
use Rattle.hwp_plain.proofs.of_hwp_core_rule.tasks.StepLeaves.{content_of}
use Rattle.hwp_plain.specs.hwp_core_rule.Known.{HasMadeNone, SawStop, deeds}
use Rattle.hwp_plain.proofs.of_hwp_core_rule.tasks.MadeEntries.{has-made-stays, has-only-stays}
use Rattle.hwp_plain.proofs.of_hwp_core_rule.tasks.SightKeeps.{saw-bad-of-stays, saw-state-stays, saw-stays}
use Rattle.hwp_soft.specs.hwp_soft_move.Seizes.{SawKernel}
use Rattle.hwp_soft.proofs.SpareSteps.{free-stays}
use Rattle.hwp_law.specs.hwp_script_words.declared.Command.{Command}
use Rattle.hwp_law.specs.hwp_script_words.declared.Command.TheVariants as commands
use Rattle.hwp_law.specs.hwp_report_text.declared.Answer.{Answer}
use Rattle.hwp_law.specs.hwp_report_text.declared.Answer.TheVariants as answers
use Rattle.hwp_law.specs.hwp_report_text.declared.OfflineResult.{OfflineResult}
use Rattle.hwp_law.specs.hwp_report_text.declared.OfflineResult.TheVariants as results
use Rattle.hwp_law.specs.hwp_banks.Banks.{Banks}
use Rattle.hwp_law.specs.Commands.{Access, access_of}
use Rattle.hwp_cpu_row.specs.hwp_claim.declared.Found.{Found}
use Rattle.hwp_cpu_row.specs.declared.FrameChange.{FrameChange}
use Rattle.hwp_cpu_row.specs.declared.Offlining.{Offlining}
use Rattle.hwp_cpu_row.specs.declared.Row.{Row}
use Rattle.hwp_cpu_row.specs.hwp_claim.declared.EventOutcome.{EventOutcome}
use Rattle.hwp_law_served.specs.Causes.{FoundGone, FoundNoFrame, FoundPoisoned, FoundState, FoundStopped, FoundBadLines, HasCome, HasFailed, HasMoved, HasOnlyBegun, HasOnlyMet, HasSpoiledLine, HasTaken, IsAnswerCaused, IsCausedWith, IsCopiedOut, IsInjectCaused, IsLoadCaused, IsOfflineCaused, IsPageCaused, IsReplied, IsSoftCaused, IsStoreCaused, IsTableCaused, MadeOne, Reached, SawBadLines, SawProcess, WasDenied, WasRaised, WasSignalled, IsUnpoisonCaused}
use Rattle.hwp_law_served.specs.Offlinings.{AreBeside, IsOfflineServed, left_among}
use Rattle.hwp_law_served.specs.Served.{IsOffliningServed, IsRowServed, SawRunning}
use Rattle.hwp_law_served.proofs.AccountKeeps.{account-stays}
use Rattle.hwp_law_served.proofs.StepAdds.{some-more}
use Rattle.hwp_law_served.proofs.lines.Spoils.{spoils-by}
use Rattle.hwp_law_served.specs.Told.{AreToldWith}
use Rattle.hwp_law_served.proofs.CheckTells.{deeds-stay, entered-stays, told-by-stays}
use Rattle.hwp_law_served.proofs.copied.CopyStays.{copy-caused-stays, copy-told-stays}

-- ---- stops

-- a step leaves the stops of a view, or lists one more
pub record MoreStops (v x : View) : Type 1 where
  pub stops : (P : Who → Type 0) → SomeMember P v.stops → SomeMember P x.stops

same : (v x : View) → x.stops ≡ v.stops → MoreStops v x
same v x is = record { stops = λ P some. subst (SomeMember P) (sym is) some }

either : (b : Bool) (v x y : View) → MoreStops v x → MoreStops v y → MoreStops v (cond b x y)
either true v x y g h = g
either false v x y g h = h

loads : (who : Who) (place : SharedWord) (found : ℕ) (v : View) → (loaded who place found v).stops ≡ v.stops
loads who (places.Cache page) found v = refl
loads who _ found v = refl

takes : (layout : Layout) (who : Who) (frame : Option Frame) (content : Option Log) (v : View) → (taken layout who frame content v).stops ≡ v.stops
takes layout who frame None v = refl
takes layout who frame (Some log) v = refl

lists : (layout : Layout) (who : Who) (log : Log) (body : Option InHand) (v : View) → (listed_of layout who log body v).stops ≡ v.stops
lists layout who log None v = refl
lists layout who log (Some body) v = refl

puts : (layout : Layout) (who : Who) (content : Option Log) (v : View) → (put_home layout who content v).stops ≡ v.stops
puts layout who None v = refl
puts layout who (Some log) v = lists layout who log (body_of log.page v) v

pub stops-by : (layout : Layout) (who : Who) (step : Step) (found : ℕ) (content : Option Log) (v : View) → MoreStops v (view_by layout who step found content v)
stops-by layout who (steps.Load place) found content v = same v _ (loads who place found v)
stops-by layout who (steps.Reserve seen) found content v = either (found == seen) v _ _ (same v _ refl) (same v _ refl)
stops-by layout who (steps.TakeBit frame) found content v = either (goes (steps.TakeBit frame) found) v _ _ (same v _ refl) (same v _ refl)
stops-by layout who (steps.GetRef frame seen count) found content v = either (found == seen) v _ _ (same v _ refl) (same v _ refl)
stops-by layout who (steps.LockFrame frame) found content v = either (goes (steps.LockFrame frame) found) v _ _ (same v _ (takes layout who (Some frame) content _)) (same v v refl)
stops-by layout who (steps.UnlockFrame frame) found content v = same v _ (puts layout who content v)
stops-by layout who (steps.Revive frame seen) found content v = either (found == seen) v _ _ (same v _ refl) (same v _ refl)
stops-by layout who (steps.LockPage page) found content v = either (goes (steps.LockPage page) found) v _ _ (same v _ (takes layout who None content _)) (same v v refl)
stops-by layout who (steps.UnlockPage page) found content v = same v _ (puts layout who content v)
stops-by layout who (steps.Poison frame hardware) found content v =
    let more = either (goes (steps.Poison frame hardware) found) v _ _ (same v _ refl) (same v _ refl) in record { stops = more.stops }
stops-by layout who (steps.Stop cpu) found content v = either (found == 0) v _ _ (record { stops = λ P some. some-push P v.stops who some }) (same v _ refl)
stops-by layout who (steps.Kill process page body) found content v =
    let is = lists layout who (log_of body.value) (body_of body.value.page v) v in either (found == 0) v _ _ (same v _ is) (same v _ is)
stops-by layout who (steps.Lose file body) found content v = same v _ (lists layout who (log_of body.value) (body_of body.value.page v) v)
stops-by layout who _ found content v = same v _ refl

-- ---- the stop word

-- a command that saw the machine running has seen it after each step too
pub saw-running-stays : {layout : Layout} {by who : Who} {step : Step} {put : Option Log} {old new : View} {found : ℕ} {got : Option BodyValue} → Steps layout by step put old new found got → SawRunning old who → SawRunning new who
saw-running-stays made saw = record { word = saw.word; running = saw.running; saw = saw-stays made saw.saw }

-- ---- over a step of another command

module _ {layout : Layout} {by : Who} {step : Step} {body : Option BodyValue} {old new : View} {found : ℕ} {got : Option BodyValue} (can : CanMake layout by step body old) (made : Steps layout by step (logs body) old new found got)
    (who : Who) (other : who ≢ by) where
  same-deeds : deeds who new ≡ deeds who old
  same-deeds = deeds-stay can made who other

  pub made-none-later : HasMadeNone old who → HasMadeNone new who
  made-none-later none = same-deeds ∙ none

  -- what the step did not list was listed before
  abbrev after : View
  after = view_by layout by step found (content_of layout by step (logs body) found got) (noted by old)

  stops-stay : (P : Who → Type 0) → SomeMember P old.stops → SomeMember P new.stops
  stops-stay P some = subst (λ (v : View). SomeMember P v.stops) (sym made.told.next) ((stops-by layout by step found (content_of layout by step (logs body) found got) (noted by old)).stops P some)

  spoiled-stay : (P : Spoiled → Type 0) → SomeMember P old.spoiled → SomeMember P new.spoiled
  spoiled-stay P some = subst (λ (v : View). SomeMember P v.spoiled) (sym made.told.next) (some-more P old.spoiled after.spoiled (spoils-by layout by step found (content_of layout by step (logs body) found got) (noted by old)) some)

  saw-process-stays : (thread : Thread) (word : ℕ) → SawProcess layout old who thread word → SawProcess layout new who thread word
  saw-process-stays thread word saw = record { process = saw.process; process_is = saw.process_is; saw = saw-stays made saw.saw }

  met-stays : (command : Command) → HasOnlyMet layout old who command → HasOnlyMet layout new who command
  met-stays command only = has-only-stays who old new same-deeds only

  stopped-stays : (command : Command) → FoundStopped layout old who command → FoundStopped layout new who command
  stopped-stays command found_ = record { stopped = which found_.stopped; only = met-stays command found_.only }
    where
      which : SawStop old who ⊎ SomeMember (λ (w : Who). w ≡ who) old.stops → SawStop new who ⊎ SomeMember (λ (w : Who). w ≡ who) new.stops
      which (inl saw) = inl (record { word = saw.word; stopped = saw.stopped; saw = saw-stays made saw.saw })
      which (inr own) = inr (stops-stay (λ (w : Who). w ≡ who) own)

  gone-stays : (thread : Thread) (page : Page) → FoundGone layout old who thread page → FoundGone layout new who thread page
  gone-stays thread page gone = record { ended = saw-process-stays thread _ gone.ended }

  begun-stays : (slot : VSlot) (line : ℕ) → HasOnlyBegun layout old who slot line → HasOnlyBegun layout new who slot line
  begun-stays slot line begun = record { page = begun.page; page_is = begun.page_is; only = has-only-stays who old new same-deeds begun.only }

  reached-stays : (thread : Thread) (slot : VSlot) (line : ℕ) (at : At) (what : What) → Reached layout old who thread slot line at what → Reached layout new who thread slot line at what
  reached-stays thread slot line at what reached = record { going = saw-process-stays thread 0 reached.going; page = reached.page; made = has-made-stays who old new same-deeds reached.made }

  no-frame-stays : (thread : Thread) (slot : VSlot) (line : ℕ) → FoundNoFrame layout old who thread slot line → FoundNoFrame layout new who thread slot line
  no-frame-stays thread slot line none = record {
    going = saw-process-stays thread 0 none.going;
    available = saw-stays made none.available;
    page = none.page;
    page_is = none.page_is;
    place = none.place;
    away = saw-state-stays made none.away;
    only = has-only-stays who old new same-deeds none.only;
  }

  one-stays : (at : At) (what : What) → MadeOne old who at what → MadeOne new who at what
  one-stays at what one = record { made = has-made-stays who old new same-deeds one.made }

  state-stays : (at : At) (Such : PageState → Type 0) → FoundState layout old who at Such → FoundState layout new who at Such
  state-stays at Such found_ = record { made = made-none-later found_.made; saw = saw-state-stays made found_.saw }

  load-stays : (thread : Thread) (slot : VSlot) (line : ℕ) (answer : Answer) → IsLoadCaused layout old who thread slot line answer → IsLoadCaused layout new who thread slot line answer
  load-stays thread slot line (answers.Value word at) caused = (caused.0, reached-stays thread slot line at _ caused.1)
  load-stays thread slot line (answers.Sigbus at) caused = reached-stays thread slot line at _ caused
  load-stays thread slot line answers.NoFrame caused = no-frame-stays thread slot line caused
  load-stays thread slot line (answers.Gone page) caused = (gone-stays thread page caused.0, begun-stays slot line caused.1)
  load-stays thread slot line _ caused = absurd caused

  store-stays : (thread : Thread) (slot : VSlot) (line word : ℕ) (answer : Answer) → IsStoreCaused layout old who thread slot line word answer → IsStoreCaused layout new who thread slot line word answer
  store-stays thread slot line word (answers.Stored at) caused = (caused.0, reached-stays thread slot line at _ caused.1)
  store-stays thread slot line word (answers.Sigbus at) caused = reached-stays thread slot line at _ caused
  store-stays thread slot line word answers.NoFrame caused = no-frame-stays thread slot line caused
  store-stays thread slot line word (answers.Gone page) caused = (gone-stays thread page caused.0, begun-stays slot line caused.1)
  store-stays thread slot line word _ caused = absurd caused

  page-stays : (page : Page) (what : What) (answer : Answer) → IsPageCaused layout old who page what answer → IsPageCaused layout new who page what answer
  page-stays page what (answers.DoneAt at) caused = (caused.0, one-stays at what caused.1)
  page-stays page what (answers.NotResident at) caused = (caused.0, state-stays at _ caused.1)
  page-stays page what _ caused = absurd caused

  lines-stay : (page : Page) (mask : Mask) → SawBadLines layout old who page mask → SawBadLines layout new who page mask
  lines-stay page mask lines = record { some = lines.some; frame = lines.frame; inside = lines.inside; saw = saw-bad-of-stays made page lines.saw }

  copy-stays : (page : Page) (what : What) (answer : Answer) → IsCopiedOut layout old who page what answer → IsCopiedOut layout new who page what answer
  copy-stays page what (answers.BadLines mask at) caused = (caused.0, state-stays at _ caused.1, lines-stay page mask caused.2)
  copy-stays page what answer caused = page-stays page what answer caused

  spoiled-stays : (frame : Frame) (line : ℕ) (damage : Damage) → HasSpoiledLine old who frame line damage → HasSpoiledLine new who frame line damage
  spoiled-stays frame line damage has = record {
    within = has.within;
    spoiled = spoiled-stay (λ (s : Spoiled). (s.stamp.who ≡ who) × (s.frame ≡ frame) × (s.line ≡ line) × (s.damage ≡ damage)) has.spoiled;
    made = made-none-later has.made;
  }

  replied-stays : (earlier : List (Command × Answer)) (thread : Thread) (given : List ℕ) (answer : Answer) → IsReplied layout earlier old who thread given answer → IsReplied layout earlier new who thread given answer
  replied-stays earlier thread given answer replied = record { going = saw-process-stays thread 0 replied.going; made = made-none-later replied.made; replied = replied.replied }

  -- ---- failures

  failed-stays : (frame : Frame) (f : Found) → HasFailed layout old who frame f → HasFailed layout new who frame f
  failed-stays frame f failed = record { entered = entered-stays can made who other frame None f f.at failed.entered; only = has-only-stays who old new same-deeds failed.only }

  come-stays : (frame : Frame) (own : Option FrameChange) (outcome : Outcome) → HasCome layout old who frame own outcome → HasCome layout new who frame own outcome
  come-stays frame own outcome come = record { found = come.found; own_is = come.own_is; outcome_is = come.outcome_is; failed = failed-stays frame come.found come.failed }

  poisoned-stays : (frame : Frame) → FoundPoisoned old who frame → FoundPoisoned new who frame
  poisoned-stays frame found_ = record { word = found_.word; poisoned = found_.poisoned; saw = saw-stays made found_.saw; made = made-none-later found_.made }

  inject-stays : (frame : Frame) (own : Option FrameChange) (answer : Answer) → IsInjectCaused layout old who frame own answer → IsInjectCaused layout new who frame own answer
  inject-stays frame own answers.Recovered come = come-stays frame own _ come
  inject-stays frame own answers.Delayed come = come-stays frame own _ come
  inject-stays frame own answers.Ignored come = come-stays frame own _ come
  inject-stays frame own answers.Already caused = (poisoned-stays frame caused.0, caused.1)
  inject-stays frame own _ caused = absurd caused

  -- ---- soft offline

  bad-lines-found-stay : (frame : Frame) (mask : Mask) → FoundBadLines old who frame mask → FoundBadLines new who frame mask
  bad-lines-found-stay frame mask found_ = record { some = found_.some; page = found_.page; saw = saw-bad-of-stays made found_.page found_.saw; made = made-none-later found_.made }

  moved-stays : (frame other : Frame) (own : Option FrameChange) (at : At) → HasMoved old who frame other own at → HasMoved new who frame other own at
  moved-stays frame other own at moved = record { cycle = moved.cycle; own_is = moved.own_is; word = moved.word; free = free-stays made moved.free; made = one-stays at entries.Soft moved.made }

  taken-stays : (frame : Frame) (own : Option FrameChange) → HasTaken old who frame own → HasTaken new who frame own
  taken-stays frame own has = record { cycle = has.cycle; own_is = has.own_is; made = made-none-later has.made }

  offline-stays : (frame : Frame) (own : Option FrameChange) (answer : Answer) → IsOfflineCaused layout old who frame own answer → IsOfflineCaused layout new who frame own answer
  offline-stays frame own (answers.Moved other at) caused = moved-stays frame other own at caused
  offline-stays frame own answers.TakenFree caused = taken-stays frame own caused
  offline-stays frame own answers.Already caused = (poisoned-stays frame caused.0, caused.1)
  offline-stays frame own (answers.HasBad mask) caused = (bad-lines-found-stay frame mask caused.0, caused.1)
  offline-stays frame own answers.NoFrame caused = (made-none-later caused.0, saw-stays made caused.1, caused.2)
  offline-stays frame own _ caused = absurd caused

  kernel-stays : (frame : Frame) → SawKernel layout old who frame → SawKernel layout new who frame
  kernel-stays frame saw = record { word = saw.word; kernel = saw.kernel; saw = saw-stays made saw.saw; declared = saw.declared }

  soft-stays : (frame : Frame) (own : Option FrameChange) (answer : Answer) → IsSoftCaused layout old who frame own answer → IsSoftCaused layout new who frame own answer
  soft-stays frame own answers.Kernel caused = (kernel-stays frame caused.0, made-none-later caused.1, caused.2)
  soft-stays frame own answer caused = (caused.0, offline-stays frame own answer caused.1)

  -- ---- unpoisoning

  unpoison-stays : (frame : Frame) (own : Option FrameChange) (answer : Answer) → IsUnpoisonCaused layout old who frame own answer → IsUnpoisonCaused layout new who frame own answer
  unpoison-stays frame own answers.Done caused = record {
    cycle = caused.cycle;
    own_is = caused.own_is;
    revivable = record { word = caused.revivable.word; poisoned = caused.revivable.poisoned; revivable = caused.revivable.revivable; saw = saw-stays made caused.revivable.saw };
    counter = record { word = caused.counter.word; none = caused.counter.none; saw = saw-stays made caused.counter.saw };
    bad = saw-stays made caused.bad;
  }
  unpoison-stays frame own answers.NotPoisoned caused = record { word = caused.word; sound = caused.sound; saw = saw-stays made caused.saw }
  unpoison-stays frame own answers.HardwareSeen caused = record { word = caused.word; some = caused.some; saw = saw-stays made caused.saw }
  unpoison-stays frame own (answers.HasBad mask) caused = record { inside = caused.inside; some = caused.some; saw = saw-stays made caused.saw }
  unpoison-stays frame own (answers.InUse count) caused = record { word = caused.word; used = caused.used; count_is = caused.count_is; saw = saw-stays made caused.saw }
  unpoison-stays frame own _ caused = absurd caused

  -- ---- the cause of another command's answer

  table-stays : (earlier : List (Command × Answer)) (command : Command) (answer : Answer) → IsTableCaused layout earlier old who command answer → IsTableCaused layout earlier new who command answer
  table-stays earlier (commands.Load thread slot line) answer caused = load-stays thread slot line answer caused
  table-stays earlier (commands.Fetch thread slot line) answer caused = load-stays thread slot line answer caused
  table-stays earlier (commands.KLoad thread slot line) answer caused = load-stays thread slot line answer caused
  table-stays earlier (commands.Store thread slot line word) answer caused = store-stays thread slot line word answer caused
  table-stays earlier (commands.Free slot) (answers.DoneAt at) caused = (caused.0, one-stays at _ caused.1)
  table-stays earlier (commands.Free slot) (answers.NotMapped at) caused = (caused.0, state-stays at _ caused.1)
  table-stays earlier (commands.Drop page) (answers.Locked at) caused = (caused.0, state-stays at _ caused.1)
  table-stays earlier (commands.Drop page) (answers.Dirty at) caused = (caused.0, state-stays at _ caused.1)
  table-stays earlier (commands.Drop page) (answers.Mapped at) caused = (caused.0, state-stays at _ caused.1)
  table-stays earlier (commands.Drop page) answer caused = page-stays page entries.Drop answer caused
  table-stays earlier (commands.Sync page) answer caused = copy-stays page entries.Sync answer caused
  table-stays earlier (commands.Out page) (answers.Locked at) caused = (caused.0, state-stays at _ caused.1)
  table-stays earlier (commands.Out page) (answers.BadLines mask at) caused = (caused.0, state-stays at _ caused.1, lines-stay page mask caused.2)
  table-stays earlier (commands.Out page) answer caused = copy-stays page entries.Out answer caused
  table-stays earlier (commands.Fsync file) answers.Done caused = made-none-later caused
  table-stays earlier (commands.Fsync file) (answers.Eio more) caused = (made-none-later caused.0, caused.1)
  table-stays earlier (commands.Open file) (answers.Opened word) caused = made-none-later caused
  table-stays earlier (commands.Prctl thread args) (answers.Gone page) caused = (gone-stays thread page caused.0, made-none-later caused.1)
  table-stays earlier (commands.Prctl thread args) answer caused = replied-stays earlier thread _ answer caused
  table-stays earlier (commands.Fork thread process) answers.Done caused = (saw-process-stays thread 0 caused.0, made-none-later caused.1)
  table-stays earlier (commands.Fork thread process) (answers.Gone page) caused = (gone-stays thread page caused.0, made-none-later caused.1)
  table-stays earlier (commands.Log status addr misc) answers.Done caused = made-none-later caused
  table-stays earlier (commands.Watch threshold window) answers.Done caused = made-none-later caused
  table-stays earlier (commands.Bad frame line) answers.Done caused = spoiled-stays frame line _ caused
  table-stays earlier (commands.Weak frame line) answers.Done caused = spoiled-stays frame line _ caused
  table-stays earlier command answer caused = absurd caused

  signalled-stays : (command : Command) (thread : Thread) (told : List EventOutcome) (at : At) → WasSignalled layout old who command thread told at → WasSignalled layout new who command thread told at
  signalled-stays command thread told at was = record { going = saw-process-stays thread 0 was.going; first = was.first; only = met-stays command was.only }

  raised-stays : (command : Command) (told : List EventOutcome) (n : ℕ) → WasRaised layout old who command told n → WasRaised layout new who command told n
  raised-stays command told n was = record { count = was.count; only = met-stays command was.only }

  -- by an access, or a failure of its machine checks
  sigbus-stays : (command : Command) (told : List EventOutcome) (at : At) (access : Option Access) → IsSomeAnd access (λ (a : Access). WasSignalled layout old who command a.thread told at)
      → IsSomeAnd access (λ (a : Access). WasSignalled layout new who command a.thread told at)
  sigbus-stays command told at (Some a) was = signalled-stays command a.thread told at was
  sigbus-stays command told at None was = absurd was

  either-stays : (earlier : List (Command × Answer)) (command : Command) (told : List EventOutcome) (at : At)
      → IsTableCaused layout earlier old who command (answers.Sigbus at) ⊎ IsSomeAnd (access_of command) (λ (a : Access). WasSignalled layout old who command a.thread told at)
      → IsTableCaused layout earlier new who command (answers.Sigbus at) ⊎ IsSomeAnd (access_of command) (λ (a : Access). WasSignalled layout new who command a.thread told at)
  either-stays earlier command told at (inl caused) = inl (table-stays earlier command (answers.Sigbus at) caused)
  either-stays earlier command told at (inr was) = inr (sigbus-stays command told at (access_of command) was)

  -- an access that its guest didn't admit
  going-stays : (access : Option Access) → IsSomeAnd access (λ (a : Access). SawProcess layout old who a.thread 0) → IsSomeAnd access (λ (a : Access). SawProcess layout new who a.thread 0)
  going-stays (Some a) saw = saw-process-stays a.thread 0 saw
  going-stays None saw = absurd saw

  denied-stays : (command : Command) → WasDenied layout old who command → WasDenied layout new who command
  denied-stays command was = (made-none-later was.0, going-stays (access_of command) was.1)

  answer-stays : (earlier : List (Command × Answer)) (command : Command) (told : List EventOutcome) (own : Option FrameChange) (answer : Answer) → IsAnswerCaused layout earlier old who command told own answer
      → IsAnswerCaused layout earlier new who command told own answer
  answer-stays earlier command told own answers.Stopped caused = stopped-stays command caused
  answer-stays earlier (commands.RaiseUser thread ripv eipv) told own (answers.Raised n) caused = (saw-process-stays thread 0 caused.0, raised-stays _ told n caused.1)
  answer-stays earlier (commands.RaiseUser thread ripv eipv) told own (answers.Gone page) caused = (gone-stays thread page caused.0, made-none-later caused.1)
  answer-stays earlier (commands.RaiseKernel ripv eipv) told own (answers.Raised n) caused = raised-stays _ told n caused
  answer-stays earlier (commands.Scrub first last) told own (answers.Scrubbed n) caused = raised-stays _ told n caused
  answer-stays earlier (commands.Inject frame) told own answer caused = (caused.0, inject-stays frame own answer caused.1)
  answer-stays earlier (commands.Soft frame) told own answer caused = soft-stays frame own answer caused
  answer-stays earlier (commands.Unpoison frame) told own answer caused = (made-none-later caused.0, unpoison-stays frame own answer caused.1)
  answer-stays earlier command told own (answers.Sigbus at) caused = either-stays earlier command told at caused
  answer-stays earlier command told own answers.GuestBad caused = denied-stays command caused
  answer-stays earlier command told own answers.GuestStopped caused = denied-stays command caused
  answer-stays earlier command told own answer caused = table-stays earlier command answer caused

  -- where it copied a page first, too
  pub caused-stays : (earlier : List (Command × Answer)) (copied : Option VSlot) (command : Command) (before : Banks) (told : List EventOutcome) (own : Option FrameChange) (answer : Answer)
      → IsCausedWith layout earlier copied old who command before told own answer → IsCausedWith layout earlier copied new who command before told own answer
  caused-stays earlier None command before told own answer caused = answer-stays earlier command told own answer caused
  caused-stays earlier (Some from) (commands.Store thread to line word) before told own answer caused = copy-caused-stays can made who other stops-stay thread from to line word before told answer caused
  caused-stays earlier (Some from) command before told own answer caused = absurd caused

  -- and what it told
  told-stays : (copied : Option VSlot) (command : Command) (answer : Answer) (before : Banks) (told : List EventOutcome) (after : Banks) → AreToldWith layout copied old who command answer before told after → AreToldWith layout copied new who command answer before told after
  told-stays None command answer before told after is = told-by-stays can made who other command answer before told after is
  told-stays (Some from) (commands.Store thread to line word) answer before told after is = copy-told-stays can made who other thread from to line word before told after is
  told-stays (Some from) command answer before told after is = absurd is

  -- ---- frames that were taken out of use beside another command

  came-stays : (frame : Frame) (change : Option FrameChange) (result : OfflineResult) → IsOfflineServed layout old who frame change result → IsOfflineServed layout new who frame change result
  came-stays frame change (results.Moved frame_ at) (users, changed, free) = (users, changed, (free.0, free-stays made free.1))
  came-stays frame change results.TakenFree came = came
  came-stays frame change results.Already (users, saw, none) = (users, record { word = saw.word; poisoned = saw.poisoned; saw = saw-stays made saw.saw }, none)
  came-stays frame change (results.HasBad mask) (users, saw, none) = (users, record { page = saw.page; some = saw.some; saw = saw-bad-of-stays made saw.page saw.saw }, none)
  came-stays frame change results.NoFrame (users, saw, none) = (users, saw-stays made saw, none)
  came-stays frame change results.Stopped (saw, none) = (record { word = saw.word; stopped = saw.stopped; saw = saw-stays made saw.saw }, none)

  running-stays : {A : Type 0} → A ⊎ SawRunning old who → A ⊎ SawRunning new who
  running-stays (inl stopped) = inl stopped
  running-stays (inr saw) = inr (saw-running-stays made saw)

  pub offlining-stays : (o : Offlining) → IsOffliningServed layout old who o → IsOffliningServed layout new who o
  offlining-stays o served = record { came = came-stays o.frame o.change o.result served.came; running = running-stays served.running }

  pub beside-stays : (command : Command) (row : Row) → AreBeside old who command row → AreBeside new who command row
  beside-stays command row are = ap left_among same-deeds ∙ are

  -- what another command that is answered has done and told stays
  pub row-stays : (earlier : List (Command × Answer)) (copied : Option VSlot) (command : Command) (before : Banks) (row : Row) (left : Banks) → IsRowServed layout earlier copied old who command before row left → IsRowServed layout earlier copied new who command before row left
  row-stays earlier copied command before row left served = record {
    caused = caused-stays earlier copied command before row.told row.own row.answer served.caused;
    accounted = account-stays made who other same-deeds earlier command row served.accounted;
    told = told-stays copied command row.answer before row.told left served.told;
    heeded = served.heeded;
    running = running-stays served.running;
    beside = beside-stays command row served.beside;
    offlined = λ i o there. offlining-stays o (served.offlined i o there);
  }
