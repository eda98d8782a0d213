-- While a frame is taken out of use beside a command, the command makes no entry but that by which its page leaves it, and what is right
-- of its own task, which has its answer, stays.
use Rattle.std.proofs.Common.{◌≡◌, ◌⊎◌, inl, inr, ℕ, ◌+◌, Bool, true, false, cond, List, [], ◌∷◌, ◌++◌, Option, Some, None, filter, is_none, length, append-nil, refl, sym, ap, ◌∙◌, subst, arith}
use Rattle.std.specs.Prelude.{MatchBool}
use Rattle.std.proofs.lemmas.Bool.{both_ways}
use Rattle.std.proofs.lemmas.List.{length-append}
use Rattle.std.proofs.lemmas.List.Elements.{filter-append}
use Rattle.std.proofs.lemmas.Option.{none-some}
use Rattle.hwp_law_served.specs.hwp_geom.declared.Frame.{Frame}
use Rattle.hwp_law_served.specs.hwp_geom.declared.Layout.{Layout}
use Rattle.hwp_law_served.specs.hwp_geom.declared.Page.{Page}
use Rattle.hwp_law_served.specs.hwp_geom.declared.Thread.{Thread}
use Rattle.hwp_law_served.specs.hwp_geom.declared.Who.{Who}
use Rattle.hwp_law_served.specs.hwp_banks.Banks.{Banks, empty_banks}
use Rattle.hwp_law_served.specs.hwp_page.declared.At.{At}
use Rattle.hwp_law_served.specs.hwp_page.declared.What.TheVariants as entries
use Rattle.hwp_law_served.specs.hwp_page.History.{BodyValue}
use Rattle.hwp_law_served.specs.hwp_words.Frames.{cycle_of, is_poisoned}
use Rattle.hwp_law_served.specs.hwp_words.Stops.{is_stopped}
use Rattle.hwp_law_served.specs.hwp_core_rule.declared.Log.{Log}
use Rattle.hwp_law_served.specs.hwp_core_rule.declared.Made.{Made}
use Rattle.hwp_law_served.specs.hwp_core_rule.declared.SharedWord.{SharedWord}
use Rattle.hwp_law_served.specs.hwp_core_rule.declared.Step.{Step}
use Rattle.hwp_law_served.specs.hwp_core_rule.declared.View.{View}
use Rattle.hwp_law_served.specs.hwp_core_rule.Lists.{EachMember, SomeMember}
use Rattle.hwp_law_served.specs.hwp_core_rule.Views.{noted}
use Rattle.hwp_law_served.specs.hwp_core_rule.declared.Turn.{Turn}
use Rattle.hwp_law_served.specs.hwp_core_rule.Calls.{Steps, logs}
use Rattle.hwp_law_served.specs.hwp_core_rule.Known.{HasMadeBeside, HasMadeNoneBeside, Saw, SawStop, deeds, is_by}
use Rattle.hwp_law_served.proofs.of_hwp_core_rule.tasks.MadeEntries.{deeds-same}
use Rattle.hwp_law_served.proofs.of_hwp_core_rule.tasks.SightKeeps.{saw-bad-of-stays, saw-stays}
use Rattle.hwp_law_served.proofs.of_hwp_core_rule.tasks.StepLeaves.{content_of, steps-planned}
use Rattle.hwp_law_served.specs.hwp_script_words.declared.Command.{Command}
use Rattle.hwp_law_served.specs.hwp_script_words.declared.Command.TheVariants as commands
use Rattle.hwp_law_served.specs.hwp_report_text.declared.Answer.{Answer}
use Rattle.hwp_law_served.specs.hwp_report_text.declared.Answer.TheVariants as answers
use Rattle.hwp_law_served.specs.hwp_report_text.declared.OfflineResult.{OfflineResult}
use Rattle.hwp_law_served.specs.hwp_report_text.declared.OfflineResult.TheVariants as results
use Rattle.hwp_law_served.specs.hwp_law.Commands.{arrival_of}
use Rattle.hwp_law_served.specs.hwp_severity.declared.Arrival.{Arrival}
use Rattle.hwp_law_served.specs.hwp_severity.Handling.{has_stop}
use Rattle.hwp_law_served.specs.hwp_law.Pairings.{is_soft}
use Rattle.hwp_cpu_command.specs.hwp_core.declared.give_up.GiveUp.{GiveUp}
use Rattle.hwp_cpu_command.specs.hwp_core.declared.give_up.GiveUpAt.{GiveUpAt}
use Rattle.hwp_cpu_command.specs.hwp_core.declared.give_up.GiveUpAt.TheVariants as give_up_at
use Rattle.hwp_cpu_command.specs.hwp_core.declared.release.Release.{Release}
use Rattle.hwp_cpu_command.specs.hwp_core.declared.unhold.Unhold.{Unhold}
use Rattle.hwp_cpu_command.specs.hwp_core.declared.unlock.Unlock.{Unlock}
use Rattle.hwp_cpu_command.specs.hwp_core.GiveUps as give_ups
use Rattle.hwp_cpu_command.specs.hwp_core.Unholds as unholds
use Rattle.hwp_cpu_command.specs.hwp_core.Unlocks as unlocks
use Rattle.hwp_cpu_command.specs.hwp_core.Releases as releases
use Rattle.hwp_cpu_command.specs.hwp_fault.hwp_evict.declared.take.Take.{Take}
use Rattle.hwp_cpu_command.specs.hwp_fault.hwp_evict.declared.take.TakeAnswer.{TakeAnswer}
use Rattle.hwp_cpu_command.specs.hwp_fault.hwp_evict.declared.take.TakeAnswer.TheVariants as take_answers
use Rattle.hwp_cpu_command.specs.hwp_fault.hwp_evict.Takes as takes
use Rattle.hwp_law_served.specs.hwp_claim_frame.Meets.{AsTaken}
use Rattle.hwp_cpu_command.proofs.of_hwp_claim.of_hwp_claim_frame.ViewKeeps.{Account, account_of, kept, unlock-only}
use Rattle.hwp_cpu_command.proofs.of_hwp_soft.SoftFits.{unhold-only}
use Rattle.hwp_cpu_command.proofs.of_hwp_soft.SpareSteps.{free-stays}
use Rattle.hwp_law_served.specs.hwp_claim.declared.EventOutcome.{EventOutcome}
use Rattle.hwp_law_served.specs.hwp_claim.Checks.{IsActedOn}
use Rattle.hwp_cpu_command.proofs.of_hwp_claim.FailureKeeps.{told-stays}
use Rattle.hwp_cpu_command.proofs.of_hwp_cpu_access.CommandGrows.{made-more}
use Rattle.hwp_cpu_command.proofs.of_hwp_cpu_access.Resting.{any-stay}
use Rattle.hwp_law_served.specs.hwp_scrub.Visits as scrubs
use Rattle.hwp_cpu_command.proofs.of_hwp_scrub.VisitLaws.{bad-stays, visits-stay}
use Rattle.hwp_law_served.specs.hwp_soft_move.declared.relocate.Relocate.{Relocate}
use Rattle.hwp_law_served.specs.hwp_soft_move.declared.relocate.RelocateAt.{RelocateAt}
use Rattle.hwp_law_served.specs.hwp_soft_move.declared.relocate.RelocateAt.TheVariants as relocate_at
use Rattle.hwp_law_served.specs.hwp_soft_move.Relocating as relocating
use Rattle.hwp_law_served.specs.hwp_soft_move.Relocations as relocations
use Rattle.hwp_law_served.specs.hwp_soft_move.declared.discard.Discard.{Discard}
use Rattle.hwp_law_served.specs.hwp_soft_move.Discards as discards
use Rattle.hwp_law_served.specs.hwp_soft_move.declared.seize.Seize.{Seize}
use Rattle.hwp_law_served.specs.hwp_soft_move.declared.seize.SeizeAt.{SeizeAt}
use Rattle.hwp_law_served.specs.hwp_soft_move.declared.seize.SeizeAt.TheVariants as seize_at
use Rattle.hwp_law_served.specs.hwp_soft_move.declared.seize.SeizeAnswer.{SeizeAnswer}
use Rattle.hwp_law_served.specs.hwp_soft_move.declared.seize.SeizeAnswer.TheVariants as seize_answers
use Rattle.hwp_law_served.specs.hwp_soft_move.Seizes as seizes
use Rattle.hwp_law_served.specs.hwp_soft.declared.soft.Soft.{Soft}
use Rattle.hwp_law_served.specs.hwp_soft.declared.soft.SoftAt.{SoftAt}
use Rattle.hwp_law_served.specs.hwp_soft.declared.soft.SoftAt.TheVariants as at
use Rattle.hwp_law_served.specs.hwp_soft.declared.SoftAnswer.{SoftAnswer}
use Rattle.hwp_law_served.specs.hwp_soft.declared.SoftAnswer.TheVariants as soft_answers
use Rattle.hwp_law_served.specs.hwp_soft.Offline as offline
use Rattle.hwp_law_served.specs.hwp_soft.Softs as softs
use Rattle.hwp_cpu_command.specs.declared.Job.{Job}
use Rattle.hwp_cpu_command.specs.Jobs.{banks_after, banks_before, own_of, told_of}
use Rattle.hwp_law_served.specs.hwp_cpu_row.declared.FrameChange.{FrameChange}
use Rattle.hwp_law_served.specs.hwp_cpu_row.declared.Offlining.{Offlining}
use Rattle.hwp_law_served.specs.Causes.{FoundStopped, IsAnswerCaused, SawProcess, WasRaised}
use Rattle.hwp_law_served.specs.Offlinings.{IsOfflineServed}
use Rattle.hwp_law_served.specs.Served.{IsOffliningServed, SawRunning}
use Rattle.hwp_law_served.specs.Told.{HasScrubbed, IsCutShort, IsRaiseTold, IsScrubTold, is_raised}
use Rattle.hwp_law_served.proofs.CommandKeeps.{saw-running-stays, stops-by}
use Rattle.hwp_cpu.specs.Beside.{AddsBeside, CanCollect, IsOwnServed}
use Rattle.hwp_cpu.proofs.causes.OnTheWay.{met-beside}

-- ---- the entries of a frame that is taken out of use

-- the one entry beside those that the command had made before
abbrev HasLeft : List Made → View → Who → Type 0
HasLeft base view who = (place : At) × HasMadeBeside base (λ m. ⊥) view who place.page place.entry entries.Soft

-- none, or the one by which its page left it
abbrev pub HasAtMost : List Made → View → Who → Type 0
HasAtMost base view who = HasMadeNoneBeside base view who ⊎ HasLeft base view who

caused-at : {base : List Made} (layout : Layout) {view : View} {who : Who} (frame : Frame) (x : SoftAnswer) → offline.IsCaused base layout view who frame x → HasAtMost base view who
caused-at layout frame soft_answers.Stopped has = inl has.0
caused-at layout frame soft_answers.Kernel has = inl has.0
caused-at layout frame soft_answers.Already has = inl has.0
caused-at layout frame (soft_answers.HasBad mask) has = inl has.0
caused-at layout frame soft_answers.NoFrame has = inl has.0
caused-at layout frame (soft_answers.TakenFree cycle) has = inl has.0
caused-at layout frame (soft_answers.Moved to place cycle) has = inr (place, has.0)

relocating-at : {base : List Made} {layout : Layout} {view : View} (r : Relocate) → relocating.FitsFrom base layout view r → HasAtMost base view r.transfer.who
relocating-at {base} {layout} {view} r fits = which r.at fits.at
  where
    which : (x : RelocateAt) → relocating.FitsAt base layout view r.transfer r.maps r.done r.body x → HasAtMost base view r.transfer.who
    which relocate_at.Count has = inl has.0.carries.made_none
    which relocate_at.SetOwner has = inl has.carries.made_none
    which (relocate_at.Refer f) has = inl has.ahead.carries.made_none
    which (relocate_at.Remap m) has = inl has.carries.made_none
    which relocate_at.SetCache has = inl has.carries.made_none
    which relocate_at.ClearOwner has = inl has.carries.made_none
    which relocate_at.UnlockFrame has = inl has.carries.made_none
    which (relocate_at.Release l) has = inr (r.done, has.moved)
    which relocate_at.PutRef has = inr (r.done, has.1)
    which relocate_at.Retire has = inr (r.done, has.1)
    which relocate_at.UnlockPage has = inr (r.done, has.1)
    which relocate_at.Over has = inr (r.done, has.1)

abbrev is_bad : SoftAt → Bool
is_bad (at.LoadBad page body) = true
is_bad _ = false

abbrev is_given_up : SoftAt → Bool
is_given_up (at.GiveUp g) = true
is_given_up _ = false

-- in each state but that of giving up
made-at : {base : List Made} (layout : Layout) {view : View} {who : Who} (frame : Frame) (x : SoftAt) → is_given_up x ≡ false → offline.FitsAt base layout view who frame x → HasAtMost base view who
made-at layout frame at.LoadStop on has = inl has.1
made-at layout frame (at.Seize s) on has = inl has.1
made-at layout frame (at.Discard d) on has = inl has.2
made-at layout frame (at.LoadBad page body) on has = inl has.2
made-at layout frame (at.Take page body t) on has = inl has.good.made_none
made-at layout frame (at.Poison page body to) on has = inl has.good.made_none
made-at layout frame (at.UnlockSpare page body to) on has = inl has.0.good.made_none
made-at layout frame (at.ReleaseSpare page body r) on has = inl has.0.good.made_none
made-at {base} layout {view} frame (at.Relocate r answer) on has = subst (HasAtMost base view) has.own (relocating-at r has.relocate)
made-at layout frame (at.Unhold u answer) on has = caused-at layout frame answer has.caused
made-at layout frame (at.GiveUp g) on has = absurd (both_ways true on refl)
made-at layout frame (at.Over answer) on has = caused-at layout frame answer has.1

module _ {layout : Layout} {who : Who} {step : Step} {put : Option Log} {old new : View} {found : ℕ} {got : Option BodyValue} (made : Steps layout who step put old new found got) where
  -- a command's entries only grow
  grown : (more : List Made) × (deeds who new ≡ deeds who old ++ more)
  grown = let all = made-more step made in (filter (is_by who) all.more, ap (filter (is_by who)) all.made_is ∙ filter-append (is_by who) old.made all.more)

  -- with the one entry, or without it
  one-left : (base : List Made) (place : At) (before : List Made) (last : Made) {l : List Made} → EachMember (λ (m : Made). ⊥) before → l ≡ base ++ (before ++ last ∷ []) → l ≡ base ++ last ∷ []
  one-left base place [] last none is = is
  one-left base place (m ∷ ms) last none is = absurd (none 0 m refl)

  between : {base : List Made} → HasAtMost base old who → HasAtMost base new who → AddsBeside who old new
  between (inl none) (inl still) = record { adds = inl (still ∙ sym none) }
  between {base} (inl none) (inr (place, has)) = record { adds = inr (has.last, one-left base place has.before has.last has.such has.all ∙ ap (λ (l : List Made). l ++ has.last ∷ []) (sym none), ap is_soft has.at.2) }
  between {base} (inr (place, has)) (inl none) =
      let was : length (deeds who old) ≡ length base + 1 = ap length (one-left base place has.before has.last has.such has.all) ∙ length-append base (has.last ∷ []) in
      let is : length (deeds who new) ≡ length base = ap length none in
      let more : length (deeds who new) ≡ length (deeds who old) + length grown.0 = ap length grown.1 ∙ length-append (deeds who old) grown.0 in
      absurd (omega (arith, was, is, more))
  between {base} (inr (place, was)) (inr (other, is)) = record { adds = inl (grown.1 ∙ ap (λ (l : List Made). deeds who old ++ l) (empty grown.0 none) ∙ append-nil (deeds who old)) }
    where
      empty : (l : List Made) → length l ≡ 0 → l ≡ []
      empty [] zero_long = refl
      empty (m ∷ ms) zero_long = absurd (omega (arith, zero_long))

      none : length grown.0 ≡ 0
      none =
          let before : length (deeds who old) ≡ length base + 1 = ap length (one-left base place was.before was.last was.such was.all) ∙ length-append base (was.last ∷ []) in
          let after : length (deeds who new) ≡ length base + 1 = ap length (one-left base other is.before is.last is.such is.all) ∙ length-append base (is.last ∷ []) in
          let more : length (deeds who new) ≡ length (deeds who old) + length grown.0 = ap length grown.1 ∙ length-append (deeds who old) grown.0 in
          omega (arith, before, after, more)

-- ---- where memory is refused

give-up-none : {layout : Layout} {old new : View} {found : ℕ} {got : Option BodyValue} {who : Who} {step : Step} (g : GiveUp) → offline.IsGivingUp layout old who g → give_ups.plan g ≡ Some step → Steps layout who step (logs (give_ups.put g)) old new found got → deeds who new ≡ deeds who old
give-up-none {layout} {old} {new} {found} {got} {who} {step} g has is made = which g.at is made has.as_taken
  where
    same : account_of new ≡ account_of old → deeds who new ≡ deeds who old
    same is = ap (λ (a : Account). filter (is_by who) a.made) is

    which : (x : GiveUpAt) → give_ups.plan_at x ≡ Some step → Steps layout who step (logs (give_ups.put_at x)) old new found got → AsTaken old (give_ups.put_at x) → deeds who new ≡ deeds who old
    which give_up_at.GiveUp e by taken = deeds-same who tt (steps-planned e by)
    which (give_up_at.Unhold u) e by taken = same (kept (unholds.put u) (unhold-only u step e) taken by)
    which (give_up_at.Unlock u) e by taken = same (kept (unlocks.put u) (unlock-only u step e) taken by)
    which give_up_at.Over e by taken = absurd (none-some step e)

-- ---- each step of a frame that is taken out of use

abbrev NotGiven : SoftAt → Type 0
NotGiven x = is_given_up x ≡ false

module _ (s : Soft) where
  stop-goes : (found : ℕ) → NotGiven (softs.after_stop s.who s.frame found)
  stop-goes found = which (is_stopped found)
    where
      which : (b : Bool) → NotGiven (cond b (at.Over soft_answers.Stopped) (at.Seize (seizes.begin s.who s.frame)))
      which true = refl
      which false = refl

  seize-goes : (t : Seize) → NotGiven (softs.after_seize s.who s.frame t)
  seize-goes t = which (seizes.answer t)
    where
      owned : (page : Page) (x : SeizeAt) → NotGiven (softs.owned_by t page x)
      owned page (seize_at.Owned own body) = refl
      owned page _ = refl

      which : (o : Option SeizeAnswer) → NotGiven (softs.after_seize_by s.who s.frame t o)
      which None = refl
      which (Some seize_answers.Kernel) = refl
      which (Some seize_answers.Already) = refl
      which (Some seize_answers.Grabbed) = refl
      which (Some seize_answers.Free) = refl
      which (Some (seize_answers.Owned page)) = owned page t.at

  discard-goes : (d : Discard) → NotGiven (softs.after_discard d)
  discard-goes d = which (discards.answer d)
    where
      which : (o : Option (Option ℕ)) → NotGiven (softs.after_discard_by d o)
      which None = refl
      which (Some None) = refl
      which (Some (Some cycle)) = refl

  take-goes : (page : Page) (body : BodyValue) (t : Take) → NotGiven (softs.after_take s.who s.frame page body t)
  take-goes page body t = which (takes.answer t)
    where
      which : (o : Option TakeAnswer) → NotGiven (softs.after_take_by s.who s.frame page body t o)
      which None = refl
      which (Some (take_answers.Taken to)) = refl
      which (Some take_answers.NoFrame) = refl

  poison-goes : (page : Page) (body : BodyValue) (to : Frame) (found : ℕ) (x : SoftAt) → softs.AfterPoison s.who s.frame page body to found x → NotGiven x
  poison-goes page body to found x = which (is_poisoned found)
    where
      which : (b : Bool) → MatchBool b (x ≡ at.UnlockSpare page body to) (softs.Moves s.who s.frame page body to (cycle_of found) x) → NotGiven x
      which true is = ap is_given_up is
      which false is = ap is_given_up is.next_is

  release-goes : (page : Page) (body : BodyValue) (r : Release) → NotGiven (softs.after_release s.who s.frame page body r)
  release-goes page body r = which (is_none (releases.plan r))
    where
      which : (b : Bool) → NotGiven (cond b (softs.let_go s.who s.frame page body soft_answers.Already) (at.ReleaseSpare page body r))
      which true = refl
      which false = refl

  relocate-goes : (r : Relocate) (answer : SoftAnswer) → NotGiven (softs.after_relocate r answer)
  relocate-goes r answer = which (is_none (relocations.plan r))
    where
      which : (b : Bool) → NotGiven (cond b (at.Over answer) (at.Relocate r answer))
      which true = refl
      which false = refl

  unhold-goes : (u : Unhold) (answer : SoftAnswer) → NotGiven (softs.after_unhold u answer)
  unhold-goes u answer = which (is_none (unholds.plan u))
    where
      which : (b : Bool) → NotGiven (cond b (at.Over answer) (at.Unhold u answer))
      which true = refl
      which false = refl

  -- a step leads to giving up only from the look at the frame's bad lines, or where it gives up already
  goes-on : (x : SoftAt) (found : ℕ) (got : Option BodyValue) (layout : Layout) (y : SoftAt) (turn : Turn) → ((page : Page) (body : BodyValue) → x ≡ at.LoadBad page body → ⊥) → is_given_up x ≡ false → softs.FollowsAt layout s.who s.frame (softs.bare_at x) found got y turn → NotGiven y
  goes-on at.LoadStop found got layout y turn apart on next = ap is_given_up next.0 ∙ stop-goes found
  goes-on (at.Seize t) found got layout y turn apart on next = ap is_given_up next.0 ∙ seize-goes (seizes.next (seizes.bare t) found got)
  goes-on (at.Discard d) found got layout y turn apart on next = ap is_given_up next.0 ∙ discard-goes (discards.next (discards.bare d) found)
  goes-on (at.LoadBad page body) found got layout y turn apart on next = absurd (apart page body refl)
  goes-on (at.Take page body t) found got layout y turn apart on next = ap is_given_up next.0 ∙ take-goes page body (takes.next layout t found)
  goes-on (at.Poison page body to) found got layout y turn apart on next = poison-goes page body to found y next.0
  goes-on (at.UnlockSpare page body to) found got layout y turn apart on next = ap is_given_up next.0
  goes-on (at.ReleaseSpare page body r) found got layout y turn apart on next = ap is_given_up next.0 ∙ release-goes page body (releases.next r found)
  goes-on (at.Relocate r answer) found got layout y turn apart on next = ap is_given_up next.next_is ∙ relocate-goes next.after answer
  goes-on (at.Unhold u answer) found got layout y turn apart on next = ap is_given_up next.0 ∙ unhold-goes (unholds.next (unholds.bare u) found) answer
  goes-on (at.GiveUp g) found got layout y turn apart on next = absurd (both_ways true on refl)
  goes-on (at.Over answer) found got layout y turn apart on next = ap is_given_up next.0

-- the command's entries after each step
pub soft-beside : {base : List Made} (layout : Layout) (old new : View) (s : Soft) (step : Step) (found : ℕ) (got : Option BodyValue) → offline.FitsFrom base layout old s → softs.plan s ≡ Some step → Steps layout s.who step (logs (softs.put s)) old new found got
    → (after : Soft) (turn : Turn) → offline.FitsFrom base layout new after → softs.Follows layout (softs.bare s) found got after turn → AddsBeside s.who old new
soft-beside {base} layout old new s step found got fits is made after turn now follows = which s.at refl fits.at is made
  where
    own : after.who ≡ s.who
    own = ap (λ (x : Soft). x.who) follows.0

    onward : (x : SoftAt) → s.at ≡ x → ((page : Page) (body : BodyValue) → x ≡ at.LoadBad page body → ⊥) → is_given_up x ≡ false → AddsBeside s.who old new
    onward x same apart on = between made (made-at layout s.frame s.at (ap is_given_up same ∙ on) fits.at)
        (subst (HasAtMost base new) own (made-at layout after.frame after.at (goes-on s s.at found got layout after.at turn (λ page body is. apart page body (sym same ∙ is)) (ap is_given_up same ∙ on) follows.1) now.at))

    which : (x : SoftAt) → s.at ≡ x → offline.FitsAt base layout old s.who s.frame x → softs.plan_at s.frame x ≡ Some step → Steps layout s.who step (logs (softs.put_at x)) old new found got → AddsBeside s.who old new
    which (at.LoadBad page body) same has e by = record { adds = inl (deeds-same s.who tt (steps-planned e by)) }
    which (at.GiveUp g) same has e by = record { adds = inl (give-up-none g has e by) }
    which at.LoadStop same has e by = onward at.LoadStop same (λ p b is. both_ways (is_bad at.LoadStop) refl (ap is_bad is)) refl
    which (at.Seize t) same has e by = onward (at.Seize t) same (λ p b is. both_ways (is_bad (at.Seize t)) refl (ap is_bad is)) refl
    which (at.Discard d) same has e by = onward (at.Discard d) same (λ p b is. both_ways (is_bad (at.Discard d)) refl (ap is_bad is)) refl
    which (at.Take page body t) same has e by = onward (at.Take page body t) same (λ p b is. both_ways (is_bad (at.Take page body t)) refl (ap is_bad is)) refl
    which (at.Poison page body to) same has e by = onward (at.Poison page body to) same (λ p b is. both_ways (is_bad (at.Poison page body to)) refl (ap is_bad is)) refl
    which (at.UnlockSpare page body to) same has e by = onward (at.UnlockSpare page body to) same (λ p b is. both_ways (is_bad (at.UnlockSpare page body to)) refl (ap is_bad is)) refl
    which (at.ReleaseSpare page body r) same has e by = onward (at.ReleaseSpare page body r) same (λ p b is. both_ways (is_bad (at.ReleaseSpare page body r)) refl (ap is_bad is)) refl
    which (at.Relocate r answer) same has e by = onward (at.Relocate r answer) same (λ p b is. both_ways (is_bad (at.Relocate r answer)) refl (ap is_bad is)) refl
    which (at.Unhold u answer) same has e by = onward (at.Unhold u answer) same (λ p b is. both_ways (is_bad (at.Unhold u answer)) refl (ap is_bad is)) refl
    which (at.Over answer) same has e by = absurd (none-some step e)

-- ---- its own task, which has its answer

module _ {layout : Layout} {who : Who} {step : Step} {put : Option Log} {old new : View} {found : ℕ} {got : Option BodyValue} (made : Steps layout who step put old new found got) (adds : AddsBeside who old new) where
  saws : (place : SharedWord) (word : ℕ) → Saw old who place word → Saw new who place word
  saws place word saw = saw-stays made saw

  stopped-stays : (command : Command) → FoundStopped layout old who command → FoundStopped layout new who command
  stopped-stays command has = record { stopped = which has.stopped; only = met-beside layout command adds has.only }
    where
      which : SawStop old who ⊎ SomeMember (λ (w : Who). w ≡ who) old.stops → SawStop new who ⊎ SomeMember (λ (w : Who). w ≡ who) new.stops
      which (inl saw) = inl (record { word = saw.word; stopped = saw.stopped; saw = saw-stays made saw.saw })
      which (inr own) = inr (subst (λ (v : View). SomeMember (λ (w : Who). w ≡ who) v.stops) (sym made.told.next) ((stops-by layout who step found (content_of layout who step put found got) (noted who old)).stops (λ (w : Who). w ≡ who) own))

  process-stays : (thread : Thread) (word : ℕ) → SawProcess layout old who thread word → SawProcess layout new who thread word
  process-stays thread word has = record { process = has.process; process_is = has.process_is; saw = saw-stays made has.saw }

  raised-stays : (command : Command) (told : List EventOutcome) (n : ℕ) → WasRaised layout old who command told n → WasRaised layout new who command told n
  raised-stays command told n has = record { count = has.count; only = met-beside layout command adds has.only }

  acted-stays : (thread : Option Thread) (how : Arrival) (banks : Banks) (lines : List EventOutcome) → IsActedOn layout old who thread how banks lines → IsActedOn layout new who thread how banks lines
  acted-stays thread how banks lines has = record { events = has.events; told = told-stays layout who thread (any-stay made) (has_stop how banks) lines has.told }

  raise-stays : (thread : Option Thread) (how : Arrival) (answer : Answer) (before : Banks) (told : List EventOutcome) (after : Banks) → IsRaiseTold layout old who thread how answer before told after → IsRaiseTold layout new who thread how answer before told after
  raise-stays thread how answer before told after = which (is_raised answer told)
    where
      which : (b : Bool) → MatchBool b (IsActedOn layout old who thread how before told × (after ≡ empty_banks)) ((told ≡ []) × (after ≡ before)) → MatchBool b (IsActedOn layout new who thread how before told × (after ≡ empty_banks)) ((told ≡ []) × (after ≡ before))
      which true has = (acted-stays thread how before told has.0, has.1)
      which false has = has

  scrubbed-stays : (first last : Frame) (before : Banks) (told : List EventOutcome) (after : Banks) → HasScrubbed layout old who first last before told after → HasScrubbed layout new who first last before told after
  scrubbed-stays first last before told after has = record { visits = has.visits; visited = visits-stay layout who (any-stay made) saws first.0 before has.visits has.visited; all = has.all; told_is = has.told_is; after_is = has.after_is }

  cut-stays : (first last : Frame) (before : Banks) (told : List EventOutcome) (after : Banks) → IsCutShort layout old who first last before told after → IsCutShort layout new who first last before told after
  cut-stays first last before told after has = record {
    visits = has.visits;
    visited = visits-stay layout who (any-stay made) saws first.0 before has.visits has.visited;
    inside = has.inside;
    bad = has.bad;
    found = bad-stays layout who (any-stay made) saws (record { 0 = first.0 + length has.visits }) (scrubs.left_by before has.visits) has.bad has.found;
    told_is = has.told_is;
    after_is = has.after_is;
  }

  scrub-stays : (first last : Frame) (answer : Answer) (before : Banks) (told : List EventOutcome) (after : Banks) → IsScrubTold layout old who first last answer before told after → IsScrubTold layout new who first last answer before told after
  scrub-stays first last (answers.Scrubbed n) before told after has = scrubbed-stays first last before told after has
  scrub-stays first last answers.Stopped before told after (inl none) = inl none
  scrub-stays first last answers.Stopped before told after (inr cut) = inr (cut-stays first last before told after cut)
  scrub-stays first last _ before told after (inl none) = inl none
  scrub-stays first last _ before told after (inr cut) = inr (cut-stays first last before told after cut)

  -- of a command that can be answered with frames due; one that told events saw its process going on
  user-stays : (earlier : List (Command × Answer)) (thread : Thread) (ripv eipv : Bool) (told : List EventOutcome) (own : Option FrameChange) (answer : Answer) → (told ≡ [] → ⊥) → ((page : Page) → answer ≡ answers.Gone page → told ≡ [])
      → IsAnswerCaused layout earlier old who (commands.RaiseUser thread ripv eipv) told own answer → IsAnswerCaused layout earlier new who (commands.RaiseUser thread ripv eipv) told own answer
  user-stays earlier thread ripv eipv told own answers.Stopped some gone has = stopped-stays (commands.RaiseUser thread ripv eipv) has
  user-stays earlier thread ripv eipv told own (answers.Raised n) some gone has = (process-stays thread 0 has.0, raised-stays (commands.RaiseUser thread ripv eipv) told n has.1)
  user-stays earlier thread ripv eipv told own (answers.Gone page) some gone has = absurd (some (gone page refl))
  user-stays earlier thread ripv eipv told own (answers.Sigbus at) some gone (inl none) = absurd none
  user-stays earlier thread ripv eipv told own (answers.Sigbus at) some gone (inr none) = absurd none
  user-stays earlier thread ripv eipv told own answers.GuestBad some gone has = absurd has.1
  user-stays earlier thread ripv eipv told own answers.GuestStopped some gone has = absurd has.1
  user-stays earlier thread ripv eipv told own _ some gone has = absurd has

  kernel-stays : (earlier : List (Command × Answer)) (ripv eipv : Bool) (told : List EventOutcome) (own : Option FrameChange) (answer : Answer)
      → IsAnswerCaused layout earlier old who (commands.RaiseKernel ripv eipv) told own answer → IsAnswerCaused layout earlier new who (commands.RaiseKernel ripv eipv) told own answer
  kernel-stays earlier ripv eipv told own answers.Stopped has = stopped-stays (commands.RaiseKernel ripv eipv) has
  kernel-stays earlier ripv eipv told own (answers.Raised n) has = raised-stays (commands.RaiseKernel ripv eipv) told n has
  kernel-stays earlier ripv eipv told own (answers.Sigbus at) (inl none) = absurd none
  kernel-stays earlier ripv eipv told own (answers.Sigbus at) (inr none) = absurd none
  kernel-stays earlier ripv eipv told own answers.GuestBad has = absurd has.1
  kernel-stays earlier ripv eipv told own answers.GuestStopped has = absurd has.1
  kernel-stays earlier ripv eipv told own _ has = absurd has

  visits-caused : (earlier : List (Command × Answer)) (first last : Frame) (told : List EventOutcome) (own : Option FrameChange) (answer : Answer)
      → IsAnswerCaused layout earlier old who (commands.Scrub first last) told own answer → IsAnswerCaused layout earlier new who (commands.Scrub first last) told own answer
  visits-caused earlier first last told own answers.Stopped has = stopped-stays (commands.Scrub first last) has
  visits-caused earlier first last told own (answers.Scrubbed n) has = raised-stays (commands.Scrub first last) told n has
  visits-caused earlier first last told own (answers.Sigbus at) (inl none) = absurd none
  visits-caused earlier first last told own (answers.Sigbus at) (inr none) = absurd none
  visits-caused earlier first last told own answers.GuestBad has = absurd has.1
  visits-caused earlier first last told own answers.GuestStopped has = absurd has.1
  visits-caused earlier first last told own _ has = absurd has

  -- a machine check is not told of where the process had ended
  untold : (thread : Option Thread) (how : Arrival) (answer : Answer) (before : Banks) (told : List EventOutcome) (after : Banks) → IsRaiseTold layout old who thread how answer before told after → (page : Page) → answer ≡ answers.Gone page → told ≡ []
  untold thread how answer before told after has page is = (subst (λ (a : Answer). IsRaiseTold layout old who thread how a before told after) is has).0

  -- none of these copies
  pub own-stays : (earlier : List (Command × Answer)) (command : Command) (j : Job) (a : Answer) (kept : Banks) → CanCollect command → (told_of j ≡ [] → ⊥) → IsOwnServed layout earlier None old who command j a kept → IsOwnServed layout earlier None new who command j a kept
  own-stays earlier (commands.RaiseUser thread ripv eipv) j a kept can some has = record {
    caused = user-stays earlier thread ripv eipv (told_of j) (own_of j) a some (untold (Some thread) (arrival_of (commands.RaiseUser thread ripv eipv)) a (banks_before j kept) (told_of j) (banks_after j kept) has.told) has.caused;
    told = raise-stays (Some thread) (arrival_of (commands.RaiseUser thread ripv eipv)) a (banks_before j kept) (told_of j) (banks_after j kept) has.told;
    heeded = has.heeded;
  }
  own-stays earlier (commands.RaiseKernel ripv eipv) j a kept can some has = record {
    caused = kernel-stays earlier ripv eipv (told_of j) (own_of j) a has.caused;
    told = raise-stays None (arrival_of (commands.RaiseKernel ripv eipv)) a (banks_before j kept) (told_of j) (banks_after j kept) has.told;
    heeded = has.heeded;
  }
  own-stays earlier (commands.Scrub first last) j a kept can some has = record {
    caused = visits-caused earlier first last (told_of j) (own_of j) a has.caused;
    told = scrub-stays first last a (banks_before j kept) (told_of j) (banks_after j kept) has.told;
    heeded = has.heeded;
  }
  own-stays earlier command j a kept can some has = absurd can

-- ---- what came of the frames before

module _ {layout : Layout} {by : Who} {step : Step} {put : Option Log} {old new : View} {found : ℕ} {got : Option BodyValue} (made : Steps layout by step put old new found got) where
  came-stays : (who : Who) (frame : Frame) (change : Option FrameChange) (result : OfflineResult) → IsOfflineServed layout old who frame change result → IsOfflineServed layout new who frame change result
  came-stays who frame change (results.Moved other at) has = (has.0, has.1, (has.2.0, free-stays made has.2.1))
  came-stays who frame change results.TakenFree has = has
  came-stays who frame change results.Already has = (has.0, record { word = has.1.word; poisoned = has.1.poisoned; saw = saw-stays made has.1.saw }, has.2)
  came-stays who frame change (results.HasBad mask) has = (has.0, record { page = has.1.page; some = has.1.some; saw = saw-bad-of-stays made has.1.page has.1.saw }, has.2)
  came-stays who frame change results.NoFrame has = (has.0, saw-stays made has.1, has.2)
  came-stays who frame change results.Stopped has = (record { word = has.0.word; stopped = has.0.stopped; saw = saw-stays made has.0.saw }, has.1)

  pub offlinings-stay : (who : Who) (offlined : List Offlining) → EachMember (IsOffliningServed layout old who) offlined → EachMember (IsOffliningServed layout new who) offlined
  offlinings-stay who offlined each i o there = record { came = came-stays who o.frame o.change o.result (each i o there).came; running = still (each i o there).running }
    where
      still : (o.result ≡ results.Stopped) ⊎ SawRunning old who → (o.result ≡ results.Stopped) ⊎ SawRunning new who
      still (inl stopped) = inl stopped
      still (inr saw) = inr (saw-running-stays made saw)
