-- What a processor's steps leave: the entries that it made, its marks, and what it owes.
use Rattle.std.proofs.Common.{◌≡◌, ℕ, ◌==◌, Bool, true, false, cond, List, [], ◌++◌, Option, Some, None, length, append-nil, refl, ap, ◌∙◌, subst}
use Rattle.std.proofs.lemmas.Option.{none-some, same_Some}
use Rattle.hwp_core.specs.hwp_geom.declared.Frame.{Frame}
use Rattle.hwp_core.specs.hwp_geom.declared.Layout.{Layout}
use Rattle.hwp_core.specs.hwp_geom.declared.Who.{Who}
use Rattle.hwp_core.specs.hwp_page.declared.Entry.{Entry}
use Rattle.hwp_core.specs.hwp_page.History.{BodyValue}
use Rattle.hwp_core.specs.hwp_core_rule.declared.Debts.{Debts}
use Rattle.hwp_core.specs.hwp_core_rule.declared.InHand.{InHand}
use Rattle.hwp_core.specs.hwp_core_rule.declared.Log.{Log}
use Rattle.hwp_core.specs.hwp_core_rule.declared.Made.{Made}
use Rattle.hwp_core.specs.hwp_core_rule.declared.Mark.{Mark}
use Rattle.hwp_core.specs.hwp_core_rule.declared.SharedWord.{SharedWord}
use Rattle.hwp_core.specs.hwp_core_rule.declared.SharedWord.TheVariants as places
use Rattle.hwp_core.specs.hwp_core_rule.declared.Step.{Step}
use Rattle.hwp_core.specs.hwp_core_rule.declared.Step.TheVariants as steps
use Rattle.hwp_core.specs.hwp_core_rule.declared.View.{View}
use Rattle.hwp_core.specs.hwp_core_rule.Logs.{log_of}
use Rattle.hwp_core.specs.hwp_core_rule.Steps.{goes}
use Rattle.hwp_core.specs.hwp_core_rule.Views.{listed_of, loaded, losses_made, made_from, noted, put_home, stamp_of, taken, view_by}
use Rattle.hwp_core.specs.hwp_core_rule.Calls.{Steps, logs}
use Rattle.hwp_core.proofs.of_hwp_core_rule.tasks.StepLeaves.{content_of}
use Rattle.hwp_core.specs.declared.release.Release.{Release}
use Rattle.hwp_core.specs.declared.release.ReleaseAt.{ReleaseAt}
use Rattle.hwp_core.specs.declared.release.ReleaseAt.TheVariants as release_at
use Rattle.hwp_core.specs.declared.unlock.Unlock.{Unlock}
use Rattle.hwp_core.specs.declared.unlock.UnlockAt.{UnlockAt}
use Rattle.hwp_core.specs.declared.unlock.UnlockAt.TheVariants as unlock_at
use Rattle.hwp_core.specs.Releases as releases
use Rattle.hwp_core.specs.Unlocks as unlocks
use Rattle.hwp_claim_frame.specs.declared.grab.Grab.{Grab}
use Rattle.hwp_claim_frame.specs.declared.grab.GrabAt.{GrabAt}
use Rattle.hwp_claim_frame.specs.declared.grab.GrabAt.TheVariants as grab_at
use Rattle.hwp_claim_frame.specs.declared.meet.Meet.{Meet}
use Rattle.hwp_claim_frame.specs.declared.meet.MeetAt.{MeetAt}
use Rattle.hwp_claim_frame.specs.declared.meet.MeetAt.TheVariants as meet_at
use Rattle.hwp_claim_frame.specs.Grabs as grabs
use Rattle.hwp_claim_frame.specs.Meets as meets
use Rattle.hwp_claim_frame.specs.Meets.{AsTaken}

pub record Account : Type 0 where
  pub made : List Made
  pub marks : List Mark
  pub owed : Debts

abbrev pub account_of : View → Account
account_of v = record { made = v.made; marks = v.marks; owed = v.owed }

-- a step that takes, or lets go, and does no more
abbrev pub OnlyHolds : Step → Type 0
OnlyHolds (steps.Load place) = Unit {0}
OnlyHolds (steps.Reserve seen) = Unit {0}
OnlyHolds (steps.TakeBit frame) = Unit {0}
OnlyHolds (steps.GiveBit frame) = Unit {0}
OnlyHolds steps.Unreserve = Unit {0}
OnlyHolds (steps.Adopt frame) = Unit {0}
OnlyHolds (steps.GetRef frame seen count) = Unit {0}
OnlyHolds (steps.PutRef frame count) = Unit {0}
OnlyHolds (steps.LockFrame frame) = Unit {0}
OnlyHolds (steps.UnlockFrame frame) = Unit {0}
OnlyHolds (steps.Retire frame) = Unit {0}
OnlyHolds (steps.LockPage page) = Unit {0}
OnlyHolds (steps.UnlockPage page) = Unit {0}
OnlyHolds step = ⊥

pub either : (b : Bool) (x y : View) (l : Account) → account_of x ≡ l → account_of y ≡ l → account_of (cond b x y) ≡ l
either true x y l one other = one
either false x y l one other = other

loads : (who : Who) (place : SharedWord) (found : ℕ) (v : View) → account_of (loaded who place found v) ≡ account_of v
loads who (places.Cache page) found v = refl
loads who _ found v = refl

takes : (layout : Layout) (who : Who) (frame : Option Frame) (content : Option Log) (v : View) → account_of (taken layout who frame content v) ≡ account_of v
takes layout who frame None v = refl
takes layout who frame (Some log) v = refl

-- a body that goes home as it was taken brings nothing
puts : (layout : Layout) (who : Who) (given : Option BodyValue) (v : View) → AsTaken v given → account_of (put_home layout who (logs given) v) ≡ account_of v
puts layout who None v as_taken = refl
puts layout who (Some b) v as_taken = let x = as_taken b refl in
    ap (λ (i : Option InHand). account_of (listed_of layout who (log_of b) i v)) x.1
    ∙ ap (λ (more : List Entry). record { made = v.made ++ made_from (stamp_of who v) b.page x.0.frame (length x.0.log.entries) more; marks = v.marks; owed = record v.owed { losses = v.owed.losses ++ losses_made layout b.page more } }) x.2
    ∙ ap (λ (l : List Made). record { made = l; marks = v.marks; owed = record v.owed { losses = v.owed.losses ++ [] } }) (append-nil v.made)
    ∙ ap (λ (l : List _). record (account_of v) { owed = record v.owed { losses = l } }) (append-nil v.owed.losses)

by-kind : (layout : Layout) (who : Who) (step : Step) (found : ℕ) (content : Option Log) (v : View) → OnlyHolds step → ((frame : Frame) → step ≡ steps.UnlockFrame frame → account_of (put_home layout who content v) ≡ account_of v)
    → ((page : _) → step ≡ steps.UnlockPage page → account_of (put_home layout who content v) ≡ account_of v) → account_of (view_by layout who step found content v) ≡ account_of v
by-kind layout who (steps.Load place) found content v only frees lets = loads who place found v
by-kind layout who (steps.Reserve seen) found content v only frees lets = either (found == seen) _ _ (account_of v) refl refl
by-kind layout who (steps.TakeBit frame) found content v only frees lets = either (goes (steps.TakeBit frame) found) _ _ (account_of v) refl refl
by-kind layout who (steps.GiveBit frame) found content v only frees lets = refl
by-kind layout who steps.Unreserve found content v only frees lets = refl
by-kind layout who (steps.Adopt frame) found content v only frees lets = refl
by-kind layout who (steps.GetRef frame seen count) found content v only frees lets = either (found == seen) _ _ (account_of v) refl refl
by-kind layout who (steps.PutRef frame count) found content v only frees lets = refl
by-kind layout who (steps.LockFrame frame) found content v only frees lets = either (goes (steps.LockFrame frame) found) _ _ (account_of v) (takes layout who (Some frame) content _) refl
by-kind layout who (steps.UnlockFrame frame) found content v only frees lets = frees frame refl
by-kind layout who (steps.Retire frame) found content v only frees lets = refl
by-kind layout who (steps.LockPage page) found content v only frees lets = either (goes (steps.LockPage page) found) _ _ (account_of v) (takes layout who None content _) refl
by-kind layout who (steps.UnlockPage page) found content v only frees lets = lets page refl
by-kind layout who step found content v only frees lets = absurd only

module _ {layout : Layout} {who : Who} {old new : View} {found : ℕ} {got : Option BodyValue} where
  -- a step that only takes and lets go, with a body as it was taken, leaves the account
  pub kept : {step : Step} (given : Option BodyValue) → OnlyHolds step → AsTaken old given → Steps layout who step (logs given) old new found got → account_of new ≡ account_of old
  kept {step} given only as_taken made = ap account_of made.told.next ∙ by-kind layout who step found (content_of layout who step (logs given) found got) (noted who old) only
      (λ frame is. ap (λ (s : Step). account_of (put_home layout who (content_of layout who s (logs given) found got) (noted who old))) is ∙ puts layout who given (noted who old) as_taken)
      (λ page is. ap (λ (s : Step). account_of (put_home layout who (content_of layout who s (logs given) found got) (noted who old))) is ∙ puts layout who given (noted who old) as_taken)

-- ---- the parts' steps

pub planned : {step other : Step} → Some other ≡ Some step → OnlyHolds other → OnlyHolds step
planned {step} {other} is only = subst OnlyHolds (same_Some other step is) only

pub grab-only : (g : Grab) (step : Step) → grabs.plan g ≡ Some step → OnlyHolds step
grab-only g step is = which g.at is
  where
    which : (x : GrabAt) → grabs.plan_at g.frame x ≡ Some step → OnlyHolds step
    which grab_at.LoadAvailable e = planned e tt
    which (grab_at.Reserve seen) e = planned e tt
    which grab_at.TakeBit e = planned e tt
    which grab_at.Unreserve e = planned e tt
    which grab_at.Adopt e = planned e tt
    which grab_at.LookAgain e = absurd (none-some step e)
    which (grab_at.Grabbed word) e = absurd (none-some step e)

pub release-only : (r : Release) (step : Step) → releases.plan r ≡ Some step → OnlyHolds step
release-only r step is = which r.at is
  where
    which : (x : ReleaseAt) → releases.plan_at r.frame r.count x ≡ Some step → OnlyHolds step
    which release_at.Put e = planned e tt
    which (release_at.Give word) e = planned e tt
    which (release_at.Unreserve word) e = planned e tt
    which (release_at.Adopt word) e = planned e tt
    which (release_at.Retire word) e = planned e tt
    which (release_at.Back word) e = absurd (none-some step e)

pub unlock-only : (u : Unlock) (step : Step) → unlocks.plan u ≡ Some step → OnlyHolds step
unlock-only u step is = which u.at is
  where
    which : (x : UnlockAt) → unlocks.plan_at x ≡ Some step → OnlyHolds step
    which (unlock_at.UnlockFrame frame body) e = planned e tt
    which (unlock_at.Release r) e = release-only r step e
    which unlock_at.Over e = absurd (none-some step e)

pub meet-only : (m : Meet) (step : Step) → meets.plan m ≡ Some step → OnlyHolds step
meet-only m step is = which m.at is
  where
    which : (x : MeetAt) → meets.plan_at m.frame x ≡ Some step → OnlyHolds step
    which (meet_at.GetRef seen) e = planned e tt
    which meet_at.LockFree e = planned e tt
    which (meet_at.LockPage page) e = planned e tt
    which (meet_at.LockOwned page shelf) e = planned e tt
    which (meet_at.Unlock body ended) e = planned e tt
    which (meet_at.UnlockFrame page shelf body ended) e = planned e tt
    which (meet_at.UnlockPage page shelf ended) e = planned e tt
    which (meet_at.Release r ended) e = release-only r step e
    which (meet_at.Back ended) e = absurd (none-some step e)
    which meet_at.Free e = absurd (none-some step e)
    which (meet_at.Owned page body) e = absurd (none-some step e)
