-- Steps that set no policy, neither mark nor count a frame, damage no line and don't stop the machine leave what a view lists of
-- these.
use Rattle.std.proofs.Common.{◌≡◌, ℕ, ◌==◌, Bool, true, false, cond, Option, Some, None, refl, ap, ◌∙◌}
use Rattle.hwp_core.specs.hwp_geom.declared.Frame.{Frame}
use Rattle.hwp_core.specs.hwp_geom.declared.Layout.{Layout}
use Rattle.hwp_core.specs.hwp_geom.declared.Page.{Page}
use Rattle.hwp_core.specs.hwp_geom.declared.VSlot.{VSlot}
use Rattle.hwp_core.specs.hwp_geom.declared.Who.{Who}
use Rattle.hwp_core.specs.hwp_page.History.{BodyValue}
use Rattle.hwp_core.specs.hwp_core_rule.declared.InHand.{InHand}
use Rattle.hwp_core.specs.hwp_core_rule.declared.Log.{Log}
use Rattle.hwp_core.specs.hwp_core_rule.declared.SharedWord.{SharedWord}
use Rattle.hwp_core.specs.hwp_core_rule.declared.SharedWord.TheVariants as places
use Rattle.hwp_core.specs.hwp_core_rule.declared.Step.{Step}
use Rattle.hwp_core.specs.hwp_core_rule.declared.Step.TheVariants as steps
use Rattle.hwp_core.specs.hwp_core_rule.declared.View.{View}
use Rattle.hwp_core.specs.hwp_core_rule.Logs.{log_of}
use Rattle.hwp_core.specs.hwp_core_rule.Steps.{goes}
use Rattle.hwp_core.specs.hwp_core_rule.Views.{body_of, listed_of, loaded, noted, put_home, taken, view_by}
use Rattle.hwp_core.specs.hwp_core_rule.Calls.{Steps}
use Rattle.hwp_core.proofs.of_hwp_core_rule.tasks.StepLeaves.{content_of}
use Rattle.hwp_core.specs.declared.give_up.GiveUpAt.{GiveUpAt}
use Rattle.hwp_core.specs.declared.give_up.GiveUpAt.TheVariants as give_up_at
use Rattle.hwp_core.specs.declared.release.ReleaseAt.{ReleaseAt}
use Rattle.hwp_core.specs.declared.release.ReleaseAt.TheVariants as release_at
use Rattle.hwp_core.specs.declared.unhold.UnholdAt.{UnholdAt}
use Rattle.hwp_core.specs.declared.unhold.UnholdAt.TheVariants as unhold_at
use Rattle.hwp_core.specs.declared.unlock.UnlockAt.{UnlockAt}
use Rattle.hwp_core.specs.declared.unlock.UnlockAt.TheVariants as unlock_at
use Rattle.hwp_core.specs.GiveUps as give_ups
use Rattle.hwp_core.specs.Releases as releases
use Rattle.hwp_core.specs.Unholds as unholds
use Rattle.hwp_core.specs.Unlocks as unlocks
use Rattle.hwp_core.specs.Clears as clears
use Rattle.hwp_claim_frame.specs.Done.{counts_owed}

-- the step sets no policy, neither marks nor counts a frame, damages no line and doesn't stop the machine
abbrev pub IsQuiet : Step → Type 0
IsQuiet (steps.Stop cpu) = ⊥
IsQuiet (steps.SetPolicy thread policy settings) = ⊥
IsQuiet (steps.Poison frame hardware) = ⊥
IsQuiet (steps.Revive frame seen) = ⊥
IsQuiet (steps.CountPoison hardware) = ⊥
IsQuiet steps.Uncount = ⊥
IsQuiet (steps.Spoil frame line damage) = ⊥
IsQuiet step = Unit {0}

abbrev pub PlansQuiet : Option Step → Type 0
PlansQuiet None = Unit {0}
PlansQuiet (Some step) = IsQuiet step

-- ---- what such a step leaves

pub record Alike (v x : View) : Type 0 where
  pub settings : x.settings ≡ v.settings
  pub stops : x.stops ≡ v.stops
  pub marks : x.marks ≡ v.marks
  pub owed : counts_owed x ≡ counts_owed v
  pub spoiled : x.spoiled ≡ v.spoiled

same : (v : View) → Alike v v
same v = record { settings = refl; stops = refl; marks = refl; owed = refl; spoiled = refl }

either : (b : Bool) (v x y : View) → Alike v x → Alike v y → Alike v (cond b x y)
either true v x y g h = g
either false v x y g h = h

loads : (who : Who) (place : SharedWord) (found : ℕ) (v : View) → Alike v (loaded who place found v)
loads who (places.Cache page) found v = record { settings = refl; stops = refl; marks = refl; owed = refl; spoiled = refl }
loads who _ found v = record { settings = refl; stops = refl; marks = refl; owed = refl; spoiled = refl }

takes-alike : (layout : Layout) (who : Who) (frame : Option Frame) (content : Option Log) (v x : View) → Alike v x → Alike v (taken layout who frame content x)
takes-alike layout who frame None v x is = is
takes-alike layout who frame (Some log) v x is = record { settings = is.settings; stops = is.stops; marks = is.marks; owed = is.owed; spoiled = is.spoiled }

lists-alike : (layout : Layout) (who : Who) (log : Log) (body : Option InHand) (v : View) → Alike v (listed_of layout who log body v)
lists-alike layout who log None v = same v
lists-alike layout who log (Some body) v = record { settings = refl; stops = refl; marks = refl; owed = refl; spoiled = refl }

puts-alike : (layout : Layout) (who : Who) (content : Option Log) (v : View) → Alike v (put_home layout who content v)
puts-alike layout who None v = same v
puts-alike layout who (Some log) v = let is = lists-alike layout who log (body_of log.page v) v in record { settings = is.settings; stops = is.stops; marks = is.marks; owed = is.owed; spoiled = is.spoiled }

by-quiet : (layout : Layout) (who : Who) (step : Step) (found : ℕ) (content : Option Log) (v : View) → IsQuiet step → Alike v (view_by layout who step found content v)
by-quiet layout who (steps.Load place) found content v quiet = loads who place found v
by-quiet layout who (steps.Reserve seen) found content v quiet = either (found == seen) v _ _ (record { settings = refl; stops = refl; marks = refl; owed = refl; spoiled = refl }) (record { settings = refl; stops = refl; marks = refl; owed = refl; spoiled = refl })
by-quiet layout who (steps.TakeBit frame) found content v quiet = either (goes (steps.TakeBit frame) found) v _ _ (record { settings = refl; stops = refl; marks = refl; owed = refl; spoiled = refl }) (record { settings = refl; stops = refl; marks = refl; owed = refl; spoiled = refl })
by-quiet layout who (steps.GetRef frame seen count) found content v quiet = either (found == seen) v _ _ (record { settings = refl; stops = refl; marks = refl; owed = refl; spoiled = refl }) (record { settings = refl; stops = refl; marks = refl; owed = refl; spoiled = refl })
by-quiet layout who (steps.LockFrame frame) found content v quiet = either (goes (steps.LockFrame frame) found) v _ _ (takes-alike layout who (Some frame) content v _ (record { settings = refl; stops = refl; marks = refl; owed = refl; spoiled = refl })) (same v)
by-quiet layout who (steps.UnlockFrame frame) found content v quiet = let is = puts-alike layout who content v in record { settings = is.settings; stops = is.stops; marks = is.marks; owed = is.owed; spoiled = is.spoiled }
by-quiet layout who (steps.Revive frame seen) found content v quiet = absurd quiet
by-quiet layout who (steps.LockPage page) found content v quiet = either (goes (steps.LockPage page) found) v _ _ (takes-alike layout who None content v _ (record { settings = refl; stops = refl; marks = refl; owed = refl; spoiled = refl })) (same v)
by-quiet layout who (steps.UnlockPage page) found content v quiet = let is = puts-alike layout who content v in record { settings = is.settings; stops = is.stops; marks = is.marks; owed = is.owed; spoiled = is.spoiled }
by-quiet layout who (steps.Poison frame hardware) found content v quiet = absurd quiet
by-quiet layout who (steps.Stop cpu) found content v quiet = absurd quiet
by-quiet layout who (steps.Kill process page body) found content v quiet =
    let is = lists-alike layout who (log_of body.value) (body_of body.value.page v) v in
    either (found == 0) v _ _ (record { settings = is.settings; stops = is.stops; marks = is.marks; owed = is.owed; spoiled = is.spoiled }) (record { settings = is.settings; stops = is.stops; marks = is.marks; owed = is.owed; spoiled = is.spoiled })
by-quiet layout who (steps.SetPolicy thread policy settings) found content v quiet = absurd quiet
by-quiet layout who (steps.CountPoison hardware) found content v quiet = absurd quiet
by-quiet layout who steps.Uncount found content v quiet = absurd quiet
by-quiet layout who (steps.Spoil frame line damage) found content v quiet = absurd quiet
by-quiet layout who (steps.Lose file body) found content v quiet =
    let is = lists-alike layout who (log_of body.value) (body_of body.value.page v) v in record { settings = is.settings; stops = is.stops; marks = is.marks; owed = is.owed; spoiled = is.spoiled }
by-quiet layout who _ found content v quiet = record { settings = refl; stops = refl; marks = refl; owed = refl; spoiled = refl }

-- what a view lists after such a step
pub leaves : {layout : Layout} {who : Who} {step : Step} {put : Option Log} {old new : View} {found : ℕ} {got : Option BodyValue} → Steps layout who step put old new found got → IsQuiet step → Alike old new
leaves {layout} {who} {step} {put} {old} {new} {found} {got} made quiet =
    let is = by-quiet layout who step found (content_of layout who step put found got) (noted who old) quiet in
    record {
      settings = ap (λ (v : View). v.settings) made.told.next ∙ is.settings;
      stops = ap (λ (v : View). v.stops) made.told.next ∙ is.stops;
      marks = ap (λ (v : View). v.marks) made.told.next ∙ is.marks;
      owed = ap counts_owed made.told.next ∙ is.owed;
      spoiled = ap (λ (v : View). v.spoiled) made.told.next ∙ is.spoiled;
    }

-- ---- what makes only such steps

pub release : (frame : Frame) (count : ℕ) (x : ReleaseAt) → PlansQuiet (releases.plan_at frame count x)
release frame count release_at.Put = tt
release frame count (release_at.Give word) = tt
release frame count (release_at.Unreserve word) = tt
release frame count (release_at.Adopt word) = tt
release frame count (release_at.Retire word) = tt
release frame count (release_at.Back word) = tt

pub unlock : (x : UnlockAt) → PlansQuiet (unlocks.plan_at x)
unlock (unlock_at.UnlockFrame frame body) = tt
unlock (unlock_at.Release r) = release r.frame r.count r.at
unlock unlock_at.Over = tt

pub unhold : (page : Page) (x : UnholdAt) → PlansQuiet (unholds.plan_at page x)
unhold page (unhold_at.UnlockFrame frame count body) = tt
unhold page (unhold_at.Release r) = release r.frame r.count r.at
unhold page (unhold_at.UnlockPage body) = tt
unhold page unhold_at.Over = tt

pub give-up : (x : GiveUpAt) → PlansQuiet (give_ups.plan_at x)
give-up (give_up_at.Unhold u) = unhold u.page u.at
give-up (give_up_at.Unlock u) = unlock u.at
give-up give_up_at.GiveUp = tt
give-up give_up_at.Over = tt

pub clear : (barred : Bool) (next : Option VSlot) → PlansQuiet (clears.plan_at barred next)
clear barred None = tt
clear barred (Some slot) = tt
