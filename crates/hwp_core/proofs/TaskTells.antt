-- The class of a task under way tells what is held: 1 where a frame is, and at most 2 where a page is.
use Rattle.std.proofs.Common.{◌≡◌, inl, inr, ℕ, ◌≤◌, min, true, false, [], Option, Some, None, is_none, refl, ap, ◌∙◌, arith}
use Rattle.std.proofs.lemmas.Bool.{both_ways}
use Rattle.hwp_core_rule.specs.hwp_geom.declared.Layout.{Layout}
use Rattle.hwp_core_rule.specs.hwp_page.History.{BodyValue}
use Rattle.hwp_core_rule.specs.declared.View.{View}
use Rattle.hwp_core_rule.specs.Calls.{logs}
use Rattle.hwp_core_rule.specs.Hands.{Hand, hand_of, empty}
use Rattle.hwp_core_rule.specs.Ranks.{HasFrame, HasPage}
use Rattle.hwp_core.specs.declared.give_up.GiveUp.{GiveUp}
use Rattle.hwp_core.specs.declared.give_up.GiveUpAt.{GiveUpAt}
use Rattle.hwp_core.specs.declared.give_up.GiveUpAt.TheVariants as give_up_at
use Rattle.hwp_core.specs.declared.hold.Hold.{Hold}
use Rattle.hwp_core.specs.declared.hold.HoldAt.{HoldAt}
use Rattle.hwp_core.specs.declared.hold.HoldAt.TheVariants as hold_at
use Rattle.hwp_core.specs.declared.release.Release.{Release}
use Rattle.hwp_core.specs.declared.release.ReleaseAt.{ReleaseAt}
use Rattle.hwp_core.specs.declared.release.ReleaseAt.TheVariants as release_at
use Rattle.hwp_core.specs.declared.unhold.Unhold.{Unhold}
use Rattle.hwp_core.specs.declared.unhold.UnholdAt.{UnholdAt}
use Rattle.hwp_core.specs.declared.unhold.UnholdAt.TheVariants as unhold_at
use Rattle.hwp_core.specs.declared.unlock.Unlock.{Unlock}
use Rattle.hwp_core.specs.declared.unlock.UnlockAt.{UnlockAt}
use Rattle.hwp_core.specs.declared.unlock.UnlockAt.TheVariants as unlock_at
use Rattle.hwp_core.specs.GiveUps as give_ups
use Rattle.hwp_core.specs.Holds as holds
use Rattle.hwp_core.specs.Releases as releases
use Rattle.hwp_core.specs.Unholds as unholds
use Rattle.hwp_core.specs.Unlocks as unlocks

-- a task of this class tells what is held
abbrev pub Tells : View → ℕ → Type 0
Tells view class = (HasFrame view → class ≡ 1) × (HasPage view → class ≤ 2)

module _ (view : View) {h : Hand} (is : hand_of view ≡ h) where
  -- no frame is held, and no page
  pub no-frame : h.locks ≡ [] → h.hands ≡ [] → h.reserved ≡ 0 → HasFrame view → ⊥
  no-frame locks hands reserved (inl some) = some (ap (λ (x : Hand). x.locks) is ∙ locks)
  no-frame locks hands reserved (inr (inl some)) = some (ap (λ (x : Hand). x.hands) is ∙ hands)
  no-frame locks hands reserved (inr (inr some)) = some (ap (λ (x : Hand). x.reserved) is ∙ reserved)

  pub no-page : h.pages ≡ [] → HasPage view → ⊥
  no-page pages some = some (ap (λ (x : Hand). x.pages) is ∙ pages)

  -- a page alone is held
  pub page-tells : (class : ℕ) → h.locks ≡ [] → h.hands ≡ [] → h.reserved ≡ 0 → class ≤ 2 → Tells view class
  page-tells class locks hands reserved few = ((λ some. absurd (no-frame locks hands reserved some)), (λ some. few))

-- nothing is held
pub empty-tells : (view : View) (class : ℕ) → hand_of view ≡ empty → Tells view class
empty-tells view class is = ((λ some. absurd (no-frame view is refl refl refl some)), (λ some. absurd (no-page view is refl some)))

-- a frame is held
pub frame-tells : (view : View) → Tells view 1
frame-tells view = ((λ some. refl), (λ some. omega arith))

pub hold-tells : (layout : Layout) (view : View) (h : Hold) → holds.Fits layout view h → is_none (holds.plan h) ≡ false → Tells view (holds.class h)
hold-tells layout view h fits on = which h.at fits.at on
  where
    locked : (body : Option BodyValue) (seen : ℕ) → hand_of view ≡ holds.locked layout h.page (logs body) seen → Tells view 2
    locked None seen is = page-tells view is 2 refl refl refl (omega arith)
    locked (Some body) seen is = page-tells view is 2 refl refl refl (omega arith)

    which : (x : HoldAt) → holds.FitsAt layout view h.who h.page x → is_none (holds.plan_at h.page x) ≡ false → Tells view (holds.class_at x)
    which hold_at.LockPage has on = empty-tells view 4 has
    which (hold_at.LoadCache body) has on = locked body has.0.seen has.0.hand_is
    which (hold_at.Pin p) has on = page-tells view has.hand_is 2 refl refl refl (omega arith)
    which (hold_at.LockFrame frame) has on = page-tells view has.0 2 refl refl refl (omega arith)
    which (hold_at.Held frame body) has on = absurd (both_ways true on refl)

pub unhold-tells : (layout : Layout) (view : View) (u : Unhold) → unholds.Fits layout view u → is_none (unholds.plan u) ≡ false → Tells view (unholds.class u)
unhold-tells layout view u fits on = which u.at fits.at on
  where
    by : (r : Release) (x : ReleaseAt) → hand_of view ≡ unholds.releasing u.page r.frame r.count x → Tells view (min (releases.class_at x) 2)
    by r release_at.Put is = page-tells view is 2 refl refl refl (omega arith)
    by r (release_at.Give word) is = frame-tells view
    by r (release_at.Unreserve word) is = frame-tells view
    by r (release_at.Adopt word) is = frame-tells view
    by r (release_at.Retire word) is = frame-tells view
    by r (release_at.Back word) is = page-tells view is 2 refl refl refl (omega arith)

    which : (x : UnholdAt) → unholds.FitsAt layout view u.who u.page x → is_none (unholds.plan_at u.page x) ≡ false → Tells view (unholds.class_at x)
    which (unhold_at.UnlockFrame frame count body) has on = frame-tells view
    which (unhold_at.Release r) has on = by r r.at has.hand_is
    which (unhold_at.UnlockPage None) has on = page-tells view has.hand_is 2 refl refl refl (omega arith)
    which (unhold_at.UnlockPage (Some body)) has on = page-tells view has.hand_is 2 refl refl refl (omega arith)
    which unhold_at.Over has on = absurd (both_ways true on refl)

pub unlock-tells : (layout : Layout) (view : View) (u : Unlock) → unlocks.Fits layout view u → is_none (unlocks.plan u) ≡ false → Tells view (unlocks.class u)
unlock-tells layout view u fits on = which u.at fits.at on
  where
    by : (r : Release) (x : ReleaseAt) → hand_of view ≡ unlocks.releasing r.frame x → Tells view (releases.class_at x)
    by r release_at.Put is = ((λ some. absurd (no-frame view is refl refl refl some)), (λ some. absurd (no-page view is refl some)))
    by r (release_at.Give word) is = frame-tells view
    by r (release_at.Unreserve word) is = frame-tells view
    by r (release_at.Adopt word) is = frame-tells view
    by r (release_at.Retire word) is = frame-tells view
    by r (release_at.Back word) is = empty-tells view 4 is

    which : (x : UnlockAt) → unlocks.FitsAt layout view u.who x → is_none (unlocks.plan_at x) ≡ false → Tells view (unlocks.class_at x)
    which (unlock_at.UnlockFrame frame body) has on = frame-tells view
    which (unlock_at.Release r) has on = by r r.at has.hand_is
    which unlock_at.Over has on = absurd (both_ways true on refl)

pub give-up-tells : (layout : Layout) (view : View) (g : GiveUp) → give_ups.Fits layout view g → is_none (give_ups.plan g) ≡ false → Tells view (give_ups.class g)
give-up-tells layout view g fits on = which g.at fits.at on
  where
    which : (x : GiveUpAt) → give_ups.FitsAt layout view g.who x → is_none (give_ups.plan_at x) ≡ false → Tells view (give_ups.class_at x)
    which (give_up_at.Unhold u) has on = unhold-tells layout view u has.unhold has.under_way
    which (give_up_at.Unlock u) has on = unlock-tells layout view u has.unlock has.under_way
    which give_up_at.GiveUp has on = empty-tells view 4 has
    which give_up_at.Over has on = absurd (both_ways true on refl)
