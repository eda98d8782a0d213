-- What a processor that held nothing holds while it takes a frame, turn by turn on a board.
use Rattle.std.proofs.Common.{◌≡◌, ℕ, ◌/◌, ◌==◌, Bool, true, false, cond, List, [], ◌∷◌, Option, Some, None, is_none, slice_get, refl, sym, ap, ◌∙◌, subst}
use Rattle.std.proofs.lemmas.Bool.{false≢true}
use Rattle.std.proofs.lemmas.Option.{get_or_from_slice_get}
use Rattle.hwp_core.specs.hwp_geom.declared.Kind.{Kind}
use Rattle.hwp_core.specs.hwp_geom.declared.Layout.{Layout}
use Rattle.hwp_core.specs.hwp_core_rule.declared.Rec.{Rec}
use Rattle.hwp_core.specs.hwp_core_rule.declared.State.{State}
use Rattle.hwp_core.specs.hwp_core_rule.declared.Step.{Step}
use Rattle.hwp_core.specs.hwp_core_rule.declared.View.{View}
use Rattle.hwp_core.specs.hwp_core_rule.Opening.{opening_view}
use Rattle.hwp_core.specs.hwp_core_rule.Rule.{Holds}
use Rattle.hwp_core.specs.hwp_core_rule.Views.{unpoisoned, view_after}
use Rattle.hwp_core.specs.hwp_words.Frames.{is_poisoned}
use Rattle.hwp_core.proofs.of_hwp_core_rule.Lists.{same-number, set_here}
use Rattle.hwp_core.specs.hwp_core_rule.declared.Turn.{Turn}
use Rattle.hwp_core.specs.hwp_core_rule.Boards.{Played, TakesTurn, TakesTurnBy, TurnMade, view_of}
use Rattle.hwp_core.specs.hwp_core_rule.Calls.{Steps, rec_of}
use Rattle.hwp_core.specs.hwp_core_rule.Hands.{empty, hand_of}
use Rattle.hwp_core.specs.Holds.{one_ref}
use Rattle.hwp_core.specs.Releases.{adopted_lock}
use Rattle.hwp_evict.specs.declared.take.Take.{Take}
use Rattle.hwp_evict.specs.declared.take.TakeAt.{TakeAt}
use Rattle.hwp_evict.specs.declared.take.TakeAt.TheVariants as at
use Rattle.hwp_evict.specs.Takes as takes
use Rattle.hwp_evict.proofs.TakeLaws.{held-after}
use Rattle.hwp_test_parts.specs.TakenFrames.{taken}

number-kept : (none : Bool) (found : ℕ) → empty ≡ taken (cond none (at.Over None) (at.Reserve found))
number-kept true found = refl
number-kept false found = refl

-- what a step leaves of what is held
take-on : (layout : Layout) (x : TakeAt) (found : ℕ) → is_none (takes.plan_at x) ≡ false → takes.hand_next_at x found (taken x) ≡ taken (takes.next_at layout x found)
take-on layout at.LoadAvailable found on = number-kept (found == 0) found
take-on layout (at.Reserve seen) found on = by (found == seen)
  where
    by : (c : Bool) → cond c (record empty { reserved = 1 }) empty ≡ taken (cond c (at.LoadFree 0) (takes.at_available found))
    by true = refl
    by false = number-kept (found == 0) found
take-on layout (at.LoadFree number) found on = by (found == 0)
  where
    by : (c : Bool) → record empty { reserved = 1 } ≡ taken (cond c (at.LoadFree (takes.after_word layout number)) (at.TakeBit (takes.lowest_free number found)))
    by true = refl
    by false = refl
take-on layout (at.TakeBit frame) found on = by (takes.has_bit frame found)
  where
    by : (c : Bool) → cond c (record empty { hands = unpoisoned frame ∷ [] }) (record empty { reserved = 1 }) ≡ taken (cond c (at.Adopt frame) (at.LoadFree (frame.0 / 64)))
    by true = refl
    by false = refl
take-on layout (at.Adopt frame) found on =
    ap (λ (c : Bool). record empty { hands = cond c [] (unpoisoned frame ∷ []); refs = one_ref frame; locks = adopted_lock frame (is_poisoned found) ∷ [] }) (same-number frame.0 frame.0 refl)
    ∙ by (is_poisoned found)
  where
    by : (c : Bool) → record empty { refs = one_ref frame; locks = adopted_lock frame c ∷ [] } ≡ taken (cond c (at.Retire frame) (at.Over (Some frame)))
    by true = refl
    by false = refl
take-on layout (at.Retire frame) found on =
    ap (λ (c : Bool). record empty { locks = cond c [] (adopted_lock frame true ∷ []); refs = cond c [] (record { frame = frame; count = 1 } ∷ []) }) (same-number frame.0 frame.0 refl)
take-on layout (at.Over frame) found on = absurd (false≢true (sym on))

module _ (layout : Layout) (a b : State) (was now : List Played) (before after : Take) (result : Turn × Option Kind)
    (rule : Holds layout a) (fits : takes.Fits layout (view_of a 0) before) (hand : hand_of (view_of a 0) ≡ taken before.at) where
  made-on : (step : Step) → takes.plan before ≡ Some step → TurnMade takes.task layout 0 step a b was now before after result → hand_of (view_of b 0) ≡ taken after.at
  made-on step planned t =
      ap hand_of new-is ∙ held-after before planned steps (taken before.at) fits hand
      ∙ take-on layout before.at t.found (ap is_none planned) ∙ ap (λ (x : Take). taken x.at) (sym t.follows.0)
    where
      r : Rec
      r = rec_of layout before.who step None t.found t.got

      old-is : view_of a 0 ≡ t.move.view
      old-is = get_or_from_slice_get a.views 0 t.move.view (opening_view 0) t.move.me

      new-is : view_of b 0 ≡ view_after layout r (view_of a 0)
      new-is = ap (λ (s : State). view_of s 0) t.move.next
          ∙ get_or_from_slice_get _ 0 (view_after layout r t.move.view) (opening_view 0) (set_here a.views 0 (view_after layout r t.move.view) t.move.view t.move.me)
          ∙ ap (view_after layout r) (sym old-is)

      steps : Steps layout before.who step None (view_of a 0) (view_after layout r (view_of a 0)) t.found t.got
      steps = record {
        told = record {
          board = a;
          rule = rule;
          seat = 0;
          me = subst (λ (v : View). slice_get a.views 0 ≡ Some v) (sym old-is) t.move.me;
          fits = t.move.fits;
          met = t.move.met;
          slot = t.move.slot;
          next = refl;
        };
        brings = t.brings;
      }

  pub take-turned : TakesTurn takes.task layout 0 a b was now before after result → hand_of (view_of b 0) ≡ taken after.at
  take-turned turned = by (takes.plan before) refl turned
    where
      by : (p : Option Step) → takes.plan before ≡ p → TakesTurnBy takes.task layout 0 p a b was now before after result → hand_of (view_of b 0) ≡ taken after.at
      by None over t = ap (λ (s : State). hand_of (view_of s 0)) t.board ∙ hand ∙ ap (λ (x : Take). taken x.at) (sym t.task)
      by (Some step) planned t = made-on step planned t
