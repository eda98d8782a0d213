-- A failure that is pending once a frame is poisoned was so before, or is that of this poison.
use Rattle.std.proofs.Common.{◌≡◌, ◌≢◌, ◌⊎◌, inl, inr, ℕ, ◌<◌, ◌==◌, Bool, true, false, List, Some, set, slice_index, sym, ap, ◌∙◌, refl, bit_or}
use Rattle.std.proofs.lemmas.List.{get_or-set_other}
use Rattle.hwp_core.specs.hwp_geom.declared.Frame.{Frame}
use Rattle.hwp_core.specs.hwp_geom.declared.Layout.{Layout}
use Rattle.hwp_core.specs.hwp_words.Frames.{cycle_of, is_handled, is_kernel, is_poisoned}
use Rattle.hwp_core.proofs.of_hwp_words.FrameSteps.{fields-poison}
use Rattle.hwp_core.specs.hwp_core_rule.declared.State.{State}
use Rattle.hwp_core.specs.hwp_core_rule.declared.Step.TheVariants as steps
use Rattle.hwp_core.specs.hwp_core_rule.Words.{Words}
use Rattle.hwp_core.proofs.of_hwp_core_rule.Lists.{same-or}
use Rattle.hwp_core.specs.hwp_core_rule.declared.Turn.{Turn}
use Rattle.hwp_core.specs.hwp_core_rule.Ranks.{Made, Pending, words_at}
use Rattle.hwp_core.specs.hwp_core_rule.Turns.{Member}
use Rattle.hwp_core.proofs.of_hwp_core_rule.tasks.StepRanks.{met}
use Rattle.hwp_core.proofs.TaskCosts.{met-own}
use Rattle.hwp_claim_frame.specs.Meets.{word_in}
use Rattle.hwp_claim_frame.proofs.MeetCosts.{after-is, met-at, set-word}
use Rattle.hwp_claim_frame.proofs.ClaimKeeps.{claim-of}

module _ {S : Type 0} {m : Member S} {layout : Layout} {seat : ℕ} {a b : State} {s t : S} {turned : Turn} (made : Made m layout seat a b s t turned) (own : Frame) (hardware : Bool) (inside : own.0 < layout.frames) (e : Some (steps.Poison own hardware) ≡ Some made.step)
    (frame : Frame) (cycle : ℕ) (pending : Pending (words_at layout b) frame cycle) where
  abbrev w : Words
  w = words_at layout a

  abbrev now : Words
  now = words_at layout b

  set-frames : now.frames ≡ set w.frames own.0 (bit_or made.found 2)
  set-frames = ap (λ (x : Words). x.frames) (after-is made e)

  -- of another frame
  elsewhere : frame.0 ≢ own.0 → Pending w frame cycle
  elsewhere other = record {
    poisoned = ap is_poisoned (sym same) ∙ pending.poisoned;
    handled = ap is_handled (sym same) ∙ pending.handled;
    kernel = ap is_kernel (sym same) ∙ pending.kernel;
    cycle_is = ap cycle_of (sym same) ∙ pending.cycle_is;
  }
    where
      same : slice_index now.frames frame.0 ≡ slice_index w.frames frame.0
      same = ap (λ (l : List ℕ). slice_index l frame.0) set-frames ∙ get_or-set_other w.frames own.0 frame.0 (bit_or made.found 2) 0 other

  module _ (same : frame.0 ≡ own.0) where
    there : slice_index w.frames frame.0 ≡ made.found
    there = ap (λ (n : ℕ). slice_index w.frames n) same ∙ met-own w made.found e (met made)

    word-is : slice_index now.frames frame.0 ≡ bit_or made.found 2
    word-is = ap (λ (n : ℕ). slice_index now.frames n) same ∙ ap (word_in own) (after-is made e) ∙ set-word layout a made.rule own inside made.found made.move.fits (met-at made e) (bit_or made.found 2)

    same-cycle : cycle_of made.found ≡ cycle
    same-cycle = sym (fields-poison made.found).cycle ∙ sym (ap cycle_of word-is) ∙ pending.cycle_is

    own-frame : (c : Bool) → is_poisoned made.found ≡ c → ((is_poisoned made.found ≡ false) × (claim-of own (cycle_of made.found) ≡ claim-of frame cycle)) ⊎ Pending w frame cycle
    own-frame false is = inl (is, ap (λ (n : ℕ). claim-of (record { 0 = n }) (cycle_of made.found)) (sym same) ∙ ap (claim-of frame) same-cycle)
    own-frame true is = inr (record {
      poisoned = ap is_poisoned there ∙ is;
      handled = ap is_handled there ∙ ap (λ (n : ℕ). n == 1) (sym (fields-poison made.found).handled) ∙ sym (ap is_handled word-is) ∙ pending.handled;
      kernel = ap is_kernel there ∙ ap (λ (n : ℕ). n == 1) (sym (fields-poison made.found).kernel) ∙ sym (ap is_kernel word-is) ∙ pending.kernel;
      cycle_is = ap cycle_of there ∙ same-cycle;
    })

  pub poison-owns : ((is_poisoned made.found ≡ false) × (claim-of own (cycle_of made.found) ≡ claim-of frame cycle)) ⊎ Pending w frame cycle
  poison-owns = which (same-or frame.0 own.0)
    where
      which : (frame.0 ≡ own.0) ⊎ (frame.0 ≢ own.0) → ((is_poisoned made.found ≡ false) × (claim-of own (cycle_of made.found) ≡ claim-of frame cycle)) ⊎ Pending w frame cycle
      which (inl same) = own-frame same (is_poisoned made.found) refl
      which (inr other) = inr (elsewhere other)
