-- A claim is kept until its failure isn't pending any more: by its task's own retire, or as a word shows.
use Rattle.std.proofs.Common.{◌≡◌, ◌≢◌, ◌⊎◌, inl, inr, ℕ, ◌<◌, true, false, Option, Some, None, slice_get, slice_index, sym, ap, ◌∙◌, subst, arith, bit_xor}
use Rattle.std.proofs.lemmas.Bool.{both_ways, eqb-false}
use Rattle.std.proofs.lemmas.Option.{none-some, same_Some}
use Rattle.hwp_core.specs.hwp_geom.declared.Frame.{Frame}
use Rattle.hwp_core.specs.hwp_geom.declared.Layout.{Layout}
use Rattle.hwp_core.specs.hwp_words.Frames.{handled_bit, handled_of, is_handled}
use Rattle.hwp_core.proofs.of_hwp_words.FieldLaws.{field-xor}
use Rattle.hwp_core.specs.hwp_core_rule.declared.FrameLock.{FrameLock}
use Rattle.hwp_core.specs.hwp_core_rule.declared.State.{State}
use Rattle.hwp_core.specs.hwp_core_rule.declared.Step.TheVariants as steps
use Rattle.hwp_core.specs.hwp_core_rule.declared.View.{View}
use Rattle.hwp_core.specs.hwp_core_rule.Words.{Words}
use Rattle.hwp_core.specs.hwp_core_rule.parts.Locks.{IsLocked}
use Rattle.hwp_core.proofs.of_hwp_core_rule.Lists.{at_map, same-number, same-or}
use Rattle.hwp_core.proofs.of_hwp_core_rule.MetWords.{frame-word}
use Rattle.hwp_core.specs.hwp_core_rule.declared.Turn.{Turn}
use Rattle.hwp_core.specs.hwp_core_rule.Boards.{view_of}
use Rattle.hwp_core.specs.hwp_core_rule.Ranks.{Made, Pending, words_at}
use Rattle.hwp_core.specs.hwp_core_rule.Turns.{Member}
use Rattle.hwp_core.proofs.of_hwp_core_rule.tasks.StepRanks.{me}
use Rattle.hwp_claim_frame.specs.Meets.{word_in}
use Rattle.hwp_claim_frame.proofs.MeetCosts.{after-is, met-at, set-word}

-- the claim stays, or there was none, or its failure isn't pending any more
abbrev pub Keeps : Words → Words → Option (Frame × ℕ) → Option (Frame × ℕ) → Type 0
Keeps w now old new = (old ≡ None) ⊎ (old ≡ new) ⊎ ((frame : Frame) (cycle : ℕ) → old ≡ Some (frame, cycle) → Pending w frame cycle → Pending now frame cycle → ⊥)

pub drops : (w now : Words) (new : Option (Frame × ℕ)) (frame : Frame) (cycle : ℕ) → (Pending w frame cycle → ⊥) → Keeps w now (Some (frame, cycle)) new
drops w now new frame cycle over = inr (inr (λ f c e before after. over (subst (λ (x : Frame × ℕ). Pending w x.0 x.1) (sym (same_Some (frame, cycle) (f, c) e)) before)))

pub drops-now : (w now : Words) (new : Option (Frame × ℕ)) (frame : Frame) (cycle : ℕ) → (Pending now frame cycle → ⊥) → Keeps w now (Some (frame, cycle)) new
drops-now w now new frame cycle over = inr (inr (λ f c e before after. over (subst (λ (x : Frame × ℕ). Pending now x.0 x.1) (sym (same_Some (frame, cycle) (f, c) e)) after)))

abbrev pub claim-of : Frame → ℕ → Option (Frame × ℕ)
claim-of frame cycle = Some (frame, cycle)

-- a claim is of this failure, or it isn't
claimed-or : (old : Option (Frame × ℕ)) (frame : Frame) (cycle : ℕ) → (old ≡ Some (frame, cycle)) ⊎ (old ≢ Some (frame, cycle))
claimed-or None frame cycle = inr (λ e. none-some (frame, cycle) e)
claimed-or (Some c) frame cycle = which (same-or c.0.0 frame.0) (same-or c.1 cycle)
  where
    which : (c.0.0 ≡ frame.0) ⊎ (c.0.0 ≢ frame.0) → (c.1 ≡ cycle) ⊎ (c.1 ≢ cycle) → (Some c ≡ Some (frame, cycle)) ⊎ (Some c ≢ Some (frame, cycle))
    which (inl one) (inl other) = inl (ap (λ (n : ℕ). claim-of (record { 0 = n }) c.1) one ∙ ap (claim-of frame) other)
    which (inr one) other = inr (λ e. one (ap (λ (x : Frame × ℕ). x.0.0) (same_Some c (frame, cycle) e)))
    which (inl one) (inr other) = inr (λ e. other (ap (λ (x : Frame × ℕ). x.1) (same_Some c (frame, cycle) e)))

pub owned-by : (w now : Words) (old new : Option (Frame × ℕ)) (frame : Frame) (cycle : ℕ) → Keeps w now old new → Pending w frame cycle → Pending now frame cycle → (new ≡ Some (frame, cycle)) ⊎ (Pending w frame cycle × (old ≢ Some (frame, cycle)))
owned-by w now old new frame cycle (inl none) before after = inr (before, λ e. none-some (frame, cycle) (sym none ∙ e))
owned-by w now old new frame cycle (inr (inl same)) before after = which (claimed-or old frame cycle)
  where
    which : (old ≡ Some (frame, cycle)) ⊎ (old ≢ Some (frame, cycle)) → (new ≡ Some (frame, cycle)) ⊎ (Pending w frame cycle × (old ≢ Some (frame, cycle)))
    which (inl own) = inl (sym same ∙ own)
    which (inr other) = inr (before, other)
owned-by w now old new frame cycle (inr (inr over)) before after = inr (before, λ e. over frame cycle e before after)

-- a retired frame is handled
module _ {S : Type 0} {m : Member S} {layout : Layout} {seat : ℕ} {a b : State} {s t : S} {turned : Turn} (made : Made m layout seat a b s t turned)
    (frame : Frame) (inside : frame.0 < layout.frames) (e : Some (steps.Retire frame) ≡ Some made.step) (lock : FrameLock) (frame_is : lock.frame ≡ frame) (unset : lock.handled ≡ false) (held : slice_get (view_of a seat).locks 0 ≡ Some lock) where
  known : IsLocked (words_at layout a).frames (view_of a seat).refs lock
  known = made.rule.rule.frames.frame_locks.known seat ((view_of a seat).refs, (view_of a seat).locks) (at_map (λ (v : View). (v.refs, v.locks)) a.views seat (view_of a seat) (me made)) 0 lock held

  unhandled : is_handled made.found ≡ false
  unhandled = ap is_handled (same_Some made.found known.word (sym (frame-word layout a made.rule frame made.found inside (met-at made e)) ∙ ap (λ (f : Frame). slice_get (words_at layout a).frames f.0) (sym frame_is) ∙ known.there)) ∙ known.handled ∙ unset

  word-now : slice_index (words_at layout b).frames frame.0 ≡ bit_xor made.found 5
  word-now = ap (word_in frame) (after-is made e) ∙ set-word layout a made.rule frame inside made.found made.move.fits (met-at made e) (bit_xor made.found 5)

  handled-now : is_handled (bit_xor made.found 5) ≡ true
  handled-now = same-number (handled_of (bit_xor made.found 5)) 1 (field-xor handled_bit made.found 5 ∙ ap (λ (n : ℕ). bit_xor n 1) (let other = eqb-false (handled_of made.found) 1 unhandled in zero-left other))
    where
      zero-left : handled_of made.found ≢ 1 → handled_of made.found ≡ 0
      zero-left other = let small : handled_of made.found < 2 = omega arith in omega (arith, other, small)

  pub retired : (cycle : ℕ) → Pending (words_at layout b) frame cycle → ⊥
  retired cycle pending = both_ways (is_handled (slice_index (words_at layout b).frames frame.0)) pending.handled (ap is_handled word-now ∙ handled-now)
