-- What the word of a frame tells of its failure, and which steps leave that.
use Rattle.std.proofs.Common.{◌≡◌, ◌≢◌, ◌⊎◌, inl, inr, ℕ, ◌+◌, ◌-◌, ◌*◌, ◌/◌, ◌%◌, ◌^◌, ◌<◌, ◌≤◌, ◌==◌, ◌&&◌, ◌||◌, Bool, true, false, not, cond, List, Some, bit_or, length, set, slice_get, slice_index, refl, sym, ap, ◌∙◌, subst, arith}
use Rattle.std.proofs.lemmas.Bool.{both_ways, eqb-true}
use Rattle.std.proofs.lemmas.List.{get_or-set_other, get_or-set_same}
use Rattle.std.proofs.lemmas.Option.{none-some, same_Some, slice_get-get_or}
use Rattle.hwp_fault.specs.hwp_geom.declared.Frame.{Frame}
use Rattle.hwp_fault.specs.hwp_geom.declared.Layout.{Layout}
use Rattle.hwp_fault.specs.hwp_geom.declared.TransDecl.{TransDecl}
use Rattle.hwp_fault.specs.hwp_geom.declared.VSlot.{VSlot}
use Rattle.hwp_fault.specs.hwp_words.Frames.{handled_of, is_handled, is_kernel, is_poisoned, kernel_of, lock_of, owner_of, poison_of}
use Rattle.hwp_fault.proofs.of_hwp_words.FrameSteps.{fields-poison, fields-unlock}
use Rattle.hwp_fault.specs.hwp_core_rule.declared.SharedWord.{SharedWord}
use Rattle.hwp_fault.specs.hwp_core_rule.declared.SharedWord.TheVariants as places
use Rattle.hwp_fault.specs.hwp_core_rule.declared.State.{State}
use Rattle.hwp_fault.specs.hwp_core_rule.declared.Step.{Step}
use Rattle.hwp_fault.specs.hwp_core_rule.declared.Step.TheVariants as steps
use Rattle.hwp_fault.specs.hwp_core_rule.Asks.{HasInHand}
use Rattle.hwp_fault.specs.hwp_core_rule.Rule.{Holds}
use Rattle.hwp_fault.specs.hwp_core_rule.Steps.{place_of, word_after}
use Rattle.hwp_fault.specs.hwp_core_rule.Views.{frame_in}
use Rattle.hwp_fault.specs.hwp_core_rule.Words.{IsPlace, Words, index, put as put_word, read, words_of}
use Rattle.hwp_fault.proofs.of_hwp_core_rule.Lists.{same-or}
use Rattle.hwp_fault.proofs.of_hwp_core_rule.MetWords.{hand-bare}
use Rattle.hwp_fault.proofs.of_hwp_core_rule.MoveKeeps.{shaped}
use Rattle.hwp_fault.specs.hwp_core_rule.declared.Turn.{Turn}
use Rattle.hwp_fault.specs.hwp_core_rule.Boards.{view_of}
use Rattle.hwp_fault.specs.hwp_core_rule.Ranks.{Made, Pending, failures_left, words_at}
use Rattle.hwp_fault.specs.hwp_core_rule.Turns.{Member}
use Rattle.hwp_fault.proofs.of_hwp_core_rule.tasks.StepRanks.{me, met, retire-fails, words-after}
use Rattle.hwp_fault.specs.hwp_core.declared.Release.{Release}
use Rattle.hwp_fault.specs.hwp_core.declared.release.ReleaseAt.{ReleaseAt}
use Rattle.hwp_fault.specs.hwp_core.declared.release.ReleaseAt.TheVariants as release_at
use Rattle.hwp_fault.specs.hwp_core.declared.Unlock.{Unlock}
use Rattle.hwp_fault.specs.hwp_core.declared.unlock.UnlockAt.{UnlockAt}
use Rattle.hwp_fault.specs.hwp_core.declared.unlock.UnlockAt.TheVariants as unlock_at
use Rattle.hwp_fault.specs.hwp_core.Releases as releases
use Rattle.hwp_fault.specs.hwp_core.Unlocks as unlocks
use Rattle.hwp_fault.proofs.TranslationWords.{named-referenced, names-own}
use Rattle.hwp_cpu_access.specs.Costs.{anew, ended_cost, past_cost, word_of}
use Rattle.hwp_cpu_access.specs.Instructions.{is_pending}

-- ---- words

-- two words tell the same of the failure of their frame
pub record SameFailure (x y : ℕ) : Type 0 where
  pub poison : poison_of y ≡ poison_of x
  pub handled : handled_of y ≡ handled_of x
  pub kernel : kernel_of y ≡ kernel_of x

-- whether a failure is under way, by the three bits
abbrev pending : ℕ → ℕ → ℕ → Bool
pending poison handled kernel = (poison == 1) && not ((handled == 1) || (kernel == 1))

pub same-pending : {x y : ℕ} → SameFailure x y → is_pending y ≡ is_pending x
same-pending {x} {y} same = ap (λ (n : ℕ). pending n (handled_of y) (kernel_of y)) same.poison ∙ ap (λ (n : ℕ). pending (poison_of x) n (kernel_of y)) same.handled ∙ ap (λ (n : ℕ). pending (poison_of x) (handled_of x) n) same.kernel

same-past : {x y : ℕ} → SameFailure x y → past_cost y ≡ past_cost x
same-past {x} {y} same = ap (λ (n : ℕ). cond (n == 1) (ended_cost y) 0) same.poison ∙ ap (λ (b : Bool). cond (is_poisoned x) (cond b 0 anew) 0) (same-pending same)

pub past-most : (word : ℕ) → past_cost word ≤ anew
past-most word = which (is_poisoned word) (is_pending word)
  where
    which : (b c : Bool) → cond b (cond c 0 anew) 0 ≤ anew
    which true true = omega arith
    which true false = omega arith
    which false c = omega arith

pub ended-most : (word : ℕ) → ended_cost word ≤ anew
ended-most word = which (is_pending word)
  where
    which : (b : Bool) → cond b 0 anew ≤ anew
    which true = omega arith
    which false = omega arith

-- a frame's failure that isn't ended, as its word says
pub pending-parts : (word : ℕ) → is_pending word ≡ true → (is_poisoned word ≡ true) × (is_handled word ≡ false) × (is_kernel word ≡ false)
pending-parts word is = which (is_poisoned word) (is_handled word) (is_kernel word) is
  where
    which : (b c d : Bool) → (b && not (c || d)) ≡ true → (b ≡ true) × (c ≡ false) × (d ≡ false)
    which true false false is = (refl, refl, refl)
    which true true d is = absurd (both_ways true (sym is) refl)
    which true false true is = absurd (both_ways true (sym is) refl)
    which false c d is = absurd (both_ways true (sym is) refl)

unlock-same : (word : ℕ) → SameFailure word (word_after (steps.UnlockFrame (record { 0 = 0 })) word)
unlock-same word = let is = fields-unlock word in record { poison = is.poison; handled = is.handled; kernel = is.kernel }

put-same : (word count : ℕ) → SameFailure word ((word + (2 ^ 64 - count * 16)) % 2 ^ 64)
put-same word count = record { poison = omega arith; handled = omega arith; kernel = omega arith }

adopt-same : (word : ℕ) → lock_of word ≡ 0 → SameFailure word ((word + 17) % 2 ^ 64)
adopt-same word free = record { poison = omega (arith, free); handled = omega (arith, free); kernel = omega (arith, free) }

-- a poison of a poisoned frame
pub poison-same : (word : ℕ) → is_poisoned word ≡ true → SameFailure word (bit_or word 2)
poison-same word is = let fields = fields-poison word in record { poison = fields.poison ∙ sym (eqb-true (poison_of word) 1 is); handled = fields.handled; kernel = fields.kernel }

-- ---- the words of a board

-- where one word is set, what it tells stays so of each frame
set-same : (P : ℕ → ℕ) (l : List ℕ) (g f x : ℕ) → g < length l → P x ≡ P (slice_index l g) → P (slice_index (set l g x) f) ≡ P (slice_index l f)
set-same P l g f x inside same = which (same-or f g)
  where
    which : (f ≡ g) ⊎ (f ≢ g) → P (slice_index (set l g x) f) ≡ P (slice_index l f)
    which (inl is) = ap (λ (k : ℕ). P (slice_index (set l g x) k)) is ∙ ap P (get_or-set_same l g x 0 inside) ∙ same ∙ ap (λ (k : ℕ). P (slice_index l k)) (sym is)
    which (inr other) = ap P (get_or-set_other l g f x 0 other)

module _ {S : Type 0} {m : Member S} {layout : Layout} {seat : ℕ} {a b : State} {s t : S} {turn : Turn} (made : Made m layout seat a b s t turn) (frame : Frame) where
  abbrev w : Words
  w = words_at layout a

  abbrev now : Words
  now = words_at layout b

  -- what a step comes to that touches the word of a frame, or of none
  touched : (P : ℕ → ℕ) (other : Step) (g : Frame) → Some other ≡ Some made.step → place_of other ≡ places.Frame g → P (word_after other made.found) ≡ P made.found → P (word_of frame now) ≡ P (word_of frame w)
  touched P other g e is same = ap (λ (x : Words). P (word_of frame x)) (words-after made ∙ ap (λ (x : Step). put_word (place_of x) (word_after x made.found) w) (sym own) ∙ ap (λ (p : SharedWord). put_word p (word_after other made.found) w) is)
      ∙ set-same P w.frames g.0 frame.0 (word_after other made.found) inside (same ∙ ap P (sym word))
    where
      own : other ≡ made.step
      own = same_Some other made.step e

      inside : g.0 < length w.frames
      inside =
          let place : g.0 < layout.frames = subst (IsPlace layout) (ap place_of (sym own) ∙ is) made.move.asks.place in
          let all : length w.frames ≡ layout.frames = (shaped layout a made.rule).frames in
          omega (arith, place, all)

      word : slice_index w.frames g.0 ≡ made.found
      word = ap (λ (p : SharedWord). read p w) (sym is ∙ ap place_of own) ∙ met made

  free-left : (other : Step) (n : ℕ) → Some other ≡ Some made.step → place_of other ≡ places.Free n → past_cost (word_of frame now) ≡ past_cost (word_of frame w)
  free-left other n e is = ap (λ (x : Words). past_cost (word_of frame x)) (words-after made ∙ ap (λ (p : SharedWord). put_word p (word_after made.step made.found) w) (ap place_of (sym (same_Some other made.step e)) ∙ is))

  available-left : (other : Step) → Some other ≡ Some made.step → place_of other ≡ places.Available → past_cost (word_of frame now) ≡ past_cost (word_of frame w)
  available-left other e is = ap (λ (x : Words). past_cost (word_of frame x)) (words-after made ∙ ap (λ (p : SharedWord). put_word p (word_after made.step made.found) w) (ap place_of (sym (same_Some other made.step e)) ∙ is))

  abbrev Past : Type 0
  Past = (past_cost (word_of frame now) ≡ past_cost (word_of frame w)) ⊎ (failures_left now < failures_left w)

  adopt-left : (g : Frame) → HasInHand (view_of a seat) g → Some (steps.Adopt g) ≡ Some made.step → Past
  adopt-left g hand e = inl (touched past_cost (steps.Adopt g) g e refl (same-past (adopt-same made.found free)))
    where
      own : steps.Adopt g ≡ made.step
      own = same_Some (steps.Adopt g) made.step e

      free : lock_of made.found ≡ 0
      free = (hand-bare layout a made.rule seat (view_of a seat) g made.found (me made) hand (subst (IsPlace layout) (ap place_of (sym own)) made.move.asks.place) (made.move.met ∙ ap (λ (x : Step). slice_index a.words (index layout (place_of x))) (sym own))).unlocked

  release-past : (r : Release) → releases.Fits layout (view_of a seat) r → releases.plan r ≡ Some made.step → Past
  release-past r fits is = which r.at fits.at is
    where
      which : (x : ReleaseAt) → releases.FitsAt (view_of a seat) r.frame r.count x → releases.plan_at r.frame r.count x ≡ Some made.step → Past
      which release_at.Put has e = inl (touched past_cost (steps.PutRef r.frame r.count) r.frame e refl (same-past (put-same made.found r.count)))
      which (release_at.Give word) has e = inl (free-left (steps.GiveBit r.frame) (r.frame.0 / 64) e refl)
      which (release_at.Unreserve word) has e = inl (available-left steps.Unreserve e refl)
      which (release_at.Adopt word) has e = adopt-left r.frame (has.0.0, has.0.1, has.0.2, has.0.3.0) e
      which (release_at.Retire word) has e = inr (retire-fails made r.frame e)
      which (release_at.Back word) has e = absurd (none-some made.step e)

  -- letting go of a frame leaves what is told of failures, or a failure fewer
  pub unlock-past : (u : Unlock) → unlocks.Fits layout (view_of a seat) u → unlocks.plan u ≡ Some made.step → Past
  unlock-past u fits is = which u.at fits.at is
    where
      which : (x : UnlockAt) → unlocks.FitsAt layout (view_of a seat) u.who x → unlocks.plan_at x ≡ Some made.step → Past
      which (unlock_at.UnlockFrame g body) has e = inl (touched past_cost (steps.UnlockFrame g) g e refl (same-past (unlock-same made.found)))
      which (unlock_at.Release r) has e = release-past r has.release e
      which unlock_at.Over has e = absurd (none-some made.step e)

  -- a poison that finds the frame poisoned leaves whether its failure has ended
  pub poison-left : (g : Frame) (hardware : Bool) → Some (steps.Poison g hardware) ≡ Some made.step → is_poisoned made.found ≡ true → ended_cost (word_of frame now) ≡ ended_cost (word_of frame w)
  poison-left g hardware e is = touched ended_cost (steps.Poison g hardware) g e refl (ap (λ (b : Bool). cond b 0 anew) (same-pending (poison-same made.found is)))

-- ---- a frame to which a translation leads

module _ (layout : Layout) (s : State) (rule : Holds layout s) (slot : VSlot) (decl : TransDecl) (declared : slice_get layout.trans slot.0 ≡ Some decl) (found : ℕ) (there : slice_get (words_of layout s.words).trans slot.0 ≡ Some found) (frame : Frame) (names : frame_in found ≡ Some frame) where
  -- no failure of it has ended
  pub none-past : past_cost (word_of frame (words_of layout s.words)) ≡ 0
  none-past = which unhandled unkerneled
    where
      own : (found ≡ frame.0 + 1) × (frame.0 < layout.frames) × ((w : ℕ) → slice_get (words_of layout s.words).frames frame.0 ≡ Some w → owner_of w ≡ decl.page.0 + 1)
      own = names-own layout s rule slot decl declared found there frame names

      word : ℕ
      word = word_of frame (words_of layout s.words)

      at : slice_get (words_of layout s.words).frames frame.0 ≡ Some word
      at = slice_get-get_or (words_of layout s.words).frames frame.0 0 (subst (λ (n : ℕ). frame.0 < n) (sym (shaped layout s rule).frames) own.1)

      unhandled : is_handled word ≡ false
      unhandled = (named-referenced layout s rule slot decl declared found there frame names word at).1

      unkerneled : is_kernel word ≡ false
      unkerneled = by (is_kernel word) refl
        where
          by : (b : Bool) → is_kernel word ≡ b → is_kernel word ≡ false
          by false is = is
          by true is = let none : owner_of word ≡ 0 = (rule.rule.frames.places.kernels frame.0 word at is).bare.unowned in let some : owner_of word ≡ decl.page.0 + 1 = own.2 word at in absurd (omega (arith, none, some))

      which : is_handled word ≡ false → is_kernel word ≡ false → cond (is_poisoned word) (cond (is_poisoned word && not (is_handled word || is_kernel word)) 0 anew) 0 ≡ 0
      which e f = ap (λ (c : Bool). cond (is_poisoned word) (cond (is_poisoned word && not (c || is_kernel word)) 0 anew) 0) e ∙ ap (λ (c : Bool). cond (is_poisoned word) (cond (is_poisoned word && not (false || c)) 0 anew) 0) f ∙ by (is_poisoned word)
        where
          by : (c : Bool) → cond c (cond (c && not (false || false)) 0 anew) 0 ≡ 0
          by true = refl
          by false = refl

-- a failure under way is pending
pub pending-now : (w : Words) (frame : Frame) → is_pending (word_of frame w) ≡ true → (cycle : ℕ) × Pending w frame cycle
pending-now w frame is = let parts = pending-parts (word_of frame w) is in (_, record { poisoned = parts.0; handled = parts.1; kernel = parts.2; cycle_is = refl })
