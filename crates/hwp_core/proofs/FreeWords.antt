-- The free words: where a bit is to be found, they aren't all 0; and what one of them that was shown says.
use Rattle.std.proofs.Common.{◌≡◌, ◌≢◌, ℕ, zero, suc, ◌+◌, ◌*◌, ◌/◌, ◌%◌, ◌^◌, ◌<◌, ◌≤◌, ◌==◌, ◌&&◌, Bool, true, false, List, [], ◌∷◌, Some, map, length, drop, set, slice_get, slice_index, inl, inr, refl, sym, ap, ◌∙◌, subst, arith, add-one}
use Rattle.std.proofs.Math.Nat.{zero-div}
use Rattle.std.proofs.Math.Seq.{drop-cons}
use Rattle.std.proofs.lemmas.Bool.{both_ways, cases_lt, eqb-true, ne_eqb}
use Rattle.std.proofs.lemmas.List.{drop_all}
use Rattle.std.proofs.lemmas.Nat.Bits.{bit_at-trailing_zeros}
use Rattle.std.specs.Int.{w64, trailing_zeros}
use Rattle.std.specs.List.{list_all, sum_by}
use Rattle.hwp_core_rule.specs.hwp_geom.Bits.{IsLowestBit}
use Rattle.hwp_core_rule.specs.hwp_geom.declared.Frame.{Frame}
use Rattle.hwp_core_rule.specs.hwp_geom.declared.Layout.{Layout}
use Rattle.hwp_core_rule.specs.declared.SharedWord.TheVariants as places
use Rattle.hwp_core_rule.specs.declared.State.{State}
use Rattle.hwp_core_rule.specs.declared.Step.TheVariants as steps
use Rattle.hwp_core_rule.specs.declared.View.{View}
use Rattle.hwp_core_rule.specs.Rule.{Holds}
use Rattle.hwp_core_rule.specs.Steps.{goes, word_after}
use Rattle.hwp_core_rule.specs.Words.{Words, words_of, index, free_words, free_bit, sum_below, put}
use Rattle.hwp_core_rule.proofs.Bits.{cleared-none}
use Rattle.hwp_core_rule.proofs.CountsBelow.{below-zero}
use Rattle.hwp_core_rule.proofs.Lists.{at_map, term-le}
use Rattle.hwp_core_rule.proofs.MetWords.{free-within}
use Rattle.hwp_core_rule.proofs.MoveKeeps.{shaped}
use Rattle.hwp_core_rule.proofs.WordsByKind.{words-read}

-- the lowest bit of a word is where its low zeros end
pub lowest-is : (word k : ℕ) → 0 < word → word < 2 ^ 64 → IsLowestBit word 0 k → k ≡ trailing_zeros w64 word
lowest-is word k some fits is = elim (cases_lt k (trailing_zeros w64 word)) [
  | inl less ↦ let none : word / 2 ^ k % 2 ≡ 0 = zeros.2 k less in let set : word / 2 ^ k % 2 ≡ 1 = is.is_set in absurd (omega (arith, none, set))
  | inr most ↦ elim (cases_lt (trailing_zeros w64 word) k) [
    | inl less ↦ let none : word / 2 ^ trailing_zeros w64 word % 2 ≡ 0 = is.lowest (trailing_zeros w64 word) (omega arith) less in let set : word / 2 ^ trailing_zeros w64 word % 2 ≡ 1 = zeros.1 in absurd (omega (arith, none, set))
    | inr least ↦ omega arith
  ]
]
  where
    zeros : (trailing_zeros w64 word < 64) × (word / 2 ^ trailing_zeros w64 word % 2 ≡ 1) × ((i : ℕ) → i < trailing_zeros w64 word → word / 2 ^ i % 2 ≡ 0)
    zeros = bit_at-trailing_zeros w64 word some fits

abbrev pub all_zero : List ℕ → Bool
all_zero words = list_all (λ (w : ℕ). w == 0) words

both-true : (a b : Bool) → (a && b) ≡ true → (a ≡ true) × (b ≡ true)
both-true true b e = (refl, e)
both-true false b e = absurd (both_ways false refl e)

-- words that are all 0
zero-word : (words : List ℕ) → all_zero words ≡ true → (k : ℕ) → slice_index words k ≡ 0
zero-word [] all k = refl
zero-word (w ∷ ws) all zero = eqb-true w 0 (both-true (w == 0) (all_zero ws) all).0
zero-word (w ∷ ws) all (suc k) = zero-word ws (both-true (w == 0) (all_zero ws) all).1 k

no-bits : (frees : List ℕ) → all_zero frees ≡ true → (n : ℕ) → sum_below (free_bit frees) n ≡ 0
no-bits frees all n = below-zero (free_bit frees) n (λ i less. ap (λ (w : ℕ). w / 2 ^ (i % 64) % 2) (zero-word frees all (i / 64)) ∙ ap (λ (w : ℕ). w % 2) (zero-div (2 ^ (i % 64))))

module _ (words : List ℕ) (number : ℕ) (within : number < length words) where
  cut : drop number words ≡ slice_index words number ∷ drop (number + 1) words
  cut = drop-cons words number 0 within ∙ ap (λ (n : ℕ). slice_index words number ∷ drop n words) (sym (add-one number))

  -- past a word of 0 as many are 0 as from it on
  pub zero-on : slice_index words number ≡ 0 → all_zero (drop number words) ≡ all_zero (drop (number + 1) words)
  zero-on none = ap all_zero (cut ∙ ap (λ (w : ℕ). w ∷ drop (number + 1) words) none)

  pub not-zero : slice_index words number ≢ 0 → all_zero (drop number words) ≡ false
  not-zero some = ap all_zero cut ∙ ap (λ (b : Bool). b && all_zero (drop (number + 1) words)) (ne_eqb (slice_index words number) 0 some)

pub zero-past : (words : List ℕ) (number : ℕ) → length words ≤ number → all_zero (drop number words) ≡ true
zero-past words number past = ap all_zero (drop_all number words past)

module _ (layout : Layout) (s : State) (h : Holds layout s) where
  abbrev words : Words
  words = words_of layout s.words

  pub frees-length : length words.frees ≡ free_words layout
  frees-length = (shaped layout s h).frees

  -- where a frame is available, or reserved, a free bit is left
  pub some-free : 0 < words.available + sum_by (λ (n : ℕ). n) (map (λ (v : View). v.reserved) s.views) → all_zero words.frees ≡ false
  some-free some = which (all_zero words.frees) refl
    where
      which : (b : Bool) → all_zero words.frees ≡ b → b ≡ false
      which false is = refl
      which true is =
          let none : sum_below (free_bit words.frees) layout.frames ≡ 0 = no-bits words.frees is layout.frames in
          let all : sum_below (free_bit words.frees) layout.frames ≡ words.available + sum_by (λ (n : ℕ). n) (map (λ (v : View). v.reserved) s.views) = h.rule.frames.free.number in
          absurd (omega (arith, none, all, some))

  pub some-reserved : (seat : ℕ) (view : View) → slice_get s.views seat ≡ Some view → 0 < view.reserved → all_zero words.frees ≡ false
  some-reserved seat view me some =
      let mine : view.reserved ≤ sum_by (λ (n : ℕ). n) (map (λ (v : View). v.reserved) s.views) = term-le (λ (n : ℕ). n) (map (λ (v : View). v.reserved) s.views) seat view.reserved (at_map (λ (v : View). v.reserved) s.views seat view me) in
      some-free (omega arith)

  module _ (number found : ℕ) (inside : number < free_words layout) (met : found ≡ slice_index s.words (index layout (places.Free number))) where
    pub shown : slice_index words.frees number ≡ found
    shown = words-read layout s.words (places.Free number) inside ∙ sym met

    -- the frame of the lowest bit that a free word shows: it is free by that word
    pub lowest-shown : 0 < found → found < 2 ^ 64 → (number * 64 + trailing_zeros w64 found < layout.frames) × ((number * 64 + trailing_zeros w64 found) / 64 ≡ number) × (free_bit words.frees (number * 64 + trailing_zeros w64 found) ≡ 1)
    lowest-shown some fits = (inside-it.1, word-is, bit)
      where
        inside-it : (trailing_zeros w64 found < 64) × (number * 64 + trailing_zeros w64 found < layout.frames)
        inside-it = free-within layout s h number found inside met some fits

        f : ℕ
        f = number * 64 + trailing_zeros w64 found

        word-is : f / 64 ≡ number
        word-is = let below : trailing_zeros w64 found < 64 = inside-it.0 in omega arith

        bit-is : f % 64 ≡ trailing_zeros w64 found
        bit-is = let below : trailing_zeros w64 found < 64 = inside-it.0 in omega arith

        bit : free_bit words.frees f ≡ 1
        bit = ap (λ (n : ℕ). slice_index words.frees n / 2 ^ (f % 64) % 2) word-is ∙ ap (λ (k : ℕ). slice_index words.frees number / 2 ^ k % 2) bit-is
            ∙ ap (λ (w : ℕ). w / 2 ^ trailing_zeros w64 found % 2) shown ∙ (bit_at-trailing_zeros w64 found some fits).1

  -- a bit that isn't there is not cleared
  pub none-cleared : (frame : Frame) (found : ℕ) → frame.0 < layout.frames → found ≡ slice_index s.words (index layout (places.Free (frame.0 / 64))) → found < 2 ^ 64 → goes (steps.TakeBit frame) found ≡ false
      → (free_bit words.frees frame.0 ≢ 1) × (put (places.Free (frame.0 / 64)) (word_after (steps.TakeBit frame) found) words ≡ words)
  none-cleared frame found within met fits lost = (not-one, ap (λ (l : List ℕ). record words { frees = l }) kept)
    where
      inside : frame.0 / 64 < free_words layout
      inside = omega arith

      read : slice_index words.frees (frame.0 / 64) ≡ found
      read = words-read layout s.words (places.Free (frame.0 / 64)) inside ∙ sym met

      bit : free_bit words.frees frame.0 ≡ found / 2 ^ (frame.0 % 64) % 2
      bit = ap (λ (w : ℕ). w / 2 ^ (frame.0 % 64) % 2) read

      not-one : free_bit words.frees frame.0 ≢ 1
      not-one one = both_ways (goes (steps.TakeBit frame) found) lost (same (sym bit ∙ one))
        where
          same : found / 2 ^ (frame.0 % 64) % 2 ≡ 1 → (found / 2 ^ (frame.0 % 64) % 2 == 1) ≡ true
          same e = ap (λ (n : ℕ). n == 1) e

      none : free_bit words.frees frame.0 ≡ 0
      none = let less : free_bit words.frees frame.0 < 2 = omega arith in omega (arith, not-one)

      kept : set words.frees (frame.0 / 64) (word_after (steps.TakeBit frame) found) ≡ words.frees
      kept = subst (λ (w : ℕ). set words.frees (frame.0 / 64) (word_after (steps.TakeBit frame) w) ≡ words.frees) read
          (cleared-none words.frees frame.0 (subst (λ (n : ℕ). frame.0 / 64 < n) (sym frees-length) inside) (subst (λ (w : ℕ). w < 2 ^ 64) (sym read) fits) none)
