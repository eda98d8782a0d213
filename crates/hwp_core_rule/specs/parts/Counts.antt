-- A frame's count.
use Rattle.std.specs.Prelude.{◌≡◌, ℕ, ◌+◌, ◌==◌, List, Some, slice_get}
use Rattle.std.specs.List.{sum_by}
use Rattle.std.specs.Int.{from_bool}
use Rattle.hwp_words.specs.Frames.{count_of, handled_of}
use Rattle.hwp_core_rule.specs.declared.view.Ref.{Ref}
use Rattle.hwp_core_rule.specs.Views.{refs_on}

-- how many of the words name the frame
abbrev pub named : ℕ → List ℕ → ℕ
named f words = sum_by (λ (w : ℕ). from_bool (w == f + 1)) words

-- A frame's count is the number of translation words and cache words that name it, plus the references in all views, plus
-- 1 where it is handled. Broken by: an `adopt` that adds one count too many; a translation written without a reference to
-- spend; a cleared name that gives none back; a reference given to a frame that is free.
pub record CountsBalance (frames trans caches : List ℕ) (refs : List (List Ref)) : Type 0 where
  pub balance : (f w : ℕ) → slice_get frames f ≡ Some w → count_of w ≡ named f trans + named f caches + sum_by (refs_on f) refs + handled_of w
