-- Lists as the table reads them, and as the rule does.
use Rattle.std.proofs.Common.{◌≡◌, ℕ, zero, suc, List, [], ◌∷◌, map, set, slice_get, refl, sym, ap}
use Rattle.std.specs.Prelude.{Option as Maybe, Some, None}
use mathlib.Core.Option.{Option, some, none, some-injective, some-ne-none}
use lib.ListN.{get_elem?}
use Rattle.std.proofs.lemmas.List.{map-set}
use Rattle.std.proofs.lemmas.Option.{none-some, same_Some}
use Rattle.hwp_core_rule.specs.declared.Log.{Log}
use Rattle.hwp_core_rule.specs.Calls.{logs}
use Rattle.hwp_table_words.specs.Stands.{Content, home_of}

module _ {A : Type 0} where
  pub as-slice : (l : List A) (i : ℕ) (a : A) → get_elem? l i ≡ some a → slice_get l i ≡ Some a
  as-slice [] i a e = absurd (some-ne-none a (sym e))
  as-slice (x ∷ xs) zero a e = ap Some (some-injective x a e)
  as-slice (x ∷ xs) (suc i) a e = as-slice xs i a e

-- a slot that the rule sees at home is at home
pub home-was : (hs : List (Option Content)) (slot : ℕ) (content : Maybe Log) → slice_get (map home_of hs) slot ≡ Some (Some content) → (y : Content) × (get_elem? hs slot ≡ some (some y)) × (logs y ≡ content)
home-was [] slot content e = absurd (none-some (Some content) e)
home-was (none ∷ hs) zero content e = absurd (none-some content (same_Some None (Some content) e))
home-was (some y ∷ hs) zero content e = (y, refl, same_Some (logs y) content (same_Some (Some (logs y)) (Some content) e))
home-was (h ∷ hs) (suc slot) content e = home-was hs slot content e

pub home-out : (hs : List (Option Content)) (slot : ℕ) → map home_of (set hs slot none) ≡ set (map home_of hs) slot None
home-out hs slot = map-set home_of hs slot none

pub home-in : (hs : List (Option Content)) (slot : ℕ) (y : Content) → map home_of (set hs slot (some y)) ≡ set (map home_of hs) slot (Some (logs y))
home-in hs slot y = map-set home_of hs slot (some y)
