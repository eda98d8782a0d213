-- A slot comes to the front as the first one goes behind the others.
use Rattle.std.proofs.Common.{◌≡◌, ◌≢◌, ℕ, suc, ◌+◌, ◌<◌, ◌==◌, Bool, cond, List, [], ◌∷◌, ◌++◌, inl, inr, length, get_or, sym, ap, ◌∙◌, arith, ne_eqb}
use Rattle.std.specs.Prelude.{None}
use Rattle.std.specs.List.{remove}
use Rattle.std.proofs.lemmas.List.{length-append, map-append}
use Rattle.std.specs.Int.{from_bool}
use Rattle.atomic_table.specs.Table.{turned}
use Rattle.hwp_core_rule.proofs.Lists.{same-or, same-number, from_bool-other}
use Rattle.hwp_table_words.specs.Carrying.{vacant}
use Rattle.hwp_table_words.specs.Known.{times}
use Rattle.hwp_table_words.specs.Stands.{Content}
use Rattle.hwp_table_words.proofs.Times.{times-append, times-cons}

-- how many slots are before this one
abbrev pub place : ℕ → List ℕ → ℕ
place slot [] = 0
place slot (x ∷ xs) = cond (x == slot) 0 (suc (place slot xs))

pub some-there : (slot : ℕ) (order : List ℕ) → 0 < times slot order → 0 < length order
some-there slot [] some = absurd (omega (arith, some))
some-there slot (x ∷ xs) some = omega arith

abbrev pub rotated : List ℕ → ℕ → List ℕ
rotated order first = remove order 0 ++ first ∷ []

pub turned-vacant : (order : List ℕ) (first : ℕ) → 0 < length order → first ≡ get_or order 0 first → turned (vacant order) ≡ vacant (rotated order first)
turned-vacant [] first less is = absurd (omega (arith, less))
turned-vacant (x ∷ xs) first less is = ap (λ (n : ℕ). vacant xs ++ (n, None) ∷ []) (sym is) ∙ sym (map-append {B = ℕ × Content} (λ (slot : ℕ). (slot, None)) xs (first ∷ []))

pub times-rotated : (k : ℕ) (order : List ℕ) (first : ℕ) → 0 < length order → first ≡ get_or order 0 first → times k (rotated order first) ≡ times k order
times-rotated k [] first less is = absurd (omega (arith, less))
times-rotated k (x ∷ xs) first less is =
    let behind : times k (xs ++ first ∷ []) ≡ times k xs + times k (first ∷ []) = times-append k xs (first ∷ []) in
    let one : times k (first ∷ []) ≡ from_bool (first == k) + times k [] = times-cons k first [] in
    let all : times k (x ∷ xs) ≡ from_bool (x == k) + times k xs = times-cons k x xs in
    let same : from_bool (first == k) ≡ from_bool (x == k) = ap (λ (n : ℕ). from_bool (n == k)) is in
    omega arith

pub count-rotated : (order : List ℕ) (first : ℕ) → 0 < length order → length (rotated order first) ≡ length order
count-rotated [] first less = absurd (omega (arith, less))
count-rotated (x ∷ xs) first less = let all : length (xs ++ first ∷ []) ≡ length xs + 1 = length-append xs (first ∷ []) in omega arith

place-append : (slot : ℕ) (xs : List ℕ) (x : ℕ) → 0 < times slot xs → place slot (xs ++ x ∷ []) ≡ place slot xs
place-append slot [] x some = absurd (omega (arith, some))
place-append slot (y ∷ ys) x some = elim (same-or y slot) [
  | inl same ↦ ap (λ (b : Bool). cond b 0 (suc (place slot (ys ++ x ∷ [])))) (same-number y slot same) ∙ sym (ap (λ (b : Bool). cond b 0 (suc (place slot ys))) (same-number y slot same))
  | inr other ↦
      let all : times slot (y ∷ ys) ≡ from_bool (y == slot) + times slot ys = times-cons slot y ys in
      let none : from_bool (y == slot) ≡ 0 = from_bool-other y slot other in
      let rest : place slot (ys ++ x ∷ []) ≡ place slot ys = place-append slot ys x (omega (arith, some)) in
      ap (λ (b : Bool). cond b 0 (suc (place slot (ys ++ x ∷ [])))) (ne_eqb y slot other) ∙ (ap suc rest ∙ sym (ap (λ (b : Bool). cond b 0 (suc (place slot ys))) (ne_eqb y slot other)))
]

pub place-falls : (slot : ℕ) (order : List ℕ) (first : ℕ) → first ≡ get_or order 0 first → get_or order 0 0 ≢ slot → 0 < times slot order → place slot (rotated order first) < place slot order
place-falls slot [] first is other some = absurd (omega (arith, some))
place-falls slot (x ∷ xs) first is other some =
    let differs : x ≢ slot = other in
    let all : times slot (x ∷ xs) ≡ from_bool (x == slot) + times slot xs = times-cons slot x xs in
    let none : from_bool (x == slot) ≡ 0 = from_bool-other x slot differs in
    let now : place slot (xs ++ first ∷ []) ≡ place slot xs = place-append slot xs first (omega (arith, some)) in
    let before : place slot (x ∷ xs) ≡ suc (place slot xs) = ap (λ (b : Bool). cond b 0 (suc (place slot xs))) (ne_eqb x slot differs) in
    omega arith
