-- How many marks say the same tells whether a record ends so behind some number of its marks.
use Rattle.std.proofs.Common.{◌≡◌, ℕ, zero, suc, ◌+◌, ◌-◌, ◌<◌, ◌≤◌, cond, Bool, true, false, not, List, [], ◌∷◌, Some, fold, length, slice_get, slice_index_or, take, drop, true≢false, refl, sym, ap, ◌∙◌, subst, arith}
use Rattle.std.proofs.lemmas.Bool.{not-true}
use Rattle.std.proofs.lemmas.Option.{none-some, same_Some, slice_get-get_or, slice_get_within}
use Rattle.hwp_law.specs.hwp_report_text.declared.MarkLine.{MarkLine}
use Rattle.hwp_law.specs.Records.{is_poisoning}
use Rattle.hwp_check_event_line.specs.Nears.{run, runs, says}

-- the record ends so, where it is so before these marks
abbrev pub ends_from : Bool → List MarkLine → Bool
ends_from b list = fold (λ (before : Bool) (m : MarkLine). is_poisoning m) b list

pub not-self : (b : Bool) → b ≡ not b → ⊥
not-self true is = true≢false is
not-self false is = true≢false (sym is)

pub says-is : (b : Bool) (m : MarkLine) → says b m ≡ true → is_poisoning m ≡ b
says-is true m is = is
says-is false m is = not-true (is_poisoning m) is

pub unsaid-is : (b : Bool) (m : MarkLine) → says b m ≡ false → is_poisoning m ≡ not b
unsaid-is true m is = is
unsaid-is false m is = which (is_poisoning m) is
  where
    which : (x : Bool) → not x ≡ false → x ≡ true
    which true e = refl
    which false e = absurd (true≢false e)

pub run-turn : (b : Bool) (list : List MarkLine) (n : ℕ) → n ≤ length list → run b list < n → (k : ℕ) × (k ≤ n) × (ends_from b (take k list) ≡ not b)
run-turn b [] n within less = absurd (omega (arith, within, less))
run-turn b (m ∷ ms) zero within less = absurd (omega (arith, less))
run-turn b (m ∷ ms) (suc n) within less = which (says b m) refl less (λ l. run-turn b ms n (omega (arith, within)) l)
  where
    which : (s : Bool) → says b m ≡ s → cond s (run b ms + 1) 0 < suc n → (run b ms < n → (k : ℕ) × (k ≤ n) × (ends_from b (take k ms) ≡ not b)) → (k : ℕ) × (k ≤ suc n) × (ends_from b (take k (m ∷ ms)) ≡ not b)
    which true is l later =
        let next = later (omega (arith, l)) in
        let up : next.0 ≤ n = next.1 in
        (suc next.0, omega (arith, up), subst (λ (x : Bool). ends_from x (take next.0 ms) ≡ not b) (sym (says-is b m is)) next.2)
    which false is l later = (1, omega arith, unsaid-is b m is)

pub turn-run : (b : Bool) (list : List MarkLine) (k : ℕ) → ends_from b (take k list) ≡ not b → run b list < k
turn-run b [] zero is = absurd (not-self b is)
turn-run b [] (suc k) is = absurd (not-self b is)
turn-run b (m ∷ ms) zero is = absurd (not-self b is)
turn-run b (m ∷ ms) (suc k) is = which (says b m) refl (λ later. turn-run b ms k later)
  where
    which : (s : Bool) → says b m ≡ s → (ends_from b (take k ms) ≡ not b → run b ms < k) → cond s (run b ms + 1) 0 < suc k
    which true said rest = let less : run b ms < k = rest (subst (λ (x : Bool). ends_from x (take k ms) ≡ not b) (says-is b m said) is) in omega (arith, less)
    which false said rest = omega arith

take-none : (n : ℕ) → take {A = MarkLine} n [] ≡ []
take-none zero = refl
take-none (suc n) = refl

pub ends-split : (b : Bool) (list : List MarkLine) (first k : ℕ) → first ≤ k → ends_from b (take k list) ≡ ends_from (ends_from b (take first list)) (take (k - first) (drop first list))
ends-split b list zero k up = let e : k ≡ k - 0 = omega arith in ap (λ (n : ℕ). ends_from b (take n list)) e
ends-split b [] (suc first) zero up = absurd (omega (arith, up))
ends-split b [] (suc first) (suc k) up = sym (ap (ends_from b) (take-none (suc k - suc first)))
ends-split b (m ∷ ms) (suc first) zero up = absurd (omega (arith, up))
ends-split b (m ∷ ms) (suc first) (suc k) up =
    let e : k - first ≡ suc k - suc first = omega arith in
    ends-split (is_poisoning m) ms first k (omega (arith, up)) ∙ ap (λ (n : ℕ). ends_from (ends_from (is_poisoning m) (take first ms)) (take n (drop first ms))) e

-- the number kept of a mark is that of the marks from it on that say the same
pub runs-at : (list : List MarkLine) (i : ℕ) (m : MarkLine) (x : ℕ) → slice_get list i ≡ Some m → slice_get (runs list) i ≡ Some x → x ≡ run (is_poisoning m) (drop i list)
runs-at [] i m x there slot = absurd (none-some m there)
runs-at (y ∷ ys) zero m x there slot = sym (same_Some _ _ slot) ∙ ap (λ (z : MarkLine). run (is_poisoning z) (y ∷ ys)) (same_Some _ _ there)
runs-at (y ∷ ys) (suc i) m x there slot = runs-at ys i m x there slot

pub runs_long : (list : List MarkLine) → length (runs list) ≡ length list
runs_long [] = refl
runs_long (m ∷ ms) = ap suc (runs_long ms)

pub run_said : (b : Bool) (list : List MarkLine) (i : ℕ) (m : MarkLine) (x : ℕ) → slice_get list i ≡ Some m → says b m ≡ true → slice_get (runs list) i ≡ Some x → x ≡ run b (drop i list)
run_said b list i m x there is slot = runs-at list i m x there slot ∙ ap (λ (y : Bool). run y (drop i list)) (says-is b m is)

-- what is read of what is kept
pub run_read : (b : Bool) (list : List MarkLine) (kept : List ℕ) (i : ℕ) (m : MarkLine) → kept ≡ runs list → slice_get list i ≡ Some m → says b m ≡ true → slice_index_or kept i 0 ≡ run b (drop i list)
run_read b list kept i m are there is =
    let within : i < length list = slice_get_within list i m there in
    let slot : slice_get (runs list) i ≡ Some (slice_index_or (runs list) i 0) = slice_get-get_or (runs list) i 0 (subst (λ (n : ℕ). i < n) (sym (runs_long list)) within) in
    ap (λ (l : List ℕ). slice_index_or l i 0) are ∙ run_said b list i m (slice_index_or (runs list) i 0) there is slot

pub run_unsaid : (b : Bool) (list : List MarkLine) (i : ℕ) (m : MarkLine) → slice_get list i ≡ Some m → says b m ≡ false → run b (drop i list) ≡ 0
run_unsaid b [] i m there is = absurd (none-some m there)
run_unsaid b (x ∷ xs) zero m there is = ap (λ (s : Bool). cond s (run b xs + 1) 0) (ap (says b) (same_Some _ _ there) ∙ is)
run_unsaid b (x ∷ xs) (suc i) m there is = run_unsaid b xs i m there is

pub run_past : (b : Bool) (list : List MarkLine) (i : ℕ) → length list ≤ i → run b (drop i list) ≡ 0
run_past b [] zero past = refl
run_past b [] (suc i) past = refl
run_past b (x ∷ xs) zero past = absurd (omega (arith, past))
run_past b (x ∷ xs) (suc i) past = run_past b xs i (omega (arith, past))
