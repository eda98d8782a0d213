-- How many places were marked, counted one after another.
use Rattle.std.proofs.Common.{◌≡◌, inl, inr, ℕ, zero, suc, ◌+◌, ◌-◌, ◌<◌, ◌≤◌, Bool, true, false, ap, ◌∙◌, arith}
use Rattle.std.specs.Bool.{nat_lt}
use Rattle.std.specs.Int.{from_bool}
use Rattle.std.proofs.Math.Nat.{add-zero}
use Rattle.std.proofs.lemmas.Bool.{cases_lt, le-ltb, lt-ltb}
use Rattle.hwp_banks.specs.hwp_geom.Limits.{line_limit}
use Rattle.hwp_check_event_line.specs.Scrubs.{marked_from}

module _ (low : ℕ → ℕ) where
  abbrev pub mark : ℕ → ℕ
  mark place = from_bool (nat_lt (low place) line_limit)

  pub mark-first : (place more : ℕ) → 0 < more → marked_from low place more ≡ mark place + marked_from low (place + 1) (more - 1)
  mark-first place zero some = absurd (omega (arith, some))
  mark-first place (suc more) some = ap (λ (n : ℕ). mark place + marked_from low (place + 1) n) (let e : more ≡ suc more - 1 = omega arith in e)

  pub mark-next : (place more number count next whole : ℕ) → number < more → next ≡ count + mark (place + number) → count + marked_from low (place + number) (more - number) ≡ whole → next + marked_from low (place + (number + 1)) (more - (number + 1)) ≡ whole
  mark-next place more number count next whole within next_is was =
      let first : marked_from low (place + number) (more - number) ≡ mark (place + number) + marked_from low (place + number + 1) (more - number - 1) = mark-first (place + number) (more - number) (omega (arith, within)) in
      let p : place + number + 1 ≡ place + (number + 1) = omega arith in
      let m : more - number - 1 ≡ more - (number + 1) = omega arith in
      let same : marked_from low (place + number + 1) (more - number - 1) ≡ marked_from low (place + (number + 1)) (more - (number + 1)) = ap (λ (x : ℕ). marked_from low x (more - number - 1)) p ∙ ap (marked_from low (place + (number + 1))) m in
      omega (arith, next_is, was, first, same)

  -- one place more at the end
  pub mark-last : (place n : ℕ) → marked_from low place (suc n) ≡ marked_from low place n + mark (place + n)
  mark-last place zero = let same : mark (place + 0) ≡ mark place = ap mark (add-zero place) in omega (arith, same)
  mark-last place (suc n) =
      let rest : marked_from low (place + 1) (suc n) ≡ marked_from low (place + 1) n + mark (place + 1 + n) = mark-last (place + 1) n in
      let same : mark (place + 1 + n) ≡ mark (place + suc n) = ap mark (let e : place + 1 + n ≡ place + suc n = omega arith in e) in
      omega (arith, rest, same)

  -- a place where any line may be met isn't marked
  pub unmarked : (place : ℕ) → low place ≡ line_limit → mark place ≡ 0
  unmarked place is = ap from_bool (le-ltb (low place) line_limit (let e : low place ≡ 64 = is in omega (arith, e)))

  pub is-unmarked : (place : ℕ) → low place ≤ line_limit → mark place ≡ 0 → low place ≡ line_limit
  is-unmarked place most none = elim (cases_lt (low place) line_limit) [
    | inl less ↦ absurd (let one : mark place ≡ 1 = ap from_bool (lt-ltb (low place) line_limit less) in omega (arith, one, none))
    | inr more ↦ let m : low place ≤ 64 = most in let n : 64 ≤ low place = more in let e : low place ≡ 64 = omega (arith, m, n) in e
  ]

pub one-most : (b : Bool) (n : ℕ) → n ≡ from_bool b → n ≤ 1
one-most true n is = let e : n ≡ 1 = is in omega (arith, e)
one-most false n is = let e : n ≡ 0 = is in omega (arith, e)
