-- How often a frame's lock is among those that a seat's views list.
use Rattle.std.proofs.Common.{◌≡◌, ℕ, zero, suc, ◌+◌, ◌<◌, ◌≤◌, ◌==◌, List, [], ◌∷◌, ◌++◌, Some, slice_get, refl, ap, ◌∙◌, arith}
use Rattle.std.proofs.lemmas.List.Sums.{sum_by-cons, sum_by-append}
use Rattle.std.proofs.lemmas.Option.{none-some, same_Some}
use Rattle.std.specs.Int.{from_bool}
use Rattle.hwp_core_rule.specs.declared.FrameLock.{FrameLock}
use Rattle.hwp_core_rule.specs.declared.View.{View}
use Rattle.hwp_core_rule.specs.Lists.{SomeMember}
use Rattle.hwp_core_rule.specs.Views.{locks_on}
use Rattle.hwp_core_rule.proofs.Lists.{sum-map}
use Rattle.hwp_table_words.specs.tlb.Rule.{frames_of, locks_in, times}

pub times-append : (n : ℕ) (xs ys : List ℕ) → times n (xs ++ ys) ≡ times n xs + times n ys
times-append n xs ys = sum_by-append (λ (m : ℕ). from_bool (m == n)) xs ys

pub times-cons : (n x : ℕ) (xs : List ℕ) → times n (x ∷ xs) ≡ from_bool (x == n) + times n xs
times-cons n x xs = sum_by-cons (λ (m : ℕ). from_bool (m == n)) x xs

pub times-frames : (f : ℕ) (locks : List FrameLock) → times f (frames_of locks) ≡ locks_on f locks
times-frames f locks = sum-map (λ (m : ℕ). from_bool (m == f)) (λ (l : FrameLock). l.frame.0) locks

-- of a seat with one view
pub locks-one : (c : ℕ) (v : View) (f : ℕ) → times f (locks_in ((c, v) ∷ [])) ≡ locks_on f v.locks
locks-one c v f = let all : times f (frames_of v.locks ++ []) ≡ times f (frames_of v.locks) + times f [] = times-append f (frames_of v.locks) [] in
    let none : times f [] ≡ 0 = refl in
    let one : times f (frames_of v.locks) ≡ locks_on f v.locks = times-frames f v.locks in
    omega (arith, all, none, one)

-- a lock that one of the views lists
pub at-listed : (f : ℕ) (mines : List (ℕ × View)) (i : ℕ) (x : ℕ × View) → slice_get mines i ≡ Some x → times f (frames_of x.1.locks) ≤ times f (locks_in mines)
at-listed f [] i x e = absurd (none-some x e)
at-listed f (y ∷ ys) zero x e =
    let all : times f (frames_of y.1.locks ++ locks_in ys) ≡ times f (frames_of y.1.locks) + times f (locks_in ys) = times-append f (frames_of y.1.locks) (locks_in ys) in
    let same : times f (frames_of y.1.locks) ≡ times f (frames_of x.1.locks) = ap (λ (z : ℕ × View). times f (frames_of z.1.locks)) (same_Some y x e) in
    omega (arith, all, same)
at-listed f (y ∷ ys) (suc i) x e =
    let all : times f (frames_of y.1.locks ++ locks_in ys) ≡ times f (frames_of y.1.locks) + times f (locks_in ys) = times-append f (frames_of y.1.locks) (locks_in ys) in
    let less : times f (frames_of x.1.locks) ≤ times f (locks_in ys) = at-listed f ys i x e in
    omega (arith, all, less)

pub listed-in : (f c : ℕ) (v : View) (mines : List (ℕ × View)) → SomeMember (λ (x : ℕ × View). x ≡ (c, v)) mines → 0 < times f (frames_of v.locks) → 0 < times f (locks_in mines)
listed-in f c v mines mine some =
    let less : times f (frames_of v.locks) ≤ times f (locks_in mines) = at-listed f mines mine.0 (c, v) (mine.2 ∙ ap Some mine.3) in
    omega (arith, less, some)

-- a lock that is listed is listed by one of the views
pub some-listed : (f : ℕ) (mines : List (ℕ × View)) → 0 < times f (locks_in mines) → SomeMember (λ (x : ℕ × View). 0 < locks_on f x.1.locks) mines
some-listed f [] some = absurd (omega (arith, some))
some-listed f (y ∷ ys) some = which (some-listed f ys) (locks_on f y.1.locks) refl
  where
    all : times f (frames_of y.1.locks ++ locks_in ys) ≡ times f (frames_of y.1.locks) + times f (locks_in ys)
    all = times-append f (frames_of y.1.locks) (locks_in ys)

    again : times f (frames_of y.1.locks) ≡ 0 → 0 < times f (locks_in ys)
    again none = omega (arith, all, none, some)

    later : SomeMember (λ (x : ℕ × View). 0 < locks_on f x.1.locks) ys → SomeMember (λ (x : ℕ × View). 0 < locks_on f x.1.locks) (y ∷ ys)
    later at = (suc at.0, at.1, at.2, at.3)

    which : (0 < times f (locks_in ys) → SomeMember (λ (x : ℕ × View). 0 < locks_on f x.1.locks) ys) → (n : ℕ) → locks_on f y.1.locks ≡ n → SomeMember (λ (x : ℕ × View). 0 < locks_on f x.1.locks) (y ∷ ys)
    which rest zero is = later (rest (again (times-frames f y.1.locks ∙ is)))
    which rest (suc n) is = (0, y, refl, omega (arith, is))
