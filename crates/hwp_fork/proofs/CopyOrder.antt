-- Whatever words a copy is told one after the other, the accesses that come are, one after the other, those of one list.
use Rattle.std.proofs.Common.{◌≡◌, ℕ, zero, suc, ◌+◌, ◌*◌, ◌<◌, ◌≤◌, List, [], ◌∷◌, ◌++◌, length, take, slice_index, slice_index_or, refl, ap, ◌∙◌, arith}
use Rattle.std.proofs.lemmas.List.{get_or-take, length-take-le}
use Rattle.hwp_geom.specs.declared.VSlot.{VSlot}
use Rattle.hwp_geom.specs.Limits.{line_limit}
use Rattle.hwp_fork.specs.declared.cow.Cow.{Cow}
use Rattle.hwp_fork.specs.declared.cow.Sub.{Sub}
use Rattle.hwp_fork.specs.declared.cow.Sub.TheVariants.{Store, Free, Switched}
use Rattle.hwp_fork.specs.Subs.{copies, sub_after, subs}
use Rattle.hwp_fork.specs.Cows.{HasTold, begin, due, sub_of, told_all}
use Rattle.hwp_fork.proofs.CowLaws.{asks-same, has-told-all, sub-due}

-- the n-th access rests on no word but that of the one before it
same-at : (v w : VSlot) (a b : List ℕ) (from lines n : ℕ) (behind : List Sub) (d : Sub) → ((line : ℕ) → 2 * line + 1 ≡ 2 * from + n → slice_index a (2 * line) ≡ slice_index b (2 * line))
    → slice_index_or (copies v w a from lines ++ behind) n d ≡ slice_index_or (copies v w b from lines ++ behind) n d
same-at v w a b from zero n behind d same = refl
same-at v w a b from (suc lines) zero behind d same = refl
same-at v w a b from (suc lines) (suc zero) behind d same = ap (Store w from) (same from refl)
same-at v w a b from (suc lines) (suc (suc n)) behind d same =
    same-at v w a b (from + 1) lines n behind d
    (λ line is. same line (let on : 2 * line + 1 ≡ 2 * (from + 1) + n = is in let goal : 2 * line + 1 ≡ 2 * from + suc (suc n) = omega (arith, on) in goal))

-- so it is due by the words that were told before it
sub-take : (v w : VSlot) (line x : ℕ) (told : List ℕ) (n : ℕ) → n ≤ length told → sub_after v w line x (take n told) ≡ slice_index_or (subs v w line x told) n Switched
sub-take v w line x told n within =
    ap (λ (k : ℕ). slice_index_or (subs v w line x (take n told)) k Switched) (length-take-le n told within)
    ∙ same-at v w (take n told) told 0 line_limit n (Store w line x ∷ Free v ∷ []) Switched
    (λ k is. let before : 2 * k < n = omega (arith, is) in get_or-take n told (2 * k) 0 before)

-- a copy that was told some words, one for each of its accesses: the n-th access was the n-th of the list
pub nth-sub : (v w : VSlot) (line x : ℕ) (told : List ℕ) (n : ℕ) → n ≤ length told → sub_of (told_all (begin v w line x) (take n told)) ≡ slice_index_or (subs v w line x told) n Switched
nth-sub v w line x told n within =
    let c : Cow = begin v w line x in
    let has : HasTold (take n told) (told_all c (take n told)) = has-told-all c [] (take n told) (omega arith, omega arith) in
    sub-due (told_all c (take n told)) (take n told) has
    ∙ (ap (λ (k : Cow). due k (take n told)) (asks-same c (take n told)) ∙ sub-take v w line x told n within)
