-- What a copy has been told, and which access comes by that.
use Rattle.std.proofs.Common.{◌≡◌, ℕ, ◌+◌, ◌*◌, ◌<◌, ◌≤◌, Bool, true, false, nat_lt, List, [], ◌∷◌, ◌++◌, length, if◌then◌else◌, append-nil, refl, sym, subst, arith}
use Rattle.std.proofs.lemmas.Bool.{ltb-true, ltb-false}
use Rattle.std.proofs.lemmas.List.{append_assoc, get_or_push, length_push}
use Rattle.hwp_geom.specs.Limits.{line_limit}
use Rattle.hwp_fork.specs.declared.cow.Cow.{Cow}
use Rattle.hwp_fork.specs.declared.cow.CowAt.{CowAt}
use Rattle.hwp_fork.specs.declared.cow.CowAt.TheVariants as at
use Rattle.hwp_fork.specs.Cows.{HasTold, HasToldAt, due, sub_at, sub_of, told_all, told_at, told_by}
use Rattle.hwp_fork.proofs.SubLaws.{due-free, due-last, due-load, due-store, due-switched}

-- the access that comes is the one that is due
pub sub-due : (c : Cow) (told : List ℕ) → HasTold told c → sub_of c ≡ due c told
sub-due c told = which c.at
  where
    which : (x : CowAt) → HasToldAt told x → sub_at c x ≡ due c told
    which (at.Load line) has = due-load c told line has.0 has.1
    which (at.Store line word) has = due-store c told line word has.0 has.1 has.2
    which at.Last has = due-last c told has
    which at.Free has = due-free c told has
    which at.Switched has = due-switched c told has

-- one word more
pub has-told-more : (c : Cow) (told : List ℕ) (value : ℕ) → HasTold told c → HasTold (told ++ value ∷ []) (told_by c value)
has-told-more c told value = which c.at
  where
    one : length (told ++ value ∷ []) ≡ length told + 1
    one = length_push told value

    next : (line : ℕ) → line < line_limit → length told ≡ 2 * line + 1 → (b : Bool) → nat_lt (line + 1) line_limit ≡ b → HasToldAt (told ++ value ∷ []) (if b then at.Load (line + 1) else at.Last)
    next line within so_many true is = (ltb-true (line + 1) line_limit is, omega (arith, one, so_many))
    next line within so_many false is = let last : line_limit ≤ line + 1 = ltb-false (line + 1) line_limit is in omega (arith, one, so_many, within, last)

    which : (x : CowAt) → HasToldAt told x → HasToldAt (told ++ value ∷ []) (told_at x value)
    which (at.Load line) has = (has.0, omega (arith, one, has.1), get_or_push told value 0 (2 * line) has.1)
    which (at.Store line word) has = next line has.0 has.1 (nat_lt (line + 1) line_limit) refl
    which at.Last has = omega (arith, one, has)
    which at.Free has = omega (arith, one, has)
    which at.Switched has = omega (arith, one, has)

-- and some
pub has-told-all : (c : Cow) (told more : List ℕ) → HasTold told c → HasTold (told ++ more) (told_all c more)
has-told-all c told [] has = subst (λ (l : List ℕ). HasTold l c) (sym (append-nil told)) has
has-told-all c told (value ∷ more) has =
    subst (λ (l : List ℕ). HasTold l (told_all (told_by c value) more)) (append_assoc told (value ∷ []) more)
    (has-told-all (told_by c value) (told ++ value ∷ []) more (has-told-more c told value has))

-- whatever words it is told, what was asked for stays
pub asks-same : (c : Cow) (told : List ℕ) → told_all c told ≡ record c { at = (told_all c told).at }
asks-same c [] = refl
asks-same c (value ∷ told) = asks-same (told_by c value) told
