-- The accesses of a copy, one after the other: whose lines and translations they are, and how many come.
use Rattle.std.proofs.Common.{◌≡◌, ◌⊎◌, inl, inr, ℕ, ◌+◌, ◌-◌, ◌*◌, ◌<◌, ◌≤◌, Bool, true, false, nat_lt, List, [], Some, length, if◌then◌else◌, refl, sym, ap, subst, arith}
use Rattle.std.proofs.lemmas.Bool.{both_ways, ltb-true, ltb-false}
use Rattle.std.proofs.lemmas.Option.{none-some, same_Some}
use Rattle.hwp_fault.specs.hwp_geom.declared.Page.{Page}
use Rattle.hwp_fault.specs.hwp_geom.Limits.{line_limit}
use Rattle.hwp_fault.specs.declared.Request.{Request}
use Rattle.hwp_fork.specs.declared.cow.Cow.{Cow}
use Rattle.hwp_fork.specs.declared.cow.CowAt.{CowAt}
use Rattle.hwp_fork.specs.declared.cow.CowAt.TheVariants as cow_at
use Rattle.hwp_fork.specs.declared.cow.Sub.{Sub}
use Rattle.hwp_fork.specs.declared.cow.Sub.TheVariants as subs
use Rattle.hwp_fork.specs.Cows.{HasTold, HasToldAt, sub_at, sub_of, told_all, told_at, told_by}
use Rattle.hwp_fork.proofs.CowLaws.{has-told-all}
use Rattle.hwp_cpu_access.specs.Copyings.{load_of, request_by, store_of}
use Rattle.hwp_cpu_access.specs.CopyCosts.{behind}
use Rattle.hwp_cpu_access.specs.CopyFits.{begun}

-- what it asks for: a line of the page through the translation or its twin, or the freeing of the translation
abbrev pub IsOwn : Cow → Sub → Type 0
IsOwn c (subs.Load slot line) = (slot ≡ c.v) × (line < line_limit)
IsOwn c (subs.Store slot line word) = (slot ≡ c.w) × ((line < line_limit) ⊎ (line ≡ c.line))
IsOwn c (subs.Free slot) = slot ≡ c.v
IsOwn c subs.Switched = Unit {0}

pub sub-own : (c : Cow) (told : List ℕ) → HasTold told c → IsOwn c (sub_of c)
sub-own c told = which c.at
  where
    which : (x : CowAt) → HasToldAt told x → IsOwn c (sub_at c x)
    which (cow_at.Load line) has = (refl, has.0)
    which (cow_at.Store line word) has = (refl, inl has.0)
    which cow_at.Last has = (refl, inr refl)
    which cow_at.Free has = refl
    which cow_at.Switched has = tt

-- a copy that was told these words has been told them
pub told-of : (c : Cow) (words : List ℕ) → c ≡ told_all (begun c) words → HasTold words c
told-of c words is = substs (has-told-all (begun c) [] words (omega arith, omega arith))
  where
    substs : HasTold words (told_all (begun c) words) → HasTold words c
    substs = subst (HasTold words) (sym is)

-- ---- whose request it is

pub request-who : (store : Request) (page : Page) (sub : Sub) {a : Request} → request_by store page sub ≡ Some a → (a.who ≡ store.who) × (a.process ≡ store.process)
request-who store page (subs.Load slot line) {a} is = let same : load_of store page slot line ≡ a = same_Some (load_of store page slot line) a is in (ap (λ (r : Request). r.who) (sym same), ap (λ (r : Request). r.process) (sym same))
request-who store page (subs.Store slot line word) {a} is = let same : store_of store slot line word ≡ a = same_Some (store_of store slot line word) a is in (ap (λ (r : Request). r.who) (sym same), ap (λ (r : Request). r.process) (sym same))
request-who store page (subs.Free slot) {a} is = absurd (none-some a is)
request-who store page subs.Switched {a} is = absurd (none-some a is)

-- ---- one fewer

abbrev is_end : Sub → Bool
is_end subs.Switched = true
is_end _ = false

ended : (sub : Sub) → is_end sub ≡ false → sub ≡ subs.Switched → ⊥
ended sub other is = both_ways (is_end sub) other (ap is_end is)

-- a copy that is at its end was told of all of them
pub told-of-all : (c : Cow) (told : List ℕ) → HasTold told c → sub_of c ≡ subs.Switched → 2 * line_limit + 2 ≤ length told
told-of-all c told = which c.at
  where
    which : (x : CowAt) → HasToldAt told x → sub_at c x ≡ subs.Switched → 2 * line_limit + 2 ≤ length told
    which cow_at.Switched has is = has
    which (cow_at.Load line) has is = absurd (ended (subs.Load c.v line) refl is)
    which (cow_at.Store line word) has is = absurd (ended (subs.Store c.w line word) refl is)
    which cow_at.Last has is = absurd (ended (subs.Store c.w c.line c.x) refl is)
    which cow_at.Free has is = absurd (ended (subs.Free c.v) refl is)

module _ (store : Request) (page : Page) (value : ℕ) where
  -- behind an access the copy isn't at its end
  pub goes-on : (c : Cow) {a : Request} → request_by store page (sub_of c) ≡ Some a → sub_of (told_by c value) ≡ subs.Switched → ⊥
  goes-on c {a} = which c.at
    where
      next : (line : ℕ) (b : Bool) → sub_at c (if b then cow_at.Load line else cow_at.Last) ≡ subs.Switched → ⊥
      next line true end = ended (subs.Load c.v line) refl end
      next line false end = ended (subs.Store c.w c.line c.x) refl end

      which : (x : CowAt) → request_by store page (sub_at c x) ≡ Some a → sub_at c (told_at x value) ≡ subs.Switched → ⊥
      which (cow_at.Load line) is end = ended (subs.Store c.w line value) refl end
      which (cow_at.Store line word) is end = next (line + 1) (nat_lt (line + 1) line_limit) end
      which cow_at.Last is end = ended (subs.Free c.v) refl end
      which cow_at.Free is end = none-some a is
      which cow_at.Switched is end = none-some a is

  -- and there is one access fewer
  pub fewer : (c : Cow) (told : List ℕ) {a : Request} → HasTold told c → request_by store page (sub_of c) ≡ Some a → behind (told_by c value).at + 1 ≡ behind c.at
  fewer c told {a} = which c.at
    where
      next : (line : ℕ) → line < line_limit → (b : Bool) → nat_lt (line + 1) line_limit ≡ b → behind (if b then cow_at.Load (line + 1) else cow_at.Last) + 1 ≡ 2 * (line_limit - line)
      next line within true is = let less : line + 1 < line_limit = ltb-true (line + 1) line_limit is in omega (arith, within, less)
      next line within false is = let last : line_limit ≤ line + 1 = ltb-false (line + 1) line_limit is in omega (arith, within, last)

      which : (x : CowAt) → HasToldAt told x → request_by store page (sub_at c x) ≡ Some a → behind (told_at x value) + 1 ≡ behind x
      which (cow_at.Load line) has is = omega arith
      which (cow_at.Store line word) has is = next line has.0 (nat_lt (line + 1) line_limit) refl
      which cow_at.Last has is = omega arith
      which cow_at.Free has is = absurd (none-some a is)
      which cow_at.Switched has is = absurd (none-some a is)

-- there are never more than 130
pub behind-few : (c : Cow) → behind c.at ≤ 129
behind-few c = which c.at
  where
    which : (x : CowAt) → behind x ≤ 129
    which (cow_at.Load line) = omega arith
    which (cow_at.Store line word) = omega arith
    which cow_at.Last = omega arith
    which cow_at.Free = omega arith
    which cow_at.Switched = omega arith
