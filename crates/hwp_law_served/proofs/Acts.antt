-- What a command did beside its answer: the events that it told of and the frames that were taken out of use beside it, each of them once.
use Rattle.std.proofs.Common.{◌≡◌, ◌⊎◌, inl, inr, ℕ, zero, suc, ◌+◌, ◌==◌, Bool, true, false, List, [], ◌∷◌, map, Some, if◌then◌else◌, slice_get, refl, ap, arith}
use Rattle.std.specs.List.{sum_by}
use Rattle.std.proofs.lemmas.List.Sums.{sum_by-cons}
use Rattle.std.proofs.lemmas.Option.{none-some, same_Some}
use Rattle.hwp_cpu_row.specs.declared.Offlining.{Offlining}
use Rattle.hwp_cpu_row.specs.hwp_claim.declared.EventOutcome.{EventOutcome}
use Rattle.hwp_cpu_row.specs.Acts.{Act, Offlined, Told, acts, acts_from}

-- a member is one of the first, or one of the second
pub record IsTold (told : List EventOutcome) (a : Act) : Type 0 where
  pub j : ℕ
  pub t : EventOutcome
  pub there : slice_get told j ≡ Some t
  pub same : Told t ≡ a

pub record IsOffline (offlined : List Offlining) (a : Act) : Type 0 where
  pub j : ℕ
  pub o : Offlining
  pub there : slice_get offlined j ≡ Some o
  pub same : Offlined o ≡ a

abbrev pub IsOneOf : List EventOutcome → List Offlining → Act → Type 0
IsOneOf told offlined a = IsTold told a ⊎ IsOffline offlined a

later-told : {t : EventOutcome} {told : List EventOutcome} {offlined : List Offlining} {a : Act} → IsOneOf told offlined a → IsOneOf (t ∷ told) offlined a
later-told (inl is) = inl (record { j = suc is.j; t = is.t; there = is.there; same = is.same })
later-told (inr is) = inr is

later-offlined : {o : Offlining} {told : List EventOutcome} {offlined : List Offlining} {a : Act} → IsOneOf told offlined a → IsOneOf told (o ∷ offlined) a
later-offlined (inl is) = inl is
later-offlined (inr is) = inr (record { j = suc is.j; o = is.o; there = is.there; same = is.same })

act-from : (n : ℕ) (told : List EventOutcome) (offlined : List Offlining) (i : ℕ) (a : Act) → slice_get (acts_from n told offlined) i ≡ Some a → IsOneOf told offlined a
act-from n [] [] i a there = absurd (none-some a there)
act-from n (t ∷ ts) [] zero a there = inl (record { j = 0; t = t; there = refl; same = same_Some (Told t) a there })
act-from n (t ∷ ts) [] (suc i) a there = later-told (act-from n ts [] i a there)
act-from n [] (o ∷ os) zero a there = inr (record { j = 0; o = o; there = refl; same = same_Some (Offlined o) a there })
act-from n [] (o ∷ os) (suc i) a there = later-offlined (act-from n [] os i a there)
act-from n (t ∷ ts) (o ∷ os) i a there = which (o.told == n) i there (λ k. act-from n (t ∷ ts) os k a) (λ k. act-from (n + 1) ts (o ∷ os) k a)
  where
    which : (b : Bool) (i : ℕ) → slice_get (if b then Offlined o ∷ acts_from n (t ∷ ts) os else Told t ∷ acts_from (n + 1) ts (o ∷ os)) i ≡ Some a
        → ((k : ℕ) → slice_get (acts_from n (t ∷ ts) os) k ≡ Some a → IsOneOf (t ∷ ts) os a) → ((k : ℕ) → slice_get (acts_from (n + 1) ts (o ∷ os)) k ≡ Some a → IsOneOf ts (o ∷ os) a) → IsOneOf (t ∷ ts) (o ∷ os) a
    which true zero there more other = inr (record { j = 0; o = o; there = refl; same = same_Some (Offlined o) a there })
    which true (suc k) there more other = later-offlined (more k there)
    which false zero there more other = inl (record { j = 0; t = t; there = refl; same = same_Some (Told t) a there })
    which false (suc k) there more other = later-told (other k there)

pub act-of : (told : List EventOutcome) (offlined : List Offlining) (i : ℕ) (a : Act) → slice_get (acts told offlined) i ≡ Some a → IsOneOf told offlined a
act-of told offlined i a there = act-from 0 told offlined i a there

-- each of the second is one
offlined-from : (n : ℕ) (told : List EventOutcome) (offlined : List Offlining) (j : ℕ) (o : Offlining) → slice_get offlined j ≡ Some o → (i : ℕ) × (slice_get (acts_from n told offlined) i ≡ Some (Offlined o))
offlined-from n told [] j o there = absurd (none-some o there)
offlined-from n [] (p ∷ os) zero o there = (0, ap (λ (x : Offlining). Some (Offlined x)) (same_Some p o there))
offlined-from n [] (p ∷ os) (suc j) o there = let later = offlined-from n [] os j o there in (suc later.0, later.1)
offlined-from n (t ∷ ts) (p ∷ os) j o there = which (p.told == n) j there (λ k. offlined-from n (t ∷ ts) os k o) (offlined-from (n + 1) ts (p ∷ os) j o there)
  where
    which : (b : Bool) (j : ℕ) → slice_get (p ∷ os) j ≡ Some o → ((k : ℕ) → slice_get os k ≡ Some o → (i : ℕ) × (slice_get (acts_from n (t ∷ ts) os) i ≡ Some (Offlined o))) → (i : ℕ) × (slice_get (acts_from (n + 1) ts (p ∷ os)) i ≡ Some (Offlined o))
        → (i : ℕ) × (slice_get (if b then Offlined p ∷ acts_from n (t ∷ ts) os else Told t ∷ acts_from (n + 1) ts (p ∷ os)) i ≡ Some (Offlined o))
    which true zero there more other = (0, ap (λ (x : Offlining). Some (Offlined x)) (same_Some p o there))
    which true (suc k) there more other = let later = more k there in (suc later.0, later.1)
    which false k there more other = (suc other.0, other.1)

pub offlined-act : (told : List EventOutcome) (offlined : List Offlining) (j : ℕ) (o : Offlining) → slice_get offlined j ≡ Some o → (i : ℕ) × (slice_get (acts told offlined) i ≡ Some (Offlined o))
offlined-act told offlined j o there = offlined-from 0 told offlined j o there

-- what each counts, together: what the first count, and what the second do
sum-from : (f : Act → ℕ) (n : ℕ) (told : List EventOutcome) (offlined : List Offlining) → sum_by f (acts_from n told offlined) ≡ sum_by (λ (t : EventOutcome). f (Told t)) told + sum_by (λ (o : Offlining). f (Offlined o)) offlined
sum-from f n [] [] = refl
sum-from f n (t ∷ ts) [] =
    let rest : sum_by f (map Told ts) ≡ sum_by (λ (x : EventOutcome). f (Told x)) ts + 0 = sum-from f n ts [] in
    let one : sum_by f (Told t ∷ map Told ts) ≡ f (Told t) + sum_by f (map Told ts) = sum_by-cons f (Told t) (map Told ts) in
    let other : sum_by (λ (x : EventOutcome). f (Told x)) (t ∷ ts) ≡ f (Told t) + sum_by (λ (x : EventOutcome). f (Told x)) ts = sum_by-cons (λ (x : EventOutcome). f (Told x)) t ts in
    omega (arith, rest, one, other)
sum-from f n [] (o ∷ os) =
    let rest : sum_by f (acts_from n [] os) ≡ 0 + sum_by (λ (x : Offlining). f (Offlined x)) os = sum-from f n [] os in
    let one : sum_by f (Offlined o ∷ acts_from n [] os) ≡ f (Offlined o) + sum_by f (acts_from n [] os) = sum_by-cons f (Offlined o) (acts_from n [] os) in
    let other : sum_by (λ (x : Offlining). f (Offlined x)) (o ∷ os) ≡ f (Offlined o) + sum_by (λ (x : Offlining). f (Offlined x)) os = sum_by-cons (λ (x : Offlining). f (Offlined x)) o os in
    omega (arith, rest, one, other)
sum-from f n (t ∷ ts) (o ∷ os) = which (o.told == n) (sum-from f n (t ∷ ts) os) (sum-from f (n + 1) ts (o ∷ os))
  where
    which : (b : Bool) → sum_by f (acts_from n (t ∷ ts) os) ≡ sum_by (λ (x : EventOutcome). f (Told x)) (t ∷ ts) + sum_by (λ (x : Offlining). f (Offlined x)) os
        → sum_by f (acts_from (n + 1) ts (o ∷ os)) ≡ sum_by (λ (x : EventOutcome). f (Told x)) ts + sum_by (λ (x : Offlining). f (Offlined x)) (o ∷ os)
        → sum_by f (if b then Offlined o ∷ acts_from n (t ∷ ts) os else Told t ∷ acts_from (n + 1) ts (o ∷ os)) ≡ sum_by (λ (x : EventOutcome). f (Told x)) (t ∷ ts) + sum_by (λ (x : Offlining). f (Offlined x)) (o ∷ os)
    which true more rest =
        let one : sum_by f (Offlined o ∷ acts_from n (t ∷ ts) os) ≡ f (Offlined o) + sum_by f (acts_from n (t ∷ ts) os) = sum_by-cons f (Offlined o) (acts_from n (t ∷ ts) os) in
        let other : sum_by (λ (x : Offlining). f (Offlined x)) (o ∷ os) ≡ f (Offlined o) + sum_by (λ (x : Offlining). f (Offlined x)) os = sum_by-cons (λ (x : Offlining). f (Offlined x)) o os in
        omega (arith, more, one, other)
    which false more rest =
        let one : sum_by f (Told t ∷ acts_from (n + 1) ts (o ∷ os)) ≡ f (Told t) + sum_by f (acts_from (n + 1) ts (o ∷ os)) = sum_by-cons f (Told t) (acts_from (n + 1) ts (o ∷ os)) in
        let other : sum_by (λ (x : EventOutcome). f (Told x)) (t ∷ ts) ≡ f (Told t) + sum_by (λ (x : EventOutcome). f (Told x)) ts = sum_by-cons (λ (x : EventOutcome). f (Told x)) t ts in
        omega (arith, rest, one, other)

pub sum-acts : (f : Act → ℕ) (told : List EventOutcome) (offlined : List Offlining) → sum_by f (acts told offlined) ≡ sum_by (λ (t : EventOutcome). f (Told t)) told + sum_by (λ (o : Offlining). f (Offlined o)) offlined
sum-acts f told offlined = sum-from f 0 told offlined
