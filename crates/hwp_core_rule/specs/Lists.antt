-- Members of lists that views have, and bodies wherever they are.
use Rattle.std.specs.Prelude.{◌≡◌, ℕ, ◌+◌, ◌++◌, List, Option, Some, None, slice_get}
use Rattle.std.specs.List.{sum_by}
use Rattle.hwp_core_rule.specs.declared.log.Log.{Log}
use Rattle.hwp_core_rule.specs.declared.view.InHand.{InHand}

-- some member of the list is so
abbrev pub SomeMember : {A : Type 0} → (A → Type 0) → List A → Type 0
SomeMember {A} P list = (i : ℕ) × (x : A) × (slice_get list i ≡ Some x) × P x

-- each member of the list is so
abbrev pub EachMember : {A : Type 0} → (A → Type 0) → List A → Type 0
EachMember {A} P list = (i : ℕ) (x : A) → slice_get list i ≡ Some x → P x

-- the same for the members of all lists of a list
abbrev pub SomeListed : {A : Type 0} → (A → Type 0) → List (List A) → Type 0
SomeListed P lists = SomeMember (SomeMember P) lists

abbrev pub EachListed : {A : Type 0} → (A → Type 0) → List (List A) → Type 0
EachListed P lists = EachMember (EachMember P) lists

-- a sum over the members of all lists of a list
abbrev pub sum_all : {A : Type 0} → (A → ℕ) → List (List A) → ℕ
sum_all f lists = sum_by (sum_by f) lists

-- the list begins with this front
abbrev pub StartsWith : {A : Type 0} → List A → List A → Type 0
StartsWith {A} front list = (rest : List A) × (list ≡ front ++ rest)

-- the slots at home: `None` for one that is out with a seat, and `Some None` for an empty one
abbrev pub Homes : Type 0
Homes = List (Option (Option Log))

-- each body is so: those at home, and those in hand as they are listed
pub record EachBody (P : Log → Type 0) (homes : Homes) (bodies : List (List InHand)) : Type 0 where
  pub at_home : (i : ℕ) (log : Log) → slice_get homes i ≡ Some (Some (Some log)) → P log
  pub in_hand : EachListed (λ (b : InHand). P b.log) bodies

-- what f says of the body in a slot, and 0 where it has none
abbrev pub of_home : (Log → ℕ) → Option (Option Log) → ℕ
of_home f None = 0
of_home f (Some None) = 0
of_home f (Some (Some log)) = f log

-- a sum over all bodies
abbrev pub sum_bodies : (Log → ℕ) → Homes → List (List InHand) → ℕ
sum_bodies f homes bodies = sum_by (of_home f) homes + sum_all (λ (b : InHand). f b.log) bodies
