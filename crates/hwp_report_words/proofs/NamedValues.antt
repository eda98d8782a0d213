-- Values that one word names, each in its place among all of them.
use Rattle.std.proofs.Common.{ℕ, ◌≡◌, ◌<◌, ◌≤◌, ◌+◌, ◌∙◌, List, [], ◌∷◌, length, get_or, take, Option, Some, None, refl, sym, ap, subst, arith}
use Rattle.std.specs.Prelude.{All}
use Rattle.std.proofs.lemmas.List.{take_all}
use Rattle.std.proofs.lemmas.List.Elements.{All-more, All-get_or}
use Rattle.hwp_report_words.specs.Reads.{IsAmong, IsNamedBy}
use Rattle.hwp_report_text.specs.hwp_kill.declared.Policy.{Policy}
use Rattle.hwp_report_text.specs.hwp_kill.declared.Policy.TheVariants as policies
use Rattle.hwp_report_text.specs.hwp_page.declared.Situation.{Situation}
use Rattle.hwp_report_text.specs.hwp_page.declared.Situation.TheVariants as situations
use Rattle.hwp_report_text.specs.hwp_page.declared.Outcome.{Outcome}
use Rattle.hwp_report_text.specs.hwp_page.declared.Outcome.TheVariants as outcomes
use Rattle.hwp_report_text.specs.declared.Acted.{Acted}
use Rattle.hwp_report_text.specs.declared.Acted.TheVariants as acts

-- none of the first i values has this name
pub record IsNoneOf {A : Type 0} (P : A → Type 0) (xs : List A) (i : ℕ) : Type 0 where
  pub each : All (λ (x : A). P x → ⊥) (take i xs)

pub none_more : {A : Type 0} (P : A → Type 0) (xs : List A) (i : ℕ) (d : A) → i < length xs → IsNoneOf P xs i → (P (get_or xs i d) → ⊥) → IsNoneOf P xs (i + 1)
none_more P xs i d l h none = record { each = All-more (λ x. P x → ⊥) xs i d l h.each none }

pub none_all : {A : Type 0} (P : A → Type 0) (xs : List A) (i : ℕ) → length xs ≤ i → IsNoneOf P xs i → All (λ (x : A). P x → ⊥) xs
none_all P xs i l h = subst (All (λ x. P x → ⊥)) (take_all i xs l) h.each

-- a value has a place among all
pub record IsListed {A : Type 0} (all : List A) (d x : A) : Type 0 where
  pub place : ℕ
  pub fits : place < length all
  pub is : get_or all place d ≡ x

-- where each value has its place among all, the word is read as that which it names
pub named_read : {A : Type 0} (name : A → List ℕ) (all : List A) (d : A) → ((x : A) → IsListed all d x) → (word : List ℕ) (read : Option A)
    → IsAmong name all word read → IsNamedBy name word read
named_read name all d listed word None none = λ x e.
    let at = listed x in All-get_or (λ x. word ≡ name x → ⊥) all at.place d at.fits none (e ∙ ap name (sym at.is))
named_read name all d listed word (Some x) e = e

abbrev pub all_policies : List Policy
all_policies = policies.Late ∷ policies.Early ∷ policies.Default ∷ []

pub policy_listed : (x : Policy) → IsListed all_policies policies.Late x
policy_listed policies.Late = record { place = 0; fits = omega arith; is = refl }
policy_listed policies.Early = record { place = 1; fits = omega arith; is = refl }
policy_listed policies.Default = record { place = 2; fits = omega arith; is = refl }

abbrev pub all_situations : List Situation
all_situations = situations.Free ∷ situations.Kernel ∷ situations.FileClean ∷ situations.FileDirty ∷ situations.AnonOnly ∷ situations.SwapClean ∷ situations.SwapDirty ∷ situations.LockedClean ∷ situations.LockedFile ∷ situations.LockedAnon ∷ []

pub situation_listed : (x : Situation) → IsListed all_situations situations.Free x
situation_listed situations.Free = record { place = 0; fits = omega arith; is = refl }
situation_listed situations.Kernel = record { place = 1; fits = omega arith; is = refl }
situation_listed situations.FileClean = record { place = 2; fits = omega arith; is = refl }
situation_listed situations.FileDirty = record { place = 3; fits = omega arith; is = refl }
situation_listed situations.AnonOnly = record { place = 4; fits = omega arith; is = refl }
situation_listed situations.SwapClean = record { place = 5; fits = omega arith; is = refl }
situation_listed situations.SwapDirty = record { place = 6; fits = omega arith; is = refl }
situation_listed situations.LockedClean = record { place = 7; fits = omega arith; is = refl }
situation_listed situations.LockedFile = record { place = 8; fits = omega arith; is = refl }
situation_listed situations.LockedAnon = record { place = 9; fits = omega arith; is = refl }

abbrev pub all_outcomes : List Outcome
all_outcomes = outcomes.Recovered ∷ outcomes.Delayed ∷ outcomes.Ignored ∷ []

pub outcome_listed : (x : Outcome) → IsListed all_outcomes outcomes.Recovered x
outcome_listed outcomes.Recovered = record { place = 0; fits = omega arith; is = refl }
outcome_listed outcomes.Delayed = record { place = 1; fits = omega arith; is = refl }
outcome_listed outcomes.Ignored = record { place = 2; fits = omega arith; is = refl }

abbrev pub all_acted : List Acted
all_acted = acts.None ∷ acts.Keep ∷ acts.Deferred ∷ acts.Logged ∷ acts.Recovered ∷ acts.Delayed ∷ acts.Ignored ∷ acts.Already ∷ acts.Outside ∷ acts.Stop ∷ acts.Panic ∷ acts.Held ∷ []

pub acted_listed : (x : Acted) → IsListed all_acted acts.None x
acted_listed acts.None = record { place = 0; fits = omega arith; is = refl }
acted_listed acts.Keep = record { place = 1; fits = omega arith; is = refl }
acted_listed acts.Deferred = record { place = 2; fits = omega arith; is = refl }
acted_listed acts.Logged = record { place = 3; fits = omega arith; is = refl }
acted_listed acts.Recovered = record { place = 4; fits = omega arith; is = refl }
acted_listed acts.Delayed = record { place = 5; fits = omega arith; is = refl }
acted_listed acts.Ignored = record { place = 6; fits = omega arith; is = refl }
acted_listed acts.Already = record { place = 7; fits = omega arith; is = refl }
acted_listed acts.Outside = record { place = 8; fits = omega arith; is = refl }
acted_listed acts.Stop = record { place = 9; fits = omega arith; is = refl }
acted_listed acts.Panic = record { place = 10; fits = omega arith; is = refl }
acted_listed acts.Held = record { place = 11; fits = omega arith; is = refl }
