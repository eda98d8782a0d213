-- What it is to read a text: to find what it is the print of.
use Rattle.std.specs.Prelude.{◌≡◌, ℕ, ◌^◌, ◌<◌, List, [], ◌∷◌, decimal, All, Option, MatchOption}

-- a text is read as that which fits and has it as its print, and not read where there is no such thing
abbrev pub IsReadAs : {A B : Type 0} → (A → Type 0) → (A → B) → B → Option A → Type 0
IsReadAs {A} {B} Fits print text read =
    MatchOption read ((x : A) → Fits x → text ≡ print x → ⊥) (λ x. Fits x × (text ≡ print x))

-- a word is read as that which it names
abbrev pub IsNamedBy : {A : Type 0} → (A → List ℕ) → List ℕ → Option A → Type 0
IsNamedBy {A} name word read = MatchOption read ((x : A) → word ≡ name x → ⊥) (λ x. word ≡ name x)

-- a word is read as that of these values which it names
abbrev pub IsAmong : {A : Type 0} → (A → List ℕ) → List A → List ℕ → Option A → Type 0
IsAmong {A} name all word read = MatchOption read (All (λ (x : A). word ≡ name x → ⊥) all) (λ x. word ≡ name x)

-- a number below a bound
abbrev pub Below : ℕ → ℕ → Type 0
Below bound n = n < bound

-- that of which each fits
abbrev pub Any : {A : Type 0} → A → Type 0
Any x = Unit {0}

-- two numbers
abbrev pub two_words : ℕ × ℕ → List (List ℕ)
two_words ns = decimal ns.0 ∷ decimal ns.1 ∷ []

abbrev pub AreBelow : ℕ × ℕ → Type 0
AreBelow ns = (ns.0 < 2 ^ 64) × (ns.1 < 2 ^ 64)
