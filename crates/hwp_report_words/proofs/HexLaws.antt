-- Numbers in hex.
use Rattle.std.proofs.Common.{ℕ, ◌≡◌, ◌≢◌, ◌<◌, ◌≤◌, ◌^◌, ◌+◌, ◌*◌, ◌/◌, ◌%◌, ◌++◌, ◌==◌, ◌⊎◌, Bool, true, false, if◌then◌else◌, inl, inr, List, [], ◌∷◌, length, take, get_or, zero, suc, refl, sym, ap, subst, ◌∙◌, append_assoc, arith, pow-suc}
use Rattle.std.specs.Prelude.{All}
use Rattle.std.specs.Fmt.{digits, digits_onto, digit_glyph}
use Rattle.std.proofs.lemmas.Bool.{cases_lt}
use Rattle.std.proofs.lemmas.Bool.Decides.{nat_tests}
use Rattle.std.proofs.lemmas.Fmt.{digits_is_IsNumeral}
use Rattle.std.proofs.lemmas.List.{take_all, take_more}
use Rattle.std.proofs.lemmas.List.Elements.{All-nil, All-cons, All-get_or}
use Rattle.std.proofs.Math.Nat.{pow-le-pow_right}
use Rattle.hwp_script_words.specs.hwp_geom.Words.{hex}

-- the digits of n in front of others
abbrev onto : ℕ → ℕ → List ℕ → List ℕ
onto k n acc = digits_onto k 16 false n acc

abbrev glyph : ℕ → ℕ
glyph d = digit_glyph false d

-- a number below 16 has one digit, a greater one more
last_digit : (k n : ℕ) (acc : List ℕ) → n < 16 → onto (suc k) n acc ≡ glyph (n % 16) ∷ acc
last_digit k n acc small = by (n / 16 == 0) refl
  where
    by : (test : Bool) → (n / 16 == 0) ≡ test → onto (suc k) n acc ≡ glyph (n % 16) ∷ acc
    by true e = ap (λ (b : Bool). if b then glyph (n % 16) ∷ acc else onto k (n / 16) (glyph (n % 16) ∷ acc)) e
    by false e = absurd (grind (arith, nat_tests))

next_digit : (k n : ℕ) (acc : List ℕ) → 16 ≤ n → onto (suc k) n acc ≡ onto k (n / 16) (glyph (n % 16) ∷ acc)
next_digit k n acc large = by (n / 16 == 0) refl
  where
    by : (test : Bool) → (n / 16 == 0) ≡ test → onto (suc k) n acc ≡ onto k (n / 16) (glyph (n % 16) ∷ acc)
    by true e = absurd (grind (arith, nat_tests))
    by false e = ap (λ (b : Bool). if b then glyph (n % 16) ∷ acc else onto k (n / 16) (glyph (n % 16) ∷ acc)) e

one_or_more : (n : ℕ) → (n < 16) ⊎ (16 ≤ n)
one_or_more n = cases_lt n 16

-- the digits stand in front of what was there
onto-append : (k n : ℕ) (acc : List ℕ) → onto k n acc ≡ onto k n [] ++ acc
onto-append zero n acc = refl
onto-append (suc k) n acc = elim (one_or_more n) [
  | inl small ↦ last_digit k n acc small ∙ sym (ap (λ t. t ++ acc) (last_digit k n [] small))
  | inr large ↦ next_digit k n acc large
      ∙ onto-append k (n / 16) (glyph (n % 16) ∷ acc)
      ∙ sym (append_assoc (onto k (n / 16) []) (glyph (n % 16) ∷ []) acc)
      ∙ ap (λ t. t ++ acc) (sym (onto-append k (n / 16) (glyph (n % 16) ∷ [])))
      ∙ ap (λ t. t ++ acc) (sym (next_digit k n [] large))
]

power : (j : ℕ) → 16 ^ (suc j + 1) ≡ 16 ^ (j + 1) * 16
power j = let e : suc j + 1 ≡ suc (j + 1) = omega arith in rw e (pow-suc 16 (j + 1))

-- more room changes nothing where there is enough
enough : (k j n : ℕ) (acc : List ℕ) → n < 16 ^ (k + 1) → n < 16 ^ (j + 1) → onto (suc k) n acc ≡ onto (suc j) n acc
enough zero j n acc a b = let small : n < 16 = omega arith in last_digit 0 n acc small ∙ sym (last_digit j n acc small)
enough (suc k) zero n acc a b = let small : n < 16 = omega arith in last_digit (suc k) n acc small ∙ sym (last_digit 0 n acc small)
enough (suc k) (suc j) n acc a b = elim (one_or_more n) [
  | inl small ↦ last_digit (suc k) n acc small ∙ sym (last_digit (suc j) n acc small)
  | inr large ↦ next_digit (suc k) n acc large
      ∙ enough k j (n / 16) (glyph (n % 16) ∷ acc) (omega (arith, power k)) (omega (arith, power j))
      ∙ sym (next_digit (suc j) n acc large)
]

pub hex_one : (d : ℕ) → d < 16 → hex d ≡ glyph d ∷ []
unfolding digits
hex_one d small = last_digit 63 d [] small ∙ ap (λ k. glyph k ∷ []) (omega arith)

-- one digit more at the end
pub hex_more : (v d : ℕ) → 1 ≤ v → d < 16 → v * 16 + d < 2 ^ 64 → hex (v * 16 + d) ≡ hex v ++ glyph d ∷ []
unfolding digits
hex_more v d some small fits =
    let front : (v * 16 + d) / 16 ≡ v = omega arith in
    let end : (v * 16 + d) % 16 ≡ d = omega arith in
    next_digit 63 (v * 16 + d) [] (omega arith)
    ∙ ap (λ k. onto 63 k (glyph ((v * 16 + d) % 16) ∷ [])) front
    ∙ ap (λ k. onto 63 v (glyph k ∷ [])) end
    ∙ onto-append 63 v (glyph d ∷ [])
    ∙ ap (λ t. t ++ glyph d ∷ []) (enough 62 63 v [] (omega arith) (omega arith))

-- a byte that is a digit
pub record IsGlyph (b : ℕ) : Type 0 where
  pub digit : ℕ
  pub small : digit < 16
  pub is : b ≡ glyph digit

onto_glyphs : (k n : ℕ) (acc : List ℕ) → All IsGlyph acc → All IsGlyph (onto k n acc)
onto_glyphs zero n acc h = h
onto_glyphs (suc k) n acc h =
    let more = All-cons IsGlyph (glyph (n % 16)) acc (record { digit = n % 16; small = omega arith; is = refl }) h in
    elim (one_or_more n) [
      | inl small ↦ rw (last_digit k n acc small) more
      | inr large ↦ rw (next_digit k n acc large) (onto_glyphs k (n / 16) (glyph (n % 16) ∷ acc) more)
    ]

pub hex_glyphs : (n : ℕ) → All IsGlyph (hex n)
unfolding digits
hex_glyphs n = onto_glyphs 64 n [] (All-nil IsGlyph)

onto_short : (k j n : ℕ) (acc : List ℕ) → n < 16 ^ (j + 1) → length (onto k n acc) ≤ j + 1 + length acc
onto_short zero j n acc l = omega arith
onto_short (suc k) zero n acc l = let small : n < 16 = omega arith in rw (last_digit k n acc small) (omega arith)
onto_short (suc k) (suc j) n acc l = elim (one_or_more n) [
  | inl small ↦ rw (last_digit k n acc small) (omega arith)
  | inr large ↦ rw (next_digit k n acc large) (omega (arith, onto_short k j (n / 16) (glyph (n % 16) ∷ acc) (omega (arith, power j))))
]

pub hex_short : (n : ℕ) → n < 2 ^ 64 → length (hex n) ≤ 16
unfolding digits
hex_short n h = omega (arith, onto_short 64 15 n [] (omega arith))

glyph_not_zero : (d : ℕ) → 1 ≤ d → d < 16 → glyph d ≢ 48
glyph_not_zero d some small e = grind (arith, nat_tests)

onto_first : (k n : ℕ) (acc : List ℕ) → 1 ≤ n → n < 16 ^ (k + 1) → get_or (onto (suc k) n acc) 0 0 ≢ 48
onto_first zero n acc some fits = let small : n < 16 = omega arith in rw (last_digit 0 n acc small) (glyph_not_zero (n % 16) (omega arith) (omega arith))
onto_first (suc k) n acc some fits = elim (one_or_more n) [
  | inl small ↦ rw (last_digit (suc k) n acc small) (glyph_not_zero (n % 16) (omega arith) (omega arith))
  | inr large ↦ rw (next_digit (suc k) n acc large) (onto_first k (n / 16) (glyph (n % 16) ∷ acc) (omega arith) (omega (arith, power k)))
]

-- the first digit of a number other than 0
pub hex_first : (n : ℕ) → 1 ≤ n → n < 2 ^ 64 → get_or (hex n) 0 0 ≢ 48
unfolding digits
hex_first n some fits = onto_first 63 n [] some (omega arith)

-- the first i digits were read as n, and the first of all is not 0
pub record AreHexSoFar (ds : List ℕ) (i n : ℕ) : Type 0 where
  pub fits : n < 16 ^ i
  pub none : i ≡ 0 → n ≡ 0
  pub some : 1 ≤ i → 1 ≤ n
  pub same : 1 ≤ i → take i ds ≡ hex n

pub no_hex : (ds : List ℕ) → AreHexSoFar ds 0 0
no_hex ds = record { fits = omega arith; none = λ e. refl; some = λ l. absurd (omega arith); same = λ l. absurd (omega arith) }

-- fifteen digits or fewer leave room for one more
pub hex_room : (ds : List ℕ) (i n : ℕ) → i < 16 → AreHexSoFar ds i n → n < 2 ^ 60
hex_room ds i n l h =
    let most : 16 ^ i ≤ 16 ^ 15 = pow-le-pow_right (omega arith) {i = i} {j = 15} (omega arith) in omega (arith, h.fits)

-- a digit that is not 0
some_digit : (d : ℕ) → glyph d ≢ 48 → 1 ≤ d
some_digit zero h = absurd (h refl)
some_digit (suc d) h = omega arith

-- one digit more was read
pub more_hex : (ds : List ℕ) (i n d : ℕ) → i < length ds → i < 16 → get_or ds 0 0 ≢ 48 → d < 16 → get_or ds i 0 ≡ glyph d → AreHexSoFar ds i n
    → AreHexSoFar ds (i + 1) (n * 16 + d)
more_hex ds zero n d l short first small e h =
    let none : n ≡ 0 = h.none refl in
    let value : n * 16 + d ≡ d = omega arith in
    let some : 1 ≤ d = some_digit d (λ z. first (e ∙ z)) in
    record {
      fits = omega arith;
      none = λ z. absurd (omega arith);
      some = λ z. omega arith;
      same = λ z. take_more ds 0 0 l ∙ ap (λ b. b ∷ []) e ∙ sym (ap hex value ∙ hex_one d small);
    }
more_hex ds (suc i) n d l short first small e h =
    let room = hex_room ds (suc i) n short h in
    let some : 1 ≤ n = h.some (omega arith) in
    record {
      fits = let more : 16 ^ (suc i + 1) ≡ 16 ^ suc i * 16 = (let s : suc i + 1 ≡ suc (suc i) = omega arith in rw s (pow-suc 16 (suc i))) in omega (arith, h.fits);
      none = λ z. absurd (omega arith);
      some = λ z. omega arith;
      same = λ z.
          take_more ds (suc i) 0 l
          ∙ ap (λ t. t ++ get_or ds (suc i) 0 ∷ []) (h.same (omega arith))
          ∙ ap (λ b. hex n ++ b ∷ []) e
          ∙ sym (hex_more n d some small (omega arith));
    }

-- all digits were read
pub all_hex : (ds : List ℕ) (i n : ℕ) → 0 < length ds → length ds ≤ 16 → length ds ≤ i → i ≤ length ds → AreHexSoFar ds i n → (n < 2 ^ 64) × (ds ≡ hex n)
all_hex ds i n some short all few h =
    let most : 16 ^ i ≤ 16 ^ 16 = pow-le-pow_right (omega arith) {i = i} {j = 16} (omega arith) in
    (omega (arith, h.fits), sym (take_all i ds all) ∙ h.same (omega arith))

-- where a byte is no digit, the bytes are no number
pub no_glyph : (ds : List ℕ) (i : ℕ) → i < length ds → ((d : ℕ) → d < 16 → get_or ds i 0 ≡ glyph d → ⊥) → (n : ℕ) → ds ≡ hex n → ⊥
no_glyph ds i l none n e =
    let here = All-get_or IsGlyph ds i 0 l (subst (All IsGlyph) (sym e) (hex_glyphs n)) in none here.digit here.small here.is

-- what the print of a number begins with
pub record IsHexWord (word : List ℕ) : Type 0 where
  pub some : 0 < length word
  pub short : length word ≤ 16
  pub first : word ≢ 48 ∷ [] → get_or word 0 0 ≢ 48

zero_or_more : (n : ℕ) → (n ≡ 0) ⊎ (1 ≤ n)
zero_or_more zero = inl refl
zero_or_more (suc n) = inr (omega arith)

pub hex_word : (word : List ℕ) (n : ℕ) → n < 2 ^ 64 → word ≡ hex n → IsHexWord word
hex_word word n small e = elim (zero_or_more n) [
  | inl none ↦
      let is : word ≡ 48 ∷ [] = e ∙ ap hex none ∙ hex_one 0 (omega arith) in
      record { some = rw is (omega arith); short = rw is (omega arith); first = λ other. absurd (other is) }
  | inr some ↦ record {
    some = rw e ((digits_is_IsNumeral 16 false (omega arith) (omega arith) n (omega arith)).0.0);
    short = rw e (hex_short n small);
    first = λ other. rw e (hex_first n some small);
  }
]

pub zero_word : (word : List ℕ) → word ≡ 48 ∷ [] → (0 < 2 ^ 64) × (word ≡ hex 0)
zero_word word e = (omega arith, e ∙ sym (hex_one 0 (omega arith)))
