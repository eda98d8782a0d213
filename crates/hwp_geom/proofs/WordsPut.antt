-- What is printed of a number is a word, and so is a fixed text of bytes above `#`: it isn't empty, and has no space, line feed or `#` in it.
use Rattle.std.proofs.Common.{ℕ, ◌≡◌, ◌≢◌, ◌<◌, ◌≤◌, ◌^◌, ◌++◌, nat_lt, ◌&&◌, Bool, true, false, List, [], ◌∷◌, length, decimal, arith}
use Rattle.std.specs.Prelude.{All}
use Rattle.std.specs.Char.{digit_value}
use Rattle.std.specs.Str.Parse.{AllDigits}
use Rattle.std.proofs.lemmas.Bool.{and_parts}
use Rattle.std.proofs.lemmas.Bool.Decides.{nat_tests}
use Rattle.std.proofs.lemmas.Fmt.{decimal_is_IsNumeral, digits_is_IsNumeral}
use Rattle.std.proofs.lemmas.List.{length-append}
use Rattle.std.proofs.lemmas.List.Elements.{All-nil, All-cons, All-append, All-weaker}
use Rattle.hwp_geom.specs.Words.{IsWord, hex}
use Rattle.hwp_geom.proofs.WordLaws.{not_nil}

-- a byte above `#`, and so above space and line feed
abbrev pub IsHigh : ℕ → Type 0
IsHigh b = 35 < b

-- a word as it is printed
pub record IsPut (w : List ℕ) : Type 0 where
  pub some : 0 < length w
  pub high : All IsHigh w

-- words as they are printed
pub record ArePut (ws : List (List ℕ)) : Type 0 where
  pub each : All IsPut ws

pub put_word : {w : List ℕ} → IsPut w → IsWord w
put_word {w} h = record {
  some = not_nil w h.some;
  no_space = All-weaker IsHigh (λ b. b ≢ 32) (λ b l e. omega (arith, l, e)) w h.high;
  no_feed = All-weaker IsHigh (λ b. b ≢ 10) (λ b l e. omega (arith, l, e)) w h.high;
}

pub put_append : {v : List ℕ} (w : List ℕ) → IsPut v → All IsHigh w → IsPut (v ++ w)
put_append {v} w h k = record { some = omega (arith, length-append v w, h.some); high = All-append IsHigh v w h.high k }

-- digits
digit_high : (b : ℕ) → digit_value b < 16 → IsHigh b
digit_high b h = grind (arith, nat_tests)

digits_high : (base : ℕ) → base ≤ 16 → (ds : List ℕ) → AllDigits base ds → All IsHigh ds
digits_high base low [] h = All-nil IsHigh
digits_high base low (d ∷ ds) h = All-cons IsHigh d ds (digit_high d (omega (arith, h.0))) (digits_high base low ds h.1)

pub put_decimal : (n : ℕ) → n < 2 ^ 64 → IsPut (decimal n)
put_decimal n h =
    let numeral = (decimal_is_IsNumeral n h).0 in record { some = numeral.0; high = digits_high 10 (omega arith) (decimal n) numeral.1 }

pub put_hex : (n : ℕ) → n < 2 ^ 64 → IsPut (hex n)
put_hex n h =
    let numeral = (digits_is_IsNumeral 16 false (omega arith) (omega arith) n (omega arith)).0 in
    record { some = numeral.0; high = digits_high 16 (omega arith) (hex n) numeral.1 }

-- whether each byte of a fixed word is above `#`
abbrev pub are_fixed : List ℕ → Bool
are_fixed [] = true
are_fixed (b ∷ bs) = nat_lt 35 b && are_fixed bs

byte_high : (b : ℕ) → nat_lt 35 b ≡ true → IsHigh b
byte_high b h = grind (arith, nat_tests)

pub fixed_high : (bs : List ℕ) → are_fixed bs ≡ true → All IsHigh bs
fixed_high [] h = All-nil IsHigh
fixed_high (b ∷ bs) h =
    let parts = and_parts (nat_lt 35 b) (are_fixed bs) h in All-cons IsHigh b bs (byte_high b parts.0) (fixed_high bs parts.1)

-- a fixed word is printed so, by `fixed _ _ refl`
pub fixed : (b : ℕ) (bs : List ℕ) → are_fixed (b ∷ bs) ≡ true → IsPut (b ∷ bs)
fixed b bs h = record { some = omega arith; high = fixed_high (b ∷ bs) h }

-- a word in front of others
pub then : {w : List ℕ} {ws : List (List ℕ)} → IsPut w → ArePut ws → ArePut (w ∷ ws)
then {w} {ws} h k = record { each = All-cons IsPut w ws h k.each }

pub nothing : ArePut []
nothing = record { each = All-nil IsPut }
