-- What a machine check finds in the banks, with the grades of the banks.
use Rattle.std.proofs.Common.{◌≡◌, ℕ, ◌+◌, ◌≤◌, Bool, true, false, cond, ◌||◌, nat_lt, List, [], ◌∷◌, Some, None, is_some, length, map, refl, ap, ◌∙◌, arith}
use Rattle.std.specs.List.{list_any, position_or_len}
use Rattle.std.proofs.lemmas.List.{length-map}
use Rattle.hwp_banks.specs.hwp_geom.declared.Mode.{Mode}
use Rattle.hwp_banks.specs.declared.Event.{Event}
use Rattle.hwp_banks.specs.Events.{bank_count}
use Rattle.hwp_law.specs.hwp_severity.declared.Grade.{Grade}
use Rattle.hwp_law.specs.hwp_severity.declared.McgBits.{McgBits}
use Rattle.hwp_law.specs.hwp_severity.Handling.{grade_of, lowest_stop}
use Rattle.hwp_banks.specs.Banks.{Banks, held_from}
use Rattle.hwp_law.specs.hwp_severity.Handling.{has_stop, is_stop, severity_of}
use Rattle.hwp_law.specs.hwp_severity.declared.Arrival.{Arrival}
use Rattle.hwp_claim.specs.Events.{graded_in, held_in, held_with}
use Rattle.hwp_claim.specs.Fits.{AreFound}
use Rattle.hwp_claim.specs.Told.{stops_machine}
use Rattle.hwp_claim.specs.declared.told.Held.{Held}

abbrev how : McgBits → Mode → Arrival
how mcg mode = record { mcg = mcg; mode = mode }

-- the events with the grades of their banks
with-grades : (mcg : McgBits) (mode : Mode) (n : ℕ) (banks : Banks) → held_with n banks (map (grade_of mcg mode) banks) ≡ map (graded_in (how mcg mode)) (held_from n banks)
with-grades mcg mode n [] = refl
with-grades mcg mode n (None ∷ banks) = with-grades mcg mode (n + 1) banks
with-grades mcg mode n (Some event ∷ banks) = ap (λ (l : List Held). graded_in (how mcg mode) (n, event) ∷ l) (with-grades mcg mode (n + 1) banks)

pub held-is : (mcg : McgBits) (mode : Mode) (banks : Banks) → held_with 0 banks (map (grade_of mcg mode) banks) ≡ held_in (how mcg mode) banks
held-is mcg mode banks = with-grades mcg mode 0 banks

-- the first that passes is there where some one does
found-any : {A : Type 0} (p : A → Bool) (l : List A) → nat_lt (position_or_len p l) (length l) ≡ list_any p l
found-any p [] = refl
found-any p (x ∷ xs) = which (p x) refl (found-any p xs)
  where
    which : (b : Bool) → p x ≡ b → nat_lt (position_or_len p xs) (length xs) ≡ list_any p xs → nat_lt (position_or_len p (x ∷ xs)) (length (x ∷ xs)) ≡ list_any p (x ∷ xs)
    which true is rest = grind (arith, is)
    which false is rest = grind (arith, is, rest)

some-lowest : (grades : List Grade) → is_some (lowest_stop grades) ≡ list_any (λ (g : Grade). is_stop g.severity) grades
some-lowest grades = which (nat_lt (position_or_len test grades) (length grades)) ∙ found-any test grades
  where
    test : Grade → Bool
    test g = is_stop g.severity

    which : (b : Bool) → is_some (cond b (Some (position_or_len test grades)) None) ≡ b
    which true = refl
    which false = refl

-- some bank is graded Stop where an event of a bank is
any-stop : (mcg : McgBits) (mode : Mode) (n : ℕ) (banks : Banks) → list_any (λ (g : Grade). is_stop g.severity) (map (grade_of mcg mode) banks) ≡ list_any (λ (b : ℕ × Event). is_stop (severity_of (how mcg mode) b.1)) (held_from n banks)
any-stop mcg mode n [] = refl
any-stop mcg mode n (None ∷ banks) = any-stop mcg mode (n + 1) banks
any-stop mcg mode n (Some event ∷ banks) = ap (λ (b : Bool). is_stop (severity_of (how mcg mode) event) || b) (any-stop mcg mode (n + 1) banks)

pub stops-is : (mcg : McgBits) (mode : Mode) (banks : Banks) → is_some (lowest_stop (map (grade_of mcg mode) banks)) ≡ has_stop (how mcg mode) banks
stops-is mcg mode banks = some-lowest (map (grade_of mcg mode) banks) ∙ any-stop mcg mode 0 banks

-- the same of the events with their grades
any-graded : (arrival : Arrival) (l : List (ℕ × Event)) → list_any (λ (b : ℕ × Event). is_stop (severity_of arrival b.1)) l ≡ list_any stops_machine (map (graded_in arrival) l)
any-graded arrival [] = refl
any-graded arrival (b ∷ bs) = ap (λ (c : Bool). is_stop (severity_of arrival b.1) || c) (any-graded arrival bs)

held-few : (n : ℕ) (banks : Banks) → length (held_from n banks) ≤ length banks
held-few n [] = omega arith
held-few n (None ∷ banks) = let few : length (held_from (n + 1) banks) ≤ length banks = held-few (n + 1) banks in omega (arith, few)
held-few n (Some event ∷ banks) = let few : length (held_from (n + 1) banks) ≤ length banks = held-few (n + 1) banks in omega (arith, few)

-- what is found in the banks
pub found-in : (arrival : Arrival) (banks : Banks) → length banks ≡ bank_count → AreFound (has_stop arrival banks) (held_in arrival banks)
found-in arrival banks all = record {
  few = let same : length (held_in arrival banks) ≡ length (held_from 0 banks) = length-map (held_from 0 banks) (graded_in arrival) in let few : length (held_from 0 banks) ≤ length banks = held-few 0 banks in omega (arith, same, few, all);
  stops_is = any-graded arrival (held_from 0 banks);
}
