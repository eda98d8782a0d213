-- The numbers that hex digits write.
use Rattle.std.proofs.Common.{ℕ, ◌<◌, ◌≤◌, ◌^◌, List, [], ◌∷◌, zero, suc, length, get_or, take, arith}
use Rattle.std.specs.Char.{digit_value}
use Rattle.std.specs.Str.Parse.{AllDigits, digits_value}
use Rattle.std.proofs.lemmas.Int.Digits.{digits_value-lt}
use Rattle.std.proofs.lemmas.List.{length-take-le}
use Rattle.std.proofs.Math.Nat.{pow-le-pow_right}

-- fifteen digits or fewer leave room for one more
pub hex_room : (ds : List ℕ) (i : ℕ) → i < length ds → length ds ≤ 16 → AllDigits 16 (take i ds) → digits_value 16 (take i ds) < 2 ^ 60
hex_room ds i l short h =
    let below : digits_value 16 (take i ds) < 16 ^ length (take i ds) = digits_value-lt 16 (take i ds) h in
    let most : 16 ^ length (take i ds) ≤ 16 ^ 15 = pow-le-pow_right (omega arith) {i = length (take i ds)} {j = 15} (omega (arith, length-take-le i ds (omega arith))) in
    omega arith

-- all but the last of the digits are digits where all are
pub AllDigits-at : (ds : List ℕ) (i : ℕ) → i < length ds → AllDigits 16 ds → digit_value (get_or ds i 0) < 16
AllDigits-at [] i l h = absurd (omega arith)
AllDigits-at (d ∷ ds) zero l h = h.0
AllDigits-at (d ∷ ds) (suc i) l h = AllDigits-at ds i (omega arith) h.1
