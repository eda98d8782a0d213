-- A ring read from one of its places on: its sum, what a write at that place does, and a turn.
use Rattle.std.proofs.Common.{◌≡◌, ℕ, zero, suc, ◌+◌, ◌<◌, ◌≤◌, List, [], ◌∷◌, ◌++◌, length, get_or, set, take, drop, sum, replicate, refl, sym, ap, subst, ◌∙◌, arith}
use Rattle.std.proofs.Math.Seq.{take-set-lt}
use Rattle.std.proofs.lemmas.List.{places, same_lists, append-nil, length-append, length-take-le, length-drop, length-replicate, get_or-take, take-set, take-take, take_all, drop_all}
use Rattle.std.proofs.lemmas.List.Sums.{sum_by-append, sum_by-take-drop}
use Rattle.hwp_cec.specs.Turned.{turned}

drop-set_here : (n : ℕ) (xs : List ℕ) (y : ℕ) → n < length xs → drop n (set xs n y) ≡ y ∷ drop (suc n) xs
drop-set_here n [] y within = absurd (omega (arith, within))
drop-set_here zero (x ∷ xs) y within = refl
drop-set_here (suc n) (x ∷ xs) y within = drop-set_here n xs y (omega (arith, within))

drop_here : (n : ℕ) (xs : List ℕ) → n < length xs → drop n xs ≡ get_or xs n 0 ∷ drop (suc n) xs
drop_here n [] within = absurd (omega (arith, within))
drop_here zero (x ∷ xs) within = refl
drop_here (suc n) (x ∷ xs) within = drop_here n xs (omega (arith, within))

-- a write at the place that is read first
pub turned-set : (n : ℕ) (xs : List ℕ) (y : ℕ) → n < length xs → turned n (set xs n y) ≡ set (turned n xs) 0 y
turned-set n xs y within =
    rw (drop-set_here n xs y within, take-set, drop_here n xs within) refl

pub turned_first : (n : ℕ) (xs : List ℕ) → n < length xs → get_or (turned n xs) 0 0 ≡ get_or xs n 0
turned_first n xs within = rw (drop_here n xs within) refl

pub length-turned : (n : ℕ) (xs : List ℕ) → n ≤ length xs → length (turned n xs) ≡ length xs
length-turned n xs within =
    let parts : length (drop n xs ++ take n xs) ≡ length (drop n xs) + length (take n xs) = length-append (drop n xs) (take n xs) in
    omega (arith, parts, length-drop n xs, length-take-le n xs within)

pub sum-turned : (n : ℕ) (xs : List ℕ) → sum (turned n xs) ≡ sum xs
sum-turned n xs =
    let both : sum (drop n xs ++ take n xs) ≡ sum (drop n xs) + sum (take n xs) = sum_by-append (λ x. x) (drop n xs) (take n xs) in
    let parted : sum (take n xs) + sum (drop n xs) ≡ sum xs = sum_by-take-drop (λ x. x) xs n in
    omega (arith, both, parted)

take-behind : (n k : ℕ) (a b : List ℕ) → n ≡ length a + k → take n (a ++ b) ≡ a ++ take k b
take-behind n k [] b same = ap (λ (m : ℕ). take m b) (omega (arith, same))
take-behind zero k (x ∷ a) b same = absurd (omega (arith, same))
take-behind (suc n) k (x ∷ a) b same = ap (λ (l : List ℕ). x ∷ l) (take-behind n k a b (omega (arith, same)))

take_one_less : (m n : ℕ) (xs : List ℕ) → length xs ≡ suc m → suc n ≤ suc m → drop (suc n) xs ++ take n xs ≡ take m (turned (suc n) xs)
take_one_less m n xs long within =
    sym (take-behind m n (drop (suc n) xs) (take (suc n) xs) (omega (arith, length-drop (suc n) xs, long))
    ∙ ap (λ (l : List ℕ). drop (suc n) xs ++ l) (take-take n (suc n) xs (omega arith)))

-- the place before the one that was read first is read first, and has a new number: the last one is gone
pub turned-back : (n : ℕ) (xs : List ℕ) (y : ℕ) → suc n ≤ length xs → turned n (set xs n y) ≡ take (length xs) (y ∷ turned (suc n) xs)
turned-back n [] y within = absurd (omega (arith, within))
turned-back n (x ∷ xs) y within =
    rw (drop-set_here n (x ∷ xs) y (omega (arith, within)), take-set)
    (ap (λ (l : List ℕ). y ∷ l) (take_one_less (length xs) n (x ∷ xs) refl within))

-- the same where the first place was read first: then the last place is
pub turned-round : (n : ℕ) (xs : List ℕ) (y : ℕ) → length xs ≡ suc n → turned n (set xs n y) ≡ take (length xs) (y ∷ turned 0 xs)
turned-round n [] y long = absurd (omega (arith, long))
turned-round n (x ∷ xs) y long =
    turned-back n (x ∷ xs) y (omega (arith, long))
    ∙ ap (λ (l : List ℕ). take (suc (length xs)) (y ∷ l)) (whole n (x ∷ xs) long)
  where
    whole : (n : ℕ) (xs : List ℕ) → length xs ≡ suc n → turned (suc n) xs ≡ turned 0 xs
    whole n xs long = rw (drop_all (suc n) xs (omega (arith, long)), take_all (suc n) xs (omega (arith, long)), append-nil xs) refl

-- one more at the place that is read first
pub view-added : (first window v : ℕ) (counts : List ℕ) → first < window → window ≤ length counts → v ≡ get_or counts first 0
    → turned first (take window (set counts first (v + 1))) ≡ set (turned first (take window counts)) 0 (get_or (turned first (take window counts)) 0 0 + 1)
view-added first window v counts within room is =
    let long : length (take window counts) ≡ window = length-take-le window counts room in
    let here : first < length (take window counts) = omega (arith, long, within) in
    let read : get_or (turned first (take window counts)) 0 0 ≡ v = turned_first first (take window counts) here ∙ (get_or-take window counts first 0 within ∙ sym is) in
    rw (take-set-lt window counts first (v + 1) within, turned-set first (take window counts) (v + 1) here, read) refl

turned-replicate : (n m : ℕ) → n ≤ m → turned n (replicate m 0) ≡ replicate m 0
turned-replicate n m within =
    let long : length {A = ℕ} (replicate m 0) ≡ m = length-replicate m 0 in
    let all : length (turned n (replicate m 0)) ≡ m = length-turned n (replicate m 0) (omega (arith, long, within)) ∙ long in
    same_lists (turned n (replicate m 0)) (replicate m 0) (all ∙ sym long) (λ k d h. grind (arith, places))

take-replicate : (n m : ℕ) → n ≤ m → take {A = ℕ} n (replicate m 0) ≡ replicate n 0
take-replicate zero m within = refl
take-replicate (suc n) zero within = absurd (omega (arith, within))
take-replicate (suc n) (suc m) within = ap (λ (l : List ℕ). 0 ∷ l) (take-replicate n m (omega (arith, within)))

-- where no place has a number but 0, none is read
pub view-cleared : (first window room : ℕ) → first < window → window ≤ room → turned first (take window (replicate room 0)) ≡ replicate window 0
view-cleared first window room within enough =
    ap (turned first) (take-replicate window room enough) ∙ turned-replicate first window (omega (arith, within))

pub length-view : (first window : ℕ) (counts : List ℕ) → first < window → window ≤ length counts → length (turned first (take window counts)) ≡ window
length-view first window counts within room =
    let long : length (take window counts) ≡ window = length-take-le window counts room in
    length-turned first (take window counts) (omega (arith, long, within)) ∙ long

back : (place window : ℕ) (counts : List ℕ) → suc place < window → window ≤ length counts
    → turned place (take window (set counts place 0)) ≡ take (length (turned (suc place) (take window counts))) (0 ∷ turned (suc place) (take window counts))
back place window counts within room =
    let long : length (take window counts) ≡ window = length-take-le window counts room in
    ap (turned place) (take-set-lt window counts place 0 (omega (arith, within)))
    ∙ (turned-back place (take window counts) 0 (omega (arith, long, within))
    ∙ ap (λ (m : ℕ). take m (0 ∷ turned (suc place) (take window counts))) (long ∙ sym (length-view (suc place) window counts within room)))

-- a turn, where the place before the one that was read first is read first
pub view-back : (place first window : ℕ) (counts : List ℕ) → suc place ≡ first → first < window → window ≤ length counts
    → turned place (take window (set counts place 0)) ≡ take (length (turned first (take window counts))) (0 ∷ turned first (take window counts))
view-back place first window counts is within room =
    subst
    (λ (f : ℕ). turned place (take window (set counts place 0)) ≡ take (length (turned f (take window counts))) (0 ∷ turned f (take window counts)))
    is
    (back place window counts (omega (arith, is, within)) room)

round : (place : ℕ) (counts : List ℕ) → suc place ≤ length counts
    → turned place (take (suc place) (set counts place 0)) ≡ take (length (turned 0 (take (suc place) counts))) (0 ∷ turned 0 (take (suc place) counts))
round place counts room =
    let long : length (take (suc place) counts) ≡ suc place = length-take-le (suc place) counts room in
    ap (turned place) (take-set-lt (suc place) counts place 0 (omega arith))
    ∙ (turned-round place (take (suc place) counts) 0 long
    ∙ ap (λ (m : ℕ). take m (0 ∷ turned 0 (take (suc place) counts))) (long ∙ sym (length-view 0 (suc place) counts (omega arith) room)))

-- a turn, where the last place is
pub view-round : (place first window : ℕ) (counts : List ℕ) → first ≡ 0 → suc place ≡ window → window ≤ length counts
    → turned place (take window (set counts place 0)) ≡ take (length (turned first (take window counts))) (0 ∷ turned first (take window counts))
view-round place first window counts none is room =
    subst
    (λ (f : ℕ). turned place (take window (set counts place 0)) ≡ take (length (turned f (take window counts))) (0 ∷ turned f (take window counts)))
    (sym none)
    (subst
    (λ (w : ℕ). turned place (take w (set counts place 0)) ≡ take (length (turned 0 (take w counts))) (0 ∷ turned 0 (take w counts)))
    is
    (round place counts (omega (arith, is, room))))
