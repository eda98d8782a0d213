-- The ages of a frame's notes after one event more, and their sum over the rounds.
use Rattle.std.proofs.Common.{◌≡◌, ℕ, zero, suc, ◌+◌, ◌<◌, ◌≤◌, ◌==◌, nat_lt, List, [], ◌∷◌, ◌++◌, length, get_or, take, map, sum, count_by, if◌then◌else◌, refl, sym, ap, ◌∙◌, arith}
use Rattle.std.proofs.lemmas.List.{take_all}
use Rattle.std.proofs.lemmas.List.Sums.{sum_by_more}
use Rattle.std.proofs.lemmas.Bool.Decides.{nat_tests}
use Rattle.hwp_cec.specs.Ages.{CecEvent, Note, Round, young, aged, ages_after}
use Rattle.hwp_cec.proofs.Counts.{count-none, count-either}

pub ages-append : (t w f : ℕ) (ages : List ℕ) (events more : List CecEvent)
    → ages_after t w f ages (events ++ more) ≡ ages_after t w f (ages_after t w f ages events) more
ages-append t w f ages [] more = refl
ages-append t w f ages (Round ∷ events) more = ages-append t w f (map (λ age. age + 1) ages) events more
ages-append t w f ages (Note noted ∷ events) more = ages-append t w f (if noted.0 == f then aged t w ages else ages) events more

-- the younger than n and those of age n are the younger than n + 1
younger : (n : ℕ) (ages : List ℕ) → young (suc n) ages ≡ young n ages + count_by (λ age. age == n) ages
younger n ages =
    count-either (λ age. nat_lt age n) (λ age. age == n) (λ age. nat_lt age (suc n)) ages (λ age. grind (arith, nat_tests))

none_young : (ages : List ℕ) → young 0 ages ≡ 0
none_young ages = count-none (λ age. nat_lt age 0) ages (λ age. grind (arith, nat_tests))

sum_up_to : (n : ℕ) (cells ages : List ℕ) → n ≤ length cells → ((k : ℕ) → k < length cells → get_or cells k 0 ≡ count_by (λ age. age == k) ages)
    → sum (take n cells) ≡ young n ages
sum_up_to zero cells ages within each = sym (none_young ages)
sum_up_to (suc n) cells ages within each =
    let before : sum (take n cells) ≡ young n ages = sum_up_to n cells ages (omega (arith, within)) each in
    let one_more : sum (take (n + 1) cells) ≡ sum (take n cells) + get_or cells n 0 = sum_by_more (λ x. x) cells n 0 (omega (arith, within)) in
    let here : get_or cells n 0 ≡ count_by (λ age. age == n) ages = each n (omega (arith, within)) in
    let same : suc n ≡ n + 1 = omega arith in
    let next : sum (take (suc n) cells) ≡ sum (take (n + 1) cells) = ap (λ (m : ℕ). sum (take m cells)) same in
    omega (arith, before, one_more, here, next, younger n ages)

-- the counts of all rounds of the window are together the notes in the window
pub sum-young : (cells ages : List ℕ) → ((k : ℕ) → k < length cells → get_or cells k 0 ≡ count_by (λ age. age == k) ages) → sum cells ≡ young (length cells) ages
sum-young cells ages each =
    sym (ap sum (take_all (length cells) cells (omega arith))) ∙ sum_up_to (length cells) cells ages (omega arith) each
