-- What is asked between the edges is what the law asks.
use Rattle.std.proofs.Common.{◌≡◌, ◌↔◌, inl, inr, ℕ, zero, suc, ◌+◌, ◌-◌, ◌<◌, ◌≤◌, ◌||◌, Bool, true, false, not, List, [], ◌∷◌, IsTrue, length, take, drop, true≢false, refl, sym, ap, ◌∙◌, subst, arith}
use Rattle.std.specs.Bool.{nat_le, nat_lt}
use Rattle.std.proofs.lemmas.Bool.{and_from, and_parts, le-leb, leb-true, lt-ltb, ltb-true, or_cases, or_left, or_right}
use Rattle.hwp_law.specs.hwp_geom.declared.Who.{Who}
use Rattle.hwp_law.specs.hwp_report_text.declared.MarkLine.{MarkLine}
use Rattle.hwp_law.specs.Records.{WasPoisoned, ends_poisoned}
use Rattle.hwp_check_event_line.specs.declared.nears.Nears.{Nears}
use Rattle.hwp_check_event_line.specs.Nears.{AreNears, highs, lows, run, top}
use Rattle.hwp_check_event_line.specs.Windows.{IsEdge, may_end, same}
use Rattle.hwp_check_event_line.proofs.NearLaws.{earlier-below, first-least, highs-long, last-most, later-behind}
use Rattle.hwp_check_event_line.proofs.RunLaws.{ends-split, ends_from, run-turn, turn-run}

same-is : (p b : Bool) → same p b ≡ true → b ≡ p
same-is true b is = is
same-is false true is = absurd (true≢false (sym is))
same-is false false is = refl

other-is : (p b : Bool) → same p b ≡ false → p ≡ not b
other-is true true is = absurd (true≢false is)
other-is true false is = refl
other-is false true is = refl
other-is false false is = absurd (true≢false is)

long-drop : (list : List MarkLine) (first last : ℕ) → last ≤ length list → last - first ≤ length (drop first list)
long-drop list zero last within = let r : last - 0 ≤ length list = omega (arith, within) in r
long-drop [] (suc first) last within = let r : last - suc first ≤ 0 = omega (arith, within) in r
long-drop (m ∷ ms) (suc first) zero within = let r : 0 - suc first ≤ length (drop first ms) = omega arith in r
long-drop (m ∷ ms) (suc first) (suc last) within = let l : last - first ≤ length (drop first ms) = long-drop ms first last (omega (arith, within)) in let r : suc last - suc first ≤ length (drop first ms) = omega (arith, l) in r

-- some number of marks from the first to the last one behind which the record ends so
abbrev Between : List MarkLine → ℕ → ℕ → Bool → Type 0
Between list first last p = (k : ℕ) × (first ≤ k) × (k ≤ last) × (ends_poisoned (take k list) ≡ p)

may-between : (list : List MarkLine) (first last : ℕ) (p : Bool) → last ≤ length list → may_end list first last p ≡ true → Between list first last p
may-between list first last p within may =
    let parts = and_parts (nat_le first last) (same p (ends_poisoned (take first list)) || nat_lt (run (ends_poisoned (take first list)) (drop first list)) (last - first)) may in
    let up : first ≤ last = leb-true first last parts.0 in
    elim (or_cases (same p (ends_poisoned (take first list))) (nat_lt (run (ends_poisoned (take first list)) (drop first list)) (last - first)) parts.1) [
      | inl at_once ↦ (first, omega arith, up, same-is p (ends_poisoned (take first list)) at_once)
      | inr turned ↦ which (same p (ends_poisoned (take first list))) refl up (ltb-true (run (ends_poisoned (take first list)) (drop first list)) (last - first) turned)
    ]
  where
    which : (s : Bool) → same p (ends_poisoned (take first list)) ≡ s → first ≤ last → run (ends_poisoned (take first list)) (drop first list) < last - first → Between list first last p
    which true is up less = (first, omega arith, up, same-is p (ends_poisoned (take first list)) is)
    which false is up less =
        let turn = run-turn (ends_poisoned (take first list)) (drop first list) (last - first) (long-drop list first last within) less in
        let few : turn.0 ≤ last - first = turn.1 in
        let again : first + turn.0 - first ≡ turn.0 = omega arith in (
          first + turn.0,
          omega arith,
          omega (arith, few, up),
          ends-split false list first (first + turn.0) (omega arith)
              ∙ ap (λ (n : ℕ). ends_from (ends_poisoned (take first list)) (take n (drop first list))) again
              ∙ turn.2
              ∙ sym (other-is p (ends_poisoned (take first list)) is),
        )

between-may : (list : List MarkLine) (first last : ℕ) (p : Bool) → Between list first last p → may_end list first last p ≡ true
between-may list first last p (k, from, upto, is) = and_from (nat_le first last) _ (le-leb first last (omega (arith, from, upto))) (which (same p (ends_poisoned (take first list))) refl)
  where
    which : (s : Bool) → same p (ends_poisoned (take first list)) ≡ s → (same p (ends_poisoned (take first list)) || nat_lt (run (ends_poisoned (take first list)) (drop first list)) (last - first)) ≡ true
    which true at_once = or_left _ _ at_once
    which false other =
        let turned : ends_from (ends_poisoned (take first list)) (take (k - first) (drop first list)) ≡ not (ends_poisoned (take first list)) =
        sym (ends-split false list first k from) ∙ is ∙ other-is p (ends_poisoned (take first list)) other in
        let less : run (ends_poisoned (take first list)) (drop first list) < k - first = turn-run (ends_poisoned (take first list)) (drop first list) (k - first) turned in
        or_right _ _ (lt-ltb (run (ends_poisoned (take first list)) (drop first list)) (last - first) (omega (arith, less, upto)))

-- what is kept tells what the law asks
pub may_end-was : (who : Who) (list : List MarkLine) (nears : Nears) (first last : ℕ) (p : Bool) → who.seq ≤ top → AreNears who.cpu list nears → IsEdge nears.lows.items who.seq first → IsEdge nears.highs.items (who.seq + 1) last → IsTrue (may_end list first last p) ↔ WasPoisoned list who p
may_end-was who list nears first last p most are below above = (forth, back)
  where
    low : IsEdge (lows who.cpu list) who.seq first
    low = subst (λ (l : List ℕ). IsEdge l who.seq first) are.lows_are below

    high : IsEdge (highs who.cpu 0 list) (who.seq + 1) last
    high = subst (λ (l : List ℕ). IsEdge l (who.seq + 1) last) are.highs_are above

    within : last ≤ length list
    within = subst (λ (n : ℕ). last ≤ n) (highs-long who.cpu 0 list) high.within

    forth : IsTrue (may_end list first last p) → WasPoisoned list who p
    forth may =
        let some = may-between list first last p within may in
        let from : first ≤ some.0 = some.1 in
        let upto : some.0 ≤ last = some.2 in
        record {
          count = some.0;
          within = omega (arith, upto, within);
          earlier = λ place mark there is. let less : place < first = earlier-below who most list first low place mark there is in omega (arith, less, from);
          later = λ place mark there is. let more : last ≤ place = later-behind who most list last high place mark there is in omega (arith, more, upto);
          ended = some.3;
        }

    back : WasPoisoned list who p → IsTrue (may_end list first last p)
    back was = between-may list first last p (was.count, first-least who most list first low was.count was.earlier, last-most who most list last high was.count was.within was.later, was.ended)
