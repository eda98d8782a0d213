-- The next event of a queue is told.
use Rattle.std.proofs.Common.{◌≡◌, ℕ, suc, ◌+◌, ◌-◌, ◌<◌, ◌≤◌, List, [], ◌∷◌, ◌++◌, drop, length, min, set, take, sym, ap, ◌∙◌, subst, arith}
use Rattle.std.proofs.Math.Seq.{take-suc-set}
use Rattle.std.proofs.lemmas.List.{drop-drop, length-drop, length-take}
use Rattle.hwp_claim.specs.Queue.{Queue}
use Rattle.hwp_claim.specs.declared.told.Held.{Held}
use Rattle.hwp_claim.specs.declared.told.EventOutcome.{EventOutcome}

abbrev queue : List EventOutcome → List Held → Queue
queue told left = record { told = told; left = left }

pub next-told : (told : List EventOutcome) (held : List Held) (count taken : ℕ) (t : EventOutcome) (q : Queue) → queue (take taken told) (drop taken (take count held)) ≡ q → 0 < length q.left → count ≤ length told
    → queue (take (taken + 1) (set told taken t)) (drop (taken + 1) (take count held)) ≡ queue (q.told ++ t ∷ []) (drop 1 q.left)
next-told told held count taken t q is some few =
    (λ i. queue ((ap (λ (n : ℕ). take n (set told taken t)) one ∙ take-suc-set told taken t within) i) (sym (drop-drop 1 taken (take count held)) i))
    ∙ ap (λ (r : Queue). queue (r.told ++ t ∷ []) (drop 1 r.left)) is
  where
    one : taken + 1 ≡ suc taken
    one = omega arith

    within : taken < length told
    within =
        let more : 0 < length (drop taken (take count held)) = subst (λ (r : Queue). 0 < length r.left) (sym is) some in
        let dropped : length (drop taken (take count held)) ≡ length (take count held) - taken = length-drop taken (take count held) in
        let front : length (take count held) ≡ min count (length held) = length-take count held in
        omega (arith, more, dropped, front, few)
