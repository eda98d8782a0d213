-- A poisoning that a command's row tells has its mark.
use Rattle.std.proofs.Common.{◌≡◌, ℕ, zero, suc, true, List, [], ◌∷◌, Some, filter, slice_get, refl, ap, ◌∙◌, subst}
use Rattle.std.proofs.lemmas.Bool.{and_parts, eqb-true}
use Rattle.std.proofs.lemmas.Option.{none-some, same_Some}
use Rattle.hwp_law.specs.hwp_geom.declared.Who.{Who}
use Rattle.hwp_law.specs.hwp_geom.Pairs.{Pairs}
use Rattle.hwp_plain.specs.hwp_core_rule.declared.Mark.{Mark}
use Rattle.hwp_plain.specs.hwp_core_rule.declared.View.{View}
use Rattle.hwp_plain.proofs.of_hwp_core_rule.Lists.{map-was}
use Rattle.hwp_cpu_row.specs.hwp_claim_frame.Done.{Marking, marking_of}
use Rattle.hwp_law_served.specs.Accounts.{is_same, markings}
use Rattle.hwp_law_served.proofs.Seen.{filter-is}

-- a poisoning by a command has its mark
pub record HasMarked (view : View) (who : Who) (marking : Marking) : Type 0 where
  pub j : ℕ
  pub mark : Mark
  pub there : slice_get view.marks j ≡ Some mark
  pub own : mark.stamp.who ≡ who
  pub marking_is : marking_of mark ≡ marking

pub same-who : (who other : Who) → is_same who other ≡ true → other ≡ who
same-who who other is =
    let both = and_parts _ _ is in
    ap (λ (n : ℕ). record other { cpu = record { 0 = n } }) (eqb-true other.cpu.0 who.cpu.0 both.0) ∙ ap (λ (n : ℕ). record { cpu = who.cpu; seq = n }) (eqb-true other.seq who.seq both.1)

pub has-marked : (view : View) (who : Who) (marking : Marking) (i : ℕ) → slice_get (markings who view) i ≡ Some marking → HasMarked view who marking
has-marked view who marking i is =
    let of = map-was marking_of (filter (λ (m : Mark). is_same who m.stamp.who) view.marks) i marking is in
    let found = filter-is (λ (m : Mark). is_same who m.stamp.who) view.marks i of.0 of.1 in
    record { j = found.0; mark = of.0; there = found.1; own = same-who who of.0.stamp.who found.2; marking_is = of.2 }

-- the member beside one of a list of pairs
pub paired : {A B : Type 0} (R : A → B → Type 0) (xs : List A) (ys : List B) (j : ℕ) (y : B) → Pairs R xs ys → slice_get ys j ≡ Some y → (x : A) × (slice_get xs j ≡ Some x) × R x y
paired R [] [] j y pairs there = absurd (none-some y there)
paired R [] (b ∷ ys) j y pairs there = absurd pairs
paired R (a ∷ xs) [] j y pairs there = absurd pairs
paired R (a ∷ xs) (b ∷ ys) zero y pairs there = (a, refl, subst (R a) (same_Some b y there) pairs.0)
paired R (a ∷ xs) (b ∷ ys) (suc j) y pairs there = paired R xs ys j y pairs.1 there

-- a member of the first of two paired lists has its partner
pub partner : {A B : Type 0} (R : A → B → Type 0) (xs : List A) (ys : List B) (j : ℕ) (x : A) → Pairs R xs ys → slice_get xs j ≡ Some x → (y : B) × (slice_get ys j ≡ Some y) × R x y
partner R [] ys j x pairs there = absurd (none-some x there)
partner R (a ∷ xs) [] j x pairs there = absurd pairs
partner R (a ∷ xs) (b ∷ ys) zero x pairs there = (b, refl, subst (λ z. R z b) (same_Some a x there) pairs.0)
partner R (a ∷ xs) (b ∷ ys) (suc j) x pairs there = partner R xs ys j x pairs.1 there
