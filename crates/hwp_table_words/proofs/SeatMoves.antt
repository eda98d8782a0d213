-- The moves that a seat has of its processors, where seats come and go and a step is made.
use Rattle.std.proofs.Common.{◌≡◌, ◌≢◌, ℕ, ◌+◌, ◌<◌, ◌≤◌, ◌==◌, Bool, true, false, not, cond, List, [], ◌∷◌, ◌++◌, inl, inr, filter, refl, sym, ap, ◌∙◌, arith, ne_eqb}
use Rattle.std.proofs.lemmas.Bool.{eqb-true, true≢false}
use Rattle.std.proofs.lemmas.List.{append-nil}
use Rattle.std.proofs.lemmas.List.Elements.{filter-append}
use Rattle.std.proofs.lemmas.List.Sums.{sum_by-append, sum_by-cons}
use Rattle.std.specs.Int.{from_bool}
use Rattle.std.specs.List.{sum_by}
use Rattle.hwp_core_rule.specs.hwp_geom.declared.Layout.{Layout}
use Rattle.hwp_core_rule.specs.declared.Rec.{Rec}
use Rattle.hwp_core_rule.specs.declared.View.{View}
use Rattle.hwp_core_rule.proofs.Lists.{same-or, sum-map}
use Rattle.hwp_table_words.specs.Known.{Known, dealt, joined, kept, known_after, let_go, mine_after, moves_by, views_for}
use Rattle.hwp_table_words.specs.Rules.{IsOwn}
use Rattle.hwp_table_words.proofs.Times.{sum-parts}

module _ {A : Type 0} (p q : A → Bool) where
  -- what is kept is kept again
  filter-within : ((x : A) → p x ≡ true → q x ≡ true) → (xs : List A) → filter p (filter q xs) ≡ filter p xs
  filter-within both [] = refl
  filter-within both (x ∷ xs) = which (p x) (q x) refl refl (filter-within both xs)
    where
      which : (a b : Bool) → p x ≡ a → q x ≡ b → filter p (filter q xs) ≡ filter p xs → filter p (cond b (x ∷ filter q xs) (filter q xs)) ≡ cond a (x ∷ filter p xs) (filter p xs)
      which true true yes_p yes_q rest = ap (λ (t : Bool). cond t (x ∷ filter p (filter q xs)) (filter p (filter q xs))) yes_p ∙ ap (λ (l : List A). x ∷ l) rest
      which false true no_p yes_q rest = ap (λ (t : Bool). cond t (x ∷ filter p (filter q xs)) (filter p (filter q xs))) no_p ∙ rest
      which true false yes_p no_q rest = absurd (true≢false (sym (both x yes_p) ∙ no_q))
      which false false no_p no_q rest = rest

  -- nothing is kept of what the other test keeps
  filter-apart : ((x : A) → q x ≡ true → p x ≡ false) → (xs : List A) → filter p (filter q xs) ≡ []
  filter-apart apart [] = refl
  filter-apart apart (x ∷ xs) = which (q x) refl (filter-apart apart xs)
    where
      which : (b : Bool) → q x ≡ b → filter p (filter q xs) ≡ [] → filter p (cond b (x ∷ filter q xs) (filter q xs)) ≡ []
      which true is rest = ap (λ (t : Bool). cond t (x ∷ filter p (filter q xs)) (filter p (filter q xs))) (apart x is) ∙ rest
      which false is rest = rest

sum-apart : {A : Type 0} (f : A → ℕ) (q : A → Bool) → ((x : A) → q x ≡ true → f x ≡ 0) → (xs : List A) → sum_by f (filter q xs) ≡ 0
sum-apart f q apart [] = refl
sum-apart {A} f q apart (x ∷ xs) = which (q x) refl (sum-apart f q apart xs)
  where
    which : (b : Bool) → q x ≡ b → sum_by f (filter q xs) ≡ 0 → sum_by f (cond b (x ∷ filter q xs) (filter q xs)) ≡ 0
    which true is rest = let all = sum_by-cons f x (filter q xs) in let none = apart x is in omega (arith, all, none, rest)
    which false is rest = rest

-- tests of a number
not-true : (b : Bool) → not b ≡ true → b ≡ false
not-true true e = absurd (true≢false (sym e))
not-true false e = refl

other-number : (n c d : ℕ) → c ≢ d → (n == c) ≡ true → (n == d) ≡ false
other-number n c d other is = ne_eqb n d (λ e. other (sym (eqb-true n c is) ∙ e))

module _ (log : List (ℕ × Rec)) (v : Known) (own : IsOwn log v) where
  abbrev views : ℕ → Known → ℕ
  views c u = views_for c u.mines

  pub let-go-own : IsOwn log (let_go v)
  let-go-own = record { all = own.all; none = own.none }

  module _ (c : ℕ) where
    cut : (d : ℕ) → views d (kept c v) + views d (dealt c v) ≡ views d v
    cut d = sum-parts (λ (x : ℕ × View). from_bool (x.0 == d)) (λ (x : ℕ × View). x.0 == c) v.mines

    none-kept : (d : ℕ) → d ≡ c → views d (kept c v) ≡ 0
    none-kept d same = sum-apart (λ (x : ℕ × View). from_bool (x.0 == d)) (λ (x : ℕ × View). not (x.0 == c)) (λ x e. ap from_bool (ap (λ (n : ℕ). x.0 == n) same ∙ not-true (x.0 == c) e)) v.mines

    none-dealt : (d : ℕ) → d ≢ c → views d (dealt c v) ≡ 0
    none-dealt d other = sum-apart (λ (x : ℕ × View). from_bool (x.0 == d)) (λ (x : ℕ × View). x.0 == c) (λ x e. ap from_bool (other-number x.0 c d (λ e. other (sym e)) e)) v.mines

    kept-else : (d : ℕ) → d ≢ c → moves_by d (kept c v).own ≡ moves_by d v.own
    kept-else d other = filter-within (λ (x : ℕ × Rec). x.0 == d) (λ (x : ℕ × Rec). not (x.0 == c)) (λ x e. ap not (other-number x.0 d c other e)) v.own

    kept-none : (d : ℕ) → d ≡ c → moves_by d (kept c v).own ≡ []
    kept-none d same = filter-apart (λ (x : ℕ × Rec). x.0 == d) (λ (x : ℕ × Rec). not (x.0 == c)) (λ x e. ap (λ (n : ℕ). x.0 == n) same ∙ not-true (x.0 == c) e) v.own

    dealt-all : (d : ℕ) → d ≡ c → moves_by d (dealt c v).own ≡ moves_by d v.own
    dealt-all d same = filter-within (λ (x : ℕ × Rec). x.0 == d) (λ (x : ℕ × Rec). x.0 == c) (λ x e. ap (λ (n : ℕ). x.0 == n) (sym same) ∙ e) v.own

    dealt-none : (d : ℕ) → d ≢ c → moves_by d (dealt c v).own ≡ []
    dealt-none d other = filter-apart (λ (x : ℕ × Rec). x.0 == d) (λ (x : ℕ × Rec). x.0 == c) (λ x e. other-number x.0 c d (λ e. other (sym e)) e) v.own

    pub kept-own : IsOwn log (kept c v)
    kept-own = record {
      all = λ d some. elim (same-or d c) [
        | inl same ↦ let no = none-kept d same in absurd (omega (arith, some, no))
        | inr other ↦ let sum = cut d in kept-else d other ∙ own.all d (omega (arith, some, sum))
      ];
      none = λ d zero. elim (same-or d c) [
        | inl same ↦ kept-none d same
        | inr other ↦ let sum = cut d in let no = none-dealt d other in kept-else d other ∙ own.none d (omega (arith, zero, sum, no))
      ];
    }

    pub dealt-own : IsOwn log (dealt c v)
    dealt-own = record {
      all = λ d some. elim (same-or d c) [
        | inl same ↦ let sum = cut d in dealt-all d same ∙ own.all d (omega (arith, some, sum))
        | inr other ↦ let no = none-dealt d other in absurd (omega (arith, some, no))
      ];
      none = λ d zero. elim (same-or d c) [
        | inl same ↦ let sum = cut d in let no = none-kept d same in dealt-all d same ∙ own.none d (omega (arith, zero, sum, no))
        | inr other ↦ dealt-none d other
      ];
    }

  -- no processor's view is in both
  pub joined-own : (w : Known) → IsOwn log w → ((d : ℕ) → views d v + views d w ≤ 1) → IsOwn log (joined v w)
  joined-own w theirs once = record {
    all = λ d some. elim (same-or (views d v) 0) [
      | inl zero ↦ let sum = both d in filter-append (λ (x : ℕ × Rec). x.0 == d) v.own w.own ∙ ap (λ (l : List (ℕ × Rec)). l ++ moves_by d w.own) (own.none d zero) ∙ theirs.all d (omega (arith, some, sum, zero))
      | inr here ↦ let one = once d in
          filter-append (λ (x : ℕ × Rec). x.0 == d) v.own w.own ∙ ap (λ (l : List (ℕ × Rec)). moves_by d v.own ++ l) (theirs.none d (omega (arith, here, one))) ∙ append-nil (moves_by d v.own) ∙ own.all d (omega (arith, here))
    ];
    none = λ d zero. let sum = both d in
        filter-append (λ (x : ℕ × Rec). x.0 == d) v.own w.own ∙ ap (λ (l : List (ℕ × Rec)). l ++ moves_by d w.own) (own.none d (omega (arith, zero, sum))) ∙ theirs.none d (omega (arith, zero, sum));
  }
    where
      both : (d : ℕ) → views d (joined v w) ≡ views d v + views d w
      both d = sum_by-append (λ (x : ℕ × View). from_bool (x.0 == d)) v.mines w.mines

  -- a step of a processor whose view the seat has
  module _ (layout : Layout) (c : ℕ) (r : Rec) where
    else : (d : ℕ) → c ≢ d → (xs : List (ℕ × Rec)) → moves_by d ((c, r) ∷ xs) ≡ moves_by d xs
    else d other xs = ap (λ (b : Bool). cond b ((c, r) ∷ moves_by d xs) (moves_by d xs)) (ne_eqb c d other)

    pub after-own : 0 < views c v → IsOwn ((c, r) ∷ log) (known_after layout c r v)
    after-own has = record {
      all = λ d some. let same = count d in ap (λ (l : List (ℕ × Rec)). cond (c == d) ((c, r) ∷ l) l) (own.all d (omega (arith, some, same)));
      none = λ d zero. let same = count d in else d (λ e. let is : views c v ≡ views d v = ap (λ (n : ℕ). views n v) e in omega (arith, is, has, zero, same)) v.own ∙ own.none d (omega (arith, zero, same));
    }
      where
        count : (d : ℕ) → views d (known_after layout c r v) ≡ views d v
        count d = sum-map (λ (x : ℕ × View). from_bool (x.0 == d)) (mine_after layout c r) v.mines

    -- or of another
    pub other-own : views c v ≡ 0 → IsOwn ((c, r) ∷ log) v
    other-own none = record {
      all = λ d some. own.all d some ∙ sym (else d (λ e. let is : views c v ≡ views d v = ap (λ (n : ℕ). views n v) e in omega (arith, is, some, none)) log);
      none = own.none;
    }

-- a seat without views has no moves
pub none-own : (log : List (ℕ × Rec)) (v : Known) → v.mines ≡ [] → v.own ≡ [] → IsOwn log v
none-own log v no_views no_moves = record {
  all = λ d some. let none : views_for d v.mines ≡ 0 = ap (views_for d) no_views in absurd (omega (arith, some, none));
  none = λ d zero. ap (moves_by d) no_moves;
}

-- at opening there are none
pub first-own : (v : Known) → v.own ≡ [] → IsOwn [] v
first-own v no_moves = record { all = λ d some. ap (moves_by d) no_moves; none = λ d zero. ap (moves_by d) no_moves }
