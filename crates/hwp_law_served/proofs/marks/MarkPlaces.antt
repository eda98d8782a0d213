-- The marks of a frame by their places: first poisoned and then unpoisoned in each cycle. Of each place below the number of marks that
-- the frame's word tells the views list one mark, and no other.
use Rattle.std.proofs.Common.{◌≡◌, ◌≢◌, ◌⊎◌, ℕ, ◌+◌, ◌*◌, ◌/◌, ◌%◌, ◌<◌, ◌≤◌, ◌==◌, ◌&&◌, nat_lt, Bool, true, false, cond, List, [], ◌∷◌, ◌++◌, Some, map, length, slice_get, inl, inr, refl, sym, ap, ◌∙◌, subst, arith}
use Rattle.std.specs.Int.{from_bool}
use Rattle.std.specs.List.{sum_by}
use Rattle.std.proofs.lemmas.Bool.{and_from, and_left, and_parts, and_right, eq-eqb, eqb-false, eqb-true, le-ltb, lt-ltb, ltb-false, ltb-true, ne_eqb}
use Rattle.std.proofs.lemmas.List.Sums.{sum_by-append, sum_by-cons}
use Rattle.hwp_law.specs.hwp_geom.declared.Layout.{Layout}
use Rattle.hwp_plain.specs.hwp_words.Frames.{cycle_of, poison_of}
use Rattle.hwp_plain.specs.hwp_core_rule.declared.Mark.{Mark}
use Rattle.hwp_plain.specs.hwp_core_rule.declared.MarkKind.{MarkKind}
use Rattle.hwp_plain.specs.hwp_core_rule.declared.MarkKind.TheVariants as kinds
use Rattle.hwp_plain.specs.hwp_core_rule.declared.Rec.{Rec}
use Rattle.hwp_plain.specs.hwp_core_rule.declared.State.{State}
use Rattle.hwp_plain.specs.hwp_core_rule.declared.View.{View}
use Rattle.hwp_plain.specs.hwp_core_rule.Lists.{sum_all}
use Rattle.hwp_plain.specs.hwp_core_rule.Moves.{Move}
use Rattle.hwp_plain.specs.hwp_core_rule.Rule.{Holds}
use Rattle.hwp_plain.specs.hwp_core_rule.Views.{view_after}
use Rattle.hwp_plain.specs.hwp_core_rule.Words.{words_of}
use Rattle.hwp_plain.specs.hwp_core_rule.parts.Counter.{is_poisoning, is_revival}
use Rattle.hwp_plain.proofs.of_hwp_core_rule.CountsBelow.{all-term, some-term}
use Rattle.hwp_plain.proofs.of_hwp_core_rule.Lists.{at_last, at_map, map-was, same-or, set_here, sum-map, sum-set}
use Rattle.hwp_law_served.proofs.Homes.{there-is}

-- the place of a mark among those of its frame
abbrev pub mark_place : Mark → ℕ
mark_place m = 2 * m.cycle + from_bool (is_revival m.kind)

-- how many marks a frame has whose word is this
abbrev pub mark_count : ℕ → ℕ
mark_count word = 2 * cycle_of word + poison_of word

abbrev pub marks_on : State → List (List Mark)
marks_on s = map (λ (v : View). v.marks) s.views

-- 1 for a mark of the frame at the place
abbrev pub is_at : ℕ → ℕ → Mark → ℕ
is_at f p m = from_bool ((m.frame.0 == f) && (mark_place m == p))

-- ---- a place by its cycle

even-test : (kind : MarkKind) (n c : ℕ) → (2 * n + from_bool (is_revival kind) == 2 * c) ≡ ((n == c) && is_poisoning kind)
even-test (kinds.Poisoned hardware) n c = which (same-or n c)
  where
    which : (n ≡ c) ⊎ (n ≢ c) → (2 * n + 0 == 2 * c) ≡ ((n == c) && true)
    which (inl same) = eq-eqb (2 * n + 0) (2 * c) (omega (arith, same)) ∙ sym (and_from (n == c) true (eq-eqb n c same) refl)
    which (inr other) = ne_eqb (2 * n + 0) (2 * c) (λ is. other (let twice : 2 * n + 0 ≡ 2 * c = is in omega (arith, twice))) ∙ sym (and_left (n == c) true (ne_eqb n c other))
even-test kinds.Revived n c = ne_eqb (2 * n + 1) (2 * c) (λ is. let twice : 2 * n + 1 ≡ 2 * c = is in omega (arith, twice)) ∙ sym (and_right (n == c) false refl)

odd-test : (kind : MarkKind) (n c : ℕ) → (2 * n + from_bool (is_revival kind) == 2 * c + 1) ≡ ((n == c) && is_revival kind)
odd-test (kinds.Poisoned hardware) n c = ne_eqb (2 * n + 0) (2 * c + 1) (λ is. let twice : 2 * n + 0 ≡ 2 * c + 1 = is in omega (arith, twice)) ∙ sym (and_right (n == c) false refl)
odd-test kinds.Revived n c = which (same-or n c)
  where
    which : (n ≡ c) ⊎ (n ≢ c) → (2 * n + 1 == 2 * c + 1) ≡ ((n == c) && true)
    which (inl same) = eq-eqb (2 * n + 1) (2 * c + 1) (omega (arith, same)) ∙ sym (and_from (n == c) true (eq-eqb n c same) refl)
    which (inr other) = ne_eqb (2 * n + 1) (2 * c + 1) (λ is. other (let twice : 2 * n + 1 ≡ 2 * c + 1 = is in omega (arith, twice))) ∙ sym (and_left (n == c) true (ne_eqb n c other))

below-one : (a b : ℕ) → a < b → from_bool (nat_lt a b) ≡ 1
below-one a b less = ap from_bool (lt-ltb a b less)

past-none : (a b : ℕ) → b ≤ a → from_bool (nat_lt a b) ≡ 0
past-none a b past = ap from_bool (le-ltb a b past)

even-count : (c cycle poison : ℕ) → poison < 2 → cond (nat_lt c cycle) 1 (cond (c == cycle) poison 0) ≡ from_bool (nat_lt (2 * c) (2 * cycle + poison))
even-count c cycle poison bit = which (nat_lt c cycle) (c == cycle) refl refl
  where
    with-bit : c ≡ cycle → (poison ≡ 0) ⊎ (poison ≢ 0) → poison ≡ from_bool (nat_lt (2 * c) (2 * cycle + poison))
    with-bit same (inl none) = none ∙ sym (past-none (2 * c) (2 * cycle + poison) (omega (arith, same, none)))
    with-bit same (inr some) = (let one : poison ≡ 1 = omega (arith, some, bit) in one) ∙ sym (below-one (2 * c) (2 * cycle + poison) (omega (arith, same, some)))

    which : (low same : Bool) → nat_lt c cycle ≡ low → (c == cycle) ≡ same → cond low 1 (cond same poison 0) ≡ from_bool (nat_lt (2 * c) (2 * cycle + poison))
    which true same is also = let less : c < cycle = ltb-true c cycle is in sym (below-one (2 * c) (2 * cycle + poison) (omega (arith, less)))
    which false true is also = with-bit (eqb-true c cycle also) (same-or poison 0)
    which false false is also =
        let past : cycle ≤ c = ltb-false c cycle is in
        let other : c ≢ cycle = eqb-false c cycle also in
        sym (past-none (2 * c) (2 * cycle + poison) (omega (arith, past, other, bit)))

odd-count : (c cycle poison : ℕ) → poison < 2 → from_bool (nat_lt c cycle) ≡ from_bool (nat_lt (2 * c + 1) (2 * cycle + poison))
odd-count c cycle poison bit = which (nat_lt c cycle) refl
  where
    which : (low : Bool) → nat_lt c cycle ≡ low → from_bool low ≡ from_bool (nat_lt (2 * c + 1) (2 * cycle + poison))
    which true is = let less : c < cycle = ltb-true c cycle is in sym (below-one (2 * c + 1) (2 * cycle + poison) (omega (arith, less)))
    which false is = let past : cycle ≤ c = ltb-false c cycle is in sym (past-none (2 * c + 1) (2 * cycle + poison) (omega (arith, past, bit)))

more-than-none : (b : Bool) → 0 < from_bool b → b ≡ true
more-than-none true more = refl
more-than-none false more = absurd (omega (arith, more))

one-most : (b : Bool) → from_bool b ≤ 1
one-most true = omega arith
one-most false = omega arith

-- the mark at the first place is a poisoning
pub first-poisons : (m : Mark) → mark_place m ≡ 0 → is_poisoning m.kind ≡ true
first-poisons m first = which m.kind (omega (arith, first))
  where
    which : (kind : MarkKind) → from_bool (is_revival kind) ≡ 0 → is_poisoning kind ≡ true
    which (kinds.Poisoned hardware) none = refl
    which kinds.Revived none = absurd (omega (arith, none))

-- ---- on a board

module _ (layout : Layout) (s : State) (h : Holds layout s) where
  -- of each place below the count there is one mark
  pub one-each : (f w p : ℕ) → slice_get (words_of layout s.words).frames f ≡ Some w → sum_all (is_at f p) (marks_on s) ≡ from_bool (nat_lt p (mark_count w))
  one-each f w p word = which (same-or (p % 2) 0)
    where
      bit : poison_of w < 2
      bit = omega arith

      even : sum_all (is_at f (2 * (p / 2))) (marks_on s) ≡ from_bool (nat_lt (2 * (p / 2)) (mark_count w))
      even =
          ap (λ (g : Mark → ℕ). sum_all g (marks_on s)) (λ k m. from_bool ((m.frame.0 == f) && even-test m.kind m.cycle (p / 2) k))
          ∙ h.rule.failures.marks.poisoned f w (p / 2) word ∙ even-count (p / 2) (cycle_of w) (poison_of w) bit

      odd : sum_all (is_at f (2 * (p / 2) + 1)) (marks_on s) ≡ from_bool (nat_lt (2 * (p / 2) + 1) (mark_count w))
      odd =
          ap (λ (g : Mark → ℕ). sum_all g (marks_on s)) (λ k m. from_bool ((m.frame.0 == f) && odd-test m.kind m.cycle (p / 2) k))
          ∙ h.rule.failures.marks.revived f w (p / 2) word ∙ odd-count (p / 2) (cycle_of w) (poison_of w) bit

      which : (p % 2 ≡ 0) ⊎ (p % 2 ≢ 0) → sum_all (is_at f p) (marks_on s) ≡ from_bool (nat_lt p (mark_count w))
      which (inl none) = (let whole : 2 * (p / 2) ≡ p = omega (arith, none) in subst (λ (n : ℕ). sum_all (is_at f n) (marks_on s) ≡ from_bool (nat_lt n (mark_count w))) whole even)
      which (inr some) = (let whole : 2 * (p / 2) + 1 ≡ p = omega (arith, some) in subst (λ (n : ℕ). sum_all (is_at f n) (marks_on s) ≡ from_bool (nat_lt n (mark_count w))) whole odd)

  is-at : (m : Mark) → is_at m.frame.0 (mark_place m) m ≡ 1
  is-at m = ap from_bool (and_from (m.frame.0 == m.frame.0) (mark_place m == mark_place m) (eq-eqb m.frame.0 m.frame.0 refl) (eq-eqb (mark_place m) (mark_place m) refl))

  -- each mark is of a place below its frame's count
  pub below-count : (i j : ℕ) (v : View) (m : Mark) (w : ℕ) → slice_get s.views i ≡ Some v → slice_get v.marks j ≡ Some m → slice_get (words_of layout s.words).frames m.frame.0 ≡ Some w → mark_place m < mark_count w
  below-count i j v m w view there word =
      let one : is_at m.frame.0 (mark_place m) m ≡ 1 = is-at m in
      let mine : is_at m.frame.0 (mark_place m) m ≤ sum_all (is_at m.frame.0 (mark_place m)) (marks_on s) = all-term (is_at m.frame.0 (mark_place m)) (marks_on s) i j v.marks m (at_map (λ (x : View). x.marks) s.views i v view) there in
      let all : sum_all (is_at m.frame.0 (mark_place m)) (marks_on s) ≡ from_bool (nat_lt (mark_place m) (mark_count w)) = one-each m.frame.0 w (mark_place m) word in
      ltb-true (mark_place m) (mark_count w) (more-than-none (nat_lt (mark_place m) (mark_count w)) (omega (arith, one, mine, all)))

  -- the mark of a frame at a place, in the view that lists it
  pub record IsMarkOf (f p : ℕ) : Type 0 where
    pub i : ℕ
    pub view : View
    pub view_is : slice_get s.views i ≡ Some view
    pub j : ℕ
    pub mark : Mark
    pub listed : slice_get view.marks j ≡ Some mark
    pub frame_is : mark.frame.0 ≡ f
    pub place_is : mark_place mark ≡ p

  pub has-place : (f w p : ℕ) → slice_get (words_of layout s.words).frames f ≡ Some w → p < mark_count w → IsMarkOf f p
  has-place f w p word before =
      let all : sum_all (is_at f p) (marks_on s) ≡ from_bool (nat_lt p (mark_count w)) = one-each f w p word in
      let one : from_bool (nat_lt p (mark_count w)) ≡ 1 = below-one p (mark_count w) before in
      let some : 0 < sum_all (is_at f p) (marks_on s) = omega (arith, all, one) in
      let list = some-term (sum_by (is_at f p)) (marks_on s) some in
      let found = some-term (is_at f p) list.1 list.3 in
      let was = map-was (λ (v : View). v.marks) s.views list.0 list.1 list.2 in
      let m : Mark = found.1 in
      let both = and_parts (m.frame.0 == f) (mark_place m == p) (more-than-none ((m.frame.0 == f) && (mark_place m == p)) found.3) in
      record {
        i = list.0;
        view = was.0;
        view_is = was.1;
        j = found.0;
        mark = m;
        listed = ap (λ (l : List Mark). slice_get l found.0) was.2 ∙ found.2;
        frame_is = eqb-true m.frame.0 f both.0;
        place_is = eqb-true (mark_place m) p both.1;
      }

  -- two marks of a frame at a place are one: the sum is 1 at most
  pub one-at-most : (f w p : ℕ) → slice_get (words_of layout s.words).frames f ≡ Some w → sum_all (is_at f p) (marks_on s) ≤ 1
  one-at-most f w p word =
      let all : sum_all (is_at f p) (marks_on s) ≡ from_bool (nat_lt p (mark_count w)) = one-each f w p word in
      let most : from_bool (nat_lt p (mark_count w)) ≤ 1 = one-most (nat_lt p (mark_count w)) in
      omega (arith, all, most)

  -- a mark's frame is one of the board's, with its word
  pub word-of-mark : (i j : ℕ) (v : View) (m : Mark) → slice_get s.views i ≡ Some v → slice_get v.marks j ≡ Some m → (w : ℕ) × (slice_get (words_of layout s.words).frames m.frame.0 ≡ Some w)
  word-of-mark i j v m view there = there-is (words_of layout s.words).frames m.frame.0 (h.rule.failures.marks.framed i v.marks (at_map (λ (x : View). x.marks) s.views i v view) j m there)

-- ---- by a step

module _ (layout : Layout) (seat : ℕ) (r : Rec) (a b : State) (h : Holds layout a) (m : Move layout seat r a b) (still : Holds layout b) where
  abbrev after : View
  after = view_after layout r m.view

  -- a mark that a step makes stands at the end of those that the frame had
  pub new-mark : (k : Mark) → after.marks ≡ m.view.marks ++ k ∷ [] → (w : ℕ) → slice_get (words_of layout a.words).frames k.frame.0 ≡ Some w → mark_count w ≤ mark_place k
  new-mark k more w word =
      let f : ℕ = k.frame.0 in
      let p : ℕ = mark_place k in
      let by : View → ℕ = λ v. sum_by (is_at f p) v.marks in
      let here : slice_get b.views seat ≡ Some after = ap (λ (s : State). slice_get s.views seat) m.next ∙ set_here a.views seat after m.view m.me in
      let there : slice_get after.marks (length m.view.marks) ≡ Some k = ap (λ (l : List Mark). slice_get l (length m.view.marks)) more ∙ at_last m.view.marks k in
      let its = word-of-mark layout b still seat (length m.view.marks) after k here there in
      let one : is_at f p k ≡ 1 = is-at layout b still k in
      let mine : by after ≡ by m.view + sum_by (is_at f p) (k ∷ []) = ap (sum_by (is_at f p)) more ∙ sum_by-append (is_at f p) m.view.marks (k ∷ []) in
      let last : sum_by (is_at f p) (k ∷ []) ≡ is_at f p k + 0 = sum_by-cons (is_at f p) k [] in
      let set : sum_by by b.views + by m.view ≡ sum_by by a.views + by after = ap (λ (s : State). sum_by by s.views + by m.view) m.next ∙ sum-set by a.views seat m.view after m.me in
      let on_a : sum_all (is_at f p) (marks_on a) ≡ sum_by by a.views = sum-map (sum_by (is_at f p)) (λ (v : View). v.marks) a.views in
      let on_b : sum_all (is_at f p) (marks_on b) ≡ sum_by by b.views = sum-map (sum_by (is_at f p)) (λ (v : View). v.marks) b.views in
      let few : sum_all (is_at f p) (marks_on b) ≤ 1 = one-at-most layout b still f its.0 p its.1 in
      let were : sum_all (is_at f p) (marks_on a) ≡ from_bool (nat_lt p (mark_count w)) = one-each layout a h f w p word in
      which (nat_lt p (mark_count w)) refl (omega (arith, one, mine, last, set, on_a, on_b, few, were))
    where
      which : (low : Bool) → nat_lt (mark_place k) (mark_count w) ≡ low → from_bool (nat_lt (mark_place k) (mark_count w)) ≤ 0 → mark_count w ≤ mark_place k
      which true is none = absurd (let one : from_bool (nat_lt (mark_place k) (mark_count w)) ≡ 1 = ap from_bool is in omega (arith, one, none))
      which false is none = ltb-false (mark_place k) (mark_count w) is
