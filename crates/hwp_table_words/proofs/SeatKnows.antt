-- What seats know is so again after a step, and where a seat is cut in two or takes another in.
use Rattle.std.proofs.Common.{◌≡◌, ◌≢◌, ℕ, zero, suc, ◌+◌, ◌<◌, ◌≤◌, ◌==◌, Bool, true, false, not, cond, List, [], ◌∷◌, ◌++◌, inl, inr, Option, Some, None, filter, option_map, set, slice_get, length, refl, sym, ap, ◌∙◌, subst, arith, ne_eqb}
use Rattle.std.proofs.lemmas.List.Sums.{sum_by-append, sum_by_push}
use Rattle.std.proofs.lemmas.Option.{none-some, same_Some, slice_get_within}
use Rattle.std.specs.List.{sum_by}
use Rattle.std.specs.Int.{from_bool}
use Rattle.hwp_core_rule.specs.hwp_geom.declared.Layout.{Layout}
use Rattle.hwp_core_rule.specs.declared.Rec.{Rec}
use Rattle.hwp_core_rule.specs.declared.State.{State}
use Rattle.hwp_core_rule.specs.declared.View.{View}
use Rattle.hwp_core_rule.specs.Lists.{EachMember, SomeMember}
use Rattle.hwp_core_rule.specs.Moves.{moved}
use Rattle.hwp_core_rule.specs.SlotMoves.{homes_after}
use Rattle.hwp_core_rule.specs.Steps.{place_of, word_after}
use Rattle.hwp_core_rule.specs.Views.{view_after}
use Rattle.hwp_core_rule.specs.Words.{index}
use Rattle.hwp_core_rule.proofs.Lists.{same-or, same-number, map-was, at_set, at_push, set_here, set_else, sum-set, sum-map, term-le, terms-le, from_bool-same}
use Rattle.hwp_table_words.specs.Known.{Known, Whole, times, views_for, idle, let_go, note, dealt, kept, joined, either_whole, known_after, mine_after, whole_after}
use Rattle.hwp_table_words.specs.Rules.{Ruled, IsOwn, IsWhole}
use Rattle.hwp_table_words.proofs.SeatMoves.{let-go-own, kept-own, dealt-own, joined-own, after-own, other-own, none-own}
use Rattle.hwp_table_words.proofs.Times.{sum-parts, times-append}

abbrev pub Of : State → ℕ × View → Type 0
Of s x = slice_get s.views x.0 ≡ Some x.1

-- what one seat owes
abbrev pub Mines : State → Known → Type 0
Mines s v = EachMember (Of s) v.mines

abbrev pub Knows : Layout → State → List (ℕ × Rec) → Known → Type 0
Knows layout s log v = (w : Whole) → v.whole ≡ Some w → IsWhole layout s log v.rights w

abbrev rights : ℕ → Known → ℕ
rights c v = times c v.rights

abbrev views : ℕ → Known → ℕ
views c v = views_for c v.mines

module _ {A : Type 0} (P : A → Type 0) where
  each-cons : (x : A) (xs : List A) → P x → EachMember P xs → EachMember P (x ∷ xs)
  each-cons x xs p each zero y e = subst P (same_Some x y e) p
  each-cons x xs p each (suc i) y e = each i y e

  pub each-filter : (test : A → Bool) (xs : List A) → EachMember P xs → EachMember P (filter test xs)
  each-filter test [] each = each
  each-filter test (x ∷ xs) each = which (test x) (each-filter test xs (λ i y e. each (suc i) y e))
    where
      which : (b : Bool) → EachMember P (filter test xs) → EachMember P (cond b (x ∷ filter test xs) (filter test xs))
      which true rest = each-cons x (filter test xs) (each 0 x refl) rest
      which false rest = rest

  pub each-one : (x : A) → P x → EachMember P (x ∷ [])
  each-one x p = each-cons x [] p (λ i y e. absurd (none-some y e))

  pub each-append : (xs ys : List A) → EachMember P xs → EachMember P ys → EachMember P (xs ++ ys)
  each-append [] ys a b = b
  each-append (x ∷ xs) ys a b = each-cons x (xs ++ ys) (a 0 x refl) (each-append xs ys (λ i y e. a (suc i) y e) b)

-- a view that is there is counted
pub counted : (c : ℕ) (m : View) (mines : List (ℕ × View)) (i : ℕ) → slice_get mines i ≡ Some (c, m) → 0 < views_for c mines
counted c m mines i at =
    let less = term-le (λ (x : ℕ × View). from_bool (x.0 == c)) mines i (c, m) at in
    let one : from_bool (c == c) ≡ 1 = from_bool-same c c refl in
    omega (arith, less, one)

module _ (layout : Layout) (s : State) (log : List (ℕ × Rec)) (vs : List Known) (h : Ruled layout s log vs) where
  -- a view is in one seat, and a right
  view-once : (i j : ℕ) (v w : Known) (c : ℕ) → i ≢ j → slice_get vs i ≡ Some v → slice_get vs j ≡ Some w → 0 < views c v → 0 < views c w → ⊥
  view-once i j v w c other at_i at_j a b =
      let two = terms-le (views c) vs i j v w other at_i at_j in
      let one = h.one_view c in
      omega (arith, a, b, two, one)

  right-once : (i j : ℕ) (v w : Known) (c : ℕ) → i ≢ j → slice_get vs i ≡ Some v → slice_get vs j ≡ Some w → 0 < rights c v → 0 < rights c w → ⊥
  right-once i j v w c other at_i at_j a b =
      let two = terms-le (rights c) vs i j v w other at_i at_j in
      let one = h.one_right c in
      omega (arith, a, b, two, one)

  -- a seat is cut in two
  cut-count : (f : Known → ℕ) (id : ℕ) (v w u : Known) → slice_get vs id ≡ Some v → f w + f u ≡ f v → sum_by f vs ≤ 1 → sum_by f (set vs id w ++ u ∷ []) ≤ 1
  cut-count f id v w u me same one =
      let all = sum-set f vs id v w me in
      let more = sum_by_push f (set vs id w) u in
      omega (arith, same, one, all, more)

  cut-each : (P : Known → Type 0) (id : ℕ) (w u : Known) → P w → P u → EachMember P vs → EachMember P (set vs id w ++ u ∷ [])
  cut-each P id w u p q each i t at = elim (at_push (set vs id w) u t i at) [
    | inl e ↦ elim (at_set vs id i w t e) [
      | inl d ↦ subst P d.1 p
      | inr d ↦ each i t d.1
    ]
    | inr e ↦ subst P e q
  ]

  pub cut-ruled : (id : ℕ) (v w u : Known) → slice_get vs id ≡ Some v → ((c : ℕ) → views c w + views c u ≡ views c v) → ((c : ℕ) → rights c w + rights c u ≡ rights c v)
      → Mines s w → Mines s u → IsOwn log w → IsOwn log u → Knows layout s log w → Knows layout s log u → Ruled layout s log (set vs id w ++ u ∷ [])
  cut-ruled id v w u me same_views same_rights mines_w mines_u own_w own_u whole_w whole_u = record {
    mines = cut-each (Mines s) id w u mines_w mines_u h.mines;
    own = cut-each (IsOwn log) id w u own_w own_u h.own;
    one_view = λ c. cut-count (views c) id v w u me (same_views c) (h.one_view c);
    one_right = λ c. cut-count (rights c) id v w u me (same_rights c) (h.one_right c);
    whole = cut-each (Knows layout s log) id w u whole_w whole_u h.whole;
  }

  knows-none : (v : Known) → v.whole ≡ None → Knows layout s log v
  knows-none v none w e = absurd (none-some w (sym none ∙ e))

  -- the rights go off on a note
  pub note-ruled : (id : ℕ) (v : Known) → slice_get vs id ≡ Some v → Ruled layout s log (set vs id (let_go v) ++ note v ∷ [])
  note-ruled id v me = cut-ruled id v (let_go v) (note v) me (λ c. omega arith) (λ c. omega arith) (h.mines id v me) (λ i x e. absurd (none-some x e))
      (let-go-own log v (h.own id v me)) (none-own log (note v) refl refl) (knows-none (let_go v) refl) (h.whole id v me)

  -- a new seat has what there is of a processor
  pub deal-ruled : (id : ℕ) (v : Known) (c : ℕ) → slice_get vs id ≡ Some v → Ruled layout s log (set vs id (kept c v) ++ dealt c v ∷ [])
  deal-ruled id v c me = cut-ruled id v (kept c v) (dealt c v) me
      (λ d. sum-parts (λ (x : ℕ × View). from_bool (x.0 == d)) (λ (x : ℕ × View). x.0 == c) v.mines)
      (λ d. sum-parts (λ (n : ℕ). from_bool (n == d)) (λ (n : ℕ). n == c) v.rights)
      (each-filter (Of s) (λ (x : ℕ × View). not (x.0 == c)) v.mines (h.mines id v me))
      (each-filter (Of s) (λ (x : ℕ × View). x.0 == c) v.mines (h.mines id v me))
      (kept-own log v (h.own id v me) c) (dealt-own log v (h.own id v me) c) (knows-none (kept c v) refl) (knows-none (dealt c v) refl)

  idle-mines : Mines s idle
  idle-mines i x e = absurd (none-some x e)

  join-count : (f : Known → ℕ) (id other : ℕ) (v w u : Known) → slice_get vs id ≡ Some v → slice_get (set vs id u) other ≡ Some w → f u ≡ f v + f w → f idle ≡ 0 → sum_by f vs ≤ 1 → sum_by f (set (set vs id u) other idle) ≤ 1
  join-count f id other v w u me you same none one =
      let all = sum-set f vs id v u me in
      let then = sum-set f (set vs id u) other w idle you in
      omega (arith, same, none, one, all, then)

  join-each : (P : Known → Type 0) (id other : ℕ) (u : Known) → P u → P idle → EachMember P vs → EachMember P (set (set vs id u) other idle)
  join-each P id other u p q each i t at = elim (at_set (set vs id u) other i idle t at) [
    | inl e ↦ subst P e.1 q
    | inr e ↦ elim (at_set vs id i u t e.1) [
      | inl d ↦ subst P d.1 p
      | inr d ↦ each i t d.1
    ]
  ]

  -- a seat that knows the whole knows it with more rights
  more-rights : (xs ys : List ℕ) (w : Whole) → ((c : ℕ) → 0 < times c xs → 0 < times c ys) → IsWhole layout s log xs w → IsWhole layout s log ys w
  more-rights xs ys w more is = record { words = is.words; homes = is.homes; moves = is.moves; all = λ c less. more c (is.all c less) }

  -- a seat takes all that another has
  pub join-ruled : (id other : ℕ) (v w : Known) → slice_get vs id ≡ Some v → slice_get vs other ≡ Some w → other ≢ id → Ruled layout s log (set (set vs id (joined v w)) other idle)
  join-ruled id other v w me you apart = record {
    mines = join-each (Mines s) id other (joined v w) (each-append (Of s) v.mines w.mines (h.mines id v me) (h.mines other w you)) idle-mines h.mines;
    own = join-each (IsOwn log) id other (joined v w) (joined-own log v (h.own id v me) w (h.own other w you) in-one) (none-own log idle refl refl) h.own;
    one_view = λ c. join-count (views c) id other v w (joined v w) me you' (sum_by-append (λ (x : ℕ × View). from_bool (x.0 == c)) v.mines w.mines) refl (h.one_view c);
    one_right = λ c. join-count (rights c) id other v w (joined v w) me you' (times-append c v.rights w.rights) refl (h.one_right c);
    whole = join-each (Knows layout s log) id other (joined v w) (knows-both v.whole refl) (knows-none idle refl) h.whole;
  }
    where
      you' : slice_get (set vs id (joined v w)) other ≡ Some w
      you' = set_else vs id other (joined v w) apart ∙ you

      in-one : (c : ℕ) → views c v + views c w ≤ 1
      in-one c = let two = terms-le (views c) vs other id w v apart you me in let one = h.one_view c in omega (arith, two, one)

      more : (c : ℕ) → 0 < times c v.rights + times c w.rights → 0 < times c (v.rights ++ w.rights)
      more c some = subst (λ (n : ℕ). 0 < n) (sym (times-append c v.rights w.rights)) some

      knows-both : (o : Option Whole) → v.whole ≡ o → (x : Whole) → either_whole o w.whole ≡ Some x → IsWhole layout s log (v.rights ++ w.rights) x
      knows-both None is x e = more-rights w.rights (v.rights ++ w.rights) x (λ c has. more c (omega (arith, has))) (h.whole other w you x e)
      knows-both (Some y) is x e = more-rights v.rights (v.rights ++ w.rights) x (λ c has. more c (omega (arith, has))) (h.whole id v me x (is ∙ e))

  -- a step of the processor that the seat has
  module _ (id c : ℕ) (v : Known) (m : View) (r : Rec) (me : slice_get vs id ≡ Some v) (mine : SomeMember (λ (x : ℕ × View). x ≡ (c, m)) v.mines) (right : 0 < times c v.rights) where
    abbrev then : State
    then = moved layout c r m s

    abbrev w : Known
    w = known_after layout c r v

    mine-at : slice_get v.mines mine.0 ≡ Some (c, m)
    mine-at = mine.2 ∙ ap Some mine.3

    -- the processor knows what its seat has
    pub view-at : slice_get s.views c ≡ Some m
    view-at = h.mines id v me mine.0 (c, m) mine-at

    own : Mines then w
    own i y e =
        let was = map-was (mine_after layout c r) v.mines i y e in
        let x : ℕ × View = was.0 in
        subst (Of then) was.2 (elim (same-or x.0 c) [
          | inl same ↦
              let m-is : x.1 ≡ m = same_Some x.1 m (sym (h.mines id v me i x was.1) ∙ ap (slice_get s.views) same ∙ view-at) in
              ap (slice_get then.views) same ∙ set_here s.views c (view_after layout r m) m view-at ∙ ap (λ (u : View). Some (view_after layout r u)) (sym m-is) ∙ ap (λ (b : Bool). Some (cond b (view_after layout r x.1) x.1)) (sym (same-number x.0 c same))
          | inr other ↦ set_else s.views c x.0 (view_after layout r m) other ∙ h.mines id v me i x was.1 ∙ ap (λ (b : Bool). Some (cond b (view_after layout r x.1) x.1)) (sym (ne_eqb x.0 c other))
        ])

    others : (i : ℕ) (u : Known) → i ≢ id → slice_get vs i ≡ Some u → Mines then u
    others i u other at j x e = set_else s.views c x.0 (view_after layout r m) differs ∙ h.mines i u at j x e
      where
        differs : x.0 ≢ c
        differs same = view-once i id u v c other at me
            (counted c x.1 u.mines j (e ∙ ap (λ (n : ℕ). Some (n, x.1)) same)) (counted c m v.mines mine.0 mine-at)

    -- the others haven't the processor's view
    no-view : (i : ℕ) (u : Known) → i ≢ id → slice_get vs i ≡ Some u → views c u ≡ 0
    no-view i u other at =
        let two = terms-le (views c) vs i id u v other at me in
        let one = h.one_view c in
        let has = counted c m v.mines mine.0 mine-at in
        omega (arith, two, one, has)

    step-count : (f : Known → ℕ) → f w ≡ f v → sum_by f vs ≤ 1 → sum_by f (set vs id w) ≤ 1
    step-count f same one = let all = sum-set f vs id v w me in omega (arith, same, one, all)

    still-whole : (x : Whole) → IsWhole layout s log v.rights x → IsWhole layout then ((c, r) ∷ log) v.rights (whole_after layout c r x)
    still-whole x is = record {
      words = ap (λ (l : List ℕ). set l (index layout (place_of r.step)) (word_after r.step r.found)) is.words;
      homes = ap (homes_after layout r.step r.found r.content) is.homes;
      moves = ap (λ (l : List (ℕ × Rec)). (c, r) ∷ l) is.moves;
      all = is.all;
    }

    knows-then : (o : Option Whole) → v.whole ≡ o → (x : Whole) → option_map (whole_after layout c r) o ≡ Some x → IsWhole layout then ((c, r) ∷ log) v.rights x
    knows-then None is x e = absurd (none-some x e)
    knows-then (Some y) is x e = subst (IsWhole layout then ((c, r) ∷ log) v.rights) (same_Some (whole_after layout c r y) x e) (still-whole y (h.whole id v me y is))

    -- none of the others has all rights
    not-whole : length s.views ≡ layout.cpus → (i : ℕ) (u : Known) → i ≢ id → slice_get vs i ≡ Some u → Knows layout then ((c, r) ∷ log) u
    not-whole seats i u other at x e =
        let less : c < layout.cpus = subst (λ (n : ℕ). c < n) seats (slice_get_within s.views c m view-at) in
        absurd (right-once i id u v c other at me ((h.whole i u at x e).all c less) right)

    pub step-ruled : length s.views ≡ layout.cpus → Ruled layout then ((c, r) ∷ log) (set vs id w)
    step-ruled seats = record {
      mines = λ i u at. elim (at_set vs id i w u at) [
        | inl e ↦ subst (Mines then) e.1 own
        | inr e ↦ others i u e.0 e.1
      ];
      own = λ i u at. elim (at_set vs id i w u at) [
        | inl e ↦ subst (IsOwn ((c, r) ∷ log)) e.1 (after-own log v (h.own id v me) layout c r (counted c m v.mines mine.0 mine-at))
        | inr e ↦ other-own log u (h.own i u e.1) layout c r (no-view i u e.0 e.1)
      ];
      one_view = λ d. step-count (views d) (sum-map (λ (x : ℕ × View). from_bool (x.0 == d)) (mine_after layout c r) v.mines) (h.one_view d);
      one_right = λ d. step-count (rights d) refl (h.one_right d);
      whole = λ i u at. elim (at_set vs id i w u at) [
        | inl e ↦ subst (Knows layout then ((c, r) ∷ log)) e.1 (knows-then v.whole refl)
        | inr e ↦ not-whole seats i u e.0 e.1
      ];
    }
