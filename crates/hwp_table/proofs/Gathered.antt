-- One seat takes all that the others have, from the last on.
use Rattle.std.proofs.Common.{◌≡◌, ◌≢◌, ℕ, ◌+◌, ◌<◌, ◌==◌, List, [], ◌∷◌, ◌++◌, inl, inr, length, map, slice_get, refl, sym, ap, ◌∙◌, subst, arith}
use Rattle.std.specs.Prelude.{Option, Some, None}
use Rattle.std.proofs.lemmas.List.{append_assoc, append-nil, length-append}
use Rattle.std.proofs.lemmas.List.Sums.{sum_by-append, sum_by-cons}
use Rattle.std.proofs.lemmas.Option.{none-some, same_Some, slice_get_within}
use Rattle.std.specs.Int.{from_bool}
use Rattle.atomic_table.specs.Seated.{TableId}
use Rattle.hwp_core_rule.specs.hwp_geom.declared.Layout.{Layout}
use Rattle.hwp_core_rule.specs.declared.FrameLock.{FrameLock}
use Rattle.hwp_core_rule.specs.declared.PageLock.{PageLock}
use Rattle.hwp_core_rule.specs.declared.View.{View}
use Rattle.hwp_core_rule.specs.Lists.{EachMember}
use Rattle.hwp_core_rule.specs.parts.Holdings.{HoldsNothing}
use Rattle.hwp_core_rule.proofs.Lists.{at_last, at_longer, at_map, each-push, from_bool-same, same-or}
use Rattle.hwp_core_rule.specs.declared.Turn.{Turn}
use Rattle.hwp_table_words.specs.Ends.{HasAll}
use Rattle.hwp_table_words.specs.Known.{Known, Whole, either_whole, joining, views_for}
use Rattle.hwp_table_words.specs.Seats.{SeatValue, cpu, mine, slots_of}
use Rattle.hwp_table_words.specs.Stands.{Me}
use Rattle.hwp_table.specs.Boards.{IsAtTable, state_of, whole_then}
use Rattle.hwp_table.specs.Seats.{AreThese, CanGather, Gathering, IsGathered, IsSeatOf, whole_at}
use Rattle.hwp_table.specs.Turns.{played}
use Rattle.hwp_table.proofs.Played.{moves-played}

-- a list of no length is empty
pub none-left : {A : Type 0} (xs : List A) → length xs ≡ 0 → xs ≡ []
none-left [] none = refl
none-left (x ∷ xs) none = absurd (omega (arith, none))

module _ (id : TableId) (layout : Layout) (all : List SeatValue) (holder : ℕ) (w : Whole) (can : CanGather id layout all holder w) where
  abbrev views : List View
  views = map mine all

  holder-less : holder < length all
  holder-less = slice_get_within all holder can.held.seat can.held.there

  -- the last of those that are left
  module _ (left : List SeatValue) (s : SeatValue) (rest : List SeatValue) (front : all ≡ (left ++ s ∷ []) ++ rest) where
    abbrev n : ℕ
    n = length left

    there : slice_get all n ≡ Some s
    there = ap (λ (l : List SeatValue). slice_get l n) front ∙ at_longer (left ++ s ∷ []) rest n s (at_last left s)

    pub of-s : IsSeatOf id layout n s
    of-s = can.are.each n s there

    view-there : slice_get views n ≡ Some (mine s)
    view-there = at_map mine all n s there

    held-nothing : HoldsNothing (mine s)
    held-nothing = can.nothing n (mine s) view-there

    pub none-carried : slots_of s.layout (mine s) ≡ []
    none-carried = λ i. map (λ (l : FrameLock). l.frame.0) (held-nothing.locks i) ++ map (λ (q : ℕ). s.layout.frames + q) (map (λ (l : PageLock). l.page.0) (held-nothing.pages i))

    own-view : slice_get views (cpu s) ≡ Some (mine s)
    own-view = ap (slice_get views) of-s.number_is ∙ view-there

    view-of : EachMember (λ (x : ℕ × View). slice_get views x.0 ≡ Some x.1) s.known.mines
    view-of = subst (EachMember (λ (x : ℕ × View). slice_get views x.0 ≡ Some x.1)) (sym of-s.one)
        (each-push (λ (x : ℕ × View). slice_get views x.0 ≡ Some x.1) [] (cpu s, mine s) own-view (λ i x e. absurd (none-some x e)))

    counted : (c : ℕ) → c ≡ n → 0 < views_for c s.known.mines
    counted c same =
        let one = sum_by-cons (λ (x : ℕ × View). from_bool (x.0 == c)) (cpu s, mine s) [] in
        let mines : views_for c s.known.mines ≡ views_for c ((cpu s, mine s) ∷ []) = ap (views_for c) of-s.one in
        let hit : from_bool (cpu s == c) ≡ 1 = from_bool-same (cpu s) c (of-s.number_is ∙ sym same) in
        omega (arith, one, mines, hit)

    no-whole : holder ≢ n → s.known.whole ≡ None
    no-whole other = can.held.others n s (λ e. other (sym e)) there

    the-whole : holder ≡ n → s.known.whole ≡ Some w
    the-whole same = subst (λ (t : SeatValue). t.known.whole ≡ Some w) (same_Some can.held.seat s (sym can.held.there ∙ ap (slice_get all) same ∙ there)) can.held.whole

    front-less : all ≡ left ++ (s ∷ rest)
    front-less = front ∙ append_assoc left (s ∷ []) rest

    -- the first that is taken
    pub first : (of : TableId) (me : Me) → rest ≡ [] → of ≡ s.table → me.0.known ≡ s.known → me.1 ≡ [] → IsGathered id layout all holder w left of me
    first of me last of-is known bare = record {
      rest = s ∷ rest;
      front = front-less;
      same = of-is ∙ of-s.table;
      bare = bare;
      views = subst (λ (v : Known). EachMember (λ (x : ℕ × View). slice_get views x.0 ≡ Some x.1) v.mines) (sym known) view-of;
      each = λ c past less. subst (λ (v : Known). 0 < views_for c v.mines) (sym known) (counted c (omega (arith, past, less, count, can.are.count)));
      none = λ less. ap (λ (v : Known). v.whole) known ∙ no-whole (λ e. omega (arith, e, less));
      whole = λ past. ap (λ (v : Known). v.whole) known ∙ the-whole (omega (arith, past, count, holder-less));
    }
      where
        count : length all ≡ n + 1
        count = ap length (front ∙ ap (λ (l : List SeatValue). (left ++ s ∷ []) ++ l) last ∙ append-nil (left ++ s ∷ [])) ∙ length-append left (s ∷ [])

    -- and one more
    pub more : (before : List SeatValue) (of now : TableId) (me new : Me) → before ≡ left ++ s ∷ [] → IsGathered id layout all holder w before of me → now ≡ of → new ≡ (joining me.0 (record { known = s.known; caching = s.caching }), me.1) → IsGathered id layout all holder w left now new
    more before of now me new before-is was now-is is-new = subst (IsGathered id layout all holder w left now) (sym is-new) (record {
      rest = s ∷ rest;
      front = front-less;
      same = now-is ∙ was.same;
      bare = was.bare;
      views = subst (λ (l : List (ℕ × View)). EachMember (λ (x : ℕ × View). slice_get views x.0 ≡ Some x.1) (me.0.known.mines ++ l)) (sym of-s.one)
          (each-push (λ (x : ℕ × View). slice_get views x.0 ≡ Some x.1) me.0.known.mines (cpu s, mine s) own-view was.views);
      each = λ c past less. let both = sum_by-append (λ (x : ℕ × View). from_bool (x.0 == c)) me.0.known.mines s.known.mines in elim (same-or c n) [
        | inl same ↦ let here = counted c same in omega (arith, both, here)
        | inr other ↦ let earlier = was.each c (omega (arith, count, past, other)) less in omega (arith, both, earlier)
      ];
      none = λ less. ap (λ (o : Option Whole). either_whole o s.known.whole) (was.none (omega (arith, count, less))) ∙ no-whole (λ e. omega (arith, e, less));
      whole = λ past. elim (same-or holder n) [
        | inl same ↦ ap (λ (o : Option Whole). either_whole o s.known.whole) (was.none (omega (arith, count, same))) ∙ the-whole same
        | inr other ↦ ap (λ (o : Option Whole). either_whole o s.known.whole) (was.whole (omega (arith, count, past, other)))
      ];
    })
      where
        count : length before ≡ n + 1
        count = ap length before-is ∙ length-append left (s ∷ [])

  -- all views are there in the end, and nothing is held
  pub has-all : (of : TableId) (me : Me) → IsGathered id layout all holder w [] of me → HasAll layout me.0.known
  has-all of me g = record { all = λ c less. g.each c (omega arith) less; nothing = λ i x e. can.nothing x.0 x.1 (g.views i x e) }

-- the seats of a board
module _ (ways : ℕ) (id sheet : TableId) (layout : Layout) (seats : List SeatValue) (holder : ℕ) (turns : List Turn) (seat : ℕ) (is : IsAtTable ways id sheet layout seats holder turns seat) where
  abbrev pub which : Gathering
  which = record { table = id; layout = layout; holder = holder; whole = whole_at seats holder }

  pub these : EachMember HoldsNothing (map mine seats) → AreThese ways which sheet seats
  these nothing = record {
    sheet_is = is.sheet_is;
    table_is = is.table_is;
    can = record { are = is.board.are; held = is.board.held; some_cpu = omega (arith, is.board.seated); nothing = nothing };
  }

  pub whole-is : whole_at seats holder ≡ whole_then (state_of seats holder) (played (whole_at seats holder).log turns)
  whole-is = λ i. record { words = (whole_at seats holder).words; homes = (whole_at seats holder).homes; log = sym (moves-played (whole_at seats holder).log turns) i }
