-- The table at its end: where nothing is held, all slots are at home, and the moves led to what was read.
use Rattle.std.proofs.Common.{◌≡◌, ◌⊎◌, ℕ, suc, ◌+◌, ◌<◌, ◌==◌, Bool, true, false, List, [], ◌∷◌, drop, map, length, take, slice_get, refl, sym, ap, ◌∙◌, subst, arith}
use Rattle.std.specs.Prelude.{Some}
use mathlib.Core.Option.{Option, some, some-injective}
use lib.ListN.{get_elem?}
use Rattle.std.proofs.lemmas.Bool.{eqb-true}
use Rattle.std.proofs.lemmas.List.{length-map}
use Rattle.std.proofs.lemmas.Option.{same_Some, slice_get_within}
use Rattle.std.specs.Int.{from_bool}
use Rattle.atomic_table.specs.Table.{Final, Seen}
use Rattle.hwp_core_rule.specs.hwp_geom.declared.Layout.{Layout}
use Rattle.hwp_core_rule.specs.declared.State.{State}
use Rattle.hwp_core_rule.specs.declared.View.{View}
use Rattle.hwp_core_rule.specs.Lists.{EachMember}
use Rattle.hwp_core_rule.specs.Moves.{Run}
use Rattle.hwp_core_rule.specs.Opening.{opening}
use Rattle.hwp_core_rule.specs.Rule.{Holds}
use Rattle.hwp_core_rule.specs.parts.Holdings.{HoldsNothing}
use Rattle.hwp_core_rule.specs.Words.{size, words_of}
use Rattle.hwp_core_rule.proofs.CountsBelow.{some-term}
use Rattle.hwp_core_rule.proofs.Lists.{at_map}
use Rattle.hwp_plain.specs.Openings.{home_with}
use Rattle.hwp_plain.proofs.AllHome.{all-home}
use Rattle.hwp_table_words.specs.Ends.{HasAll, IsEnd, board_of}
use Rattle.hwp_table_words.specs.Known.{Knowing}
use Rattle.hwp_table_words.specs.Order.{in_rule}
use Rattle.hwp_table_words.specs.Rules.{IsWhole, Kept, Reached, cache_seat}
use Rattle.hwp_table_words.specs.Stands.{Content, Table, first_part, home_of, stand}
use Rattle.hwp_table_words.proofs.TableKeeps.{reached-holds, run-seats}
use Rattle.hwp_table_words.proofs.ListReads.{as-slice, home-was}
use Rattle.hwp_table_words.proofs.SeatKnows.{counted}
use Rattle.hwp_table_words.specs.tlb.Rule.{CachesAgree, Leads}

-- what was read is what was at home
pub all-read : (hs : List (Option Content)) (xs : List Content) → length hs ≡ length xs → ((k : ℕ) → k < length hs → (y : Content) × (get_elem? hs k ≡ some (some y)))
    → ((k : ℕ) (y : Content) → get_elem? hs k ≡ some (some y) → get_elem? xs k ≡ some y) → map home_of hs ≡ map home_with xs
all-read [] [] same home read = refl
all-read [] (x ∷ xs) same home read = absurd (omega (arith, same))
all-read (h ∷ hs) [] same home read = absurd (omega (arith, same))
all-read (h ∷ hs) (x ∷ xs) same home read =
    let first = home 0 (omega arith) in
    let y : Content = first.0 in
    let h-is : h ≡ some y = some-injective h (some y) first.1 in
    let x-is : x ≡ y = some-injective x y (read 0 y first.1) in
    let head : home_of h ≡ home_with x = ap home_of h-is ∙ ap home_with (sym x-is) in
    let rest = all-read hs xs (omega (arith, same)) (λ k less. home (suc k) (omega (arith, less))) (λ k z e. read (suc k) z e) in
    λ i. head i ∷ rest i

module _ (ways : ℕ) (layout : Layout) (id : ℕ) (v : Knowing) (words : List ℕ) (slots : List Content) (end : Final (Seen (Kept ways layout) id v) words slots) (all : HasAll layout v.known) where
  abbrev t : Table
  t = first_part layout end.0

  abbrev reached : Reached layout t
  reached = end.1.0.reached

  me : slice_get t.views id ≡ Some v.known
  me = at_map (λ (k : Knowing). k.known) end.0.views id v (as-slice end.0.views id v end.1.1)

  seats : length reached.views ≡ layout.cpus
  seats = run-seats layout reached.log (stand reached.views t) reached.run

  holds : Holds layout (stand reached.views t)
  holds = reached-holds layout t reached

  -- each processor's view is the seat's, which holds nothing
  nothing : EachMember HoldsNothing reached.views
  nothing i u at =
      let less : i < layout.cpus = subst (λ (n : ℕ). i < n) seats (slice_get_within reached.views i u at) in
      let mine = some-term (λ (x : ℕ × View). from_bool (x.0 == i)) v.known.mines (all.all i less) in
      let x : ℕ × View = mine.1 in
      let number : x.0 ≡ i = this x mine.3 in
      let known = reached.ruled.mines id v.known me mine.0 x mine.2 in
      subst HoldsNothing (same_Some x.1 u (sym known ∙ ap (slice_get reached.views) number ∙ at)) (all.nothing mine.0 x mine.2)
    where
      found : (n m : ℕ) (b : Bool) → (n == m) ≡ b → 0 < from_bool b → n ≡ m
      found n m true is has = eqb-true n m is
      found n m false is has = absurd (omega (arith, has))

      this : (x : ℕ × View) → 0 < from_bool (x.0 == i) → x.0 ≡ i
      this x has = found x.0 i (x.0 == i) refl has

  at-home : (k : ℕ) → k < length t.homes → (y : Content) × (get_elem? t.homes k ≡ some (some y))
  at-home k less =
      let count : length t.homes ≡ layout.frames + length layout.pages = sym (length-map t.homes home_of) ∙ holds.slots in
      let home = all-home layout (stand reached.views t) holds nothing k (subst (λ (n : ℕ). k < n) count less) in
      let was = home-was t.homes k home.0 home.1 in
      (was.0, was.1)

  state-is : stand reached.views t ≡ board_of (in_rule (take (size layout) words)) slots reached.views
  state-is = λ i. record { words = in_rule (take (size layout) (end.2 i)); homes = all-read t.homes slots end.3 at-home end.4 i; views = reached.views }

  -- the words of the caches
  abbrev entries : List ℕ
  entries = drop (size layout) words

  entries-are : drop (size layout) end.0.words ≡ entries
  entries-are = ap (drop (size layout)) end.2

  agree : CachesAgree ways layout (stand reached.views t) entries (map cache_seat end.0.views)
  agree = subst (λ (l : List ℕ). CachesAgree ways layout (stand reached.views t) l (map cache_seat end.0.views)) entries-are end.1.0.agree

  pub ended : IsEnd ways layout v.known (in_rule (take (size layout) words)) slots entries
  ended = record {
    moves = reached.log;
    views = reached.views;
    run = subst (Run layout (opening layout) reached.log) state-is reached.run;
    holds = subst (Holds layout) state-is holds;
    count = seats;
    nothing = nothing;
    mines = reached.ruled.mines id v.known me;
    own = λ i x e. (reached.ruled.own id v.known me).all x.0 (counted x.0 x.1 v.known.mines i e);
    whole = λ w e. subst (λ (s : State). IsWhole layout s reached.log v.known.rights w) state-is (reached.ruled.whole id v.known me w e);
    entry_count = agree.count;
    lead = λ i w e. subst (λ (l : List ℕ). (w ≡ 0) ⊎ Leads ways (words_of layout l).trans i w) (ap (λ (s : State). s.words) state-is) (agree.lead i w e);
  }
