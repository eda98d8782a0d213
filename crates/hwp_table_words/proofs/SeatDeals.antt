-- What seats that come and go ask of the rule of the table: the run stays, and each seat is right in what it still lists of the caches.
use Rattle.std.proofs.Common.{◌≡◌, ℕ, List, [], ◌∷◌, ◌++◌, Some, drop, map, set, slice_get, sym, ◌∙◌, subst}
use mathlib.Core.Option.{some}
use lib.ListN.{get_elem?}
use Rattle.atomic_table.specs.Table.{Splits, Joins}
use Rattle.hwp_core_rule.specs.hwp_geom.declared.Layout.{Layout}
use Rattle.hwp_core_rule.specs.declared.State.{State}
use Rattle.hwp_core_rule.specs.Words.{size}
use Rattle.hwp_core_rule.proofs.Lists.{at_map, set_else}
use Rattle.hwp_table_words.specs.Known.{Known, Knowing, idle, idling, let_go, note, dealt, kept, forgetting, joined, joining}
use Rattle.hwp_table_words.specs.Rules.{Kept, Reached, cache_seat}
use Rattle.hwp_table_words.specs.Stands.{CachedTable, Table, first_part, stand}
use Rattle.hwp_table_words.proofs.FirstParts.{kept-of, map-cut, map-joined}
use Rattle.hwp_table_words.proofs.ListReads.{as-slice}
use Rattle.hwp_table_words.proofs.SeatKnows.{note-ruled, deal-ruled, join-ruled}
use Rattle.hwp_table_words.specs.tlb.Rule.{CachesAgree, Seat}
use Rattle.hwp_table_words.proofs.tlb.Agrees.{agree-dealt, agree-joined, agree-noted}

abbrev known_of : Knowing → Known
known_of k = k.known

-- the same table with other seats
abbrev with_seats : CachedTable → List Knowing → CachedTable
with_seats t list = record { words = t.words; homes = t.homes; views = list }

abbrev with_views : Table → List Known → Table
with_views t list = record { words = t.words; homes = t.homes; views = list }

module _ (ways : ℕ) (layout : Layout) (t : CachedTable) (h : Kept ways layout t) where
  abbrev first : Table
  first = first_part layout t

  abbrev s : State
  s = stand h.reached.views first

  abbrev entries : List ℕ
  entries = drop (size layout) t.words

  abbrev seats : List Seat
  seats = map cache_seat t.views

  me-first : (id : ℕ) (v : Knowing) → get_elem? t.views id ≡ some v → slice_get first.views id ≡ Some v.known
  me-first id v at = at_map known_of t.views id v (as-slice t.views id v at)

  me-cache : (id : ℕ) (v : Knowing) → get_elem? t.views id ≡ some v → slice_get seats id ≡ Some (cache_seat v)
  me-cache id v at = at_map cache_seat t.views id v (as-slice t.views id v at)

  -- the run and the agreement go over to other seats
  with-seats : (list : List Knowing) (firsts : List Known) (theirs : List Seat) → map known_of list ≡ firsts → map cache_seat list ≡ theirs
      → (r : Reached layout (with_views first firsts)) → CachesAgree ways layout (stand r.views (with_views first firsts)) entries theirs → Kept ways layout (with_seats t list)
  with-seats list firsts theirs e g r agree = kept-of ways layout (with_seats t list) (with_views first firsts) r (λ i. with_views first (e i))
      (subst (CachesAgree ways layout (stand r.views (with_views first firsts)) entries) (sym g) agree)

  abbrev let-first : (id : ℕ) (v : Known) → slice_get first.views id ≡ Some v → Reached layout (with_views first (set first.views id (let_go v) ++ note v ∷ []))
  let-first id v me = record {
    sound = h.reached.sound;
    log = h.reached.log;
    views = h.reached.views;
    run = h.reached.run;
    ruled = note-ruled layout s h.reached.log first.views h.reached.ruled id v me;
    bodies = h.reached.bodies;
  }

  abbrev deal-first : (id : ℕ) (v : Known) (c : ℕ) → slice_get first.views id ≡ Some v → Reached layout (with_views first (set first.views id (kept c v) ++ dealt c v ∷ []))
  deal-first id v c me = record {
    sound = h.reached.sound;
    log = h.reached.log;
    views = h.reached.views;
    run = h.reached.run;
    ruled = deal-ruled layout s h.reached.log first.views h.reached.ruled id v c me;
    bodies = h.reached.bodies;
  }

  abbrev join-first : (id other : ℕ) (v w : Known) → slice_get first.views id ≡ Some v → slice_get first.views other ≡ Some w → ¬ (other ≡ id) → Reached layout (with_views first (set (set first.views id (joined v w)) other idle))
  join-first id other v w me you apart = record {
    sound = h.reached.sound;
    log = h.reached.log;
    views = h.reached.views;
    run = h.reached.run;
    ruled = join-ruled layout s h.reached.log first.views h.reached.ruled id other v w me you apart;
    bodies = h.reached.bodies;
  }

pub lets : (ways : ℕ) (layout : Layout) (id : ℕ) (v : Knowing) → Splits (Kept ways layout) id v (record v { known = let_go v.known }) (idling (note v.known))
lets ways layout id v t h at =
    with-seats ways layout t h (set t.views id (record v { known = let_go v.known }) ++ idling (note v.known) ∷ []) _ _
    (map-cut known_of t.views id (record v { known = let_go v.known }) (idling (note v.known))) (map-cut cache_seat t.views id (record v { known = let_go v.known }) (idling (note v.known)))
    (let-first ways layout t h id v.known (me-first ways layout t h id v at))
    (agree-noted ways layout (s ways layout t h) (entries ways layout t h) (seats ways layout t h) h.agree id v.known.mines v.caching (me-cache ways layout t h id v at))

deals : (ways : ℕ) (layout : Layout) (id : ℕ) (v : Knowing) (c : ℕ) → Splits (Kept ways layout) id v (forgetting (kept c v.known) v.caching) (idling (dealt c v.known))
deals ways layout id v c t h at =
    with-seats ways layout t h (set t.views id (forgetting (kept c v.known) v.caching) ++ idling (dealt c v.known) ∷ []) _ _
    (map-cut known_of t.views id (forgetting (kept c v.known) v.caching) (idling (dealt c v.known))) (map-cut cache_seat t.views id (forgetting (kept c v.known) v.caching) (idling (dealt c v.known)))
    (deal-first ways layout t h id v.known c (me-first ways layout t h id v at))
    (agree-dealt ways layout (s ways layout t h) (entries ways layout t h) (seats ways layout t h) h.agree id (kept c v.known).mines (dealt c v.known).mines v.caching)

-- the same under another name
pub deals-named : (ways : ℕ) (layout : Layout) (id : ℕ) (v : Knowing) (b c : ℕ) → b ≡ c → Splits (Kept ways layout) id v (forgetting (kept b v.known) v.caching) (idling (dealt b v.known))
deals-named ways layout id v b c same = subst (λ (d : ℕ). Splits (Kept ways layout) id v (forgetting (kept d v.known) v.caching) (idling (dealt d v.known))) (sym same) (deals ways layout id v c)

pub joins : (ways : ℕ) (layout : Layout) (id other : ℕ) (v w : Knowing) → Joins (Kept ways layout) id v other w (joining v w) (idling idle)
joins ways layout id other v w t h at apart you =
    with-seats ways layout t h (set (set t.views id (joining v w)) other (idling idle)) _ _
    (map-joined known_of t.views id other (joining v w) (idling idle)) (map-joined cache_seat t.views id other (joining v w) (idling idle))
    (join-first ways layout t h id other v.known w.known (me-first ways layout t h id v at) (at_map known_of t.views other w you') apart)
    (agree-joined ways layout (s ways layout t h) (entries ways layout t h) (seats ways layout t h) h.agree id other v.known.mines w.known.mines v.caching w.caching (me-cache ways layout t h id v at))
  where
    you' : slice_get t.views other ≡ Some w
    you' = sym (set_else t.views id other (joining v w) apart) ∙ as-slice (set t.views id (joining v w)) other w you
