-- What each operation on the table asks of its rule: a step of any kind goes on with the history.
use Rattle.std.proofs.Common.{◌≡◌, ℕ, ◌+◌, ◌*◌, ◌^◌, ◌<◌, false, cond, List, ◌∷◌, drop, map, set, length, take, slice_get, slice_index, refl, sym, ap, ◌∙◌, subst, inl, inr, arith}
use Rattle.std.specs.Prelude.{Option as Maybe, Some, None}
use mathlib.Core.Option.{Option, some, none, some-injective, some-ne-none}
use lib.ListN.{get_elem?}
use Rattle.std.proofs.lemmas.Bool.{true≢false}
use Rattle.std.proofs.lemmas.List.{get_or-take, map-set}
use Rattle.std.proofs.lemmas.Option.{none-some}
use Rattle.atomic_table.specs.Seated.{TableId}
use Rattle.atomic_table.specs.Table.{Act, keeps, takes, gives, Valid, Allows, stepped, carried_after, put_back, rest}
use Rattle.atomic_table.proofs.Lists as table
use Rattle.hwp_core_rule.specs.hwp_geom.declared.Layout.{Layout}
use Rattle.hwp_core_rule.specs.declared.Log.{Log}
use Rattle.hwp_core_rule.specs.declared.Rec.{Rec}
use Rattle.hwp_core_rule.specs.declared.SlotMove.{SlotMove}
use Rattle.hwp_core_rule.specs.declared.SlotMove.TheVariants as moves
use Rattle.hwp_core_rule.specs.declared.State.{State}
use Rattle.hwp_core_rule.specs.declared.Step.{Step}
use Rattle.hwp_core_rule.specs.declared.View.{View}
use Rattle.hwp_core_rule.specs.Lists.{Homes}
use Rattle.hwp_core_rule.specs.Moves.{Move, Told, moved}
use Rattle.hwp_core_rule.specs.Rule.{Holds}
use Rattle.hwp_core_rule.specs.SlotMoves as slots
use Rattle.hwp_core_rule.specs.SlotMoves.{slot_move, is_out, homes_moved, MeetsSlot, IsIn, LeavesHome}
use Rattle.hwp_core_rule.specs.Steps.{place_of, word_after}
use Rattle.hwp_core_rule.specs.Views.{view_after}
use Rattle.hwp_core_rule.specs.Words.{index, size}
use Rattle.hwp_core_rule.specs.Calls.{FitsLayout, logs}
use Rattle.hwp_table_words.specs.Known.{Known, Knowing, Whole, known_after, mine_after}
use Rattle.hwp_table_words.specs.Order.{in_rule, in_table}
use Rattle.hwp_table_words.specs.Plays.{Call, rec, carried, IsFront, Finds, IsMade, Makes}
use Rattle.hwp_table_words.specs.Rules.{Kept, Reached, Ruled, cache_seat}
use Rattle.hwp_table_words.specs.Seats.{CanPlay}
use Rattle.hwp_table_words.specs.Stands.{CachedTable, Content, Me, Table, first_me, first_part, home_of, stand, AreOfLayout}
use Rattle.hwp_table_words.proofs.TableKeeps.{reached-holds, run-seats}
use Rattle.hwp_core_rule.proofs.MetWords.{asks-content, slot-home}
use Rattle.hwp_core_rule.proofs.Lists.{at_map}
use Rattle.hwp_core_rule.proofs.WordsByKind.{index-within}
use Rattle.hwp_table_words.proofs.FirstParts.{drop-set, element-map, first-stepped, kept-of}
use Rattle.hwp_table_words.proofs.ListReads.{as-slice, home-was, home-out, home-in}
use Rattle.hwp_table_words.proofs.WordOrder.{length-in_rule, in_rule-read, in_rule-set}
use Rattle.hwp_table_words.proofs.SeatKnows.{step-ruled, view-at}
use Rattle.hwp_table_words.specs.tlb.Caching.{Caching}
use Rattle.hwp_table_words.specs.tlb.Rule.{CachesAgree, HaveViews, Seat, frames_of}
use Rattle.hwp_table_words.specs.tlb.Steps.{IsGuarded, caching_after}
use Rattle.hwp_table_words.proofs.tlb.Moved.{agree-moved}
use Rattle.hwp_table_words.proofs.tlb.SeatViews.{have-views}

-- the bodies at home, where a slot went out or came home
bodies-out : (layout : Layout) (hs : List (Option Content)) (slot : ℕ) → AreOfLayout layout hs → AreOfLayout layout (set hs slot none)
bodies-out layout hs slot all k content e = elim (table.at_set hs slot k none (some content) e) [
  | inl t ↦ absurd (some-ne-none content (sym t.1))
  | inr t ↦ all k content t.1
]

bodies-in : (layout : Layout) (hs : List (Option Content)) (slot : ℕ) (put : Content) → FitsLayout layout put → AreOfLayout layout hs → AreOfLayout layout (set hs slot (some put))
bodies-in layout hs slot put fits all k content e = elim (table.at_set hs slot k (some put) (some content) e) [
  | inl t ↦ subst (FitsLayout layout) (some-injective put content t.1) fits
  | inr t ↦ all k content t.1
]

module _ (ways : ℕ) (call : Call) (id : ℕ) (m : Me) (word : ℕ) (tid of : TableId) (can : CanPlay ways tid call.layout call of m word) where
  abbrev layout : Layout
  layout = call.layout

  abbrev step : Step
  step = call.step

  module _ (st : Table) (h : Reached call.layout st) (at : get_elem? st.views id ≡ some m.0.known) (fits : slice_index st.words word < 2 ^ 64) where
    abbrev s : State
    s = stand h.views st

    -- the word that the step meets
    abbrev x : ℕ
    x = slice_index st.words word

    abbrev n : ℕ
    n = index call.layout (place_of call.step)

    holds : Holds layout s
    holds = reached-holds layout st h

    at' : slice_get st.views id ≡ Some m.0.known
    at' = as-slice st.views id m.0.known at

    me : slice_get s.views call.cpu ≡ Some call.mine
    me = view-at layout s h.log st.views h.ruled id call.cpu m.0.known call.mine (rec call x None) at' can.view can.right

    wide : length st.words ≡ size layout
    wide = sym (length-in_rule st.words) ∙ holds.words

    word-is : word ≡ in_table (length st.words) n
    word-is = can.word_is ∙ ap (λ (k : ℕ). in_table k n) (sym wide)

    inside : n < length st.words
    inside = subst (λ (k : ℕ). n < k) (sym wide) (index-within layout (place_of step) can.can.asks.place)

    met : x ≡ slice_index s.words n
    met = ap (slice_index st.words) word-is ∙ sym (in_rule-read st.words n inside)

    words-is : (z : ℕ) → in_rule (set st.words word z) ≡ set s.words n z
    words-is z = ap (λ (k : ℕ). in_rule (set st.words k z)) word-is ∙ in_rule-set st.words n z inside

    -- the step was a move to this board, and this is what its seat knows then
    record Went (t : State) (w : Known) : Type 0 where
      pub r : Rec
      pub step_is : r.step ≡ call.step
      pub found_is : r.found ≡ x
      pub mines : w.mines ≡ map (mine_after call.layout call.cpu r) m.0.known.mines
      pub move : Move call.layout call.cpu r s t
      pub view_is : move.view ≡ call.mine

    -- the step brought this, and these are the slots at home then
    module _ (got : Content) (homes : List (Option Content)) (slot : MeetsSlot (slot_move call.layout call.step x) s.homes (rec call x got).content)
        (homes-is : map home_of homes ≡ homes_moved (slot_move call.layout call.step x) (rec call x got).content s.homes) (bodies : AreOfLayout call.layout homes) where
      abbrev r : Rec
      r = rec call x got

      abbrev known : Known
      known = known_after call.layout call.cpu r m.0.known

      abbrev then : Table
      then = record { words = set st.words word (word_after call.step x); homes = homes; views = set st.views id known }

      -- what the processors know then
      abbrev views : List View
      views = set h.views call.cpu (view_after call.layout r call.mine)

      stand-is : stand views then ≡ moved layout call.cpu r call.mine s
      stand-is = λ i. record { words = words-is (word_after step x) i; homes = homes-is i; views = views }

      abbrev move : Move layout call.cpu r s (stand views then)
      move = record {
        view = call.mine;
        me = me;
        asks = record {
          turn = can.can.asks.turn;
          begins = can.can.asks.begins;
          place = can.can.asks.place;
          kind = asks-content layout call.who step x (logs got) (logs call.put) call.mine (slots.takes layout step x) refl can.can.asks.kind;
        };
        fits = fits;
        met = met;
        slot = slot;
        next = stand-is;
      }

      abbrev reached : Reached layout then
      reached = record {
        sound = h.sound;
        log = (call.cpu, r) ∷ h.log;
        views = views;
        run = (s, h.run, move);
        ruled = subst (λ (t : State). Ruled layout t ((call.cpu, r) ∷ h.log) (set st.views id known)) (sym stand-is)
            (step-ruled layout s h.log st.views h.ruled id call.cpu m.0.known call.mine r at' can.view can.right (run-seats layout h.log s h.run));
        bodies = bodies;
      }

      went : Went (stand views then) known
      went = record { r = r; step_is = refl; found_is = refl; mines = refl; move = move; view_is = refl }

      told : Told layout r call.mine (view_after layout r call.mine)
      told = record { board = s; rule = holds; seat = call.cpu; me = me; fits = fits; met = met; slot = slot; next = refl }

      finds : (w : Whole) → m.0.known.whole ≡ Some w → Finds layout r w
      finds w is = let was = h.ruled.whole id m.0.known at' w is in record {
        word = met ∙ ap (λ (ws : List ℕ). slice_index ws n) (sym was.words);
        slot = subst (λ (hs : Homes). MeetsSlot (slot_move layout step x) hs r.content) (sym was.homes) slot;
      }

      makes : (list : List (ℕ × Content)) → FitsLayout layout got → (slots.takes layout step x ≡ false → got ≡ None) → list ≡ carried (slot_move layout step x) got m.1 → Makes call (first_me m) x (known, list)
      makes list of-layout none-got list-is = record { got = got; told = told; layout_is = of-layout; none = none-got; known = refl; slots = list-is; whole = finds }

    -- what the table answers
    record Played : Type 0 where
      pub known : Known
      pub act : Act Content
      pub valid : Valid st.homes m.1 act
      pub after : Reached call.layout (stepped st word (word_after call.step x) id m.1 known act)
      pub went : Went (stand after.views (stepped st word (word_after call.step x) id m.1 known act)) known
      pub makes : Makes call (first_me m) x (known, carried_after m.1 act)

    none-fits : FitsLayout layout None
    none-fits b e = absurd (none-some b e)

    -- no slot moves
    stays : slot_move layout step x ≡ moves.Stays → Played
    stays is =
        let slot = subst (λ (t : SlotMove). MeetsSlot t s.homes (rec call x None).content) (sym is) tt in
        let homes-is : map home_of st.homes ≡ homes_moved (slot_move layout step x) (rec call x None).content s.homes = ap (λ (t : SlotMove). homes_moved t (rec call x None).content s.homes) (sym is) in record {
          known = known_after layout call.cpu (rec call x None) m.0.known;
          act = keeps;
          valid = tt;
          after = reached None st.homes slot homes-is h.bodies;
          went = went None st.homes slot homes-is h.bodies;
          makes = makes None st.homes slot homes-is h.bodies m.1 none-fits (λ e. refl) (ap (λ (t : SlotMove). carried t None m.1) (sym is));
        }

    -- a slot goes out
    goes-out : (k : ℕ) → slot_move layout step x ≡ moves.Out k → LeavesHome (moves.Out k) s.homes → Played
    goes-out k is home =
        let was = home-was st.homes k home.0 home.1 in
        let y : Content = was.0 in
        let content-is : (rec call x y).content ≡ logs y = ap (λ (t : SlotMove). cond (is_out t) (logs y) (logs call.put)) is in
        let there : IsIn s.homes k (rec call x y).content = subst (λ (c : Maybe Log). IsIn s.homes k c) (sym (content-is ∙ was.2)) home.1 in
        let slot = subst (λ (t : SlotMove). MeetsSlot t s.homes (rec call x y).content) (sym is) there in
        let homes-is : map home_of (set st.homes k none) ≡ homes_moved (slot_move layout step x) (rec call x y).content s.homes = home-out st.homes k ∙ ap (λ (t : SlotMove). homes_moved t (rec call x y).content s.homes) (sym is) in
        let bodies : AreOfLayout layout (set st.homes k none) = bodies-out layout st.homes k h.bodies in record {
          known = known_after layout call.cpu (rec call x y) m.0.known;
          act = takes k y;
          valid = was.1;
          after = reached y (set st.homes k none) slot homes-is bodies;
          went = went y (set st.homes k none) slot homes-is bodies;
          makes = makes y (set st.homes k none) slot homes-is bodies ((k, y) ∷ m.1) (h.bodies k y was.1) (λ e. absurd (true≢false (sym (ap is_out is) ∙ e))) (ap (λ (t : SlotMove). carried t y m.1) (sym is));
        }

    -- a slot comes home
    goes-home : (k : ℕ) → slot_move layout step x ≡ moves.Home k → Played
    goes-home k is =
        let front : m.1 ≡ (k, call.put) ∷ rest m.1 = subst (λ (t : SlotMove). IsFront t call.put m.1) is (can.front x) in
        let content-is : (rec call x None).content ≡ logs call.put = ap (λ (t : SlotMove). cond (is_out t) None (logs call.put)) is in
        let slot = subst (λ (t : SlotMove). MeetsSlot t s.homes (rec call x None).content) (sym is) tt in
        let homes-is : map home_of (put_back st.homes m.1) ≡ homes_moved (slot_move layout step x) (rec call x None).content s.homes =
        ap (λ (c : List (ℕ × Content)). map home_of (put_back st.homes c)) front ∙ home-in st.homes k call.put ∙ ap (λ (c : Maybe Log). set s.homes k (Some c)) (sym content-is) ∙ ap (λ (t : SlotMove). homes_moved t (rec call x None).content s.homes) (sym is) in
        let bodies : AreOfLayout layout (put_back st.homes m.1) = subst (λ (c : List (ℕ × Content)). AreOfLayout layout (put_back st.homes c)) (sym front) (bodies-in layout st.homes k call.put can.can.layout_is h.bodies) in record {
          known = known_after layout call.cpu (rec call x None) m.0.known;
          act = gives;
          valid = tt;
          after = reached None (put_back st.homes m.1) slot homes-is bodies;
          went = went None (put_back st.homes m.1) slot homes-is bodies;
          makes = makes None (put_back st.homes m.1) slot homes-is bodies (rest m.1) none-fits (λ e. refl) (ap (λ (t : SlotMove). carried t None m.1) (sym is));
        }

    plays : (to : SlotMove) → slot_move layout step x ≡ to → LeavesHome to s.homes → Played
    plays moves.Stays is home = stays is
    plays (moves.Out k) is home = goes-out k is home
    plays (moves.Home k) is home = goes-home k is

    played : Played
    played = plays (slot_move layout step x) refl (slot-home layout s holds call.cpu call.mine me x call.who step (logs call.put) can.can.asks met)

  -- the same with the caches, which the step leaves as they are
  module _ (st : CachedTable) (h : Kept ways call.layout st) (at : get_elem? st.views id ≡ some m.0) where
    abbrev first : Table
    first = first_part call.layout st

    at-first : get_elem? first.views id ≡ some m.0.known
    at-first = element-map (λ (k : Knowing). k.known) st.views id m.0 at

    inside-first : word < size call.layout
    inside-first = can.inside

    module _ (fits : slice_index first.words word < 2 ^ 64) where
      abbrev x-first : ℕ
      x-first = x first h.reached at-first fits

      abbrev p : Played first h.reached at-first fits
      p = played first h.reached at-first fits

      abbrev caching : Caching
      caching = caching_after call.places call.step x-first (frames_of call.mine.locks) m.0.caching

      abbrev knowing : Knowing
      knowing = record { known = p.known; caching = caching }

      abbrev then-first : Table
      then-first = stepped first word (word_after call.step x-first) id m.1 p.known p.act

      abbrev then-all : CachedTable
      then-all = stepped st word (word_after call.step x-first) id m.1 knowing p.act

      abbrev seats : List Seat
      seats = map cache_seat st.views

      abbrev entries : List ℕ
      entries = drop (size call.layout) st.words

      views-had : HaveViews (stand h.reached.views first) seats
      views-had = have-views (λ (k : Knowing). k.known) (λ (v : Known). v.mines) (λ (k : Knowing). k.caching) (stand h.reached.views first) st.views h.reached.ruled.mines h.reached.ruled.one_view

      -- the seat as the caches see it then
      abbrev seat-then : Seat
      seat-then = (map (mine_after call.layout call.cpu p.went.r) m.0.known.mines, caching_after (ways * call.layout.cpus) p.went.r.step p.went.r.found (frames_of call.mine.locks) m.0.caching)

      seat-is : seat-then ≡ cache_seat knowing
      seat-is = λ i. (sym p.went.mines i, caching_after (sym can.places i) (p.went.step_is i) (p.went.found_is i) (frames_of call.mine.locks) m.0.caching)

      seats-are : set seats id seat-then ≡ map cache_seat then-all.views
      seats-are = ap (set seats id) seat-is ∙ sym (map-set cache_seat st.views id knowing)

      entries-are : entries ≡ drop (size call.layout) then-all.words
      entries-are = sym (drop-set (size call.layout) st.words word (word_after call.step x-first) inside-first)

      agree : CachesAgree ways call.layout (stand p.after.views then-first) (drop (size call.layout) then-all.words) (map cache_seat then-all.views)
      agree = subst (λ (l : List Seat). CachesAgree ways call.layout (stand p.after.views then-first) (drop (size call.layout) then-all.words) l) seats-are
          (subst (λ (l : List ℕ). CachesAgree ways call.layout (stand p.after.views then-first) l (set seats id seat-then)) entries-are
          (agree-moved ways call.layout (stand h.reached.views first) entries seats h.agree (reached-holds call.layout first h.reached) views-had id m.0.known.mines m.0.caching (at_map cache_seat st.views id m.0 (as-slice st.views id m.0 at))
          call.cpu call.mine p.went.r (stand p.after.views then-first) p.went.move p.went.view_is can.view guarded))
        where
          guarded : IsGuarded (ways * call.layout.cpus) call.mine m.0.caching
          guarded = subst (λ (n : ℕ). IsGuarded n call.mine m.0.caching) can.places can.guarded

      kept : Kept ways call.layout then-all
      kept = kept-of ways call.layout then-all then-first p.after (first-stepped ways call.layout st word (word_after call.step x-first) id m.1 knowing p.act) agree

      -- what the seat is told, by the word that the first part has
      abbrev Answers : ℕ → Type 0
      Answers n = (w : Knowing) × (a : Act Content) × Valid st.homes m.1 a × Kept ways call.layout (stepped st word (word_after call.step n) id m.1 w a) × IsMade call m n (w, carried_after m.1 a)

      answers : Answers x-first
      answers = (knowing, p.act, p.valid, kept, record { makes = p.makes; caching = refl })

  pub step-allowed : (count : ℕ) → Allows (Kept ways call.layout) count id m word (word_after call.step) (IsMade call m)
  step-allowed count st h homes at fits =
      let same : slice_index (take (size call.layout) st.words) word ≡ slice_index st.words word = get_or-take (size call.layout) st.words word 0 can.inside in
      subst (Answers st h at (subst (λ (n : ℕ). n < 2 ^ 64) (sym same) fits)) same (answers st h at (subst (λ (n : ℕ). n < 2 ^ 64) (sym same) fits))

-- the same of a function that is what the step does, and of the table's own layout
pub allowed-as : (ways : ℕ) (call : Call) (key : Layout) (count id : ℕ) (m : Me) (word : ℕ) (tid of : TableId) (f : ℕ → ℕ) → CanPlay ways tid key call of m word → ((n : ℕ) → word_after call.step n ≡ f n)
    → Allows (Kept ways key) count id m word f (IsMade call m)
allowed-as ways call key count id m word tid of f can does = subst (λ (g : ℕ → ℕ). Allows (Kept ways key) count id m word g (IsMade call m)) (λ i n. does n i)
    (subst (λ (k : Layout). CanPlay ways tid k call of m word → Allows (Kept ways k) count id m word (word_after call.step) (IsMade call m)) can.layout_is (λ c. step-allowed ways call id m word tid of c count) can)

-- the word is one of the table's
pub in-table : {ways : ℕ} {id of : TableId} {layout : Layout} {call : Call} {m : Me} {word : ℕ} → CanPlay ways id layout call of m word → word < id.words
in-table {ways} {id} {of} {layout} {call} {m} {word} can = let less : word < size layout = can.inside in let all : id.words ≡ size layout + ways * layout.cpus = can.table.words in omega (arith, less, all)
