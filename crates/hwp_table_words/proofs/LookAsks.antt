-- What a load of a translation asks that an entry may answer: it is the move of the frame rule that finds the word to which the entry leads.
use Rattle.std.proofs.Common.{◌≡◌, ◌≢◌, ℕ, zero, suc, ◌+◌, ◌-◌, ◌*◌, ◌/◌, ◌%◌, ◌^◌, ◌<◌, ◌==◌, ◌||◌, Bool, true, false, cond, List, [], ◌∷◌, drop, map, set, get_or, length, take, slice_get, slice_index, refl, sym, ap, ◌∙◌, subst, arith}
use Rattle.std.specs.Prelude.{Option as Maybe, Some, None, if◌then◌else◌}
use mathlib.Core.Option.{some}
use lib.ListN.{get_elem?}
use Rattle.std.proofs.lemmas.Bool.{true≢false}
use Rattle.std.proofs.lemmas.List.{get_or-take, map-set, set-get_or}
use Rattle.std.proofs.lemmas.Nat.{mod_below}
use Rattle.std.proofs.lemmas.Option.{none-some, same_Some}
use Rattle.atomic_table.specs.Seated.{TableId}
use Rattle.atomic_table.specs.Table.{Act, keeps, Valid, Allows, stepped, carried_after, homes_after}
use Rattle.hwp_core_rule.specs.hwp_geom.declared.Frame.{Frame}
use Rattle.hwp_core_rule.specs.hwp_geom.declared.Layout.{Layout}
use Rattle.hwp_core_rule.specs.hwp_geom.declared.VSlot.{VSlot}
use Rattle.hwp_core_rule.specs.declared.SharedWord.{SharedWord}
use Rattle.hwp_core_rule.specs.declared.SharedWord.TheVariants as shared
use Rattle.hwp_core_rule.specs.declared.State.{State}
use Rattle.hwp_core_rule.specs.declared.Step.{Step}
use Rattle.hwp_core_rule.specs.declared.Step.TheVariants as steps
use Rattle.hwp_core_rule.specs.declared.View.{View}
use Rattle.hwp_core_rule.specs.Lists.{SomeMember}
use Rattle.hwp_core_rule.specs.SlotMoves.{slot_move}
use Rattle.hwp_core_rule.specs.Steps.{place_of, word_after}
use Rattle.hwp_core_rule.specs.Words.{IsPlace, index, size, words_of}
use Rattle.hwp_core_rule.specs.Calls.{CanMake}
use Rattle.hwp_core_rule.proofs.Lists.{at_map, set-set, set_again, set_here}
use Rattle.hwp_core_rule.proofs.WordsByKind.{index-within, words-read}
use Rattle.hwp_table_words.specs.tlb.Rule.{CachesAgree, Seat, frames_of}
use Rattle.hwp_table_words.specs.tlb.Steps.{IsGuarded, caching_after, hit}
use Rattle.hwp_table_words.specs.tlb.Words.{hit_of, hit_to}
use Rattle.hwp_table_words.proofs.tlb.Agrees.{agree-hit}
use Rattle.hwp_table_words.proofs.tlb.Named.{hit-word}
use Rattle.hwp_table_words.specs.CachePlays.{CanLook, HasFound, IsEntry, IsLooked, Look}
use Rattle.hwp_table_words.specs.Known.{Knowing, times}
use Rattle.hwp_table_words.specs.Order.{in_table}
use Rattle.hwp_table_words.specs.Plays.{Call, IsFront, IsMade, Makes}
use Rattle.hwp_table_words.specs.Rules.{Kept, cache_seat}
use Rattle.hwp_table_words.specs.Seats.{CanPlay, IsTableOf}
use Rattle.hwp_table_words.specs.Stands.{CachedTable, Content, Me, Table, first_me, first_part, stand}
use Rattle.hwp_table_words.proofs.EntryAsks.{at-entry, holds}
use Rattle.hwp_table_words.proofs.FirstParts.{kept-of}
use Rattle.hwp_table_words.proofs.ListReads.{as-slice}
use Rattle.hwp_table_words.proofs.OperationAsks.{allowed-as}
use Rattle.hwp_table_words.proofs.WordOrder.{before_stop, in_rule-read, length-in_rule}

-- the frame to which an entry leads is a number of 16 bits
pub hit-few : (slot : VSlot) (w : ℕ) (f : Frame) → hit_of slot w ≡ Some f → f.0 < 2 ^ 16
hit-few slot w f is = named (v == 0 || g == 0) is
  where
    v : ℕ
    v = w / 2 ^ 0 % 2 ^ 20

    g : ℕ
    g = w / 2 ^ 20 % 2 ^ 20

    ours : (b : Bool) → cond b (Some (record { 0 = (g - 1) % 2 ^ 16 })) None ≡ Some f → f.0 < 2 ^ 16
    ours true e = subst (λ (h : Frame). h.0 < 2 ^ 16) (same_Some (record { 0 = (g - 1) % 2 ^ 16 }) f e) (mod_below (g - 1) (2 ^ 16) (omega arith))
    ours false e = absurd (none-some f e)

    named : (b : Bool) → hit_to slot (if b then None else Some (record { 0 = (v - 1) % 2 ^ 16 }, record { 0 = (g - 1) % 2 ^ 16 })) ≡ Some f → f.0 < 2 ^ 16
    named true e = absurd (none-some f e)
    named false e = ours ((v - 1) % 2 ^ 16 == slot.0) e

abbrev is-trans : SharedWord → Bool
is-trans (shared.Trans slot) = true
is-trans place = false

read-of : (l : List ℕ) (i x : ℕ) → slice_get l i ≡ Some x → slice_index l i ≡ x
read-of [] i x e = absurd (none-some x e)
read-of (y ∷ ys) zero x e = same_Some y x e
read-of (y ∷ ys) (suc i) x e = read-of ys i x e

module _ (ways : ℕ) (call : Call) (slot : VSlot) (step-is : call.step ≡ steps.Load (shared.Trans slot)) (put-is : call.put ≡ None)
    (place : ℕ) (inside : place < ways * call.layout.cpus) (count id : ℕ) (m : Me) (tid of : TableId) where
  abbrev layout : Layout
  layout = call.layout

  -- where the table has the translation's word
  abbrev word : ℕ
  word = in_table (size layout) (index layout (shared.Trans slot))

  -- where it has the entry
  abbrev here : ℕ
  here = size layout + place

  module _ (can : CanPlay ways tid layout call of m word) (st : CachedTable) (h : Kept ways layout st) (at : get_elem? st.views id ≡ some m.0) where
    abbrev first : Table
    first = first_part layout st

    abbrev s : State
    s = stand h.reached.views first

    -- what the entry has, and what the translation has
    abbrev x : ℕ
    x = slice_index st.words here

    abbrev y : ℕ
    y = slice_index st.words word

    in-layout : slot.0 < length layout.trans
    in-layout = subst (λ (t : Step). IsPlace layout (place_of t)) step-is can.can.asks.place

    wide : length first.words ≡ size layout
    wide = sym (length-in_rule first.words) ∙ (holds ways layout place inside id m st h at).words

    -- the word that the frame rule reads is the table's
    read-is : slice_index s.words (index layout (shared.Trans slot)) ≡ y
    read-is = in_rule-read first.words (index layout (shared.Trans slot)) (subst (λ (n : ℕ). index layout (shared.Trans slot) < n) (sym wide) (index-within layout (shared.Trans slot) in-layout))
        ∙ ap (λ (n : ℕ). get_or first.words (in_table n (index layout (shared.Trans slot))) 0) wide ∙ get_or-take (size layout) st.words word 0 can.inside

    -- an entry of the translation names the frame to which it leads
    found : (f : Frame) → hit_of slot x ≡ Some f → y ≡ f.0 + 1
    found f is = sym read-is ∙ sym (words-read layout s.words (shared.Trans slot) in-layout)
        ∙ read-of (words_of layout s.words).trans slot.0 (f.0 + 1) (hit-word layout s (holds ways layout place inside id m st h at) ways (drop (size layout) st.words) (map cache_seat st.views) h.agree place x slot f (at-entry ways layout place inside id m st h at) is)

    -- the answer of a table, as the entry tells it
    abbrev Answers : Maybe Frame → Type 0
    Answers o = (w : Knowing) × (a : Act Content) × Valid st.homes m.1 a × Kept ways layout (stepped st here x id m.1 w a) × HasFound call m o (w, carried_after m.1 a)

    module _ (f : Frame) (is : hit_of slot x ≡ Some f) (w : Knowing) (a : Act Content) (valid : Valid st.homes m.1 a) (kept : Kept ways layout (stepped st word y id m.1 w a)) (made : IsMade call m y (w, carried_after m.1 a)) where
      -- the table after the load, with its words as they were
      abbrev loaded : CachedTable
      loaded = record { words = st.words; homes = homes_after st.homes m.1 a; views = set st.views id w }

      abbrev w' : Knowing
      w' = record w { caching = hit w.caching }

      abbrev next : CachedTable
      next = stepped st here x id m.1 w' a

      kept-loaded : Kept ways layout loaded
      kept-loaded = subst (λ (l : List ℕ). Kept ways layout (record { words = l; homes = homes_after st.homes m.1 a; views = set st.views id w })) (set-get_or st.words word 0) kept

      at-loaded : slice_get (map cache_seat loaded.views) id ≡ Some (cache_seat w)
      at-loaded = at_map cache_seat loaded.views id w (set_here st.views id w m.0 (as-slice st.views id m.0 at))

      first-is : first_part layout next ≡ first_part layout loaded
      first-is = λ i. record {
        words = take (size layout) (set-get_or st.words here 0 i);
        homes = loaded.homes;
        views = (map-set (λ (k : Knowing). k.known) st.views id w' ∙ sym (map-set (λ (k : Knowing). k.known) st.views id w)) i;
      }

      seats-are : set (map cache_seat loaded.views) id (cache_seat w') ≡ map cache_seat next.views
      seats-are = ap (λ (l : List Seat). set l id (cache_seat w')) (map-set cache_seat st.views id w) ∙ set-set (map cache_seat st.views) id (cache_seat w) (cache_seat w') ∙ sym (map-set cache_seat st.views id w')

      abbrev s-loaded : State
      s-loaded = stand kept-loaded.reached.views (first_part layout loaded)

      kept-hit : Kept ways layout next
      kept-hit = kept-of ways layout next (first_part layout loaded) kept-loaded.reached first-is
          (subst (λ (l : List ℕ). CachesAgree ways layout s-loaded (drop (size layout) l) (map cache_seat next.views)) (sym (set-get_or st.words here 0))
          (subst (λ (l : List Seat). CachesAgree ways layout s-loaded (drop (size layout) st.words) l) seats-are (agree-hit ways layout s-loaded (drop (size layout) st.words) (map cache_seat loaded.views) kept-loaded.agree id w.known.mines w.caching at-loaded)))

      pub hit-answers : Answers (Some f)
      hit-answers = (
        w',
        a,
        valid,
        kept-hit,
        record {
          makes = subst (λ (n : ℕ). Makes call (first_me m) n (w.known, carried_after m.1 a)) (found f is) made.makes;
          caching = ap hit (made.caching ∙ ap (λ (n : ℕ). caching_after call.places call.step n (frames_of call.mine.locks) m.0.caching) (found f is));
        },
      )

    none-answers : Answers None
    none-answers = (m.0, keeps, tt, kept-none, refl)
      where
        same : stepped st here x id m.1 m.0 keeps ≡ st
        same = λ i. record { words = set-get_or st.words here 0 i; homes = st.homes; views = set_again st.views id m.0 (as-slice st.views id m.0 at) i }

        kept-none : Kept ways layout (stepped st here x id m.1 m.0 keeps)
        kept-none = subst (Kept ways layout) (sym same) h

    by-hit : (length st.homes ≡ count) → (o : Maybe Frame) → hit_of slot x ≡ o → Answers o
    by-hit homes None is = none-answers
    by-hit homes (Some f) is =
        let few : f.0 < 2 ^ 16 = hit-few slot x f is in
        let word-is : y ≡ f.0 + 1 = found f is in
        let fits : y < 2 ^ 64 = omega (arith, few, word-is) in
        let t = allowed-as ways call layout count id m word tid of (λ n. n) can (λ n. ap (λ (u : Step). word_after u n) step-is) st h homes at fits in
        hit-answers f is t.0 t.1 t.2 t.3 t.4

  -- the call can be played at the translation's own word
  look-plays : CanMake layout call.who call.step None call.mine → IsTableOf ways layout tid → of ≡ tid → call.places ≡ ways * layout.cpus → SomeMember (λ (x : ℕ × View). x ≡ (call.cpu, call.mine)) m.0.known.mines
      → 0 < times call.cpu m.0.known.rights → IsGuarded call.places call.mine m.0.caching → CanPlay ways tid layout call of m word
  look-plays can table same places view right guarded = record {
    same = same;
    table = table;
    layout_is = refl;
    places = places;
    word_is = ap (λ (t : Step). in_table (size layout) (index layout (place_of t))) (sym step-is);
    inside = let in-layout : slot.0 < length layout.trans = subst (λ (t : Step). IsPlace layout (place_of t)) step-is can.asks.place in
        subst (λ (n : ℕ). n < size layout) (sym (before_stop layout (shared.Trans slot) in-layout (λ e. other e))) (omega (arith, in-layout));
    view = view;
    right = right;
    guarded = guarded;
    can = subst (λ (c : Content). CanMake layout call.who call.step c call.mine) (sym put-is) can;
    front = λ n. subst (λ (t : Step). IsFront (slot_move layout t n) call.put m.1) (sym step-is) tt;
  }
    where
      other : shared.Trans slot ≢ shared.Stop
      other e = true≢false (ap is-trans e)

  pub look-at : CanPlay ways tid layout call of m word → Allows (Kept ways layout) count id m here (λ n. n) (λ n w. (here ≡ here) × HasFound call m (hit_of slot n) w)
  look-at can st h homes at fits = let t = by-hit can st h at homes (hit_of slot (slice_index st.words here)) refl in (t.0, t.1, t.2, t.3, (refl, t.4))

pub look-allowed : (ways : ℕ) (key : Layout) (look : Look) (count id : ℕ) (m : Me) (word : ℕ) (tid of : TableId) → IsEntry ways tid key of look.place word → CanLook ways key look m
    → Allows (Kept ways key) count id m word (λ n. n) (IsLooked look word m)
look-allowed ways key look count id m word tid of entry can =
    subst (λ (k : Layout). Allows (Kept ways k) count id m word (λ n. n) (IsLooked look word m)) can.layout_is
    (subst (λ (i : ℕ). Allows (Kept ways look.call.layout) count id m i (λ n. n) (IsLooked look i m)) (sym word-is)
    (look-at ways look.call look.slot can.step_is can.put_is look.place inside count id m tid of
    (look-plays ways look.call look.slot can.step_is can.put_is look.place inside count id m tid of
    (subst (λ (k : Layout). CanMake k look.call.who look.call.step None look.call.mine) (sym can.layout_is) can.can)
    (subst (λ (k : Layout). IsTableOf ways k tid) (sym can.layout_is) entry.table)
    entry.same
    (can.places ∙ ap (λ (k : Layout). ways * k.cpus) (sym can.layout_is))
    can.view can.right can.guarded)))
  where
    word-is : word ≡ size look.call.layout + look.place
    word-is = entry.word_is ∙ ap (λ (k : Layout). size k + look.place) (sym can.layout_is)

    inside : look.place < ways * look.call.layout.cpus
    inside = subst (λ (k : Layout). look.place < ways * k.cpus) (sym can.layout_is) entry.inside
