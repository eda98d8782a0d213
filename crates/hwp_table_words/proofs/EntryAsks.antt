-- What each step on an entry of a translation cache asks of the table's rule: its first part stays.
use Rattle.std.proofs.Common.{◌≡◌, ℕ, zero, suc, ◌+◌, ◌*◌, ◌%◌, ◌^◌, ◌<◌, ◌≤◌, List, [], ◌∷◌, drop, map, set, get_or, length, take, slice_get, slice_index, refl, sym, ap, ◌∙◌, subst, arith}
use Rattle.std.specs.Prelude.{Some}
use mathlib.Core.Option.{some}
use lib.ListN.{get_elem?}
use Rattle.std.proofs.lemmas.List.{get_or-drop, map-set}
use Rattle.std.proofs.lemmas.Nat.{mod-mul-add, mod_below}
use native.Mathlib.Nat.{mul-le-mul, mul_comm, zero-mul}
use Rattle.atomic_table.specs.Seated.{TableId}
use Rattle.atomic_table.specs.Table.{keeps, Allows, stepped}
use Rattle.hwp_core_rule.specs.hwp_geom.declared.Layout.{Layout}
use Rattle.hwp_core_rule.specs.hwp_geom.Layout.{IsSound}
use Rattle.hwp_core_rule.specs.hwp_geom.Limits.{file_limit, frame_limit, page_limit, process_limit, thread_limit, translation_limit}
use Rattle.hwp_core_rule.specs.declared.State.{State}
use Rattle.hwp_core_rule.specs.Rule.{Holds}
use Rattle.hwp_core_rule.specs.Steps.{exchanged}
use Rattle.hwp_core_rule.specs.Words.{size}
use Rattle.hwp_core_rule.proofs.Lists.{at_map, set_again}
use Rattle.hwp_table_words.specs.tlb.Caching.{Caching}
use Rattle.hwp_table_words.specs.tlb.Rule.{CachesAgree, HaveViews, Seat}
use Rattle.hwp_table_words.specs.tlb.Steps.{filled, flushed, looked}
use Rattle.hwp_table_words.specs.tlb.Words.{entry_word}
use Rattle.hwp_table_words.proofs.tlb.EntrySteps.{agree-filled, agree-flushed, agree-looked}
use Rattle.hwp_table_words.proofs.tlb.SeatViews.{have-views}
use Rattle.hwp_table_words.specs.CachePlays.{Aim, CanFill, CanFlush, CanSearch, IsEntry, IsFilled, IsFlushed, IsSearched, own_place}
use Rattle.hwp_table_words.specs.Caches.{IsAtTable}
use Rattle.hwp_table_words.specs.Known.{Known, Knowing}
use Rattle.hwp_table_words.specs.Rules.{Kept, cache_seat}
use Rattle.hwp_table_words.specs.Seats.{IsTableOf}
use Rattle.hwp_table_words.specs.Stands.{CachedTable, Me, Table, first_part, stand}
use Rattle.hwp_table_words.proofs.FirstParts.{kept-of}
use Rattle.hwp_table_words.proofs.ListReads.{as-slice}
use Rattle.hwp_table_words.proofs.TableKeeps.{reached-holds}

-- a list from a place on, and before it
module _ {A : Type 0} where
  pub take-behind : (m : ℕ) (xs : List A) (i : ℕ) (a : A) → take m (set xs (m + i) a) ≡ take m xs
  take-behind zero xs i a = refl
  take-behind (suc m) [] i a = refl
  take-behind (suc m) (x ∷ xs) i a = let e : suc m + i ≡ suc (m + i) = omega arith in ap (λ (n : ℕ). take (suc m) (set (x ∷ xs) n a)) e ∙ ap (λ (l : List A). x ∷ l) (take-behind m xs i a)

  pub drop-behind : (m : ℕ) (xs : List A) (i : ℕ) (a : A) → drop m (set xs (m + i) a) ≡ set (drop m xs) i a
  drop-behind zero xs i a = let e : 0 + i ≡ i = omega arith in ap (λ (n : ℕ). set xs n a) e
  drop-behind (suc m) [] i a = refl
  drop-behind (suc m) (x ∷ xs) i a = let e : suc m + i ≡ suc (m + i) = omega arith in ap (λ (n : ℕ). drop (suc m) (set (x ∷ xs) n a)) e ∙ drop-behind m xs i a

pub read-in : (xs : List ℕ) (i : ℕ) → i < length xs → slice_get xs i ≡ Some (get_or xs i 0)
read-in [] i less = absurd (omega (arith, less))
read-in (x ∷ xs) zero less = refl
read-in (x ∷ xs) (suc i) less = read-in xs i (omega (arith, less))

module _ (ways : ℕ) (layout : Layout) (place : ℕ) (inside : place < ways * layout.cpus) (id : ℕ) (m : Me) (st : CachedTable) (h : Kept ways layout st) (at : get_elem? st.views id ≡ some m.0) where
  abbrev first : Table
  first = first_part layout st

  abbrev s : State
  s = stand h.reached.views first

  abbrev entries : List ℕ
  entries = drop (size layout) st.words

  abbrev seats : List Seat
  seats = map cache_seat st.views

  -- the word that the step meets
  abbrev x : ℕ
  x = slice_index st.words (size layout + place)

  at-views : slice_get st.views id ≡ Some m.0
  at-views = as-slice st.views id m.0 at

  pub at-seat : slice_get seats id ≡ Some (cache_seat m.0)
  at-seat = at_map cache_seat st.views id m.0 at-views

  pub at-entry : slice_get entries place ≡ Some x
  at-entry = read-in entries place (subst (λ (n : ℕ). place < n) (sym h.agree.count) inside) ∙ ap Some (get_or-drop (size layout) st.words place 0)

  pub holds : Holds layout s
  holds = reached-holds layout first h.reached

  pub views-had : HaveViews s seats
  views-had = have-views (λ (k : Knowing). k.known) (λ (v : Known). v.mines) (λ (k : Knowing). k.caching) s st.views h.reached.ruled.mines h.reached.ruled.one_view

  module _ (n : ℕ) (k : Caching) where
    abbrev w : Knowing
    w = record m.0 { caching = k }

    abbrev then : CachedTable
    then = stepped st (size layout + place) n id m.1 w keeps

    first-is : first_part layout then ≡ first
    first-is = λ i. record {
      words = take-behind (size layout) st.words place n i;
      homes = st.homes;
      views = (map-set (λ (v : Knowing). v.known) st.views id w ∙ set_again (map (λ (v : Knowing). v.known) st.views) id m.0.known (at_map (λ (v : Knowing). v.known) st.views id m.0 at-views)) i;
    }

    -- a step that leaves what the frame rule sees
    pub kept-then : CachesAgree ways layout s (set entries place n) (set seats id (m.0.known.mines, k)) → Kept ways layout then
    kept-then agree = kept-of ways layout then first h.reached first-is (subst (λ (l : List Seat). CachesAgree ways layout s (drop (size layout) then.words) l) (sym (map-set cache_seat st.views id w))
        (subst (λ (l : List ℕ). CachesAgree ways layout s l (set seats id (cache_seat w))) (sym (drop-behind (size layout) st.words place n)) agree))

-- the word is one of the table's
pub entry-in : {ways : ℕ} {id of : TableId} {key : Layout} {place word : ℕ} → IsEntry ways id key of place word → word < id.words
entry-in {ways} {id} {of} {key} {place} {word} e =
    let all : id.words ≡ size key + ways * key.cpus = e.table.words in
    let is : word ≡ size key + place = e.word_is in
    let less : place < ways * key.cpus = e.inside in
    omega (arith, all, is, less)

pub entry-of : {ways : ℕ} {layout key : Layout} {id of : TableId} {place word : ℕ} → IsAtTable ways layout key id of → word ≡ size layout + place → place < ways * layout.cpus → IsEntry ways id key of place word
entry-of {ways} {layout} {key} {id} {of} {place} {word} at is less = record {
  same = at.same;
  table = subst (λ (k : Layout). IsTableOf ways k id) (sym at.key_is) at.table;
  word_is = is ∙ ap (λ (k : Layout). size k + place) (sym at.key_is);
  inside = subst (λ (k : Layout). place < ways * k.cpus) (sym at.key_is) less;
}

-- and there are few
pub few-places : (ways cpus place : ℕ) → ways ≤ 16 → cpus ≤ 16 → place < ways * cpus → place < 256
few-places ways cpus place few_ways few_cpus less = let most : ways * cpus ≤ 256 = mul-le-mul few_ways few_cpus in omega (arith, less, most)

-- a sound machine has few words
pub few-words : (layout : Layout) → IsSound layout → size layout < 2 ^ 32
few-words layout sound =
    let frames : layout.frames ≤ frame_limit = sound.frames in
    let trans : length layout.trans ≤ translation_limit = sound.trans in
    let pages : length layout.pages ≤ page_limit = sound.pages in
    let procs : layout.procs ≤ process_limit = sound.procs in
    let threads : length layout.threads ≤ thread_limit = sound.threads in
    let files : layout.files ≤ file_limit = sound.files in
    omega arith

-- where there is an entry, there are some ways
pub some-ways : (ways cpus place : ℕ) → place < ways * cpus → 0 < ways
some-ways zero cpus place less = let none : place < 0 = subst (λ (n : ℕ). place < n) (zero-mul cpus) less in absurd (omega (arith, none))
some-ways (suc n) cpus place less = omega arith

module _ (ways : ℕ) (key : Layout) (aim : Aim) (layout-is : aim.layout ≡ key) (count id : ℕ) (m : Me) (word : ℕ) (tid of : TableId) (entry : IsEntry ways tid key of aim.place word) where
  abbrev here : ℕ
  here = size aim.layout + aim.place

  word-is : word ≡ here
  word-is = entry.word_is ∙ ap (λ (k : Layout). size k + aim.place) (sym layout-is)

  inside-aim : aim.place < ways * aim.layout.cpus
  inside-aim = subst (λ (k : Layout). aim.place < ways * k.cpus) (sym layout-is) entry.inside

  -- what is allowed at the entry of the machine that the aim names is allowed at the word
  as-named : (f : ℕ → ℕ) (then : ℕ → ℕ → Me → Type 0) → Allows (Kept ways aim.layout) count id m here f (then here) → Allows (Kept ways key) count id m word f (then word)
  as-named f then a = subst (λ (k : Layout). Allows (Kept ways k) count id m word f (then word)) layout-is (subst (λ (i : ℕ). Allows (Kept ways aim.layout) count id m i f (then i)) (sym word-is) a)

  pub search-allowed : CanSearch aim.frame aim.place m → Allows (Kept ways key) count id m word (λ n. n) (IsSearched aim word m)
  search-allowed can = as-named (λ n. n) (λ i. IsSearched aim i m) (λ st h homes at fits. (
    record m.0 { caching = looked aim.frame aim.place (slice_index st.words here) m.0.caching },
    keeps,
    tt,
    kept-then ways aim.layout aim.place inside-aim id m st h at (slice_index st.words here) (looked aim.frame aim.place (slice_index st.words here) m.0.caching)
        (agree-looked ways aim.layout _ _ _ h.agree (holds ways aim.layout aim.place inside-aim id m st h at) (views-had ways aim.layout aim.place inside-aim id m st h at) id m.0.known.mines m.0.caching (at-seat ways aim.layout aim.place inside-aim id m st h at)
        aim.frame aim.place (slice_index st.words here) can.locked can.before (at-entry ways aim.layout aim.place inside-aim id m st h at)),
    (refl, refl),
  ))

  pub flush-allowed : CanFlush aim.frame aim.place aim.seen m → Allows (Kept ways key) count id m word (exchanged aim.seen 0) (IsFlushed aim word m)
  flush-allowed can = as-named (exchanged aim.seen 0) (λ i. IsFlushed aim i m) (λ st h homes at fits. (
    record m.0 { caching = flushed aim.frame aim.place aim.seen (slice_index st.words here) m.0.caching },
    keeps,
    tt,
    kept-then ways aim.layout aim.place inside-aim id m st h at (exchanged aim.seen 0 (slice_index st.words here)) (flushed aim.frame aim.place aim.seen (slice_index st.words here) m.0.caching)
        (agree-flushed ways aim.layout _ _ _ h.agree (holds ways aim.layout aim.place inside-aim id m st h at) (views-had ways aim.layout aim.place inside-aim id m st h at) id m.0.known.mines m.0.caching (at-seat ways aim.layout aim.place inside-aim id m st h at)
        aim.frame aim.place aim.seen (slice_index st.words here) can.glimpse can.before (at-entry ways aim.layout aim.place inside-aim id m st h at)),
    (refl, refl),
  ))

  -- the place of a translation in its processor's cache is one of the translation
  own-place : (cpu slot : ℕ) → aim.place ≡ own_place ways cpu slot → aim.place % ways ≡ slot % ways
  own-place cpu slot own = ap (λ (n : ℕ). n % ways) (own ∙ ap (λ (n : ℕ). n + slot % ways) (mul_comm ways cpu)) ∙ mod-mul-add cpu ways (slot % ways) (mod_below slot ways (some-ways ways aim.layout.cpus aim.place inside-aim))

  pub fill-allowed : (cpu slot new : ℕ) → aim.place ≡ own_place ways cpu slot → new ≡ entry_word slot aim.frame → CanFill slot aim.frame m → Allows (Kept ways key) count id m word (λ n. new) (IsFilled aim word m)
  fill-allowed cpu slot new own new-is can = subst (λ (z : ℕ). Allows (Kept ways key) count id m word (λ n. z) (IsFilled aim word m)) (sym new-is) (as-named (λ n. entry_word slot aim.frame) (λ i. IsFilled aim i m) (λ st h homes at fits. (
    record m.0 { caching = filled aim.frame m.0.caching },
    keeps,
    tt,
    kept-then ways aim.layout aim.place inside-aim id m st h at (entry_word slot aim.frame) (filled aim.frame m.0.caching)
        (agree-filled ways aim.layout _ _ _ h.agree (holds ways aim.layout aim.place inside-aim id m st h at) (views-had ways aim.layout aim.place inside-aim id m st h at) id m.0.known.mines m.0.caching (at-seat ways aim.layout aim.place inside-aim id m st h at)
        slot aim.frame aim.place can (own-place cpu slot own)),
    (refl, refl),
  )))
