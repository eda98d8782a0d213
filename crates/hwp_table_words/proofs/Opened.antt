-- The table at opening: its one seat has all there is.
use Rattle.std.proofs.Common.{◌≡◌, ℕ, zero, suc, ◌+◌, ◌-◌, ◌*◌, ◌<◌, ◌≤◌, ◌==◌, List, [], ◌∷◌, ◌++◌, inl, inr, drop, map, length, replicate, slice_get, take, refl, sym, ap, ◌∙◌, subst, arith}
use Rattle.std.specs.Prelude.{Some}
use mathlib.Core.Option.{some, some-injective}
use Rattle.std.proofs.lemmas.List.{length-append, length-map, length-replicate, take-append-drop}
use Rattle.std.proofs.lemmas.List.Sums.{sum_by-cons}
use Rattle.std.proofs.lemmas.Option.{none-some, same_Some}
use Rattle.std.proofs.Math.Seq.{drop-append_seam, take-append_seam}
use Rattle.std.specs.List.{sum_by}
use Rattle.std.specs.Int.{from_bool}
use Rattle.atomic_table.specs.Table as table
use Rattle.hwp_core_rule.specs.hwp_geom.declared.Layout.{Layout}
use Rattle.hwp_core_rule.specs.hwp_geom.Layout.{IsSound}
use Rattle.hwp_core_rule.specs.declared.State.{State}
use Rattle.hwp_core_rule.specs.declared.View.{View}
use Rattle.hwp_core_rule.specs.Lists.{EachMember}
use Rattle.hwp_core_rule.specs.Opening.{below, opening, opening_homes, opening_view, opening_words}
use Rattle.hwp_core_rule.specs.Words.{size}
use Rattle.hwp_core_rule.proofs.Lists.{same-or, map-was, at_map, at_push, sum-map, from_bool-same, from_bool-other}
use Rattle.hwp_core_rule.proofs.BoardOpens.{opening-holds, homes-length}
use Rattle.hwp_core_rule.proofs.WordsOpen.{below-at}
use Rattle.hwp_core_rule.specs.Calls.{FitsLayout}
use Rattle.hwp_plain.specs.Openings.{home_with}
use Rattle.hwp_table_words.specs.Known.{Known, Whole, first_known, first_knowing, times, views_for}
use Rattle.hwp_table_words.specs.Order.{IsOpened, in_rule}
use Rattle.hwp_table_words.specs.Rules.{IsOwn, IsWhole, Kept, Reached, Ruled}
use Rattle.hwp_table_words.specs.Stands.{CachedTable, Content, Table, first_part, home_of, stand, AreOfLayout}
use Rattle.hwp_table_words.proofs.SeatMoves.{first-own}
use Rattle.hwp_table_words.proofs.ListReads.{as-slice}
use Rattle.hwp_table_words.proofs.WordOrder.{length-in_rule}
use Rattle.hwp_table_words.proofs.SeatKnows.{Of, each-one}
use Rattle.hwp_table_words.proofs.Times.{times-append, times-cons}
use Rattle.hwp_table_words.proofs.tlb.Agrees.{first-agree}

-- the numbers below n, each once
below-less : (n i c : ℕ) → slice_get (below n) i ≡ Some c → c < n
below-less zero i c e = absurd (none-some c e)
below-less (suc n) i c e = elim (at_push (below n) n c i e) [
  | inl was ↦ let less = below-less n i c was in omega (arith, less)
  | inr last ↦ omega (arith, last)
]

one-last : (n c : ℕ) → times c (below (suc n)) ≡ times c (below n) + from_bool (n == c)
one-last n c = let all = times-append c (below n) (n ∷ []) in let one = times-cons c n [] in omega (arith, all, one)

times-out : (n c : ℕ) → n ≤ c → times c (below n) ≡ 0
times-out zero c less = refl
times-out (suc n) c less =
    let all = one-last n c in
    let none = from_bool-other n c (λ e. omega (arith, e, less)) in
    let rest = times-out n c (omega (arith, less)) in
    omega (arith, all, none, rest)

times-once : (n c : ℕ) → times c (below n) ≤ 1
times-once zero c = omega arith
times-once (suc n) c = let all = one-last n c in elim (same-or n c) [
  | inl same ↦ let one = from_bool-same n c same in let rest = times-out n c (omega (arith, same)) in omega (arith, all, one, rest)
  | inr other ↦ let none = from_bool-other n c other in let rest = times-once n c in omega (arith, all, none, rest)
]

pub times-in : (n c : ℕ) → c < n → 0 < times c (below n)
times-in zero c less = absurd (omega (arith, less))
times-in (suc n) c less = let all = one-last n c in elim (same-or n c) [
  | inl same ↦ let one = from_bool-same n c same in omega (arith, all, one)
  | inr other ↦ let rest = times-in n c (omega (arith, less, other)) in omega (arith, all, rest)
]

own-view : (n i : ℕ) (y : ℕ × View) → slice_get (map (λ (c : ℕ). (c, opening_view c)) (below n)) i ≡ Some y → slice_get (map opening_view (below n)) y.0 ≡ Some y.1
own-view n i y e =
    let was = map-was (λ (c : ℕ). (c, opening_view c)) (below n) i y e in
    subst (λ (x : ℕ × View). slice_get (map opening_view (below n)) x.0 ≡ Some x.1) was.2 (at_map opening_view (below n) was.0 was.0 (below-at n was.0 (below-less n i was.0 was.1)))

homes-some : (slots : List Content) → map home_of (map some slots) ≡ map home_with slots
homes-some [] = refl
homes-some (x ∷ xs) = λ i. Some (Rattle.hwp_core_rule.specs.Calls.logs x) ∷ homes-some xs i

-- the machine's words, and so many empty ones behind them
pub opened-words : (layout : Layout) (places : ℕ) (words all : List ℕ) → IsSound layout → in_rule words ≡ opening_words layout → all ≡ words ++ replicate places 0 → IsOpened layout places all
opened-words layout places words all sound words-are all-is = record {
  first = ap (λ (l : List ℕ). in_rule (take (size layout) l)) all-is ∙ ap (λ (n : ℕ). in_rule (take n (words ++ replicate places 0))) (sym count) ∙ ap in_rule (take-append_seam words (replicate places 0)) ∙ words-are;
  entries = ap (drop (size layout)) all-is ∙ ap (λ (n : ℕ). drop n (words ++ replicate places 0)) (sym count) ∙ drop-append_seam words (replicate places 0);
}
  where
    count : length words ≡ size layout
    count = sym (length-in_rule words) ∙ ap length words-are ∙ (opening-holds layout sound).words

take-past : {A : Type 0} (n : ℕ) (xs : List A) → length xs ≤ n → take n xs ≡ xs
take-past zero [] less = refl
take-past zero (x ∷ xs) less = absurd (omega (arith, less))
take-past (suc n) [] less = refl
take-past {A} (suc n) (x ∷ xs) less = ap (λ (l : List A). x ∷ l) (take-past n xs (omega (arith, less)))

-- a list that grows to a length
pub resized : (words all : List ℕ) (n m places : ℕ) → all ≡ take n words ++ replicate (n - m) 0 → m ≡ length words → n ≡ m + places → all ≡ words ++ replicate places 0
resized words all n m places is old new =
    let more : n - m ≡ places = omega (arith, new) in
    is ∙ ap (λ (l : List ℕ). l ++ replicate (n - m) 0) (take-past n words (omega (arith, old, new))) ∙ ap (λ (k : ℕ). words ++ replicate k 0) more

-- all of these are 0
replicated : (n i w : ℕ) → slice_get (replicate n 0) i ≡ Some w → w ≡ 0
replicated zero i w e = absurd (none-some w e)
replicated (suc n) zero w e = sym (same_Some 0 w e)
replicated (suc n) (suc i) w e = replicated n i w e

module _ (layout : Layout) (words : List ℕ) (slots : List Content) (sound : IsSound layout) (words-are : in_rule words ≡ opening_words layout) (homes-are : map home_with slots ≡ opening_homes layout) where
  abbrev pub opened : Table
  opened = table.opening words slots (first_known layout)

  state-open : stand (map opening_view (below layout.cpus)) opened ≡ opening layout
  state-open = λ i. record { words = words-are i; homes = (homes-some slots ∙ homes-are) i; views = map opening_view (below layout.cpus) }

  single : (f : Known → ℕ) → f (first_known layout) ≤ 1 → sum_by f (first_known layout ∷ []) ≤ 1
  single f less = let all = sum_by-cons f (first_known layout) [] in omega (arith, all, less)

  first-whole : (w : Whole) → (first_known layout).whole ≡ Some w → IsWhole layout (opening layout) [] (below layout.cpus) w
  first-whole w e = subst (IsWhole layout (opening layout) [] (below layout.cpus)) (same_Some _ w e) (record { words = refl; homes = refl; moves = refl; all = times-in layout.cpus })

  first-ruled : Ruled layout (opening layout) [] (first_known layout ∷ [])
  first-ruled = record {
    mines = each-one (λ (v : Known). EachMember (Of (opening layout)) v.mines) (first_known layout) (own-view layout.cpus);
    own = each-one (IsOwn []) (first_known layout) (first-own (first_known layout) refl);
    one_view = λ c. single (λ (v : Known). views_for c v.mines)
        (subst (λ (n : ℕ). n ≤ 1) (sym (sum-map (λ (x : ℕ × View). from_bool (x.0 == c)) (λ (d : ℕ). (d, opening_view d)) (below layout.cpus))) (times-once layout.cpus c));
    one_right = λ c. single (λ (v : Known). times c v.rights) (times-once layout.cpus c);
    whole = each-one (λ (v : Known). (w : Whole) → v.whole ≡ Some w → IsWhole layout (opening layout) [] v.rights w) (first_known layout) first-whole;
  }

  all-fit : EachMember (FitsLayout layout) slots → AreOfLayout layout opened.homes
  all-fit each slot content e =
      let was = map-was some slots slot (some content) (as-slice (map some slots) slot (some content) e) in
      subst (FitsLayout layout) (some-injective was.0 content was.2) (each slot was.0 was.1)

  opens-first : EachMember (FitsLayout layout) slots → Reached layout opened
  opens-first each = record {
    sound = sound;
    log = [];
    views = map opening_view (below layout.cpus);
    run = state-open;
    ruled = subst (λ (s : State). Ruled layout s [] (first_known layout ∷ [])) (sym state-open) first-ruled;
    bodies = all-fit each;
  }

  counted-first : length words ≡ size layout
  counted-first = sym (length-in_rule words) ∙ ap length words-are ∙ (opening-holds layout sound).words

  pub counted-slots : length slots ≡ layout.frames + length layout.pages
  counted-slots = sym (length-map slots home_with) ∙ ap length homes-are ∙ homes-length layout

-- the same with the words of the caches
module _ (ways : ℕ) (layout : Layout) (words : List ℕ) (slots : List Content) (sound : IsSound layout) (words-are : IsOpened layout (ways * layout.cpus) words) (homes-are : map home_with slots ≡ opening_homes layout) where
  abbrev pub opened-all : CachedTable
  opened-all = table.opening words slots (first_knowing layout)

  entries-count : length (drop (size layout) words) ≡ ways * layout.cpus
  entries-count = ap length words-are.entries ∙ length-replicate (ways * layout.cpus) 0

  pub opens : EachMember (FitsLayout layout) slots → Kept ways layout opened-all
  opens each = let first : Reached layout (opened layout (take (size layout) words) slots sound words-are.first homes-are) = opens-first layout (take (size layout) words) slots sound words-are.first homes-are each in record {
    reached = first;
    agree = first-agree ways layout (stand first.views (first_part layout opened-all)) (drop (size layout) words) (first_known layout).mines entries-count
        (λ i w e. replicated (ways * layout.cpus) i w (ap (λ (l : List ℕ). slice_get l i) (sym words-are.entries) ∙ e));
  }

  pub counted-words : length words ≡ size layout + ways * layout.cpus
  counted-words =
      let both : length words ≡ length (take (size layout) words) + length (drop (size layout) words) = ap length (sym (take-append-drop (size layout) words)) ∙ length-append (take (size layout) words) (drop (size layout) words) in
      let first : length (take (size layout) words) ≡ size layout = counted-first layout (take (size layout) words) slots sound words-are.first homes-are in
      let entries : length (drop (size layout) words) ≡ ways * layout.cpus = entries-count in
      omega (arith, both, first, entries)
