-- Along a run, what a command saw of a page's history lies above the entries of its processor's earlier commands, not below what
-- these saw, and not above the entries of its later ones.
use Rattle.std.proofs.Common.{◌≡◌, ℕ, zero, suc, ◌+◌, ◌<◌, ◌≤◌, ◌==◌, ◌&&◌, ◌⊎◌, Bool, true, false, List, [], ◌∷◌, ◌++◌, Option, Some, None, length, map, slice_get, refl, sym, ap, ◌∙◌, subst, arith, inl, inr}
use Rattle.std.specs.List.{sum_by}
use Rattle.std.specs.Int.{from_bool}
use Rattle.std.proofs.lemmas.Bool.{and_from, and_parts, eq-eqb, eqb-true}
use Rattle.std.proofs.lemmas.List.{length-append}
use Rattle.std.proofs.lemmas.Option.{none-some, same_Some}
use Rattle.hwp_law.specs.hwp_geom.declared.Frame.{Frame}
use Rattle.hwp_law.specs.hwp_geom.declared.Layout.{Layout}
use Rattle.hwp_law.specs.hwp_geom.declared.Page.{Page}
use Rattle.hwp_law.specs.hwp_geom.declared.Who.{Who}
use Rattle.hwp_law.specs.hwp_page.declared.Entry.{Entry}
use Rattle.hwp_law.specs.hwp_page.Orders.{IsEarlier, IsNotLater}
use Rattle.hwp_plain.specs.hwp_core_rule.declared.InHand.{InHand}
use Rattle.hwp_plain.specs.hwp_core_rule.declared.Length.{Length}
use Rattle.hwp_plain.specs.hwp_core_rule.declared.Log.{Log}
use Rattle.hwp_plain.specs.hwp_core_rule.declared.Made.{Made}
use Rattle.hwp_plain.specs.hwp_core_rule.declared.Rec.{Rec}
use Rattle.hwp_plain.specs.hwp_core_rule.declared.Sight.{Sight}
use Rattle.hwp_plain.specs.hwp_core_rule.declared.SlotMove.{SlotMove}
use Rattle.hwp_plain.specs.hwp_core_rule.declared.Stamp.{Stamp}
use Rattle.hwp_plain.specs.hwp_core_rule.declared.State.{State}
use Rattle.hwp_plain.specs.hwp_core_rule.declared.View.{View}
use Rattle.hwp_plain.specs.hwp_core_rule.Lists.{EachMember, of_home, sum_all, sum_bodies}
use Rattle.hwp_plain.specs.hwp_core_rule.Moves.{Move}
use Rattle.hwp_plain.specs.hwp_core_rule.Opening.{below, opening, opening_view}
use Rattle.hwp_plain.specs.hwp_core_rule.Rule.{Holds, holder_of}
use Rattle.hwp_plain.specs.hwp_core_rule.SlotMoves.{MeetsSlot}
use Rattle.hwp_plain.specs.hwp_core_rule.Views.{is_body_of, made_from, more_of, noted, stamp_of, view_after}
use Rattle.hwp_plain.specs.hwp_core_rule.Words.{words_of}
use Rattle.hwp_plain.specs.hwp_core_rule.parts.Bodies.{Holder}
use Rattle.hwp_plain.specs.hwp_core_rule.parts.Entries.{weigh, weigh_from}
use Rattle.hwp_plain.specs.hwp_core_rule.parts.Holdings.{IsPast}
use Rattle.hwp_plain.proofs.of_hwp_core_rule.AsksNoted.{asks-noted}
use Rattle.hwp_plain.proofs.of_hwp_core_rule.CountsBelow.{some-term}
use Rattle.hwp_plain.proofs.of_hwp_core_rule.Lists.{at_map, each-map, each-set, same-or, sum-map, term-le, terms-le}
use Rattle.hwp_plain.proofs.of_hwp_core_rule.MoreEntries.{each-append}
use Rattle.hwp_plain.proofs.of_hwp_core_rule.NotLater.{not-later}
use Rattle.hwp_plain.proofs.of_hwp_core_rule.ListDrops.{find-is}
use Rattle.hwp_plain.specs.hwp_core_rule.Boards.{Played}
use Rattle.hwp_law_served.specs.Turns.{Leads}
use Rattle.hwp_law_served.proofs.turns.StepEntries.{AddsLength, AddsMade, AddsNothing, adds}
use Rattle.hwp_law_served.proofs.Homes.{home-within}

-- the history that a command saw lies above the entry of an earlier command, not above that of a later one
pub record Above (l : Length) (m : Made) : Type 0 where
  pub past : m.page ≡ l.log.page → IsEarlier m.entry.who l.stamp.who → m.place < length l.log.entries
  pub below : m.page ≡ l.log.page → IsEarlier l.stamp.who m.entry.who → length l.log.entries ≤ m.place

-- and not below what an earlier command saw
abbrev pub Follows : Length → Length → Type 0
Follows l k = k.log.page ≡ l.log.page → IsEarlier k.stamp.who l.stamp.who → length k.log.entries ≤ length l.log.entries

-- and each history that was seen is of a page of the layout
pub record Rises (layout : Layout) (made : List Made) (lengths : List Length) : Type 0 where
  pub inside : EachMember (λ (l : Length). l.log.page.0 < length layout.pages) lengths
  pub above : EachMember (λ (l : Length). EachMember (Above l) made) lengths
  pub follows : EachMember (λ (l : Length). EachMember (Follows l) lengths) lengths

abbrev pub Rising : Layout → View → Type 0
Rising layout v = Rises layout v.made v.lengths

-- ---- where entries stand

-- 1 at this place of the page, and 0 elsewhere
abbrev pub is_at : Page → ℕ → Page → ℕ → Entry → ℕ
is_at page place p n e = from_bool ((p.0 == page.0) && (n == place))

pub at-one : (page : Page) (place : ℕ) (e : Entry) → is_at page place page place e ≡ 1
at-one page place e = ap from_bool (and_from (page.0 == page.0) (place == place) (eq-eqb page.0 page.0 refl) (eq-eqb place place refl))

was-true : (b : Bool) → 0 < from_bool b → b ≡ true
was-true true above = refl
was-true false above = absurd (omega (arith, above))

-- where it is above 0 for a history, the history is the page's and longer than the place
pub at-within : (page : Page) (place : ℕ) (log : Log) (from : ℕ) (es : List Entry) → 0 < weigh_from (is_at page place) log.page from es → (log.page.0 ≡ page.0) × (place < from + length es)
at-within page place log from [] above = absurd (omega arith)
at-within page place log from (e ∷ es) above = which (λ more. at-within page place log (suc from) es more) (is_at page place log.page from e) refl
  where
    which : (0 < weigh_from (is_at page place) log.page (suc from) es → (log.page.0 ≡ page.0) × (place < suc from + length es)) → (n : ℕ) → is_at page place log.page from e ≡ n → (log.page.0 ≡ page.0) × (place < from + length (e ∷ es))
    which later zero none =
        let rest = later (omega arith) in
        let inside : place < suc from + length es = rest.1 in
        (rest.0, (let longer : length (e ∷ es) ≡ suc (length es) = refl in omega arith))
    which later (suc n) some =
        let is = and_parts (log.page.0 == page.0) (from == place) (was-true ((log.page.0 == page.0) && (from == place)) (let one : from_bool ((log.page.0 == page.0) && (from == place)) ≡ suc n = some in omega arith)) in
        let here : from ≡ place = eqb-true from place is.1 in
        (eqb-true log.page.0 page.0 is.0, (let longer : length (e ∷ es) ≡ suc (length es) = refl in omega arith))

-- 1 for a history of the page
abbrev pub is_of : ℕ → Log → ℕ
is_of q log = from_bool (log.page.0 == q)

module _ (layout : Layout) (s : State) (h : Holds layout s) where
  abbrev bodies : List (List InHand)
  bodies = map (λ (v : View). v.bodies) s.views

  -- an entry that a view lists stands in the page's one body: one at home is longer than its place
  stands-below : (i j slot : ℕ) (v : View) (m : Made) (log : Log) → slice_get s.views i ≡ Some v → slice_get v.made j ≡ Some m → slice_get s.homes slot ≡ Some (Some (Some log)) → log.page.0 < length layout.pages → m.page ≡ log.page
      → m.place < length log.entries
  stands-below i j slot v m log view made home within same =
      let f : Page → ℕ → Entry → ℕ = is_at m.page m.place in
      let all : sum_bodies (weigh f) s.homes bodies ≡ sum_by (λ (x : List Made × List Sight). sum_by (λ (y : Made). f y.page y.place y.entry) x.0) (map (λ (x : View). (x.made, x.sights)) s.views) = h.rule.histories.entries.balance f in
      let mapped : sum_by (λ (x : List Made × List Sight). sum_by (λ (y : Made). f y.page y.place y.entry) x.0) (map (λ (x : View). (x.made, x.sights)) s.views) ≡ sum_by (λ (x : View). sum_by (λ (y : Made). f y.page y.place y.entry) x.made) s.views
      = sum-map (λ (x : List Made × List Sight). sum_by (λ (y : Made). f y.page y.place y.entry) x.0) (λ (x : View). (x.made, x.sights)) s.views in
      let one : f m.page m.place m.entry ≡ 1 = at-one m.page m.place m.entry in
      let here : f m.page m.place m.entry ≤ sum_by (λ (y : Made). f y.page y.place y.entry) v.made = term-le (λ (y : Made). f y.page y.place y.entry) v.made j m made in
      let mine : sum_by (λ (y : Made). f y.page y.place y.entry) v.made ≤ sum_by (λ (x : View). sum_by (λ (y : Made). f y.page y.place y.entry) x.made) s.views = term-le (λ (x : View). sum_by (λ (y : Made). f y.page y.place y.entry) x.made) s.views i v view in
      which (sum_by (of_home (weigh f)) s.homes) (sum_all (λ (b : InHand). weigh f b.log) bodies) refl refl (omega arith)
    where
      only : sum_by (of_home (is_of log.page.0)) s.homes + sum_all (λ (b : InHand). is_of log.page.0 b.log) bodies ≡ 1
      only = subst (λ (l : List (List InHand)). sum_by (of_home (is_of log.page.0)) s.homes + sum_all (λ (b : InHand). is_of log.page.0 b.log) l ≡ 1) (mapped_twice s.views) (h.rule.pages.bodies.one log.page.0 within)
        where
          mapped_twice : (views : List View) → map (λ (x : Holder). x.bodies) (map holder_of views) ≡ map (λ (x : View). x.bodies) views
          mapped_twice [] = refl
          mapped_twice (x ∷ xs) = ap (λ (l : List (List InHand)). x.bodies ∷ l) (mapped_twice xs)

      at_home : 1 ≤ sum_by (of_home (is_of log.page.0)) s.homes
      at_home =
          let is : is_of log.page.0 log ≡ 1 = ap from_bool (eq-eqb log.page.0 log.page.0 refl) in
          let part : is_of log.page.0 log ≤ sum_by (of_home (is_of log.page.0)) s.homes = term-le (of_home (is_of log.page.0)) s.homes slot (Some (Some log)) home in
          omega arith

      -- a body of the page is the one at home
      here-it-is : (k : ℕ) (content : Option (Option Log)) → slice_get s.homes k ≡ Some content → 0 < of_home (weigh (is_at m.page m.place)) content → m.place < length log.entries
      here-it-is k None there above = absurd (omega (arith, above))
      here-it-is k (Some None) there above = absurd (omega (arith, above))
      here-it-is k (Some (Some other)) there above =
          let is = at-within m.page m.place other 0 other.entries above in
          let page_is : other.page.0 ≡ log.page.0 = is.0 ∙ ap (λ (p : Page). p.0) same in
          let theirs : is_of log.page.0 other ≡ 1 = ap from_bool (eq-eqb other.page.0 log.page.0 page_is) in
          let mine : is_of log.page.0 log ≡ 1 = ap from_bool (eq-eqb log.page.0 log.page.0 refl) in
          elim (same-or k slot) [
            | inl here ↦
                let one : other ≡ log = same_Some other log (same_Some (Some other) (Some log) (same_Some (Some (Some other)) (Some (Some log)) (sym there ∙ ap (slice_get s.homes) here ∙ home))) in
                let inside : m.place < 0 + length other.entries = is.1 in
                let long : length other.entries ≡ length log.entries = ap (λ (x : Log). length x.entries) one in
                omega arith
            | inr differs ↦
                let both : is_of log.page.0 other + is_of log.page.0 log ≤ sum_by (of_home (is_of log.page.0)) s.homes = terms-le (of_home (is_of log.page.0)) s.homes k slot (Some (Some other)) (Some (Some log)) differs there home in
                absurd (omega (arith, only))
          ]

      in-hand : (k n : ℕ) (list : List InHand) (b : InHand) → slice_get bodies k ≡ Some list → slice_get list n ≡ Some b → 0 < weigh (is_at m.page m.place) b.log → m.place < length log.entries
      in-hand k n list b there listed above =
          let is = at-within m.page m.place b.log 0 b.log.entries above in
          let theirs : is_of log.page.0 b.log ≡ 1 = ap from_bool (eq-eqb b.log.page.0 log.page.0 (is.0 ∙ ap (λ (p : Page). p.0) same)) in
          let first : is_of log.page.0 b.log ≤ sum_by (λ (x : InHand). is_of log.page.0 x.log) list = term-le (λ (x : InHand). is_of log.page.0 x.log) list n b listed in
          let second : sum_by (λ (x : InHand). is_of log.page.0 x.log) list ≤ sum_all (λ (x : InHand). is_of log.page.0 x.log) bodies = term-le (sum_by (λ (x : InHand). is_of log.page.0 x.log)) bodies k list there in
          absurd (omega (arith, only, at_home))

      which : (a b : ℕ) → sum_by (of_home (weigh (is_at m.page m.place))) s.homes ≡ a → sum_all (λ (x : InHand). weigh (is_at m.page m.place) x.log) bodies ≡ b → 1 ≤ a + b → m.place < length log.entries
      which (suc a) b first second some =
          let home = some-term (of_home (weigh (is_at m.page m.place))) s.homes (omega arith) in
          here-it-is home.0 home.1 home.2 home.3
      which zero b first second some =
          let list = some-term (sum_by (λ (x : InHand). weigh (is_at m.page m.place) x.log)) bodies (let all : sum_by (sum_by (λ (x : InHand). weigh (is_at m.page m.place) x.log)) bodies ≡ b = second in omega arith) in
          let body = some-term (λ (x : InHand). weigh (is_at m.page m.place) x.log) list.1 list.3 in
          in-hand list.0 body.0 list.1 body.1 list.2 body.2 body.3

-- ---- one step

-- entries as they are made stand at their places or later
made-at : (P : Made → Type 0) (stamp : Stamp) (page : Page) (frame : Option Frame) (place : ℕ) (es : List Entry)
    → ((i n : ℕ) (e : Entry) → slice_get es i ≡ Some e → place ≤ n → P (record { stamp = stamp; page = page; place = n; entry = e; frame = frame })) → EachMember P (made_from stamp page frame place es)
made-at P stamp page frame place [] each i m there = absurd (none-some m there)
made-at P stamp page frame place (e ∷ es) each zero m there = subst P (same_Some (record { stamp = stamp; page = page; place = place; entry = e; frame = frame }) m there) (each 0 place e refl (omega arith))
made-at P stamp page frame place (e ∷ es) each (suc i) m there = made-at P stamp page frame (suc place) es (λ j n x at later. each (suc j) n x at (omega (arith, later))) i m there

-- no command is earlier than one that isn't later
not-earlier : (a b : Who) → IsEarlier a b → IsNotLater b a → ⊥
not-earlier a b earlier later = let after : b.seq ≤ a.seq = later (sym earlier.0) in let before : a.seq < b.seq = earlier.1 in omega arith

module _ (layout : Layout) (seat : ℕ) (r : Rec) (a b : State) (h : Holds layout a) (m : Move layout seat r a b) (rising : Rising layout m.view) where
  -- what the seat lists is of no later command
  not-after : (other : Who) → IsPast m.view.parts other → IsNotLater other r.who
  not-after other past = not-later layout (words_of layout a.words) a.homes a.views seat m.view r.who m.me m.asks.turn h.rule seat m.view other m.me past

  own-made : EachMember (λ (x : Made). IsNotLater x.entry.who r.who) m.view.made
  own-made i x there = not-after x.entry.who ((h.rule.processors.commands.own seat m.view m.me).made i x there)

  own-lengths : EachMember (λ (l : Length). IsNotLater l.stamp.who r.who) m.view.lengths
  own-lengths i l there = not-after l.stamp.who ((h.rule.processors.commands.own seat m.view m.me).lengths i l there)

  -- a history that is taken
  module _ (l : Length) (log : Log) (slot : ℕ) (home : slice_get a.homes slot ≡ Some (Some (Some log))) (within : log.page.0 < length layout.pages) (log_is : l.log ≡ log) (own : l.stamp.who ≡ r.who) where
    new-above : EachMember (Above l) m.view.made
    new-above i x there = record {
      past = λ same earlier.
          let page_is : x.page ≡ log.page = same ∙ ap (λ (y : Log). y.page) log_is in
          let below : x.place < length log.entries = stands-below layout a h seat i slot m.view x log m.me there home within page_is in
          let long : length l.log.entries ≡ length log.entries = ap (λ (y : Log). length y.entries) log_is in
          omega arith;
      below = λ same earlier. absurd (not-earlier l.stamp.who x.entry.who earlier (subst (IsNotLater x.entry.who) (sym own) (own-made i x there)));
    }

    reached : EachMember (λ (k : Length). k.log.page ≡ l.log.page → length k.log.entries ≤ length l.log.entries) m.view.lengths
    reached i k there same =
        let each = h.rule.histories.entries.lengths_reached seat m.view.lengths (at_map (λ (v : View). v.lengths) a.views seat m.view m.me) i k there in
        let starts = each.at_home slot log home (sym (same ∙ ap (λ (y : Log). y.page) log_is)) in
        let all : length log.entries ≡ length k.log.entries + length starts.0 = ap (λ (y : List Entry). length y) starts.1 ∙ length-append k.log.entries starts.0 in
        let long : length l.log.entries ≡ length log.entries = ap (λ (y : Log). length y.entries) log_is in
        omega arith

    taken-rises : Rises layout m.view.made (m.view.lengths ++ l ∷ [])
    taken-rises = record {
      inside = each-append (λ (k : Length). k.log.page.0 < length layout.pages) m.view.lengths (l ∷ []) rising.inside
          (one (λ (k : Length). k.log.page.0 < length layout.pages) (subst (λ (y : Log). y.page.0 < length layout.pages) (sym log_is) within));
      above = each-append (λ (k : Length). EachMember (Above k) m.view.made) m.view.lengths (l ∷ []) rising.above (one (λ (k : Length). EachMember (Above k) m.view.made) new-above);
      follows = each-append (λ (k : Length). EachMember (Follows k) (m.view.lengths ++ l ∷ [])) m.view.lengths (l ∷ [])
          (λ i k there. each-append (Follows k) m.view.lengths (l ∷ []) (rising.follows i k there) (one (Follows k) (λ same earlier. absurd (not-earlier l.stamp.who k.stamp.who earlier (subst (IsNotLater k.stamp.who) (sym own) (own-lengths i k there))))))
          (one (λ (k : Length). EachMember (Follows k) (m.view.lengths ++ l ∷ []))
          (each-append (Follows l) m.view.lengths (l ∷ []) (λ i k there same earlier. reached i k there same) (one (Follows l) (λ same earlier. omega arith))));
    }
      where
        one : (P : Length → Type 0) → P l → EachMember P (l ∷ [])
        one P here zero x is = subst P (same_Some l x is) here
        one P here (suc i) x is = absurd (none-some x is)

  -- entries that are listed
  module _ (log : Log) (body : InHand) (n : ℕ) (listed : slice_get m.view.bodies n ≡ Some body) (page_is : log.page ≡ body.log.page) (own : EachMember (λ (e : Entry). e.who ≡ r.who) (more_of body log)) (stamp : Stamp) where
    abbrev more : List Made
    more = made_from stamp log.page body.frame (length body.log.entries) (more_of body log)

    seen-below : EachMember (λ (l : Length). log.page ≡ l.log.page → length l.log.entries ≤ length body.log.entries) m.view.lengths
    seen-below i l there same =
        let each = h.rule.histories.entries.lengths_reached seat m.view.lengths (at_map (λ (v : View). v.lengths) a.views seat m.view m.me) i l there in
        let starts = each.in_hand seat m.view.bodies (at_map (λ (v : View). v.bodies) a.views seat m.view m.me) n body listed (sym page_is ∙ same) in
        let all : length body.log.entries ≡ length l.log.entries + length starts.0 = ap (λ (y : List Entry). length y) starts.1 ∙ length-append l.log.entries starts.0 in
        omega arith

    more-above : (i : ℕ) (l : Length) → slice_get m.view.lengths i ≡ Some l → EachMember (Above l) more
    more-above i l there = made-at (Above l) stamp log.page body.frame (length body.log.entries) (more_of body log) (λ j k e at later. record {
      past = λ same earlier. absurd (not-earlier e.who l.stamp.who earlier (subst (IsNotLater l.stamp.who) (sym (own j e at)) (own-lengths i l there)));
      below = λ same earlier. (let seen : length l.log.entries ≤ length body.log.entries = seen-below i l there same in let past : length body.log.entries ≤ k = later in omega arith);
    })

    listed-rises : Rises layout (m.view.made ++ more) m.view.lengths
    listed-rises = record {
      inside = rising.inside;
      above = λ i l there. each-append (Above l) m.view.made more (rising.above i l there) (more-above i l there);
      follows = rising.follows;
    }

  rises-by : (x : View) → AddsNothing (noted r.who m.view) x ⊎ (AddsLength layout r.who r.step r.found r.content (noted r.who m.view) x ⊎ AddsMade layout r.who (noted r.who m.view) x) → Rises layout x.made x.lengths
  rises-by x (inl none) = subst (λ (made : List Made). Rises layout made x.lengths) (sym none.made) (subst (Rises layout m.view.made) (sym none.lengths) rising)
  rises-by x (inr (inl took)) =
      subst (λ (made : List Made). Rises layout made x.lengths) (sym took.made) (subst (Rises layout m.view.made) (sym took.lengths)
      (taken-rises took.length took.log took.slot home (home-within layout a h took.log took.slot home) took.log_is took.own))
    where
      home : slice_get a.homes took.slot ≡ Some (Some (Some took.log))
      home = subst (λ (c : Option Log). slice_get a.homes took.slot ≡ Some (Some c)) took.content_is (subst (λ (move : SlotMove). MeetsSlot move a.homes r.content) took.out m.slot)
  rises-by x (inr (inr lists)) =
      subst (λ (made : List Made). Rises layout made x.lengths) (sym lists.made) (subst (Rises layout (m.view.made ++ _)) (sym lists.lengths)
      (listed-rises lists.log lists.body found.0 found.1 lists.extends.page_is lists.extends.own (stamp_of r.who (noted r.who m.view))))
    where
      found : (i : ℕ) × (slice_get m.view.bodies i ≡ Some lists.body) × (is_body_of lists.log.page lists.body ≡ true)
      found = find-is (is_body_of lists.log.page) m.view.bodies lists.body lists.body_is

  pub rises-moved : Rising layout (view_after layout r m.view)
  rises-moved = rises-by (view_after layout r m.view) (adds layout r.who r.step r.found r.content (noted r.who m.view) (asks-noted layout r.who m.view r.step r.content m.asks.kind))

-- ---- a run

module _ (layout : Layout) where
  rises-on : (turns : List Played) (a b : State) → Holds layout a → Leads layout a turns b → EachMember (Rising layout) a.views → EachMember (Rising layout) b.views
  rises-on [] a b holds leads each = subst (λ (s : State). EachMember (Rising layout) s.views) (sym leads) each
  rises-on (p ∷ ps) a b holds (mid, move, kept, rest) each =
      rises-on ps mid b kept rest
      (subst (λ (s : State). EachMember (Rising layout) s.views) (sym move.next)
      (each-set (Rising layout) a.views p.seat (view_after layout p.made move.view) (rises-moved layout p.seat p.made a mid holds move (each p.seat move.view move.me)) each))

  opening-rises : (c : ℕ) → Rising layout (opening_view c)
  opening-rises c = record { inside = λ i l e. absurd (none-some l e); above = λ i l e. absurd (none-some l e); follows = λ i l e. absurd (none-some l e) }

  -- along a run, what each view lists of a page rises with its commands
  pub run-rises : (turns : List Played) (last : State) → Holds layout (opening layout) → Leads layout (opening layout) turns last → EachMember (Rising layout) last.views
  run-rises turns last holds leads = rises-on turns (opening layout) last holds leads (each-map opening_view (Rising layout) (below layout.cpus) (λ i c e. opening-rises c))
