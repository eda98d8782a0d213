-- Along a run the entries that a view lists of one page stand at rising places.
use Rattle.std.proofs.Common.{◌≡◌, ◌≢◌, ◌⊎◌, inl, inr, ℕ, zero, suc, ◌+◌, ◌<◌, ◌≤◌, ◌==◌, ◌&&◌, Bool, true, false, List, [], ◌∷◌, ◌++◌, Option, Some, None, length, map, slice_get, refl, sym, ap, ◌∙◌, subst, arith}
use Rattle.std.specs.Int.{from_bool}
use Rattle.std.specs.List.{sum_by}
use Rattle.std.proofs.lemmas.Bool.{and_from, and_parts, eq-eqb, eqb-true}
use Rattle.std.proofs.lemmas.Option.{none-some, same_Some}
use Rattle.hwp_law.specs.hwp_geom.declared.Frame.{Frame}
use Rattle.hwp_law.specs.hwp_geom.declared.Layout.{Layout}
use Rattle.hwp_law.specs.hwp_geom.declared.Page.{Page}
use Rattle.hwp_law.specs.hwp_geom.declared.Who.{Who}
use Rattle.hwp_law.specs.hwp_page.declared.Entry.{Entry}
use Rattle.hwp_plain.specs.hwp_core_rule.declared.InHand.{InHand}
use Rattle.hwp_plain.specs.hwp_core_rule.declared.Log.{Log}
use Rattle.hwp_plain.specs.hwp_core_rule.declared.Made.{Made}
use Rattle.hwp_plain.specs.hwp_core_rule.declared.Rec.{Rec}
use Rattle.hwp_plain.specs.hwp_core_rule.declared.Sight.{Sight}
use Rattle.hwp_plain.specs.hwp_core_rule.declared.SlotMove.{SlotMove}
use Rattle.hwp_plain.specs.hwp_core_rule.declared.SlotMove.TheVariants as moves
use Rattle.hwp_plain.specs.hwp_core_rule.declared.Stamp.{Stamp}
use Rattle.hwp_plain.specs.hwp_core_rule.declared.State.{State}
use Rattle.hwp_plain.specs.hwp_core_rule.declared.View.{View}
use Rattle.hwp_plain.specs.hwp_core_rule.Asks.{Extends}
use Rattle.hwp_plain.specs.hwp_core_rule.Lists.{EachMember, of_home, sum_all, sum_bodies}
use Rattle.hwp_plain.specs.hwp_core_rule.Moves.{Move}
use Rattle.hwp_plain.specs.hwp_core_rule.Rule.{Holds, holder_of}
use Rattle.hwp_plain.specs.hwp_core_rule.SlotMoves.{MeetsSlot, slot_move}
use Rattle.hwp_plain.specs.hwp_core_rule.Views.{body_of, is_body_of, made_from, more_of, noted, stamp_of, view_after}
use Rattle.hwp_plain.specs.hwp_core_rule.parts.Bodies.{Holder}
use Rattle.hwp_plain.specs.hwp_core_rule.parts.Entries.{weigh, weigh_from}
use Rattle.hwp_plain.proofs.of_hwp_core_rule.AsksNoted.{asks-noted}
use Rattle.hwp_plain.proofs.of_hwp_core_rule.CountsBelow.{some-term}
use Rattle.hwp_plain.proofs.of_hwp_core_rule.ListDrops.{find-is}
use Rattle.hwp_plain.proofs.of_hwp_core_rule.Lists.{at_map, same-or, sum-map, term-le, terms-le}
use Rattle.hwp_law_served.proofs.Homes.{home-within}
use Rattle.hwp_law_served.proofs.Legal.{bodies-by}
use Rattle.hwp_law_served.proofs.turns.SightOrder.{at-one, at-within, is_at, is_of}
use Rattle.hwp_law_served.proofs.turns.StepEntries.{AddsLength, AddsMade, AddsNothing, adds}
use Rattle.hwp_law_served.proofs.RunKeeps.{IsKept}

-- those of one page rise
abbrev pub IsInOrder : List Made → Type 0
IsInOrder made = (i j : ℕ) (a b : Made) → i < j → slice_get made i ≡ Some a → slice_get made j ≡ Some b → a.page ≡ b.page → a.place < b.place

-- ---- lists

-- a member of two lists is one of the first, or of the second
pub split-at : {A : Type 0} (l m : List A) (k : ℕ) (x : A) → slice_get (l ++ m) k ≡ Some x → ((k < length l) × (slice_get l k ≡ Some x)) ⊎ ((j : ℕ) × (k ≡ length l + j) × (slice_get m j ≡ Some x))
split-at [] m k x there = inr (k, omega arith, there)
split-at (y ∷ ys) m zero x there = inl (omega arith, there)
split-at (y ∷ ys) m (suc k) x there = elim (split-at ys m k x there) [
  | inl first ↦ inl (omega (arith, first.0), first.1)
  | inr second ↦ inr (second.0, omega (arith, second.1), second.2)
]

order-append : (l more : List Made) → IsInOrder l → IsInOrder more → ((i j : ℕ) (a b : Made) → slice_get l i ≡ Some a → slice_get more j ≡ Some b → a.page ≡ b.page → a.place < b.place) → IsInOrder (l ++ more)
order-append l more first second between i j a b less at_a at_b same = which (split-at l more i a at_a) (split-at l more j b at_b)
  where
    which : ((i < length l) × (slice_get l i ≡ Some a)) ⊎ ((k : ℕ) × (i ≡ length l + k) × (slice_get more k ≡ Some a)) → ((j < length l) × (slice_get l j ≡ Some b)) ⊎ ((k : ℕ) × (j ≡ length l + k) × (slice_get more k ≡ Some b)) → a.place < b.place
    which (inl one) (inl two) = first i j a b less one.1 two.1 same
    which (inl one) (inr two) = between i two.0 a b one.1 two.2 same
    which (inr one) (inl two) = absurd (omega (arith, less, one.1, two.0))
    which (inr one) (inr two) = second one.0 two.0 a b (omega (arith, less, one.1, two.1)) one.2 two.2 same

-- entries as they are listed stand one behind the other
pub places-from : (stamp : Stamp) (page : Page) (frame : Option Frame) (place : ℕ) (es : List Entry) (k : ℕ) (m : Made) → slice_get (made_from stamp page frame place es) k ≡ Some m → (m.place ≡ place + k) × (m.page ≡ page)
places-from stamp page frame place [] k m there = absurd (none-some m there)
places-from stamp page frame place (e ∷ es) zero m there =
    let same = same_Some (record { stamp = stamp; page = page; place = place; entry = e; frame = frame }) m there in
    let at : place ≡ m.place = ap (λ (x : Made). x.place) same in
    (omega (arith, at), ap (λ (x : Made). x.page) (sym same))
places-from stamp page frame place (e ∷ es) (suc k) m there =
    let rest = places-from stamp page frame (suc place) es k m there in
    (omega (arith, rest.0), rest.1)

from-order : (stamp : Stamp) (page : Page) (frame : Option Frame) (place : ℕ) (es : List Entry) → IsInOrder (made_from stamp page frame place es)
from-order stamp page frame place es i j a b less at_a at_b same =
    let one = (places-from stamp page frame place es i a at_a).0 in
    let two = (places-from stamp page frame place es j b at_b).0 in
    omega (arith, less, one, two)

-- ---- a body in hand

module _ (layout : Layout) (s : State) (h : Holds layout s) where
  abbrev bodies : List (List InHand)
  bodies = map (λ (v : View). v.bodies) s.views

  -- an entry that a view lists of its page is one of the body's
  hand-below : (i j n : ℕ) (v : View) (m : Made) (b : InHand) → slice_get s.views i ≡ Some v → slice_get v.made j ≡ Some m → slice_get v.bodies n ≡ Some b → b.log.page.0 < length layout.pages → m.page ≡ b.log.page → m.place < length b.log.entries
  hand-below i j n v m b view made held within same =
      let f : Page → ℕ → Entry → ℕ = is_at m.page m.place in
      let all : sum_bodies (weigh f) s.homes bodies ≡ sum_by (λ (x : List Made × List Sight). sum_by (λ (y : Made). f y.page y.place y.entry) x.0) (map (λ (x : View). (x.made, x.sights)) s.views) = h.rule.histories.entries.balance f in
      let mapped : sum_by (λ (x : List Made × List Sight). sum_by (λ (y : Made). f y.page y.place y.entry) x.0) (map (λ (x : View). (x.made, x.sights)) s.views) ≡ sum_by (λ (x : View). sum_by (λ (y : Made). f y.page y.place y.entry) x.made) s.views
      = sum-map (λ (x : List Made × List Sight). sum_by (λ (y : Made). f y.page y.place y.entry) x.0) (λ (x : View). (x.made, x.sights)) s.views in
      let one : f m.page m.place m.entry ≡ 1 = at-one m.page m.place m.entry in
      let here : f m.page m.place m.entry ≤ sum_by (λ (y : Made). f y.page y.place y.entry) v.made = term-le (λ (y : Made). f y.page y.place y.entry) v.made j m made in
      let mine : sum_by (λ (y : Made). f y.page y.place y.entry) v.made ≤ sum_by (λ (x : View). sum_by (λ (y : Made). f y.page y.place y.entry) x.made) s.views = term-le (λ (x : View). sum_by (λ (y : Made). f y.page y.place y.entry) x.made) s.views i v view in
      which (sum_by (of_home (weigh f)) s.homes) (sum_all (λ (x : InHand). weigh f x.log) bodies) refl refl (omega (arith, all, mapped, one, here, mine))
    where
      only : sum_by (of_home (is_of b.log.page.0)) s.homes + sum_all (λ (x : InHand). is_of b.log.page.0 x.log) bodies ≡ 1
      only = subst (λ (l : List (List InHand)). sum_by (of_home (is_of b.log.page.0)) s.homes + sum_all (λ (x : InHand). is_of b.log.page.0 x.log) l ≡ 1) (mapped_twice s.views) (h.rule.pages.bodies.one b.log.page.0 within)
        where
          mapped_twice : (views : List View) → map (λ (x : Holder). x.bodies) (map holder_of views) ≡ map (λ (x : View). x.bodies) views
          mapped_twice [] = refl
          mapped_twice (x ∷ xs) = ap (λ (l : List (List InHand)). x.bodies ∷ l) (mapped_twice xs)

      self : is_of b.log.page.0 b.log ≡ 1
      self = ap from_bool (eq-eqb b.log.page.0 b.log.page.0 refl)

      in_list : is_of b.log.page.0 b.log ≤ sum_by (λ (x : InHand). is_of b.log.page.0 x.log) v.bodies
      in_list = term-le (λ (x : InHand). is_of b.log.page.0 x.log) v.bodies n b held

      in_all : sum_by (λ (x : InHand). is_of b.log.page.0 x.log) v.bodies ≤ sum_all (λ (x : InHand). is_of b.log.page.0 x.log) bodies
      in_all = term-le (sum_by (λ (x : InHand). is_of b.log.page.0 x.log)) bodies i v.bodies (at_map (λ (x : View). x.bodies) s.views i v view)

      -- none is at home
      at-home : (k : ℕ) (content : Option (Option Log)) → slice_get s.homes k ≡ Some content → 0 < of_home (weigh (is_at m.page m.place)) content → m.place < length b.log.entries
      at-home k None there above = absurd (omega (arith, above))
      at-home k (Some None) there above = absurd (omega (arith, above))
      at-home k (Some (Some other)) there above =
          let is = at-within m.page m.place other 0 other.entries above in
          let theirs : is_of b.log.page.0 other ≡ 1 = ap from_bool (eq-eqb other.page.0 b.log.page.0 (is.0 ∙ ap (λ (p : Page). p.0) same)) in
          let part : of_home (is_of b.log.page.0) (Some (Some other)) ≤ sum_by (of_home (is_of b.log.page.0)) s.homes = term-le (of_home (is_of b.log.page.0)) s.homes k (Some (Some other)) there in
          let part_is : of_home (is_of b.log.page.0) (Some (Some other)) ≡ is_of b.log.page.0 other = refl in
          absurd (omega (arith, only, self, in_list, in_all, theirs, part, part_is))

      -- and the one in hand is this
      in-hand : (k p : ℕ) (list : List InHand) (x : InHand) → slice_get bodies k ≡ Some list → slice_get list p ≡ Some x → 0 < weigh (is_at m.page m.place) x.log → m.place < length b.log.entries
      in-hand k p list x there listed above = by (same-or k i) (same-or p n)
        where
          is : (x.log.page.0 ≡ m.page.0) × (m.place < 0 + length x.log.entries)
          is = at-within m.page m.place x.log 0 x.log.entries above

          theirs : is_of b.log.page.0 x.log ≡ 1
          theirs = ap from_bool (eq-eqb x.log.page.0 b.log.page.0 (is.0 ∙ ap (λ (q : Page). q.0) same))

          mine_at : slice_get bodies i ≡ Some v.bodies
          mine_at = at_map (λ (y : View). y.bodies) s.views i v view

          by : (k ≡ i) ⊎ (k ≢ i) → (p ≡ n) ⊎ (p ≢ n) → m.place < length b.log.entries
          by (inr differs) either =
              let both : sum_by (λ (y : InHand). is_of b.log.page.0 y.log) list + sum_by (λ (y : InHand). is_of b.log.page.0 y.log) v.bodies ≤ sum_all (λ (y : InHand). is_of b.log.page.0 y.log) bodies
              = terms-le (sum_by (λ (y : InHand). is_of b.log.page.0 y.log)) bodies k i list v.bodies differs there mine_at in
              let first : is_of b.log.page.0 x.log ≤ sum_by (λ (y : InHand). is_of b.log.page.0 y.log) list = term-le (λ (y : InHand). is_of b.log.page.0 y.log) list p x listed in
              absurd (omega (arith, only, self, in_list, theirs, both, first))
          by (inl list_same) (inr differs) =
              let lists : list ≡ v.bodies = same_Some list v.bodies (sym there ∙ ap (slice_get bodies) list_same ∙ mine_at) in
              let both : is_of b.log.page.0 x.log + is_of b.log.page.0 b.log ≤ sum_by (λ (y : InHand). is_of b.log.page.0 y.log) v.bodies
              = terms-le (λ (y : InHand). is_of b.log.page.0 y.log) v.bodies p n x b differs (sym (ap (λ (l : List InHand). slice_get l p) lists) ∙ listed) held in
              absurd (omega (arith, only, self, in_all, theirs, both))
          by (inl list_same) (inl place_same) =
              let lists : list ≡ v.bodies = same_Some list v.bodies (sym there ∙ ap (slice_get bodies) list_same ∙ mine_at) in
              let one : x ≡ b = same_Some x b (sym listed ∙ ap (λ (l : List InHand). slice_get l p) lists ∙ ap (slice_get v.bodies) place_same ∙ held) in
              let long : length x.log.entries ≡ length b.log.entries = ap (λ (y : InHand). length y.log.entries) one in
              omega (arith, is.1, long)

      which : (a c : ℕ) → sum_by (of_home (weigh (is_at m.page m.place))) s.homes ≡ a → sum_all (λ (x : InHand). weigh (is_at m.page m.place) x.log) bodies ≡ c → 1 ≤ a + c → m.place < length b.log.entries
      which (suc a) c first second some =
          let home = some-term (of_home (weigh (is_at m.page m.place))) s.homes (omega (arith, first)) in
          at-home home.0 home.1 home.2 home.3
      which zero c first second some =
          let list = some-term (sum_by (λ (x : InHand). weigh (is_at m.page m.place) x.log)) bodies (let all : sum_by (sum_by (λ (x : InHand). weigh (is_at m.page m.place) x.log)) bodies ≡ c = second in omega (arith, all, some)) in
          let body = some-term (λ (x : InHand). weigh (is_at m.page m.place) x.log) list.1 list.3 in
          in-hand list.0 body.0 list.1 body.1 list.2 body.2 body.3

-- ---- a step

-- the bodies in hand are of pages of the layout, and the entries rise
pub record IsOrdered (layout : Layout) (v : View) : Type 0 where
  pub within : EachMember (λ (b : InHand). b.log.page.0 < length layout.pages) v.bodies
  pub order : IsInOrder v.made

module _ (layout : Layout) (seat : ℕ) (r : Rec) (a b : State) (h : Holds layout a) (m : Move layout seat r a b) (was : IsOrdered layout m.view) where
  abbrev Within : Log → Type 0
  Within log = log.page.0 < length layout.pages

  stays : (log : Log) (body : InHand) → body_of log.page m.view ≡ Some body → Extends layout r.who m.view.sights body log → Within log
  stays log body is extends =
      let found = find-is (is_body_of log.page) m.view.bodies body is in
      subst (λ (p : Page). p.0 < length layout.pages) (sym extends.page_is) (was.within found.0 body found.1)

  brought : (log : Log) (slot : ℕ) → r.content ≡ Some log → slot_move layout r.step r.found ≡ moves.Out slot → Within log
  brought log slot is out =
      let there : slice_get a.homes slot ≡ Some (Some r.content) = subst (λ (move : SlotMove). MeetsSlot move a.homes r.content) out m.slot in
      home-within layout a h log slot (there ∙ ap (λ (c : Option Log). Some (Some c)) is)

  bodies-within : EachMember (λ (x : InHand). Within x.log) (view_after layout r m.view).bodies
  bodies-within = (bodies-by layout Within r.who r.step r.found r.content (noted r.who m.view) a.homes (asks-noted layout r.who m.view r.step r.content m.asks.kind) stays brought was.within
      (λ slot content there log is. home-within layout a h log slot (there ∙ ap (λ (c : Option (Option Log)). Some c) is))).0

  made-order : (x : View) → AddsNothing (noted r.who m.view) x ⊎ (AddsLength layout r.who r.step r.found r.content (noted r.who m.view) x ⊎ AddsMade layout r.who (noted r.who m.view) x) → IsInOrder x.made
  made-order x (inl none) = subst IsInOrder (sym none.made) was.order
  made-order x (inr (inl took)) = subst IsInOrder (sym took.made) was.order
  made-order x (inr (inr lists)) =
      let found = find-is (is_body_of lists.log.page) m.view.bodies lists.body lists.body_is in
      subst IsInOrder (sym lists.made) (order-append m.view.made (made_from (stamp_of r.who (noted r.who m.view)) lists.log.page lists.body.frame (length lists.body.log.entries) (more_of lists.body lists.log)) was.order
      (from-order (stamp_of r.who (noted r.who m.view)) lists.log.page lists.body.frame (length lists.body.log.entries) (more_of lists.body lists.log))
      (λ i j x y at_x at_y same.
      let new = places-from (stamp_of r.who (noted r.who m.view)) lists.log.page lists.body.frame (length lists.body.log.entries) (more_of lists.body lists.log) j y at_y in
      let below : x.place < length lists.body.log.entries = hand-below layout a h seat i found.0 m.view x lists.body m.me at_x found.1 (was.within found.0 lists.body found.1) (same ∙ new.1 ∙ lists.extends.page_is) in
      omega (arith, new.0, below)))

  ordered-moved : IsOrdered layout (view_after layout r m.view)
  ordered-moved = record { within = bodies-within; order = made-order (view_after layout r m.view) (adds layout r.who r.step r.found r.content (noted r.who m.view) (asks-noted layout r.who m.view r.step r.content m.asks.kind)) }

-- along a run
pub ordered-kept : (layout : Layout) → IsKept layout (λ (s : State) (v : View). IsOrdered layout v)
ordered-kept layout = record {
  stays = λ seat r a b h m still v was. was;
  moves = λ seat r a b h m still all was. ordered-moved layout seat r a b h m was;
  opens = λ c. record { within = λ i b there. absurd (none-some b there); order = λ i j a b less first second same. absurd (none-some a first) };
}
