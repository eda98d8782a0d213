-- Where the entries that bodies in hand have more than they were taken with are of the latest commands of their processors, a
-- command doesn't see a process going on that an earlier command of its processor ended.
use Rattle.std.proofs.Common.{◌≡◌, ◌≢◌, ◌⊎◌, inl, inr, ℕ, zero, suc, ◌+◌, ◌<◌, ◌≤◌, ◌&&◌, ◌||◌, Bool, true, false, List, [], ◌∷◌, Option, None, Some, drop, length, map, take, slice_get, slice_index, refl, sym, ap, ◌∙◌, subst, arith}
use Rattle.std.specs.Int.{from_bool}
use Rattle.std.specs.List.{list_any, sum_by}
use Rattle.std.proofs.lemmas.Bool.{and_from, and_parts}
use Rattle.std.proofs.lemmas.Option.{none-some, same_Some}
use Rattle.hwp_law_served.specs.hwp_geom.declared.Layout.{Layout}
use Rattle.hwp_law_served.specs.hwp_geom.declared.Page.{Page}
use Rattle.hwp_law_served.specs.hwp_geom.declared.Proc.{Proc}
use Rattle.hwp_law_served.specs.hwp_page.declared.Entry.{Entry}
use Rattle.hwp_law_served.specs.hwp_page.Endings.{has_ending, is_ending}
use Rattle.hwp_law_served.specs.hwp_page.Orders.{IsEarlier}
use Rattle.hwp_law_served.specs.hwp_core_rule.declared.InHand.{InHand}
use Rattle.hwp_law_served.specs.hwp_core_rule.declared.Log.{Log}
use Rattle.hwp_law_served.specs.hwp_core_rule.declared.Made.{Made}
use Rattle.hwp_law_served.specs.hwp_core_rule.declared.SharedWord.{SharedWord}
use Rattle.hwp_law_served.specs.hwp_core_rule.declared.SharedWord.TheVariants as places
use Rattle.hwp_law_served.specs.hwp_core_rule.declared.Rec.{Rec}
use Rattle.hwp_law_served.specs.hwp_core_rule.declared.Sight.{Sight}
use Rattle.hwp_law_served.specs.hwp_core_rule.declared.State.{State}
use Rattle.hwp_law_served.specs.hwp_core_rule.declared.View.{View}
use Rattle.hwp_law_served.specs.hwp_core_rule.Asks.{IsTurnOf}
use Rattle.hwp_law_served.specs.hwp_core_rule.Lists.{EachMember, SomeMember, of_home, sum_all, sum_bodies}
use Rattle.hwp_law_served.specs.hwp_core_rule.Moves.{Move}
use Rattle.hwp_law_served.specs.hwp_core_rule.Rule.{Holds}
use Rattle.hwp_law_served.specs.hwp_core_rule.Steps.{place_of}
use Rattle.hwp_law_served.specs.hwp_core_rule.Words.{IsPlace, index, words_of}
use Rattle.hwp_law_served.specs.hwp_core_rule.parts.Entries.{weigh, weigh_from}
use Rattle.hwp_law_served.proofs.of_hwp_core_rule.CountsBelow.{some-term}
use Rattle.hwp_law_served.proofs.of_hwp_core_rule.Lists.{at_map, map-was, term-le}
use Rattle.hwp_law_served.proofs.of_hwp_core_rule.MoveKeeps.{shaped}
use Rattle.hwp_law_served.proofs.of_hwp_core_rule.NotLater.{one-view}
use Rattle.hwp_law_served.proofs.of_hwp_core_rule.WordsByKind.{word-there, words-read}
use Rattle.hwp_law_served.specs.Accounts.{is_same}
use Rattle.hwp_law_served.proofs.PoisonMarks.{same-who}
use Rattle.hwp_law_served.proofs.marks.Marked.{same-self}

-- ---- what is kept

-- the body in hand is of a page of the layout, and the entries that it has more than it was taken with are of latest commands
pub record IsFresh (layout : Layout) (v : View) (b : InHand) : Type 0 where
  pub within : b.log.page.0 < length layout.pages
  pub latest : EachMember (λ (e : Entry). IsTurnOf v e.who) (drop b.since b.log.entries)

abbrev pub AreFresh : Layout → View → Type 0
AreFresh layout v = EachMember (IsFresh layout v) v.bodies

-- no earlier command of the processor made an entry that ends the process
abbrev pub IsUnended : Layout → View → Sight → Type 0
IsUnended layout v x =
    (process : Proc) → x.place ≡ places.Process process → x.word ≡ 0 → EachMember (λ (m : Made). is_ending layout process m.entry.what ≡ true → IsEarlier m.entry.who x.stamp.who → ⊥) v.made

-- what was seen ended is seen so by later commands
abbrev pub StaysEnded : Sight → Sight → Type 0
StaysEnded s u = (process : Proc) → s.place ≡ places.Process process → u.place ≡ places.Process process → IsEarlier s.stamp.who u.stamp.who → s.word ≢ 0 → u.word ≢ 0

pub record KnowEnds (layout : Layout) (v : View) : Type 0 where
  pub fresh : AreFresh layout v
  pub unended : EachMember (IsUnended layout v) v.sights
  pub stays : EachMember (λ (s : Sight). EachMember (StaysEnded s) v.sights) v.sights

-- ---- entries somewhere in bodies

-- an entry that counts
some-weigh : (g : Entry → ℕ) (page : Page) (place : ℕ) (es : List Entry) → 0 < weigh_from (λ (p : Page) (n : ℕ) (e : Entry). g e) page place es → SomeMember (λ (e : Entry). 0 < g e) es
some-weigh g page place [] above = absurd (omega (arith, above))
some-weigh g page place (e ∷ es) above = which (g e) refl (some-weigh g page (suc place) es)
  where
    which : (n : ℕ) → g e ≡ n → (0 < weigh_from (λ (p : Page) (n : ℕ) (x : Entry). g x) page (suc place) es → SomeMember (λ (x : Entry). 0 < g x) es) → SomeMember (λ (x : Entry). 0 < g x) (e ∷ es)
    which zero is more = let rest = more (omega (arith, above, is)) in (suc rest.0, rest.1, rest.2, rest.3)
    which (suc n) is more = (0, e, refl, omega (arith, is))

-- a member of a list is before a place, or past it
split-at : {A : Type 0} (l : List A) (n k : ℕ) (x : A) → slice_get l k ≡ Some x → SomeMember (λ (y : A). y ≡ x) (take n l) ⊎ SomeMember (λ (y : A). y ≡ x) (drop n l)
split-at [] n k x there = absurd (none-some x there)
split-at (y ∷ ys) zero k x there = inr (k, x, there, refl)
split-at {A} (y ∷ ys) (suc n) zero x there = inl (0, y, refl, same_Some y x there)
split-at {A} (y ∷ ys) (suc n) (suc k) x there = which (split-at ys n k x there)
  where
    which : SomeMember (λ (z : A). z ≡ x) (take n ys) ⊎ SomeMember (λ (z : A). z ≡ x) (drop n ys) → SomeMember (λ (z : A). z ≡ x) (take (suc n) (y ∷ ys)) ⊎ SomeMember (λ (z : A). z ≡ x) (drop (suc n) (y ∷ ys))
    which (inl (i, z, at, is)) = inl (suc i, z, at, is)
    which (inr (i, z, at, is)) = inr (i, z, at, is)

-- a list with such a member has one
any-here : {A : Type 0} (test : A → Bool) (l : List A) (x : A) → SomeMember (λ (y : A). y ≡ x) l → test x ≡ true → list_any test l ≡ true
any-here test [] x (i, y, there, same) is = absurd (none-some y there)
any-here test (z ∷ zs) x (zero, y, there, same) is = ap (λ (b : Bool). b || list_any test zs) (ap test (same_Some z y there ∙ same) ∙ is)
any-here test (z ∷ zs) x (suc i, y, there, same) is = ap (λ (b : Bool). test z || b) (any-here test zs x (i, y, there, same) is) ∙ or-true (test z)
  where
    or-true : (b : Bool) → (b || true) ≡ true
    or-true true = refl
    or-true false = refl

some : (b : Bool) → 0 < from_bool b → b ≡ true
some true more = refl
some false more = absurd (omega (arith, more))

-- ---- a command that sees a process going on

-- the word of a process that a step met, among the words of the board
pub process-word : (layout : Layout) (seat : ℕ) (r : Rec) (a b : State) → Holds layout a → (m : Move layout seat r a b) → (process : Proc) → place_of r.step ≡ places.Process process → slice_get (words_of layout a.words).processes process.0 ≡ Some r.found
process-word layout seat r a b h m process is =
    let inside : process.0 < layout.procs = subst (IsPlace layout) is m.asks.place in
    let met : r.found ≡ slice_index a.words (index layout (places.Process process)) = m.met ∙ ap (λ (p : SharedWord). slice_index a.words (index layout p)) is in
    word-there (words_of layout a.words).processes process.0 layout.procs (shaped layout a h).processes inside ∙ ap (λ (n : ℕ). Some n) (words-read layout a.words (places.Process process) inside ∙ sym met)

module _ (layout : Layout) (seat : ℕ) (r : Rec) (a b : State) (h : Holds layout a) (m : Move layout seat r a b) (all : EachMember (KnowEnds layout) a.views) where
  abbrev v : View
  v = m.view

  abbrev homes_bodies : List (List InHand)
  homes_bodies = map (λ (x : View). x.bodies) a.views

  module _ (process : Proc) (is : place_of r.step ≡ places.Process process) where
    word : slice_get (words_of layout a.words).processes process.0 ≡ Some r.found
    word = process-word layout seat r a b h m process is

    -- an entry that ends it, in a body, is of a command that isn't over
    module _ (zero_ : r.found ≡ 0) (x : Made) (j : ℕ) (listed : slice_get v.made j ≡ Some x) (ends : is_ending layout process x.entry.what ≡ true) (earlier : IsEarlier x.entry.who r.who) where
      abbrev tests : Entry → Bool
      tests e = is_ending layout process e.what && is_same x.entry.who e.who

      abbrev counts : Page → ℕ → Entry → ℕ
      counts p n e = from_bool (tests e)

      not-here : (entries : List Entry) → has_ending layout process entries ≡ true → ((p : Proc) (w : ℕ) → slice_get (words_of layout a.words).processes p.0 ≡ Some w → has_ending layout p entries ≡ true → w ≢ 0) → ⊥
      not-here entries ending ended = ended process r.found word ending zero_

      at-home : (k : ℕ) (content : Option (Option Log)) → slice_get a.homes k ≡ Some content → 0 < of_home (weigh counts) content → ⊥
      at-home k None there above = omega (arith, above)
      at-home k (Some None) there above = omega (arith, above)
      at-home k (Some (Some log)) there above =
          let e = some-weigh (λ (y : Entry). from_bool (tests y)) log.page 0 log.entries above in
          let both = and_parts (is_ending layout process e.1.what) (is_same x.entry.who e.1.who) (some (tests e.1) e.3) in
          not-here log.entries (any-here (λ (y : Entry). is_ending layout process y.what) log.entries e.1 (e.0, e.1, e.2, refl) both.0) (h.rule.histories.endings.ended k log there)

      in-hand : (i k : ℕ) (u : View) (c : InHand) → slice_get a.views i ≡ Some u → slice_get u.bodies k ≡ Some c → 0 < weigh counts c.log → ⊥
      in-hand i k u c view there above =
          let e = some-weigh (λ (y : Entry). from_bool (tests y)) c.log.page 0 c.log.entries above in
          let both = and_parts (is_ending layout process e.1.what) (is_same x.entry.who e.1.who) (some (tests e.1) e.3) in
          which e.1 both.0 (same-who x.entry.who e.1.who both.1) (split-at c.log.entries c.since e.0 e.1 e.2)
        where
          which : (e : Entry) → is_ending layout process e.what ≡ true → e.who ≡ x.entry.who → SomeMember (λ (y : Entry). y ≡ e) (take c.since c.log.entries) ⊎ SomeMember (λ (y : Entry). y ≡ e) (drop c.since c.log.entries) → ⊥
          which e ending own (inl front) =
              not-here (take c.since c.log.entries) (any-here (λ (y : Entry). is_ending layout process y.what) (take c.since c.log.entries) e front ending)
              (h.rule.histories.endings.ended_before i u.bodies (at_map (λ (y : View). y.bodies) a.views i u view) k c there)
          which e ending own (inr past) =
              let turn : IsTurnOf u x.entry.who = subst (IsTurnOf u) own (subst (λ (y : Entry). IsTurnOf u y.who) past.3 (((all i u view).fresh k c there).latest past.0 past.1 past.2)) in
              let p = turn.part in
              let q = m.asks.turn.part in
              let same : i ≡ seat = one-view layout (map (λ (y : View). y.parts) a.views) h.rule.processors.processors i seat p.0 q.0 u.parts v.parts p.1 q.1
              (at_map (λ (y : View). y.parts) a.views i u view) (at_map (λ (y : View). y.parts) a.views seat v m.me) p.2 q.2 (p.3.0 ∙ earlier.0 ∙ sym q.3.0) in
              let one : u ≡ v = same_Some u v (sym view ∙ ap (slice_get a.views) same ∙ m.me) in
              let mine : slice_get v.parts p.0 ≡ Some p.1 = subst (λ (y : View). slice_get y.parts p.0 ≡ Some p.1) one p.2 in
              let late : p.1.latest ≤ x.entry.who.seq = p.3.1 in
              let before : x.entry.who.seq < r.who.seq = earlier.1 in
              let none : v.bodies ≡ [] = m.asks.begins p.0 p.1 mine (p.3.0 ∙ earlier.0) (omega (arith, late, before)) in
              none-some c (sym (ap (λ (l : List InHand). slice_get l k) none) ∙ subst (λ (y : View). slice_get y.bodies k ≡ Some c) one there)

      pub not-going : ⊥
      not-going = which (sum_by (of_home (weigh counts)) a.homes) (sum_all (λ (c : InHand). weigh counts c.log) homes_bodies) refl refl some_
        where
          own : tests x.entry ≡ true
          own = and_from (is_ending layout process x.entry.what) (is_same x.entry.who x.entry.who) ends (same-self x.entry.who x.entry.who refl)

          some_ : 1 ≤ sum_by (of_home (weigh counts)) a.homes + sum_all (λ (c : InHand). weigh counts c.log) homes_bodies
          some_ =
              let balance : sum_bodies (weigh counts) a.homes homes_bodies ≡ sum_by (λ (y : List Made × List Sight). sum_by (λ (z : Made). counts z.page z.place z.entry) y.0) (map (λ (y : View). (y.made, y.sights)) a.views) = h.rule.histories.entries.balance counts in
              let mine : from_bool (tests x.entry) ≤ sum_by (λ (z : Made). counts z.page z.place z.entry) v.made = term-le (λ (z : Made). counts z.page z.place z.entry) v.made j x listed in
              let theirs : sum_by (λ (z : Made). counts z.page z.place z.entry) v.made ≤ sum_by (λ (y : List Made × List Sight). sum_by (λ (z : Made). counts z.page z.place z.entry) y.0) (map (λ (y : View). (y.made, y.sights)) a.views)
              = term-le (λ (y : List Made × List Sight). sum_by (λ (z : Made). counts z.page z.place z.entry) y.0) (map (λ (y : View). (y.made, y.sights)) a.views) seat (v.made, v.sights) (at_map (λ (y : View). (y.made, y.sights)) a.views seat v m.me) in
              let one : from_bool (tests x.entry) ≡ 1 = ap from_bool own in
              omega (arith, balance, mine, theirs, one)

          which : (n k : ℕ) → sum_by (of_home (weigh counts)) a.homes ≡ n → sum_all (λ (c : InHand). weigh counts c.log) homes_bodies ≡ k → 1 ≤ sum_by (of_home (weigh counts)) a.homes + sum_all (λ (c : InHand). weigh counts c.log) homes_bodies → ⊥
          which (suc n) k first second more = let home = some-term (of_home (weigh counts)) a.homes (omega (arith, first)) in at-home home.0 home.1 home.2 home.3
          which zero k first second more =
              let list = some-term (sum_by (λ (c : InHand). weigh counts c.log)) homes_bodies (let hands : sum_by (sum_by (λ (c : InHand). weigh counts c.log)) homes_bodies ≡ k = second in omega (arith, first, second, more)) in
              let body = some-term (λ (c : InHand). weigh counts c.log) list.1 list.3 in
              let was = map-was (λ (y : View). y.bodies) a.views list.0 list.1 list.2 in
              in-hand list.0 body.0 was.0 body.1 was.1 (ap (λ (l : List InHand). slice_get l body.0) was.2 ∙ body.2) body.3
