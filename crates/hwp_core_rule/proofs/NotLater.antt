-- No view lists a later command of the processor whose turn it is.
use Rattle.std.proofs.Common.{◌≡◌, ℕ, suc, zero, ◌+◌, ◌<◌, ◌≤◌, ◌==◌, ◌&&◌, nat_lt, eq-eqb, eqb-true, ltb-false, ltb-true, Bool, true, false, List, [], ◌∷◌, Some, map, slice_get, inl, inr, refl, sym, ap, ◌∙◌, subst, arith}
use Rattle.std.specs.Int.{from_bool}
use Rattle.std.specs.List.{sum_by}
use Rattle.std.proofs.lemmas.Option.{none-some, same_Some}
use Rattle.hwp_page.specs.hwp_geom.declared.Cpu.{Cpu}
use Rattle.hwp_page.specs.hwp_geom.declared.Layout.{Layout}
use Rattle.hwp_page.specs.hwp_geom.declared.Page.{Page}
use Rattle.hwp_page.specs.hwp_geom.declared.Who.{Who}
use Rattle.hwp_page.specs.declared.Entry.{Entry}
use Rattle.hwp_page.specs.Orders.{IsNotLater}
use Rattle.hwp_core_rule.specs.declared.log.Log.{Log}
use Rattle.hwp_core_rule.specs.declared.view.InHand.{InHand}
use Rattle.hwp_core_rule.specs.declared.view.Made.{Made}
use Rattle.hwp_core_rule.specs.declared.view.Part.{Part}
use Rattle.hwp_core_rule.specs.declared.view.Sight.{Sight}
use Rattle.hwp_core_rule.specs.declared.view.View.{View}
use Rattle.hwp_core_rule.specs.Asks.{IsTurnOf}
use Rattle.hwp_core_rule.specs.Lists.{Homes, EachBody, EachMember, of_home, sum_all, sum_bodies}
use Rattle.hwp_core_rule.specs.Rule.{FrameRule}
use Rattle.hwp_core_rule.specs.Words.{Words}
use Rattle.hwp_core_rule.specs.parts.Entries.{weigh, weigh_from}
use Rattle.hwp_core_rule.specs.parts.Holdings.{AreOwn, IsPast, ProcessorsApart}
use Rattle.hwp_core_rule.proofs.Lists.{same-or, at_map, map-was, term-le, terms-le, sum-zero}

-- a processor is part of one view, once
module _ (layout : Layout) (parts : List (List Part)) (apart : ProcessorsApart layout parts) (i j k l : ℕ) (a b : List Part) (p q : Part)
    (there : slice_get parts i ≡ Some a) (here : slice_get parts j ≡ Some b) (listed : slice_get a k ≡ Some p) (noted : slice_get b l ≡ Some q) (same : p.cpu ≡ q.cpu) where
  abbrev count : Part → ℕ
  count x = from_bool (x.cpu.0 == q.cpu.0)

  once : sum_by (sum_by count) parts ≡ 1
  once = apart.one q.cpu.0 (apart.declared j b here l q noted)

  first : count p ≡ 1
  first = ap from_bool (eq-eqb p.cpu.0 q.cpu.0 (ap (λ (c : Cpu). c.0) same))

  second : count q ≡ 1
  second = ap from_bool (eq-eqb q.cpu.0 q.cpu.0 refl)

  -- two views with a part of the same processor are one
  pub one-view : i ≡ j
  one-view =
      elim (same-or i j) [
        | inl views_same ↦ views_same
        | inr differ ↦
            let in_a : count p ≤ sum_by count a = term-le count a k p listed in
            let in_b : count q ≤ sum_by count b = term-le count b l q noted in
            let two : sum_by count a + sum_by count b ≤ sum_by (sum_by count) parts = terms-le (sum_by count) parts i j a b differ there here in
            absurd (omega (arith, once, first, second))
      ]

  same-list : slice_get b k ≡ Some p
  same-list = subst (λ (x : List Part). slice_get x k ≡ Some p) (same_Some a b (sym there ∙ ap (slice_get parts) one-view ∙ here)) listed

  -- and the parts are one
  one-part : p ≡ q
  one-part =
      elim (same-or k l) [
        | inl places_same ↦ same_Some p q (sym same-list ∙ ap (slice_get b) places_same ∙ noted)
        | inr differ ↦
            let two : count p + count q ≤ sum_by count b = terms-le count b k l p q differ same-list noted in
            let all : sum_by count b ≤ sum_by (sum_by count) parts = term-le (sum_by count) parts j b here in
            absurd (omega (arith, once, first, second))
      ]

module _ (layout : Layout) (w : Words) (homes : Homes) (views : List View) (seat : ℕ) (v : View) (who : Who) (me : slice_get views seat ≡ Some v) (turn : IsTurnOf v who) (h : FrameRule layout w homes views) where
  -- what a view has come to is of no later command
  pub not-later : (i : ℕ) (x : View) (other : Who) → slice_get views i ≡ Some x → IsPast x.parts other → IsNotLater other who
  not-later i x other there past same =
      let one : past.1 ≡ turn.part.1 = one-part layout (map (λ (v : View). v.parts) views) h.processors.processors i seat past.0 turn.part.0 x.parts v.parts past.1 turn.part.1
      (at_map (λ (v : View). v.parts) views i x there) (at_map (λ (v : View). v.parts) views seat v me) past.2 turn.part.2 (past.3.0 ∙ same ∙ sym turn.part.3.0) in
      let come : other.seq ≤ past.1.latest = past.3.1 in
      let latest : past.1.latest ≡ turn.part.1.latest = ap (λ (p : Part). p.latest) one in
      let now : turn.part.1.latest ≤ who.seq = turn.part.3.1 in
      omega arith

  abbrev is_later : Entry → ℕ
  is_later e = from_bool ((e.who.cpu.0 == who.cpu.0) && nat_lt who.seq e.who.seq)

  is-not-later : (e : Entry) → is_later e ≡ 0 → IsNotLater e.who who
  is-not-later e none same = which (nat_lt who.seq e.who.seq) refl
    where
      alike : (e.who.cpu.0 == who.cpu.0) ≡ true
      alike = eq-eqb e.who.cpu.0 who.cpu.0 (ap (λ (c : Cpu). c.0) same)

      which : (b : Bool) → nat_lt who.seq e.who.seq ≡ b → e.who.seq ≤ who.seq
      which false is = ltb-false who.seq e.who.seq is
      which true is =
          let one : is_later e ≡ 1 = ap (λ (b : Bool). from_bool (b && nat_lt who.seq e.who.seq)) alike ∙ ap (λ (b : Bool). from_bool (true && b)) is in
          absurd (omega (arith, one, none))

  was-not-later : (e : Entry) → IsNotLater e.who who → is_later e ≡ 0
  was-not-later e before = which (e.who.cpu.0 == who.cpu.0) (nat_lt who.seq e.who.seq) refl refl
    where
      which : (a b : Bool) → (e.who.cpu.0 == who.cpu.0) ≡ a → nat_lt who.seq e.who.seq ≡ b → from_bool (a && b) ≡ 0
      which false b is less = refl
      which true false is less = refl
      which true true is less =
          let below : e.who.seq ≤ who.seq = before (λ i. record { 0 = eqb-true e.who.cpu.0 who.cpu.0 is i }) in
          let above : who.seq < e.who.seq = ltb-true who.seq e.who.seq less in
          absurd (omega arith)

  none-made : sum_by (λ (x : List Made × List Sight). sum_by (λ (m : Made). is_later m.entry) x.0) (map (λ (v : View). (v.made, v.sights)) views) ≡ 0
  none-made = sum-zero (λ (x : List Made × List Sight). sum_by (λ (m : Made). is_later m.entry) x.0) (map (λ (v : View). (v.made, v.sights)) views) (λ i y is.
      let was : (x : View) × (slice_get views i ≡ Some x) × ((x.made, x.sights) ≡ y) = map-was (λ (v : View). (v.made, v.sights)) views i y is in
      let own : AreOwn was.0 = h.processors.commands.own i was.0 was.1 in
      subst (λ (z : List Made × List Sight). sum_by (λ (m : Made). is_later m.entry) z.0 ≡ 0) was.2
      (sum-zero (λ (m : Made). is_later m.entry) was.0.made (λ j m listed. was-not-later m.entry (not-later i was.0 m.entry.who was.1 (own.made j m listed)))))

  none-later : sum_bodies (weigh (λ (page : Page) (place : ℕ) (e : Entry). is_later e)) homes (map (λ (v : View). v.bodies) views) ≡ 0
  none-later = h.histories.entries.balance (λ (page : Page) (place : ℕ) (e : Entry). is_later e) ∙ none-made

  in-log : (page : Page) (place : ℕ) (es : List Entry) → weigh_from (λ (page : Page) (place : ℕ) (e : Entry). is_later e) page place es ≡ 0 → EachMember (λ (e : Entry). IsNotLater e.who who) es
  in-log page place [] none i e is = absurd (none-some e is)
  in-log page place (x ∷ xs) none zero e is = subst (λ (e : Entry). IsNotLater e.who who) (same_Some x e is) (is-not-later x (omega arith))
  in-log page place (x ∷ xs) none (suc i) e is = in-log page (suc place) xs (omega arith) i e is

  -- no entry of a body is of a later command
  pub entries-not-later : EachBody (λ (log : Log). EachMember (λ (e : Entry). IsNotLater e.who who) log.entries) homes (map (λ (v : View). v.bodies) views)
  entries-not-later = record {
    at_home = λ i log is.
        let one : weigh f log ≤ sum_by (of_home (weigh f)) homes = term-le (of_home (weigh f)) homes i (Some (Some log)) is in
        in-log log.page 0 log.entries (omega (arith, one, none-later));
    in_hand = λ i bodies is j b listed.
        let one : weigh f b.log ≤ sum_by (λ (b : InHand). weigh f b.log) bodies = term-le (λ (b : InHand). weigh f b.log) bodies j b listed in
        let all : sum_by (λ (b : InHand). weigh f b.log) bodies ≤ sum_all (λ (b : InHand). weigh f b.log) (map (λ (v : View). v.bodies) views) = term-le (sum_by (λ (b : InHand). weigh f b.log)) (map (λ (v : View). v.bodies) views) i bodies is in
        in-log b.log.page 0 b.log.entries (omega (arith, one, all, none-later));
  }
    where
      f : Page → ℕ → Entry → ℕ
      f page place e = is_later e
