-- Where nothing is in hand, the histories are the entries that views list, each at its place.
use Rattle.std.proofs.Common.{◌≡◌, ◌≢◌, ℕ, zero, suc, ◌+◌, ◌<◌, ◌≤◌, ◌==◌, ◌&&◌, ◌⊎◌, Bool, true, false, List, [], ◌∷◌, Option, Some, None, length, map, slice_get, refl, sym, ap, ◌∙◌, subst, arith, inl, inr}
use Rattle.std.specs.List.{sum_by}
use Rattle.std.specs.Int.{from_bool}
use Rattle.std.proofs.lemmas.Bool.{and_from, and_parts, eq-eqb, eqb-true}
use Rattle.std.proofs.lemmas.Option.{none-some, same_Some}
use Rattle.hwp_law.specs.hwp_geom.declared.Layout.{Layout}
use Rattle.hwp_law.specs.hwp_geom.declared.Page.{Page}
use Rattle.hwp_law.specs.hwp_page.declared.Entry.{Entry}
use Rattle.hwp_plain.specs.hwp_core_rule.declared.InHand.{InHand}
use Rattle.hwp_plain.specs.hwp_core_rule.declared.Log.{Log}
use Rattle.hwp_plain.specs.hwp_core_rule.declared.Made.{Made}
use Rattle.hwp_plain.specs.hwp_core_rule.declared.Sight.{Sight}
use Rattle.hwp_plain.specs.hwp_core_rule.declared.State.{State}
use Rattle.hwp_plain.specs.hwp_core_rule.declared.View.{View}
use Rattle.hwp_plain.specs.hwp_core_rule.Lists.{EachMember, SomeMember, of_home, sum_all, sum_bodies}
use Rattle.hwp_plain.specs.hwp_core_rule.Rule.{Holds, holder_of}
use Rattle.hwp_plain.specs.hwp_core_rule.parts.Bodies.{Holder}
use Rattle.hwp_plain.specs.hwp_core_rule.parts.Entries.{weigh, weigh_from}
use Rattle.hwp_plain.proofs.of_hwp_core_rule.CountsBelow.{some-term}
use Rattle.hwp_plain.proofs.of_hwp_core_rule.Lists.{each-map, same-or, sum-map, sum-zero, term-le, terms-le}
use Rattle.hwp_law_served.proofs.SameEntries.{same_entry, same_entry-is, same_entry-self}

-- ---- what a function says of a history

weigh-le : (f : Page → ℕ → Entry → ℕ) (page : Page) (place : ℕ) (es : List Entry) (k n : ℕ) (e : Entry) → slice_get es k ≡ Some e → n ≡ place + k → f page n e ≤ weigh_from f page place es
weigh-le f page place [] k n e there at = absurd (none-some e there)
weigh-le f page place (x ∷ xs) zero n e there at =
    let same : f page n e ≡ f page place x = ap (λ (i : ℕ). f page i e) (let is : n ≡ place = omega arith in is) ∙ ap (f page place) (sym (same_Some x e there)) in
    omega arith
weigh-le f page place (x ∷ xs) (suc k) n e there at =
    let rest : f page n e ≤ weigh_from f page (suc place) xs = weigh-le f page (suc place) xs k n e there (omega arith) in
    omega arith

-- where it is above 0, some entry is above 0
pub record Weighs (f : Page → ℕ → Entry → ℕ) (page : Page) (place : ℕ) (es : List Entry) : Type 0 where
  pub k : ℕ
  pub entry : Entry
  pub there : slice_get es k ≡ Some entry
  pub above : 0 < f page (place + k) entry

weigh-some : (f : Page → ℕ → Entry → ℕ) (page : Page) (place : ℕ) (es : List Entry) → 0 < weigh_from f page place es → Weighs f page place es
weigh-some f page place [] above = absurd (omega arith)
weigh-some f page place (x ∷ xs) above = which (λ more. weigh-some f page (suc place) xs more) (f page place x) refl
  where
    which : (0 < weigh_from f page (suc place) xs → Weighs f page (suc place) xs) → (n : ℕ) → f page place x ≡ n → Weighs f page place (x ∷ xs)
    which later zero none =
        let rest = later (omega arith) in
        record { k = suc rest.k; entry = rest.entry; there = rest.there; above = subst (λ (i : ℕ). 0 < f page i rest.entry) (omega arith) rest.above }
    which later (suc n) some = record { k = zero; entry = x; there = refl; above = subst (λ (i : ℕ). 0 < f page i x) (omega arith) (let above : 0 < f page place x = omega arith in above) }

-- ---- one entry at one place

-- 1 for this entry at this place, and 0 for all others
abbrev is_there : Page → ℕ → Entry → Page → ℕ → Entry → ℕ
is_there page place e p n x = from_bool ((p.0 == page.0) && ((n == place) && same_entry x e))

there-one : (page : Page) (place : ℕ) (e : Entry) → is_there page place e page place e ≡ 1
there-one page place e = ap from_bool (and_from (page.0 == page.0) ((place == place) && same_entry e e) (eq-eqb page.0 page.0 refl) (and_from (place == place) (same_entry e e) (eq-eqb place place refl) (same_entry-self e)))

pub record IsThat (page : Page) (place : ℕ) (e : Entry) (p : Page) (n : ℕ) (x : Entry) : Type 0 where
  pub page_is : p ≡ page
  pub place_is : n ≡ place
  pub entry_is : x ≡ e

there-is : (page : Page) (place : ℕ) (e : Entry) (p : Page) (n : ℕ) (x : Entry) → 0 < is_there page place e p n x → IsThat page place e p n x
there-is page place e p n x above =
    let both = and_parts (p.0 == page.0) ((n == place) && same_entry x e) (was-true _ above) in
    let rest = and_parts (n == place) (same_entry x e) both.1 in
    record { page_is = ap (λ (q : ℕ). record { 0 = q }) (eqb-true p.0 page.0 both.0); place_is = eqb-true n place rest.0; entry_is = same_entry-is x e rest.1 }
  where
    was-true : (b : Bool) → 0 < from_bool b → b ≡ true
    was-true true above = refl
    was-true false above = absurd (omega (arith, above))

-- ---- boards where no seat has a body in hand

module _ (layout : Layout) (s : State) (h : Holds layout s) (empty : EachMember (λ (v : View). v.bodies ≡ []) s.views) where
  pub no-bodies : (f : Log → ℕ) → sum_all (λ (b : InHand). f b.log) (map (λ (v : View). v.bodies) s.views) ≡ 0
  no-bodies f = sum-zero (sum_by (λ (b : InHand). f b.log)) (map (λ (v : View). v.bodies) s.views)
      (each-map (λ (v : View). v.bodies) (λ (l : List InHand). sum_by (λ (b : InHand). f b.log) l ≡ 0) s.views (λ i v there. ap (sum_by (λ (b : InHand). f b.log)) (empty i v there)))

  -- what is summed over the bodies at home is summed over what the views made
  pub balanced : (f : Page → ℕ → Entry → ℕ) → sum_by (of_home (weigh f)) s.homes ≡ sum_by (λ (v : View). sum_by (λ (m : Made). f m.page m.place m.entry) v.made) s.views
  balanced f =
      let all = h.rule.histories.entries.balance f in
      let none : sum_all (λ (b : InHand). weigh f b.log) (map (λ (v : View). v.bodies) s.views) ≡ 0 = no-bodies (weigh f) in
      let mapped : sum_by (λ (v : List Made × List Sight). sum_by (λ (m : Made). f m.page m.place m.entry) v.0) (map (λ (v : View). (v.made, v.sights)) s.views) ≡ sum_by (λ (v : View). sum_by (λ (m : Made). f m.page m.place m.entry) v.made) s.views
      = sum-map (λ (v : List Made × List Sight). sum_by (λ (m : Made). f m.page m.place m.entry) v.0) (λ (v : View). (v.made, v.sights)) s.views in
      omega arith

  -- each entry of a history is listed as made, at its place, by some view
  pub entry-made : (slot : ℕ) (log : Log) (k : ℕ) (e : Entry) → slice_get s.homes slot ≡ Some (Some (Some log)) → slice_get log.entries k ≡ Some e
      → SomeMember (λ (v : View). SomeMember (λ (m : Made). IsThat log.page k e m.page m.place m.entry) v.made) s.views
  entry-made slot log k e home there =
      let one : is_there log.page k e log.page k e ≡ 1 = there-one log.page k e in
      let here : is_there log.page k e log.page k e ≤ weigh (is_there log.page k e) log = weigh-le (is_there log.page k e) log.page 0 log.entries k k e there (omega arith) in
      let home_le : weigh (is_there log.page k e) log ≤ sum_by (of_home (weigh (is_there log.page k e))) s.homes = term-le (of_home (weigh (is_there log.page k e))) s.homes slot (Some (Some log)) home in
      let same : sum_by (of_home (weigh (is_there log.page k e))) s.homes ≡ sum_by (λ (v : View). sum_by (λ (m : Made). is_there log.page k e m.page m.place m.entry) v.made) s.views = balanced (is_there log.page k e) in
      let view = some-term (λ (v : View). sum_by (λ (m : Made). is_there log.page k e m.page m.place m.entry) v.made) s.views (omega arith) in
      let made = some-term (λ (m : Made). is_there log.page k e m.page m.place m.entry) view.1.made view.3 in
      (view.0, view.1, view.2, (made.0, made.1, made.2, there-is log.page k e made.1.page made.1.place made.1.entry made.3))

  -- each entry that a view lists as made stands at its place, in a body at home
  pub made-stands : (i j : ℕ) (v : View) (m : Made) → slice_get s.views i ≡ Some v → slice_get v.made j ≡ Some m
      → (slot : ℕ) × (log : Log) × (slice_get s.homes slot ≡ Some (Some (Some log))) × (log.page ≡ m.page) × (slice_get log.entries m.place ≡ Some m.entry)
  made-stands i j v m view made =
      let f : Page → ℕ → Entry → ℕ = is_there m.page m.place m.entry in
      let one : f m.page m.place m.entry ≡ 1 = there-one m.page m.place m.entry in
      let here : f m.page m.place m.entry ≤ sum_by (λ (x : Made). f x.page x.place x.entry) v.made = term-le (λ (x : Made). f x.page x.place x.entry) v.made j m made in
      let mine : sum_by (λ (x : Made). f x.page x.place x.entry) v.made ≤ sum_by (λ (u : View). sum_by (λ (x : Made). f x.page x.place x.entry) u.made) s.views
      = term-le (λ (u : View). sum_by (λ (x : Made). f x.page x.place x.entry) u.made) s.views i v view in
      let same : sum_by (of_home (weigh f)) s.homes ≡ sum_by (λ (u : View). sum_by (λ (x : Made). f x.page x.place x.entry) u.made) s.views = balanced f in
      let home = some-term (of_home (weigh f)) s.homes (omega arith) in
      at-home home.0 home.1 home.2 home.3
    where
      at-home : (slot : ℕ) (content : Option (Option Log)) → slice_get s.homes slot ≡ Some content → 0 < of_home (weigh (is_there m.page m.place m.entry)) content
          → (slot : ℕ) × (log : Log) × (slice_get s.homes slot ≡ Some (Some (Some log))) × (log.page ≡ m.page) × (slice_get log.entries m.place ≡ Some m.entry)
      at-home slot None there above = absurd (omega (arith, above))
      at-home slot (Some None) there above = absurd (omega (arith, above))
      at-home slot (Some (Some log)) there above =
          let w = weigh-some (is_there m.page m.place m.entry) log.page 0 log.entries above in
          let is = there-is m.page m.place m.entry log.page (0 + w.k) w.entry w.above in
          let at : w.k ≡ m.place = (let place : 0 + w.k ≡ m.place = is.place_is in omega arith) in
          (slot, log, there, is.page_is, sym (ap (slice_get log.entries) at) ∙ w.there ∙ ap (λ (x : Entry). Some x) is.entry_is)

  -- a page has one body at home
  pub one-body : (i j : ℕ) (a b : Log) → a.page.0 < length layout.pages → slice_get s.homes i ≡ Some (Some (Some a)) → slice_get s.homes j ≡ Some (Some (Some b)) → a.page ≡ b.page → i ≡ j
  one-body i j a b within first second same =
      let f : Log → ℕ = λ (log : Log). from_bool (log.page.0 == a.page.0) in
      let one : sum_bodies f s.homes (map (λ (x : Holder). x.bodies) (map holder_of s.views)) ≡ 1 = h.rule.pages.bodies.one a.page.0 within in
      let at_a : f a ≡ 1 = ap from_bool (eq-eqb a.page.0 a.page.0 refl) in
      let at_b : f b ≡ 1 = ap from_bool (eq-eqb b.page.0 a.page.0 (ap (λ (p : Page). p.0) (sym same))) in
      elim (same_or_not i j) [
        | inl is ↦ is
        | inr differs ↦
            let both : f a + f b ≤ sum_by (of_home f) s.homes = terms-le (of_home f) s.homes i j (Some (Some a)) (Some (Some b)) differs first second in
            let home : sum_by (of_home f) s.homes ≤ 1 = omega (arith, one) in
            absurd (omega arith)
      ]
    where
      same_or_not : (n m : ℕ) → (n ≡ m) ⊎ (n ≢ m)
      same_or_not = same-or
