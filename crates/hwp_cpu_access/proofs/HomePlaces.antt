-- A page's history in a slot at home is longer than the place of each entry of the page that a view lists.
use Rattle.std.proofs.Common.{◌≡◌, ◌≢◌, ◌⊎◌, inl, inr, ℕ, suc, ◌+◌, ◌<◌, ◌≤◌, ◌==◌, nat_lt, Bool, true, false, cond, List, [], ◌∷◌, Option, Some, None, length, map, slice_get, refl, sym, ap, ◌∙◌, subst, arith}
use Rattle.std.specs.Int.{from_bool}
use Rattle.std.specs.List.{sum_by}
use Rattle.std.proofs.lemmas.Bool.{cases_lt, le-ltb, lt-ltb, ne_eqb}
use Rattle.std.proofs.lemmas.Option.{same_Some}
use Rattle.hwp_fault.specs.hwp_geom.declared.Layout.{Layout}
use Rattle.hwp_fault.specs.hwp_geom.declared.Page.{Page}
use Rattle.hwp_fault.specs.hwp_page.declared.Entry.{Entry}
use Rattle.hwp_fault.specs.hwp_core_rule.declared.InHand.{InHand}
use Rattle.hwp_fault.specs.hwp_core_rule.declared.Log.{Log}
use Rattle.hwp_fault.specs.hwp_core_rule.declared.Made.{Made}
use Rattle.hwp_fault.specs.hwp_core_rule.declared.Sight.{Sight}
use Rattle.hwp_fault.specs.hwp_core_rule.declared.State.{State}
use Rattle.hwp_fault.specs.hwp_core_rule.declared.View.{View}
use Rattle.hwp_fault.specs.hwp_core_rule.Lists.{EachMember, of_home, sum_all, sum_bodies}
use Rattle.hwp_fault.specs.hwp_core_rule.Rule.{Holds}
use Rattle.hwp_fault.specs.hwp_core_rule.SlotMoves.{IsIn}
use Rattle.hwp_fault.specs.hwp_core_rule.Words.{words_of}
use Rattle.hwp_fault.specs.hwp_core_rule.parts.Entries.{weigh, weigh_from}
use Rattle.hwp_fault.proofs.of_hwp_core_rule.BodySlots.{one-body}
use Rattle.hwp_fault.proofs.of_hwp_core_rule.Lists.{from_bool-same, same-number, same-or, sum-map, sum-zero, term-le, terms-le}

-- 1 for an entry of the page at the place or behind it, and 0 for any other
abbrev late : ℕ → ℕ → Page → ℕ → Entry → ℕ
late q n page place e = cond (page.0 == q) (cond (nat_lt place n) 0 1) 0

-- 1 for a history of the page, and 0 for any other
abbrev is_of : ℕ → Log → ℕ
is_of q log = from_bool (log.page.0 == q)

either-none : (b : Bool) → ◌≡◌ {A = ℕ} (cond b 0 0) 0
either-none true = refl
either-none false = refl

-- an entry of another page is none
others-none : (q n : ℕ) (page : Page) (place : ℕ) (es : List Entry) → page.0 ≢ q → weigh_from (late q n) page place es ≡ 0
others-none q n page place [] differs = refl
others-none q n page place (e ∷ es) differs =
    let here : late q n page place e ≡ 0 = ap (λ (b : Bool). cond b (cond (nat_lt place n) 0 1) 0) (ne_eqb page.0 q differs) in
    let rest : weigh_from (late q n) page (suc place) es ≡ 0 = others-none q n page (suc place) es differs in
    omega (arith, here, rest)

-- an entry before the place is none
before-none : (q n : ℕ) (page : Page) (place : ℕ) (es : List Entry) → place + length es ≤ n → weigh_from (late q n) page place es ≡ 0
before-none q n page place [] few = refl
before-none q n page place (e ∷ es) few =
    let long : length (e ∷ es) ≡ suc (length es) = refl in
    let here : late q n page place e ≡ 0 = ap (λ (b : Bool). cond (page.0 == q) (cond b 0 1) 0) (lt-ltb place n (omega (arith, few, long))) ∙ either-none (page.0 == q) in
    let rest : weigh_from (late q n) page (suc place) es ≡ 0 = before-none q n page (suc place) es (omega (arith, few, long)) in
    omega (arith, here, rest)

module _ (layout : Layout) (s : State) (h : Holds layout s) (seat : ℕ) (view : View) (me : slice_get s.views seat ≡ Some view) (slot : ℕ) (log : Log) (there : IsIn s.homes slot (Some log)) (within : log.page.0 < length layout.pages) where
  abbrev q : ℕ
  q = log.page.0

  abbrev n : ℕ
  n = length log.entries

  abbrev bodies : List (List InHand)
  bodies = map (λ (v : View). v.bodies) s.views

  -- no other history is the page's
  one : sum_by (of_home (is_of q)) s.homes + sum_all (λ (b : InHand). is_of q b.log) bodies ≡ 1
  one = one-body layout (words_of layout s.words) s.homes s.views seat view me h.rule q within

  self : is_of q log ≡ 1
  self = from_bool-same log.page.0 q refl

  at-home : is_of q log ≤ sum_by (of_home (is_of q)) s.homes
  at-home = term-le (of_home (is_of q)) s.homes slot (Some (Some log)) there

  none-in : (x : Log) → (x.page.0 ≡ q → x ≡ log) → weigh (late q n) x ≡ 0
  none-in x only = which (same-or x.page.0 q)
    where
      which : (x.page.0 ≡ q) ⊎ (x.page.0 ≢ q) → weigh (late q n) x ≡ 0
      which (inl same) = subst (λ (y : Log). weigh (late q n) y ≡ 0) (sym (only same)) (before-none q n log.page 0 log.entries (omega arith))
      which (inr differs) = others-none q n x.page 0 x.entries differs

  -- none of the histories has an entry of the page at its end or behind it
  none-home : EachMember (λ (content : Option (Option Log)). of_home (weigh (late q n)) content ≡ 0) s.homes
  none-home i None at = refl
  none-home i (Some None) at = refl
  none-home i (Some (Some x)) at = none-in x (λ same. which (same-or i slot) same)
    where
      which : (i ≡ slot) ⊎ (i ≢ slot) → x.page.0 ≡ q → x ≡ log
      which (inl is) same = same_Some x log (same_Some (Some x) (Some log) (same_Some (Some (Some x)) (Some (Some log)) (sym at ∙ ap (slice_get s.homes) is ∙ there)))
      which (inr differs) same =
          let theirs : is_of q x ≡ 1 = from_bool-same x.page.0 q same in
          let two : is_of q x + is_of q log ≤ sum_by (of_home (is_of q)) s.homes = terms-le (of_home (is_of q)) s.homes i slot (Some (Some x)) (Some (Some log)) differs at there in
          absurd (omega (arith, one, self, theirs, two))

  none-in-hand : EachMember (λ (list : List InHand). sum_by (λ (b : InHand). weigh (late q n) b.log) list ≡ 0) bodies
  none-in-hand i list at = sum-zero (λ (b : InHand). weigh (late q n) b.log) list (λ j b held. none-in b.log (λ same.
      let theirs : is_of q b.log ≡ 1 = from_bool-same b.log.page.0 q same in
      let inner : is_of q b.log ≤ sum_by (λ (x : InHand). is_of q x.log) list = term-le (λ (x : InHand). is_of q x.log) list j b held in
      let outer : sum_by (λ (x : InHand). is_of q x.log) list ≤ sum_all (λ (x : InHand). is_of q x.log) bodies = term-le (sum_by (λ (x : InHand). is_of q x.log)) bodies i list at in
      absurd (omega (arith, one, self, at-home, theirs, inner, outer))))

  abbrev made_late : View → ℕ
  made_late v = sum_by (λ (m : Made). late q n m.page m.place m.entry) v.made

  -- so no view lists one
  none-listed : sum_by made_late s.views ≡ 0
  none-listed =
      let all : sum_bodies (weigh (late q n)) s.homes bodies ≡ sum_by (λ (x : List Made × List Sight). sum_by (λ (m : Made). late q n m.page m.place m.entry) x.0) (map (λ (v : View). (v.made, v.sights)) s.views) = h.rule.histories.entries.balance (late q n) in
      let mapped : sum_by (λ (x : List Made × List Sight). sum_by (λ (m : Made). late q n m.page m.place m.entry) x.0) (map (λ (v : View). (v.made, v.sights)) s.views) ≡ sum_by made_late s.views
      = sum-map (λ (x : List Made × List Sight). sum_by (λ (m : Made). late q n m.page m.place m.entry) x.0) (λ (v : View). (v.made, v.sights)) s.views in
      let home : sum_by (of_home (weigh (late q n))) s.homes ≡ 0 = sum-zero (of_home (weigh (late q n))) s.homes none-home in
      let hands : sum_all (λ (b : InHand). weigh (late q n) b.log) bodies ≡ 0 = sum-zero (sum_by (λ (b : InHand). weigh (late q n) b.log)) bodies none-in-hand in
      omega (arith, all, mapped, home, hands)

  pub stands-before : EachMember (λ (m : Made). m.page ≡ log.page → m.place < length log.entries) view.made
  stands-before j m listed same = which (cases_lt m.place n)
    where
      which : (m.place < n) ⊎ (n ≤ m.place) → m.place < n
      which (inl less) = less
      which (inr past) =
          let counts : late q n m.page m.place m.entry ≡ 1 = ap (λ (b : Bool). cond b (cond (nat_lt m.place n) 0 1) 0) (same-number m.page.0 q (ap (λ (p : Page). p.0) same)) ∙ ap (λ (b : Bool). cond b 0 1) (le-ltb m.place n past) in
          let mine : late q n m.page m.place m.entry ≤ made_late view = term-le (λ (x : Made). late q n x.page x.place x.entry) view.made j m listed in
          let every : made_late view ≤ sum_by made_late s.views = term-le made_late s.views seat view me in
          absurd (omega (arith, none-listed, counts, mine, every))
