-- The entries of a command in a page of the report are those that its view lists of the page, in their order.
use Rattle.std.proofs.Common.{◌≡◌, ℕ, zero, suc, ◌+◌, ◌<◌, ◌==◌, Bool, true, false, cond, List, [], ◌∷◌, Option, Some, None, IsSomeAnd, filter, length, map, option_and_then, slice_get, slice_index_or, unwrap_or, refl, sym, ap, ◌∙◌, subst, arith, true≢false}
use Rattle.std.specs.List.{AllPairs}
use Rattle.std.specs.Option.{option_map_or}
use Rattle.std.proofs.lemmas.Bool.{eq-eqb, eqb-true}
use Rattle.std.proofs.lemmas.List.Kept.{AllPairs-filter}
use Rattle.std.proofs.lemmas.Option.{get_or_from_slice_get, none-some, same_Some, slice_get-get_or, slice_get_within}
use Rattle.hwp_law.specs.hwp_geom.declared.Cpu.{Cpu}
use Rattle.hwp_law.specs.hwp_geom.declared.Page.{Page}
use Rattle.hwp_law.specs.hwp_geom.declared.TransDecl.{TransDecl}
use Rattle.hwp_law.specs.hwp_geom.declared.VSlot.{VSlot}
use Rattle.hwp_law.specs.hwp_geom.declared.Who.{Who}
use Rattle.hwp_law.specs.hwp_page.declared.At.{At}
use Rattle.hwp_law.specs.hwp_page.declared.Entry.{Entry}
use Rattle.hwp_law.specs.hwp_page.declared.What.{What}
use Rattle.hwp_law.specs.hwp_page.Step.{IsOf}
use Rattle.hwp_plain.specs.hwp_core_rule.declared.Made.{Made}
use Rattle.hwp_plain.specs.hwp_core_rule.declared.State.{State}
use Rattle.hwp_plain.specs.hwp_core_rule.declared.View.{View}
use Rattle.hwp_plain.specs.hwp_core_rule.Boards.{view_of}
use Rattle.hwp_plain.specs.hwp_core_rule.Known.{deeds, is_by}
use Rattle.hwp_law.specs.hwp_script_words.declared.Script.{Script}
use Rattle.hwp_law.specs.hwp_report_text.declared.Report.{Report}
use Rattle.hwp_law.specs.Copies.{own_in}
use Rattle.hwp_law.specs.Lines.{is_same_command}
use Rattle.hwp_law.specs.Places.{entry_at}
use Rattle.hwp_law_served.proofs.Homes.{there-is}
use Rattle.hwp_law_served.proofs.Reported.{entry-listed, listed-entry, stands-in}
use Rattle.hwp_law_served.proofs.PoisonMarks.{same-who}
use Rattle.hwp_law_served.proofs.RunEnds.{IsEnd, filter-has, own-view}
use Rattle.hwp_law_served.proofs.Seen.{filter-is, listed-as-own}
use Rattle.hwp_law_served.proofs.marks.Marked.{same-self, turned}
use Rattle.hwp_law_served.proofs.copied.MadeOrder.{IsInOrder}

-- ---- lists

abbrev Rises : Made → Made → Type 0
Rises a b = a.page ≡ b.page → a.place < b.place

pairs-of : (l : List Made) → IsInOrder l → AllPairs Rises l
pairs-of l order i j d less within = order i j (slice_index_or l i d) (slice_index_or l j d) less (slice_get-get_or l i d (omega (arith, less, within))) (slice_get-get_or l j d within)

of-pairs : (l : List Made) → AllPairs Rises l → IsInOrder l
of-pairs l pairs i j a b less at_a at_b =
    let within : j < length l = slice_get_within l j b at_b in
    let first : slice_index_or l i a ≡ a = get_or_from_slice_get l i a a at_a in
    let second : slice_index_or l j a ≡ b = get_or_from_slice_get l j b a at_b in
    subst (Rises a) second (subst (λ (x : Made). Rises x (slice_index_or l j a)) first (pairs i j a less within))

-- what is left of them by a test still rises
pub order-filter : (test : Made → Bool) (l : List Made) → IsInOrder l → IsInOrder (filter test l)
order-filter test l order = of-pairs (filter test l) (AllPairs-filter Rises test l (pairs-of l order))

-- an entry of a list from this place on
record StandsFrom (test : Entry → Bool) (base : ℕ) (es : List Entry) (m : Made) : Type 0 where
  k : ℕ
  at : m.place ≡ base + k
  there : slice_get es k ≡ Some m.entry
  passes : test m.entry ≡ true

record IsListed (base k : ℕ) (ds : List Made) : Type 0 where
  i : ℕ
  made : Made
  there : slice_get ds i ≡ Some made
  at : made.place ≡ base + k

-- such members in their order are those of the list that pass
abbrev RiseIn : List Made → Type 0
RiseIn ds = (i j : ℕ) (a b : Made) → i < j → slice_get ds i ≡ Some a → slice_get ds j ≡ Some b → a.place < b.place

abbrev StandIn : (Entry → Bool) → ℕ → List Entry → List Made → Type 0
StandIn test base es ds = (i : ℕ) (m : Made) → slice_get ds i ≡ Some m → StandsFrom test base es m

abbrev AreAll : (Entry → Bool) → ℕ → List Entry → List Made → Type 0
AreAll test base es ds = (k : ℕ) (e : Entry) → slice_get es k ≡ Some e → test e ≡ true → IsListed base k ds

abbrev Picks : (Entry → Bool) → List Entry → Type 0
Picks test es = (base : ℕ) (ds : List Made) → RiseIn ds → StandIn test base es ds → AreAll test base es ds → filter test es ≡ map (λ (m : Made). m.entry) ds

pick-none : (test : Entry → Bool) → Picks test []
pick-none test base [] rises stands all = refl
pick-none test base (d ∷ ds) rises stands all = absurd (none-some d.entry (stands 0 d refl).there)

module _ (test : Entry → Bool) (e : Entry) (es : List Entry) (rest : Picks test es) (base : ℕ) where
  -- one more place
  shifted : (m : Made) (k : ℕ) → m.place ≡ base + k → slice_get (e ∷ es) k ≡ Some m.entry → test m.entry ≡ true → (k ≡ 0 → ⊥) → StandsFrom test (base + 1) es m
  shifted m zero at there passes some = absurd (some refl)
  shifted m (suc k) at there passes some = record { k = k; at = omega (arith, at); there = there; passes = passes }

  pick-out : (ds : List Made) → test e ≡ false → RiseIn ds → StandIn test base (e ∷ es) ds → AreAll test base (e ∷ es) ds → filter test (e ∷ es) ≡ map (λ (m : Made). m.entry) ds
  pick-out ds fails rises stands all =
      ap (λ (b : Bool). cond b (e ∷ filter test es) (filter test es)) fails
      ∙ rest (base + 1) ds rises
      (λ i m there. let s = stands i m there in shifted m s.k s.at s.there s.passes (λ none. true≢false (sym s.passes ∙ ap test (sym (same_Some e m.entry (sym (ap (slice_get (e ∷ es)) none) ∙ s.there))) ∙ fails)))
      (λ k x there passes. let l = all (suc k) x there passes in record { i = l.i; made = l.made; there = l.there; at = omega (arith, l.at) })

  -- the first is that of the first place
  at-first : (d : Made) (ds : List Made) → RiseIn (d ∷ ds) → StandIn test base (e ∷ es) (d ∷ ds) → (i : ℕ) (m : Made) → slice_get (d ∷ ds) i ≡ Some m → m.place ≡ base + 0 → d.place ≡ base + 0
  at-first d ds rises stands zero m there at = ap (λ (x : Made). x.place) (same_Some d m there) ∙ at
  at-first d ds rises stands (suc i) m there at =
      let s = stands 0 d refl in
      let low : d.place ≡ base + s.k = s.at in
      let less : d.place < m.place = rises 0 (suc i) d m (omega arith) refl there in
      absurd (omega (arith, at, low, less))

  later : (d : Made) (ds : List Made) → d.place ≡ base + 0 → (k i : ℕ) (m : Made) → slice_get (d ∷ ds) i ≡ Some m → m.place ≡ base + suc k → IsListed (base + 1) k ds
  later d ds first k zero m there at = let same : d.place ≡ m.place = ap (λ (x : Made). x.place) (same_Some d m there) in absurd (omega (arith, same, at, first))
  later d ds first k (suc i) m there at = record { i = i; made = m; there = there; at = omega (arith, at) }

  pick-in : (d : Made) (ds : List Made) → test e ≡ true → d.place ≡ base + 0 → RiseIn (d ∷ ds) → StandIn test base (e ∷ es) (d ∷ ds) → AreAll test base (e ∷ es) (d ∷ ds) → filter test (e ∷ es) ≡ map (λ (m : Made). m.entry) (d ∷ ds)
  pick-in d ds passes first rises stands all =
      let s = stands 0 d refl in
      let at : d.place ≡ base + s.k = s.at in
      let none : s.k ≡ 0 = omega (arith, at, first) in
      let same : e ≡ d.entry = same_Some e d.entry (sym (ap (slice_get (e ∷ es)) none) ∙ s.there) in
      ap (λ (b : Bool). cond b (e ∷ filter test es) (filter test es)) passes
      ∙ ap (λ (x : Entry). x ∷ filter test es) same
      ∙ ap (λ (l : List Entry). d.entry ∷ l) (rest (base + 1) ds (λ i j a b less at_a at_b. rises (suc i) (suc j) a b (omega (arith, less)) at_a at_b)
      (λ i m there. let t = stands (suc i) m there in shifted m t.k t.at t.there t.passes (λ zeroth. (let here : m.place ≡ base + t.k = t.at in let less : d.place < m.place = rises 0 (suc i) d m (omega arith) refl there in omega (arith, here, zeroth, less, first))))
      (λ k x there ok. let l = all (suc k) x there ok in later d ds first k l.i l.made l.there l.at))

  pick-one : (ds : List Made) (b : Bool) → test e ≡ b → RiseIn ds → StandIn test base (e ∷ es) ds → AreAll test base (e ∷ es) ds → filter test (e ∷ es) ≡ map (λ (m : Made). m.entry) ds
  pick-one ds false fails rises stands all = pick-out ds fails rises stands all
  pick-one [] true passes rises stands all = let l = all 0 e refl passes in absurd (none-some l.made l.there)
  pick-one (d ∷ ds) true passes rises stands all = let l = all 0 e refl passes in pick-in d ds passes (at-first d ds rises stands l.i l.made l.there l.at) rises stands all

picked : (test : Entry → Bool) (es : List Entry) → Picks test es
picked test [] = pick-none test
picked test (e ∷ es) = λ base ds rises stands all. pick-one test e es (picked test es) base ds (test e) refl rises stands all

-- ---- at the end of a run

-- those of the page
abbrev pub in_page : Page → List Made → List Made
in_page page made = filter (λ (m : Made). m.page.0 == page.0) made

module _ (script : Script) (copies : Who → Option VSlot) (seat : Cpu → ℕ) (last : State) (report : Report) (end : IsEnd script copies seat last report) (who : Who) (inside : who.cpu.0 < script.layout.cpus) where
  abbrev view : View
  view = view_of last (seat who.cpu)

  there_view : slice_get last.views (seat who.cpu) ≡ Some view
  there_view = end.seated.there who.cpu inside

  pub deeds-order : IsInOrder (deeds who view)
  deeds-order = order-filter (is_by who) view.made (end.ordered (seat who.cpu) view there_view).order

  module _ (page : Page) (es : List Entry) (history : slice_get report.pages page.0 ≡ Some es) where
    page-of : (i : ℕ) (m : Made) → slice_get (in_page page (deeds who view)) i ≡ Some m → m.page ≡ page
    page-of i m there = let found = filter-is (λ (x : Made). x.page.0 == page.0) (deeds who view) i m there in ap (λ (n : ℕ). record { 0 = n }) (eqb-true m.page.0 page.0 found.2)

    rises : (i j : ℕ) (a b : Made) → i < j → slice_get (in_page page (deeds who view)) i ≡ Some a → slice_get (in_page page (deeds who view)) j ≡ Some b → a.place < b.place
    rises i j a b less at_a at_b = order-filter (λ (x : Made). x.page.0 == page.0) (deeds who view) deeds-order i j a b less at_a at_b (page-of i a at_a ∙ sym (page-of j b at_b))

    stands : (i : ℕ) (m : Made) → slice_get (in_page page (deeds who view)) i ≡ Some m → StandsFrom (λ (e : Entry). is_same_command who e.who) 0 es m
    stands i m there =
        let found = filter-is (λ (x : Made). x.page.0 == page.0) (deeds who view) i m there in
        let own = listed-as-own view who found.0 m found.1 in
        let at = stands-in report.pages (record { page = m.page; entry = m.place }) m.entry (listed-entry script.layout last report end.board (seat who.cpu) own.0 view m there_view own.1) in
        let same : at.entries ≡ es = same_Some at.entries es (sym at.history ∙ ap (λ (p : Page). slice_get report.pages p.0) (page-of i m there) ∙ history) in
        record {
          k = m.place;
          at = omega arith;
          there = sym (ap (λ (l : List Entry). slice_get l m.place) same) ∙ at.there;
          passes = turned who m.entry.who ∙ same-self who m.entry.who own.2;
        }

    listed : (k : ℕ) (e : Entry) → slice_get es k ≡ Some e → is_same_command who e.who ≡ true → IsListed 0 k (in_page page (deeds who view))
    listed k e there passes =
        let is : entry_at report.pages (record { page = page; entry = k }) ≡ Some e = ap (λ (o : Option (List Entry)). option_and_then (λ (l : List Entry). slice_get l k) o) history ∙ there in
        let own_who : e.who ≡ who = same-who who e.who (sym (turned who e.who) ∙ passes) in
        let one = entry-listed script.layout last report end.board (record { page = page; entry = k }) e is in
        let made = one.3 in
        let that = made.3 in
        let its : made.1.entry.who ≡ who = ap (λ (x : Entry). x.who) that.entry_is ∙ own_who in
        let own = own-view script copies seat last report end one.0 one.1 made.1.entry.who one.2 ((end.board.holds.rule.processors.commands.own one.0 one.1 one.2).made made.0 made.1 made.2) in
        let same : one.1 ≡ view = own.1 ∙ ap (λ (w : Who). view_of last (seat w.cpu)) its in
        let first = filter-has (is_by who) view.made made.0 made.1 (sym (ap (λ (v : View). slice_get v.made made.0) same) ∙ made.2) (same-self who made.1.entry.who its) in
        let second = filter-has (λ (x : Made). x.page.0 == page.0) (deeds who view) first.0 made.1 first.1 (eq-eqb made.1.page.0 page.0 (ap (λ (p : Page). p.0) that.page_is)) in
        let place : made.1.place ≡ k = that.place_is in
        record { i = second.0; made = made.1; there = second.1; at = omega (arith, place) }

    pub entries-are : filter (λ (e : Entry). is_same_command who e.who) es ≡ map (λ (m : Made). m.entry) (in_page page (deeds who view))
    entries-are = picked (λ (e : Entry). is_same_command who e.who) es 0 (in_page page (deeds who view)) rises stands listed

  whats : (l : List Made) → map (λ (e : Entry). e.what) (map (λ (m : Made). m.entry) l) ≡ map (λ (m : Made). m.entry.what) l
  whats [] = refl
  whats (m ∷ ms) = ap (λ (l : List What). m.entry.what ∷ l) (whats ms)

  -- the entries of the command in the page of a translation
  pub own-deeds : (slot : VSlot) (page : Page) → page.0 < length script.layout.pages → IsOf script.layout page slot → own_in script.layout report who slot ≡ map (λ (m : Made). m.entry.what) (in_page page (deeds who view))
  own-deeds slot page within of = which (slice_get script.layout.trans slot.0) of
    where
      history : (es : List Entry) × (slice_get report.pages page.0 ≡ Some es)
      history = there-is report.pages page.0 (subst (λ (n : ℕ). page.0 < n) (sym end.board.pages_fit) within)

      which : (o : Option TransDecl) → IsSomeAnd o (λ (t : TransDecl). t.page ≡ page)
          → option_map_or (λ (v : TransDecl). map (λ (e : Entry). e.what) (filter (λ (e : Entry). is_same_command who e.who) (unwrap_or (slice_get report.pages v.page.0) []))) o [] ≡ map (λ (m : Made). m.entry.what) (in_page page (deeds who view))
      which None none = absurd none
      which (Some t) is =
          ap (λ (p : Page). map (λ (e : Entry). e.what) (filter (λ (e : Entry). is_same_command who e.who) (unwrap_or (slice_get report.pages p.0) []))) is
          ∙ ap (λ (o : Option (List Entry)). map (λ (e : Entry). e.what) (filter (λ (e : Entry). is_same_command who e.who) (unwrap_or o []))) history.1
          ∙ ap (map (λ (e : Entry). e.what)) (entries-are page history.0 history.1)
          ∙ whats (in_page page (deeds who view))
