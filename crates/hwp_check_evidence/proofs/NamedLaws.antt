-- A command is flagged exactly where no line of it names one of its entries that has to be named.
use Rattle.std.proofs.Common.{◌≡◌, ◌⊎◌, inl, inr, ℕ, zero, suc, ◌+◌, ◌<◌, ◌==◌, ◌&&◌, not, Bool, true, false, cond, List, [], ◌∷◌, Option, Some, None, get_or, set, replicate, length, slice_get, refl, sym, ap, ◌∙◌, subst, true≢false, arith}
use Rattle.std.proofs.lemmas.Bool.{cases_eq, eq-eqb, eqb-true}
use Rattle.std.proofs.lemmas.List.{get_or-set_same, get_or-set_other, get_or-replicate, length-replicate, length-set}
use Rattle.std.proofs.lemmas.Option.{none-some, same_Some}
use Rattle.hwp_law.specs.hwp_geom.declared.Cpu.{Cpu}
use Rattle.hwp_law.specs.hwp_geom.declared.Page.{Page}
use Rattle.hwp_law.specs.hwp_geom.declared.Who.{Who}
use Rattle.hwp_law.specs.hwp_page.declared.At.{At}
use Rattle.hwp_law.specs.hwp_page.declared.Entry.{Entry}
use Rattle.hwp_law.specs.Copies.{must_be_named}
use Rattle.hwp_check_evidence.specs.Firsts.{is_at}
use Rattle.hwp_check_evidence.specs.Named.{HasOther, flagged, flagged_page, flagged_pages, is_other}
use Rattle.hwp_check_evidence.proofs.WindowLaws.{entry-is, is-entry}
use Rattle.hwp_law.specs.hwp_geom.declared.VSlot.{VSlot}

both : (a b : Bool) → (a && b) ≡ true → (a ≡ true) × (b ≡ true)
both true b e = (refl, e)
both false b e = absurd (true≢false (sym e))

and-true : (a b : Bool) → a ≡ true → b ≡ true → (a && b) ≡ true
and-true true b one other = other
and-true false b one other = absurd (true≢false (sym one))

not-false : (b : Bool) → (not b) ≡ true → b ≡ false
not-false true e = absurd (true≢false (sym e))
not-false false e = refl

same-at : (a b : At) → a.page.0 ≡ b.page.0 → a.entry ≡ b.entry → a ≡ b
same-at a b page entry = λ i. record { page = record { 0 = page i }; entry = entry i }

pub at-is : (named : Option At) (at : At) → is_at named at ≡ true → named ≡ Some at
at-is None at is = absurd (true≢false (sym is))
at-is (Some a) at is = let p = both (a.page.0 == at.page.0) (a.entry == at.entry) is in ap Some (same-at a at (eqb-true a.page.0 at.page.0 p.0) (eqb-true a.entry at.entry p.1))

pub named-at : (named : Option At) (at : At) → named ≡ Some at → is_at named at ≡ true
named-at None at is = absurd (none-some at is)
named-at (Some a) at is =
    let same : a ≡ at = same_Some _ _ is in
    and-true (a.page.0 == at.page.0) (a.entry == at.entry) (eq-eqb a.page.0 at.page.0 (ap (λ (x : At). x.page.0) same)) (eq-eqb a.entry at.entry (ap (λ (x : At). x.entry) same))

module _ (named : ℕ → At → Bool) (copies : Who → Option VSlot) (cpu : Cpu) (seq : ℕ) where
  -- the entry at the place flags the command
  record Flags (at : At) (e : Entry) : Type 0 where
    own_cpu : e.who.cpu.0 ≡ cpu.0
    own_seq : e.who.seq ≡ seq
    answering : must_be_named (copies e.who) e.what ≡ true
    other : named seq at ≡ false

  flags-is : (at : At) (e : Entry) → is_other named copies cpu at e ≡ true → e.who.seq ≡ seq → Flags at e
  flags-is at e is own =
      let p = both ((e.who.cpu.0 == cpu.0) && must_be_named (copies e.who) e.what) (not (named e.who.seq at)) is in
      let q = both (e.who.cpu.0 == cpu.0) (must_be_named (copies e.who) e.what) p.0 in
      record {
        own_cpu = eqb-true e.who.cpu.0 cpu.0 q.0;
        own_seq = own;
        answering = q.1;
        other = ap (λ (n : ℕ). named n at) (sym own) ∙ not-false (named e.who.seq at) p.1;
      }

  is-flags : (at : At) (e : Entry) → Flags at e → is_other named copies cpu at e ≡ true
  is-flags at e f =
      and-true ((e.who.cpu.0 == cpu.0) && must_be_named (copies e.who) e.what) (not (named e.who.seq at))
      (and-true (e.who.cpu.0 == cpu.0) (must_be_named (copies e.who) e.what) (eq-eqb e.who.cpu.0 cpu.0 f.own_cpu) f.answering)
      (ap not (ap (λ (n : ℕ). named n at) f.own_seq ∙ f.other))

  abbrev IsSet : List Bool → Type 0
  IsSet flags = get_or flags seq false ≡ true

  flagged-many : (flags : List Bool) (at : At) (e : Entry) → length (flagged named copies cpu flags at e) ≡ length flags
  flagged-many flags at e = which (is_other named copies cpu at e)
    where
      which : (b : Bool) → length (cond b (set flags e.who.seq true) flags) ≡ length flags
      which true = length-set flags e.who.seq true
      which false = refl

  set-flagged : (flags : List Bool) (at : At) (e : Entry) → IsSet (flagged named copies cpu flags at e) → (IsSet flags) ⊎ Flags at e
  set-flagged flags at e is = which (is_other named copies cpu at e) refl is
    where
      which : (b : Bool) → is_other named copies cpu at e ≡ b → IsSet (cond b (set flags e.who.seq true) flags) → (IsSet flags) ⊎ Flags at e
      which true here s = elim (cases_eq seq e.who.seq) [
        | inl own ↦ inr (flags-is at e here (sym own))
        | inr other ↦ inl (sym (get_or-set_other flags e.who.seq seq true false other) ∙ s)
      ]
      which false here s = inl s

  old-flagged : (flags : List Bool) (at : At) (e : Entry) → seq < length flags → IsSet flags → IsSet (flagged named copies cpu flags at e)
  old-flagged flags at e inside is = which (is_other named copies cpu at e)
    where
      which : (b : Bool) → IsSet (cond b (set flags e.who.seq true) flags)
      which true = elim (cases_eq seq e.who.seq) [
        | inl own ↦ subst (λ (n : ℕ). get_or (set flags n true) seq false ≡ true) own (get_or-set_same flags seq true false inside)
        | inr other ↦ get_or-set_other flags e.who.seq seq true false other ∙ is
      ]
      which false = is

  new-flagged : (flags : List Bool) (at : At) (e : Entry) → seq < length flags → Flags at e → IsSet (flagged named copies cpu flags at e)
  new-flagged flags at e inside f =
      subst (λ (b : Bool). IsSet (cond b (set flags e.who.seq true) flags)) (sym (is-flags at e f))
      (subst (λ (n : ℕ). get_or (set flags n true) seq false ≡ true) (sym f.own_seq) (get_or-set_same flags seq true false inside))

  inside-flagged : (flags : List Bool) (at : At) (e : Entry) → seq < length flags → seq < length (flagged named copies cpu flags at e)
  inside-flagged flags at e inside = subst (λ (m : ℕ). seq < m) (sym (flagged-many flags at e)) inside

  -- some entry of a page does, of those from a number on
  record HasFlag (page : Page) (n : ℕ) (list : List Entry) : Type 0 where
    i : ℕ
    e : Entry
    there : slice_get list i ≡ Some e
    flags : Flags (record { page = page; entry = n + i }) e

  page-many : (page : Page) (list : List Entry) (n : ℕ) (flags : List Bool) → length (flagged_page named copies cpu page flags n list) ≡ length flags
  page-many page [] n flags = refl
  page-many page (e ∷ rest) n flags = page-many page rest (n + 1) (flagged named copies cpu flags (record { page = page; entry = n }) e) ∙ flagged-many flags (record { page = page; entry = n }) e

  page-flagged : (page : Page) (list : List Entry) (n : ℕ) (flags : List Bool) → IsSet (flagged_page named copies cpu page flags n list) → (IsSet flags) ⊎ HasFlag page n list
  page-flagged page [] n flags is = inl is
  page-flagged page (x ∷ rest) n flags is = elim (page-flagged page rest (n + 1) (flagged named copies cpu flags (record { page = page; entry = n }) x) is) [
    | inl first ↦ elim (set-flagged flags (record { page = page; entry = n }) x first) [
      | inl old ↦ inl old
      | inr new ↦ inr (record { i = 0; e = x; there = refl; flags = subst (λ (m : ℕ). Flags (record { page = page; entry = m }) x) (let z : n ≡ n + 0 = omega arith in z) new })
    ]
    | inr later ↦ inr (record { i = suc later.i; e = later.e; there = later.there; flags = subst (λ (m : ℕ). Flags (record { page = page; entry = m }) later.e) (let z : n + 1 + later.i ≡ n + suc later.i = omega arith in z) later.flags })
  ]

  old-page : (page : Page) (list : List Entry) (n : ℕ) (flags : List Bool) → seq < length flags → IsSet flags → IsSet (flagged_page named copies cpu page flags n list)
  old-page page [] n flags inside is = is
  old-page page (x ∷ rest) n flags inside is =
      old-page page rest (n + 1) (flagged named copies cpu flags (record { page = page; entry = n }) x) (inside-flagged flags (record { page = page; entry = n }) x inside) (old-flagged flags (record { page = page; entry = n }) x inside is)

  new-page : (page : Page) (list : List Entry) (n : ℕ) (flags : List Bool) (i : ℕ) (e : Entry) → seq < length flags → slice_get list i ≡ Some e → Flags (record { page = page; entry = n + i }) e → IsSet (flagged_page named copies cpu page flags n list)
  new-page page [] n flags i e inside there f = absurd (none-some e there)
  new-page page (x ∷ rest) n flags zero e inside there f =
      let here : Flags (record { page = page; entry = n }) x =
      subst (λ (m : ℕ). Flags (record { page = page; entry = m }) x) (let z : n + 0 ≡ n = omega arith in z) (subst (Flags (record { page = page; entry = n + 0 })) (sym (same_Some _ _ there)) f) in
      old-page page rest (n + 1) (flagged named copies cpu flags (record { page = page; entry = n }) x) (inside-flagged flags (record { page = page; entry = n }) x inside) (new-flagged flags (record { page = page; entry = n }) x inside here)
  new-page page (x ∷ rest) n flags (suc i) e inside there f =
      new-page page rest (n + 1) (flagged named copies cpu flags (record { page = page; entry = n }) x) i e (inside-flagged flags (record { page = page; entry = n }) x inside) there
      (subst (λ (m : ℕ). Flags (record { page = page; entry = m }) e) (let z : n + suc i ≡ n + 1 + i = omega arith in z) f)

  -- some entry of pages does
  record HasFlagIn (n : ℕ) (pages : List (List Entry)) : Type 0 where
    p : ℕ
    list : List Entry
    at : slice_get pages p ≡ Some list
    flag : HasFlag (record { 0 = n + p }) 0 list

  pages-flagged : (pages : List (List Entry)) (n : ℕ) (flags : List Bool) → IsSet (flagged_pages named copies cpu flags n pages) → (IsSet flags) ⊎ HasFlagIn n pages
  pages-flagged [] n flags is = inl is
  pages-flagged (x ∷ rest) n flags is = elim (pages-flagged rest (n + 1) (flagged_page named copies cpu (record { 0 = n }) flags 0 x) is) [
    | inl first ↦ elim (page-flagged (record { 0 = n }) x 0 flags first) [
      | inl old ↦ inl old
      | inr new ↦ inr (record { p = 0; list = x; at = refl; flag = subst (λ (m : ℕ). HasFlag (record { 0 = m }) 0 x) (let z : n ≡ n + 0 = omega arith in z) new })
    ]
    | inr later ↦ inr (record { p = suc later.p; list = later.list; at = later.at; flag = subst (λ (m : ℕ). HasFlag (record { 0 = m }) 0 later.list) (let z : n + 1 + later.p ≡ n + suc later.p = omega arith in z) later.flag })
  ]

  inside-page : (page : Page) (list : List Entry) (flags : List Bool) → seq < length flags → seq < length (flagged_page named copies cpu page flags 0 list)
  inside-page page list flags inside = subst (λ (m : ℕ). seq < m) (sym (page-many page list 0 flags)) inside

  old-pages : (pages : List (List Entry)) (n : ℕ) (flags : List Bool) → seq < length flags → IsSet flags → IsSet (flagged_pages named copies cpu flags n pages)
  old-pages [] n flags inside is = is
  old-pages (x ∷ rest) n flags inside is = old-pages rest (n + 1) (flagged_page named copies cpu (record { 0 = n }) flags 0 x) (inside-page (record { 0 = n }) x flags inside) (old-page (record { 0 = n }) x 0 flags inside is)

  new-pages : (pages : List (List Entry)) (n : ℕ) (flags : List Bool) (p i : ℕ) (list : List Entry) (e : Entry) → seq < length flags → slice_get pages p ≡ Some list → slice_get list i ≡ Some e
      → Flags (record { page = record { 0 = n + p }; entry = i }) e → IsSet (flagged_pages named copies cpu flags n pages)
  new-pages [] n flags p i list e inside at there f = absurd (none-some list at)
  new-pages (x ∷ rest) n flags zero i list e inside at there f =
      let got : slice_get x i ≡ Some e = subst (λ (l : List Entry). slice_get l i ≡ Some e) (sym (same_Some _ _ at)) there in
      old-pages rest (n + 1) (flagged_page named copies cpu (record { 0 = n }) flags 0 x) (inside-page (record { 0 = n }) x flags inside)
      (new-page (record { 0 = n }) x 0 flags i e inside got (subst (λ (m : ℕ). Flags (record { page = record { 0 = n }; entry = m }) e) (let z : i ≡ 0 + i = omega arith in z) (subst (λ (m : ℕ). Flags (record { page = record { 0 = m }; entry = i }) e) (let z : n + 0 ≡ n = omega arith in z) f)))
  new-pages (x ∷ rest) n flags (suc p) i list e inside at there f =
      new-pages rest (n + 1) (flagged_page named copies cpu (record { 0 = n }) flags 0 x) p i list e (inside-page (record { 0 = n }) x flags inside) at there
      (subst (λ (m : ℕ). Flags (record { page = record { 0 = m }; entry = i }) e) (let z : n + suc p ≡ n + 1 + p = omega arith in z) f)

flagged-length : (named : ℕ → At → Bool) (copies : Who → Option VSlot) (cpu : Cpu) (pages : List (List Entry)) (n : ℕ) (flags : List Bool) → length (flagged_pages named copies cpu flags n pages) ≡ length flags
flagged-length named copies cpu [] n flags = refl
flagged-length named copies cpu (x ∷ rest) n flags = flagged-length named copies cpu rest (n + 1) (flagged_page named copies cpu (record { 0 = n }) flags 0 x) ∙ page-many named copies cpu 0 (record { 0 = n }) x 0 flags

pub others_many : (named : ℕ → At → Bool) (copies : Who → Option VSlot) (cpu : Cpu) (pages : List (List Entry)) (commands : ℕ) → length (flagged_pages named copies cpu (replicate commands false) 0 pages) ≡ commands
others_many named copies cpu pages commands = flagged-length named copies cpu pages 0 (replicate commands false) ∙ length-replicate {A = Bool} commands false

same-who : (a b : Who) → a.cpu.0 ≡ b.cpu.0 → a.seq ≡ b.seq → a ≡ b
same-who a b cpu seq = λ i. record { cpu = record { 0 = cpu i }; seq = seq i }

module _ (pages : List (List Entry)) (named : ℕ → At → Bool) (copies : Who → Option VSlot) (commands : ℕ) (who : Who) (inside : who.seq < commands) where
  abbrev none : List Bool
  none = replicate commands false

  within : who.seq < length (replicate commands false)
  within = subst (λ (m : ℕ). who.seq < m) (sym (length-replicate {A = Bool} commands false)) inside

  -- a flagged command has such an entry
  pub flagged-other : get_or (flagged_pages named copies who.cpu none 0 pages) who.seq false ≡ true → HasOther pages copies who (named who.seq)
  flagged-other is = elim (pages-flagged named copies who.cpu who.seq pages 0 none is) [
    | inl old ↦ absurd (true≢false (sym old ∙ get_or-replicate {A = Bool} commands who.seq false false inside))
    | inr f ↦ record {
      at = record { page = record { 0 = f.p }; entry = f.flag.i };
      entry = f.flag.e;
      there = entry-is pages (record { 0 = f.p }) f.flag.i f.list f.flag.e f.at f.flag.there;
      own = same-who f.flag.e.who who f.flag.flags.own_cpu f.flag.flags.own_seq;
      answering = subst (λ (w : Who). must_be_named (copies w) f.flag.e.what ≡ true) (same-who f.flag.e.who who f.flag.flags.own_cpu f.flag.flags.own_seq) f.flag.flags.answering;
      other = ap (named who.seq) (same-at (record { page = record { 0 = f.p }; entry = f.flag.i }) (record { page = record { 0 = 0 + f.p }; entry = 0 + f.flag.i }) (omega arith) (omega arith)) ∙ f.flag.flags.other;
    }
  ]

  pub other-flagged : HasOther pages copies who (named who.seq) → get_or (flagged_pages named copies who.cpu none 0 pages) who.seq false ≡ true
  other-flagged h =
      let f = is-entry pages h.at h.entry h.there in
      new-pages named copies who.cpu who.seq pages 0 none h.at.page.0 h.at.entry f.entries h.entry within f.page f.there (record {
        own_cpu = ap (λ (w : Who). w.cpu.0) h.own;
        own_seq = ap (λ (w : Who). w.seq) h.own;
        answering = subst (λ (w : Who). must_be_named (copies w) h.entry.what ≡ true) (sym h.own) h.answering;
        other = ap (named who.seq) (same-at (record { page = record { 0 = 0 + h.at.page.0 }; entry = h.at.entry }) h.at (omega arith) refl) ∙ h.other;
      })
