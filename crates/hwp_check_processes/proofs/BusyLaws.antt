-- A command is flagged exactly where it does something, or where it has a guest's line.
use Rattle.std.proofs.Common.{◌≡◌, ◌≢◌, inl, inr, ℕ, zero, suc, ◌<◌, ◌==◌, ◌||◌, Bool, true, false, cond, if◌then◌else◌, List, [], ◌∷◌, Option, Some, None, fold, get_or, length, option_and_then, replicate, slice_get, slice_set, unwrap_or, refl, sym, ap, ◌∙◌, subst, true≢false}
use Rattle.std.specs.List.{list_any}
use Rattle.std.proofs.lemmas.Bool.{cases_eq, eq-eqb, eqb-true, ne_eqb}
use Rattle.std.proofs.lemmas.List.{get_or-replicate, get_or-set_other, get_or-set_same, length-replicate, length-set}
use Rattle.std.proofs.lemmas.Option.{none-some, same_Some}
use Rattle.hwp_check_rules.specs.hwp_geom.declared.Cpu.{Cpu}
use Rattle.hwp_check_rules.specs.hwp_geom.declared.Who.{Who}
use Rattle.hwp_check_rules.specs.hwp_page.declared.At.{At}
use Rattle.hwp_check_rules.specs.hwp_page.declared.Entry.{Entry}
use Rattle.hwp_check_rules.specs.hwp_report_text.declared.CpuLine.{CpuLine}
use Rattle.hwp_check_rules.specs.hwp_report_text.declared.CpuLine.TheVariants as lines
use Rattle.hwp_check_rules.specs.hwp_report_text.declared.EventLine.{EventLine}
use Rattle.hwp_check_rules.specs.hwp_report_text.declared.Report.{Report}
use Rattle.hwp_check_rules.specs.hwp_law.Guests.{DoesNothing}
use Rattle.hwp_check_rules.specs.hwp_law.Lines.{events_among, events_of}
use Rattle.hwp_check_processes.specs.Busy.{busy_by, guest_by, guests_by, marked_by, marked_in, told_by}
use Rattle.hwp_check_processes.specs.Telling.{is_guest_of}

-- ---- what is flagged

abbrev is_some_event : List EventLine → Bool
is_some_event [] = false
is_some_event (x ∷ xs) = true

module _ (cpu : Cpu) (seq : ℕ) where
  abbrev who : Who
  who = record { cpu = cpu; seq = seq }

  abbrev at : List Bool → Bool
  at flags = get_or flags seq false

  set-own : (flags : List Bool) (n : ℕ) → seq < length flags → seq ≡ n → at (slice_set flags n true) ≡ true
  set-own flags n within same = subst (λ (k : ℕ). at (slice_set flags k true) ≡ true) same (get_or-set_same flags seq true false within)

  set-other : (flags : List Bool) (n : ℕ) → (seq ≡ n → ⊥) → at (slice_set flags n true) ≡ at flags
  set-other flags n other = get_or-set_other flags n seq true false other

  -- a flag that is set stays so
  set-stays : (flags : List Bool) (n : ℕ) → seq < length flags → at flags ≡ true → at (slice_set flags n true) ≡ true
  set-stays flags n within is = elim (cases_eq seq n) [ inl same ↦ set-own flags n within same | inr other ↦ set-other flags n other ∙ is ]

  many-marked : (flags : List Bool) (e : Entry) → length (marked_by cpu flags e) ≡ length flags
  many-marked flags e = by (e.who.cpu.0 == cpu.0)
    where
      by : (b : Bool) → length (if b then slice_set flags e.who.seq true else flags) ≡ length flags
      by true = length-set flags e.who.seq true
      by false = refl

  many-in : (flags : List Bool) (es : List Entry) → length (marked_in cpu flags es) ≡ length flags
  many-in flags [] = refl
  many-in flags (e ∷ es) = many-in (marked_by cpu flags e) es ∙ many-marked flags e

  many-pages : (flags : List Bool) (pages : List (List Entry)) → length (fold (marked_in cpu) flags pages) ≡ length flags
  many-pages flags [] = refl
  many-pages flags (p ∷ ps) = many-pages (marked_in cpu flags p) ps ∙ many-in flags p

  -- after an entry
  stays-marked : (flags : List Bool) (e : Entry) → seq < length flags → at flags ≡ true → at (marked_by cpu flags e) ≡ true
  stays-marked flags e within is = by (e.who.cpu.0 == cpu.0)
    where
      by : (b : Bool) → at (if b then slice_set flags e.who.seq true else flags) ≡ true
      by true = set-stays flags e.who.seq within is
      by false = is

  own-marked : (flags : List Bool) (e : Entry) → seq < length flags → e.who ≡ who → at (marked_by cpu flags e) ≡ true
  own-marked flags e within own =
      ap (λ (b : Bool). at (if b then slice_set flags e.who.seq true else flags)) (eq-eqb e.who.cpu.0 cpu.0 (ap (λ (w : Who). w.cpu.0) own)) ∙ set-own flags e.who.seq within (ap (λ (w : Who). w.seq) (sym own))

  other-marked : (flags : List Bool) (e : Entry) → e.who ≢ who → at (marked_by cpu flags e) ≡ at flags
  other-marked flags e other = by (e.who.cpu.0 == cpu.0) refl
    where
      by : (b : Bool) → (e.who.cpu.0 == cpu.0) ≡ b → at (if b then slice_set flags e.who.seq true else flags) ≡ at flags
      by true same = set-other flags e.who.seq (λ is. other (λ i. record { cpu = record { 0 = eqb-true e.who.cpu.0 cpu.0 same i }; seq = sym is i }))
      by false differs = refl

  -- after some entries
  stays-in : (flags : List Bool) (es : List Entry) → seq < length flags → at flags ≡ true → at (marked_in cpu flags es) ≡ true
  stays-in flags [] within is = is
  stays-in flags (e ∷ es) within is = stays-in (marked_by cpu flags e) es (subst (λ (n : ℕ). seq < n) (sym (many-marked flags e)) within) (stays-marked flags e within is)

  own-in : (flags : List Bool) (es : List Entry) (i : ℕ) (e : Entry) → seq < length flags → slice_get es i ≡ Some e → e.who ≡ who → at (marked_in cpu flags es) ≡ true
  own-in flags [] i e within there own = absurd (none-some e there)
  own-in flags (x ∷ es) zero e within there own =
      stays-in (marked_by cpu flags x) es (subst (λ (n : ℕ). seq < n) (sym (many-marked flags x)) within) (own-marked flags x within (ap (λ (y : Entry). y.who) (same_Some x e there) ∙ own))
  own-in flags (x ∷ es) (suc i) e within there own = own-in (marked_by cpu flags x) es i e (subst (λ (n : ℕ). seq < n) (sym (many-marked flags x)) within) there own

  other-in : (flags : List Bool) (es : List Entry) → ((i : ℕ) (e : Entry) → slice_get es i ≡ Some e → e.who ≢ who) → at (marked_in cpu flags es) ≡ at flags
  other-in flags [] none = refl
  other-in flags (e ∷ es) none = other-in (marked_by cpu flags e) es (λ i x there. none (suc i) x there) ∙ other-marked flags e (none 0 e refl)

  -- after some pages
  stays-pages : (flags : List Bool) (pages : List (List Entry)) → seq < length flags → at flags ≡ true → at (fold (marked_in cpu) flags pages) ≡ true
  stays-pages flags [] within is = is
  stays-pages flags (p ∷ ps) within is = stays-pages (marked_in cpu flags p) ps (subst (λ (n : ℕ). seq < n) (sym (many-in flags p)) within) (stays-in flags p within is)

  own-pages : (flags : List Bool) (pages : List (List Entry)) (page i : ℕ) (es : List Entry) (e : Entry) → seq < length flags → slice_get pages page ≡ Some es → slice_get es i ≡ Some e → e.who ≡ who
      → at (fold (marked_in cpu) flags pages) ≡ true
  own-pages flags [] page i es e within of there own = absurd (none-some es of)
  own-pages flags (p ∷ ps) zero i es e within of there own =
      stays-pages (marked_in cpu flags p) ps (subst (λ (n : ℕ). seq < n) (sym (many-in flags p)) within)
      (own-in flags p i e within (ap (λ (l : List Entry). slice_get l i) (same_Some p es of) ∙ there) own)
  own-pages flags (p ∷ ps) (suc page) i es e within of there own = own-pages (marked_in cpu flags p) ps page i es e (subst (λ (n : ℕ). seq < n) (sym (many-in flags p)) within) of there own

  other-pages : (flags : List Bool) (pages : List (List Entry)) → ((page i : ℕ) (es : List Entry) (e : Entry) → slice_get pages page ≡ Some es → slice_get es i ≡ Some e → e.who ≢ who) → at (fold (marked_in cpu) flags pages) ≡ at flags
  other-pages flags [] none = refl
  other-pages flags (p ∷ ps) none = other-pages (marked_in cpu flags p) ps (λ page i es e of there. none (suc page) i es e of there) ∙ other-in flags p (λ i e there. none 0 i p e refl there)

  -- after some lines
  stays-rows : (flags : List Bool) (rows : List CpuLine) → seq < length flags → at flags ≡ true → at (fold told_by flags rows) ≡ true
  stays-rows flags [] within is = is
  stays-rows flags (lines.Event event ∷ rs) within is =
      stays-rows (slice_set flags event.seq true) rs (subst (λ (n : ℕ). seq < n) (sym (length-set flags event.seq true)) within) (set-stays flags event.seq within is)
  stays-rows flags (lines.Offlined offlined ∷ rs) within is = stays-rows flags rs within is
  stays-rows flags (lines.Guest guest ∷ rs) within is = stays-rows flags rs within is
  stays-rows flags (lines.Answer s answer ∷ rs) within is = stays-rows flags rs within is

  abbrev among : Bool → EventLine → List CpuLine → List EventLine
  among own event rs = cond own (event ∷ events_among rs seq) (events_among rs seq)

  -- with an event line of the command it is set
  own-rows : (flags : List Bool) (rows : List CpuLine) → seq < length flags → events_among rows seq ≢ [] → at (fold told_by flags rows) ≡ true
  own-rows flags [] within some = absurd (some refl)
  own-rows flags (lines.Offlined offlined ∷ rs) within some = own-rows flags rs within some
  own-rows flags (lines.Guest guest ∷ rs) within some = own-rows flags rs within some
  own-rows flags (lines.Answer s answer ∷ rs) within some = own-rows flags rs within some
  own-rows flags (lines.Event event ∷ rs) within some = elim (cases_eq seq event.seq) [
    | inl same ↦ stays-rows (slice_set flags event.seq true) rs inside (set-own flags event.seq within same)
    | inr other ↦ own-rows (slice_set flags event.seq true) rs inside (λ none. some (ap (λ (b : Bool). among b event rs) (ne_eqb seq event.seq other) ∙ none))
  ]
    where
      inside : seq < length (slice_set flags event.seq true)
      inside = subst (λ (n : ℕ). seq < n) (sym (length-set flags event.seq true)) within

  -- without one it stays
  other-rows : (flags : List Bool) (rows : List CpuLine) → events_among rows seq ≡ [] → at (fold told_by flags rows) ≡ at flags
  other-rows flags [] none = refl
  other-rows flags (lines.Offlined offlined ∷ rs) none = other-rows flags rs none
  other-rows flags (lines.Guest guest ∷ rs) none = other-rows flags rs none
  other-rows flags (lines.Answer s answer ∷ rs) none = other-rows flags rs none
  other-rows flags (lines.Event event ∷ rs) none = elim (cases_eq seq event.seq) [
    | inl same ↦ absurd (true≢false (ap is_some_event (sym (ap (λ (b : Bool). among b event rs) (eq-eqb seq event.seq same)) ∙ none)))
    | inr other ↦ other-rows (slice_set flags event.seq true) rs (sym (ap (λ (b : Bool). among b event rs) (ne_eqb seq event.seq other)) ∙ none) ∙ set-other flags event.seq other
  ]

  -- the flags of guests' lines
  stays-guests : (flags : List Bool) (rows : List CpuLine) → seq < length flags → at flags ≡ true → at (fold guest_by flags rows) ≡ true
  stays-guests flags [] within is = is
  stays-guests flags (lines.Guest line ∷ rs) within is =
      stays-guests (slice_set flags line.seq true) rs (subst (λ (n : ℕ). seq < n) (sym (length-set flags line.seq true)) within) (set-stays flags line.seq within is)
  stays-guests flags (lines.Event event ∷ rs) within is = stays-guests flags rs within is
  stays-guests flags (lines.Offlined offlined ∷ rs) within is = stays-guests flags rs within is
  stays-guests flags (lines.Answer s answer ∷ rs) within is = stays-guests flags rs within is

  -- one is set exactly where the command has a guest's line
  guests-are : (flags : List Bool) (rows : List CpuLine) → seq < length flags → at flags ≡ false → at (fold guest_by flags rows) ≡ list_any (is_guest_of seq) rows
  guests-are flags [] within is = is
  guests-are flags (lines.Event event ∷ rs) within is = guests-are flags rs within is
  guests-are flags (lines.Offlined offlined ∷ rs) within is = guests-are flags rs within is
  guests-are flags (lines.Answer s answer ∷ rs) within is = guests-are flags rs within is
  guests-are flags (lines.Guest line ∷ rs) within is = elim (cases_eq seq line.seq) [
    | inl same ↦ stays-guests (slice_set flags line.seq true) rs inside (set-own flags line.seq within same) ∙ sym (ap (λ (b : Bool). b || list_any (is_guest_of seq) rs) (eq-eqb line.seq seq (sym same)))
    | inr other ↦
        guests-are (slice_set flags line.seq true) rs inside (set-other flags line.seq other ∙ is)
        ∙ sym (ap (λ (b : Bool). b || list_any (is_guest_of seq) rs) (ne_eqb line.seq seq (λ same. other (sym same))))
  ]
    where
      inside : seq < length (slice_set flags line.seq true)
      inside = subst (λ (n : ℕ). seq < n) (sym (length-set flags line.seq true)) within

  pub told-guests : (commands : ℕ) (rows : List CpuLine) → seq < commands → at (guests_by commands rows) ≡ list_any (is_guest_of seq) rows
  told-guests commands rows within =
      guests-are (replicate commands false) rows (subst (λ (n : ℕ). seq < n) (sym (length-replicate {A = Bool} commands false)) within) (get_or-replicate {A = Bool} commands seq false false within)

  -- ---- all of a report

  module _ (report : Report) (commands : ℕ) (rows : List CpuLine) (within : seq < commands) (of_report : slice_get report.cpus cpu.0 ≡ Some rows) where
    abbrev none-set : List Bool
    none-set = replicate commands false

    in-none : seq < length none-set
    in-none = subst (λ (n : ℕ). seq < n) (sym (length-replicate {A = Bool} commands false)) within

    abbrev of-pages : List Bool
    of-pages = fold (marked_in cpu) none-set report.pages

    in-pages : seq < length of-pages
    in-pages = subst (λ (n : ℕ). seq < n) (sym (many-pages none-set report.pages)) in-none

    told-are : events_of report who ≡ events_among rows seq
    told-are = ap (λ (o : Option (List CpuLine)). events_among (unwrap_or o []) seq) of_report

    pub idle-nothing : at (busy_by report cpu commands rows) ≡ false → DoesNothing report who
    idle-nothing idle = record {
      unmade = λ place e there own. unmade place e (slice_get report.pages place.page.0) refl there own;
      untold = told-are ∙ by (events_among rows seq) refl;
    }
      where
        unmade : (place : At) (e : Entry) (o : Option (List Entry)) → slice_get report.pages place.page.0 ≡ o → option_and_then (λ (es : List Entry). slice_get es place.entry) o ≡ Some e → e.who ≢ who
        unmade place e None of none own = none-some e none
        unmade place e (Some es) of there own =
            true≢false (sym (stays-rows of-pages rows in-pages (own-pages none-set report.pages place.page.0 place.entry es e in-none of there own)) ∙ idle)

        by : (l : List EventLine) → events_among rows seq ≡ l → l ≡ []
        by [] is = refl
        by (x ∷ xs) is = absurd (true≢false (sym (own-rows of-pages rows in-pages (λ none. true≢false (ap is_some_event (sym is ∙ none)))) ∙ idle))

    pub nothing-idle : DoesNothing report who → at (busy_by report cpu commands rows) ≡ false
    nothing-idle nothing =
        other-rows of-pages rows (sym told-are ∙ nothing.untold)
        ∙ other-pages none-set report.pages (λ page i es e of there. nothing.unmade (record { page = record { 0 = page }; entry = i }) e (ap (option_and_then (λ (l : List Entry). slice_get l i)) of ∙ there))
        ∙ get_or-replicate {A = Bool} commands seq false false within
