-- What was to be seen of a page at a place tells which states it had there.
use Rattle.std.proofs.Common.{◌≡◌, ◌≢◌, ◌↔◌, ◌⊎◌, inl, inr, ℕ, zero, suc, ◌==◌, ◌<◌, ◌≤◌, ◌&&◌, ◌||◌, not, Bool, true, false, List, [], ◌∷◌, ◌++◌, ◌+◌, ◌-◌, Option, Some, None, MatchOption, IsTrue, append_assoc, drop, get_or, length, take, slice_get, option_and_then, refl, sym, ap, ◌∙◌, subst, true≢false, arith}
use Rattle.std.proofs.lemmas.Bool.{cases_Bool, cases_lt, eqb-true}
use Rattle.std.proofs.lemmas.List.{append-nil, at_drop_all, drop_more, length_push}
use Rattle.std.proofs.lemmas.Option.{none-some, same_Some, slice_get_within}
use Rattle.std.specs.Cmp.{nat_cmp_total}
use Rattle.std.specs.FinSet as set
use Rattle.std.specs.FinSet.{nat_cmp-IsAntisymmetric}
use Rattle.std.specs.Ordering.{nat_cmp}
use Rattle.std.specs.Prelude.{is_some}
use Rattle.std.specs.Option.{is_none}
use Rattle.hwp_law.specs.hwp_geom.Layout.{is_locked}
use Rattle.hwp_law.specs.hwp_geom.declared.Layout.{Layout}
use Rattle.hwp_law.specs.hwp_geom.declared.PageKind.{PageKind}
use Rattle.hwp_law.specs.hwp_geom.declared.VSlot.{VSlot}
use Rattle.hwp_law.specs.hwp_kill.Lowest.{HasNoneFrom, IsLowestFrom}
use Rattle.hwp_law.specs.hwp_page.History.{state_after}
use Rattle.hwp_law.specs.hwp_page.Refusals.{IsAway, IsDirty, IsLockedIn, IsMapped, IsUnsaved}
use Rattle.hwp_law.specs.hwp_page.Step.{after, opening_of}
use Rattle.hwp_law.specs.hwp_page.declared.At.{At}
use Rattle.hwp_law.specs.hwp_page.declared.Entry.{Entry}
use Rattle.hwp_law.specs.hwp_page.declared.PageState.{PageState}
use Rattle.hwp_law.specs.hwp_page.declared.What.TheVariants as entries
use Rattle.hwp_law.specs.States.{HadState}
use Rattle.hwp_law.proofs.PageLocks.{locked-stays}
use Rattle.hwp_check_evidence.specs.declared.glances.Glance.{Glance}
use Rattle.hwp_check_evidence.specs.declared.glances.PageGlances.{PageGlances}
use Rattle.hwp_check_evidence.specs.Glances.{AreGlances, IsPage, glance_at, glance_of, glances_from, is_held}
use Rattle.hwp_check_evidence.proofs.ListItems.{item_at}
use Rattle.hwp_check_evidence.proofs.RepeatLaws.{held-last}

glance-get : (s : PageState) (es : List Entry) (n : ℕ) → n ≤ length es → slice_get (glances_from s es) n ≡ Some (glance_of (state_after s (take n es)))
glance-get s [] zero low = refl
glance-get s [] (suc n) low = absurd (omega (arith, low))
glance-get s (e ∷ es) zero low = refl
glance-get s (e ∷ es) (suc n) low = glance-get (after s e.what) es n (omega (arith, low))

glance-past : (s : PageState) (es : List Entry) (n : ℕ) → length es < n → slice_get (glances_from s es) n ≡ None
glance-past s [] zero low = absurd (omega (arith, low))
glance-past s [] (suc n) low = refl
glance-past s (e ∷ es) zero low = absurd (omega (arith, low))
glance-past s (e ∷ es) (suc n) low = glance-past (after s e.what) es n (omega (arith, low))

-- behind the first one
abbrev pub later : PageState → List Entry → List Glance
later s [] = []
later s (e ∷ rest) = glances_from (after s e.what) rest

first-later : (s : PageState) (es : List Entry) → glance_of s ∷ later s es ≡ glances_from s es
first-later s [] = refl
first-later s (e ∷ rest) = refl

pub begins : (s : PageState) (es : List Entry) → ([] ++ glance_of s ∷ []) ++ later s es ≡ glances_from s es
begins s es = first-later s es

-- one entry more
pub goes-on : (list all : List Glance) (s : PageState) (e : Entry) (rest : List Entry) → list ++ later s (e ∷ rest) ≡ all
    → (list ++ glance_of (after s e.what) ∷ []) ++ later (after s e.what) rest ≡ all
goes-on list all s e rest so = append_assoc list (glance_of (after s e.what) ∷ []) (later (after s e.what) rest) ∙ ap (λ (l : List Glance). list ++ l) (first-later (after s e.what) rest) ∙ so

pub goes-on-at : (list all : List Glance) (s : PageState) (entries : List Entry) (n : ℕ) (e : Entry) → n < length entries → e ≡ get_or entries n e → list ++ later s (drop n entries) ≡ all
    → (list ++ glance_of (after s e.what) ∷ []) ++ later (after s e.what) (drop (n + 1) entries) ≡ all
goes-on-at list all s entries n e low there so = goes-on list all s e (drop (n + 1) entries) (ap (λ (es : List Entry). list ++ later s es) (sym cut) ∙ so)
  where
    cut : drop n entries ≡ e ∷ drop (n + 1) entries
    cut = drop_more entries n e low ∙ ap (λ (x : Entry). x ∷ drop (n + 1) entries) (sym there)

-- no entry is left
pub ends-at : (list all : List Glance) (s : PageState) (entries : List Entry) (n : ℕ) → length entries ≤ n → list ++ later s (drop n entries) ≡ all → list ≡ all
ends-at list all s entries n past so = sym (append-nil list) ∙ sym (at_drop_all (λ (es : List Entry). list ++ later s es) entries n past) ∙ so

pub last-pushed : (list : List Glance) (g : Glance) → slice_get (list ++ g ∷ []) (length (list ++ g ∷ []) - 1) ≡ Some g
last-pushed list g =
    let place : length (list ++ g ∷ []) - 1 ≡ length list = omega (arith, length_push list g) in
    ap (slice_get (list ++ g ∷ [])) place ∙ held-last list g

-- the state that was there
pub record StoodAt (layout : Layout) (pages : List (List Entry)) (at : At) (state : PageState) : Type 1 where
  pub locked : state.locked ≡ is_locked layout at.page
  pub had : (P : PageState → Type 0) → P state → HadState layout pages at P
  pub only : (P : PageState → Type 0) → HadState layout pages at P → P state

module _ (layout : Layout) (pages : List (List Entry)) (all : List PageGlances) (are : AreGlances layout pages all) (at : At) where
  page-there : (g : Glance) → glance_at all at ≡ Some g → (page : PageGlances) × (slice_get all at.page.0 ≡ Some page) × (slice_get page.glances at.entry ≡ Some g)
  page-there g is = by (slice_get all at.page.0) refl is
    where
      by : (o : Option PageGlances) → slice_get all at.page.0 ≡ o → option_and_then (λ (page : PageGlances). slice_get page.glances at.entry) o ≡ Some g
          → (page : PageGlances) × (slice_get all at.page.0 ≡ Some page) × (slice_get page.glances at.entry ≡ Some g)
      by None there got = absurd (none-some g got)
      by (Some page) there got = (page, there, got)

  abbrev locked : Bool
  locked = is_locked layout at.page

  in-page : (n : ℕ) (kind : PageKind) (list : List Entry) (g : Glance) → slice_get (glances_from (opening_of kind locked) list) n ≡ Some g
      → (n ≤ length list) × (g ≡ glance_of (state_after (opening_of kind locked) (take n list)))
  in-page n kind list g got = elim (cases_lt (length list) n) [
    | inl past ↦ absurd (none-some g (sym (glance-past (opening_of kind locked) list n past) ∙ got))
    | inr low ↦ (low, same_Some _ _ (sym got ∙ glance-get (opening_of kind locked) list n low))
  ]

  pub stood : (g : Glance) → glance_at all at ≡ Some g → (state : PageState) × (g ≡ glance_of state) × StoodAt layout pages at state
  stood g is =
      let l = page-there g is in
      let inside : at.page.0 < length all = slice_get_within all at.page.0 l.0 l.1 in
      let many : length layout.pages ≡ length pages = are.many in
      let as_many : length all ≡ length pages = are.as_many in
      let k = item_at layout.pages at.page.0 (omega (arith, inside, many, as_many)) in
      let e = item_at pages at.page.0 (omega (arith, inside, as_many)) in
      let page_is : IsPage k.0 locked e.0 l.0 = are.each at.page.0 k.0 e.0 l.0 k.1 e.1 l.1 in
      let p = in-page at.entry k.0 e.0 g (subst (λ (x : List Glance). slice_get x at.entry ≡ Some g) page_is.glances l.2) in
      let state : PageState = state_after (opening_of k.0 locked) (take at.entry e.0) in (
        state,
        p.1,
        record {
          locked = locked-stays (opening_of k.0 locked) (take at.entry e.0);
          had = λ P holds. record { kind = k.0; entries = e.0; declared = k.1; there = e.1; within = p.0; had = holds };
          only = λ P h.
              let kind_is : h.kind ≡ k.0 = same_Some _ _ (sym h.declared ∙ k.1) in
              let entries_are : h.entries ≡ e.0 = same_Some _ _ (sym h.there ∙ e.1) in
              subst (λ (x : PageKind). P (state_after (opening_of x locked) (take at.entry e.0))) kind_is
              (subst (λ (x : List Entry). P (state_after (opening_of h.kind locked) (take at.entry x))) entries_are h.had);
        },
      )

  pub never : (P : PageState → Type 0) → glance_at all at ≡ None → HadState layout pages at P → ⊥
  never P none h =
      let inside : at.page.0 < length pages = slice_get_within pages at.page.0 h.entries h.there in
      let as_many : length all ≡ length pages = are.as_many in
      let l = item_at all at.page.0 (omega (arith, inside, as_many)) in
      let page_is : IsPage h.kind locked h.entries l.0 = are.each at.page.0 h.kind h.entries l.0 h.declared h.there l.1 in
      let got : slice_get l.0.glances at.entry ≡ Some (glance_of (state_after (opening_of h.kind locked) (take at.entry h.entries))) =
      subst (λ (x : List Glance). slice_get x at.entry ≡ Some (glance_of (state_after (opening_of h.kind locked) (take at.entry h.entries)))) (sym page_is.glances) (glance-get (opening_of h.kind locked) h.entries at.entry h.within) in
      none-some _ (sym none ∙ ap (option_and_then (λ (x : PageGlances). slice_get x.glances at.entry)) l.1 ∙ got)

  -- a test of what was to be seen, and of whether the page is locked, decides what the state was
  pub had-by : (test : Glance → Bool → Bool) (P : PageState → Type 0) → ((s : PageState) → IsTrue (test (glance_of s) s.locked) ↔ P s)
      → (g : Glance) → glance_at all at ≡ Some g → IsTrue (test g locked) ↔ HadState layout pages at P
  had-by test P tells g is =
      let s = stood g is in
      let same : test g locked ≡ test (glance_of s.0) s.0.locked = ap (λ (x : Glance). test x locked) s.1 ∙ ap (test (glance_of s.0)) (sym s.2.locked) in (
        λ yes_it. s.2.had P ((tells s.0).0 (sym same ∙ yes_it)),
        λ h. same ∙ (tells s.0).1 (s.2.only P h),
      )

  pub had-never : (P : PageState → Type 0) → glance_at all at ≡ None → IsTrue false ↔ HadState layout pages at P
  had-never P none = (λ no_it. absurd (true≢false (sym no_it)), λ h. absurd (never P none h))

-- the tests
pub not-true : (b : Bool) → IsTrue (not b) ↔ (b ≡ false)
not-true true = (λ h. absurd (true≢false (sym h)), λ h. absurd (true≢false h))
not-true false = (λ h. refl, λ h. refl)

pub away-by : (s : PageState) → IsTrue (not (glance_of s).cached) ↔ IsAway s
away-by s = not-true s.cached

pub cached-by : (s : PageState) → IsTrue (glance_of s).cached ↔ (s.cached ≡ true)
cached-by s = (λ h. h, λ h. h)

unsaved-is : (dirty : Bool) (back : Option (List ℕ)) → (IsTrue (dirty || is_none back) → (dirty ≡ true) ⊎ (back ≡ None)) × ((dirty ≡ true) ⊎ (back ≡ None) → IsTrue (dirty || is_none back))
unsaved-is true back = (λ h. inl refl, λ h. refl)
unsaved-is false None = (λ h. inr refl, λ h. refl)
unsaved-is false (Some words) = (
  λ h. absurd (true≢false (sym h)),
  λ h. elim h [
    | inl dirty ↦ absurd (true≢false (sym dirty))
    | inr none ↦ absurd (none-some words (sym none))
  ],
)

both : (a b : Bool) → IsTrue (a && b) → IsTrue a × IsTrue b
both true b h = (refl, h)
both false b h = absurd (true≢false (sym h))

and-true : (a b : Bool) → IsTrue a → IsTrue b → IsTrue (a && b)
and-true true b one other = other
and-true false b one other = absurd (true≢false (sym one))

pub locked-by : (s : PageState) → IsTrue ((glance_of s).cached && s.locked) ↔ IsLockedIn s
locked-by s = (λ h. both s.cached s.locked h, λ h. and-true s.cached s.locked h.0 h.1)

pub dirty-by : (s : PageState) → IsTrue (((glance_of s).cached && (glance_of s).unsaved) && not s.locked) ↔ IsDirty s
dirty-by s = (
  λ h.
      let p = both (s.cached && (s.dirty || is_none s.back)) (not s.locked) h in
      let q = both s.cached (s.dirty || is_none s.back) p.0 in (q.0, (not-true s.locked).0 p.1, (unsaved-is s.dirty s.back).0 q.1),
  λ h. and-true (s.cached && (s.dirty || is_none s.back)) (not s.locked) (and-true s.cached (s.dirty || is_none s.back) h.0 ((unsaved-is s.dirty s.back).1 h.2)) ((not-true s.locked).1 h.1),
)

unsaved-by : (s : PageState) → (glance_of s).unsaved ≡ false → ¬ IsUnsaved s
unsaved-by s clean unsaved = true≢false (sym ((unsaved-is s.dirty s.back).1 unsaved) ∙ clean)

saved-by : (s : PageState) → ¬ IsUnsaved s → (glance_of s).unsaved ≡ false
saved-by s saved = which (glance_of s).unsaved refl
  where
    which : (b : Bool) → (glance_of s).unsaved ≡ b → b ≡ false
    which true is = absurd (saved ((unsaved-is s.dirty s.back).0 is))
    which false is = refl

-- a set has a member where it isn't the empty one
held-is : (slots : set.FinSet nat_cmp) → IsTrue (is_held slots) ↔ (slots ≢ set.empty)
held-is slots = (
  λ held none. true≢false (sym held ∙ ap is_held none ∙ ap (λ (n : ℕ). not (n == 0)) (set.len-empty nat_cmp)),
  λ some. elim (cases_Bool (set.len slots == 0)) [
    | inl zero_it ↦ absurd (some (set.empty_of_len slots (eqb-true (set.len slots) 0 zero_it)))
    | inr more ↦ ap not more
  ],
)

pub mapped-by : (s : PageState) → IsTrue (((glance_of s).cached && (not (glance_of s).unsaved && (glance_of s).mapped)) && not s.locked) ↔ IsMapped s
mapped-by s = (
  λ h.
      let p = both (s.cached && (not (glance_of s).unsaved && is_held s.maps)) (not s.locked) h in
      let q = both s.cached (not (glance_of s).unsaved && is_held s.maps) p.0 in
      let r = both (not (glance_of s).unsaved) (is_held s.maps) q.1 in
      (q.0, (not-true s.locked).0 p.1, unsaved-by s ((not-true (glance_of s).unsaved).0 r.0), (held-is s.maps).0 r.1),
  λ h.
      let saved = (not-true (glance_of s).unsaved).1 (saved-by s h.2) in
      and-true (s.cached && (not (glance_of s).unsaved && is_held s.maps)) (not s.locked)
      (and-true s.cached (not (glance_of s).unsaved && is_held s.maps) h.0 (and-true (not (glance_of s).unsaved) (is_held s.maps) saved ((held-is s.maps).1 h.3)))
      ((not-true s.locked).1 h.1),
)

empty-by : (slots : set.FinSet nat_cmp) → HasNoneFrom slots 0 → slots ≡ set.empty
empty-by slots none = set.same_set nat_cmp_total nat_cmp-IsAntisymmetric slots set.empty (λ v. none v (omega arith) ∙ sym (set.contains-empty nat_cmp v))

no-held : (slots : set.FinSet nat_cmp) → slots ≡ set.empty → is_held slots ≡ false
no-held slots none = ap is_held none ∙ ap (λ (n : ℕ). not (n == 0)) (set.len-empty nat_cmp)

-- a set has a member where one is found from 0 on
pub held-found : (slots : set.FinSet nat_cmp) (found : Option VSlot) (r : Bool)
    → MatchOption found (HasNoneFrom slots 0) (λ (v : VSlot). IsLowestFrom slots 0 v.0) → is_some found ≡ r → r ≡ is_held slots
held-found slots found r low is = sym is ∙ by found low
  where
    by : (o : Option VSlot) → MatchOption o (HasNoneFrom slots 0) (λ (v : VSlot). IsLowestFrom slots 0 v.0) → is_some o ≡ is_held slots
    by None none = sym (no-held slots (empty-by slots none))
    by (Some v) low_v = sym ((held-is slots).1 (λ none. true≢false (sym low_v.member ∙ ap (λ s. set.contains s v.0) none ∙ set.contains-empty nat_cmp v.0)))
