-- The translations in use behind some entries are those of the last set that was kept, changed by the entries since.
use Rattle.std.proofs.Common.{◌≡◌, ◌≢◌, ◌↔◌, inl, inr, ℕ, ◌==◌, ◌<◌, ◌≤◌, ◌&&◌, ◌||◌, ◌+◌, ◌-◌, ◌*◌, ◌/◌, ◌%◌, not, Bool, false, cond, List, [], ◌∷◌, ◌++◌, Option, Some, IsTrue, drop, get_or, length, take, slice_get, unwrap_or, option_map, refl, sym, ap, ◌∙◌, subst, arith}
use Rattle.std.proofs.lemmas.Bool.{cases_Bool, eqb-false, eqb-true}
use Rattle.std.proofs.lemmas.List.{drop-take, length_push, take-append-drop, take-take}
use Rattle.std.proofs.lemmas.List.Sums.{fold-append, fold_more}
use Rattle.std.proofs.lemmas.Option.{get_or_from_slice_get, none-some, same_Some, slice_get_within}
use Rattle.std.specs.Cmp.{nat_cmp_total, unsigned_tied}
use Rattle.std.specs.FinSet as set
use Rattle.std.specs.Ordering.{nat_cmp}
use Rattle.hwp_law.specs.hwp_geom.Layout.{is_locked}
use Rattle.hwp_law.specs.hwp_geom.declared.Layout.{Layout}
use Rattle.hwp_law.specs.hwp_geom.declared.PageKind.{PageKind}
use Rattle.hwp_law.specs.hwp_geom.declared.PageKind.TheVariants.{Anon}
use Rattle.hwp_law.specs.hwp_geom.declared.VSlot.{VSlot}
use Rattle.hwp_law.specs.hwp_page.Actions.{acted}
use Rattle.hwp_law.specs.hwp_page.History.{state_after}
use Rattle.hwp_law.specs.hwp_page.Refusals.{IsUnused}
use Rattle.hwp_law.specs.hwp_page.Step.{after, opening_of}
use Rattle.hwp_law.specs.hwp_page.declared.At.{At}
use Rattle.hwp_law.specs.hwp_page.declared.Entry.{Entry}
use Rattle.hwp_law.specs.hwp_page.declared.Met.TheVariants.{Sigbus, Word}
use Rattle.hwp_law.specs.hwp_page.declared.PageState.{PageState}
use Rattle.hwp_law.specs.hwp_page.declared.Situation.{Situation}
use Rattle.hwp_law.specs.hwp_page.declared.Situation.TheVariants as situations
use Rattle.hwp_law.specs.hwp_page.declared.What.{What}
use Rattle.hwp_law.specs.hwp_page.declared.What.TheVariants as entries
use Rattle.hwp_law.specs.States.{HadState}
use Rattle.hwp_check_evidence.specs.declared.glances.PageGlances.{PageGlances}
use Rattle.hwp_check_evidence.specs.Glances.{AreGlances, AreKept, IsPage, is_left, kept_with, stride, used_at, used_behind, used_by, was_kept}
use Rattle.hwp_check_evidence.proofs.GlanceLaws.{not-true}
use Rattle.hwp_check_evidence.proofs.ListItems.{each-push, item_at}

abbrev Translations : Type 0
Translations = set.FinSet nat_cmp

-- what an entry makes of whether a translation is in use
acted-maps : (slot : VSlot) (s : PageState) (situation : Situation) → set.contains (acted s situation).maps slot.0 ≡ (is_left situation && set.contains s.maps slot.0)
acted-maps slot s situations.Free = refl
acted-maps slot s situations.Kernel = refl
acted-maps slot s situations.FileClean = set.contains-empty nat_cmp slot.0
acted-maps slot s situations.FileDirty = set.contains-empty nat_cmp slot.0
acted-maps slot s situations.AnonOnly = set.contains-empty nat_cmp slot.0
acted-maps slot s situations.SwapClean = set.contains-empty nat_cmp slot.0
acted-maps slot s situations.SwapDirty = set.contains-empty nat_cmp slot.0
acted-maps slot s situations.LockedClean = set.contains-empty nat_cmp slot.0
acted-maps slot s situations.LockedFile = set.contains-empty nat_cmp slot.0
acted-maps slot s situations.LockedAnon = set.contains-empty nat_cmp slot.0

after-maps : (slot : VSlot) (s : PageState) (what : What) → set.contains (after s what).maps slot.0 ≡ used_by slot (set.contains s.maps slot.0) what
after-maps slot s (entries.Load through line met) = refl
after-maps slot s (entries.Store through line (Word mask word)) = refl
after-maps slot s (entries.Store through line (Sigbus thread)) = refl
after-maps slot s entries.FaultIn = refl
after-maps slot s (entries.Map other) = set.contains-insert nat_cmp_total s.maps other.0 slot.0 ∙ ap (λ (b : Bool). b || set.contains s.maps slot.0) (unsigned_tied slot.0 other.0)
after-maps slot s (entries.Free other) = set.contains-remove nat_cmp_total s.maps other.0 slot.0 ∙ ap (λ (b : Bool). not b && set.contains s.maps slot.0) (unsigned_tied slot.0 other.0)
after-maps slot s entries.Drop = refl
after-maps slot s entries.Sync = refl
after-maps slot s entries.Out = set.contains-empty nat_cmp slot.0
after-maps slot s (entries.Mce through line mask) = refl
after-maps slot s (entries.Fail situation required seen signals) = acted-maps slot s situation
after-maps slot s entries.Soft = refl

used-behind : (slot : VSlot) (s : PageState) (es : List Entry) → used_behind slot (set.contains s.maps slot.0) es ≡ set.contains (state_after s es).maps slot.0
used-behind slot s [] = refl
used-behind slot s (e ∷ es) = ap (λ (b : Bool). used_behind slot b es) (sym (after-maps slot s e.what)) ∙ used-behind slot (after s e.what) es

-- the sets that are kept, with one entry more
abbrev step : PageState → Entry → PageState
step t e = after t e.what

pub none-kept : (s : PageState) (es : List Entry) → AreKept s es 0 []
none-kept s es = record { many = refl; each = λ k slots there. absurd (none-some slots there) }

module _ (s : PageState) (es : List Entry) where
  pub state-next : (count : ℕ) (e : Entry) → count < length es → e ≡ get_or es count e → after (state_after s (take count es)) e.what ≡ state_after s (take (count + 1) es)
  state-next count e within is = ap (λ (x : Entry). after (state_after s (take count es)) x.what) is ∙ sym (fold_more step s es count e within)

  module _ (count : ℕ) (kept : List Translations) (state : PageState) (are : AreKept s es count kept) (is : state ≡ state_after s (take (count + 1) es)) where
    same-kept : kept_with kept state.maps (count + 1) ≡ kept → (count + 1) / stride ≡ count / stride → AreKept s es (count + 1) (kept_with kept state.maps (count + 1))
    same-kept same lasts = subst (AreKept s es (count + 1)) (sym same) (record { many = are.many ∙ sym lasts; each = are.each })

    more-kept : kept_with kept state.maps (count + 1) ≡ kept ++ state.maps ∷ [] → (count / stride + 1) * stride ≡ count + 1 → (count + 1) / stride ≡ count / stride + 1
        → AreKept s es (count + 1) (kept_with kept state.maps (count + 1))
    more-kept same end more = subst (AreKept s es (count + 1)) (sym same) (record {
      many = length_push kept state.maps ∙ ap (λ (n : ℕ). n + 1) are.many ∙ sym more;
      each = each-push (λ (k : ℕ) (slots : Translations). slots ≡ (state_after s (take ((k + 1) * stride) es)).maps) kept state.maps are.each
          (ap (λ (t : PageState). t.maps) is ∙ ap (λ (n : ℕ). (state_after s (take n es)).maps) (sym end ∙ ap (λ (n : ℕ). (n + 1) * stride) (sym are.many)));
    })

    pub kept-next : AreKept s es (count + 1) (kept_with kept state.maps (count + 1))
    kept-next = elim (cases_Bool ((count + 1) % stride == 0)) [
      | inl whole ↦
          let none : (count + 1) % stride ≡ 0 = eqb-true _ _ whole in
          more-kept (ap (λ (b : Bool). cond b (kept ++ state.maps ∷ []) kept) whole) (omega (arith, none)) (omega (arith, none))
      | inr part ↦ same-kept (ap (λ (b : Bool). cond b (kept ++ state.maps ∷ []) kept) part) (let some : (count + 1) % stride ≢ 0 = eqb-false _ _ part in omega (arith, some))
    ]

-- whether a translation is in use behind so many entries
module _ (slot : VSlot) (s : PageState) (es : List Entry) (kept : List Translations) (are : AreKept s es (length es) kept) where
  -- set 0 is empty
  abbrev IsFrom : ℕ → Type 0
  IsFrom number = was_kept kept number slot ≡ set.contains (state_after s (take (number * stride) es)).maps slot.0

  module _ (empty : s.maps ≡ set.empty) where
    none-from : IsFrom 0
    none-from = sym (ap (λ (slots : Translations). set.contains slots slot.0) empty ∙ set.contains-empty nat_cmp slot.0)

    from-kept : (number : ℕ) → number * stride ≤ length es → IsFrom number
    from-kept number low = elim (cases_Bool (number == 0)) [
      | inl none ↦ subst IsFrom (sym (eqb-true number 0 none)) none-from
      | inr more ↦
          let some : number ≢ 0 = eqb-false number 0 more in
          let many : length kept ≡ length es / stride = are.many in
          let k = item_at kept (number - 1) (omega (arith, some, low, many)) in
          let back : number - 1 + 1 ≡ number = omega (arith, some) in
          ap (λ (b : Bool). cond b false (unwrap_or (option_map (λ (slots : Translations). set.contains slots slot.0) (slice_get kept (number - 1))) false)) more
          ∙ ap (λ (o : Option Translations). unwrap_or (option_map (λ (slots : Translations). set.contains slots slot.0) o) false) k.1
          ∙ ap (λ (slots : Translations). set.contains slots slot.0) (are.each (number - 1) k.0 k.1)
          ∙ ap (λ (n : ℕ). set.contains (state_after s (take (n * stride) es)).maps slot.0) back
    ]

    parts : (n m : ℕ) → n ≤ m → take n es ++ take (m - n) (drop n es) ≡ take m es
    parts n m low =
        let whole : n + (m - n) ≡ m = omega (arith, low) in
        ap (λ (xs : List Entry). take n es ++ xs) (sym (drop-take n (m - n) es) ∙ ap (λ (k : ℕ). drop n (take k es)) whole)
        ∙ ap (λ (xs : List Entry). xs ++ drop n (take m es)) (sym (take-take n m es low))
        ∙ take-append-drop n (take m es)

    pub used-is : (place : ℕ) → place ≤ length es → used_at kept es slot place ≡ set.contains (state_after s (take place es)).maps slot.0
    used-is place low =
        let from : ℕ = place / stride * stride in
        let below : from ≤ place = omega arith in
        ap (λ (b : Bool). used_behind slot b (take (place - from) (drop from es))) (from-kept (place / stride) (omega (arith, below, low)))
        ∙ used-behind slot (state_after s (take from es)) (take (place - from) (drop from es))
        ∙ ap (λ (t : PageState). set.contains t.maps slot.0) (sym (fold-append step s (take from es) (take (place - from) (drop from es))))
        ∙ ap (λ (xs : List Entry). set.contains (state_after s xs).maps slot.0) (parts from place below)

-- so it is of a page
module _ (layout : Layout) (pages : List (List Entry)) (all : List PageGlances) (are : AreGlances layout pages all) (at : At) (slot : VSlot) where
  pub unused-is : (page : PageGlances) (list : List Entry) (used : Bool) → slice_get all at.page.0 ≡ Some page → slice_get pages at.page.0 ≡ Some list → at.entry ≤ length list
      → used ≡ used_at page.maps.items list slot at.entry → IsTrue (not used) ↔ HadState layout pages at (IsUnused slot)
  unused-is page list used of_page of_list low is =
      let inside : at.page.0 < length pages = slice_get_within pages at.page.0 list of_list in
      let many : length layout.pages ≡ length pages = are.many in
      let k = item_at layout.pages at.page.0 (omega (arith, inside, many)) in
      let right : IsPage k.0 (is_locked layout at.page) list page = are.each at.page.0 k.0 list page k.1 of_list of_page in
      let same : used ≡ set.contains (state_after (opening_of k.0 (is_locked layout at.page)) (take at.entry list)).maps slot.0 =
      is ∙ used-is slot (opening_of k.0 (is_locked layout at.page)) list page.maps.items right.kept refl at.entry low in (
        λ unused. record { kind = k.0; entries = list; declared = k.1; there = of_list; within = low; had = sym same ∙ (not-true used).0 unused },
        λ h.
            let kind_is : h.kind ≡ k.0 = same_Some _ _ (sym h.declared ∙ k.1) in
            let list_is : h.entries ≡ list = same_Some _ _ (sym h.there ∙ of_list) in
            (not-true used).1 (same ∙ subst (λ (x : PageKind). IsUnused slot (state_after (opening_of x (is_locked layout at.page)) (take at.entry list))) kind_is
            (subst (λ (x : List Entry). IsUnused slot (state_after (opening_of h.kind (is_locked layout at.page)) (take at.entry x))) list_is h.had)),
      )

-- what is known of one page more
module _ (layout : Layout) (pages : List (List Entry)) where
  abbrev IsAt : ℕ → PageGlances → Type 0
  IsAt page found = (kind : PageKind) (entries : List Entry) → slice_get layout.pages page ≡ Some kind → slice_get pages page ≡ Some entries → IsPage kind (is_locked layout (record { 0 = page })) entries found

  pub pages-next : (all : List PageGlances) (n : ℕ) (list : List Entry) (found : PageGlances) → length all ≡ n → slice_get pages n ≡ Some list
      → IsPage (get_or layout.pages n Anon) (get_or layout.locked n false) list found
      → ((page : ℕ) (kind : PageKind) (entries : List Entry) (x : PageGlances) → slice_get layout.pages page ≡ Some kind → slice_get pages page ≡ Some entries → slice_get all page ≡ Some x → IsPage kind (is_locked layout (record { 0 = page })) entries x)
      → (page : ℕ) (kind : PageKind) (entries : List Entry) (x : PageGlances) → slice_get layout.pages page ≡ Some kind → slice_get pages page ≡ Some entries → slice_get (all ++ found ∷ []) page ≡ Some x → IsPage kind (is_locked layout (record { 0 = page })) entries x
  pages-next all n list found as_many there new old page kind entries x declared at got =
      each-push IsAt all found (λ i y of_all k es d t. old i k es y d t of_all) (subst (λ (m : ℕ). IsAt m found) (sym as_many) here) page x got kind entries declared at
    where
      here : IsAt n found
      here k es d t =
          subst (λ (z : PageKind). IsPage z (get_or layout.locked n false) es found) (get_or_from_slice_get layout.pages n k Anon d)
          (subst (λ (l : List Entry). IsPage (get_or layout.pages n Anon) (get_or layout.locked n false) l found) (same_Some _ _ (sym there ∙ t)) new)
