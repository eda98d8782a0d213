-- A translation that is written keeps the frame rule.
use Rattle.std.proofs.Common.{◌≡◌, ◌≢◌, ◌⊎◌, ℕ, ◌+◌, ◌^◌, ◌<◌, ◌≤◌, ◌==◌, Bool, true, List, Some, None, option_map, set, length, slice_get, slice_index, slice_set, inl, inr, refl, sym, ap, ◌∙◌, subst, arith}
use Rattle.std.specs.Int.{from_bool}
use Rattle.std.proofs.lemmas.List.Elements.{All-get_or}
use Rattle.std.proofs.lemmas.Option.{same_Some, slice_get_within, get_or_from_slice_get}
use Rattle.hwp_page.specs.hwp_geom.declared.Frame.{Frame}
use Rattle.hwp_page.specs.hwp_geom.declared.Page.{Page}
use Rattle.hwp_page.specs.hwp_geom.declared.TransDecl.{TransDecl}
use Rattle.hwp_page.specs.hwp_geom.declared.VSlot.{VSlot}
use Rattle.hwp_words.specs.declared.Pte.{Pte}
use Rattle.hwp_words.specs.Translations.{pte_word}
use Rattle.hwp_core_rule.specs.declared.view.PageLock.{PageLock}
use Rattle.hwp_core_rule.specs.Asks.{HasPage, CanName, CanChange, frame_of}
use Rattle.hwp_core_rule.specs.Rule.{FrameRule}
use Rattle.hwp_core_rule.specs.Views.{frame_in}
use Rattle.hwp_core_rule.specs.parts.Counts.{named}
use Rattle.hwp_core_rule.specs.parts.Fits.{KnowsWords}
use Rattle.hwp_core_rule.specs.parts.Owners.{TranslationsOwned, NamesOwn}
use Rattle.hwp_core_rule.proofs.Keeps.{Keeps}
use Rattle.hwp_core_rule.proofs.Lists.{at_set, same-or, set_here, set_else}
use Rattle.hwp_core_rule.proofs.steps.NameSteps.{Names, names-name, names-poison, names-in, frame_in-name, named-set, page-knows, frames-few, names-own, fits-naming, keeps-naming}
use Rattle.hwp_core_rule.proofs.Refs.{hits}
use Rattle.hwp_core_rule.proofs.steps.PageLockLists.{caches-listed, bodies-listed}
use Rattle.hwp_core_rule.proofs.WordsByKind.{word-there}
use Rattle.hwp_words.specs.declared.Pte.TheVariants as ptes
use Rattle.hwp_core_rule.specs.declared.step.Step.TheVariants as steps

-- ---- the frame that an entry names

at-word : (frame : Frame) → pte_word (ptes.At frame) ≡ frame.0 + 1
at-word frame = omega arith

names-pte : (pte : Pte) → Names (pte_word pte) (frame_of pte)
names-pte ptes.Empty = names-name None
names-pte (ptes.At frame) = subst (λ (n : ℕ). Names n (Some frame)) (sym (at-word frame)) (names-name (Some frame))
names-pte ptes.Poison = names-poison

pte-name : (pte : Pte) → ((frame : Frame) → frame_of pte ≡ Some frame → frame.0 < 2 ^ 16) → frame_in (pte_word pte) ≡ frame_of pte
pte-name ptes.Empty fits = refl
pte-name (ptes.At frame) fits = ap frame_in (at-word frame) ∙ frame_in-name (Some frame) (fits frame refl)
pte-name ptes.Poison fits = refl

pub keeps-set_pte : (slot : VSlot) (pte : Pte) → Keeps (steps.SetPte slot pte)
keeps-set_pte slot pte layout w homes views seat v who content given =
    keeps-naming layout w homes views seat v page has given.sound given.shaped within me h test to (λ l. refl) trans w.caches (frame_in found) (frame_in (pte_word pte)) can words translations
    (caches-listed layout w homes views seat v me h test to (λ l. refl)) (bodies-listed layout w homes views seat v me h test to (λ l. refl))
    (fits-naming layout w homes views seat v page has given.sound given.shaped within me h test to (λ l. refl) trans w.caches refl (λ q differs. refl) other_words knows-now has.cache has.cache_is (set has.trans slot.0 (pte_word pte)) trans-now)
  where
    found : ℕ
    found = slice_index w.trans slot.0

    trans : List ℕ
    trans = set w.trans slot.0 (pte_word pte)

    me : slice_get views seat ≡ Some v
    me = given.me

    h : FrameRule layout w homes views
    h = given.rule

    decl : TransDecl
    decl = given.asks.decl

    page : Page
    page = given.asks.decl.page

    declared : slice_get layout.trans slot.0 ≡ Some decl
    declared = given.asks.declared

    has : HasPage v page
    has = given.asks.page_held

    within : page.0 < length layout.pages
    within = subst (λ (t : TransDecl). t.page.0 < length layout.pages) (get_or_from_slice_get layout.trans slot.0 decl decl declared)
        (All-get_or (λ (t : TransDecl). (t.process.0 < layout.procs) × (t.page.0 < length layout.pages)) layout.trans slot.0 decl given.place given.sound.trans_names).1

    there : slice_get w.trans slot.0 ≡ Some found
    there = word-there w.trans slot.0 (length layout.trans) given.shaped.trans given.place

    test : PageLock → Bool
    test l = true

    to : PageLock → PageLock
    to l = record l { trans = option_map (λ (ws : List ℕ). slice_set ws slot.0 (pte_word pte)) l.trans }

    knows : KnowsWords layout w.trans w.caches has.lock.lock
    knows = page-knows layout w homes views seat v page has given.sound given.shaped within me h

    -- the word is the one that the page's lock lists
    listed : given.asks.old ≡ found
    listed = same_Some given.asks.old found (sym given.asks.old_is ∙ knows.words has.trans has.trans_is slot.0 decl declared (sym has.lock.page_is) ∙ there)

    few-words : length w.frames ≤ 2 ^ 16
    few-words = frames-few layout w homes views seat v page has given.sound given.shaped within me h

    -- the frame that the entry leads to is the page's
    own : (frame : Frame) → CanName v page frame → NamesOwn w.frames page.0 (frame.0 + 1)
    own = names-own layout w homes views seat v page has given.sound given.shaped within me h

    named-now : frame_in (pte_word pte) ≡ frame_of pte
    named-now = pte-name pte (λ frame is.
        let names : NamesOwn w.frames page.0 (frame.0 + 1) = own frame (given.asks.frames.1 frame is) in
        let less : names.frame < length w.frames = slice_get_within w.frames names.frame names.owner_word names.there in
        let same : frame.0 + 1 ≡ names.frame + 1 = names.named in
        omega (arith, few-words))

    can : CanChange layout v page (frame_in found) (frame_in (pte_word pte))
    can = subst (CanChange layout v page (frame_in found)) (sym named-now) (subst (λ (n : ℕ). CanChange layout v page (frame_in n) (frame_of pte)) listed given.asks.frames)

    words : (f : ℕ) → f < 2 ^ 16 → named f trans + named f w.caches + hits f (frame_in found) ≡ named f w.trans + named f w.caches + hits f (frame_in (pte_word pte))
    words f less =
        let moved : named f trans + from_bool (found == f + 1) ≡ named f w.trans + from_bool (pte_word pte == f + 1) = named-set f w.trans slot.0 found (pte_word pte) there in
        let before : from_bool (found == f + 1) ≡ hits f (frame_in found) = names-in w.frames page.0 found few-words (h.pages.translations.owned slot.0 found decl there declared) f less in
        let after : from_bool (pte_word pte == f + 1) ≡ hits f (frame_in (pte_word pte)) = names-pte pte f less ∙ ap (hits f) (sym named-now) in
        omega arith

    now-owned : (p : Pte) → ((frame : Frame) → frame_of p ≡ Some frame → CanName v page frame) → (pte_word p ≡ 0) ⊎ ((pte_word p ≡ pte_word ptes.Poison) ⊎ NamesOwn w.frames page.0 (pte_word p))
    now-owned ptes.Empty names = inl refl
    now-owned (ptes.At frame) names = inr (inr (subst (NamesOwn w.frames page.0) (sym (at-word frame)) (own frame (names frame refl))))
    now-owned ptes.Poison names = inr (inl refl)

    translations : TranslationsOwned layout.trans w.frames trans
    translations = record {
      owned = λ s x t at is. elim (at_set w.trans slot.0 s (pte_word pte) x at) [
        | inl this ↦
            let same : decl ≡ t = same_Some decl t (sym declared ∙ ap (slice_get layout.trans) (sym this.0) ∙ is) in
            subst (λ (p : TransDecl × ℕ). (p.1 ≡ 0) ⊎ ((p.1 ≡ pte_word ptes.Poison) ⊎ NamesOwn w.frames p.0.page.0 p.1)) (λ i. (same i, this.1 i)) (now-owned pte given.asks.frames.1)
        | inr other ↦ h.pages.translations.owned s x t other.1 is
      ];
    }

    -- a translation of another page is another one
    other_words : (s : ℕ) (t : TransDecl) → slice_get layout.trans s ≡ Some t → t.page.0 ≢ page.0 → slice_get trans s ≡ slice_get w.trans s
    other_words s t is differs = set_else w.trans slot.0 s (pte_word pte)
        (λ this. differs (ap (λ (d : TransDecl). d.page.0) (same_Some t decl (sym is ∙ ap (slice_get layout.trans) this ∙ declared))))

    trans-now : (to has.lock.lock).trans ≡ Some (set has.trans slot.0 (pte_word pte))
    trans-now = ap (option_map (λ (ws : List ℕ). slice_set ws slot.0 (pte_word pte))) has.trans_is

    knows-now : KnowsWords layout trans w.caches (to has.lock.lock)
    knows-now = record {
      resident = knows.resident;
      cache = knows.cache;
      words = λ ws e s t is of. ap (λ (l : List ℕ). slice_get l s) (same_Some ws (set has.trans slot.0 (pte_word pte)) (sym e ∙ trans-now)) ∙ elim (same-or s slot.0) [
        | inl this ↦ ap (slice_get (set has.trans slot.0 (pte_word pte))) this ∙ set_here has.trans slot.0 (pte_word pte) given.asks.old given.asks.old_is
            ∙ sym (ap (slice_get trans) this ∙ set_here w.trans slot.0 (pte_word pte) found there)
        | inr differs ↦ set_else has.trans slot.0 s (pte_word pte) differs ∙ knows.words has.trans has.trans_is s t is of ∙ sym (set_else w.trans slot.0 s (pte_word pte) differs)
      ];
    }
