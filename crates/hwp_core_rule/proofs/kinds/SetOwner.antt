-- A page that becomes the owner of a frame, or gives it up, keeps the frame rule.
use Rattle.std.proofs.Common.{◌≡◌, ◌≢◌, ℕ, ◌+◌, ◌*◌, ◌^◌, ◌<◌, ◌≤◌, bit_xor, eq-eqb, ne_eqb, Bool, true, false, cond, List, Some, map, set, length, slice_get, slice_index, inl, inr, refl, sym, ap, ◌∙◌, subst, arith}
use Rattle.std.specs.Int.{from_bool}
use Rattle.std.specs.Int.Bits.{xor_zero_l, xor_zero_r}
use Rattle.std.proofs.lemmas.Option.{same_Some}
use Rattle.hwp_page.specs.hwp_geom.declared.Frame.{Frame}
use Rattle.hwp_page.specs.hwp_geom.declared.Layout.{Layout}
use Rattle.hwp_page.specs.hwp_geom.declared.Page.{Page}
use Rattle.hwp_page.specs.hwp_geom.declared.TransDecl.{TransDecl}
use Rattle.hwp_page.specs.hwp_geom.Limits.{page_limit}
use Rattle.hwp_words.specs.Frames.{lock_of, poison_of, handled_of, kernel_of, count_of, owner_of, cycle_of, is_handled}
use Rattle.hwp_words.proofs.FrameSteps.{FieldsAre, fields-set_owner}
use Rattle.hwp_core_rule.specs.declared.view.FrameLock.{FrameLock}
use Rattle.hwp_core_rule.specs.declared.view.InHand.{InHand}
use Rattle.hwp_core_rule.specs.declared.view.PageLock.{PageLock}
use Rattle.hwp_core_rule.specs.declared.view.View.{View}
use Rattle.hwp_core_rule.specs.Asks.{HasLock, CanOwn, CanDisown}
use Rattle.hwp_core_rule.specs.Lists.{Homes, EachMember}
use Rattle.hwp_core_rule.specs.Rule.{FrameRule, holder_of}
use Rattle.hwp_core_rule.specs.Views.{is_lock_of, page_locks_on}
use Rattle.hwp_core_rule.specs.Words.{Words}
use Rattle.hwp_core_rule.specs.parts.Bodies.{IsHolding}
use Rattle.hwp_core_rule.specs.parts.Fits.{KnowsWords}
use Rattle.hwp_core_rule.specs.parts.Locks.{IsLocked}
use Rattle.hwp_core_rule.specs.parts.Owners.{TranslationsOwned, CacheWordsOwned, NamesOwn, HoldsBoth}
use Rattle.hwp_core_rule.proofs.Keeps.{Keeps}
use Rattle.hwp_core_rule.proofs.KnownByLocks.{lock-listed, page-listed}
use Rattle.hwp_core_rule.proofs.Lists.{at_changed, at_map, at_set, same-or, set_here, set_else, each-weaken, some-set}
use Rattle.hwp_core_rule.proofs.WordsByKind.{word-there}
use Rattle.hwp_core_rule.proofs.steps.OwnerSteps.{owning, same-locks, kept-owning}
use Rattle.hwp_core_rule.specs.declared.step.Step.TheVariants as steps

unhandled-word : (word : ℕ) → is_handled word ≡ false → handled_of word ≡ 0
unhandled-word word is = which (handled_of word) refl
  where
    which : (n : ℕ) → handled_of word ≡ n → handled_of word ≡ 0
    which n e = elim (same-or (handled_of word) 1) [
      | inl one ↦ let clash : from_bool true ≡ from_bool false = ap from_bool (sym (eq-eqb (handled_of word) 1 one) ∙ is) in absurd (omega arith)
      | inr other ↦ omega arith
    ]

-- the owner of the frame becomes b, with the lock of the frame and that of the page
module _ (layout : Layout) (w : Words) (homes : Homes) (views : List View) (seat : ℕ) (v : View) (frame : Frame) (page : Page) (word now b : ℕ)
    (me : slice_get views seat ≡ Some v) (h : FrameRule layout w homes views) (there : slice_get w.frames frame.0 ≡ Some word) where
  abbrev frames : List ℕ
  frames = set w.frames frame.0 now

  abbrev u : View
  u = owning layout w homes views seat v frame word now b

  abbrev both : List (List FrameLock × List PageLock)
  both = map (λ (v : View). (v.locks, v.pages)) views

  -- what the view lists of the frame's lock
  locked : (i : ℕ) (l : FrameLock) → slice_get v.locks i ≡ Some l → l.frame.0 ≡ frame.0 → (owner_of word ≡ l.owner) × (is_handled word ≡ l.handled)
  locked i l at same =
      let k : IsLocked w.frames v.refs l = h.frames.frame_locks.known seat (v.refs, v.locks) (at_map (λ (v : View). (v.refs, v.locks)) views seat v me) i l at in
      let was : word ≡ k.word = same_Some word k.word (sym there ∙ ap (slice_get w.frames) (sym same) ∙ k.there) in
      (ap owner_of was ∙ k.owner, ap is_handled was ∙ k.handled)

  lock-facts : (has : HasLock v frame) → (owner_of word ≡ has.lock.owner) × (is_handled word ≡ has.lock.handled)
  lock-facts has =
      let same : has.listed.1.frame.0 ≡ frame.0 = ap (λ (l : FrameLock). l.frame.0) has.listed.3 ∙ ap (λ (f : Frame). f.0) has.frame_is in
      let facts : (owner_of word ≡ has.listed.1.owner) × (is_handled word ≡ has.listed.1.handled) = locked has.listed.0 has.listed.1 has.listed.2 same in
      (facts.0 ∙ ap (λ (l : FrameLock). l.owner) has.listed.3, facts.1 ∙ ap (λ (l : FrameLock). l.handled) has.listed.3)

  -- a word that names another frame still does
  names-other : (q x : ℕ) → (owner_of word ≡ q + 1 → x ≡ frame.0 + 1 → ⊥) → NamesOwn w.frames q x → NamesOwn frames q x
  names-other q x never names = record {
    frame = names.frame;
    named = names.named;
    owner_word = names.owner_word;
    there = set_else w.frames frame.0 names.frame now differs ∙ names.there;
    owned = names.owned;
  }
    where
      differs : names.frame ≢ frame.0
      differs same =
          let was : names.owner_word ≡ word = same_Some names.owner_word word (sym names.there ∙ ap (slice_get w.frames) same ∙ there) in
          never (ap owner_of (sym was) ∙ names.owned) (names.named ∙ ap (λ (n : ℕ). n + 1) same)

  translations-owning : ((s x : ℕ) (t : TransDecl) → slice_get w.trans s ≡ Some x → slice_get layout.trans s ≡ Some t → owner_of word ≡ t.page.0 + 1 → x ≡ frame.0 + 1 → ⊥) → TranslationsOwned layout.trans frames w.trans
  translations-owning never = record {
    owned = λ s x t at declared. elim (h.pages.translations.owned s x t at declared) [
      | inl none ↦ inl none
      | inr some ↦ elim some [ inl poison ↦ inr (inl poison) | inr names ↦ inr (inr (names-other t.page.0 x (never s x t at declared) names)) ]
    ];
  }

  caches-owning : ((q x : ℕ) → slice_get w.caches q ≡ Some x → owner_of word ≡ q + 1 → x ≡ frame.0 + 1 → ⊥) → ((q : ℕ) → owner_of now ≡ q + 1 → HoldsBoth frame.0 q (u.locks, v.pages))
      → owner_of now ≤ length w.caches → CacheWordsOwned frames w.caches (set both seat (u.locks, v.pages))
  caches-owning never holds inside = record {
    owned = λ q x at. elim (h.pages.caches.owned q x at) [ inl none ↦ inl none | inr names ↦ inr (names-other q x (never q x at) names) ];
    named = λ g x q at owner. elim (at_set w.frames frame.0 g now x at) [
      | inl t ↦ inr (
        seat,
        (u.locks, v.pages),
        set_here both seat (u.locks, v.pages) (v.locks, v.pages) here,
        subst (λ (n : ℕ). HoldsBoth n q (u.locks, v.pages)) (sym t.0) (holds q (ap owner_of t.1 ∙ owner)),
      )
      | inr t ↦ elim (h.pages.caches.named g x q t.1 owner) [
        | inl cached ↦ inl cached
        | inr some ↦ inr (some-set (HoldsBoth g q) both seat (v.locks, v.pages) (u.locks, v.pages) here
            (λ x. record { frame = subst (λ (n : ℕ). 0 < n) (sym (same-locks layout w homes views seat v frame word now b g)) x.frame; page = x.page }) some)
      ]
    ];
    within = at_changed (λ g x. owner_of x ≤ length w.caches) w.frames frame.0 now inside (λ g x differs at. h.pages.caches.within g x at);
  }
    where
      here : slice_get both seat ≡ Some (v.locks, v.pages)
      here = at_map (λ (v : View). (v.locks, v.pages)) views seat v me

  -- a body in hand is still held, where it isn't by this frame's lock, or by the page's
  holding-owning : ((q : ℕ) → owner_of word ≡ q + 1 → 0 < page_locks_on q v.pages) → EachMember (λ (b : InHand). IsHolding b (holder_of u)) v.bodies
  holding-owning by_page = each-weaken (λ (b : InHand). IsHolding b (holder_of v)) (λ (b : InHand). IsHolding b (holder_of u)) v.bodies (λ b is. still b is) (h.pages.bodies.in_hand seat (holder_of v) (at_map holder_of views seat v me))
    where
      still : (b : InHand) → IsHolding b (holder_of v) → IsHolding b (holder_of u)
      still held (inl page_lock) = inl page_lock
      still held (inr some) = elim (same-or some.1.frame.0 frame.0) [
        | inl same ↦ inl (by_page held.log.page.0 ((locked some.0 some.1 some.2 same).0 ∙ some.3.0))
        | inr differs ↦ inr (
          some.0,
          some.1,
          at_map (λ (l : FrameLock). cond (is_lock_of frame l) (record l { owner = b }) l) v.locks some.0 some.1 some.2
              ∙ ap (λ (c : Bool). Some (cond c (record some.1 { owner = b }) some.1)) (ne_eqb some.1.frame.0 frame.0 differs),
          some.3,
        )
      ]

pub keeps-owned : (frame : Frame) (page : Page) → Keeps (steps.SetOwner frame page true)
keeps-owned frame page layout w homes views seat v who content given =
    kept-owning layout w homes views seat v frame word now (page.0 + 1) me h there are (lock-listed v frame can.has) unhandled
    (translations-owning layout w homes views seat v frame page word now (page.0 + 1) me h there (λ s x t at declared owner names. no-owner t.page.0 owner))
    (caches-owning layout w homes views seat v frame page word now (page.0 + 1) me h there (λ q x at owner names. no-owner q owner) holds
    (let page_is : page.0 < length layout.pages = given.asks.0 in let shaped : length w.caches ≡ length layout.pages = given.shaped.caches in omega (arith, page_is, shaped, are.owner)))
    (holding-owning layout w homes views seat v frame page word now (page.0 + 1) me h there (λ q owner. absurd (no-owner q owner)))
  where
    word : ℕ
    word = slice_index w.frames frame.0

    now : ℕ
    now = bit_xor word ((page.0 + 1) * 2 ^ 24)

    me : slice_get views seat ≡ Some v
    me = given.me

    h : FrameRule layout w homes views
    h = given.rule

    can : CanOwn v frame page
    can = given.asks.1

    there : slice_get w.frames frame.0 ≡ Some word
    there = word-there w.frames frame.0 layout.frames given.shaped.frames given.place

    facts : (owner_of word ≡ can.has.lock.owner) × (is_handled word ≡ can.has.lock.handled)
    facts = lock-facts layout w homes views seat v frame page word now (page.0 + 1) me h there can.has

    unowned : owner_of word ≡ 0
    unowned = facts.0 ∙ can.unowned

    unhandled : handled_of word ≡ 0
    unhandled = unhandled-word word (facts.1 ∙ can.unhandled)

    no-owner : (q : ℕ) → owner_of word ≡ q + 1 → ⊥
    no-owner q owner = omega (arith, owner, unowned)

    are : FieldsAre now (lock_of word) (poison_of word) (handled_of word) (kernel_of word) (count_of word) (page.0 + 1) (cycle_of word)
    are =
        let few : length layout.pages ≤ page_limit = given.sound.pages in
        let inside : page.0 < length layout.pages = given.asks.0 in
        fields-set_owner word ((page.0 + 1) * 2 ^ 24) 0 (page.0 + 1) (ap (λ (n : ℕ). n * 2 ^ 24) (sym (xor_zero_l (page.0 + 1)))) unowned (omega arith)

    holds : (q : ℕ) → owner_of now ≡ q + 1 → HoldsBoth frame.0 q ((owning layout w homes views seat v frame word now (page.0 + 1)).locks, v.pages)
    holds q owner =
        let named : owner_of now ≡ page.0 + 1 = are.owner in
        let same : page.0 ≡ q = omega (arith, named, owner) in
        record {
          frame = subst (λ (n : ℕ). 0 < n) (sym (same-locks layout w homes views seat v frame word now (page.0 + 1) frame.0)) (lock-listed v frame can.has);
          page = subst (λ (n : ℕ). 0 < page_locks_on n v.pages) same (page-listed v page can.page_held.lock);
        }

pub keeps-disowned : (frame : Frame) (page : Page) → Keeps (steps.SetOwner frame page false)
keeps-disowned frame page layout w homes views seat v who content given =
    kept-owning layout w homes views seat v frame word now 0 me h there are (lock-listed v frame can.has) unhandled
    (translations-owning layout w homes views seat v frame page word now 0 me h there unmapped)
    (caches-owning layout w homes views seat v frame page word now 0 me h there uncached (λ q owner. absurd (omega (arith, owner, are.owner))) (omega (arith, are.owner)))
    (holding-owning layout w homes views seat v frame page word now 0 me h there
    (λ q owner. subst (λ (n : ℕ). 0 < page_locks_on n v.pages) (the-page q owner) (page-listed v page can.page_held.lock)))
  where
    word : ℕ
    word = slice_index w.frames frame.0

    now : ℕ
    now = bit_xor word ((page.0 + 1) * 2 ^ 24)

    me : slice_get views seat ≡ Some v
    me = given.me

    h : FrameRule layout w homes views
    h = given.rule

    can : CanDisown layout v frame page
    can = given.asks.1

    there : slice_get w.frames frame.0 ≡ Some word
    there = word-there w.frames frame.0 layout.frames given.shaped.frames given.place

    owned : owner_of word ≡ page.0 + 1
    owned = (lock-facts layout w homes views seat v frame page word now 0 me h there can.has).0 ∙ can.owned

    the-page : (q : ℕ) → owner_of word ≡ q + 1 → page.0 ≡ q
    the-page q owner = omega (arith, owner, owned)

    unhandled : handled_of word ≡ 0
    unhandled = elim (same-or (handled_of word) 1) [
      | inl one ↦ let none : owner_of word ≡ 0 = (h.failures.handled.out frame.0 word there one).unowned in absurd (omega (arith, none, owned))
      | inr other ↦ omega arith
    ]

    are : FieldsAre now (lock_of word) (poison_of word) (handled_of word) (kernel_of word) (count_of word) 0 (cycle_of word)
    are = fields-set_owner word ((page.0 + 1) * 2 ^ 24) (page.0 + 1) 0 (ap (λ (n : ℕ). n * 2 ^ 24) (sym (xor_zero_r (page.0 + 1)))) owned (omega arith)

    lock : PageLock
    lock = can.page_held.lock.lock

    knows : KnowsWords layout w.trans w.caches lock
    knows = h.pages.fits.known seat (v.pages, v.bodies) (at_map (λ (v : View). (v.pages, v.bodies)) views seat v me) 0 lock can.page_held.lock.listed

    unmapped : (s x : ℕ) (t : TransDecl) → slice_get w.trans s ≡ Some x → slice_get layout.trans s ≡ Some t → owner_of word ≡ t.page.0 + 1 → x ≡ frame.0 + 1 → ⊥
    unmapped s x t at declared owner names =
        let of_page : t.page ≡ page = λ i. record { 0 = sym (the-page t.page.0 owner) i } in
        can.unmapped s t declared of_page
        (knows.words can.page_held.trans can.page_held.trans_is s t declared (of_page ∙ sym can.page_held.lock.page_is) ∙ at ∙ ap (λ (n : ℕ). Some n) names)

    uncached : (q x : ℕ) → slice_get w.caches q ≡ Some x → owner_of word ≡ q + 1 → x ≡ frame.0 + 1 → ⊥
    uncached q x at owner names =
        let number : lock.page.0 ≡ q = ap (λ (p : Page). p.0) can.page_held.lock.page_is ∙ the-page q owner in
        let known : slice_get w.caches q ≡ Some can.page_held.cache = ap (slice_get w.caches) (sym number) ∙ knows.cache can.page_held.cache can.page_held.cache_is in
        can.uncached (same_Some can.page_held.cache x (sym known ∙ at) ∙ names)

-- both directions
pub keeps-set_owner : (frame : Frame) (page : Page) (owned : Bool) → Keeps (steps.SetOwner frame page owned)
keeps-set_owner frame page true = keeps-owned frame page
keeps-set_owner frame page false = keeps-disowned frame page
