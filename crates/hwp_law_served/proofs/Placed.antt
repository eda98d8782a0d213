-- Where no frame is locked, a page is cached exactly where one line of a frame says so.
use Rattle.std.proofs.Common.{◌≡◌, ◌≢◌, ℕ, zero, suc, ◌+◌, ◌-◌, ◌%◌, ◌^◌, ◌<◌, ◌≤◌, ◌==◌, Bool, true, false, not, cond, List, [], ◌∷◌, Some, None, length, slice_get, refl, sym, ap, ◌∙◌, subst, arith, inl, inr, true≢false}
use Rattle.std.specs.List.{count_by, sum_by}
use Rattle.std.proofs.lemmas.Bool.{eq-eqb, eqb-true, ne_eqb}
use Rattle.std.proofs.lemmas.List.Sums.{sum_by-cons}
use Rattle.std.proofs.lemmas.Option.{none-some, same_Some, slice_get_within}
use Rattle.hwp_law.specs.hwp_geom.declared.Layout.{Layout}
use Rattle.hwp_law.specs.hwp_geom.declared.Page.{Page}
use Rattle.hwp_law.specs.hwp_geom.Limits.{page_limit}
use Rattle.hwp_plain.specs.hwp_words.Frames.{handled_of, is_handled, is_kernel, owner_of}
use Rattle.hwp_plain.specs.hwp_words.Names.{page_named}
use Rattle.hwp_plain.specs.hwp_core_rule.declared.Log.{Log}
use Rattle.hwp_plain.specs.hwp_core_rule.declared.State.{State}
use Rattle.hwp_plain.specs.hwp_core_rule.declared.View.{View}
use Rattle.hwp_plain.specs.hwp_core_rule.Lists.{EachMember}
use Rattle.hwp_plain.specs.hwp_core_rule.Logs.{state_of}
use Rattle.hwp_plain.specs.hwp_core_rule.Rule.{Holds}
use Rattle.hwp_plain.specs.hwp_core_rule.Views.{locks_on}
use Rattle.hwp_plain.specs.hwp_core_rule.Words.{words_of}
use Rattle.hwp_plain.specs.hwp_core_rule.parts.Owners.{HoldsBoth, NamesOwn}
use Rattle.hwp_plain.proofs.of_hwp_core_rule.Keeps.{IsShaped}
use Rattle.hwp_plain.proofs.of_hwp_core_rule.Lists.{map-was, sum-zero}
use Rattle.hwp_plain.proofs.of_hwp_core_rule.MoveKeeps.{shaped}
use Rattle.hwp_law.specs.hwp_report_text.declared.FrameLine.{FrameLine}
use Rattle.hwp_law.specs.hwp_report_text.declared.Whereabouts.TheVariants as places
use Rattle.hwp_law.specs.PageHistory.{is_of}
use Rattle.hwp_law_served.specs.Ends.{place_in, place_owned}
use Rattle.hwp_law_served.proofs.Homes.{home-within, there-is}

-- a sum of which one term alone counts
sum-single : {A : Type 0} (f : A → ℕ) (l : List A) (i : ℕ) (x : A) → slice_get l i ≡ Some x → ((j : ℕ) (y : A) → slice_get l j ≡ Some y → j ≢ i → f y ≡ 0) → sum_by f l ≡ f x
sum-single f [] i x there others = absurd (none-some x there)
sum-single f (y ∷ ys) zero x there others =
    let all : sum_by f (y ∷ ys) ≡ f y + sum_by f ys = sum_by-cons f y ys in
    let rest : sum_by f ys ≡ 0 = sum-zero f ys (λ j z at. others (suc j) z at (λ same. let no : suc j ≡ 0 = same in omega arith)) in
    let first : f y ≡ f x = ap f (same_Some y x there) in
    omega arith
sum-single f (y ∷ ys) (suc i) x there others =
    let all : sum_by f (y ∷ ys) ≡ f y + sum_by f ys = sum_by-cons f y ys in
    let rest : sum_by f ys ≡ f x = sum-single f ys i x there (λ j z at differs. others (suc j) z at (λ same. differs (let is : suc j ≡ suc i = same in omega arith))) in
    let first : f y ≡ 0 = others 0 y refl (λ same. let no : 0 ≡ suc i = same in omega arith) in
    omega arith

-- 1 for what is so
abbrev flag : Bool → ℕ
flag b = cond b 1 0

-- a place that is the page's is that of a frame which the page owns
place-owner : (page : Page) (kernel handled : Bool) (owner : ℕ) → owner < 2 ^ 16 → is_of page (cond kernel places.Kernel (cond handled places.Handled (place_owned (page_named owner)))) ≡ true → owner ≡ page.0 + 1
place-owner page true handled owner few is = absurd (true≢false (sym is))
place-owner page false true owner few is = absurd (true≢false (sym is))
place-owner page false false owner few is = which (owner == 0) refl is
  where
    which : (b : Bool) → (owner == 0) ≡ b → is_of page (place_owned (cond b None (Some (record { 0 = (owner - 1) % 2 ^ 16 })))) ≡ true → owner ≡ page.0 + 1
    which true none is = absurd (true≢false (sym is))
    which false some is =
        let same : (owner - 1) % 2 ^ 16 ≡ page.0 = eqb-true ((owner - 1) % 2 ^ 16) page.0 is in
        let above : owner ≢ 0 = λ zero. true≢false (sym (eq-eqb owner 0 zero) ∙ some) in
        omega arith

owner-place : (page : Page) → page.0 < 2 ^ 16 → is_of page (place_owned (page_named (page.0 + 1))) ≡ true
owner-place page few =
    ap (λ (b : Bool). is_of page (place_owned (cond b None (Some (record { 0 = (page.0 + 1 - 1) % 2 ^ 16 }))))) (ne_eqb (page.0 + 1) 0 (λ none. let no : page.0 + 1 ≡ 0 = none in omega arith))
    ∙ eq-eqb ((page.0 + 1 - 1) % 2 ^ 16) page.0 (omega arith)

module _ (layout : Layout) (s : State) (h : Holds layout s) (unlocked : EachMember (λ (v : View). v.locks ≡ []) s.views) where
  shape : IsShaped layout (words_of layout s.words) s.homes
  shape = shaped layout s h

  pages_few : length layout.pages ≤ page_limit
  pages_few = h.sound.pages

  -- an owned frame is named by the cache word of its page
  pub owned-named : (f w q : ℕ) → slice_get (words_of layout s.words).frames f ≡ Some w → owner_of w ≡ q + 1 → slice_get (words_of layout s.words).caches q ≡ Some (f + 1)
  owned-named f w q there owner = elim (h.rule.pages.caches.named f w q there owner) [
    | inl is ↦ is
    | inr both ↦
        let was : (x : View) × (slice_get s.views both.0 ≡ Some x) × ((x.locks, x.pages) ≡ both.1) = map-was (λ (v : View). (v.locks, v.pages)) s.views both.0 both.1 both.2 in
        let holds : HoldsBoth f q (was.0.locks, was.0.pages) = subst (HoldsBoth f q) (sym was.2) both.3 in
        let none : locks_on f was.0.locks ≡ 0 = ap (locks_on f) (unlocked both.0 was.0 was.1) in
        absurd (omega (arith, holds.frame))
  ]

  owner-few : (f w : ℕ) → slice_get (words_of layout s.words).frames f ≡ Some w → owner_of w < 2 ^ 16
  owner-few f w there = which (owner_of w) refl
    where
      which : (n : ℕ) → owner_of w ≡ n → owner_of w < 2 ^ 16
      which zero none = omega arith
      which (suc q) some =
          let named = owned-named f w q there (let is : owner_of w ≡ suc q = some in omega arith) in
          let within : q < length (words_of layout s.words).caches = slice_get_within (words_of layout s.words).caches q (f + 1) named in
          let caches : length (words_of layout s.words).caches ≡ length layout.pages = shape.caches in
          omega (arith, pages_few)

  -- the place of a frame that the page owns
  owned-place : (f w : ℕ) (page : Page) → page.0 < length layout.pages → slice_get (words_of layout s.words).frames f ≡ Some w → owner_of w ≡ page.0 + 1 → is_of page (place_in w) ≡ true
  owned-place f w page within there owner = by-tests (is_kernel w) (is_handled w) refl refl
    where
      few : page.0 < 2 ^ 16
      few = omega (arith, within, pages_few)

      by-tests : (kernel handled : Bool) → is_kernel w ≡ kernel → is_handled w ≡ handled → is_of page (place_in w) ≡ true
      by-tests true handled kernel_is handled_is = let bare = (h.rule.frames.places.kernels f w there kernel_is).bare in let none : owner_of w ≡ 0 = bare.unowned in absurd (omega (arith, owner))
      by-tests false true kernel_is handled_is = let out = h.rule.failures.handled.out f w there (eqb-true (handled_of w) 1 handled_is) in let none : owner_of w ≡ 0 = out.unowned in absurd (omega (arith, owner))
      by-tests false false kernel_is handled_is =
          ap (λ (b : Bool). is_of page (cond b places.Kernel (cond (is_handled w) places.Handled (place_owned (page_named (owner_of w)))))) kernel_is
          ∙ ap (λ (b : Bool). is_of page (cond b places.Handled (place_owned (page_named (owner_of w))))) handled_is
          ∙ ap (λ (n : ℕ). is_of page (place_owned (page_named n))) owner
          ∙ owner-place page few

  module _ (frames : List FrameLine) (fit : length frames ≡ layout.frames)
      (word_of : (f : ℕ) (line : FrameLine) → slice_get frames f ≡ Some line → (w : ℕ) × (slice_get (words_of layout s.words).frames f ≡ Some w) × (line.place ≡ place_in w)) where
    -- a line that says the page is that of the frame which its cache word names
    says-owned : (f : ℕ) (line : FrameLine) (page : Page) → slice_get frames f ≡ Some line → is_of page line.place ≡ true → slice_get (words_of layout s.words).caches page.0 ≡ Some (f + 1)
    says-owned f line page there is =
        let word = word_of f line there in
        owned-named f word.0 page.0 word.1 (place-owner page (is_kernel word.0) (is_handled word.0) (owner_of word.0) (owner-few f word.0 word.1) (sym (ap (is_of page) word.2) ∙ is))

    -- a page whose body is at home is cached exactly where one line says it
    pub cached-once : (slot : ℕ) (log : Log) → slice_get s.homes slot ≡ Some (Some (Some log)) → count_by (λ (line : FrameLine). is_of log.page line.place) frames ≡ cond (state_of layout log).cached 1 0
    cached-once slot log home = by-cache (cache.0 == 0) refl
      where
        within : log.page.0 < length layout.pages
        within = home-within layout s h log slot home

        cache : (c : ℕ) × (slice_get (words_of layout s.words).caches log.page.0 ≡ Some c)
        cache = there-is (words_of layout s.words).caches log.page.0 (subst (λ (n : ℕ). log.page.0 < n) (sym shape.caches) within)

        cached : not (cache.0 == 0) ≡ (state_of layout log).cached
        cached = (h.rule.pages.fits.at_home slot log home cache.0 cache.1).cached

        unsaid : (b : Bool) → (b ≡ true → ⊥) → flag b ≡ 0
        unsaid true not_so = absurd (not_so refl)
        unsaid false not_so = refl

        by-cache : (b : Bool) → (cache.0 == 0) ≡ b → count_by (λ (line : FrameLine). is_of log.page line.place) frames ≡ cond (state_of layout log).cached 1 0
        by-cache true none =
            sum-zero (λ (line : FrameLine). cond (is_of log.page line.place) 1 0) frames
            (λ f line there. unsaid (is_of log.page line.place) (λ says. let named : f + 1 ≡ 0 = same_Some (f + 1) 0 (sym (says-owned f line log.page there says) ∙ cache.1 ∙ ap (λ (c : ℕ). Some c) (eqb-true cache.0 0 none)) in omega arith))
            ∙ ap flag (sym (ap not none) ∙ cached)
        by-cache false some = elim (h.rule.pages.caches.owned log.page.0 cache.0 cache.1) [
          | inl none ↦ absurd (true≢false (sym (eq-eqb cache.0 0 none) ∙ some))
          | inr own ↦ once own
        ]
          where
            once : NamesOwn (words_of layout s.words).frames log.page.0 cache.0 → count_by (λ (line : FrameLine). is_of log.page line.place) frames ≡ cond (state_of layout log).cached 1 0
            once own =
                let inside : own.frame < length (words_of layout s.words).frames = slice_get_within (words_of layout s.words).frames own.frame own.owner_word own.there in
                let words : length (words_of layout s.words).frames ≡ layout.frames = shape.frames in
                let line = there-is frames own.frame (omega (arith, fit)) in
                let word = word_of own.frame line.0 line.1 in
                let same : word.0 ≡ own.owner_word = same_Some word.0 own.owner_word (sym word.1 ∙ own.there) in
                let says : is_of log.page line.0.place ≡ true = ap (is_of log.page) word.2 ∙ owned-place own.frame word.0 log.page within word.1 (ap owner_of same ∙ own.owned) in
                sum-single (λ (x : FrameLine). cond (is_of log.page x.place) 1 0) frames own.frame line.0 line.1
                (λ f other there differs. unsaid (is_of log.page other.place) (λ is. differs (let named : f + 1 ≡ own.frame + 1 = same_Some (f + 1) (own.frame + 1) (sym (says-owned f other log.page there is) ∙ cache.1 ∙ ap (λ (c : ℕ). Some c) own.named) in omega arith)))
                ∙ ap flag says
                ∙ ap flag (sym (sym cached ∙ ap not some))
