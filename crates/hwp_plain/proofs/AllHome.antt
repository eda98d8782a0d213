-- Where nothing is held, each slot is at home, and each page's body is in the slot that the page's cache word leads to.
use Rattle.std.proofs.Common.{◌≡◌, ◌⊎◌, ℕ, ◌+◌, ◌-◌, ◌<◌, ◌≤◌, ◌==◌, Bool, true, false, cond, List, Option, Some, length, map, take, drop, slice_get, refl, sym, ap, ◌∙◌, subst, arith, inl, inr}
use Rattle.std.proofs.lemmas.Bool.{cases_lt, eqb-false}
use Rattle.std.proofs.lemmas.Option.{slice_get_within}
use Rattle.hwp_core_rule.specs.hwp_geom.declared.Layout.{Layout}
use Rattle.hwp_core_rule.specs.hwp_geom.declared.Page.{Page}
use Rattle.hwp_core_rule.specs.hwp_words.Frames.{lock_of}
use Rattle.hwp_core_rule.specs.declared.FrameLock.{FrameLock}
use Rattle.hwp_core_rule.specs.declared.Log.{Log}
use Rattle.hwp_core_rule.specs.declared.PageLock.{PageLock}
use Rattle.hwp_core_rule.specs.declared.Ref.{Ref}
use Rattle.hwp_core_rule.specs.declared.State.{State}
use Rattle.hwp_core_rule.specs.declared.View.{View}
use Rattle.hwp_core_rule.specs.Lists.{EachMember}
use Rattle.hwp_core_rule.specs.Rule.{Holds}
use Rattle.hwp_core_rule.specs.SlotMoves.{IsIn}
use Rattle.hwp_core_rule.specs.Views.{locks_on, page_locks_on}
use Rattle.hwp_core_rule.specs.Words.{caches_from, words_of}
use Rattle.hwp_core_rule.specs.parts.Bodies.{IsAtHome}
use Rattle.hwp_core_rule.specs.parts.Holdings.{HoldsNothing}
use Rattle.hwp_core_rule.specs.parts.Owners.{NamesOwn}
use Rattle.hwp_core_rule.proofs.Lists.{each-map, each-weaken, sum-zero}
use Rattle.hwp_core_rule.proofs.MetWords.{named-body}
use Rattle.hwp_core_rule.proofs.MoveKeeps.{shaped}
use Rattle.hwp_core_rule.proofs.WordsByKind.{word-there}
use Rattle.hwp_plain.specs.Ends.{AreLed, HasBody}

module _ (layout : Layout) (s : State) (h : Holds layout s) (nothing : EachMember HoldsNothing s.views) where
  -- no frame is locked, and no page
  frame-free : (f w : ℕ) → slice_get (words_of layout s.words).frames f ≡ Some w → lock_of w ≡ 0
  frame-free f w there = sym (h.rule.frames.frame_locks.one f w there)
      ∙ sum-zero (λ (l : List Ref × List FrameLock). locks_on f l.1) (map (λ (v : View). (v.refs, v.locks)) s.views)
      (each-map (λ (v : View). (v.refs, v.locks)) (λ (l : List Ref × List FrameLock). locks_on f l.1 ≡ 0) s.views (each-weaken HoldsNothing (λ (v : View). locks_on f v.locks ≡ 0) s.views (λ v none. ap (locks_on f) none.locks) nothing))

  page-free : (q w : ℕ) → slice_get (words_of layout s.words).pages q ≡ Some w → lock_of w ≡ 0
  page-free q w there = sym (h.rule.pages.page_locks.one q w there)
      ∙ sum-zero (page_locks_on q) (map (λ (v : View). v.pages) s.views)
      (each-map (λ (v : View). v.pages) (λ (l : List PageLock). page_locks_on q l ≡ 0) s.views (each-weaken HoldsNothing (λ (v : View). page_locks_on q v.pages ≡ 0) s.views (λ v none. ap (page_locks_on q) none.pages) nothing))

  frame-home : (f : ℕ) → f < layout.frames → (content : Option Log) × IsIn s.homes f content
  frame-home f less =
      let word = word-there (words_of layout s.words).frames f layout.frames (shaped layout s h).frames less in
      let home = h.rule.pages.bodies.frame_home f _ word (frame-free f _ word) in
      (home.content, home.there)

  shelf-home : (q : ℕ) → q < length layout.pages → (content : Option Log) × IsIn s.homes (layout.frames + q) content
  shelf-home q less =
      let word = word-there (words_of layout s.words).pages q (length layout.pages) (shaped layout s h).pages less in
      let cache = word-there (words_of layout s.words).caches q (length layout.pages) (shaped layout s h).caches less in
      let home = h.rule.pages.bodies.shelf_home q _ _ word cache (page-free q _ word) in
      (home.content, home.there)

  -- so each slot is at home
  pub all-home : (k : ℕ) → k < layout.frames + length layout.pages → (content : Option Log) × IsIn s.homes k content
  all-home k less = which (cases_lt k layout.frames)
    where
      behind : (q : ℕ) → layout.frames + q ≡ k → q < length layout.pages → (content : Option Log) × IsIn s.homes k content
      behind q is few = subst (λ (n : ℕ). (content : Option Log) × IsIn s.homes n content) is (shelf-home q few)

      which : (k < layout.frames) ⊎ (layout.frames ≤ k) → (content : Option Log) × IsIn s.homes k content
      which (inl front) = frame-home k front
      which (inr past) = behind (k - layout.frames) (omega (arith, past)) (omega (arith, past, less))

  -- a slot at home that has the name of a page has the page's body
  body-in : (slot q : ℕ) → IsAtHome s.homes slot (q + 1) → HasBody s.homes slot q
  body-in slot q home =
      let body = named-body home.content (record { 0 = q }) home.named in
      (body.0.entries, home.there ∙ ap (λ (c : Option Log). Some (Some c)) body.1 ∙ ap (λ (p : Page). Some (Some (Some (record { page = p; entries = body.0.entries })))) body.2)

  -- each page's body is where its cache word leads
  all-led : AreLed layout.frames (words_of layout s.words).caches s.homes
  all-led q cache there = by-cache (cache == 0) refl
    where
      inside : q < length layout.pages
      inside = subst (λ (n : ℕ). q < n) (shaped layout s h).caches (slice_get_within (words_of layout s.words).caches q cache there)

      on-shelf : (cache == 0) ≡ true → IsAtHome s.homes (layout.frames + q) (q + 1)
      on-shelf none =
          let word = word-there (words_of layout s.words).pages q (length layout.pages) (shaped layout s h).pages inside in
          subst (λ (b : Bool). IsAtHome s.homes (layout.frames + q) (cond b (q + 1) 0)) none (h.rule.pages.bodies.shelf_home q _ cache word there (page-free q _ word))

      in-frame : NamesOwn (words_of layout s.words).frames q cache → IsAtHome s.homes (cache - 1) (q + 1)
      in-frame own =
          let at : own.frame ≡ cache - 1 = let named : cache ≡ own.frame + 1 = own.named in omega arith in
          subst (λ (n : ℕ). IsAtHome s.homes n (q + 1)) at
          (subst (IsAtHome s.homes own.frame) own.owned (h.rule.pages.bodies.frame_home own.frame own.owner_word own.there (frame-free own.frame own.owner_word own.there)))

      by-cache : (b : Bool) → (cache == 0) ≡ b → HasBody s.homes (cond b (layout.frames + q) (cache - 1)) q
      by-cache true none = body-in (layout.frames + q) q (on-shelf none)
      by-cache false some = elim (h.rule.pages.caches.owned q cache there) [
        | inl none ↦ absurd (eqb-false cache 0 some none)
        | inr own ↦ body-in (cache - 1) q (in-frame own)
      ]

-- the same of the cache words as they are read from the one list of words
pub led-here : (layout : Layout) (s : State) → Holds layout s → EachMember HoldsNothing s.views → (from len frames : ℕ) (words : List ℕ)
    → words ≡ s.words → from ≡ caches_from layout + 0 → len ≡ length layout.pages → frames ≡ layout.frames → AreLed frames (take (from + len - from) (drop from words)) s.homes
led-here layout s h nothing from len frames words is at many wide =
    let count : from + len - from ≡ length layout.pages = omega (arith, many) in
    let start : from ≡ caches_from layout = omega (arith, at) in
    let same : take (from + len - from) (drop from words) ≡ (words_of layout s.words).caches =
    ap (λ (n : ℕ). take n (drop from words)) count ∙ ap (λ (n : ℕ). take (length layout.pages) (drop n words)) start ∙ ap (λ (l : List ℕ). take (length layout.pages) (drop (caches_from layout) l)) is in
    subst (λ (n : ℕ). AreLed n (take (from + len - from) (drop from words)) s.homes) (sym wide) (subst (λ (l : List ℕ). AreLed layout.frames l s.homes) (sym same) (all-led layout s h nothing))
