-- A page's lock freed keeps the frame rule.
use Rattle.std.proofs.Common.{◌≡◌, ◌≢◌, ℕ, ◌+◌, ◌<◌, ◌≤◌, ◌==◌, Bool, true, false, not, cond, List, [], Option, Some, None, map, set, length, slice_get, slice_index, bit_and, inl, inr, refl, sym, ap, ◌∙◌, subst, arith}
use Rattle.std.proofs.lemmas.Bool.{eqb-true, eqb-false}
use Rattle.std.proofs.lemmas.List.{nil_from_length}
use Rattle.std.proofs.lemmas.Option.{none-some, same_Some}
use Rattle.std.specs.Int.{from_bool}
use Rattle.std.specs.List.{sum_by}
use Rattle.hwp_page.specs.hwp_geom.declared.Layout.{Layout}
use Rattle.hwp_page.specs.hwp_geom.declared.Page.{Page}
use Rattle.hwp_page.specs.hwp_geom.declared.Who.{Who}
use Rattle.hwp_words.specs.Frames.{lock_of, owner_of}
use Rattle.hwp_words.proofs.FrameSteps.{fields-unlock}
use Rattle.hwp_core_rule.specs.declared.log.Log.{Log}
use Rattle.hwp_core_rule.specs.declared.view.FrameLock.{FrameLock}
use Rattle.hwp_core_rule.specs.declared.view.InHand.{InHand}
use Rattle.hwp_core_rule.specs.declared.view.PageLock.{PageLock}
use Rattle.hwp_core_rule.specs.declared.view.View.{View}
use Rattle.hwp_core_rule.specs.Asks.{CanUnlockPage, CanGoHome}
use Rattle.hwp_core_rule.specs.Lists.{Homes, EachMember, SomeMember}
use Rattle.hwp_core_rule.specs.Rule.{FrameRule, holder_of}
use Rattle.hwp_core_rule.specs.Views.{page_locks_on, without, put_home, body_of, is_body_of, is_page_lock_of}
use Rattle.hwp_core_rule.specs.Words.{Words}
use Rattle.hwp_core_rule.specs.parts.Bodies.{IsHolding, content_name}
use Rattle.hwp_core_rule.specs.parts.Endings.{AreEnded}
use Rattle.hwp_core_rule.specs.parts.Fits.{Fits}
use Rattle.hwp_core_rule.specs.parts.Locks.{IsLocked}
use Rattle.hwp_core_rule.specs.parts.Owners.{HoldsBoth}
use Rattle.hwp_core_rule.proofs.Lists.{at_map, same-number, set_here, set-set, term-le, from_bool-same, from_bool-other}
use Rattle.hwp_core_rule.proofs.BodySlots.{carry-none, carry-home, another}
use Rattle.hwp_core_rule.proofs.CountsBelow.{some-term}
use Rattle.hwp_core_rule.proofs.Keeps.{Given, Keeps, IsShaped}
use Rattle.hwp_core_rule.proofs.ListDrops.{sum-without, length-without, each-without, find-none}
use Rattle.hwp_core_rule.proofs.steps.PageLockSteps.{keeps-paging}
use Rattle.hwp_core_rule.proofs.WordsByKind.{word-there}
use Rattle.hwp_core_rule.specs.declared.step.Step.TheVariants as steps
use Rattle.hwp_core_rule.proofs.BodyHome

-- the one page lock that the view lists is freed, and the view has no lock of a frame that the page owns
module _ (layout : Layout) (w : Words) (homes : Homes) (views : List View) (seat : ℕ) (v : View) (page : Page) (found : ℕ) (lock : PageLock)
    (shaped : IsShaped layout w homes) (me : slice_get views seat ≡ Some v) (there : slice_get w.pages page.0 ≡ Some found)
    (listed : slice_get v.pages 0 ≡ Some lock) (page_is : lock.page ≡ page) (no_frame : EachMember (λ (l : FrameLock). l.owner ≢ page.0 + 1) v.locks) (h : FrameRule layout w homes views) where
  abbrev now : ℕ
  now = bit_and found 18446744073709551614

  abbrev shelf : ℕ
  shelf = layout.frames + page.0

  abbrev words : Words
  words = record w { pages = set w.pages page.0 now }

  number : lock.page.0 ≡ page.0
  number = ap (λ (p : Page). p.0) page_is

  test : is_page_lock_of page lock ≡ true
  test = same-number lock.page.0 page.0 number

  few : length v.pages ≤ 1
  few = h.pages.page_locks.page_once seat v.pages (at_map (λ (v : View). v.pages) views seat v me)

  -- no page lock is left
  none-left : without (is_page_lock_of page) v.pages ≡ []
  none-left = nil_from_length (without (is_page_lock_of page) v.pages) (omega (arith, few, length-without (is_page_lock_of page) v.pages 0 lock listed test))

  mine-on : (q : ℕ) → from_bool (page.0 == q) ≡ page_locks_on q v.pages
  mine-on q =
      let fewer : page_locks_on q (without (is_page_lock_of page) v.pages) + from_bool (page.0 == q) ≡ page_locks_on q v.pages =
      sum-without (λ (l : PageLock). from_bool (l.page.0 == q)) (is_page_lock_of page) (from_bool (page.0 == q)) v.pages 0 lock listed test (λ l is. ap (λ (n : ℕ). from_bool (n == q)) (eqb-true l.page.0 page.0 is)) in
      let left : page_locks_on q (without (is_page_lock_of page) v.pages) ≡ 0 = ap (page_locks_on q) none-left in
      omega arith

  locked : lock_of found ≡ 1
  locked =
      let all : sum_by (page_locks_on page.0) (map (λ (v : View). v.pages) views) ≡ lock_of found = h.pages.page_locks.one page.0 found there in
      let mine : page_locks_on page.0 v.pages ≤ sum_by (page_locks_on page.0) (map (λ (v : View). v.pages) views) = term-le (page_locks_on page.0) (map (λ (v : View). v.pages) views) seat v.pages (at_map (λ (v : View). v.pages) views seat v me) in
      omega (arith, mine-on page.0, from_bool-same page.0 page.0 refl)

  out : slice_get homes shelf ≡ Some None
  out = h.pages.bodies.shelf_out page.0 found there locked

  here : lock_of now + page_locks_on page.0 v.pages ≡ lock_of found + 0
  here = omega (arith, mine-on page.0, from_bool-same page.0 page.0 refl, locked, (fields-unlock found).lock)

  others : (q : ℕ) → q ≢ page.0 → 0 ≡ page_locks_on q v.pages
  others q differs = omega (arith, mine-on q, from_bool-other page.0 q (λ e. differs (sym e)))

  -- only this page's lock is listed, and no lock of a frame that the page owns
  not-both : (f x q : ℕ) → slice_get w.frames f ≡ Some x → owner_of x ≡ q + 1 → HoldsBoth f q (v.locks, v.pages) → ⊥
  not-both f x q at owner both =
      let some : SomeMember (λ (l : FrameLock). 0 < from_bool (l.frame.0 == f)) v.locks = some-term (λ (l : FrameLock). from_bool (l.frame.0 == f)) v.locks both.frame in
      let known : IsLocked w.frames v.refs some.1 = h.frames.frame_locks.known seat (v.refs, v.locks) (at_map (λ (v : View). (v.refs, v.locks)) views seat v me) some.0 some.1 some.2 in
      let same : some.1.frame.0 ≡ f = is-frame (some.1.frame.0 == f) refl some.3 in
      let word : known.word ≡ x = same_Some known.word x (sym known.there ∙ ap (slice_get w.frames) same ∙ at) in
      no_frame some.0 some.1 some.2 (sym known.owner ∙ ap owner_of word ∙ owner ∙ ap (λ (n : ℕ). n + 1) (sym this))
    where
      is-frame : {a : ℕ} → (b : Bool) → (a == f) ≡ b → 0 < from_bool (a == f) → a ≡ f
      is-frame {a} true e some = eqb-true a f e
      is-frame {a} false e some = absurd (omega (arith, some, ap from_bool e))

      this : page.0 ≡ q
      this = is-page (page.0 == q) refl
        where
          is-page : (b : Bool) → (page.0 == q) ≡ b → page.0 ≡ q
          is-page true e = eqb-true page.0 q e
          is-page false e = absurd (omega (arith, both.page, mine-on q, ap from_bool e))

  my_fit : slice_get {X = List PageLock × List InHand} (map (λ (v : View). (v.pages, v.bodies)) views) seat ≡ Some (v.pages, v.bodies)
  my_fit = at_map (λ (v : View). (v.pages, v.bodies)) views seat v me

  -- bodies of other pages don't need the lock
  held-still : (bodies : List InHand) (b : InHand) → b.log.page.0 ≢ page.0 → IsHolding b (holder_of v) → IsHolding b (record { locks = v.locks; pages = []; bodies = bodies })
  held-still bodies b other holds = elim holds [
    | inl locked ↦ absurd (omega (arith, locked, others b.log.page.0 other))
    | inr some ↦ inr some
  ]

  fits-still : (b : InHand) → b.log.page.0 ≢ page.0 → (page_locks_on b.log.page.0 v.pages ≡ 0 → Fits layout w.trans w.caches b.log) → Fits layout w.trans w.caches b.log
  fits-still b other fits = fits (sym (others b.log.page.0 other))

  -- the shelf has what the cache word asks
  name-is : (content : Option Log) → content_name content ≡ cond lock.resident 0 (page.0 + 1) → (c : ℕ) → slice_get w.caches page.0 ≡ Some c → content_name content ≡ cond (c == 0) (page.0 + 1) 0
  name-is content named c at =
      let known : not (c == 0) ≡ lock.resident = (h.pages.fits.known seat (v.pages, v.bodies) my_fit 0 lock listed).resident c (ap (slice_get w.caches) number ∙ at) in
      named ∙ ap (λ (b : Bool). cond b 0 (page.0 + 1)) (sym known) ∙ turned (c == 0)
    where
      turned : (b : Bool) → cond (not b) 0 (page.0 + 1) ≡ cond b (page.0 + 1) 0
      turned true = refl
      turned false = refl

  pub keeps-unlock-empty : content_name None ≡ cond lock.resident 0 (page.0 + 1) → body_of page v ≡ None
      → FrameRule layout words (set homes shelf (Some None)) (set views seat (record v { pages = without (is_page_lock_of page) v.pages }))
  keeps-unlock-empty named away = subst (λ (l : List PageLock). FrameRule layout words (set homes shelf (Some None)) (set views seat (record v { pages = l }))) (sym none-left)
      (keeps-paging layout w homes views seat v page.0 found now (Some None) [] v.bodies v.lengths me h shaped there (record {
        carries = carry-none layout w homes views seat v me h shelf None (Some None) [] out refl refl
            (λ i b at unlisted. fits-still b (other i b at) (h.pages.fits.in_hand seat (v.pages, v.bodies) my_fit i b at)) (λ i l e. absurd (none-some l e)) (λ i b at some. absurd (omega (arith, some)));
        here = here;
        others = others;
        once = omega arith;
        cached = λ f x q at owner both. absurd (not-both f x q at owner both);
        free_home = λ free c at. record { content = None; there = set_here homes shelf (Some None) None out; named = name-is None named c at };
        out = λ is. absurd (omega (arith, is, (fields-unlock found).lock));
        in_hand = λ i b at. held-still v.bodies b (other i b at) (h.pages.bodies.in_hand seat (holder_of v) (at_map holder_of views seat v me) i b at);
      }))
    where
      other : (i : ℕ) (b : InHand) → slice_get v.bodies i ≡ Some b → b.log.page.0 ≢ page.0
      other i b at = eqb-false b.log.page.0 page.0 (find-none (is_body_of page) v.bodies away i b at)

  pub keeps-unlock-body : (log : Log) (place : ℕ) (body : InHand) → slice_get v.bodies place ≡ Some body → is_body_of log.page body ≡ true → body.log ≡ log → log.page.0 < length layout.pages → log.page.0 ≡ page.0
      → content_name (Some log) ≡ cond lock.resident 0 (page.0 + 1) → AreEnded layout w.processes log.entries → Fits layout w.trans w.caches log
      → FrameRule layout words (set homes shelf (Some (Some log))) (set views seat (record v { pages = without (is_page_lock_of page) v.pages; bodies = without (is_body_of log.page) v.bodies }))
  keeps-unlock-body log place body at is log_is within same named ended fit =
      subst (λ (l : List PageLock). FrameRule layout words (set homes shelf (Some (Some log))) (set views seat (record v { pages = l; bodies = left }))) (sym none-left)
      (keeps-paging layout w homes views seat v page.0 found now (Some (Some log)) [] left v.lengths me h shaped there (record {
        carries = carry-home layout w homes views seat v me h log place body at is within log_is shelf [] out ended fit
            (λ i b there unlisted. fits-still b (other i b there) (each-without (λ (b : InHand). page_locks_on b.log.page.0 v.pages ≡ 0 → Fits layout w.trans w.caches b.log) (is_body_of log.page) v.bodies (h.pages.fits.in_hand seat (v.pages, v.bodies) my_fit) i b there))
            (λ i l e. absurd (none-some l e)) (λ i b there some. absurd (omega (arith, some)));
        here = here;
        others = others;
        once = omega arith;
        cached = λ f x q at owner both. absurd (not-both f x q at owner both);
        free_home = λ free c cache. record { content = Some log; there = set_here homes shelf (Some (Some log)) None out; named = name-is (Some log) named c cache };
        out = λ is. absurd (omega (arith, is, (fields-unlock found).lock));
        in_hand = λ i b there. held-still left b (other i b there)
            (each-without (λ (b : InHand). IsHolding b (holder_of v)) (is_body_of log.page) v.bodies (h.pages.bodies.in_hand seat (holder_of v) (at_map holder_of views seat v me)) i b there);
      }))
    where
      left : List InHand
      left = without (is_body_of log.page) v.bodies

      other : (i : ℕ) (b : InHand) → slice_get left i ≡ Some b → b.log.page.0 ≢ page.0
      other i b there e = eqb-false b.log.page.0 log.page.0 (another layout w homes views seat v me h log place body at is within i b there) (e ∙ sym same)

-- the page's body goes home to its shelf
module _ (layout : Layout) (w : Words) (homes : Homes) (views : List View) (seat : ℕ) (v : View) (who : Who) (page : Page) (log : Log)
    (given : Given layout w homes views seat v who (steps.UnlockPage page) (Some log)) where
  asks : CanUnlockPage layout who v page (Some log)
  asks = given.asks

  can : CanGoHome layout who v log
  can = asks.put

  there : slice_get w.pages page.0 ≡ Some (slice_index w.pages page.0)
  there = word-there w.pages page.0 (length layout.pages) given.shaped.pages given.place

  same : log.page.0 ≡ page.0
  same = which asks.has.lock.resident asks.named
    where
      which : (b : Bool) → log.page.0 + 1 ≡ cond b 0 (page.0 + 1) → log.page.0 ≡ page.0
      which true e = absurd (omega (arith, e))
      which false e = omega (arith, e)

  within : log.page.0 < length layout.pages
  within = subst (λ (n : ℕ). n < length layout.pages) (sym same) given.place

  abbrev renewed : View
  renewed = BodyHome.renewed layout w homes views seat v who log given.me given.past given.turn given.rule can within given.sound

  abbrev after : View → List View
  after x = set views seat (record x { pages = without (is_page_lock_of page) v.pages; bodies = without (is_body_of log.page) x.bodies })

  abbrev freed : Words
  freed = record w { pages = set w.pages page.0 (bit_and (slice_index w.pages page.0) 18446744073709551614) }

  abbrev home : Homes
  home = set homes (layout.frames + page.0) (Some (Some log))

  keeps-renewed : FrameRule layout freed home (after renewed)
  keeps-renewed = subst (FrameRule layout freed home) (set-set views seat renewed (record renewed { pages = without (is_page_lock_of page) v.pages; bodies = without (is_body_of log.page) renewed.bodies }))
      (keeps-unlock-body layout w homes (set views seat renewed) seat renewed page (slice_index w.pages page.0) asks.has.lock given.shaped
      (BodyHome.me-renewed layout w homes views seat v who log given.me given.past given.turn given.rule can within given.sound) there asks.has.listed asks.has.page_is asks.no_frame
      (BodyHome.rule layout w homes views seat v who log given.me given.past given.turn given.rule can within given.sound)
      log (BodyHome.found-body layout w homes views seat v who log given.me given.past given.turn given.rule can within given.sound).0 (record can.body { log = log })
      (BodyHome.body-renewed layout w homes views seat v who log given.me given.past given.turn given.rule can within given.sound) (same-number log.page.0 log.page.0 refl) refl within same asks.named
      (BodyHome.ended layout w homes views seat v who log given.me given.past given.turn given.rule can within given.sound)
      (BodyHome.fit layout w homes views seat v who log given.me given.past given.turn given.rule can within given.sound))

  keeps-home : FrameRule layout freed home (set views seat (record (put_home layout who (Some log) v) { pages = without (is_page_lock_of page) v.pages }))
  keeps-home = subst (λ (x : View). FrameRule layout freed home (after x)) (sym (BodyHome.listed-renewed layout w homes views seat v who log given.me given.past given.turn given.rule can within given.sound)) keeps-renewed

pub keeps-unlock_page : (page : Page) → Keeps (steps.UnlockPage page)
keeps-unlock_page page layout w homes views seat v who None given =
    keeps-unlock-empty layout w homes views seat v page (slice_index w.pages page.0) given.asks.has.lock given.shaped given.me (word-there w.pages page.0 (length layout.pages) given.shaped.pages given.place)
    given.asks.has.listed given.asks.has.page_is given.asks.no_frame given.rule given.asks.named (given.asks.put_away refl)
keeps-unlock_page page layout w homes views seat v who (Some log) given = keeps-home layout w homes views seat v who page log given
