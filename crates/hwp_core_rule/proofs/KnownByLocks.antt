-- What a view knows by a frame's lock that it has, or a page that it holds.
use Rattle.std.proofs.Common.{◌≡◌, ℕ, ◌+◌, ◌<◌, ◌≤◌, ◌==◌, List, slice_get, refl, sym, ap, ◌∙◌, subst, arith}
use Rattle.std.specs.Int.{from_bool}
use Rattle.hwp_page.specs.hwp_geom.declared.Frame.{Frame}
use Rattle.hwp_page.specs.hwp_geom.declared.Page.{Page}
use Rattle.hwp_core_rule.specs.declared.view.FrameLock.{FrameLock}
use Rattle.hwp_core_rule.specs.declared.view.PageLock.{PageLock}
use Rattle.hwp_core_rule.specs.declared.view.View.{View}
use Rattle.hwp_core_rule.specs.Asks.{HasLock, HasPageLock}
use Rattle.hwp_core_rule.specs.Lists.{EachMember}
use Rattle.hwp_core_rule.specs.Views.{refs_on, locks_on, page_locks_on}
use Rattle.hwp_core_rule.specs.parts.Locks.{IsLocked}
use Rattle.hwp_core_rule.specs.parts.Owners.{NamesOwn}
use Rattle.hwp_core_rule.proofs.Lists.{same-number, term-le}

pub page-listed : (v : View) (page : Page) → HasPageLock v page → 0 < page_locks_on page.0 v.pages
page-listed v page has =
    let one : from_bool (has.lock.page.0 == page.0) ≡ 1 = ap from_bool (same-number has.lock.page.0 page.0 (ap (λ (p : Page). p.0) has.page_is)) in
    let more : from_bool (has.lock.page.0 == page.0) ≤ page_locks_on page.0 v.pages = term-le (λ (l : PageLock). from_bool (l.page.0 == page.0)) v.pages 0 has.lock has.listed in
    omega arith

module _ (v : View) (frame : Frame) (has : HasLock v frame) where
  pub lock-listed : 0 < locks_on frame.0 v.locks
  lock-listed =
      let same : has.listed.1.frame.0 ≡ frame.0 = ap (λ (l : FrameLock). l.frame.0) has.listed.3 ∙ ap (λ (f : Frame). f.0) has.frame_is in
      let one : from_bool (has.listed.1.frame.0 == frame.0) ≡ 1 = ap from_bool (same-number has.listed.1.frame.0 frame.0 same) in
      let more : from_bool (has.listed.1.frame.0 == frame.0) ≤ locks_on frame.0 v.locks = term-le (λ (l : FrameLock). from_bool (l.frame.0 == frame.0)) v.locks has.listed.0 has.listed.1 has.listed.2 in
      omega arith

  module _ (frames : List ℕ) (known : EachMember (IsLocked frames v.refs) v.locks) where
    lock-known : IsLocked frames v.refs has.lock
    lock-known = subst (IsLocked frames v.refs) has.listed.3 (known has.listed.0 has.listed.1 has.listed.2)

    number : has.lock.frame.0 ≡ frame.0
    number = ap (λ (f : Frame). f.0) has.frame_is

    pub lock-referenced : 0 < refs_on frame.0 v.refs
    lock-referenced = subst (λ (n : ℕ). 0 < refs_on n v.refs) number lock-known.referenced

    -- a word that names the frame names one of the lock's owner
    pub lock-names : (q : ℕ) → has.lock.owner ≡ q + 1 → NamesOwn frames q (frame.0 + 1)
    lock-names q owner = record {
      frame = frame.0;
      named = refl;
      owner_word = lock-known.word;
      there = ap (slice_get frames) (sym number) ∙ lock-known.there;
      owned = lock-known.owner ∙ owner;
    }
