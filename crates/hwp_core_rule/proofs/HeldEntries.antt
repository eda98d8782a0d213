-- The further entries of a body are listed that is in hand with its page's lock, and stays there.
use Rattle.std.proofs.Common.{◌≡◌, ◌≢◌, ℕ, ◌<◌, ◌≤◌, ◌==◌, true, List, ◌++◌, Some, map, set, length, slice_get, refl, ap, arith}
use Rattle.std.specs.Int.{from_bool}
use Rattle.hwp_page.specs.hwp_geom.declared.Layout.{Layout}
use Rattle.hwp_page.specs.hwp_geom.declared.Page.{Page}
use Rattle.hwp_page.specs.hwp_geom.declared.Proc.{Proc}
use Rattle.hwp_page.specs.hwp_geom.declared.Who.{Who}
use Rattle.hwp_page.specs.hwp_geom.Layout.{IsSound}
use Rattle.hwp_core_rule.specs.declared.log.Log.{Log}
use Rattle.hwp_core_rule.specs.declared.view.InHand.{InHand}
use Rattle.hwp_core_rule.specs.declared.view.PageLock.{PageLock}
use Rattle.hwp_core_rule.specs.declared.view.View.{View}
use Rattle.hwp_core_rule.specs.Asks.{Extends, HasPage, HasSameWords, IsTurnOf}
use Rattle.hwp_core_rule.specs.Lists.{Homes, EachBody, EachMember}
use Rattle.hwp_core_rule.specs.Logs.{state_of}
use Rattle.hwp_core_rule.specs.Rule.{FrameRule}
use Rattle.hwp_core_rule.specs.Views.{stamp_of, more_of, made_from, losses_made, changed, is_body_of, listed, page_locks_on}
use Rattle.hwp_core_rule.specs.Words.{Words}
use Rattle.hwp_core_rule.specs.parts.Endings.{EndingsAgree}
use Rattle.hwp_core_rule.specs.parts.Holdings.{IsPast}
use Rattle.hwp_core_rule.specs.parts.Stops.{EndingsAndStopsStay}
use Rattle.hwp_core_rule.proofs.BodySlots.{all_bodies, only-in-hand}
use Rattle.hwp_core_rule.proofs.Lists.{at_map, set_here, term-le, from_bool-same}
use Rattle.hwp_core_rule.proofs.ListDrops.{find-is, changed-at}
use Rattle.hwp_core_rule.proofs.EntryLists

module _ (layout : Layout) (w : Words) (homes : Homes) (views : List View) (seat : ℕ) (v : View) (who : Who) (log : Log) (killing : List Proc → List Proc)
    (me : slice_get views seat ≡ Some v) (past : IsPast v.parts who) (turn : IsTurnOf v who) (within : log.page.0 < length layout.pages) (sound : IsSound layout)
    (h : FrameRule layout w homes views) (held : HasPage v log.page) (extends : Extends layout who v.sights held.body log) where
  found : (i : ℕ) × (slice_get v.bodies i ≡ Some held.body) × (is_body_of log.page held.body ≡ true)
  found = find-is (is_body_of log.page) v.bodies held.body held.body_is

  locked : page_locks_on log.page.0 v.pages ≡ 0 → HasSameWords (state_of layout log) (state_of layout held.body.log)
  locked none =
      let some : from_bool (held.lock.lock.page.0 == log.page.0) ≤ page_locks_on log.page.0 v.pages = term-le (λ (l : PageLock). from_bool (l.page.0 == log.page.0)) v.pages 0 held.lock.lock held.lock.listed in
      let one : from_bool (held.lock.lock.page.0 == log.page.0) ≡ 1 = from_bool-same held.lock.lock.page.0 log.page.0 (ap (λ (p : Page). p.0) held.lock.page_is) in
      absurd (omega (arith, none))

  abbrev pub bodies : List InHand
  bodies = changed (is_body_of log.page) (λ (b : InHand). record b { log = log; killed = killing b.killed }) v.bodies

  abbrev pub after : View
  after = record v {
    made = v.made ++ made_from (stamp_of who v) log.page held.body.frame (length held.body.log.entries) (more_of held.body log);
    bodies = bodies;
    owed = record v.owed { losses = v.owed.losses ++ losses_made layout log.page (more_of held.body log) };
  }

  pub listed-is : listed layout who log v ≡ record after { bodies = changed (is_body_of log.page) (λ (b : InHand). record b { log = log }) v.bodies }
  listed-is = EntryLists.listed-is layout w homes views seat v who log killing found.0 held.body me past turn found.1 found.2 extends within sound locked h held.body_is

  pub endings-listed : EndingsAgree layout w.processes homes (set (all_bodies views) seat bodies) (map (λ (v : View). v.sights) views)
  endings-listed = EntryLists.endings-listed layout w homes views seat v who log killing found.0 held.body me past turn found.1 found.2 extends within sound locked h

  pub keeps-listing : (processes : List ℕ) → EndingsAgree layout processes homes (set (all_bodies views) seat bodies) (map (λ (v : View). v.sights) views)
      → EndingsAndStopsStay processes w.stop (set (all_bodies views) seat bodies) (map (λ (v : View). v.sights) views) (map (λ (v : View). v.stops) views)
      → FrameRule layout (record w { processes = processes }) homes (set views seat after)
  keeps-listing = EntryLists.keeps-listing layout w homes views seat v who log killing found.0 held.body me past turn found.1 found.2 extends within sound locked h

  pub keeps-renewed : ((l : List Proc) → EachMember (λ (p : Proc). (x : ℕ) → slice_get w.processes p.0 ≡ Some x → x ≢ 0) l → EachMember (λ (p : Proc). (x : ℕ) → slice_get w.processes p.0 ≡ Some x → x ≢ 0) (killing l))
      → FrameRule layout w homes (set views seat after)
  keeps-renewed = EntryLists.keeps-renewed layout w homes views seat v who log killing found.0 held.body me past turn found.1 found.2 extends within sound locked h

  -- no other body is the page's
  pub one-history : EachBody (λ (x : Log). from_bool (x.page.0 == log.page.0) ≡ 1 → x ≡ log) homes (set (all_bodies views) seat bodies)
  one-history = only-in-hand (λ (x : Log). from_bool (x.page.0 == log.page.0)) homes (set (all_bodies views) seat bodies) seat found.0 bodies (record held.body { log = log; killed = killing held.body.killed })
      (set_here (all_bodies views) seat bodies v.bodies (at_map (λ (v : View). v.bodies) views seat v me))
      (changed-at (is_body_of log.page) (λ (b : InHand). record b { log = log; killed = killing b.killed }) v.bodies found.0 held.body found.1 found.2)
      (EntryLists.one-listed layout w homes views seat v who log killing found.0 held.body me past turn found.1 found.2 extends within sound locked h log.page.0 within)
      (from_bool-same log.page.0 log.page.0 refl)
