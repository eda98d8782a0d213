-- A body goes home from the hand: its history is listed first.
use Rattle.std.proofs.Common.{◌≡◌, ℕ, ◌<◌, ◌||◌, ◌⊎◌, Bool, true, false, List, ◌++◌, Some, set, take, drop, take-append-drop, length, slice_get, inl, inr, refl, sym, ap, ◌∙◌, subst, arith}
use Rattle.std.proofs.lemmas.Bool.{eqb-true}
use Rattle.std.proofs.lemmas.List.Folds.{list_any-append}
use Rattle.std.proofs.lemmas.Option.{same_Some}
use Rattle.hwp_page.specs.hwp_geom.declared.Layout.{Layout}
use Rattle.hwp_page.specs.hwp_geom.declared.Proc.{Proc}
use Rattle.hwp_page.specs.hwp_geom.declared.Who.{Who}
use Rattle.hwp_page.specs.hwp_geom.Layout.{IsSound}
use Rattle.hwp_page.specs.declared.Entry.{Entry}
use Rattle.hwp_page.specs.Endings.{has_ending, is_ending}
use Rattle.hwp_core_rule.specs.declared.log.Log.{Log}
use Rattle.hwp_core_rule.specs.declared.view.InHand.{InHand}
use Rattle.hwp_core_rule.specs.declared.view.PageLock.{PageLock}
use Rattle.hwp_core_rule.specs.declared.view.View.{View}
use Rattle.hwp_core_rule.specs.Asks.{CanGoHome, IsTurnOf}
use Rattle.hwp_core_rule.specs.Lists.{Homes, SomeMember}
use Rattle.hwp_core_rule.specs.Rule.{FrameRule}
use Rattle.hwp_core_rule.specs.Views.{made_from, losses_made, stamp_of, more_of, page_locks_on, changed, listed, is_body_of}
use Rattle.hwp_core_rule.specs.Words.{Words}
use Rattle.hwp_core_rule.specs.parts.Endings.{AreEnded}
use Rattle.hwp_core_rule.specs.parts.Fits.{Fits, FitsWords, KnowsWords, KnowsOwn}
use Rattle.hwp_core_rule.specs.parts.Holdings.{IsPast}
use Rattle.hwp_core_rule.proofs.PageWords.{first-lock, same-page}
use Rattle.hwp_core_rule.proofs.ListDrops.{find-is, changed-at}
use Rattle.hwp_core_rule.proofs.Lists.{at_map, same-or, set_here}
use Rattle.hwp_core_rule.proofs.EntryLists

or-parts : (a b : Bool) → (a || b) ≡ true → (a ≡ true) ⊎ (b ≡ true)
or-parts true b e = inl refl
or-parts false b e = inr e

module _ (layout : Layout) (w : Words) (homes : Homes) (views : List View) (seat : ℕ) (v : View) (who : Who) (log : Log)
    (me : slice_get views seat ≡ Some v) (past : IsPast v.parts who) (turn : IsTurnOf v who) (h : FrameRule layout w homes views) (can : CanGoHome layout who v log) (within : log.page.0 < length layout.pages) (sound : IsSound layout) where
  pub found-body : (i : ℕ) × (slice_get v.bodies i ≡ Some can.body) × (is_body_of log.page can.body ≡ true)
  found-body = find-is (is_body_of log.page) v.bodies can.body can.body_is

  abbrev pub renewed : View
  renewed = record v {
    made = v.made ++ made_from (stamp_of who v) log.page can.body.frame (length can.body.log.entries) (more_of can.body log);
    owed = record v.owed { losses = v.owed.losses ++ losses_made layout log.page (more_of can.body log) };
    bodies = changed (is_body_of log.page) (λ (b : InHand). record b { log = log }) v.bodies;
  }

  pub rule : FrameRule layout w homes (set views seat renewed)
  rule = EntryLists.keeps-renewed layout w homes views seat v who log (λ (l : List Proc). l) found-body.0 can.body me past turn found-body.1 found-body.2 can.extends within sound can.fits.unlocked h (λ l met. met)

  pub me-renewed : slice_get (set views seat renewed) seat ≡ Some renewed
  me-renewed = set_here views seat renewed v me

  pub body-renewed : slice_get renewed.bodies found-body.0 ≡ Some (record can.body { log = log })
  body-renewed = changed-at (is_body_of log.page) (λ (b : InHand). record b { log = log }) v.bodies found-body.0 can.body found-body.1 found-body.2

  -- each process that the history ended has a word: from before, or by a `kill`
  pub ended : AreEnded layout w.processes log.entries
  ended process x at is = elim (or-parts (has_ending layout process (take can.body.since log.entries)) (has_ending layout process (drop can.body.since log.entries)) split) [
    | inl before ↦ rule.histories.endings.ended_before seat renewed.bodies (at_map (λ (v : View). v.bodies) (set views seat renewed) seat renewed me-renewed) found-body.0 (record can.body { log = log }) body-renewed process x at before
    | inr late ↦
        let killed : SomeMember (λ (p : Proc). p ≡ process) can.body.killed = can.killed process late in
        h.processors.stops.killed seat v.bodies (at_map (λ (v : View). v.bodies) views seat v me) found-body.0 can.body found-body.1 killed.0 killed.1 killed.2 x (ap (λ (p : Proc). slice_get w.processes p.0) killed.3 ∙ at)
  ]
    where
      split : (has_ending layout process (take can.body.since log.entries) || has_ending layout process (drop can.body.since log.entries)) ≡ true
      split = sym (list_any-append (λ (e : Entry). is_ending layout process e.what) (take can.body.since log.entries) (drop can.body.since log.entries))
          ∙ ap (has_ending layout process) (take-append-drop can.body.since log.entries) ∙ is

  pub fit : Fits layout w.trans w.caches log
  fit = elim (same-or (page_locks_on log.page.0 v.pages) 0) [
    | inl none ↦ rule.pages.fits.in_hand seat (renewed.pages, renewed.bodies) (at_map (λ (v : View). (v.pages, v.bodies)) (set views seat renewed) seat renewed me-renewed) found-body.0 (record can.body { log = log }) body-renewed none
    | inr some ↦ fit-locked (omega (arith, some))
  ]
    where
      fit-locked : 0 < page_locks_on log.page.0 v.pages → Fits layout w.trans w.caches log
      fit-locked some cache at = record {
        cached = fits.cached;
        used = λ n x t decl page stands. fits.used n x t decl page (knows.words own.trans own.trans_is n t decl (page ∙ sym lock-page) ∙ stands);
      }
        where
          own : KnowsOwn v.pages can.body
          own = h.pages.fits.own seat (v.pages, v.bodies) (at_map (λ (v : View). (v.pages, v.bodies)) views seat v me) found-body.0 can.body found-body.1
              (subst (λ (n : ℕ). 0 < page_locks_on n v.pages) (sym (eqb-true can.body.log.page.0 log.page.0 found-body.2)) some)

          first : (l : PageLock) × (slice_get v.pages 0 ≡ Some l) × (l.page.0 ≡ log.page.0)
          first = first-lock log.page.0 v.pages (h.pages.page_locks.page_once seat v.pages (at_map (λ (v : View). v.pages) views seat v me)) some

          number : own.lock.page.0 ≡ log.page.0
          number = ap (λ (l : PageLock). l.page.0) (same_Some own.lock first.0 (sym own.there ∙ first.1)) ∙ first.2

          lock-page : own.lock.page ≡ log.page
          lock-page = same-page own.lock.page log.page number

          knows : KnowsWords layout w.trans w.caches own.lock
          knows = h.pages.fits.known seat (v.pages, v.bodies) (at_map (λ (v : View). (v.pages, v.bodies)) views seat v me) 0 own.lock own.there

          stands-cache : slice_get w.caches log.page.0 ≡ Some own.cache
          stands-cache = ap (slice_get w.caches) (sym number) ∙ knows.cache own.cache own.cache_is

          same-cache : own.cache ≡ cache
          same-cache = same_Some own.cache cache (sym stands-cache ∙ at)

          fits : FitsWords layout log cache own.trans
          fits = subst (λ (c : ℕ). FitsWords layout log c own.trans) same-cache (can.fits.locked own.lock own.cache own.trans own.there lock-page own.cache_is own.trans_is)

  pub listed-renewed : listed layout who log v ≡ renewed
  listed-renewed = EntryLists.listed-is layout w homes views seat v who log (λ (l : List Proc). l) found-body.0 can.body me past turn found-body.1 found-body.2 can.extends within sound can.fits.unlocked h can.body_is
