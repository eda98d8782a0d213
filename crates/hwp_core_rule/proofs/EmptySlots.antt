-- A slot that has no body leaves its home or comes home empty: no body is elsewhere than before.
use Rattle.std.proofs.Common.{◌≡◌, ℕ, ◌+◌, Bool, true, false, List, Option, Some, None, set, slice_get, inl, inr, refl, sym, ap, ◌∙◌, arith, map}
use Rattle.std.specs.List.{sum_by}
use Rattle.hwp_page.specs.hwp_geom.declared.Layout.{Layout}
use Rattle.hwp_page.specs.declared.Entry.{Entry}
use Rattle.hwp_page.specs.Endings.{has_ending, is_ending}
use Rattle.hwp_page.specs.Orders.{IsNotLater}
use Rattle.hwp_core_rule.specs.declared.log.Log.{Log}
use Rattle.hwp_core_rule.specs.declared.view.InHand.{InHand}
use Rattle.hwp_core_rule.specs.declared.view.Length.{Length}
use Rattle.hwp_core_rule.specs.declared.view.Made.{Made}
use Rattle.hwp_core_rule.specs.declared.view.PageLock.{PageLock}
use Rattle.hwp_core_rule.specs.declared.view.Sight.{Sight}
use Rattle.hwp_core_rule.specs.Lists.{Homes, EachBody, SomeMember, of_home, sum_all, sum_bodies}
use Rattle.hwp_core_rule.specs.Logs.{losses_of}
use Rattle.hwp_core_rule.specs.parts.Bodies.{content_name}
use Rattle.hwp_core_rule.specs.parts.Endings.{EndingsAgree}
use Rattle.hwp_core_rule.specs.parts.Entries.{EntriesListed, AreInOrder, weigh, Reaches}
use Rattle.hwp_core_rule.specs.parts.Fits.{PageFits}
use Rattle.hwp_core_rule.specs.parts.Losses.{LossesBalance, Losing}
use Rattle.hwp_core_rule.proofs.Lists.{at_set, sum-set, not-both}
use Rattle.hwp_core_rule.specs.Rule.{HistoryParts, FailureParts, losing_of}
use Rattle.hwp_core_rule.specs.declared.view.View.{View}

-- a slot that is out, or empty
abbrev pub is_bodiless : Option (Option Log) → Bool
is_bodiless None = true
is_bodiless (Some None) = true
is_bodiless (Some (Some log)) = false

bodiless-none : (f : Log → ℕ) (slot : Option (Option Log)) → is_bodiless slot ≡ true → of_home f slot ≡ 0
bodiless-none f None is = refl
bodiless-none f (Some None) is = refl
bodiless-none f (Some (Some log)) is = absurd (not-both false is refl)

-- what is of no page is no body
pub bodiless-name : (content : Option Log) → content_name content ≡ 0 → is_bodiless (Some content) ≡ true
bodiless-name None e = refl
bodiless-name (Some log) e = absurd (omega arith)

module _ (homes : Homes) (slot : ℕ) (was now : Option (Option Log)) (there : slice_get homes slot ≡ Some was) (empty : is_bodiless was ≡ true) (still : is_bodiless now ≡ true) where
  abbrev after : Homes
  after = set homes slot now

  -- a body at home was there before
  pub home-was : (i : ℕ) (log : Log) → slice_get after i ≡ Some (Some (Some log)) → slice_get homes i ≡ Some (Some (Some log))
  home-was i log at = elim (at_set homes slot i now (Some (Some log)) at) [
    | inl t ↦ absurd (not-both (is_bodiless now) still (ap is_bodiless t.1))
    | inr t ↦ t.1
  ]

  pub bodies-each : (P : Log → Type 0) (bodies : List (List InHand)) → EachBody P homes bodies → EachBody P after bodies
  bodies-each P bodies each = record { at_home = λ i log at. each.at_home i log (home-was i log at); in_hand = each.in_hand }

  pub bodies-sum : (f : Log → ℕ) (bodies : List (List InHand)) → sum_bodies f after bodies ≡ sum_bodies f homes bodies
  bodies-sum f bodies =
      let moved : sum_by (of_home f) after + of_home f was ≡ sum_by (of_home f) homes + of_home f now = sum-set (of_home f) homes slot was now there in
      let before : of_home f was ≡ 0 = bodiless-none f was empty in
      let later : of_home f now ≡ 0 = bodiless-none f now still in
      let same : sum_by (of_home f) after ≡ sum_by (of_home f) homes = omega arith in
      ap (λ (n : ℕ). n + sum_all (λ (b : InHand). f b.log) bodies) same

  pub slot-entries : (bodies : List (List InHand)) (made : List (List Made × List Sight)) (lengths : List (List Length)) → EntriesListed homes bodies made lengths → EntriesListed after bodies made lengths
  slot-entries bodies made lengths h = record {
    balance = λ f. bodies-sum (weigh f) bodies ∙ h.balance f;
    ordered = bodies-each (λ (log : Log). AreInOrder log.entries) bodies h.ordered;
    shown = h.shown;
    lengths_reached = λ i list at j l is. bodies-each (Reaches l) bodies (h.lengths_reached i list at j l is);
  }

  pub slot-endings : (layout : Layout) (processes : List ℕ) (bodies : List (List InHand)) (sights : List (List Sight)) → EndingsAgree layout processes homes bodies sights → EndingsAgree layout processes after bodies sights
  slot-endings layout processes bodies sights h = record {
    named = h.named;
    caused = λ process word there. bodies-each (λ (log : Log). word ≡ log.page.0 + 1 → has_ending layout process log.entries ≡ true) bodies (h.caused process word there);
    ended = λ i log at. h.ended i log (home-was i log at);
    ended_before = h.ended_before;
    taken = h.taken;
    shown = λ i list at j s is process e.
        bodies-each (λ (log : Log). s.word ≡ log.page.0 + 1 → SomeMember (λ (e : Entry). (is_ending layout process e.what ≡ true) × IsNotLater e.who s.stamp.who) log.entries) bodies (h.shown i list at j s is process e);
  }

  pub slot-losses : (layout : Layout) (losses : List ℕ) (bodies : List (List InHand)) (views : List Losing) (sights : List (List Sight)) → LossesBalance layout losses homes bodies views sights → LossesBalance layout losses after bodies views sights
  slot-losses layout losses bodies views sights h = record {
    balance = λ file word there. h.balance file word there ∙ sym (bodies-sum (losses_of layout file) bodies);
    owing = h.owing;
    shown = h.shown;
    declared = h.declared;
    poisoned = h.poisoned;
  }

  pub slot-fits : (layout : Layout) (trans caches : List ℕ) (held : List (List PageLock × List InHand)) → PageFits layout trans caches homes held → PageFits layout trans caches after held
  slot-fits layout trans caches held h = record { at_home = λ i log at. h.at_home i log (home-was i log at); in_hand = h.in_hand; known = h.known; own = h.own }

  -- all parts of a group that read the slots
  pub slot-histories : {layout : Layout} {processes losses : List ℕ} {views : List View} → HistoryParts layout processes losses homes views → HistoryParts layout processes losses after views
  slot-histories {layout} {processes} {losses} {views} h = record {
    entries = slot-entries (map (λ (v : View). v.bodies) views) (map (λ (v : View). (v.made, v.sights)) views) (map (λ (v : View). v.lengths) views) h.entries;
    endings = slot-endings layout processes (map (λ (v : View). v.bodies) views) (map (λ (v : View). v.sights) views) h.endings;
    losses = slot-losses layout losses (map (λ (v : View). v.bodies) views) (map losing_of views) (map (λ (v : View). v.sights) views) h.losses;
  }

  pub slot-failures : {layout : Layout} {frames : List ℕ} {counter : ℕ} {bads weaks : List ℕ} {views : List View}
      → FailureParts layout frames counter bads weaks homes views → FailureParts layout frames counter bads weaks after views
  slot-failures {layout} {frames} {counter} {bads} {weaks} {views} h = record {
    handled = h.handled;
    counter = h.counter;
    damage = h.damage;
    marks = h.marks;
    exhaustion = h.exhaustion;
  }
