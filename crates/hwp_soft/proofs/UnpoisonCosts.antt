-- An `Unpoison` comes to an end: each turn lowers its cost, and its class tells what it holds.
use Rattle.std.proofs.Common.{◌≡◌, ◌≢◌, ℕ, ◌+◌, ◌*◌, ◌<◌, ◌≤◌, ◌⊎◌, ◌==◌, inl, inr, Bool, true, false, cond, [], Some, None, slice_index, refl, sym, ap, ◌∙◌, subst, arith}
use Rattle.std.proofs.lemmas.Bool.{both_ways}
use Rattle.std.proofs.lemmas.Option.{none-some, same_Some}
use Rattle.hwp_claim_frame.specs.hwp_geom.declared.Frame.{Frame}
use Rattle.hwp_claim_frame.specs.hwp_geom.declared.Layout.{Layout}
use Rattle.hwp_claim_frame.specs.hwp_words.Counters.{hardware_of}
use Rattle.hwp_claim_frame.specs.hwp_words.Frames.{count_of, cycle_of, is_poisoned}
use Rattle.hwp_claim_frame.specs.hwp_words.Stops.{is_stopped}
use Rattle.hwp_claim_frame.specs.hwp_core_rule.declared.State.{State}
use Rattle.hwp_claim_frame.specs.hwp_core_rule.declared.Step.{Step}
use Rattle.hwp_claim_frame.specs.hwp_core_rule.declared.Step.TheVariants as steps
use Rattle.hwp_claim_frame.specs.hwp_core_rule.declared.View.{View}
use Rattle.hwp_claim_frame.specs.hwp_core_rule.Lasting.{IsMild, LeavesPoison}
use Rattle.hwp_claim_frame.specs.hwp_core_rule.Steps.{place_of, word_after}
use Rattle.hwp_claim_frame.specs.hwp_core_rule.Words.{Words, read}
use Rattle.hwp_claim_frame.proofs.of_hwp_core_rule.Lists.{same-number}
use Rattle.hwp_claim_frame.specs.hwp_core_rule.declared.Turn.{Turn}
use Rattle.hwp_claim_frame.specs.hwp_core_rule.declared.Turn.TheVariants.{Moved, Changed}
use Rattle.hwp_claim_frame.specs.hwp_core_rule.Classes.{TellsClass}
use Rattle.hwp_claim_frame.specs.hwp_core_rule.Hands.{Hand, hand_of, empty}
use Rattle.hwp_claim_frame.specs.hwp_core_rule.Ranks.{Made, CostFalls, HasFrame, IsRanked, PaysRevival, Pending, failure_weight, failures_left, is_waits, stale, words_at, stale_weight}
use Rattle.hwp_claim_frame.proofs.of_hwp_core_rule.tasks.StepRanks.{failures-kept, met, pending-kept, words-kept}
use Rattle.hwp_claim_frame.proofs.of_hwp_core_rule.tasks.Revivals.{revive-misses, revive-pending, revive-rises}
use Rattle.hwp_claim_frame.proofs.of_hwp_core.TaskCosts.{left-own, met-own, stale-most}
use Rattle.hwp_soft.specs.declared.unpoison.Unpoison.{Unpoison}
use Rattle.hwp_soft.specs.declared.unpoison.UnpoisonAt.{UnpoisonAt}
use Rattle.hwp_soft.specs.declared.unpoison.UnpoisonAt.TheVariants as at
use Rattle.hwp_soft.specs.declared.unpoison.UnpoisonAnswer.TheVariants as answers
use Rattle.hwp_soft.specs.Unpoisons.{plan, plan_at, next, next_at, turn, turn_at, class, class_at, cost, cost_at, hand_at, is_revivable, premium, stale_word, Fits, task, unpoison_most}

-- ---- the cost falls

module _ (frame : Frame) where
  -- a word just shown isn't stale
  fresh : (w now : Words) (found : ℕ) → slice_index w.frames frame.0 ≡ found → now ≡ w → stale_word frame found now ≡ 0
  fresh w now found there same = ap (stale_word frame found) same ∙ ap stale (same-number (slice_index w.frames frame.0) found there)

  started-less : (now : Words) (b : Bool) → cost_at frame (cond b (at.Over answers.Stopped) at.LoadFrame) now < premium + 8
  started-less now true = omega arith
  started-less now false = omega arith

  framed-less : (now : Words) (found : ℕ) (b : Bool) → stale_word frame found now ≡ 0 → cost_at frame (cond b (at.LoadCount found) (at.Over answers.NotPoisoned)) now < premium + 7
  framed-less now found true met = let none : stale_word frame found now ≡ 0 = met in omega (arith, none)
  framed-less now found false met = omega arith

  counted-less : (w : Words) (seen : ℕ) (b : Bool) → cost_at frame (cond b (at.LoadBad seen) (at.Over answers.HardwareSeen)) w < premium + 6 + stale_word frame seen w
  counted-less w seen true = omega arith
  counted-less w seen false = omega arith

  looked-less : (w : Words) (seen found : ℕ) (b c : Bool) → cost_at frame (cond b (cond c (at.Revive seen) (at.Over (answers.InUse (count_of seen)))) (at.Over (answers.HasBad (record { 0 = found })))) w < premium + 5 + stale_word frame seen w
  looked-less w seen found true true = omega arith
  looked-less w seen found true false = omega arith
  looked-less w seen found false c = omega arith

  exchanged-less : (w now : Words) (seen found : ℕ) (b : Bool) → slice_index w.frames frame.0 ≡ found → (found == seen) ≡ b → cost_at frame (cond b (at.Uncount (cycle_of found)) at.LoadFrame) now < premium + 4 + stale_word frame seen w
  exchanged-less w now seen found true there is = omega arith
  exchanged-less w now seen found false there other = let costly : stale_word frame seen w ≡ stale_weight = ap (λ (n : ℕ). stale (n == seen)) there ∙ ap stale other in omega (arith, costly)

  -- of a step that leaves all words
  left : (w now : Words) (x : UnpoisonAt) (bound : ℕ) → now ≡ w → cost_at frame x w < bound → cost_at frame x now < bound
  left w now x bound same less = subst (λ (y : Words). cost_at frame x y < bound) (sym same) less

pub falls : (w now : Words) (u : Unpoison) (step : Step) (found : ℕ) → plan u ≡ Some step → read (place_of step) w ≡ found → (word_after step found ≡ found → now ≡ w) → cost (next u found) now < cost u w
falls w now u step found is met kept = which u.at is
  where
    which : (x : UnpoisonAt) → plan_at u.frame x ≡ Some step → cost_at u.frame (next_at x found) now < cost_at u.frame x w
    which at.LoadStop e = started-less u.frame now (is_stopped found)
    which at.LoadFrame e = framed-less u.frame now found (is_poisoned found) (fresh u.frame w now found (met-own w found e met) (left-own w now found e kept refl))
    which (at.LoadCount seen) e = left u.frame w now (next_at (at.LoadCount seen) found) _ (left-own w now found e kept refl) (counted-less u.frame w seen (hardware_of found == 0))
    which (at.LoadBad seen) e = left u.frame w now (next_at (at.LoadBad seen) found) _ (left-own w now found e kept refl) (looked-less u.frame w seen found (found == 0) (is_revivable seen))
    which (at.Revive seen) e = exchanged-less u.frame w now seen found (found == seen) (met-own w found e met) refl
    which (at.Uncount cycle) e = omega arith
    which (at.GiveBit cycle) e = omega arith
    which (at.Unreserve cycle) e = omega arith
    which (at.Over answer) e = absurd (none-some step e)

-- costs are small
pub small : (u : Unpoison) (words : Words) → cost u words ≤ unpoison_most
small u words = which u.at
  where
    with-stale : (seen n : ℕ) → n ≤ 8 → premium + n + stale_word u.frame seen words ≤ unpoison_most
    with-stale seen n few = let most : stale_word u.frame seen words ≤ stale_weight = stale-most (slice_index words.frames u.frame.0 == seen) in omega (arith, most, few)

    which : (x : UnpoisonAt) → cost_at u.frame x words ≤ unpoison_most
    which at.LoadStop = omega arith
    which at.LoadFrame = omega arith
    which (at.LoadCount seen) = with-stale seen 6 (omega arith)
    which (at.LoadBad seen) = with-stale seen 5 (omega arith)
    which (at.Revive seen) = with-stale seen 4 (omega arith)
    which (at.Uncount cycle) = omega arith
    which (at.GiveBit cycle) = omega arith
    which (at.Unreserve cycle) = omega arith
    which (at.Over answer) = omega arith

class-within : (u : Unpoison) → (1 ≤ class u) × (class u ≤ 4)
class-within u = which u.at
  where
    which : (x : UnpoisonAt) → (1 ≤ class_at x) × (class_at x ≤ 4)
    which at.LoadStop = (omega arith, omega arith)
    which at.LoadFrame = (omega arith, omega arith)
    which (at.LoadCount seen) = (omega arith, omega arith)
    which (at.LoadBad seen) = (omega arith, omega arith)
    which (at.Revive seen) = (omega arith, omega arith)
    which (at.Uncount cycle) = (omega arith, omega arith)
    which (at.GiveBit cycle) = (omega arith, omega arith)
    which (at.Unreserve cycle) = (omega arith, omega arith)
    which (at.Over answer) = (omega arith, omega arith)

-- it never waits
goes-on : (u : Unpoison) (found : ℕ) → is_waits (turn u found) ≡ false
goes-on u found = which u.at
  where
    by : (b : Bool) → is_waits (cond b Moved (Changed found)) ≡ false
    by true = refl
    by false = refl

    which : (x : UnpoisonAt) → is_waits (turn_at x found) ≡ false
    which (at.Revive seen) = by (found == seen)
    which at.LoadStop = refl
    which at.LoadFrame = refl
    which (at.LoadCount seen) = refl
    which (at.LoadBad seen) = refl
    which (at.Uncount cycle) = refl
    which (at.GiveBit cycle) = refl
    which (at.Unreserve cycle) = refl
    which (at.Over answer) = refl

module _ {layout : Layout} {seat : ℕ} {a b : State} {s t : Unpoison} {turned : Turn} (made : Made task layout seat a b s t turned) where
  lowers : CostFalls task layout a b s t
  lowers = subst (λ (x : Unpoison). cost x (words_at layout b) < cost s (words_at layout a)) (sym made.follows.0)
      (falls (words_at layout a) (words_at layout b) s made.step made.found made.planned (met made) (words-kept made))

  never-waits : is_waits turned ≡ true → ⊥
  never-waits is = both_ways true (sym is ∙ ap is_waits made.follows.1 ∙ goes-on s made.found) refl

-- ---- the class tells what is held

tells-frame : (layout : Layout) (view : View) (u : Unpoison) → Fits layout view u → HasFrame view → (class u ≡ 1) × (plan u ≢ None)
tells-frame layout view u fits some = which u.at fits.hand_is
  where
    none : hand_of view ≡ empty → ⊥
    none is = nothing some
      where
        nothing : HasFrame view → ⊥
        nothing (inl locks) = locks (ap (λ (h : Hand). h.locks) is)
        nothing (inr (inl hands)) = hands (ap (λ (h : Hand). h.hands) is)
        nothing (inr (inr reserved)) = reserved (ap (λ (h : Hand). h.reserved) is)

    which : (x : UnpoisonAt) → hand_of view ≡ hand_at u.frame x → (class_at x ≡ 1) × (plan_at u.frame x ≢ None)
    which at.LoadStop is = absurd (none is)
    which at.LoadFrame is = absurd (none is)
    which (at.LoadCount seen) is = absurd (none is)
    which (at.LoadBad seen) is = absurd (none is)
    which (at.Revive seen) is = absurd (none is)
    which (at.Uncount cycle) is = (refl, λ over. none-some steps.Uncount (sym over))
    which (at.GiveBit cycle) is = (refl, λ over. none-some (steps.GiveBit u.frame) (sym over))
    which (at.Unreserve cycle) is = (refl, λ over. none-some steps.Unreserve (sym over))
    which (at.Over answer) is = absurd (none is)

-- no page's lock is held
no-pages : (layout : Layout) (view : View) (u : Unpoison) → Fits layout view u → view.pages ≡ []
no-pages layout view u fits = ap (λ (h : Hand). h.pages) fits.hand_is ∙ which u.at
  where
    which : (x : UnpoisonAt) → (hand_at u.frame x).pages ≡ []
    which at.LoadStop = refl
    which at.LoadFrame = refl
    which (at.LoadCount seen) = refl
    which (at.LoadBad seen) = refl
    which (at.Revive seen) = refl
    which (at.Uncount cycle) = refl
    which (at.GiveBit cycle) = refl
    which (at.Unreserve cycle) = refl
    which (at.Over answer) = refl

pub tells : TellsClass task
tells = record {
  frame = tells-frame;
  page = λ layout view u fits has. absurd (has (no-pages layout view u fits));
  claim = λ layout view u frame cycle fits claims. absurd (none-some (frame, cycle) claims);
}

-- ---- the law of ranks

module _ {layout : Layout} {seat : ℕ} {a b : State} {s t : Unpoison} {turned : Turn} (made : Made task layout seat a b s t turned) where
  -- what a turn leaves of the failures that aren't ended
  still-pending : (frame : Frame) (cycle : ℕ) → Pending (words_at layout b) frame cycle → Pending (words_at layout a) frame cycle
  still-pending frame cycle pending = which s.at made.planned
    where
      mild : {other : Step} → Some other ≡ Some made.step → IsMild other → Pending (words_at layout a) frame cycle
      mild {other} e is = pending-kept made (subst IsMild (same_Some other made.step e) is) frame cycle pending

      which : (x : UnpoisonAt) → plan_at s.frame x ≡ Some made.step → Pending (words_at layout a) frame cycle
      which (at.Revive seen) e = revive-pending made s.frame seen e frame cycle pending
      which at.LoadStop e = mild e tt
      which at.LoadFrame e = mild e tt
      which (at.LoadCount seen) e = mild e tt
      which (at.LoadBad seen) e = mild e tt
      which (at.Uncount cycle) e = mild e tt
      which (at.GiveBit cycle) e = mild e tt
      which (at.Unreserve cycle) e = mild e tt
      which (at.Over answer) e = absurd (none-some made.step e)

  abbrev Paid : Type 0
  Paid =
      (failures_left (words_at layout b) ≤ failures_left (words_at layout a))
      ⊎ (cost t (words_at layout b) + failure_weight * failures_left (words_at layout b) < cost s (words_at layout a) + failure_weight * failures_left (words_at layout a))

  -- the exchange pays for the two failures that the frame may have once more
  revival-paid : (seen : ℕ) → s.at ≡ at.Revive seen → Some (steps.Revive s.frame seen) ≡ Some made.step → (went : Bool) → (made.found == seen) ≡ went → Paid
  revival-paid seen at_is e false other = inl (let same : failures_left (words_at layout b) ≡ failures_left (words_at layout a) = ap failures_left (revive-misses made s.frame seen e other) in omega (arith, same))
  revival-paid seen at_is e true is = inr (
      let rises : failures_left (words_at layout b) ≤ failures_left (words_at layout a) + 2 = revive-rises made s.frame seen e in
      let now : cost t (words_at layout b) ≡ 3 =
      ap (λ (x : Unpoison). cost x (words_at layout b)) made.follows.0 ∙ ap (λ (x : UnpoisonAt). cost_at s.frame (next_at x made.found) (words_at layout b)) at_is
      ∙ ap (λ (went : Bool). cost_at s.frame (cond went (at.Uncount (cycle_of made.found)) at.LoadFrame) (words_at layout b)) is in
      let was : cost s (words_at layout a) ≡ premium + 4 + stale_word s.frame seen (words_at layout a) = ap (λ (x : UnpoisonAt). cost_at s.frame x (words_at layout a)) at_is in
      omega (arith, rises, now, was)
      )

  paid : Paid
  paid = which s.at refl made.planned
    where
      lasts : {other : Step} → Some other ≡ Some made.step → LeavesPoison other → Paid
      lasts {other} e is = inl (failures-kept made (subst LeavesPoison (same_Some other made.step e) is))

      which : (x : UnpoisonAt) → s.at ≡ x → plan_at s.frame x ≡ Some made.step → Paid
      which (at.Revive seen) at_is e = revival-paid seen at_is e (made.found == seen) refl
      which at.LoadStop at_is e = lasts e tt
      which at.LoadFrame at_is e = lasts e tt
      which (at.LoadCount seen) at_is e = lasts e tt
      which (at.LoadBad seen) at_is e = lasts e tt
      which (at.Uncount cycle) at_is e = lasts e tt
      which (at.GiveBit cycle) at_is e = lasts e tt
      which (at.Unreserve cycle) at_is e = lasts e tt
      which (at.Over answer) at_is e = absurd (none-some made.step e)

pub pays : PaysRevival task
pays layout seat a b s t turned made = paid made

pub ranked : IsRanked task
ranked = record {
  classes = class-within;
  small = λ layout a seat s rule fits. let few : cost s (words_at layout a) ≤ unpoison_most = small s (words_at layout a) in omega (arith, few);
  falls = λ layout seat a b s t turned made goes. inl (lowers made);
  waits = λ layout seat a b s t turned made is quiet. absurd (never-waits made is);
  leaves = λ layout seat a b s t turned made aborts. absurd (both_ways true (sym aborts) refl);
  owns = λ layout seat a b s t turned frame cycle made going pending. inr (still-pending made frame cycle pending, λ claims. none-some (frame, cycle) claims);
}
