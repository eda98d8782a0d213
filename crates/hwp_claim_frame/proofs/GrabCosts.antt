-- The cost of a grab falls.
use Rattle.std.proofs.Common.{◌≡◌, ◌≢◌, ℕ, ◌+◌, ◌-◌, ◌/◌, ◌<◌, ◌≤◌, ◌==◌, ◌⊎◌, inl, inr, min, Bool, true, false, cond, List, [], Some, None, map, slice_get, slice_index, refl, sym, ap, ◌∙◌, subst, arith}
use Rattle.std.proofs.lemmas.Bool.{both_ways, eqb-true, ne_eqb}
use Rattle.std.proofs.lemmas.Option.{get_or_from_slice_get, none-some, same_Some, slice_get-get_or}
use Rattle.std.specs.Int.{from_bool}
use Rattle.std.specs.List.{sum_by}
use Rattle.hwp_core.specs.hwp_geom.declared.Frame.{Frame}
use Rattle.hwp_core.specs.hwp_geom.declared.Layout.{Layout}
use Rattle.hwp_core.specs.hwp_geom.declared.Who.{Who}
use Rattle.hwp_core.specs.hwp_words.Frames.{count_of}
use Rattle.hwp_core.specs.hwp_core_rule.declared.FrameInHand.{FrameInHand}
use Rattle.hwp_core.specs.hwp_core_rule.declared.SharedWord.TheVariants as places
use Rattle.hwp_core.specs.hwp_core_rule.declared.State.{State}
use Rattle.hwp_core.specs.hwp_core_rule.declared.Step.{Step}
use Rattle.hwp_core.specs.hwp_core_rule.declared.Step.TheVariants as steps
use Rattle.hwp_core.specs.hwp_core_rule.declared.View.{View}
use Rattle.hwp_core.specs.hwp_core_rule.Lists.{SomeMember}
use Rattle.hwp_core.specs.hwp_core_rule.Moves.{Move}
use Rattle.hwp_core.specs.hwp_core_rule.Opening.{opening_view}
use Rattle.hwp_core.specs.hwp_core_rule.Rule.{Holds}
use Rattle.hwp_core.specs.hwp_core_rule.Lasting.{IsMild}
use Rattle.hwp_core.specs.hwp_core_rule.Steps.{place_of, word_after}
use Rattle.hwp_core.specs.hwp_core_rule.Words.{Words, free_bit, index, put, read, sum_below}
use Rattle.hwp_core.specs.hwp_core_rule.parts.Places.{in_hand}
use Rattle.hwp_core.proofs.of_hwp_core_rule.CountsBelow.{below-term, some-term}
use Rattle.hwp_core.proofs.of_hwp_core_rule.Lists.{map-was, same-number, same-or}
use Rattle.hwp_core.proofs.of_hwp_core_rule.MoveKeeps.{shaped}
use Rattle.hwp_core.specs.hwp_core_rule.declared.Turn.{Turn}
use Rattle.hwp_core.specs.hwp_core_rule.declared.Turn.TheVariants.{Moved, Changed, Waits}
use Rattle.hwp_core.specs.hwp_core_rule.Boards.{view_of}
use Rattle.hwp_core.specs.hwp_core_rule.Calls.{rec_of}
use Rattle.hwp_core.specs.hwp_core_rule.Hands.{Hand, hand_of}
use Rattle.hwp_core.specs.hwp_core_rule.Ranks.{HasFrame, IsRanked, Made, OtherHand, is_waits, stale, words_at, stale_weight}
use Rattle.hwp_core.specs.hwp_core_rule.Turns.{Member}
use Rattle.hwp_core.proofs.of_hwp_core_rule.tasks.StepRanks.{met, pending-kept, words-after}
use Rattle.hwp_core.proofs.FreeWords.{none-cleared}
use Rattle.hwp_core.proofs.TaskCosts.{met-own, stale-most}
use Rattle.hwp_claim_frame.specs.declared.grab.Grab.{Grab}
use Rattle.hwp_claim_frame.specs.declared.grab.GrabAt.{GrabAt}
use Rattle.hwp_claim_frame.specs.declared.grab.GrabAt.TheVariants as at
use Rattle.hwp_claim_frame.specs.Grabs.{at_available, has_bit, plan, plan_at, next, next_at, turn, turn_at, Fits, held_at, class, class_at, aborts, aborts_at, is_idle, cost, cost_with, task as grab-task, grab_most}

-- ---- where a frame is

module _ (a : State) (seat : ℕ) where
  -- a frame that is in a hand, and not in the seat's own, is in that of another
  other-hand : (f : ℕ) → (view_of a seat).hands ≡ [] → 0 < in_hand f (map (λ (v : View). v.hands) a.views) → OtherHand a seat
  other-hand f none some = record { other = place; differs = differs; has = has }
    where
      hands-on : List FrameInHand → ℕ
      hands-on l = sum_by (λ (h : FrameInHand). from_bool (h.frame.0 == f)) l

      member-of : SomeMember (λ (l : List FrameInHand). 0 < hands-on l) (map (λ (v : View). v.hands) a.views)
      member-of = some-term hands-on (map (λ (v : View). v.hands) a.views) some

      place : ℕ
      place = member-of.0

      was : (v : View) × (slice_get a.views place ≡ Some v) × (v.hands ≡ member-of.1)
      was = map-was (λ (v : View). v.hands) a.views place member-of.1 member-of.2

      has : (view_of a place).hands ≢ []
      has empty = let above : 0 < hands-on member-of.1 = member-of.3 in let none : hands-on member-of.1 ≡ 0 = ap hands-on (sym was.2 ∙ ap (λ (v : View). v.hands) (sym (get_or_from_slice_get a.views place was.0 (opening_view place) was.1)) ∙ empty) in absurd (omega (arith, above, none))

      differs : place ≢ seat
      differs same = has (ap (λ (i : ℕ). (view_of a i).hands) same ∙ none)

  -- and so for a reservation
  other-reserved : (view_of a seat).reserved ≡ 0 → 0 < sum_by (λ (n : ℕ). n) (map (λ (v : View). v.reserved) a.views) → (i : ℕ) × (i ≢ seat) × ((view_of a i).reserved ≢ 0)
  other-reserved none some = (place, differs, has)
    where
      member-of : SomeMember (λ (n : ℕ). 0 < n) (map (λ (v : View). v.reserved) a.views)
      member-of = some-term (λ (n : ℕ). n) (map (λ (v : View). v.reserved) a.views) some

      place : ℕ
      place = member-of.0

      was : (v : View) × (slice_get a.views place ≡ Some v) × (v.reserved ≡ member-of.1)
      was = map-was (λ (v : View). v.reserved) a.views place member-of.1 member-of.2

      has : (view_of a place).reserved ≢ 0
      has zero-it =
          let above : 0 < member-of.1 = member-of.3 in
          let none : member-of.1 ≡ 0 = sym was.2 ∙ ap (λ (v : View). v.reserved) (sym (get_or_from_slice_get a.views place was.0 (opening_view place) was.1)) ∙ zero-it in
          absurd (omega (arith, above, none))

      differs : place ≢ seat
      differs same = has (ap (λ (i : ℕ). (view_of a i).reserved) same ∙ none)

module _ (layout : Layout) (a : State) (rule : Holds layout a) (frame : Frame) (inside : frame.0 < layout.frames) (users : slice_get layout.kernel frame.0 ≡ Some false) where
  abbrev w : Words
  w = words_at layout a

  abbrev hands-in : ℕ
  hands-in = in_hand frame.0 (map (λ (v : View). v.hands) a.views)

  placed : free_bit w.frees frame.0 + hands-in + min (count_of (slice_index w.frames frame.0)) 1 ≡ 1
  placed = rule.rule.frames.places.placed frame.0 (slice_index w.frames frame.0) there (rule.rule.frames.places.declared frame.0 (slice_index w.frames frame.0) false there users)
    where
      there : slice_get w.frames frame.0 ≡ Some (slice_index w.frames frame.0)
      there = slice_get-get_or w.frames frame.0 0 (subst (λ (n : ℕ). frame.0 < n) (sym (shaped layout a rule).frames) inside)

  -- a frame that isn't free has references, or is in a hand
  counted : free_bit w.frees frame.0 ≢ 1 → hands-in ≡ 0 → stale (is_idle frame w) ≡ stale_weight
  counted not-free unhanded = ap stale (ne_eqb (count_of (slice_index w.frames frame.0)) 0 (λ e. let none : count_of (slice_index w.frames frame.0) ≡ 0 = e in let all = placed in omega (arith, none, all, not-free, unhanded)))

  -- no frame is free, where none is available and none reserved
  none-free : w.available ≡ 0 → sum_by (λ (n : ℕ). n) (map (λ (v : View). v.reserved) a.views) ≡ 0 → free_bit w.frees frame.0 ≢ 1
  none-free none unreserved bit =
      let all : sum_below (free_bit w.frees) layout.frames ≡ w.available + sum_by (λ (n : ℕ). n) (map (λ (v : View). v.reserved) a.views) = rule.rule.frames.free.number in
      let mine : free_bit w.frees frame.0 ≤ sum_below (free_bit w.frees) layout.frames = below-term (free_bit w.frees) layout.frames frame.0 inside in
      absurd (omega (arith, none, unreserved, bit))

-- ---- turns that don't wait

-- the words after the step that was planned
now-own : {step other : Step} (w now : Words) (found : ℕ) → Some other ≡ Some step → now ≡ put (place_of step) (word_after step found) w → now ≡ put (place_of other) (word_after other found) w
now-own {step} {other} w now found is after = subst (λ (s : Step). now ≡ put (place_of s) (word_after s found) w) (sym (same_Some other step is)) after

-- a number that was just shown isn't stale
fresh : (w : Words) (found : ℕ) → w.available ≡ found → stale (w.available == found) ≡ 0
fresh w found met = ap stale (same-number w.available found met)

falls-on : (w now : Words) (g : Grab) (step : Step) (found rest back : ℕ) → back < stale_weight → plan g ≡ Some step → read (place_of step) w ≡ found → now ≡ put (place_of step) (word_after step found) w → is_waits (turn g found) ≡ false
    → cost_with rest back g.frame (next_at g.frame g.at found) now < cost_with rest back g.frame g.at w
falls-on w now g step found rest back few is met after goes = which g.at is goes
  where
    which : (x : GrabAt) → plan_at g.frame x ≡ Some step → is_waits (turn_at g.frame x found) ≡ false → cost_with rest back g.frame (next_at g.frame x found) now < cost_with rest back g.frame x w
    which at.LoadAvailable e goes = by (found == 0) goes
      where
        by : (b : Bool) → is_waits (cond b (Waits found) Moved) ≡ false → cost_with rest back g.frame (cond b at.LookAgain (at.Reserve found)) now < rest + 4 + stale (is_idle g.frame w)
        by true goes = absurd (both_ways true goes refl)
        by false goes =
            let same : stale (is_idle g.frame now) ≡ stale (is_idle g.frame w) = ap (λ (u : Words). stale (is_idle g.frame u)) (now-own w now found e after) in
            let shown : stale (now.available == found) ≡ 0 = fresh now found (ap (λ (u : Words). u.available) (now-own w now found e after)) in
            omega (arith, same, shown)
    which (at.Reserve seen) e goes = by (found == seen) refl
      where
        same : stale (is_idle g.frame now) ≡ stale (is_idle g.frame w)
        same = ap (λ (u : Words). stale (is_idle g.frame u)) (now-own w now found e after)

        number : (none : Bool) → stale (w.available == seen) ≡ stale_weight → now.available ≡ found
            → cost_with rest back g.frame (cond none at.LookAgain (at.Reserve found)) now < rest + 3 + stale (is_idle g.frame w) + stale (w.available == seen)
        number true costly left = omega (arith, few, costly)
        number false costly left = let fresh-now : stale (now.available == found) ≡ 0 = fresh now found left in let kept : stale (is_idle g.frame now) ≡ stale (is_idle g.frame w) = same in omega (arith, costly, fresh-now, kept)

        by : (b : Bool) → (found == seen) ≡ b → cost_with rest back g.frame (cond b at.TakeBit (at_available found)) now < rest + 3 + stale (is_idle g.frame w) + stale (w.available == seen)
        by true went = let kept : stale (is_idle g.frame now) ≡ stale (is_idle g.frame w) = same in omega (arith, kept)
        by false other = number (found == 0) (ap (λ (m : ℕ). stale (m == seen)) (met-own w found e met) ∙ ap stale other)
            (ap (λ (u : Words). u.available) (now-own w now found e after) ∙ ap (λ (b : Bool). cond b (seen - 1) found) other)
    which at.TakeBit e goes = by (has_bit g.frame found) goes
      where
        by : (b : Bool) → is_waits (cond b Moved (Waits found)) ≡ false → cost_with rest back g.frame (cond b at.Adopt at.Unreserve) now < rest + 2 + stale (is_idle g.frame w)
        by true goes = omega arith
        by false goes = absurd (both_ways true goes refl)
    which at.Unreserve e goes = omega arith
    which at.Adopt e goes = omega arith
    which at.LookAgain e goes = absurd (none-some step e)
    which (at.Grabbed word) e goes = absurd (none-some step e)

-- a step of a grab that is a part of a task is one of the grab itself
module _ {S : Type 0} {m : Member S} {layout : Layout} {seat : ℕ} {a b : State} {s t : S} {turned : Turn} (made : Made m layout seat a b s t turned) where
  pub grab-made : (g : Grab) (who : Who) → Fits layout (view_of a seat) g → g.who ≡ who → plan g ≡ Some made.step → Move layout seat (rec_of layout who made.step None made.found made.got) a b
      → Made grab-task layout seat a b g (next g made.found) (turn g made.found)
  grab-made g who fits own e move = record {
    step = made.step;
    found = made.found;
    got = made.got;
    rule = made.rule;
    kept = made.kept;
    fits = fits;
    planned = e;
    move = subst (λ (w : Who). Move layout seat (rec_of layout w made.step None made.found made.got) a b) (sym own) move;
    brings = made.brings;
    follows = (refl, refl);
  }

-- ---- what a parent cites: whatever is left once the frame is grabbed, and whatever is left where its word is looked at again, as long
-- as that is less than a test that fails counts

module _ {layout : Layout} {seat : ℕ} {a b : State} {s t : Grab} {turned : Turn} (made : Made grab-task layout seat a b s t turned) (rest back : ℕ) (few : back < stale_weight) where
  abbrev before : ℕ
  before = cost_with rest back s.frame s.at (words_at layout a)

  -- a turn that doesn't wait lowers the cost
  pub grab-falls : is_waits turned ≡ false → cost_with rest back t.frame t.at (words_at layout b) < before
  grab-falls goes = subst (λ (x : Grab). cost_with rest back x.frame x.at (words_at layout b) < before) (sym made.follows.0)
      (falls-on (words_at layout a) (words_at layout b) s made.step made.found rest back few made.planned (met made) (words-after made) (sym (ap is_waits made.follows.1) ∙ goes))

  -- one that waits lowers it by a test: the frame has references by now; or another has the frame in hand, and the reservation goes back
  pub grab-waits : is_waits turned ≡ true → (2 ≤ class s → (i : ℕ) → i ≢ seat → HasFrame (view_of a i) → ⊥) → (cost_with rest back t.frame t.at (words_at layout b) < before) ⊎ ((aborts t ≡ true) × OtherHand a seat)
  grab-waits waits quiet = subst (λ (x : Grab). (cost_with rest back x.frame x.at (words_at layout b) < before) ⊎ ((aborts x ≡ true) × OtherHand a seat)) (sym made.follows.0)
      (which s.at made.planned made.fits.held (sym (ap is_waits made.follows.1) ∙ waits) quiet)
    where
      has-references : free_bit (words_at layout a).frees s.frame.0 ≢ 1 → hands-in layout a made.rule s.frame made.fits.frame made.fits.users ≡ 0 → stale (is_idle s.frame (words_at layout a)) ≡ stale_weight
      has-references = counted layout a made.rule s.frame made.fits.frame made.fits.users

      which : (x : GrabAt) → plan_at s.frame x ≡ Some made.step → hand_of (view_of a seat) ≡ held_at s.frame x → is_waits (turn_at s.frame x made.found) ≡ true → (2 ≤ class_at x → (i : ℕ) → i ≢ seat → HasFrame (view_of a i) → ⊥)
          → (cost_with rest back s.frame (next_at s.frame x made.found) (words_at layout b) < cost_with rest back s.frame x (words_at layout a)) ⊎ ((aborts_at (next_at s.frame x made.found) ≡ true) × OtherHand a seat)
      which at.LoadAvailable e held waits quiet = by (made.found == 0) refl waits
        where
          unreserved : sum_by (λ (n : ℕ). n) (map (λ (v : View). v.reserved) a.views) ≡ 0
          unreserved = elim (same-or (sum_by (λ (n : ℕ). n) (map (λ (v : View). v.reserved) a.views)) 0) [
            | inl none ↦ none
            | inr some ↦ let other = other-reserved a seat (ap (λ (h : Hand). h.reserved) held) (omega (arith, some)) in absurd (quiet (omega arith) other.0 other.1 (inr (inr other.2)))
          ]

          unhanded : in_hand s.frame.0 (map (λ (v : View). v.hands) a.views) ≡ 0
          unhanded = elim (same-or (in_hand s.frame.0 (map (λ (v : View). v.hands) a.views)) 0) [
            | inl none ↦ none
            | inr some ↦ let other = other-hand a seat s.frame.0 (ap (λ (h : Hand). h.hands) held) (omega (arith, some)) in absurd (quiet (omega arith) other.other other.differs (inr (inl other.has)))
          ]

          costly : made.found ≡ 0 → stale (is_idle s.frame (words_at layout a)) ≡ stale_weight
          costly none = has-references (none-free layout a made.rule s.frame made.fits.frame made.fits.users (met-own (words_at layout a) made.found e (met made) ∙ none) unreserved) unhanded

          by : (none : Bool) → (made.found == 0) ≡ none → is_waits (cond none (Waits made.found) Moved) ≡ true
              → (cost_with rest back s.frame (cond none at.LookAgain (at.Reserve made.found)) (words_at layout b) < rest + 4 + stale (is_idle s.frame (words_at layout a)))
              ⊎ ((aborts_at (cond none at.LookAgain (at.Reserve made.found)) ≡ true) × OtherHand a seat)
          by true is waits = let most : stale (is_idle s.frame (words_at layout a)) ≡ stale_weight = costly (eqb-true made.found 0 is) in inl (omega (arith, few, most))
          by false is waits = absurd (both_ways true (sym waits) refl)
      which (at.Reserve seen) e held waits quiet = absurd (by (made.found == seen) waits)
        where
          by : (b : Bool) → is_waits (cond b Moved (Changed made.found)) ≡ true → ⊥
          by true waits = both_ways true (sym waits) refl
          by false waits = both_ways true (sym waits) refl
      which at.TakeBit e held waits quiet = by (has_bit s.frame made.found) refl waits
        where
          met-at : made.found ≡ slice_index a.words (index layout (places.Free (s.frame.0 / 64)))
          met-at = made.move.met ∙ ap (λ (x : Step). slice_index a.words (index layout (place_of x))) (sym (same_Some (steps.TakeBit s.frame) made.step e))

          not-free : has_bit s.frame made.found ≡ false → free_bit (words_at layout a).frees s.frame.0 ≢ 1
          not-free lost = (none-cleared layout a made.rule s.frame made.found made.fits.frame met-at made.move.fits lost).0

          by : (went : Bool) → has_bit s.frame made.found ≡ went → is_waits (cond went Moved (Waits made.found)) ≡ true
              → (cost_with rest back s.frame (cond went at.Adopt at.Unreserve) (words_at layout b) < rest + 2 + stale (is_idle s.frame (words_at layout a))) ⊎ ((aborts_at (cond went at.Adopt at.Unreserve) ≡ true) × OtherHand a seat)
          by true went waits = absurd (both_ways true (sym waits) refl)
          by false lost waits = elim (same-or (in_hand s.frame.0 (map (λ (v : View). v.hands) a.views)) 0) [
            | inl none ↦ let most : stale (is_idle s.frame (words_at layout a)) ≡ stale_weight = has-references (not-free lost) none in inl (omega (arith, few, most))
            | inr some ↦ inr (refl, other-hand a seat s.frame.0 (ap (λ (h : Hand). h.hands) held) (omega (arith, some)))
          ]
      which at.Unreserve e held waits quiet = absurd (both_ways true (sym waits) refl)
      which at.Adopt e held waits quiet = absurd (both_ways true (sym waits) refl)
      which at.LookAgain e held waits quiet = absurd (none-some made.step e)
      which (at.Grabbed word) e held waits quiet = absurd (none-some made.step e)

pub grab-small : (rest back : ℕ) (g : Grab) (w : Words) → cost_with rest back g.frame g.at w ≤ rest + back + grab_most
grab-small rest back g w = which g.at
  where
    idle : stale (is_idle g.frame w) ≤ stale_weight
    idle = stale-most (is_idle g.frame w)

    which : (x : GrabAt) → cost_with rest back g.frame x w ≤ rest + back + grab_most
    which at.LoadAvailable = let most : stale (is_idle g.frame w) ≤ stale_weight = idle in omega (arith, most)
    which (at.Reserve seen) = let most : stale (is_idle g.frame w) ≤ stale_weight = idle in let more : stale (w.available == seen) ≤ stale_weight = stale-most (w.available == seen) in omega (arith, most, more)
    which at.TakeBit = let most : stale (is_idle g.frame w) ≤ stale_weight = idle in omega (arith, most)
    which at.Unreserve = omega arith
    which at.Adopt = omega arith
    which at.LookAgain = omega arith
    which (at.Grabbed word) = omega arith

-- ---- the law

pub class-within : (g : Grab) → (1 ≤ class g) × (class g ≤ 4)
class-within g = which g.at
  where
    which : (x : GrabAt) → (1 ≤ class_at x) × (class_at x ≤ 4)
    which at.LoadAvailable = (omega arith, omega arith)
    which (at.Reserve seen) = (omega arith, omega arith)
    which at.TakeBit = (omega arith, omega arith)
    which at.Unreserve = (omega arith, omega arith)
    which at.Adopt = (omega arith, omega arith)
    which at.LookAgain = (omega arith, omega arith)
    which (at.Grabbed word) = (omega arith, omega arith)

-- once the reservation is given back, the frame's word is looked at again
pub grab-leaves : (g : Grab) (found : ℕ) → aborts g ≡ true → (next g found).at ≡ at.LookAgain
grab-leaves g found = which g.at
  where
    which : (x : GrabAt) → aborts_at x ≡ true → next_at g.frame x found ≡ at.LookAgain
    which at.LoadAvailable aborts = absurd (both_ways true (sym aborts) refl)
    which (at.Reserve seen) aborts = absurd (both_ways true (sym aborts) refl)
    which at.TakeBit aborts = absurd (both_ways true (sym aborts) refl)
    which at.Unreserve aborts = refl
    which at.Adopt aborts = absurd (both_ways true (sym aborts) refl)
    which at.LookAgain aborts = absurd (both_ways true (sym aborts) refl)
    which (at.Grabbed word) aborts = absurd (both_ways true (sym aborts) refl)

-- none of its steps poisons a frame or takes its poison back
pub mild : (s : Grab) (step : Step) → plan s ≡ Some step → IsMild step
mild s step is = which s.at is
  where
    which : (x : GrabAt) → plan_at s.frame x ≡ Some step → IsMild step
    which at.LoadAvailable e = subst IsMild (same_Some (steps.Load places.Available) step e) tt
    which (at.Reserve seen) e = subst IsMild (same_Some (steps.Reserve seen) step e) tt
    which at.TakeBit e = subst IsMild (same_Some (steps.TakeBit s.frame) step e) tt
    which at.Unreserve e = subst IsMild (same_Some (steps.Unreserve) step e) tt
    which at.Adopt e = subst IsMild (same_Some (steps.Adopt s.frame) step e) tt
    which at.LookAgain e = absurd (none-some step e)
    which (at.Grabbed word) e = absurd (none-some step e)

pub ranked : IsRanked grab-task
ranked = record {
  classes = class-within;
  small = λ layout a seat s rule fits. let few : cost s (words_at layout a) ≤ grab_most = grab-small 0 0 s (words_at layout a) in omega (arith, few);
  falls = λ layout seat a b s t turn made goes. inl (grab-falls made 0 0 (omega arith) goes);
  waits = λ layout seat a b s t turn made waits quiet. grab-waits made 0 0 (omega arith) waits quiet.frames;
  leaves = λ layout seat a b s t turn made aborts. inl (ap plan made.follows.0 ∙ ap (plan_at s.frame) (grab-leaves s made.found aborts));
  owns = λ layout seat a b s t turn frame cycle made going pending. inr (
    pending-kept made (mild s made.step made.planned) frame cycle pending,
    λ claimed. none-some (frame, cycle) claimed,
  );
}
