-- What a step that takes a frame's poison back leaves of the failures of frames, and what a task has to pay for it.
use Rattle.std.proofs.Common.{◌≡◌, ◌≢◌, ℕ, ◌+◌, ◌*◌, ◌^◌, ◌<◌, ◌≤◌, ◌==◌, ◌⊎◌, inl, inr, Bool, true, false, List, Some, length, set, slice_get, slice_index, refl, sym, ap, ◌∙◌, subst, arith}
use Rattle.std.specs.List.{sum_by}
use prog.Atomic.{either}
use Rattle.std.proofs.lemmas.Bool.{both_ways, eqb-true}
use Rattle.std.proofs.lemmas.List.{get_or-set_same, get_or-set_other}
use Rattle.std.proofs.lemmas.Option.{same_Some, slice_get-get_or}
use Rattle.hwp_page.specs.hwp_geom.declared.Frame.{Frame}
use Rattle.hwp_page.specs.hwp_geom.declared.Layout.{Layout}
use Rattle.hwp_page.specs.hwp_geom.Limits.{command_limit, cpu_limit}
use Rattle.hwp_words.specs.Frames.{poison_of, cycle_of, is_poisoned, is_handled, is_kernel}
use Rattle.hwp_words.proofs.FrameSteps.{fields-revived}
use Rattle.hwp_core_rule.specs.declared.record.State.{State}
use Rattle.hwp_core_rule.specs.declared.step.Step.{Step}
use Rattle.hwp_core_rule.specs.declared.step.Step.TheVariants as steps
use Rattle.hwp_core_rule.specs.Asks.{AsksOf, CanRevive}
use Rattle.hwp_core_rule.specs.Steps.{place_of, word_after, exchanged, revived}
use Rattle.hwp_core_rule.specs.Words.{Words, read, put, IsPlace}
use Rattle.hwp_core_rule.proofs.bounds.CycleBounds.{cycles-few}
use Rattle.hwp_core_rule.proofs.Lists.{same-or, sum-set}
use Rattle.hwp_core_rule.proofs.MoveKeeps.{shaped}
use Rattle.hwp_core_rule.specs.declared.turn.Turn.{Turn}
use Rattle.hwp_core_rule.specs.Calls.{logs, rec_of}
use Rattle.hwp_core_rule.specs.Turns.{Member}
use Rattle.hwp_core_rule.specs.Ranks.{Made, PaysRevival, Pending, PlansLasting, PlansMild, failures_left, words_at}
use Rattle.hwp_core_rule.proofs.tasks.Failures.{left_of, mild-leaves}
use Rattle.hwp_core_rule.proofs.tasks.StepRanks.{failures-kept, met, words-after, words-kept}

-- a task that plans no revival pays for all that it makes
pub lasting-pays : {S : Type 0} (m : Member S) → PlansLasting m → PaysRevival m
lasting-pays m lasting layout seat a b s t turn made = inl (failures-kept made (lasting s made.step made.planned))

pub mild-pays : {S : Type 0} (m : Member S) → PlansMild m → PaysRevival m
mild-pays m mild = lasting-pays m (λ s step is. mild-leaves step (mild s step is))

-- a failure of the same word isn't ended either
pending-same : (w v : Words) (frame : Frame) (cycle : ℕ) → slice_index v.frames frame.0 ≡ slice_index w.frames frame.0 → Pending v frame cycle → Pending w frame cycle
pending-same w v frame cycle same pending = record {
  poisoned = sym (ap is_poisoned same) ∙ pending.poisoned;
  handled = sym (ap is_handled same) ∙ pending.handled;
  kernel = sym (ap is_kernel same) ∙ pending.kernel;
  cycle_is = sym (ap cycle_of same) ∙ pending.cycle_is;
}

missed-word : (seen found : ℕ) → (found == seen) ≡ false → exchanged seen (revived seen) found ≡ found
missed-word seen found other = ap (λ (b : Bool). either b (revived seen) found) other

left-most : (x : ℕ) → left_of x ≤ 2
left-most x = omega arith

module _ {S : Type 0} {m : Member S} {layout : Layout} {seat : ℕ} {a b : State} {s t : S} {turn : Turn} (made : Made m layout seat a b s t turn) (frame : Frame) (seen : ℕ) (e : Some (steps.Revive frame seen) ≡ Some made.step) where
  step-is : made.step ≡ steps.Revive frame seen
  step-is = sym (same_Some (steps.Revive frame seen) made.step e)

  abbrev was : List ℕ
  was = (words_at layout a).frames

  abbrev word : ℕ
  word = slice_index was frame.0

  -- what the step makes of it
  abbrev now : ℕ
  now = exchanged seen (revived seen) made.found

  was-long : length was ≡ layout.frames
  was-long = (shaped layout a made.rule).frames

  inside : frame.0 < layout.frames
  inside = subst (λ (x : Step). IsPlace layout (place_of x)) step-is made.move.asks.place

  there : slice_get was frame.0 ≡ Some word
  there = slice_get-get_or was frame.0 0 (omega (arith, inside, was-long))

  found-is : made.found ≡ word
  found-is = sym (ap (λ (x : Step). read (place_of x) (words_at layout a)) (sym step-is) ∙ met made)

  frames-are : (words_at layout b).frames ≡ set was frame.0 now
  frames-are = ap (λ (w : Words). w.frames) (words-after made) ∙ ap (λ (x : Step). (put (place_of x) (word_after x made.found) (words_at layout a)).frames) step-is

  -- where it met another word than it names, all words stay
  pub revive-misses : (made.found == seen) ≡ false → words_at layout b ≡ words_at layout a
  revive-misses other = words-kept made (subst (λ (x : Step). word_after x made.found ≡ made.found) (sym step-is) (missed-word seen made.found other))

  -- else the frame may fail again: it may be poisoned, and retired
  pub revive-rises : failures_left (words_at layout b) ≤ failures_left (words_at layout a) + 2
  revive-rises =
      let changed : sum_by left_of (set was frame.0 now) + left_of word ≡ sum_by left_of was + left_of now = sum-set left_of was frame.0 word now there in
      let most : left_of now ≤ 2 = left-most now in
      let all : failures_left (words_at layout b) ≡ sum_by left_of (set was frame.0 now) = ap (sum_by left_of) frames-are in
      omega (arith, changed, most, all)

  can : made.found ≡ seen → CanRevive made.move.view (m.who s).cpu word
  can same = subst (CanRevive made.move.view (m.who s).cpu) (sym same ∙ found-is)
      (subst (λ (x : Step). AsksOf layout (m.who s) x (rec_of layout (m.who s) made.step (logs (m.put s)) made.found made.got).content made.move.view) step-is made.move.asks.kind)

  -- a frame just revived isn't poisoned
  clean : made.found ≡ seen → poison_of (revived word) ≡ 0
  clean same = (fields-revived word fits poisoned (can same).handled (can same).alone room).poison
    where
      fits : word < 2 ^ 64
      fits = subst (λ (n : ℕ). n < 2 ^ 64) found-is made.move.fits

      poisoned : poison_of word ≡ 1
      poisoned = (made.rule.rule.failures.handled.out frame.0 word there (can same).handled).poisoned

      room : cycle_of word + 1 < 2 ^ 20
      room =
          let few : cycle_of word ≤ layout.cpus * command_limit = cycles-few layout (words_at layout a) a.homes a.views made.rule.rule frame.0 word there in
          let cpus : layout.cpus ≤ cpu_limit = made.rule.sound.cpus in
          omega (arith, few, cpus)

  -- a failure that isn't ended after it wasn't before it
  pub revive-pending : (of : Frame) (cycle : ℕ) → Pending (words_at layout b) of cycle → Pending (words_at layout a) of cycle
  revive-pending of cycle pending = which (same-or of.0 frame.0) (made.found == seen) refl
    where
      after : slice_index (words_at layout b).frames of.0 ≡ slice_index (set was frame.0 now) of.0
      after = ap (λ (l : List ℕ). slice_index l of.0) frames-are

      here : of.0 ≡ frame.0 → slice_index (words_at layout b).frames of.0 ≡ now
      here same = after ∙ ap (λ (i : ℕ). slice_index (set was frame.0 now) i) same ∙ get_or-set_same was frame.0 now 0 (omega (arith, inside, was-long))

      which : (of.0 ≡ frame.0) ⊎ (of.0 ≢ frame.0) → (b : Bool) → (made.found == seen) ≡ b → Pending (words_at layout a) of cycle
      which (inr other) went is = pending-same (words_at layout a) (words_at layout b) of cycle (after ∙ get_or-set_other was frame.0 of.0 now 0 other) pending
      which (inl same) false missed = subst (λ (w : Words). Pending w of cycle) (revive-misses missed) pending
      which (inl same) true hit = absurd (both_ways true (sym pending.poisoned ∙ ap is_poisoned word-is ∙ ap (λ (n : ℕ). n == 1) (clean (eqb-true made.found seen hit))) refl)
        where
          word-is : slice_index (words_at layout b).frames of.0 ≡ revived word
          word-is = here same ∙ ap (λ (x : Bool). either x (revived seen) made.found) hit ∙ ap revived (sym (eqb-true made.found seen hit) ∙ found-is)
