-- A reservation keeps the frame rule, and so does one that found no frame as expected.
use Rattle.std.proofs.Common.{◌≡◌, ℕ, ◌+◌, ◌-◌, ◌<◌, ◌==◌, eqb-true, Bool, true, false, cond, List, Some, map, set, slice_get, refl, arith}
use Rattle.std.specs.List.{sum_by}
use prog.Atomic.{either}
use Rattle.hwp_core_rule.specs.declared.view.View.{View}
use Rattle.hwp_core_rule.specs.Rule.{FrameRule}
use Rattle.hwp_core_rule.specs.Views.{sighted, stamp_of}
use Rattle.hwp_core_rule.specs.Words.{free_bit, sum_below}
use Rattle.hwp_core_rule.specs.parts.Free.{FreeBitsAgree}
use Rattle.hwp_core_rule.proofs.bounds.Exhausted.{explained-available}
use Rattle.hwp_core_rule.proofs.Keeps.{Keeps}
use Rattle.hwp_core_rule.proofs.Lists.{at_map, sum-set}
use Rattle.hwp_core_rule.proofs.Sights.{keeps-sight}
use Rattle.hwp_core_rule.specs.declared.shared_word.SharedWord.TheVariants as places
use Rattle.hwp_core_rule.specs.declared.step.Step.TheVariants as steps
use Rattle.hwp_core_rule.proofs.FreeAndHand.{reserved-changed}

pub keeps-reserve : (seen : ℕ) → Keeps (steps.Reserve seen)
keeps-reserve seen layout w homes views seat v who content given = arm (w.available == seen) refl
  where
    me : slice_get views seat ≡ Some v
    me = given.me

    h : FrameRule layout w homes views
    h = given.rule

    reserved : List ℕ
    reserved = map (λ (v : View). v.reserved) views

    there : slice_get reserved seat ≡ Some v.reserved
    there = at_map (λ (v : View). v.reserved) views seat v me

    free : w.available ≡ seen → FreeBitsAgree layout.frames w.frees (seen - 1) (set reserved seat (v.reserved + 1))
    free met =
        let some : 0 < seen = given.asks.0 in
        let total : sum_by (λ (n : ℕ). n) (set reserved seat (v.reserved + 1)) + v.reserved ≡ sum_by (λ (n : ℕ). n) reserved + (v.reserved + 1) = sum-set (λ (n : ℕ). n) reserved seat v.reserved (v.reserved + 1) there in
        let number : sum_below (free_bit w.frees) layout.frames ≡ w.available + sum_by (λ (n : ℕ). n) reserved = h.frames.free.number in
        record { number = omega arith; within = h.frames.free.within }

    arm : (b : Bool) → (w.available == seen) ≡ b
        → FrameRule layout (record w { available = either b (seen - 1) w.available }) homes (set views seat (cond b (record v { reserved = v.reserved + 1 }) (sighted who places.Available w.available v)))
    arm true met = reserved-changed layout w homes views seat v me h (seen - 1) (v.reserved + 1) (free (eqb-true w.available seen met)) (omega (arith, given.asks.1))
    arm false differs = keeps-sight layout w homes views seat v who places.Available w.available me given.past (explained-available layout w homes views (stamp_of who v) given.sound given.shaped h given.held) h
