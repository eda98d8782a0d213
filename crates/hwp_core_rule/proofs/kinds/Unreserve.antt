-- A reservation given back keeps the frame rule.
use Rattle.std.proofs.Common.{◌≡◌, ℕ, zero, suc, ◌+◌, ◌-◌, ◌<◌, ◌≤◌, ◌%◌, ◌^◌, List, Some, map, set, slice_get, arith}
use Rattle.std.specs.List.{sum_by}
use Rattle.hwp_page.specs.hwp_geom.Limits.{frame_limit}
use Rattle.hwp_core_rule.specs.declared.view.View.{View}
use Rattle.hwp_core_rule.specs.Rule.{FrameRule}
use Rattle.hwp_core_rule.specs.Words.{free_bit, sum_below}
use Rattle.hwp_core_rule.specs.parts.Free.{FreeBitsAgree}
use Rattle.hwp_core_rule.proofs.Lists.{at_map, sum-set, term-le}
use Rattle.hwp_core_rule.proofs.Keeps.{Keeps}
use Rattle.hwp_core_rule.specs.declared.step.Step.TheVariants as steps
use Rattle.hwp_core_rule.proofs.FreeAndHand.{reserved-changed, few-held}

-- a sum of bits is at most their number
bits-below : (f : ℕ → ℕ) (n : ℕ) → ((i : ℕ) → f i < 2) → sum_below f n ≤ n
bits-below f zero small = omega arith
bits-below f (suc n) small = let last : f n < 2 = small n in let rest : sum_below f n ≤ n = bits-below f n small in omega arith

pub keeps-unreserve : Keeps steps.Unreserve
keeps-unreserve layout w homes views seat v who content given =
    reserved-changed layout w homes views seat v given.me h ((w.available + 1) % 2 ^ 64) (v.reserved - 1) free (omega (arith, few-held layout w homes views seat v given.me h))
  where
    h : FrameRule layout w homes views
    h = given.rule

    reserved : List ℕ
    reserved = map (λ (v : View). v.reserved) views

    there : slice_get reserved seat ≡ Some v.reserved
    there = at_map (λ (v : View). v.reserved) views seat v given.me

    free : FreeBitsAgree layout.frames w.frees ((w.available + 1) % 2 ^ 64) (set reserved seat (v.reserved - 1))
    free =
        let some : 0 < v.reserved = given.asks in
        let total : sum_by (λ (n : ℕ). n) (set reserved seat (v.reserved - 1)) + v.reserved ≡ sum_by (λ (n : ℕ). n) reserved + (v.reserved - 1) = sum-set (λ (n : ℕ). n) reserved seat v.reserved (v.reserved - 1) there in
        let number : sum_below (free_bit w.frees) layout.frames ≡ w.available + sum_by (λ (n : ℕ). n) reserved = h.frames.free.number in
        let few : sum_below (free_bit w.frees) layout.frames ≤ layout.frames = bits-below (free_bit w.frees) layout.frames (λ f. omega arith) in
        let frames : layout.frames ≤ frame_limit = given.sound.frames in
        let mine : v.reserved ≤ sum_by (λ (n : ℕ). n) reserved = term-le (λ (n : ℕ). n) reserved seat v.reserved there in
        record { number = omega arith; within = h.frames.free.within }
