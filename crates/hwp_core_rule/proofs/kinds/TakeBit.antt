-- A free frame taken in hand keeps the frame rule.
use Rattle.std.proofs.Common.{◌≡◌, ℕ, ◌-◌, ◌*◌, ◌/◌, ◌%◌, ◌^◌, ◌<◌, ◌==◌, Bool, true, false, cond, List, [], ◌∷◌, ◌++◌, length, set, get_or, bit_and, w64, inl, inr, refl, sym, subst, arith}
use Rattle.std.specs.Int.{bit_not}
use Rattle.std.proofs.lemmas.Bool.{eqb-true}
use Rattle.hwp_page.specs.hwp_geom.declared.Frame.{Frame}
use Rattle.hwp_core_rule.specs.Rule.{FrameRule}
use Rattle.hwp_core_rule.specs.Steps.{place_of, goes}
use Rattle.hwp_core_rule.specs.Views.{sighted, stamp_of, unpoisoned}
use Rattle.hwp_core_rule.specs.Words.{free_bit}
use Rattle.hwp_core_rule.proofs.Lists.{same-or, same-number, not-both}
use Rattle.hwp_core_rule.proofs.Bits.{cleared-none}
use Rattle.hwp_core_rule.proofs.Sights.{keeps-sight, explained-free}
use Rattle.hwp_core_rule.proofs.Keeps.{Keeps}
use Rattle.hwp_core_rule.proofs.FreeAndHand.{bit-taken}
use Rattle.hwp_core_rule.specs.declared.step.Step.TheVariants as steps

pub keeps-take_bit : (frame : Frame) → Keeps (steps.TakeBit frame)
keeps-take_bit frame layout w homes views seat v who content given = which (goes (steps.TakeBit frame) word) refl
  where
    word : ℕ
    word = get_or w.frees (frame.0 / 64) 0

    left : List ℕ
    left = set w.frees (frame.0 / 64) (bit_and word (bit_not w64 (1 * 2 ^ (frame.0 % 64) % 2 ^ 64)))

    within : frame.0 / 64 < length w.frees
    within = omega (arith, given.place, given.shaped.frees)

    which : (b : Bool) → goes (steps.TakeBit frame) word ≡ b
        → FrameRule layout (record w { frees = left }) homes
        (set views seat (cond b (record v { reserved = v.reserved - 1; hands = v.hands ++ unpoisoned frame ∷ [] }) (sighted who (place_of (steps.TakeBit frame)) word v)))
    which true is = bit-taken layout w homes views seat v given.me given.rule frame within given.sound.kernel given.shaped.frames given.asks.0 given.asks.1 (eqb-true (word / 2 ^ (frame.0 % 64) % 2) 1 is)
    which false isnt =
        subst (λ (frees : List ℕ). FrameRule layout (record w { frees = frees }) homes (set views seat (sighted who (place_of (steps.TakeBit frame)) word v))) (sym same)
        (keeps-sight layout w homes views seat v who (place_of (steps.TakeBit frame)) word given.me given.past (explained-free layout w homes views (stamp_of who v) (frame.0 / 64) word) given.rule)
      where
        none : free_bit w.frees frame.0 ≡ 0
        none = elim (same-or (word / 2 ^ (frame.0 % 64) % 2) 1) [
          | inl set ↦ absurd (not-both (word / 2 ^ (frame.0 % 64) % 2 == 1) (same-number (word / 2 ^ (frame.0 % 64) % 2) 1 set) isnt)
          | inr clear ↦ omega arith
        ]

        same : left ≡ w.frees
        same = cleared-none w.frees frame.0 within given.fits none
