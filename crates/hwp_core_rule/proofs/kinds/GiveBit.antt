-- A frame in hand made free again keeps the frame rule.
use Rattle.std.proofs.Common.{arith}
use Rattle.hwp_page.specs.hwp_geom.declared.Frame.{Frame}
use Rattle.hwp_core_rule.proofs.Keeps.{Keeps}
use Rattle.hwp_core_rule.proofs.FreeAndHand.{bit-given}
use Rattle.hwp_core_rule.specs.declared.step.Step.TheVariants as steps

pub keeps-give_bit : (frame : Frame) → Keeps (steps.GiveBit frame)
keeps-give_bit frame layout w homes views seat v who content given =
    bit-given layout w homes views seat v given.me given.rule frame (omega (arith, given.place, given.shaped.frees)) given.sound.kernel given.shaped.frames given.asks
