use Rattle.std.proofs.Common.{arith}
use Rattle.hwp_plain.specs.TraceText.{turn_line}
use Rattle.hwp_plain.proofs.NumberedLists.{put-numbered}
use Rattle.hwp_plain.proofs.printing.put_turns.Goals as goal

pub loop-number-preserved : goal.loop-number-preserved
loop-number-preserved c =
    put-numbered turn_line _ _ _ c.args.lines.now c.loop-number.number _ (omega arith) c.loop-number.invariant c.in_ok-put_turn.ensures
