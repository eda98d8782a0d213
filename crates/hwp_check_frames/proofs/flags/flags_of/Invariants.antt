use Rattle.std.proofs.Common.{◌≡◌, length}
use Rattle.hwp_check_frames.specs.Flags.{AreFlags}
use Rattle.hwp_check_frames.proofs.flags.flags_of.Given as goal

abbrev pub invariant-loop-cpu : goal.invariant-loop-cpu
invariant-loop-cpu l = (length l.flags.items ≡ l.fn.frames) × AreFlags l.fn.report l.fn.own l.fn.many l.cpu l.flags.items
