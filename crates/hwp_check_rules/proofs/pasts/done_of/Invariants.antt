use Rattle.std.proofs.Common.{◌≡◌, ◌-◌, drop, length}
use Rattle.hwp_check_rules.specs.Pasts.{AreDone}
use Rattle.hwp_check_rules.proofs.pasts.done_of.Given as goal

abbrev pub invariant-loop-back : goal.invariant-loop-back
invariant-loop-back l = (length l.flags.items ≡ l.fn.count) × AreDone (drop (length l.fn.rows - l.back) l.fn.rows) l.flags.items
