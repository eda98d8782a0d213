use Rattle.std.proofs.Common.{◌≡◌}
use Rattle.hwp_check_rules.specs.Standing.{cpu_line}
use Rattle.hwp_check_answers.proofs.OfflinedOrder.{DueUnder}
use Rattle.hwp_check_answers.proofs.offlines.offlined_lines.Given as goal

abbrev pub invariant-loop-cpu : goal.invariant-loop-cpu
invariant-loop-cpu l = (l.line ≡ cpu_line l.fn.report l.cpu) × DueUnder l.fn.script l.fn.report l.cpu
