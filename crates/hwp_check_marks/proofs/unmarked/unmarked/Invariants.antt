use Rattle.std.proofs.Common.{◌≡◌, None, drop}
use Rattle.hwp_check_marks.specs.Unmarked.{is_unmarked, lowest_cpu}
use Rattle.hwp_check_marks.proofs.unmarked.unmarked.Given as goal

abbrev pub invariant-loop-cpu : goal.invariant-loop-cpu
invariant-loop-cpu l =
    lowest_cpu (is_unmarked l.fn.script l.fn.report l.marks) l.cpu l.lowest (drop l.cpu l.fn.report.cpus)
    ≡ lowest_cpu (is_unmarked l.fn.script l.fn.report l.marks) 0 None l.fn.report.cpus
