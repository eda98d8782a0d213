use Rattle.std.proofs.Common.{◌≡◌, ◌-◌, drop, length}
use Rattle.hwp_check_evidence.specs.Windows.{AreStarts, start_of}
use Rattle.hwp_check_evidence.proofs.windows.starts.Given as goal

abbrev pub invariant-loop-back : goal.invariant-loop-back
invariant-loop-back l =
    (length l.list ≡ l.back) × (l.start ≡ start_of l.fn.cpu (drop (length l.fn.entries - l.back) l.fn.entries)) × AreStarts l.fn.cpu l.fn.entries l.list
