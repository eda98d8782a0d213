use Rattle.hwp_check_frames.proofs.DueLaws.{AreDueSoFar}
use Rattle.hwp_check_frames.proofs.dues.dues_of.Given as goal

abbrev pub invariant-loop-number : goal.invariant-loop-number
invariant-loop-number l = AreDueSoFar l.fn.script.layout l.fn.commands l.fn.rows l.number l.dues.items l.on l.collector
