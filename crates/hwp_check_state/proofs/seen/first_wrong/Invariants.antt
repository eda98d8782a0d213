use Rattle.std.proofs.Common.{take}
use Rattle.std.specs.List.{All}
use Rattle.hwp_check_state.specs.Sights.{IsFirstOf, IsRight, IsSmall, IsWrong}
use Rattle.hwp_check_state.proofs.seen.first_wrong.Given as goal

abbrev pub invariant-loop-sight : goal.invariant-loop-sight
invariant-loop-sight l =
    IsFirstOf (IsRight l.fn.script l.fn.report) (IsWrong l.fn.script l.fn.report) (take l.sight-index l.fn.list) l.found × All IsSmall (take l.sight-index l.fn.list)
