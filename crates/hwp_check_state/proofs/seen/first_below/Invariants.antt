use Rattle.std.proofs.Common.{take}
use Rattle.hwp_check_state.specs.Sights.{IsBelow, IsFirstOf, IsNotBelow, IsTop}
use Rattle.hwp_check_state.proofs.seen.first_below.Given as goal

abbrev pub invariant-loop-sight : goal.invariant-loop-sight
invariant-loop-sight l = IsFirstOf (IsNotBelow l.list) (IsBelow l.list) (take l.sight-index l.list) l.found × IsTop (take l.sight-index l.list) l.group l.top
