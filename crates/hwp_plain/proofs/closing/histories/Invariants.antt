use Rattle.std.proofs.Common.{map}
use Rattle.hwp_plain.specs.Openings.{home_with}
use Rattle.hwp_plain.proofs.TakenHistories.{Taken}
use Rattle.hwp_plain.proofs.closing.histories.Given as goal

abbrev pub invariant-loop-page : goal.invariant-loop-page
invariant-loop-page l = Taken l.fn.frames l.fn.caches (map home_with l.fn.bodies.items) (map home_with l.bodies.items) l.page l.pages.items
