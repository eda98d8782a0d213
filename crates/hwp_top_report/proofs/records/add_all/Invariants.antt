use Rattle.std.proofs.Common.{take}
use Rattle.hwp_top_report.specs.Records.{GoOn}
use Rattle.hwp_top_report.proofs.records.add_all.Given as goal

abbrev pub invariant-loop-place : goal.invariant-loop-place
invariant-loop-place l = GoOn (take l.place l.fn.own) l.fn.records.items l.records.items
