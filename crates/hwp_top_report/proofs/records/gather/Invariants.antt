use Rattle.std.proofs.Common.{take}
use Rattle.hwp_top_report.specs.Records.{AreGathered}
use Rattle.hwp_top_report.proofs.records.gather.Given as goal

abbrev pub invariant-loop-cpu : goal.invariant-loop-cpu
invariant-loop-cpu l = AreGathered (take l.cpu l.fn.notes) l.fn.count l.records.items
