use Rattle.std.proofs.Common.{◌≡◌, [], replicate}
use Rattle.hwp_top_report.proofs.records.empty_records.Given as goal

abbrev pub invariant-loop-number : goal.invariant-loop-number
invariant-loop-number l = l.records.items ≡ replicate l.number []
