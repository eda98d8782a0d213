use Rattle.std.proofs.Common.{◌≡◌, None, find, take}
use Rattle.hwp_cpu_row.specs.hwp_report_text.Acts.{is_stopping}
use Rattle.hwp_top_report.proofs.stopping.severity_cause.Given as goal

abbrev pub invariant-loop-event : goal.invariant-loop-event
invariant-loop-event l = find (λ t. is_stopping t.acted) (take l.event-index l.fn.told) ≡ None
