use Rattle.std.proofs.Common.{◌<◌, ◌^◌, take}
use Rattle.std.specs.List.{All}
use Rattle.hwp_law.specs.hwp_report_text.declared.FrameLine.{FrameLine}
use Rattle.hwp_check_events.proofs.processors.small_masks.Given as goal

abbrev pub invariant-loop-line : goal.invariant-loop-line
invariant-loop-line l = All (λ (f : FrameLine). (f.bad.0 < 2 ^ 64) × (f.weak.0 < 2 ^ 64)) (take l.line-index l.fn.report.frames)
