use Rattle.std.proofs.Common.{◌≡◌, take, sum_by}
use Rattle.hwp_report.specs.Counts.{capped, signals_in}
use Rattle.hwp_report.proofs.counting.signals.Given as goal

abbrev pub invariant-loop-page : goal.invariant-loop-page
invariant-loop-page l = l.sum ≡ capped (sum_by signals_in (take l.page-index l.fn.pages))
