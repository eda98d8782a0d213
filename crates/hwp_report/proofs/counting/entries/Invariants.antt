use Rattle.std.proofs.Common.{◌≡◌, take, List, length, sum_by}
use Rattle.hwp_report_text.specs.hwp_page.declared.Entry.{Entry}
use Rattle.hwp_report.specs.Counts.{capped}
use Rattle.hwp_report.proofs.counting.entries.Given as goal

abbrev pub invariant-loop-page : goal.invariant-loop-page
invariant-loop-page l = l.sum ≡ capped (sum_by (λ (p : List Entry). length p) (take l.page-index l.fn.pages))
