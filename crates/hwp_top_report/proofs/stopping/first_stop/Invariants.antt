use Rattle.std.proofs.Common.{◌≡◌, ℕ, ◌<◌, Some, slice_get}
use Rattle.hwp_cpu_row.specs.hwp_report_text.declared.Answer.TheVariants as answers
use Rattle.hwp_cpu_row.specs.declared.Row.{Row}
use Rattle.hwp_top_report.proofs.stopping.first_stop.Given as goal

abbrev pub invariant-loop-number : goal.invariant-loop-number
invariant-loop-number l = (i : ℕ) (row : Row) → i < l.number → slice_get l.fn.rows i ≡ Some row → row.answer ≡ answers.Stopped → ⊥
