use Rattle.std.proofs.Common.{◌≡◌, ℕ, Some, length, slice_get}
use Rattle.hwp_law.specs.hwp_report_text.declared.FrameLine.{FrameLine}
use Rattle.hwp_check_event_line.specs.declared.nears.Nears.{Nears}
use Rattle.hwp_check_event_line.specs.Nears.{AreNears}
use Rattle.hwp_check_event_line.proofs.nears.past_of.Given as goal

abbrev pub invariant-loop-line : goal.invariant-loop-line
invariant-loop-line l =
    (length l.all.items ≡ l.line-index)
    × ((frame : ℕ) (line : FrameLine) (nears : Nears) → slice_get l.fn.frames frame ≡ Some line → slice_get l.all.items frame ≡ Some nears → AreNears l.fn.cpu line.marks nears)
