-- What was done about an event: it stopped the machine, or it was a panic.
use Rattle.std.specs.Prelude.{Bool, true, false}
use Rattle.hwp_report_text.specs.declared.lines.Acted.{Acted}
use Rattle.hwp_report_text.specs.declared.lines.Acted.TheVariants as acts

abbrev pub is_stopping : Acted → Bool
is_stopping acts.Stop = true
is_stopping _ = false

abbrev pub is_panic : Acted → Bool
is_panic acts.Panic = true
is_panic _ = false
