use Rattle.std.proofs.Common.{List, Option, [], unwrap_or, refl, sym, ap, ◌∙◌}
use Rattle.hwp_law.specs.hwp_report_text.declared.CpuLine.{CpuLine}
use Rattle.hwp_check_event_line.proofs.Lookups.{found-there, none-there}
use Rattle.hwp_check_event_line.proofs.reading.rows_at.Goals as goal

pub returns-in-Some : goal.returns-in-Some
returns-in-Some c =
    c.as_slice-in-Some.ensures
    ∙ sym (ap (λ (o : Option (List CpuLine)). unwrap_or o []) (found-there c.as_slice.result.now c.args.report.now.cpus c.args.number c.args.number c.in-Some.rows.now c.as_slice.ensures refl c.in-Some.ensures.lookup.0 c.in-Some.ensures.lookup.1))

pub returns-in-None : goal.returns-in-None
returns-in-None c = sym (ap (λ (o : Option (List CpuLine)). unwrap_or o []) (none-there c.as_slice.result.now c.args.report.now.cpus c.args.number c.args.number c.as_slice.ensures refl c.in-None.ensures.lookup.0))
