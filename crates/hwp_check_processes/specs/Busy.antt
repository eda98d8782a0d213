-- Which commands of a processor do something: they have an entry, or an event line. And which have a guest's line.
use Rattle.std.specs.Prelude.{◌≡◌, ℕ, ◌==◌, Bool, true, false, List, fold, replicate, slice_set, if◌then◌else◌}
use Rattle.hwp_check_rules.specs.hwp_geom.declared.Cpu.{Cpu}
use Rattle.hwp_check_rules.specs.hwp_page.declared.Entry.{Entry}
use Rattle.hwp_check_rules.specs.hwp_report_text.declared.CpuLine.{CpuLine}
use Rattle.hwp_check_rules.specs.hwp_report_text.declared.CpuLine.TheVariants as lines
use Rattle.hwp_check_rules.specs.hwp_report_text.declared.Report.{Report}

-- the flags after an entry, after some entries, and after a line
abbrev pub marked_by : Cpu → List Bool → Entry → List Bool
marked_by cpu flags e = if e.who.cpu.0 == cpu.0 then slice_set flags e.who.seq true else flags

abbrev pub marked_in : Cpu → List Bool → List Entry → List Bool
marked_in cpu flags entries = fold (marked_by cpu) flags entries

abbrev pub told_by : List Bool → CpuLine → List Bool
told_by flags (lines.Event event) = slice_set flags event.seq true
told_by flags line = flags

-- those of so many commands, after all entries and all lines
abbrev pub busy_by : Report → Cpu → ℕ → List CpuLine → List Bool
busy_by report cpu commands rows = fold told_by (fold (marked_in cpu) (replicate commands false) report.pages) rows

-- the flags after a line of a guest, and after all lines
abbrev pub guest_by : List Bool → CpuLine → List Bool
guest_by flags (lines.Guest line) = slice_set flags line.seq true
guest_by flags line = flags

abbrev pub guests_by : ℕ → List CpuLine → List Bool
guests_by commands rows = fold guest_by (replicate commands false) rows
