use Rattle.hwp_report.proofs.NoLines.{no_cpu}
use Rattle.hwp_report.proofs.lines.read_cpu.Goals as goal

pub returns-in_default : goal.returns-in_default
returns-in_default c = no_cpu _ c.in_default.ensures
