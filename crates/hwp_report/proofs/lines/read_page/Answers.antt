use Rattle.hwp_report.proofs.NoLines.{no_page}
use Rattle.hwp_report.proofs.lines.read_page.Goals as goal

pub returns-in_default : goal.returns-in_default
returns-in_default c = no_page _ c.in_default.ensures
