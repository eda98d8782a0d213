use Rattle.hwp_report.proofs.CutLaws.{cut_behind}
use Rattle.hwp_report.proofs.cuts.first_line.Goals as goal

pub returns : goal.returns
returns c = cut_behind c.args.text.now _ (rw c.in-Some.is at c.first_feed.ensures)
