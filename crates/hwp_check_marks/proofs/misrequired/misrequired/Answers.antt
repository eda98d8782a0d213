use Rattle.hwp_check_marks.proofs.MisLaws.{lowest-of}
use Rattle.hwp_check_marks.proofs.misrequired.misrequired.Goals as goal

pub returns : goal.returns
returns c =
    lowest-of c.args.report.now c.in_ok-needed.needed c.in_ok-urgent.urgent c.in_ok-said.said.many c.in_ok-said.said.rows c.as_slice-pages.result.now c.as_slice-frames.result.now c.first_page_line.result c.walk_pages.result
    c.as_slice-pages.ensures c.as_slice-frames.ensures c.first_page_line.ensures c.in_ok-said.ensures c.in_ok-needed.ensures c.in_ok-urgent.ensures c.walk_pages.ensures
