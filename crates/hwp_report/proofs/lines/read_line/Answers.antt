use Rattle.hwp_report.proofs.LineParts.{line_read}
use Rattle.hwp_report.proofs.lines.read_line.Goals as goal

pub returns : goal.returns
returns c = line_read c.args.line.now _ _ c.in_ok-words.ensures (rw c.as_slice.ensures.value at c.read_words.ensures)
