use Rattle.std.proofs.Common.{arith}
use Rattle.hwp_script.proofs.PutLaws.{row_words}
use Rattle.hwp_script.proofs.printing.row_of.Goals as goal

pub returns : goal.returns
returns c = row_words c.args.go.now _ _ (omega arith) c.end_of_row.ensures
