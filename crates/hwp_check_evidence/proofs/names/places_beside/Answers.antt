use Rattle.std.proofs.Common.{None, ap, sym, ◌∙◌}
use Rattle.std.proofs.lemmas.List.{take_all}
use Rattle.std.proofs.lemmas.List.Sums.{fold_more}
use Rattle.hwp_check_evidence.specs.Firsts.{row_noted, rows_noted}
use Rattle.hwp_check_evidence.proofs.names.places_beside.Goals as goal

pub loop-row-preserved : goal.loop-row-preserved
loop-row-preserved c = λ q. (rw (c.loop-row.invariant q) at (c.in_ok-note_row.ensures q)) ∙ sym (fold_more (row_noted q) None c.args.rows.now c.loop-row.row-index _ c.loop-row-test.true)

pub returns : goal.returns
returns c = λ q. c.loop-row.invariant q ∙ ap (rows_noted q) (take_all c.loop-row.row-index c.args.rows.now c.loop-row-test.false)
