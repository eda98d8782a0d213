use Rattle.std.proofs.Common.{sym, arith, true≢false}
use Rattle.std.proofs.lemmas.Option.{slice_get_within}
use Rattle.hwp_top_report.proofs.RowLines.{not-stopped}
use Rattle.hwp_top_report.proofs.stopping.first_stop.Goals as goal

pub loop-number-preserved : goal.loop-number-preserved
loop-number-preserved c = not-stopped c.args.rows.now c.loop-number.number c.index-rows-number.result c.index-rows-number.is (λ stopped. absurd (true≢false (sym (c.if-is_stopped.ensures.1 stopped)))) c.loop-number.invariant

pub unreachable-requires : goal.unreachable-requires
unreachable-requires c =
    let some = c.requires.some in
    let within = slice_get_within c.args.rows.now some.0 some.1 some.2 in
    c.loop-number.invariant some.0 some.1 (omega (arith, within, c.loop-number-test.false)) some.2 some.3
