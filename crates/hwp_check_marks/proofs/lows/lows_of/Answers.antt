use Rattle.std.proofs.Common.{◌≤◌, arith}
use Rattle.hwp_check_marks.proofs.LowLaws.{all-lows, below-next}
use Rattle.hwp_check_marks.proofs.lows.lows_of.Goals as goal

pub loop-cpu-preserved : goal.loop-cpu-preserved
loop-cpu-preserved c = below-next c.args.soft c.args.report.now c.loop-cpu.cpu c.rows_on.result.now c.loop-cpu.lows c.lower_rows.new.lows c.rows_on.ensures c.loop-cpu.invariant c.in_ok-lower_rows.ensures

pub returns : goal.returns
returns c =
    let end : c.args.cpus ≤ c.loop-cpu.cpu = c.loop-cpu-test.false in
    all-lows c.args.soft c.args.report.now c.loop-cpu.cpu c.loop-cpu.lows (omega (arith, end, c.requires.each)) c.loop-cpu.invariant
