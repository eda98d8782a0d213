use Rattle.std.proofs.Common.{◌≤◌, arith}
use Rattle.hwp_check_frames.proofs.GivenLaws.{all-given, below-next}
use Rattle.hwp_check_frames.proofs.given.given_of.Goals as goal

pub loop-cpu-preserved : goal.loop-cpu-preserved
loop-cpu-preserved c = below-next c.args.report.now c.loop-cpu.cpu c.rows_on.result.now c.loop-cpu.given c.give_rows.new.given c.rows_on.ensures c.loop-cpu.invariant c.in_ok-give_rows.ensures

pub returns : goal.returns
returns c =
    let end : c.args.cpus ≤ c.loop-cpu.cpu = c.loop-cpu-test.false in
    all-given c.args.report.now c.loop-cpu.cpu c.loop-cpu.given (omega (arith, end, c.requires.each)) c.loop-cpu.invariant
