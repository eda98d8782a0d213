use Rattle.std.proofs.Common.{◌<◌, ◌≤◌, length, arith}
use Rattle.hwp_check_frames.specs.Counts.{at_key}
use Rattle.hwp_check_frames.proofs.BesideLaws.{all-beside, cpus-most, cpus-next, cpus-room}
use Rattle.hwp_check_frames.proofs.beside.lines_beside.Goals as goal

pub add_rows-requires : goal.add_rows-requires
add_rows-requires c = record {
  room = λ q.
      let low : c.loop-cpu.cpu < c.args.cpus = c.loop-cpu-test.true in
      let room = cpus-room c.args.report.now c.loop-cpu.cpu (at_key c.loop-cpu.lines q) c.rows_on.result.now (omega (arith, low, c.requires.each)) c.rows_on.ensures (c.loop-cpu.invariant.1 q) in
      omega (arith, room, c.requires.room);
}

pub loop-cpu-preserved : goal.loop-cpu-preserved
loop-cpu-preserved c =
    let low : c.loop-cpu.cpu < c.args.cpus = c.loop-cpu-test.true in
    let within : c.loop-cpu.cpu < length c.args.report.now.cpus = omega (arith, low, c.requires.each) in (
      λ q. cpus-next c.loop-cpu.cpu q c.args.report.now.cpus c.rows_on.result.now (at_key c.loop-cpu.lines q) (at_key c.add_rows.new.lines q) _ within c.rows_on.ensures (c.in_ok-add_rows.ensures q) (c.loop-cpu.invariant.0 q),
      λ q. cpus-most c.loop-cpu.cpu q c.args.report.now.cpus c.rows_on.result.now (at_key c.loop-cpu.lines q) (at_key c.add_rows.new.lines q) within c.rows_on.ensures (c.in_ok-add_rows.ensures q) (c.loop-cpu.invariant.1 q),
    )

pub returns : goal.returns
returns c =
    let end : c.args.cpus ≤ c.loop-cpu.cpu = c.loop-cpu-test.false in
    all-beside c.args.report.now c.loop-cpu.lines c.loop-cpu.cpu (omega (arith, end, c.requires.each)) c.requires.room c.loop-cpu.invariant.0 c.loop-cpu.invariant.1
