use Rattle.std.proofs.Common.{◌<◌, arith}
use Rattle.hwp_check_frames.proofs.SaidLaws.{below-next, said-room}
use Rattle.hwp_check_frames.specs.Said.{said_below}
use Rattle.hwp_check_frames.proofs.said.said_of.Goals as goal

pub note_rows-requires : goal.note_rows-requires
note_rows-requires c = record {
  room = λ q.
      let low : c.loop-cpu.cpu < c.args.cpus = c.loop-cpu-test.true in
      let room = said-room c.args.report.now c.loop-cpu.cpu c.rows_on.result.now c.loop-cpu.said.many c.loop-cpu.said.rows (omega (arith, low, c.requires.each)) c.rows_on.ensures c.loop-cpu.invariant q in
      omega (arith, room, c.requires.room);
}

pub loop-cpu-preserved : goal.loop-cpu-preserved
loop-cpu-preserved c = below-next c.args.report.now c.loop-cpu.cpu c.rows_on.result.now _ _ c.rows_on.ensures (c.in_ok-note_rows.ensures (said_below c.loop-cpu.cpu c.args.report.now) c.loop-cpu.invariant)
