use Rattle.std.proofs.Common.{◌≡◌, ◌+◌, take, arith}
use Rattle.hwp_check_frames.specs.Beside.{rows_beside}
use Rattle.hwp_check_frames.specs.Counts.{at_key}
use Rattle.hwp_check_frames.proofs.BesideLaws.{rows-front}
use Rattle.hwp_check_frames.proofs.beside.add_rows.Goals as goal

pub add_row-requires : goal.add_row-requires
add_row-requires c = record {
  room = λ q.
      let had : at_key c.loop-row.lines q ≡ at_key c.args.lines.now q + rows_beside c.args.cpu q (take c.loop-row.row-index c.args.rows.now) = c.loop-row.invariant q in
      let low = rows-front c.args.cpu q c.args.rows.now c.loop-row.row-index in
      let room = c.requires.room q in
      omega (arith, had, low, room);
}
