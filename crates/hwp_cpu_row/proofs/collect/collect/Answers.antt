use Rattle.std.proofs.Common.{arith}
use Rattle.hwp_cpu_row.proofs.DueLaws.{collect-next, first-lower}
use Rattle.hwp_cpu_row.proofs.collect.collect.Goals as goal

pub loop-rest-smaller : goal.loop-rest-smaller
loop-rest-smaller c =
    let some = first-lower c.loop-rest.rest.now c.loop-rest-test.ensures in
    let is = c.first_check.ensures.count in
    let left = c.split_at.ensures.back_len in
    omega (arith, some, is, left)

pub loop-rest-preserved : goal.loop-rest-preserved
loop-rest-preserved c =
    let (noted, len) = c.loop-rest.invariant in
    let more = c.note.ensures.len in
    let capacity = c.note.ensures.capacity in
    let front = c.split_at.ensures.front_len in
    let back = c.split_at.ensures.back_len in (
      collect-next c.args.layout.now c.args.told.now c.loop-rest.rest.now c.split_at.result.0.now c.split_at.result.1.now _ _ _ _ _ _ _ noted c.first_check.ensures.count c.split_at.ensures.front c.split_at.ensures.back c.note.ensures.noted,
      omega (arith, len, more, capacity, front, back),
    )
