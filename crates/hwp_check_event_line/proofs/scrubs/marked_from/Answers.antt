use Rattle.std.proofs.Common.{◌+◌, ◌≤◌, ℕ, ap, ◌∙◌, arith}
use Rattle.std.specs.Bool.{nat_lt}
use Rattle.std.specs.Int.{from_bool}
use Rattle.hwp_banks.specs.hwp_geom.Limits.{line_limit}
use Rattle.hwp_check_event_line.specs.Scrubbing.{low_of}
use Rattle.hwp_check_event_line.specs.Scrubs.{marked_from}
use Rattle.hwp_check_event_line.proofs.MarkLaws.{mark-next, one-most}
use Rattle.hwp_check_event_line.proofs.scrubs.marked_from.Goals as goal

pub loop-number-preserved : goal.loop-number-preserved
loop-number-preserved c =
    let one : c.from-count.result ≤ 1 = one-most (nat_lt c.low_at.result 64) c.from-count.result c.from-count.ensures in
    let few : c.loop-number.count ≤ c.loop-number.number = c.loop-number.invariant.1 in (
      mark-next (low_of c.args.table.now c.args.whole) c.args.place c.args.more c.loop-number.number c.loop-number.count (c.loop-number.count + c.from-count.result) (marked_from (low_of c.args.table.now c.args.whole) c.args.place c.args.more) c.loop-number-test.true
          (ap (λ (n : ℕ). c.loop-number.count + n) (c.from-count.ensures ∙ ap (λ (l : ℕ). from_bool (nat_lt l line_limit)) c.low_at.ensures)) c.loop-number.invariant.0,
      omega (arith, one, few),
    )
