use Rattle.std.proofs.Common.{◌≡◌, ◌≢◌, [], length, rules}
use Rattle.hwp_report.proofs.ByteWalk.{fault-end, fault-line, fault-rest, going-on, read-whole}
use Rattle.hwp_report.proofs.reading.read.Goals as goal

pub returns-in-None-clause-fault : goal.returns-in-None-clause-fault
returns-in-None-clause-fault c =
    fault-line c.args.bytes.now c.loop-line.rest.now c.in-Some.line.now c.in-Some.behind.now c.loop-line.partial c.loop-line.number c.loop-line.invariant
    c.in-Some.ensures (rw c.in-None.is at c.in_ok-next.ensures)

pub loop-line-preserved : goal.loop-line-preserved
loop-line-preserved c =
    going-on c.args.bytes.now c.loop-line.rest.now c.in-Some.line.now c.in-Some.behind.now c.loop-line.partial c.in-Some-2.next c.loop-line.number
    c.loop-line.invariant c.in-Some.ensures (rw c.in-Some-2.is at c.in_ok-next.ensures)

pub returns-then-not-is_empty-clause-fault : goal.returns-then-not-is_empty-clause-fault
returns-then-not-is_empty-clause-fault c =
    let some : c.loop-line.rest.now ≢ [] = search rules in
    fault-rest c.args.bytes.now c.loop-line.rest.now c.loop-line.partial c.loop-line.number c.loop-line.invariant c.in_default.ensures some

pub returns-in-Whole-clause-report : goal.returns-in-Whole-clause-report
returns-in-Whole-clause-report c =
    let none : length c.loop-line.rest.now ≡ 0 = search rules in
    read-whole c.args.bytes.now c.loop-line.rest.now c.loop-line.partial c.in-Whole.report c.loop-line.number c.loop-line.invariant c.in-Whole.is none

pub returns-in_default-partial : goal.returns-in_default-partial
returns-in_default-partial c = record {
  report = tt;
  fault =
      fault-end c.args.bytes.now c.loop-line.rest.now c.loop-line.partial c.loop-line.number c.loop-line.invariant c.in_default.ensures
      c.in_default-partial.not-Whole;
}
