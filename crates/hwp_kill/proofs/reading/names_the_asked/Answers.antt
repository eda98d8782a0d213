use Rattle.std.proofs.Common.{arith, below_more}
use Rattle.hwp_kill.proofs.PolicyOwners.{named_right, named_wrong, process_declared, nobody, differ, equal, refused, granted}
use Rattle.hwp_kill.proofs.reading.names_the_asked.Goals as goal

pub returns-then-is_asked-names : goal.returns-then-is_asked-names
returns-then-is_asked-names c =
    let within = rw c.as_slice-declared-items.ensures at c.loop-number-test.true in
    let from = rw c.as_slice-declared-items.ensures at c.from.ensures in
    let declared = process_declared c.args.layout.now c.loop-number.number nobody c.requires within in
    let lowest = rw from at (c.lowest_slots-lowest.ensures c.from.result (omega arith)) in
    let asked = rw (c.is_some-is_used.ensures, from, c.as_slice-declared-items.ensures) at c.is_asked.ensures in
    refused (λ all. differ _ _ c.if-is_asked-names.true
    (named_wrong _ _ _ _ c.loop-number.number nobody _ _ _ within lowest asked c.names.ensures (all c.loop-number.number within)))

pub loop-number-preserved : goal.loop-number-preserved
loop-number-preserved c =
    let within = rw c.as_slice-declared-items.ensures at c.loop-number-test.true in
    let from = rw c.as_slice-declared-items.ensures at c.from.ensures in
    let declared = process_declared c.args.layout.now c.loop-number.number nobody c.requires within in
    let lowest = rw from at (c.lowest_slots-lowest.ensures c.from.result (omega arith)) in
    let asked = rw (c.is_some-is_used.ensures, from, c.as_slice-declared-items.ensures) at c.is_asked.ensures in
    below_more _ _ c.loop-number.invariant
    (named_right _ _ _ _ c.loop-number.number nobody _ _ _ within lowest asked c.names.ensures (equal _ _ c.if-is_asked-names.false))

pub returns : goal.returns
returns c = granted (λ n within. c.loop-number.invariant n (let t = c.loop-number-test.false in let i = rw c.as_slice-declared-items.ensures at c.loop-number-test.false in omega arith))
