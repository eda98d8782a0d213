use Rattle.std.proofs.Common.{refl}
use Rattle.hwp_kill.proofs.PolicyOwners.{policies_read, read_declared, denied}
use Rattle.hwp_kill.proofs.reading.are_policies_read.Goals as goal

pub returns-then-not-are_declared : goal.returns-then-not-are_declared
returns-then-not-are_declared c =
    let fails = rw c.as_slice-seen.ensures at c.if-not-are_declared.ensures in
    denied fails (λ read. (read_declared c.args.layout.now c.args.maps.now c.args.current c.args.seen.now read).each)

pub returns-then-not-stand_in_order : goal.returns-then-not-stand_in_order
returns-then-not-stand_in_order c =
    let fails = rw c.as_slice-seen.ensures at c.if-not-stand_in_order.ensures in
    denied fails (λ read. read.rising)

pub returns : goal.returns
returns c =
    let declared = (rw c.as_slice-seen.ensures at c.if-not-are_declared.ensures).0 refl in
    let rising = (rw c.as_slice-seen.ensures at c.if-not-stand_in_order.ensures).0 refl in
    let named = rw c.as_slice-seen.ensures at c.names_the_asked.ensures in (
      λ t. policies_read c.args.layout.now c.args.maps.now c.args.current c.args.seen.now (record { each = declared }) rising (named.0 t),
      λ read. named.1 (λ n within. read.each (record { 0 = n })),
    )
