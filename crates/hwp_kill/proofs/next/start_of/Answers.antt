use Rattle.std.proofs.Common.{arith, sym}
use Rattle.hwp_kill.proofs.NextLaws.{last-is, owner-of, owner-is, last-within, start-late, start-early}
use Rattle.hwp_kill.proofs.PolicyOwners.{nobody}
use Rattle.hwp_kill.proofs.next.start_of.Goals as goal

pub bounds-threads-from : goal.bounds-threads-from
bounds-threads-from c =
    let last = last-is c.args.seen.now c.in-Some.last.now (rw c.in-Some.is at c.last.ensures.value) in
    let owner = owner-of c.requires.read c.in-Some.last.now last in
    rw (c.from.ensures, c.as_slice-threads.ensures) (last-within c.requires.read c.in-Some.last.now last owner.0 owner.1)

pub overflow_add-result-else-is_early_policy : goal.overflow_add-result-else-is_early_policy
overflow_add-result-else-is_early_policy c =
    let last = last-is c.args.seen.now c.in-Some.last.now (rw c.in-Some.is at c.last.ensures.value) in
    let owner = owner-of c.requires.read c.in-Some.last.now last in
    let within = last-within c.requires.read c.in-Some.last.now last owner.0 owner.1 in
    let few = c.requires.sound.threads in
    omega arith

pub returns-then-is_early_policy : goal.returns-then-is_early_policy
returns-then-is_early_policy c =
    let last = last-is c.args.seen.now c.in-Some.last.now (rw c.in-Some.is at c.last.ensures.value) in
    let owner = owner-of c.requires.read c.in-Some.last.now last in
    rw (c.from.ensures, c.as_slice-threads.ensures, owner-is c.requires.read c.in-Some.last.now last owner.0 owner.1 nobody)
    (start-early c.requires.read c.in-Some.last.now last owner.0 owner.1 (sym (rw c.if-is_early_policy.true at c.is_early_policy.ensures)))

pub returns-else-is_early_policy : goal.returns-else-is_early_policy
returns-else-is_early_policy c =
    let last = last-is c.args.seen.now c.in-Some.last.now (rw c.in-Some.is at c.last.ensures.value) in
    let owner = owner-of c.requires.read c.in-Some.last.now last in
    rw (c.from.ensures, c.as_slice-threads.ensures, owner-is c.requires.read c.in-Some.last.now last owner.0 owner.1 nobody)
    (start-late c.requires.read c.in-Some.last.now last owner.0 owner.1 (sym (rw c.if-is_early_policy.false at c.is_early_policy.ensures)))
