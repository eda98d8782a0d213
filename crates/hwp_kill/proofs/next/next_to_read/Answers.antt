use Rattle.hwp_kill.proofs.NextLaws.{next-found, all-done}
use Rattle.hwp_kill.proofs.next.next_to_read.Goals as goal

pub returns-in-Some : goal.returns-in-Some
returns-in-Some c = next-found c.requires.read c.loop-number.number c.in-Some.thread c.loop-number.invariant (rw c.in-Some.is at c.first_left.ensures)

pub returns : goal.returns
returns c = all-done c.requires.sound c.requires.read c.loop-number.number c.loop-number.invariant c.loop-number-test.false
