use Rattle.std.proofs.Common.{arith}
use Rattle.hwp_kill.proofs.Membership.{members-cleared, members-past}
use Rattle.hwp_kill.proofs.slots.Slots.remove.Goals as goal

pub returns-then-at-lt-SLOTS : goal.returns-then-at-lt-SLOTS
returns-then-at-lt-SLOTS c =
    let less = members-cleared c.self.inside.words c.from-at.result (omega arith) in
    cc (less, c.self.view_is, c.from-at.ensures)

pub returns-else-at-lt-SLOTS : goal.returns-else-at-lt-SLOTS
returns-else-at-lt-SLOTS c =
    let same = members-past c.self.inside.words c.from-at.result (omega arith) in
    cc (same, c.self.view_is, c.from-at.ensures)
