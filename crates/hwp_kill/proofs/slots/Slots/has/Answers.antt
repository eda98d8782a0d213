use Rattle.std.proofs.Common.{arith}
use Rattle.std.proofs.lemmas.Bool.{le-ltb}
use Rattle.hwp_kill.proofs.Membership.{has-members, has-past}
use Rattle.hwp_kill.proofs.slots.Slots.has.Goals as goal

pub returns-then-at-lt-SLOTS : goal.returns-then-at-lt-SLOTS
returns-then-at-lt-SLOTS c =
    let has = has-members c.self.inside.words c.from-at.result (omega arith) in
    cc (has, c.self.view_is, c.from-at.ensures)

pub returns-else-at-lt-SLOTS : goal.returns-else-at-lt-SLOTS
returns-else-at-lt-SLOTS c =
    let no = has-past c.self.inside.words c.from-at.result (omega arith) in
    cc (no, le-ltb _ _ c.if-at-lt-SLOTS.false, c.self.view_is, c.from-at.ensures)
