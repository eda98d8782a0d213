use Rattle.hwp_kill.specs.Members.{behind}
use Rattle.hwp_kill.proofs.Membership.{has-word}
use Rattle.hwp_kill.proofs.slots.HeldSlots.has.Goals as goal

pub returns : goal.returns
returns c =
    let has = has-word (behind c.self.inside.first c.self.inside.words.items) c.from-at.result in
    cc (has, c.word_behind.ensures, c.self.view_is, c.from-at.ensures, c.from-first.ensures, c.deref.ensures.value)
