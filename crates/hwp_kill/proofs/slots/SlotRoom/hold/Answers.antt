use Rattle.std.proofs.Common.{◌≡◌, ◌≤◌, ◌-◌, take, drop, length, refl, ◌∙◌}
use Rattle.std.proofs.lemmas.List.{take_all}
use Rattle.hwp_kill.proofs.Holding.{held-words}
use Rattle.hwp_kill.proofs.Membership.{same-members}
use Rattle.hwp_kill.proofs.Places.{more}
use Rattle.hwp_kill.proofs.slots.SlotRoom.hold.Goals as goal

pub returns : goal.returns
returns c =
    let first = c.first_used-first.result in
    let end = c.end_used-end.result in
    let used = take (end - first) (drop first c.slots.inside.words) in
    let past : length used ≤ c.loop-word.word-index = c.loop-word-test.false in
    let all : c.loop-word.words.items ≡ used = c.loop-word.invariant.0 ∙ take_all c.loop-word.word-index used past in
    rw all (same-members _ _ (held-words c.slots.inside.words first end c.first_used-first.ensures.empty c.end_used-end.ensures.end) ∙ c.slots.view_is)

pub loop-word-init : goal.loop-word-init
loop-word-init c = c.self.invariant

pub loop-word-preserved : goal.loop-word-preserved
loop-word-preserved c = (
  more _ refl c.loop-word-test.true c.loop-word.invariant.0 c.push_reserved.ensures.items,
  rw c.push_reserved.ensures.capacity c.loop-word.invariant.1,
)
