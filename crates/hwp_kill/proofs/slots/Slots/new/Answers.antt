use Rattle.hwp_kill.specs.Limits.{word_limit}
use Rattle.hwp_kill.proofs.Holding.{EndAt-none}
use Rattle.hwp_kill.proofs.Search.{none-member}
use Rattle.hwp_kill.proofs.slots.Slots.new.Goals as goal

pub invariant_of-result : goal.invariant_of-result
invariant_of-result c = EndAt-none word_limit

pub returns : goal.returns
returns c = none-member _ (EndAt-none word_limit)
