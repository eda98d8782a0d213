use Rattle.std.proofs.Common.{sym, subst}
use Rattle.hwp_core.specs.hwp_core_rule.declared.State.{State}
use Rattle.hwp_core.specs.hwp_core_rule.Lists.{EachMember}
use Rattle.hwp_core.specs.hwp_core_rule.parts.Holdings.{HoldsNothing}
use Rattle.hwp_test_parts.proofs.SeatPasses.{nothing-open}
use Rattle.hwp_test_parts.proofs.ends.on_board.Goals as goal

pub close-requires : goal.close-requires
close-requires g c = record { nothing = subst (λ (s : State). EachMember HoldsNothing s.views) (sym (rw c.expect-board.ensures at c.new.ensures.state)) (nothing-open c.two_frames-layout.result) }
