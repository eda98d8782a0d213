use Rattle.std.proofs.Common.{ap, ◌∙◌}
use Rattle.hwp_core.specs.hwp_core_rule.declared.State.{State}
use Rattle.hwp_core.specs.hwp_core_rule.Boards.{view_of}
use Rattle.hwp_test_parts.proofs.TaskBegins.{view-open}
use Rattle.hwp_test_parts.proofs.words.opened.Goals as goal

pub returns-clause-view : goal.returns-clause-view
returns-clause-view g c = ap (λ (s : State). view_of s 0) (rw c.expect.ensures at c.new.ensures.state)
    ∙ view-open c.machine-layout.result 0 (search)
