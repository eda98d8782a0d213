use Rattle.std.proofs.Common.{ℕ, ◌<◌, sym, ap, ◌∙◌, subst}
use Rattle.hwp_core.specs.hwp_core_rule.declared.State.{State}
use Rattle.hwp_core.specs.hwp_core_rule.Boards.{view_of}
use Rattle.hwp_test_parts.proofs.TaskBegins.{view-open}
use Rattle.hwp_test_parts.proofs.turns.opened.Goals as goal

pub returns-clause-views : goal.returns-clause-views
returns-clause-views c o = λ k less. ap (λ (s : State). view_of s k) (rw o.expect.ensures at o.new.ensures.state)
    ∙ view-open o.two_processors-layout.result k (subst (λ (n : ℕ). k < n) (sym o.two_processors-layout.ensures.cpus) less)
