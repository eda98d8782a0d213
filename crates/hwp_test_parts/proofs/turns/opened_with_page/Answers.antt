use Rattle.std.proofs.Common.{◌≡◌, ℕ, ◌<◌, ap, ◌∙◌, subst}
use Rattle.hwp_core.specs.hwp_core_rule.declared.State.{State}
use Rattle.hwp_core.specs.hwp_core_rule.Boards.{view_of}
use Rattle.hwp_test_parts.proofs.TaskBegins.{view-open}
use Rattle.hwp_test_parts.proofs.turns.opened_with_page.Goals as goal

pub returns-clause-views : goal.returns-clause-views
returns-clause-views g c = λ k less. ap (λ (s : State). view_of s k) (rw c.expect.ensures at c.new.ensures.state)
    ∙ view-open c.machine-layout.result k (let two : ◌≡◌ {A = ℕ} 2 c.machine-layout.result.cpus = search in subst (λ (n : ℕ). k < n) two less)
