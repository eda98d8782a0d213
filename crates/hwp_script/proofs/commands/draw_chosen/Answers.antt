use Rattle.std.proofs.Common.{nat_lt, if◌then◌else◌, ◌∙◌}
use Rattle.hwp_script.specs.Commands.{chosen_access, chosen_change, chosen_failure}
use Rattle.hwp_script.proofs.ChoiceLaws.{below-first, not-below}
use Rattle.hwp_script.proofs.commands.draw_chosen.Goals as goal

pub returns-then-kind-lt74 : goal.returns-then-kind-lt74
returns-then-kind-lt74 c =
    c.draw_access.ensures
    ∙ below-first c.args.kind 74 (chosen_access c.args.cpu c.args.kind c.args.rng.now) (if nat_lt c.args.kind 91 then chosen_change c.args.cpu c.args.kind c.args.rng.now else chosen_failure c.args.kind c.args.rng.now) c.if-kind-lt74.true

pub returns-then-kind-lt91 : goal.returns-then-kind-lt91
returns-then-kind-lt91 c =
    c.draw_change.ensures
    ∙ below-first c.args.kind 91 (chosen_change c.args.cpu c.args.kind c.args.rng.now) (chosen_failure c.args.kind c.args.rng.now) c.if-kind-lt91.true
    ∙ not-below c.args.kind 74 (chosen_access c.args.cpu c.args.kind c.args.rng.now) (if nat_lt c.args.kind 91 then chosen_change c.args.cpu c.args.kind c.args.rng.now else chosen_failure c.args.kind c.args.rng.now) c.if-kind-lt74.false

pub returns-else-kind-lt91 : goal.returns-else-kind-lt91
returns-else-kind-lt91 c =
    c.draw_failure.ensures
    ∙ not-below c.args.kind 91 (chosen_change c.args.cpu c.args.kind c.args.rng.now) (chosen_failure c.args.kind c.args.rng.now) c.if-kind-lt91.false
    ∙ not-below c.args.kind 74 (chosen_access c.args.cpu c.args.kind c.args.rng.now) (if nat_lt c.args.kind 91 then chosen_change c.args.cpu c.args.kind c.args.rng.now else chosen_failure c.args.kind c.args.rng.now) c.if-kind-lt74.false
