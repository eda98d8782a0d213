use Rattle.std.proofs.Common.{nat_lt, if◌then◌else◌, ◌∙◌}
use Rattle.hwp_script_read.specs.hwp_script_lines.declared.Command.TheVariants as commands
use Rattle.hwp_script.specs.Commands.{accessed, stored}
use Rattle.hwp_script.proofs.ChoiceLaws.{below-first, not-below}
use Rattle.hwp_script.proofs.commands.draw_access.Goals as goal

pub returns-then-kind-lt70 : goal.returns-then-kind-lt70
returns-then-kind-lt70 c =
    c.draw_store.ensures
    ∙ below-first c.args.kind 70 (stored c.args.cpu c.args.rng.now) (accessed commands.Fetch c.args.cpu c.args.rng.now) c.if-kind-lt70.true
    ∙ not-below c.args.kind 45 (accessed commands.Load c.args.cpu c.args.rng.now) (if nat_lt c.args.kind 70 then stored c.args.cpu c.args.rng.now else accessed commands.Fetch c.args.cpu c.args.rng.now) c.if-kind-lt45.false

pub returns-else-kind-lt70 : goal.returns-else-kind-lt70
returns-else-kind-lt70 c =
    c.draw_fetch.ensures
    ∙ not-below c.args.kind 70 (stored c.args.cpu c.args.rng.now) (accessed commands.Fetch c.args.cpu c.args.rng.now) c.if-kind-lt70.false
    ∙ not-below c.args.kind 45 (accessed commands.Load c.args.cpu c.args.rng.now) (if nat_lt c.args.kind 70 then stored c.args.cpu c.args.rng.now else accessed commands.Fetch c.args.cpu c.args.rng.now) c.if-kind-lt45.false
