use Rattle.std.proofs.Common.{refl, ap, ◌∙◌, arith}
use Rattle.hwp_script_lines.specs.hwp_script_words.Forks.{is_used_by}
use Rattle.hwp_script_read.specs.Sums.{names_of}
use Rattle.hwp_script_read.proofs.PairsWalk.{one-first, one-more, one-found, no-one}
use Rattle.hwp_script_read.proofs.forks.is_used.Goals as goal

pub loop-command-init : goal.loop-command-init
loop-command-init c = one-first _ _

pub loop-command-preserved : goal.loop-command-preserved
loop-command-preserved c = one-more (is_used_by (names_of c.args.summary.now) c.args.process.0) c.args.before.now c.args.before.now refl c.loop-command.command-index _ (omega arith) c.loop-command.invariant (c.if-is_used_by.ensures ∙ ap (is_used_by (names_of c.args.summary.now) c.args.process.0) c.command-item.is)

pub returns-then-is_used_by : goal.returns-then-is_used_by
returns-then-is_used_by c = one-found (is_used_by (names_of c.args.summary.now) c.args.process.0) c.args.before.now c.args.before.now refl c.loop-command.command-index _ (omega arith) (c.if-is_used_by.ensures ∙ ap (is_used_by (names_of c.args.summary.now) c.args.process.0) c.command-item.is)

pub returns : goal.returns
returns c = no-one (is_used_by (names_of c.args.summary.now) c.args.process.0) c.args.before.now c.args.before.now refl c.loop-command.command-index (omega arith) c.loop-command.invariant
