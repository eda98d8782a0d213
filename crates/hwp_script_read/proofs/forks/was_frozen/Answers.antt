use Rattle.std.proofs.Common.{refl, ap, ◌∙◌, arith}
use Rattle.hwp_script_lines.specs.hwp_script_words.Forks.{froze}
use Rattle.hwp_script_read.specs.Sums.{names_of}
use Rattle.hwp_script_read.proofs.PairsWalk.{one-first, one-more, one-found, no-one}
use Rattle.hwp_script_read.proofs.forks.was_frozen.Goals as goal

pub loop-command-init : goal.loop-command-init
loop-command-init c = one-first _ _

pub loop-command-preserved : goal.loop-command-preserved
loop-command-preserved c = one-more (froze (names_of c.args.summary.now) c.args.page.0) c.args.before.now c.args.before.now refl c.loop-command.command-index _ (omega arith) c.loop-command.invariant (c.if-froze.ensures ∙ ap (froze (names_of c.args.summary.now) c.args.page.0) c.command-item.is)

pub returns-then-froze : goal.returns-then-froze
returns-then-froze c = one-found (froze (names_of c.args.summary.now) c.args.page.0) c.args.before.now c.args.before.now refl c.loop-command.command-index _ (omega arith) (c.if-froze.ensures ∙ ap (froze (names_of c.args.summary.now) c.args.page.0) c.command-item.is)

pub returns : goal.returns
returns c = no-one (froze (names_of c.args.summary.now) c.args.page.0) c.args.before.now c.args.before.now refl c.loop-command.command-index (omega arith) c.loop-command.invariant
