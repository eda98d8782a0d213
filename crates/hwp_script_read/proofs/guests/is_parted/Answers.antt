use Rattle.std.proofs.Common.{refl, arith}
use Rattle.hwp_script_lines.specs.hwp_script_words.Guests.{is_apart}
use Rattle.hwp_script_read.proofs.PairsWalk.{one-first, one-more, one-found, no-one}
use Rattle.hwp_script_read.proofs.guests.is_parted.Goals as goal

pub loop-other-init : goal.loop-other-init
loop-other-init c = one-first _ _

pub loop-other-preserved : goal.loop-other-preserved
loop-other-preserved c = one-more (is_apart c.args.process c.args.thread) c.args.threads.now c.args.threads.now refl c.loop-other.other-index _ (omega arith) c.loop-other.invariant c.if-is_apart.ensures

pub returns-then-is_apart : goal.returns-then-is_apart
returns-then-is_apart c = one-found (is_apart c.args.process c.args.thread) c.args.threads.now c.args.threads.now refl c.loop-other.other-index _ (omega arith) c.if-is_apart.ensures

pub returns : goal.returns
returns c = no-one (is_apart c.args.process c.args.thread) c.args.threads.now c.args.threads.now refl c.loop-other.other-index (omega arith) c.loop-other.invariant
