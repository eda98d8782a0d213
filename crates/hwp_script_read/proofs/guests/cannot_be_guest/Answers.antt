use Rattle.std.proofs.Common.{refl, arith}
use Rattle.hwp_script_lines.specs.hwp_script_words.Guests.{bars_guest}
use Rattle.hwp_script_read.proofs.PairsWalk.{one-first, one-more, one-found, no-one}
use Rattle.hwp_script_read.proofs.guests.cannot_be_guest.Goals as goal

pub loop-thread-init : goal.loop-thread-init
loop-thread-init c = one-first _ _

pub loop-thread-preserved : goal.loop-thread-preserved
loop-thread-preserved c = one-more (bars_guest c.args.threads.now c.args.process) c.args.threads.now c.args.threads.now refl c.loop-thread.thread-index _ (omega arith) c.loop-thread.invariant c.if-bars_guest.ensures

pub returns-then-bars_guest : goal.returns-then-bars_guest
returns-then-bars_guest c = one-found (bars_guest c.args.threads.now c.args.process) c.args.threads.now c.args.threads.now refl c.loop-thread.thread-index _ (omega arith) c.if-bars_guest.ensures

pub returns : goal.returns
returns c = no-one (bars_guest c.args.threads.now c.args.process) c.args.threads.now c.args.threads.now refl c.loop-thread.thread-index (omega arith) c.loop-thread.invariant
