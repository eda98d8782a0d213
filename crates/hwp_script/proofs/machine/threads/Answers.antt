use Rattle.std.proofs.Common.{◌∙◌}
use Rattle.hwp_script.specs.Machine.{thread_decl}
use Rattle.hwp_script.proofs.Lists.{first-more, first-none}
use Rattle.hwp_script.proofs.machine.threads.Goals as goal

pub loop-thread-init : goal.loop-thread-init
loop-thread-init c = c.new-threads.ensures ∙ first-none thread_decl

pub loop-thread-preserved : goal.loop-thread-preserved
loop-thread-preserved c = c.in_ok-push.ensures ∙ first-more thread_decl c.loop-thread.thread c.loop-thread.threads c.loop-thread.invariant
