use Rattle.std.proofs.Common.{arith}
use Rattle.hwp_script_read.proofs.WordLaws.{top_cpu-more, top_cpu-all}
use Rattle.hwp_script_read.proofs.faults.highest_cpu.Goals as goal

pub loop-word-preserved : goal.loop-word-preserved
loop-word-preserved c = top_cpu-more _ _ _ _ _ c.loop-word-test.true c.loop-word.invariant c.higher-highest.ensures

pub returns : goal.returns
returns c = omega (arith, top_cpu-all)
