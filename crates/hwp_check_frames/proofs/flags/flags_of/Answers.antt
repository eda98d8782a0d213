use Rattle.std.proofs.Common.{◌∙◌}
use Rattle.hwp_check_frames.proofs.FlagLaws.{flags-next}
use Rattle.hwp_check_frames.proofs.flags.flags_of.Goals as goal

pub loop-cpu-preserved : goal.loop-cpu-preserved
loop-cpu-preserved c = (
  c.flag_rows.ensures.each ∙ c.loop-cpu.invariant.0,
  flags-next c.args.own.now c.args.many.now c.args.report.now c.loop-cpu.cpu c.rows_on.result.now c.loop-cpu.flags.items c.flag_rows.new.flags.items c.rows_on.ensures c.flag_rows.ensures.each c.flag_rows.ensures.is c.loop-cpu.invariant.1,
)
