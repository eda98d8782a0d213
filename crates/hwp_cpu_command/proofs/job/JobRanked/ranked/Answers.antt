use Rattle.hwp_cpu_command.proofs.job.JobRanked.ranked.Goals as goal
use Rattle.hwp_cpu_command.proofs.JobLaws.{ranked}

pub returns : goal.returns
returns c = ranked
