use Rattle.hwp_cpu.proofs.course.CourseRanked.ranked.Goals as goal
use Rattle.hwp_cpu.proofs.CourseCosts.{ranked}

pub returns : goal.returns
returns c = ranked
