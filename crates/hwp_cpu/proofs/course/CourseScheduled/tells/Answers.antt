use Rattle.hwp_cpu.proofs.course.CourseScheduled.tells.Goals as goal
use Rattle.hwp_cpu.proofs.CourseCosts.{pays}
use Rattle.hwp_cpu.proofs.CourseLaws.{tells}

pub returns-clause-class : goal.returns-clause-class
returns-clause-class c = tells

pub returns-clause-pays : goal.returns-clause-pays
returns-clause-pays c = pays
