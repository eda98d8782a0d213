use Rattle.hwp_cpu.proofs.course.CourseTask.who.Goals as goal
use Rattle.hwp_cpu.proofs.CourseLaws.{lawful}

pub returns-clause-law : goal.returns-clause-law
returns-clause-law c = lawful
