use Rattle.hwp_scrub.proofs.scrub.ScrubScheduled.tells.Goals as goal
use Rattle.hwp_claim.proofs.of_hwp_core_rule.tasks.Revivals.{lasting-pays}
use Rattle.hwp_scrub.proofs.ScrubRank.{scrub-lasting, scrub-tells}
use Rattle.hwp_scrub.specs.Fits.{task as scrub-task}

pub returns-clause-class : goal.returns-clause-class
returns-clause-class c = scrub-tells

pub returns-clause-pays : goal.returns-clause-pays
returns-clause-pays c = lasting-pays scrub-task scrub-lasting
