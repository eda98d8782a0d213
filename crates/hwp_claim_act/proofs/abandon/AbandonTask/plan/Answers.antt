use Rattle.std.proofs.Common.{Some, ap}
use Rattle.hwp_core.specs.hwp_core_rule.declared.Step.TheVariants as steps
use Rattle.hwp_claim_act.proofs.Snapshots.{snapshot-is}
use Rattle.hwp_claim_act.proofs.abandon.AbandonTask.plan.Goals as goal

pub returns-in-Some : goal.returns-in-Some
returns-in-Some c = rw (c.in-Lose.is, c.in-Some.is) (ap (λ s. Some (steps.Lose c.in-Lose.file s)) (snapshot-is c.of.result c.in-Some.body c.of.ensures))

pub returns-in-Some-body : goal.returns-in-Some-body
returns-in-Some-body c = rw (c.in-Kill.is, c.in-Some-body.is) (ap (λ s. Some (steps.Kill c.in-Kill.process c.args.self.now.page s)) (snapshot-is c.of-in-Some-body.result c.in-Some-body.body c.of-in-Some-body.ensures))
