use Rattle.std.proofs.Common.{◌∙◌, sym, subst}
use Rattle.hwp_core_rule.proofs.driver.advance.Goals as goal
use Rattle.hwp_core_rule.proofs.tasks.DriverSteps.{can-of, shown, settled}

pub step-met-requires-clause-can : goal.step-met-requires-clause-can
step-met-requires-clause-can g c = can-of c.who-who.ensures.who c.give-body.ensures.given (c.who-who.ensures.law.can _ _ _ c.in-Some.step c.requires.fits (sym c.plan.ensures ∙ c.in-Some.is))

pub settle-requires : goal.settle-requires
settle-requires g c = record {
  shows = shown c.who-who.ensures.law c.requires.fits (sym c.plan.ensures ∙ c.in-Some.is) c.who-who.ensures.who c.give-body.ensures.given c.give-body.ensures.bare c.step-met.ensures.told;
}

pub returns-in-Some-clause-fits : goal.returns-in-Some-clause-fits
returns-in-Some-clause-fits g c = subst (λ l. g.M.Task.task.fits l (g.O.Ops.view c.step-met.new.self) c.settle.new.self) (sym c.step-met.ensures.same)
    (settled c.who-who.ensures.law c.requires.fits (sym c.plan.ensures ∙ c.in-Some.is) c.who-who.ensures.who c.give-body.ensures.given c.give-body.ensures.bare c.step-met.ensures.told
    c.settle.new.self c.settle.result (subst (λ l. g.M.Task.task.next l c.give-body.new.self c.step-met.result.found c.step-met.result.body c.settle.new.self c.settle.result) (c.layout.ensures ∙ c.step-met.ensures.same) c.settle.ensures)).0

pub returns-in-Some-clause-own : goal.returns-in-Some-clause-own
returns-in-Some-clause-own g c =
    (settled c.who-who.ensures.law c.requires.fits (sym c.plan.ensures ∙ c.in-Some.is) c.who-who.ensures.who c.give-body.ensures.given c.give-body.ensures.bare c.step-met.ensures.told
    c.settle.new.self c.settle.result (subst (λ l. g.M.Task.task.next l c.give-body.new.self c.step-met.result.found c.step-met.result.body c.settle.new.self c.settle.result) (c.layout.ensures ∙ c.step-met.ensures.same) c.settle.ensures)).1
