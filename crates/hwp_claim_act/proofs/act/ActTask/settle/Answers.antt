use Rattle.std.proofs.Common.{◌≡◌, true, false, Option, Some, None, is_none, ap, refl, subst, sym, ◌∙◌}
use Rattle.std.proofs.lemmas.Bool.{both_ways}
use Rattle.hwp_core.specs.hwp_geom.declared.Frame.{Frame}
use Rattle.hwp_core.specs.hwp_geom.declared.Page.{Page}
use Rattle.hwp_core.specs.hwp_geom.declared.Thread.{Thread}
use Rattle.hwp_core.specs.hwp_geom.declared.Who.{Who}
use Rattle.hwp_claim_act.specs.declared.act.Act.{Act}
use Rattle.hwp_claim_act.specs.declared.act.ActAt.{ActAt}
use Rattle.hwp_claim_act.specs.declared.act.ActAt.TheVariants as at
use Rattle.hwp_claim_act.specs.declared.read_policies.ReadPolicies.{ReadPolicies}
use Rattle.hwp_claim_act.specs.Acts.{AfterRead, AfterReadAt}
use Rattle.hwp_claim_act.proofs.act.ActTask.settle.Goals as goal

-- the part that the state runs, or another
abbrev part : ReadPolicies → ActAt → ReadPolicies
part other (at.Read r) = r
part other x = other

goes-on : (who : Who) (page : Page) (frame : Frame) (r : ReadPolicies) (next : Option Thread) → is_none next ≡ false → AfterReadAt who page frame r next (at.Read r)
goes-on who page frame r (Some thread) under = refl
goes-on who page frame r None under = absurd (both_ways true under refl)

pub returns-in-Read-take : goal.returns-in-Read-take
returns-in-Read-take c =
    let same = ap (part c.settle-turn.new.self) c.in-Read-take.ensures.taken in
    let read = subst (λ (r : ReadPolicies). AfterRead c.take.new.self.who c.take.new.self.page c.take.new.self.frame r c.after_read.result) same c.after_read.ensures in
    let next = subst (λ (a : Act). AfterRead a.who a.page a.frame c.settle-turn.new.self c.after_read.result) c.take.ensures.left read in
    rw (c.set.ensures, c.take.ensures.left, c.in-Read.is) (refl, (record { after = c.settle-turn.new.self; follows = c.settle-turn.ensures.0; next_is = next }, refl))

pub returns-else-is_over : goal.returns-else-is_over
returns-else-is_over c =
    let under = sym c.is_over.ensures ∙ c.if-is_over.false in
    let next = goes-on c.args.self.now.who c.args.self.now.page c.args.self.now.frame c.settle-turn.new.self c.settle-turn.new.self.next under in
    rw c.in-Read.is (refl, (record { after = c.settle-turn.new.self; follows = c.settle-turn.ensures.0; next_is = next }, refl))
