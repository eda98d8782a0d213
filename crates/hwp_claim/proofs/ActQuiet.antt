-- Once its frame is claimed, a failure makes only quiet steps: they set no policy, neither mark nor count a frame, damage no line and
-- don't stop the machine.
use Rattle.std.proofs.Common.{◌≡◌, ℕ, Option, Some, None, subst}
use Rattle.hwp_claim_frame.specs.hwp_geom.declared.Frame.{Frame}
use Rattle.hwp_claim_frame.specs.hwp_geom.declared.Layout.{Layout}
use Rattle.hwp_claim_frame.specs.hwp_geom.declared.Page.{Page}
use Rattle.hwp_claim_frame.specs.hwp_geom.declared.Thread.{Thread}
use Rattle.hwp_claim_frame.specs.hwp_geom.declared.Who.{Who}
use Rattle.hwp_claim_frame.specs.hwp_page.History.{BodyValue}
use Rattle.hwp_claim_frame.specs.hwp_core_rule.declared.Log.{Log}
use Rattle.hwp_claim_frame.specs.hwp_core_rule.declared.Step.{Step}
use Rattle.hwp_claim_frame.specs.hwp_core_rule.declared.View.{View}
use Rattle.hwp_claim_frame.specs.hwp_core_rule.Calls.{Steps}
use Rattle.hwp_claim_act.specs.declared.abandon.AbandonAt.{AbandonAt}
use Rattle.hwp_claim_act.specs.declared.abandon.AbandonAt.TheVariants as abandon_at
use Rattle.hwp_claim_act.specs.declared.act.Act.{Act}
use Rattle.hwp_claim_act.specs.declared.act.ActAt.{ActAt}
use Rattle.hwp_claim_act.specs.declared.act.ActAt.TheVariants as act_at
use Rattle.hwp_claim_act.specs.Abandons as abandons
use Rattle.hwp_claim_act.specs.Acts as acts
use Rattle.hwp_claim_act.specs.Reads as reads
use Rattle.hwp_claim_frame.proofs.Quiet.{Alike, PlansQuiet, clear, give-up, leaves}

read-policies : (next : Option Thread) → PlansQuiet (reads.plan_at next)
read-policies None = tt
read-policies (Some thread) = tt

abandon : (page : Page) (frame : Frame) (count : ℕ) (body : Option BodyValue) (x : AbandonAt) → PlansQuiet (abandons.plan_at page frame count body x)
abandon page frame count body abandon_at.SetCache = tt
abandon page frame count body abandon_at.SetOwner = tt
abandon page frame count None (abandon_at.Lose file) = tt
abandon page frame count (Some b) (abandon_at.Lose file) = tt
abandon page frame count None (abandon_at.Kill number process) = tt
abandon page frame count (Some b) (abandon_at.Kill number process) = tt
abandon page frame count body abandon_at.PutRef = tt
abandon page frame count body abandon_at.Retire = tt
abandon page frame count body abandon_at.UnlockPage = tt
abandon page frame count body abandon_at.Over = tt

pub act : (a : Act) → PlansQuiet (acts.plan a)
act a = which a.at
  where
    which : (x : ActAt) → PlansQuiet (acts.plan_at x)
    which (act_at.Read r) = read-policies r.next
    which (act_at.Clear c losses failed body) = clear c.barred c.next
    which (act_at.Abandon b) = abandon b.page b.frame b.count b.body b.at
    which (act_at.GiveUp g) = give-up g.at
    which (act_at.Over failed) = tt

pub act-leaves : {layout : Layout} {who : Who} {step : Step} {put : Option Log} {old new : View} {found : ℕ} {got : Option BodyValue} (a : Act) → acts.plan a ≡ Some step → Steps layout who step put old new found got → Alike old new
act-leaves a is made = leaves made (subst PlansQuiet is (act a))
