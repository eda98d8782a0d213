-- What a failure goes on with once its frame is claimed, and once its page is acted on: no more turns, and the same claim.
use Rattle.std.proofs.Common.{◌≡◌, inl, inr, ℕ, ◌<◌, ◌≤◌, Bool, true, false, cond, List, Option, Some, None, is_none, refl, sym, ap, ◌∙◌, subst, arith}
use Rattle.hwp_claim_frame.specs.hwp_geom.declared.Frame.{Frame}
use Rattle.hwp_claim_frame.specs.hwp_geom.declared.Page.{Page}
use Rattle.hwp_claim_frame.specs.hwp_geom.declared.Thread.{Thread}
use Rattle.hwp_claim_frame.specs.hwp_geom.declared.Who.{Who}
use Rattle.hwp_claim_frame.specs.hwp_kill.declared.Seen.{Seen}
use Rattle.hwp_claim_frame.specs.hwp_page.History.{BodyValue}
use Rattle.hwp_claim_frame.specs.hwp_core_rule.Words.{Words}
use Rattle.hwp_claim_frame.specs.hwp_core.declared.clear.Clear.{Clear}
use Rattle.hwp_claim_act.specs.declared.act.Act.{Act}
use Rattle.hwp_claim_act.specs.declared.act.ActAt.{ActAt}
use Rattle.hwp_claim_act.specs.declared.act.ActAt.TheVariants as act_at
use Rattle.hwp_claim_act.specs.declared.read_policies.ReadPolicies.{ReadPolicies}
use Rattle.hwp_claim_act.specs.Abandons as abandons
use Rattle.hwp_claim_act.specs.Acts as acts
use Rattle.hwp_claim_act.proofs.ActCosts.{act-small}
use Rattle.hwp_claim_frame.specs.declared.claim.Claim.{Claim}
use Rattle.hwp_claim_frame.specs.declared.claim.ClaimAt.{ClaimAt}
use Rattle.hwp_claim_frame.specs.declared.claim.ClaimAt.TheVariants as claim_at
use Rattle.hwp_claim_frame.specs.Claims as claims
use Rattle.hwp_claim.specs.declared.fail.FailAt.{FailAt}
use Rattle.hwp_claim.specs.declared.fail.FailAt.TheVariants as at
use Rattle.hwp_claim.specs.declared.fail.FailAnswer.{FailAnswer}
use Rattle.hwp_claim.specs.declared.fail.FailAnswer.TheVariants as answers
use Rattle.hwp_claim_frame.specs.hwp_page.declared.Situation.TheVariants as situations
use Rattle.hwp_claim.specs.Fails.{Acts, AfterClaim, aborts_at, after_act, claims_at, class_at, cost_at, has_retired_at, pageless, held_most}

-- ---- a frame that isn't retired yet

clear-on : (who : Who) (page : Page) (frame : Frame) (c : Clear) (entered : _) → has_retired_at (acts.after_clear who page frame c entered) ≡ false
clear-on who page frame c entered = which (is_none c.next)
  where
    which : (b : Bool) → has_retired_at (cond b (act_at.Abandon (abandons.begin who page frame c.count entered.losses entered.failed entered.body)) (act_at.Clear c entered.losses entered.failed entered.body)) ≡ false
    which true = refl
    which false = refl

enters-on : (who : Who) (page : Page) (frame : Frame) (required : Option Thread) (body : BodyValue) (seen : List Seen) (x : ActAt) → acts.Enters who page frame required body seen x → has_retired_at x ≡ false
enters-on who page frame required body seen x is = ap has_retired_at is.next_is ∙ clear-on who page frame is.clear is.entered

pub cleared-on : (who : Who) (page : Page) (frame : Frame) (c : Clear) (entered : _) (x : ActAt) → acts.IsCleared who page frame c entered x → has_retired_at x ≡ false
cleared-on who page frame c entered x is = ap has_retired_at is.next_is ∙ clear-on who page frame is.after entered

pub read-on : (who : Who) (page : Page) (frame : Frame) (r : ReadPolicies) (x : ActAt) → acts.AfterRead who page frame r x → has_retired_at x ≡ false
read-on who page frame r x after = which r.next after
  where
    which : (o : Option Thread) → acts.AfterReadAt who page frame r o x → has_retired_at x ≡ false
    which (Some thread) is = ap has_retired_at is
    which None is = enters-on who page frame r.required r.body r.seen.items x is

starts-on : (who : Who) (page : Page) (frame : Frame) (required : Option Thread) (body : BodyValue) (x : ActAt) → acts.Starts who page frame required body x → has_retired_at x ≡ false
starts-on who page frame required body x (spare, inl is) = ap has_retired_at is
starts-on who page frame required body x (spare, inr (inl silent)) = enters-on who page frame required _ _ x silent.enters
starts-on who page frame required body x (spare, inr (inr reading)) = read-on who page frame reading.read x reading.next_is

-- ---- the page is acted on

-- the failure is claimed until the frame is retired
abbrev pub claim-on : Frame → ℕ → Bool → Option (Frame × ℕ)
claim-on frame cycle retired = cond retired None (Some (frame, cycle))

pub act-cost : (cycle : ℕ) (a : Act) (w : Words) → cost_at (after_act cycle a) w ≤ acts.cost a w
act-cost cycle a w = which a.at
  where
    which : (z : ActAt) → cost_at (after_act cycle (record a { at = z })) w ≤ acts.cost_at z w
    which (act_at.Read r) = omega arith
    which (act_at.Clear c losses failed body) = omega arith
    which (act_at.Abandon x) = omega arith
    which (act_at.GiveUp g) = omega arith
    which (act_at.Over None) = omega arith
    which (act_at.Over (Some failed)) = omega arith

pub act-claim : (frame : Frame) (cycle : ℕ) (a : Act) → claims_at frame (after_act cycle a) ≡ claim-on frame cycle (has_retired_at a.at)
act-claim frame cycle a = which a.at
  where
    which : (z : ActAt) → claims_at frame (after_act cycle (record a { at = z })) ≡ claim-on frame cycle (has_retired_at z)
    which (act_at.Read r) = refl
    which (act_at.Clear c losses failed body) = refl
    which (act_at.Abandon x) = refl
    which (act_at.GiveUp g) = refl
    which (act_at.Over None) = refl
    which (act_at.Over (Some failed)) = refl

act-aborts : (cycle : ℕ) (a : Act) → aborts_at (after_act cycle a) ≡ false
act-aborts cycle a = which a.at
  where
    which : (z : ActAt) → aborts_at (after_act cycle (record a { at = z })) ≡ false
    which (act_at.Read r) = refl
    which (act_at.Clear c losses failed body) = refl
    which (act_at.Abandon x) = refl
    which (act_at.GiveUp g) = refl
    which (act_at.Over None) = refl
    which (act_at.Over (Some failed)) = refl

-- ---- the frame is claimed

pub record IsLeft (frame : Frame) (z : ClaimAt) (x : FailAt) : Type 0 where
  pub cost : (w : Words) → cost_at x w ≤ claims.cost_with held_most z w
  pub claim : claims_at frame x ≡ claims.claims_at frame z
  pub aborts : aborts_at x ≡ claims.aborts_at z
  pub class : 1 < claims.class_at z → 1 < class_at x

module _ (who : Who) (frame : Frame) (required : Option Thread) (c : Claim) (same : c.frame ≡ frame) where
  -- the claim goes on, the failure is over, or the page is acted on
  goes : (z : ClaimAt) (x : FailAt) → x ≡ at.Claim (record c { at = z }) → IsLeft frame z x
  goes z x is = subst (IsLeft frame z) (sym is) (record { cost = λ w. omega arith; claim = ap (λ (g : Frame). claims.claims_at g z) same; aborts = refl; class = λ more. more })

  ends : (z : ClaimAt) (x : FailAt) (answer : FailAnswer) → x ≡ at.Over answer → claims.claims_at frame z ≡ None → claims.aborts_at z ≡ false → IsLeft frame z x
  ends z x answer is unclaimed none = subst (IsLeft frame z) (sym is) (record { cost = λ w. omega arith; claim = sym unclaimed; aborts = sym none; class = λ more. omega arith })

  acts-on : (cycle : ℕ) (page : Page) (body : BodyValue) (x : FailAt) → Acts who frame required cycle page (record c { at = claim_at.Owned cycle page body }) x → IsLeft frame (claim_at.Owned cycle page body) x
  acts-on cycle page body x has = subst (IsLeft frame (claim_at.Owned cycle page body)) (sym has.next_is) (record {
    cost = λ w. let few : cost_at (after_act cycle has.act) w ≤ acts.cost has.act w = act-cost cycle has.act w in let small : acts.cost has.act w ≤ acts.act_most = act-small w has.act in omega (arith, few, small);
    claim = act-claim frame cycle has.act ∙ ap (claim-on frame cycle) (starts-on who page frame required has.body has.act.at has.starts);
    aborts = act-aborts cycle has.act;
    class = λ more. absurd (omega (arith, more));
  })

  pub left : (z : ClaimAt) (x : FailAt) → AfterClaim who frame required (record c { at = z }) x → IsLeft frame z x
  left claim_at.Stop x is = goes claim_at.Stop x is
  left claim_at.Poison x is = goes claim_at.Poison x is
  left (claim_at.Count cycle) x is = goes (claim_at.Count cycle) x is
  left (claim_at.Look cycle) x is = goes (claim_at.Look cycle) x is
  left (claim_at.Grab cycle g) x is = goes (claim_at.Grab cycle g) x is
  left (claim_at.Meet cycle m) x is = goes (claim_at.Meet cycle m) x is
  left (claim_at.Unlock cycle u) x is = goes (claim_at.Unlock cycle u) x is
  left (claim_at.Retire cycle) x is = goes (claim_at.Retire cycle) x is
  left claim_at.GaveUp x is = goes claim_at.GaveUp x is
  left claim_at.Stopped x is = ends claim_at.Stopped x answers.Stopped is refl refl
  left claim_at.Already x is = ends claim_at.Already x answers.Already is refl refl
  left (claim_at.Free cycle) x is = ends (claim_at.Free cycle) x (pageless situations.Free cycle) is refl refl
  left (claim_at.Kernel cycle) x is = ends (claim_at.Kernel cycle) x (pageless situations.Kernel cycle) is refl refl
  left (claim_at.Owned cycle page body) x is = acts-on cycle page body x is
