-- The class of a `Fail` tells what it holds, and a failure that it claims isn't over.
use Rattle.std.proofs.Common.{◌≡◌, ◌≢◌, ℕ, ◌≤◌, Bool, true, false, Option, Some, None, is_none, refl, sym, ap, ◌∙◌, arith}
use Rattle.std.proofs.lemmas.Bool.{both_ways}
use Rattle.std.proofs.lemmas.Option.{none-some}
use Rattle.hwp_claim_frame.specs.hwp_geom.declared.Frame.{Frame}
use Rattle.hwp_claim_frame.specs.hwp_geom.declared.Layout.{Layout}
use Rattle.hwp_claim_frame.specs.hwp_geom.declared.Thread.{Thread}
use Rattle.hwp_claim_frame.specs.hwp_geom.declared.VSlot.{VSlot}
use Rattle.hwp_claim_frame.specs.hwp_core_rule.declared.Step.{Step}
use Rattle.hwp_claim_frame.specs.hwp_core_rule.declared.View.{View}
use Rattle.hwp_claim_frame.specs.hwp_core_rule.Classes.{TellsClass}
use Rattle.hwp_claim_frame.specs.hwp_core_rule.Hands.{empty, hand_of}
use Rattle.hwp_claim_frame.proofs.of_hwp_core.TaskTells.{no-frame, no-page}
use Rattle.hwp_claim_act.specs.declared.act.Act.{Act}
use Rattle.hwp_claim_act.specs.declared.act.ActAt.{ActAt}
use Rattle.hwp_claim_act.specs.declared.act.ActAt.TheVariants as act_at
use Rattle.hwp_claim_act.specs.Acting as acting
use Rattle.hwp_claim_act.specs.Acts as acts
use Rattle.hwp_claim_act.specs.Reads as reads
use Rattle.hwp_claim_frame.specs.hwp_core.Clears as clears
use Rattle.hwp_claim_frame.specs.declared.claim.Claim.{Claim}
use Rattle.hwp_claim_frame.specs.declared.claim.ClaimAt.{ClaimAt}
use Rattle.hwp_claim_frame.specs.declared.claim.ClaimAt.TheVariants as claim_at
use Rattle.hwp_claim_frame.specs.Claims as claims
use Rattle.hwp_claim.specs.declared.fail.Fail.{Fail}
use Rattle.hwp_claim.specs.declared.fail.FailAt.{FailAt}
use Rattle.hwp_claim.specs.declared.fail.FailAt.TheVariants as at
use Rattle.hwp_claim.specs.Fails.{Fits, FitsAt, claims_at, claims_of, class, class_at, has_retired_at, plan, plan_at, task as fail-task}
use Rattle.hwp_claim.proofs.FailLeaves.{claim-on}
use Rattle.hwp_claim.proofs.FailLaws.{fail-tells}

-- no step comes of what is under way
stuck : {A : Type 0} {o : Option A} → is_none o ≡ false → o ≡ None → ⊥
stuck {o} on none = both_ways (is_none o) on (ap is_none none)

abbrev Idle : View → Option Step → Type 0
Idle view planned = planned ≡ None → hand_of view ≡ empty

claim-idle : (layout : Layout) (view : View) (c : Claim) → claims.Fits layout view c → claims.answer c ≡ None → Idle view (claims.plan c)
claim-idle layout view c fits unanswered none = which c.at fits.at unanswered none
  where
    which : (z : ClaimAt) → claims.FitsAt layout view c.who c.frame c.hardware z → claims.answer_at z ≡ None → Idle view (claims.plan_at c.who c.frame c.hardware z)
    which claim_at.GaveUp has unsaid none = has
    which (claim_at.Grab cycle g) has unsaid none = absurd (stuck has.0.under_way none)
    which (claim_at.Meet cycle m) has unsaid none = absurd (stuck has.0.under_way none)
    which (claim_at.Unlock cycle u) has unsaid none = absurd (stuck has.0.under_way none)
    which claim_at.Stop has unsaid none = absurd (stuck refl none)
    which claim_at.Poison has unsaid none = absurd (stuck refl none)
    which (claim_at.Count cycle) has unsaid none = absurd (stuck refl none)
    which (claim_at.Look cycle) has unsaid none = absurd (stuck refl none)
    which (claim_at.Retire cycle) has unsaid none = absurd (stuck refl none)
    which claim_at.Stopped has unsaid none = absurd (stuck refl unsaid)
    which claim_at.Already has unsaid none = absurd (stuck refl unsaid)
    which (claim_at.Free cycle) has unsaid none = absurd (stuck refl unsaid)
    which (claim_at.Kernel cycle) has unsaid none = absurd (stuck refl unsaid)
    which (claim_at.Owned cycle page body) has unsaid none = absurd (stuck refl unsaid)

read-stuck : (n : Option Thread) → is_none n ≡ false → reads.plan_at n ≡ None → ⊥
read-stuck (Some thread) on none = stuck refl none
read-stuck None on none = both_ways true on refl

clear-stuck : (barred : Bool) (n : Option VSlot) → is_none n ≡ false → clears.plan_at barred n ≡ None → ⊥
clear-stuck barred (Some slot) on none = stuck refl none
clear-stuck barred None on none = both_ways true on refl

-- an action without a step and an answer has given up
act-idle : (layout : Layout) (view : View) (a : Act) → acting.Fits layout view a → acts.answer a ≡ None → acts.plan a ≡ None → (hand_of view ≡ empty) × (has_retired_at a.at ≡ true)
act-idle layout view a fits unanswered none = which a.at fits.at unanswered none
  where
    which : (z : ActAt) → acting.FitsAt layout view a.who a.page a.frame z → acts.answer_at z ≡ None → acts.plan_at z ≡ None → (hand_of view ≡ empty) × (has_retired_at z ≡ true)
    which (act_at.Over None) has unsaid none = (has, refl)
    which (act_at.Over (Some failed)) has unsaid none = absurd (stuck refl unsaid)
    which (act_at.Read r) has unsaid none = absurd (read-stuck r.next has.under_way none)
    which (act_at.Clear c losses failed body) has unsaid none = absurd (clear-stuck c.barred c.next has.1 none)
    which (act_at.Abandon x) has unsaid none = absurd (stuck has.under_way none)
    which (act_at.GiveUp g) has unsaid none = absurd (stuck has.under_way none)

idle : (layout : Layout) (view : View) (f : Fail) → Fits layout view f → Idle view (plan f)
idle layout view f fits none = which f.at fits.at none
  where
    which : (x : FailAt) → FitsAt layout view f.who f.frame f.required f.hardware x → Idle view (plan_at x)
    which (at.Claim c) has none = claim-idle layout view c has.claim has.unanswered none
    which (at.Act cycle a) has none = (act-idle layout view a has.act has.unanswered none).0
    which (at.Over answer) has none = has.0

-- ---- what is claimed

abbrev Goes : ℕ → Option Step → Type 0
Goes class planned = (class ≤ 3) × (planned ≢ None)

claim-goes : (layout : Layout) (view : View) (c : Claim) (frame : Frame) (cycle : ℕ) → claims.Fits layout view c → claims.answer c ≡ None → claims.claims c ≡ Some (frame, cycle) → Goes (claims.class c) (claims.plan c)
claim-goes layout view c frame cycle fits unanswered is = which c.at fits.at unanswered is
  where
    which : (z : ClaimAt) → claims.FitsAt layout view c.who c.frame c.hardware z → claims.answer_at z ≡ None → claims.claims_at c.frame z ≡ Some (frame, cycle) → Goes (claims.class_at z) (claims.plan_at c.who c.frame c.hardware z)
    which (claim_at.Count own) has unsaid is = (omega arith, λ none. stuck refl none)
    which (claim_at.Look own) has unsaid is = (omega arith, λ none. stuck refl none)
    which (claim_at.Grab own g) has unsaid is = (omega arith, λ none. stuck has.0.under_way none)
    which (claim_at.Meet own m) has unsaid is = (omega arith, λ none. stuck has.0.under_way none)
    which (claim_at.Retire own) has unsaid is = (omega arith, λ none. stuck refl none)
    which (claim_at.Owned own page body) has unsaid is = absurd (stuck refl unsaid)
    which (claim_at.Unlock own u) has unsaid is = absurd (none-some (frame, cycle) is)
    which claim_at.Stop has unsaid is = absurd (none-some (frame, cycle) is)
    which claim_at.Poison has unsaid is = absurd (none-some (frame, cycle) is)
    which claim_at.GaveUp has unsaid is = absurd (none-some (frame, cycle) is)
    which claim_at.Stopped has unsaid is = absurd (none-some (frame, cycle) is)
    which claim_at.Already has unsaid is = absurd (none-some (frame, cycle) is)
    which (claim_at.Free own) has unsaid is = absurd (none-some (frame, cycle) is)
    which (claim_at.Kernel own) has unsaid is = absurd (none-some (frame, cycle) is)

goes : (layout : Layout) (view : View) (f : Fail) (frame : Frame) (cycle : ℕ) → Fits layout view f → claims_of f ≡ Some (frame, cycle) → Goes (class f) (plan f)
goes layout view f frame cycle fits is = which f.at fits.at is
  where
    which : (x : FailAt) → FitsAt layout view f.who f.frame f.required f.hardware x → claims_at f.frame x ≡ Some (frame, cycle) → Goes (class_at x) (plan_at x)
    which (at.Claim c) has is = claim-goes layout view c frame cycle has.claim has.unanswered is
    which (at.Act own a) has is = (omega arith, λ none. none-some (frame, cycle) (sym (ap (claim-on f.frame own) (act-idle layout view a has.act has.unanswered none).1) ∙ is))
    which (at.Over answer) has is = absurd (none-some (frame, cycle) is)

pub fail-tells-class : TellsClass fail-task
fail-tells-class = record {
  frame = λ layout view s fits some. ((fail-tells layout view s fits).0 some, λ none. no-frame view (idle layout view s fits none) refl refl refl some);
  page = λ layout view s fits some. ((fail-tells layout view s fits).1 some, λ none. no-page view (idle layout view s fits none) refl some);
  claim = λ layout view s frame cycle fits is. goes layout view s frame cycle fits is;
}
