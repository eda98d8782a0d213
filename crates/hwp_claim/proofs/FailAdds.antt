-- What a step of a `Fail` adds: the mark of its frame, the count of that, and the entry of its failure.
use Rattle.std.proofs.Common.{◌≡◌, inl, ℕ, ◌+◌, Bool, List, [], ◌∷◌, Option, Some, None, filter, refl, sym, ap, ◌∙◌, subst}
use Rattle.std.proofs.lemmas.Option.{none-some}
use Rattle.hwp_claim_frame.specs.hwp_geom.declared.Frame.{Frame}
use Rattle.hwp_claim_frame.specs.hwp_geom.declared.Layout.{Layout}
use Rattle.hwp_claim_frame.specs.hwp_geom.declared.Thread.{Thread}
use Rattle.hwp_claim_frame.specs.hwp_geom.declared.Who.{Who}
use Rattle.hwp_claim_frame.specs.hwp_page.History.{BodyValue}
use Rattle.hwp_claim_frame.specs.hwp_core_rule.declared.Mark.{Mark}
use Rattle.hwp_claim_frame.specs.hwp_core_rule.declared.Step.{Step}
use Rattle.hwp_claim_frame.specs.hwp_core_rule.declared.View.{View}
use Rattle.hwp_claim_frame.specs.hwp_core_rule.declared.Turn.{Turn}
use Rattle.hwp_claim_frame.specs.hwp_core_rule.Calls.{Steps, logs}
use Rattle.hwp_claim_frame.specs.hwp_core_rule.Known.{is_by}
use Rattle.hwp_claim_act.specs.declared.abandon.Failed.{Failed}
use Rattle.hwp_claim_act.specs.declared.act.Act.{Act}
use Rattle.hwp_claim_act.specs.declared.act.ActAt.{ActAt}
use Rattle.hwp_claim_act.specs.declared.act.ActAt.TheVariants as act_at
use Rattle.hwp_claim_act.specs.Abandoned.{AddsFailure}
use Rattle.hwp_claim_act.specs.Acting.{IsFor}
use Rattle.hwp_claim_act.specs.Acts as acts
use Rattle.hwp_claim_act.proofs.ActAdds.{act-adds, starts-none}
use Rattle.hwp_claim_act.proofs.ActNeeds.{follows-for, starts-for}
use Rattle.hwp_claim_frame.specs.declared.claim.Claim.{Claim}
use Rattle.hwp_claim_frame.specs.declared.claim.ClaimAt.{ClaimAt}
use Rattle.hwp_claim_frame.specs.declared.claim.ClaimAt.TheVariants as claim_at
use Rattle.hwp_claim_frame.specs.Claims as claims
use Rattle.hwp_claim_frame.specs.Done as claim_done
use Rattle.hwp_claim_frame.specs.Done.{Grows, Marking, counts_owed, marked_in, marking_of, owed_in, poisoning}
use Rattle.hwp_claim_frame.proofs.ClaimAdds.{claim-adds}
use Rattle.hwp_claim.specs.declared.fail.Fail.{Fail}
use Rattle.hwp_claim.specs.declared.fail.FailAt.{FailAt}
use Rattle.hwp_claim.specs.declared.fail.FailAt.TheVariants as at
use Rattle.hwp_claim.specs.Done.{Adds, failed_at, marked_at, owed_at}
use Rattle.hwp_claim.specs.Fails.{ActsOn, AfterClaim, AfterClaimBy, Fits, FitsAt, Follows, FollowsAt, IsActing, IsClaiming, after_act, after_act_by, bare, bare_at, plan, plan_at, put, put_at}
use Rattle.hwp_claim.proofs.ActQuiet.{act-leaves}

-- ---- what follows a claim, and an action

-- an action has marked the frame and counted that
acted : (frame : Frame) (hardware : Bool) (cycle : ℕ) (a : Act) → (marked_at frame hardware (after_act cycle a) ≡ poisoning frame hardware cycle ∷ []) × (owed_at (after_act cycle a) ≡ 0)
acted frame hardware cycle a = which (acts.answer a)
  where
    which : (o : Option Failed) → (marked_at frame hardware (after_act_by cycle a o) ≡ poisoning frame hardware cycle ∷ []) × (owed_at (after_act_by cycle a o) ≡ 0)
    which None = (refl, refl)
    which (Some failed) = (refl, refl)

-- its failure is the one of its entry
failed-then : (required : Option Thread) (cycle : ℕ) (a : Act) → IsFor required a.at → failed_at required (after_act cycle a) ≡ acts.failed_at a.at
failed-then required cycle a its = which a.at its
  where
    which : (z : ActAt) → IsFor required z → failed_at required (after_act cycle (record a { at = z })) ≡ acts.failed_at z
    which (act_at.Over (Some failed)) is = ap (λ (r : Option Thread). record failed { required = r } ∷ []) (sym is)
    which (act_at.Over None) is = refl
    which (act_at.Read r) is = refl
    which (act_at.Clear c losses failed body) is = refl
    which (act_at.Abandon x) is = refl
    which (act_at.GiveUp g) is = refl

-- what a claim has done is what the failure has that goes on from it
record IsSame (frame : Frame) (hardware : Bool) (required : Option Thread) (y : ClaimAt) (x : FailAt) : Type 0 where
  marked : marked_at frame hardware x ≡ marked_in frame hardware y
  owed : owed_at x ≡ owed_in y
  failed : failed_at required x ≡ []

claimed : (who : Who) (frame : Frame) (hardware : Bool) (required : Option Thread) (c : Claim) (x : FailAt) → AfterClaim who frame required c x → IsSame frame hardware required c.at x
claimed who frame hardware required c x follows = which c.at refl follows
  where
    which : (y : ClaimAt) → c.at ≡ y → AfterClaimBy who frame required c (claims.answer_at y) x → IsSame frame hardware required y x
    which claim_at.Stopped at is = record { marked = ap (marked_at frame hardware) is; owed = ap owed_at is; failed = ap (failed_at required) is }
    which claim_at.Already at is = record { marked = ap (marked_at frame hardware) is; owed = ap owed_at is; failed = ap (failed_at required) is }
    which (claim_at.Free cycle) at is = record { marked = ap (marked_at frame hardware) is; owed = ap owed_at is; failed = ap (failed_at required) is }
    which (claim_at.Kernel cycle) at is = record { marked = ap (marked_at frame hardware) is; owed = ap owed_at is; failed = ap (failed_at required) is }
    which (claim_at.Owned cycle page body) at is = record {
      marked = ap (marked_at frame hardware) is.next_is ∙ (acted frame hardware cycle is.act).0;
      owed = ap owed_at is.next_is ∙ (acted frame hardware cycle is.act).1;
      failed = ap (failed_at required) is.next_is ∙ failed-then required cycle is.act (starts-for who page frame required is.body is.act.at is.starts) ∙ starts-none who page frame required is.body is.act.at is.starts;
    }
    which y at is = record { marked = ap (marked_at frame hardware) is ∙ ap (marked_in frame hardware) at; owed = ap owed_at is ∙ ap owed_in at; failed = ap (failed_at required) is }

-- ---- each step

module _ {layout : Layout} {old new : View} {step : Step} {found : ℕ} {got : Option BodyValue} (who : Who) (frame : Frame) (hardware : Bool) (required : Option Thread) where
  claiming-adds : (c : Claim) (x : FailAt) → IsClaiming layout old who frame hardware c → claims.plan c ≡ Some step → Steps layout who step (logs (claims.put c)) old new found got → AfterClaim who frame required (claims.next (claims.bare c) found got) x
      → Adds old new who frame hardware required (at.Claim c) x
  claiming-adds c x has e made follows = record {
    marked = subst (λ (l : List Marking). Grows (λ (m : Mark). m.stamp.who) marking_of old.marks new.marks who (marked_in frame hardware c.at) l) (sym left.marked) adds.marked;
    failed = inl (ap (filter (is_by who)) adds.made, left.failed);
    counted = adds.counted ∙ ap (λ (n : ℕ). counts_owed old + n) (sym left.owed);
  }
    where
      next : ClaimAt
      next = claims.next_at c.who c.frame (claims.bare_at c.at) found got

      left : IsSame frame hardware required next x
      left = claimed who frame hardware required (claims.next (claims.bare c) found got) x follows

      adds : claim_done.Adds old new who frame hardware c.at next
      adds = subst (λ (h : Bool). claim_done.Adds old new who frame h c.at next) has.hardware_is (subst (λ (f : Frame). claim_done.Adds old new who f c.hardware c.at next) has.frame_is (subst (λ (w : Who). claim_done.Adds old new w c.frame c.hardware c.at next) has.own
          (claim-adds layout old new c step found got has.claim e (subst (λ (w : Who). Steps layout w step (logs (claims.put c)) old new found got) (sym has.own) made))))

  acting-adds : (cycle : ℕ) (a : Act) (x : FailAt) (turn : Turn) → IsActing layout old who frame required hardware cycle a → acts.plan a ≡ Some step → Steps layout who step (logs (acts.put a)) old new found got → ActsOn cycle (acts.bare a) found x turn
      → Adds old new who frame hardware required (at.Act cycle a) x
  acting-adds cycle a x turn has e made on = record {
    marked = inl ((act-leaves a e made).marks, ap (marked_at frame hardware) on.next_is ∙ (acted frame hardware cycle on.after).0);
    failed = subst (AddsFailure who old new (acts.failed_at a.at)) (sym (ap (failed_at required) on.next_is ∙ failed-then required cycle on.after (follows-for a required found on.after turn has.required_is on.follows)))
        (subst (λ (w : Who). AddsFailure w old new (acts.failed_at a.at) (acts.failed_at on.after.at)) has.own
        (act-adds layout old new a step found got has.act e (subst (λ (w : Who). Steps layout w step (logs (acts.put a)) old new found got) (sym has.own) made) on.after turn on.follows));
    counted = ap (λ (n : ℕ). n + 0) (act-leaves a e made).owed ∙ ap (λ (n : ℕ). counts_owed old + n) (sym (ap owed_at on.next_is ∙ (acted frame hardware cycle on.after).1));
  }

pub fail-adds : (layout : Layout) (old new : View) (f : Fail) (step : Step) (found : ℕ) (got : Option BodyValue) → Fits layout old f → plan f ≡ Some step → Steps layout f.who step (logs (put f)) old new found got
    → (after : Fail) (turn : Turn) → Follows (bare f) found got after turn → Adds old new f.who f.frame f.hardware f.required f.at after.at
fail-adds layout old new f step found got fits is made after turn follows = which f.at fits.at is made follows.1
  where
    which : (x : FailAt) → FitsAt layout old f.who f.frame f.required f.hardware x → plan_at x ≡ Some step → Steps layout f.who step (logs (put_at x)) old new found got → FollowsAt f.who f.frame f.required (bare_at x) found got after.at turn
        → Adds old new f.who f.frame f.hardware f.required x after.at
    which (at.Claim c) has e made next = claiming-adds f.who f.frame f.hardware f.required c after.at has e made next.0
    which (at.Act cycle a) has e made next = acting-adds f.who f.frame f.hardware f.required cycle a after.at turn has e made next
    which (at.Over answer) has e made next = absurd (none-some step e)
