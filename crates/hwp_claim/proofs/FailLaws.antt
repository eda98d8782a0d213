-- The laws of `Fail`: its steps can be made, and what follows them fits.
use Rattle.std.proofs.Common.{◌≡◌, ℕ, ◌<◌, Bool, true, false, Option, Some, None, slice_get, refl, sym, ap, ◌∙◌, subst}
use Rattle.std.proofs.lemmas.Option.{none-some, same_Some}
use Rattle.hwp_claim_frame.specs.hwp_geom.declared.Frame.{Frame}
use Rattle.hwp_claim_frame.specs.hwp_geom.declared.Layout.{Layout}
use Rattle.hwp_claim_frame.specs.hwp_geom.declared.Page.{Page}
use Rattle.hwp_claim_frame.specs.hwp_geom.declared.Thread.{Thread}
use Rattle.hwp_claim_frame.specs.hwp_geom.declared.Who.{Who}
use Rattle.hwp_claim_frame.specs.hwp_geom.Layout.{IsSound}
use Rattle.hwp_claim_frame.specs.hwp_page.declared.PageState.{PageState}
use Rattle.hwp_claim_frame.specs.hwp_page.History.{BodyValue}
use Rattle.hwp_claim_frame.specs.hwp_core_rule.declared.Step.{Step}
use Rattle.hwp_claim_frame.specs.hwp_core_rule.declared.View.{View}
use Rattle.hwp_claim_frame.specs.hwp_core_rule.declared.Turn.{Turn}
use Rattle.hwp_claim_frame.specs.hwp_core_rule.Calls.{CanMake, IsOnTurn, Steps, logs}
use Rattle.hwp_claim_frame.proofs.of_hwp_core_rule.tasks.StepLeaves.{on-turn-after}
use Rattle.hwp_claim_frame.proofs.of_hwp_core.TaskTells.{Tells, empty-tells}
use Rattle.hwp_claim_frame.proofs.of_hwp_core.PageStates.{is-cached, state-is}
use Rattle.hwp_claim_act.specs.declared.abandon.Failed.{Failed}
use Rattle.hwp_claim_act.specs.declared.act.Act.{Act}
use Rattle.hwp_claim_act.specs.Abandoned.{HasFailed}
use Rattle.hwp_claim_act.specs.Acting as acting
use Rattle.hwp_claim_act.specs.Acting.{IsClean}
use Rattle.hwp_claim_act.specs.Acts as acts
use Rattle.hwp_claim_act.specs.Reads.{HoldsFailed}
use Rattle.hwp_claim_act.proofs.ActLaws as act_laws
use Rattle.hwp_claim_act.proofs.ActNeeds.{ended-for, follows-for, starts-for}
use Rattle.hwp_claim_act.proofs.ActStarts.{act-ended, act-tells, starts-fit}
use Rattle.hwp_claim_frame.specs.declared.claim.Claim.{Claim}
use Rattle.hwp_claim_frame.specs.declared.claim.ClaimAt.{ClaimAt}
use Rattle.hwp_claim_frame.specs.declared.claim.ClaimAt.TheVariants as claim_at
use Rattle.hwp_claim_frame.specs.declared.ClaimAnswer.{ClaimAnswer}
use Rattle.hwp_claim_frame.specs.declared.ClaimAnswer.TheVariants as claim_answers
use Rattle.hwp_claim_frame.specs.Claims as claims
use Rattle.hwp_claim_frame.specs.Claims.{HasMarked}
use Rattle.hwp_claim_frame.proofs.ClaimLaws as claiming
use Rattle.hwp_claim.specs.declared.fail.Fail.{Fail}
use Rattle.hwp_claim.specs.declared.fail.FailAt.{FailAt}
use Rattle.hwp_claim.specs.declared.fail.FailAt.TheVariants as at
use Rattle.hwp_claim.specs.Fails.{plan, plan_at, put, put_at, bare, bare_at, after_act, after_act_by, Acts, AfterClaim, AfterClaimBy, IsCached, Shows, ShowsAt, Follows, FollowsAt, Fits, FitsAt, class, class_at}
use Rattle.hwp_claim.proofs.ActQuiet.{act-leaves}

pub can : (layout : Layout) (view : View) (f : Fail) (step : Step) → Fits layout view f → plan f ≡ Some step → CanMake layout f.who step (put f) view
can layout view f step fits is = which f.at fits.at is
  where
    which : (x : FailAt) → FitsAt layout view f.who f.frame f.required f.hardware x → plan_at x ≡ Some step → CanMake layout f.who step (put_at x) view
    which (at.Claim c) has e = subst (λ (w : Who). CanMake layout w step (claims.put c) view) has.own (claiming.can layout view c step has.claim e)
    which (at.Act cycle a) has e = subst (λ (w : Who). CanMake layout w step (acts.put a) view) has.own (act_laws.can layout view a step has.act e)
    which (at.Over answer) has e = absurd (none-some step e)

-- the body of a page that is met is of a page in its frame
cached-of : (layout : Layout) (view : View) (c : Claim) → claims.Fits layout view c → IsCached c
cached-of layout view c fits = which c.at fits.at
  where
    which : (x : ClaimAt) → claims.FitsAt layout view c.who c.frame c.hardware x → (body : BodyValue) → claims.IsBodyAt x body → body.state.cached ≡ true
    which (claim_at.Owned cycle page own) has body is = ap (λ (b : BodyValue). b.state.cached) is ∙ sym (ap (λ (s : PageState). s.cached) (state-is has.0.holds.body_is)) ∙ is-cached has.0.holds.body_is
    which claim_at.Stop has body is = absurd is
    which claim_at.Poison has body is = absurd is
    which (claim_at.Count cycle) has body is = absurd is
    which (claim_at.Look cycle) has body is = absurd is
    which (claim_at.Grab cycle g) has body is = absurd is
    which (claim_at.Meet cycle m) has body is = absurd is
    which (claim_at.Unlock cycle u) has body is = absurd is
    which (claim_at.Retire cycle) has body is = absurd is
    which claim_at.GaveUp has body is = absurd is
    which claim_at.Stopped has body is = absurd is
    which claim_at.Already has body is = absurd is
    which (claim_at.Free cycle) has body is = absurd is
    which (claim_at.Kernel cycle) has body is = absurd is

module _ {layout : Layout} {new : View} {who : Who} {frame : Frame} (on : IsOnTurn new who) (sound : IsSound layout) (inside : frame.0 < layout.frames) (required : Option Thread) (hardware : Bool) where
  -- ---- the page is acted on

  after-act-is : (cycle : ℕ) (a : Act) → acting.Fits layout new a → a.who ≡ who → a.frame ≡ frame → acting.IsFor required a.at → HasMarked new who frame hardware cycle → slice_get layout.kernel frame.0 ≡ Some false → FitsAt layout new who frame required hardware (after_act cycle a)
  after-act-is cycle a fits own frame_is its marked users = which (acts.answer a) refl
    where
      which : (x : Option Failed) → acts.answer a ≡ x → FitsAt layout new who frame required hardware (after_act_by cycle a x)
      which None e = record { act = fits; own = own; frame_is = frame_is; required_is = its; unanswered = e; marked = marked; users = users }
      which (Some failed) e =
          let ended = act-ended layout new a failed fits e in
          (ended.0, ended.1, (marked, (subst (λ (r : Option Thread). HasFailed new who (record failed { required = r })) (ended-for a required failed its e) (subst (λ (w : Who). HasFailed new w failed) own ended.3), users)))

  -- ---- the frame is claimed

  module _ (c : Claim) (fits : claims.Fits layout new c) (own : c.who ≡ who) (frame_is : c.frame ≡ frame) (hardware_is : c.hardware ≡ hardware) where
    -- what is held and known, of the own command and frame
    fits-own : claims.FitsAt layout new who frame hardware c.at
    fits-own = subst (λ (h : Bool). claims.FitsAt layout new who frame h c.at) hardware_is
        (subst (λ (g : Frame). claims.FitsAt layout new who g c.hardware c.at) frame_is (subst (λ (w : Who). claims.FitsAt layout new w c.frame c.hardware c.at) own fits.at))

    held-failed : (cycle : ℕ) (page : Page) (body : BodyValue) → claims.FitsAt layout new who frame hardware (claim_at.Owned cycle page body) → HoldsFailed layout new page frame body
    held-failed cycle page body has = record { holds = has.0.holds; unhandled = has.0.unhandled; poisoned = has.0.failed; few = has.0.few; inside = has.0.inside }

    acts-is : (cycle : ℕ) (page : Page) (x : FailAt) → claims.answer c ≡ Some (claim_answers.Owned cycle page) → Acts who frame required cycle page c x → FitsAt layout new who frame required hardware x
    acts-is cycle page x answered has = which c.at fits-own answered has.body_is
      where
        which : (y : ClaimAt) → claims.FitsAt layout new who frame hardware y → claims.answer_at y ≡ Some (claim_answers.Owned cycle page) → claims.IsBodyAt y has.body → FitsAt layout new who frame required hardware x
        which (claim_at.Owned own-cycle own-page body) known e is = subst (FitsAt layout new who frame required hardware) (sym has.next_is) (after-act-is cycle has.act begun has.who_is has.frame_is (starts-for who page frame required has.body has.act.at has.starts) marked known.1.users)
          where
            same : claim_answers.Owned own-cycle own-page ≡ claim_answers.Owned cycle page
            same = same_Some (claim_answers.Owned own-cycle own-page) (claim_answers.Owned cycle page) e

            number : ClaimAnswer → ℕ
            number (claim_answers.Owned n q) = n
            number _ = own-cycle

            paper : ClaimAnswer → Page
            paper (claim_answers.Owned n q) = q
            paper _ = own-page

            marked : HasMarked new who frame hardware cycle
            marked = subst (HasMarked new who frame hardware) (ap number same) known.1.poisoned.marked

            clean : IsClean new
            clean = record { paid = fits.paid; spare = known.1.poisoned.spare }

            held : HoldsFailed layout new page frame has.body
            held = subst (λ (q : Page). HoldsFailed layout new q frame has.body) (ap paper same) (subst (HoldsFailed layout new own-page frame) (sym is) (held-failed own-cycle own-page body known))

            begun : acting.Fits layout new has.act
            begun = starts-fit layout new has.act required has.body (subst (IsOnTurn new) (sym has.who_is) on) (subst (λ (g : Frame). g.0 < layout.frames) (sym has.frame_is) inside) sound
                clean
                (subst (λ (g : Frame). HoldsFailed layout new has.act.page g has.body) (sym has.frame_is) (subst (λ (q : Page). HoldsFailed layout new q frame has.body) (sym has.page_is) held))
                (subst (λ (w : Who). acts.Starts w has.act.page has.act.frame required has.body has.act.at) (sym has.who_is)
                (subst (λ (q : Page). acts.Starts who q has.act.frame required has.body has.act.at) (sym has.page_is)
                (subst (λ (g : Frame). acts.Starts who page g required has.body has.act.at) (sym has.frame_is) has.starts)))
        which claim_at.Stop known e is = absurd is
        which claim_at.Poison known e is = absurd is
        which (claim_at.Count n) known e is = absurd is
        which (claim_at.Look n) known e is = absurd is
        which (claim_at.Grab n g) known e is = absurd is
        which (claim_at.Meet n m) known e is = absurd is
        which (claim_at.Unlock n u) known e is = absurd is
        which (claim_at.Retire n) known e is = absurd is
        which claim_at.GaveUp known e is = absurd is
        which claim_at.Stopped known e is = absurd is
        which claim_at.Already known e is = absurd is
        which (claim_at.Free n) known e is = absurd is
        which (claim_at.Kernel n) known e is = absurd is

    -- what the answer says of what is held
    abbrev Known : Option ClaimAnswer → Type 0
    Known None = Unit {0}
    Known (Some claim_answers.Stopped) = claims.FitsAt layout new who frame hardware claim_at.Stopped
    Known (Some claim_answers.Already) = claims.FitsAt layout new who frame hardware claim_at.Already
    Known (Some (claim_answers.Free cycle)) = claims.FitsAt layout new who frame hardware (claim_at.Free cycle)
    Known (Some (claim_answers.Kernel cycle)) = claims.FitsAt layout new who frame hardware (claim_at.Kernel cycle)
    Known (Some (claim_answers.Owned cycle page)) = Unit {0}

    known-by : (y : ClaimAt) → claims.FitsAt layout new who frame hardware y → Known (claims.answer_at y)
    known-by claim_at.Stopped has = has
    known-by claim_at.Already has = has
    known-by (claim_at.Free cycle) has = has
    known-by (claim_at.Kernel cycle) has = has
    known-by (claim_at.Owned cycle page body) has = tt
    known-by claim_at.Stop has = tt
    known-by claim_at.Poison has = tt
    known-by (claim_at.Count cycle) has = tt
    known-by (claim_at.Look cycle) has = tt
    known-by (claim_at.Grab cycle g) has = tt
    known-by (claim_at.Meet cycle m) has = tt
    known-by (claim_at.Unlock cycle u) has = tt
    known-by (claim_at.Retire cycle) has = tt
    known-by claim_at.GaveUp has = tt

    after-claim-is : (x : FailAt) → AfterClaim who frame required c x → FitsAt layout new who frame required hardware x
    after-claim-is x follows = which (claims.answer c) refl (known-by c.at fits-own) follows
      where
        which : (o : Option ClaimAnswer) → claims.answer c ≡ o → Known o → AfterClaimBy who frame required c o x → FitsAt layout new who frame required hardware x
        which None e known is = subst (FitsAt layout new who frame required hardware) (sym is) (record { claim = fits; own = own; frame_is = frame_is; hardware_is = hardware_is; unanswered = e })
        which (Some claim_answers.Stopped) e known is = subst (FitsAt layout new who frame required hardware) (sym is) (known.0, fits.paid, known.1)
        which (Some claim_answers.Already) e known is = subst (FitsAt layout new who frame required hardware) (sym is) (known.0, fits.paid, known.1)
        which (Some (claim_answers.Free cycle)) e known is = subst (FitsAt layout new who frame required hardware) (sym is) (known.0, fits.paid, (known.1.poisoned.marked, (known.1.users, refl)))
        which (Some (claim_answers.Kernel cycle)) e known is = subst (FitsAt layout new who frame required hardware) (sym is) (known.0, fits.paid, (known.1.marked, (known.2, refl)))
        which (Some (claim_answers.Owned cycle page)) e known is = acts-is cycle page x e is

-- ---- each step

own-steps : {layout : Layout} {who own : Who} {step : Step} (given : Option BodyValue) {old new : View} {found : ℕ} {got : Option BodyValue} → own ≡ who → Steps layout who step (logs given) old new found got → Steps layout own step (logs given) old new found got
own-steps {layout} {who} {own} {step} given {old} {new} {found} {got} is made = subst (λ (w : Who). Steps layout w step (logs given) old new found got) (sym is) made

pub both : (layout : Layout) (old new : View) (f : Fail) (step : Step) (found : ℕ) (got : Option BodyValue) → Fits layout old f → plan f ≡ Some step → Steps layout f.who step (logs (put f)) old new found got
    → Shows (bare f) found got × ((after : Fail) (turn : Turn) → Follows (bare f) found got after turn → Fits layout new after)
both layout old new f step found got fits is made = let all = which f.at fits.at is made in
    (all.0, λ after turn follows. subst (Fits layout new) (sym follows.0) (record { on_turn = on; sound = fits.sound; frame = fits.frame; at = all.1 after.at turn follows.1 }))
  where
    on : IsOnTurn new f.who
    on = on-turn-after fits.on_turn made

    which : (x : FailAt) → FitsAt layout old f.who f.frame f.required f.hardware x → plan_at x ≡ Some step → Steps layout f.who step (logs (put_at x)) old new found got
        → ShowsAt (bare_at x) found got × ((y : FailAt) (turn : Turn) → FollowsAt f.who f.frame f.required (bare_at x) found got y turn → FitsAt layout new f.who f.frame f.required f.hardware y)
    which (at.Claim c) has e made = let all = claiming.both layout old new c step found got has.claim e (own-steps (claims.put c) has.own made) in (
      (all.0, cached-of layout new (claims.next (claims.bare c) found got) all.1),
      λ y turn follows. after-claim-is on fits.sound fits.frame f.required f.hardware (claims.next (claims.bare c) found got) all.1 has.own has.frame_is has.hardware_is y follows.0,
    )
    which (at.Act cycle a) has e made = let all = act_laws.both layout old new a step found got has.act e (own-steps (acts.put a) has.own made) in (
      all.0,
      λ y turn follows. subst (FitsAt layout new f.who f.frame f.required f.hardware) (sym follows.next_is)
          (after-act-is on fits.sound fits.frame f.required f.hardware cycle follows.after (all.1 follows.after turn follows.follows) (ap (λ (x : Act). x.who) follows.follows.0 ∙ has.own) (ap (λ (x : Act). x.frame) follows.follows.0 ∙ has.frame_is)
          (follows-for a f.required found follows.after turn has.required_is follows.follows)
          (claiming.mark-stays old new (act-leaves a e made).marks has.marked) has.users),
    )
    which (at.Over answer) has e made = absurd (none-some step e)

pub stays : (layout : Layout) (old new : View) (f : Fail) (step : Step) (found : ℕ) (got : Option BodyValue) → Fits layout old f → plan f ≡ Some step → Steps layout f.who step (logs (put f)) old new found got
    → Shows (bare f) found got × ((after : Fail) (turn : Turn) → Follows (bare f) found got after turn → Fits layout new after × (after.who.cpu ≡ f.who.cpu))
stays layout old new f step found got fits is made = let all = both layout old new f step found got fits is made in (all.0, λ after turn follows. (all.1 after turn follows, ap (λ (x : Fail). x.who.cpu) follows.0))

-- where the page is met, it is acted on
pub acts-follow : (who : Who) (frame : Frame) (required : Option Thread) (c : Claim) (cycle : ℕ) (page : Page) (x : FailAt) → claims.answer c ≡ Some (claim_answers.Owned cycle page) → Acts who frame required cycle page c x → AfterClaim who frame required c x
acts-follow who frame required c cycle page x is has = subst (λ (o : Option ClaimAnswer). AfterClaimBy who frame required c o x) (sym is) has

-- its class tells what is held
pub fail-tells : (layout : Layout) (view : View) (f : Fail) → Fits layout view f → Tells view (class f)
fail-tells layout view f fits = which f.at fits.at
  where
    which : (x : FailAt) → FitsAt layout view f.who f.frame f.required f.hardware x → Tells view (class_at x)
    which (at.Claim c) has = claiming.claim-tells layout view c has.claim
    which (at.Act cycle a) has = claiming.pressed-tells view (acts.class a) (act-tells layout view a has.act)
    which (at.Over answer) has = empty-tells view 4 has.0
