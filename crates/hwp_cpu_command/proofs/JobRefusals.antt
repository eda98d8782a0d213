-- A turn by which a memory failure, a machine check or a command that takes a frame out of use is refused memory leaves no answer.
use Rattle.std.proofs.Common.{◌≡◌, ℕ, ◌==◌, Bool, true, false, cond, Option, Some, None, is_none, refl, sym, ap, ◌∙◌, true≢false}
use Rattle.hwp_cpu_control.specs.hwp_geom.declared.Frame.{Frame}
use Rattle.hwp_cpu_control.specs.hwp_geom.declared.Layout.{Layout}
use Rattle.hwp_cpu_control.specs.hwp_geom.declared.Who.{Who}
use Rattle.hwp_cpu_control.specs.hwp_page.History.{BodyValue}
use Rattle.hwp_cpu_control.specs.hwp_words.Stops.{is_stopped}
use Rattle.hwp_cpu_control.specs.hwp_core_rule.declared.Turn.{Turn}
use Rattle.hwp_cpu_control.specs.hwp_core_rule.declared.Turn.TheVariants as turns
use Rattle.hwp_cpu_control.specs.hwp_core_rule.Ranks.{is_refused}
use Rattle.hwp_evict.specs.hwp_core.declared.give_up.GiveUp.{GiveUp}
use Rattle.hwp_evict.specs.hwp_core.Holds.{is_free}
use Rattle.hwp_cpu_row.specs.hwp_claim_act.declared.abandon.Failed.{Failed}
use Rattle.hwp_cpu_row.specs.hwp_claim_act.declared.act.Act.{Act}
use Rattle.hwp_cpu_row.specs.hwp_claim_act.declared.act.ActAt.{ActAt}
use Rattle.hwp_cpu_row.specs.hwp_claim_act.declared.act.ActAt.TheVariants as act_at
use Rattle.hwp_cpu_row.specs.hwp_claim_act.Acts as acts
use Rattle.hwp_cpu_row.specs.hwp_claim_frame.declared.claim.Claim.{Claim}
use Rattle.hwp_cpu_row.specs.hwp_claim_frame.declared.claim.ClaimAt.{ClaimAt}
use Rattle.hwp_cpu_row.specs.hwp_claim_frame.declared.claim.ClaimAt.TheVariants as claim_at
use Rattle.hwp_cpu_row.specs.hwp_claim_frame.declared.ClaimAnswer.{ClaimAnswer}
use Rattle.hwp_cpu_row.specs.hwp_claim_frame.declared.grab.GrabAt.{GrabAt}
use Rattle.hwp_cpu_row.specs.hwp_claim_frame.declared.grab.GrabAt.TheVariants as grab_at
use Rattle.hwp_cpu_row.specs.hwp_claim_frame.declared.meet.MeetAt.{MeetAt}
use Rattle.hwp_cpu_row.specs.hwp_claim_frame.declared.meet.MeetAt.TheVariants as meet_at
use Rattle.hwp_cpu_row.specs.hwp_claim_frame.Claims as claims
use Rattle.hwp_cpu_row.specs.hwp_claim_frame.Grabs as grabs
use Rattle.hwp_cpu_row.specs.hwp_claim_frame.Meets as meets
use Rattle.hwp_cpu_row.specs.hwp_claim.declared.fail.Fail.{Fail}
use Rattle.hwp_cpu_row.specs.hwp_claim.declared.fail.FailAt.{FailAt}
use Rattle.hwp_cpu_row.specs.hwp_claim.declared.fail.FailAt.TheVariants as fail_at
use Rattle.hwp_cpu_row.specs.hwp_claim.declared.FailAnswer.{FailAnswer}
use Rattle.hwp_cpu_row.specs.hwp_claim.declared.inject.Inject.{Inject}
use Rattle.hwp_cpu_row.specs.hwp_claim.declared.inject.InjectAt.{InjectAt}
use Rattle.hwp_cpu_row.specs.hwp_claim.declared.inject.InjectAt.TheVariants as inject_at
use Rattle.hwp_cpu_row.specs.hwp_claim.Fails as fails
use Rattle.hwp_cpu_row.specs.hwp_claim.Injects as injects
use Rattle.hwp_cpu_row.specs.hwp_claim.declared.Handler.{Handler}
use Rattle.hwp_cpu_row.specs.hwp_claim.declared.handler.HandlerAt.{HandlerAt}
use Rattle.hwp_cpu_row.specs.hwp_claim.declared.handler.HandlerAt.TheVariants as handler_at
use Rattle.hwp_cpu_row.specs.hwp_claim.Handlers as handlers
use Rattle.hwp_cpu_access.specs.hwp_fault.hwp_evict.declared.take.TakeAt.{TakeAt}
use Rattle.hwp_cpu_access.specs.hwp_fault.hwp_evict.declared.take.TakeAt.TheVariants as take_at
use Rattle.hwp_cpu_access.specs.hwp_fault.hwp_evict.Takes as takes
use Rattle.hwp_soft.specs.declared.Soft.{Soft}
use Rattle.hwp_soft.specs.declared.soft.SoftAt.{SoftAt}
use Rattle.hwp_soft.specs.declared.soft.SoftAt.TheVariants as soft_at
use Rattle.hwp_soft.specs.Softs as softs
use Rattle.hwp_soft.specs.declared.Unpoison.{Unpoison}
use Rattle.hwp_soft.specs.declared.unpoison.UnpoisonAt.{UnpoisonAt}
use Rattle.hwp_soft.specs.declared.unpoison.UnpoisonAt.TheVariants as unpoison_at
use Rattle.hwp_soft.specs.Unpoisons as unpoisons

-- such a turn is no other
other : {A : Type 0} (turn : Turn) → is_refused turn ≡ false → is_refused turn ≡ true → A
other turn goes is = absurd (true≢false (sym is ∙ goes))

either : (b : Bool) (x y : Turn) → is_refused x ≡ false → is_refused y ≡ false → is_refused (cond b x y) ≡ false
either true x y first second = first
either false x y first second = second

grab-goes : (frame : Frame) (x : GrabAt) (found : ℕ) → is_refused (grabs.turn_at frame x found) ≡ false
grab-goes frame grab_at.LoadAvailable found = either (found == 0) (turns.Waits found) turns.Moved refl refl
grab-goes frame (grab_at.Reserve seen) found = either (found == seen) turns.Moved (turns.Changed found) refl refl
grab-goes frame grab_at.TakeBit found = either (grabs.has_bit frame found) turns.Moved (turns.Waits found) refl refl
grab-goes frame _ found = refl

meet-goes : (x : MeetAt) (found : ℕ) → is_refused (meets.turn_at (meets.bare_at x) found) ≡ false
meet-goes (meet_at.GetRef seen) found = either (found == seen) turns.Moved (turns.Changed found) refl refl
meet-goes meet_at.LockFree found = either (is_free found) turns.Moved (turns.Waits found) refl refl
meet-goes (meet_at.LockPage page) found = either (is_free found) turns.Moved (turns.Waits found) refl refl
meet-goes (meet_at.LockOwned page shelf) found = either (is_free found) turns.Moved (turns.Waits found) refl refl
meet-goes _ found = refl

-- a claim is refused memory where another command gave up in its place
claim-refused : (who : Who) (frame : Frame) (x : ClaimAt) (found : ℕ) (got : Option BodyValue) → is_refused (claims.turn_at (claims.bare_at x) found) ≡ true → claims.answer_at (claims.next_at who frame (claims.bare_at x) found got) ≡ None
claim-refused who frame claim_at.Stop found got is = which (found == 0) (is_stopped found) is
  where
    which : (b c : Bool) → is_refused (cond b turns.Moved (cond c (turns.Changed found) turns.NoMemory)) ≡ true → claims.answer_at (cond b claim_at.Stopped (cond c claim_at.Stopped claim_at.GaveUp)) ≡ None
    which true c is_ = absurd (true≢false (sym is_))
    which false true is_ = absurd (true≢false (sym is_))
    which false false is_ = refl
claim-refused who frame (claim_at.Grab cycle g) found got is = other (grabs.turn g found) (grab-goes g.frame g.at found) is
claim-refused who frame (claim_at.Meet cycle m) found got is = other (meets.turn (meets.bare m) found) (meet-goes m.at found) is
claim-refused who frame _ found got is = absurd (true≢false (sym is))

-- an action without memory has no answer
give-up-unanswered : (g : GiveUp) → acts.answer_at (acts.after_give_up g) ≡ None
give-up-unanswered g = which (is_none _)
  where
    which : (b : Bool) → acts.answer_at (cond b (act_at.Over None) (act_at.GiveUp g)) ≡ None
    which true = refl
    which false = refl

act-refused : (a after : Act) (found : ℕ) (turn : Turn) → acts.Follows (acts.bare a) found after turn → is_refused turn ≡ true → acts.answer after ≡ None
act-refused a after found turn follows is = which a.at follows.1
  where
    which : (x : ActAt) → acts.FollowsAt a.who a.page a.frame (acts.bare_at x) found after.at turn → acts.answer after ≡ None
    which (act_at.Read r) next = other turn (ap is_refused next.1) is
    which (act_at.Clear c losses failed body) next = other turn (ap is_refused next.1) is
    which (act_at.Abandon b) next = other turn (ap is_refused next.1) is
    which (act_at.GiveUp g) next = ap acts.answer_at next.0 ∙ give-up-unanswered _
    which (act_at.Over failed) next = other turn (ap is_refused next.1) is

fail-refused : (f after : Fail) (found : ℕ) (got : Option BodyValue) (turn : Turn) → fails.Follows (fails.bare f) found got after turn → is_refused turn ≡ true → fails.answer after ≡ None
fail-refused f after found got turn follows is = which f.at follows.1
  where
    claimed : (c : Claim) (o : Option ClaimAnswer) → o ≡ None → fails.AfterClaimBy f.who f.frame f.required c o after.at → fails.answer after ≡ None
    claimed c None none next = ap fails.answer_at next
    claimed c (Some x) none next = absurd (true≢false (ap is_none (sym none)))

    which : (x : FailAt) → fails.FollowsAt f.who f.frame f.required (fails.bare_at x) found got after.at turn → fails.answer after ≡ None
    which (fail_at.Claim c) next = claimed (claims.next (claims.bare c) found got) (claims.answer (claims.next (claims.bare c) found got)) (claim-refused c.who c.frame c.at found got (sym (ap is_refused next.1) ∙ is)) next.0
    which (fail_at.Act cycle a) next = ap fails.answer_at next.next_is ∙ ap (λ (o : Option Failed). fails.answer_at (fails.after_act_by cycle next.after o)) (act-refused a next.after found turn next.follows is)
    which (fail_at.Over answer) next = other turn (ap is_refused next.1) is

pub refused-unanswered : (layout : Layout) (i k : Inject) (found : ℕ) (got : Option BodyValue) (turn : Turn) → injects.Follows layout (injects.bare i) found got k turn → is_refused turn ≡ true → injects.answer k ≡ None
refused-unanswered layout i k found got turn follows is = which i.at follows.1
  where
    which : (x : InjectAt) → injects.FollowsAt layout i.alloc i.who i.frame (injects.bare_at x) found got k.at turn → injects.answer k ≡ None
    which inject_at.LoadStop next = other turn (ap is_refused next.1) is
    which (inject_at.Fail f) next = ap injects.answer_at next.next_is ∙ fail-refused f next.after found got turn next.follows is
    which inject_at.Stopped next = other turn (ap is_refused next.1) is

-- a command that takes a frame out of use
take-goes : (x : TakeAt) (found : ℕ) → is_refused (takes.turn_at x found) ≡ false
take-goes (take_at.Reserve seen) found = either (found == seen) turns.Moved (turns.Changed found) refl refl
take-goes (take_at.TakeBit frame) found = either (takes.has_bit frame found) turns.Moved (turns.Changed found) refl refl
take-goes _ found = refl

pub soft-unanswered : (layout : Layout) (s k : Soft) (found : ℕ) (got : Option BodyValue) (turn : Turn) → softs.Follows layout (softs.bare s) found got k turn → is_refused turn ≡ true → softs.answer k ≡ None
soft-unanswered layout s k found got turn follows is = which s.at follows.1
  where
    -- the turn that ends it is an answer
    unended : (x : SoftAt) (t : Turn) → is_refused (softs.ended x t) ≡ true → softs.answer_at x ≡ None
    unended (soft_at.Over answer) t is_ = absurd (true≢false (sym is_))
    unended _ t is_ = refl

    by-end : (x : SoftAt) (t : Turn) → k.at ≡ x → turn ≡ softs.ended x t → softs.answer k ≡ None
    by-end x t next turned = ap softs.answer_at next ∙ unended x t (sym (ap is_refused turned) ∙ is)

    which : (x : SoftAt) → softs.FollowsAt layout s.who s.frame (softs.bare_at x) found got k.at turn → softs.answer k ≡ None
    which soft_at.LoadStop next = by-end _ turns.Moved next.0 next.1
    which (soft_at.Seize z) next = by-end _ _ next.0 next.1
    which (soft_at.Discard d) next = by-end _ turns.Moved next.0 next.1
    which (soft_at.LoadBad page body) next = other turn (ap is_refused next.1) is
    which (soft_at.Take page body t) next = other turn (ap is_refused next.1 ∙ take-goes t.at found) is
    which (soft_at.Poison page body to) next = other turn (ap is_refused next.1) is
    which (soft_at.UnlockSpare page body to) next = other turn (ap is_refused next.1) is
    which (soft_at.ReleaseSpare page body r) next = other turn (ap is_refused next.1) is
    which (soft_at.Relocate r answer) next = by-end _ next.own_turn next.next_is next.turn_is
    which (soft_at.Unhold u answer) next = by-end _ turns.Moved next.0 next.1
    which (soft_at.GiveUp g) next = ap softs.answer_at next.0
    which (soft_at.Over answer) next = other turn (ap is_refused next.1) is

-- one that takes a frame's poison back needs no memory
pub unpoison-goes : (u : Unpoison) (found : ℕ) → is_refused (unpoisons.turn u found) ≡ true → ⊥
unpoison-goes u found is = true≢false (sym is ∙ which u.at)
  where
    which : (x : UnpoisonAt) → is_refused (unpoisons.turn_at x found) ≡ false
    which (unpoison_at.Revive seen) = either (found == seen) turns.Moved (turns.Changed found) refl refl
    which _ = refl

pub handler-unanswered : (layout : Layout) (h after : Handler) (found : ℕ) (got : Option BodyValue) (turn : Turn) → handlers.Follows layout (handlers.bare h) found got after turn → is_refused turn ≡ true → handlers.answer after ≡ None
handler-unanswered layout h after found got turn follows is = which h.at follows
  where
    stopping : (b c : Bool) → is_refused (cond b turns.Moved (cond c (turns.Changed found) turns.NoMemory)) ≡ true → handlers.answer_at (cond b (handler_at.Over true) (cond c (handler_at.Over true) handler_at.GaveUp)) ≡ None
    stopping true c is_ = absurd (true≢false (sym is_))
    stopping false true is_ = absurd (true≢false (sym is_))
    stopping false false is_ = refl

    which : (x : HandlerAt) → handlers.FollowsAt layout (handlers.bare h) (handlers.bare_at x) found got after turn → handlers.answer after ≡ None
    which handler_at.Stop next = ap handlers.answer next.0 ∙ stopping (found == 0) (is_stopped found) (sym (ap is_refused next.1) ∙ is)
    which (handler_at.Fail f) next = ap handlers.answer next.next_is
        ∙ ap (λ (o : Option FailAnswer). handlers.answer (handlers.after_fail_by layout (record (handlers.bare h) { at = handler_at.Fail next.fail }) o)) (fail-refused f next.fail found got turn next.follows is)
    which handler_at.GaveUp next = other turn (ap is_refused next.1) is
    which (handler_at.Over stopped) next = other turn (ap is_refused next.1) is
