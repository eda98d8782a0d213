-- The thread that needs the page now stays the same while a failure acts.
use Rattle.std.proofs.Common.{◌≡◌, inl, inr, Bool, true, false, cond, List, Option, Some, None, is_none, sym, ap, ◌∙◌, subst}
use Rattle.std.proofs.lemmas.Option.{none-some, same_Some}
use Rattle.hwp_core.specs.hwp_geom.declared.Frame.{Frame}
use Rattle.hwp_core.specs.hwp_geom.declared.Page.{Page}
use Rattle.hwp_core.specs.hwp_geom.declared.Thread.{Thread}
use Rattle.hwp_core.specs.hwp_geom.declared.Who.{Who}
use Rattle.hwp_core.specs.hwp_kill.declared.Seen.{Seen}
use Rattle.hwp_core.specs.hwp_page.History.{BodyValue}
use Rattle.hwp_core.specs.hwp_core_rule.declared.Turn.{Turn}
use Rattle.hwp_core.specs.declared.give_up.GiveUp.{GiveUp}
use Rattle.hwp_core.specs.GiveUps as give_ups
use Rattle.hwp_core.specs.declared.clear.Clear.{Clear}
use Rattle.hwp_claim_act.specs.declared.abandon.Abandon.{Abandon}
use Rattle.hwp_claim_act.specs.declared.abandon.AbandonAt.{AbandonAt}
use Rattle.hwp_claim_act.specs.declared.abandon.AbandonAt.TheVariants as abandon_at
use Rattle.hwp_claim_act.specs.declared.abandon.Failed.{Failed}
use Rattle.hwp_claim_act.specs.declared.act.Act.{Act}
use Rattle.hwp_claim_act.specs.declared.act.ActAt.{ActAt}
use Rattle.hwp_claim_act.specs.declared.act.ActAt.TheVariants as at
use Rattle.hwp_claim_act.specs.declared.failing.Entered.{Entered}
use Rattle.hwp_claim_act.specs.declared.read_policies.ReadPolicies.{ReadPolicies}
use Rattle.hwp_claim_act.specs.Abandons as abandons
use Rattle.hwp_claim_act.specs.Acting.{IsFor}
use Rattle.hwp_claim_act.specs.Acts.{AfterRead, AfterReadAt, Enters, Follows, FollowsAt, Starts, abandoned_at, after_clear, answer, answer_at, bare, bare_at}
use Rattle.hwp_claim_act.specs.Reads as reads

clear-for : (who : Who) (page : Page) (frame : Frame) (c : Clear) (entered : Entered) (required : Option Thread) → entered.failed.required ≡ required → IsFor required (after_clear who page frame c entered)
clear-for who page frame c entered required is = which (is_none c.next)
  where
    which : (b : Bool) → IsFor required (cond b (at.Abandon (abandons.begin who page frame c.count entered.losses entered.failed entered.body)) (at.Clear c entered.losses entered.failed entered.body))
    which true = is
    which false = is

enters-for : (who : Who) (page : Page) (frame : Frame) (required : Option Thread) (body : BodyValue) (seen : List Seen) (x : ActAt) → Enters who page frame required body seen x → IsFor required x
enters-for who page frame required body seen x is = subst (IsFor required) (sym is.next_is) (clear-for who page frame is.clear is.entered required (ap (λ (e : Entered). e.failed.required) is.made.is))

read-for : (who : Who) (page : Page) (frame : Frame) (r : ReadPolicies) (required : Option Thread) (x : ActAt) → r.required ≡ required → AfterRead who page frame r x → IsFor required x
read-for who page frame r required x same after = which r.next after
  where
    which : (o : Option Thread) → AfterReadAt who page frame r o x → IsFor required x
    which (Some thread) is = subst (IsFor required) (sym is) same
    which None is = subst (λ (o : Option Thread). IsFor o x) same (enters-for who page frame r.required r.body r.seen.items x is)

-- as it begins
pub starts-for : (who : Who) (page : Page) (frame : Frame) (required : Option Thread) (body : BodyValue) (x : ActAt) → Starts who page frame required body x → IsFor required x
starts-for who page frame required body x (spare, inl is) = subst (IsFor required) (sym is) tt
starts-for who page frame required body x (spare, inr (inl silent)) = enters-for who page frame required _ _ x silent.enters
starts-for who page frame required body x (spare, inr (inr reading)) = read-for who page frame reading.read required x (ap (λ (r : ReadPolicies). r.required) reading.begun.is) reading.next_is

same-required : (r after : ReadPolicies) (found : _) → reads.Follows r found after → after.required ≡ r.required
same-required r after found follows = which r.next follows
  where
    which : (n : Option Thread) → reads.FollowsAt r n found after → after.required ≡ r.required
    which None is = ap (λ (x : ReadPolicies). x.required) is
    which (Some thread) is = ap (λ (x : ReadPolicies). x.required) is.is

-- and with each step
pub follows-for : (a : Act) (required : Option Thread) (found : _) (after : Act) (turn : Turn) → IsFor required a.at → Follows (bare a) found after turn → IsFor required after.at
follows-for a required found after turn same follows = which a.at same follows.1
  where
    left : (x : Abandon) (z : AbandonAt) → x.failed.required ≡ required → IsFor required (abandoned_at x z)
    left x abandon_at.Over is = is
    left x abandon_at.SetCache is = is
    left x abandon_at.SetOwner is = is
    left x (abandon_at.Lose file) is = is
    left x (abandon_at.Kill number process) is = is
    left x abandon_at.PutRef is = is
    left x abandon_at.Retire is = is
    left x abandon_at.UnlockPage is = is

    given : (g : GiveUp) (b : Bool) → IsFor required (cond b (at.Over None) (at.GiveUp g))
    given g true = tt
    given g false = tt

    which : (x : ActAt) → IsFor required x → FollowsAt a.who a.page a.frame (bare_at x) found after.at turn → IsFor required after.at
    which (at.Read r) same (is, on) = read-for a.who a.page a.frame is.after required after.at (same-required r is.after found is.follows ∙ same) is.next_is
    which (at.Clear c losses failed body) same (is, on) = subst (IsFor required) (sym is.next_is) (clear-for a.who a.page a.frame is.after (record { body = body; losses = losses; failed = failed }) required same)
    which (at.Abandon x) same (is, on) = subst (IsFor required) (sym is) (left (abandons.next (abandons.bare x)) (abandons.next (abandons.bare x)).at same)
    which (at.GiveUp g) same (is, on) = subst (IsFor required) (sym is) (given (give_ups.next (give_ups.bare g) found) (is_none (give_ups.plan (give_ups.next (give_ups.bare g) found))))
    which (at.Over failed) same (is, on) = subst (IsFor required) (sym is) same

-- and in the end
pub ended-for : (a : Act) (required : Option Thread) (failed : Failed) → IsFor required a.at → answer a ≡ Some failed → failed.required ≡ required
ended-for a required failed same is = which a.at same is
  where
    which : (x : ActAt) → IsFor required x → answer_at x ≡ Some failed → failed.required ≡ required
    which (at.Over (Some other)) same e = sym (ap (λ (f : Failed). f.required) (same_Some other failed e)) ∙ same
    which (at.Over None) same e = absurd (none-some failed e)
    which (at.Read r) same e = absurd (none-some failed e)
    which (at.Clear c losses other body) same e = absurd (none-some failed e)
    which (at.Abandon x) same e = absurd (none-some failed e)
    which (at.GiveUp g) same e = absurd (none-some failed e)
