-- What a failure's action begins with, and that its class tells what is held.
use Rattle.std.proofs.Common.{◌≡◌, inl, inr, ℕ, ◌<◌, ◌≤◌, Bool, cond, List, [], Option, Some, None, length, slice_get, refl, sym, ap, ◌∙◌, subst, arith}
use Rattle.std.proofs.lemmas.List.{drop_all}
use Rattle.std.proofs.lemmas.Option.{none-some, same_Some}
use Rattle.std.specs.List.{find}
use Rattle.hwp_core.specs.hwp_geom.declared.Frame.{Frame}
use Rattle.hwp_core.specs.hwp_geom.declared.Layout.{Layout}
use Rattle.hwp_core.specs.hwp_geom.declared.Page.{Page}
use Rattle.hwp_core.specs.hwp_geom.declared.Thread.{Thread}
use Rattle.hwp_core.specs.hwp_geom.declared.Who.{Who}
use Rattle.hwp_core.specs.hwp_geom.Layout.{IsSound}
use Rattle.hwp_core.specs.hwp_kill.declared.Seen.{Seen}
use Rattle.hwp_core.specs.hwp_kill.Next.{IsReadSoFar}
use Rattle.hwp_core.proofs.of_hwp_kill.PolicyReads.{read-none}
use Rattle.hwp_core.specs.hwp_page.History.{BodyValue}
use Rattle.hwp_core.specs.hwp_core_rule.declared.InHand.{InHand}
use Rattle.hwp_core.specs.hwp_core_rule.declared.View.{View}
use Rattle.hwp_core.specs.hwp_core_rule.Logs.{log_of}
use Rattle.hwp_core.specs.hwp_core_rule.Views.{body_of, is_body_of, more_of}
use Rattle.hwp_core.proofs.of_hwp_core_rule.Lists.{same-number}
use Rattle.hwp_core.specs.hwp_core_rule.Calls.{IsOnTurn}
use Rattle.hwp_core.specs.hwp_core_rule.Hands.{Hand, body_in, empty, hand_of}
use Rattle.hwp_core.proofs.GiveUpLaws.{page-given-up}
use Rattle.hwp_core.proofs.HoldEnds.{held-unholds}
use Rattle.hwp_core.proofs.TaskTells.{Tells, empty-tells, frame-tells, give-up-tells, page-tells}
use Rattle.hwp_claim_act.specs.declared.abandon.Abandon.{Abandon}
use Rattle.hwp_claim_act.specs.declared.abandon.AbandonAt.{AbandonAt}
use Rattle.hwp_claim_act.specs.declared.abandon.AbandonAt.TheVariants as abandon_at
use Rattle.hwp_claim_act.specs.declared.abandon.Failed.{Failed}
use Rattle.hwp_claim_act.specs.declared.act.Act.{Act}
use Rattle.hwp_claim_act.specs.declared.act.ActAt.{ActAt}
use Rattle.hwp_claim_act.specs.declared.act.ActAt.TheVariants as at
use Rattle.hwp_claim_act.specs.declared.read_policies.ReadPolicies.{ReadPolicies}
use Rattle.hwp_claim_act.specs.Abandoned as abandoned
use Rattle.hwp_claim_act.specs.Abandoned.{HasFailed}
use Rattle.hwp_claim_act.specs.Abandons as abandons
use Rattle.hwp_claim_act.specs.Acting.{AsTaken, Fits, FitsAt, FitsOver, IsClean}
use Rattle.hwp_claim_act.specs.Acts.{Begins, IsReady, Starts, answer, answer_at, class, class_at, with_room}
use Rattle.hwp_claim_act.specs.Reads as reads
use Rattle.hwp_claim_act.specs.Reads.{HoldsFailed}
use Rattle.hwp_claim_act.proofs.ActLaws.{reads-on}
use Rattle.hwp_claim_act.proofs.FailureFits.{enters-fits}

-- room for an entry changes nothing of what is held
with-room : {layout : Layout} {view : View} {page : Page} {frame : Frame} {body : BodyValue} (spare : ℕ) → HoldsFailed layout view page frame body → HoldsFailed layout view page frame (with_room body spare)
with-room spare has = record {
  holds = record {
    seen = has.holds.seen;
    handled = has.holds.handled;
    poisoned = has.holds.poisoned;
    hand_is = has.holds.hand_is;
    within = has.holds.within;
    body_is = record { page_is = has.holds.body_is.page_is; layout_is = has.holds.body_is.layout_is; cached = has.holds.body_is.cached; replay = has.holds.body_is.replay };
  };
  unhandled = has.unhandled;
  poisoned = has.poisoned;
  few = has.few;
  inside = has.inside;
}

-- a body that goes home at once has the entries that it was taken with
given-as-taken : {layout : Layout} {view : View} {page : Page} {frame : Frame} (body : BodyValue) → HoldsFailed layout view page frame body → AsTaken view (Some body)
given-as-taken {layout} {view} {page} {frame} body held b is = subst (λ (x : BodyValue). (taken : InHand) × (body_of x.page view ≡ Some taken) × (more_of taken (log_of x) ≡ [])) (same_Some body b is) (
  body_in (Some frame) (log_of body) held.holds.seen,
  ap (λ (h : Hand). find (is_body_of body.page) h.bodies) held.holds.hand_is ∙ ap (λ (c : Bool). cond c (Some (body_in (Some frame) (log_of body) held.holds.seen)) None) (same-number body.page.0 body.page.0 refl),
  drop_all (length body.log) body.log (omega arith),
)

module _ {layout : Layout} {view : View} {who : Who} {page : Page} {frame : Frame} (on : IsOnTurn view who) (within : frame.0 < layout.frames) (sound : IsSound layout) (clean : IsClean view) where
  begins-fit : (required : Option Thread) (body : BodyValue) → HoldsFailed layout view page frame body → (x : ActAt) → Begins who page frame required body x → FitsAt layout view who page frame x
  begins-fit required body held x (inl is) = subst (FitsAt layout view who page frame) (sym is)
      (record { give_up = page-given-up layout view who page (Some frame) 1 body (held-unholds layout view who page (Some frame) body on held.inside held.holds); own = refl; as_taken = given-as-taken body held; under_way = refl })
  begins-fit required body held x (inr (inl silent)) = enters-fits on held.inside within sound body held clean required [] (λ i s there. absurd (none-some s there)) x silent.enters
  begins-fit required body held x (inr (inr reading)) = reads-on on held.inside within reading.read (subst (reads.Fits layout view) (sym reading.begun.is) (record {
    on_turn = on;
    sound = sound;
    held = subst (λ (p : Page). HoldsFailed layout view p frame body) (sym held.holds.body_is.page_is) held;
    read = subst (IsReadSoFar body.layout body.state.maps required) (sym reading.begun.items) (read-none body.layout body.state.maps required);
    shown = λ i s there. absurd (none-some s (sym (ap (λ (l : List Seen). slice_get l i) reading.begun.items) ∙ there));
    next = subst (λ (l : List Seen). reads.IsNextOf body required l reading.read.next) (sym reading.begun.items) reading.begun.next;
    room = subst (λ (n : ℕ). length layout.threads ≤ n) (sym reading.begun.room) (subst (λ (l : Layout). length l.threads ≤ reading.capacity) held.holds.body_is.layout_is reading.enough);
  })) (ap (λ (r : ReadPolicies). r.who) reading.begun.is) (ap (λ (r : ReadPolicies). r.body.page) reading.begun.is ∙ held.holds.body_is.page_is) (ap (λ (r : ReadPolicies). r.frame) reading.begun.is)
      (subst IsReady (sym (ap (λ (r : ReadPolicies). r.body) reading.begun.is)) reading.ready) clean x reading.next_is

-- a task that begins fits
pub starts-fit : (layout : Layout) (view : View) (a : Act) (required : Option Thread) (body : BodyValue) → IsOnTurn view a.who → a.frame.0 < layout.frames → IsSound layout → IsClean view → HoldsFailed layout view a.page a.frame body
    → Starts a.who a.page a.frame required body a.at → Fits layout view a
starts-fit layout view a required body on within sound clean held starts = record {
  on_turn = on;
  page = held.inside;
  frame = within;
  at = begins-fit on within sound clean required (with_room body starts.0) (with-room starts.0 held) a.at starts.1;
}

abandon-tells : (layout : Layout) (view : View) (a : Abandon) → abandoned.Fits layout view a → Tells view (abandons.class a)
abandon-tells layout view a fits = which a.at fits.at
  where
    which : (x : AbandonAt) → abandoned.FitsAt layout view a x → Tells view (abandons.class_at x)
    which abandon_at.SetCache has = frame-tells view
    which abandon_at.SetOwner has = frame-tells view
    which (abandon_at.Lose file) has = frame-tells view
    which (abandon_at.Kill number process) has = frame-tells view
    which abandon_at.PutRef has = frame-tells view
    which abandon_at.Retire has = frame-tells view
    which abandon_at.UnlockPage has = page-tells view has.hand_is 2 refl refl refl (omega arith)
    which abandon_at.Over has = empty-tells view 4 has.0

-- the class tells what is held
pub act-tells : (layout : Layout) (view : View) (a : Act) → Fits layout view a → Tells view (class a)
act-tells layout view a fits = which a.at fits.at
  where
    over : (failed : Option Failed) → FitsOver view a.who a.page failed → hand_of view ≡ empty
    over None has = has
    over (Some failed) has = has.0

    which : (x : ActAt) → FitsAt layout view a.who a.page a.frame x → Tells view (class_at x)
    which (at.Read r) has = frame-tells view
    which (at.Clear c losses failed body) has = frame-tells view
    which (at.Abandon x) has = abandon-tells layout view x has.abandon
    which (at.GiveUp g) has = give-up-tells layout view g has.give_up has.under_way
    which (at.Over failed) has = empty-tells view 4 (over failed has)

-- what is known when it has an answer
pub act-ended : (layout : Layout) (view : View) (a : Act) (failed : Failed) → Fits layout view a → answer a ≡ Some failed → (hand_of view ≡ empty) × (view.owed.losses ≡ []) × (failed.at.page ≡ a.page) × HasFailed view a.who failed
act-ended layout view a failed fits is = which a.at fits.at is
  where
    which : (x : ActAt) → FitsAt layout view a.who a.page a.frame x → answer_at x ≡ Some failed → (hand_of view ≡ empty) × (view.owed.losses ≡ []) × (failed.at.page ≡ a.page) × HasFailed view a.who failed
    which (at.Over (Some other)) has e = subst (λ (f : Failed). (hand_of view ≡ empty) × (view.owed.losses ≡ []) × (f.at.page ≡ a.page) × HasFailed view a.who f) (same_Some other failed e) has
    which (at.Over None) has e = absurd (none-some failed e)
    which (at.Read r) has e = absurd (none-some failed e)
    which (at.Clear c losses other body) has e = absurd (none-some failed e)
    which (at.Abandon x) has e = absurd (none-some failed e)
    which (at.GiveUp g) has e = absurd (none-some failed e)
