-- The laws of `Act`: its steps can be made, and what follows them fits.
use Rattle.std.proofs.Common.{◌≡◌, ℕ, ◌<◌, ◌≤◌, Bool, true, false, cond, List, Option, Some, None, is_none, length, drop, refl, sym, ap, ◌∙◌, subst}
use Rattle.std.proofs.lemmas.Bool.{both_ways}
use Rattle.std.proofs.lemmas.Option.{none-some}
use Rattle.hwp_core.specs.hwp_geom.declared.Frame.{Frame}
use Rattle.hwp_core.specs.hwp_geom.declared.Layout.{Layout}
use Rattle.hwp_core.specs.hwp_geom.declared.Page.{Page}
use Rattle.hwp_core.specs.hwp_geom.declared.Thread.{Thread}
use Rattle.hwp_core.specs.hwp_geom.declared.VSlot.{VSlot}
use Rattle.hwp_core.specs.hwp_geom.declared.Who.{Who}
use Rattle.hwp_core.specs.hwp_kill.declared.Seen.{Seen}
use Rattle.hwp_core.specs.hwp_page.History.{BodyValue}
use Rattle.hwp_core.specs.hwp_core_rule.declared.Sight.{Sight}
use Rattle.hwp_core.specs.hwp_core_rule.declared.Step.{Step}
use Rattle.hwp_core.specs.hwp_core_rule.declared.View.{View}
use Rattle.hwp_core.specs.hwp_core_rule.Lists.{EachMember}
use Rattle.hwp_core.specs.hwp_core_rule.parts.Entries.{HasPolicy, HasSeen}
use Rattle.hwp_core.specs.hwp_core_rule.declared.Turn.{Turn}
use Rattle.hwp_core.specs.hwp_core_rule.Calls.{CanMake, IsOnTurn, Steps, logs}
use Rattle.hwp_core.specs.hwp_core_rule.Hands.{empty, hand_of}
use Rattle.hwp_core.proofs.of_hwp_core_rule.tasks.StepLeaves.{on-turn-after, steps-planned}
use Rattle.hwp_core.specs.declared.give_up.GiveUp.{GiveUp}
use Rattle.hwp_core.specs.declared.give_up.GiveUpAt.{GiveUpAt}
use Rattle.hwp_core.specs.declared.give_up.GiveUpAt.TheVariants as give_up_at
use Rattle.hwp_core.specs.declared.release.Release.{Release}
use Rattle.hwp_core.specs.declared.release.ReleaseAt.{ReleaseAt}
use Rattle.hwp_core.specs.declared.release.ReleaseAt.TheVariants as release_at
use Rattle.hwp_core.specs.declared.unhold.Unhold.{Unhold}
use Rattle.hwp_core.specs.declared.unhold.UnholdAt.{UnholdAt}
use Rattle.hwp_core.specs.declared.unhold.UnholdAt.TheVariants as unhold_at
use Rattle.hwp_core.specs.declared.unlock.Unlock.{Unlock}
use Rattle.hwp_core.specs.declared.unlock.UnlockAt.{UnlockAt}
use Rattle.hwp_core.specs.declared.unlock.UnlockAt.TheVariants as unlock_at
use Rattle.hwp_core.specs.GiveUps as give_ups
use Rattle.hwp_core.specs.Releases as releases
use Rattle.hwp_core.specs.Unholds as unholds
use Rattle.hwp_core.specs.Unlocks as unlocks
use Rattle.hwp_core.proofs.GiveUpLaws as giving-up
use Rattle.hwp_core.specs.declared.clear.Clear.{Clear}
use Rattle.hwp_core.specs.Clears as clears
use Rattle.hwp_core.proofs.ClearLaws as clearing
use Rattle.hwp_core.proofs.ClearLaws.{same-clear}
use Rattle.hwp_claim_act.specs.declared.abandon.Abandon.{Abandon}
use Rattle.hwp_claim_act.specs.declared.abandon.AbandonAt.{AbandonAt}
use Rattle.hwp_claim_act.specs.declared.abandon.AbandonAt.TheVariants as abandon_at
use Rattle.hwp_claim_act.specs.declared.abandon.Failed.{Failed}
use Rattle.hwp_claim_act.specs.declared.abandon.Losses.{Losses}
use Rattle.hwp_claim_act.specs.declared.act.Act.{Act}
use Rattle.hwp_claim_act.specs.declared.act.ActAt.{ActAt}
use Rattle.hwp_claim_act.specs.declared.act.ActAt.TheVariants as at
use Rattle.hwp_claim_act.specs.declared.read_policies.ReadPolicies.{ReadPolicies}
use Rattle.hwp_claim_act.specs.Abandoned as abandoned
use Rattle.hwp_claim_act.specs.Abandoned.{what_of}
use Rattle.hwp_claim_act.specs.Abandons as abandons
use Rattle.hwp_claim_act.specs.Acting.{Fits, FitsAt, IsAbandoning, IsClean, IsClearing, IsReading}
use Rattle.hwp_claim_act.specs.Acts.{AfterRead, AfterReadAt, Follows, FollowsAt, IsCleared, IsReadOn, IsReady, Shows, ShowsAt, abandoned_at, after_abandon, after_give_up, bare, bare_at, plan, plan_at, put, put_at}
use Rattle.hwp_claim_act.specs.Reads as reads
use Rattle.hwp_claim_act.specs.Reads.{HoldsFailed}
use Rattle.hwp_claim_act.proofs.AbandonSteps.{spare-kept}
use Rattle.hwp_claim_act.proofs.AbandonAsks as abandoning
use Rattle.hwp_claim_act.proofs.AbandonLaws as abandon_laws
use Rattle.hwp_claim_act.proofs.FailureFits.{clears-on, enters-fits}
use Rattle.hwp_claim_act.proofs.ReadLaws as reading

pub can : (layout : Layout) (view : View) (a : Act) (step : Step) → Fits layout view a → plan a ≡ Some step → CanMake layout a.who step (put a) view
can layout view a step fits is = which a.at fits.at is
  where
    which : (x : ActAt) → FitsAt layout view a.who a.page a.frame x → plan_at x ≡ Some step → CanMake layout a.who step (put_at x) view
    which (at.Read r) has e = subst (λ (w : Who). CanMake layout w step None view) has.own (reading.can layout view r step has.read e)
    which (at.Clear c losses failed body) has e = subst (λ (w : Who). CanMake layout w step None view) has.0.own (clearing.can layout view c step has.0.clear e)
    which (at.Abandon x) has e = subst (λ (w : Who). CanMake layout w step (abandons.put x) view) has.own (abandoning.can layout view x step has.abandon e)
    which (at.GiveUp g) has e = subst (λ (w : Who). CanMake layout w step (give_ups.put g) view) has.own (giving-up.can layout view g step has.give_up e)
    which (at.Over failed) has e = absurd (none-some step e)

-- the command makes no entry, owes nothing, and poisons nothing meanwhile
pub clean-kept : (old new : View) → new.made ≡ old.made → new.owed.losses ≡ old.owed.losses → new.marks ≡ old.marks → IsClean old → IsClean new
clean-kept old new made owed marks has = record {
  paid = owed ∙ has.paid;
  spare = spare-kept old new made marks has.spare;
}

-- what is held with the policies that were read
abbrev Held : Layout → View → Page → Frame → Who → BodyValue → List Seen → Type 0
Held layout view page frame who body seen = (h : HoldsFailed layout view page frame body) × EachMember (HasPolicy (drop h.holds.seen view.sights) who (Some frame)) seen

module _ {layout : Layout} {view : View} {who : Who} {page : Page} {frame : Frame} (on : IsOnTurn view who) (inside : page.0 < length layout.pages) (within : frame.0 < layout.frames) where
  -- more policies are to be read, or all are
  pub reads-on : (r : ReadPolicies) → reads.Fits layout view r → r.who ≡ who → r.body.page ≡ page → r.frame ≡ frame → IsReady r.body → IsClean view → (y : ActAt) → AfterRead who page frame r y → FitsAt layout view who page frame y
  reads-on r fits own its in-frame ready clean y after = which r.next refl after
    where
      held : Held layout view page frame who r.body r.seen.items
      held = subst (λ (w : Who). Held layout view page frame w r.body r.seen.items) own (subst (λ (f : Frame). Held layout view page f r.who r.body r.seen.items) in-frame (subst (λ (p : Page). Held layout view p r.frame r.who r.body r.seen.items) its (fits.held, fits.shown)))

      which : (n : Option Thread) → r.next ≡ n → AfterReadAt who page frame r n y → FitsAt layout view who page frame y
      which (Some thread) is after = subst (FitsAt layout view who page frame) (sym after) (record { read = fits; own = own; page_is = its; frame_is = in-frame; under_way = ap is_none is; ready = ready; clean = clean })
      which None is after = enters-fits on inside within fits.sound r.body held.0 clean r.required r.seen.items held.1 y after

-- what a step of reading leaves
module _ {layout : Layout} {old new : View} (r : ReadPolicies) {step : Step} {found : ℕ} {got : Option BodyValue} (is : reads.plan r ≡ Some step) (made : Steps layout r.who step None old new found got) where
  reads-leave : (new.made ≡ old.made) × (new.owed.losses ≡ old.owed.losses) × (new.marks ≡ old.marks)
  reads-leave = which r.next is
    where
      which : (n : Option Thread) → reads.plan_at n ≡ Some step → (new.made ≡ old.made) × (new.owed.losses ≡ old.owed.losses) × (new.marks ≡ old.marks)
      which (Some thread) e = let own = steps-planned e made in (ap (λ (v : View). v.made) own.told.next, ap (λ (v : View). v.owed.losses) own.told.next, ap (λ (v : View). v.marks) own.told.next)
      which None e = absurd (none-some step e)

-- what a translation that is written leaves
record Leaves (old new : View) : Type 0 where
  made : new.made ≡ old.made
  owed : new.owed.losses ≡ old.owed.losses
  marks : new.marks ≡ old.marks
  bodies : new.bodies ≡ old.bodies
  locks : new.locks ≡ old.locks
  sights : new.sights ≡ old.sights

module _ {layout : Layout} {old new : View} (c : Clear) {step : Step} {found : ℕ} {got : Option BodyValue} (is : clears.plan c ≡ Some step) (made : Steps layout c.who step None old new found got) where
  clear-leaves : Leaves old new
  clear-leaves = which c.next is
    where
      which : (n : Option VSlot) → clears.plan_at c.barred n ≡ Some step → Leaves old new
      which (Some slot) e = let own = steps-planned e made in record {
        made = ap (λ (v : View). v.made) own.told.next;
        owed = ap (λ (v : View). v.owed.losses) own.told.next;
        marks = ap (λ (v : View). v.marks) own.told.next;
        bodies = ap (λ (v : View). v.bodies) own.told.next;
        locks = ap (λ (v : View). v.locks) own.told.next;
        sights = ap (λ (v : View). v.sights) own.told.next;
      }
      which None e = absurd (none-some step e)

record IsSameRead (r after : ReadPolicies) : Type 0 where
  who : after.who ≡ r.who
  frame : after.frame ≡ r.frame
  body : after.body ≡ r.body

same-read : (r after : ReadPolicies) (found : ℕ) → reads.Follows r found after → IsSameRead r after
same-read r after found follows = which r.next follows
  where
    which : (n : Option Thread) → reads.FollowsAt r n found after → IsSameRead r after
    which None is = record { who = ap (λ (x : ReadPolicies). x.who) is; frame = ap (λ (x : ReadPolicies). x.frame) is; body = ap (λ (x : ReadPolicies). x.body) is }
    which (Some thread) is = record { who = ap (λ (x : ReadPolicies). x.who) is.is; frame = ap (λ (x : ReadPolicies). x.frame) is.is; body = ap (λ (x : ReadPolicies). x.body) is.is }

-- nothing is held once the command has given up
gave-up : (layout : Layout) (view : View) (g : GiveUp) → give_ups.Fits layout view g → is_none (give_ups.plan g) ≡ true → hand_of view ≡ empty
gave-up layout view g fits over = which g.at fits.at over
  where
    which : (x : GiveUpAt) → give_ups.FitsAt layout view g.who x → is_none (give_ups.plan_at x) ≡ true → hand_of view ≡ empty
    which (give_up_at.Unhold u) has over = absurd (both_ways true (sym over ∙ has.under_way) refl)
    which (give_up_at.Unlock u) has over = absurd (both_ways true (sym over ∙ has.under_way) refl)
    which give_up_at.GiveUp has over = has
    which give_up_at.Over has over = has

module _ {layout : Layout} {old new : View} (a : Act) {step : Step} {found : ℕ} {got : Option BodyValue} (fits : Fits layout old a) (on : IsOnTurn new a.who) where
  read-stays : (r : ReadPolicies) → IsReading layout old a.who a.page a.frame r → reads.plan r ≡ Some step → Steps layout a.who step None old new found got → (y : ActAt) → IsReadOn a.who a.page a.frame r found y → FitsAt layout new a.who a.page a.frame y
  read-stays r has e made y is =
      let own = subst (λ (w : Who). Steps layout w step None old new found got) (sym has.own) made in
      let all = reading.both layout old new r step found got has.read e own in
      let same = same-read r is.after found is.follows in
      let left = reads-leave r e own in
      reads-on on fits.page fits.frame is.after (all.1 is.after is.follows) (same.who ∙ has.own) (ap (λ (b : BodyValue). b.page) same.body ∙ has.page_is) (same.frame ∙ has.frame_is) (subst IsReady (sym same.body) has.ready)
      (clean-kept old new left.0 left.1 left.2 has.clean) y is.next_is

  clear-stays : (c : Clear) (losses : Losses) (failed : Failed) (body : BodyValue) → IsClearing layout old a.who a.page a.frame c losses failed body → clears.plan c ≡ Some step → Steps layout a.who step None old new found got
      → (y : ActAt) → IsCleared a.who a.page a.frame c (record { body = body; losses = losses; failed = failed }) y → FitsAt layout new a.who a.page a.frame y
  clear-stays c losses failed body has e made y is =
      let own = subst (λ (w : Who). Steps layout w step None old new found got) (sym has.own) made in
      let all = clearing.both layout old new c step found got has.clear e own in
      let same = same-clear c is.after is.follows in
      let left = clear-leaves c e own in
      subst (FitsAt layout new a.who a.page a.frame) (sym is.next_is) (clears-on on fits.page fits.frame is.after (record { body = body; losses = losses; failed = failed }) (record {
        clear = all.1 is.after is.follows;
        own = same.who ∙ has.own;
        page_is = same.page ∙ has.page_is;
        frame_is = same.frame ∙ has.frame_is;
        log = has.log;
        seen = has.seen;
        f = has.f;
        bodies_are = left.bodies ∙ has.bodies_are;
        locks_are = left.locks ∙ has.locks_are;
        entry = has.entry;
        replay = has.replay;
        barred_is = same.barred ∙ has.barred_is;
        few = subst (λ (l : List Sight). has.seen ≤ length l) (sym left.sights) has.few;
        saw = subst (λ (l : List Sight). HasSeen (drop has.seen l) a.who (Some a.frame) (what_of has.f)) (sym left.sights) has.saw;
        clean = clean-kept old new left.made left.owed left.marks has.clean;
      }))

-- and a body goes home with the first step of giving up, if it does
module _ (g : GiveUp) (found : ℕ) where
  released-page : (r : Release) (x : ReleaseAt) → unholds.put_at (unholds.after_release_at r x) ≡ None
  released-page r (release_at.Back word) = refl
  released-page r _ = refl

  released-frame : (r : Release) (x : ReleaseAt) → unlocks.put_at (unlocks.after_release_at r x) ≡ None
  released-frame r (release_at.Back word) = refl
  released-frame r _ = refl

  page-none : (u : Unhold) (x : UnholdAt) → unholds.put_at (unholds.next_at u.who (unholds.bare_at x) found) ≡ None
  page-none u (unhold_at.UnlockFrame frame count body) = refl
  page-none u (unhold_at.Release r) = released-page (releases.next r found) (releases.next r found).at
  page-none u (unhold_at.UnlockPage body) = refl
  page-none u unhold_at.Over = refl

  frame-none : (u : Unlock) (x : UnlockAt) → unlocks.put_at (unlocks.next_at u.who (unlocks.bare_at x) found) ≡ None
  frame-none u (unlock_at.UnlockFrame frame body) = refl
  frame-none u (unlock_at.Release r) = released-frame (releases.next r found) (releases.next r found).at
  frame-none u unlock_at.Over = refl

  chosen-none : (b : Bool) (x : GiveUpAt) → give_ups.put_at x ≡ None → give_ups.put_at (cond b give_up_at.GiveUp x) ≡ None
  chosen-none true x is = refl
  chosen-none false x is = is

  gives-none : give_ups.put (give_ups.next (give_ups.bare g) found) ≡ None
  gives-none = which g.at
    where
      which : (x : GiveUpAt) → give_ups.put_at (give_ups.next_at (give_ups.bare_at x) found) ≡ None
      which (give_up_at.Unhold u) = chosen-none (is_none (unholds.plan (unholds.next (unholds.bare u) found))) (give_up_at.Unhold (unholds.next (unholds.bare u) found)) (page-none u u.at)
      which (give_up_at.Unlock u) = chosen-none (is_none (unlocks.plan (unlocks.next (unlocks.bare u) found))) (give_up_at.Unlock (unlocks.next (unlocks.bare u) found)) (frame-none u u.at)
      which give_up_at.GiveUp = refl
      which give_up_at.Over = refl

-- a page that goes on leaving its frame, and a command that goes on giving up
module _ {layout : Layout} {new : View} (a : Act) where
  abandon-stays : (x : Abandon) → x.who ≡ a.who → x.page ≡ a.page → x.frame ≡ a.frame → abandoned.Fits layout new x → FitsAt layout new a.who a.page a.frame (after_abandon x)
  abandon-stays x own its in-frame fit = which x.at fit.at refl
    where
      still : is_none (abandons.plan x) ≡ false → IsAbandoning layout new a.who a.page a.frame x
      still on = record { abandon = fit; own = own; page_is = its; frame_is = in-frame; under_way = on }

      which : (z : AbandonAt) → abandoned.FitsAt layout new x z → x.at ≡ z → FitsAt layout new a.who a.page a.frame (abandoned_at x z)
      which abandon_at.Over has is = (has.0, has.1, fit.place ∙ its, subst (λ (w : Who). abandoned.HasFailed new w x.failed) own has.2)
      which abandon_at.SetCache has is = still (ap (λ (z : AbandonAt). is_none (abandons.plan_at x.page x.frame x.count x.body z)) is)
      which abandon_at.SetOwner has is = still (ap (λ (z : AbandonAt). is_none (abandons.plan_at x.page x.frame x.count x.body z)) is)
      which (abandon_at.Lose file) has is = still (ap (λ (z : AbandonAt). is_none (abandons.plan_at x.page x.frame x.count x.body z)) is ∙ ap (λ (b : Option BodyValue). is_none (abandons.plan_at x.page x.frame x.count b (abandon_at.Lose file))) has.0.carries.given_is)
      which (abandon_at.Kill number process) has is = still (ap (λ (z : AbandonAt). is_none (abandons.plan_at x.page x.frame x.count x.body z)) is ∙ ap (λ (b : Option BodyValue). is_none (abandons.plan_at x.page x.frame x.count b (abandon_at.Kill number process))) has.0.carries.given_is)
      which abandon_at.PutRef has is = still (ap (λ (z : AbandonAt). is_none (abandons.plan_at x.page x.frame x.count x.body z)) is)
      which abandon_at.Retire has is = still (ap (λ (z : AbandonAt). is_none (abandons.plan_at x.page x.frame x.count x.body z)) is)
      which abandon_at.UnlockPage has is = still (ap (λ (z : AbandonAt). is_none (abandons.plan_at x.page x.frame x.count x.body z)) is)

  give-up-stays : (g : GiveUp) → g.who ≡ a.who → give_ups.put g ≡ None → give_ups.Fits layout new g → FitsAt layout new a.who a.page a.frame (after_give_up g)
  give-up-stays g own none fit = which (is_none (give_ups.plan g)) refl
    where
      which : (b : Bool) → is_none (give_ups.plan g) ≡ b → FitsAt layout new a.who a.page a.frame (cond b (at.Over None) (at.GiveUp g))
      which true over = gave-up layout new g fit over
      which false on = record { give_up = fit; own = own; as_taken = λ b some. absurd (none-some b (sym none ∙ some)); under_way = on }

-- a step shows what is needed, and what follows fits again
pub both : (layout : Layout) (old new : View) (a : Act) (step : Step) (found : ℕ) (got : Option BodyValue) → Fits layout old a → plan a ≡ Some step → Steps layout a.who step (logs (put a)) old new found got
    → Shows (bare a) found × ((after : Act) (turn : Turn) → Follows (bare a) found after turn → Fits layout new after)
both layout old new a step found got fits is made = let all = which a.at fits.at is made in (all.0, λ after turn follows. subst (Fits layout new) (sym follows.0) (record { on_turn = on; page = fits.page; frame = fits.frame; at = all.1 after.at turn follows.1 }))
  where
    on : IsOnTurn new a.who
    on = on-turn-after fits.on_turn made

    which : (x : ActAt) → FitsAt layout old a.who a.page a.frame x → plan_at x ≡ Some step → Steps layout a.who step (logs (put_at x)) old new found got
        → ShowsAt (bare_at x) found × ((y : ActAt) (turn : Turn) → FollowsAt a.who a.page a.frame (bare_at x) found y turn → FitsAt layout new a.who a.page a.frame y)
    which (at.Read r) has e made = (
      ((reading.both layout old new r step found got has.read e (subst (λ (w : Who). Steps layout w step None old new found got) (sym has.own) made)).0, record { ready = has.ready; next = has.read.next }),
      λ y turn follows. read-stays a fits on r has e made y follows.0,
    )
    which (at.Clear c losses failed body) has e made = (
      (clearing.both layout old new c step found got has.0.clear e (subst (λ (w : Who). Steps layout w step None old new found got) (sym has.0.own) made)).0,
      λ y turn follows. clear-stays a fits on c losses failed body has.0 e made y follows.0,
    )
    which (at.Abandon x) has e made = (
      abandon_laws.shows layout old x has.abandon,
      λ y turn follows. subst (FitsAt layout new a.who a.page a.frame) (sym follows.0) (abandon-stays a (abandons.next (abandons.bare x)) has.own has.page_is has.frame_is
          (abandon_laws.moved layout old new x step found got has.abandon e (subst (λ (w : Who). Steps layout w step (logs (abandons.put x)) old new found got) (sym has.own) made))),
    )
    which (at.GiveUp g) has e made = (
      tt,
      λ y turn follows. subst (FitsAt layout new a.who a.page a.frame) (sym follows.0) (give-up-stays a (give_ups.next (give_ups.bare g) found) has.own (gives-none g found)
          (giving-up.moved layout old new g step found got has.give_up e (subst (λ (w : Who). Steps layout w step (logs (give_ups.put g)) old new found got) (sym has.own) made))),
    )
    which (at.Over failed) has e made = absurd (none-some step e)

pub stays : (layout : Layout) (old new : View) (a : Act) (step : Step) (found : ℕ) (got : Option BodyValue) → Fits layout old a → plan a ≡ Some step → Steps layout a.who step (logs (put a)) old new found got
    → Shows (bare a) found × ((after : Act) (turn : Turn) → Follows (bare a) found after turn → Fits layout new after × (after.who.cpu ≡ a.who.cpu))
stays layout old new a step found got fits is made = let all = both layout old new a step found got fits is made in (all.0, λ after turn follows. (all.1 after turn follows, ap (λ (x : Act). x.who.cpu) follows.0))
