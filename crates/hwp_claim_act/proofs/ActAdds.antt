-- What the steps of a failure's action list of entries: that of the failure, once.
use Rattle.std.proofs.Common.{◌≡◌, inl, inr, ℕ, ◌+◌, ◌<◌, ◌==◌, ◌||◌, Bool, true, false, not, cond, List, [], ◌∷◌, Option, Some, None, is_none, is_some, length, option_map, slice_get, refl, sym, ap, ◌∙◌, subst, arith}
use Rattle.std.proofs.lemmas.Option.{none-some, slice_get_within}
use Rattle.hwp_core.specs.hwp_geom.declared.FileNo.{FileNo}
use Rattle.hwp_core.specs.hwp_geom.declared.Frame.{Frame}
use Rattle.hwp_core.specs.hwp_geom.declared.Layout.{Layout}
use Rattle.hwp_core.specs.hwp_geom.declared.Page.{Page}
use Rattle.hwp_core.specs.hwp_geom.declared.Thread.{Thread}
use Rattle.hwp_core.specs.hwp_geom.declared.VSlot.{VSlot}
use Rattle.hwp_core.specs.hwp_geom.declared.Who.{Who}
use Rattle.hwp_core.specs.hwp_kill.declared.Seen.{Seen}
use Rattle.hwp_core.specs.hwp_kill.declared.Signal.{Signal}
use Rattle.hwp_core.specs.hwp_page.declared.What.{What}
use Rattle.hwp_core.specs.hwp_page.declared.What.TheVariants as entries
use Rattle.hwp_core.specs.hwp_page.History.{BodyValue}
use Rattle.hwp_core.specs.hwp_core_rule.declared.InHand.{InHand}
use Rattle.hwp_core.specs.hwp_core_rule.declared.Made.{Made}
use Rattle.hwp_core.specs.hwp_core_rule.declared.Stamp.{Stamp}
use Rattle.hwp_core.specs.hwp_core_rule.declared.Step.{Step}
use Rattle.hwp_core.specs.hwp_core_rule.declared.Step.TheVariants as steps
use Rattle.hwp_core.specs.hwp_core_rule.declared.View.{View}
use Rattle.hwp_core.specs.hwp_core_rule.Lists.{EachMember}
use Rattle.hwp_core.specs.hwp_core_rule.Logs.{log_of}
use Rattle.hwp_core.proofs.of_hwp_core_rule.Lists.{each-push}
use Rattle.hwp_core.specs.hwp_core_rule.declared.Turn.{Turn}
use Rattle.hwp_core.specs.hwp_core_rule.Calls.{Steps, logs}
use Rattle.hwp_core.specs.hwp_core_rule.Hands.{Hand}
use Rattle.hwp_core.proofs.of_hwp_core_rule.tasks.StepLeaves.{steps-planned}
use Rattle.hwp_core.specs.hwp_core_rule.Known.{HasOnly, IsAt, deeds, is_failure}
use Rattle.hwp_core.proofs.of_hwp_core_rule.tasks.MadeEntries.{Lists, deeds-none, deeds-one, deeds-same, frame-lists, kill-lists, loss-lists, page-lists}
use Rattle.hwp_core.specs.declared.give_up.GiveUp.{GiveUp}
use Rattle.hwp_core.specs.declared.give_up.GiveUpAt.{GiveUpAt}
use Rattle.hwp_core.specs.declared.give_up.GiveUpAt.TheVariants as give_up_at
use Rattle.hwp_core.specs.declared.unhold.UnholdAt.{UnholdAt}
use Rattle.hwp_core.specs.declared.unhold.UnholdAt.TheVariants as unhold_at
use Rattle.hwp_core.specs.declared.unlock.UnlockAt.{UnlockAt}
use Rattle.hwp_core.specs.declared.unlock.UnlockAt.TheVariants as unlock_at
use Rattle.hwp_core.specs.GiveUps as give_ups
use Rattle.hwp_core.specs.Unholds as unholds
use Rattle.hwp_core.specs.Unlocks as unlocks
use Rattle.hwp_core.proofs.TaskCosts.{release-lists}
use Rattle.hwp_core.specs.declared.clear.Clear.{Clear}
use Rattle.hwp_core.specs.Clears as clears
use Rattle.hwp_claim_act.specs.declared.abandon.Abandon.{Abandon}
use Rattle.hwp_claim_act.specs.declared.abandon.AbandonAt.{AbandonAt}
use Rattle.hwp_claim_act.specs.declared.abandon.AbandonAt.TheVariants as abandon_at
use Rattle.hwp_claim_act.specs.declared.abandon.Failed.{Failed}
use Rattle.hwp_claim_act.specs.declared.act.Act.{Act}
use Rattle.hwp_claim_act.specs.declared.act.ActAt.{ActAt}
use Rattle.hwp_claim_act.specs.declared.act.ActAt.TheVariants as at
use Rattle.hwp_claim_act.specs.declared.failing.Entered.{Entered}
use Rattle.hwp_claim_act.specs.declared.read_policies.ReadPolicies.{ReadPolicies}
use Rattle.hwp_claim_act.specs.Abandoned as abandoned
use Rattle.hwp_claim_act.specs.Abandoned.{AddsFailure, Carries, IsListedIf, entry_of, failed_in, failed_of, what_of}
use Rattle.hwp_claim_act.specs.Abandons as abandons
use Rattle.hwp_claim_act.specs.Abandons.{failed_now, has_told, is_listed, kill_at, kill_from, owner_gone, snapshot}
use Rattle.hwp_claim_act.specs.Acting.{AsTaken, Fits, FitsAt}
use Rattle.hwp_claim_act.specs.Acts.{AfterRead, AfterReadAt, Enters, Follows, FollowsAt, Starts, abandoned_at, after_clear, bare, bare_at, failed_at, plan, plan_at, put, put_at}
use Rattle.hwp_claim_act.proofs.AbandonAsks.{body-page}
use Rattle.hwp_claim_act.proofs.AbandonSteps.{there, told-by-end, told-by-loss}
use Rattle.hwp_claim_act.proofs.ReadLaws.{reads-list-none}

-- ---- the page leaves its frame

-- the failure, where its entry is listed
abbrev listed_if : Bool → Failed → List Failed
listed_if b failed = cond b (failed ∷ []) []

module _ {layout : Layout} {old new : View} (a : Abandon) where
  module _ {killed : ℕ} {trans : List ℕ} {taken : InHand} (has : Carries layout old a killed trans taken) (bodies : old.bodies ≡ taken ∷ []) {stamp : Stamp} (lists : Lists old new stamp taken (log_of has.body)) where
    -- the entry tells the failure
    is-failure : (m : Made) → IsAt (log_of has.body).page (length has.log.entries) (what_of has.f) m → failed_in m ≡ Some a.failed
    is-failure m is = ap (λ (p : Page). failed_of p m.place m.entry.what) (is.0 ∙ body-page a has) ∙ ap (λ (n : ℕ). failed_of a.page n m.entry.what) is.1 ∙ ap (failed_of a.page (length has.log.entries)) is.2
        ∙ ap (λ (x : Failed). Some x) (sym has.entry.failed_is)

    -- what the body has more is listed
    lists-all : (b : Bool) → IsListedIf b old a.who a.page has.log has.f has.body taken → AddsFailure a.who old new (listed_if b a.failed) (a.failed ∷ [])
    lists-all true done = inl (deeds-none a.who lists done.more, refl)
    lists-all false unlisted =
        let one = deeds-one a.who lists (entry_of a.who has.f) unlisted.more refl in
        inr (one.0, a.failed, one.1, is-failure one.0 (subst (λ (n : ℕ). IsAt (log_of has.body).page n (what_of has.f) one.0) unlisted.length_is one.2), refl)

module _ (a : Abandon) where
  -- the entry isn't listed before the owner is gone
  unlisted-yet : listed_if (is_listed a.losses (owner_gone a.losses.file a.losses.endings)) a.failed ≡ []
  unlisted-yet = which a.losses.file refl
    where
      first : (l : List Signal) → slice_get l 0 ≡ None → length l ≡ 0
      first [] is = refl
      first (s ∷ l) is = absurd (none-some s (sym is))

      killing : a.losses.file ≡ None → (o : Option Signal) → slice_get a.losses.endings 0 ≡ o → listed_if (is_listed a.losses (kill_from 0 o)) a.failed ≡ []
      killing none (Some s) e = ap (λ (o : Option FileNo). listed_if (is_some o || not (0 == 0)) a.failed) none
      killing none None e = ap (λ (o : Option FileNo). listed_if (is_some o || not (length a.losses.endings == 0)) a.failed) none ∙ ap (λ (n : ℕ). listed_if (not (n == 0)) a.failed) (first a.losses.endings e)

      which : (o : Option FileNo) → a.losses.file ≡ o → listed_if (is_listed a.losses (owner_gone o a.losses.endings)) a.failed ≡ []
      which (Some file) e = refl
      which None e = killing e (slice_get a.losses.endings 0) refl

  -- once the loss is counted, or a process has ended, it is
  listed-then : (n : ℕ) → has_told a.losses n ≡ true → has_told a.losses (length a.losses.endings) ≡ true → listed_if (is_listed a.losses (kill_at a.losses.endings n)) a.failed ≡ a.failed ∷ []
  listed-then n told all = which (slice_get a.losses.endings n)
    where
      which : (o : Option Signal) → listed_if (is_listed a.losses (kill_from n o)) a.failed ≡ a.failed ∷ []
      which (Some s) = ap (λ (b : Bool). listed_if b a.failed) told
      which None = ap (λ (b : Bool). listed_if b a.failed) all

abandon-adds : (layout : Layout) (old new : View) (a : Abandon) (step : Step) (found : ℕ) (got : Option BodyValue) → abandoned.Fits layout old a → abandons.plan a ≡ Some step → Steps layout a.who step (logs (abandons.put a)) old new found got
    → AddsFailure a.who old new (failed_now a) (failed_now (abandons.next (abandons.bare a)))
abandon-adds layout old new a step found got fits is made = which a.at fits.at is made
  where
    which : (x : AbandonAt) → abandoned.FitsAt layout old a x → abandons.plan_at a.page a.frame a.count a.body x ≡ Some step → Steps layout a.who step (logs (abandons.put_at a.body x)) old new found got
        → AddsFailure a.who old new (listed_if (is_listed a.losses x) a.failed) (listed_if (is_listed a.losses (abandons.next_at a.losses x)) a.failed)
    which abandon_at.SetCache has e made = inl (deeds-same a.who tt (steps-planned e made), refl)
    which abandon_at.SetOwner has e made = inl (deeds-same a.who tt (steps-planned e made), unlisted-yet a)
    which (abandon_at.Lose file) has e made = subst (AddsFailure a.who old new []) (sym (listed-then a 0 (told-by-loss a.losses 0 file has.1) (told-by-loss a.losses (length a.losses.endings) file has.1)))
        (lists-all a has.0.carries bodies (loss-lists (there a has.0.carries bodies) (steps-planned (sym (ap (λ (b : Option BodyValue). option_map (λ (b : BodyValue). steps.Lose file (snapshot b)) b) has.0.carries.given_is) ∙ e) made)) false has.0.unlisted)
      where
        bodies : old.bodies ≡ has.0.taken ∷ []
        bodies = ap (λ (h : Hand). h.bodies) has.0.hand_is
    which (abandon_at.Kill number process) has e made = subst (AddsFailure a.who old new (listed_if (has_told a.losses number) a.failed)) (sym (listed-then a (number + 1) (told-by-end a.losses (number + 1) (omega arith)) (told-by-end a.losses (length a.losses.endings) some)))
        (lists-all a has.0.carries bodies (kill-lists (there a has.0.carries bodies) (steps-planned (sym (ap (λ (b : Option BodyValue). option_map (λ (b : BodyValue). steps.Kill process a.page (snapshot b)) b) has.0.carries.given_is) ∙ e) made)) (has_told a.losses number) has.0.listing)
      where
        bodies : old.bodies ≡ has.0.taken ∷ []
        bodies = ap (λ (h : Hand). h.bodies) has.0.hand_is

        some : 0 < length a.losses.endings
        some = let inside = slice_get_within a.losses.endings number has.1.0 has.1.1 in omega (arith, inside)
    which abandon_at.PutRef has e made = inl (deeds-same a.who tt (steps-planned e made), refl)
    which abandon_at.Retire has e made = inl (deeds-same a.who tt (steps-planned e made), refl)
    which abandon_at.UnlockPage has e made = lists-all a has.carries bodies (page-lists (there a has.carries bodies) own) (has_told a.losses (length a.losses.endings)) has.listing
      where
        bodies : old.bodies ≡ has.taken ∷ []
        bodies = ap (λ (h : Hand). h.bodies) has.hand_is

        own : Steps layout a.who (steps.UnlockPage a.page) (Some (log_of has.carries.body)) old new found got
        own = subst (λ (b : Option BodyValue). Steps layout a.who (steps.UnlockPage a.page) (logs b) old new found got) has.carries.given_is (steps-planned e made)
    which abandon_at.Over has e made = absurd (none-some step e)

-- ---- the command gives up

module _ {layout : Layout} {who : Who} {old new : View} {found : ℕ} {got : Option BodyValue} where
  frame-puts : (frame : Frame) (given : Option BodyValue) → AsTaken old given → Steps layout who (steps.UnlockFrame frame) (logs given) old new found got → deeds who new ≡ deeds who old
  frame-puts frame None as_taken made = deeds-same who tt made
  frame-puts frame (Some b) as_taken made = let x = as_taken b refl in deeds-none who (frame-lists x.1 made) x.2

  page-puts : (page : Page) (given : Option BodyValue) → AsTaken old given → Steps layout who (steps.UnlockPage page) (logs given) old new found got → deeds who new ≡ deeds who old
  page-puts page None as_taken made = deeds-same who tt made
  page-puts page (Some b) as_taken made = let x = as_taken b refl in deeds-none who (page-lists x.1 made) x.2

  module _ (step : Step) where
    page-let-go : (page : Page) (x : UnholdAt) → AsTaken old (unholds.put_at x) → unholds.plan_at page x ≡ Some step → Steps layout who step (logs (unholds.put_at x)) old new found got → deeds who new ≡ deeds who old
    page-let-go page (unhold_at.UnlockFrame frame count body) as_taken e made = frame-puts frame body as_taken (steps-planned e made)
    page-let-go page (unhold_at.Release r) as_taken e made = deeds-same who (release-lists r step e) made
    page-let-go page (unhold_at.UnlockPage body) as_taken e made = page-puts page body as_taken (steps-planned e made)
    page-let-go page unhold_at.Over as_taken e made = absurd (none-some step e)

    frame-let-go : (x : UnlockAt) → AsTaken old (unlocks.put_at x) → unlocks.plan_at x ≡ Some step → Steps layout who step (logs (unlocks.put_at x)) old new found got → deeds who new ≡ deeds who old
    frame-let-go (unlock_at.UnlockFrame frame body) as_taken e made = frame-puts frame body as_taken (steps-planned e made)
    frame-let-go (unlock_at.Release r) as_taken e made = deeds-same who (release-lists r step e) made
    frame-let-go unlock_at.Over as_taken e made = absurd (none-some step e)

    given-up : (x : GiveUpAt) → AsTaken old (give_ups.put_at x) → give_ups.plan_at x ≡ Some step → Steps layout who step (logs (give_ups.put_at x)) old new found got → deeds who new ≡ deeds who old
    given-up (give_up_at.Unhold u) as_taken e made = page-let-go u.page u.at as_taken e made
    given-up (give_up_at.Unlock u) as_taken e made = frame-let-go u.at as_taken e made
    given-up give_up_at.GiveUp as_taken e made = deeds-same who tt (steps-planned e made)
    given-up give_up_at.Over as_taken e made = absurd (none-some step e)

-- ---- an action as it begins, and goes on, has listed no entry

clear-none : (who : Who) (page : Page) (frame : Frame) (c : Clear) (entered : Entered) → failed_at (after_clear who page frame c entered) ≡ []
clear-none who page frame c entered = which (is_none c.next)
  where
    which : (b : Bool) → failed_at (cond b (at.Abandon (abandons.begin who page frame c.count entered.losses entered.failed entered.body)) (at.Clear c entered.losses entered.failed entered.body)) ≡ []
    which true = refl
    which false = refl

enters-none : {who : Who} {page : Page} {frame : Frame} {required : Option Thread} {body : BodyValue} {seen : List Seen} {x : ActAt} → Enters who page frame required body seen x → failed_at x ≡ []
enters-none {who} {page} {frame} is = ap failed_at is.next_is ∙ clear-none who page frame is.clear is.entered

read-none : (who : Who) (page : Page) (frame : Frame) (r : ReadPolicies) (x : ActAt) → AfterRead who page frame r x → failed_at x ≡ []
read-none who page frame r x after = which r.next after
  where
    which : (o : Option Thread) → AfterReadAt who page frame r o x → failed_at x ≡ []
    which (Some thread) is = ap failed_at is
    which None is = enters-none is

pub starts-none : (who : Who) (page : Page) (frame : Frame) (required : Option Thread) (body : BodyValue) (x : ActAt) → Starts who page frame required body x → failed_at x ≡ []
starts-none who page frame required body x (spare, inl is) = ap failed_at is
starts-none who page frame required body x (spare, inr (inl silent)) = enters-none silent.enters
starts-none who page frame required body x (spare, inr (inr reading)) = read-none who page frame reading.read x reading.next_is

-- ---- a command whose entries are of failures alone

failed-is : (m : Made) (failed : Failed) → failed_in m ≡ Some failed → is_failure m.entry.what ≡ true
failed-is m failed is = which m.entry.what is
  where
    which : (what : What) → failed_of m.page m.place what ≡ Some failed → is_failure what ≡ true
    which (entries.Fail situation required seen signals) is = refl
    which _ is = absurd (none-some failed is)

pub only-failed-stays : (who : Who) (old new : View) {before after : List Failed} → AddsFailure who old new before after → HasOnly (λ (m : Made). is_failure m.entry.what ≡ true) old who → HasOnly (λ (m : Made). is_failure m.entry.what ≡ true) new who
only-failed-stays who old new (inl none) only = subst (EachMember (λ (m : Made). is_failure m.entry.what ≡ true)) (sym none.0) only
only-failed-stays who old new (inr some) only =
    subst (EachMember (λ (m : Made). is_failure m.entry.what ≡ true)) (sym some.2) (each-push (λ (m : Made). is_failure m.entry.what ≡ true) (deeds who old) some.0 (failed-is some.0 some.1 some.3) only)

-- ---- each step

pub act-adds : (layout : Layout) (old new : View) (a : Act) (step : Step) (found : ℕ) (got : Option BodyValue) → Fits layout old a → plan a ≡ Some step → Steps layout a.who step (logs (put a)) old new found got
    → (after : Act) (turn : Turn) → Follows (bare a) found after turn → AddsFailure a.who old new (failed_at a.at) (failed_at after.at)
act-adds layout old new a step found got fits is made after turn follows = which a.at fits.at is made follows.1
  where
    cleared : (c : Clear) (n : Option VSlot) → clears.plan_at c.barred n ≡ Some step → Steps layout a.who step None old new found got → deeds a.who new ≡ deeds a.who old
    cleared c (Some slot) e made = deeds-same a.who tt (steps-planned e made)
    cleared c None e made = absurd (none-some step e)

    abandoned-so : (x : Abandon) (z : AbandonAt) → x.at ≡ z → failed_at (abandoned_at x z) ≡ failed_now x
    abandoned-so x abandon_at.Over is = sym (ap (λ (z : AbandonAt). listed_if (is_listed x.losses z) x.failed) is)
    abandoned-so x _ is = refl

    given : (g : GiveUp) (b : Bool) → failed_at (cond b (at.Over None) (at.GiveUp g)) ≡ []
    given g true = refl
    given g false = refl

    which : (x : ActAt) → FitsAt layout old a.who a.page a.frame x → plan_at x ≡ Some step → Steps layout a.who step (logs (put_at x)) old new found got → FollowsAt a.who a.page a.frame (bare_at x) found after.at turn → AddsFailure a.who old new (failed_at x) (failed_at after.at)
    which (at.Read r) has e made next = inl (deeds-same a.who (reads-list-none r step e) made, read-none a.who a.page a.frame next.0.after after.at next.0.next_is)
    which (at.Clear c losses failed body) has e made next = inl (cleared c c.next e made, ap failed_at next.0.next_is ∙ clear-none a.who a.page a.frame next.0.after (record { body = body; losses = losses; failed = failed }))
    which (at.Abandon x) has e made next = subst (AddsFailure a.who old new (failed_now x)) (sym (ap failed_at next.0 ∙ abandoned-so (abandons.next (abandons.bare x)) (abandons.next (abandons.bare x)).at refl))
        (subst (λ (w : Who). AddsFailure w old new (failed_now x) (failed_now (abandons.next (abandons.bare x)))) has.own
        (abandon-adds layout old new x step found got has.abandon e (subst (λ (w : Who). Steps layout w step (logs (abandons.put x)) old new found got) (sym has.own) made)))
    which (at.GiveUp g) has e made next = inl (given-up step g.at has.as_taken e made, ap failed_at next.0 ∙ given (give_ups.next (give_ups.bare g) found) (is_none (give_ups.plan (give_ups.next (give_ups.bare g) found))))
    which (at.Over failed) has e made next = absurd (none-some step e)
