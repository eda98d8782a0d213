-- Why a command answers so: it stays so, and it comes to be so when the body goes home.
use Rattle.std.proofs.Common.{◌≡◌, ℕ, Bool, true, false, cond, List, [], ◌∷◌, ◌++◌, Option, Some, None, is_none, length, refl, sym, ◌∙◌, subst}
use Rattle.std.proofs.lemmas.Option.{none-some, same_Some}
use Rattle.hwp_core.specs.hwp_geom.declared.Frame.{Frame}
use Rattle.hwp_core.specs.hwp_geom.declared.Layout.{Layout}
use Rattle.hwp_core.specs.hwp_geom.declared.Page.{Page}
use Rattle.hwp_core.specs.hwp_geom.declared.Who.{Who}
use Rattle.hwp_core.specs.hwp_page.declared.At.{At}
use Rattle.hwp_core.specs.hwp_page.History.{BodyValue}
use Rattle.hwp_core.specs.hwp_core_rule.declared.InHand.{InHand}
use Rattle.hwp_core.specs.hwp_core_rule.declared.Log.{Log}
use Rattle.hwp_core.specs.hwp_core_rule.declared.Made.{Made}
use Rattle.hwp_core.specs.hwp_core_rule.declared.Stamp.{Stamp}
use Rattle.hwp_core.specs.hwp_core_rule.declared.Step.{Step}
use Rattle.hwp_core.specs.hwp_core_rule.declared.Step.TheVariants as steps
use Rattle.hwp_core.specs.hwp_core_rule.declared.View.{View}
use Rattle.hwp_core.specs.hwp_core_rule.Logs.{log_of}
use Rattle.hwp_core.specs.hwp_core_rule.Views.{is_body_of}
use Rattle.std.specs.List.{find}
use Rattle.hwp_core.specs.hwp_core_rule.Calls.{Steps, logs}
use Rattle.hwp_core.specs.hwp_core_rule.Known.{HasMadeBeside, IsAt, deeds}
use Rattle.hwp_core.proofs.of_hwp_core_rule.tasks.MadeEntries.{Lists, ListsNone, deeds-none, deeds-one, deeds-same, frame-lists, has-made-beside, has-made-stays, only-of-none, page-lists}
use Rattle.hwp_core.proofs.of_hwp_core_rule.tasks.SightKeeps.{saw-bad-of-stays, saw-stays, saw-state-stays}
use Rattle.hwp_core.specs.declared.give_up.GiveUp.{GiveUp}
use Rattle.hwp_core.specs.declared.give_up.GiveUpAt.{GiveUpAt}
use Rattle.hwp_core.specs.declared.give_up.GiveUpAt.TheVariants as give_up_at
use Rattle.hwp_core.specs.declared.release.Release.{Release}
use Rattle.hwp_core.specs.declared.release.ReleaseAt.{ReleaseAt}
use Rattle.hwp_core.specs.declared.release.ReleaseAt.TheVariants as release_at
use Rattle.hwp_core.specs.declared.unhold.Unhold.{Unhold}
use Rattle.hwp_core.specs.declared.unhold.UnholdAt.{UnholdAt}
use Rattle.hwp_core.specs.declared.unhold.UnholdAt.TheVariants as unhold_at
use Rattle.hwp_core.specs.declared.unlock.Unlock.{Unlock}
use Rattle.hwp_core.specs.declared.unlock.UnlockAt.{UnlockAt}
use Rattle.hwp_core.specs.declared.unlock.UnlockAt.TheVariants as unlock_at
use Rattle.hwp_core.specs.GiveUps as give_ups
use Rattle.hwp_core.specs.Unholds as unholds
use Rattle.hwp_core.specs.Unlocks as unlocks
use Rattle.hwp_core.specs.Releases as releases
use Rattle.hwp_core.proofs.of_hwp_core_rule.tasks.StepLeaves.{steps-planned}
use Rattle.hwp_core.proofs.TaskCosts.{release-lists}
use Rattle.hwp_evict.specs.declared.evict.EvictAnswer.{EvictAnswer}
use Rattle.hwp_evict.specs.declared.evict.EvictAnswer.TheVariants as answers
use Rattle.hwp_evict.specs.declared.evict.Eviction.{Eviction}
use Rattle.hwp_evict.specs.declared.evict.Refusal.{Refusal}
use Rattle.hwp_evict.specs.declared.evict.Refusal.TheVariants as refusals
use Rattle.hwp_evict.specs.Evictions.{entry_of, SawLines, SawRefusal, IsCaused}
use Rattle.hwp_evict.specs.Evicts.{Comes, IsAhead, KnowsPut}

module _ {layout : Layout} {by : Who} {step : Step} {put : Option Log} {old new : View} {found : ℕ} {got : Option BodyValue} (made : Steps layout by step put old new found got) where
  lines-stay : (who : Who) (page : Page) (refusal : Refusal) → SawLines layout old who page refusal → SawLines layout new who page refusal
  lines-stay who page refusals.NotMapped saw = tt
  lines-stay who page refusals.NotResident saw = tt
  lines-stay who page refusals.Locked saw = tt
  lines-stay who page refusals.Dirty saw = tt
  lines-stay who page refusals.Mapped saw = tt
  lines-stay who page (refusals.BadLines mask) saw = (saw.0, (saw.1.0, saw.1.1, saw-bad-of-stays made page saw.1.2))

  pub refusal-stays : {who : Who} {page : Page} {what : Eviction} {refusal : Refusal} {at : At} → SawRefusal layout old who page what refusal at → SawRefusal layout new who page what refusal at
  refusal-stays {who} {page} {what} {refusal} saw = record { page_is = saw.page_is; state = saw-state-stays made saw.state; lines = lines-stay who page refusal saw.lines }

  -- where no entry more is the command's, what it answers stays so
  pub caused-stays : (base : List Made) (who : Who) (page : Page) (what : Eviction) (answer : EvictAnswer) → deeds who new ≡ deeds who old → IsCaused base layout old who page what answer → IsCaused base layout new who page what answer
  caused-stays base who page what answers.Stopped same is = (same ∙ is.0, record { word = is.1.word; saw = saw-stays made is.1.saw; stopped = is.1.stopped })
  caused-stays base who page what (answers.Done at) same is = (is.0, has-made-stays who old new same is.1)
  caused-stays base who page what (answers.Refused refusal at) same is = (same ∙ is.0, refusal-stays is.1)

  -- and what it will answer too, while its body stays in hand
  comes-stay : (who : Who) (page : Page) (what : Eviction) (answer : EvictAnswer) (taken : InHand) (body : BodyValue) → Comes layout old who page what answer taken body → Comes layout new who page what answer taken body
  comes-stay who page what answers.Stopped taken body comes = absurd comes
  comes-stay who page what (answers.Done at) taken body comes = comes
  comes-stay who page what (answers.Refused refusal at) taken body comes = (comes.0, refusal-stays comes.1)

  pub ahead-stays : {base : List Made} {who : Who} {page : Page} {what : Eviction} {answer : EvictAnswer} {body : BodyValue} → deeds who new ≡ deeds who old → new.bodies ≡ old.bodies → IsAhead base layout old who page what answer body → IsAhead base layout new who page what answer body
  ahead-stays {base} {who} {page} {what} {answer} {body} same bodies ahead = record {
    taken = ahead.taken;
    there = subst (λ (l : List InHand). find (is_body_of body.page) l ≡ Some ahead.taken) (sym bodies) ahead.there;
    page_is = ahead.page_is;
    made_none = same ∙ ahead.made_none;
    comes = comes-stay who page what answer ahead.taken body ahead.comes;
  }

-- when the body is home, the command has made what it answers
module _ {layout : Layout} {who : Who} {page : Page} {what : Eviction} {step : Step} {put : Option Log} {old new : View} {found : ℕ} {got : Option BodyValue} {stamp : Stamp} {body : BodyValue} (made : Steps layout who step put old new found got) where
  comes-home : {base : List Made} (answer : EvictAnswer) (ahead : IsAhead base layout old who page what answer body) → Lists old new stamp ahead.taken (log_of body) → IsCaused base layout new who page what answer
  comes-home {base} answer ahead lists = which answer ahead.comes
    where
      which : (a : EvictAnswer) → Comes layout old who page what a ahead.taken body → IsCaused base layout new who page what a
      which answers.Stopped comes = absurd comes
      which (answers.Refused refusal at) comes = (deeds-none who lists comes.0 ∙ ahead.made_none, refusal-stays made comes.1)
      which (answers.Done at) comes = subst (λ (a : At). (a.page ≡ page) × HasMadeBeside base (λ (m : Made). ⊥) new who page a.entry (entry_of what)) (sym comes.1) (
        refl,
        has-made-beside who old new one.0 one.1 (subst (λ (p : Page). IsAt p (length ahead.taken.log.entries) (entry_of what) one.0) ahead.page_is one.2)
            (only-of-none old who ahead.made_none),
      )
        where
          one : (m : Made) × (deeds who new ≡ deeds who old ++ m ∷ []) × IsAt body.page (length ahead.taken.log.entries) (entry_of what) m
          one = deeds-one who lists (record { who = who; what = entry_of what }) comes.0 refl

module _ {base : List Made} {layout : Layout} {who : Who} {page : Page} {what : Eviction} {old new : View} {found : ℕ} {got : Option BodyValue} {answer : EvictAnswer} {body : BodyValue} (ahead : IsAhead base layout old who page what answer body) where
  pub home-by-frame : {frame : Frame} → Steps layout who (steps.UnlockFrame frame) (Some (log_of body)) old new found got → IsCaused base layout new who page what answer
  home-by-frame made = comes-home made answer ahead (frame-lists ahead.there made)

  pub home-by-page : {other : Page} → Steps layout who (steps.UnlockPage other) (Some (log_of body)) old new found got → IsCaused base layout new who page what answer
  home-by-page made = comes-home made answer ahead (page-lists ahead.there made)

-- once the page is being let go, its body has gone home
released-puts : (r : Release) → unholds.put_at (unholds.after_release r) ≡ None
released-puts r = which r.at
  where
    which : (x : ReleaseAt) → unholds.put_at (unholds.after_release (record r { at = x })) ≡ None
    which release_at.Put = refl
    which (release_at.Give word) = refl
    which (release_at.Unreserve word) = refl
    which (release_at.Adopt word) = refl
    which (release_at.Retire word) = refl
    which (release_at.Back word) = refl

pub home-after : (u : Unhold) (found : ℕ) → unholds.put (unholds.next (unholds.bare u) found) ≡ None
home-after u found = which u.at
  where
    which : (x : UnholdAt) → unholds.put_at (unholds.next_at u.who (unholds.bare_at x) found) ≡ None
    which (unhold_at.UnlockFrame frame count body) = refl
    which (unhold_at.Release r) = released-puts (releases.next r found)
    which (unhold_at.UnlockPage body) = refl
    which unhold_at.Over = refl

-- so has that of a command that gives up
unlocked-puts : (r : Release) → unlocks.put_at (unlocks.after_release r) ≡ None
unlocked-puts r = which r.at
  where
    which : (x : ReleaseAt) → unlocks.put_at (unlocks.after_release (record r { at = x })) ≡ None
    which release_at.Put = refl
    which (release_at.Give word) = refl
    which (release_at.Unreserve word) = refl
    which (release_at.Adopt word) = refl
    which (release_at.Retire word) = refl
    which (release_at.Back word) = refl

unlock-after : (u : Unlock) (found : ℕ) → unlocks.put (unlocks.next (unlocks.bare u) found) ≡ None
unlock-after u found = which u.at
  where
    which : (x : UnlockAt) → unlocks.put_at (unlocks.next_at u.who (unlocks.bare_at x) found) ≡ None
    which (unlock_at.UnlockFrame frame body) = refl
    which (unlock_at.Release r) = unlocked-puts (releases.next r found)
    which unlock_at.Over = refl

pub given-up-after : (g : GiveUp) (found : ℕ) → give_ups.put (give_ups.next (give_ups.bare g) found) ≡ None
given-up-after g found = which g.at
  where
    unheld : (u : Unhold) (over : Bool) → unholds.put u ≡ None → give_ups.put_at (cond over give_up_at.GiveUp (give_up_at.Unhold u)) ≡ None
    unheld u true home = refl
    unheld u false home = home

    unlocked : (u : Unlock) (over : Bool) → unlocks.put u ≡ None → give_ups.put_at (cond over give_up_at.GiveUp (give_up_at.Unlock u)) ≡ None
    unlocked u true home = refl
    unlocked u false home = home

    which : (x : GiveUpAt) → give_ups.put_at (give_ups.next_at (give_ups.bare_at x) found) ≡ None
    which (give_up_at.Unhold u) = unheld (unholds.next (unholds.bare u) found) (is_none (unholds.plan (unholds.next (unholds.bare u) found))) (home-after u found)
    which (give_up_at.Unlock u) = unlocked (unlocks.next (unlocks.bare u) found) (is_none (unlocks.plan (unlocks.next (unlocks.bare u) found))) (unlock-after u found)
    which give_up_at.GiveUp = refl
    which give_up_at.Over = refl

-- a step by which a page is let go leaves the answer caused, or causes it
pub unhold-causes : (base : List Made) {layout : Layout} {old new : View} (page : Page) (what : Eviction) (u : Unhold) {step : Step} {found : ℕ} {got : Option BodyValue} (answer : EvictAnswer) → unholds.plan u ≡ Some step
    → Steps layout u.who step (logs (unholds.put u)) old new found got → KnowsPut base layout old u.who page what answer (unholds.put u) → IsCaused base layout new u.who page what answer
unhold-causes base {layout} {old} {new} page what u {step} {found} {got} answer is made knows = which u.at is made knows
  where
    which : (x : UnholdAt) → unholds.plan_at u.page x ≡ Some step → Steps layout u.who step (logs (unholds.put_at x)) old new found got → KnowsPut base layout old u.who page what answer (unholds.put_at x) → IsCaused base layout new u.who page what answer
    which (unhold_at.UnlockFrame frame count None) e made knows = caused-stays made base u.who page what answer (deeds-same u.who (subst ListsNone (same_Some (steps.UnlockFrame frame) step e) tt) made) knows
    which (unhold_at.UnlockFrame frame count (Some body)) e made knows = home-by-frame knows (steps-planned e made)
    which (unhold_at.Release r) e made knows = caused-stays made base u.who page what answer (deeds-same u.who (release-lists r step e) made) knows
    which (unhold_at.UnlockPage None) e made knows = caused-stays made base u.who page what answer (deeds-same u.who (subst ListsNone (same_Some (steps.UnlockPage u.page) step e) tt) made) knows
    which (unhold_at.UnlockPage (Some body)) e made knows = home-by-page knows (steps-planned e made)
    which unhold_at.Over e made knows = absurd (none-some step e)
