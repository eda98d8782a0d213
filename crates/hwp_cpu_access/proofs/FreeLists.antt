-- The freeing of a translation lists its own entry alone, so no failure; it marks no frame and owes no count.
use Rattle.std.proofs.Common.{◌≡◌, ℕ, Bool, false, List, Option, Some, None, filter, refl, sym, ap, subst}
use Rattle.std.proofs.lemmas.Option.{none-some, same_Some}
use Rattle.hwp_fault.specs.hwp_geom.declared.Frame.{Frame}
use Rattle.hwp_fault.specs.hwp_geom.declared.Layout.{Layout}
use Rattle.hwp_fault.specs.hwp_geom.declared.Page.{Page}
use Rattle.hwp_fault.specs.hwp_geom.declared.Who.{Who}
use Rattle.hwp_fault.specs.hwp_page.declared.At.{At}
use Rattle.hwp_fault.specs.hwp_page.declared.What.{What}
use Rattle.hwp_fault.specs.hwp_page.History.{BodyValue}
use Rattle.hwp_fault.specs.hwp_core_rule.declared.Made.{Made}
use Rattle.hwp_fault.specs.hwp_core_rule.declared.SharedWord.TheVariants as places
use Rattle.hwp_fault.specs.hwp_core_rule.declared.Step.{Step}
use Rattle.hwp_fault.specs.hwp_core_rule.declared.Step.TheVariants as steps
use Rattle.hwp_fault.specs.hwp_core_rule.declared.View.{View}
use Rattle.hwp_fault.specs.hwp_core_rule.Calls.{Steps, logs}
use Rattle.hwp_fault.specs.hwp_core_rule.Known.{is_failure, such_deeds}
use Rattle.hwp_fault.specs.hwp_words.declared.Pte.TheVariants as ptes
use Rattle.hwp_fault.proofs.of_hwp_core_rule.tasks.MadeEntries.{ListsNone, deeds-same, frame-lists, page-lists, such-kept}
use Rattle.hwp_fault.proofs.of_hwp_core_rule.tasks.StepLeaves.{steps-planned}
use Rattle.hwp_fault.specs.hwp_core.declared.give_up.GiveUp.{GiveUp}
use Rattle.hwp_fault.specs.hwp_core.declared.give_up.GiveUpAt.{GiveUpAt}
use Rattle.hwp_fault.specs.hwp_core.declared.give_up.GiveUpAt.TheVariants as give_up_at
use Rattle.hwp_fault.specs.hwp_core.declared.unhold.Unhold.{Unhold}
use Rattle.hwp_fault.specs.hwp_core.declared.unhold.UnholdAt.{UnholdAt}
use Rattle.hwp_fault.specs.hwp_core.declared.unhold.UnholdAt.TheVariants as unhold_at
use Rattle.hwp_fault.specs.hwp_core.declared.unlock.Unlock.{Unlock}
use Rattle.hwp_fault.specs.hwp_core.declared.unlock.UnlockAt.{UnlockAt}
use Rattle.hwp_fault.specs.hwp_core.declared.unlock.UnlockAt.TheVariants as unlock_at
use Rattle.hwp_fault.specs.hwp_core.GiveUps as give_ups
use Rattle.hwp_fault.specs.hwp_core.Unholds as unholds
use Rattle.hwp_fault.specs.hwp_core.Unlocks as unlocks
use Rattle.hwp_fault.proofs.of_hwp_core.TaskCosts.{hold-lists, release-lists}
use Rattle.hwp_fault.specs.hwp_evict.declared.evict.Evict.{Evict}
use Rattle.hwp_fault.specs.hwp_evict.declared.evict.EvictAnswer.TheVariants as answers
use Rattle.hwp_fault.specs.hwp_evict.declared.evict.EvictAt.{EvictAt}
use Rattle.hwp_fault.specs.hwp_evict.declared.evict.EvictAt.TheVariants as at
use Rattle.hwp_fault.specs.hwp_evict.declared.evict.Eviction.{Eviction}
use Rattle.hwp_fault.specs.hwp_evict.declared.evict.Eviction.TheVariants as evictions
use Rattle.hwp_fault.specs.hwp_core.declared.vacate.Vacate.{Vacate}
use Rattle.hwp_fault.specs.hwp_core.declared.vacate.VacateAt.{VacateAt}
use Rattle.hwp_fault.specs.hwp_core.declared.vacate.VacateAt.TheVariants as vacate_at
use Rattle.hwp_fault.specs.hwp_evict.Evictions.{entry_of}
use Rattle.hwp_fault.specs.hwp_evict.Evicts.{FitsAt, FitsFrom, IsVacating, plan, plan_at, put, put_at}
use Rattle.hwp_fault.specs.hwp_core.Vacates as vacates
use Rattle.hwp_fault.proofs.of_hwp_core.ClearLaws.{clear-lists}
use Rattle.hwp_claim.proofs.of_hwp_claim_frame.Quiet.{Alike, PlansQuiet, clear, give-up, leaves, release, unhold}
use Rattle.hwp_cpu_access.specs.Done.{failures_by}
use Rattle.hwp_cpu_access.proofs.CommandGrows.{failures-listed}
use Rattle.hwp_cpu_access.proofs.Quiet.{hold}
use Rattle.hwp_cpu_access.proofs.FreeHomes.{HomeWithout, PutsNone, ahead-home, given-up-home, known-home}

-- ---- marks and counts

vacate-quiet : (page : Page) (frame : Frame) (x : VacateAt) → PlansQuiet (vacates.plan_at page frame x)
vacate-quiet page frame vacate_at.SetCache = tt
vacate-quiet page frame vacate_at.SetOwner = tt
vacate-quiet page frame vacate_at.UnlockFrame = tt
vacate-quiet page frame (vacate_at.Release r) = release r.frame r.count r.at
vacate-quiet page frame vacate_at.UnlockPage = tt
vacate-quiet page frame vacate_at.Over = tt

evict-quiet : (x : EvictAt) → PlansQuiet (plan_at x)
evict-quiet at.LoadStop = tt
evict-quiet (at.Hold h) = hold h.page h.at
evict-quiet (at.LoadBad frame body) = tt
evict-quiet (at.SetPte slot frame body done) = tt
evict-quiet (at.Clear c body done) = clear c.barred c.next
evict-quiet (at.Vacate v done) = vacate-quiet v.page v.frame v.at
evict-quiet (at.Unhold u answer) = unhold u.page u.at
evict-quiet (at.GiveUp g) = give-up g.at
evict-quiet (at.Over answer) = tt

pub evict-alike : {layout : Layout} {old new : View} {step : Step} {found : ℕ} {got : Option BodyValue} (e : Evict) → plan e ≡ Some step → Steps layout e.who step (logs (put e)) old new found got → Alike old new
evict-alike e is made = leaves made (subst PlansQuiet is (evict-quiet e.at))

-- ---- entries that a test finds

-- the freeing lists none that the test finds, where it doesn't find its own
module _ (test : What → Bool) {layout : Layout} {old new : View} {step : Step} {found : ℕ} {got : Option BodyValue} where
  unlisted : (who : Who) → ListsNone step → Steps layout who step None old new found got → such_deeds test who new ≡ such_deeds test who old
  unlisted who none made = ap (filter (λ (m : Made). test m.entry.what)) (deeds-same who none made)

  unhold-lists-none : (u : Unhold) → unholds.plan u ≡ Some step → Steps layout u.who step (logs (unholds.put u)) old new found got → PutsNone test old (unholds.put u) → such_deeds test u.who new ≡ such_deeds test u.who old
  unhold-lists-none u is made puts = which u.at is made puts
    where
      which : (x : UnholdAt) → unholds.plan_at u.page x ≡ Some step → Steps layout u.who step (logs (unholds.put_at x)) old new found got → PutsNone test old (unholds.put_at x) → such_deeds test u.who new ≡ such_deeds test u.who old
      which (unhold_at.UnlockFrame frame count None) e made puts = unlisted u.who (subst ListsNone (same_Some (steps.UnlockFrame frame) step e) tt) made
      which (unhold_at.UnlockFrame frame count (Some body)) e made puts = such-kept u.who test (frame-lists puts.there (steps-planned e made)) puts.none
      which (unhold_at.Release r) e made puts = unlisted u.who (release-lists r step e) made
      which (unhold_at.UnlockPage None) e made puts = unlisted u.who (subst ListsNone (same_Some (steps.UnlockPage u.page) step e) tt) made
      which (unhold_at.UnlockPage (Some body)) e made puts = such-kept u.who test (page-lists puts.there (steps-planned e made)) puts.none
      which unhold_at.Over e made puts = absurd (none-some step e)

  unlock-lists-none : (u : Unlock) → unlocks.plan u ≡ Some step → Steps layout u.who step (logs (unlocks.put u)) old new found got → PutsNone test old (unlocks.put u) → such_deeds test u.who new ≡ such_deeds test u.who old
  unlock-lists-none u is made puts = which u.at is made puts
    where
      which : (x : UnlockAt) → unlocks.plan_at x ≡ Some step → Steps layout u.who step (logs (unlocks.put_at x)) old new found got → PutsNone test old (unlocks.put_at x) → such_deeds test u.who new ≡ such_deeds test u.who old
      which (unlock_at.UnlockFrame frame None) e made puts = unlisted u.who (subst ListsNone (same_Some (steps.UnlockFrame frame) step e) tt) made
      which (unlock_at.UnlockFrame frame (Some body)) e made puts = such-kept u.who test (frame-lists puts.there (steps-planned e made)) puts.none
      which (unlock_at.Release r) e made puts = unlisted u.who (release-lists r step e) made
      which unlock_at.Over e made puts = absurd (none-some step e)

  give-up-lists-none : (g : GiveUp) → give_ups.FitsAt layout old g.who g.at → give_ups.plan g ≡ Some step → Steps layout g.who step (logs (give_ups.put g)) old new found got → PutsNone test old (give_ups.put g) → such_deeds test g.who new ≡ such_deeds test g.who old
  give-up-lists-none g fits is made puts = which g.at fits is made puts
    where
      which : (x : GiveUpAt) → give_ups.FitsAt layout old g.who x → give_ups.plan_at x ≡ Some step → Steps layout g.who step (logs (give_ups.put_at x)) old new found got → PutsNone test old (give_ups.put_at x) → such_deeds test g.who new ≡ such_deeds test g.who old
      which (give_up_at.Unhold u) has e made puts = subst (λ (w : Who). such_deeds test w new ≡ such_deeds test w old) has.own (unhold-lists-none u e (subst (λ (w : Who). Steps layout w step (logs (unholds.put u)) old new found got) (sym has.own) made) puts)
      which (give_up_at.Unlock u) has e made puts = subst (λ (w : Who). such_deeds test w new ≡ such_deeds test w old) has.own (unlock-lists-none u e (subst (λ (w : Who). Steps layout w step (logs (unlocks.put u)) old new found got) (sym has.own) made) puts)
      which give_up_at.GiveUp has e made puts = unlisted g.who (subst ListsNone (same_Some steps.GiveUp step e) tt) made
      which give_up_at.Over has e made puts = absurd (none-some step e)

  vacate-lists-none : {base : List Made} {page : Page} {what : Eviction} {done : At} (v : Vacate) → test (entry_of what) ≡ false → IsVacating base layout old v.who page what v done → vacates.plan v ≡ Some step → Steps layout v.who step (logs (vacates.put v)) old new found got → such_deeds test v.who new ≡ such_deeds test v.who old
  vacate-lists-none {base} {page} {what} {done} v other has is made = which v.at is made
    where
      home : HomeWithout test old has.body
      home = ahead-home test what other (answers.Done done) has.ahead

      which : (x : VacateAt) → vacates.plan_at v.page v.frame x ≡ Some step → Steps layout v.who step (logs (vacates.put_at v.body x)) old new found got → such_deeds test v.who new ≡ such_deeds test v.who old
      which vacate_at.SetCache e made = unlisted v.who (subst ListsNone (same_Some (steps.SetCache v.page None) step e) tt) made
      which vacate_at.SetOwner e made = unlisted v.who (subst ListsNone (same_Some (steps.SetOwner v.frame v.page false) step e) tt) made
      which vacate_at.UnlockFrame e made = unlisted v.who (subst ListsNone (same_Some (steps.UnlockFrame v.frame) step e) tt) made
      which (vacate_at.Release r) e made = unlisted v.who (release-lists r step e) made
      which vacate_at.UnlockPage e made = such-kept v.who test
          (page-lists home.there (steps-planned e (subst (λ (b : Option BodyValue). Steps layout v.who step (logs b) old new found got) has.body_is made))) home.none
      which vacate_at.Over e made = absurd (none-some step e)

  pub evict-lists-none : {base : List Made} (e : Evict) → test (entry_of e.what) ≡ false → FitsFrom base layout old e → plan e ≡ Some step → Steps layout e.who step (logs (put e)) old new found got → such_deeds test e.who new ≡ such_deeds test e.who old
  evict-lists-none {base} e other fits is made = which e.at fits.at is made
    where
      which : (x : EvictAt) → FitsAt base layout old e.who e.page e.what x → plan_at x ≡ Some step → Steps layout e.who step (logs (put_at x)) old new found got → such_deeds test e.who new ≡ such_deeds test e.who old
      which at.LoadStop has own made = unlisted e.who (subst ListsNone (same_Some (steps.Load places.Stop) step own) tt) made
      which (at.Hold h) has own made = unlisted e.who (hold-lists h step own) made
      which (at.LoadBad frame body) has own made = unlisted e.who (subst ListsNone (same_Some (steps.Load (places.Bad frame)) step own) tt) made
      which (at.SetPte slot frame body done) has own made = unlisted e.who (subst ListsNone (same_Some (steps.SetPte slot ptes.Empty) step own) tt) made
      which (at.Clear c body done) has own made = unlisted e.who (clear-lists c step own) made
      which (at.Vacate v done) has own made = subst (λ (w : Who). such_deeds test w new ≡ such_deeds test w old) has.own
          (vacate-lists-none v other (subst (λ (w : Who). IsVacating base layout old w e.page e.what v done) (sym has.own) has) own (subst (λ (w : Who). Steps layout w step (logs (vacates.put v)) old new found got) (sym has.own) made))
      which (at.Unhold u answer) has own made = subst (λ (w : Who). such_deeds test w new ≡ such_deeds test w old) has.own
          (unhold-lists-none u own (subst (λ (w : Who). Steps layout w step (logs (unholds.put u)) old new found got) (sym has.own) made)
          (known-home test e.what other base layout old e.who e.page answer (unholds.put u) has.knows))
      which (at.GiveUp g) has own made = subst (λ (w : Who). such_deeds test w new ≡ such_deeds test w old) has.own
          (give-up-lists-none g has.give_up.at own (subst (λ (w : Who). Steps layout w step (logs (give_ups.put g)) old new found got) (sym has.own) made) (given-up-home test old (give_ups.put g) has.puts))
      which (at.Over answer) has own made = absurd (none-some step own)

-- ---- failures among entries

no-failure : (what : Eviction) → is_failure (entry_of what) ≡ false
no-failure (evictions.Free slot) = refl
no-failure evictions.Sync = refl
no-failure evictions.Drop = refl
no-failure evictions.Out = refl

pub evict-fails : {base : List Made} {layout : Layout} {old new : View} {step : Step} {found : ℕ} {got : Option BodyValue} (e : Evict) → FitsFrom base layout old e → plan e ≡ Some step → Steps layout e.who step (logs (put e)) old new found got → failures_by e.who new ≡ failures_by e.who old
evict-fails {old = old} {new} e fits is made = failures-listed e.who old new (evict-lists-none is_failure e (no-failure e.what) fits is made)
