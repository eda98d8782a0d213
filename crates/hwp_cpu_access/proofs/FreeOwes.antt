-- The freeing of a translation owes no loss of a file.
use Rattle.std.proofs.Common.{◌≡◌, ℕ, false, List, Option, Some, None, refl, sym, subst}
use Rattle.std.proofs.lemmas.Option.{none-some, same_Some}
use Rattle.hwp_fault.specs.hwp_geom.declared.Layout.{Layout}
use Rattle.hwp_fault.specs.hwp_geom.declared.Page.{Page}
use Rattle.hwp_fault.specs.hwp_geom.declared.Who.{Who}
use Rattle.hwp_fault.specs.hwp_page.declared.At.{At}
use Rattle.hwp_fault.specs.hwp_page.History.{BodyValue}
use Rattle.hwp_fault.specs.hwp_core_rule.declared.Made.{Made}
use Rattle.hwp_fault.specs.hwp_core_rule.declared.SharedWord.TheVariants as places
use Rattle.hwp_fault.specs.hwp_core_rule.declared.Step.{Step}
use Rattle.hwp_fault.specs.hwp_core_rule.declared.Step.TheVariants as steps
use Rattle.hwp_fault.specs.hwp_core_rule.declared.View.{View}
use Rattle.hwp_fault.specs.hwp_page.Losses.{is_loss}
use Rattle.hwp_fault.specs.hwp_core_rule.Calls.{Steps, logs}
use Rattle.hwp_fault.specs.hwp_words.declared.Pte.TheVariants as ptes
use Rattle.hwp_fault.proofs.of_hwp_core_rule.tasks.MadeEntries.{ListsNone}
use Rattle.hwp_fault.proofs.of_hwp_core_rule.tasks.StepOwes.{frame-owes, losses-same, page-owes}
use Rattle.hwp_fault.proofs.of_hwp_core_rule.tasks.StepLeaves.{steps-planned}
use Rattle.hwp_fault.specs.hwp_core.declared.give_up.GiveUp.{GiveUp}
use Rattle.hwp_fault.specs.hwp_core.declared.give_up.GiveUpAt.{GiveUpAt}
use Rattle.hwp_fault.specs.hwp_core.declared.give_up.GiveUpAt.TheVariants as give_up_at
use Rattle.hwp_fault.specs.hwp_core.declared.unhold.Unhold.{Unhold}
use Rattle.hwp_fault.specs.hwp_core.declared.unhold.UnholdAt.{UnholdAt}
use Rattle.hwp_fault.specs.hwp_core.declared.unhold.UnholdAt.TheVariants as unhold_at
use Rattle.hwp_fault.specs.hwp_core.declared.unlock.Unlock.{Unlock}
use Rattle.hwp_fault.specs.hwp_core.declared.unlock.UnlockAt.{UnlockAt}
use Rattle.hwp_fault.specs.hwp_core.declared.unlock.UnlockAt.TheVariants as unlock_at
use Rattle.hwp_fault.specs.hwp_core.GiveUps as give_ups
use Rattle.hwp_fault.specs.hwp_core.Unholds as unholds
use Rattle.hwp_fault.specs.hwp_core.Unlocks as unlocks
use Rattle.hwp_fault.proofs.of_hwp_core.TaskCosts.{hold-lists, release-lists}
use Rattle.hwp_fault.specs.hwp_evict.declared.evict.Evict.{Evict}
use Rattle.hwp_fault.specs.hwp_evict.declared.evict.EvictAnswer.TheVariants as answers
use Rattle.hwp_fault.specs.hwp_evict.declared.evict.EvictAt.{EvictAt}
use Rattle.hwp_fault.specs.hwp_evict.declared.evict.EvictAt.TheVariants as at
use Rattle.hwp_fault.specs.hwp_evict.declared.evict.Eviction.{Eviction}
use Rattle.hwp_fault.specs.hwp_evict.declared.evict.Eviction.TheVariants as evictions
use Rattle.hwp_fault.specs.hwp_core.declared.vacate.Vacate.{Vacate}
use Rattle.hwp_fault.specs.hwp_core.declared.vacate.VacateAt.{VacateAt}
use Rattle.hwp_fault.specs.hwp_core.declared.vacate.VacateAt.TheVariants as vacate_at
use Rattle.hwp_fault.specs.hwp_evict.Evictions.{entry_of}
use Rattle.hwp_fault.specs.hwp_evict.Evicts.{FitsAt, FitsFrom, IsVacating, plan, plan_at, put, put_at}
use Rattle.hwp_fault.specs.hwp_core.Vacates as vacates
use Rattle.hwp_fault.proofs.of_hwp_core.ClearLaws.{clear-lists}
use Rattle.hwp_cpu_access.proofs.FreeHomes.{HomeWithout, PutsNone, ahead-home, given-up-home, known-home}

-- no entry of an eviction is a loss
no-loss : (what : Eviction) → is_loss (entry_of what) ≡ false
no-loss (evictions.Free slot) = refl
no-loss evictions.Sync = refl
no-loss evictions.Drop = refl
no-loss evictions.Out = refl

module _ {layout : Layout} {old new : View} {step : Step} {found : ℕ} {got : Option BodyValue} where
  -- the page is let go
  unhold-owes : (u : Unhold) → unholds.plan u ≡ Some step → Steps layout u.who step (logs (unholds.put u)) old new found got → PutsNone is_loss old (unholds.put u) → new.owed.losses ≡ old.owed.losses
  unhold-owes u is made puts = which u.at is made puts
    where
      which : (x : UnholdAt) → unholds.plan_at u.page x ≡ Some step → Steps layout u.who step (logs (unholds.put_at x)) old new found got → PutsNone is_loss old (unholds.put_at x) → new.owed.losses ≡ old.owed.losses
      which (unhold_at.UnlockFrame frame count None) e made puts = losses-same (subst ListsNone (same_Some (steps.UnlockFrame frame) step e) tt) made
      which (unhold_at.UnlockFrame frame count (Some body)) e made puts = frame-owes puts.there puts.none (steps-planned e made)
      which (unhold_at.Release r) e made puts = losses-same (release-lists r step e) made
      which (unhold_at.UnlockPage None) e made puts = losses-same (subst ListsNone (same_Some (steps.UnlockPage u.page) step e) tt) made
      which (unhold_at.UnlockPage (Some body)) e made puts = page-owes puts.there puts.none (steps-planned e made)
      which unhold_at.Over e made puts = absurd (none-some step e)

  -- the frame is let go
  unlock-owes : (u : Unlock) → unlocks.plan u ≡ Some step → Steps layout u.who step (logs (unlocks.put u)) old new found got → PutsNone is_loss old (unlocks.put u) → new.owed.losses ≡ old.owed.losses
  unlock-owes u is made puts = which u.at is made puts
    where
      which : (x : UnlockAt) → unlocks.plan_at x ≡ Some step → Steps layout u.who step (logs (unlocks.put_at x)) old new found got → PutsNone is_loss old (unlocks.put_at x) → new.owed.losses ≡ old.owed.losses
      which (unlock_at.UnlockFrame frame None) e made puts = losses-same (subst ListsNone (same_Some (steps.UnlockFrame frame) step e) tt) made
      which (unlock_at.UnlockFrame frame (Some body)) e made puts = frame-owes puts.there puts.none (steps-planned e made)
      which (unlock_at.Release r) e made puts = losses-same (release-lists r step e) made
      which unlock_at.Over e made puts = absurd (none-some step e)

  -- memory ran out
  give-up-owes : (g : GiveUp) → give_ups.FitsAt layout old g.who g.at → give_ups.plan g ≡ Some step → Steps layout g.who step (logs (give_ups.put g)) old new found got → PutsNone is_loss old (give_ups.put g) → new.owed.losses ≡ old.owed.losses
  give-up-owes g fits is made puts = which g.at fits is made puts
    where
      which : (x : GiveUpAt) → give_ups.FitsAt layout old g.who x → give_ups.plan_at x ≡ Some step → Steps layout g.who step (logs (give_ups.put_at x)) old new found got → PutsNone is_loss old (give_ups.put_at x) → new.owed.losses ≡ old.owed.losses
      which (give_up_at.Unhold u) has e made puts = unhold-owes u e (subst (λ (w : Who). Steps layout w step (logs (unholds.put u)) old new found got) (sym has.own) made) puts
      which (give_up_at.Unlock u) has e made puts = unlock-owes u e (subst (λ (w : Who). Steps layout w step (logs (unlocks.put u)) old new found got) (sym has.own) made) puts
      which give_up_at.GiveUp has e made puts = losses-same (subst ListsNone (same_Some steps.GiveUp step e) tt) made
      which give_up_at.Over has e made puts = absurd (none-some step e)

  -- the page leaves its frame
  vacate-owes : {base : List Made} {page : Page} {what : Eviction} {done : At} (v : Vacate) → IsVacating base layout old v.who page what v done → vacates.plan v ≡ Some step → Steps layout v.who step (logs (vacates.put v)) old new found got → new.owed.losses ≡ old.owed.losses
  vacate-owes {base} {page} {what} {done} v has is made = which v.at is made
    where
      home : HomeWithout is_loss old has.body
      home = ahead-home is_loss what (no-loss what) (answers.Done done) has.ahead

      which : (x : VacateAt) → vacates.plan_at v.page v.frame x ≡ Some step → Steps layout v.who step (logs (vacates.put_at v.body x)) old new found got → new.owed.losses ≡ old.owed.losses
      which vacate_at.SetCache e made = losses-same (subst ListsNone (same_Some (steps.SetCache v.page None) step e) tt) made
      which vacate_at.SetOwner e made = losses-same (subst ListsNone (same_Some (steps.SetOwner v.frame v.page false) step e) tt) made
      which vacate_at.UnlockFrame e made = losses-same (subst ListsNone (same_Some (steps.UnlockFrame v.frame) step e) tt) made
      which (vacate_at.Release r) e made = losses-same (release-lists r step e) made
      which vacate_at.UnlockPage e made = page-owes home.there home.none
          (steps-planned e (subst (λ (b : Option BodyValue). Steps layout v.who step (logs b) old new found got) has.body_is made))
      which vacate_at.Over e made = absurd (none-some step e)

  pub evict-owes : {base : List Made} (e : Evict) → FitsFrom base layout old e → plan e ≡ Some step → Steps layout e.who step (logs (put e)) old new found got → new.owed.losses ≡ old.owed.losses
  evict-owes {base} e fits is made = which e.at fits.at is made
    where
      which : (x : EvictAt) → FitsAt base layout old e.who e.page e.what x → plan_at x ≡ Some step → Steps layout e.who step (logs (put_at x)) old new found got → new.owed.losses ≡ old.owed.losses
      which at.LoadStop has own made = losses-same (subst ListsNone (same_Some (steps.Load places.Stop) step own) tt) made
      which (at.Hold h) has own made = losses-same (hold-lists h step own) made
      which (at.LoadBad frame body) has own made = losses-same (subst ListsNone (same_Some (steps.Load (places.Bad frame)) step own) tt) made
      which (at.SetPte slot frame body done) has own made = losses-same (subst ListsNone (same_Some (steps.SetPte slot ptes.Empty) step own) tt) made
      which (at.Clear c body done) has own made = losses-same (clear-lists c step own) made
      which (at.Vacate v done) has own made =
          vacate-owes v (subst (λ (w : Who). IsVacating base layout old w e.page e.what v done) (sym has.own) has) own (subst (λ (w : Who). Steps layout w step (logs (vacates.put v)) old new found got) (sym has.own) made)
      which (at.Unhold u answer) has own made = unhold-owes u own (subst (λ (w : Who). Steps layout w step (logs (unholds.put u)) old new found got) (sym has.own) made)
          (known-home is_loss e.what (no-loss e.what) base layout old e.who e.page answer (unholds.put u) has.knows)
      which (at.GiveUp g) has own made =
          give-up-owes g has.give_up.at own (subst (λ (w : Who). Steps layout w step (logs (give_ups.put g)) old new found got) (sym has.own) made) (given-up-home is_loss old (give_ups.put g) has.puts)
      which (at.Over answer) has own made = absurd (none-some step own)
