-- Which losses are owed after a step: those that were, where it lists no entry that is a loss.
use Rattle.std.proofs.Common.{◌≡◌, ℕ, suc, ◌==◌, Bool, true, false, cond, List, [], ◌∷◌, ◌++◌, Option, Some, None, append-nil, refl, ap, ◌∙◌}
use Rattle.std.specs.declared.snapshot.Snapshot.{Snapshot}
use Rattle.hwp_page.specs.hwp_geom.declared.FileNo.{FileNo}
use Rattle.hwp_page.specs.hwp_geom.declared.Frame.{Frame}
use Rattle.hwp_page.specs.hwp_geom.declared.Layout.{Layout}
use Rattle.hwp_page.specs.hwp_geom.declared.Page.{Page}
use Rattle.hwp_page.specs.hwp_geom.declared.Proc.{Proc}
use Rattle.hwp_page.specs.hwp_geom.declared.Who.{Who}
use Rattle.hwp_page.specs.declared.Entry.{Entry}
use Rattle.hwp_page.specs.History.{BodyValue}
use Rattle.hwp_page.specs.Losses.{is_loss}
use Rattle.hwp_core_rule.specs.declared.view.Debts.{Debts}
use Rattle.hwp_core_rule.specs.declared.view.InHand.{InHand}
use Rattle.hwp_core_rule.specs.declared.log.Log.{Log}
use Rattle.hwp_core_rule.specs.declared.shared_word.SharedWord.{SharedWord}
use Rattle.hwp_core_rule.specs.declared.shared_word.SharedWord.TheVariants as places
use Rattle.hwp_core_rule.specs.declared.step.Step.{Step}
use Rattle.hwp_core_rule.specs.declared.step.Step.TheVariants as steps
use Rattle.hwp_core_rule.specs.declared.view.View.{View}
use Rattle.hwp_core_rule.specs.Lists.{EachMember}
use Rattle.hwp_core_rule.specs.Logs.{file_of, log_of}
use Rattle.hwp_core_rule.specs.Steps.{goes}
use Rattle.hwp_core_rule.specs.Views.{body_of, killed_by, listed, listed_of, loaded, loss_made, losses_made, more_of, noted, owing_count, paying_count, sighted, taken, view_by}
use Rattle.hwp_core_rule.specs.Calls.{Steps}
use Rattle.hwp_core_rule.proofs.tasks.StepLeaves.{content_of}
use Rattle.hwp_core_rule.proofs.tasks.MadeEntries.{ListsNone, PutsNone}

-- ---- a step that lists no entry

either : (b : Bool) (x y : View) (l : List FileNo) → x.owed.losses ≡ l → y.owed.losses ≡ l → (cond b x y).owed.losses ≡ l
either true x y l e f = e
either false x y l e f = f

owing : (hardware : Bool) (owed : Debts) → (owing_count hardware owed).losses ≡ owed.losses
owing true owed = refl
owing false owed = refl

paying : (hardware : Bool) (owed : Debts) → (paying_count hardware owed).losses ≡ owed.losses
paying true owed = refl
paying false owed = refl

loads-none : (who : Who) (place : SharedWord) (found : ℕ) (v : View) → (loaded who place found v).owed.losses ≡ v.owed.losses
loads-none who (places.Cache page) found v = refl
loads-none who _ found v = refl

takes-none : (layout : Layout) (who : Who) (frame : Option Frame) (content : Option Log) (v : View) → (taken layout who frame content v).owed.losses ≡ v.owed.losses
takes-none layout who frame None v = refl
takes-none layout who frame (Some log) v = refl

by-none : (layout : Layout) (who : Who) (step : Step) (found : ℕ) (content : Option Log) (v : View) → PutsNone step → (view_by layout who step found content v).owed.losses ≡ v.owed.losses
by-none layout who (steps.Load place) found content v none = loads-none who place found v
by-none layout who (steps.Reserve seen) found content v none = either (found == seen) _ _ v.owed.losses refl refl
by-none layout who (steps.TakeBit frame) found content v none = either (goes (steps.TakeBit frame) found) _ _ v.owed.losses refl refl
by-none layout who (steps.GetRef frame seen count) found content v none = either (found == seen) _ _ v.owed.losses refl refl
by-none layout who (steps.LockFrame frame) found content v none = either (goes (steps.LockFrame frame) found) _ _ v.owed.losses (takes-none layout who (Some frame) content _) refl
by-none layout who (steps.UnlockFrame frame) found content v none = absurd none
by-none layout who (steps.Revive frame seen) found content v none = either (found == seen) _ _ v.owed.losses refl refl
by-none layout who (steps.LockPage page) found content v none = either (goes (steps.LockPage page) found) _ _ v.owed.losses (takes-none layout who None content _) refl
by-none layout who (steps.UnlockPage page) found content v none = absurd none
by-none layout who (steps.Poison frame hardware) found content v none = either (goes (steps.Poison frame hardware) found) _ _ v.owed.losses (owing hardware v.owed) refl
by-none layout who (steps.CountPoison hardware) found content v none = paying hardware v.owed
by-none layout who (steps.Stop cpu) found content v none = either (found == 0) _ _ v.owed.losses refl refl
by-none layout who (steps.Kill process page body) found content v none = absurd none
by-none layout who (steps.Lose file body) found content v none = absurd none
by-none layout who _ found content v none = refl

-- ---- entries none of which is a loss

none-made : (file : Option FileNo) → loss_made file false ≡ []
none-made None = refl
none-made (Some file) = refl

lossless : (layout : Layout) (page : Page) (list : List Entry) → EachMember (λ (e : Entry). is_loss e.what ≡ false) list → losses_made layout page list ≡ []
lossless layout page [] none = refl
lossless layout page (e ∷ es) none =
    ap (λ (b : Bool). loss_made (file_of layout page) b ++ losses_made layout page es) (none 0 e refl)
    ∙ ap (λ (l : List FileNo). l ++ losses_made layout page es) (none-made (file_of layout page))
    ∙ lossless layout page es (λ i x at. none (suc i) x at)

-- of a body that stays in hand
pub listed-none : (layout : Layout) (who : Who) (old : View) (body : InHand) (log : Log) → body_of log.page old ≡ Some body → EachMember (λ (e : Entry). is_loss e.what ≡ false) (more_of body log) → (listed layout who log (noted who old)).owed.losses ≡ old.owed.losses
listed-none layout who old body log there none =
    ap (λ (b : Option InHand). (listed_of layout who log b (noted who old)).owed.losses) there ∙ ap (λ (l : List FileNo). old.owed.losses ++ l) (lossless layout log.page (more_of body log) none) ∙ append-nil old.owed.losses

module _ {layout : Layout} {who : Who} {old new : View} {found : ℕ} {got : Option BodyValue} where
  pub losses-kept : {step : Step} {put : Option Log} → Steps layout who step put old new found got → PutsNone step → new.owed.losses ≡ old.owed.losses
  losses-kept {step} {put} made none = ap (λ (v : View). v.owed.losses) made.told.next ∙ by-none layout who step found (content_of layout who step put found got) (noted who old) none

  same-by : (step : Step) → ListsNone step → Steps layout who step None old new found got → new.owed.losses ≡ old.owed.losses
  same-by (steps.UnlockFrame frame) lists made = ap (λ (v : View). v.owed.losses) made.told.next
  same-by (steps.UnlockPage page) lists made = ap (λ (v : View). v.owed.losses) made.told.next
  same-by (steps.Kill process page body) lists made = absurd lists
  same-by (steps.Lose file body) lists made = absurd lists
  same-by step lists made = losses-kept made tt

  pub losses-same : {step : Step} → ListsNone step → Steps layout who step None old new found got → new.owed.losses ≡ old.owed.losses
  losses-same {step} lists made = same-by step lists made

  pub frame-owes : {frame : Frame} {body : InHand} {log : Log} → body_of log.page old ≡ Some body → EachMember (λ (e : Entry). is_loss e.what ≡ false) (more_of body log)
      → Steps layout who (steps.UnlockFrame frame) (Some log) old new found got → new.owed.losses ≡ old.owed.losses
  frame-owes {frame} {body} {log} there none made = ap (λ (v : View). v.owed.losses) made.told.next ∙ listed-none layout who old body log there none

  pub page-owes : {page : Page} {body : InHand} {log : Log} → body_of log.page old ≡ Some body → EachMember (λ (e : Entry). is_loss e.what ≡ false) (more_of body log)
      → Steps layout who (steps.UnlockPage page) (Some log) old new found got → new.owed.losses ≡ old.owed.losses
  page-owes {page} {body} {log} there none made = ap (λ (v : View). v.owed.losses) made.told.next ∙ listed-none layout who old body log there none

  pub kill-owes : {put : Option Log} {body : InHand} {process : Proc} {page : Page} {with_entries : Snapshot BodyValue} → body_of (log_of with_entries.value).page old ≡ Some body
      → EachMember (λ (e : Entry). is_loss e.what ≡ false) (more_of body (log_of with_entries.value)) → Steps layout who (steps.Kill process page with_entries) put old new found got → new.owed.losses ≡ old.owed.losses
  kill-owes {put} {body} {process} {page} {with_entries} there none made =
      let kept : (listed layout who (log_of with_entries.value) (noted who old)).owed.losses ≡ old.owed.losses = listed-none layout who old body (log_of with_entries.value) there none in
      ap (λ (v : View). v.owed.losses) made.told.next
      ∙ either (found == 0) (killed_by process page (listed layout who (log_of with_entries.value) (noted who old))) (sighted who (places.Process process) found (killed_by process page (listed layout who (log_of with_entries.value) (noted who old)))) old.owed.losses kept kept
