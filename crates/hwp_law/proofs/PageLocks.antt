-- No entry changes whether a page is locked: it is as the layout declares it.
use Rattle.std.proofs.Common.{◌≡◌, false, List, [], ◌∷◌, take, refl, sym, ◌∙◌}
use Rattle.hwp_script_words.specs.hwp_geom.declared.Layout.{Layout}
use Rattle.hwp_script_words.specs.hwp_geom.Layout.{is_locked}
use Rattle.hwp_report_text.specs.hwp_page.declared.At.{At}
use Rattle.hwp_report_text.specs.hwp_page.declared.Entry.{Entry}
use Rattle.hwp_report_text.specs.hwp_page.declared.Met.TheVariants.{Sigbus, Word}
use Rattle.hwp_report_text.specs.hwp_page.declared.PageState.{PageState}
use Rattle.hwp_report_text.specs.hwp_page.declared.Situation.{Situation}
use Rattle.hwp_report_text.specs.hwp_page.declared.Situation.TheVariants as situations
use Rattle.hwp_report_text.specs.hwp_page.declared.What.{What}
use Rattle.hwp_report_text.specs.hwp_page.declared.What.TheVariants as entries
use Rattle.hwp_report_text.specs.hwp_page.Actions.{acted}
use Rattle.hwp_report_text.specs.hwp_page.History.{state_after}
use Rattle.hwp_report_text.specs.hwp_page.Step.{after, opening_of}
use Rattle.hwp_law.specs.States.{HadState}

acted-locked : (s : PageState) (situation : Situation) → (acted s situation).locked ≡ s.locked
acted-locked s situations.Free = refl
acted-locked s situations.Kernel = refl
acted-locked s situations.FileClean = refl
acted-locked s situations.FileDirty = refl
acted-locked s situations.AnonOnly = refl
acted-locked s situations.SwapClean = refl
acted-locked s situations.SwapDirty = refl
acted-locked s situations.LockedClean = refl
acted-locked s situations.LockedFile = refl
acted-locked s situations.LockedAnon = refl

after-locked : (s : PageState) (what : What) → (after s what).locked ≡ s.locked
after-locked s (entries.Load slot line met) = refl
after-locked s (entries.Store slot line (Word mask word)) = refl
after-locked s (entries.Store slot line (Sigbus thread)) = refl
after-locked s entries.FaultIn = refl
after-locked s (entries.Map slot) = refl
after-locked s (entries.Free slot) = refl
after-locked s entries.Drop = refl
after-locked s entries.Sync = refl
after-locked s entries.Out = refl
after-locked s (entries.Mce slot line mask) = refl
after-locked s (entries.Fail situation required seen signals) = acted-locked s situation
after-locked s entries.Soft = refl

pub locked-stays : (s : PageState) (list : List Entry) → (state_after s list).locked ≡ s.locked
locked-stays s [] = refl
locked-stays s (e ∷ es) = locked-stays (after s e.what) es ∙ after-locked s e.what

-- a page that was not locked after some of its entries is not declared so
pub had-unlocked : (layout : Layout) (pages : List (List Entry)) (at : At) → HadState layout pages at (λ (s : PageState). s.locked ≡ false) → is_locked layout at.page ≡ false
had-unlocked layout pages at was = sym (locked-stays (opening_of was.kind (is_locked layout at.page)) (take at.entry was.entries)) ∙ was.had
