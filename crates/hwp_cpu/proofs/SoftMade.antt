-- While a frame is taken out of use beside a command, the command makes no entry but that by which its page leaves it: so it meets no
-- machine check, and owes no loss more.
use Rattle.std.proofs.Common.{◌≡◌, ℕ, suc, ◌==◌, ◌&&◌, Bool, true, false, cond, List, [], ◌∷◌, ◌++◌, Option, Some, None, filter, length, append-nil, append_assoc, refl, sym, ap, ◌∙◌, subst}
use Rattle.std.proofs.lemmas.Bool.{both_ways}
use Rattle.std.proofs.lemmas.List.{append_cancel_left}
use Rattle.std.proofs.lemmas.List.Elements.{filter-append}
use Rattle.std.proofs.lemmas.Option.{none-some}
use Rattle.hwp_cpu_row.specs.hwp_geom.declared.FileNo.{FileNo}
use Rattle.hwp_cpu_row.specs.hwp_geom.declared.Frame.{Frame}
use Rattle.hwp_cpu_row.specs.hwp_geom.declared.Layout.{Layout}
use Rattle.hwp_cpu_row.specs.hwp_geom.declared.Page.{Page}
use Rattle.hwp_cpu_row.specs.hwp_geom.declared.Who.{Who}
use Rattle.hwp_cpu_row.specs.hwp_page.declared.Entry.{Entry}
use Rattle.hwp_cpu_row.specs.hwp_page.declared.What.TheVariants as entries
use Rattle.hwp_cpu_row.specs.hwp_page.History.{BodyValue}
use Rattle.hwp_cpu_row.specs.hwp_page.Losses.{is_loss}
use Rattle.hwp_cpu_row.specs.hwp_core_rule.declared.InHand.{InHand}
use Rattle.hwp_cpu_row.specs.hwp_core_rule.declared.Log.{Log}
use Rattle.hwp_cpu_row.specs.hwp_core_rule.declared.Made.{Made}
use Rattle.hwp_cpu_row.specs.hwp_core_rule.declared.Stamp.{Stamp}
use Rattle.hwp_cpu_row.specs.hwp_core_rule.declared.Step.{Step}
use Rattle.hwp_cpu_row.specs.hwp_core_rule.declared.Step.TheVariants as steps
use Rattle.hwp_cpu_row.specs.hwp_core_rule.declared.View.{View}
use Rattle.hwp_cpu_row.specs.hwp_core_rule.Lists.{EachMember}
use Rattle.hwp_cpu_row.specs.hwp_core_rule.Logs.{log_of}
use Rattle.hwp_cpu_row.specs.hwp_core_rule.Views.{made_from, more_of, without}
use Rattle.hwp_cpu_row.proofs.of_hwp_core_rule.Lists.{each-push, same-number}
use Rattle.hwp_cpu_row.specs.hwp_core_rule.Calls.{CanMake, Steps, logs}
use Rattle.hwp_cpu_row.specs.hwp_core_rule.Known.{HasMadeBeside, HasMadeNoneBeside, deeds, is_by}
use Rattle.hwp_cpu_row.proofs.of_hwp_core_rule.tasks.MadeEntries.{Lists, frame-lists, kill-lists, loss-lists, page-lists}
use Rattle.hwp_cpu_row.proofs.of_hwp_core_rule.tasks.StepOwes.{frame-owes, kill-owes, listed-none, losses-kept, losses-same, page-owes}
use Rattle.hwp_cpu_command.specs.hwp_cpu_access.Fits.{checks_in, checks_made}
use Rattle.hwp_cpu_command.proofs.of_hwp_cpu_access.CommandGrows.{More, made-more}
use Rattle.hwp_cpu_command.specs.hwp_law.Commands.{is_check}
use Rattle.hwp_cpu_command.specs.hwp_soft_move.declared.relocate.Relocate.{Relocate}
use Rattle.hwp_cpu_command.specs.hwp_soft_move.declared.relocate.RelocateAt.{RelocateAt}
use Rattle.hwp_cpu_command.specs.hwp_soft_move.declared.relocate.RelocateAt.TheVariants as relocate_at
use Rattle.hwp_cpu_command.specs.hwp_soft_move.Relocating as relocating
use Rattle.hwp_cpu_command.specs.hwp_soft.declared.Soft.{Soft}
use Rattle.hwp_cpu_command.specs.hwp_soft.declared.SoftAnswer.{SoftAnswer}
use Rattle.hwp_cpu_command.specs.hwp_soft.declared.SoftAnswer.TheVariants as answers
use Rattle.hwp_cpu_command.specs.hwp_soft.declared.soft.SoftAt.{SoftAt}
use Rattle.hwp_cpu_command.specs.hwp_soft.declared.soft.SoftAt.TheVariants as at
use Rattle.hwp_cpu_command.specs.hwp_soft.Offline as offline
use Rattle.hwp_cpu.specs.Courses.{is_abandoned}
use Rattle.hwp_cpu_row.proofs.DueLaws.{each-cons}

-- ---- what the part made

abbrev IsLeaving : Made → Type 0
IsLeaving m = m.entry.what ≡ entries.Soft

-- beside these entries the command made such alone by which a page leaves its frame
pub record HasLeft (base : List Made) (view : View) (who : Who) : Type 0 where
  pub more : List Made
  pub all : deeds who view ≡ base ++ more
  pub leaving : EachMember IsLeaving more

has-none : {base : List Made} {view : View} {who : Who} → HasMadeNoneBeside base view who → HasLeft base view who
has-none {base} none = record { more = []; all = none ∙ sym (append-nil base); leaving = λ i m there. absurd (none-some m there) }

has-one : {base : List Made} {view : View} {who : Who} {page : Page} {place : ℕ} → HasMadeBeside base (λ m. ⊥) view who page place entries.Soft → HasLeft base view who
has-one {base} {view} {who} has = which has.before has.such has.all
  where
    which : (l : List Made) → EachMember (λ (m : Made). ⊥) l → deeds who view ≡ base ++ (l ++ has.last ∷ []) → HasLeft base view who
    which [] none all = record { more = has.last ∷ []; all = all; leaving = each-push IsLeaving [] has.last has.at.2 (λ i m there. absurd (none-some m there)) }
    which (m ∷ ms) none all = absurd (none 0 m refl)

caused-left : {base : List Made} (layout : Layout) {view : View} {who : Who} (frame : Frame) (x : SoftAnswer) → offline.IsCaused base layout view who frame x → HasLeft base view who
caused-left layout frame answers.Stopped has = has-none has.0
caused-left layout frame answers.Kernel has = has-none has.0
caused-left layout frame answers.Already has = has-none has.0
caused-left layout frame (answers.HasBad mask) has = has-none has.0
caused-left layout frame answers.NoFrame has = has-none has.0
caused-left layout frame (answers.TakenFree cycle) has = has-none has.0
caused-left layout frame (answers.Moved to place cycle) has = has-one has.0

relocating-left : {base : List Made} {layout : Layout} {view : View} (r : Relocate) → relocating.FitsFrom base layout view r → HasLeft base view r.transfer.who
relocating-left {base} {layout} {view} r fits = which r.at fits.at
  where
    which : (x : RelocateAt) → relocating.FitsAt base layout view r.transfer r.maps r.done r.body x → HasLeft base view r.transfer.who
    which relocate_at.Count has = has-none has.0.carries.made_none
    which relocate_at.SetOwner has = has-none has.carries.made_none
    which (relocate_at.Refer f) has = has-none has.ahead.carries.made_none
    which (relocate_at.Remap m) has = has-none has.carries.made_none
    which relocate_at.SetCache has = has-none has.carries.made_none
    which relocate_at.ClearOwner has = has-none has.carries.made_none
    which relocate_at.UnlockFrame has = has-none has.carries.made_none
    which (relocate_at.Release l) has = has-one has.moved
    which relocate_at.PutRef has = has-one has.1
    which relocate_at.Retire has = has-one has.1
    which relocate_at.UnlockPage has = has-one has.1
    which relocate_at.Over has = has-one has.1

-- in each state but that of giving up
left-at : {base : List Made} (layout : Layout) {view : View} {who : Who} (frame : Frame) (x : SoftAt) → is_abandoned x ≡ false → offline.FitsAt base layout view who frame x → HasLeft base view who
left-at layout frame at.LoadStop on has = has-none has.1
left-at layout frame (at.Seize s) on has = has-none has.1
left-at layout frame (at.Discard d) on has = has-none has.2
left-at layout frame (at.LoadBad page body) on has = has-none has.2
left-at layout frame (at.Take page body t) on has = has-none has.good.made_none
left-at layout frame (at.Poison page body to) on has = has-none has.good.made_none
left-at layout frame (at.UnlockSpare page body to) on has = has-none has.0.good.made_none
left-at layout frame (at.ReleaseSpare page body r) on has = has-none has.0.good.made_none
left-at {base} layout {view} frame (at.Relocate r answer) on has = subst (HasLeft base view) has.own (relocating-left r has.relocate)
left-at layout frame (at.Unhold u answer) on has = caused-left layout frame answer has.caused
left-at layout frame (at.GiveUp g) on has = absurd (both_ways true on refl)
left-at layout frame (at.Over answer) on has = caused-left layout frame answer has.1

pub soft-left : {base : List Made} {layout : Layout} {view : View} (s : Soft) → is_abandoned s.at ≡ false → offline.FitsFrom base layout view s → HasLeft base view s.who
soft-left {layout = layout} s on fits = left-at layout s.frame s.at on fits.at

-- ---- no machine check

none-checked : (l : List Made) → EachMember IsLeaving l → filter (λ (m : Made). is_check m.entry.what) l ≡ []
none-checked [] leaving = refl
none-checked (m ∷ ms) leaving = ap (λ (b : Bool). cond b (m ∷ filter (λ (x : Made). is_check x.entry.what) ms) (filter (λ (x : Made). is_check x.entry.what) ms)) (ap is_check (leaving 0 m refl)) ∙ none-checked ms (λ i x there. leaving (suc i) x there)

checks-left : {base : List Made} {view : View} {who : Who} → HasLeft base view who → checks_made who view ≡ checks_in base
checks-left {base} has = ap checks_in has.all
    ∙ ap length (filter-append (λ (m : Made). is_check m.entry.what) base has.more ∙ ap (λ (l : List Made). filter (λ (m : Made). is_check m.entry.what) base ++ l) (none-checked has.more has.leaving) ∙ append-nil (filter (λ (m : Made). is_check m.entry.what) base))

pub checks-same : {base : List Made} {old new : View} {who : Who} → HasLeft base old who → HasLeft base new who → checks_made who new ≡ checks_made who old
checks-same before after = checks-left after ∙ sym (checks-left before)

-- ---- no loss

-- of the command's entries those behind are such as well
each-behind : (a b : List Made) → EachMember IsLeaving (a ++ b) → EachMember IsLeaving b
each-behind [] b each = each
each-behind (x ∷ a) b each = each-behind a b (λ i m there. each (suc i) m there)

own-test : (who : Who) (m : Made) → m.entry.who ≡ who → is_by who m ≡ true
own-test who m is = ap (λ (w : Who). (w.cpu.0 == who.cpu.0) && (w.seq == who.seq)) is ∙ ap (λ (b : Bool). b && (who.seq == who.seq)) (same-number who.cpu.0 who.cpu.0 refl) ∙ same-number who.seq who.seq refl

-- entries of the command that are such are no losses
unlost : (who : Who) (stamp : Stamp) (page : Page) (frame : Option Frame) (place : ℕ) (l : List Entry) → EachMember (λ (e : Entry). e.who ≡ who) l → EachMember IsLeaving (filter (is_by who) (made_from stamp page frame place l)) → EachMember (λ (e : Entry). is_loss e.what ≡ false) l
unlost who stamp page frame place [] own leaving = λ i e there. absurd (none-some e there)
unlost who stamp page frame place (e ∷ es) own leaving = each-cons (λ (x : Entry). is_loss x.what ≡ false) e es (ap is_loss (all 0 m refl)) (unlost who stamp page frame (suc place) es (λ i x there. own (suc i) x there) (λ i x there. all (suc i) x there))
  where
    m : Made
    m = record { stamp = stamp; page = page; place = place; entry = e; frame = frame }

    rest : List Made
    rest = filter (is_by who) (made_from stamp page frame (suc place) es)

    all : EachMember IsLeaving (m ∷ rest)
    all = subst (λ (b : Bool). EachMember IsLeaving (cond b (m ∷ rest) rest)) (own-test who m (own 0 e refl)) leaving

-- what a body's way home lists is among them
listed-left : {base : List Made} {old new : View} {who : Who} {stamp : Stamp} {body : InHand} {log : Log} → HasLeft base old who → HasLeft base new who → Lists old new stamp body log
    → EachMember IsLeaving (filter (is_by who) (made_from stamp log.page body.frame (length body.log.entries) (more_of body log)))
listed-left {base} {old} {new} {who} {stamp} {body} {log} before after lists = each-behind before.more more (subst (EachMember IsLeaving) same after.leaving)
  where
    more : List Made
    more = filter (is_by who) (made_from stamp log.page body.frame (length body.log.entries) (more_of body log))

    grown : deeds who new ≡ deeds who old ++ more
    grown = ap (filter (is_by who)) lists.made_is ∙ filter-append (is_by who) old.made (made_from stamp log.page body.frame (length body.log.entries) (more_of body log))

    same : after.more ≡ before.more ++ more
    same = append_cancel_left base after.more (before.more ++ more) (sym after.all ∙ grown ∙ ap (λ (l : List Made). l ++ more) before.all ∙ append_assoc base before.more more)

-- a step of the part adds such entries alone
pub soft-grows : {base : List Made} {layout : Layout} {who : Who} {old new : View} {step : Step} {put : Option Log} {found : ℕ} {got : Option BodyValue} → HasLeft base old who → HasLeft base new who → Steps layout who step put old new found got
    → (more : List Made) × (deeds who new ≡ deeds who old ++ more) × EachMember IsLeaving more
soft-grows {base} {layout} {who} {old} {new} {step} before after made = (more, grown, each-behind before.more more (subst (EachMember IsLeaving) same after.leaving))
  where
    all : More old new
    all = made-more step made

    more : List Made
    more = filter (is_by who) all.more

    grown : deeds who new ≡ deeds who old ++ more
    grown = ap (filter (is_by who)) all.made_is ∙ filter-append (is_by who) old.made all.more

    same : after.more ≡ before.more ++ more
    same = append_cancel_left base after.more (before.more ++ more) (sym after.all ∙ grown ∙ ap (λ (l : List Made). l ++ more) before.all ∙ append_assoc base before.more more)

module _ {base : List Made} {layout : Layout} {who : Who} {old new : View} {found : ℕ} {got : Option BodyValue} (before : HasLeft base old who) (after : HasLeft base new who) where
  frame-pays : (frame : Frame) (body : Option BodyValue) → CanMake layout who (steps.UnlockFrame frame) body old → Steps layout who (steps.UnlockFrame frame) (logs body) old new found got → new.owed.losses ≡ old.owed.losses
  frame-pays frame None can made = losses-same tt made
  frame-pays frame (Some b) can made = frame-owes can.asks.kind.put.body_is (unlost who _ _ _ _ (more_of can.asks.kind.put.body (log_of b)) can.asks.kind.put.extends.own (listed-left before after (frame-lists can.asks.kind.put.body_is made))) made

  page-pays : (page : Page) (body : Option BodyValue) → CanMake layout who (steps.UnlockPage page) body old → Steps layout who (steps.UnlockPage page) (logs body) old new found got → new.owed.losses ≡ old.owed.losses
  page-pays page None can made = losses-same tt made
  page-pays page (Some b) can made = page-owes can.asks.kind.put.body_is (unlost who _ _ _ _ (more_of can.asks.kind.put.body (log_of b)) can.asks.kind.put.extends.own (listed-left before after (page-lists can.asks.kind.put.body_is made))) made

  by-step : (step : Step) (body : Option BodyValue) → CanMake layout who step body old → Steps layout who step (logs body) old new found got → old.owed.losses ≡ [] → new.owed.losses ≡ []
  by-step (steps.UnlockFrame frame) body can made paid = frame-pays frame body can made ∙ paid
  by-step (steps.UnlockPage page) body can made paid = page-pays page body can made ∙ paid
  by-step (steps.Kill process page body) put can made paid =
      kill-owes can.asks.kind.page_held.body_is
      (unlost who _ _ _ _ (more_of can.asks.kind.page_held.body (log_of body.value)) can.asks.kind.extends.own (listed-left before after (kill-lists can.asks.kind.page_held.body_is made))) made
      ∙ paid
  by-step (steps.Lose file body) put can made paid =
      ap (λ (v : View). v.owed.losses) made.told.next
      ∙ ap (without (λ (n : FileNo). n.0 == file.0))
      (listed-none layout who old can.asks.kind.page_held.body (log_of body.value) can.asks.kind.page_held.body_is
      (unlost who _ _ _ _ (more_of can.asks.kind.page_held.body (log_of body.value)) can.asks.kind.extends.own (listed-left before after (loss-lists can.asks.kind.page_held.body_is made)))
      ∙ paid)
  by-step step body can made paid = losses-kept made tt ∙ paid

-- THE COMMAND OWES NO LOSS MORE
pub soft-pays : {base : List Made} {layout : Layout} {who : Who} {old new : View} {step : Step} {body : Option BodyValue} {found : ℕ} {got : Option BodyValue} → HasLeft base old who → HasLeft base new who → CanMake layout who step body old → Steps layout who step (logs body) old new found got
    → old.owed.losses ≡ [] → new.owed.losses ≡ []
soft-pays {step = step} {body = body} before after can made paid = by-step before after step body can made paid
