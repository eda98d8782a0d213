-- The losses that a command owes are of entries that it made, and a command without failures makes none.
use Rattle.std.proofs.Common.{◌≡◌, inl, inr, ℕ, suc, ◌+◌, ◌≤◌, ◌==◌, ◌&&◌, Bool, true, false, cond, List, [], ◌∷◌, ◌++◌, Option, None, Some, filter, length, refl, sym, ap, ◌∙◌, subst, arith, true≢false}
use Rattle.std.specs.Int.{from_bool}
use Rattle.std.specs.List.{sum_by}
use Rattle.std.proofs.lemmas.Bool.{eq-eqb}
use Rattle.std.proofs.lemmas.List.{length-append}
use Rattle.std.proofs.lemmas.List.Elements.{filter-append}
use Rattle.std.proofs.lemmas.List.Sums.{sum_by-append}
use Rattle.std.proofs.lemmas.Option.{same_Some}
use Rattle.hwp_law.specs.hwp_geom.declared.FileNo.{FileNo}
use Rattle.hwp_law.specs.hwp_geom.declared.Frame.{Frame}
use Rattle.hwp_law.specs.hwp_geom.declared.Layout.{Layout}
use Rattle.hwp_law.specs.hwp_geom.declared.Page.{Page}
use Rattle.hwp_law.specs.hwp_geom.declared.VSlot.{VSlot}
use Rattle.hwp_law.specs.hwp_geom.declared.Who.{Who}
use Rattle.hwp_law.specs.hwp_banks.Banks.{Banks}
use Rattle.hwp_law.specs.hwp_page.declared.Entry.{Entry}
use Rattle.hwp_law.specs.hwp_page.declared.What.{What}
use Rattle.hwp_law.specs.hwp_page.declared.What.TheVariants as entries
use Rattle.hwp_law.specs.hwp_page.History.{BodyValue}
use Rattle.hwp_law.specs.hwp_page.Losses.{is_loss}
use Rattle.hwp_plain.specs.hwp_core_rule.declared.InHand.{InHand}
use Rattle.hwp_plain.specs.hwp_core_rule.declared.Log.{Log}
use Rattle.hwp_plain.specs.hwp_core_rule.declared.Made.{Made}
use Rattle.hwp_plain.specs.hwp_core_rule.declared.SharedWord.{SharedWord}
use Rattle.hwp_plain.specs.hwp_core_rule.declared.SharedWord.TheVariants as places
use Rattle.hwp_plain.specs.hwp_core_rule.declared.Stamp.{Stamp}
use Rattle.hwp_plain.specs.hwp_core_rule.declared.Step.{Step}
use Rattle.hwp_plain.specs.hwp_core_rule.declared.Step.TheVariants as steps
use Rattle.hwp_plain.specs.hwp_core_rule.declared.View.{View}
use Rattle.hwp_plain.specs.hwp_core_rule.Lists.{EachMember}
use Rattle.hwp_plain.specs.hwp_core_rule.Logs.{file_of, log_of}
use Rattle.hwp_plain.specs.hwp_core_rule.Steps.{goes}
use Rattle.hwp_plain.specs.hwp_core_rule.Views.{body_of, listed_of, loaded, loss_made, losses_made, made_from, more_of, noted, stamp_of, taken, view_by, without}
use Rattle.hwp_plain.proofs.of_hwp_core_rule.Lists.{sum-zero}
use Rattle.hwp_plain.specs.hwp_core_rule.Calls.{CanMake, Steps, logs}
use Rattle.hwp_plain.proofs.of_hwp_core_rule.tasks.StepLeaves.{content_of}
use Rattle.hwp_plain.specs.hwp_core_rule.Known.{deeds, is_by}
use Rattle.hwp_plain.proofs.of_hwp_core_rule.tasks.MadeEntries.{PutsNone}
use Rattle.hwp_law.specs.hwp_script_words.declared.Command.{Command}
use Rattle.hwp_law.specs.hwp_report_text.declared.Answer.{Answer}
use Rattle.hwp_law.specs.Commands.{can_fail}
use Rattle.hwp_law.specs.Entries.{Makes}
use Rattle.hwp_law.specs.Pairings.{is_soft}
use Rattle.hwp_cpu_row.specs.declared.Row.{Row}
use Rattle.hwp_law_served.specs.Accounts.{IsAccounted}
use Rattle.hwp_law_served.specs.Causes.{IsCausedWith}
use Rattle.hwp_law_served.proofs.copied.Uncopied.{safe-no-store, uncopied}
use Rattle.hwp_law_served.specs.Owed.{OwesOwn, loss_of, losses_by}
use Rattle.hwp_law_served.proofs.deeds.Deeds.{IsDone, are-deeds}

-- ---- entries past those that are listed

one-loss : (o : Option FileNo) (loss : Bool) → length (loss_made o loss) ≤ from_bool loss
one-loss None loss = omega arith
one-loss (Some file) true = omega arith
one-loss (Some file) false = omega arith

own-test : (who : Who) (m : Made) → m.entry.who ≡ who → is_by who m ≡ true
own-test who m is = ap (λ (w : Who). is_by w m) (sym is) ∙ ap (λ (b : Bool). b && (m.entry.who.seq == m.entry.who.seq)) (eq-eqb m.entry.who.cpu.0 m.entry.who.cpu.0 refl) ∙ eq-eqb m.entry.who.seq m.entry.who.seq refl

made-owes : (layout : Layout) (who : Who) (stamp : Stamp) (page : Page) (frame : Option Frame) (place : ℕ) (es : List Entry) → EachMember (λ (e : Entry). e.who ≡ who) es
    → length (losses_made layout page es) ≤ sum_by loss_of (filter (is_by who) (made_from stamp page frame place es))
made-owes layout who stamp page frame place [] own = omega arith
made-owes layout who stamp page frame place (e ∷ es) own =
    let m : Made = record { stamp = stamp; page = page; place = place; entry = e; frame = frame } in
    let one : length (loss_made (file_of layout page) (is_loss e.what)) ≤ from_bool (is_loss e.what) = one-loss (file_of layout page) (is_loss e.what) in
    let rest : length (losses_made layout page es) ≤ sum_by loss_of (filter (is_by who) (made_from stamp page frame (suc place) es)) = made-owes layout who stamp page frame (suc place) es (λ i x at. own (suc i) x at) in
    let all : length (loss_made (file_of layout page) (is_loss e.what) ++ losses_made layout page es) ≡ length (loss_made (file_of layout page) (is_loss e.what)) + length (losses_made layout page es)
    = length-append (loss_made (file_of layout page) (is_loss e.what)) (losses_made layout page es) in
    let sum : sum_by loss_of (filter (is_by who) (m ∷ made_from stamp page frame (suc place) es))
    ≡ 0 + from_bool (is_loss e.what) + sum_by loss_of (filter (is_by who) (made_from stamp page frame (suc place) es))
    = ap (λ (b : Bool). sum_by loss_of (cond b (m ∷ filter (is_by who) (made_from stamp page frame (suc place) es)) (filter (is_by who) (made_from stamp page frame (suc place) es)))) (own-test who m (own 0 e refl))
    ∙ sum_by-append loss_of (m ∷ []) (filter (is_by who) (made_from stamp page frame (suc place) es)) in
    omega (arith, one, rest, all, sum)

lists-own : (layout : Layout) (who : Who) (log : Log) (o : Option InHand) (v : View) → ((body : InHand) → o ≡ Some body → EachMember (λ (e : Entry). e.who ≡ who) (more_of body log)) → OwesOwn who v → OwesOwn who (listed_of layout who log o v)
lists-own layout who log None v own was = was
lists-own layout who log (Some body) v own was =
    let owes : length (losses_made layout log.page (more_of body log)) ≤ sum_by loss_of (filter (is_by who) (made_from (stamp_of who v) log.page body.frame (length body.log.entries) (more_of body log)))
    = made-owes layout who (stamp_of who v) log.page body.frame (length body.log.entries) (more_of body log) (own body refl) in
    let all : length (v.owed.losses ++ losses_made layout log.page (more_of body log)) ≡ length v.owed.losses + length (losses_made layout log.page (more_of body log))
    = length-append v.owed.losses (losses_made layout log.page (more_of body log)) in
    let sum : sum_by loss_of (filter (is_by who) (v.made ++ made_from (stamp_of who v) log.page body.frame (length body.log.entries) (more_of body log)))
    ≡ sum_by loss_of (filter (is_by who) v.made) + sum_by loss_of (filter (is_by who) (made_from (stamp_of who v) log.page body.frame (length body.log.entries) (more_of body log)))
    = ap (sum_by loss_of) (filter-append (is_by who) v.made (made_from (stamp_of who v) log.page body.frame (length body.log.entries) (more_of body log)))
    ∙ sum_by-append loss_of (filter (is_by who) v.made) (filter (is_by who) (made_from (stamp_of who v) log.page body.frame (length body.log.entries) (more_of body log))) in
    let before : length v.owed.losses ≤ sum_by loss_of (filter (is_by who) v.made) = was in
    omega (arith, before, owes, all, sum)

-- ---- a step

short-without : (test : FileNo → Bool) (l : List FileNo) → length (without test l) ≤ length l
short-without test [] = omega arith
short-without test (x ∷ xs) = which (short-without test xs) (test x)
  where
    which : length (without test xs) ≤ length xs → (b : Bool) → length (cond b xs (x ∷ without test xs)) ≤ suc (length xs)
    which rest true = omega arith
    which rest false = omega (arith, rest)

module _ (who : Who) where
  either : (b : Bool) (x y : View) → OwesOwn who x → OwesOwn who y → OwesOwn who (cond b x y)
  either true x y g h = g
  either false x y g h = h

  loads-owe : (place : SharedWord) (found : ℕ) (v : View) → OwesOwn who v → OwesOwn who (loaded who place found v)
  loads-owe (places.Cache page) found v was = was
  loads-owe _ found v was = was

  takes-owe : (layout : Layout) (frame : Option Frame) (content : Option Log) (v : View) → OwesOwn who v → OwesOwn who (taken layout who frame content v)
  takes-owe layout frame None v was = was
  takes-owe layout frame (Some log) v was = was

  -- of a step that puts no body
  by-none : (layout : Layout) (step : Step) (found : ℕ) (content : Option Log) (v : View) → PutsNone step → OwesOwn who v → OwesOwn who (view_by layout who step found content v)
  by-none layout (steps.Load place) found content v none was = loads-owe place found v was
  by-none layout (steps.Reserve seen) found content v none was = either (found == seen) _ _ was was
  by-none layout (steps.TakeBit frame) found content v none was = either (goes (steps.TakeBit frame) found) _ _ was was
  by-none layout (steps.GetRef frame seen count) found content v none was = either (found == seen) _ _ was was
  by-none layout (steps.LockFrame frame) found content v none was = either (goes (steps.LockFrame frame) found) _ _ (takes-owe layout (Some frame) content _ was) was
  by-none layout (steps.UnlockFrame frame) found content v none was = absurd none
  by-none layout (steps.Revive frame seen) found content v none was = either (found == seen) _ _ was was
  by-none layout (steps.LockPage page) found content v none was = either (goes (steps.LockPage page) found) _ _ (takes-owe layout None content _ was) was
  by-none layout (steps.UnlockPage page) found content v none was = absurd none
  by-none layout (steps.Poison frame true) found content v none was = either (goes (steps.Poison frame true) found) _ _ was was
  by-none layout (steps.Poison frame false) found content v none was = either (goes (steps.Poison frame false) found) _ _ was was
  by-none layout (steps.CountPoison true) found content v none was = was
  by-none layout (steps.CountPoison false) found content v none was = was
  by-none layout (steps.Stop cpu) found content v none was = either (found == 0) _ _ was was
  by-none layout (steps.Kill process page body) found content v none was = absurd none
  by-none layout (steps.Lose file body) found content v none was = absurd none
  by-none layout _ found content v none was = was

  -- the entries of a body in hand that goes home, or is listed
  same-own : (log : Log) (o : Option InHand) (body : InHand) → o ≡ Some body → EachMember (λ (e : Entry). e.who ≡ who) (more_of body log) → (b : InHand) → o ≡ Some b → EachMember (λ (e : Entry). e.who ≡ who) (more_of b log)
  same-own log o body is own b also = subst (λ (x : InHand). EachMember (λ (e : Entry). e.who ≡ who) (more_of x log)) (same_Some body b (sym is ∙ also)) own

  module _ {layout : Layout} {old new : View} {found : ℕ} {got : Option BodyValue} where
    frame-owes : (frame : Frame) (body : Option BodyValue) → CanMake layout who (steps.UnlockFrame frame) body old → Steps layout who (steps.UnlockFrame frame) (logs body) old new found got → OwesOwn who old → OwesOwn who new
    frame-owes frame None can made was = subst (OwesOwn who) (sym made.told.next) was
    frame-owes frame (Some b) can made was = subst (OwesOwn who) (sym made.told.next)
        (lists-own layout who (log_of b) (body_of (log_of b).page old) (noted who old) (same-own (log_of b) (body_of (log_of b).page old) can.asks.kind.put.body can.asks.kind.put.body_is can.asks.kind.put.extends.own) was)

    page-owes : (page : Page) (body : Option BodyValue) → CanMake layout who (steps.UnlockPage page) body old → Steps layout who (steps.UnlockPage page) (logs body) old new found got → OwesOwn who old → OwesOwn who new
    page-owes page None can made was = subst (OwesOwn who) (sym made.told.next) was
    page-owes page (Some b) can made was = subst (OwesOwn who) (sym made.told.next)
        (lists-own layout who (log_of b) (body_of (log_of b).page old) (noted who old) (same-own (log_of b) (body_of (log_of b).page old) can.asks.kind.put.body can.asks.kind.put.body_is can.asks.kind.put.extends.own) was)

    by-step : (step : Step) (body : Option BodyValue) → CanMake layout who step body old → Steps layout who step (logs body) old new found got → OwesOwn who old → OwesOwn who new
    by-step (steps.UnlockFrame frame) body can made was = frame-owes frame body can made was
    by-step (steps.UnlockPage page) body can made was = page-owes page body can made was
    by-step (steps.Kill process page body) put can made was = subst (OwesOwn who) (sym made.told.next) (either (found == 0) _ _ now now)
      where
        now : OwesOwn who (listed_of layout who (log_of body.value) (body_of body.value.page (noted who old)) (noted who old))
        now = lists-own layout who (log_of body.value) (body_of body.value.page old) (noted who old) (same-own (log_of body.value) (body_of body.value.page old) can.asks.kind.page_held.body can.asks.kind.page_held.body_is can.asks.kind.extends.own) was
    by-step (steps.Lose file body) put can made was = subst (OwesOwn who) (sym made.told.next) (omega (arith, now, fewer))
      where
        now : OwesOwn who (listed_of layout who (log_of body.value) (body_of body.value.page (noted who old)) (noted who old))
        now = lists-own layout who (log_of body.value) (body_of body.value.page old) (noted who old) (same-own (log_of body.value) (body_of body.value.page old) can.asks.kind.page_held.body can.asks.kind.page_held.body_is can.asks.kind.extends.own) was

        fewer : length (without (λ (n : FileNo). n.0 == file.0) (listed_of layout who (log_of body.value) (body_of body.value.page (noted who old)) (noted who old)).owed.losses)
            ≤ length (listed_of layout who (log_of body.value) (body_of body.value.page (noted who old)) (noted who old)).owed.losses
        fewer = short-without (λ (n : FileNo). n.0 == file.0) (listed_of layout who (log_of body.value) (body_of body.value.page (noted who old)) (noted who old)).owed.losses
    by-step step body can made was = subst (OwesOwn who) (sym made.told.next) (by-none layout step found (content_of layout who step (logs body) found got) (noted who old) tt was)

    -- over a step of the command
    pub owes-own : {step : Step} {body : Option BodyValue} → CanMake layout who step body old → Steps layout who step (logs body) old new found got → OwesOwn who old → OwesOwn who new
    owes-own {step} {body} can made was = by-step step body can made was

-- ---- a command without failures

lossless-so : (command : Command) (what : What) → can_fail command ≡ false → Makes false command what → is_loss what ≡ false
lossless-so command (entries.Fail situation required seen signals) cannot makes = absurd (true≢false (sym makes.0 ∙ cannot))
lossless-so command what cannot makes = refl

beside-lossless : (what : What) → is_soft what ≡ true → is_loss what ≡ false
beside-lossless entries.Soft is = refl
beside-lossless what is = absurd (true≢false (sym is))

pub lossless : (layout : Layout) (earlier : List (Command × Answer)) (copied : Option VSlot) (view : View) (who : Who) (command : Command) (before : Banks) (row : Row) → can_fail command ≡ false → IsCausedWith layout earlier copied view who command before row.told row.own row.answer
    → IsAccounted layout earlier view who command row → losses_by who view ≡ 0
lossless layout earlier copied view who command before row cannot caused account =
    let plain = uncopied layout earlier copied view who command before row.told row.own row.answer (safe-no-store command cannot) caused in
    sum-zero loss_of (deeds who view) (λ i m at. which m (are-deeds layout earlier view who command row plain account i m at))
  where
    which : (m : Made) → IsDone layout command row.answer m → loss_of m ≡ 0
    which m (inl deed) = ap from_bool (lossless-so command m.entry.what cannot deed.makes)
    which m (inr beside) = ap from_bool (beside-lossless m.entry.what beside)
