-- The losses of a file by earlier commands: the loss word that a step shows is at least theirs, and at least what it was in each sight
-- before; and steps of later commands leave them as they are.
use Rattle.std.proofs.Common.{◌≡◌, ℕ, ◌+◌, ◌<◌, ◌≤◌, ◌==◌, ◌&&◌, nat_lt, Bool, true, false, cond, [], Option, Some, None, length, slice_get, slice_index, refl, sym, ap, ◌∙◌, subst, arith}
use Rattle.std.specs.Int.{from_bool}
use Rattle.std.specs.List.{sum_by}
use Rattle.std.proofs.lemmas.Bool.{le-ltb}
use Rattle.std.proofs.lemmas.List.Sums.{sum_by-append}
use Rattle.hwp_page.specs.hwp_geom.declared.FileNo.{FileNo}
use Rattle.hwp_page.specs.hwp_geom.declared.Frame.{Frame}
use Rattle.hwp_page.specs.hwp_geom.declared.Layout.{Layout}
use Rattle.hwp_page.specs.hwp_geom.declared.Page.{Page}
use Rattle.hwp_page.specs.hwp_geom.declared.Who.{Who}
use Rattle.hwp_page.specs.declared.Entry.{Entry}
use Rattle.hwp_page.specs.History.{BodyValue}
use Rattle.hwp_page.specs.Losses.{is_loss, is_same_file}
use Rattle.hwp_core_rule.specs.declared.view.InHand.{InHand}
use Rattle.hwp_core_rule.specs.declared.log.Log.{Log}
use Rattle.hwp_core_rule.specs.declared.view.Made.{Made}
use Rattle.hwp_core_rule.specs.declared.shared_word.SharedWord.TheVariants as places
use Rattle.hwp_core_rule.specs.declared.view.Stamp.{Stamp}
use Rattle.hwp_core_rule.specs.declared.record.State.{State}
use Rattle.hwp_core_rule.specs.declared.step.Step.{Step}
use Rattle.hwp_core_rule.specs.declared.step.Step.TheVariants as steps
use Rattle.hwp_core_rule.specs.declared.view.View.{View}
use Rattle.hwp_core_rule.specs.Lists.{EachMember}
use Rattle.hwp_core_rule.specs.Logs.{file_of}
use Rattle.hwp_core_rule.specs.Rule.{Holds, losing_of}
use Rattle.hwp_core_rule.specs.Views.{made_from, more_of}
use Rattle.hwp_core_rule.specs.Words.{index, words_of}
use Rattle.hwp_core_rule.specs.parts.Losses.{made_of, owed_of}
use Rattle.hwp_core_rule.proofs.CountsBelow.{sum-le}
use Rattle.hwp_core_rule.proofs.Lists.{at_map, sum-zero}
use Rattle.hwp_core_rule.proofs.MoreEntries.{made-each}
use Rattle.hwp_core_rule.proofs.MoveKeeps.{shaped}
use Rattle.hwp_core_rule.proofs.WordsByKind.{word-there, words-read}
use Rattle.hwp_core_rule.proofs.bounds.LossBounds.{own-losses}
use Rattle.hwp_core_rule.specs.Calls.{CanMake, Steps, logs}
use Rattle.hwp_core_rule.specs.Known.{Covers, HasSeenLoss, earlier_losses}
use Rattle.hwp_core_rule.proofs.tasks.MadeEntries.{Lists, frame-lists, kill-lists, loss-lists, made-kept, made-same, page-lists}

-- what an entry counts for
abbrev loss_before : Layout → FileNo → Who → Made → ℕ
loss_before layout file who m = cond (is_same_file file (file_of layout m.page)) (from_bool (is_loss m.entry.what && nat_lt m.entry.who.seq who.seq)) 0

abbrev loss_of : Layout → FileNo → Made → ℕ
loss_of layout file m = cond (is_same_file file (file_of layout m.page)) (from_bool (is_loss m.entry.what)) 0

-- ---- the word that `report_lost` shows

earlier-one : (same loss before : Bool) → cond same (from_bool (loss && before)) 0 ≤ cond same (from_bool loss) 0
earlier-one true true true = omega arith
earlier-one true true false = omega arith
earlier-one true false before = omega arith
earlier-one false loss before = omega arith

-- they are some of the losses that the view lists
pub earlier-few : (layout : Layout) (file : FileNo) (who : Who) (view : View) → earlier_losses layout file who view ≤ made_of layout file (losing_of view)
earlier-few layout file who view =
    sum-le (loss_before layout file who) (loss_of layout file) view.made (λ i m there. earlier-one (is_same_file file (file_of layout m.page)) (is_loss m.entry.what) (nat_lt m.entry.who.seq who.seq))

-- the word that a step met, among the words of its board
loss-word : (layout : Layout) (s : State) → Holds layout s → (file : FileNo) (found : ℕ) → file.0 < layout.files → found ≡ slice_index s.words (index layout (places.Loss file))
    → slice_get (words_of layout s.words).losses file.0 ≡ Some found
loss-word layout s h file found inside met =
    word-there (words_of layout s.words).losses file.0 layout.files (shaped layout s h).losses inside
    ∙ ap (λ (n : ℕ). Some n) (words-read layout s.words (places.Loss file) inside ∙ sym met)

module _ {layout : Layout} {who : Who} {put : Option Log} {old new : View} {found : ℕ} {got : Option BodyValue} {file : FileNo} (made : Steps layout who (steps.ReportLost file) put old new found got)
    (inside : file.0 < layout.files) where
  standing : slice_get (words_of layout made.told.board.words).losses file.0 ≡ Some found
  standing = loss-word layout made.told.board made.told.rule file found inside made.told.met

  -- where the processor owes no loss, the word is at least the losses by its earlier commands
  pub report-covers : old.owed.losses ≡ [] → Covers layout new who file found
  report-covers paid =
      let all : made_of layout file (losing_of old) ≤ found + owed_of file (losing_of old) = own-losses layout (words_of layout made.told.board.words) made.told.board.homes made.told.board.views made.told.rule.rule file made.told.seat old found made.told.me standing in
      let none : owed_of file (losing_of old) ≡ 0 = ap (sum_by (λ (n : FileNo). from_bool (n.0 == file.0))) paid in
      let some : earlier_losses layout file who old ≤ made_of layout file (losing_of old) = earlier-few layout file who old in
      let same : earlier_losses layout file who new ≡ earlier_losses layout file who old = ap (sum_by (loss_before layout file who)) (made-kept made tt) in
      omega (arith, all, none, some, same)

  -- it is at least what a step of the processor showed before
  pub report-reaches : (number : ℕ) → HasSeenLoss old file number → number ≤ found
  report-reaches number seen =
      let most : seen.1.word ≤ found = made.told.rule.rule.histories.losses.shown file found standing made.told.seat old.sights (at_map (λ (v : View). v.sights) made.told.board.views made.told.seat old made.told.me) seen.0 seen.1 seen.2 seen.3.0 in
      let is : seen.1.word ≡ number = seen.3.1 in
      omega (arith, most, is)

-- ---- steps of commands that aren't earlier

not-earlier : (same loss : Bool) (n m : ℕ) → m ≤ n → cond same (from_bool (loss && nat_lt n m)) 0 ≡ 0
not-earlier true true n m past = ap from_bool (le-ltb n m past)
not-earlier true false n m past = refl
not-earlier false loss n m past = refl

module _ (layout : Layout) (file : FileNo) (who by : Who) (past : who.seq ≤ by.seq) where
  -- entries of a command that isn't earlier are none of them
  lists-later : {old new : View} {stamp : Stamp} {body : InHand} {log : Log} → Lists old new stamp body log → EachMember (λ (e : Entry). e.who ≡ by) (more_of body log) → earlier_losses layout file who new ≡ earlier_losses layout file who old
  lists-later {old} {new} {stamp} {body} {log} lists own =
      let none : sum_by (loss_before layout file who) (made_from stamp log.page body.frame (length body.log.entries) (more_of body log)) ≡ 0 =
      sum-zero (loss_before layout file who) (made_from stamp log.page body.frame (length body.log.entries) (more_of body log))
      (made-each (λ (m : Made). loss_before layout file who m ≡ 0) stamp log.page body.frame (length body.log.entries) (more_of body log)
      (λ i e at n. not-earlier (is_same_file file (file_of layout log.page)) (is_loss e.what) e.who.seq who.seq (subst (λ (w : Who). who.seq ≤ w.seq) (sym (own i e at)) past))) in
      let all : earlier_losses layout file who new ≡ sum_by (loss_before layout file who) old.made + sum_by (loss_before layout file who) (made_from stamp log.page body.frame (length body.log.entries) (more_of body log)) =
      ap (sum_by (loss_before layout file who)) lists.made_is ∙ sum_by-append (loss_before layout file who) old.made (made_from stamp log.page body.frame (length body.log.entries) (more_of body log)) in
      omega (arith, none, all)

module _ {layout : Layout} {by : Who} {old new : View} {found : ℕ} {got : Option BodyValue} (file : FileNo) (who : Who) (past : who.seq ≤ by.seq) where
  frame-puts : (frame : Frame) (body : Option BodyValue) → CanMake layout by (steps.UnlockFrame frame) body old → Steps layout by (steps.UnlockFrame frame) (logs body) old new found got → earlier_losses layout file who new ≡ earlier_losses layout file who old
  frame-puts frame None can made = ap (sum_by (loss_before layout file who)) (made-same tt made)
  frame-puts frame (Some b) can made = lists-later layout file who by past (frame-lists can.asks.kind.put.body_is made) can.asks.kind.put.extends.own

  page-puts : (page : Page) (body : Option BodyValue) → CanMake layout by (steps.UnlockPage page) body old → Steps layout by (steps.UnlockPage page) (logs body) old new found got → earlier_losses layout file who new ≡ earlier_losses layout file who old
  page-puts page None can made = ap (sum_by (loss_before layout file who)) (made-same tt made)
  page-puts page (Some b) can made = lists-later layout file who by past (page-lists can.asks.kind.put.body_is made) can.asks.kind.put.extends.own

  by-later : (step : Step) (body : Option BodyValue) → CanMake layout by step body old → Steps layout by step (logs body) old new found got → earlier_losses layout file who new ≡ earlier_losses layout file who old
  by-later (steps.UnlockFrame frame) body can made = frame-puts frame body can made
  by-later (steps.UnlockPage page) body can made = page-puts page body can made
  by-later (steps.Kill process page body) put can made = lists-later layout file who by past (kill-lists can.asks.kind.page_held.body_is made) can.asks.kind.extends.own
  by-later (steps.Lose other body) put can made = lists-later layout file who by past (loss-lists can.asks.kind.page_held.body_is made) can.asks.kind.extends.own
  by-later step body can made = ap (sum_by (loss_before layout file who)) (made-kept made tt)

  -- a step of a command that isn't earlier leaves them, and so what covers them
  pub covers-stays : {step : Step} {body : Option BodyValue} → CanMake layout by step body old → Steps layout by step (logs body) old new found got → (n : ℕ) → Covers layout old who file n → Covers layout new who file n
  covers-stays {step} {body} can made n covers =
      let same : earlier_losses layout file who new ≡ earlier_losses layout file who old = by-later step body can made in
      let was : earlier_losses layout file who old ≤ n = covers in
      omega (arith, same, was)
