-- An answer that names an entry has its cause exactly where the entry is one that it may name.
use Rattle.std.proofs.Common.{◌≡◌, ℕ, true, Some, refl, sym, ap, ◌∙◌, subst, true≢false}
use Rattle.std.proofs.lemmas.Option.{same_Some}
use Rattle.hwp_check_evidence.specs.hwp_geom.declared.VSlot.{VSlot}
use Rattle.hwp_check_evidence.specs.hwp_geom.declared.Mask.{Mask}
use Rattle.hwp_check_evidence.specs.hwp_geom.declared.Who.{Who}
use Rattle.hwp_check_evidence.specs.hwp_kill.declared.Reply.{Reply}
use Rattle.hwp_check_evidence.specs.hwp_kill.declared.Reply.TheVariants as replies
use Rattle.hwp_check_evidence.specs.hwp_page.declared.At.{At}
use Rattle.hwp_check_evidence.specs.hwp_page.declared.Entry.{Entry}
use Rattle.hwp_check_evidence.specs.hwp_page.declared.Met.TheVariants.{Sigbus, Word}
use Rattle.hwp_check_evidence.specs.hwp_page.declared.What.{What}
use Rattle.hwp_check_evidence.specs.hwp_page.declared.What.TheVariants as entries
use Rattle.hwp_check_evidence.specs.hwp_script_words.declared.Command.{Command}
use Rattle.hwp_check_evidence.specs.hwp_script_words.declared.Command.TheVariants as commands
use Rattle.hwp_check_evidence.specs.hwp_script_words.declared.Script.{Script}
use Rattle.hwp_check_evidence.specs.hwp_report_text.declared.Answer.{Answer}
use Rattle.hwp_check_evidence.specs.hwp_report_text.declared.Answer.TheVariants as answers
use Rattle.hwp_check_evidence.specs.hwp_report_text.declared.Report.{Report}
use Rattle.hwp_check_evidence.specs.hwp_law.Outcomes.{reply_answer}
use Rattle.hwp_check_evidence.specs.hwp_law.Answers.{StandsAt}
use Rattle.hwp_check_evidence.specs.hwp_law.Causes.{IsCaused}
use Rattle.hwp_check_evidence.specs.hwp_law.Places.{entry_at}
use Rattle.hwp_check_evidence.specs.hwp_law.States.{entry_named}
use Rattle.hwp_check_causes.specs.Telling.{IsLoadOf, IsStoreOf, IsToldAt, is_by_entry}

-- no reply of prctl(2) names an entry
no-reply : (r : Reply) (answer : Answer) → is_by_entry answer ≡ true → answer ≡ reply_answer r → ⊥
no-reply (replies.Set policy) answer by is = true≢false (sym by ∙ ap is_by_entry is)
no-reply (replies.Is policy) answer by is = true≢false (sym by ∙ ap is_by_entry is)
no-reply replies.Einval answer by is = true≢false (sym by ∙ ap is_by_entry is)

module _ (script : Script) (report : Report) (who : Who) where
  abbrev Caused : Command → Answer → Type 0
  Caused command answer = IsCaused script report who command answer

  abbrev Told : Command → Answer → At → Type 0
  Told command answer at = IsToldAt report.pages who command answer at

  abbrev own_entry : What → Entry
  own_entry what = record { who = who; what = what }

  stands : (at : At) (e : Entry) (what : What) → entry_at report.pages at ≡ Some e → e.who ≡ who → e.what ≡ what → StandsAt report.pages who at what
  stands at e what there own is = there ∙ ap Some (ap (λ (w : Who). record { who = w; what = e.what }) own ∙ ap own_entry is)

  load-stands : (slot : VSlot) (line word : ℕ) (at : At) (w : Who) (what : What) → entry_at report.pages at ≡ Some (record { who = w; what = what }) → w ≡ who → IsLoadOf slot line word what
      → (mask : Mask) × StandsAt report.pages who at (entries.Load slot line (Word mask word))
  load-stands slot line word at w (entries.Load through l (Word mask met)) there own is = (
    mask,
    stands at (record { who = w; what = entries.Load through l (Word mask met) }) (entries.Load slot line (Word mask word)) there own
        (ap (λ (s : VSlot). entries.Load s l (Word mask met)) is.0 ∙ ap (λ (n : ℕ). entries.Load slot n (Word mask met)) is.1 ∙ ap (λ (n : ℕ). entries.Load slot line (Word mask n)) is.2),
  )
  load-stands slot line word at w (entries.Load through l (Sigbus thread)) there own is = absurd is
  load-stands slot line word at w what there own is = absurd is

  store-stands : (slot : VSlot) (line word : ℕ) (at : At) (w : Who) (what : What) → entry_at report.pages at ≡ Some (record { who = w; what = what }) → w ≡ who → IsStoreOf slot line word what
      → (mask : Mask) × StandsAt report.pages who at (entries.Store slot line (Word mask word))
  store-stands slot line word at w (entries.Store through l (Word mask met)) there own is = (
    mask,
    stands at (record { who = w; what = entries.Store through l (Word mask met) }) (entries.Store slot line (Word mask word)) there own
        (ap (λ (s : VSlot). entries.Store s l (Word mask met)) is.0 ∙ ap (λ (n : ℕ). entries.Store slot n (Word mask met)) is.1 ∙ ap (λ (n : ℕ). entries.Store slot line (Word mask n)) is.2),
  )
  store-stands slot line word at w (entries.Store through l (Sigbus thread)) there own is = absurd is
  store-stands slot line word at w what there own is = absurd is

  value-told : (command : Command) (word : ℕ) (at : At) → Caused command (answers.Value word at) → Told command (answers.Value word at) at
  value-told (commands.Load thread slot line) word at h = record { entry = own_entry (entries.Load slot line (Word h.0 word)); there = h.1; own = refl; tells = (refl, refl, refl) }
  value-told (commands.Fetch thread slot line) word at h = record { entry = own_entry (entries.Load slot line (Word h.0 word)); there = h.1; own = refl; tells = (refl, refl, refl) }
  value-told (commands.KLoad thread slot line) word at h = record { entry = own_entry (entries.Load slot line (Word h.0 word)); there = h.1; own = refl; tells = (refl, refl, refl) }
  value-told (commands.Prctl thread args) word at h = absurd (no-reply _ (answers.Value word at) refl h)
  value-told (commands.Inject frame) word at h = absurd h.1
  value-told (commands.Soft frame) word at h = absurd h.1
  value-told command word at h = absurd h

  told-value : (command : Command) (word : ℕ) (at : At) → Told command (answers.Value word at) at → Caused command (answers.Value word at)
  told-value (commands.Load thread slot line) word at t = load-stands slot line word at t.entry.who t.entry.what t.there t.own t.tells
  told-value (commands.Fetch thread slot line) word at t = load-stands slot line word at t.entry.who t.entry.what t.there t.own t.tells
  told-value (commands.KLoad thread slot line) word at t = load-stands slot line word at t.entry.who t.entry.what t.there t.own t.tells
  told-value command word at t = absurd t.tells

  stored-told : (command : Command) (at : At) → Caused command (answers.Stored at) → Told command (answers.Stored at) at
  stored-told (commands.Store thread slot line word) at h = record { entry = own_entry (entries.Store slot line (Word h.0 word)); there = h.1; own = refl; tells = (refl, refl, refl) }
  stored-told (commands.Prctl thread args) at h = absurd (no-reply _ (answers.Stored at) refl h)
  stored-told (commands.Inject frame) at h = absurd h.1
  stored-told (commands.Soft frame) at h = absurd h.1
  stored-told command at h = absurd h

  told-stored : (command : Command) (at : At) → Told command (answers.Stored at) at → Caused command (answers.Stored at)
  told-stored (commands.Store thread slot line word) at t = store-stands slot line word at t.entry.who t.entry.what t.there t.own t.tells
  told-stored command at t = absurd t.tells

  sigbus-told : (command : Command) (at : At) → Caused command (answers.Sigbus at) → Told command (answers.Sigbus at) at
  sigbus-told (commands.Load thread slot line) at h = record { entry = h.entry; there = h.there; own = h.own; tells = h.sends }
  sigbus-told (commands.Fetch thread slot line) at h = record { entry = h.entry; there = h.there; own = h.own; tells = h.sends }
  sigbus-told (commands.KLoad thread slot line) at h = record { entry = h.entry; there = h.there; own = h.own; tells = h.sends }
  sigbus-told (commands.Store thread slot line word) at h = record { entry = h.entry; there = h.there; own = h.own; tells = h.sends }
  sigbus-told (commands.Prctl thread args) at h = absurd (no-reply _ (answers.Sigbus at) refl h)
  sigbus-told (commands.Inject frame) at h = absurd h.1
  sigbus-told (commands.Soft frame) at h = absurd h.1
  sigbus-told command at h = absurd h

  told-sigbus : (command : Command) (at : At) → Told command (answers.Sigbus at) at → Caused command (answers.Sigbus at)
  told-sigbus (commands.Load thread slot line) at t = record { entry = t.entry; there = t.there; own = t.own; sends = t.tells }
  told-sigbus (commands.Fetch thread slot line) at t = record { entry = t.entry; there = t.there; own = t.own; sends = t.tells }
  told-sigbus (commands.KLoad thread slot line) at t = record { entry = t.entry; there = t.there; own = t.own; sends = t.tells }
  told-sigbus (commands.Store thread slot line word) at t = record { entry = t.entry; there = t.there; own = t.own; sends = t.tells }
  told-sigbus command at t = absurd t.tells

  done-told : (command : Command) (at : At) → Caused command (answers.DoneAt at) → Told command (answers.DoneAt at) at
  done-told (commands.Free slot) at h = record { entry = own_entry (entries.Free slot); there = h; own = refl; tells = refl }
  done-told (commands.Drop page) at h = record { entry = own_entry entries.Drop; there = h.1; own = refl; tells = (h.0, refl) }
  done-told (commands.Sync page) at h = record { entry = own_entry entries.Sync; there = h.1; own = refl; tells = (h.0, refl) }
  done-told (commands.Out page) at h = record { entry = own_entry entries.Out; there = h.1; own = refl; tells = (h.0, refl) }
  done-told (commands.Prctl thread args) at h = absurd (no-reply _ (answers.DoneAt at) refl h)
  done-told (commands.Inject frame) at h = absurd h.1
  done-told (commands.Soft frame) at h = absurd h.1
  done-told command at h = absurd h

  told-done : (command : Command) (at : At) → Told command (answers.DoneAt at) at → Caused command (answers.DoneAt at)
  told-done (commands.Free slot) at t = stands at t.entry (entries.Free slot) t.there t.own t.tells
  told-done (commands.Drop page) at t = (t.tells.0, stands at t.entry entries.Drop t.there t.own t.tells.1)
  told-done (commands.Sync page) at t = (t.tells.0, stands at t.entry entries.Sync t.there t.own t.tells.1)
  told-done (commands.Out page) at t = (t.tells.0, stands at t.entry entries.Out t.there t.own t.tells.1)
  told-done command at t = absurd t.tells

  pub caused-told : (command : Command) (answer : Answer) (at : At) → is_by_entry answer ≡ true → entry_named answer ≡ Some at → Caused command answer → Told command answer at
  caused-told command (answers.Value word a) at by named h = subst (λ (x : At). Told command (answers.Value word a) x) (same_Some _ _ named) (value-told command word a h)
  caused-told command (answers.Stored a) at by named h = subst (λ (x : At). Told command (answers.Stored a) x) (same_Some _ _ named) (stored-told command a h)
  caused-told command (answers.Sigbus a) at by named h = subst (λ (x : At). Told command (answers.Sigbus a) x) (same_Some _ _ named) (sigbus-told command a h)
  caused-told command (answers.DoneAt a) at by named h = subst (λ (x : At). Told command (answers.DoneAt a) x) (same_Some _ _ named) (done-told command a h)
  caused-told command answer at by named h = absurd (true≢false (sym by))

  pub told-caused : (command : Command) (answer : Answer) (at : At) → is_by_entry answer ≡ true → entry_named answer ≡ Some at → Told command answer at → Caused command answer
  told-caused command (answers.Value word a) at by named t = told-value command word a (subst (λ (x : At). Told command (answers.Value word a) x) (sym (same_Some _ _ named)) t)
  told-caused command (answers.Stored a) at by named t = told-stored command a (subst (λ (x : At). Told command (answers.Stored a) x) (sym (same_Some _ _ named)) t)
  told-caused command (answers.Sigbus a) at by named t = told-sigbus command a (subst (λ (x : At). Told command (answers.Sigbus a) x) (sym (same_Some _ _ named)) t)
  told-caused command (answers.DoneAt a) at by named t = told-done command a (subst (λ (x : At). Told command (answers.DoneAt a) x) (sym (same_Some _ _ named)) t)
  told-caused command answer at by named t = absurd (true≢false (sym by))
