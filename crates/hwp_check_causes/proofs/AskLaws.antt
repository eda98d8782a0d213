-- An answer that says what state a page was in has its cause exactly where the command can have it, and the page was in such a state.
use Rattle.std.proofs.Common.{◌≡◌, true, Some, refl, sym, ap, ◌∙◌, subst, true≢false}
use Rattle.std.proofs.lemmas.Option.{same_Some}
use Rattle.hwp_check_evidence.specs.hwp_geom.declared.Who.{Who}
use Rattle.hwp_check_evidence.specs.hwp_kill.declared.Reply.{Reply}
use Rattle.hwp_check_evidence.specs.hwp_kill.declared.Reply.TheVariants as replies
use Rattle.hwp_check_evidence.specs.hwp_page.declared.At.{At}
use Rattle.hwp_check_evidence.specs.hwp_script_words.declared.Command.{Command}
use Rattle.hwp_check_evidence.specs.hwp_script_words.declared.Command.TheVariants as commands
use Rattle.hwp_check_evidence.specs.hwp_script_words.declared.Script.{Script}
use Rattle.hwp_check_evidence.specs.hwp_report_text.declared.Answer.{Answer}
use Rattle.hwp_check_evidence.specs.hwp_report_text.declared.Answer.TheVariants as answers
use Rattle.hwp_check_evidence.specs.hwp_report_text.declared.Report.{Report}
use Rattle.hwp_check_evidence.specs.hwp_law.Outcomes.{reply_answer}
use Rattle.hwp_check_evidence.specs.hwp_law.Causes.{IsCaused}
use Rattle.hwp_check_evidence.specs.hwp_law.States.{state_named}
use Rattle.hwp_check_causes.specs.Asking.{IsAsked, is_by_state}

-- no reply of prctl(2) is so
no-reply : (r : Reply) (answer : Answer) → is_by_state answer ≡ true → answer ≡ reply_answer r → ⊥
no-reply (replies.Set policy) answer by is = true≢false (sym by ∙ ap is_by_state is)
no-reply (replies.Is policy) answer by is = true≢false (sym by ∙ ap is_by_state is)
no-reply replies.Einval answer by is = true≢false (sym by ∙ ap is_by_state is)

module _ (script : Script) (report : Report) (who : Who) where
  abbrev Caused : Command → Answer → Type 0
  Caused command answer = IsCaused script report who command answer

  abbrev Asked : Command → Answer → At → Type 0
  Asked command answer at = IsAsked script report command answer at

  away-asked : (command : Command) (at : At) → Caused command (answers.NotResident at) → Asked command (answers.NotResident at) at
  away-asked (commands.Drop page) at h = h
  away-asked (commands.Sync page) at h = h
  away-asked (commands.Out page) at h = h
  away-asked (commands.Prctl thread args) at h = absurd (no-reply _ (answers.NotResident at) refl h)
  away-asked (commands.Inject frame) at h = absurd h.1
  away-asked (commands.Soft frame) at h = absurd h.1
  away-asked command at h = absurd h

  unmapped-asked : (command : Command) (at : At) → Caused command (answers.NotMapped at) → Asked command (answers.NotMapped at) at
  unmapped-asked (commands.Free slot) at h = h
  unmapped-asked (commands.Prctl thread args) at h = absurd (no-reply _ (answers.NotMapped at) refl h)
  unmapped-asked (commands.Inject frame) at h = absurd h.1
  unmapped-asked (commands.Soft frame) at h = absurd h.1
  unmapped-asked command at h = absurd h

  dirty-asked : (command : Command) (at : At) → Caused command (answers.Dirty at) → Asked command (answers.Dirty at) at
  dirty-asked (commands.Drop page) at h = h
  dirty-asked (commands.Prctl thread args) at h = absurd (no-reply _ (answers.Dirty at) refl h)
  dirty-asked (commands.Inject frame) at h = absurd h.1
  dirty-asked (commands.Soft frame) at h = absurd h.1
  dirty-asked command at h = absurd h

  mapped-asked : (command : Command) (at : At) → Caused command (answers.Mapped at) → Asked command (answers.Mapped at) at
  mapped-asked (commands.Drop page) at h = h
  mapped-asked (commands.Prctl thread args) at h = absurd (no-reply _ (answers.Mapped at) refl h)
  mapped-asked (commands.Inject frame) at h = absurd h.1
  mapped-asked (commands.Soft frame) at h = absurd h.1
  mapped-asked command at h = absurd h

  locked-asked : (command : Command) (at : At) → Caused command (answers.Locked at) → Asked command (answers.Locked at) at
  locked-asked (commands.Drop page) at h = h
  locked-asked (commands.Out page) at h = h
  locked-asked (commands.Prctl thread args) at h = absurd (no-reply _ (answers.Locked at) refl h)
  locked-asked (commands.Inject frame) at h = absurd h.1
  locked-asked (commands.Soft frame) at h = absurd h.1
  locked-asked command at h = absurd h

  pub caused-asked : (command : Command) (answer : Answer) (at : At) → is_by_state answer ≡ true → state_named answer ≡ Some at → Caused command answer → Asked command answer at
  caused-asked command (answers.NotResident a) at by named h = subst (λ (x : At). Asked command (answers.NotResident a) x) (same_Some _ _ named) (away-asked command a h)
  caused-asked command (answers.NotMapped a) at by named h = subst (λ (x : At). Asked command (answers.NotMapped a) x) (same_Some _ _ named) (unmapped-asked command a h)
  caused-asked command (answers.Dirty a) at by named h = subst (λ (x : At). Asked command (answers.Dirty a) x) (same_Some _ _ named) (dirty-asked command a h)
  caused-asked command (answers.Mapped a) at by named h = subst (λ (x : At). Asked command (answers.Mapped a) x) (same_Some _ _ named) (mapped-asked command a h)
  caused-asked command (answers.Locked a) at by named h = subst (λ (x : At). Asked command (answers.Locked a) x) (same_Some _ _ named) (locked-asked command a h)
  caused-asked command answer at by named h = absurd (true≢false (sym by))
