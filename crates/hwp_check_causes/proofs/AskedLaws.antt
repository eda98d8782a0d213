-- An answer that says what state a page was in has its cause where the command can have it, and the page was in such a state.
use Rattle.std.proofs.Common.{◌≡◌, true, None, Some, sym, subst, true≢false}
use Rattle.std.proofs.lemmas.Option.{none-some, same_Some}
use Rattle.hwp_check_evidence.specs.hwp_geom.declared.Who.{Who}
use Rattle.hwp_check_evidence.specs.hwp_page.declared.At.{At}
use Rattle.hwp_check_evidence.specs.hwp_script_words.declared.Command.{Command}
use Rattle.hwp_check_evidence.specs.hwp_script_words.declared.Command.TheVariants as commands
use Rattle.hwp_check_evidence.specs.hwp_script_words.declared.Script.{Script}
use Rattle.hwp_check_evidence.specs.hwp_report_text.declared.Answer.{Answer}
use Rattle.hwp_check_evidence.specs.hwp_report_text.declared.Answer.TheVariants as answers
use Rattle.hwp_check_evidence.specs.hwp_report_text.declared.Report.{Report}
use Rattle.hwp_check_evidence.specs.hwp_law.Causes.{IsCaused}
use Rattle.hwp_check_evidence.specs.hwp_law.States.{state_named}
use Rattle.hwp_check_causes.specs.Asking.{IsAsked, is_by_state}

-- such an answer names a state
pub names_none : (answer : Answer) → is_by_state answer ≡ true → state_named answer ≡ None → ⊥
names_none (answers.NotResident at) by none = none-some at (sym none)
names_none (answers.NotMapped at) by none = none-some at (sym none)
names_none (answers.Dirty at) by none = none-some at (sym none)
names_none (answers.Mapped at) by none = none-some at (sym none)
names_none (answers.Locked at) by none = none-some at (sym none)
names_none answer by none = true≢false (sym by)

module _ (script : Script) (report : Report) (who : Who) where
  abbrev Caused : Command → Answer → Type 0
  Caused command answer = IsCaused script report who command answer

  abbrev Asked : Command → Answer → At → Type 0
  Asked command answer at = IsAsked script report command answer at

  away_caused : (command : Command) (at : At) → Asked command (answers.NotResident at) at → Caused command (answers.NotResident at)
  away_caused (commands.Drop page) at h = h
  away_caused (commands.Sync page) at h = h
  away_caused (commands.Out page) at h = h
  away_caused command at h = absurd h.0

  unmapped_caused : (command : Command) (at : At) → Asked command (answers.NotMapped at) at → Caused command (answers.NotMapped at)
  unmapped_caused (commands.Free slot) at h = h
  unmapped_caused command at h = absurd h.0

  dirty_caused : (command : Command) (at : At) → Asked command (answers.Dirty at) at → Caused command (answers.Dirty at)
  dirty_caused (commands.Drop page) at h = h
  dirty_caused command at h = absurd h.0

  mapped_caused : (command : Command) (at : At) → Asked command (answers.Mapped at) at → Caused command (answers.Mapped at)
  mapped_caused (commands.Drop page) at h = h
  mapped_caused command at h = absurd h.0

  locked_caused : (command : Command) (at : At) → Asked command (answers.Locked at) at → Caused command (answers.Locked at)
  locked_caused (commands.Drop page) at h = h
  locked_caused (commands.Out page) at h = h
  locked_caused command at h = absurd h.0

  pub asked_caused : (command : Command) (answer : Answer) (at : At) → is_by_state answer ≡ true → state_named answer ≡ Some at → Asked command answer at → Caused command answer
  asked_caused command (answers.NotResident a) at by named h = away_caused command a (subst (λ (x : At). Asked command (answers.NotResident a) x) (sym (same_Some _ _ named)) h)
  asked_caused command (answers.NotMapped a) at by named h = unmapped_caused command a (subst (λ (x : At). Asked command (answers.NotMapped a) x) (sym (same_Some _ _ named)) h)
  asked_caused command (answers.Dirty a) at by named h = dirty_caused command a (subst (λ (x : At). Asked command (answers.Dirty a) x) (sym (same_Some _ _ named)) h)
  asked_caused command (answers.Mapped a) at by named h = mapped_caused command a (subst (λ (x : At). Asked command (answers.Mapped a) x) (sym (same_Some _ _ named)) h)
  asked_caused command (answers.Locked a) at by named h = locked_caused command a (subst (λ (x : At). Asked command (answers.Locked a) x) (sym (same_Some _ _ named)) h)
  asked_caused command answer at by named h = absurd (true≢false (sym by))
