-- An answer is wrong by its window, or by the end of its process, exactly where what is known says so.
use Rattle.std.proofs.Common.{◌≡◌, ◌⊎◌, ◌↔◌, ◌<◌, ◌||◌, inl, inr, Bool, true, false, not, List, Option, Some, None, IsTrue, get_or, length, refl, sym, ◌∙◌, subst, true≢false}
use Rattle.std.specs.List.{list_any}
use Rattle.std.proofs.lemmas.Bool.{false_from_ne_true}
use Rattle.std.proofs.lemmas.Option.{none-some, same_Some, slice_get_within}
use Rattle.hwp_check_evidence.specs.hwp_geom.declared.Proc.{Proc}
use Rattle.hwp_check_evidence.specs.hwp_geom.declared.Who.{Who}
use Rattle.hwp_check_evidence.specs.hwp_geom.declared.Mask.{Mask}
use Rattle.hwp_check_evidence.specs.hwp_page.declared.At.{At}
use Rattle.hwp_check_evidence.specs.hwp_page.declared.PageState.{PageState}
use Rattle.hwp_check_evidence.specs.hwp_script_words.declared.Command.{Command}
use Rattle.hwp_check_evidence.specs.hwp_script_words.declared.Command.TheVariants as commands
use Rattle.hwp_check_evidence.specs.hwp_script_words.declared.Script.{Script}
use Rattle.hwp_check_evidence.specs.hwp_report_text.declared.Answer.{Answer}
use Rattle.hwp_check_evidence.specs.hwp_report_text.declared.Answer.TheVariants as answers
use Rattle.hwp_check_evidence.specs.hwp_report_text.declared.CpuLine.{CpuLine}
use Rattle.hwp_check_evidence.specs.hwp_report_text.declared.Report.{Report}
use Rattle.hwp_check_evidence.specs.hwp_law.Commands.{process_at}
use Rattle.hwp_check_evidence.specs.hwp_law.Endings.{IsOver}
use Rattle.hwp_check_evidence.specs.hwp_law.Causes.{IsCaused}
use Rattle.hwp_check_evidence.specs.hwp_law.Lines.{rows_of}
use Rattle.hwp_check_evidence.specs.hwp_law.States.{HadState, IsInWindow, state_named}
use Rattle.hwp_check_evidence.specs.Ends.{HadEnded}
use Rattle.hwp_check_evidence.specs.Firsts.{is_at, is_named, is_noted, names_beside}
use Rattle.hwp_check_evidence.specs.Named.{HasOther}
use Rattle.hwp_check_rules.specs.AnswerFaults.{IsOutside, IsRevived, IsUnnamed}
use Rattle.hwp_check_rules.specs.Answered.{IsRight}
use Rattle.hwp_check_causes.specs.Asking.{IsSo, is_by_state}
use Rattle.hwp_check_causes.specs.Causing.{MetBadLines}
use Rattle.hwp_check_answers.specs.Judging.{HadGone, IsNaming}
use Rattle.hwp_check_answers.specs.declared.judging.Naming.{Naming}
use Rattle.hwp_check_evidence.proofs.NamedLaws.{at-is, named-at}
use Rattle.hwp_check_evidence.proofs.NameLaws.{beside-some, some-beside}
use Rattle.hwp_check_causes.proofs.AskLaws.{caused-asked}
use Rattle.hwp_check_causes.proofs.CauseLaws.{caused_lines}
use Rattle.hwp_check_evidence.specs.hwp_geom.declared.VSlot.{VSlot}

module _ (script : Script) (report : Report) (later : Who) (answer : Answer) where
  abbrev WasOver : Proc → Type 0
  WasOver process = HadEnded script report later process ⊎ HadGone script report later process

  pub revived_is : (process : Proc) → process_at script later ≡ Some process → (IsOver answer → ⊥) → WasOver process → IsRevived script report later answer
  revived_is process is wrong (inl h) = record { who = h.who; process = process; ended = inl h.ended; before = h.before; process_is = is; wrong = wrong }
  revived_is process is wrong (inr h) = record { who = h.who; process = process; ended = inr h.gone; before = h.before; process_is = is; wrong = wrong }

  pub is_revived : (process : Proc) → process_at script later ≡ Some process → IsRevived script report later answer → WasOver process
  is_revived process is r = elim r.ended [
    | inl ended ↦ inl (subst (HadEnded script report later) same (record { who = r.who; ended = ended; before = r.before }))
    | inr gone ↦ inr (subst (HadGone script report later) same (record { who = r.who; gone = gone; before = r.before }))
  ]
    where
      same : r.process ≡ process
      same = same_Some _ _ (sym r.process_is ∙ is)

  pub no_process : process_at script later ≡ None → IsRevived script report later answer → ⊥
  no_process none r = none-some r.process (sym none ∙ r.process_is)

module _ (report : Report) (before : List CpuLine) (who : Who) (answer : Answer) where
  pub outside_is : (at : At) (r : Bool) → state_named answer ≡ Some at → IsTrue r ↔ IsInWindow report.pages before who at → IsTrue (not r) → IsOutside report before who answer
  outside_is at true named tells t = absurd (true≢false (sym t))
  outside_is at false named tells t = record { at = at; names = named; outside = λ window. true≢false (sym (tells.1 window)) }

  pub inside_is : (at : At) (r : Bool) → state_named answer ≡ Some at → IsTrue r ↔ IsInWindow report.pages before who at → IsOutside report before who answer → IsTrue (not r)
  inside_is at true named tells o = absurd (o.outside (subst (IsInWindow report.pages before who) (same_Some _ _ (sym named ∙ o.names)) (tells.0 refl)))
  inside_is at false named tells o = refl

  pub no_place : state_named answer ≡ None → IsOutside report before who answer → ⊥
  no_place none o = none-some o.at (sym none ∙ o.names)

or-left : (a b : Bool) → (a || b) ≡ false → a ≡ false
or-left true b none = absurd (true≢false none)
or-left false b none = refl

or-right : (a b : Bool) → (a || b) ≡ false → b ≡ false
or-right true b none = absurd (true≢false none)
or-right false b none = none

or-none : (a b : Bool) → a ≡ false → b ≡ false → (a || b) ≡ false
or-none true b one other = absurd (true≢false one)
or-none false b one other = other

module _ (copies : Who → Option VSlot) (report : Report) (who : Who) (answer : Answer) (naming : Naming) (known : IsNaming copies report who answer naming) where
  abbrev place : Option At
  place = get_or naming.names.answers.items who.seq None

  pub unnamed_is : HasOther report.pages copies who (is_named naming.names who.seq) → IsUnnamed copies report who answer
  unnamed_is h = record {
    at = h.at;
    entry = h.entry;
    there = h.there;
    own = h.own;
    answering = h.answering;
    other = λ same. true≢false (sym (named-at place h.at (known.named ∙ same)) ∙ or-left (is_at place h.at) (is_noted naming.names.beside who.seq h.at) h.other);
    beside = λ row line there own names.
        true≢false (sym (beside-some who.seq h.at (rows_of report who) row line there own names) ∙ sym (known.beside h.at) ∙ or-right (is_at place h.at) (is_noted naming.names.beside who.seq h.at) h.other);
  }

  pub is_unnamed : IsUnnamed copies report who answer → HasOther report.pages copies who (is_named naming.names who.seq)
  is_unnamed u = record {
    at = u.at;
    entry = u.entry;
    there = u.there;
    own = u.own;
    answering = u.answering;
    other = or-none (is_at place u.at) (is_noted naming.names.beside who.seq u.at) (false_from_ne_true (is_at place u.at) (λ is. u.other (sym known.named ∙ at-is place u.at is)))
        (known.beside u.at ∙ false_from_ne_true (list_any (names_beside who.seq u.at) (rows_of report who)) (λ any. let b = some-beside who.seq u.at (rows_of report who) any in u.beside b.i b.line b.there b.own b.names));
  }

-- an answer that says what state a page was in, and has its cause, names a page of the report
module _ (script : Script) (report : Report) (who : Who) (command : Command) where
  page-there : (at : At) (P : PageState → Type 0) → HadState script.layout report.pages at P → at.page.0 < length report.pages
  page-there at P had = slice_get_within report.pages at.page.0 had.entries had.there

  met-there : (c : Command) (mask : Mask) (at : At) → MetBadLines script report c mask at → at.page.0 < length report.pages
  met-there (commands.Sync page) mask at h = page-there at (λ s. s.cached ≡ true) h.1.cached
  met-there (commands.Out page) mask at h = page-there at (λ s. s.cached ≡ true) h.1.1.cached
  met-there c mask at h = absurd h

  asked : (answer : Answer) (at : At) → is_by_state answer ≡ true → state_named answer ≡ Some at → IsCaused script report who command answer → at.page.0 < length report.pages
  asked answer at by named caused = page-there at (IsSo command answer) (caused-asked script report who command answer at by named caused).1

  caused-there : (answer : Answer) (at : At) → state_named answer ≡ Some at → IsCaused script report who command answer → at.page.0 < length report.pages
  caused-there (answers.BadLines mask a) at named caused = subst (λ (x : At). x.page.0 < length report.pages) (same_Some _ _ named) (met-there command mask a (caused_lines script report who command mask a caused))
  caused-there (answers.NotResident a) at named caused = asked (answers.NotResident a) at refl named caused
  caused-there (answers.NotMapped a) at named caused = asked (answers.NotMapped a) at refl named caused
  caused-there (answers.Dirty a) at named caused = asked (answers.Dirty a) at refl named caused
  caused-there (answers.Mapped a) at named caused = asked (answers.Mapped a) at refl named caused
  caused-there (answers.Locked a) at named caused = asked (answers.Locked a) at refl named caused
  caused-there answer at named caused = absurd (none-some at named)

  pub right_there : (answer : Answer) → IsRight script report who command answer → (at : At) → state_named answer ≡ Some at → at.page.0 < length report.pages
  right_there answer right at named = caused-there answer at named right.shown
