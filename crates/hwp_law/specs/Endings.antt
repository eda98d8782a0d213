-- Processes that a signal ended.
use Rattle.std.specs.Prelude.{◌≡◌, ◌⊎◌, true, Some}
use Rattle.hwp_script_words.specs.hwp_geom.declared.Page.{Page}
use Rattle.hwp_script_words.specs.hwp_geom.declared.Proc.{Proc}
use Rattle.hwp_script_words.specs.hwp_geom.declared.Who.{Who}
use Rattle.hwp_report_text.specs.hwp_page.declared.At.{At}
use Rattle.hwp_report_text.specs.hwp_page.declared.Entry.{Entry}
use Rattle.hwp_report_text.specs.hwp_page.Endings.{is_ending}
use Rattle.hwp_report_text.specs.hwp_page.Orders.{IsEarlier, IsNotLater}
use Rattle.hwp_script_words.specs.declared.Script.{Script}
use Rattle.hwp_report_text.specs.declared.Answer.{Answer}
use Rattle.hwp_report_text.specs.declared.Answer.TheVariants as answers
use Rattle.hwp_report_text.specs.declared.Report.{Report}
use Rattle.hwp_law.specs.Commands.{process_at}
use Rattle.hwp_law.specs.Lines.{answer_of}
use Rattle.hwp_law.specs.Places.{entry_at}

-- the history of the page has an ending signal of the process, of no later command of the processor
pub record HasEnding (script : Script) (report : Report) (who : Who) (process : Proc) (page : Page) : Type 0 where
  pub at : At
  pub entry : Entry
  pub there : entry_at report.pages at ≡ Some entry
  pub page_is : at.page ≡ page
  pub ending : is_ending script.layout process entry.what ≡ true
  pub not_later : IsNotLater entry.who who

-- the command was answered that the process whose thread makes it had ended: so it had, in the page that the answer names
pub record IsGone (script : Script) (report : Report) (who : Who) (page : Page) : Type 0 where
  pub process : Proc
  pub process_is : process_at script who ≡ Some process
  pub ending : HasEnding script report who process page

-- the command made an ending signal of the process
pub record HasEnded (script : Script) (report : Report) (who : Who) (process : Proc) : Type 0 where
  pub at : At
  pub entry : Entry
  pub there : entry_at report.pages at ≡ Some entry
  pub own : entry.who ≡ who
  pub ending : is_ending script.layout process entry.what ≡ true

-- the command was answered `gone`
pub record WasGone (script : Script) (report : Report) (who : Who) (process : Proc) : Type 0 where
  pub process_is : process_at script who ≡ Some process
  pub page : Page
  pub answered : answer_of report who ≡ Some (answers.Gone page)

-- the answer of a command whose process had ended
abbrev pub IsOver : Answer → Type 0
IsOver (answers.Gone page) = Unit {0}
IsOver answers.Stopped = Unit {0}
IsOver _ = ⊥

-- after a command that ended a process, or was answered that it had ended, the processor's later commands of its threads are
-- answered so too
abbrev pub EndingsStay : Script → Report → Type 0
EndingsStay script report =
    (who later : Who) (process : Proc) (answer : Answer) → (HasEnded script report who process ⊎ WasGone script report who process) → IsEarlier who later → process_at script later ≡ Some process
    → answer_of report later ≡ Some answer → IsOver answer
