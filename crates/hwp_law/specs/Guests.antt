-- The accesses of guests: which answers say that one wasn't admitted, and which lines tell a guest of one that was answered by SIGBUS. They are
-- read of the script's own commands, not of those that are acted on.
use Rattle.std.specs.Prelude.{◌≡◌, ◌≢◌, ◌⊎◌, List, [], Option, Some, None}
use Rattle.hwp_script_words.specs.hwp_geom.declared.Layout.{Layout}
use Rattle.hwp_script_words.specs.hwp_geom.declared.Who.{Who}
use Rattle.hwp_report_text.specs.hwp_page.declared.At.{At}
use Rattle.hwp_report_text.specs.hwp_page.declared.Entry.{Entry}
use Rattle.hwp_script_words.specs.declared.Command.{Command}
use Rattle.hwp_script_words.specs.declared.Script.{Script}
use Rattle.hwp_report_text.specs.declared.Answer.{Answer}
use Rattle.hwp_report_text.specs.declared.Answer.TheVariants as answers
use Rattle.hwp_report_text.specs.declared.Report.{Report}
use Rattle.hwp_law.specs.Commands.{command_at}
use Rattle.hwp_law.specs.GuestRule.{denied, guest_lines}
use Rattle.hwp_law.specs.Lines.{answer_of, events_of, guests_told}
use Rattle.hwp_law.specs.Places.{entry_at}
use Rattle.hwp_law.specs.Policies.{answered_before}

-- the command has no entry and no event
pub record DoesNothing (report : Report) (who : Who) : Type 0 where
  pub unmade : (at : At) (e : Entry) → entry_at report.pages at ≡ Some e → e.who ≢ who
  pub untold : events_of report who ≡ []

-- what a command's answer says of its guest, by the answer that is due where the guest doesn't admit the access: that one, or `stopped`, and
-- the command does nothing. No other command answers so
abbrev pub IsDenied : Report → Who → Option Answer → Type 0
IsDenied report who (Some answer) = ((answer_of report who ≡ Some answer) ⊎ (answer_of report who ≡ Some answers.Stopped)) × DoesNothing report who
IsDenied report who None = (answer_of report who ≢ Some answers.GuestBad) × (answer_of report who ≢ Some answers.GuestStopped)

-- each access of a guest is answered as the guest admits it, and the guest is told of each that was answered by SIGBUS
pub record AreGuestsKept (script : Script) (report : Report) : Type 0 where
  pub kept : (who : Who) (command : Command) → command_at script who ≡ Some command → IsDenied report who (denied script.layout (answered_before script report who) command)
  pub told : (who : Who) (command : Command) (answer : Answer) → command_at script who ≡ Some command → answer_of report who ≡ Some answer
      → guests_told report who ≡ guest_lines script.layout who.seq command answer
