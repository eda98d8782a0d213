-- What accesses of a guest make behind a machine check of the guest.
use Rattle.std.specs.Prelude.{◌≡◌, ◌≢◌, Some}
use Rattle.hwp_law_served.specs.hwp_geom.declared.Mode.TheVariants.{Kernel}
use Rattle.hwp_law_served.specs.hwp_geom.declared.Who.{Who}
use Rattle.hwp_law_served.specs.hwp_page.declared.At.{At}
use Rattle.hwp_law_served.specs.hwp_page.declared.Entry.{Entry}
use Rattle.hwp_law_served.specs.hwp_page.Orders.{IsEarlier}
use Rattle.hwp_law_served.specs.hwp_script_words.declared.Command.{Command}
use Rattle.hwp_law_served.specs.hwp_script_words.declared.Script.{Script}
use Rattle.hwp_law_served.specs.hwp_report_text.declared.Answer.TheVariants.{Sigbus}
use Rattle.hwp_law_served.specs.hwp_report_text.declared.Report.{Report}
use Rattle.hwp_law_served.specs.hwp_law.Commands.{command_at}
use Rattle.hwp_law_served.specs.hwp_law.declared.GuestAccess.{GuestAccess}
use Rattle.hwp_law_served.specs.hwp_law.GuestRule.{guest_access}
use Rattle.hwp_law_served.specs.hwp_law.Copies.{slot_in}
use Rattle.hwp_law_served.specs.hwp_law.Lines.{answer_of}
use Rattle.hwp_law_served.specs.hwp_law.Places.{entry_at}

-- the command is this access of a guest
pub record IsGuestsAccess (script : Script) (who : Who) (a : GuestAccess) : Type 0 where
  pub command : Command
  pub command_is : command_at script who ≡ Some command
  pub access_is : guest_access script.layout command ≡ Some a

-- the command is this access of a guest, and it was a machine check of the guest: it was answered by SIGBUS
pub record IsGuestsCheck (script : Script) (report : Report) (who : Who) (a : GuestAccess) : Type 0 where
  pub access : IsGuestsAccess script who a
  pub place : At
  pub answered : answer_of report who ≡ Some (Sigbus place)

-- the entry of the report is one that an access of a guest made, behind a machine check of the same guest
pub record IsBehindCheck (script : Script) (report : Report) (check access : GuestAccess) (e : Entry) : Type 0 where
  pub before : Who
  pub earlier : IsEarlier before e.who
  pub checked : IsGuestsCheck script report before check
  pub accessed : IsGuestsAccess script e.who access
  pub same_guest : access.process ≡ check.process
  pub at : At
  pub there : entry_at report.pages at ≡ Some e

-- Behind a machine check of a guest no entry of the guest's accesses, in whatever page, is through the guest frame on which it came: the
-- translation that the answered access named. Behind one in kernel mode, which stopped the guest, they make no entry at all.
pub record AreBadFramesLeft (script : Script) (report : Report) : Type 0 where
  pub unnamed : (check access : GuestAccess) (e : Entry) → IsBehindCheck script report check access e → slot_in e.what ≢ Some check.slot
  pub stopped : (check access : GuestAccess) (e : Entry) → IsBehindCheck script report check access e → check.mode ≢ Kernel
