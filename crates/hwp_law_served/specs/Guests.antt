-- What the rows of a processor say of guests, by the commands of its list: which accesses weren't admitted, and which guests were told of one
-- that was answered by SIGBUS.
use Rattle.std.specs.Prelude.{◌≡◌, ◌≢◌, ◌⊎◌, ℕ, List, [], Option, Some, None, map, option_to_list, slice_get, take}
use Rattle.hwp_law.specs.hwp_geom.declared.Cpu.{Cpu}
use Rattle.hwp_law.specs.hwp_geom.declared.Layout.{Layout}
use Rattle.hwp_law.specs.hwp_geom.declared.Who.{Who}
use Rattle.hwp_plain.specs.hwp_core_rule.declared.View.{View}
use Rattle.hwp_plain.specs.hwp_core_rule.Known.{HasMadeNone}
use Rattle.hwp_law.specs.hwp_script_words.declared.Command.{Command}
use Rattle.hwp_law.specs.hwp_report_text.declared.Answer.{Answer}
use Rattle.hwp_law.specs.hwp_report_text.declared.Answer.TheVariants as answers
use Rattle.hwp_cpu_row.specs.declared.Row.{Row}
use Rattle.hwp_cpu_row.specs.hwp_law.GuestRule.{denied, guest_lines}
use Rattle.hwp_law_served.specs.Handles.{answers_by}
use Rattle.hwp_law_served.specs.Rows.{guest_at}

-- the thread's process had ended, which no history of a guest's process says: its threads have handlers
abbrev pub SaysGone : Answer → Type 0
SaysGone (answers.Gone page) = Unit {0}
SaysGone answer = ⊥

-- the guest didn't admit the access: the answer is the one that is due, or one of the machine, and the command made no entry and told nothing
pub record IsDenialServed (view : View) (who : Who) (due : Answer) (row : Row) : Type 0 where
  pub answered : (row.answer ≡ due) ⊎ ((row.answer ≡ answers.Stopped) ⊎ SaysGone row.answer)
  pub made : HasMadeNone view who
  pub untold : row.told ≡ []

-- no other row has an answer of a guest
pub record IsAdmissionServed (row : Row) : Type 0 where
  pub not_bad : row.answer ≢ answers.GuestBad
  pub not_stopped : row.answer ≢ answers.GuestStopped

-- by the answer that is due where a guest doesn't admit the access
abbrev pub IsDeniedRow : View → Who → Option Answer → Row → Type 0
IsDeniedRow view who (Some due) row = IsDenialServed view who due row
IsDeniedRow view who None row = IsAdmissionServed row

-- the row of a command, behind these with their answers
pub record IsGuestRow (layout : Layout) (earlier : List (Command × Answer)) (view : View) (who : Who) (command : Command) (row : Row) : Type 0 where
  pub admits : IsDeniedRow view who (denied layout earlier command) row
  pub told : map (guest_at who.seq) (option_to_list row.guest) ≡ guest_lines layout who.seq command row.answer

-- each row is so
abbrev pub KnowsGuests : Layout → View → Cpu → List Command → List Row → Type 0
KnowsGuests layout view cpu list rows =
    (i : ℕ) (command : Command) (row : Row) → slice_get list i ≡ Some command → slice_get rows i ≡ Some row
    → IsGuestRow layout (take i (answers_by list rows)) view (record { cpu = cpu; seq = i }) command row
