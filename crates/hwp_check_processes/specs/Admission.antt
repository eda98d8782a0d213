-- Whether a guest admits an access, by the earlier commands of its processor with their answers.
use Rattle.std.specs.Prelude.{◌≡◌, ℕ, ◌<◌, ◌==◌, ◌&&◌, Bool, false, List, Option, Some, None, length, slice_get, slice_index_or, take}
use Rattle.std.specs.Option.{option_map_or}
use Rattle.hwp_check_rules.specs.hwp_guest.declared.Admit.{Admit}
use Rattle.hwp_check_rules.specs.hwp_guest.declared.Admit.TheVariants as admissions
use Rattle.hwp_check_rules.specs.hwp_guest.GuestState.{admitted}
use Rattle.hwp_check_rules.specs.hwp_geom.declared.Layout.{Layout}
use Rattle.hwp_check_rules.specs.hwp_geom.declared.Mode.{Mode}
use Rattle.hwp_check_rules.specs.hwp_geom.declared.Mode.TheVariants as modes
use Rattle.hwp_check_rules.specs.hwp_geom.declared.Proc.{Proc}
use Rattle.hwp_check_rules.specs.hwp_geom.declared.VSlot.{VSlot}
use Rattle.hwp_check_rules.specs.hwp_script_words.declared.Command.{Command}
use Rattle.hwp_check_rules.specs.hwp_report_text.declared.Answer.{Answer}
use Rattle.hwp_check_rules.specs.hwp_report_text.declared.Answer.TheVariants as answers
use Rattle.hwp_check_rules.specs.hwp_law.declared.GuestAccess.{GuestAccess}
use Rattle.hwp_check_rules.specs.hwp_law.GuestRule.{denial, denied, guest_access, guest_of}

-- the access of a command with this answer, where it was one of a guest that SIGBUS answered
abbrev pub sigbus_by : Layout → Command × Answer → Option GuestAccess
sigbus_by layout (command, answers.Sigbus at) = guest_access layout command
sigbus_by layout p = None

-- the access is one of the guest in kernel mode, or one through the translation in user mode
abbrev pub is_stop_in : Mode → Bool → Bool
is_stop_in modes.User own = false
is_stop_in modes.Kernel own = own

abbrev pub is_spoil_in : Mode → Bool → Bool
is_spoil_in modes.User own = own
is_spoil_in modes.Kernel own = false

abbrev pub is_stop_by : Proc → GuestAccess → Bool
is_stop_by process a = is_stop_in a.mode (a.process.0 == process.0)

abbrev pub is_spoil_by : Proc → VSlot → GuestAccess → Bool
is_spoil_by process slot a = is_spoil_in a.mode ((a.process.0 == process.0) && (a.slot.0 == slot.0))

-- a command with this answer stopped the guest, or made this frame of it bad
abbrev pub is_stop : Layout → Proc → Command × Answer → Bool
is_stop layout process p = option_map_or (is_stop_by process) (sigbus_by layout p) false

abbrev pub is_spoil : Layout → Proc → VSlot → Command × Answer → Bool
is_spoil layout process slot p = option_map_or (is_spoil_by process slot) (sigbus_by layout p) false

-- whether the guest admits the access
abbrev pub admission_of : Layout → List (Command × Answer) → GuestAccess → Admit
admission_of layout earlier a = admitted (guest_of layout earlier a.process) a.slot.0

-- of the first n commands each is admitted or not, by the commands before it
pub record AreAdmissions (layout : Layout) (commands : List Command) (pairs : List (Command × Answer)) (n : ℕ) (admits : List Admit) : Type 0 where
  pub many : length admits ≡ n
  pub each : (seq : ℕ) (command : Command) → seq < n → slice_get commands seq ≡ Some command → denial (slice_index_or admits seq admissions.Yes) ≡ denied layout (take seq pairs) command
