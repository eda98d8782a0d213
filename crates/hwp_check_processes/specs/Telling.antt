-- Guests' lines: of which accesses a guest has to be told, and which line is that of one.
use Rattle.std.specs.Prelude.{ℕ, ◌==◌, ◌&&◌, Bool, false, not, Option, None}
use Rattle.std.specs.Option.{option_map_or}
use Rattle.hwp_check_rules.specs.hwp_guest.Guests.{guest_frame, origin_of}
use Rattle.hwp_check_rules.specs.hwp_geom.declared.Layout.{Layout}
use Rattle.hwp_check_rules.specs.hwp_geom.declared.Mode.{Mode}
use Rattle.hwp_check_rules.specs.hwp_geom.declared.Mode.TheVariants as modes
use Rattle.hwp_check_rules.specs.hwp_banks.Addresses.{line_address}
use Rattle.hwp_check_rules.specs.hwp_banks.Events.{line_misc, own_status}
use Rattle.hwp_check_rules.specs.hwp_script_words.declared.Command.{Command}
use Rattle.hwp_check_rules.specs.hwp_report_text.declared.Answer.{Answer}
use Rattle.hwp_check_rules.specs.hwp_report_text.declared.Answer.TheVariants as answers
use Rattle.hwp_check_rules.specs.hwp_report_text.declared.CpuLine.{CpuLine}
use Rattle.hwp_check_rules.specs.hwp_report_text.declared.CpuLine.TheVariants as lines
use Rattle.hwp_check_rules.specs.hwp_report_text.declared.GuestLine.{GuestLine}
use Rattle.hwp_check_rules.specs.hwp_law.declared.GuestAccess.{GuestAccess}
use Rattle.hwp_check_rules.specs.hwp_law.GuestRule.{guest_access}

-- the line has the event of the access, and what the guest makes of it
abbrev pub has_event : GuestAccess → GuestLine → Bool
has_event a line =
    (line.bank == 0) && ((line.status == own_status (origin_of a.kind)) && ((line.addr == line_address (guest_frame a.slot) a.line) && (line.misc == line_misc)))

abbrev pub has_outcome : Mode → GuestLine → Bool
has_outcome modes.User line = (line.row == 9) && not line.stops
has_outcome modes.Kernel line = (line.row == 10) && line.stops

-- the line is that of the guest's machine check for the access of the command with this number
abbrev pub is_line : ℕ → GuestAccess → GuestLine → Bool
is_line seq a line = (line.seq == seq) && (has_event a line && has_outcome a.mode line)

-- the access of a guest of which it has to be told, by the command and its answer
abbrev pub due_by : Layout → Command → Answer → Option GuestAccess
due_by layout command (answers.Sigbus at) = guest_access layout command
due_by layout command answer = None

-- the line tells the guest of that
abbrev pub is_told : Layout → ℕ → Command → Answer → GuestLine → Bool
is_told layout seq command answer line = option_map_or (λ (a : GuestAccess). is_line seq a line) (due_by layout command answer) false

-- the line is a guest's line of the command
abbrev pub is_guest_of : ℕ → CpuLine → Bool
is_guest_of seq (lines.Guest line) = line.seq == seq
is_guest_of seq line = false
