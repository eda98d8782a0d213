-- What a guest is after some commands of its processor, which of its accesses it doesn't admit, and how it is told of an access that was
-- answered by SIGBUS. The translation and the line are those that the script's command names, also where a page is copied first or a twin
-- stands for the translation. This project's rule.
use Rattle.std.specs.Prelude.{ℕ, ◌==◌, Bool, true, false, List, [], Option, Some, None, fold, option_and_then, option_map, if◌then◌else◌}
use Rattle.std.specs.List.{cons_option}
use Rattle.std.specs.Option.{option_map_or}
use Rattle.std.specs.FinSet as set
use Rattle.hwp_script_words.specs.hwp_geom.Layout.{is_guest}
use Rattle.hwp_script_words.specs.hwp_geom.declared.Layout.{Layout}
use Rattle.hwp_script_words.specs.hwp_geom.declared.Mode.{Mode}
use Rattle.hwp_script_words.specs.hwp_geom.declared.Proc.{Proc}
use Rattle.hwp_script_words.specs.hwp_geom.declared.Thread.{Thread}
use Rattle.hwp_script_words.specs.hwp_geom.declared.VSlot.{VSlot}
use Rattle.hwp_script_words.specs.declared.Command.{Command}
use Rattle.hwp_script_words.specs.declared.Command.TheVariants as commands
use Rattle.hwp_report_text.specs.hwp_banks.Addresses.{line_address}
use Rattle.hwp_report_text.specs.hwp_banks.Events.{bank_of, line_misc, own_status}
use Rattle.hwp_report_text.specs.hwp_banks.declared.Origin.TheVariants as origins
use Rattle.hwp_report_text.specs.declared.Answer.{Answer}
use Rattle.hwp_report_text.specs.declared.Answer.TheVariants as answers
use Rattle.hwp_report_text.specs.declared.GuestLine.{GuestLine}
use Rattle.hwp_report_text.specs.hwp_guest.declared.Access.{Access}
use Rattle.hwp_report_text.specs.hwp_guest.declared.Access.TheVariants as kinds
use Rattle.hwp_report_text.specs.hwp_guest.declared.Admit.{Admit}
use Rattle.hwp_report_text.specs.hwp_guest.declared.Admit.TheVariants as admissions
use Rattle.hwp_report_text.specs.hwp_guest.declared.Taken.{Taken}
use Rattle.hwp_report_text.specs.hwp_guest.declared.Taken.TheVariants as takings
use Rattle.hwp_report_text.specs.hwp_guest.GuestState.{GuestState, admitted, after}
use Rattle.hwp_report_text.specs.hwp_guest.Guests.{guest_frame, origin_of, outcome, outcome_row}
use Rattle.hwp_law.specs.declared.guests.GuestAccess.{GuestAccess}
use Rattle.hwp_law.specs.Commands as access
use Rattle.hwp_law.specs.Commands.{access_of, arrival_of, process_of_thread}

-- a fetch reads an instruction; each other access is a load or a store
abbrev pub kind_of : Command → Access
kind_of (commands.Fetch thread slot line) = kinds.Fetch
kind_of command = kinds.Plain

-- the access of a thread through this translation, where the thread is one of a guest
abbrev pub access_by : Layout → Thread → VSlot → ℕ → Access → Mode → Option GuestAccess
access_by layout thread slot line kind mode =
    option_and_then (λ (process : Proc). if is_guest layout process then Some (record { process = process; slot = slot; line = line; kind = kind; mode = mode }) else None)
    (process_of_thread layout thread)

-- the access of a command, where its thread is one of a guest
abbrev pub guest_access : Layout → Command → Option GuestAccess
guest_access layout command =
    option_and_then (λ (a : access.Access). option_and_then (λ (process : Proc).
    if is_guest layout process then Some (record { process = process; slot = a.slot; line = a.line; kind = kind_of command; mode = (arrival_of command).mode }) else None)
    (process_of_thread layout a.thread)) (access_of command)

-- a guest that goes on, without a bad frame
abbrev pub new_guest : GuestState
new_guest = record { bad = set.empty; stopped = false }

-- a guest after an access of its processor that was answered by SIGBUS, if it is its own
abbrev pub guest_taken : Proc → GuestState → GuestAccess → GuestState
guest_taken process guest a = if a.process.0 == process.0 then after a.mode a.slot.0 guest else guest

-- a guest after a command of its processor with this answer: an access of it that was answered by SIGBUS is its machine check
abbrev pub guest_after : Layout → Proc → GuestState → Command → Answer → GuestState
guest_after layout process guest command (answers.Sigbus at) = option_map_or (guest_taken process guest) (guest_access layout command) guest
guest_after layout process guest command answer = guest

-- a guest after some commands of its processor with their answers
abbrev pub guest_of : Layout → List (Command × Answer) → Proc → GuestState
guest_of layout earlier process = fold (λ (guest : GuestState) (p : Command × Answer). guest_after layout process guest p.0 p.1) new_guest earlier

-- the answer of an access that its guest doesn't admit
abbrev pub denial : Admit → Option Answer
denial admissions.Yes = None
denial admissions.Bad = Some answers.GuestBad
denial admissions.Stopped = Some answers.GuestStopped

-- the answer of a command whose access its guest doesn't admit, behind these commands of the processor with their answers
abbrev pub denied : Layout → List (Command × Answer) → Command → Option Answer
denied layout earlier command =
    option_and_then (λ (a : GuestAccess). denial (admitted (guest_of layout earlier a.process) a.slot.0)) (guest_access layout command)

-- whether a machine check stopped the guest
abbrev pub stops : Taken → Bool
stops takings.Bad = false
stops takings.Stop = true

-- the line of a guest's machine check: its only bank has the event of the access at the line of the guest frame
abbrev pub guest_line : ℕ → GuestAccess → GuestLine
guest_line seq a = record {
  seq = seq;
  bank = bank_of origins.Access;
  status = own_status (origin_of a.kind);
  addr = line_address (guest_frame a.slot) a.line;
  misc = line_misc;
  row = outcome_row a.mode;
  stops = stops (outcome a.mode);
}

-- the guest's lines of a command with this number and this answer: one where an access of a guest was answered by SIGBUS
abbrev pub guest_lines : Layout → ℕ → Command → Answer → List GuestLine
guest_lines layout seq command (answers.Sigbus at) = cons_option (option_map (guest_line seq) (guest_access layout command)) []
guest_lines layout seq command answer = []
