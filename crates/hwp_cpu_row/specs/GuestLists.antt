-- What a processor remembers of guests: a list that says of each process what it is as a guest. What it makes of a command is what
-- hwp_law/specs/GuestRule says, with the list for the earlier commands and their answers.
use Rattle.std.specs.Prelude.{◌≡◌, ℕ, ◌<◌, true, List, [], length, replicate, get_or, slice_set, Option, None, Some, option_map, if◌then◌else◌}
use Rattle.std.specs.Option.{option_map_or}
use Rattle.hwp_claim.specs.hwp_geom.Layout.{has_guests, is_guest}
use Rattle.hwp_claim.specs.hwp_geom.Limits.{translation_limit}
use Rattle.hwp_claim.specs.hwp_geom.declared.Layout.{Layout}
use Rattle.hwp_claim.specs.hwp_geom.declared.Proc.{Proc}
use Rattle.hwp_claim.specs.hwp_script_words.declared.Command.{Command}
use Rattle.hwp_claim.specs.hwp_report_text.declared.Answer.{Answer}
use Rattle.hwp_claim.specs.hwp_report_text.declared.Answer.TheVariants as answers
use Rattle.hwp_claim.specs.hwp_report_text.declared.GuestLine.{GuestLine}
use Rattle.hwp_claim.specs.hwp_guest.declared.Admit.{Admit}
use Rattle.hwp_claim.specs.hwp_guest.declared.Admit.TheVariants as admissions
use Rattle.hwp_claim.specs.hwp_guest.GuestState.{GuestState, admitted, after}
use Rattle.hwp_claim.specs.hwp_law.declared.GuestAccess.{GuestAccess}
use Rattle.hwp_claim.specs.hwp_law.GuestRule.{guest_access, guest_line, guest_of, new_guest}

-- what each process is as a guest
abbrev pub States : Type 0
States = List GuestState

-- what the list says of a process; one that it doesn't hold is as at first
abbrev pub guest_in : List GuestState → Proc → GuestState
guest_in guests process = get_or guests process.0 new_guest

-- the list says of each guest what these commands with their answers made of it
abbrev pub KnowsGuests : Layout → List (Command × Answer) → List GuestState → Type 0
KnowsGuests layout earlier guests = (process : Proc) → is_guest layout process ≡ true → guest_in guests process ≡ guest_of layout earlier process

-- at first no guest has a bad frame; where no process is a guest the list is empty, and stays so
abbrev pub first_guests : Layout → List GuestState
first_guests layout = if has_guests layout then replicate layout.procs new_guest else []

-- it has a place for each guest
abbrev pub AreGuestsOf : Layout → List GuestState → Type 0
AreGuestsOf layout guests = (process : Proc) → is_guest layout process ≡ true → process.0 < length guests

-- ---- a command and its answer

-- whether its guest admits the access of a command; what is no access of a guest is admitted
abbrev pub admission_in : Layout → List GuestState → Command → Admit
admission_in layout guests command = option_map_or (λ (a : GuestAccess). admitted (guest_in guests a.process) a.slot.0) (guest_access layout command) admissions.Yes

-- a guest can be told of this access: the list holds it, it admits the access, and the guest frame is one that there can be
pub record CanTake (guests : List GuestState) (a : GuestAccess) : Type 0 where
  pub there : a.process.0 < length guests
  pub admitted_is : admitted (guest_in guests a.process) a.slot.0 ≡ admissions.Yes
  pub within : a.slot.0 < translation_limit

-- the guest can be told of the command's access, if it is one of a guest
abbrev pub MayTake : Layout → List GuestState → Command → Type 0
MayTake layout guests command = (a : GuestAccess) → guest_access layout command ≡ Some a → CanTake guests a

-- the guest is told only of one that is answered by SIGBUS
abbrev pub MayTell : Layout → List GuestState → Command → Answer → Type 0
MayTell layout guests command (answers.Sigbus at) = MayTake layout guests command
MayTell layout guests command answer = Unit {0}

abbrev pub taken_in : List GuestState → GuestAccess → List GuestState
taken_in guests a = slice_set guests a.process.0 (after a.mode a.slot.0 (guest_in guests a.process))

-- the list after the command was answered so: an access of a guest that was answered by SIGBUS is a machine check of the guest
abbrev pub told_in : Layout → Command → Answer → List GuestState → List GuestState
told_in layout command (answers.Sigbus at) guests = option_map_or (taken_in guests) (guest_access layout command) guests
told_in layout command answer guests = guests

-- the guest's line of the command
abbrev pub line_in : Layout → ℕ → Command → Answer → Option GuestLine
line_in layout seq command (answers.Sigbus at) = option_map (guest_line seq) (guest_access layout command)
line_in layout seq command answer = None
