-- Which frames the event lines of a command note for the collector of corrected errors, and in which order. This project's rule.
use Rattle.std.specs.Prelude.{◌≡◌, ◌==◌, nat_lt, Bool, true, false, not, ◌&&◌, ◌||◌, List, [], ◌∷◌, flat_map, filter_map, Option, Some, None, if◌then◌else◌}
use Rattle.std.specs.List.{list_any}
use Rattle.hwp_script_words.specs.hwp_geom.declared.Frame.{Frame}
use Rattle.hwp_script_words.specs.hwp_geom.declared.Layout.{Layout}
use Rattle.hwp_report_text.specs.hwp_banks.Addresses.{frame_at}
use Rattle.hwp_report_text.specs.hwp_banks.Status.{is_addr_valid}
use Rattle.hwp_report_text.specs.declared.EventLine.{EventLine}
use Rattle.hwp_report_text.specs.Acts.{is_panic, is_stopping}
use Rattle.hwp_law.specs.Commands.{is_kernels}

-- a line and the machine checks behind it: it is the first line of the first of them, if its bank is lower; else it is a check of its own
abbrev pub with_line : EventLine → List (List EventLine) → List (List EventLine)
with_line line ((next ∷ more) ∷ rest) = if nat_lt line.bank next.bank then (line ∷ next ∷ more) ∷ rest else (line ∷ []) ∷ (next ∷ more) ∷ rest
with_line line rest = (line ∷ []) ∷ rest

-- the lines by machine checks. A check takes the banks in their order, so a line whose bank isn't above that of the line before it is the
-- first of another check
abbrev pub checks : List EventLine → List (List EventLine)
checks [] = []
checks (line ∷ rest) = with_line line (checks rest)

-- an event line of the command stopped the machine, or was a panic
abbrev pub ends_machine : EventLine → Bool
ends_machine line = is_stopping line.acted || is_panic line.acted

-- the frame is one for pages: the machine has it, and it isn't the kernel's
abbrev pub is_for_pages : Layout → Frame → Bool
is_for_pages layout frame = nat_lt frame.0 layout.frames && not (is_kernels layout frame)

-- the frame that a line's address lies in
abbrev pub frame_of : EventLine → Frame
frame_of line = record { 0 = frame_at line.addr }

-- the line is of a corrected error with a valid address: row S4 graded it, and ADDRV is set
abbrev pub is_corrected : EventLine → Bool
is_corrected line = (line.row == 4) && is_addr_valid (record { 0 = line.status })

-- the frame that a line notes, if it notes one
abbrev pub noted_frame : Layout → EventLine → Option Frame
noted_frame layout line = if is_corrected line && is_for_pages layout (frame_of line) then Some (frame_of line) else None

-- what the lines of one machine check note: nothing where it stopped the machine or was a panic
abbrev pub notes_of_check : Layout → List EventLine → List Frame
notes_of_check layout lines = if list_any ends_machine lines then [] else filter_map (noted_frame layout) lines

-- what the event lines of a command note, in order
abbrev pub notes : Layout → List EventLine → List Frame
notes layout lines = flat_map (notes_of_check layout) (checks lines)

-- the lines are of rising banks, as those of one machine check are
abbrev pub IsRising : List EventLine → Type 0
IsRising [] = Unit {0}
IsRising (line ∷ []) = Unit {0}
IsRising (line ∷ next ∷ rest) = (nat_lt line.bank next.bank ≡ true) × IsRising (next ∷ rest)

-- the second lines begin a machine check: their first bank isn't above the last one of the first lines
abbrev pub AreApart : List EventLine → List EventLine → Type 0
AreApart [] others = Unit {0}
AreApart (line ∷ []) [] = Unit {0}
AreApart (line ∷ []) (other ∷ others) = nat_lt line.bank other.bank ≡ false
AreApart (line ∷ next ∷ rest) others = AreApart (next ∷ rest) others
