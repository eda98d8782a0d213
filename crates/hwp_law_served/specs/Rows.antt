-- The rows of a processor, one for each command that is answered: the lines of the report and the notes of frames that they make.
use Rattle.std.specs.Prelude.{ℕ, ◌+◌, ◌==◌, Bool, true, false, List, [], ◌∷◌, ◌++◌, Option, Some, None, option_map, map, filter, filter_map, flat_map}
use Rattle.std.specs.List.{cons_option}
use Rattle.hwp_law.specs.hwp_geom.declared.Cpu.{Cpu}
use Rattle.hwp_law.specs.hwp_geom.declared.Frame.{Frame}
use Rattle.hwp_law.specs.hwp_geom.declared.Who.{Who}
use Rattle.hwp_law.specs.hwp_page.Situations.{outcome_of}
use Rattle.hwp_law.specs.hwp_report_text.declared.Answer.{Answer}
use Rattle.hwp_law.specs.hwp_report_text.declared.CpuLine.{CpuLine}
use Rattle.hwp_law.specs.hwp_report_text.declared.CpuLine.TheVariants as lines
use Rattle.hwp_law.specs.hwp_report_text.declared.GuestLine.{GuestLine}
use Rattle.hwp_law.specs.hwp_report_text.declared.How.{How}
use Rattle.hwp_law.specs.hwp_report_text.declared.How.TheVariants as hows
use Rattle.hwp_law.specs.hwp_report_text.declared.MarkLine.{MarkLine}
use Rattle.hwp_law.specs.hwp_report_text.declared.MarkLine.TheVariants as marks
use Rattle.hwp_law.specs.hwp_report_text.declared.OfflinedLine.{OfflinedLine}
use Rattle.hwp_cpu_row.specs.hwp_claim.declared.Found.{Found}
use Rattle.hwp_cpu_row.specs.declared.FrameChange.{FrameChange}
use Rattle.hwp_cpu_row.specs.declared.FrameChange.TheVariants as owns
use Rattle.hwp_cpu_row.specs.declared.Offlining.{Offlining}
use Rattle.hwp_cpu_row.specs.declared.Row.{Row}
use Rattle.hwp_cpu_row.specs.Acts.{Act, Offlined, Told, acts, event_at}
use Rattle.hwp_cpu_row.specs.hwp_claim.declared.EventOutcome.{EventOutcome}
use Rattle.hwp_cpu_row.specs.hwp_claim.Told.{frame_of}

-- the command of this number of the processor
abbrev pub at_number : Cpu → ℕ → Who
at_number cpu n = record { cpu = cpu; seq = n }

-- ---- lines

-- the line of an event that a command told of, and of a frame that was taken out of use beside it
abbrev pub event_line : ℕ → EventOutcome → CpuLine
event_line seq t = lines.Event (event_at seq t)

abbrev pub offlined_at : ℕ → Offlining → OfflinedLine
offlined_at seq o = record { seq = seq; frame = o.frame; result = o.result }

abbrev pub offlined_line : ℕ → Offlining → CpuLine
offlined_line seq o = lines.Offlined (offlined_at seq o)

-- the line of a guest's machine check, as one of the command with this number
abbrev pub guest_at : ℕ → GuestLine → GuestLine
guest_at seq line = record line { seq = seq }

-- that line, if there was one, and then the answer
abbrev pub end_lines : ℕ → Option GuestLine → Answer → List CpuLine
end_lines seq None answer = lines.Answer seq answer ∷ []
end_lines seq (Some line) answer = lines.Guest (guest_at seq line) ∷ lines.Answer seq answer ∷ []

-- the events first, then the frames that were taken out of use, and then the guest's line and the answer
abbrev pub row_lines : ℕ → Row → List CpuLine
row_lines seq row = map (event_line seq) row.told ++ (map (offlined_line seq) row.offlined ++ end_lines seq row.guest row.answer)

-- of the commands from number n on
abbrev pub lines_from : ℕ → List Row → List CpuLine
lines_from n [] = []
lines_from n (row ∷ rows) = row_lines n row ++ lines_from (n + 1) rows

-- ---- notes

-- a line of a frame's record, with the frame
abbrev pub Note : Type 0
Note = Frame × MarkLine

-- a failure of the frame by the command, which a bank reported or not
abbrev pub note_of : Who → Bool → Frame → Found → Note
note_of who hardware frame found = (frame, marks.Poisoned found.cycle who (hows.Failure hardware found.situation (outcome_of found.situation)))

abbrev pub told_note : Who → EventOutcome → Option Note
told_note who t = option_map (note_of who true (frame_of t.held)) t.found

-- how a soft offline took a frame out of use
abbrev pub offlined : Bool → How
offlined true = hows.Moved
offlined false = hows.TakenFree

-- what the command did to a frame itself
abbrev pub note_by : Who → FrameChange → Note
note_by who (owns.Failed frame found) = note_of who false frame found
note_by who (owns.Offlined frame cycle moved) = (frame, marks.Poisoned cycle who (offlined moved))
note_by who (owns.Revived frame cycle) = (frame, marks.Unpoisoned cycle who)

abbrev pub own_note : Who → Option FrameChange → Option Note
own_note who own = option_map (note_by who) own

-- what it did beside its answer
abbrev pub act_note : Who → Act → Option Note
act_note who (Told t) = told_note who t
act_note who (Offlined o) = own_note who o.change

abbrev pub row_notes : Who → Row → List Note
row_notes who row = filter_map (act_note who) (acts row.told row.offlined) ++ cons_option (own_note who row.own) []

abbrev pub notes_from : Cpu → ℕ → List Row → List Note
notes_from cpu n [] = []
notes_from cpu n (row ∷ rows) = row_notes (record { cpu = cpu; seq = n }) row ++ notes_from cpu (n + 1) rows

-- the lines that a processor noted of a frame, and those that all did
abbrev pub lines_of : Frame → List Note → List MarkLine
lines_of frame own = map (λ (n : Note). n.1) (filter (λ (n : Note). n.0.0 == frame.0) own)

abbrev pub record_of : Frame → List (List Note) → List MarkLine
record_of frame notes = flat_map (lines_of frame) notes
