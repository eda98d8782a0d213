-- The lines of a report: what a processor's lines say of one command, and what a frame's line says.
use Rattle.std.specs.Prelude.{ℕ, zero, suc, ◌+◌, ◌==◌, ◌&&◌, Bool, List, [], ◌∷◌, Option, Some, None, filter, filter_map, length, slice_get, option_map, unwrap_or}
use Rattle.std.specs.List.{find, zip}
use Rattle.hwp_script_words.specs.hwp_geom.declared.Who.{Who}
use Rattle.hwp_script_words.specs.declared.Command.{Command}
use Rattle.hwp_report_text.specs.declared.Answer.{Answer}
use Rattle.hwp_report_text.specs.declared.Answer.TheVariants as answers
use Rattle.hwp_report_text.specs.declared.CpuLine.{CpuLine}
use Rattle.hwp_report_text.specs.declared.CpuLine.TheVariants as lines
use Rattle.hwp_report_text.specs.declared.EventLine.{EventLine}
use Rattle.hwp_report_text.specs.declared.FrameLine.{FrameLine}
use Rattle.hwp_report_text.specs.declared.GuestLine.{GuestLine}
use Rattle.hwp_report_text.specs.declared.MarkLine.{MarkLine}
use Rattle.hwp_report_text.specs.declared.OfflinedLine.{OfflinedLine}
use Rattle.hwp_report_text.specs.declared.Report.{Report}

-- the line of an answer
pub record AnswerLine : Type 0 where
  pub seq : ℕ
  pub answer : Answer

abbrev pub event_in : CpuLine → Option EventLine
event_in (lines.Event event) = Some event
event_in (lines.Offlined line) = None
event_in (lines.Guest line) = None
event_in (lines.Answer seq answer) = None

abbrev pub offlined_in : CpuLine → Option OfflinedLine
offlined_in (lines.Event event) = None
offlined_in (lines.Offlined line) = Some line
offlined_in (lines.Guest line) = None
offlined_in (lines.Answer seq answer) = None

abbrev pub guest_in : CpuLine → Option GuestLine
guest_in (lines.Event event) = None
guest_in (lines.Offlined line) = None
guest_in (lines.Guest line) = Some line
guest_in (lines.Answer seq answer) = None

abbrev pub answer_in : CpuLine → Option AnswerLine
answer_in (lines.Event event) = None
answer_in (lines.Offlined line) = None
answer_in (lines.Guest line) = None
answer_in (lines.Answer seq answer) = Some (record { seq = seq; answer = answer })

-- the number of the command that a line is of
abbrev pub seq_of : CpuLine → ℕ
seq_of (lines.Event event) = event.seq
seq_of (lines.Offlined line) = line.seq
seq_of (lines.Guest line) = line.seq
seq_of (lines.Answer seq answer) = seq

-- the two are one command of one processor
abbrev pub is_same_command : Who → Who → Bool
is_same_command a b = (a.cpu.0 == b.cpu.0) && (a.seq == b.seq)

-- the lines of a command's processor
abbrev pub rows_of : Report → Who → List CpuLine
rows_of report who = unwrap_or (slice_get report.cpus who.cpu.0) []

-- the event lines of a command, in order
abbrev pub events_among : List CpuLine → ℕ → List EventLine
events_among rows seq = filter (λ (l : EventLine). seq == l.seq) (filter_map event_in rows)

abbrev pub events_of : Report → Who → List EventLine
events_of report who = events_among (rows_of report who) who.seq

-- the lines of a command that tell of frames taken out of use beside its answer, in order
abbrev pub offlined_among : List CpuLine → ℕ → List OfflinedLine
offlined_among rows seq = filter (λ (l : OfflinedLine). seq == l.seq) (filter_map offlined_in rows)

abbrev pub offlined_of : Report → Who → List OfflinedLine
offlined_of report who = offlined_among (rows_of report who) who.seq

-- the guests' lines of a command, in order
abbrev pub guests_among : List CpuLine → ℕ → List GuestLine
guests_among rows seq = filter (λ (l : GuestLine). seq == l.seq) (filter_map guest_in rows)

abbrev pub guests_told : Report → Who → List GuestLine
guests_told report who = guests_among (rows_of report who) who.seq

-- the answer of a command
abbrev pub answer_among : List CpuLine → ℕ → Option Answer
answer_among rows seq = option_map (λ (l : AnswerLine). l.answer) (find (λ (l : AnswerLine). seq == l.seq) (filter_map answer_in rows))

abbrev pub answer_of : Report → Who → Option Answer
answer_of report who = answer_among (rows_of report who) who.seq

-- the answers of so many commands, the first of which has number n; one that was told no answer counts as one that was told `stopped`,
-- which changes nothing
abbrev pub answers_from : (ℕ → Option Answer) → ℕ → ℕ → List Answer
answers_from told n zero = []
answers_from told n (suc more) = unwrap_or (told n) answers.Stopped ∷ answers_from told (n + 1) more

-- the answers of a processor's commands, of each the first of its lines with the command's number, and the commands with them
abbrev pub answers_to : List Command → List CpuLine → List Answer
answers_to list rows = answers_from (answer_among rows) 0 (length list)

abbrev pub answered : List Command → List CpuLine → List (Command × Answer)
answered list rows = zip list (answers_to list rows)

-- the record of a frame
abbrev pub marks_of : Report → ℕ → List MarkLine
marks_of report frame = unwrap_or (option_map (λ (l : FrameLine). l.marks) (slice_get report.frames frame)) []

-- the bad lines of a frame, a bit each, and its weak lines
abbrev pub bad_lines_of : Report → ℕ → ℕ
bad_lines_of report frame = unwrap_or (option_map (λ (l : FrameLine). l.bad.0) (slice_get report.frames frame)) 0

abbrev pub weak_lines_of : Report → ℕ → ℕ
weak_lines_of report frame = unwrap_or (option_map (λ (l : FrameLine). l.weak.0) (slice_get report.frames frame)) 0
