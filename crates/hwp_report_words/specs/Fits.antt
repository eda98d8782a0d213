-- Which values the lines of processors, and what stopped the machine, may have: each number is within its type.
use Rattle.std.specs.Prelude.{◌^◌, ◌<◌}
use Rattle.hwp_report_text.specs.declared.Stop.{Stop}
use Rattle.hwp_report_text.specs.declared.StopCause.{StopCause}
use Rattle.hwp_report_text.specs.declared.StopCause.TheVariants as causes
use Rattle.hwp_report_text.specs.declared.Answer.{Answer}
use Rattle.hwp_report_text.specs.declared.Answer.TheVariants as answers
use Rattle.hwp_report_text.specs.declared.CpuLine.{CpuLine}
use Rattle.hwp_report_text.specs.declared.CpuLine.TheVariants as lines
use Rattle.hwp_report_text.specs.declared.EventLine.{EventLine}
use Rattle.hwp_report_text.specs.declared.GuestLine.{GuestLine}
use Rattle.hwp_report_text.specs.declared.OfflinedLine.{OfflinedLine}
use Rattle.hwp_report_text.specs.Offlines.{offline_answer}
use Rattle.hwp_report_words.specs.Words.{AtFits, WhoFits}

-- what stopped the machine
abbrev pub CauseFits : StopCause → Type 0
CauseFits (causes.Severity row bank status mcg mode) = (row < 2 ^ 8) × (bank < 2 ^ 8) × (status < 2 ^ 64)
CauseFits causes.Shutdown = Unit {0}
CauseFits (causes.Panic frame) = frame.0 < 2 ^ 16

abbrev pub StopFits : Stop → Type 0
StopFits stop = WhoFits stop.who × CauseFits stop.cause

-- an answer
abbrev pub AnswerFits : Answer → Type 0
AnswerFits (answers.Value word at) = (word < 2 ^ 64) × AtFits at
AnswerFits (answers.Stored at) = AtFits at
AnswerFits (answers.Sigbus at) = AtFits at
AnswerFits (answers.Gone page) = page.0 < 2 ^ 16
AnswerFits (answers.DoneAt at) = AtFits at
AnswerFits (answers.NotResident at) = AtFits at
AnswerFits (answers.NotMapped at) = AtFits at
AnswerFits (answers.Dirty at) = AtFits at
AnswerFits (answers.Mapped at) = AtFits at
AnswerFits (answers.Locked at) = AtFits at
AnswerFits (answers.BadLines mask at) = (mask.0 < 2 ^ 64) × AtFits at
AnswerFits (answers.Eio lost) = lost < 2 ^ 64
AnswerFits (answers.Opened lost) = lost < 2 ^ 64
AnswerFits (answers.Is policy) = policy < 2 ^ 64
AnswerFits (answers.Moved frame at) = (frame.0 < 2 ^ 16) × AtFits at
AnswerFits (answers.HasBad mask) = mask.0 < 2 ^ 64
AnswerFits (answers.InUse count) = count < 2 ^ 64
AnswerFits (answers.Scrubbed events) = events < 2 ^ 64
AnswerFits (answers.Raised events) = events < 2 ^ 64
AnswerFits answer = Unit {0}

-- what the bank of an event held
abbrev pub EventFits : EventLine → Type 0
EventFits e = (e.bank < 2 ^ 8) × (e.status < 2 ^ 64) × (e.addr < 2 ^ 64) × (e.misc < 2 ^ 64) × (e.row < 2 ^ 8)

-- a frame taken out of use, and what came of it
abbrev pub OfflinedFits : OfflinedLine → Type 0
OfflinedFits o = (o.frame.0 < 2 ^ 16) × AnswerFits (offline_answer o.result)

-- what the bank of a guest held
abbrev pub GuestFits : GuestLine → Type 0
GuestFits g = (g.bank < 2 ^ 8) × (g.status < 2 ^ 64) × (g.addr < 2 ^ 64) × (g.misc < 2 ^ 64) × (g.row < 2 ^ 8)

-- a line of a processor
abbrev pub CpuLineFits : CpuLine → Type 0
CpuLineFits (lines.Event event) = (event.seq < 2 ^ 32) × EventFits event
CpuLineFits (lines.Offlined offlined) = (offlined.seq < 2 ^ 32) × OfflinedFits offlined
CpuLineFits (lines.Guest guest) = (guest.seq < 2 ^ 32) × GuestFits guest
CpuLineFits (lines.Answer seq answer) = (seq < 2 ^ 32) × AnswerFits answer
