-- The text of a report: lines of words.
use Rattle.std.specs.Prelude.{ℕ, ◌+◌, List, [], ◌∷◌, ◌++◌, Option, Some, None, length, codes, decimal, flat_map, map}
use Rattle.hwp_page.specs.hwp_geom.Words.{line, hex}
use Rattle.hwp_page.specs.hwp_geom.declared.Version.{Version}
use Rattle.hwp_page.specs.hwp_geom.declared.Who.{Who}
use Rattle.hwp_page.specs.hwp_geom.declared.Thread.{Thread}
use Rattle.hwp_page.specs.hwp_geom.declared.Mode.{Mode}
use Rattle.hwp_guest.specs.hwp_severity.declared.McgBits.{McgBits}
use Rattle.hwp_page.specs.hwp_kill.declared.Seen.{Seen}
use Rattle.hwp_page.specs.hwp_kill.declared.Signal.{Signal}
use Rattle.hwp_page.specs.declared.At.{At}
use Rattle.hwp_page.specs.declared.Entry.{Entry}
use Rattle.hwp_page.specs.declared.Met.{Met}
use Rattle.hwp_page.specs.declared.Met.TheVariants as mets
use Rattle.hwp_page.specs.declared.What.{What}
use Rattle.hwp_page.specs.declared.What.TheVariants as whats
use Rattle.hwp_report_text.specs.declared.report.Report.{Report}
use Rattle.hwp_report_text.specs.declared.report.Stop.{Stop}
use Rattle.hwp_report_text.specs.declared.report.StopCause.{StopCause}
use Rattle.hwp_report_text.specs.declared.report.StopCause.TheVariants as causes
use Rattle.hwp_report_text.specs.declared.frames.Whereabouts.{Whereabouts}
use Rattle.hwp_report_text.specs.declared.frames.Whereabouts.TheVariants as places
use Rattle.hwp_report_text.specs.declared.frames.How.{How}
use Rattle.hwp_report_text.specs.declared.frames.How.TheVariants as hows
use Rattle.hwp_report_text.specs.declared.frames.MarkLine.{MarkLine}
use Rattle.hwp_report_text.specs.declared.frames.MarkLine.TheVariants as marks
use Rattle.hwp_report_text.specs.declared.frames.FrameLine.{FrameLine}
use Rattle.hwp_report_text.specs.declared.lines.Answer.{Answer}
use Rattle.hwp_report_text.specs.declared.lines.Answer.TheVariants as answers
use Rattle.hwp_report_text.specs.declared.lines.CpuLine.{CpuLine}
use Rattle.hwp_report_text.specs.declared.lines.CpuLine.TheVariants as lines
use Rattle.hwp_report_text.specs.declared.lines.EventLine.{EventLine}
use Rattle.hwp_report_text.specs.declared.lines.GuestLine.{GuestLine}
use Rattle.hwp_report_text.specs.declared.lines.OfflinedLine.{OfflinedLine}
use Rattle.hwp_report_text.specs.Offlines.{offline_answer}
use Rattle.hwp_page.specs.hwp_kill.Prctl.{policy_word}
use Rattle.hwp_report_text.specs.Terms.{acted_word, code_word, flag_number, guest_word, mode_word, origin_word, outcome_word, situation_word, version_word}

-- the lines of each item of a list, with its number, counted from n
abbrev pub numbered : {A : Type 0} → (ℕ → A → List (List (List ℕ))) → ℕ → List A → List (List (List ℕ))
numbered lines_of n [] = []
numbered lines_of n (x ∷ xs) = lines_of n x ++ numbered lines_of (n + 1) xs

-- a row of the severity table: `S` and its number
abbrev pub row_word : ℕ → List ℕ
row_word row = codes "S" ++ decimal row

-- what the severity table graded: `BANK STATUS RIPV EIPV MODE`
abbrev pub graded_words : ℕ → ℕ → McgBits → Mode → List (List ℕ)
graded_words bank status mcg mode =
    decimal bank ∷ hex status ∷ decimal (flag_number mcg.ripv) ∷ decimal (flag_number mcg.eipv) ∷ mode_word mode ∷ []

-- what stopped the machine: `severity ROW BANK STATUS RIPV EIPV MODE`, `shutdown`, or `panic F`
abbrev pub cause_words : StopCause → List (List ℕ)
cause_words (causes.Severity row bank status mcg mode) =
    codes "severity" ∷ row_word row ∷ graded_words bank status mcg mode
cause_words causes.Shutdown = codes "shutdown" ∷ []
cause_words (causes.Panic frame) = codes "panic" ∷ decimal frame.0 ∷ []

-- `stop none`, or `stop C S CAUSE`
abbrev pub stop_words : Option Stop → List (List ℕ)
stop_words None = codes "stop" ∷ codes "none" ∷ []
stop_words (Some stop) = codes "stop" ∷ decimal stop.who.cpu.0 ∷ decimal stop.who.seq ∷ cause_words stop.cause

-- `hwp-report 1` or `hwp-report 2`, the stop line and `count N`
abbrev pub head_lines : Version → Option Stop → ℕ → List (List (List ℕ))
head_lines version stop count =
    (codes "hwp-report" ∷ version_word version ∷ []) ∷ stop_words stop ∷ (codes "count" ∷ decimal count ∷ []) ∷ []

-- `file N lost L`
abbrev pub file_lines : ℕ → ℕ → List (List (List ℕ))
file_lines number lost = (codes "file" ∷ decimal number ∷ codes "lost" ∷ decimal lost ∷ []) ∷ []

-- where a frame is: `free`, `kernel`, `handled`, or `page Q`
abbrev pub place_words : Whereabouts → List (List ℕ)
place_words places.Free = codes "free" ∷ []
place_words places.Kernel = codes "kernel" ∷ []
place_words places.Handled = codes "handled" ∷ []
place_words (places.Of page) = codes "page" ∷ decimal page.0 ∷ []

-- `frame F STATE bad M weak M`
abbrev pub frame_words : ℕ → FrameLine → List (List ℕ)
frame_words number frame =
    codes "frame" ∷ decimal number ∷ (place_words frame.place ++ codes "bad" ∷ hex frame.bad.0 ∷ codes "weak" ∷ hex frame.weak.0 ∷ [])

-- how a frame came to be poisoned: `CAUSE SITUATION RESULT`
abbrev pub how_words : How → List (List ℕ)
how_words (hows.Failure hardware situation outcome) = origin_word hardware ∷ situation_word situation ∷ outcome_word outcome ∷ []
how_words hows.Moved = codes "soft" ∷ codes "moved" ∷ codes "recovered" ∷ []
how_words hows.TakenFree = codes "soft" ∷ codes "free" ∷ codes "recovered" ∷ []

-- `poisoned K C S CAUSE SITUATION RESULT`, or `unpoisoned K C S`
abbrev pub mark_words : MarkLine → List (List ℕ)
mark_words (marks.Poisoned cycle who how) =
    codes "poisoned" ∷ decimal cycle ∷ decimal who.cpu.0 ∷ decimal who.seq ∷ how_words how
mark_words (marks.Unpoisoned cycle who) = codes "unpoisoned" ∷ decimal cycle ∷ decimal who.cpu.0 ∷ decimal who.seq ∷ []

-- the lines of a frame: its own, and its record
abbrev pub frame_lines : ℕ → FrameLine → List (List (List ℕ))
frame_lines number frame = frame_words number frame ∷ map mark_words frame.marks

-- what an access met: the bad lines and the word, or the thread that got SIGBUS
abbrev pub met_words : Met → List (List ℕ)
met_words (mets.Word mask word) = hex mask.0 ∷ decimal word ∷ []
met_words (mets.Sigbus thread) = codes "sigbus" ∷ decimal thread.0 ∷ []

-- whether a memory failure was required, and by which thread: `req T`, or `opt -`
abbrev pub required_words : Option Thread → List (List ℕ)
required_words None = codes "opt" ∷ codes "-" ∷ []
required_words (Some thread) = codes "req" ∷ decimal thread.0 ∷ []

-- a verb with the command's processor and number, as an entry's line begins
abbrev pub verb_words : List ℕ → Who → List (List ℕ) → List (List ℕ)
verb_words verb who rest = verb ∷ decimal who.cpu.0 ∷ decimal who.seq ∷ rest

-- the line of an entry
abbrev pub entry_words : Who → What → List (List ℕ)
entry_words who (whats.Load slot line met) = verb_words (codes "load") who (decimal slot.0 ∷ decimal line ∷ met_words met)
entry_words who (whats.Store slot line met) = verb_words (codes "store") who (decimal slot.0 ∷ decimal line ∷ met_words met)
entry_words who whats.FaultIn = verb_words (codes "in") who []
entry_words who (whats.Map slot) = verb_words (codes "map") who (decimal slot.0 ∷ [])
entry_words who (whats.Free slot) = verb_words (codes "free") who (decimal slot.0 ∷ [])
entry_words who whats.Drop = verb_words (codes "drop") who []
entry_words who whats.Sync = verb_words (codes "sync") who []
entry_words who whats.Out = verb_words (codes "out") who []
entry_words who (whats.Mce slot line mask) = verb_words (codes "mce") who (decimal slot.0 ∷ decimal line ∷ hex mask.0 ∷ [])
entry_words who (whats.Fail situation required seen signals) =
    verb_words (codes "fail") who (situation_word situation ∷ (required_words required ++ decimal (length seen) ∷ decimal (length signals) ∷ []))
entry_words who whats.Soft = verb_words (codes "soft") who []

-- `seen T POLICY N`
abbrev pub seen_words : Seen → List (List ℕ)
seen_words s = codes "seen" ∷ decimal s.thread.0 ∷ policy_word s.policy ∷ decimal s.n ∷ []

-- `signal P T CODE V`
abbrev pub signal_words : Signal → List (List ℕ)
signal_words s = codes "signal" ∷ decimal s.process.0 ∷ decimal s.thread.0 ∷ code_word s.code ∷ decimal s.slot.0 ∷ []

-- the lines below an entry: of a memory failure, the policies that it read and its signals
abbrev pub lines_below : What → List (List (List ℕ))
lines_below (whats.Fail situation required seen signals) = map seen_words seen ++ map signal_words signals
lines_below _ = []

-- the lines of an entry
abbrev pub entry_lines : Entry → List (List (List ℕ))
entry_lines entry = entry_words entry.who entry.what ∷ lines_below entry.what

-- `page Q N` with the number of its entries, and the entries
abbrev pub page_lines : ℕ → List Entry → List (List (List ℕ))
page_lines number entries = (codes "page" ∷ decimal number ∷ decimal (length entries) ∷ []) ∷ flat_map entry_lines entries

-- a word and a place
abbrev pub placed : List ℕ → At → List (List ℕ)
placed word at = word ∷ decimal at.page.0 ∷ decimal at.entry ∷ []

-- an answer
abbrev pub answer_words : Answer → List (List ℕ)
answer_words (answers.Value word at) = codes "value" ∷ decimal word ∷ decimal at.page.0 ∷ decimal at.entry ∷ []
answer_words (answers.Stored at) = placed (codes "stored") at
answer_words (answers.Sigbus at) = placed (codes "sigbus") at
answer_words (answers.Gone page) = codes "gone" ∷ decimal page.0 ∷ []
answer_words answers.NoFrame = codes "noframe" ∷ []
answer_words answers.Stopped = codes "stopped" ∷ []
answer_words answers.Done = codes "done" ∷ []
answer_words (answers.DoneAt at) = placed (codes "done") at
answer_words (answers.NotResident at) = placed (codes "notresident") at
answer_words (answers.NotMapped at) = placed (codes "notmapped") at
answer_words (answers.Dirty at) = placed (codes "dirty") at
answer_words (answers.Mapped at) = placed (codes "mapped") at
answer_words (answers.Locked at) = placed (codes "locked") at
answer_words (answers.BadLines mask at) = codes "badlines" ∷ hex mask.0 ∷ decimal at.page.0 ∷ decimal at.entry ∷ []
answer_words (answers.Eio lost) = codes "eio" ∷ decimal lost ∷ []
answer_words (answers.Opened lost) = codes "opened" ∷ decimal lost ∷ []
answer_words (answers.Is policy) = codes "is" ∷ decimal policy ∷ []
answer_words answers.Einval = codes "einval" ∷ []
answer_words answers.Recovered = codes "recovered" ∷ []
answer_words answers.Delayed = codes "delayed" ∷ []
answer_words answers.Ignored = codes "ignored" ∷ []
answer_words answers.Already = codes "already" ∷ []
answer_words (answers.Moved frame at) = codes "moved" ∷ decimal frame.0 ∷ decimal at.page.0 ∷ decimal at.entry ∷ []
answer_words answers.TakenFree = codes "takenfree" ∷ []
answer_words answers.Kernel = codes "kernel" ∷ []
answer_words (answers.HasBad mask) = codes "hasbad" ∷ hex mask.0 ∷ []
answer_words answers.NotPoisoned = codes "notpoisoned" ∷ []
answer_words answers.HardwareSeen = codes "hardwareseen" ∷ []
answer_words (answers.InUse count) = codes "inuse" ∷ decimal count ∷ []
answer_words (answers.Scrubbed events) = codes "scrubbed" ∷ decimal events ∷ []
answer_words (answers.Raised events) = codes "raised" ∷ decimal events ∷ []
answer_words answers.GuestStopped = codes "gueststopped" ∷ []
answer_words answers.GuestBad = codes "guestbad" ∷ []

-- an event: the command's number, and `event BANK STATUS ADDR MISC ROW OUTCOME`
abbrev pub event_words : EventLine → List (List ℕ)
event_words e = decimal e.seq ∷ codes "event" ∷ decimal e.bank ∷ hex e.status ∷ hex e.addr ∷ hex e.misc ∷ row_word e.row ∷ acted_word e.acted ∷ []

-- a frame that a command takes out of use: its number, and `offlined F RESULT`
abbrev pub offlined_words : OfflinedLine → List (List ℕ)
offlined_words o = decimal o.seq ∷ codes "offlined" ∷ decimal o.frame.0 ∷ answer_words (offline_answer o.result)

-- the machine check of a guest: the command's number, and `guest BANK STATUS ADDR MISC ROW OUTCOME`
abbrev pub guest_words : GuestLine → List (List ℕ)
guest_words g = decimal g.seq ∷ codes "guest" ∷ decimal g.bank ∷ hex g.status ∷ hex g.addr ∷ hex g.misc ∷ row_word g.row ∷ guest_word g.stops ∷ []

-- a line of a processor: an event, a frame taken out of use, a machine check of a guest, or the command's number and its answer
abbrev pub cpu_line_words : CpuLine → List (List ℕ)
cpu_line_words (lines.Event event) = event_words event
cpu_line_words (lines.Offlined offlined) = offlined_words offlined
cpu_line_words (lines.Guest guest) = guest_words guest
cpu_line_words (lines.Answer seq answer) = decimal seq ∷ answer_words answer

-- `cpu C N` with the number of its lines, and the lines
abbrev pub cpu_lines : ℕ → List CpuLine → List (List (List ℕ))
cpu_lines number items = (codes "cpu" ∷ decimal number ∷ decimal (length items) ∷ []) ∷ map cpu_line_words items

-- the lines of a report
abbrev pub report_lines : Report → List (List (List ℕ))
report_lines report =
    head_lines report.version report.stop report.count
    ++ numbered file_lines 0 report.files
    ++ numbered frame_lines 0 report.frames
    ++ numbered page_lines 0 report.pages
    ++ numbered cpu_lines 0 report.cpus
    ++ (codes "end" ∷ []) ∷ []

-- the text of a report
abbrev pub report_text : Report → List ℕ
report_text report = flat_map line (report_lines report)
