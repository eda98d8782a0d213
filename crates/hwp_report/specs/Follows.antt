-- Which line may follow what was read of a report so far, and what is read with it.
use Rattle.std.specs.Prelude.{◌≡◌, ℕ, ◌==◌, ◌⊎◌, if◌then◌else◌, List, [], ◌∷◌, ◌++◌, length, Option, Some, None}
use Rattle.hwp_report_text.specs.hwp_geom.Words.{line as line_text}
use Rattle.hwp_report_text.specs.hwp_geom.declared.Version.{Version}
use Rattle.hwp_report_text.specs.hwp_kill.Limits.{signal_limit}
use Rattle.hwp_report_text.specs.hwp_kill.declared.Signal.{Signal}
use Rattle.hwp_report_text.specs.hwp_page.declared.Entry.{Entry}
use Rattle.hwp_report_text.specs.hwp_page.declared.What.TheVariants as whats
use Rattle.hwp_report_text.specs.declared.Report.{Report}
use Rattle.hwp_report_text.specs.declared.Stop.{Stop}
use Rattle.hwp_report_text.specs.declared.FrameLine.{FrameLine}
use Rattle.hwp_report.specs.declared.report_line.ReportLine.{ReportLine}
use Rattle.hwp_report.specs.declared.report_line.ReportLine.TheVariants as forms
use Rattle.hwp_report.specs.declared.partial.Front.{Front}
use Rattle.hwp_report.specs.declared.partial.Framed.{Framed}
use Rattle.hwp_report.specs.declared.partial.Paged.{Paged}
use Rattle.hwp_report.specs.declared.partial.Ran.{Ran}
use Rattle.hwp_report.specs.declared.partial.OpenPage.{OpenPage}
use Rattle.hwp_report.specs.declared.partial.OpenFailure.{OpenFailure}
use Rattle.hwp_report.specs.declared.partial.OpenCpu.{OpenCpu}
use Rattle.hwp_report.specs.declared.partial.Partial.{Partial}
use Rattle.hwp_report.specs.declared.partial.Partial.TheVariants as partials
use Rattle.hwp_report.specs.Forms.{FormFits, form_words}

-- the report of these parts
abbrev pub report_of : Ran → Report
report_of ran = record {
  version = ran.paged.framed.front.version;
  stop = ran.paged.framed.front.stop;
  count = ran.paged.framed.front.count;
  files = ran.paged.framed.front.files;
  frames = ran.paged.framed.frames;
  pages = ran.paged.pages;
  cpus = ran.cpus;
}

-- the entry of a failure whose lines were all read
abbrev pub entry_of : OpenFailure → List Signal → Entry
entry_of f signals = record { who = f.line.who; what = whats.Fail f.line.situation f.line.required f.seen signals }

-- with the last of its signals, a failure is an entry
abbrev pub signals_so_far : OpenPage → OpenFailure → List Signal → Partial
signals_so_far page f signals =
    if length signals == f.line.signals
    then partials.Pages (record page { entries = page.entries ++ entry_of f signals ∷ [] })
    else partials.Signalling page f signals

-- with the last of its policies, a failure comes to its signals
abbrev pub seen_so_far : OpenPage → OpenFailure → Partial
seen_so_far page f = if length f.seen == f.line.seen then signals_so_far page f [] else partials.Seeing page f

abbrev pub after_nothing : ReportLine → Option Partial
after_nothing (forms.Header version) = Some (partials.Headed version)
after_nothing line = None

abbrev pub after_head : Version → ReportLine → Option Partial
after_head version (forms.Stop stop) = Some (partials.Stopped version stop)
after_head version line = None

abbrev pub after_stop : Version → Option Stop → ReportLine → Option Partial
after_stop version stop (forms.Count count) = Some (partials.Files (record { version = version; stop = stop; count = count; files = [] }))
after_stop version stop line = None

-- the next processor, or the end
abbrev pub open_cpu : Ran → ReportLine → Option Partial
open_cpu ran (forms.Cpu number lines) =
    if number == length ran.cpus then Some (partials.Cpus (record { ran = ran; count = lines; lines = [] })) else None
open_cpu ran forms.End = Some (partials.Whole (report_of ran))
open_cpu ran line = None

-- the next page, or what may follow the pages
abbrev pub open_page : Paged → ReportLine → Option Partial
open_page paged (forms.Page number entries) =
    if number == length paged.pages then Some (partials.Pages (record { paged = paged; count = entries; entries = [] })) else None
open_page paged line = open_cpu (record { paged = paged; cpus = [] }) line

-- the next frame, or what may follow the frames
abbrev pub open_frame : Framed → ReportLine → Option Partial
open_frame framed (forms.Frame number place bad weak) =
    if number == length framed.frames
    then Some (partials.Frames framed (record { place = place; bad = bad; weak = weak; marks = [] }))
    else None
open_frame framed line = open_page (record { framed = framed; pages = [] }) line

-- the next file, or what may follow the files
abbrev pub after_files : Front → ReportLine → Option Partial
after_files front (forms.File number lost) =
    if number == length front.files then Some (partials.Files (record front { files = front.files ++ lost ∷ [] })) else None
after_files front line = open_frame (record { front = front; frames = [] }) line

-- a mark of the frame in hand, or what may follow the frame
abbrev pub after_frame : Framed → FrameLine → ReportLine → Option Partial
after_frame framed frame (forms.Mark mark) = Some (partials.Frames framed (record frame { marks = frame.marks ++ mark ∷ [] }))
after_frame framed frame line = open_frame (record framed { frames = framed.frames ++ frame ∷ [] }) line

-- an entry of the page in hand
abbrev pub add_entry : OpenPage → ReportLine → Option Partial
add_entry page (forms.Entry entry) = Some (partials.Pages (record page { entries = page.entries ++ entry ∷ [] }))
add_entry page (forms.Fail failure) = Some (seen_so_far page (record { line = failure; seen = [] }))
add_entry page line = None

-- an entry of the page in hand, or what may follow the page
abbrev pub after_entry : OpenPage → ReportLine → Option Partial
after_entry page line =
    if length page.entries == page.count
    then open_page (record page.paged { pages = page.paged.pages ++ page.entries ∷ [] }) line
    else add_entry page line

-- a policy of the failure in hand
abbrev pub after_seen : OpenPage → OpenFailure → ReportLine → Option Partial
after_seen page f (forms.Seen seen) = Some (seen_so_far page (record f { seen = f.seen ++ seen ∷ [] }))
after_seen page f line = None

-- a signal of the failure in hand
abbrev pub after_signal : OpenPage → OpenFailure → List Signal → ReportLine → Option Partial
after_signal page f signals (forms.Signal signal) =
    if length signals == signal_limit then None else Some (signals_so_far page f (signals ++ signal ∷ []))
after_signal page f signals line = None

-- a line of the processor in hand
abbrev pub add_line : OpenCpu → ReportLine → Option Partial
add_line cpu (forms.CpuLine item) = Some (partials.Cpus (record cpu { lines = cpu.lines ++ item ∷ [] }))
add_line cpu line = None

-- a line of the processor in hand, or what may follow the processor
abbrev pub after_line : OpenCpu → ReportLine → Option Partial
after_line cpu line =
    if length cpu.lines == cpu.count
    then open_cpu (record cpu.ran { cpus = cpu.ran.cpus ++ cpu.lines ∷ [] }) line
    else add_line cpu line

-- what is read with one line more, if the line may follow
abbrev pub follow : Partial → ReportLine → Option Partial
follow partials.Nothing line = after_nothing line
follow (partials.Headed version) line = after_head version line
follow (partials.Stopped version stop) line = after_stop version stop line
follow (partials.Files front) line = after_files front line
follow (partials.Frames framed frame) line = after_frame framed frame line
follow (partials.Pages page) line = after_entry page line
follow (partials.Seeing page failure) line = after_seen page failure line
follow (partials.Signalling page failure signals) line = after_signal page failure signals line
follow (partials.Cpus cpu) line = after_line cpu line
follow (partials.Whole report) line = None

-- the line of this form may follow what was read, and is read with it
pub record IsNext (partial : Partial) (bytes : List ℕ) (next : Partial) : Type 0 where
  pub form : ReportLine
  pub fits : FormFits form
  pub same : bytes ++ 10 ∷ [] ≡ line_text (form_words form)
  pub follows : follow partial form ≡ Some next

-- the bytes are no line, or a line that may not follow what was read
abbrev pub IsRefused : Partial → List ℕ → Type 0
IsRefused partial bytes =
    ((f : ReportLine) → FormFits f → bytes ++ 10 ∷ [] ≡ line_text (form_words f) → ⊥)
    ⊎ ((f : ReportLine) × FormFits f × (bytes ++ 10 ∷ [] ≡ line_text (form_words f)) × (follow partial f ≡ None))
