-- The lines that were read so far.
use Rattle.std.proofs.Common.{◌≡◌, ℕ, ◌+◌, List, [], ◌∷◌, ◌++◌, length, map}
use Rattle.std.specs.Prelude.{All}
use Rattle.std.specs.List.{flat_map}
use Rattle.hwp_report_text.specs.hwp_geom.Words.{line}
use Rattle.hwp_report_text.specs.hwp_kill.declared.Signal.{Signal}
use Rattle.hwp_report_text.specs.hwp_geom.declared.Who.{Who}
use Rattle.hwp_report_text.specs.hwp_page.declared.Entry.{Entry}
use Rattle.hwp_report_text.specs.hwp_page.declared.What.{What}
use Rattle.hwp_report_text.specs.hwp_page.declared.What.TheVariants as whats
use Rattle.hwp_report_text.specs.declared.Report.{Report}
use Rattle.hwp_report_text.specs.declared.FrameLine.{FrameLine}
use Rattle.hwp_report_text.specs.declared.CpuLine.{CpuLine}
use Rattle.hwp_report.specs.declared.report_line.ReportLine.{ReportLine}
use Rattle.hwp_report.specs.declared.report_line.ReportLine.TheVariants as forms
use Rattle.hwp_report.specs.declared.partial.Front.{Front}
use Rattle.hwp_report.specs.declared.partial.Framed.{Framed}
use Rattle.hwp_report.specs.declared.partial.Paged.{Paged}
use Rattle.hwp_report.specs.declared.partial.Ran.{Ran}
use Rattle.hwp_report.specs.declared.partial.OpenPage.{OpenPage}
use Rattle.hwp_report.specs.declared.partial.OpenFailure.{OpenFailure}
use Rattle.hwp_report.specs.declared.partial.OpenCpu.{OpenCpu}
use Rattle.hwp_report.specs.declared.partial.Partial.{Partial}
use Rattle.hwp_report.specs.declared.partial.Partial.TheVariants as partials
use Rattle.hwp_report.specs.Forms.{FormFits, form_words}

-- the lines of each item of a list, with its number, counted from n
abbrev pub numbered_forms : {A : Type 0} → (ℕ → A → List ReportLine) → ℕ → List A → List ReportLine
numbered_forms forms_of n [] = []
numbered_forms forms_of n (x ∷ xs) = forms_of n x ++ numbered_forms forms_of (n + 1) xs

-- a file
abbrev pub file_forms : ℕ → ℕ → List ReportLine
file_forms number lost = forms.File number lost ∷ []

-- a frame, and its record
abbrev pub frame_forms : ℕ → FrameLine → List ReportLine
frame_forms number frame = forms.Frame number frame.place frame.bad frame.weak ∷ map forms.Mark frame.marks

-- an entry, and the lines below it
abbrev pub what_forms : Who → What → List ReportLine
what_forms who (whats.Fail situation required seen signals) =
    forms.Fail (record { who = who; situation = situation; required = required; seen = length seen; signals = length signals })
    ∷ (map forms.Seen seen ++ map forms.Signal signals)
what_forms who what = forms.Entry (record { who = who; what = what }) ∷ []

abbrev pub entry_forms : Entry → List ReportLine
entry_forms entry = what_forms entry.who entry.what

-- a page, and its history
abbrev pub page_forms : ℕ → List Entry → List ReportLine
page_forms number entries = forms.Page number (length entries) ∷ flat_map entry_forms entries

-- a processor, and its lines
abbrev pub cpu_forms : ℕ → List CpuLine → List ReportLine
cpu_forms number lines = forms.Cpu number (length lines) ∷ map forms.CpuLine lines

-- the lines of the parts
abbrev pub front_forms : Front → List ReportLine
front_forms front = forms.Header front.version ∷ forms.Stop front.stop ∷ forms.Count front.count ∷ numbered_forms file_forms 0 front.files

abbrev pub framed_forms : Framed → List ReportLine
framed_forms framed = front_forms framed.front ++ numbered_forms frame_forms 0 framed.frames

abbrev pub paged_forms : Paged → List ReportLine
paged_forms paged = framed_forms paged.framed ++ numbered_forms page_forms 0 paged.pages

abbrev pub ran_forms : Ran → List ReportLine
ran_forms ran = paged_forms ran.paged ++ numbered_forms cpu_forms 0 ran.cpus

-- the parts of a report
abbrev pub parts_of : Report → Ran
parts_of report = record {
  paged = record {
    framed = record {
      front = record { version = report.version; stop = report.stop; count = report.count; files = report.files };
      frames = report.frames;
    };
    pages = report.pages;
  };
  cpus = report.cpus;
}

-- the lines of a report
abbrev pub report_forms : Report → List ReportLine
report_forms report = ran_forms (parts_of report) ++ forms.End ∷ []

-- the lines of the page in hand
abbrev pub page_in_hand : OpenPage → List ReportLine
page_in_hand page = paged_forms page.paged ++ forms.Page (length page.paged.pages) page.count ∷ flat_map entry_forms page.entries

-- the lines of the failure in hand, while its policies are read
abbrev pub policies_in_hand : OpenFailure → List ReportLine
policies_in_hand f = forms.Fail f.line ∷ map forms.Seen f.seen

-- the same, while its signals are read
abbrev pub signals_in_hand : OpenFailure → List Signal → List ReportLine
signals_in_hand f signals = forms.Fail (record f.line { seen = length f.seen }) ∷ (map forms.Seen f.seen ++ map forms.Signal signals)

-- the lines of the processor in hand
abbrev pub cpu_in_hand : OpenCpu → List ReportLine
cpu_in_hand cpu = ran_forms cpu.ran ++ forms.Cpu (length cpu.ran.cpus) cpu.count ∷ map forms.CpuLine cpu.lines

-- the lines that were read so far
abbrev pub lines_read : Partial → List ReportLine
lines_read partials.Nothing = []
lines_read (partials.Headed version) = forms.Header version ∷ []
lines_read (partials.Stopped version stop) = forms.Header version ∷ forms.Stop stop ∷ []
lines_read (partials.Files front) = front_forms front
lines_read (partials.Frames framed frame) = framed_forms framed ++ frame_forms (length framed.frames) frame
lines_read (partials.Pages page) = page_in_hand page
lines_read (partials.Seeing page failure) = page_in_hand page ++ policies_in_hand failure
lines_read (partials.Signalling page failure signals) = page_in_hand page ++ signals_in_hand failure signals
lines_read (partials.Cpus cpu) = cpu_in_hand cpu
lines_read (partials.Whole report) = report_forms report

-- the text of lines
abbrev pub forms_text : List ReportLine → List ℕ
forms_text fs = flat_map (λ f. line (form_words f)) fs

-- the bytes were read so far as this, and what is left of them begins with the line of this number
pub record IsReadSoFar (bytes : List ℕ) (partial : Partial) (rest : List ℕ) (n : ℕ) : Type 0 where
  pub same : bytes ≡ forms_text (lines_read partial) ++ rest
  pub fits : All FormFits (lines_read partial)
  pub number : n ≡ length (lines_read partial) + 1
