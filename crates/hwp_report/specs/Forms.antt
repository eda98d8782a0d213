-- The lines of a report as data, and the words of each.
use Rattle.std.specs.Prelude.{◌≡◌, ℕ, ◌^◌, ◌<◌, List, [], ◌∷◌, ◌++◌, codes, decimal, Option, Some, IfSome, MatchOption}
use Rattle.hwp_report_text.specs.hwp_geom.Words.{line as line_text}
use Rattle.hwp_report_text.specs.declared.MarkLine.{MarkLine}
use Rattle.hwp_report_text.specs.Terms.{version_word}
use Rattle.hwp_report_text.specs.ReportText.{stop_words, frame_words, mark_words, entry_words, seen_words, signal_words, cpu_line_words}
use Rattle.hwp_report_words.specs.Reads.{IsReadAs}
use Rattle.hwp_report.specs.Fits.{PlaceFits, MarkFits}
use Rattle.hwp_report_words.specs.pages.Fits.{PlainEntryFits, FailFits, SeenFits, SignalFits}
use Rattle.hwp_report_words.specs.pages.Words.{failure_words}
use Rattle.hwp_report_words.specs.Fits.{StopFits, CpuLineFits}
use Rattle.hwp_report.specs.declared.report_line.ReportLine.{ReportLine}
use Rattle.hwp_report.specs.declared.report_line.ReportLine.TheVariants as forms
use Rattle.hwp_report.specs.declared.heads.Head.{Head}
use Rattle.hwp_report.specs.Heads.{head_of, head_text, mark_head}

-- the words of a line, as they are printed
abbrev pub form_words : ReportLine → List (List ℕ)
form_words (forms.Header version) = codes "hwp-report" ∷ version_word version ∷ []
form_words (forms.Stop stop) = stop_words stop
form_words (forms.Count count) = codes "count" ∷ decimal count ∷ []
form_words (forms.File number lost) = codes "file" ∷ decimal number ∷ codes "lost" ∷ decimal lost ∷ []
form_words (forms.Frame number place bad weak) = frame_words number (record { place = place; bad = bad; weak = weak; marks = [] })
form_words (forms.Mark mark) = mark_words mark
form_words (forms.Page number entries) = codes "page" ∷ decimal number ∷ decimal entries ∷ []
form_words (forms.Entry entry) = entry_words entry.who entry.what
form_words (forms.Fail failure) = failure_words failure
form_words (forms.Seen seen) = seen_words seen
form_words (forms.Signal signal) = signal_words signal
form_words (forms.Cpu number lines) = codes "cpu" ∷ decimal number ∷ decimal lines ∷ []
form_words (forms.CpuLine line) = cpu_line_words line
form_words forms.End = codes "end" ∷ []

-- each number of a line is within its type
abbrev pub FormFits : ReportLine → Type 0
FormFits (forms.Header version) = Unit {0}
FormFits (forms.Stop stop) = IfSome stop StopFits
FormFits (forms.Count count) = count < 2 ^ 64
FormFits (forms.File number lost) = (number < 2 ^ 64) × (lost < 2 ^ 64)
FormFits (forms.Frame number place bad weak) = (number < 2 ^ 64) × PlaceFits place × (bad.0 < 2 ^ 64) × (weak.0 < 2 ^ 64)
FormFits (forms.Mark mark) = MarkFits mark
FormFits (forms.Page number entries) = (number < 2 ^ 64) × (entries < 2 ^ 64)
FormFits (forms.Entry entry) = PlainEntryFits entry
FormFits (forms.Fail failure) = FailFits failure
FormFits (forms.Seen seen) = SeenFits seen
FormFits (forms.Signal signal) = SignalFits signal
FormFits (forms.Cpu number lines) = (number < 2 ^ 64) × (lines < 2 ^ 64)
FormFits (forms.CpuLine line) = CpuLineFits line
FormFits forms.End = Unit {0}

-- the words behind this first word are read as the line that they are of
abbrev pub IsRestRead : Head → List (List ℕ) → Option ReportLine → Type 0
IsRestRead head ws read =
    MatchOption read
    ((f : ReportLine) → head_of f ≡ Some head → FormFits f → head_text head ∷ ws ≡ form_words f → ⊥)
    (λ f. FormFits f × (head_text head ∷ ws ≡ form_words f))

-- the words behind this first word are read as the mark that they are of
abbrev pub IsMarkRead : Head → List (List ℕ) → Option MarkLine → Type 0
IsMarkRead head ws read =
    MatchOption read
    ((m : MarkLine) → mark_head m ≡ head → MarkFits m → head_text head ∷ ws ≡ mark_words m → ⊥)
    (λ m. MarkFits m × (head_text head ∷ ws ≡ mark_words m))

-- the words are read as the line that they are of
abbrev pub IsFormRead : List (List ℕ) → Option ReportLine → Type 0
IsFormRead ws read = IsReadAs FormFits form_words ws read

-- the bytes of a line without its line feed are read as the line that they are of
abbrev pub IsLineRead : List ℕ → Option ReportLine → Type 0
IsLineRead bytes read = IsReadAs FormFits (λ f. line_text (form_words f)) (bytes ++ 10 ∷ []) read
