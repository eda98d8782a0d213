-- The text of a report is the text of its lines.
use Rattle.std.proofs.Common.{◌≡◌, ℕ, ◌+◌, List, [], ◌∷◌, ◌++◌, length, map, codes, decimal, refl, ap, ◌∙◌}
use Rattle.std.specs.List.{flat_map}
use Rattle.std.proofs.lemmas.List.{map-append}
use Rattle.hwp_report_text.specs.hwp_geom.Words.{line}
use Rattle.hwp_report_text.specs.hwp_geom.declared.Who.{Who}
use Rattle.hwp_report_text.specs.hwp_kill.declared.Seen.{Seen}
use Rattle.hwp_report_text.specs.hwp_kill.declared.Signal.{Signal}
use Rattle.hwp_report_text.specs.hwp_page.declared.Entry.{Entry}
use Rattle.hwp_report_text.specs.hwp_page.declared.What.{What}
use Rattle.hwp_report_text.specs.hwp_page.declared.What.TheVariants as whats
use Rattle.hwp_report_text.specs.declared.Report.{Report}
use Rattle.hwp_report_text.specs.declared.FrameLine.{FrameLine}
use Rattle.hwp_report_text.specs.declared.MarkLine.{MarkLine}
use Rattle.hwp_report_text.specs.declared.CpuLine.{CpuLine}
use Rattle.hwp_report_text.specs.ReportText.{numbered, file_lines, frame_lines, page_lines, cpu_lines, mark_words, entry_words, entry_lines, lines_below, seen_words, signal_words, cpu_line_words, report_lines, report_text}
use Rattle.hwp_report.specs.declared.report_line.ReportLine.{ReportLine}
use Rattle.hwp_report.specs.declared.report_line.ReportLine.TheVariants as forms
use Rattle.hwp_report.specs.Forms.{form_words}
use Rattle.hwp_report.proofs.LinesRead.{numbered_forms, file_forms, frame_forms, what_forms, entry_forms, page_forms, cpu_forms, report_forms, forms_text}

words_of_marks : (ms : List MarkLine) → map form_words (map forms.Mark ms) ≡ map mark_words ms
words_of_marks [] = refl
words_of_marks (m ∷ ms) = ap (λ t. mark_words m ∷ t) (words_of_marks ms)

words_of_seen : (ss : List Seen) → map form_words (map forms.Seen ss) ≡ map seen_words ss
words_of_seen [] = refl
words_of_seen (s ∷ ss) = ap (λ t. seen_words s ∷ t) (words_of_seen ss)

words_of_signals : (ss : List Signal) → map form_words (map forms.Signal ss) ≡ map signal_words ss
words_of_signals [] = refl
words_of_signals (s ∷ ss) = ap (λ t. signal_words s ∷ t) (words_of_signals ss)

words_of_cpu_lines : (ls : List CpuLine) → map form_words (map forms.CpuLine ls) ≡ map cpu_line_words ls
words_of_cpu_lines [] = refl
words_of_cpu_lines (l ∷ ls) = ap (λ t. cpu_line_words l ∷ t) (words_of_cpu_lines ls)

words_of_what : (who : Who) (what : What) → map form_words (what_forms who what) ≡ entry_words who what ∷ lines_below what
words_of_what who (whats.Fail situation required seen signals) =
    ap (λ t. entry_words who (whats.Fail situation required seen signals) ∷ t)
    (map-append form_words (map forms.Seen seen) (map forms.Signal signals)
    ∙ ap (λ t. t ++ map form_words (map forms.Signal signals)) (words_of_seen seen)
    ∙ ap (λ t. map seen_words seen ++ t) (words_of_signals signals))
words_of_what who what = refl

words_of_entries : (es : List Entry) → map form_words (flat_map entry_forms es) ≡ flat_map entry_lines es
words_of_entries [] = refl
words_of_entries (e ∷ es) =
    map-append form_words (entry_forms e) (flat_map entry_forms es)
    ∙ ap (λ t. t ++ map form_words (flat_map entry_forms es)) (words_of_what e.who e.what)
    ∙ ap (λ t. entry_lines e ++ t) (words_of_entries es)

words_of_file : (n lost : ℕ) → map form_words (file_forms n lost) ≡ file_lines n lost
words_of_file n lost = refl

words_of_frame : (n : ℕ) (frame : FrameLine) → map form_words (frame_forms n frame) ≡ frame_lines n frame
words_of_frame n frame = ap (λ t. form_words (forms.Frame n frame.place frame.bad frame.weak) ∷ t) (words_of_marks frame.marks)

words_of_page : (n : ℕ) (entries : List Entry) → map form_words (page_forms n entries) ≡ page_lines n entries
words_of_page n entries = ap (λ t. (codes "page" ∷ decimal n ∷ decimal (length entries) ∷ []) ∷ t) (words_of_entries entries)

words_of_cpu : (n : ℕ) (lines : List CpuLine) → map form_words (cpu_forms n lines) ≡ cpu_lines n lines
words_of_cpu n lines = ap (λ t. (codes "cpu" ∷ decimal n ∷ decimal (length lines) ∷ []) ∷ t) (words_of_cpu_lines lines)

words_of_numbered : {A : Type 0} (forms_of : ℕ → A → List ReportLine) (lines_of : ℕ → A → List (List (List ℕ)))
    → ((n : ℕ) (x : A) → map form_words (forms_of n x) ≡ lines_of n x)
    → (n : ℕ) (xs : List A) → map form_words (numbered_forms forms_of n xs) ≡ numbered lines_of n xs
words_of_numbered forms_of lines_of each n [] = refl
words_of_numbered forms_of lines_of each n (x ∷ xs) =
    map-append form_words (forms_of n x) (numbered_forms forms_of (n + 1) xs)
    ∙ ap (λ t. t ++ map form_words (numbered_forms forms_of (n + 1) xs)) (each n x)
    ∙ ap (λ t. lines_of n x ++ t) (words_of_numbered forms_of lines_of each (n + 1) xs)

words_of_parts : (a b c d e : List ReportLine)
    → map form_words (a ++ b ++ c ++ d ++ e)
    ≡ map form_words a ++ map form_words b ++ map form_words c ++ map form_words d ++ map form_words e
words_of_parts a b c d e =
    map-append form_words (a ++ b ++ c ++ d) e
    ∙ ap (λ t. t ++ map form_words e)
    (map-append form_words (a ++ b ++ c) d
    ∙ ap (λ t. t ++ map form_words d)
    (map-append form_words (a ++ b) c ∙ ap (λ t. t ++ map form_words c) (map-append form_words a b)))

-- the lines of a report are the words of its forms
pub words_of_report : (report : Report) → map form_words (report_forms report) ≡ report_lines report
words_of_report report =
    let files = words_of_numbered file_forms file_lines words_of_file 0 report.files in
    let frames = words_of_numbered frame_forms frame_lines words_of_frame 0 report.frames in
    let pages = words_of_numbered page_forms page_lines words_of_page 0 report.pages in
    let cpus = words_of_numbered cpu_forms cpu_lines words_of_cpu 0 report.cpus in
    words_of_parts (forms.Header report.version ∷ forms.Stop report.stop ∷ forms.Count report.count ∷ numbered_forms file_forms 0 report.files)
    (numbered_forms frame_forms 0 report.frames) (numbered_forms page_forms 0 report.pages) (numbered_forms cpu_forms 0 report.cpus) (forms.End ∷ [])
    ∙ rw (files, frames, pages, cpus) refl

pub text_of_words : (fs : List ReportLine) → forms_text fs ≡ flat_map line (map form_words fs)
text_of_words [] = refl
text_of_words (f ∷ fs) = ap (λ t. line (form_words f) ++ t) (text_of_words fs)

-- the text of a report
pub text_of_report : (report : Report) → forms_text (report_forms report) ≡ report_text report
text_of_report report = text_of_words (report_forms report) ∙ ap (flat_map line) (words_of_report report)
