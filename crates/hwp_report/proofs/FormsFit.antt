-- The lines of a report that fits fit.
use Rattle.std.proofs.Common.{ℕ, ◌+◌, ◌<◌, ◌≤◌, ◌^◌, List, [], ◌∷◌, ◌++◌, length, map, arith}
use Rattle.std.specs.Prelude.{All}
use Rattle.std.specs.List.{flat_map}
use Rattle.std.proofs.lemmas.List.Elements.{All-nil, All-cons, All-head, All-tail, All-append, All-map}
use Rattle.hwp_report_text.specs.hwp_geom.declared.Who.{Who}
use Rattle.hwp_report_text.specs.hwp_page.declared.Entry.{Entry}
use Rattle.hwp_report_text.specs.hwp_page.declared.What.{What}
use Rattle.hwp_report_text.specs.hwp_page.declared.What.TheVariants as whats
use Rattle.hwp_report_text.specs.declared.Report.{Report}
use Rattle.hwp_report_text.specs.declared.FrameLine.{FrameLine}
use Rattle.hwp_report_text.specs.declared.CpuLine.{CpuLine}
use Rattle.hwp_report.specs.declared.report_line.ReportLine.{ReportLine}
use Rattle.hwp_report.specs.declared.report_line.ReportLine.TheVariants as forms
use Rattle.hwp_report.specs.Fits.{ReportFits, ListFits, FrameFits, most_told}
use Rattle.hwp_report_words.specs.pages.Fits.{EntryFits}
use Rattle.hwp_report_words.specs.Fits.{CpuLineFits}
use Rattle.hwp_report.specs.Forms.{FormFits}
use Rattle.hwp_report.proofs.LinesRead.{numbered_forms, file_forms, frame_forms, what_forms, entry_forms, page_forms, cpu_forms, parts_of, front_forms, framed_forms, paged_forms, ran_forms, report_forms}

of_file : (n lost : ℕ) → n < 2 ^ 64 → lost < 2 ^ 64 → All FormFits (file_forms n lost)
of_file n lost a b = All-cons FormFits (forms.File n lost) [] (a, b) (All-nil FormFits)

of_frame : (n : ℕ) (frame : FrameLine) → n < 2 ^ 64 → FrameFits frame → All FormFits (frame_forms n frame)
of_frame n frame a h =
    All-cons FormFits (forms.Frame n frame.place frame.bad frame.weak) (map forms.Mark frame.marks) (a, h.place, h.bad, h.weak)
    (All-map FormFits forms.Mark frame.marks h.marks)

of_what : (who : Who) (what : What) → EntryFits (record { who = who; what = what }) → All FormFits (what_forms who what)
of_what who (whats.Fail situation required seen signals) h =
    All-cons FormFits _ (map forms.Seen seen ++ map forms.Signal signals)
    (record { who = h.0; required = h.1.thread; seen = h.1.countable; signals = h.1.few })
    (All-append FormFits (map forms.Seen seen) (map forms.Signal signals) (All-map FormFits forms.Seen seen h.1.policies) (All-map FormFits forms.Signal signals h.1.each))
of_what who what h = All-cons FormFits (forms.Entry (record { who = who; what = what })) [] h (All-nil FormFits)

of_entries : (es : List Entry) → All EntryFits es → All FormFits (flat_map entry_forms es)
of_entries [] h = All-nil FormFits
of_entries (e ∷ es) h =
    All-append FormFits (entry_forms e) (flat_map entry_forms es) (of_what e.who e.what (All-head EntryFits e es h)) (of_entries es (All-tail EntryFits e es h))

of_page : (n : ℕ) (entries : List Entry) → n < 2 ^ 64 → ListFits EntryFits most_told entries → All FormFits (page_forms n entries)
of_page n entries a h =
    All-cons FormFits (forms.Page n (length entries)) (flat_map entry_forms entries) (a, omega (arith, h.few)) (of_entries entries h.each)

of_cpu : (n : ℕ) (lines : List CpuLine) → n < 2 ^ 64 → ListFits CpuLineFits most_told lines → All FormFits (cpu_forms n lines)
of_cpu n lines a h =
    All-cons FormFits (forms.Cpu n (length lines)) (map forms.CpuLine lines) (a, omega (arith, h.few)) (All-map FormFits forms.CpuLine lines h.each)

of_numbered : {X : Type 0} (forms_of : ℕ → X → List ReportLine) (Fits : X → Type 0) → ((n : ℕ) (x : X) → n < 2 ^ 64 → Fits x → All FormFits (forms_of n x))
    → (n : ℕ) (xs : List X) → n + length xs ≤ 2 ^ 64 → All Fits xs → All FormFits (numbered_forms forms_of n xs)
of_numbered forms_of Fits each n [] few h = All-nil FormFits
of_numbered forms_of Fits each n (x ∷ xs) few h =
    All-append FormFits (forms_of n x) (numbered_forms forms_of (n + 1) xs)
    (each n x (omega arith) (All-head Fits x xs h)) (of_numbered forms_of Fits each (n + 1) xs (omega arith) (All-tail Fits x xs h))

pub forms_fit : (report : Report) → ReportFits report → All FormFits (report_forms report)
forms_fit report h =
    let ran = parts_of report in
    let files = of_numbered file_forms (λ lost. lost < 2 ^ 64) of_file 0 report.files (omega (arith, h.files.few)) h.files.each in
    let frames = of_numbered frame_forms FrameFits of_frame 0 report.frames (omega (arith, h.frames.few)) h.frames.each in
    let pages = of_numbered page_forms (ListFits EntryFits most_told) of_page 0 report.pages (omega (arith, h.pages.few)) h.pages.each in
    let cpus = of_numbered cpu_forms (ListFits CpuLineFits most_told) of_cpu 0 report.cpus (omega (arith, h.cpus.few)) h.cpus.each in
    let front : All FormFits (front_forms ran.paged.framed.front) =
    All-cons FormFits (forms.Header report.version) (forms.Stop report.stop ∷ forms.Count report.count ∷ numbered_forms file_forms 0 report.files) tt
    (All-cons FormFits (forms.Stop report.stop) (forms.Count report.count ∷ numbered_forms file_forms 0 report.files) h.stop
    (All-cons FormFits (forms.Count report.count) (numbered_forms file_forms 0 report.files) h.count files)) in
    All-append FormFits (ran_forms ran) (forms.End ∷ [])
    (All-append FormFits (paged_forms ran.paged) (numbered_forms cpu_forms 0 report.cpus)
    (All-append FormFits (framed_forms ran.paged.framed) (numbered_forms page_forms 0 report.pages)
    (All-append FormFits (front_forms ran.paged.framed.front) (numbered_forms frame_forms 0 report.frames) front frames) pages) cpus)
    (All-cons FormFits forms.End [] tt (All-nil FormFits))
