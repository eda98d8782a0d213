-- A report whose lines fit, fits.
use Rattle.std.proofs.Common.{ℕ, ◌+◌, ◌<◌, ◌≤◌, ◌^◌, List, [], ◌∷◌, ◌++◌, length, map, arith}
use Rattle.std.specs.Prelude.{All}
use Rattle.std.specs.List.{flat_map}
use Rattle.std.proofs.lemmas.List.Elements.{All-nil, All-cons, All-head, All-tail}
use Rattle.hwp_report_text.specs.hwp_geom.declared.Who.{Who}
use Rattle.hwp_report_text.specs.hwp_page.declared.Entry.{Entry}
use Rattle.hwp_report_text.specs.hwp_page.declared.What.{What}
use Rattle.hwp_report_text.specs.hwp_page.declared.What.TheVariants as whats
use Rattle.hwp_report_text.specs.declared.Report.{Report}
use Rattle.hwp_report_text.specs.declared.FrameLine.{FrameLine}
use Rattle.hwp_report_text.specs.declared.CpuLine.{CpuLine}
use Rattle.hwp_report.specs.declared.report_line.ReportLine.{ReportLine}
use Rattle.hwp_report.specs.declared.report_line.ReportLine.TheVariants as forms
use Rattle.hwp_report.specs.Fits.{ReportFits, ListFits, FrameFits, most_numbered, most_told, MarkFits}
use Rattle.hwp_report_words.specs.pages.Fits.{EntryFits, SeenFits, SignalFits}
use Rattle.hwp_report_words.specs.Fits.{CpuLineFits}
use Rattle.hwp_report.specs.Forms.{FormFits}
use Rattle.hwp_report.proofs.LinesRead.{numbered_forms, file_forms, frame_forms, what_forms, entry_forms, page_forms, cpu_forms, parts_of, front_forms, framed_forms, paged_forms, ran_forms, report_forms}

All-front : {X : Type 0} (P : X → Type 0) (xs ys : List X) → All P (xs ++ ys) → All P xs
All-front P [] ys h = All-nil P
All-front P (x ∷ xs) ys h = All-cons P x xs (All-head P x (xs ++ ys) h) (All-front P xs ys (All-tail P x (xs ++ ys) h))

All-back : {X : Type 0} (P : X → Type 0) (xs ys : List X) → All P (xs ++ ys) → All P ys
All-back P [] ys h = h
All-back P (x ∷ xs) ys h = All-back P xs ys (All-tail P x (xs ++ ys) h)

-- what fits of lines fits of that which they are of
fits_of : {X : Type 0} (form_of : X → ReportLine) (Fits : X → Type 0) → ((x : X) → FormFits (form_of x) → Fits x)
    → (xs : List X) → All FormFits (map form_of xs) → All Fits xs
fits_of form_of Fits each [] h = All-nil Fits
fits_of form_of Fits each (x ∷ xs) h =
    All-cons Fits x xs (each x (All-head FormFits (form_of x) (map form_of xs) h)) (fits_of form_of Fits each xs (All-tail FormFits (form_of x) (map form_of xs) h))

file_fits : (n lost : ℕ) → All FormFits (file_forms n lost) → (n < 2 ^ 64) × (lost < 2 ^ 64)
file_fits n lost h = All-head FormFits (forms.File n lost) [] h

frame_fits : (n : ℕ) (frame : FrameLine) → All FormFits (frame_forms n frame) → (n < 2 ^ 64) × FrameFits frame
frame_fits n frame h =
    let head = All-head FormFits (forms.Frame n frame.place frame.bad frame.weak) (map forms.Mark frame.marks) h in
    let rest = All-tail FormFits (forms.Frame n frame.place frame.bad frame.weak) (map forms.Mark frame.marks) h in
    (head.0, record { place = head.1; bad = head.2; weak = head.3; marks = fits_of forms.Mark MarkFits (λ m k. k) frame.marks rest })

what_fits : (who : Who) (what : What) → All FormFits (what_forms who what) → EntryFits (record { who = who; what = what })
what_fits who (whats.Fail situation required seen signals) h =
    let line = forms.Fail (record { who = who; situation = situation; required = required; seen = length seen; signals = length signals }) in
    let head = All-head FormFits line (map forms.Seen seen ++ map forms.Signal signals) h in
    let rest = All-tail FormFits line (map forms.Seen seen ++ map forms.Signal signals) h in (
      head.who,
      record {
        thread = head.required;
        policies = fits_of forms.Seen SeenFits (λ s k. k) seen (All-front FormFits (map forms.Seen seen) (map forms.Signal signals) rest);
        countable = head.seen;
        each = fits_of forms.Signal SignalFits (λ s k. k) signals (All-back FormFits (map forms.Seen seen) (map forms.Signal signals) rest);
        few = head.signals;
      },
    )
what_fits who what h = All-head FormFits (forms.Entry (record { who = who; what = what })) [] h

entries_fit : (es : List Entry) → All FormFits (flat_map entry_forms es) → All EntryFits es
entries_fit [] h = All-nil EntryFits
entries_fit (e ∷ es) h =
    All-cons EntryFits e es (what_fits e.who e.what (All-front FormFits (entry_forms e) (flat_map entry_forms es) h))
    (entries_fit es (All-back FormFits (entry_forms e) (flat_map entry_forms es) h))

page_fits : (n : ℕ) (entries : List Entry) → All FormFits (page_forms n entries) → (n < 2 ^ 64) × ListFits EntryFits most_told entries
page_fits n entries h =
    let head = All-head FormFits (forms.Page n (length entries)) (flat_map entry_forms entries) h in
    let rest = All-tail FormFits (forms.Page n (length entries)) (flat_map entry_forms entries) h in
    (head.0, record { each = entries_fit entries rest; few = omega (arith, head.1) })

cpu_fits : (n : ℕ) (lines : List CpuLine) → All FormFits (cpu_forms n lines) → (n < 2 ^ 64) × ListFits CpuLineFits most_told lines
cpu_fits n lines h =
    let head = All-head FormFits (forms.Cpu n (length lines)) (map forms.CpuLine lines) h in
    let rest = All-tail FormFits (forms.Cpu n (length lines)) (map forms.CpuLine lines) h in
    (head.0, record { each = fits_of forms.CpuLine CpuLineFits (λ l k. k) lines rest; few = omega (arith, head.1) })

-- the items fit, and their numbers from n on do
numbered_fit : {X : Type 0} (forms_of : ℕ → X → List ReportLine) (Fits : X → Type 0) → ((n : ℕ) (x : X) → All FormFits (forms_of n x) → (n < 2 ^ 64) × Fits x)
    → (n : ℕ) (xs : List X) → n ≤ 2 ^ 64 → All FormFits (numbered_forms forms_of n xs) → All Fits xs × (n + length xs ≤ 2 ^ 64)
numbered_fit forms_of Fits each n [] low h = (All-nil Fits, omega arith)
numbered_fit forms_of Fits each n (x ∷ xs) low h =
    let here = each n x (All-front FormFits (forms_of n x) (numbered_forms forms_of (n + 1) xs) h) in
    let rest = numbered_fit forms_of Fits each (n + 1) xs (omega (arith, here.0)) (All-back FormFits (forms_of n x) (numbered_forms forms_of (n + 1) xs) h) in
    (All-cons Fits x xs here.1 rest.0, omega (arith, rest.1))

list_fits : {X : Type 0} (forms_of : ℕ → X → List ReportLine) (Fits : X → Type 0) → ((n : ℕ) (x : X) → All FormFits (forms_of n x) → (n < 2 ^ 64) × Fits x)
    → (xs : List X) → All FormFits (numbered_forms forms_of 0 xs) → ListFits Fits most_numbered xs
list_fits forms_of Fits each xs h =
    let all = numbered_fit forms_of Fits each 0 xs (omega arith) h in record { each = all.0; few = omega (arith, all.1) }

pub report_fits : (report : Report) → All FormFits (report_forms report) → ReportFits report
report_fits report h =
    let ran = parts_of report in
    let files = numbered_forms file_forms 0 report.files in
    let frames = numbered_forms frame_forms 0 report.frames in
    let pages = numbered_forms page_forms 0 report.pages in
    let cpus = numbered_forms cpu_forms 0 report.cpus in
    let all_ran = All-front FormFits (ran_forms ran) (forms.End ∷ []) h in
    let all_paged = All-front FormFits (paged_forms ran.paged) cpus all_ran in
    let all_framed = All-front FormFits (framed_forms ran.paged.framed) pages all_paged in
    let all_front = All-front FormFits (front_forms ran.paged.framed.front) frames all_framed in
    let behind_head = All-tail FormFits (forms.Header report.version) (forms.Stop report.stop ∷ forms.Count report.count ∷ files) all_front in
    let behind_stop = All-tail FormFits (forms.Stop report.stop) (forms.Count report.count ∷ files) behind_head in
    record {
      stop = All-head FormFits (forms.Stop report.stop) (forms.Count report.count ∷ files) behind_head;
      count = All-head FormFits (forms.Count report.count) files behind_stop;
      files = list_fits file_forms (λ lost. lost < 2 ^ 64) file_fits report.files (All-tail FormFits (forms.Count report.count) files behind_stop);
      frames = list_fits frame_forms FrameFits frame_fits report.frames (All-back FormFits (front_forms ran.paged.framed.front) frames all_framed);
      pages = list_fits page_forms (ListFits EntryFits most_told) page_fits report.pages (All-back FormFits (framed_forms ran.paged.framed) pages all_paged);
      cpus = list_fits cpu_forms (ListFits CpuLineFits most_told) cpu_fits report.cpus (All-back FormFits (paged_forms ran.paged) cpus all_ran);
    }
