-- The lines of a report are read to the report, one after the other.
use Rattle.std.proofs.Common.{◌≡◌, ℕ, ◌+◌, ◌<◌, ◌≤◌, ◌==◌, Bool, true, false, if◌then◌else◌, List, [], ◌∷◌, ◌++◌, length, map, Option, Some, None, refl, sym, ap, ◌∙◌, append_assoc, append-nil, arith}
use Rattle.std.specs.Prelude.{All}
use Rattle.std.specs.List.{flat_map}
use Rattle.std.proofs.lemmas.Bool.Decides.{nat_tests}
use Rattle.std.proofs.lemmas.List.{length-append}
use Rattle.std.proofs.lemmas.List.Elements.{All-head, All-tail}
use Rattle.hwp_report_text.specs.hwp_geom.declared.Mask.{Mask}
use Rattle.hwp_report_text.specs.hwp_kill.Limits.{signal_limit}
use Rattle.hwp_report_text.specs.hwp_kill.declared.Seen.{Seen}
use Rattle.hwp_report_text.specs.hwp_kill.declared.Signal.{Signal}
use Rattle.hwp_report_text.specs.hwp_page.declared.Entry.{Entry}
use Rattle.hwp_report_text.specs.hwp_page.declared.What.{What}
use Rattle.hwp_report_text.specs.hwp_page.declared.What.TheVariants as whats
use Rattle.hwp_report_text.specs.hwp_geom.declared.Who.{Who}
use Rattle.hwp_report_text.specs.declared.Report.{Report}
use Rattle.hwp_report_text.specs.declared.FrameLine.{FrameLine}
use Rattle.hwp_report_text.specs.declared.MarkLine.{MarkLine}
use Rattle.hwp_report_text.specs.declared.CpuLine.{CpuLine}
use Rattle.hwp_report_text.specs.declared.Whereabouts.{Whereabouts}
use Rattle.hwp_report_words.specs.declared.Failure.{Failure}
use Rattle.hwp_report.specs.declared.report_line.ReportLine.{ReportLine}
use Rattle.hwp_report.specs.declared.report_line.ReportLine.TheVariants as forms
use Rattle.hwp_report.specs.declared.partial.Front.{Front}
use Rattle.hwp_report.specs.declared.partial.Framed.{Framed}
use Rattle.hwp_report.specs.declared.partial.Paged.{Paged}
use Rattle.hwp_report.specs.declared.partial.Ran.{Ran}
use Rattle.hwp_report.specs.declared.partial.OpenPage.{OpenPage}
use Rattle.hwp_report.specs.declared.partial.OpenFailure.{OpenFailure}
use Rattle.hwp_report.specs.declared.partial.OpenCpu.{OpenCpu}
use Rattle.hwp_report.specs.declared.partial.Partial.{Partial}
use Rattle.hwp_report.specs.declared.partial.Partial.TheVariants as partials
use Rattle.hwp_report.specs.Fits.{ReportFits, ListFits, most_told}
use Rattle.hwp_report_words.specs.pages.Fits.{EntryFits}
use Rattle.hwp_report.specs.Follows.{signals_so_far, seen_so_far, open_cpu, open_page, open_frame, follow}
use Rattle.hwp_report.proofs.LinesRead.{numbered_forms, file_forms, frame_forms, what_forms, entry_forms, page_forms, cpu_forms, front_forms, framed_forms, paged_forms, ran_forms, report_forms}

-- what is read with these lines more, if each may follow
abbrev pub onward : Option Partial → List ReportLine → Option Partial
onward read [] = read
onward None (f ∷ fs) = None
onward (Some p) (f ∷ fs) = onward (follow p f) fs

pub onward-none : (fs : List ReportLine) → onward None fs ≡ None
onward-none [] = refl
onward-none (f ∷ fs) = refl

pub onward-append : (read : Option Partial) (fs gs : List ReportLine) → onward read (fs ++ gs) ≡ onward (onward read fs) gs
onward-append read [] gs = refl
onward-append None (f ∷ fs) gs = sym (onward-none gs)
onward-append (Some p) (f ∷ fs) gs = onward-append (follow p f) fs gs

pub same : (n : ℕ) → (n == n) ≡ true
same n = grind (arith, nat_tests)

pub differ : (m n : ℕ) → m < n → (m == n) ≡ false
differ m n l = grind (arith, nat_tests)

pub if_true : {A : Type 0} (test : Bool) (x y : A) → test ≡ true → (if test then x else y) ≡ x
if_true true x y e = refl
if_true false x y e = absurd (cc)

pub if_false : {A : Type 0} (test : Bool) (x y : A) → test ≡ false → (if test then x else y) ≡ y
if_false true x y e = absurd (cc)
if_false false x y e = refl

on_files : (front : Front) (xs : List ℕ)
    → onward (Some (partials.Files front)) (numbered_forms file_forms (length front.files) xs)
    ≡ Some (partials.Files (record front { files = front.files ++ xs }))
on_files front [] = ap (λ t. Some (partials.Files (record front { files = t }))) (sym (append-nil front.files))
on_files front (x ∷ xs) =
    ap (λ read. onward read (numbered_forms file_forms (length front.files + 1) xs))
    (if_true (length front.files == length front.files) _ _ (same (length front.files)))
    ∙ ap (λ n. onward (Some (partials.Files (record front { files = front.files ++ x ∷ [] }))) (numbered_forms file_forms n xs))
    (sym (length-append front.files (x ∷ [])))
    ∙ on_files (record front { files = front.files ++ x ∷ [] }) xs
    ∙ ap (λ t. Some (partials.Files (record front { files = t }))) (append_assoc front.files (x ∷ []) xs)

-- where a frame may begin, behind these parts
record AtFrame (p : Partial) (framed : Framed) : Type 0 where
  frame : (n : ℕ) (place : Whereabouts) (bad weak : Mask) → follow p (forms.Frame n place bad weak) ≡ open_frame framed (forms.Frame n place bad weak)
  page : (n count : ℕ) → follow p (forms.Page n count) ≡ open_frame framed (forms.Page n count)
  cpu : (n count : ℕ) → follow p (forms.Cpu n count) ≡ open_frame framed (forms.Cpu n count)
  end : follow p forms.End ≡ open_frame framed forms.End

-- where a page may begin
record AtPage (p : Partial) (paged : Paged) : Type 0 where
  page : (n count : ℕ) → follow p (forms.Page n count) ≡ open_page paged (forms.Page n count)
  cpu : (n count : ℕ) → follow p (forms.Cpu n count) ≡ open_page paged (forms.Cpu n count)
  end : follow p forms.End ≡ open_page paged forms.End

-- where a processor may begin
record AtCpu (p : Partial) (ran : Ran) : Type 0 where
  cpu : (n count : ℕ) → follow p (forms.Cpu n count) ≡ open_cpu ran (forms.Cpu n count)
  end : follow p forms.End ≡ open_cpu ran forms.End

frame_behind_files : (front : Front) → AtFrame (partials.Files front) (record { front = front; frames = [] })
frame_behind_files front = record { frame = λ n place bad weak. refl; page = λ n count. refl; cpu = λ n count. refl; end = refl }

frame_behind_frame : (framed : Framed) (frame : FrameLine) → AtFrame (partials.Frames framed frame) (record framed { frames = framed.frames ++ frame ∷ [] })
frame_behind_frame framed frame = record { frame = λ n place bad weak. refl; page = λ n count. refl; cpu = λ n count. refl; end = refl }

page_behind_frames : (p : Partial) (framed : Framed) → AtFrame p framed → AtPage p (record { framed = framed; pages = [] })
page_behind_frames p framed h = record { page = h.page; cpu = h.cpu; end = h.end }

cpu_behind_pages : (p : Partial) (paged : Paged) → AtPage p paged → AtCpu p (record { paged = paged; cpus = [] })
cpu_behind_pages p paged h = record { cpu = h.cpu; end = h.end }

on_marks : (framed : Framed) (frame : FrameLine) (ms : List MarkLine)
    → onward (Some (partials.Frames framed frame)) (map forms.Mark ms) ≡ Some (partials.Frames framed (record frame { marks = frame.marks ++ ms }))
on_marks framed frame [] = ap (λ t. Some (partials.Frames framed (record frame { marks = t }))) (sym (append-nil frame.marks))
on_marks framed frame (m ∷ ms) =
    on_marks framed (record frame { marks = frame.marks ++ m ∷ [] }) ms
    ∙ ap (λ t. Some (partials.Frames framed (record frame { marks = t }))) (append_assoc frame.marks (m ∷ []) ms)

-- what is read with these lines more, and where it then stands
record Comes {A : Type 0} (At : Partial → A → Type 0) (p : Partial) (fs : List ReportLine) (parts : A) : Type 0 where
  to : Partial
  read : onward (Some p) fs ≡ Some to
  at : At to parts

comes_on : {A : Type 0} (At : Partial → A → Type 0) (p q : Partial) (fs gs : List ReportLine) (parts : A)
    → onward (Some p) fs ≡ Some q → Comes At q gs parts → Comes At p (fs ++ gs) parts
comes_on At p q fs gs parts e h = record {
  to = h.to;
  read = onward-append (Some p) fs gs ∙ ap (λ read. onward read gs) e ∙ h.read;
  at = h.at;
}

on_frame : (p : Partial) (framed : Framed) (frame : FrameLine) → AtFrame p framed
    → onward (Some p) (frame_forms (length framed.frames) frame) ≡ Some (partials.Frames framed frame)
on_frame p framed frame h =
    ap (λ read. onward read (map forms.Mark frame.marks))
    (h.frame (length framed.frames) frame.place frame.bad frame.weak ∙ if_true (length framed.frames == length framed.frames) _ _ (same (length framed.frames)))
    ∙ on_marks framed (record frame { marks = [] }) frame.marks

on_frames : (p : Partial) (framed : Framed) (xs : List FrameLine) → AtFrame p framed
    → Comes AtFrame p (numbered_forms frame_forms (length framed.frames) xs) (record framed { frames = framed.frames ++ xs })
on_frames p framed [] h = rw (append-nil framed.frames) (record { to = p; read = refl; at = h })
on_frames p framed (x ∷ xs) h =
    let next = record framed { frames = framed.frames ++ x ∷ [] } in
    let count : length next.frames ≡ length framed.frames + 1 = length-append framed.frames (x ∷ []) in
    let more = on_frames (partials.Frames framed x) next xs (frame_behind_frame framed x) in
    rw (← append_assoc framed.frames (x ∷ []) xs)
    (comes_on AtFrame p (partials.Frames framed x) (frame_forms (length framed.frames) x) (numbered_forms frame_forms (length framed.frames + 1) xs) _
    (on_frame p framed x h) (rw (← count) more))

pub on_signals : (page : OpenPage) (f : OpenFailure) (before ss : List Signal) → length before + length ss ≡ f.line.signals → f.line.signals ≤ signal_limit
    → onward (Some (signals_so_far page f before)) (map forms.Signal ss) ≡ Some (signals_so_far page f (before ++ ss))
on_signals page f before [] all few = ap (λ t. Some (signals_so_far page f t)) (sym (append-nil before))
on_signals page f before (s ∷ ss) all few =
    ap (λ p. onward (Some p) (map forms.Signal (s ∷ ss)))
    (if_false (length before == f.line.signals) _ _ (differ (length before) f.line.signals (omega arith)))
    ∙ ap (λ read. onward read (map forms.Signal ss))
    (if_false (length before == signal_limit) _ _ (differ (length before) signal_limit (omega arith)))
    ∙ on_signals page f (before ++ s ∷ []) ss (omega (arith, length-append before (s ∷ []))) few
    ∙ ap (λ t. Some (signals_so_far page f t)) (append_assoc before (s ∷ []) ss)

pub on_policies : (page : OpenPage) (f : OpenFailure) (ss : List Seen) → length f.seen + length ss ≡ f.line.seen
    → onward (Some (seen_so_far page f)) (map forms.Seen ss) ≡ Some (seen_so_far page (record f { seen = f.seen ++ ss }))
on_policies page f [] all = ap (λ t. Some (seen_so_far page (record f { seen = t }))) (sym (append-nil f.seen))
on_policies page f (s ∷ ss) all =
    ap (λ p. onward (Some p) (map forms.Seen (s ∷ ss)))
    (if_false (length f.seen == f.line.seen) _ _ (differ (length f.seen) f.line.seen (omega arith)))
    ∙ on_policies page (record f { seen = f.seen ++ s ∷ [] }) ss (omega (arith, length-append f.seen (s ∷ [])))
    ∙ ap (λ t. Some (seen_so_far page (record f { seen = t }))) (append_assoc f.seen (s ∷ []) ss)

-- the page in hand has room for one entry more
on_what : (page : OpenPage) (who : Who) (what : What) → EntryFits (record { who = who; what = what }) → length page.entries < page.count
    → onward (Some (partials.Pages page)) (what_forms who what)
    ≡ Some (partials.Pages (record page { entries = page.entries ++ record { who = who; what = what } ∷ [] }))
on_what page who (whats.Fail situation required seen signals) fits room =
    let line : Failure = record { who = who; situation = situation; required = required; seen = length seen; signals = length signals } in
    let f : OpenFailure = record { line = line; seen = seen } in
    ap (λ read. onward read (map forms.Seen seen ++ map forms.Signal signals))
    (if_false (length page.entries == page.count) _ _ (differ (length page.entries) page.count room))
    ∙ onward-append (Some (seen_so_far page (record { line = line; seen = [] }))) (map forms.Seen seen) (map forms.Signal signals)
    ∙ ap (λ read. onward read (map forms.Signal signals)) (on_policies page (record { line = line; seen = [] }) seen (omega arith))
    ∙ ap (λ p. onward (Some p) (map forms.Signal signals)) (if_true (length seen == length seen) _ _ (same (length seen)))
    ∙ on_signals page f [] signals (omega arith) fits.1.few
    ∙ ap Some (if_true (length signals == length signals) _ _ (same (length signals)))
on_what page who what fits room = if_false (length page.entries == page.count) _ _ (differ (length page.entries) page.count room)

pub on_entries : (page : OpenPage) (es : List Entry) → All EntryFits es → length page.entries + length es ≡ page.count
    → onward (Some (partials.Pages page)) (flat_map entry_forms es) ≡ Some (partials.Pages (record page { entries = page.entries ++ es }))
on_entries page [] fits all = ap (λ t. Some (partials.Pages (record page { entries = t }))) (sym (append-nil page.entries))
on_entries page (e ∷ es) fits all =
    onward-append (Some (partials.Pages page)) (entry_forms e) (flat_map entry_forms es)
    ∙ ap (λ read. onward read (flat_map entry_forms es)) (on_what page e.who e.what (All-head EntryFits e es fits) (omega arith))
    ∙ on_entries (record page { entries = page.entries ++ e ∷ [] }) es (All-tail EntryFits e es fits) (omega (arith, length-append page.entries (e ∷ [])))
    ∙ ap (λ t. Some (partials.Pages (record page { entries = t }))) (append_assoc page.entries (e ∷ []) es)

on_page : (p : Partial) (paged : Paged) (entries : List Entry) → AtPage p paged → All EntryFits entries
    → onward (Some p) (page_forms (length paged.pages) entries)
    ≡ Some (partials.Pages (record { paged = paged; count = length entries; entries = entries }))
on_page p paged entries h fits =
    ap (λ read. onward read (flat_map entry_forms entries))
    (h.page (length paged.pages) (length entries) ∙ if_true (length paged.pages == length paged.pages) _ _ (same (length paged.pages)))
    ∙ on_entries (record { paged = paged; count = length entries; entries = [] }) entries fits (omega arith)

-- behind a page that was read whole
page_behind_page : (paged : Paged) (entries : List Entry)
    → AtPage (partials.Pages (record { paged = paged; count = length entries; entries = entries })) (record paged { pages = paged.pages ++ entries ∷ [] })
page_behind_page paged entries =
    let all = same (length entries) in record {
      page = λ n count. if_true (length entries == length entries) _ _ all;
      cpu = λ n count. if_true (length entries == length entries) _ _ all;
      end = if_true (length entries == length entries) _ _ all;
    }

on_pages : (p : Partial) (paged : Paged) (xs : List (List Entry)) → AtPage p paged → All (ListFits EntryFits most_told) xs
    → Comes AtPage p (numbered_forms page_forms (length paged.pages) xs) (record paged { pages = paged.pages ++ xs })
on_pages p paged [] h fits = rw (append-nil paged.pages) (record { to = p; read = refl; at = h })
on_pages p paged (x ∷ xs) h fits =
    let next = record paged { pages = paged.pages ++ x ∷ [] } in
    let count : length next.pages ≡ length paged.pages + 1 = length-append paged.pages (x ∷ []) in
    let here = partials.Pages (record { paged = paged; count = length x; entries = x }) in
    let more = on_pages here next xs (page_behind_page paged x) (All-tail (ListFits EntryFits most_told) x xs fits) in
    rw (← append_assoc paged.pages (x ∷ []) xs)
    (comes_on AtPage p here (page_forms (length paged.pages) x) (numbered_forms page_forms (length paged.pages + 1) xs) _
    (on_page p paged x h (All-head (ListFits EntryFits most_told) x xs fits).each) (rw (← count) more))

pub on_cpu_lines : (cpu : OpenCpu) (ls : List CpuLine) → length cpu.lines + length ls ≡ cpu.count
    → onward (Some (partials.Cpus cpu)) (map forms.CpuLine ls) ≡ Some (partials.Cpus (record cpu { lines = cpu.lines ++ ls }))
on_cpu_lines cpu [] all = ap (λ t. Some (partials.Cpus (record cpu { lines = t }))) (sym (append-nil cpu.lines))
on_cpu_lines cpu (l ∷ ls) all =
    ap (λ read. onward read (map forms.CpuLine ls))
    (if_false (length cpu.lines == cpu.count) _ _ (differ (length cpu.lines) cpu.count (omega arith)))
    ∙ on_cpu_lines (record cpu { lines = cpu.lines ++ l ∷ [] }) ls (omega (arith, length-append cpu.lines (l ∷ [])))
    ∙ ap (λ t. Some (partials.Cpus (record cpu { lines = t }))) (append_assoc cpu.lines (l ∷ []) ls)

on_cpu : (p : Partial) (ran : Ran) (lines : List CpuLine) → AtCpu p ran
    → onward (Some p) (cpu_forms (length ran.cpus) lines) ≡ Some (partials.Cpus (record { ran = ran; count = length lines; lines = lines }))
on_cpu p ran lines h =
    ap (λ read. onward read (map forms.CpuLine lines))
    (h.cpu (length ran.cpus) (length lines) ∙ if_true (length ran.cpus == length ran.cpus) _ _ (same (length ran.cpus)))
    ∙ on_cpu_lines (record { ran = ran; count = length lines; lines = [] }) lines (omega arith)

cpu_behind_cpu : (ran : Ran) (lines : List CpuLine)
    → AtCpu (partials.Cpus (record { ran = ran; count = length lines; lines = lines })) (record ran { cpus = ran.cpus ++ lines ∷ [] })
cpu_behind_cpu ran lines =
    let all = same (length lines) in record {
      cpu = λ n count. if_true (length lines == length lines) _ _ all;
      end = if_true (length lines == length lines) _ _ all;
    }

on_cpus : (p : Partial) (ran : Ran) (xs : List (List CpuLine)) → AtCpu p ran
    → Comes AtCpu p (numbered_forms cpu_forms (length ran.cpus) xs) (record ran { cpus = ran.cpus ++ xs })
on_cpus p ran [] h = rw (append-nil ran.cpus) (record { to = p; read = refl; at = h })
on_cpus p ran (x ∷ xs) h =
    let next = record ran { cpus = ran.cpus ++ x ∷ [] } in
    let count : length next.cpus ≡ length ran.cpus + 1 = length-append ran.cpus (x ∷ []) in
    let here = partials.Cpus (record { ran = ran; count = length x; lines = x }) in
    let more = on_cpus here next xs (cpu_behind_cpu ran x) in
    rw (← append_assoc ran.cpus (x ∷ []) xs)
    (comes_on AtCpu p here (cpu_forms (length ran.cpus) x) (numbered_forms cpu_forms (length ran.cpus + 1) xs) _
    (on_cpu p ran x h) (rw (← count) more))

-- the lines of a report are read to the report
pub on_report : (report : Report) → ReportFits report → onward (Some partials.Nothing) (report_forms report) ≡ Some (partials.Whole report)
on_report report fits =
    let front : Front = record { version = report.version; stop = report.stop; count = report.count; files = report.files } in
    let framed : Framed = record { front = front; frames = report.frames } in
    let paged : Paged = record { framed = framed; pages = report.pages } in
    let ran : Ran = record { paged = paged; cpus = report.cpus } in
    let files : onward (Some partials.Nothing) (front_forms front) ≡ Some (partials.Files front) =
    on_files (record { version = report.version; stop = report.stop; count = report.count; files = [] }) report.files in
    let frames = on_frames (partials.Files front) (record { front = front; frames = [] }) report.frames (frame_behind_files front) in
    let pages = on_pages frames.to (record { framed = framed; pages = [] }) report.pages (page_behind_frames frames.to framed frames.at) fits.pages.each in
    let cpus = on_cpus pages.to (record { paged = paged; cpus = [] }) report.cpus (cpu_behind_pages pages.to paged pages.at) in
    onward-append (Some partials.Nothing) (ran_forms ran) (forms.End ∷ [])
    ∙ ap (λ read. onward read (forms.End ∷ []))
    (onward-append (Some partials.Nothing) (paged_forms paged) (numbered_forms cpu_forms 0 report.cpus)
    ∙ ap (λ read. onward read (numbered_forms cpu_forms 0 report.cpus))
    (onward-append (Some partials.Nothing) (framed_forms framed) (numbered_forms page_forms 0 report.pages)
    ∙ ap (λ read. onward read (numbered_forms page_forms 0 report.pages))
    (onward-append (Some partials.Nothing) (front_forms front) (numbered_forms frame_forms 0 report.frames)
    ∙ ap (λ read. onward read (numbered_forms frame_forms 0 report.frames)) files
    ∙ frames.read)
    ∙ pages.read)
    ∙ cpus.read)
    ∙ cpus.at.end
