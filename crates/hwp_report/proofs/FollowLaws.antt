-- A line that may follow is read behind those before it.
use Rattle.std.proofs.Common.{◌≡◌, ℕ, ◌+◌, ◌==◌, Bool, true, false, if◌then◌else◌, List, [], ◌∷◌, ◌++◌, length, map, Option, Some, None, refl, sym, ap, ◌∙◌, append_assoc, append-nil, add-zero, arith}
use Rattle.std.specs.List.{flat_map}
use Rattle.std.proofs.lemmas.Bool.Decides.{nat_tests}
use Rattle.std.proofs.lemmas.List.{map_push}
use Rattle.std.proofs.lemmas.List.Concat.{flat_map-append}
use Rattle.hwp_report_text.specs.hwp_kill.Limits.{signal_limit}
use Rattle.hwp_report_text.specs.hwp_kill.declared.Signal.{Signal}
use Rattle.hwp_report_text.specs.hwp_geom.declared.Version.{Version}
use Rattle.hwp_report_text.specs.hwp_geom.declared.Who.{Who}
use Rattle.hwp_report_text.specs.hwp_page.declared.Entry.{Entry}
use Rattle.hwp_report_text.specs.hwp_page.declared.What.{What}
use Rattle.hwp_report_text.specs.hwp_page.declared.What.TheVariants as whats
use Rattle.hwp_report_text.specs.declared.Stop.{Stop}
use Rattle.hwp_report_text.specs.declared.FrameLine.{FrameLine}
use Rattle.hwp_report.specs.declared.report_line.ReportLine.{ReportLine}
use Rattle.hwp_report.specs.declared.report_line.ReportLine.TheVariants as forms
use Rattle.hwp_report.specs.declared.partial.Front.{Front}
use Rattle.hwp_report.specs.declared.partial.Framed.{Framed}
use Rattle.hwp_report.specs.declared.partial.Paged.{Paged}
use Rattle.hwp_report.specs.declared.partial.Ran.{Ran}
use Rattle.hwp_report.specs.declared.partial.OpenPage.{OpenPage}
use Rattle.hwp_report.specs.declared.partial.OpenFailure.{OpenFailure}
use Rattle.hwp_report.specs.declared.partial.OpenCpu.{OpenCpu}
use Rattle.hwp_report.specs.declared.partial.Partial.{Partial}
use Rattle.hwp_report.specs.declared.partial.Partial.TheVariants as partials
use Rattle.hwp_report_words.specs.pages.Fits.{PlainFits}
use Rattle.hwp_report.specs.Forms.{FormFits}
use Rattle.hwp_report.specs.Follows.{report_of, entry_of, signals_so_far, seen_so_far, after_nothing, after_head, after_stop, open_cpu, open_page, open_frame, after_files, after_frame, add_entry, after_entry, after_seen, after_signal, add_line, after_line, follow}
use Rattle.hwp_report.proofs.LinesRead.{numbered_forms, file_forms, frame_forms, what_forms, entry_forms, page_forms, cpu_forms, front_forms, framed_forms, paged_forms, ran_forms, page_in_hand, policies_in_hand, signals_in_hand, cpu_in_hand, lines_read}

-- of a choice that gives something, the test holds and its first side is given
pub chosen : {A : Type 0} (test : Bool) (x y : A) → (if test then Some x else None) ≡ Some y → (test ≡ true) × (x ≡ y)
chosen true x y e = (refl, (cc))
chosen false x y e = absurd (cc)

same_number : (m n : ℕ) → (m == n) ≡ true → m ≡ n
same_number m n e = grind (arith, nat_tests)

-- the lines of one item more
numbered_forms-push : {A : Type 0} (forms_of : ℕ → A → List ReportLine) (n : ℕ) (xs : List A) (x : A)
    → numbered_forms forms_of n (xs ++ x ∷ []) ≡ numbered_forms forms_of n xs ++ forms_of (n + length xs) x
numbered_forms-push forms_of n [] x = append-nil (forms_of n x) ∙ ap (λ k. forms_of k x) (sym (add-zero n))
numbered_forms-push forms_of n (y ∷ ys) x =
    ap (λ t. forms_of n y ++ t) (numbered_forms-push forms_of (n + 1) ys x)
    ∙ sym (append_assoc (forms_of n y) (numbered_forms forms_of (n + 1) ys) (forms_of (n + 1 + length ys) x))
    ∙ ap (λ k. (forms_of n y ++ numbered_forms forms_of (n + 1) ys) ++ forms_of k x) (omega arith)

-- the same behind other lines
numbered_forms-behind : {A : Type 0} (forms_of : ℕ → A → List ReportLine) (front : List ReportLine) (xs : List A) (x : A)
    → front ++ numbered_forms forms_of 0 (xs ++ x ∷ []) ≡ (front ++ numbered_forms forms_of 0 xs) ++ forms_of (length xs) x
numbered_forms-behind forms_of front xs x =
    ap (λ t. front ++ t) (numbered_forms-push forms_of 0 xs x)
    ∙ sym (append_assoc front (numbered_forms forms_of 0 xs) (forms_of (0 + length xs) x))
    ∙ ap (λ k. (front ++ numbered_forms forms_of 0 xs) ++ forms_of k x) (omega arith)

adds-cpu : (ran : Ran) (f : ReportLine) (q : Partial) → open_cpu ran f ≡ Some q → lines_read q ≡ ran_forms ran ++ f ∷ []
adds-cpu ran (forms.Cpu number lines) q e =
    let c = chosen (number == length ran.cpus) _ q e in
    ap lines_read (sym c.1) ∙ ap (λ k. ran_forms ran ++ forms.Cpu k lines ∷ []) (sym (same_number number (length ran.cpus) c.0))
adds-cpu ran forms.End q e = ap lines_read {x = q} {y = partials.Whole (report_of ran)} (cc)
adds-cpu ran f q e = absurd (cc)

adds-page : (paged : Paged) (f : ReportLine) (q : Partial) → open_page paged f ≡ Some q → lines_read q ≡ paged_forms paged ++ f ∷ []
adds-page paged (forms.Page number entries) q e =
    let c = chosen (number == length paged.pages) _ q e in
    ap lines_read (sym c.1) ∙ ap (λ k. paged_forms paged ++ forms.Page k entries ∷ []) (sym (same_number number (length paged.pages) c.0))
adds-page paged f q e = adds-cpu (record { paged = paged; cpus = [] }) f q e ∙ ap (λ t. t ++ f ∷ []) (append-nil (paged_forms paged))

adds-frame : (framed : Framed) (f : ReportLine) (q : Partial) → open_frame framed f ≡ Some q → lines_read q ≡ framed_forms framed ++ f ∷ []
adds-frame framed (forms.Frame number place bad weak) q e =
    let c = chosen (number == length framed.frames) _ q e in
    ap lines_read (sym c.1)
    ∙ ap (λ k. framed_forms framed ++ forms.Frame k place bad weak ∷ []) (sym (same_number number (length framed.frames) c.0))
adds-frame framed f q e = adds-page (record { framed = framed; pages = [] }) f q e ∙ ap (λ t. t ++ f ∷ []) (append-nil (framed_forms framed))

adds-file : (front : Front) (f : ReportLine) (q : Partial) → after_files front f ≡ Some q → lines_read q ≡ front_forms front ++ f ∷ []
adds-file front (forms.File number lost) q e =
    let c = chosen (number == length front.files) _ q e in
    ap lines_read (sym c.1)
    ∙ numbered_forms-behind file_forms (forms.Header front.version ∷ forms.Stop front.stop ∷ forms.Count front.count ∷ []) front.files lost
    ∙ ap (λ k. front_forms front ++ forms.File k lost ∷ []) (sym (same_number number (length front.files) c.0))
adds-file front f q e = adds-frame (record { front = front; frames = [] }) f q e ∙ ap (λ t. t ++ f ∷ []) (append-nil (front_forms front))

adds-mark : (framed : Framed) (frame : FrameLine) (f : ReportLine) (q : Partial) → after_frame framed frame f ≡ Some q
    → lines_read q ≡ (framed_forms framed ++ frame_forms (length framed.frames) frame) ++ f ∷ []
adds-mark framed frame (forms.Mark mark) q e =
    ap lines_read {x = q} {y = partials.Frames framed (record frame { marks = frame.marks ++ mark ∷ [] })} (cc)
    ∙ ap (λ t. framed_forms framed ++ forms.Frame (length framed.frames) frame.place frame.bad frame.weak ∷ t) (map_push forms.Mark frame.marks mark)
    ∙ sym (append_assoc (framed_forms framed) (frame_forms (length framed.frames) frame) (forms.Mark mark ∷ []))
adds-mark framed frame f q e =
    adds-frame (record framed { frames = framed.frames ++ frame ∷ [] }) f q e
    ∙ ap (λ t. t ++ f ∷ []) (numbered_forms-behind frame_forms (front_forms framed.front) framed.frames frame)

-- an entry that is no failure has one line
plain_forms : (who : Who) (what : What) → PlainFits what → what_forms who what ≡ forms.Entry (record { who = who; what = what }) ∷ []
plain_forms who (whats.Fail situation required seen signals) fits = absurd fits
plain_forms who what fits = refl

-- the page in hand with one entry more
page-push : (page : OpenPage) (entry : Entry)
    → page_in_hand (record page { entries = page.entries ++ entry ∷ [] }) ≡ page_in_hand page ++ entry_forms entry
page-push page entry =
    ap (λ t. paged_forms page.paged ++ forms.Page (length page.paged.pages) page.count ∷ t)
    (flat_map-append entry_forms page.entries (entry ∷ []) ∙ ap (λ t. flat_map entry_forms page.entries ++ t) (append-nil (entry_forms entry)))
    ∙ sym (append_assoc (paged_forms page.paged) (forms.Page (length page.paged.pages) page.count ∷ flat_map entry_forms page.entries) (entry_forms entry))

-- a choice between two sides that have the same lines
either : (test : Bool) (p q : Partial) (fs : List ReportLine) → (test ≡ true → lines_read p ≡ fs) → (test ≡ false → lines_read q ≡ fs)
    → lines_read (if test then p else q) ≡ fs
either true p q fs h k = h refl
either false p q fs h k = k refl

read-signals : (page : OpenPage) (f : OpenFailure) (signals : List Signal)
    → lines_read (signals_so_far page f signals) ≡ page_in_hand page ++ signals_in_hand f signals
read-signals page f signals =
    either (length signals == f.line.signals) _ _ _
    (λ e. page-push page (entry_of f signals)
    ∙ ap (λ k. page_in_hand page ++ forms.Fail (record f.line { seen = length f.seen; signals = k }) ∷ (map forms.Seen f.seen ++ map forms.Signal signals))
    (same_number (length signals) f.line.signals e))
    (λ e. refl)

read-policies : (page : OpenPage) (f : OpenFailure) → lines_read (seen_so_far page f) ≡ page_in_hand page ++ policies_in_hand f
read-policies page f =
    either (length f.seen == f.line.seen) _ _ _
    (λ e. read-signals page f []
    ∙ ap (λ t. page_in_hand page ++ forms.Fail (record f.line { seen = length f.seen }) ∷ t) (append-nil (map forms.Seen f.seen))
    ∙ ap (λ k. page_in_hand page ++ forms.Fail (record f.line { seen = k }) ∷ map forms.Seen f.seen) (same_number (length f.seen) f.line.seen e))
    (λ e. refl)

adds-entry : (page : OpenPage) (f : ReportLine) (q : Partial) → FormFits f → add_entry page f ≡ Some q → lines_read q ≡ page_in_hand page ++ f ∷ []
adds-entry page (forms.Entry entry) q fits e =
    ap lines_read {x = q} {y = partials.Pages (record page { entries = page.entries ++ entry ∷ [] })} (cc)
    ∙ page-push page entry
    ∙ ap (λ t. page_in_hand page ++ t) (plain_forms entry.who entry.what fits.1)
adds-entry page (forms.Fail failure) q fits e =
    ap lines_read {x = q} {y = seen_so_far page (record { line = failure; seen = [] })} (cc)
    ∙ read-policies page (record { line = failure; seen = [] })
adds-entry page f q fits e = absurd (cc)

-- the page in hand as a page that was read whole
page-whole : (page : OpenPage) → length page.entries ≡ page.count
    → paged_forms (record page.paged { pages = page.paged.pages ++ page.entries ∷ [] }) ≡ page_in_hand page
page-whole page all =
    numbered_forms-behind page_forms (framed_forms page.paged.framed) page.paged.pages page.entries
    ∙ ap (λ k. paged_forms page.paged ++ forms.Page (length page.paged.pages) k ∷ flat_map entry_forms page.entries) all

-- what follows from a choice in either case
pub by_choice : {P : Type 0} (test : Bool) (x y : Option Partial) (q : Partial) → (if test then x else y) ≡ Some q
    → (test ≡ true → x ≡ Some q → P) → (y ≡ Some q → P) → P
by_choice true x y q e h k = h refl e
by_choice false x y q e h k = k e

adds-to_page : (page : OpenPage) (f : ReportLine) (q : Partial) → FormFits f → after_entry page f ≡ Some q → lines_read q ≡ page_in_hand page ++ f ∷ []
adds-to_page page f q fits e =
    by_choice (length page.entries == page.count) _ _ q e
    (λ t k. adds-page (record page.paged { pages = page.paged.pages ++ page.entries ∷ [] }) f q k
    ∙ ap (λ x. x ++ f ∷ []) (page-whole page (same_number (length page.entries) page.count t)))
    (λ k. adds-entry page f q fits k)

adds-seen : (page : OpenPage) (failure : OpenFailure) (f : ReportLine) (q : Partial) → after_seen page failure f ≡ Some q
    → lines_read q ≡ (page_in_hand page ++ policies_in_hand failure) ++ f ∷ []
adds-seen page failure (forms.Seen seen) q e =
    ap lines_read {x = q} {y = seen_so_far page (record failure { seen = failure.seen ++ seen ∷ [] })} (cc)
    ∙ read-policies page (record failure { seen = failure.seen ++ seen ∷ [] })
    ∙ ap (λ t. page_in_hand page ++ forms.Fail failure.line ∷ t) (map_push forms.Seen failure.seen seen)
    ∙ sym (append_assoc (page_in_hand page) (policies_in_hand failure) (forms.Seen seen ∷ []))
adds-seen page failure f q e = absurd (cc)

signals-push : (failure : OpenFailure) (signals : List Signal) (signal : Signal)
    → signals_in_hand failure (signals ++ signal ∷ []) ≡ signals_in_hand failure signals ++ forms.Signal signal ∷ []
signals-push failure signals signal =
    ap (λ t. forms.Fail (record failure.line { seen = length failure.seen }) ∷ t)
    (ap (λ t. map forms.Seen failure.seen ++ t) (map_push forms.Signal signals signal)
    ∙ sym (append_assoc (map forms.Seen failure.seen) (map forms.Signal signals) (forms.Signal signal ∷ [])))

adds-signal : (page : OpenPage) (failure : OpenFailure) (signals : List Signal) (f : ReportLine) (q : Partial)
    → after_signal page failure signals f ≡ Some q
    → lines_read q ≡ (page_in_hand page ++ signals_in_hand failure signals) ++ f ∷ []
adds-signal page failure signals (forms.Signal signal) q e =
    by_choice (length signals == signal_limit) _ _ q e
    (λ t k. absurd (cc))
    (λ k. ap lines_read {x = q} {y = signals_so_far page failure (signals ++ signal ∷ [])} (cc)
    ∙ read-signals page failure (signals ++ signal ∷ [])
    ∙ ap (λ t. page_in_hand page ++ t) (signals-push failure signals signal)
    ∙ sym (append_assoc (page_in_hand page) (signals_in_hand failure signals) (forms.Signal signal ∷ [])))
adds-signal page failure signals f q e = absurd (cc)

cpu-push : (cpu : OpenCpu) (f : ReportLine) (q : Partial) → add_line cpu f ≡ Some q → lines_read q ≡ cpu_in_hand cpu ++ f ∷ []
cpu-push cpu (forms.CpuLine item) q e =
    ap lines_read {x = q} {y = partials.Cpus (record cpu { lines = cpu.lines ++ item ∷ [] })} (cc)
    ∙ ap (λ t. ran_forms cpu.ran ++ forms.Cpu (length cpu.ran.cpus) cpu.count ∷ t) (map_push forms.CpuLine cpu.lines item)
    ∙ sym (append_assoc (ran_forms cpu.ran) (forms.Cpu (length cpu.ran.cpus) cpu.count ∷ map forms.CpuLine cpu.lines) (forms.CpuLine item ∷ []))
cpu-push cpu f q e = absurd (cc)

cpu-whole : (cpu : OpenCpu) → length cpu.lines ≡ cpu.count
    → ran_forms (record cpu.ran { cpus = cpu.ran.cpus ++ cpu.lines ∷ [] }) ≡ cpu_in_hand cpu
cpu-whole cpu all =
    numbered_forms-behind cpu_forms (paged_forms cpu.ran.paged) cpu.ran.cpus cpu.lines
    ∙ ap (λ k. ran_forms cpu.ran ++ forms.Cpu (length cpu.ran.cpus) k ∷ map forms.CpuLine cpu.lines) all

adds-to_cpu : (cpu : OpenCpu) (f : ReportLine) (q : Partial) → after_line cpu f ≡ Some q → lines_read q ≡ cpu_in_hand cpu ++ f ∷ []
adds-to_cpu cpu f q e =
    by_choice (length cpu.lines == cpu.count) _ _ q e
    (λ t k. adds-cpu (record cpu.ran { cpus = cpu.ran.cpus ++ cpu.lines ∷ [] }) f q k
    ∙ ap (λ x. x ++ f ∷ []) (cpu-whole cpu (same_number (length cpu.lines) cpu.count t)))
    (λ k. cpu-push cpu f q k)

adds-head : (f : ReportLine) (q : Partial) → after_nothing f ≡ Some q → lines_read q ≡ f ∷ []
adds-head (forms.Header version) q e = ap lines_read {x = q} {y = partials.Headed version} (cc)
adds-head f q e = absurd (cc)

adds-stop : (version : Version) (f : ReportLine) (q : Partial) → after_head version f ≡ Some q → lines_read q ≡ forms.Header version ∷ f ∷ []
adds-stop version (forms.Stop stop) q e = ap lines_read {x = q} {y = partials.Stopped version stop} (cc)
adds-stop version f q e = absurd (cc)

adds-count : (version : Version) (stop : Option Stop) (f : ReportLine) (q : Partial) → after_stop version stop f ≡ Some q
    → lines_read q ≡ forms.Header version ∷ forms.Stop stop ∷ f ∷ []
adds-count version stop (forms.Count count) q e = ap lines_read {x = q} {y = partials.Files (record { version = version; stop = stop; count = count; files = [] })} (cc)
adds-count version stop f q e = absurd (cc)

-- a line that may follow is read behind those before it
pub adds : (p : Partial) (f : ReportLine) (q : Partial) → FormFits f → follow p f ≡ Some q → lines_read q ≡ lines_read p ++ f ∷ []
adds partials.Nothing f q fits e = adds-head f q e
adds (partials.Headed version) f q fits e = adds-stop version f q e
adds (partials.Stopped version stop) f q fits e = adds-count version stop f q e
adds (partials.Files front) f q fits e = adds-file front f q e
adds (partials.Frames framed frame) f q fits e = adds-mark framed frame f q e
adds (partials.Pages page) f q fits e = adds-to_page page f q fits e
adds (partials.Seeing page failure) f q fits e = adds-seen page failure f q e
adds (partials.Signalling page failure signals) f q fits e = adds-signal page failure signals f q e
adds (partials.Cpus cpu) f q fits e = adds-to_cpu cpu f q e
adds (partials.Whole report) f q fits e = absurd (cc)
