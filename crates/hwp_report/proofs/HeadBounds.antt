-- What is in hand is never more than its heading says.
use Rattle.std.proofs.Common.{◌≡◌, ℕ, ◌<◌, ◌≤◌, ◌==◌, Bool, true, false, if◌then◌else◌, List, [], ◌∷◌, ◌++◌, length, Option, Some, refl, subst, arith}
use Rattle.std.proofs.lemmas.Bool.Decides.{nat_tests}
use Rattle.std.proofs.lemmas.List.{length-append}
use Rattle.hwp_report_text.specs.hwp_kill.Limits.{signal_limit}
use Rattle.hwp_report_text.specs.hwp_kill.declared.Signal.{Signal}
use Rattle.hwp_report_text.specs.declared.FrameLine.{FrameLine}
use Rattle.hwp_report.specs.declared.report_line.ReportLine.{ReportLine}
use Rattle.hwp_report.specs.declared.report_line.ReportLine.TheVariants as forms
use Rattle.hwp_report.specs.declared.partial.Front.{Front}
use Rattle.hwp_report.specs.declared.partial.Framed.{Framed}
use Rattle.hwp_report.specs.declared.partial.Paged.{Paged}
use Rattle.hwp_report.specs.declared.partial.Ran.{Ran}
use Rattle.hwp_report.specs.declared.partial.OpenPage.{OpenPage}
use Rattle.hwp_report.specs.declared.partial.OpenFailure.{OpenFailure}
use Rattle.hwp_report.specs.declared.partial.Partial.{Partial}
use Rattle.hwp_report.specs.declared.partial.Partial.TheVariants as partials
use Rattle.hwp_report.specs.Forms.{FormFits}
use Rattle.hwp_report.specs.Follows.{entry_of, signals_so_far, seen_so_far, open_cpu, open_page, open_frame, after_files, after_frame, add_entry, add_line, follow}
use Rattle.hwp_report.proofs.FollowLaws.{chosen}
use Rattle.hwp_report.proofs.PartialEnds.{IsWithin}

given : {p q : Partial} → Some p ≡ Some q → IsWithin p → IsWithin q
given {p} {q} e h = let same : p ≡ q = cc in subst IsWithin same h

unequal : (m n : ℕ) → (m == n) ≡ false → m ≤ n → m < n
unequal m n e l = grind (arith, nat_tests)

either : (test : Bool) (p q : Partial) → (test ≡ true → IsWithin p) → (test ≡ false → IsWithin q) → IsWithin (if test then p else q)
either true p q h k = h refl
either false p q h k = k refl

within-signals : (page : OpenPage) (f : OpenFailure) (signals : List Signal) → length page.entries < page.count → length signals ≤ f.line.signals
    → f.line.signals ≤ signal_limit → IsWithin (signals_so_far page f signals)
within-signals page f signals room some few =
    either (length signals == f.line.signals) _ _
    (λ e. omega (arith, length-append page.entries (entry_of f signals ∷ []), room))
    (λ e. (room, unequal (length signals) f.line.signals e some, few))

within-policies : (page : OpenPage) (f : OpenFailure) → length page.entries < page.count → length f.seen ≤ f.line.seen
    → f.line.signals ≤ signal_limit → IsWithin (seen_so_far page f)
within-policies page f room some few =
    either (length f.seen == f.line.seen) _ _
    (λ e. within-signals page f [] room (omega arith) few)
    (λ e. (room, unequal (length f.seen) f.line.seen e some, few))

within-cpu : (ran : Ran) (f : ReportLine) (q : Partial) → open_cpu ran f ≡ Some q → IsWithin q
within-cpu ran (forms.Cpu number lines) q e = let c = chosen (number == length ran.cpus) _ q e in subst IsWithin c.1 (omega arith)
within-cpu ran forms.End q e = given e tt
within-cpu ran f q e = absurd (cc)

within-page : (paged : Paged) (f : ReportLine) (q : Partial) → open_page paged f ≡ Some q → IsWithin q
within-page paged (forms.Page number entries) q e = let c = chosen (number == length paged.pages) _ q e in subst IsWithin c.1 (omega arith)
within-page paged f q e = within-cpu (record { paged = paged; cpus = [] }) f q e

within-frame : (framed : Framed) (f : ReportLine) (q : Partial) → open_frame framed f ≡ Some q → IsWithin q
within-frame framed (forms.Frame number place bad weak) q e = let c = chosen (number == length framed.frames) _ q e in subst IsWithin c.1 tt
within-frame framed f q e = within-page (record { framed = framed; pages = [] }) f q e

within-file : (front : Front) (f : ReportLine) (q : Partial) → after_files front f ≡ Some q → IsWithin q
within-file front (forms.File number lost) q e = let c = chosen (number == length front.files) _ q e in subst IsWithin c.1 tt
within-file front f q e = within-frame (record { front = front; frames = [] }) f q e

within-mark : (framed : Framed) (frame : FrameLine) (f : ReportLine) (q : Partial) → after_frame framed frame f ≡ Some q → IsWithin q
within-mark framed frame (forms.Mark mark) q e = given e tt
within-mark framed frame f q e = within-frame (record framed { frames = framed.frames ++ frame ∷ [] }) f q e

within-entry : (page : OpenPage) (f : ReportLine) (q : Partial) → FormFits f → length page.entries < page.count → add_entry page f ≡ Some q → IsWithin q
within-entry page (forms.Entry entry) q fits room e = given e (omega (arith, length-append page.entries (entry ∷ []), room))
within-entry page (forms.Fail failure) q fits room e = given e (within-policies page (record { line = failure; seen = [] }) room (omega arith) fits.signals)
within-entry page f q fits room e = absurd (cc)

-- the choice, where the test may fail as well
by_test : {P : Type 0} (test : Bool) (x y : Option Partial) (q : Partial) → (if test then x else y) ≡ Some q
    → (x ≡ Some q → P) → (test ≡ false → y ≡ Some q → P) → P
by_test true x y q e h k = h e
by_test false x y q e h k = k refl e

pub within : (p : Partial) (f : ReportLine) (q : Partial) → FormFits f → IsWithin p → follow p f ≡ Some q → IsWithin q
within partials.Nothing (forms.Header version) q fits h e = given e tt
within partials.Nothing f q fits h e = absurd (cc)
within (partials.Headed version) (forms.Stop stop) q fits h e = given e tt
within (partials.Headed version) f q fits h e = absurd (cc)
within (partials.Stopped version stop) (forms.Count count) q fits h e = given e tt
within (partials.Stopped version stop) f q fits h e = absurd (cc)
within (partials.Files front) f q fits h e = within-file front f q e
within (partials.Frames framed frame) f q fits h e = within-mark framed frame f q e
within (partials.Pages page) f q fits h e =
    by_test (length page.entries == page.count) _ _ q e
    (λ k. within-page (record page.paged { pages = page.paged.pages ++ page.entries ∷ [] }) f q k)
    (λ t k. within-entry page f q fits (unequal (length page.entries) page.count t h) k)
within (partials.Seeing page failure) (forms.Seen seen) q fits h e =
    given e (within-policies page (record failure { seen = failure.seen ++ seen ∷ [] }) h.0 (omega (arith, length-append failure.seen (seen ∷ []), h.1)) h.2)
within (partials.Seeing page failure) f q fits h e = absurd (cc)
within (partials.Signalling page failure signals) (forms.Signal signal) q fits h e =
    by_test (length signals == signal_limit) _ _ q e
    (λ k. absurd (cc))
    (λ t k. given k (within-signals page failure (signals ++ signal ∷ []) h.0 (omega (arith, length-append signals (signal ∷ []), h.1)) h.2))
within (partials.Signalling page failure signals) f q fits h e = absurd (cc)
within (partials.Cpus cpu) f q fits h e =
    by_test (length cpu.lines == cpu.count) _ _ q e
    (λ k. within-cpu (record cpu.ran { cpus = cpu.ran.cpus ++ cpu.lines ∷ [] }) f q k)
    (λ t k. within-line f t k)
  where
    within-line : (f : ReportLine) → (length cpu.lines == cpu.count) ≡ false → add_line cpu f ≡ Some q → IsWithin q
    within-line (forms.CpuLine item) t k = given k (omega (arith, length-append cpu.lines (item ∷ []), unequal (length cpu.lines) cpu.count t h))
    within-line f t k = absurd (cc)
within (partials.Whole report) f q fits h e = absurd (cc)
