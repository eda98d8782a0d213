-- What was read of a report so far can be finished.
use Rattle.std.proofs.Common.{◌≡◌, ℕ, ◌+◌, ◌-◌, ◌<◌, ◌≤◌, ◌==◌, List, [], ◌∷◌, ◌++◌, suc, zero, length, map, replicate, Some, None, refl, sym, ap, ◌∙◌, arith}
use Rattle.std.specs.Prelude.{All}
use Rattle.std.specs.List.{flat_map}
use Rattle.std.proofs.lemmas.List.{length-append, length-replicate}
use Rattle.std.proofs.lemmas.List.Elements.{All-nil, All-cons, All-append, All-map, All-replicate}
use Rattle.hwp_report_text.specs.hwp_geom.declared.Version.TheVariants.{One}
use Rattle.hwp_report_text.specs.hwp_kill.Limits.{signal_limit}
use Rattle.hwp_report_text.specs.hwp_kill.declared.Code.TheVariants as kinds
use Rattle.hwp_report_text.specs.hwp_kill.declared.Policy.TheVariants as policies
use Rattle.hwp_report_text.specs.hwp_kill.declared.Seen.{Seen}
use Rattle.hwp_report_text.specs.hwp_kill.declared.Signal.{Signal}
use Rattle.hwp_report_text.specs.hwp_page.declared.Entry.{Entry}
use Rattle.hwp_report_text.specs.hwp_page.declared.What.TheVariants as whats
use Rattle.hwp_report_text.specs.declared.Answer.TheVariants as answers
use Rattle.hwp_report_text.specs.declared.CpuLine.{CpuLine}
use Rattle.hwp_report_text.specs.declared.CpuLine.TheVariants as lines
use Rattle.hwp_report_text.specs.declared.Report.{Report}
use Rattle.hwp_report.specs.declared.report_line.ReportLine.{ReportLine}
use Rattle.hwp_report.specs.declared.report_line.ReportLine.TheVariants as forms
use Rattle.hwp_report.specs.declared.partial.OpenPage.{OpenPage}
use Rattle.hwp_report.specs.declared.partial.OpenFailure.{OpenFailure}
use Rattle.hwp_report.specs.declared.partial.OpenCpu.{OpenCpu}
use Rattle.hwp_report.specs.declared.partial.Partial.{Partial}
use Rattle.hwp_report.specs.declared.partial.Partial.TheVariants as partials
use Rattle.hwp_report_words.specs.pages.Fits.{EntryFits}
use Rattle.hwp_report.specs.Forms.{FormFits}
use Rattle.hwp_report.specs.Follows.{entry_of, signals_so_far, seen_so_far}
use Rattle.hwp_report.proofs.LinesRead.{entry_forms}
use Rattle.hwp_report.proofs.ReportReads.{onward, onward-append, same, differ, if_true, if_false, on_entries, on_policies, on_signals, on_cpu_lines}

-- what is in hand is not more than its heading says
abbrev pub IsWithin : Partial → Type 0
IsWithin (partials.Pages page) = length page.entries ≤ page.count
IsWithin (partials.Seeing page f) = (length page.entries < page.count) × (length f.seen < f.line.seen) × (f.line.signals ≤ signal_limit)
IsWithin (partials.Signalling page f signals) = (length page.entries < page.count) × (length signals < f.line.signals) × (f.line.signals ≤ signal_limit)
IsWithin (partials.Cpus cpu) = length cpu.lines ≤ cpu.count
IsWithin p = Unit {0}

-- lines with which what was read so far is the text of a report
pub record CanFinish (p : Partial) : Type 0 where
  pub more : List ReportLine
  pub fits : All FormFits more
  pub report : Report
  pub read : onward (Some p) more ≡ Some (partials.Whole report)

finish_behind : (p q : Partial) (fs : List ReportLine) → All FormFits fs → onward (Some p) fs ≡ Some q → CanFinish q → CanFinish p
finish_behind p q fs fits e h = record {
  more = fs ++ h.more;
  fits = All-append FormFits fs h.more fits h.fits;
  report = h.report;
  read = onward-append (Some p) fs h.more ∙ ap (λ read. onward read h.more) e ∙ h.read;
}

-- with these lines alone
finish_with : (p : Partial) (fs : List ReportLine) (report : Report) → All FormFits fs → onward (Some p) fs ≡ Some (partials.Whole report) → CanFinish p
finish_with p fs report fits e = record { more = fs; fits = fits; report = report; read = e }

last : All FormFits (forms.End ∷ [])
last = All-cons FormFits forms.End [] tt (All-nil FormFits)

finish_page : (page : OpenPage) → length page.entries ≡ page.count → CanFinish (partials.Pages page)
finish_page page all =
    finish_with (partials.Pages page) (forms.End ∷ []) _ last
    (if_true (length page.entries == page.count) _ _ (ap (λ n. length page.entries == n) (sym all) ∙ same (length page.entries)))

abbrev quiet : Entry
quiet = record { who = record { cpu = record { 0 = 0 }; seq = 0 }; what = whats.Drop }

entries_fit : (n : ℕ) → All FormFits (flat_map entry_forms (replicate n quiet))
entries_fit zero = All-nil FormFits
entries_fit (suc n) = All-cons FormFits (forms.Entry quiet) (flat_map entry_forms (replicate n quiet)) ((omega arith, omega arith), tt) (entries_fit n)

finish_entries : (page : OpenPage) → length page.entries ≤ page.count → CanFinish (partials.Pages page)
finish_entries page some =
    let left = page.count - length page.entries in
    let all : length page.entries + length (replicate left quiet) ≡ page.count = omega (arith, length-replicate left quiet, some) in
    finish_behind (partials.Pages page) _ (flat_map entry_forms (replicate left quiet)) (entries_fit left)
    (on_entries page (replicate left quiet) (All-replicate EntryFits left quiet ((omega arith, omega arith), tt)) all)
    (finish_page (record page { entries = page.entries ++ replicate left quiet }) (length-append page.entries (replicate left quiet) ∙ all))

abbrev any_signal : Signal
any_signal = record { process = record { 0 = 0 }; thread = record { 0 = 0 }; code = kinds.Ar; slot = record { 0 = 0 } }

abbrev any_seen : Seen
any_seen = record { thread = record { 0 = 0 }; policy = policies.Late; n = 0 }

finish_signals : (page : OpenPage) (f : OpenFailure) (signals : List Signal) → length page.entries < page.count → length signals ≤ f.line.signals
    → f.line.signals ≤ signal_limit → CanFinish (signals_so_far page f signals)
finish_signals page f signals room some few =
    let left = f.line.signals - length signals in
    let all : length signals + length (replicate left any_signal) ≡ f.line.signals = omega (arith, length-replicate left any_signal, some) in
    let total : length (signals ++ replicate left any_signal) ≡ f.line.signals = length-append signals (replicate left any_signal) ∙ all in
    finish_behind (signals_so_far page f signals) (partials.Pages (record page { entries = page.entries ++ entry_of f (signals ++ replicate left any_signal) ∷ [] }))
    (map forms.Signal (replicate left any_signal))
    (All-map FormFits forms.Signal (replicate left any_signal) (All-replicate (λ s. FormFits (forms.Signal s)) left any_signal (omega arith, omega arith, omega arith)))
    (on_signals page f signals (replicate left any_signal) all few
    ∙ ap Some (if_true (length (signals ++ replicate left any_signal) == f.line.signals) _ _ (ap (λ n. n == f.line.signals) total ∙ same f.line.signals)))
    (finish_entries (record page { entries = page.entries ++ entry_of f (signals ++ replicate left any_signal) ∷ [] })
    (omega (arith, length-append page.entries (entry_of f (signals ++ replicate left any_signal) ∷ []))))

finish_policies : (page : OpenPage) (f : OpenFailure) → length page.entries < page.count → length f.seen ≤ f.line.seen
    → f.line.signals ≤ signal_limit → CanFinish (seen_so_far page f)
finish_policies page f room some few =
    let left = f.line.seen - length f.seen in
    let all : length f.seen + length (replicate left any_seen) ≡ f.line.seen = omega (arith, length-replicate left any_seen, some) in
    let total : length (f.seen ++ replicate left any_seen) ≡ f.line.seen = length-append f.seen (replicate left any_seen) ∙ all in
    let g = record f { seen = f.seen ++ replicate left any_seen } in
    finish_behind (seen_so_far page f) (signals_so_far page g []) (map forms.Seen (replicate left any_seen))
    (All-map FormFits forms.Seen (replicate left any_seen) (All-replicate (λ s. FormFits (forms.Seen s)) left any_seen (omega arith, omega arith)))
    (on_policies page f (replicate left any_seen) all
    ∙ ap Some (if_true (length g.seen == f.line.seen) _ _ (ap (λ n. n == f.line.seen) total ∙ same f.line.seen)))
    (finish_signals page g [] room (omega arith) few)

abbrev any_line : CpuLine
any_line = lines.Answer 0 answers.Done

finish_cpu : (cpu : OpenCpu) → length cpu.lines ≤ cpu.count → CanFinish (partials.Cpus cpu)
finish_cpu cpu some =
    let left = cpu.count - length cpu.lines in
    let all : length cpu.lines + length (replicate left any_line) ≡ cpu.count = omega (arith, length-replicate left any_line, some) in
    let total : length (cpu.lines ++ replicate left any_line) ≡ cpu.count = length-append cpu.lines (replicate left any_line) ∙ all in
    finish_behind (partials.Cpus cpu) _ (map forms.CpuLine (replicate left any_line))
    (All-map FormFits forms.CpuLine (replicate left any_line) (All-replicate (λ l. FormFits (forms.CpuLine l)) left any_line (omega arith, tt)))
    (on_cpu_lines cpu (replicate left any_line) all)
    (finish_with (partials.Cpus (record cpu { lines = cpu.lines ++ replicate left any_line })) (forms.End ∷ []) _ last
    (if_true (length (cpu.lines ++ replicate left any_line) == cpu.count) _ _ (ap (λ n. n == cpu.count) total ∙ same cpu.count)))

pub can_finish : (p : Partial) → IsWithin p → CanFinish p
can_finish partials.Nothing h =
    finish_with partials.Nothing (forms.Header One ∷ forms.Stop None ∷ forms.Count 0 ∷ forms.End ∷ []) _
    (All-cons FormFits (forms.Header One) (forms.Stop None ∷ forms.Count 0 ∷ forms.End ∷ []) tt (All-cons FormFits (forms.Stop None) (forms.Count 0 ∷ forms.End ∷ []) tt (All-cons FormFits (forms.Count 0) (forms.End ∷ []) (omega arith) last))) refl
can_finish (partials.Headed version) h =
    finish_with (partials.Headed version) (forms.Stop None ∷ forms.Count 0 ∷ forms.End ∷ []) _
    (All-cons FormFits (forms.Stop None) (forms.Count 0 ∷ forms.End ∷ []) tt (All-cons FormFits (forms.Count 0) (forms.End ∷ []) (omega arith) last)) refl
can_finish (partials.Stopped version stop) h =
    finish_with (partials.Stopped version stop) (forms.Count 0 ∷ forms.End ∷ []) _ (All-cons FormFits (forms.Count 0) (forms.End ∷ []) (omega arith) last) refl
can_finish (partials.Files front) h = finish_with (partials.Files front) (forms.End ∷ []) _ last refl
can_finish (partials.Frames framed frame) h = finish_with (partials.Frames framed frame) (forms.End ∷ []) _ last refl
can_finish (partials.Pages page) h = finish_entries page h
can_finish (partials.Seeing page f) h =
    rw (← if_false (length f.seen == f.line.seen) (signals_so_far page f []) (partials.Seeing page f) (differ (length f.seen) f.line.seen h.1))
    (finish_policies page f h.0 (omega (arith, h.1)) h.2)
can_finish (partials.Signalling page f signals) h =
    rw (← if_false (length signals == f.line.signals) (partials.Pages (record page { entries = page.entries ++ entry_of f signals ∷ [] })) (partials.Signalling page f signals) (differ (length signals) f.line.signals h.1))
    (finish_signals page f signals h.0 (omega (arith, h.1)) h.2)
can_finish (partials.Cpus cpu) h = finish_cpu cpu h
can_finish (partials.Whole report) h = finish_with (partials.Whole report) [] report (All-nil FormFits) refl
