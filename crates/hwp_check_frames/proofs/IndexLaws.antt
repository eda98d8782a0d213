-- What was looked up of a report is what its lines and records say.
use Rattle.std.proofs.Common.{◌≡◌, ℕ, zero, suc, ◌<◌, ◌==◌, ◌&&◌, ◌||◌, nat_lt, Bool, true, false, cond, List, [], ◌∷◌, Option, Some, None, filter, is_some, length, map, slice_get, slice_index_or, unwrap_or, true≢false, refl, sym, ap, ◌∙◌, arith}
use Rattle.std.specs.HashMap.{HashMap}
use Rattle.std.specs.List.{cons_option}
use Rattle.std.proofs.lemmas.Bool.{eq-eqb}
use Rattle.std.proofs.lemmas.List.{length-map}
use Rattle.hwp_check_rules.specs.hwp_geom.declared.Who.{Who}
use Rattle.hwp_check_rules.specs.hwp_banks.Addresses.{frame_at}
use Rattle.hwp_check_rules.specs.hwp_report_text.declared.Acted.{Acted}
use Rattle.hwp_check_rules.specs.hwp_report_text.declared.Acted.TheVariants as acts
use Rattle.hwp_check_rules.specs.hwp_report_text.declared.CpuLine.{CpuLine}
use Rattle.hwp_check_rules.specs.hwp_report_text.declared.CpuLine.TheVariants as lines
use Rattle.hwp_check_rules.specs.hwp_report_text.declared.EventLine.{EventLine}
use Rattle.hwp_check_rules.specs.hwp_report_text.declared.MarkLine.{MarkLine}
use Rattle.hwp_check_rules.specs.hwp_report_text.declared.Report.{Report}
use Rattle.hwp_check_rules.specs.hwp_law.Lines.{events_of, marks_of, rows_of}
use Rattle.hwp_check_rules.specs.hwp_law.Records.{hardware_marks, line_results, result_lines, result_of}
use Rattle.hwp_check_frames.specs.Counts.{at_key}
use Rattle.hwp_check_frames.specs.Flags.{AreFlags, row_flag, rows_flag}
use Rattle.hwp_check_frames.specs.Index.{acted_in}
use Rattle.hwp_check_frames.specs.MarkScans.{NoneBeyond, SomeBeyond, is_beyond, results_in, row_beyond, rows_beyond}
use Rattle.hwp_check_frames.specs.Own.{frames_own, marks_own}
use Rattle.hwp_check_frames.specs.Said.{AreNoted, row_at, said_below}
use Rattle.hwp_check_frames.specs.declared.noted.Noted.{Noted}
use Rattle.hwp_check_frames.proofs.OwnLaws.{own-is, owns-are}
use Rattle.hwp_check_frames.proofs.Results.{results-are, results-many}
use Rattle.hwp_check_frames.proofs.SaidLaws.{of_frame, row-in, said-all}
use Rattle.hwp_check_frames.proofs.FramePlaces.{and-right}

-- a line with a result says that result
result-self : (a : Acted) → is_some (result_of a) ≡ true → Some a ≡ result_of a
result-self acts.Recovered is = refl
result-self acts.Delayed is = refl
result-self acts.Ignored is = refl
result-self _ is = absurd (true≢false (sym is))

acted-cons : (l : EventLine) (ls : List EventLine) (k : ℕ) → is_some (result_of l.acted) ≡ true → ((j : ℕ) → acted_in (slice_get (map row-in ls) j) ≡ slice_get (line_results ls) j)
    → acted_in (slice_get (row-in l ∷ map row-in ls) k) ≡ slice_get (line_results (l ∷ ls)) k
acted-cons l ls zero said rest = ap (λ (o : Option Acted). slice_get (cons_option o (line_results ls)) 0) (result-self l.acted said)
acted-cons l ls (suc k) said rest = rest k ∙ ap (λ (o : Option Acted). slice_get (cons_option o (line_results ls)) (suc k)) (result-self l.acted said)

acted-get : (frame : ℕ) (events : List EventLine) (k : ℕ) → acted_in (slice_get (map row-in (filter (of_frame frame) events)) k) ≡ slice_get (line_results (filter (of_frame frame) events)) k
acted-get frame [] k = refl
acted-get frame (l ∷ ls) k = by (of_frame frame l) refl (acted-get frame ls)
  where
    by : (b : Bool) → of_frame frame l ≡ b → ((j : ℕ) → acted_in (slice_get (map row-in (filter (of_frame frame) ls)) j) ≡ slice_get (line_results (filter (of_frame frame) ls)) j)
        → acted_in (slice_get (map row-in (cond b (l ∷ filter (of_frame frame) ls) (filter (of_frame frame) ls))) k) ≡ slice_get (line_results (cond b (l ∷ filter (of_frame frame) ls) (filter (of_frame frame) ls))) k
    by true is rest = acted-cons l (filter (of_frame frame) ls) k (and-right (frame == frame_at l.addr) (is_some (result_of l.acted)) is) rest
    by false is rest = rest k

and-all : (b : Bool) → (b && true) ≡ b
and-all true = refl
and-all false = refl

and-none : (b : Bool) → (b && false) ≡ false
and-none true = refl
and-none false = refl

said-here : (acted : Acted) (b : Bool) → (is_some (result_of acted) && b) ≡ is_some (cond (true && b) (result_of acted) None)
said-here acted true = and-all (is_some (result_of acted))
said-here acted false = and-none (is_some (result_of acted))

module _ {S : Type 0} {T : Type 0} (report : Report) (many : HashMap ((ℕ × ℕ) × ℕ) ℕ S) (rows : HashMap (((ℕ × ℕ) × ℕ) × ℕ) Noted T) (noted : AreNoted (said_below (length report.cpus) report) many rows) where
  -- the results of a command's lines, by number
  pub result-is : (who : Who) (frame k : ℕ) → acted_in (row_at rows (((who.cpu.0, who.seq), frame), k)) ≡ slice_get (results_in who.seq frame (rows_of report who)) k
  result-is who frame k =
      ap acted_in (noted.row_is ((who.cpu.0, who.seq), frame) k ∙ ap (λ (xs : List Noted). slice_get xs k) (said-all report who frame)) ∙ acted-get frame (events_of report who) k
      ∙ ap (λ (xs : List Acted). slice_get xs k) (results-are report who frame)

  many-is : (who : Who) (frame : ℕ) → at_key many ((who.cpu.0, who.seq), frame) ≡ length (results_in who.seq frame (rows_of report who))
  many-is who frame =
      noted.many_is ((who.cpu.0, who.seq), frame) ∙ ap (λ (xs : List Noted). length xs) (said-all report who frame) ∙ length-map (result_lines report who frame) row-in ∙ results-many report who frame

  -- the flags of frames
  module _ (own : HashMap ((ℕ × ℕ) × ℕ) ℕ S) (own_are : (q : (ℕ × ℕ) × ℕ) → at_key own q ≡ frames_own 0 q report.frames) where
    row-same : (all : List CpuLine) (cpu frame : ℕ) (r : CpuLine) → slice_get report.cpus cpu ≡ Some all → row_flag own many cpu frame r ≡ row_beyond (marks_of report frame) all frame cpu r
    row-same all cpu frame (lines.Answer s answer) there = refl
    row-same all cpu frame (lines.Offlined offlined) there = refl
    row-same all cpu frame (lines.Guest guest) there = refl
    row-same all cpu frame (lines.Event event) there =
        let who : Who = record { cpu = record { 0 = cpu }; seq = event.seq } in
        ap (λ (n : ℕ). (is_some (result_of event.acted) && (frame == frame_at event.addr)) && nat_lt n (at_key many ((cpu, event.seq), frame))) (own_are ((cpu, event.seq), frame) ∙ own-is report who frame)
        ∙ ap (λ (n : ℕ). (is_some (result_of event.acted) && (frame == frame_at event.addr)) && nat_lt (length (hardware_marks who (marks_of report frame))) n)
        (many-is who frame ∙ ap (λ (o : Option (List CpuLine)). length (results_in event.seq frame (unwrap_or o []))) there)
        ∙ ap (λ (b : Bool). b && is_beyond (marks_of report frame) all frame cpu event.seq) (said-here event.acted (frame == frame_at event.addr) ∙ ap (λ (b : Bool). is_some (cond (b && (frame == frame_at event.addr)) (result_of event.acted) None)) (sym (eq-eqb event.seq event.seq refl)))

    rows-same : (all : List CpuLine) (cpu frame : ℕ) (list : List CpuLine) → slice_get report.cpus cpu ≡ Some all → rows_flag own many cpu frame list ≡ rows_beyond (marks_of report frame) all frame cpu list
    rows-same all cpu frame [] there = refl
    rows-same all cpu frame (r ∷ rs) there =
        ap (λ (b : Bool). b || rows_flag own many cpu frame rs) (row-same all cpu frame r there) ∙ ap (λ (b : Bool). row_beyond (marks_of report frame) all frame cpu r || b) (rows-same all cpu frame rs there)

    pub some-flagged : (n : ℕ) (flags : List Bool) → AreFlags report own many n flags → (frame : ℕ) (d : Bool) → frame < length flags → slice_index_or flags frame d ≡ true → SomeBeyond report (marks_of report frame) frame
    some-flagged n flags are frame d within is = let f = are.flagged frame d within is in (f.0, f.1, f.3, sym (rows-same f.1 f.0 frame f.1 f.3) ∙ f.4)

    pub none-flagged : (n : ℕ) (flags : List Bool) → AreFlags report own many n flags → n ≡ length report.cpus → (frame : ℕ) (d : Bool) → frame < length flags → slice_index_or flags frame d ≡ false
        → NoneBeyond report (marks_of report frame) frame (length report.cpus)
    none-flagged n flags are all frame d within is cpu rows less there = sym (rows-same rows cpu frame rows there) ∙ are.unflagged frame d within is cpu rows (omega (arith, less, all)) there

-- the number of a mark among those of its command
pub place-is : (who : Who) (frame : ℕ) (before : List MarkLine) (n : ℕ) → n ≡ marks_own frame ((who.cpu.0, who.seq), frame) before → n ≡ length (hardware_marks who before)
place-is who frame before n is = is ∙ owns-are who frame before
