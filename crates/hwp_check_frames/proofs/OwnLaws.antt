-- The counts of marks that events caused are those of each command's marks in each frame.
use Rattle.std.proofs.Common.{◌≡◌, ℕ, zero, suc, ◌+◌, ◌<◌, ◌≤◌, ◌==◌, ◌&&◌, Bool, true, false, cond, List, [], ◌∷◌, drop, get_or, length, option_map, slice_get, sum_by, take, unwrap_or, refl, ap, ◌∙◌, arith}
use Rattle.std.proofs.lemmas.Bool.{eq-eqb, ne_eqb}
use Rattle.std.proofs.lemmas.List.{drop_more}
use Rattle.std.proofs.lemmas.List.Sums.{sum_by-cons, sum_by-take-le, sum_by_more, sum_by_more_le}
use Rattle.hwp_check_rules.specs.hwp_geom.declared.Who.{Who}
use Rattle.hwp_check_rules.specs.hwp_report_text.declared.FrameLine.{FrameLine}
use Rattle.hwp_check_rules.specs.hwp_report_text.declared.How.TheVariants as hows
use Rattle.hwp_check_rules.specs.hwp_report_text.declared.MarkLine.{MarkLine}
use Rattle.hwp_check_rules.specs.hwp_report_text.declared.MarkLine.TheVariants as marks
use Rattle.hwp_check_rules.specs.hwp_report_text.declared.Report.{Report}
use Rattle.hwp_check_rules.specs.hwp_law.Lines.{is_same_command, marks_of}
use Rattle.hwp_check_rules.specs.hwp_law.Records.{hardware_marks, is_by_hardware, who_in}
use Rattle.hwp_check_rules.specs.Standing.{frame_height}
use Rattle.hwp_check_frames.specs.Own.{own_raise}
use Rattle.hwp_check_frames.specs.Own.{frames_own, marks_own}
use Rattle.hwp_check_frames.proofs.CountRises.{flag, raise-one, same-swap}

own-most : (frame : ℕ) (q : (ℕ × ℕ) × ℕ) (m : MarkLine) → own_raise frame q m ≤ 1
own-most frame q (marks.Poisoned cycle who (hows.Failure true situation outcome)) = raise-one ((who.cpu.0, who.seq), frame) q
own-most frame q (marks.Poisoned cycle who (hows.Failure false situation outcome)) = omega arith
own-most frame q (marks.Poisoned cycle who hows.Moved) = omega arith
own-most frame q (marks.Poisoned cycle who hows.TakenFree) = omega arith
own-most frame q (marks.Unpoisoned cycle who) = omega arith

pub owns-most : (frame : ℕ) (q : (ℕ × ℕ) × ℕ) (ms : List MarkLine) → marks_own frame q ms ≤ length ms
owns-most frame q [] = omega arith
owns-most frame q (m ∷ ms) =
    let all : marks_own frame q (m ∷ ms) ≡ own_raise frame q m + marks_own frame q ms = sum_by-cons (own_raise frame q) m ms in
    let one : own_raise frame q m ≤ 1 = own-most frame q m in
    let rest : marks_own frame q ms ≤ length ms = owns-most frame q ms in
    omega (arith, all, one, rest)

pub owns-front : (frame : ℕ) (q : (ℕ × ℕ) × ℕ) (ms : List MarkLine) (i : ℕ) → marks_own frame q (take i ms) ≤ length ms
owns-front frame q ms i =
    let part : marks_own frame q (take i ms) ≤ marks_own frame q ms = sum_by-take-le (own_raise frame q) ms i in
    let all : marks_own frame q ms ≤ length ms = owns-most frame q ms in
    omega (arith, part, all)

-- a mark more
pub owns-next : (frame : ℕ) (q : (ℕ × ℕ) × ℕ) (ms : List MarkLine) (i : ℕ) (d : MarkLine) (was is : ℕ) → i < length ms → is ≡ was + own_raise frame q (get_or ms i d) → was ≡ marks_own frame q (take i ms) → is ≡ marks_own frame q (take (i + 1) ms)
owns-next frame q ms i d was is within counted had =
    let more : marks_own frame q (take (i + 1) ms) ≡ marks_own frame q (take i ms) + own_raise frame q (get_or ms i d) = sum_by_more (own_raise frame q) ms i d within in
    omega (arith, more, counted, had)

pub frames-next : (n : ℕ) (q : (ℕ × ℕ) × ℕ) (frames : List FrameLine) (d shown : FrameLine) (list : List MarkLine) (was is total : ℕ) → n < length frames → shown ≡ get_or frames n d → list ≡ shown.marks → is ≡ was + marks_own n q list
    → was + frames_own n q (drop n frames) ≡ total → is + frames_own (n + 1) q (drop (n + 1) frames) ≡ total
frames-next n q frames d shown list was is total within here marks_are counted all =
    let are : list ≡ (get_or frames n d).marks = marks_are ∙ ap (λ (l : FrameLine). l.marks) here in
    let split : frames_own n q (drop n frames) ≡ marks_own n q (get_or frames n d).marks + frames_own (n + 1) q (drop (n + 1) frames) = ap (λ (l : List FrameLine). frames_own n q l) (drop_more frames n d within) in
    let same : marks_own n q list ≡ marks_own n q (get_or frames n d).marks = ap (λ (ms : List MarkLine). marks_own n q ms) are in
    omega (arith, split, same, counted, all)

pub frames-most : (n : ℕ) (q : (ℕ × ℕ) × ℕ) (frames : List FrameLine) (d shown : FrameLine) (list : List MarkLine) (was is : ℕ) → n < length frames → shown ≡ get_or frames n d → list ≡ shown.marks → is ≡ was + marks_own n q list
    → was ≤ sum_by frame_height (take n frames) → is ≤ sum_by frame_height (take (n + 1) frames)
frames-most n q frames d shown list was is within here marks_are counted low =
    let are : list ≡ (get_or frames n d).marks = marks_are ∙ ap (λ (l : FrameLine). l.marks) here in
    let more : sum_by frame_height (take (n + 1) frames) ≡ sum_by frame_height (take n frames) + frame_height (get_or frames n d) = sum_by_more frame_height frames n d within in
    let most : marks_own n q list ≤ length list = owns-most n q list in
    let same : length list ≡ length (get_or frames n d).marks = ap (λ (ms : List MarkLine). length ms) are in
    omega (arith, more, most, same, counted, low)

-- what was counted and a frame's marks stay below the number of lines
pub marks-room : (frames : List FrameLine) (i : ℕ) (d x : FrameLine) (list : List MarkLine) (was : ℕ) → i < length frames → x ≡ get_or frames i d → list ≡ x.marks → was ≤ sum_by frame_height (take i frames) → was + length list + 1 ≤ sum_by frame_height frames
marks-room frames i d x list was within is marks_are low =
    let same : length list ≡ length (get_or frames i d).marks = ap (λ (ms : List MarkLine). length ms) (marks_are ∙ ap (λ (l : FrameLine). l.marks) is) in
    let more : sum_by frame_height (take i frames) + frame_height (get_or frames i d) ≤ sum_by frame_height frames = sum_by_more_le frame_height frames i d within in
    omega (arith, low, more, same)

-- in its own frame
own-flag : (w : Who) (frame : ℕ) (m : MarkLine) → own_raise frame ((w.cpu.0, w.seq), frame) m ≡ flag (is_same_command w (who_in m) && is_by_hardware m)
own-flag w frame (marks.Poisoned cycle v (hows.Failure true s outcome)) =
    ap (λ (b : Bool). flag (b && (frame == frame))) (same-swap v w) ∙ ap (λ (b : Bool). flag (is_same_command w v && b)) (eq-eqb frame frame refl)
own-flag w frame (marks.Poisoned cycle v (hows.Failure false s outcome)) = none (is_same_command w v)
  where
    none : (b : Bool) → 0 ≡ flag (b && false)
    none true = refl
    none false = refl
own-flag w frame (marks.Poisoned cycle v hows.Moved) = none (is_same_command w v)
  where
    none : (b : Bool) → 0 ≡ flag (b && false)
    none true = refl
    none false = refl
own-flag w frame (marks.Poisoned cycle v hows.TakenFree) = none (is_same_command w v)
  where
    none : (b : Bool) → 0 ≡ flag (b && false)
    none true = refl
    none false = refl
own-flag w frame (marks.Unpoisoned cycle v) = none (is_same_command w v)
  where
    none : (b : Bool) → 0 ≡ flag (b && false)
    none true = refl
    none false = refl

pub owns-are : (w : Who) (frame : ℕ) (ms : List MarkLine) → marks_own frame ((w.cpu.0, w.seq), frame) ms ≡ length (hardware_marks w ms)
owns-are w frame [] = refl
owns-are w frame (m ∷ ms) =
    let all : marks_own frame ((w.cpu.0, w.seq), frame) (m ∷ ms) ≡ own_raise frame ((w.cpu.0, w.seq), frame) m + marks_own frame ((w.cpu.0, w.seq), frame) ms = sum_by-cons (own_raise frame ((w.cpu.0, w.seq), frame)) m ms in
    let one : own_raise frame ((w.cpu.0, w.seq), frame) m ≡ flag (is_same_command w (who_in m) && is_by_hardware m) = own-flag w frame m in
    let rest : marks_own frame ((w.cpu.0, w.seq), frame) ms ≡ length (hardware_marks w ms) = owns-are w frame ms in
    let split : flag (is_same_command w (who_in m) && is_by_hardware m) + length (hardware_marks w ms) ≡ length (hardware_marks w (m ∷ ms)) = by (is_same_command w (who_in m) && is_by_hardware m) (hardware_marks w ms) in
    omega (arith, all, one, rest, split)
  where
    by : (b : Bool) (list : List MarkLine) → flag b + length list ≡ length (cond b (m ∷ list) list)
    by true list = omega arith
    by false list = omega arith

-- and in another
mark-elsewhere : (w : Who) (n frame : ℕ) (m : MarkLine) → (n == frame) ≡ false → own_raise n ((w.cpu.0, w.seq), frame) m ≡ 0
mark-elsewhere w n frame (marks.Poisoned cycle v (hows.Failure true s outcome)) other = ap (λ (b : Bool). flag (((v.cpu.0 == w.cpu.0) && (v.seq == w.seq)) && b)) other ∙ none ((v.cpu.0 == w.cpu.0) && (v.seq == w.seq))
  where
    none : (b : Bool) → flag (b && false) ≡ 0
    none true = refl
    none false = refl
mark-elsewhere w n frame (marks.Poisoned cycle v (hows.Failure false s outcome)) other = refl
mark-elsewhere w n frame (marks.Poisoned cycle v hows.Moved) other = refl
mark-elsewhere w n frame (marks.Poisoned cycle v hows.TakenFree) other = refl
mark-elsewhere w n frame (marks.Unpoisoned cycle v) other = refl

elsewhere : (w : Who) (n frame : ℕ) (ms : List MarkLine) → (n == frame) ≡ false → marks_own n ((w.cpu.0, w.seq), frame) ms ≡ 0
elsewhere w n frame [] other = refl
elsewhere w n frame (m ∷ ms) other =
    let all : marks_own n ((w.cpu.0, w.seq), frame) (m ∷ ms) ≡ own_raise n ((w.cpu.0, w.seq), frame) m + marks_own n ((w.cpu.0, w.seq), frame) ms = sum_by-cons (own_raise n ((w.cpu.0, w.seq), frame)) m ms in
    let one : own_raise n ((w.cpu.0, w.seq), frame) m ≡ 0 = mark-elsewhere w n frame m other in
    let rest : marks_own n ((w.cpu.0, w.seq), frame) ms ≡ 0 = elsewhere w n frame ms other in
    omega (arith, all, one, rest)

later-none : (w : Who) (n frame : ℕ) (ls : List FrameLine) → frame < n → frames_own n ((w.cpu.0, w.seq), frame) ls ≡ 0
later-none w n frame [] low = refl
later-none w n frame (l ∷ ls) low =
    let one : marks_own n ((w.cpu.0, w.seq), frame) l.marks ≡ 0 = elsewhere w n frame l.marks (ne_eqb n frame (λ e. omega (arith, e, low))) in
    let rest : frames_own (n + 1) ((w.cpu.0, w.seq), frame) ls ≡ 0 = later-none w (n + 1) frame ls (omega (arith, low)) in
    omega (arith, one, rest)

abbrev marks-at : List FrameLine → ℕ → List MarkLine
marks-at frames k = unwrap_or (option_map (λ (l : FrameLine). l.marks) (slice_get frames k)) []

from-here : (w : Who) (n k frame : ℕ) (ls : List FrameLine) → frame ≡ n + k → frames_own n ((w.cpu.0, w.seq), frame) ls ≡ length (hardware_marks w (marks-at ls k))
from-here w n k frame [] is = refl
from-here w n zero frame (l ∷ ls) is =
    let here : n ≡ frame = omega (arith, is) in
    let one : marks_own n ((w.cpu.0, w.seq), frame) l.marks ≡ length (hardware_marks w l.marks) = ap (λ (j : ℕ). marks_own j ((w.cpu.0, w.seq), frame) l.marks) here ∙ owns-are w frame l.marks in
    let rest : frames_own (n + 1) ((w.cpu.0, w.seq), frame) ls ≡ 0 = later-none w (n + 1) frame ls (omega (arith, here)) in
    omega (arith, one, rest)
from-here w n (suc k) frame (l ∷ ls) is =
    let one : marks_own n ((w.cpu.0, w.seq), frame) l.marks ≡ 0 = elsewhere w n frame l.marks (ne_eqb n frame (λ e. omega (arith, e, is))) in
    let rest : frames_own (n + 1) ((w.cpu.0, w.seq), frame) ls ≡ length (hardware_marks w (marks-at ls k)) = from-here w (n + 1) k frame ls (omega (arith, is)) in
    omega (arith, one, rest)

pub own-is : (report : Report) (w : Who) (frame : ℕ) → frames_own 0 ((w.cpu.0, w.seq), frame) report.frames ≡ length (hardware_marks w (marks_of report frame))
own-is report w frame = from-here w 0 frame frame report.frames (omega arith)
