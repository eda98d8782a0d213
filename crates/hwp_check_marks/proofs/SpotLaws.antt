-- The counts of soft offlines that lines beside answers tell are those of each command's marks in each frame.
use Rattle.std.proofs.Common.{◌≡◌, ℕ, zero, suc, ◌+◌, ◌*◌, ◌<◌, ◌≤◌, ◌==◌, ◌&&◌, nat_lt, Bool, true, false, true≢false, cond, List, [], ◌∷◌, count_by, drop, get_or, length, option_map, slice_get, sum_by, take, unwrap_or, refl, sym, ap, ◌∙◌, arith}
use Rattle.std.specs.HashMap.{HashMap}
use Rattle.std.proofs.lemmas.Bool.{eq-eqb, lt-ltb, ne_eqb}
use Rattle.std.proofs.lemmas.List.{drop_more}
use Rattle.std.proofs.lemmas.List.Sums.{sum_by-cons, sum_by-take-le, sum_by_more}
use Rattle.hwp_check_rules.specs.hwp_geom.declared.Who.{Who}
use Rattle.hwp_check_rules.specs.hwp_report_text.declared.FrameLine.{FrameLine}
use Rattle.hwp_check_rules.specs.hwp_report_text.declared.How.TheVariants as hows
use Rattle.hwp_check_rules.specs.hwp_report_text.declared.MarkLine.{MarkLine}
use Rattle.hwp_check_rules.specs.hwp_report_text.declared.MarkLine.TheVariants as marks
use Rattle.hwp_check_rules.specs.hwp_report_text.declared.Report.{Report}
use Rattle.hwp_check_rules.specs.hwp_law.Lines.{is_same_command, marks_of}
use Rattle.hwp_check_rules.specs.hwp_law.Pairings.{is_soft_mark}
use Rattle.hwp_check_rules.specs.Standing.{frame_height}
use Rattle.hwp_check_frames.specs.Beside.{spot}
use Rattle.hwp_check_frames.specs.Counts.{at_key, raise}
use Rattle.hwp_check_marks.specs.Spots.{frames_told, mark_told, marks_told, told_raise}
use Rattle.hwp_check_frames.proofs.BesideLaws.{place-same, same}
use Rattle.hwp_check_frames.proofs.CountRises.{flag, raise-one, same-swap}
use Rattle.hwp_check_frames.proofs.FramePlaces.{and-left, and-right, same-self, same-who}

same-bool : (m n : Bool) → same m n ≡ true → m ≡ n
same-bool true true is = refl
same-bool true false is = absurd (true≢false (sym is))
same-bool false true is = absurd (true≢false (sym is))
same-bool false false is = refl

same-own : (m : Bool) → same m m ≡ true
same-own true = refl
same-own false = refl

-- whether a mark says the result that is asked
moved-same : (m : Bool) → same true m ≡ cond m true false
moved-same true = refl
moved-same false = refl

taken-same : (m : Bool) → same false m ≡ cond m false true
taken-same true = refl
taken-same false = refl

either-none : (m : Bool) → cond m false false ≡ false
either-none true = refl
either-none false = refl

module _ {S : Type 0} (lines : HashMap ((ℕ × ℕ) × ℕ) ℕ S) where
  told-one : (key q : (ℕ × ℕ) × ℕ) → told_raise lines key q ≤ 1
  told-one key q = by (nat_lt 0 (at_key lines key))
    where
      by : (b : Bool) → cond b (raise key q) 0 ≤ 1
      by true = raise-one key q
      by false = omega arith

  mark-most : (frame : ℕ) (q : (ℕ × ℕ) × ℕ) (m : MarkLine) → mark_told lines frame q m ≤ 1
  mark-most frame q (marks.Poisoned cycle who (hows.Failure hardware situation outcome)) = omega arith
  mark-most frame q (marks.Poisoned cycle who hows.Moved) = told-one (spot who frame true) q
  mark-most frame q (marks.Poisoned cycle who hows.TakenFree) = told-one (spot who frame false) q
  mark-most frame q (marks.Unpoisoned cycle who) = omega arith

  marks-most : (frame : ℕ) (q : (ℕ × ℕ) × ℕ) (ms : List MarkLine) → marks_told lines frame q ms ≤ length ms
  marks-most frame q [] = omega arith
  marks-most frame q (m ∷ ms) =
      let all : marks_told lines frame q (m ∷ ms) ≡ mark_told lines frame q m + marks_told lines frame q ms = sum_by-cons (mark_told lines frame q) m ms in
      let one : mark_told lines frame q m ≤ 1 = mark-most frame q m in
      let rest : marks_told lines frame q ms ≤ length ms = marks-most frame q ms in
      omega (arith, all, one, rest)

  pub marks-front : (frame : ℕ) (q : (ℕ × ℕ) × ℕ) (ms : List MarkLine) (i : ℕ) → marks_told lines frame q (take i ms) ≤ length ms
  marks-front frame q ms i =
      let part : marks_told lines frame q (take i ms) ≤ marks_told lines frame q ms = sum_by-take-le (mark_told lines frame q) ms i in
      let all : marks_told lines frame q ms ≤ length ms = marks-most frame q ms in
      omega (arith, part, all)

  -- a frame more
  pub frames-next : (n : ℕ) (q : (ℕ × ℕ) × ℕ) (frames : List FrameLine) (d shown : FrameLine) (list : List MarkLine) (was is total : ℕ) → n < length frames → shown ≡ get_or frames n d → list ≡ shown.marks → is ≡ was + marks_told lines n q list
      → was + frames_told lines n q (drop n frames) ≡ total → is + frames_told lines (n + 1) q (drop (n + 1) frames) ≡ total
  frames-next n q frames d shown list was is total within here marks_are counted all =
      let are : list ≡ (get_or frames n d).marks = marks_are ∙ ap (λ (l : FrameLine). l.marks) here in
      let split : frames_told lines n q (drop n frames) ≡ marks_told lines n q (get_or frames n d).marks + frames_told lines (n + 1) q (drop (n + 1) frames) = ap (λ (l : List FrameLine). frames_told lines n q l) (drop_more frames n d within) in
      let same_marks : marks_told lines n q list ≡ marks_told lines n q (get_or frames n d).marks = ap (λ (ms : List MarkLine). marks_told lines n q ms) are in
      omega (arith, split, same_marks, counted, all)

  pub frames-most : (n : ℕ) (q : (ℕ × ℕ) × ℕ) (frames : List FrameLine) (d shown : FrameLine) (list : List MarkLine) (was is : ℕ) → n < length frames → shown ≡ get_or frames n d → list ≡ shown.marks → is ≡ was + marks_told lines n q list
      → was ≤ sum_by frame_height (take n frames) → is ≤ sum_by frame_height (take (n + 1) frames)
  frames-most n q frames d shown list was is within here marks_are counted low =
      let are : list ≡ (get_or frames n d).marks = marks_are ∙ ap (λ (l : FrameLine). l.marks) here in
      let more : sum_by frame_height (take (n + 1) frames) ≡ sum_by frame_height (take n frames) + frame_height (get_or frames n d) = sum_by_more frame_height frames n d within in
      let most : marks_told lines n q list ≤ length list = marks-most n q list in
      let long : length list ≡ length (get_or frames n d).marks = ap (λ (ms : List MarkLine). length ms) are in
      omega (arith, more, most, long, counted, low)

  -- where lines of the command tell of the frame, its marks count; in another frame they don't
  spot-both : (v w : Who) (f g : ℕ) (m n : Bool) → raise (spot v f m) (spot w g n) ≡ flag (is_same_command w v && ((f == g) && same m n))
  spot-both v w f g m n =
      ap (λ (b : Bool). flag (b && ((f * 2 + cond m 1 0) == (g * 2 + cond n 1 0)))) (same-swap v w) ∙ ap (λ (b : Bool). flag (is_same_command w v && b)) (place-same f g m n)

  never : (b : Bool) (n : ℕ) → n ≡ 0 → cond b n 0 ≡ 0
  never true n is = is
  never false n is = refl

  no-flag : (a : Bool) → flag (a && false) ≡ 0
  no-flag true = refl
  no-flag false = refl

  mark-elsewhere : (w : Who) (n frame : ℕ) (moved : Bool) (m : MarkLine) → (n == frame) ≡ false → mark_told lines n (spot w frame moved) m ≡ 0
  mark-elsewhere w n frame moved (marks.Poisoned cycle v (hows.Failure hardware situation outcome)) other = refl
  mark-elsewhere w n frame moved (marks.Poisoned cycle v hows.Moved) other =
      never (nat_lt 0 (at_key lines (spot v n true))) (raise (spot v n true) (spot w frame moved))
      (spot-both v w n frame true moved ∙ ap (λ (b : Bool). flag (is_same_command w v && (b && same true moved))) other ∙ no-flag (is_same_command w v))
  mark-elsewhere w n frame moved (marks.Poisoned cycle v hows.TakenFree) other =
      never (nat_lt 0 (at_key lines (spot v n false))) (raise (spot v n false) (spot w frame moved))
      (spot-both v w n frame false moved ∙ ap (λ (b : Bool). flag (is_same_command w v && (b && same false moved))) other ∙ no-flag (is_same_command w v))
  mark-elsewhere w n frame moved (marks.Unpoisoned cycle v) other = refl

  elsewhere : (w : Who) (n frame : ℕ) (moved : Bool) (ms : List MarkLine) → (n == frame) ≡ false → marks_told lines n (spot w frame moved) ms ≡ 0
  elsewhere w n frame moved [] other = refl
  elsewhere w n frame moved (m ∷ ms) other =
      let all : marks_told lines n (spot w frame moved) (m ∷ ms) ≡ mark_told lines n (spot w frame moved) m + marks_told lines n (spot w frame moved) ms = sum_by-cons (mark_told lines n (spot w frame moved)) m ms in
      let one : mark_told lines n (spot w frame moved) m ≡ 0 = mark-elsewhere w n frame moved m other in
      let rest : marks_told lines n (spot w frame moved) ms ≡ 0 = elsewhere w n frame moved ms other in
      omega (arith, all, one, rest)

  later-none : (w : Who) (n frame : ℕ) (moved : Bool) (ls : List FrameLine) → frame < n → frames_told lines n (spot w frame moved) ls ≡ 0
  later-none w n frame moved [] low = refl
  later-none w n frame moved (l ∷ ls) low =
      let one : marks_told lines n (spot w frame moved) l.marks ≡ 0 = elsewhere w n frame moved l.marks (ne_eqb n frame (λ e. omega (arith, e, low))) in
      let rest : frames_told lines (n + 1) (spot w frame moved) ls ≡ 0 = later-none w (n + 1) frame moved ls (omega (arith, low)) in
      omega (arith, one, rest)

  module _ (w : Who) (frame : ℕ) (moved : Bool) (told : 0 < at_key lines (spot w frame moved)) where
    -- a mark with a key that counts
    told-here : (v : Who) (m b : Bool) → (is_same_command w v && same m moved) ≡ b → told_raise lines (spot v frame m) (spot w frame moved) ≡ flag b
    told-here v m true is =
        let who_is : v ≡ w = same-who w v (and-left _ _ is) in
        let moved_is : m ≡ moved = same-bool m moved (and-right _ _ is) in
        let key : spot v frame m ≡ spot w frame moved = ap (λ (x : Who). spot x frame m) who_is ∙ ap (spot w frame) moved_is in
        ap (λ (k : (ℕ × ℕ) × ℕ). told_raise lines k (spot w frame moved)) key ∙ ap (λ (b : Bool). cond b (raise (spot w frame moved) (spot w frame moved)) 0) (lt-ltb 0 (at_key lines (spot w frame moved)) told)
        ∙ spot-both w w frame frame moved moved ∙ ap (λ (b : Bool). flag (b && ((frame == frame) && same moved moved))) (same-self w)
        ∙ ap (λ (b : Bool). flag (b && same moved moved)) (eq-eqb frame frame refl) ∙ ap flag (same-own moved)
    told-here v m false is =
        never (nat_lt 0 (at_key lines (spot v frame m))) (raise (spot v frame m) (spot w frame moved))
        (spot-both v w frame frame m moved ∙ ap (λ (b : Bool). flag (is_same_command w v && (b && same m moved))) (eq-eqb frame frame refl) ∙ ap flag is)

    nothing : (b : Bool) → 0 ≡ flag (b && false)
    nothing true = refl
    nothing false = refl

    mark-flag : (m : MarkLine) → mark_told lines frame (spot w frame moved) m ≡ flag (is_soft_mark w moved m)
    mark-flag (marks.Poisoned cycle v (hows.Failure hardware situation outcome)) = nothing (is_same_command w v) ∙ ap (λ (b : Bool). flag (is_same_command w v && b)) (sym (either-none moved))
    mark-flag (marks.Poisoned cycle v hows.Moved) = told-here v true _ refl ∙ ap (λ (b : Bool). flag (is_same_command w v && b)) (moved-same moved)
    mark-flag (marks.Poisoned cycle v hows.TakenFree) = told-here v false _ refl ∙ ap (λ (b : Bool). flag (is_same_command w v && b)) (taken-same moved)
    mark-flag (marks.Unpoisoned cycle v) = nothing (is_same_command w v) ∙ ap (λ (b : Bool). flag (is_same_command w v && b)) (sym (either-none moved))

    here-are : (ms : List MarkLine) → marks_told lines frame (spot w frame moved) ms ≡ count_by (is_soft_mark w moved) ms
    here-are [] = refl
    here-are (m ∷ ms) =
        let all : marks_told lines frame (spot w frame moved) (m ∷ ms) ≡ mark_told lines frame (spot w frame moved) m + marks_told lines frame (spot w frame moved) ms = sum_by-cons (mark_told lines frame (spot w frame moved)) m ms in
        let count : count_by (is_soft_mark w moved) (m ∷ ms) ≡ flag (is_soft_mark w moved m) + count_by (is_soft_mark w moved) ms = sum_by-cons (λ (x : MarkLine). flag (is_soft_mark w moved x)) m ms in
        let one : mark_told lines frame (spot w frame moved) m ≡ flag (is_soft_mark w moved m) = mark-flag m in
        let rest : marks_told lines frame (spot w frame moved) ms ≡ count_by (is_soft_mark w moved) ms = here-are ms in
        omega (arith, all, count, one, rest)

    from-here : (n k : ℕ) (ls : List FrameLine) → frame ≡ n + k → frames_told lines n (spot w frame moved) ls ≡ count_by (is_soft_mark w moved) (unwrap_or (option_map (λ (l : FrameLine). l.marks) (slice_get ls k)) [])
    from-here n k [] is = refl
    from-here n zero (l ∷ ls) is =
        let here : frame ≡ n = omega (arith, is) in
        let one : marks_told lines n (spot w frame moved) l.marks ≡ count_by (is_soft_mark w moved) l.marks = ap (λ (j : ℕ). marks_told lines j (spot w frame moved) l.marks) (sym here) ∙ here-are l.marks in
        let rest : frames_told lines (n + 1) (spot w frame moved) ls ≡ 0 = later-none w (n + 1) frame moved ls (omega (arith, here)) in
        omega (arith, one, rest)
    from-here n (suc k) (l ∷ ls) is =
        let one : marks_told lines n (spot w frame moved) l.marks ≡ 0 = elsewhere w n frame moved l.marks (ne_eqb n frame (λ e. omega (arith, e, is))) in
        let rest : frames_told lines (n + 1) (spot w frame moved) ls ≡ count_by (is_soft_mark w moved) (unwrap_or (option_map (λ (l : FrameLine). l.marks) (slice_get ls k)) []) = from-here (n + 1) k ls (omega (arith, is)) in
        omega (arith, one, rest)

    pub told-are : (report : Report) → frames_told lines 0 (spot w frame moved) report.frames ≡ count_by (is_soft_mark w moved) (marks_of report frame)
    told-are report = from-here 0 frame report.frames (omega arith)
