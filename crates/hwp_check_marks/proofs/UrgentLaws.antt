-- The counts of marks whose event line asks for an entry that a thread needs are those of the report's pairs of marks and lines.
use Rattle.std.proofs.Common.{◌≡◌, inl, inr, ℕ, suc, ◌+◌, ◌<◌, ◌≤◌, ◌==◌, ◌&&◌, Bool, true, false, cond, List, [], ◌∷◌, Option, Some, None, count_by, drop, get_or, length, map, slice_get, sum_by, take, refl, sym, ap, ◌∙◌, arith}
use Rattle.std.specs.HashMap.{HashMap}
use Rattle.std.specs.List.{zip}
use Rattle.std.proofs.lemmas.Bool.{cases_Bool, eq-eqb}
use Rattle.std.proofs.lemmas.List.{drop_more}
use Rattle.std.proofs.lemmas.List.Sums.{sum_by-cons, sum_by_more}
use Rattle.hwp_check_rules.specs.hwp_geom.declared.Who.{Who}
use Rattle.hwp_check_rules.specs.hwp_page.declared.Outcome.{Outcome}
use Rattle.hwp_check_rules.specs.hwp_page.declared.Situation.{Situation}
use Rattle.hwp_check_rules.specs.hwp_report_text.declared.FrameLine.{FrameLine}
use Rattle.hwp_check_rules.specs.hwp_report_text.declared.How.{How}
use Rattle.hwp_check_rules.specs.hwp_report_text.declared.How.TheVariants as hows
use Rattle.hwp_check_rules.specs.hwp_report_text.declared.MarkLine.{MarkLine}
use Rattle.hwp_check_rules.specs.hwp_report_text.declared.MarkLine.TheVariants as marks
use Rattle.hwp_check_rules.specs.hwp_report_text.declared.Report.{Report}
use Rattle.hwp_check_rules.specs.hwp_report_text.declared.EventLine.{EventLine}
use Rattle.hwp_check_rules.specs.hwp_law.Lines.{is_same_command}
use Rattle.hwp_check_rules.specs.hwp_law.Pairings.{is_urgent, situation_number, urgent_from}
use Rattle.hwp_check_rules.specs.hwp_law.Records.{hardware_marks, is_by_hardware, result_lines, who_in}
use Rattle.hwp_check_rules.specs.Standing.{frame_height}
use Rattle.hwp_check_frames.specs.Counts.{raise}
use Rattle.hwp_check_marks.specs.Needed.{frames_urgent, how_urgent, is_nine, mark_urgent, marks_urgent}
use Rattle.hwp_check_frames.specs.Own.{own_raise}
use Rattle.hwp_check_frames.specs.Said.{AreNoted, row_at, said_below}
use Rattle.hwp_check_marks.specs.Tallies.{key_of}
use Rattle.hwp_check_marks.specs.declared.kinds.Kind.TheVariants as kinds
use Rattle.hwp_check_frames.proofs.SaidLaws.{row-in, said-all}
use Rattle.hwp_check_frames.proofs.FramePlaces.{same-who}
use Rattle.hwp_check_marks.proofs.TallyLaws.{raise-is}
use Rattle.hwp_check_frames.proofs.CountRises.{flag, raise-one, same-swap}
use Rattle.hwp_check_frames.specs.declared.Noted.{Noted}

module _ {S : Type 0} (rows : HashMap (((ℕ × ℕ) × ℕ) × ℕ) Noted S) where
  -- counts that are the same lead to the same
  how-same : (f g : (ℕ × ℕ) × ℕ → ℕ) (frame : ℕ) (q : (ℕ × ℕ) × ℕ) (who : Who) (how : How) → ((x : (ℕ × ℕ) × ℕ) → f x ≡ g x) → how_urgent rows f frame q who how ≡ how_urgent rows g frame q who how
  how-same f g frame q who (hows.Failure true situation outcome) same =
      ap (λ (n : ℕ). cond (true && is_nine (row_at rows (((who.cpu.0, who.seq), frame), n))) (raise (key_of who (kinds.Failure situation)) q) 0) (same ((who.cpu.0, who.seq), frame))
  how-same f g frame q who (hows.Failure false situation outcome) same = refl
  how-same f g frame q who hows.Moved same = refl
  how-same f g frame q who hows.TakenFree same = refl

  mark-same : (f g : (ℕ × ℕ) × ℕ → ℕ) (frame : ℕ) (q : (ℕ × ℕ) × ℕ) (m : MarkLine) → ((x : (ℕ × ℕ) × ℕ) → f x ≡ g x) → mark_urgent rows f frame q m ≡ mark_urgent rows g frame q m
  mark-same f g frame q (marks.Poisoned cycle who how) same = how-same f g frame q who how same
  mark-same f g frame q (marks.Unpoisoned cycle who) same = refl

  pub marks-same : (f g : (ℕ × ℕ) × ℕ → ℕ) (frame : ℕ) (q : (ℕ × ℕ) × ℕ) (ms : List MarkLine) → ((x : (ℕ × ℕ) × ℕ) → f x ≡ g x) → marks_urgent rows f frame q ms ≡ marks_urgent rows g frame q ms
  marks-same f g frame q [] same = refl
  marks-same f g frame q (m ∷ ms) same =
      let one : mark_urgent rows f frame q m ≡ mark_urgent rows g frame q m = mark-same f g frame q m same in
      let rest : marks_urgent rows (λ x. f x + own_raise frame x m) frame q ms ≡ marks_urgent rows (λ x. g x + own_raise frame x m) frame q ms =
      marks-same (λ x. f x + own_raise frame x m) (λ x. g x + own_raise frame x m) frame q ms (λ x. ap (λ (n : ℕ). n + own_raise frame x m) (same x)) in
      omega (arith, one, rest)

  -- a mark is counted once at most
  by-one : (b : Bool) (n : ℕ) → n ≤ 1 → cond b n 0 ≤ 1
  by-one true n low = low
  by-one false n low = omega arith

  mark-one : (f : (ℕ × ℕ) × ℕ → ℕ) (frame : ℕ) (q : (ℕ × ℕ) × ℕ) (m : MarkLine) → mark_urgent rows f frame q m ≤ 1
  mark-one f frame q (marks.Poisoned cycle who (hows.Failure true situation outcome)) =
      by-one (is_nine (row_at rows (((who.cpu.0, who.seq), frame), f ((who.cpu.0, who.seq), frame)))) (raise (key_of who (kinds.Failure situation)) q) (raise-one (key_of who (kinds.Failure situation)) q)
  mark-one f frame q (marks.Poisoned cycle who (hows.Failure false situation outcome)) = omega arith
  mark-one f frame q (marks.Poisoned cycle who hows.Moved) = omega arith
  mark-one f frame q (marks.Poisoned cycle who hows.TakenFree) = omega arith
  mark-one f frame q (marks.Unpoisoned cycle who) = omega arith

  pub marks-most : (f : (ℕ × ℕ) × ℕ → ℕ) (frame : ℕ) (q : (ℕ × ℕ) × ℕ) (ms : List MarkLine) → marks_urgent rows f frame q ms ≤ length ms
  marks-most f frame q [] = omega arith
  marks-most f frame q (m ∷ ms) =
      let one : mark_urgent rows f frame q m ≤ 1 = mark-one f frame q m in
      let rest : marks_urgent rows (λ x. f x + own_raise frame x m) frame q ms ≤ length ms = marks-most (λ x. f x + own_raise frame x m) frame q ms in
      omega (arith, one, rest)

  own-most : (frame : ℕ) (q : (ℕ × ℕ) × ℕ) (m : MarkLine) → own_raise frame q m ≤ 1
  own-most frame q (marks.Poisoned cycle who (hows.Failure true situation outcome)) = raise-one ((who.cpu.0, who.seq), frame) q
  own-most frame q (marks.Poisoned cycle who (hows.Failure false situation outcome)) = omega arith
  own-most frame q (marks.Poisoned cycle who hows.Moved) = omega arith
  own-most frame q (marks.Poisoned cycle who hows.TakenFree) = omega arith
  own-most frame q (marks.Unpoisoned cycle who) = omega arith

  pub own-next : (frame : ℕ) (q : (ℕ × ℕ) × ℕ) (m : MarkLine) (was is i : ℕ) → is ≡ was + own_raise frame q m → was ≤ i → is ≤ i + 1
  own-next frame q m was is i counted low = let most : own_raise frame q m ≤ 1 = own-most frame q m in omega (arith, counted, low, most)

  -- a mark more is counted
  pub marks-next : (f g : (ℕ × ℕ) × ℕ → ℕ) (frame : ℕ) (q : (ℕ × ℕ) × ℕ) (list : List MarkLine) (i : ℕ) (d : MarkLine) (was is total : ℕ) → i < length list → ((x : (ℕ × ℕ) × ℕ) → g x ≡ f x + own_raise frame x (get_or list i d))
      → is ≡ was + mark_urgent rows f frame q (get_or list i d) → was + marks_urgent rows f frame q (drop i list) ≡ total → is + marks_urgent rows g frame q (drop (i + 1) list) ≡ total
  marks-next f g frame q list i d was is total within own counted all =
      let m = get_or list i d in
      let split : marks_urgent rows f frame q (drop i list) ≡ mark_urgent rows f frame q (get_or list i d) + marks_urgent rows (λ x. f x + own_raise frame x (get_or list i d)) frame q (drop (i + 1) list) =
      ap (λ (l : List MarkLine). marks_urgent rows f frame q l) (drop_more list i d within) in
      let same : marks_urgent rows g frame q (drop (i + 1) list) ≡ marks_urgent rows (λ x. f x + own_raise frame x (get_or list i d)) frame q (drop (i + 1) list) =
      marks-same g (λ x. f x + own_raise frame x (get_or list i d)) frame q (drop (i + 1) list) own in
      omega (arith, split, same, counted, all)

  -- a frame more
  pub frames-next : (n : ℕ) (q : (ℕ × ℕ) × ℕ) (frames : List FrameLine) (d shown : FrameLine) (list : List MarkLine) (was is total : ℕ) → n < length frames → shown ≡ get_or frames n d → list ≡ shown.marks
      → is ≡ was + marks_urgent rows (λ x. 0) n q list → was + frames_urgent rows n q (drop n frames) ≡ total → is + frames_urgent rows (n + 1) q (drop (n + 1) frames) ≡ total
  frames-next n q frames d shown list was is total within here marks_are counted all =
      let are : list ≡ (get_or frames n d).marks = marks_are ∙ ap (λ (l : FrameLine). l.marks) here in
      let split : frames_urgent rows n q (drop n frames) ≡ marks_urgent rows (λ x. 0) n q (get_or frames n d).marks + frames_urgent rows (n + 1) q (drop (n + 1) frames) =
      ap (λ (l : List FrameLine). frames_urgent rows n q l) (drop_more frames n d within) in
      let same : marks_urgent rows (λ x. 0) n q list ≡ marks_urgent rows (λ x. 0) n q (get_or frames n d).marks = ap (λ (ms : List MarkLine). marks_urgent rows (λ x. 0) n q ms) are in
      omega (arith, split, same, counted, all)

  pub frames-most : (n : ℕ) (q : (ℕ × ℕ) × ℕ) (frames : List FrameLine) (d shown : FrameLine) (list : List MarkLine) (was is : ℕ) → n < length frames → shown ≡ get_or frames n d → list ≡ shown.marks → is ≡ was + marks_urgent rows (λ x. 0) n q list
      → was ≤ sum_by frame_height (take n frames) → is ≤ sum_by frame_height (take (n + 1) frames)
  frames-most n q frames d shown list was is within here marks_are counted low =
      let are : list ≡ (get_or frames n d).marks = marks_are ∙ ap (λ (l : FrameLine). l.marks) here in
      let more : sum_by frame_height (take (n + 1) frames) ≡ sum_by frame_height (take n frames) + frame_height (get_or frames n d) = sum_by_more frame_height frames n d within in
      let most : marks_urgent rows (λ x. 0) n q list ≤ length list = marks-most (λ x. 0) n q list in
      let same : length list ≡ length (get_or frames n d).marks = ap (λ (ms : List MarkLine). length ms) are in
      omega (arith, more, most, same, counted, low)

  -- the marks of a command and its lines, side by side
  module _ (w : Who) (s : Situation) (frame : ℕ) where
    abbrev here : (ℕ × ℕ) × ℕ
    here = ((w.cpu.0, w.seq), frame)

    abbrev pairs : List MarkLine → List EventLine → ℕ
    pairs ms ls = count_by (is_urgent s) (zip (hardware_marks w ms) ls)

    skipped : (m : MarkLine) (ms : List MarkLine) (ls : List EventLine) → (is_same_command w (who_in m) && is_by_hardware m) ≡ false → pairs ms ls ≡ pairs (m ∷ ms) ls
    skipped m ms ls other = ap (λ (b : Bool). count_by (is_urgent s) (zip (cond b (m ∷ hardware_marks w ms) (hardware_marks w ms)) ls)) (sym other)

    taken : (m : MarkLine) (ms : List MarkLine) (ls : List EventLine) → (is_same_command w (who_in m) && is_by_hardware m) ≡ true → count_by (is_urgent s) (zip (m ∷ hardware_marks w ms) ls) ≡ pairs (m ∷ ms) ls
    taken m ms ls mine = ap (λ (b : Bool). count_by (is_urgent s) (zip (cond b (m ∷ hardware_marks w ms) (hardware_marks w ms)) ls)) (sym mine)

    never : (b : Bool) → (b && false) ≡ false
    never true = refl
    never false = refl

    none-paired : (ms : List MarkLine) → count_by (is_urgent s) (zip ms []) ≡ 0
    none-paired [] = refl
    none-paired (m ∷ ms) = refl

    zero-or : (b : Bool) (n : ℕ) → n ≡ 0 → cond b n 0 ≡ 0
    zero-or true n is = is
    zero-or false n is = refl

    -- a mark that another command made changes nothing
    others : (f : (ℕ × ℕ) × ℕ → ℕ) (k cycle : ℕ) (v : Who) (t : Situation) (outcome : Outcome) (ms : List MarkLine) (ls : List EventLine) → is_same_command w v ≡ false → f here ≡ k
        → ((g : (ℕ × ℕ) × ℕ → ℕ) → g here ≡ k → marks_urgent rows g frame (key_of w (kinds.Failure s)) ms ≡ pairs ms ls)
        → marks_urgent rows f frame (key_of w (kinds.Failure s)) (marks.Poisoned cycle v (hows.Failure true t outcome) ∷ ms) ≡ pairs (marks.Poisoned cycle v (hows.Failure true t outcome) ∷ ms) ls
    others f k cycle v t outcome ms ls other at go =
        let m : MarkLine = marks.Poisoned cycle v (hows.Failure true t outcome) in
        let not_mine : raise (key_of v (kinds.Failure t)) (key_of w (kinds.Failure s)) ≡ 0 =
        raise-is v w (kinds.Failure t) (kinds.Failure s) ∙ ap (λ (b : Bool). flag (b && (situation_number t == situation_number s))) other in
        let none : mark_urgent rows f frame (key_of w (kinds.Failure s)) m ≡ 0 =
        zero-or (is_nine (row_at rows (((v.cpu.0, v.seq), frame), f ((v.cpu.0, v.seq), frame)))) (raise (key_of v (kinds.Failure t)) (key_of w (kinds.Failure s))) not_mine in
        let apart : raise ((v.cpu.0, v.seq), frame) here ≡ 0 = ap (λ (b : Bool). flag (b && (frame == frame))) (same-swap v w ∙ other) in
        let rest : marks_urgent rows (λ x. f x + own_raise frame x m) frame (key_of w (kinds.Failure s)) ms ≡ pairs ms ls = go (λ x. f x + own_raise frame x m) (omega (arith, at, apart)) in
        let skip : pairs ms ls ≡ pairs (m ∷ ms) ls = skipped m ms ls (ap (λ (b : Bool). b && true) other) in
        omega (arith, none, rest, skip)

    own-one : (f : (ℕ × ℕ) × ℕ → ℕ) (k : ℕ) (v : Who) → is_same_command w v ≡ true → f here ≡ k → f here + raise ((v.cpu.0, v.seq), frame) here ≡ k + 1
    own-one f k v mine at =
        let one : raise ((v.cpu.0, v.seq), frame) here ≡ 1 = ap (λ (b : Bool). flag (b && (frame == frame))) (same-swap v w ∙ mine) ∙ ap flag (eq-eqb frame frame refl) in
        omega (arith, at, one)

    -- the row that is read for a mark of the command
    read-here : (f : (ℕ × ℕ) × ℕ → ℕ) (k : ℕ) (v : Who) → is_same_command w v ≡ true → f here ≡ k → row_at rows (((v.cpu.0, v.seq), frame), f ((v.cpu.0, v.seq), frame)) ≡ row_at rows (here, k)
    read-here f k v mine at = ap (λ (u : Who). row_at rows (((u.cpu.0, u.seq), frame), f ((u.cpu.0, u.seq), frame))) (same-who w v mine) ∙ ap (λ (n : ℕ). row_at rows (here, n)) at

    plus-none : {a b c : ℕ} → a ≡ b → b ≡ c → 0 + a ≡ c
    plus-none {a} {b} {c} one other = let first : a ≡ b = one in let second : b ≡ c = other in omega (arith, first, second)

    pub paired : (f : (ℕ × ℕ) × ℕ → ℕ) (k : ℕ) (ms : List MarkLine) (ls : List EventLine) → f here ≡ k → ((j : ℕ) → row_at rows (here, k + j) ≡ slice_get (map row-in ls) j) → marks_urgent rows f frame (key_of w (kinds.Failure s)) ms ≡ pairs ms ls
    paired f k [] ls at read = refl
    paired f k (marks.Unpoisoned cycle v ∷ ms) ls at read =
        plus-none (paired (λ x. f x + 0) k ms ls (omega (arith, at)) read) (skipped (marks.Unpoisoned cycle v) ms ls (never (is_same_command w v)))
    paired f k (marks.Poisoned cycle v hows.Moved ∷ ms) ls at read =
        plus-none (paired (λ x. f x + 0) k ms ls (omega (arith, at)) read) (skipped (marks.Poisoned cycle v hows.Moved) ms ls (never (is_same_command w v)))
    paired f k (marks.Poisoned cycle v hows.TakenFree ∷ ms) ls at read =
        plus-none (paired (λ x. f x + 0) k ms ls (omega (arith, at)) read) (skipped (marks.Poisoned cycle v hows.TakenFree) ms ls (never (is_same_command w v)))
    paired f k (marks.Poisoned cycle v (hows.Failure false t outcome) ∷ ms) ls at read =
        plus-none (paired (λ x. f x + 0) k ms ls (omega (arith, at)) read) (skipped (marks.Poisoned cycle v (hows.Failure false t outcome)) ms ls (never (is_same_command w v)))
    paired f k (marks.Poisoned cycle v (hows.Failure true t outcome) ∷ ms) [] at read = elim (cases_Bool (is_same_command w v)) [
      | inl mine ↦
          let none : row_at rows (((v.cpu.0, v.seq), frame), f ((v.cpu.0, v.seq), frame)) ≡ None = read-here f k v mine at ∙ ap (λ (n : ℕ). row_at rows (here, n)) (omega arith) ∙ read 0 in
          let one : mark_urgent rows f frame (key_of w (kinds.Failure s)) (marks.Poisoned cycle v (hows.Failure true t outcome)) ≡ 0 =
          ap (λ (o : Option Noted). cond (is_nine o) (raise (key_of v (kinds.Failure t)) (key_of w (kinds.Failure s))) 0) none in
          let rest : marks_urgent rows (λ x. f x + own_raise frame x (marks.Poisoned cycle v (hows.Failure true t outcome))) frame (key_of w (kinds.Failure s)) ms ≡ pairs ms [] =
          paired (λ x. f x + own_raise frame x (marks.Poisoned cycle v (hows.Failure true t outcome))) (k + 1) ms [] (own-one f k v mine at) (λ j. ap (λ (n : ℕ). row_at rows (here, n)) (omega arith) ∙ read (1 + j)) in
          let nothing : pairs ms [] ≡ 0 = none-paired (hardware_marks w ms) in
          let left : pairs (marks.Poisoned cycle v (hows.Failure true t outcome) ∷ ms) [] ≡ 0 = none-paired (hardware_marks w (marks.Poisoned cycle v (hows.Failure true t outcome) ∷ ms)) in
          omega (arith, one, rest, nothing, left)
      | inr other ↦ others f k cycle v t outcome ms [] other at (λ g own. paired g k ms [] own read)
    ]
    paired f k (marks.Poisoned cycle v (hows.Failure true t outcome) ∷ ms) (l ∷ ls) at read = elim (cases_Bool (is_same_command w v)) [
      | inl mine ↦
          let m : MarkLine = marks.Poisoned cycle v (hows.Failure true t outcome) in
          let row : row_at rows (((v.cpu.0, v.seq), frame), f ((v.cpu.0, v.seq), frame)) ≡ Some (row-in l) = read-here f k v mine at ∙ ap (λ (n : ℕ). row_at rows (here, n)) (omega arith) ∙ read 0 in
          let raised : raise (key_of v (kinds.Failure t)) (key_of w (kinds.Failure s)) ≡ flag (situation_number t == situation_number s) =
          raise-is v w (kinds.Failure t) (kinds.Failure s) ∙ ap (λ (b : Bool). flag (b && (situation_number t == situation_number s))) mine in
          let one : mark_urgent rows f frame (key_of w (kinds.Failure s)) m ≡ flag ((situation_number t == situation_number s) && (l.row == 9)) =
          ap (λ (o : Option Noted). cond (is_nine o) (raise (key_of v (kinds.Failure t)) (key_of w (kinds.Failure s))) 0) row ∙ ap (λ (n : ℕ). cond (l.row == 9) n 0) raised
          ∙ turned (l.row == 9) (situation_number t == situation_number s) in
          let rest : marks_urgent rows (λ x. f x + own_raise frame x m) frame (key_of w (kinds.Failure s)) ms ≡ pairs ms ls =
          paired (λ x. f x + own_raise frame x m) (k + 1) ms ls (own-one f k v mine at) (λ j. ap (λ (n : ℕ). row_at rows (here, n)) (omega arith) ∙ read (suc j)) in
          let split : count_by (is_urgent s) ((m, l) ∷ zip (hardware_marks w ms) ls) ≡ flag ((situation_number t == situation_number s) && (l.row == 9)) + count_by (is_urgent s) (zip (hardware_marks w ms) ls) =
          sum_by-cons (λ (p : MarkLine × EventLine). flag (is_urgent s p)) (m, l) (zip (hardware_marks w ms) ls) in
          let take_it : count_by (is_urgent s) (zip (m ∷ hardware_marks w ms) (l ∷ ls)) ≡ pairs (m ∷ ms) (l ∷ ls) = taken m ms (l ∷ ls) (ap (λ (b : Bool). b && true) mine) in
          let sums : mark_urgent rows f frame (key_of w (kinds.Failure s)) m + marks_urgent rows (λ x. f x + own_raise frame x m) frame (key_of w (kinds.Failure s)) ms ≡ count_by (is_urgent s) ((m, l) ∷ zip (hardware_marks w ms) ls) =
          omega (arith, one, rest, split) in
          sums ∙ take_it
      | inr other ↦ others f k cycle v t outcome ms (l ∷ ls) other at (λ g own. paired g k ms (l ∷ ls) own read)
    ]
      where
        turned : (a b : Bool) → cond a (flag b) 0 ≡ flag (b && a)
        turned true true = refl
        turned true false = refl
        turned false true = refl
        turned false false = refl

-- all frames
pub urgent-is : {S : Type 0} {T : Type 0} (report : Report) (many : HashMap ((ℕ × ℕ) × ℕ) ℕ S) (rows : HashMap (((ℕ × ℕ) × ℕ) × ℕ) Noted T) → AreNoted (said_below (length report.cpus) report) many rows → (w : Who) (s : Situation) (n : ℕ) (frames : List FrameLine)
    → frames_urgent rows n (key_of w (kinds.Failure s)) frames ≡ urgent_from report w s n frames
urgent-is report many rows noted w s n [] = refl
urgent-is report many rows noted w s n (l ∷ ls) =
    let one : marks_urgent rows (λ x. 0) n (key_of w (kinds.Failure s)) l.marks ≡ count_by (is_urgent s) (zip (hardware_marks w l.marks) (result_lines report w n)) =
    paired rows w s n (λ x. 0) 0 l.marks (result_lines report w n) refl
    (λ j. ap (λ (k : ℕ). row_at rows (((w.cpu.0, w.seq), n), k)) (omega arith) ∙ noted.row_is ((w.cpu.0, w.seq), n) j ∙ ap (λ (xs : List Noted). slice_get xs j) (said-all report w n)) in
    let rest : frames_urgent rows (n + 1) (key_of w (kinds.Failure s)) ls ≡ urgent_from report w s (n + 1) ls = urgent-is report many rows noted w s (n + 1) ls in
    omega (arith, one, rest)

-- a mark of an event, as it is read
pub urgent-step : {S : Type 0} (rows : HashMap (((ℕ × ℕ) × ℕ) × ℕ) Noted S) (had : (ℕ × ℕ) × ℕ → ℕ) (frame : ℕ) (q : (ℕ × ℕ) × ℕ) (who : Who) (hardware : Bool) (situation : Situation) (outcome : Outcome) (was is number place : ℕ) (row : Option Noted) (asks : Bool)
    (key : (ℕ × ℕ) × ℕ) → number ≡ frame → place ≡ had ((who.cpu.0, who.seq), number) → row ≡ row_at rows (((who.cpu.0, who.seq), number), place) → asks ≡ (hardware && is_nine row) → key ≡ key_of who (kinds.Failure situation)
    → is ≡ was + cond asks (raise key q) 0 → is ≡ was + how_urgent rows had frame q who (hows.Failure hardware situation outcome)
urgent-step rows had frame q who hardware situation outcome was is number place row asks key number_is place_is row_is asks_is key_is counted =
    counted ∙ ap (λ (k : (ℕ × ℕ) × ℕ). was + cond asks (raise k q) 0) key_is ∙ ap (λ (b : Bool). was + cond b (raise (key_of who (kinds.Failure situation)) q) 0) asks_is
    ∙ ap (λ (o : Option Noted). was + cond (hardware && is_nine o) (raise (key_of who (kinds.Failure situation)) q) 0) row_is
    ∙ ap (λ (n : ℕ). was + cond (hardware && is_nine (row_at rows (((who.cpu.0, who.seq), number), n))) (raise (key_of who (kinds.Failure situation)) q) 0) place_is
    ∙ ap (λ (n : ℕ). was + cond (hardware && is_nine (row_at rows (((who.cpu.0, who.seq), n), had ((who.cpu.0, who.seq), n)))) (raise (key_of who (kinds.Failure situation)) q) 0) number_is
