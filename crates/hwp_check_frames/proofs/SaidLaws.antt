-- What was noted of event lines are the rows of a command's lines with a result for a frame.
use Rattle.std.proofs.Common.{◌≡◌, inl, inr, ℕ, zero, suc, ◌+◌, ◌<◌, ◌≤◌, ◌==◌, ◌&&◌, Bool, true, false, cond, List, [], ◌∷◌, ◌++◌, Option, Some, filter, get_or, is_some, length, map, slice_get, sum_by, take, unwrap_or, refl, sym, ap, ◌∙◌, arith}
use Rattle.std.specs.HashMap.{HashMap}
use Rattle.std.proofs.lemmas.Bool.{cases_Bool, cases_lt, eq-eqb, eqb-false, eqb-true, le-ltb, lt-ltb, ne_eqb}
use Rattle.std.proofs.lemmas.List.{append-nil, get_or-take, length-take-le, take_all, take_more}
use Rattle.std.proofs.lemmas.List.Sums.{get_or-le-sum_by, sum_by_more_le}
use Rattle.std.proofs.lemmas.Option.{slice_get-get_or, slice_get_past}
use Rattle.hwp_check_rules.specs.hwp_geom.declared.Who.{Who}
use Rattle.hwp_check_rules.specs.hwp_banks.Addresses.{frame_at}
use Rattle.hwp_check_rules.specs.hwp_report_text.declared.CpuLine.{CpuLine}
use Rattle.hwp_check_rules.specs.hwp_report_text.declared.CpuLine.TheVariants as lines
use Rattle.hwp_check_rules.specs.hwp_report_text.declared.EventLine.{EventLine}
use Rattle.hwp_check_rules.specs.hwp_report_text.declared.Report.{Report}
use Rattle.hwp_check_rules.specs.hwp_law.Lines.{events_among}
use Rattle.hwp_check_rules.specs.hwp_law.Records.{result_lines, result_of}
use Rattle.hwp_check_rules.specs.Standing.{cpu_height, last_line}
use Rattle.hwp_check_frames.specs.Counts.{at_key, is_key, raise}
use Rattle.hwp_check_frames.specs.Said.{AreNoted, is_place, row_at, row_said, rows_said, said_below}
use Rattle.hwp_check_frames.proofs.FramePlaces.{and-left, and-right}
use Rattle.hwp_check_frames.proofs.CountRises.{eqb-swap, flag}
use Rattle.hwp_check_frames.specs.declared.noted.Noted.{Noted}

-- the end of a list, and what stands before it
get-end : (xs : List Noted) (x : Noted) → slice_get (xs ++ x ∷ []) (length xs) ≡ Some x
get-end [] x = refl
get-end (y ∷ ys) x = get-end ys x

get-apart : (xs : List Noted) (x : Noted) (k : ℕ) → (length xs ≡ k → ⊥) → slice_get (xs ++ x ∷ []) k ≡ slice_get xs k
get-apart [] x zero apart = absurd (apart refl)
get-apart [] x (suc k) apart = refl
get-apart (y ∷ ys) x zero apart = refl
get-apart (y ∷ ys) x (suc k) apart = get-apart ys x k (λ e. apart (ap suc e))

length-more : (xs : List Noted) (b : Bool) (x : Noted) → length (xs ++ cond b (x ∷ []) []) ≡ length xs + flag b
length-more [] true x = refl
length-more [] false x = refl
length-more (y ∷ ys) b x = let rest : length (ys ++ cond b (x ∷ []) []) ≡ length ys + flag b = length-more ys b x in omega (arith, rest)

same-key : (x q : (ℕ × ℕ) × ℕ) → is_key x q ≡ true → x ≡ q
same-key x q is =
    let one : x.0.0 ≡ q.0.0 = eqb-true x.0.0 q.0.0 (and-left (x.0.0 == q.0.0) (x.0.1 == q.0.1) (and-left ((x.0.0 == q.0.0) && (x.0.1 == q.0.1)) (x.1 == q.1) is)) in
    let two : x.0.1 ≡ q.0.1 = eqb-true x.0.1 q.0.1 (and-right (x.0.0 == q.0.0) (x.0.1 == q.0.1) (and-left ((x.0.0 == q.0.0) && (x.0.1 == q.0.1)) (x.1 == q.1) is)) in
    let three : x.1 ≡ q.1 = eqb-true x.1 q.1 (and-right ((x.0.0 == q.0.0) && (x.0.1 == q.0.1)) (x.1 == q.1) is) in
    ap (λ (k : ℕ). ((k, x.0.1), x.1)) one ∙ ap (λ (k : ℕ). ((q.0.0, k), x.1)) two ∙ ap (λ (k : ℕ). ((q.0.0, q.0.1), k)) three

-- the same lists in other words
pub noted-same : {S : Type 0} {T : Type 0} (f g : (ℕ × ℕ) × ℕ → List Noted) (many : HashMap ((ℕ × ℕ) × ℕ) ℕ S) (rows : HashMap (((ℕ × ℕ) × ℕ) × ℕ) Noted T) → ((q : (ℕ × ℕ) × ℕ) → f q ≡ g q) → AreNoted f many rows → AreNoted g many rows
noted-same f g many rows same noted = record {
  many_is = λ q. noted.many_is q ∙ ap (λ (xs : List Noted). length xs) (same q);
  row_is = λ q k. noted.row_is q k ∙ ap (λ (xs : List Noted). slice_get xs k) (same q);
}

-- one row more
module _ {S : Type 0} {T : Type 0} (f : (ℕ × ℕ) × ℕ → List Noted) (many next : HashMap ((ℕ × ℕ) × ℕ) ℕ S) (rows later : HashMap (((ℕ × ℕ) × ℕ) × ℕ) Noted T) (key : (ℕ × ℕ) × ℕ) (row : Noted) (noted : AreNoted f many rows)
    (counted : (q : (ℕ × ℕ) × ℕ) → at_key next q ≡ at_key many q + raise key q) (put : (p : ((ℕ × ℕ) × ℕ) × ℕ) → row_at later p ≡ cond (is_place (key, at_key many key) p) (Some row) (row_at rows p)) where
  row-more : (q : (ℕ × ℕ) × ℕ) (k : ℕ) → row_at later (q, k) ≡ slice_get (f q ++ cond (is_key key q) (row ∷ []) []) k
  row-more q k = elim (cases_Bool (is_key key q)) [
    | inl mine ↦
        let same : key ≡ q = same-key key q mine in
        let at_end : at_key many key ≡ length (f q) = noted.many_is key ∙ ap (λ (x : (ℕ × ℕ) × ℕ). length (f x)) same in
        let here : row_at later (q, k) ≡ cond (at_key many key == k) (Some row) (row_at rows (q, k)) = put (q, k) ∙ ap (λ (b : Bool). cond (b && (at_key many key == k)) (Some row) (row_at rows (q, k))) mine in
        let list : slice_get (f q ++ row ∷ []) k ≡ slice_get (f q ++ cond (is_key key q) (row ∷ []) []) k = ap (λ (b : Bool). slice_get (f q ++ cond b (row ∷ []) []) k) (sym mine) in
        elim (cases_Bool (at_key many key == k)) [
          | inl is ↦
              let length_is : length (f q) ≡ k = sym at_end ∙ eqb-true (at_key many key) k is in
              here ∙ ap (λ (b : Bool). cond b (Some row) (row_at rows (q, k))) is ∙ sym (get-end (f q) row) ∙ ap (λ (n : ℕ). slice_get (f q ++ row ∷ []) n) length_is ∙ list
          | inr not_so ↦
              here ∙ ap (λ (b : Bool). cond b (Some row) (row_at rows (q, k))) not_so ∙ noted.row_is q k ∙ sym (get-apart (f q) row k (λ e. eqb-false (at_key many key) k not_so (at_end ∙ e))) ∙ list
        ]
    | inr other ↦
        put (q, k) ∙ ap (λ (b : Bool). cond (b && (at_key many key == k)) (Some row) (row_at rows (q, k))) other ∙ noted.row_is q k
        ∙ ap (λ (xs : List Noted). slice_get xs k) (sym (append-nil (f q))) ∙ ap (λ (b : Bool). slice_get (f q ++ cond b (row ∷ []) []) k) (sym other)
  ]

  pub noted-more : AreNoted (λ q. f q ++ cond (is_key key q) (row ∷ []) []) next later
  noted-more = record {
    many_is = λ q. counted q ∙ ap (λ (n : ℕ). n + raise key q) (noted.many_is q) ∙ sym (length-more (f q) (is_key key q) row);
    row_is = row-more;
  }

-- lines one after the other
append-three : (xs ys zs : List Noted) → xs ++ (ys ++ zs) ≡ xs ++ ys ++ zs
append-three [] ys zs = refl
append-three (x ∷ xs) ys zs = ap (λ (l : List Noted). x ∷ l) (append-three xs ys zs)

said-push : (cpu : ℕ) (q : (ℕ × ℕ) × ℕ) (rows : List CpuLine) (r : CpuLine) → rows_said cpu q (rows ++ r ∷ []) ≡ rows_said cpu q rows ++ row_said cpu q r
said-push cpu q [] r = append-nil (row_said cpu q r)
said-push cpu q (x ∷ xs) r = ap (λ (l : List Noted). row_said cpu q x ++ l) (said-push cpu q xs r) ∙ append-three (row_said cpu q x) (rows_said cpu q xs) (row_said cpu q r)

pub rows-next : {S : Type 0} {T : Type 0} (cpu : ℕ) (list : List CpuLine) (i : ℕ) (d : CpuLine) (f : (ℕ × ℕ) × ℕ → List Noted) (many : HashMap ((ℕ × ℕ) × ℕ) ℕ S) (rows : HashMap (((ℕ × ℕ) × ℕ) × ℕ) Noted T) → i < length list
    → AreNoted (λ q. (f q ++ rows_said cpu q (take i list)) ++ row_said cpu q (get_or list i d)) many rows → AreNoted (λ q. f q ++ rows_said cpu q (take (i + 1) list)) many rows
rows-next cpu list i d f many rows within noted =
    noted-same (λ q. (f q ++ rows_said cpu q (take i list)) ++ row_said cpu q (get_or list i d)) (λ q. f q ++ rows_said cpu q (take (i + 1) list)) many rows
    (λ q. sym (append-three (f q) (rows_said cpu q (take i list)) (row_said cpu q (get_or list i d)))
    ∙ ap (λ (l : List Noted). f q ++ l) (sym (said-push cpu q (take i list) (get_or list i d)) ∙ ap (λ (l : List CpuLine). rows_said cpu q l) (sym (take_more list i d within)))) noted

-- the lines of another processor say nothing of a command
other-said : (cpu : ℕ) (q : (ℕ × ℕ) × ℕ) (rows : List CpuLine) → (cpu == q.0.0) ≡ false → rows_said cpu q rows ≡ []
other-said cpu q [] other = refl
other-said cpu q (lines.Answer s answer ∷ rest) other = other-said cpu q rest other
other-said cpu q (lines.Offlined offlined ∷ rest) other = other-said cpu q rest other
other-said cpu q (lines.Guest guest ∷ rest) other = other-said cpu q rest other
other-said cpu q (lines.Event event ∷ rest) other =
    ap (λ (b : Bool). cond (is_some (result_of event.acted) && ((b && (event.seq == q.0.1)) && (frame_at event.addr == q.1))) (record { row = event.row; acted = event.acted } ∷ []) [] ++ rows_said cpu q rest) other ∙ ap (λ (l : List Noted). l ++ rows_said cpu q rest) (never (is_some (result_of event.acted))) ∙ other-said cpu q rest other
  where
    never : (b : Bool) → cond {A = List Noted} (b && false) (record { row = event.row; acted = event.acted } ∷ []) [] ≡ []
    never true = refl
    never false = refl

-- one processor more
abbrev of_cpu : Report → (ℕ × ℕ) × ℕ → List Noted
of_cpu report q = rows_said q.0.0 q (unwrap_or (slice_get report.cpus q.0.0) [])

pub below-next : {S : Type 0} {T : Type 0} (report : Report) (n : ℕ) (list : List CpuLine) (many : HashMap ((ℕ × ℕ) × ℕ) ℕ S) (rows : HashMap (((ℕ × ℕ) × ℕ) × ℕ) Noted T) → list ≡ unwrap_or (slice_get report.cpus n) []
    → AreNoted (λ q. said_below n report q ++ rows_said n q list) many rows → AreNoted (said_below (n + 1) report) many rows
below-next report n list many rows are noted = noted-same (λ q. said_below n report q ++ rows_said n q list) (said_below (n + 1) report) many rows same noted
  where
    same : (q : (ℕ × ℕ) × ℕ) → said_below n report q ++ rows_said n q list ≡ said_below (n + 1) report q
    same q = elim (cases_lt q.0.0 n) [
      | inl low ↦
          ap (λ (l : List Noted). said_below n report q ++ l) (other-said n q list (ne_eqb n q.0.0 (λ e. omega (arith, e, low)))) ∙ append-nil (said_below n report q)
          ∙ ap (λ (b : Bool). cond b (of_cpu report q) []) (lt-ltb q.0.0 n low ∙ sym (lt-ltb q.0.0 (n + 1) (omega (arith, low))))
      | inr high ↦ elim (cases_lt n q.0.0) [
        | inl past ↦
            ap (λ (l : List Noted). said_below n report q ++ l) (other-said n q list (ne_eqb n q.0.0 (λ e. omega (arith, e, past)))) ∙ append-nil (said_below n report q)
            ∙ ap (λ (b : Bool). cond b (of_cpu report q) []) (le-ltb q.0.0 n (omega (arith, past)) ∙ sym (le-ltb q.0.0 (n + 1) (omega (arith, past))))
        | inr low ↦
            let is : n ≡ q.0.0 = omega (arith, high, low) in
            ap (λ (b : Bool). cond b (of_cpu report q) [] ++ rows_said n q list) (le-ltb q.0.0 n high) ∙ ap (λ (l : List CpuLine). rows_said n q l) are ∙ ap (λ (k : ℕ). rows_said k q (unwrap_or (slice_get report.cpus k) [])) is
            ∙ ap (λ (b : Bool). cond b (of_cpu report q) []) (sym (lt-ltb q.0.0 (n + 1) (omega (arith, low))))
      ]
    ]

-- there are no more of them than lines
said-low : (cpu : ℕ) (q : (ℕ × ℕ) × ℕ) (rows : List CpuLine) → length (rows_said cpu q rows) ≤ length rows
said-low cpu q [] = omega arith
said-low cpu q (lines.Answer s answer ∷ rest) = let low : length (rows_said cpu q rest) ≤ length rest = said-low cpu q rest in omega (arith, low)
said-low cpu q (lines.Offlined offlined ∷ rest) = let low : length (rows_said cpu q rest) ≤ length rest = said-low cpu q rest in omega (arith, low)
said-low cpu q (lines.Guest guest ∷ rest) = let low : length (rows_said cpu q rest) ≤ length rest = said-low cpu q rest in omega (arith, low)
said-low cpu q (lines.Event event ∷ rest) = by (is_some (result_of event.acted) && is_key ((cpu, event.seq), frame_at event.addr) q) (said-low cpu q rest)
  where
    by : (b : Bool) → length (rows_said cpu q rest) ≤ length rest → length (cond b (record { row = event.row; acted = event.acted } ∷ []) [] ++ rows_said cpu q rest) ≤ suc (length rest)
    by true low = omega (arith, low)
    by false low = omega (arith, low)

below-low : (report : Report) (n : ℕ) (q : (ℕ × ℕ) × ℕ) → n ≤ length report.cpus → length (said_below n report q) ≤ sum_by cpu_height (take n report.cpus)
below-low report n q within = elim (cases_lt q.0.0 n) [
  | inl low ↦
      let many : length (take n report.cpus) ≡ n = length-take-le n report.cpus within in
      let one : cpu_height (get_or (take n report.cpus) q.0.0 []) ≤ sum_by cpu_height (take n report.cpus) = get_or-le-sum_by cpu_height (take n report.cpus) q.0.0 [] (omega (arith, many, low)) in
      let same : get_or (take n report.cpus) q.0.0 [] ≡ get_or report.cpus q.0.0 [] = get_or-take n report.cpus q.0.0 [] low in
      let is : length (said_below n report q) ≡ length (of_cpu report q) = ap (λ (b : Bool). length (cond b (of_cpu report q) [])) (lt-ltb q.0.0 n low) in
      let most : length (of_cpu report q) ≤ length (unwrap_or (slice_get report.cpus q.0.0) []) = said-low q.0.0 q (unwrap_or (slice_get report.cpus q.0.0) []) in
      let read : slice_get report.cpus q.0.0 ≡ Some (get_or report.cpus q.0.0 []) = slice_get-get_or report.cpus q.0.0 [] (omega (arith, low, within)) in
      let lines_are : length (unwrap_or (slice_get report.cpus q.0.0) []) ≡ length (get_or report.cpus q.0.0 []) = ap (λ (o : Option (List CpuLine)). length (unwrap_or o [])) read in
      let height : cpu_height (get_or (take n report.cpus) q.0.0 []) ≡ cpu_height (get_or report.cpus q.0.0 []) = ap cpu_height same in
      omega (arith, one, is, most, lines_are, height)
  | inr high ↦ let is : length (said_below n report q) ≡ 0 = ap (λ (b : Bool). length (cond b (of_cpu report q) [])) (le-ltb q.0.0 n high) in omega (arith, is)
]

pub said-room : {S : Type 0} {T : Type 0} (report : Report) (n : ℕ) (list : List CpuLine) (many : HashMap ((ℕ × ℕ) × ℕ) ℕ S) (rows : HashMap (((ℕ × ℕ) × ℕ) × ℕ) Noted T) → n < length report.cpus → list ≡ unwrap_or (slice_get report.cpus n) []
    → AreNoted (said_below n report) many rows → (q : (ℕ × ℕ) × ℕ) → at_key many q + length list + 1 ≤ last_line report
said-room report n list many rows within are noted q =
    let low : length (said_below n report q) ≤ sum_by cpu_height (take n report.cpus) = below-low report n q (omega (arith, within)) in
    let is : at_key many q ≡ length (said_below n report q) = noted.many_is q in
    let more : sum_by cpu_height (take n report.cpus) + cpu_height (get_or report.cpus n []) ≤ sum_by cpu_height report.cpus = sum_by_more_le cpu_height report.cpus n [] within in
    let read : length list ≡ length (get_or report.cpus n []) = ap (λ (l : List CpuLine). length l) are ∙ ap (λ (o : Option (List CpuLine)). length (unwrap_or o [])) (slice_get-get_or report.cpus n [] within) in
    let all : sum_by cpu_height (take (length report.cpus) report.cpus) ≡ sum_by cpu_height report.cpus = ap (λ (l : List (List CpuLine)). sum_by cpu_height l) (take_all (length report.cpus) report.cpus (omega arith)) in
    omega (arith, low, is, more, read, all)

-- the rows are those of the command's lines with a result for the frame
abbrev pub of_frame : ℕ → EventLine → Bool
of_frame frame l = (frame == frame_at l.addr) && is_some (result_of l.acted)

abbrev pub row-in : EventLine → Noted
row-in l = record { row = l.row; acted = l.acted }

rows-are : (cpu seq frame : ℕ) (rows : List CpuLine) → rows_said cpu ((cpu, seq), frame) rows ≡ map row-in (filter (of_frame frame) (events_among rows seq))
rows-are cpu seq frame [] = refl
rows-are cpu seq frame (lines.Answer s answer ∷ rest) = rows-are cpu seq frame rest
rows-are cpu seq frame (lines.Offlined offlined ∷ rest) = rows-are cpu seq frame rest
rows-are cpu seq frame (lines.Guest guest ∷ rest) = rows-are cpu seq frame rest
rows-are cpu seq frame (lines.Event event ∷ rest) =
    let mine : ((cpu == cpu) && (event.seq == seq)) ≡ (seq == event.seq) = ap (λ (b : Bool). b && (event.seq == seq)) (eq-eqb cpu cpu refl) ∙ eqb-swap event.seq seq in
    ap (λ (b : Bool). cond (is_some (result_of event.acted) && (b && (frame_at event.addr == frame))) (record { row = event.row; acted = event.acted } ∷ []) [] ++ rows_said cpu ((cpu, seq), frame) rest) mine
    ∙ ap (λ (b : Bool). cond (is_some (result_of event.acted) && ((seq == event.seq) && b)) (record { row = event.row; acted = event.acted } ∷ []) [] ++ rows_said cpu ((cpu, seq), frame) rest) (eqb-swap (frame_at event.addr) frame)
    ∙ ap (λ (xs : List Noted). cond (is_some (result_of event.acted) && ((seq == event.seq) && (frame == frame_at event.addr))) (record { row = event.row; acted = event.acted } ∷ []) [] ++ xs) (rows-are cpu seq frame rest)
    ∙ by (seq == event.seq) event (is_some (result_of event.acted)) (frame == frame_at event.addr) refl
  where
    by : (b : Bool) (l : EventLine) (said here : Bool) → of_frame frame l ≡ (here && said)
        → cond (said && (b && here)) (row-in l ∷ []) [] ++ map row-in (filter (of_frame frame) (events_among rest seq)) ≡ map row-in (filter (of_frame frame) (cond b (l ∷ events_among rest seq) (events_among rest seq)))
    by false l true here is = refl
    by false l false here is = refl
    by true l true true is = ap (λ (c : Bool). map row-in (cond c (l ∷ filter (of_frame frame) (events_among rest seq)) (filter (of_frame frame) (events_among rest seq)))) (sym is)
    by true l true false is = ap (λ (c : Bool). map row-in (cond c (l ∷ filter (of_frame frame) (events_among rest seq)) (filter (of_frame frame) (events_among rest seq)))) (sym is)
    by true l false true is = ap (λ (c : Bool). map row-in (cond c (l ∷ filter (of_frame frame) (events_among rest seq)) (filter (of_frame frame) (events_among rest seq)))) (sym is)
    by true l false false is = ap (λ (c : Bool). map row-in (cond c (l ∷ filter (of_frame frame) (events_among rest seq)) (filter (of_frame frame) (events_among rest seq)))) (sym is)

-- where all processors were gone through
pub said-all : (report : Report) (who : Who) (frame : ℕ) → said_below (length report.cpus) report ((who.cpu.0, who.seq), frame) ≡ map row-in (result_lines report who frame)
said-all report who frame = elim (cases_lt who.cpu.0 (length report.cpus)) [
  | inl low ↦ ap (λ (b : Bool). cond b (of_cpu report ((who.cpu.0, who.seq), frame)) []) (lt-ltb who.cpu.0 (length report.cpus) low) ∙ rows-are who.cpu.0 who.seq frame (unwrap_or (slice_get report.cpus who.cpu.0) [])
  | inr high ↦
      ap (λ (b : Bool). cond b (of_cpu report ((who.cpu.0, who.seq), frame)) []) (le-ltb who.cpu.0 (length report.cpus) high)
      ∙ ap (λ (o : Option (List CpuLine)). map row-in (filter (of_frame frame) (events_among (unwrap_or o []) who.seq))) (sym (slice_get_past report.cpus who.cpu.0 high))
]

-- a line with a result, as it is read
pub event-noted : {S : Type 0} {T : Type 0} (f : (ℕ × ℕ) × ℕ → List Noted) (many : HashMap ((ℕ × ℕ) × ℕ) ℕ S) (rows : HashMap (((ℕ × ℕ) × ℕ) × ℕ) Noted T) (cpu : ℕ) (event : EventLine) → is_some (result_of event.acted) ≡ true
    → AreNoted (λ q. f q ++ cond (is_key ((cpu, event.seq), frame_at event.addr) q) (record { row = event.row; acted = event.acted } ∷ []) []) many rows → AreNoted (λ q. f q ++ row_said cpu q (lines.Event event)) many rows
event-noted f many rows cpu event said noted =
    noted-same (λ q. f q ++ cond (is_key ((cpu, event.seq), frame_at event.addr) q) (record { row = event.row; acted = event.acted } ∷ []) []) (λ q. f q ++ row_said cpu q (lines.Event event)) many rows
    (λ q. ap (λ (b : Bool). f q ++ cond (b && is_key ((cpu, event.seq), frame_at event.addr) q) (record { row = event.row; acted = event.acted } ∷ []) []) (sym said)) noted
