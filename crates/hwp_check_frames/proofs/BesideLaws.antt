-- The counts of lines beside answers are those of each command's lines for each frame.
use Rattle.std.proofs.Common.{◌≡◌, ℕ, zero, suc, ◌+◌, ◌*◌, ◌<◌, ◌≤◌, ◌==◌, ◌&&◌, ◌^◌, not, Bool, true, false, cond, List, [], ◌∷◌, Option, None, Some, count_by, drop, get_or, length, slice_get, sum_by, take, true≢false, unwrap_or, refl, sym, ap, ◌∙◌, arith}
use Rattle.std.specs.HashMap.{HashMap}
use Rattle.std.proofs.lemmas.Bool.{eq-eqb, eqb-true, ne_eqb}
use Rattle.std.proofs.lemmas.List.{drop_all, drop_more, take_all}
use Rattle.std.proofs.lemmas.List.Sums.{sum_by-cons, sum_by-take-le, sum_by_more, sum_by_more_le}
use Rattle.std.proofs.lemmas.Option.{none-some, same_Some, slice_get-get_or}
use Rattle.hwp_check_rules.specs.hwp_geom.declared.Who.{Who}
use Rattle.hwp_check_rules.specs.hwp_report_text.Offlines.{offline_answer}
use Rattle.hwp_check_rules.specs.hwp_report_text.declared.CpuLine.{CpuLine}
use Rattle.hwp_check_rules.specs.hwp_report_text.declared.CpuLine.TheVariants as lines
use Rattle.hwp_check_rules.specs.hwp_report_text.declared.OfflinedLine.{OfflinedLine}
use Rattle.hwp_check_rules.specs.hwp_report_text.declared.OfflineResult.{OfflineResult}
use Rattle.hwp_check_rules.specs.hwp_report_text.declared.OfflineResult.TheVariants as results
use Rattle.hwp_check_rules.specs.hwp_report_text.declared.Report.{Report}
use Rattle.hwp_check_rules.specs.hwp_law.Lines.{offlined_among}
use Rattle.hwp_check_rules.specs.hwp_law.Pairings.{says_soft}
use Rattle.hwp_check_rules.specs.MarkFaults.{lines_beside}
use Rattle.hwp_check_rules.specs.Standing.{cpu_height, last_line}
use Rattle.hwp_check_frames.specs.Beside.{AreBeside, cpus_beside, marking, result_beside, row_beside, rows_beside, spot}
use Rattle.hwp_check_frames.specs.Counts.{at_key, raise}
use Rattle.hwp_check_frames.proofs.CountRises.{eqb-swap, flag, raise-one}
use Rattle.hwp_check_frames.proofs.FramePlaces.{and-both, and-left, and-right}

eqb-iff : (a b : ℕ) (c : Bool) → (c ≡ true → a ≡ b) → (a ≡ b → c ≡ true) → (a == b) ≡ c
eqb-iff a b true to from = eq-eqb a b (to refl)
eqb-iff a b false to from = ne_eqb a b (λ e. true≢false (sym (from e)))

abbrev pub same : Bool → Bool → Bool
same true n = n
same false n = not n

-- a frame with one of two results is one number
pub place-same : (f g : ℕ) (m n : Bool) → ((f * 2 + cond m 1 0) == (g * 2 + cond n 1 0)) ≡ ((f == g) && same m n)
place-same f g true true = eqb-iff (f * 2 + 1) (g * 2 + 1) ((f == g) && true) (λ is. let e : f ≡ g = eqb-true f g (and-left _ _ is) in omega (arith, e)) (λ e. and-both _ _ (eq-eqb f g (omega (arith, e))) refl)
place-same f g false false = eqb-iff (f * 2 + 0) (g * 2 + 0) ((f == g) && true) (λ is. let e : f ≡ g = eqb-true f g (and-left _ _ is) in omega (arith, e)) (λ e. and-both _ _ (eq-eqb f g (omega (arith, e))) refl)
place-same f g true false = eqb-iff (f * 2 + 1) (g * 2 + 0) ((f == g) && false) (λ is. absurd (true≢false (sym (and-right (f == g) false is)))) (λ e. absurd (omega (arith, e)))
place-same f g false true = eqb-iff (f * 2 + 0) (g * 2 + 1) ((f == g) && false) (λ is. absurd (true≢false (sym (and-right (f == g) false is)))) (λ e. absurd (omega (arith, e)))

abbrev who-at : ℕ → ℕ → Who
who-at cpu seq = record { cpu = record { 0 = cpu }; seq = seq }

spot-raise : (cpu seq other f g : ℕ) (m n : Bool) → raise (spot (who-at cpu other) f m) (spot (who-at cpu seq) g n) ≡ flag ((seq == other) && ((f == g) && same m n))
spot-raise cpu seq other f g m n =
    let mine : ((cpu == cpu) && (other == seq)) ≡ (seq == other) = ap (λ (b : Bool). b && (other == seq)) (eq-eqb cpu cpu refl) ∙ eqb-swap other seq in
    ap (λ (b : Bool). flag (b && ((f * 2 + cond m 1 0) == (g * 2 + cond n 1 0)))) mine ∙ ap (λ (b : Bool). flag ((seq == other) && b)) (place-same f g m n)

none-none : (a b : Bool) → 0 ≡ flag (a && (b && false))
none-none true true = refl
none-none true false = refl
none-none false b = refl

-- what a result that leaves a mark counts, and one that leaves none
pub marked-raise : (q : (ℕ × ℕ) × ℕ) (who : Who) (frame : ℕ) (came : OfflineResult) (moved : Bool) → marking came ≡ Some moved → raise (spot who frame moved) q ≡ result_beside q who frame came
marked-raise q who frame (results.Moved to at) moved is = ap (λ (m : Bool). raise (spot who frame m) q) (sym (same_Some true moved is))
marked-raise q who frame results.TakenFree moved is = ap (λ (m : Bool). raise (spot who frame m) q) (sym (same_Some false moved is))
marked-raise q who frame results.Already moved is = absurd (none-some moved is)
marked-raise q who frame (results.HasBad mask) moved is = absurd (none-some moved is)
marked-raise q who frame results.NoFrame moved is = absurd (none-some moved is)
marked-raise q who frame results.Stopped moved is = absurd (none-some moved is)

pub unmarked-raise : (q : (ℕ × ℕ) × ℕ) (who : Who) (frame : ℕ) (came : OfflineResult) → marking came ≡ None → 0 ≡ result_beside q who frame came
unmarked-raise q who frame (results.Moved to at) is = absurd (none-some true (sym is))
unmarked-raise q who frame results.TakenFree is = absurd (none-some false (sym is))
unmarked-raise q who frame results.Already is = refl
unmarked-raise q who frame (results.HasBad mask) is = refl
unmarked-raise q who frame results.NoFrame is = refl
unmarked-raise q who frame results.Stopped is = refl

-- what a line counts
line-one : (cpu seq frame other f : ℕ) (moved : Bool) (came : OfflineResult) → result_beside (spot (who-at cpu seq) frame moved) (who-at cpu other) f came ≡ flag ((seq == other) && ((f == frame) && says_soft moved (Some (offline_answer came))))
line-one cpu seq frame other f true (results.Moved to at) = spot-raise cpu seq other f frame true true
line-one cpu seq frame other f false (results.Moved to at) = spot-raise cpu seq other f frame true false
line-one cpu seq frame other f true results.TakenFree = spot-raise cpu seq other f frame false true
line-one cpu seq frame other f false results.TakenFree = spot-raise cpu seq other f frame false false
line-one cpu seq frame other f true results.Already = none-none (seq == other) (f == frame)
line-one cpu seq frame other f false results.Already = none-none (seq == other) (f == frame)
line-one cpu seq frame other f true (results.HasBad mask) = none-none (seq == other) (f == frame)
line-one cpu seq frame other f false (results.HasBad mask) = none-none (seq == other) (f == frame)
line-one cpu seq frame other f true results.NoFrame = none-none (seq == other) (f == frame)
line-one cpu seq frame other f false results.NoFrame = none-none (seq == other) (f == frame)
line-one cpu seq frame other f true results.Stopped = none-none (seq == other) (f == frame)
line-one cpu seq frame other f false results.Stopped = none-none (seq == other) (f == frame)

abbrev pub says : ℕ → Bool → OfflinedLine → Bool
says frame moved l = (l.frame.0 == frame) && says_soft moved (Some (offline_answer l.result))

counted-one : (frame : ℕ) (moved mine : Bool) (l : OfflinedLine) (ls : List OfflinedLine) → flag (mine && says frame moved l) + count_by (says frame moved) ls ≡ count_by (says frame moved) (cond mine (l ∷ ls) ls)
counted-one frame moved true l ls = sym (sum_by-cons (λ (x : OfflinedLine). flag (says frame moved x)) l ls)
counted-one frame moved false l ls = omega arith

row-more : (cpu seq frame : ℕ) (moved : Bool) (r : CpuLine) (rest : List CpuLine) → rows_beside cpu (spot (who-at cpu seq) frame moved) rest ≡ count_by (says frame moved) (offlined_among rest seq)
    → row_beside cpu (spot (who-at cpu seq) frame moved) r + rows_beside cpu (spot (who-at cpu seq) frame moved) rest ≡ count_by (says frame moved) (offlined_among (r ∷ rest) seq)
row-more cpu seq frame moved (lines.Event event) rest more = omega (arith, more)
row-more cpu seq frame moved (lines.Guest guest) rest more = omega (arith, more)
row-more cpu seq frame moved (lines.Answer s answer) rest more = omega (arith, more)
row-more cpu seq frame moved (lines.Offlined l) rest more =
    let one : result_beside (spot (who-at cpu seq) frame moved) (who-at cpu l.seq) l.frame.0 l.result ≡ flag ((seq == l.seq) && says frame moved l) = line-one cpu seq frame l.seq l.frame.0 moved l.result in
    let all : flag ((seq == l.seq) && says frame moved l) + count_by (says frame moved) (offlined_among rest seq) ≡ count_by (says frame moved) (cond (seq == l.seq) (l ∷ offlined_among rest seq) (offlined_among rest seq)) =
    counted-one frame moved (seq == l.seq) l (offlined_among rest seq) in
    omega (arith, one, more, all)

rows-count : (cpu seq frame : ℕ) (moved : Bool) (rows : List CpuLine) → rows_beside cpu (spot (who-at cpu seq) frame moved) rows ≡ count_by (says frame moved) (offlined_among rows seq)
rows-count cpu seq frame moved [] = refl
rows-count cpu seq frame moved (r ∷ rest) = sum_by-cons (row_beside cpu (spot (who-at cpu seq) frame moved)) r rest ∙ row-more cpu seq frame moved r rest (rows-count cpu seq frame moved rest)

-- the lines of another processor count nothing
spot-elsewhere : (n : ℕ) (other f g : ℕ) (m k : Bool) (w : Who) → (n == w.cpu.0) ≡ false → raise (spot (who-at n other) f m) (spot w g k) ≡ 0
spot-elsewhere n other f g m k w apart = ap (λ (b : Bool). flag ((b && (other == w.seq)) && ((f * 2 + cond m 1 0) == (g * 2 + cond k 1 0)))) apart

elsewhere : (n frame : ℕ) (moved : Bool) (w : Who) (rows : List CpuLine) → (n == w.cpu.0) ≡ false → rows_beside n (spot w frame moved) rows ≡ 0
elsewhere n frame moved w [] apart = refl
elsewhere n frame moved w (r ∷ rest) apart =
    let all : rows_beside n (spot w frame moved) (r ∷ rest) ≡ row_beside n (spot w frame moved) r + rows_beside n (spot w frame moved) rest = sum_by-cons (row_beside n (spot w frame moved)) r rest in
    let one : row_beside n (spot w frame moved) r ≡ 0 = by r in
    let more : rows_beside n (spot w frame moved) rest ≡ 0 = elsewhere n frame moved w rest apart in
    omega (arith, all, one, more)
  where
    came : (other f : ℕ) (x : OfflineResult) → result_beside (spot w frame moved) (who-at n other) f x ≡ 0
    came other f (results.Moved to at) = spot-elsewhere n other f frame true moved w apart
    came other f results.TakenFree = spot-elsewhere n other f frame false moved w apart
    came other f results.Already = refl
    came other f (results.HasBad mask) = refl
    came other f results.NoFrame = refl
    came other f results.Stopped = refl

    by : (x : CpuLine) → row_beside n (spot w frame moved) x ≡ 0
    by (lines.Event event) = refl
    by (lines.Guest guest) = refl
    by (lines.Answer s answer) = refl
    by (lines.Offlined l) = came l.seq l.frame.0 l.result

later-none : (n frame : ℕ) (moved : Bool) (w : Who) (cpus : List (List CpuLine)) → w.cpu.0 < n → cpus_beside n (spot w frame moved) cpus ≡ 0
later-none n frame moved w [] low = refl
later-none n frame moved w (rows ∷ rest) low =
    let one : rows_beside n (spot w frame moved) rows ≡ 0 = elsewhere n frame moved w rows (ne_eqb n w.cpu.0 (λ e. omega (arith, e, low))) in
    let more : cpus_beside (n + 1) (spot w frame moved) rest ≡ 0 = later-none (n + 1) frame moved w rest (omega (arith, low)) in
    omega (arith, one, more)

from-here : (n k frame : ℕ) (moved : Bool) (w : Who) (cpus : List (List CpuLine)) → w.cpu.0 ≡ n + k → cpus_beside n (spot w frame moved) cpus ≡ count_by (says frame moved) (offlined_among (unwrap_or (slice_get cpus k) []) w.seq)
from-here n k frame moved w [] is = refl
from-here n zero frame moved w (rows ∷ rest) is =
    let here : w.cpu.0 ≡ n = omega (arith, is) in
    let one : rows_beside n (spot w frame moved) rows ≡ count_by (says frame moved) (offlined_among rows w.seq) = ap (λ (j : ℕ). rows_beside j (spot w frame moved) rows) (sym here) ∙ rows-count w.cpu.0 w.seq frame moved rows in
    let more : cpus_beside (n + 1) (spot w frame moved) rest ≡ 0 = later-none (n + 1) frame moved w rest (omega (arith, here)) in
    omega (arith, one, more)
from-here n (suc k) frame moved w (rows ∷ rest) is =
    let one : rows_beside n (spot w frame moved) rows ≡ 0 = elsewhere n frame moved w rows (ne_eqb n w.cpu.0 (λ e. omega (arith, e, is))) in
    let more : cpus_beside (n + 1) (spot w frame moved) rest ≡ count_by (says frame moved) (offlined_among (unwrap_or (slice_get rest k) []) w.seq) = from-here (n + 1) k frame moved w rest (omega (arith, is)) in
    omega (arith, one, more)

cpus-are : (report : Report) (w : Who) (frame : ℕ) (moved : Bool) → cpus_beside 0 (spot w frame moved) report.cpus ≡ lines_beside report w frame moved
cpus-are report w frame moved = from-here 0 w.cpu.0 frame moved w report.cpus (omega arith)

-- there are no more of them than lines
came-most : (q : (ℕ × ℕ) × ℕ) (who : Who) (f : ℕ) (x : OfflineResult) → result_beside q who f x ≤ 1
came-most q who f (results.Moved to at) = raise-one (spot who f true) q
came-most q who f results.TakenFree = raise-one (spot who f false) q
came-most q who f results.Already = omega arith
came-most q who f (results.HasBad mask) = omega arith
came-most q who f results.NoFrame = omega arith
came-most q who f results.Stopped = omega arith

row-most : (cpu : ℕ) (q : (ℕ × ℕ) × ℕ) (r : CpuLine) → row_beside cpu q r ≤ 1
row-most cpu q (lines.Event event) = omega arith
row-most cpu q (lines.Guest guest) = omega arith
row-most cpu q (lines.Answer s answer) = omega arith
row-most cpu q (lines.Offlined l) = came-most q (who-at cpu l.seq) l.frame.0 l.result

rows-most : (cpu : ℕ) (q : (ℕ × ℕ) × ℕ) (rows : List CpuLine) → rows_beside cpu q rows ≤ length rows
rows-most cpu q [] = omega arith
rows-most cpu q (r ∷ rest) =
    let all : rows_beside cpu q (r ∷ rest) ≡ row_beside cpu q r + rows_beside cpu q rest = sum_by-cons (row_beside cpu q) r rest in
    let one : row_beside cpu q r ≤ 1 = row-most cpu q r in
    let more : rows_beside cpu q rest ≤ length rest = rows-most cpu q rest in
    omega (arith, all, one, more)

pub rows-front : (cpu : ℕ) (q : (ℕ × ℕ) × ℕ) (rows : List CpuLine) (i : ℕ) → rows_beside cpu q (take i rows) ≤ length rows
rows-front cpu q rows i =
    let part : rows_beside cpu q (take i rows) ≤ rows_beside cpu q rows = sum_by-take-le (row_beside cpu q) rows i in
    let all : rows_beside cpu q rows ≤ length rows = rows-most cpu q rows in
    omega (arith, part, all)

-- a processor more
read-here : (cpus : List (List CpuLine)) (n : ℕ) (list : List CpuLine) → n < length cpus → list ≡ unwrap_or (slice_get cpus n) [] → list ≡ get_or cpus n []
read-here cpus n list within are = are ∙ ap (λ (o : Option (List CpuLine)). unwrap_or o []) (slice_get-get_or cpus n [] within)

pub cpus-next : (n : ℕ) (q : (ℕ × ℕ) × ℕ) (cpus : List (List CpuLine)) (list : List CpuLine) (was is total : ℕ) → n < length cpus → list ≡ unwrap_or (slice_get cpus n) [] → is ≡ was + rows_beside n q list
    → was + cpus_beside n q (drop n cpus) ≡ total → is + cpus_beside (n + 1) q (drop (n + 1) cpus) ≡ total
cpus-next n q cpus list was is total within are counted all =
    let split : cpus_beside n q (drop n cpus) ≡ rows_beside n q (get_or cpus n []) + cpus_beside (n + 1) q (drop (n + 1) cpus) = ap (λ (l : List (List CpuLine)). cpus_beside n q l) (drop_more cpus n [] within) in
    let same_rows : rows_beside n q list ≡ rows_beside n q (get_or cpus n []) = ap (λ (rows : List CpuLine). rows_beside n q rows) (read-here cpus n list within are) in
    omega (arith, split, same_rows, counted, all)

pub cpus-most : (n : ℕ) (q : (ℕ × ℕ) × ℕ) (cpus : List (List CpuLine)) (list : List CpuLine) (was is : ℕ) → n < length cpus → list ≡ unwrap_or (slice_get cpus n) [] → is ≡ was + rows_beside n q list
    → was ≤ sum_by cpu_height (take n cpus) → is ≤ sum_by cpu_height (take (n + 1) cpus)
cpus-most n q cpus list was is within are counted low =
    let more : sum_by cpu_height (take (n + 1) cpus) ≡ sum_by cpu_height (take n cpus) + cpu_height (get_or cpus n []) = sum_by_more cpu_height cpus n [] within in
    let most : rows_beside n q list ≤ length list = rows-most n q list in
    let long : length list ≡ length (get_or cpus n []) = ap (λ (rows : List CpuLine). length rows) (read-here cpus n list within are) in
    omega (arith, more, most, long, counted, low)

pub cpus-room : (report : Report) (n was : ℕ) (list : List CpuLine) → n < length report.cpus → list ≡ unwrap_or (slice_get report.cpus n) [] → was ≤ sum_by cpu_height (take n report.cpus) → was + length list + 1 ≤ last_line report
cpus-room report n was list within are low =
    let more : sum_by cpu_height (take n report.cpus) + cpu_height (get_or report.cpus n []) ≤ sum_by cpu_height report.cpus = sum_by_more_le cpu_height report.cpus n [] within in
    let long : length list ≡ length (get_or report.cpus n []) = ap (λ (rows : List CpuLine). length rows) (read-here report.cpus n list within are) in
    let all : sum_by cpu_height (take (length report.cpus) report.cpus) ≡ sum_by cpu_height report.cpus = ap (λ (l : List (List CpuLine)). sum_by cpu_height l) (take_all (length report.cpus) report.cpus (omega arith)) in
    omega (arith, low, more, long, all)

-- where all processors were gone through
pub all-beside : {S : Type 0} (report : Report) (counts : HashMap ((ℕ × ℕ) × ℕ) ℕ S) (n : ℕ) → length report.cpus ≤ n → last_line report < 2 ^ 64
    → ((q : (ℕ × ℕ) × ℕ) → at_key counts q + cpus_beside n q (drop n report.cpus) ≡ cpus_beside 0 q report.cpus) → ((q : (ℕ × ℕ) × ℕ) → at_key counts q ≤ sum_by cpu_height (take n report.cpus)) → AreBeside report counts
all-beside report counts n end room each low = record {
  counted = λ who frame moved.
      let is : at_key counts (spot who frame moved) + cpus_beside n (spot who frame moved) (drop n report.cpus) ≡ cpus_beside 0 (spot who frame moved) report.cpus = each (spot who frame moved) in
      let none : cpus_beside n (spot who frame moved) (drop n report.cpus) ≡ 0 = ap (λ (l : List (List CpuLine)). cpus_beside n (spot who frame moved) l) (past report.cpus n end) in
      let are : cpus_beside 0 (spot who frame moved) report.cpus ≡ lines_beside report who frame moved = cpus-are report who frame moved in
      omega (arith, is, none, are);
  few = λ q.
      let most : at_key counts q ≤ sum_by cpu_height (take n report.cpus) = low q in
      let part : sum_by cpu_height (take n report.cpus) ≤ sum_by cpu_height report.cpus = sum_by-take-le cpu_height report.cpus n in
      let all : sum_by cpu_height (take (length report.cpus) report.cpus) ≡ sum_by cpu_height report.cpus = ap (λ (l : List (List CpuLine)). sum_by cpu_height l) (take_all (length report.cpus) report.cpus (omega arith)) in
      omega (arith, most, part, all, room);
}
  where
    past : (xs : List (List CpuLine)) (k : ℕ) → length xs ≤ k → drop k xs ≡ []
    past xs k low = drop_all k xs low
