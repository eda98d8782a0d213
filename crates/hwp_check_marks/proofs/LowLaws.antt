-- The lowest frame that was noted for a command is the lowest that its lines name.
use Rattle.std.proofs.Common.{◌≡◌, inl, inr, ℕ, ◌+◌, ◌≤◌, ◌==◌, ◌&&◌, min, not, Bool, true, false, cond, List, [], ◌∷◌, Option, Some, None, is_some, length, slice_get, unwrap_or, refl, sym, ap, ◌∙◌, arith}
use Rattle.std.specs.HashMap.{HashMap}
use Rattle.std.proofs.lemmas.Bool.{cases_lt, eq-eqb, le-ltb, lt-ltb, ne_eqb}
use Rattle.std.proofs.lemmas.Option.{slice_get_past}
use Rattle.hwp_check_rules.specs.hwp_geom.declared.Who.{Who}
use Rattle.hwp_check_rules.specs.hwp_banks.Addresses.{frame_at}
use Rattle.hwp_check_rules.specs.hwp_report_text.declared.CpuLine.{CpuLine}
use Rattle.hwp_check_rules.specs.hwp_report_text.declared.CpuLine.TheVariants as lines
use Rattle.hwp_check_rules.specs.hwp_report_text.Offlines.{offline_answer}
use Rattle.hwp_check_rules.specs.hwp_report_text.declared.Report.{Report}
use Rattle.hwp_check_rules.specs.hwp_law.Lines.{events_among, offlined_among}
use Rattle.hwp_check_rules.specs.hwp_law.Records.{is_moved, result_of}
use Rattle.hwp_check_rules.specs.MarkFaults.{lower, lowest_moved, lowest_of, lowest_said}
use Rattle.hwp_check_marks.specs.Lows.{AreLows, low_at, lows_below, row_low, rows_low}
use Rattle.hwp_check_frames.specs.Counts.{is_pair}
use Rattle.hwp_check_frames.proofs.CountRises.{eqb-swap}

-- the lower of two frames, where there are any
merged : Option ℕ → Option ℕ → Option ℕ
merged low None = low
merged None (Some m) = Some m
merged (Some n) (Some m) = Some (min n m)

none-merged : (low : Option ℕ) → merged None low ≡ low
unfolding merged
none-merged None = refl
none-merged (Some m) = refl

lower-merged : (n : ℕ) (low rest : Option ℕ) → merged (Some (lower n low)) rest ≡ merged low (Some (lower n rest))
unfolding merged
lower-merged n None None = refl
lower-merged n None (Some r) = refl
lower-merged n (Some m) None = ap Some (omega arith)
lower-merged n (Some m) (Some r) = ap Some (omega arith)

-- a line more, which names a frame or doesn't, and is of the command or isn't
line-more : (n : ℕ) (said mine : Bool) (low rest : Option ℕ) → merged (cond (said && mine) (Some (lower n low)) low) rest ≡ merged low (cond mine (cond said (Some (lower n rest)) rest) rest)
line-more n true true low rest = lower-merged n low rest
line-more n true false low rest = refl
line-more n false true low rest = refl
line-more n false false low rest = refl

of-either : {X : Type 0} (f : List X → Option ℕ) (b : Bool) (xs ys : List X) → cond b (f xs) (f ys) ≡ f (cond b xs ys)
of-either f true xs ys = refl
of-either f false xs ys = refl

mine-is : (cpu seq other : ℕ) → is_pair (cpu, other) (cpu, seq) ≡ (seq == other)
mine-is cpu seq other = ap (λ (b : Bool). b && (other == seq)) (eq-eqb cpu cpu refl) ∙ eqb-swap other seq

events-merged : (cpu seq : ℕ) (low : Option ℕ) (rows : List CpuLine) → rows_low false cpu (cpu, seq) low rows ≡ merged low (lowest_of (events_among rows seq))
unfolding merged
events-merged cpu seq low [] = refl
events-merged cpu seq low (lines.Answer s answer ∷ rest) = events-merged cpu seq low rest
events-merged cpu seq low (lines.Offlined line ∷ rest) = events-merged cpu seq low rest
events-merged cpu seq low (lines.Guest guest ∷ rest) = events-merged cpu seq low rest
events-merged cpu seq low (lines.Event event ∷ rest) =
    events-merged cpu seq (row_low false cpu (cpu, seq) low (lines.Event event)) rest
    ∙ ap (λ (b : Bool). merged (cond (is_some (result_of event.acted) && b) (Some (lower (frame_at event.addr) low)) low) (lowest_of (events_among rest seq))) (mine-is cpu seq event.seq)
    ∙ line-more (frame_at event.addr) (is_some (result_of event.acted)) (seq == event.seq) low (lowest_of (events_among rest seq))
    ∙ ap (merged low) (of-either lowest_of (seq == event.seq) (event ∷ events_among rest seq) (events_among rest seq))

moves-merged : (cpu seq : ℕ) (low : Option ℕ) (rows : List CpuLine) → rows_low true cpu (cpu, seq) low rows ≡ merged low (lowest_moved (offlined_among rows seq))
unfolding merged
moves-merged cpu seq low [] = refl
moves-merged cpu seq low (lines.Answer s answer ∷ rest) = moves-merged cpu seq low rest
moves-merged cpu seq low (lines.Event event ∷ rest) = moves-merged cpu seq low rest
moves-merged cpu seq low (lines.Guest guest ∷ rest) = moves-merged cpu seq low rest
moves-merged cpu seq low (lines.Offlined line ∷ rest) =
    moves-merged cpu seq (row_low true cpu (cpu, seq) low (lines.Offlined line)) rest
    ∙ ap (λ (b : Bool). merged (cond (is_moved (Some (offline_answer line.result)) && b) (Some (lower line.frame.0 low)) low) (lowest_moved (offlined_among rest seq))) (mine-is cpu seq line.seq)
    ∙ line-more line.frame.0 (is_moved (Some (offline_answer line.result))) (seq == line.seq) low (lowest_moved (offlined_among rest seq))
    ∙ ap (merged low) (of-either lowest_moved (seq == line.seq) (line ∷ offlined_among rest seq) (offlined_among rest seq))

-- the lowest frame that a command's lines name, of these lines
abbrev said_in : Bool → List CpuLine → ℕ → Option ℕ
said_in false rows seq = lowest_of (events_among rows seq)
said_in true rows seq = lowest_moved (offlined_among rows seq)

rows-lowest : (soft : Bool) (cpu seq : ℕ) (rows : List CpuLine) → rows_low soft cpu (cpu, seq) None rows ≡ said_in soft rows seq
rows-lowest false cpu seq rows = events-merged cpu seq None rows ∙ none-merged (lowest_of (events_among rows seq))
rows-lowest true cpu seq rows = moves-merged cpu seq None rows ∙ none-merged (lowest_moved (offlined_among rows seq))

report-lowest : (soft : Bool) (report : Report) (who : Who) → said_in soft (unwrap_or (slice_get report.cpus who.cpu.0) []) who.seq ≡ lowest_said soft report who
report-lowest false report who = refl
report-lowest true report who = refl

none-said : (soft : Bool) (seq : ℕ) → None ≡ said_in soft [] seq
none-said false seq = refl
none-said true seq = refl

-- the lines of another processor change nothing
never : (said other : Bool) (n : ℕ) (low : Option ℕ) → cond (said && (false && other)) (Some (lower n low)) low ≡ low
never true other n low = refl
never false other n low = refl

other-row : (soft : Bool) (cpu : ℕ) (q : ℕ × ℕ) (low : Option ℕ) (r : CpuLine) → (cpu == q.0) ≡ false → row_low soft cpu q low r ≡ low
other-row soft cpu q low (lines.Answer s answer) other = refl
other-row soft cpu q low (lines.Guest guest) other = refl
other-row soft cpu q low (lines.Event event) other =
    ap (λ (b : Bool). cond ((not soft && is_some (result_of event.acted)) && (b && (event.seq == q.1))) (Some (lower (frame_at event.addr) low)) low) other ∙ never (not soft && is_some (result_of event.acted)) (event.seq == q.1) (frame_at event.addr) low
other-row soft cpu q low (lines.Offlined line) other =
    ap (λ (b : Bool). cond ((soft && is_moved (Some (offline_answer line.result))) && (b && (line.seq == q.1))) (Some (lower line.frame.0 low)) low) other ∙ never (soft && is_moved (Some (offline_answer line.result))) (line.seq == q.1) line.frame.0 low

other-rows : (soft : Bool) (cpu : ℕ) (q : ℕ × ℕ) (low : Option ℕ) (rows : List CpuLine) → (cpu == q.0) ≡ false → rows_low soft cpu q low rows ≡ low
other-rows soft cpu q low [] other = refl
other-rows soft cpu q low (r ∷ rest) other = ap (λ (l : Option ℕ). rows_low soft cpu q l rest) (other-row soft cpu q low r other) ∙ other-rows soft cpu q low rest other

-- one processor more
pub below-next : {S : Type 0} (soft : Bool) (report : Report) (n : ℕ) (rows : List CpuLine) (lows next : HashMap (ℕ × ℕ) ℕ S) → rows ≡ unwrap_or (slice_get report.cpus n) [] → ((q : ℕ × ℕ) → low_at lows q ≡ lows_below soft n report q)
    → ((q : ℕ × ℕ) → low_at next q ≡ rows_low soft n q (low_at lows q) rows) → (q : ℕ × ℕ) → low_at next q ≡ lows_below soft (n + 1) report q
below-next soft report n rows lows next are was more q = elim (cases_lt q.0 n) [
  | inl low ↦
      let other : (n == q.0) ≡ false = ne_eqb n q.0 (λ e. omega (arith, e, low)) in
      more q ∙ other-rows soft n q (low_at lows q) rows other ∙ was q ∙ ap (λ (b : Bool). cond b (rows_low soft q.0 q None (unwrap_or (slice_get report.cpus q.0) [])) None) (lt-ltb q.0 n low ∙ sym (lt-ltb q.0 (n + 1) (omega (arith, low))))
  | inr high ↦ elim (cases_lt n q.0) [
    | inl past ↦
        let other : (n == q.0) ≡ false = ne_eqb n q.0 (λ e. omega (arith, e, past)) in
        more q ∙ other-rows soft n q (low_at lows q) rows other ∙ was q
        ∙ ap (λ (b : Bool). cond b (rows_low soft q.0 q None (unwrap_or (slice_get report.cpus q.0) [])) None) (le-ltb q.0 n (omega (arith, past)) ∙ sym (le-ltb q.0 (n + 1) (omega (arith, past))))
    | inr low ↦
        let same : n ≡ q.0 = omega (arith, high, low) in
        let none : low_at lows q ≡ None = was q ∙ ap (λ (b : Bool). cond b (rows_low soft q.0 q None (unwrap_or (slice_get report.cpus q.0) [])) None) (le-ltb q.0 n high) in
        more q ∙ ap (λ (l : Option ℕ). rows_low soft n q l rows) none ∙ ap (λ (rs : List CpuLine). rows_low soft n q None rs) are ∙ ap (λ (k : ℕ). rows_low soft k q None (unwrap_or (slice_get report.cpus k) [])) same
        ∙ sym (ap (λ (b : Bool). cond b (rows_low soft q.0 q None (unwrap_or (slice_get report.cpus q.0) [])) None) (lt-ltb q.0 (n + 1) (omega (arith, low))))
  ]
]

-- all processors
pub all-lows : {S : Type 0} (soft : Bool) (report : Report) (n : ℕ) (lows : HashMap (ℕ × ℕ) ℕ S) → length report.cpus ≤ n → ((q : ℕ × ℕ) → low_at lows q ≡ lows_below soft n report q) → AreLows soft report lows
all-lows soft report n lows all was who = elim (cases_lt who.cpu.0 n) [
  | inl low ↦ was (who.cpu.0, who.seq) ∙ ap (λ (b : Bool). cond b (rows_low soft who.cpu.0 (who.cpu.0, who.seq) None (unwrap_or (slice_get report.cpus who.cpu.0) [])) None) (lt-ltb who.cpu.0 n low)
      ∙ rows-lowest soft who.cpu.0 who.seq (unwrap_or (slice_get report.cpus who.cpu.0) []) ∙ report-lowest soft report who
  | inr high ↦
      was (who.cpu.0, who.seq) ∙ ap (λ (b : Bool). cond b (rows_low soft who.cpu.0 (who.cpu.0, who.seq) None (unwrap_or (slice_get report.cpus who.cpu.0) [])) None) (le-ltb who.cpu.0 n high)
      ∙ none-said soft who.seq ∙ ap (λ (o : Option (List CpuLine)). said_in soft (unwrap_or o []) who.seq) (sym (slice_get_past report.cpus who.cpu.0 (omega (arith, all, high)))) ∙ report-lowest soft report who
]
