-- The answer that was noted for a command is the first that its lines say.
use Rattle.std.proofs.Common.{◌≡◌, inl, inr, ℕ, ◌+◌, ◌≤◌, ◌==◌, ◌&&◌, Bool, true, false, cond, List, [], ◌∷◌, Option, Some, None, filter_map, length, option_map, slice_get, unwrap_or, refl, sym, ap, ◌∙◌, arith}
use Rattle.std.specs.HashMap.{HashMap}
use Rattle.std.specs.List.{find}
use Rattle.std.proofs.lemmas.Bool.{cases_lt, eq-eqb, le-ltb, lt-ltb, ne_eqb}
use Rattle.std.proofs.lemmas.Option.{slice_get_past}
use Rattle.hwp_check_rules.specs.hwp_report_text.declared.Answer.{Answer}
use Rattle.hwp_check_rules.specs.hwp_report_text.declared.CpuLine.{CpuLine}
use Rattle.hwp_check_rules.specs.hwp_report_text.declared.CpuLine.TheVariants as lines
use Rattle.hwp_check_rules.specs.hwp_report_text.declared.Report.{Report}
use Rattle.hwp_check_rules.specs.hwp_law.Lines.{AnswerLine, answer_among, answer_in}
use Rattle.hwp_check_frames.specs.Given.{AreGiven, first_of, given_at, given_below, rows_given}
use Rattle.hwp_check_frames.specs.Counts.{is_pair}
use Rattle.hwp_check_frames.proofs.CountRises.{eqb-swap}

-- an answer that stands first stays
some-stays : (cpu seq : ℕ) (answer : Answer) (rows : List CpuLine) → rows_given cpu (cpu, seq) (Some answer) rows ≡ Some answer
some-stays cpu seq answer [] = refl
some-stays cpu seq answer (lines.Event event ∷ rest) = some-stays cpu seq answer rest
some-stays cpu seq answer (lines.Offlined offlined ∷ rest) = some-stays cpu seq answer rest
some-stays cpu seq answer (lines.Guest guest ∷ rest) = some-stays cpu seq answer rest
some-stays cpu seq answer (lines.Answer s other ∷ rest) = ap (λ (o : Option Answer). rows_given cpu (cpu, seq) o rest) (by (is_pair (cpu, s) (cpu, seq))) ∙ some-stays cpu seq answer rest
  where
    by : (b : Bool) → cond b (Some answer) (Some answer) ≡ Some answer
    by true = refl
    by false = refl

rows-first : (cpu seq : ℕ) (rows : List CpuLine) → rows_given cpu (cpu, seq) None rows ≡ answer_among rows seq
rows-first cpu seq [] = refl
rows-first cpu seq (lines.Event event ∷ rest) = rows-first cpu seq rest
rows-first cpu seq (lines.Offlined offlined ∷ rest) = rows-first cpu seq rest
rows-first cpu seq (lines.Guest guest ∷ rest) = rows-first cpu seq rest
rows-first cpu seq (lines.Answer s answer ∷ rest) =
    let same : is_pair (cpu, s) (cpu, seq) ≡ (seq == s) = ap (λ (b : Bool). b && (s == seq)) (eq-eqb cpu cpu refl) ∙ eqb-swap s seq in
    ap (λ (b : Bool). rows_given cpu (cpu, seq) (cond b (Some answer) None) rest) same ∙ by (seq == s) (rows-first cpu seq rest)
  where
    by : (b : Bool) → rows_given cpu (cpu, seq) None rest ≡ answer_among rest seq
        → rows_given cpu (cpu, seq) (cond b (Some answer) None) rest
        ≡ option_map (λ (l : AnswerLine). l.answer) (cond b (Some (record { seq = s; answer = answer })) (find (λ (l : AnswerLine). seq == l.seq) (filter_map answer_in rest)))
    by true later = some-stays cpu seq answer rest
    by false later = later

-- the lines of another processor change nothing
other-rows : (cpu : ℕ) (q : ℕ × ℕ) (found : Option Answer) (rows : List CpuLine) → (cpu == q.0) ≡ false → rows_given cpu q found rows ≡ found
other-rows cpu q found [] other = refl
other-rows cpu q found (lines.Event event ∷ rest) other = other-rows cpu q found rest other
other-rows cpu q found (lines.Offlined offlined ∷ rest) other = other-rows cpu q found rest other
other-rows cpu q found (lines.Guest guest ∷ rest) other = other-rows cpu q found rest other
other-rows cpu q found (lines.Answer s answer ∷ rest) other =
    ap (λ (o : Option Answer). rows_given cpu q o rest) (ap (λ (b : Bool). cond (b && (s == q.1)) (Some (first_of found answer)) found) other) ∙ other-rows cpu q found rest other

-- one processor more
pub below-next : {S : Type 0} (report : Report) (n : ℕ) (rows : List CpuLine) (given next : HashMap (ℕ × ℕ) Answer S) → rows ≡ unwrap_or (slice_get report.cpus n) [] → ((q : ℕ × ℕ) → given_at given q ≡ given_below n report q)
    → ((q : ℕ × ℕ) → given_at next q ≡ rows_given n q (given_at given q) rows) → (q : ℕ × ℕ) → given_at next q ≡ given_below (n + 1) report q
below-next report n rows given next are was more q = elim (cases_lt q.0 n) [
  | inl low ↦
      let other : (n == q.0) ≡ false = ne_eqb n q.0 (λ e. omega (arith, e, low)) in
      more q ∙ other-rows n q (given_at given q) rows other ∙ was q ∙ ap (λ (b : Bool). cond b (rows_given q.0 q None (unwrap_or (slice_get report.cpus q.0) [])) None) (lt-ltb q.0 n low ∙ sym (lt-ltb q.0 (n + 1) (omega (arith, low))))
  | inr high ↦ elim (cases_lt n q.0) [
    | inl past ↦
        let other : (n == q.0) ≡ false = ne_eqb n q.0 (λ e. omega (arith, e, past)) in
        more q ∙ other-rows n q (given_at given q) rows other ∙ was q
        ∙ ap (λ (b : Bool). cond b (rows_given q.0 q None (unwrap_or (slice_get report.cpus q.0) [])) None) (le-ltb q.0 n (omega (arith, past)) ∙ sym (le-ltb q.0 (n + 1) (omega (arith, past))))
    | inr low ↦
        let same : n ≡ q.0 = omega (arith, high, low) in
        let none : given_at given q ≡ None = was q ∙ ap (λ (b : Bool). cond b (rows_given q.0 q None (unwrap_or (slice_get report.cpus q.0) [])) None) (le-ltb q.0 n high) in
        more q ∙ ap (λ (l : Option Answer). rows_given n q l rows) none ∙ ap (λ (rs : List CpuLine). rows_given n q None rs) are ∙ ap (λ (k : ℕ). rows_given k q None (unwrap_or (slice_get report.cpus k) [])) same
        ∙ sym (ap (λ (b : Bool). cond b (rows_given q.0 q None (unwrap_or (slice_get report.cpus q.0) [])) None) (lt-ltb q.0 (n + 1) (omega (arith, low))))
  ]
]

-- all processors
pub all-given : {S : Type 0} (report : Report) (n : ℕ) (given : HashMap (ℕ × ℕ) Answer S) → length report.cpus ≤ n → ((q : ℕ × ℕ) → given_at given q ≡ given_below n report q) → AreGiven report given
all-given report n given all was who = elim (cases_lt who.cpu.0 n) [
  | inl low ↦ was (who.cpu.0, who.seq) ∙ ap (λ (b : Bool). cond b (rows_given who.cpu.0 (who.cpu.0, who.seq) None (unwrap_or (slice_get report.cpus who.cpu.0) [])) None) (lt-ltb who.cpu.0 n low)
      ∙ rows-first who.cpu.0 who.seq (unwrap_or (slice_get report.cpus who.cpu.0) [])
  | inr high ↦
      was (who.cpu.0, who.seq) ∙ ap (λ (b : Bool). cond b (rows_given who.cpu.0 (who.cpu.0, who.seq) None (unwrap_or (slice_get report.cpus who.cpu.0) [])) None) (le-ltb who.cpu.0 n high)
      ∙ ap (λ (o : Option (List CpuLine)). answer_among (unwrap_or o []) who.seq) (sym (slice_get_past report.cpus who.cpu.0 (omega (arith, all, high))))
]
