-- Where the lines of processors stand in a report, and in which of them a command's answer stands.
use Rattle.std.proofs.Common.{◌≡◌, ℕ, suc, ◌+◌, ◌<◌, ◌≤◌, ◌==◌, Bool, true, false, cond, List, [], ◌∷◌, Option, Some, None, length, option_map, slice_get, take, unwrap_or, refl, sym, ap, subst, ◌∙◌, arith}
use Rattle.std.specs.List.{filter_map, find, sum_by}
use Rattle.std.proofs.lemmas.Bool.{eqb-true}
use Rattle.std.proofs.lemmas.List.{take-take}
use Rattle.std.proofs.lemmas.List.Sums.{sum_by-take-le, sum_by_more}
use Rattle.std.proofs.lemmas.Option.{get_or_from_slice_get, none-some, same_Some, slice_get-get_or, slice_get_within, unwrap_or-slice_get}
use Rattle.hwp_law.specs.hwp_report_text.declared.Answer.{Answer}
use Rattle.hwp_law.specs.hwp_report_text.declared.CpuLine.{CpuLine}
use Rattle.hwp_law.specs.hwp_report_text.declared.CpuLine.TheVariants as lines
use Rattle.hwp_law.specs.hwp_report_text.declared.Report.{Report}
use Rattle.hwp_law.specs.Lines.{AnswerLine, answer_among, answer_in}
use Rattle.hwp_check_rules.specs.Standing.{cpu_height, cpu_line, last_line}

-- the answer of a command stands in some line
pub answer-line : (rows : List CpuLine) (seq : ℕ) (answer : Answer) → answer_among rows seq ≡ Some answer → (row : ℕ) × (slice_get rows row ≡ Some (lines.Answer seq answer))
answer-line [] seq answer is = absurd (none-some answer is)
answer-line (lines.Event event ∷ rs) seq answer is = let r = answer-line rs seq answer is in (suc r.0, r.1)
answer-line (lines.Offlined offlined ∷ rs) seq answer is = let r = answer-line rs seq answer is in (suc r.0, r.1)
answer-line (lines.Guest guest ∷ rs) seq answer is = let r = answer-line rs seq answer is in (suc r.0, r.1)
answer-line (lines.Answer s a ∷ rs) seq answer is = which (seq == s) refl is (λ more. answer-line rs seq answer more)
  where
    which : (b : Bool) → (seq == s) ≡ b → option_map (λ (l : AnswerLine). l.answer) (cond b (Some (record { seq = s; answer = a })) (find (λ (l : AnswerLine). seq == l.seq) (filter_map answer_in rs))) ≡ Some answer
        → (answer_among rs seq ≡ Some answer → (row : ℕ) × (slice_get rs row ≡ Some (lines.Answer seq answer))) → (row : ℕ) × (slice_get (lines.Answer s a ∷ rs) row ≡ Some (lines.Answer seq answer))
    which true here got more = (0, ap (λ (n : ℕ). Some (lines.Answer n a)) (sym (eqb-true seq s here)) ∙ ap (λ (x : Answer). Some (lines.Answer seq x)) (same_Some _ _ got))
    which false here got more = let r = more got in (suc r.0, r.1)

-- the heading of the next processor stands behind the lines of this one
pub next-line : (report : Report) (n : ℕ) (rows : List CpuLine) → slice_get report.cpus n ≡ Some rows → cpu_line report (n + 1) ≡ cpu_line report n + 1 + length rows
next-line report n rows is =
    let more : sum_by cpu_height (take (n + 1) report.cpus) ≡ sum_by cpu_height (take n report.cpus) + cpu_height rows =
    sum_by_more cpu_height report.cpus n rows (slice_get_within report.cpus n rows is) ∙ ap (λ (r : List CpuLine). sum_by cpu_height (take n report.cpus) + cpu_height r) (get_or_from_slice_get report.cpus n rows rows is) in
    omega (arith, more)

pub later-line : (report : Report) (i j : ℕ) → i ≤ j → cpu_line report i ≤ cpu_line report j
later-line report i j low =
    let rises : sum_by cpu_height (take i report.cpus) ≤ sum_by cpu_height (take j report.cpus) =
    subst (λ (t : List (List CpuLine)). sum_by cpu_height t ≤ sum_by cpu_height (take j report.cpus)) (take-take i j report.cpus low) (sum_by-take-le cpu_height (take j report.cpus) i) in
    omega (arith, rises)

-- the lines of a processor are within the report
pub within-report : (report : Report) (n line : ℕ) (rows : List CpuLine) → slice_get report.cpus n ≡ Some rows → line ≡ cpu_line report n → line + 1 + length rows ≤ last_line report
within-report report n line rows there is =
    let next : cpu_line report (n + 1) ≡ cpu_line report n + 1 + length rows = next-line report n rows there in
    let inside : n < length report.cpus = slice_get_within report.cpus n rows there in
    let below : cpu_line report (n + 1) ≤ cpu_line report (length report.cpus) = later-line report (n + 1) (length report.cpus) (omega (arith, inside)) in
    omega (arith, next, below, is)

-- the lines that were read of a processor
pub read-at : {X : Type 0} (xs : List (List X)) (n : ℕ) (l : List X) → n < length xs → l ≡ unwrap_or (slice_get xs n) [] → slice_get xs n ≡ Some l
read-at xs n l within is = slice_get-get_or xs n [] within ∙ ap Some (sym (is ∙ unwrap_or-slice_get xs n []))

-- a processor with a line is one of the report's, and the line one of its
record HasRow (report : Report) (n row : ℕ) : Type 0 where
  rows : List CpuLine
  there : slice_get report.cpus n ≡ Some rows
  inside : row < length rows

has-row : (report : Report) (n row : ℕ) → row < length (unwrap_or (slice_get report.cpus n) []) → HasRow report n row
has-row report n row inside = by (slice_get report.cpus n) refl inside
  where
    by : (o : Option (List CpuLine)) → slice_get report.cpus n ≡ o → row < length (unwrap_or o []) → HasRow report n row
    by None is less = absurd (let none : row < 0 = less in omega (arith, none))
    by (Some rows) is less = record { rows = rows; there = is; inside = less }

pub row-cpu : (report : Report) (n row : ℕ) → row < length (unwrap_or (slice_get report.cpus n) []) → n < length report.cpus
row-cpu report n row inside = let has = has-row report n row inside in slice_get_within report.cpus n has.rows has.there

pub row-room : (report : Report) (n row : ℕ) → row < length (unwrap_or (slice_get report.cpus n) []) → cpu_line report n + 1 + row < last_line report
row-room report n row inside =
    let has = has-row report n row inside in
    let less : row < length has.rows = has.inside in
    let most : cpu_line report n + 1 + length has.rows ≤ last_line report = within-report report n (cpu_line report n) has.rows has.there refl in
    omega (arith, less, most)
