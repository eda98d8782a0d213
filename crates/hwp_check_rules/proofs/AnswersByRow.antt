-- The answers of a processor, told from the first command on, and told line by line: the same.
use Rattle.std.proofs.Common.{◌≡◌, ◌⊎◌, inl, inr, ℕ, zero, suc, ◌+◌, ◌<◌, ◌==◌, ◌&&◌, Bool, true, false, cond, true≢false, List, [], ◌∷◌, Some, count_by, get_or, length, slice_get, take, IsSome, refl, sym, ap, ◌∙◌, subst, arith}
use Rattle.std.specs.Option.{option_map_or}
use Rattle.std.proofs.lemmas.Bool.{cases_eq, eq-eqb, ne_eqb}
use Rattle.std.proofs.lemmas.Option.{same_Some, none-some}
use Rattle.std.proofs.lemmas.List.Sums.{sum_by-cons, sum_by_more}
use Rattle.hwp_law.specs.hwp_geom.declared.Cpu.{Cpu}
use Rattle.hwp_law.specs.hwp_geom.declared.Who.{Who}
use Rattle.hwp_law.specs.hwp_script_words.declared.Command.{Command}
use Rattle.hwp_law.specs.hwp_script_words.declared.Script.{Script}
use Rattle.hwp_law.specs.hwp_report_text.declared.Answer.{Answer}
use Rattle.hwp_law.specs.hwp_report_text.declared.Answer.TheVariants as answers
use Rattle.hwp_law.specs.hwp_report_text.declared.CpuLine.{CpuLine}
use Rattle.hwp_law.specs.hwp_report_text.declared.CpuLine.TheVariants as lines
use Rattle.hwp_law.specs.hwp_report_text.declared.EventLine.{EventLine}
use Rattle.hwp_law.specs.hwp_report_text.declared.OfflinedLine.{OfflinedLine}
use Rattle.hwp_law.specs.hwp_report_text.declared.Report.{Report}
use Rattle.hwp_law.specs.Causes.{AreCaused, IsAtAnswer, IsCaused, IsHeeded, IsPastEvents}
use Rattle.hwp_check_rules.specs.Answered.{AreAnswered, HasAnswer, IsBehindEvents, IsRight, events_before, is_answer, is_event, is_well_before}
use Rattle.hwp_law.specs.Lines.{events_among, seq_of}

-- the last of the commands that a line is of, and of which command it is, where so many were answered before
abbrev pub answers_in : ℕ → List CpuLine → ℕ
answers_in row rows = count_by is_answer (take row rows)

abbrev flag : Bool → ℕ
flag b = cond b 1 0

-- one line more in front
in-more : (row : ℕ) (line : CpuLine) (rows : List CpuLine) → answers_in (suc row) (line ∷ rows) ≡ flag (is_answer line) + answers_in row rows
in-more row line rows = sum_by-cons (λ (l : CpuLine). cond (is_answer l) 1 0) line (take row rows)

-- as many answers with a further line
pub count-next : (rows : List CpuLine) (i : ℕ) (d : CpuLine) (answered n : ℕ) (b : Bool) → i < length rows → answered ≡ count_by is_answer (take i rows) → b ≡ is_answer (get_or rows i d) → n ≡ flag b → answered + n ≡ count_by is_answer (take (i + 1) rows)
count-next rows i d answered n b within was is one =
    let more : count_by is_answer (take (i + 1) rows) ≡ count_by is_answer (take i rows) + flag (is_answer (get_or rows i d)) = sum_by_more (λ (l : CpuLine). cond (is_answer l) 1 0) rows i d within in
    let same : n ≡ flag (is_answer (get_or rows i d)) = one ∙ ap flag is in
    omega (arith, more, same, was)

-- how many event lines of a command stand before a row, and how many there are, with a line more in front
events-more : (row seq : ℕ) (line : CpuLine) (rows : List CpuLine) → events_before (line ∷ rows) (suc row) seq ≡ flag (is_event line && (seq_of line == seq)) + events_before rows row seq
events-more row seq line rows = sum_by-cons (λ (l : CpuLine). cond (is_event l && (seq_of l == seq)) 1 0) line (take row rows)

plain : (n : ℕ) → n ≡ 0 + n
plain n = omega arith

many-more : (seq : ℕ) (line : CpuLine) (rows : List CpuLine) → length (events_among (line ∷ rows) seq) ≡ flag (is_event line && (seq_of line == seq)) + length (events_among rows seq)
many-more seq (lines.Answer s answer) rows = plain (length (events_among rows seq))
many-more seq (lines.Offlined offlined) rows = plain (length (events_among rows seq))
many-more seq (lines.Guest guest) rows = plain (length (events_among rows seq))
many-more seq (lines.Event event) rows = by (cases_eq seq event.seq)
  where
    by : (seq ≡ event.seq) ⊎ (seq ≡ event.seq → ⊥) → length (cond (seq == event.seq) (event ∷ events_among rows seq) (events_among rows seq)) ≡ flag (event.seq == seq) + length (events_among rows seq)
    by (inl same) =
        let more : length (cond (seq == event.seq) (event ∷ events_among rows seq) (events_among rows seq)) ≡ suc (length (events_among rows seq)) =
        ap (λ (b : Bool). length (cond b (event ∷ events_among rows seq) (events_among rows seq))) (eq-eqb seq event.seq same) in
        let one : flag (event.seq == seq) ≡ 1 = ap flag (eq-eqb event.seq seq (sym same)) in
        omega (arith, more, one)
    by (inr other) =
        let less : length (cond (seq == event.seq) (event ∷ events_among rows seq) (events_among rows seq)) ≡ length (events_among rows seq) =
        ap (λ (b : Bool). length (cond b (event ∷ events_among rows seq) (events_among rows seq))) (ne_eqb seq event.seq other) in
        let none : flag (event.seq == seq) ≡ 0 = ap flag (ne_eqb event.seq seq (λ is. other (sym is))) in
        omega (arith, less, none)

behind-more : (row seq : ℕ) (line : CpuLine) (rows : List CpuLine) → IsBehindEvents rows row seq → IsBehindEvents (line ∷ rows) (suc row) seq
behind-more row seq line rows behind =
    let before : events_before (line ∷ rows) (suc row) seq ≡ flag (is_event line && (seq_of line == seq)) + events_before rows row seq = events-more row seq line rows in
    let many : length (events_among (line ∷ rows) seq) ≡ flag (is_event line && (seq_of line == seq)) + length (events_among rows seq) = many-more seq line rows in
    omega (arith, before, many, behind)

behind-less : (row seq : ℕ) (line : CpuLine) (rows : List CpuLine) → IsBehindEvents (line ∷ rows) (suc row) seq → IsBehindEvents rows row seq
behind-less row seq line rows behind =
    let before : events_before (line ∷ rows) (suc row) seq ≡ flag (is_event line && (seq_of line == seq)) + events_before rows row seq = events-more row seq line rows in
    let many : length (events_among (line ∷ rows) seq) ≡ flag (is_event line && (seq_of line == seq)) + length (events_among rows seq) = many-more seq line rows in
    omega (arith, before, many, behind)

-- what is an answer is no event
answer-past : (rows : List CpuLine) → IsAtAnswer rows → IsPastEvents rows
answer-past [] at = record {}
answer-past (lines.Answer seq answer ∷ rest) at = record {}
answer-past (lines.Event event ∷ rest) at = absurd at
answer-past (lines.Offlined offlined ∷ rest) at = record {}
answer-past (lines.Guest guest ∷ rest) at = record {}

-- the next line is no event line of the command where the first line stands behind all of them
next-past : (seq : ℕ) (line : OfflinedLine) (rows : List CpuLine) → IsBehindEvents (lines.Offlined line ∷ rows) 0 seq → ((event : EventLine) (rest : List CpuLine) → rows ≡ lines.Event event ∷ rest → event.seq ≡ seq) → IsPastEvents rows
next-past seq line [] behind own = record {}
next-past seq line (lines.Answer s answer ∷ rest) behind own = record {}
next-past seq line (lines.Offlined offlined ∷ rest) behind own = record {}
next-past seq line (lines.Guest guest ∷ rest) behind own = record {}
next-past seq line (lines.Event event ∷ rest) behind own =
    let many : length (events_among (lines.Event event ∷ rest) seq) ≡ flag (event.seq == seq) + length (events_among rest seq) = many-more seq (lines.Event event) rest in
    let one : flag (event.seq == seq) ≡ 1 = ap flag (eq-eqb event.seq seq (own event rest refl)) in
    let none : 0 ≡ length (events_among (lines.Event event ∷ rest) seq) = behind in
    absurd (omega (arith, many, one, none))

-- the line behind a guest's is an answer exactly where the law says so; a line more in front changes nothing
next-answers : (rest : List CpuLine) → IsAtAnswer rest → option_map_or is_answer (slice_get rest 0) false ≡ true
next-answers [] at = absurd at
next-answers (lines.Answer seq answer ∷ rest) at = refl
next-answers (lines.Event event ∷ rest) at = absurd at
next-answers (lines.Offlined offlined ∷ rest) at = absurd at
next-answers (lines.Guest guest ∷ rest) at = absurd at

at-answer : (rest : List CpuLine) → option_map_or is_answer (slice_get rest 0) false ≡ true → IsAtAnswer rest
at-answer [] next = absurd (true≢false (sym next))
at-answer (lines.Answer seq answer ∷ rest) next = record {}
at-answer (lines.Event event ∷ rest) next = absurd (true≢false (sym next))
at-answer (lines.Offlined offlined ∷ rest) next = absurd (true≢false (sym next))
at-answer (lines.Guest guest ∷ rest) next = absurd (true≢false (sym next))

later-before : (first : CpuLine) (rows : List CpuLine) (row : ℕ) (line : CpuLine) → is_well_before rows row line ≡ true → is_well_before (first ∷ rows) (suc row) line ≡ true
later-before first rows row (lines.Guest guest) before =
    let same : suc row + 1 ≡ suc (row + 1) = omega arith in ap (λ (k : ℕ). option_map_or is_answer (slice_get (first ∷ rows) k) false) same ∙ before
later-before first rows row (lines.Event event) before = refl
later-before first rows row (lines.Offlined offlined) before = refl
later-before first rows row (lines.Answer seq answer) before = refl

earlier-before : (first : CpuLine) (rows : List CpuLine) (row : ℕ) (line : CpuLine) → is_well_before (first ∷ rows) (suc row) line ≡ true → is_well_before rows row line ≡ true
earlier-before first rows row (lines.Guest guest) before =
    let same : suc (row + 1) ≡ suc row + 1 = omega arith in ap (λ (k : ℕ). option_map_or is_answer (slice_get (first ∷ rows) k) false) same ∙ before
earlier-before first rows row (lines.Event event) before = refl
earlier-before first rows row (lines.Offlined offlined) before = refl
earlier-before first rows row (lines.Answer seq answer) before = refl

module _ (script : Script) (report : Report) (cpu : Cpu) where
  abbrev who : ℕ → Who
  who n = record { cpu = cpu; seq = n }

  place-of : (n : ℕ) (commands : List Command) (rows : List CpuLine) → AreCaused script report cpu n commands rows → (row : ℕ) (line : CpuLine) → slice_get rows row ≡ Some line → (seq_of line ≡ n + answers_in row rows) × (seq_of line < n + length commands)
  place-of n [] [] h row line is = absurd (none-some _ is)
  place-of n [] (r ∷ rest) h row line is = absurd h
  place-of n (c ∷ cs) [] h row line is = absurd h
  place-of n (c ∷ cs) (lines.Event event ∷ rest) h zero line is =
      let same : event.seq ≡ seq_of line = ap seq_of (same_Some _ _ is) in let first : event.seq ≡ n = h.0 in (omega (arith, same, first), omega (arith, same, first))
  place-of n (c ∷ cs) (lines.Event event ∷ rest) h (suc row) line is =
      let later = place-of n (c ∷ cs) rest h.1 row line is in
      let at : seq_of line ≡ n + answers_in row rest = later.0 in
      let more : answers_in (suc row) (lines.Event event ∷ rest) ≡ 0 + answers_in row rest = in-more row (lines.Event event) rest in
      (omega (arith, at, more), later.1)
  place-of n (c ∷ cs) (lines.Answer seq answer ∷ rest) h zero line is =
      let same : seq ≡ seq_of line = ap seq_of (same_Some _ _ is) in let first : seq ≡ n = h.0 in (omega (arith, same, first), omega (arith, same, first))
  place-of n (c ∷ cs) (lines.Answer seq answer ∷ rest) h (suc row) line is =
      let later = place-of (n + 1) cs rest h.3 row line is in
      let at : seq_of line ≡ n + 1 + answers_in row rest = later.0 in
      let below : seq_of line < n + 1 + length cs = later.1 in
      let more : answers_in (suc row) (lines.Answer seq answer ∷ rest) ≡ 1 + answers_in row rest = in-more row (lines.Answer seq answer) rest in
      (omega (arith, at, more), omega (arith, below))
  place-of n (c ∷ cs) (lines.Offlined offlined ∷ rest) h zero line is =
      let same : offlined.seq ≡ seq_of line = ap seq_of (same_Some _ _ is) in let first : offlined.seq ≡ n = h.0 in (omega (arith, same, first), omega (arith, same, first))
  place-of n (c ∷ cs) (lines.Offlined offlined ∷ rest) h (suc row) line is =
      let later = place-of n (c ∷ cs) rest h.2 row line is in
      let at : seq_of line ≡ n + answers_in row rest = later.0 in
      let more : answers_in (suc row) (lines.Offlined offlined ∷ rest) ≡ 0 + answers_in row rest = in-more row (lines.Offlined offlined) rest in
      (omega (arith, at, more), later.1)
  place-of n (c ∷ cs) (lines.Guest guest ∷ rest) h zero line is =
      let same : guest.seq ≡ seq_of line = ap seq_of (same_Some _ _ is) in let first : guest.seq ≡ n = h.0 in (omega (arith, same, first), omega (arith, same, first))
  place-of n (c ∷ cs) (lines.Guest guest ∷ rest) h (suc row) line is =
      let later = place-of n (c ∷ cs) rest h.2 row line is in
      let at : seq_of line ≡ n + answers_in row rest = later.0 in
      let more : answers_in (suc row) (lines.Guest guest ∷ rest) ≡ 0 + answers_in row rest = in-more row (lines.Guest guest) rest in
      (omega (arith, at, more), later.1)

  before-of : (n : ℕ) (commands : List Command) (rows : List CpuLine) → AreCaused script report cpu n commands rows → (row : ℕ) (line : CpuLine) → slice_get rows row ≡ Some line → is_well_before rows row line ≡ true
  before-of n [] [] h row line is = absurd (none-some _ is)
  before-of n [] (r ∷ rest) h row line is = absurd h
  before-of n (c ∷ cs) [] h row line is = absurd h
  before-of n (c ∷ cs) (lines.Event event ∷ rest) h zero line is = sym (ap (is_well_before (lines.Event event ∷ rest) 0) (same_Some _ _ is))
  before-of n (c ∷ cs) (lines.Event event ∷ rest) h (suc row) line is = later-before (lines.Event event) rest row line (before-of n (c ∷ cs) rest h.1 row line is)
  before-of n (c ∷ cs) (lines.Answer seq answer ∷ rest) h zero line is = sym (ap (is_well_before (lines.Answer seq answer ∷ rest) 0) (same_Some _ _ is))
  before-of n (c ∷ cs) (lines.Answer seq answer ∷ rest) h (suc row) line is = later-before (lines.Answer seq answer) rest row line (before-of (n + 1) cs rest h.3 row line is)
  before-of n (c ∷ cs) (lines.Offlined offlined ∷ rest) h zero line is = sym (ap (is_well_before (lines.Offlined offlined ∷ rest) 0) (same_Some _ _ is))
  before-of n (c ∷ cs) (lines.Offlined offlined ∷ rest) h (suc row) line is = later-before (lines.Offlined offlined) rest row line (before-of n (c ∷ cs) rest h.2 row line is)
  before-of n (c ∷ cs) (lines.Guest guest ∷ rest) h zero line is = sym (ap (is_well_before (lines.Guest guest ∷ rest) 0) (same_Some _ _ is)) ∙ next-answers rest h.1
  before-of n (c ∷ cs) (lines.Guest guest ∷ rest) h (suc row) line is = later-before (lines.Guest guest) rest row line (before-of n (c ∷ cs) rest h.2 row line is)

  -- lines of later commands have no event line of an earlier one
  none-earlier : (n : ℕ) (commands : List Command) (rows : List CpuLine) (seq : ℕ) → seq < n → AreCaused script report cpu n commands rows → length (events_among rows seq) ≡ 0
  none-earlier n [] [] seq less h = refl
  none-earlier n [] (r ∷ rest) seq less h = absurd h
  none-earlier n (c ∷ cs) [] seq less h = refl
  none-earlier n (c ∷ cs) (lines.Event event ∷ rest) seq less h =
      let first : event.seq ≡ n = h.0 in
      let rest-none : length (events_among rest seq) ≡ 0 = none-earlier n (c ∷ cs) rest seq less h.1 in
      let many : length (events_among (lines.Event event ∷ rest) seq) ≡ flag (event.seq == seq) + length (events_among rest seq) = many-more seq (lines.Event event) rest in
      let other : flag (event.seq == seq) ≡ 0 = ap flag (ne_eqb event.seq seq (λ is. omega (arith, is, first, less))) in
      omega (arith, rest-none, many, other)
  none-earlier n (c ∷ cs) (lines.Answer s answer ∷ rest) seq less h = none-earlier (n + 1) cs rest seq (omega (arith, less)) h.3
  none-earlier n (c ∷ cs) (lines.Offlined offlined ∷ rest) seq less h = none-earlier n (c ∷ cs) rest seq less h.2
  none-earlier n (c ∷ cs) (lines.Guest guest ∷ rest) seq less h = none-earlier n (c ∷ cs) rest seq less h.2

  -- nor have lines that begin with no event line one of the command that is answered next
  none-next : (n : ℕ) (commands : List Command) (rows : List CpuLine) → IsPastEvents rows → AreCaused script report cpu n commands rows → length (events_among rows n) ≡ 0
  none-next n [] [] past h = refl
  none-next n [] (r ∷ rest) past h = absurd h
  none-next n (c ∷ cs) [] past h = refl
  none-next n (c ∷ cs) (lines.Event event ∷ rest) past h = absurd past
  none-next n (c ∷ cs) (lines.Answer s answer ∷ rest) past h = none-earlier (n + 1) cs rest n (omega arith) h.3
  none-next n (c ∷ cs) (lines.Offlined offlined ∷ rest) past h = none-next n (c ∷ cs) rest h.1 h.2
  none-next n (c ∷ cs) (lines.Guest guest ∷ rest) past h = none-next n (c ∷ cs) rest (answer-past rest h.1) h.2

  behind-of : (n : ℕ) (commands : List Command) (rows : List CpuLine) → AreCaused script report cpu n commands rows → (row : ℕ) (line : OfflinedLine) → slice_get rows row ≡ Some (lines.Offlined line) → IsBehindEvents rows row line.seq
  behind-of n [] [] h row line is = absurd (none-some _ is)
  behind-of n [] (r ∷ rest) h row line is = absurd h
  behind-of n (c ∷ cs) [] h row line is = absurd h
  behind-of n (c ∷ cs) (lines.Event event ∷ rest) h zero line is = absurd (cc)
  behind-of n (c ∷ cs) (lines.Event event ∷ rest) h (suc row) line is = behind-more row line.seq (lines.Event event) rest (behind-of n (c ∷ cs) rest h.1 row line is)
  behind-of n (c ∷ cs) (lines.Answer s answer ∷ rest) h zero line is = absurd (cc)
  behind-of n (c ∷ cs) (lines.Answer s answer ∷ rest) h (suc row) line is = behind-more row line.seq (lines.Answer s answer) rest (behind-of (n + 1) cs rest h.3 row line is)
  behind-of n (c ∷ cs) (lines.Offlined offlined ∷ rest) h zero line is =
      let same : offlined.seq ≡ line.seq = ap seq_of (same_Some _ _ is) in
      let first : offlined.seq ≡ n = h.0 in
      let none : length (events_among rest n) ≡ 0 = none-next n (c ∷ cs) rest h.1 h.2 in
      let number : n ≡ line.seq = omega (arith, same, first) in
      subst (λ (m : ℕ). IsBehindEvents (lines.Offlined offlined ∷ rest) 0 m) number (sym none)
  behind-of n (c ∷ cs) (lines.Offlined offlined ∷ rest) h (suc row) line is = behind-more row line.seq (lines.Offlined offlined) rest (behind-of n (c ∷ cs) rest h.2 row line is)
  behind-of n (c ∷ cs) (lines.Guest guest ∷ rest) h zero line is = absurd (cc)
  behind-of n (c ∷ cs) (lines.Guest guest ∷ rest) h (suc row) line is = behind-more row line.seq (lines.Guest guest) rest (behind-of n (c ∷ cs) rest h.2 row line is)

  each-of : (n : ℕ) (commands : List Command) (rows : List CpuLine) → AreCaused script report cpu n commands rows → (k seq : ℕ) → k < length commands → seq ≡ n + k → HasAnswer rows seq
  each-of n [] rows h k seq less is = absurd (omega arith)
  each-of n (c ∷ cs) [] h k seq less is = absurd h
  each-of n (c ∷ cs) (lines.Event event ∷ rest) h k seq less is =
      let r = each-of n (c ∷ cs) rest h.1 k seq less is in record { row = suc r.row; answer = r.answer; there = r.there }
  each-of n (c ∷ cs) (lines.Answer s answer ∷ rest) h zero seq less is =
      let first : s ≡ n = h.0 in let same : s ≡ seq = omega (arith, first, is) in record { row = 0; answer = answer; there = ap (λ (m : ℕ). Some (lines.Answer m answer)) same }
  each-of n (c ∷ cs) (lines.Answer s answer ∷ rest) h (suc k) seq less is =
      let r = each-of (n + 1) cs rest h.3 k seq (omega arith) (omega arith) in record { row = suc r.row; answer = r.answer; there = r.there }
  each-of n (c ∷ cs) (lines.Offlined offlined ∷ rest) h k seq less is =
      let r = each-of n (c ∷ cs) rest h.2 k seq less is in record { row = suc r.row; answer = r.answer; there = r.there }
  each-of n (c ∷ cs) (lines.Guest guest ∷ rest) h k seq less is =
      let r = each-of n (c ∷ cs) rest h.2 k seq less is in record { row = suc r.row; answer = r.answer; there = r.there }

  right-of : (n : ℕ) (commands : List Command) (rows : List CpuLine) → AreCaused script report cpu n commands rows → (row k seq : ℕ) (answer : Answer) (command : Command) → slice_get rows row ≡ Some (lines.Answer seq answer) → seq ≡ n + k → slice_get commands k ≡ Some command → IsCaused script report (who seq) command answer × IsHeeded report (who seq) answer
  right-of n [] [] h row k seq answer command is same there = absurd (none-some _ is)
  right-of n [] (r ∷ rest) h row k seq answer command is same there = absurd h
  right-of n (c ∷ cs) [] h row k seq answer command is same there = absurd h
  right-of n (c ∷ cs) (lines.Event event ∷ rest) h zero k seq answer command is same there = absurd (cc)
  right-of n (c ∷ cs) (lines.Event event ∷ rest) h (suc row) k seq answer command is same there = right-of n (c ∷ cs) rest h.1 row k seq answer command is same there
  right-of n (c ∷ cs) (lines.Answer s given ∷ rest) h zero zero seq answer command is same there =
      let of_seq : n ≡ seq = omega (arith, same) in
      let of_answer : given ≡ answer = ap answer_in_line (same_Some _ _ is) in
      let of_command : c ≡ command = same_Some _ _ there in
      subst (λ (m : ℕ). IsCaused script report (who m) command answer × IsHeeded report (who m) answer) of_seq
      (subst (λ (a : Answer). IsCaused script report (who n) command a × IsHeeded report (who n) a) of_answer
      (subst (λ (x : Command). IsCaused script report (who n) x given × IsHeeded report (who n) given) of_command (h.1, h.2)))
    where
      answer_in_line : CpuLine → Answer
      answer_in_line (lines.Answer s2 a) = a
      answer_in_line _ = answers.Stopped
  right-of n (c ∷ cs) (lines.Answer s given ∷ rest) h zero (suc k) seq answer command is same there =
      let of_seq : s ≡ seq = ap seq_of (same_Some _ _ is) in let first : s ≡ n = h.0 in absurd (omega (arith, of_seq, first, same))
  right-of n (c ∷ cs) (lines.Answer s given ∷ rest) h (suc row) zero seq answer command is same there =
      let later : seq ≡ n + 1 + answers_in row rest = (place-of (n + 1) cs rest h.3 row (lines.Answer seq answer) is).0 in absurd (omega (arith, later, same))
  right-of n (c ∷ cs) (lines.Answer s given ∷ rest) h (suc row) (suc k) seq answer command is same there = right-of (n + 1) cs rest h.3 row k seq answer command is (omega (arith, same)) there
  right-of n (c ∷ cs) (lines.Offlined offlined ∷ rest) h zero k seq answer command is same there = absurd (cc)
  right-of n (c ∷ cs) (lines.Offlined offlined ∷ rest) h (suc row) k seq answer command is same there = right-of n (c ∷ cs) rest h.2 row k seq answer command is same there
  right-of n (c ∷ cs) (lines.Guest guest ∷ rest) h zero k seq answer command is same there = absurd (cc)
  right-of n (c ∷ cs) (lines.Guest guest ∷ rest) h (suc row) k seq answer command is same there = right-of n (c ∷ cs) rest h.2 row k seq answer command is same there

  -- told from the first command on, the lines are told one by one
  pub by-rows : (commands : List Command) (rows : List CpuLine) → AreCaused script report cpu 0 commands rows → AreAnswered script report cpu commands rows
  by-rows commands rows h = record {
    in_place = λ row line is.
        let p = place-of 0 commands rows h row line is in
        let at : seq_of line ≡ 0 + answers_in row rows = p.0 in let below : seq_of line < 0 + length commands = p.1 in
        record { of_next = omega (arith, at); of_some = omega (arith, below); well_before = before-of 0 commands rows h row line is };
    past = behind-of 0 commands rows h;
    each = λ seq less. each-of 0 commands rows h seq seq less (omega arith);
    right = λ row seq answer command is there.
        let r = right-of 0 commands rows h row seq seq answer command is (omega arith) there in record { shown = r.0; heeded = r.1 };
  }

  -- and where an answer is `stopped` there is a stop
  pub told-of : (n : ℕ) (commands : List Command) (rows : List CpuLine) → AreCaused script report cpu n commands rows → (row seq : ℕ) → slice_get rows row ≡ Some (lines.Answer seq answers.Stopped) → IsSome report.stop
  told-of n [] [] h row seq is = absurd (none-some _ is)
  told-of n [] (r ∷ rest) h row seq is = absurd h
  told-of n (c ∷ cs) [] h row seq is = absurd h
  told-of n (c ∷ cs) (lines.Event event ∷ rest) h zero seq is = absurd (cc)
  told-of n (c ∷ cs) (lines.Event event ∷ rest) h (suc row) seq is = told-of n (c ∷ cs) rest h.1 row seq is
  told-of n (c ∷ cs) (lines.Answer s given ∷ rest) h zero seq is = subst (λ (a : Answer). IsCaused script report (who n) c a) (ap answer_in_line (same_Some _ _ is)) h.1
    where
      answer_in_line : CpuLine → Answer
      answer_in_line (lines.Answer s2 a) = a
      answer_in_line _ = answers.Stopped
  told-of n (c ∷ cs) (lines.Answer s given ∷ rest) h (suc row) seq is = told-of (n + 1) cs rest h.3 row seq is
  told-of n (c ∷ cs) (lines.Offlined offlined ∷ rest) h zero seq is = absurd (cc)
  told-of n (c ∷ cs) (lines.Offlined offlined ∷ rest) h (suc row) seq is = told-of n (c ∷ cs) rest h.2 row seq is
  told-of n (c ∷ cs) (lines.Guest guest ∷ rest) h zero seq is = absurd (cc)
  told-of n (c ∷ cs) (lines.Guest guest ∷ rest) h (suc row) seq is = told-of n (c ∷ cs) rest h.2 row seq is

  -- the lines from one on, told one by one, where so many commands were answered before
  record From (n : ℕ) (commands : List Command) (rows : List CpuLine) : Type 0 where
    at : (row : ℕ) (line : CpuLine) → slice_get rows row ≡ Some line → seq_of line ≡ n + answers_in row rows
    below : (row : ℕ) (line : CpuLine) → slice_get rows row ≡ Some line → seq_of line < n + length commands
    before : (row : ℕ) (line : CpuLine) → slice_get rows row ≡ Some line → is_well_before rows row line ≡ true
    past : (row : ℕ) (line : OfflinedLine) → slice_get rows row ≡ Some (lines.Offlined line) → IsBehindEvents rows row line.seq
    each : (k : ℕ) → k < length commands → HasAnswer rows (n + k)
    right : (row k seq : ℕ) (answer : Answer) (command : Command) → slice_get rows row ≡ Some (lines.Answer seq answer) → seq ≡ n + k → slice_get commands k ≡ Some command → IsRight script report (who seq) command answer

  past-event : (n : ℕ) (commands : List Command) (line : CpuLine) (rows : List CpuLine) → is_answer line ≡ false → From n commands (line ∷ rows) → From n commands rows
  past-event n commands line rows not_answer f = record {
    at = λ row l is. let e : seq_of l ≡ n + answers_in (suc row) (line ∷ rows) = f.at (suc row) l is in let m : answers_in (suc row) (line ∷ rows) ≡ flag (is_answer line) + answers_in row rows = in-more row line rows in let z : flag (is_answer line) ≡ 0 = ap flag not_answer in omega (arith, e, m, z);
    below = λ row l is. f.below (suc row) l is;
    before = λ row l is. earlier-before line rows row l (f.before (suc row) l is);
    past = λ row l is. behind-less row l.seq line rows (f.past (suc row) l is);
    each = λ k less. still line not_answer (f.each k less);
    right = λ row k seq answer command is. f.right (suc row) k seq answer command is;
  }
    where
      still : {m : ℕ} (l : CpuLine) → is_answer l ≡ false → HasAnswer (l ∷ rows) m → HasAnswer rows m
      still {m = m} l plain a = still_at l plain a.row a.answer a.there
        where
          still_at : (l : CpuLine) → is_answer l ≡ false → (row : ℕ) (answer : Answer) → slice_get (l ∷ rows) row ≡ Some (lines.Answer m answer) → HasAnswer rows m
          still_at l plain zero answer is = absurd (true≢false (sym (ap is_answer (same_Some _ _ is)) ∙ plain))
          still_at l plain (suc row) answer is = record { row = row; answer = answer; there = is }

  past-answer : (n : ℕ) (c : Command) (cs : List Command) (s : ℕ) (a : Answer) (rest : List CpuLine) → s ≡ n → From n (c ∷ cs) (lines.Answer s a ∷ rest) → From (n + 1) cs rest
  past-answer n c cs s a rest first f = record {
    at = λ row l is. let e : seq_of l ≡ n + answers_in (suc row) (lines.Answer s a ∷ rest) = f.at (suc row) l is in let m : answers_in (suc row) (lines.Answer s a ∷ rest) ≡ 1 + answers_in row rest = in-more row (lines.Answer s a) rest in omega (arith, e, m);
    below = λ row l is. let e : seq_of l < n + length (c ∷ cs) = f.below (suc row) l is in omega (arith, e);
    before = λ row l is. earlier-before (lines.Answer s a) rest row l (f.before (suc row) l is);
    past = λ row l is. behind-less row l.seq (lines.Answer s a) rest (f.past (suc row) l is);
    each = λ k less. later (n + suc k) (n + 1 + k) (omega arith) (omega arith) (f.each (suc k) (omega arith));
    right = λ row k seq answer command is same there. f.right (suc row) (suc k) seq answer command is (omega (arith, same)) there;
  }
    where
      later_at : (m m2 : ℕ) → m ≡ m2 → n < m → (row : ℕ) (answer : Answer) → slice_get (lines.Answer s a ∷ rest) row ≡ Some (lines.Answer m answer) → HasAnswer rest m2
      later_at m m2 same more zero answer is = let e : s ≡ m = ap seq_of (same_Some _ _ is) in absurd (omega (arith, e, first, more))
      later_at m m2 same more (suc row) answer is = record { row = row; answer = answer; there = is ∙ ap (λ (x : ℕ). Some (lines.Answer x answer)) same }

      later : (m m2 : ℕ) → m ≡ m2 → n < m → HasAnswer (lines.Answer s a ∷ rest) m → HasAnswer rest m2
      later m m2 same more h = later_at m m2 same more h.row h.answer h.there

  from-rows : (n : ℕ) (commands : List Command) (rows : List CpuLine) → From n commands rows → AreCaused script report cpu n commands rows
  from-rows n [] [] f = record {}
  from-rows n [] (r ∷ rest) f =
      let below : seq_of r < n + 0 = f.below 0 r refl in let at : seq_of r ≡ n + 0 = f.at 0 r refl in absurd (omega (arith, below, at))
  from-rows n (c ∷ cs) [] f = let h = f.each 0 (omega arith) in absurd (none-some _ h.there)
  from-rows n (c ∷ cs) (lines.Event line ∷ rest) f =
      let at : line.seq ≡ n + 0 = f.at 0 _ refl in (omega (arith, at), from-rows n (c ∷ cs) rest (past-event n (c ∷ cs) _ rest refl f))
  from-rows n (c ∷ cs) (lines.Answer s a ∷ rest) f =
      let at : s ≡ n + 0 = f.at 0 _ refl in
      let first : s ≡ n = omega (arith, at) in
      let r = f.right 0 0 n a c (ap (λ (m : ℕ). Some (lines.Answer m a)) first) (omega arith) refl in
      (first, r.shown, r.heeded, from-rows (n + 1) cs rest (past-answer n c cs s a rest first f))
  from-rows n (c ∷ cs) (lines.Offlined offlined ∷ rest) f =
      let at : offlined.seq ≡ n + 0 = f.at 0 _ refl in
      let first : offlined.seq ≡ n = omega (arith, at) in
      (first, next-past offlined.seq offlined rest (f.past 0 offlined refl) (λ event more is. own event more is), from-rows n (c ∷ cs) rest (past-event n (c ∷ cs) _ rest refl f))
    where
      own : (event : EventLine) (more : List CpuLine) → rest ≡ lines.Event event ∷ more → event.seq ≡ offlined.seq
      own event more is =
          let second : event.seq ≡ n + 0 = f.at 1 (lines.Event event) (ap (λ (l : List CpuLine). slice_get l 0) is) in
          let first_at : offlined.seq ≡ n + 0 = f.at 0 _ refl in
          omega (arith, second, first_at)
  from-rows n (c ∷ cs) (lines.Guest guest ∷ rest) f =
      let at : guest.seq ≡ n + 0 = f.at 0 _ refl in (omega (arith, at), at-answer rest (f.before 0 (lines.Guest guest) refl), from-rows n (c ∷ cs) rest (past-event n (c ∷ cs) _ rest refl f))

  -- told one by one, the lines are told from the first command on
  pub rows-by : (commands : List Command) (rows : List CpuLine) → AreAnswered script report cpu commands rows → AreCaused script report cpu 0 commands rows
  rows-by commands rows h = from-rows 0 commands rows (record {
    at = λ row l is. let e : seq_of l ≡ answers_in row rows = (h.in_place row l is).of_next in omega (arith, e);
    below = λ row l is. let e : seq_of l < length commands = (h.in_place row l is).of_some in omega (arith, e);
    before = λ row l is. (h.in_place row l is).well_before;
    past = h.past;
    each = λ k less. let zero_and : k ≡ 0 + k = omega arith in subst (HasAnswer rows) zero_and (h.each k less);
    right = λ row k seq answer command is same there. h.right row seq answer command is (ap (slice_get commands) (omega (arith, same)) ∙ there);
  })
