-- A command's lines of frames taken out of use are such as the law asks exactly where each is right at its place and none lacks.
use Rattle.std.proofs.Common.{◌≡◌, ◌⊎◌, inl, inr, ℕ, zero, suc, ◌+◌, ◌<◌, ◌≤◌, ◌==◌, ◌&&◌, Bool, false, cond, List, [], ◌∷◌, Some, get_or, length, map, slice_get, take, refl, sym, ap, ◌∙◌, subst, arith}
use Rattle.std.proofs.lemmas.Bool.{cases_eq, eq-eqb, ne_eqb}
use Rattle.std.proofs.lemmas.List.Sums.{sum_by-cons}
use Rattle.std.proofs.lemmas.Option.{get_or_from_slice_get, none-some, same_Some, slice_get-get_or, slice_get_within}
use Rattle.hwp_law.specs.hwp_geom.declared.Frame.{Frame}
use Rattle.hwp_law.specs.hwp_geom.declared.Who.{Who}
use Rattle.hwp_law.specs.hwp_script_words.declared.Script.{Script}
use Rattle.hwp_law.specs.hwp_report_text.declared.CpuLine.{CpuLine}
use Rattle.hwp_law.specs.hwp_report_text.declared.CpuLine.TheVariants as lines
use Rattle.hwp_law.specs.hwp_report_text.declared.OfflinedLine.{OfflinedLine}
use Rattle.hwp_law.specs.hwp_report_text.declared.Report.{Report}
use Rattle.hwp_law.specs.Lines.{offlined_among, offlined_of, rows_of, seq_of}
use Rattle.hwp_law.specs.Offlined.{AreOfflined, IsOffline, due_of}
use Rattle.hwp_check_rules.specs.AnswerFaults.{IsDue}
use Rattle.hwp_check_rules.specs.Answered.{is_offlined, offlined_before}

abbrev flag : Bool → ℕ
flag b = cond b 1 0

-- a line more in front
before-more : (row seq : ℕ) (line : CpuLine) (rows : List CpuLine) → offlined_before (line ∷ rows) (suc row) seq ≡ flag (is_offlined line && (seq_of line == seq)) + offlined_before rows row seq
before-more row seq line rows = sum_by-cons (λ (l : CpuLine). cond (is_offlined l && (seq_of l == seq)) 1 0) line (take row rows)

-- a line of another kind in front changes no number
before-other : (row seq : ℕ) (line : CpuLine) (rows : List CpuLine) → is_offlined line ≡ false → offlined_before (line ∷ rows) (suc row) seq ≡ offlined_before rows row seq
before-other row seq line rows plain =
    let more : offlined_before (line ∷ rows) (suc row) seq ≡ flag (is_offlined line && (seq_of line == seq)) + offlined_before rows row seq = before-more row seq line rows in
    let none : flag (is_offlined line && (seq_of line == seq)) ≡ 0 = ap (λ (b : Bool). flag (b && (seq_of line == seq))) plain in
    omega (arith, more, none)

-- each line is the one of its number among the lines of its command
pub place-among : (seq : ℕ) (rows : List CpuLine) (row : ℕ) (line : OfflinedLine) → slice_get rows row ≡ Some (lines.Offlined line) → line.seq ≡ seq → slice_get (offlined_among rows seq) (offlined_before rows row seq) ≡ Some line
place-among seq [] row line is own = absurd (none-some _ is)
place-among seq (lines.Event event ∷ rest) zero line is own = absurd (cc)
place-among seq (lines.Event event ∷ rest) (suc row) line is own = ap (slice_get (offlined_among rest seq)) (before-other row seq (lines.Event event) rest refl) ∙ place-among seq rest row line is own
place-among seq (lines.Guest guest ∷ rest) zero line is own = absurd (cc)
place-among seq (lines.Guest guest ∷ rest) (suc row) line is own = ap (slice_get (offlined_among rest seq)) (before-other row seq (lines.Guest guest) rest refl) ∙ place-among seq rest row line is own
place-among seq (lines.Answer s answer ∷ rest) zero line is own = absurd (cc)
place-among seq (lines.Answer s answer ∷ rest) (suc row) line is own = ap (slice_get (offlined_among rest seq)) (before-other row seq (lines.Answer s answer) rest refl) ∙ place-among seq rest row line is own
place-among seq (lines.Offlined offlined ∷ rest) zero line is own =
    let same : offlined ≡ line = offlined-same (same_Some _ _ is) in
    let here : seq ≡ offlined.seq = sym (ap (λ (l : OfflinedLine). l.seq) same ∙ own) in
    ap (λ (b : Bool). slice_get (cond b (offlined ∷ offlined_among rest seq) (offlined_among rest seq)) 0) (eq-eqb seq offlined.seq here) ∙ ap Some same
  where
    offlined-in : CpuLine → OfflinedLine
    offlined-in (lines.Offlined l) = l
    offlined-in _ = offlined

    offlined-same : lines.Offlined offlined ≡ lines.Offlined line → offlined ≡ line
    offlined-same e = ap offlined-in e
place-among seq (lines.Offlined offlined ∷ rest) (suc row) line is own = by (cases_eq seq offlined.seq) (place-among seq rest row line is own)
  where
    more : offlined_before (lines.Offlined offlined ∷ rest) (suc row) seq ≡ flag (offlined.seq == seq) + offlined_before rest row seq
    more = before-more row seq (lines.Offlined offlined) rest

    by : (seq ≡ offlined.seq) ⊎ (seq ≡ offlined.seq → ⊥) → slice_get (offlined_among rest seq) (offlined_before rest row seq) ≡ Some line
        → slice_get (cond (seq == offlined.seq) (offlined ∷ offlined_among rest seq) (offlined_among rest seq)) (offlined_before (lines.Offlined offlined ∷ rest) (suc row) seq) ≡ Some line
    by (inl same) behind =
        let number : offlined_before (lines.Offlined offlined ∷ rest) (suc row) seq ≡ suc (offlined_before rest row seq) =
        (let one : flag (offlined.seq == seq) ≡ 1 = ap flag (eq-eqb offlined.seq seq (sym same)) in omega (arith, more, one)) in
        ap (λ (b : Bool). slice_get (cond b (offlined ∷ offlined_among rest seq) (offlined_among rest seq)) (offlined_before (lines.Offlined offlined ∷ rest) (suc row) seq)) (eq-eqb seq offlined.seq same)
        ∙ ap (slice_get (offlined ∷ offlined_among rest seq)) number ∙ behind
    by (inr other) behind =
        let number : offlined_before (lines.Offlined offlined ∷ rest) (suc row) seq ≡ offlined_before rest row seq =
        (let none : flag (offlined.seq == seq) ≡ 0 = ap flag (ne_eqb offlined.seq seq (λ is. other (sym is))) in omega (arith, more, none)) in
        ap (λ (b : Bool). slice_get (cond b (offlined ∷ offlined_among rest seq) (offlined_among rest seq)) (offlined_before (lines.Offlined offlined ∷ rest) (suc row) seq)) (ne_eqb seq offlined.seq other)
        ∙ ap (slice_get (offlined_among rest seq)) number ∙ behind

-- and each of these stands in some row
pub record HasRow (rows : List CpuLine) (seq number : ℕ) (line : OfflinedLine) : Type 0 where
  pub row : ℕ
  pub there : slice_get rows row ≡ Some (lines.Offlined line)
  pub own : line.seq ≡ seq
  pub number_is : offlined_before rows row seq ≡ number

behind-other : {rows : List CpuLine} {seq number : ℕ} {line : OfflinedLine} (first : CpuLine) → is_offlined first ≡ false → HasRow rows seq number line → HasRow (first ∷ rows) seq number line
behind-other {rows = rows} {seq = seq} first plain r = record { row = suc r.row; there = r.there; own = r.own; number_is = before-other r.row seq first rows plain ∙ r.number_is }

pub row-among : (seq : ℕ) (rows : List CpuLine) (number : ℕ) (line : OfflinedLine) → slice_get (offlined_among rows seq) number ≡ Some line → HasRow rows seq number line
row-among seq [] number line is = absurd (none-some _ is)
row-among seq (lines.Event event ∷ rest) number line is = behind-other (lines.Event event) refl (row-among seq rest number line is)
row-among seq (lines.Guest guest ∷ rest) number line is = behind-other (lines.Guest guest) refl (row-among seq rest number line is)
row-among seq (lines.Answer s answer ∷ rest) number line is = behind-other (lines.Answer s answer) refl (row-among seq rest number line is)
row-among seq (lines.Offlined offlined ∷ rest) number line is = by (cases_eq seq offlined.seq) (row-among seq rest)
  where
    by : (seq ≡ offlined.seq) ⊎ (seq ≡ offlined.seq → ⊥) → ((n : ℕ) (l : OfflinedLine) → slice_get (offlined_among rest seq) n ≡ Some l → HasRow rest seq n l) → HasRow (lines.Offlined offlined ∷ rest) seq number line
    by (inl same) later = here number (ap (λ (b : Bool). slice_get (cond b (offlined ∷ offlined_among rest seq) (offlined_among rest seq)) number) (sym (eq-eqb seq offlined.seq same)) ∙ is)
      where
        here : (n : ℕ) → slice_get (offlined ∷ offlined_among rest seq) n ≡ Some line → HasRow (lines.Offlined offlined ∷ rest) seq n line
        here zero at = subst (λ (l : OfflinedLine). HasRow (lines.Offlined offlined ∷ rest) seq 0 l) (same_Some _ _ at) (record { row = 0; there = refl; own = sym same; number_is = refl })
        here (suc n) at =
            let r = later n line at in
            record {
              row = suc r.row;
              there = r.there;
              own = r.own;
              number_is =
                  (let more : offlined_before (lines.Offlined offlined ∷ rest) (suc r.row) seq ≡ flag (offlined.seq == seq) + offlined_before rest r.row seq = before-more r.row seq (lines.Offlined offlined) rest in
                  let one : flag (offlined.seq == seq) ≡ 1 = ap flag (eq-eqb offlined.seq seq (sym same)) in
                  let was : offlined_before rest r.row seq ≡ n = r.number_is in
                  omega (arith, more, one, was));
            }
    by (inr other) later =
        let r = later number line (ap (λ (b : Bool). slice_get (cond b (offlined ∷ offlined_among rest seq) (offlined_among rest seq)) number) (sym (ne_eqb seq offlined.seq other)) ∙ is) in
        record {
          row = suc r.row;
          there = r.there;
          own = r.own;
          number_is =
              (let more : offlined_before (lines.Offlined offlined ∷ rest) (suc r.row) seq ≡ flag (offlined.seq == seq) + offlined_before rest r.row seq = before-more r.row seq (lines.Offlined offlined) rest in
              let none : flag (offlined.seq == seq) ≡ 0 = ap flag (ne_eqb offlined.seq seq (λ at. other (sym at))) in
              let was : offlined_before rest r.row seq ≡ number = r.number_is in
              omega (arith, more, none, was));
        }

-- a list that is no shorter than another, and whose members are mapped to the other's at the same places
mapped-same : {X Y : Type 0} (f : X → Y) (xs : List X) (ys : List Y) → length ys ≤ length xs → ((i : ℕ) (x : X) → slice_get xs i ≡ Some x → slice_get ys i ≡ Some (f x)) → map f xs ≡ ys
mapped-same f [] [] many each = refl
mapped-same f [] (y ∷ ys) many each = absurd (let m : suc (length ys) ≤ 0 = many in omega (arith, m))
mapped-same f (x ∷ xs) [] many each = absurd (none-some _ (each 0 x refl))
mapped-same {Y = Y} f (x ∷ xs) (y ∷ ys) many each =
    let first : y ≡ f x = same_Some _ _ (each 0 x refl) in
    let rest : map f xs ≡ ys = mapped-same f xs ys (let m : suc (length ys) ≤ suc (length xs) = many in omega (arith, m)) (λ i z is. each (suc i) z is) in
    ap (λ (z : Y). z ∷ map f xs) (sym first) ∙ ap (λ (l : List Y). y ∷ l) rest

at-mapped : {X Y : Type 0} (f : X → Y) (xs : List X) (i : ℕ) (x : X) → slice_get xs i ≡ Some x → slice_get (map f xs) i ≡ Some (f x)
at-mapped f [] i x is = absurd (none-some _ is)
at-mapped {X = X} f (y ∷ xs) zero x is = ap (λ (z : X). Some (f z)) (same_Some _ _ is)
at-mapped f (y ∷ xs) (suc i) x is = at-mapped f xs i x is

many-mapped : {X Y : Type 0} (f : X → Y) (xs : List X) → length (map f xs) ≡ length xs
many-mapped f [] = refl
many-mapped f (x ∷ xs) = ap suc (many-mapped f xs)

module _ (script : Script) (report : Report) (who : Who) where
  abbrev rows : List CpuLine
  rows = rows_of report who

  abbrev own : List OfflinedLine
  own = offlined_of report who

  -- each line of the command is right, and none lacks: then they are as the law asks
  pub lines-offlined : length (due_of script report who) ≤ length (offlined_of report who)
      → ((row : ℕ) (line : OfflinedLine) → slice_get (rows_of report who) row ≡ Some (lines.Offlined line) → line.seq ≡ who.seq → IsDue script report (rows_of report who) row who line × IsOffline script report who line.frame line.result)
      → AreOfflined script report who
  lines-offlined enough each = record {
    frames = mapped-same (λ (l : OfflinedLine). l.frame) own (due_of script report who) enough frame-at;
    caused = λ k d within.
        let there : slice_get own k ≡ Some (get_or own k d) = slice_get-get_or own k d within in
        let r = row-among who.seq rows k (get_or own k d) there in
        (each r.row (get_or own k d) r.there r.own).1;
  }
    where
      frame-at : (i : ℕ) (line : OfflinedLine) → slice_get own i ≡ Some line → slice_get (due_of script report who) i ≡ Some line.frame
      frame-at i line is =
          let r = row-among who.seq rows i line is in
          ap (slice_get (due_of script report who)) (sym r.number_is) ∙ (each r.row line r.there r.own).0.frame

  -- where they are as the law asks, none lacks, and each has its frame and its cause
  pub none-lacks : AreOfflined script report who → length (offlined_of report who) < length (due_of script report who) → ⊥
  none-lacks fit lacks =
      let same : length (map (λ (l : OfflinedLine). l.frame) own) ≡ length (due_of script report who) = ap length fit.frames in
      let many : length (map (λ (l : OfflinedLine). l.frame) own) ≡ length own = many-mapped (λ (l : OfflinedLine). l.frame) own in
      omega (arith, same, many, lacks)

  pub frame-due : AreOfflined script report who → (row : ℕ) (line : OfflinedLine) → slice_get (rows_of report who) row ≡ Some (lines.Offlined line) → line.seq ≡ who.seq
      → slice_get (due_of script report who) (offlined_before (rows_of report who) row who.seq) ≡ Some line.frame
  frame-due fit row line is of =
      ap (λ (l : List Frame). slice_get l (offlined_before rows row who.seq)) (sym fit.frames)
      ∙ at-mapped (λ (l : OfflinedLine). l.frame) own (offlined_before rows row who.seq) line (place-among who.seq rows row line is of)

  pub line-caused : AreOfflined script report who → (row : ℕ) (line : OfflinedLine) → slice_get (rows_of report who) row ≡ Some (lines.Offlined line) → line.seq ≡ who.seq → IsOffline script report who line.frame line.result
  line-caused fit row line is of =
      let there : slice_get own (offlined_before rows row who.seq) ≡ Some line = place-among who.seq rows row line is of in
      let here : get_or own (offlined_before rows row who.seq) line ≡ line = get_or_from_slice_get own (offlined_before rows row who.seq) line line there in
      subst (λ (l : OfflinedLine). IsOffline script report who l.frame l.result) here (fit.caused (offlined_before rows row who.seq) line (slice_get_within own (offlined_before rows row who.seq) line there))
