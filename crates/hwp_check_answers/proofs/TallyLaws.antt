-- The scan over a processor's lines: the counts before each row, and whether a line of a frame taken out of use is the one that is due.
use Rattle.std.proofs.Common.{◌≡◌, ◌⊎◌, inl, inr, ℕ, zero, suc, ◌+◌, ◌<◌, ◌≤◌, ◌==◌, ◌&&◌, ◌||◌, ◌^◌, Bool, true, false, true≢false, not, nat_lt, List, [], ◌∷◌, Option, Some, None, MatchBool, MatchOption, cond, count_by, drop, get_or, length, replicate, set, slice_get, take, refl, sym, ap, ◌∙◌, subst, arith}
use Rattle.std.proofs.lemmas.Bool.{and_parts, cases_eq, cases_lt, eq-eqb, eqb-true, le-ltb, lt-ltb, ltb-false, ltb-true, ne_eqb}
use Rattle.std.proofs.lemmas.List.{drop_all, get_or-replicate, get_or-set_other, get_or-set_same, get_or_past, length-replicate, length-set, length-take-le, take_all}
use Rattle.std.proofs.lemmas.List.Sums.{count_by-le-length, count_by_more_no, count_by_more_yes, sum_by-cons}
use Rattle.std.proofs.lemmas.Option.{none-some, same_Some, slice_get-get_or}
use Rattle.hwp_check_rules.specs.hwp_geom.declared.Frame.{Frame}
use Rattle.hwp_check_rules.specs.hwp_report_text.declared.CpuLine.{CpuLine}
use Rattle.hwp_check_rules.specs.hwp_report_text.declared.CpuLine.TheVariants as lines
use Rattle.hwp_check_rules.specs.hwp_report_text.declared.OfflinedLine.{OfflinedLine}
use Rattle.hwp_check_rules.specs.hwp_check_event_line.OfCommands.{AreShown}
use Rattle.hwp_check_rules.specs.hwp_check_event_line.Firsts.{first_of}
use Rattle.hwp_check_rules.specs.hwp_check_event_line.declared.Shown.{Shown}
use Rattle.hwp_check_rules.specs.hwp_law.Lines.{events_among, offlined_among, seq_of}
use Rattle.hwp_check_rules.specs.Answered.{is_event, is_offlined, offlined_before}
use Rattle.hwp_check_answers.specs.Judged.{AreSuch, IsFirstOther, IsScanned, IsTold, LacksNone, LacksOne}
use Rattle.hwp_check_answers.specs.Tallied.{AreBefore, AreTallied, counted, due_in, is_due, is_fit, is_frame, is_of, lacks_from}
use Rattle.hwp_check_frames.proofs.DueLaws.{shown-at}
use Rattle.hwp_check_frames.proofs.NoteLoop.{many-shown}

-- a count more
counted-many : (counts : Bool) (seq : ℕ) (list : List ℕ) → length (counted counts seq list) ≡ length list
counted-many true seq list = length-set list seq (get_or list seq 0 + 1)
counted-many false seq list = refl

module _ (is_such : CpuLine → Bool) (rows : List CpuLine) where
  abbrev own : ℕ → CpuLine → Bool
  own seq l = is_such l && (seq_of l == seq)

  before-none : (list : List ℕ) (n : ℕ) → list ≡ replicate n 0 → AreBefore is_such rows 0 list
  before-none list n is seq within =
      ap (λ (l : List ℕ). get_or l seq 0) is
      ∙ (get_or-replicate n seq 0 0 (let m : length list ≡ n = ap length is ∙ length-replicate n 0 in omega (arith, m, within)) ∙ nothing rows)
    where
      nothing : (xs : List CpuLine) → 0 ≡ count_by (own seq) (take 0 xs)
      nothing [] = refl
      nothing (x ∷ xs) = refl

  before-more : (row : ℕ) (list : List ℕ) (d : CpuLine) → row < length rows → AreBefore is_such rows row list → AreBefore is_such rows (row + 1) (counted (is_such (get_or rows row d)) (seq_of (get_or rows row d)) list)
  before-more row list d within so seq inside = by (is_such here) refl
    where
      here : CpuLine
      here = get_or rows row d

      low : seq < length list
      low = subst (λ (n : ℕ). seq < n) (counted-many (is_such here) (seq_of here) list) inside

      by : (b : Bool) → is_such here ≡ b → get_or (counted b (seq_of here) list) seq 0 ≡ count_by (own seq) (take (row + 1) rows)
      by false is = so seq low ∙ sym (count_by_more_no (own seq) rows row d within (ap (λ (b : Bool). b && (seq_of here == seq)) is))
      by true is = elim (cases_eq seq (seq_of here)) [
        | inl same ↦
            ap (λ (n : ℕ). get_or (set list (seq_of here) (get_or list (seq_of here) 0 + 1)) n 0) same
            ∙ (get_or-set_same list (seq_of here) (get_or list (seq_of here) 0 + 1) 0 (subst (λ (n : ℕ). n < length list) same low)
            ∙ (ap (λ (n : ℕ). get_or list n 0 + 1) (sym same)
            ∙ (ap (λ (n : ℕ). n + 1) (so seq low)
            ∙ sym (count_by_more_yes (own seq) rows row d within (ap (λ (b : Bool). b && (seq_of here == seq)) is ∙ eq-eqb (seq_of here) seq (sym same))))))
        | inr other ↦
            get_or-set_other list (seq_of here) seq (get_or list (seq_of here) 0 + 1) 0 other
            ∙ (so seq low
            ∙ sym (count_by_more_no (own seq) rows row d within (ap (λ (b : Bool). b && (seq_of here == seq)) is ∙ ne_eqb (seq_of here) seq (λ at. other (sym at)))))
      ]

  -- there are no more than rows
  before-few : (row : ℕ) (list : List ℕ) → row < length rows → length rows < 2 ^ 64 → AreBefore is_such rows row list → (seq : ℕ) → get_or list seq 0 + 1 < 2 ^ 64
  before-few row list within room so seq = elim (cases_lt seq (length list)) [
    | inl inside ↦
        let is : get_or list seq 0 ≡ count_by (own seq) (take row rows) = so seq inside in
        let few : count_by (own seq) (take row rows) ≤ length (take row rows) = count_by-le-length (own seq) (take row rows) in
        let many : length (take row rows) ≡ row = length-take-le row rows (omega (arith, within)) in
        omega (arith, is, few, many, within, room)
    | inr past ↦ let none : get_or list seq 0 ≡ 0 = get_or_past list seq 0 past in omega (arith, none)
  ]

-- the lines of a command are as many as stand before the end
among-many : (rows : List CpuLine) (seq : ℕ) → offlined_before rows (length rows) seq ≡ length (offlined_among rows seq)
among-many rows seq = ap (count_by (λ (l : CpuLine). is_offlined l && (seq_of l == seq))) (take_all (length rows) rows (omega arith)) ∙ all rows
  where
    flag : Bool → ℕ
    flag b = cond b 1 0

    front : (x : CpuLine) (xs : List CpuLine) → count_by (λ (l : CpuLine). is_offlined l && (seq_of l == seq)) (x ∷ xs) ≡ flag (is_offlined x && (seq_of x == seq)) + count_by (λ (l : CpuLine). is_offlined l && (seq_of l == seq)) xs
    front x xs = sum_by-cons (λ (l : CpuLine). cond (is_offlined l && (seq_of l == seq)) 1 0) x xs

    all : (xs : List CpuLine) → count_by (λ (l : CpuLine). is_offlined l && (seq_of l == seq)) xs ≡ length (offlined_among xs seq)
    all [] = refl
    all (lines.Event event ∷ xs) = let f = front (lines.Event event) xs in let r : count_by (λ (l : CpuLine). is_offlined l && (seq_of l == seq)) xs ≡ length (offlined_among xs seq) = all xs in omega (arith, f, r)
    all (lines.Guest guest ∷ xs) = let f = front (lines.Guest guest) xs in let r : count_by (λ (l : CpuLine). is_offlined l && (seq_of l == seq)) xs ≡ length (offlined_among xs seq) = all xs in omega (arith, f, r)
    all (lines.Answer s answer ∷ xs) = let f = front (lines.Answer s answer) xs in let r : count_by (λ (l : CpuLine). is_offlined l && (seq_of l == seq)) xs ≡ length (offlined_among xs seq) = all xs in omega (arith, f, r)
    all (lines.Offlined line ∷ xs) = by (cases_eq seq line.seq) (all xs)
      where
        by : (seq ≡ line.seq) ⊎ (seq ≡ line.seq → ⊥) → count_by (λ (l : CpuLine). is_offlined l && (seq_of l == seq)) xs ≡ length (offlined_among xs seq)
            → count_by (λ (l : CpuLine). is_offlined l && (seq_of l == seq)) (lines.Offlined line ∷ xs) ≡ length (cond (seq == line.seq) (line ∷ offlined_among xs seq) (offlined_among xs seq))
        by (inl same) r =
            let f = front (lines.Offlined line) xs in
            let one : flag (line.seq == seq) ≡ 1 = ap flag (eq-eqb line.seq seq (sym same)) in
            let more : length (cond (seq == line.seq) (line ∷ offlined_among xs seq) (offlined_among xs seq)) ≡ suc (length (offlined_among xs seq)) =
            ap (λ (b : Bool). length (cond b (line ∷ offlined_among xs seq) (offlined_among xs seq))) (eq-eqb seq line.seq same) in
            omega (arith, f, one, more, r)
        by (inr other) r =
            let f = front (lines.Offlined line) xs in
            let none : flag (line.seq == seq) ≡ 0 = ap flag (ne_eqb line.seq seq (λ at. other (sym at))) in
            let less : length (cond (seq == line.seq) (line ∷ offlined_among xs seq) (offlined_among xs seq)) ≡ length (offlined_among xs seq) =
            ap (λ (b : Bool). length (cond b (line ∷ offlined_among xs seq) (offlined_among xs seq))) (ne_eqb seq line.seq other) in
            omega (arith, f, none, less, r)

frame-is : (due : Option Frame) (frame : Frame) → is_frame due frame ≡ true → due ≡ Some frame
frame-is None frame is = absurd (true≢false (sym is))
frame-is (Some due) frame is = let same : due.0 ≡ frame.0 = eqb-true due.0 frame.0 is in λ i. Some (record { 0 = same i })

is-frame : (due : Option Frame) (frame : Frame) → due ≡ Some frame → is_frame due frame ≡ true
is-frame due frame is = ap (λ (o : Option Frame). is_frame o frame) is ∙ eq-eqb frame.0 frame.0 refl

module _ (dues : List (List Frame)) (events : List (List Shown)) (rows : List CpuLine) (shown : AreShown rows (length dues) events) where
  abbrev Told : ℕ → OfflinedLine → Type 0
  Told row line = IsTold (due_in dues) rows row line

  many-events : (seq : ℕ) → seq < length dues → length (get_or events seq []) ≡ length (events_among rows seq)
  many-events seq within =
      let there : slice_get events seq ≡ Some (get_or events seq []) = slice_get-get_or events seq [] (subst (λ (n : ℕ). seq < n) (sym shown.size) within) in
      sym (many-shown (get_or events seq [])) ∙ ap length (shown-at rows (length dues) seq events (get_or events seq []) shown there)

  module _ (row : ℕ) (passed told : List ℕ) (passed_many : length passed ≡ length dues) (told_many : length told ≡ length dues) (passed_are : AreBefore is_event rows row passed) (told_are : AreBefore is_offlined rows row told) where
    -- the test is right
    due-told : (line : OfflinedLine) → line.seq < length dues → is_due dues events passed told line ≡ true → Told row line
    due-told line within is =
        let both = and_parts (is_frame (slice_get (get_or dues line.seq []) (get_or told line.seq 0)) line.frame) (get_or passed line.seq 0 == length (get_or events line.seq [])) (past-first is) in
        let many : get_or told line.seq 0 ≡ offlined_before rows row line.seq = told_are line.seq (subst (λ (n : ℕ). line.seq < n) (sym told_many) within) in
        record {
          frame = ap (slice_get (due_in dues line.seq)) (sym many) ∙ frame-is (slice_get (get_or dues line.seq []) (get_or told line.seq 0)) line.frame both.0;
          past = sym (passed_are line.seq (subst (λ (n : ℕ). line.seq < n) (sym passed_many) within)) ∙ (eqb-true (get_or passed line.seq 0) (length (get_or events line.seq [])) both.1 ∙ many-events line.seq within);
        }
      where
        past-first : is_due dues events passed told line ≡ true → (is_frame (slice_get (get_or dues line.seq []) (get_or told line.seq 0)) line.frame && (get_or passed line.seq 0 == length (get_or events line.seq []))) ≡ true
        past-first is = sym (ap (λ (b : Bool). not b || (is_frame (slice_get (get_or dues line.seq []) (get_or told line.seq 0)) line.frame && (get_or passed line.seq 0 == length (get_or events line.seq [])))) (lt-ltb line.seq (length dues) within)) ∙ is

    told-due : (line : OfflinedLine) → line.seq < length dues → Told row line → is_due dues events passed told line ≡ true
    told-due line within so =
        let many : get_or told line.seq 0 ≡ offlined_before rows row line.seq = told_are line.seq (subst (λ (n : ℕ). line.seq < n) (sym told_many) within) in
        let frame : is_frame (slice_get (get_or dues line.seq []) (get_or told line.seq 0)) line.frame ≡ true = is-frame (slice_get (get_or dues line.seq []) (get_or told line.seq 0)) line.frame (ap (slice_get (due_in dues line.seq)) many ∙ so.frame) in
        let past : (get_or passed line.seq 0 == length (get_or events line.seq [])) ≡ true =
        eq-eqb (get_or passed line.seq 0) (length (get_or events line.seq [])) (passed_are line.seq (subst (λ (n : ℕ). line.seq < n) (sym passed_many) within) ∙ (so.past ∙ sym (many-events line.seq within))) in
        ap (λ (b : Bool). not b || (is_frame (slice_get (get_or dues line.seq []) (get_or told line.seq 0)) line.frame && (get_or passed line.seq 0 == length (get_or events line.seq [])))) (lt-ltb line.seq (length dues) within)
        ∙ (ap (λ (b : Bool). b && (get_or passed line.seq 0 == length (get_or events line.seq []))) frame ∙ past)

    -- a row more
    wrong-next : (wrong : Option ℕ) (here : CpuLine) → slice_get rows row ≡ Some here → MatchOption wrong (AreSuch Told (length dues) rows row) (IsFirstOther Told (length dues) rows)
        → MatchOption (first_of wrong (is_fit dues events passed told here) row) (AreSuch Told (length dues) rows (row + 1)) (IsFirstOther Told (length dues) rows)
    wrong-next (Some found) here there so = so
    wrong-next None here there so = by (is_fit dues events passed told here) refl
      where
        fits-told : (line : OfflinedLine) → here ≡ lines.Offlined line → line.seq < length dues → is_fit dues events passed told here ≡ true → Told row line
        fits-told line at within fits = due-told line within (sym (ap (is_fit dues events passed told) at) ∙ fits)

        other-row : (shown : CpuLine) → slice_get rows row ≡ Some shown → is_fit dues events passed told shown ≡ false → IsFirstOther Told (length dues) rows row
        other-row (lines.Event event) is fits = absurd (true≢false fits)
        other-row (lines.Guest guest) is fits = absurd (true≢false fits)
        other-row (lines.Answer s answer) is fits = absurd (true≢false fits)
        other-row (lines.Offlined line) is fits = elim (cases_lt line.seq (length dues)) [
          | inl within ↦ record { line = line; there = is; within = within; other = λ so. true≢false (sym (told-due line within so) ∙ fits); before = so }
          | inr past ↦ absurd (true≢false (sym (ap (λ (b : Bool). not b || (is_frame (slice_get (get_or dues line.seq []) (get_or told line.seq 0)) line.frame && (get_or passed line.seq 0 == length (get_or events line.seq [])))) (le-ltb line.seq (length dues) past)) ∙ fits))
        ]

        by : (fits : Bool) → is_fit dues events passed told here ≡ fits → MatchOption (first_of None fits row) (AreSuch Told (length dues) rows (row + 1)) (IsFirstOther Told (length dues) rows)
        by true fits = λ r line less is within. elim (cases_lt r row) [
          | inl low ↦ so r line low is within
          | inr high ↦
              let same : row ≡ r = omega (arith, less, high) in
              let at : here ≡ lines.Offlined line = same_Some _ _ (sym there ∙ (ap (slice_get rows) same ∙ is)) in
              subst (λ (n : ℕ). Told n line) same (fits-told line at within fits)
        ]
        by false fits = other-row here there fits

  pub tallied-none : (passed told : List ℕ) (wrong : Option ℕ) → passed ≡ replicate (length dues) 0 → told ≡ replicate (length dues) 0 → wrong ≡ None → AreTallied dues rows 0 passed told wrong
  tallied-none passed told wrong passed_is told_is none = record {
    passed_many = ap length passed_is ∙ length-replicate (length dues) 0;
    told_many = ap length told_is ∙ length-replicate (length dues) 0;
    passed_are = before-none is_event rows passed (length dues) passed_is;
    told_are = before-none is_offlined rows told (length dues) told_is;
    wrong_is = subst (λ (o : Option ℕ). MatchOption o (AreSuch Told (length dues) rows 0) (IsFirstOther Told (length dues) rows)) (sym none) (λ row line less is within. absurd (omega (arith, less)));
  }

  pub tallied-more : (row : ℕ) (d : CpuLine) (passed told seen_passed seen_told passed_next told_next : List ℕ) (wrong next : Option ℕ) (fits : Bool) → row < length rows → AreTallied dues rows row passed told wrong
      → seen_passed ≡ passed → seen_told ≡ told → fits ≡ is_fit dues events seen_passed seen_told (get_or rows row d) → next ≡ first_of wrong fits row → passed_next ≡ counted (is_event (get_or rows row d)) (seq_of (get_or rows row d)) passed
      → told_next ≡ counted (is_offlined (get_or rows row d)) (seq_of (get_or rows row d)) told → AreTallied dues rows (row + 1) passed_next told_next next
  tallied-more row d passed told seen_passed seen_told passed_next told_next wrong next fits within so seen_p seen_t fits_is found_is passed_is told_is = record {
    passed_many = ap length passed_is ∙ (counted-many (is_event here) (seq_of here) passed ∙ so.passed_many);
    told_many = ap length told_is ∙ (counted-many (is_offlined here) (seq_of here) told ∙ so.told_many);
    passed_are = subst (AreBefore is_event rows (row + 1)) (sym passed_is) (before-more is_event rows row passed d within so.passed_are);
    told_are = subst (AreBefore is_offlined rows (row + 1)) (sym told_is) (before-more is_offlined rows row told d within so.told_are);
    wrong_is = subst (λ (o : Option ℕ). MatchOption o (AreSuch Told (length dues) rows (row + 1)) (IsFirstOther Told (length dues) rows)) (sym next_is)
        (wrong-next row passed told so.passed_many so.told_many so.passed_are so.told_are wrong here (slice_get-get_or rows row d within) so.wrong_is);
  }
    where
      here : CpuLine
      here = get_or rows row d

      next_is : next ≡ first_of wrong (is_fit dues events passed told here) row
      next_is =
          found_is
          ∙ ap (λ (b : Bool). first_of wrong b row)
          (fits_is ∙ (ap (λ (p : List ℕ). is_fit dues events p seen_told here) seen_p ∙ ap (λ (t : List ℕ). is_fit dues events passed t here) seen_t))

  -- whether some lack
  lacks-first : (ds : List (List Frame)) (told : List ℕ) → length told ≡ length ds → lacks_from ds told ≡ true → (seq : ℕ) × (seq < length ds) × (get_or told seq 0 < length (get_or ds seq []))
  lacks-first [] told many is = absurd (true≢false (sym is))
  lacks-first (due ∷ ds) [] many is = absurd (true≢false (sym is))
  lacks-first (due ∷ ds) (n ∷ told) many is =
      by (nat_lt n (length due)) refl (λ rest. lacks-first ds told (let m : suc (length told) ≡ suc (length ds) = many in let e : length told ≡ length ds = omega (arith, m) in e) rest)
    where
      by : (b : Bool) → nat_lt n (length due) ≡ b → (lacks_from ds told ≡ true → (seq : ℕ) × (seq < length ds) × (get_or told seq 0 < length (get_or ds seq []))) → (seq : ℕ) × (seq < length (due ∷ ds)) × (get_or (n ∷ told) seq 0 < length (get_or (due ∷ ds) seq []))
      by true less later = (0, omega arith, ltb-true n (length due) less)
      by false more later =
          let r = later (sym (ap (λ (b : Bool). b || lacks_from ds told) more) ∙ is) in
          (suc r.0, (let w : r.0 < length ds = r.1 in let e : suc r.0 < suc (length ds) = omega (arith, w) in e), r.2)

  lacks-not : (ds : List (List Frame)) (told : List ℕ) → length told ≡ length ds → lacks_from ds told ≡ false → (seq : ℕ) → seq < length ds → length (get_or ds seq []) ≤ get_or told seq 0
  lacks-not [] told many is seq within = absurd (omega (arith, within))
  lacks-not (due ∷ ds) [] many is seq within = absurd (let m : 0 ≡ suc (length ds) = many in omega (arith, m))
  lacks-not (due ∷ ds) (n ∷ told) many is zero within = ltb-false n (length due) (neither (nat_lt n (length due)) (lacks_from ds told) is).0
    where
      neither : (a b : Bool) → a || b ≡ false → (a ≡ false) × (b ≡ false)
      neither true b is = absurd (true≢false is)
      neither false b is = (refl, is)
  lacks-not (due ∷ ds) (n ∷ told) many is (suc seq) within =
      lacks-not ds told (let m : suc (length told) ≡ suc (length ds) = many in let e : length told ≡ length ds = omega (arith, m) in e) (neither (nat_lt n (length due)) (lacks_from ds told) is).1 seq (let w : suc seq < suc (length ds) = within in omega (arith, w))
    where
      neither : (a b : Bool) → a || b ≡ false → (a ≡ false) × (b ≡ false)
      neither true b is = absurd (true≢false is)
      neither false b is = (refl, is)

  pub scanned : (row : ℕ) (passed told : List ℕ) (wrong : Option ℕ) (lacks : Bool) → length rows ≡ row → AreTallied dues rows row passed told wrong → lacks ≡ lacks_from dues told
      → IsScanned (due_in dues) (length dues) rows (record { lacks = lacks; wrong = wrong })
  scanned row passed told wrong lacks all so lacks_is = record {
    lacks = by lacks (sym lacks_is);
    wrong = subst (λ (n : ℕ). MatchOption wrong (AreSuch Told (length dues) rows n) (IsFirstOther Told (length dues) rows)) (sym all) so.wrong_is;
  }
    where
      many-told : (seq : ℕ) → seq < length dues → get_or told seq 0 ≡ length (offlined_among rows seq)
      many-told seq within =
          so.told_are seq (subst (λ (n : ℕ). seq < n) (sym so.told_many) within) ∙ (ap (λ (n : ℕ). offlined_before rows n seq) (sym all) ∙ among-many rows seq)

      by : (b : Bool) → lacks_from dues told ≡ b → MatchBool b (LacksOne (due_in dues) (length dues) rows) (LacksNone (due_in dues) (length dues) rows)
      by true is =
          let r = lacks-first dues told so.told_many is in
          let m : get_or told r.0 0 ≡ length (offlined_among rows r.0) = many-told r.0 r.1 in
          let l : get_or told r.0 0 < length (get_or dues r.0 []) = r.2 in
          record { seq = r.0; within = r.1; lacks = (let e : length (offlined_among rows r.0) < length (get_or dues r.0 []) = omega (arith, m, l) in e) }
      by false is = λ seq within.
          let l : length (get_or dues seq []) ≤ get_or told seq 0 = lacks-not dues told so.told_many is seq within in
          let m : get_or told seq 0 ≡ length (offlined_among rows seq) = many-told seq within in
          omega (arith, l, m)

  pub few : (row : ℕ) (list passed told : List ℕ) (wrong : Option ℕ) → row < length rows → length rows < 2 ^ 64 → AreTallied dues rows row passed told wrong → (seq : ℕ) → get_or passed seq 0 + 1 < 2 ^ 64
  few row list passed told wrong within room so = before-few is_event rows row passed within room so.passed_are

  pub few-told : (row : ℕ) (passed told : List ℕ) (wrong : Option ℕ) → row < length rows → length rows < 2 ^ 64 → AreTallied dues rows row passed told wrong → (seq : ℕ) → get_or told seq 0 + 1 < 2 ^ 64
  few-told row passed told wrong within room so = before-few is_offlined rows row told within room so.told_are

-- the loop that asks whether some lack
pub lacks-here : (ds : List (List Frame)) (told : List ℕ) (n : ℕ) (d : List Frame) (e : ℕ) → n < length ds → n < length told → nat_lt (get_or told n e) (length (get_or ds n d)) ≡ true → lacks_from (drop n ds) (drop n told) ≡ true
lacks-here [] told n d e one other less = absurd (omega (arith, one))
lacks-here (x ∷ ds) [] n d e one other less = absurd (omega (arith, other))
lacks-here (x ∷ ds) (t ∷ told) zero d e one other less = ap (λ (b : Bool). b || lacks_from ds told) less
lacks-here (x ∷ ds) (t ∷ told) (suc n) d e one other less = lacks-here ds told n d e (let l : suc n < suc (length ds) = one in omega (arith, l)) (let l : suc n < suc (length told) = other in omega (arith, l)) less

pub lacks-on : (ds : List (List Frame)) (told : List ℕ) (n : ℕ) (d : List Frame) (e : ℕ) → n < length ds → n < length told → nat_lt (get_or told n e) (length (get_or ds n d)) ≡ false → lacks_from (drop n ds) (drop n told) ≡ lacks_from (drop (n + 1) ds) (drop (n + 1) told)
lacks-on ds told n d e one other more = on ds told n one other more ∙ ap (λ (m : ℕ). lacks_from (drop m ds) (drop m told)) (let s : suc n ≡ n + 1 = omega arith in s)
  where
    on : (ds : List (List Frame)) (told : List ℕ) (n : ℕ) → n < length ds → n < length told → nat_lt (get_or told n e) (length (get_or ds n d)) ≡ false → lacks_from (drop n ds) (drop n told) ≡ lacks_from (drop (suc n) ds) (drop (suc n) told)
    on [] told n one other more = absurd (omega (arith, one))
    on (x ∷ ds) [] n one other more = absurd (omega (arith, other))
    on (x ∷ ds) (t ∷ told) zero one other more = ap (λ (b : Bool). b || lacks_from ds told) more
    on (x ∷ ds) (t ∷ told) (suc n) one other more = on ds told n (let l : suc n < suc (length ds) = one in omega (arith, l)) (let l : suc n < suc (length told) = other in omega (arith, l)) more

pub lacks-end : (ds : List (List Frame)) (told : List ℕ) (n : ℕ) → length ds ≤ n → lacks_from (drop n ds) (drop n told) ≡ false
lacks-end ds told n all = ap (λ (l : List (List Frame)). lacks_from l (drop n told)) (drop_all n ds all)

-- where no frame is due
none-told : (rows : List CpuLine) (row : ℕ) (line : OfflinedLine) → IsTold (due_in []) rows row line → ⊥
none-told rows row line so = none-some line.frame so.frame

pub any-none : (count : ℕ) (rows : List CpuLine) → AreSuch (IsTold (due_in []) rows) count rows 0
any-none count rows row line less is within = absurd (omega (arith, less))

pub any-next : (count : ℕ) (rows : List CpuLine) (n : ℕ) (d : CpuLine) → n < length rows → is_of count (get_or rows n d) ≡ false → AreSuch (IsTold (due_in []) rows) count rows n → AreSuch (IsTold (due_in []) rows) count rows (n + 1)
any-next count rows n d within other so row line less is low = elim (cases_lt row n) [
  | inl before ↦ so row line before is low
  | inr high ↦
      let same : row ≡ n = omega (arith, less, high) in
      let at : get_or rows n d ≡ lines.Offlined line = same_Some _ _ (sym (slice_get-get_or rows n d within) ∙ (ap (slice_get rows) (sym same) ∙ is)) in
      absurd (true≢false (sym (lt-ltb line.seq count low) ∙ (sym (ap (is_of count) at) ∙ other)))
]

pub any-here : (count : ℕ) (rows : List CpuLine) (n : ℕ) (d : CpuLine) → n < length rows → is_of count (get_or rows n d) ≡ true → AreSuch (IsTold (due_in []) rows) count rows n → IsFirstOther (IsTold (due_in []) rows) count rows n
any-here count rows n d within own so = by (get_or rows n d) (slice_get-get_or rows n d within) own
  where
    by : (here : CpuLine) → slice_get rows n ≡ Some here → is_of count here ≡ true → IsFirstOther (IsTold (due_in []) rows) count rows n
    by (lines.Event event) is own = absurd (true≢false (sym own))
    by (lines.Guest guest) is own = absurd (true≢false (sym own))
    by (lines.Answer s answer) is own = absurd (true≢false (sym own))
    by (lines.Offlined line) is own = record { line = line; there = is; within = ltb-true line.seq count own; other = none-told rows n line; before = so }

pub any-all : (count : ℕ) (rows : List CpuLine) (n : ℕ) → length rows ≤ n → AreSuch (IsTold (due_in []) rows) count rows n → AreSuch (IsTold (due_in []) rows) count rows (length rows)
any-all count rows n all so row line less is low = so row line (omega (arith, less, all)) is low
