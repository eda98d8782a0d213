-- The machine checks of an access: what the law says of them, line by line.
use Rattle.std.proofs.Common.{◌≡◌, ℕ, zero, suc, ◌+◌, ◌-◌, ◌<◌, ◌==◌, ◌&&◌, ◌||◌, Bool, true, false, cond, List, [], ◌∷◌, ◌++◌, Option, Some, None, MatchBool, is_some, length, slice_get, refl, sym, ap, ◌∙◌, subst, arith, get_or}
use Rattle.std.proofs.lemmas.Bool.{MatchBool-at_false, MatchBool-at_true, and_from, and_left, and_right, cond-false, cond-true, eq-eqb, ne_eqb}
use Rattle.std.proofs.lemmas.Option.{none-some, same_Some, slice_get_within}
use Rattle.hwp_banks.specs.hwp_geom.declared.Frame.{Frame}
use Rattle.hwp_banks.specs.hwp_geom.declared.Who.{Who}
use Rattle.hwp_banks.specs.Events.{bank_of}
use Rattle.hwp_banks.specs.declared.Event.{Event}
use Rattle.hwp_banks.specs.declared.Origin.{Origin}
use Rattle.hwp_banks.specs.declared.Origin.TheVariants as origins
use Rattle.hwp_law.specs.hwp_script_words.declared.Script.{Script}
use Rattle.hwp_law.specs.hwp_report_text.declared.Report.{Report}
use Rattle.hwp_law.specs.Checks.{AreLinesOf, IsCheck, IsLineOf}
use Rattle.hwp_law.specs.hwp_report_text.Acts.{is_panic}
use Rattle.hwp_banks.specs.Banks.{Banks, held_from}
use Rattle.hwp_law.specs.hwp_severity.declared.Arrival.{Arrival}
use Rattle.hwp_law.specs.Events.{AreAccessChecks, IsDamaged}
use Rattle.hwp_law.specs.hwp_report_text.declared.EventLine.{EventLine}
use Rattle.hwp_check_event_line.specs.Accesses.{Access, IsAccessLine, IsOwnLine, asked_by_access, asked_first, begins_in_panic, access_of}
use Rattle.hwp_check_event_line.specs.Found.{IsRawLine, beside, has_stopper, of_access, own_found, resting}
use Rattle.hwp_check_event_line.specs.Firsts.{AreRight}
use Rattle.hwp_check_event_line.proofs.FoundLaws.{banks_at, found-is, held_raw, one-line, stop-is, two-lines}

beside-none : (origin : Origin) → beside origin None ≡ None
beside-none origins.Access = refl
beside-none origins.Fetch = refl
beside-none origins.BadLine = refl
beside-none origins.WeakLine = refl

module _ (script : Script) (report : Report) (who : Who) (how : Arrival) (origin : Origin) (access : of_access origin ≡ true) where
  abbrev Own : ℕ → Option Event → EventLine → Type 0
  Own at raw line = IsOwnLine script report who how origin at raw line

  -- the lines of the first machine check, by what it finds beside its own event
  abbrev Firsts : ℕ → Option Event → Option Event → List EventLine → Type 0
  Firsts at raw None lines = (l : EventLine) × (lines ≡ l ∷ []) × Own at raw l
  Firsts at raw (Some event) lines = (l m : EventLine) × (lines ≡ l ∷ m ∷ []) × Own at raw l × IsLineOf script report who how (has_stopper how origin raw || is_panic l.acted) 1 event m

  check-forth : (at : ℕ) (raw : Option Event) (frame : Frame) (now : List EventLine) → IsDamaged report origin frame.0 at → IsCheck script report who how (banks_at origin raw frame at) now → Firsts at raw (beside origin raw) now
  check-forth at raw frame now damaged check = by (beside origin raw) whole
    where
      whole : AreLinesOf script report who how (has_stopper how origin raw) ((bank_of origin, own_found origin raw frame at) ∷ held_raw (beside origin raw)) now
      whole = subst (λ (h : List (ℕ × Event)). AreLinesOf script report who how (has_stopper how origin raw) h now) (found-is origin access raw frame at)
          (subst (λ (s : Bool). AreLinesOf script report who how s (held_from 0 (banks_at origin raw frame at)) now) (stop-is how origin access raw frame at) check)

      by : (o : Option Event) → AreLinesOf script report who how (has_stopper how origin raw) ((bank_of origin, own_found origin raw frame at) ∷ held_raw o) now → Firsts at raw o now
      by None are = let one = one-line script report who how (has_stopper how origin raw) (bank_of origin) (own_found origin raw frame at) now are in (one.0, one.1, record { frame = frame; damaged = damaged; is = one.2 })
      by (Some event) are =
          let two = two-lines script report who how (has_stopper how origin raw) (bank_of origin) (own_found origin raw frame at) now 1 event are in
          (two.0, two.1, two.2, record { frame = frame; damaged = damaged; is = two.3 }, two.4)

  check-back : (at : ℕ) (raw : Option Event) (now : List EventLine) → Firsts at raw (beside origin raw) now → (frame : Frame) × IsDamaged report origin frame.0 at × IsCheck script report who how (banks_at origin raw frame at) now
  check-back at raw now firsts = by (beside origin raw) refl firsts
    where
      back : (frame : Frame) → AreLinesOf script report who how (has_stopper how origin raw) ((bank_of origin, own_found origin raw frame at) ∷ held_raw (beside origin raw)) now → IsCheck script report who how (banks_at origin raw frame at) now
      back frame whole = subst (λ (s : Bool). AreLinesOf script report who how s (held_from 0 (banks_at origin raw frame at)) now) (sym (stop-is how origin access raw frame at))
          (subst (λ (h : List (ℕ × Event)). AreLinesOf script report who how (has_stopper how origin raw) h now) (sym (found-is origin access raw frame at)) whole)

      by : (o : Option Event) → beside origin raw ≡ o → Firsts at raw o now → (frame : Frame) × IsDamaged report origin frame.0 at × IsCheck script report who how (banks_at origin raw frame at) now
      by None is (l, now_is, own) = (
        own.frame,
        own.damaged,
        back own.frame
            (subst (λ (o : Option Event). AreLinesOf script report who how (has_stopper how origin raw) ((bank_of origin, own_found origin raw own.frame at) ∷ held_raw o) now) (sym is)
            (subst (λ (ls : List EventLine). AreLinesOf script report who how (has_stopper how origin raw) ((bank_of origin, own_found origin raw own.frame at) ∷ []) ls) (sym now_is) (own.is, record {}))),
      )
      by (Some event) is (l, m, now_is, own, other) = (
        own.frame,
        own.damaged,
        back own.frame
            (subst (λ (o : Option Event). AreLinesOf script report who how (has_stopper how origin raw) ((bank_of origin, own_found origin raw own.frame at) ∷ held_raw o) now) (sym is)
            (subst (λ (ls : List EventLine). AreLinesOf script report who how (has_stopper how origin raw) ((bank_of origin, own_found origin raw own.frame at) ∷ (1, event) ∷ []) ls) (sym now_is) (own.is, (other, record {})))),
      )

  -- the later machine checks, each at its line
  abbrev OwnAll : List ℕ → List EventLine → Type 0
  OwnAll ats lines = (n : ℕ) (l : EventLine) → slice_get lines n ≡ Some l → Own (get_or ats n 0) None l

  alone : (at : ℕ) (now : List EventLine) → Firsts at None (beside origin None) now → (l : EventLine) × (now ≡ l ∷ []) × Own at None l
  alone at now firsts = subst (λ (o : Option Event). Firsts at None o now) (beside-none origin) firsts

  rest-forth : (ats : List ℕ) (lines : List EventLine) (after : Banks) → AreAccessChecks script report who how origin ats (resting None) lines after → (length lines ≡ length ats) × OwnAll ats lines × (after ≡ resting None)
  rest-forth [] lines after are = (ap length are.0, λ n l there. absurd (none-some l (sym (ap (λ (ls : List EventLine). slice_get ls n) are.0) ∙ there)), are.1)
  rest-forth (at ∷ more) lines after (frame, now, later, lines_are, damaged, check, rest) =
      let first = alone at now (check-forth at None frame now damaged check) in
      let others = rest-forth more later after rest in
      let whole : lines ≡ first.0 ∷ later = lines_are ∙ ap (λ (ls : List EventLine). ls ++ later) first.1 in
      (ap length whole ∙ ap suc others.0, subst (OwnAll (at ∷ more)) (sym whole) (own-more first.0 later first.2 others.1), others.2)
    where
      own-more : (l : EventLine) (ls : List EventLine) → Own at None l → OwnAll more ls → OwnAll (at ∷ more) (l ∷ ls)
      own-more l ls own all zero x there = subst (Own at None) (same_Some _ _ there) own
      own-more l ls own all (suc n) x there = all n x there

  rest-back : (ats : List ℕ) (lines : List EventLine) → length lines ≡ length ats → OwnAll ats lines → AreAccessChecks script report who how origin ats (resting None) lines (resting None)
  rest-back [] [] size all = (refl, refl)
  rest-back [] (l ∷ ls) size all = absurd (let s : suc (length ls) ≡ 0 = size in omega (arith, s))
  rest-back (at ∷ more) [] size all = absurd (let s : 0 ≡ suc (length more) = size in omega (arith, s))
  rest-back (at ∷ more) (l ∷ ls) size all =
      let check = check-back at None (l ∷ []) (subst (λ (o : Option Event). Firsts at None o (l ∷ [])) (sym (beside-none origin)) (l, refl, all 0 l refl)) in
      (check.0, l ∷ [], ls, refl, check.1, check.2, rest-back more ls (let s : suc (length ls) ≡ suc (length more) = size in omega (arith, s)) (λ n x there. all (suc n) x there))

  -- a line by its number
  module _ (ats : List ℕ) (raw : Option Event) where
    abbrev acc : Access
    acc = access_of origin ats raw

    abbrev checks : ℕ
    checks = length ats

    -- the line of the machine check that a later line tells
    abbrev later_at : ℕ → ℕ
    later_at number = get_or ats (number + 1 - asked_first origin raw) 0

    abbrev first_at : ℕ
    first_at = get_or ats 0 0

    abbrev Right : List EventLine → ℕ → EventLine → Type 0
    Right lines number line = IsAccessLine script report who how acc lines number line

    abbrev Second : List EventLine → EventLine → Type 0
    Second lines line = IsRawLine script report who how (has_stopper how origin raw || begins_in_panic lines) (beside origin raw) line

    pub is-first : (lines : List EventLine) (number : ℕ) (line : EventLine) → number ≡ 0 → number < asked_by_access acc → Own first_at raw line → Right lines number line
    is-first lines number line is within own = (within, subst (λ (b : Bool). MatchBool b (Own first_at raw line) (MatchBool ((number == 1) && is_some (beside origin raw)) (Second lines line) (Own (later_at number) None line))) (sym (eq-eqb number 0 is)) own)

    pub is-second : (lines : List EventLine) (number : ℕ) (line : EventLine) → number ≡ 1 → is_some (beside origin raw) ≡ true → number < asked_by_access acc → Second lines line → Right lines number line
    is-second lines number line is some within second = (
      within,
      subst (λ (b : Bool). MatchBool b (Own first_at raw line) (MatchBool ((number == 1) && is_some (beside origin raw)) (Second lines line) (Own (later_at number) None line))) (sym (ne_eqb number 0 (λ z. omega (arith, is, z))))
          (subst (λ (b : Bool). MatchBool b (Second lines line) (Own (later_at number) None line)) (sym (and_from (number == 1) (is_some (beside origin raw)) (eq-eqb number 1 is) some)) second),
    )

    pub is-later : (lines : List EventLine) (number : ℕ) (line : EventLine) → 0 < number → ((number == 1) && is_some (beside origin raw)) ≡ false → number < asked_by_access acc → Own (later_at number) None line → Right lines number line
    is-later lines number line more not_second within own = (
      within,
      subst (λ (b : Bool). MatchBool b (Own first_at raw line) (MatchBool ((number == 1) && is_some (beside origin raw)) (Second lines line) (Own (later_at number) None line))) (sym (ne_eqb number 0 (λ z. omega (arith, more, z))))
          (subst (λ (b : Bool). MatchBool b (Second lines line) (Own (later_at number) None line)) (sym not_second) own),
    )

    pub of-first : (lines : List EventLine) (number : ℕ) (line : EventLine) → number ≡ 0 → Right lines number line → Own first_at raw line
    of-first lines number line is right = MatchBool-at_true _ _ (eq-eqb number 0 is) right.1

    pub of-second : (lines : List EventLine) (number : ℕ) (line : EventLine) → number ≡ 1 → is_some (beside origin raw) ≡ true → Right lines number line → Second lines line
    of-second lines number line is some right = MatchBool-at_true _ _ (and_from (number == 1) (is_some (beside origin raw)) (eq-eqb number 1 is) some) (MatchBool-at_false _ _ (ne_eqb number 0 (λ z. omega (arith, is, z))) right.1)

    pub of-later : (lines : List EventLine) (number : ℕ) (line : EventLine) → 0 < number → ((number == 1) && is_some (beside origin raw)) ≡ false → Right lines number line → Own (later_at number) None line
    of-later lines number line more not_second right = MatchBool-at_false _ _ not_second (MatchBool-at_false _ _ (ne_eqb number 0 (λ z. omega (arith, more, z))) right.1)

    abbrev Checked : List ℕ → List EventLine → Banks → Type 0
    Checked found lines after = AreAccessChecks script report who how origin found (resting raw) lines after

    abbrev left : Option Event
    left = cond (checks == 0) raw None

    left-zero : checks ≡ 0 → left ≡ raw
    left-zero is = cond-true (checks == 0) raw None (eq-eqb checks 0 is)

    left-some : (more : ℕ) → checks ≡ suc more → left ≡ None
    left-some more is = cond-false (checks == 0) raw None (ne_eqb checks 0 (λ z. omega (arith, is, z)))

    asked-zero : checks ≡ 0 → asked_by_access acc ≡ 0
    asked-zero is = cond-true (checks == 0) 0 (checks - 1 + asked_first origin raw) (eq-eqb checks 0 is)

    asked-some : (more n : ℕ) → checks ≡ suc more → asked_first origin raw ≡ n → asked_by_access acc ≡ more + n
    asked-some more n is first =
        let e : asked_by_access acc ≡ checks - 1 + asked_first origin raw = cond-false (checks == 0) 0 (checks - 1 + asked_first origin raw) (ne_eqb checks 0 (λ z. omega (arith, is, z))) in
        omega (arith, e, is, first)

    first-one : beside origin raw ≡ None → asked_first origin raw ≡ 1
    first-one is = ap (λ (o : Option Event). cond (is_some o) 2 1) is

    first-two : (event : Event) → beside origin raw ≡ Some event → asked_first origin raw ≡ 2
    first-two event is = ap (λ (o : Option Event). cond (is_some o) 2 1) is

    -- all lines, where the first machine check finds nothing beside its own event, and where it does
    all-one : (l : EventLine) (later : List EventLine) (at : ℕ) (rest : List ℕ) → ats ≡ at ∷ rest → length later ≡ length rest → beside origin raw ≡ None → Own at raw l → OwnAll rest later → AreRight (Right (l ∷ later)) (l ∷ later)
    all-one l later at rest is size none own all = at-number
      where
        asked : asked_by_access acc ≡ length rest + 1
        asked = asked-some (length rest) 1 (ap length is) (first-one none)

        first : at ≡ first_at
        first = sym (ap (λ (l : List ℕ). get_or l 0 0) is)

        behind : (n : ℕ) → get_or rest n 0 ≡ later_at (suc n)
        behind n =
            let one : asked_first origin raw ≡ 1 = first-one none in
            let same : suc n ≡ suc n + 1 - asked_first origin raw = omega (arith, one) in
            sym (ap (λ (l : List ℕ). get_or l (suc n) 0) is) ∙ ap (λ (k : ℕ). get_or ats k 0) same

        at-number : AreRight (Right (l ∷ later)) (l ∷ later)
        at-number zero x there = is-first (l ∷ later) 0 x refl (let a : asked_by_access acc ≡ length rest + 1 = asked in omega (arith, a)) (subst (λ (k : ℕ). Own k raw x) first (subst (Own at raw) (same_Some _ _ there) own))
        at-number (suc n) x there =
            is-later (l ∷ later) (suc n) x (omega arith) (and_right (suc n == 1) (is_some (beside origin raw)) (ap is_some none))
            (let a : asked_by_access acc ≡ length rest + 1 = asked in let w : n < length later = slice_get_within later n x there in omega (arith, a, w, size)) (subst (λ (k : ℕ). Own k None x) (behind n) (all n x there))

    all-two : (l m : EventLine) (later : List EventLine) (at : ℕ) (rest : List ℕ) (event : Event) → ats ≡ at ∷ rest → length later ≡ length rest → beside origin raw ≡ Some event → Own at raw l
        → IsLineOf script report who how (has_stopper how origin raw || is_panic l.acted) 1 event m → OwnAll rest later → AreRight (Right (l ∷ m ∷ later)) (l ∷ m ∷ later)
    all-two l m later at rest event is size some own other all = at-number
      where
        asked : asked_by_access acc ≡ length rest + 2
        asked = asked-some (length rest) 2 (ap length is) (first-two event some)

        first : at ≡ first_at
        first = sym (ap (λ (l : List ℕ). get_or l 0 0) is)

        behind : (n : ℕ) → get_or rest n 0 ≡ later_at (suc (suc n))
        behind n =
            let two : asked_first origin raw ≡ 2 = first-two event some in
            let same : suc n ≡ suc (suc n) + 1 - asked_first origin raw = omega (arith, two) in
            sym (ap (λ (l : List ℕ). get_or l (suc n) 0) is) ∙ ap (λ (k : ℕ). get_or ats k 0) same

        at-number : AreRight (Right (l ∷ m ∷ later)) (l ∷ m ∷ later)
        at-number zero x there = is-first (l ∷ m ∷ later) 0 x refl (let a : asked_by_access acc ≡ length rest + 2 = asked in omega (arith, a)) (subst (λ (k : ℕ). Own k raw x) first (subst (Own at raw) (same_Some _ _ there) own))
        at-number (suc zero) x there =
            is-second (l ∷ m ∷ later) 1 x refl (ap is_some some) (let a : asked_by_access acc ≡ length rest + 2 = asked in omega (arith, a))
            (subst (λ (o : Option Event). IsRawLine script report who how (has_stopper how origin raw || is_panic l.acted) o x) (sym some)
            (subst (λ (y : EventLine). IsLineOf script report who how (has_stopper how origin raw || is_panic l.acted) 1 event y) (same_Some _ _ there) other))
        at-number (suc (suc n)) x there =
            is-later (l ∷ m ∷ later) (suc (suc n)) x (omega arith) (and_left (suc (suc n) == 1) (is_some (beside origin raw)) (ne_eqb (suc (suc n)) 1 (λ z. omega (arith, z))))
            (let a : asked_by_access acc ≡ length rest + 2 = asked in let w : n < length later = slice_get_within later n x there in omega (arith, a, w, size)) (subst (λ (k : ℕ). Own k None x) (behind n) (all n x there))

    pub access-forth : (lines : List EventLine) (after : Banks) → Checked ats lines after → (length lines ≡ asked_by_access acc) × AreRight (Right lines) lines × (after ≡ resting left)
    access-forth lines after are = by ats refl are
      where
        by : (found : List ℕ) → ats ≡ found → Checked found lines after → (length lines ≡ asked_by_access acc) × AreRight (Right lines) lines × (after ≡ resting left)
        by [] is none = (ap length none.0 ∙ sym (asked-zero (ap length is)), λ n l there. absurd (none-some l (sym (ap (λ (ls : List EventLine). slice_get ls n) none.0) ∙ there)), none.1 ∙ ap resting (sym (left-zero (ap length is))))
        by (at ∷ rest) is (frame, now, later, lines_are, damaged, check, more) = which (beside origin raw) refl (check-forth at raw frame now damaged check)
          where
            others : (length later ≡ length rest) × OwnAll rest later × (after ≡ resting None)
            others = rest-forth rest later after more

            which : (o : Option Event) → beside origin raw ≡ o → Firsts at raw o now → (length lines ≡ asked_by_access acc) × AreRight (Right lines) lines × (after ≡ resting left)
            which None none (l, now_is, own) =
                let whole : lines ≡ l ∷ later = lines_are ∙ ap (λ (ls : List EventLine). ls ++ later) now_is in
                let size : length lines ≡ suc (length later) = ap length whole in
                let asked : asked_by_access acc ≡ length rest + 1 = asked-some (length rest) 1 (ap length is) (first-one none) in
                let count : length later ≡ length rest = others.0 in
                (omega (arith, size, asked, count), subst (λ (ls : List EventLine). AreRight (Right ls) ls) (sym whole) (all-one l later at rest is others.0 none own others.1), others.2 ∙ ap resting (sym (left-some (length rest) (ap length is))))
            which (Some event) some (l, m, now_is, own, other) =
                let whole : lines ≡ l ∷ m ∷ later = lines_are ∙ ap (λ (ls : List EventLine). ls ++ later) now_is in
                let size : length lines ≡ suc (suc (length later)) = ap length whole in
                let asked : asked_by_access acc ≡ length rest + 2 = asked-some (length rest) 2 (ap length is) (first-two event some) in
                let count : length later ≡ length rest = others.0 in
                (omega (arith, size, asked, count), subst (λ (ls : List EventLine). AreRight (Right ls) ls) (sym whole) (all-two l m later at rest event is others.0 some own other others.1), others.2 ∙ ap resting (sym (left-some (length rest) (ap length is))))

    pub access-back : (lines : List EventLine) → length lines ≡ asked_by_access acc → AreRight (Right lines) lines → Checked ats lines (resting left)
    access-back lines size right = by ats refl
      where
        empty : (ls : List EventLine) → length ls ≡ 0 → ls ≡ []
        empty [] none = refl
        empty (l ∷ ls) none = absurd (omega (arith, none))

        first : (at : ℕ) (rest : List ℕ) → ats ≡ at ∷ rest → first_at ≡ at
        first at rest is = ap (λ (l : List ℕ). get_or l 0 0) is

        behind-one : (at : ℕ) (rest : List ℕ) (n : ℕ) → ats ≡ at ∷ rest → beside origin raw ≡ None → later_at (suc n) ≡ get_or rest n 0
        behind-one at rest n is none =
            let one : asked_first origin raw ≡ 1 = first-one none in
            let same : suc n ≡ suc n + 1 - asked_first origin raw = omega (arith, one) in
            sym (ap (λ (k : ℕ). get_or ats k 0) same) ∙ ap (λ (l : List ℕ). get_or l (suc n) 0) is

        behind-two : (at : ℕ) (rest : List ℕ) (n : ℕ) (event : Event) → ats ≡ at ∷ rest → beside origin raw ≡ Some event → later_at (suc (suc n)) ≡ get_or rest n 0
        behind-two at rest n event is some =
            let two : asked_first origin raw ≡ 2 = first-two event some in
            let same : suc n ≡ suc (suc n) + 1 - asked_first origin raw = omega (arith, two) in
            sym (ap (λ (k : ℕ). get_or ats k 0) same) ∙ ap (λ (l : List ℕ). get_or l (suc n) 0) is

        one : (at : ℕ) (rest : List ℕ) (ls : List EventLine) → ats ≡ at ∷ rest → beside origin raw ≡ None → length ls ≡ length rest + 1 → AreRight (Right ls) ls → Checked (at ∷ rest) ls (resting None)
        one at rest [] is none count all = absurd (omega (arith, count))
        one at rest (l ∷ later) is none count all =
            let check = check-back at raw (l ∷ []) (subst (λ (o : Option Event). Firsts at raw o (l ∷ [])) (sym none) (l, refl, subst (λ (k : ℕ). Own k raw l) (first at rest is) (of-first (l ∷ later) 0 l refl (all 0 l refl)))) in (
              check.0,
              l ∷ [],
              later,
              refl,
              check.1,
              check.2,
              rest-back rest later (omega (arith, count)) (λ n x there. subst (λ (k : ℕ). Own k None x) (behind-one at rest n is none)
                  (of-later (l ∷ later) (suc n) x (omega arith) (and_right (suc n == 1) (is_some (beside origin raw)) (ap is_some none)) (all (suc n) x there))),
            )

        two : (at : ℕ) (rest : List ℕ) (ls : List EventLine) (event : Event) → ats ≡ at ∷ rest → beside origin raw ≡ Some event → length ls ≡ length rest + 2 → AreRight (Right ls) ls → Checked (at ∷ rest) ls (resting None)
        two at rest [] event is some count all = absurd (omega (arith, count))
        two at rest (l ∷ []) event is some count all = absurd (omega (arith, count))
        two at rest (l ∷ m ∷ later) event is some count all =
            let check = check-back at raw (l ∷ m ∷ []) (subst (λ (o : Option Event). Firsts at raw o (l ∷ m ∷ [])) (sym some) (
              l,
              m,
              refl,
              subst (λ (k : ℕ). Own k raw l) (first at rest is) (of-first (l ∷ m ∷ later) 0 l refl (all 0 l refl)),
              subst (λ (o : Option Event). IsRawLine script report who how (has_stopper how origin raw || is_panic l.acted) o m) some (of-second (l ∷ m ∷ later) 1 m refl (ap is_some some) (all 1 m refl)),
            )) in (
              check.0,
              l ∷ m ∷ [],
              later,
              refl,
              check.1,
              check.2,
              rest-back rest later (omega (arith, count)) (λ n x there. subst (λ (k : ℕ). Own k None x) (behind-two at rest n event is some)
                  (of-later (l ∷ m ∷ later) (suc (suc n)) x (omega arith)
                  (and_left (suc (suc n) == 1) (is_some (beside origin raw)) (ne_eqb (suc (suc n)) 1 (λ z. omega (arith, z)))) (all (suc (suc n)) x there))),
            )

        by : (found : List ℕ) → ats ≡ found → Checked found lines (resting left)
        by [] is = (empty lines (size ∙ asked-zero (ap length is)), ap resting (left-zero (ap length is)))
        by (at ∷ rest) is = subst (Checked (at ∷ rest) lines) (ap resting (sym (left-some (length rest) (ap length is)))) (which (beside origin raw) refl)
          where
            which : (o : Option Event) → beside origin raw ≡ o → Checked (at ∷ rest) lines (resting None)
            which None none = one at rest lines is none (size ∙ asked-some (length rest) 1 (ap length is) (first-one none)) right
            which (Some event) some = two at rest lines event is some (size ∙ asked-some (length rest) 2 (ap length is) (first-two event some)) right
