-- The rule of marks holds where none of its five parts finds a line, and else the lowest of the lines found is the first that
-- breaks it.
use Rattle.std.proofs.Common.{◌≡◌, ◌≢◌, ◌⊎◌, inl, inr, ℕ, ◌+◌, ◌<◌, ◌≤◌, ◌==◌, ◌&&◌, min, Bool, true, false, cond, List, [], ◌∷◌, Option, Some, None, MatchOption, count_by, get_or, length, option_and_then, option_map, slice_get, sum_by, unwrap_or, true≢false, refl, sym, ap, ◌∙◌, subst, arith}
use Rattle.std.specs.List.{zip}
use Rattle.std.proofs.lemmas.Bool.{cases_Bool, cases_lt, eqb-false, eqb-true}
use Rattle.std.proofs.lemmas.List.Sums.{sum_by-cons}
use Rattle.std.proofs.lemmas.Option.{none-some, slice_get-get_or, slice_get_within}
use Rattle.hwp_check_rules.specs.hwp_geom.declared.Frame.{Frame}
use Rattle.hwp_check_rules.specs.hwp_geom.declared.Who.{Who}
use Rattle.hwp_check_rules.specs.hwp_page.declared.At.{At}
use Rattle.hwp_check_rules.specs.hwp_page.declared.Entry.{Entry}
use Rattle.hwp_check_rules.specs.hwp_page.declared.Situation.{Situation}
use Rattle.hwp_check_rules.specs.hwp_page.declared.What.{What}
use Rattle.hwp_check_rules.specs.hwp_page.declared.What.TheVariants as entries
use Rattle.hwp_check_rules.specs.hwp_script_words.declared.Script.{Script}
use Rattle.hwp_check_rules.specs.hwp_report_text.declared.FrameLine.{FrameLine}
use Rattle.hwp_check_rules.specs.hwp_report_text.declared.MarkLine.{MarkLine}
use Rattle.hwp_check_rules.specs.hwp_report_text.declared.Report.{Report}
use Rattle.hwp_check_rules.specs.hwp_report_text.declared.EventLine.{EventLine}
use Rattle.hwp_check_rules.specs.hwp_law.Lines.{is_same_command, marks_of}
use Rattle.hwp_check_rules.specs.hwp_law.Pairings.{AreRecorded, entries_of, finds, has_page, is_failure, is_failure_mark, is_move_mark, is_required, is_soft, is_soft_mark, is_urgent, marks_in, soft_lines, urgent_from}
use Rattle.hwp_check_rules.specs.hwp_law.Places.{entry_at}
use Rattle.hwp_check_rules.specs.hwp_law.Records.{IsAnswered, IsMarkAt, hardware_marks, how_in, is_by_hardware, result_lines, who_in}
use Rattle.hwp_check_rules.specs.Firsts.{sooner, soonest, IsFirstFault, IsClear}
use Rattle.hwp_check_rules.specs.MarkFaults.{HasNoEvent, IsMarkFault, IsMarkLacking, IsMisfound, IsMisrequired, IsSoftBeyond, IsUnsaid, LacksMarks, home_of}
use Rattle.hwp_check_rules.specs.Rules.{MarksFit}
use Rattle.hwp_check_rules.specs.Standing.{entry_line, frame_line}
use Rattle.hwp_check_frames.specs.MarkScans.{IsRecordFault, RecordsFit}
use Rattle.hwp_check_marks.specs.Unpaired.{AllFew, IsExtra, IsTooMany}
use Rattle.hwp_check_marks.specs.Walks.{IsLowest}
use Rattle.hwp_check_marks.proofs.LackLaws.{SomeEntryIn, some-entry}
use Rattle.hwp_check_frames.proofs.FramePlaces.{and-left, and-right, same-who, shown-in}
use Rattle.hwp_check_marks.proofs.WalkLaws.{other-words, sooner-least}

-- the lower of two lines
both-lowest : (P Q : ℕ → Type 0) (f g : Option ℕ) → IsLowest P f → IsLowest Q g → IsLowest (λ (n : ℕ). P n ⊎ Q n) (soonest f g)
both-lowest P Q f None low none = other-words P (λ (n : ℕ). P n ⊎ Q n) f (λ n p. inl p) (λ n e. elim e [ inl p ↦ p | inr q ↦ absurd (none n q) ]) low
both-lowest P Q f (Some m) low least =
    at-once (sooner f m) (sooner-least P f m low)
  where
    at-once : (h : Option ℕ) → IsLowest (λ (n : ℕ). P n ⊎ (n ≡ m)) h → IsLowest (λ (n : ℕ). P n ⊎ Q n) h
    at-once None none = absurd (none m (inr refl))
    at-once (Some k) first = record {
      at = elim first.at [ inl p ↦ inl p | inr is ↦ inr (subst Q (sym is) least.at) ];
      first = λ other e. elim e [
        | inl p ↦ first.first other (inl p)
        | inr q ↦ let low_one : m ≤ other = least.first other q in let here : k ≤ m = first.first m (inr refl) in omega (arith, low_one, here)
      ];
    }

none-both : (f g : Option ℕ) → soonest f g ≡ None → (f ≡ None) × (g ≡ None)
none-both f None is = (is, refl)
none-both None (Some m) is = absurd (none-some m (sym is))
none-both (Some n) (Some m) is = absurd (none-some (min n m) (sym is))

-- what the two parts that stop at the first fault say
clear-lowest : (Fits : Type 0) (IsFault : ℕ → Type 0) (f : Option ℕ) → MatchOption f (IsClear Fits IsFault) (λ line. IsFirstFault Fits IsFault line) → IsLowest IsFault f
clear-lowest Fits IsFault None clear = clear.none
clear-lowest Fits IsFault (Some line) first = record { at = first.at; first = first.first }

clear-fits : (Fits : Type 0) (IsFault : ℕ → Type 0) (f : Option ℕ) → MatchOption f (IsClear Fits IsFault) (λ line. IsFirstFault Fits IsFault line) → f ≡ None → Fits
clear-fits Fits IsFault None clear is = clear.fits
clear-fits Fits IsFault (Some line) first is = absurd (none-some line (sym is))

fits-clear : (Fits : Type 0) (IsFault : ℕ → Type 0) (f : Option ℕ) → MatchOption f (IsClear Fits IsFault) (λ line. IsFirstFault Fits IsFault line) → Fits → f ≡ None
fits-clear Fits IsFault None clear fits = refl
fits-clear Fits IsFault (Some line) first fits = absurd (first.broken fits)

none-least : (P : ℕ → Type 0) (f : Option ℕ) → IsLowest P f → ((n : ℕ) → P n → ⊥) → f ≡ None
none-least P None low none = refl
none-least P (Some n) low none = absurd (none n low.at)

lowest-none : (P : ℕ → Type 0) (f : Option ℕ) → IsLowest P f → f ≡ None → (n : ℕ) → P n → ⊥
lowest-none P None low is = low
lowest-none P (Some m) low is = absurd (none-some m (sym is))

-- as many marks with an urgent line as marks at most
abbrev flag : Bool → ℕ
flag b = cond b 1 0

urgent-pairs : (s : Situation) (ms : List MarkLine) (ls : List EventLine) → count_by (is_urgent s) (zip ms ls) ≤ count_by (λ (m : MarkLine). finds s (how_in m)) ms
urgent-pairs s [] ls = omega arith
urgent-pairs s (m ∷ ms) [] = omega arith
urgent-pairs s (m ∷ ms) (l ∷ ls) =
    let a : count_by (is_urgent s) ((m, l) ∷ zip ms ls) ≡ flag (finds s (how_in m) && (l.row == 9)) + count_by (is_urgent s) (zip ms ls) = sum_by-cons (λ (p : MarkLine × EventLine). flag (is_urgent s p)) (m, l) (zip ms ls) in
    let b : count_by (λ (x : MarkLine). finds s (how_in x)) (m ∷ ms) ≡ flag (finds s (how_in m)) + count_by (λ (x : MarkLine). finds s (how_in x)) ms = sum_by-cons (λ (x : MarkLine). flag (finds s (how_in x))) m ms in
    let one : flag (finds s (how_in m) && (l.row == 9)) ≤ flag (finds s (how_in m)) = both-low (finds s (how_in m)) (l.row == 9) in
    let rest : count_by (is_urgent s) (zip ms ls) ≤ count_by (λ (x : MarkLine). finds s (how_in x)) ms = urgent-pairs s ms ls in
    omega (arith, a, b, one, rest)
  where
    both-low : (x y : Bool) → flag (x && y) ≤ flag x
    both-low true true = omega arith
    both-low true false = omega arith
    both-low false y = omega arith

own-marks : (w : Who) (s : Situation) (ms : List MarkLine) → count_by (λ (m : MarkLine). finds s (how_in m)) (hardware_marks w ms) ≤ count_by (is_failure_mark w s) ms
own-marks w s [] = omega arith
own-marks w s (m ∷ ms) =
    let b : count_by (is_failure_mark w s) (m ∷ ms) ≡ flag (is_same_command w (who_in m) && finds s (how_in m)) + count_by (is_failure_mark w s) ms = sum_by-cons (λ (x : MarkLine). flag (is_failure_mark w s x)) m ms in
    by (is_same_command w (who_in m)) (is_by_hardware m) (own-marks w s ms) b
  where
    by : (mine caused : Bool) → count_by (λ (x : MarkLine). finds s (how_in x)) (hardware_marks w ms) ≤ count_by (is_failure_mark w s) ms
        → count_by (is_failure_mark w s) (m ∷ ms) ≡ flag (mine && finds s (how_in m)) + count_by (is_failure_mark w s) ms
        → count_by (λ (x : MarkLine). finds s (how_in x)) (cond (mine && caused) (m ∷ hardware_marks w ms) (hardware_marks w ms)) ≤ count_by (is_failure_mark w s) (m ∷ ms)
    by true true rest all =
        let a : count_by (λ (x : MarkLine). finds s (how_in x)) (m ∷ hardware_marks w ms) ≡ flag (finds s (how_in m)) + count_by (λ (x : MarkLine). finds s (how_in x)) (hardware_marks w ms) = sum_by-cons (λ (x : MarkLine). flag (finds s (how_in x))) m (hardware_marks w ms) in
        omega (arith, a, rest, all)
    by true false rest all = omega (arith, rest, all)
    by false caused rest all = omega (arith, rest, all)

urgent-most : (report : Report) (w : Who) (s : Situation) (n : ℕ) (frames : List FrameLine) → urgent_from report w s n frames ≤ sum_by (λ (l : FrameLine). count_by (is_failure_mark w s) l.marks) frames
urgent-most report w s n [] = omega arith
urgent-most report w s n (l ∷ ls) =
    let all : sum_by (λ (x : FrameLine). count_by (is_failure_mark w s) x.marks) (l ∷ ls) ≡ count_by (is_failure_mark w s) l.marks + sum_by (λ (x : FrameLine). count_by (is_failure_mark w s) x.marks) ls =
    sum_by-cons (λ (x : FrameLine). count_by (is_failure_mark w s) x.marks) l ls in
    let one : count_by (is_urgent s) (zip (hardware_marks w l.marks) (result_lines report w n)) ≤ count_by (λ (m : MarkLine). finds s (how_in m)) (hardware_marks w l.marks) = urgent-pairs s (hardware_marks w l.marks) (result_lines report w n) in
    let two : count_by (λ (m : MarkLine). finds s (how_in m)) (hardware_marks w l.marks) ≤ count_by (is_failure_mark w s) l.marks = own-marks w s l.marks in
    let rest : urgent_from report w s (n + 1) ls ≤ sum_by (λ (x : FrameLine). count_by (is_failure_mark w s) x.marks) ls = urgent-most report w s (n + 1) ls in
    omega (arith, all, one, two, rest)

-- an entry that a thread needed is a failure
needed-fails : (s : Situation) (what : What) → is_required s what ≡ true → is_failure s what ≡ true
needed-fails s (entries.Fail t required seen signals) is = and-left _ _ is
needed-fails s _ is = absurd (true≢false (sym is))

module _ (script : Script) (report : Report) where
  -- an entry of a command whose numbers differ has a line that breaks the rule
  misrequired-at : (who : Who) (s : Situation) (test : What → Bool) → ((what : What) → test what ≡ true → is_failure s what ≡ true) → has_page s ≡ true → entries_of report who (is_required s) ≢ urgent_from report who s 0 report.frames
      → 0 < entries_of report who test → (line : ℕ) × IsMisrequired report line
  misrequired-at who s test fails page apart some =
      let r = some-entry (λ (e : Entry). is_same_command who e.who && test e.what) report.pages some in
      let e = r.some.entry in
      let same : e.who ≡ who = same-who who e.who (and-left (is_same_command who e.who) (test e.what) r.some.so) in
      let at : At = record { page = record { 0 = r.page }; entry = r.some.place } in (
        entry_line report at,
        record {
          at = at;
          entry = e;
          situation = s;
          there = there-at r;
          line_is = refl;
          of_page = page;
          fails = fails e.what (and-right (is_same_command who e.who) (test e.what) r.some.so);
          wrong = subst (λ (w : Who). entries_of report w (is_required s) ≢ urgent_from report w s 0 report.frames) (sym same) apart;
        },
      )
    where
      there-at : (r : SomeEntryIn (λ (e : Entry). is_same_command who e.who && test e.what) report.pages) → entry_at report.pages (record { page = record { 0 = r.page }; entry = r.some.place }) ≡ Some r.some.entry
      there-at r = ap (λ (o : Option (List Entry)). option_and_then (λ (es : List Entry). slice_get es r.some.place) o) r.shown ∙ r.some.there

  equal-or : (a b : ℕ) → (a ≢ b → ⊥) → a ≡ b
  equal-or a b not_apart = elim (cases_Bool (a == b)) [ inl is ↦ eqb-true a b is | inr is ↦ absurd (not_apart (eqb-false a b is)) ]

  module _ (few : AllFew report) (none_lacks : (line : ℕ) → IsMarkLacking script report line → ⊥) (none_differs : (line : ℕ) → IsMisrequired report line → ⊥)
      (are_softs : (who : Who) (frame : Frame) (moved : Bool) → count_by (is_soft_mark who moved) (marks_of report frame.0) ≡ soft_lines script report who frame moved) where
    no-lack : (who : Who) (soft : Bool) → LacksMarks report who soft → ⊥
    no-lack who soft lacks = none_lacks (frame_line report (home_of script report who soft)) (record { who = who; soft = soft; lacks = lacks; line_is = refl })

    failures-are : (who : Who) (s : Situation) → has_page s ≡ true → entries_of report who (is_failure s) ≡ marks_in report (is_failure_mark who s)
    failures-are who s page = elim (cases_lt (marks_in report (is_failure_mark who s)) (entries_of report who (is_failure s))) [
      | inl less ↦ absurd (no-lack who false (s, page, less))
      | inr most ↦ let many : marks_in report (is_failure_mark who s) ≤ entries_of report who (is_failure s) = (few who).failures s page in omega (arith, most, many)
    ]

    moves-are : (who : Who) → entries_of report who is_soft ≡ marks_in report (is_move_mark who)
    moves-are who = elim (cases_lt (marks_in report (is_move_mark who)) (entries_of report who is_soft)) [
      | inl less ↦ absurd (no-lack who true less)
      | inr most ↦ let many : marks_in report (is_move_mark who) ≤ entries_of report who is_soft = (few who).moves in omega (arith, most, many)
    ]

    required-are : (who : Who) (s : Situation) → has_page s ≡ true → entries_of report who (is_required s) ≡ urgent_from report who s 0 report.frames
    required-are who s page = equal-or (entries_of report who (is_required s)) (urgent_from report who s 0 report.frames) apart-not
      where
        apart-not : entries_of report who (is_required s) ≢ urgent_from report who s 0 report.frames → ⊥
        apart-not apart = elim (cases_lt 0 (entries_of report who (is_required s))) [
          | inl some ↦ let m = misrequired-at who s (is_required s) (needed-fails s) page apart some in none_differs m.0 m.1
          | inr none ↦ elim (cases_lt 0 (entries_of report who (is_failure s))) [
            | inl some ↦ let m = misrequired-at who s (is_failure s) (λ what is. is) page apart some in none_differs m.0 m.1
            | inr nothing ↦
                let are : entries_of report who (is_failure s) ≡ marks_in report (is_failure_mark who s) = failures-are who s page in
                let most : urgent_from report who s 0 report.frames ≤ marks_in report (is_failure_mark who s) = urgent-most report who s 0 report.frames in
                apart (omega (arith, none, nothing, are, most))
          ]
        ]

    recorded : (who : Who) → AreRecorded script report who
    recorded who = record { failures = failures-are who; required = required-are who; moves = moves-are who; softs = are_softs who; one = (few who).one }

  -- a rule that holds has no such lines
  few-of : MarksFit script report → AllFew report
  few-of fits who = record {
    failures = λ s page. let are : entries_of report who (is_failure s) ≡ marks_in report (is_failure_mark who s) = (fits.recorded who).failures s page in omega (arith, are);
    moves = let are : entries_of report who is_soft ≡ marks_in report (is_move_mark who) = (fits.recorded who).moves in omega (arith, are);
    one = (fits.recorded who).one;
  }

  none-lacking : MarksFit script report → (line : ℕ) → IsMarkLacking script report line → ⊥
  none-lacking fits line l = by l.soft l.lacks
    where
      by : (soft : Bool) → LacksMarks report l.who soft → ⊥
      by false (s, page, less) = let are : entries_of report l.who (is_failure s) ≡ marks_in report (is_failure_mark l.who s) = (fits.recorded l.who).failures s page in omega (arith, are, less)
      by true less = let are : entries_of report l.who is_soft ≡ marks_in report (is_move_mark l.who) = (fits.recorded l.who).moves in omega (arith, are, less)

  none-short : MarksFit script report → (line : ℕ) → IsSoftBeyond script report line → ⊥
  none-short fits line l =
      let are : count_by (is_soft_mark l.who l.moved) (marks_of report l.frame.0) ≡ soft_lines script report l.who l.frame l.moved = (fits.recorded l.who).softs l.frame l.moved in
      let less : count_by (is_soft_mark l.who l.moved) (marks_of report l.frame.0) < soft_lines script report l.who l.frame l.moved = l.beyond in
      omega (arith, are, less)

  none-differing : MarksFit script report → (line : ℕ) → IsMisrequired report line → ⊥
  none-differing fits line m = m.wrong ((fits.recorded m.entry.who).required m.situation m.of_page)

  -- where no command has too few marks of soft offlines, and none too many in any frame of the script, they are as many as its lines say
  softs-are : length report.frames ≤ length script.layout.kernel → RecordsFit script report → ((who : Who) (frame : Frame) (moved : Bool) → soft_lines script report who frame moved ≤ count_by (is_soft_mark who moved) (marks_of report frame.0))
      → (who : Who) (frame : Frame) (moved : Bool) → count_by (is_soft_mark who moved) (marks_of report frame.0) ≡ soft_lines script report who frame moved
  softs-are many fits low who frame moved = by (slice_get report.frames frame.0) refl
    where
      least : soft_lines script report who frame moved ≤ count_by (is_soft_mark who moved) (marks_of report frame.0)
      least = low who frame moved

      by : (o : Option FrameLine) → slice_get report.frames frame.0 ≡ o → count_by (is_soft_mark who moved) (marks_of report frame.0) ≡ soft_lines script report who frame moved
      by (Some line) is =
          let within : frame.0 < length report.frames = slice_get_within report.frames frame.0 line is in
          let declared = slice_get-get_or script.layout.kernel frame.0 false (omega (arith, within, many)) in
          let most : count_by (is_soft_mark who moved) (marks_of report frame.0) ≤ soft_lines script report who frame moved = (fits frame _ line declared is).said who moved in
          omega (arith, least, most)
      by None is =
          let none : count_by (is_soft_mark who moved) (marks_of report frame.0) ≡ 0 = ap (λ (o : Option FrameLine). count_by (is_soft_mark who moved) (unwrap_or (option_map (λ (l : FrameLine). l.marks) o) [])) is in
          omega (arith, least, none)

  -- a rule that holds has them in each frame
  records-of : MarksFit script report → RecordsFit script report
  records-of fits frame kernel line declared there = record {
    kept = fits.kept frame kernel line declared there;
    said = λ who moved. let are : count_by (is_soft_mark who moved) (marks_of report frame.0) ≡ soft_lines script report who frame moved = (fits.recorded who).softs frame moved in omega (arith, are);
  }

  -- the lines that the five parts name are those that break the rule
  abbrev Parts : ℕ → Type 0
  Parts line = ((IsRecordFault script report line ⊎ IsSoftBeyond script report line) ⊎ IsExtra report line) ⊎ (IsMarkLacking script report line ⊎ IsMisrequired report line)

  parts-fault : length report.frames ≤ length script.layout.kernel → (line : ℕ) → Parts line → IsMarkFault script report line
  parts-fault many line (inl (inl (inl (inl w)))) = inl (record { frame = w.frame; kernel = w.kernel; place = w.place; mark = w.mark; declared = w.declared; there = w.there; line_is = w.line_is; wrong = wider w.wrong })
    where
      wider : {A B C D E F : Type 0} → A ⊎ B ⊎ C ⊎ D ⊎ E → A ⊎ B ⊎ C ⊎ D ⊎ E ⊎ F
      wider (inl a) = inl a
      wider (inr (inl b)) = inr (inl b)
      wider (inr (inr (inl c))) = inr (inr (inl c))
      wider (inr (inr (inr (inl d)))) = inr (inr (inr (inl d)))
      wider (inr (inr (inr (inr e)))) = inr (inr (inr (inr (inl e))))
  parts-fault many line (inl (inl (inl (inr beyond)))) = inr (inl beyond)
  parts-fault many line (inl (inl (inr short))) = inr (inr (inl short))
  parts-fault many line (inl (inr x)) =
      let s = shown-in report x.frame.0 x.place x.mark x.there in
      let within : x.frame.0 < length report.frames = slice_get_within report.frames x.frame.0 s.0 s.1 in
      inl (record {
        frame = x.frame;
        kernel = get_or script.layout.kernel x.frame.0 false;
        place = x.place;
        mark = x.mark;
        declared = slice_get-get_or script.layout.kernel x.frame.0 false (omega (arith, within, many));
        there = x.there;
        line_is = x.line_is;
        wrong = inr (inr (inr (inr (inr x.wrong))));
      })
  parts-fault many line (inr (inl l)) = inr (inr (inr (inl l)))
  parts-fault many line (inr (inr m)) = inr (inr (inr (inr m)))

  fault-parts : (line : ℕ) → IsMarkFault script report line → Parts line
  fault-parts line (inl w) = by w.wrong
    where
      by : (IsMarkAt w.place w.mark → ⊥) ⊎ IsMisfound w.kernel w.mark ⊎ (IsAnswered script report w.frame w.mark → ⊥) ⊎ IsUnsaid script report w.frame w.place w.mark ⊎ HasNoEvent report w.frame w.place w.mark ⊎ IsTooMany report w.frame w.place w.mark → Parts line
      by (inl a) = inl (inl (inl (inl (record { frame = w.frame; kernel = w.kernel; place = w.place; mark = w.mark; declared = w.declared; there = w.there; line_is = w.line_is; wrong = inl a }))))
      by (inr (inl b)) = inl (inl (inl (inl (record { frame = w.frame; kernel = w.kernel; place = w.place; mark = w.mark; declared = w.declared; there = w.there; line_is = w.line_is; wrong = inr (inl b) }))))
      by (inr (inr (inl c))) = inl (inl (inl (inl (record { frame = w.frame; kernel = w.kernel; place = w.place; mark = w.mark; declared = w.declared; there = w.there; line_is = w.line_is; wrong = inr (inr (inl c)) }))))
      by (inr (inr (inr (inl d)))) = inl (inl (inl (inl (record { frame = w.frame; kernel = w.kernel; place = w.place; mark = w.mark; declared = w.declared; there = w.there; line_is = w.line_is; wrong = inr (inr (inr (inl d))) }))))
      by (inr (inr (inr (inr (inl l))))) = inl (inl (inl (inl (record { frame = w.frame; kernel = w.kernel; place = w.place; mark = w.mark; declared = w.declared; there = w.there; line_is = w.line_is; wrong = inr (inr (inr (inr l))) }))))
      by (inr (inr (inr (inr (inr e))))) = inl (inr (record { frame = w.frame; place = w.place; mark = w.mark; there = w.there; line_is = w.line_is; wrong = e }))
  fault-parts line (inr (inl beyond)) = inl (inl (inl (inr beyond)))
  fault-parts line (inr (inr (inl short))) = inl (inl (inr short))
  fault-parts line (inr (inr (inr (inl l)))) = inr (inl l)
  fault-parts line (inr (inr (inr (inr m)))) = inr (inr m)

  module _ (many : length report.frames ≤ length script.layout.kernel) (low : ((line : ℕ) → IsSoftBeyond script report line → ⊥) → (who : Who) (frame : Frame) (moved : Bool) → soft_lines script report who frame moved ≤ count_by (is_soft_mark who moved) (marks_of report frame.0)) (kept short extra lacks wrong : Option ℕ) (of_short : IsLowest (IsSoftBeyond script report) short) (of_kept : MatchOption kept (IsClear (RecordsFit script report) (IsRecordFault script report)) (λ line. IsFirstFault (RecordsFit script report) (IsRecordFault script report) line))
      (of_extra : MatchOption extra (IsClear (AllFew report) (IsExtra report)) (λ line. IsFirstFault (AllFew report) (IsExtra report) line)) (of_lacks : IsLowest (IsMarkLacking script report) lacks) (of_wrong : IsLowest (IsMisrequired report) wrong) where
    lowest : IsLowest (IsMarkFault script report) (soonest (soonest (soonest kept short) extra) (soonest lacks wrong))
    lowest =
        other-words Parts (IsMarkFault script report) _ (parts-fault many) fault-parts
        (both-lowest (λ (n : ℕ). (IsRecordFault script report n ⊎ IsSoftBeyond script report n) ⊎ IsExtra report n) (λ (n : ℕ). IsMarkLacking script report n ⊎ IsMisrequired report n) (soonest (soonest kept short) extra) (soonest lacks wrong)
        (both-lowest (λ (n : ℕ). IsRecordFault script report n ⊎ IsSoftBeyond script report n) (IsExtra report) (soonest kept short) extra (both-lowest (IsRecordFault script report) (IsSoftBeyond script report) kept short (clear-lowest (RecordsFit script report) (IsRecordFault script report) kept of_kept) of_short) (clear-lowest (AllFew report) (IsExtra report) extra of_extra))
        (both-lowest (IsMarkLacking script report) (IsMisrequired report) lacks wrong of_lacks of_wrong))

    holds : soonest (soonest (soonest kept short) extra) (soonest lacks wrong) ≡ None → MarksFit script report
    holds is =
        let halves = none-both (soonest (soonest kept short) extra) (soonest lacks wrong) is in
        let left = none-both (soonest kept short) extra halves.0 in
        let first = none-both kept short left.0 in
        let right = none-both lacks wrong halves.1 in
        record {
          kept = λ frame kernel line declared there. (records first.0 frame kernel line declared there).kept;
          recorded = recorded (clear-fits (AllFew report) (IsExtra report) extra of_extra left.1) (lowest-none (IsMarkLacking script report) lacks of_lacks right.0) (lowest-none (IsMisrequired report) wrong of_wrong right.1)
              (softs-are many (records first.0) (low (lowest-none (IsSoftBeyond script report) short of_short first.1)));
        }
      where
        records : kept ≡ None → RecordsFit script report
        records none = clear-fits (RecordsFit script report) (IsRecordFault script report) kept of_kept none

    clear : MarksFit script report → soonest (soonest (soonest kept short) extra) (soonest lacks wrong) ≡ None
    clear fits =
        ap (λ (o : Option ℕ). soonest (soonest (soonest kept short) extra) (soonest lacks o)) (none-least (IsMisrequired report) wrong of_wrong (none-differing fits))
        ∙ ap (λ (o : Option ℕ). soonest (soonest (soonest kept short) extra) o) (none-least (IsMarkLacking script report) lacks of_lacks (none-lacking fits))
        ∙ ap (λ (o : Option ℕ). soonest (soonest kept short) o) (fits-clear (AllFew report) (IsExtra report) extra of_extra (few-of fits))
        ∙ ap (λ (o : Option ℕ). soonest kept o) (none-least (IsSoftBeyond script report) short of_short (none-short fits)) ∙ fits-clear (RecordsFit script report) (IsRecordFault script report) kept of_kept (records-of fits)

    pub marks-decided : MatchOption (soonest (soonest (soonest kept short) extra) (soonest lacks wrong)) (MarksFit script report) (IsFirstFault (MarksFit script report) (IsMarkFault script report))
    marks-decided = by (soonest (soonest (soonest kept short) extra) (soonest lacks wrong)) refl lowest
      where
        by : (o : Option ℕ) → soonest (soonest (soonest kept short) extra) (soonest lacks wrong) ≡ o → IsLowest (IsMarkFault script report) o → MatchOption o (MarksFit script report) (IsFirstFault (MarksFit script report) (IsMarkFault script report))
        by None is low = holds is
        by (Some n) is low = record { broken = λ fits. none-some n (sym (clear fits) ∙ is); at = low.at; first = low.first }
