-- Which mark is the first that is one too many of its command.
use Rattle.std.proofs.Common.{◌≡◌, ◌⊎◌, inl, inr, ℕ, zero, suc, ◌+◌, ◌-◌, ◌<◌, ◌≤◌, ◌==◌, ◌&&◌, ◌||◌, not, Bool, true, false, cond, List, [], ◌∷◌, Some, count_by, get_or, length, slice_get, sum_by, take, true≢false, refl, sym, ap, ◌∙◌, subst, arith}
use Rattle.std.proofs.lemmas.Bool.{cases_Bool, cases_lt, eq-eqb, leb-false, leb-true}
use Rattle.std.proofs.lemmas.List.Sums.{sum_by-cons, sum_by_more_le}
use Rattle.std.proofs.lemmas.Option.{get_or_from_slice_get, same_Some, slice_get_within}
use Rattle.hwp_check_rules.specs.hwp_geom.declared.Frame.{Frame}
use Rattle.hwp_check_rules.specs.hwp_geom.declared.Who.{Who}
use Rattle.hwp_check_rules.specs.hwp_page.declared.Situation.{Situation}
use Rattle.hwp_check_rules.specs.hwp_report_text.declared.FrameLine.{FrameLine}
use Rattle.hwp_check_rules.specs.hwp_report_text.declared.How.TheVariants as hows
use Rattle.hwp_check_rules.specs.hwp_report_text.declared.MarkLine.{MarkLine}
use Rattle.hwp_check_rules.specs.hwp_report_text.declared.MarkLine.TheVariants as marks
use Rattle.hwp_check_rules.specs.hwp_report_text.declared.Report.{Report}
use Rattle.hwp_check_rules.specs.hwp_law.Lines.{is_same_command, marks_of}
use Rattle.hwp_check_rules.specs.hwp_law.Pairings.{entries_of, finds, has_page, is_commands, is_failure, is_failure_mark, is_move, is_move_mark, is_soft, marks_in, situation_number}
use Rattle.hwp_check_rules.specs.hwp_law.Records.{how_in, is_commanded, who_in}
use Rattle.hwp_check_marks.specs.declared.kinds.Kind.{Kind}
use Rattle.hwp_check_marks.specs.declared.kinds.Kind.TheVariants as kinds
use Rattle.hwp_check_rules.specs.MarkFaults.{marks_before}
use Rattle.hwp_check_rules.specs.Standing.{frame_line}
use Rattle.hwp_check_marks.specs.Unpaired.{AllFew, IsExtra, IsFirstExtra, IsTooMany, NoneExtra, allowed, before_in, exceeds, is_extra}
use Rattle.hwp_check_rules.proofs.of_hwp_law.Situations.{same-situation}
use Rattle.hwp_check_frames.proofs.FramePlaces.{and-both, and-left, and-right, frame-next, frame-rises, marks-are, same-self, same-who, shown-in}
use Rattle.hwp_check_rules.specs.Firsts.{IsFirstFault, IsClear}

abbrev flag : Bool → ℕ
flag b = cond b 1 0

count-cons : (p : MarkLine → Bool) (m : MarkLine) (ms : List MarkLine) → count_by p (m ∷ ms) ≡ flag (p m) + count_by p ms
count-cons p m ms = sum_by-cons (λ (y : MarkLine). flag (p y)) m ms

-- the mark with a number among those that are such
record Nth (p : MarkLine → Bool) (ms : List MarkLine) (n : ℕ) : Type 0 where
  place : ℕ
  mark : MarkLine
  there : slice_get ms place ≡ Some mark
  such : p mark ≡ true
  number : count_by p (take place ms) ≡ n

pass-by : (p : MarkLine → Bool) (m : MarkLine) (ms : List MarkLine) (n k : ℕ) → flag (p m) + n ≡ k → Nth p ms n → Nth p (m ∷ ms) k
pass-by p m ms n k is r = record {
  place = suc r.place;
  mark = r.mark;
  there = r.there;
  such = r.such;
  number = count-cons p m (take r.place ms) ∙ ap (λ i. flag (p m) + i) r.number ∙ is;
}

nth-of : (p : MarkLine → Bool) (ms : List MarkLine) (n : ℕ) → n < count_by p ms → Nth p ms n
nth-of p [] n low = absurd (omega (arith, low))
nth-of p (m ∷ ms) zero low = elim (cases_Bool (p m)) [
  | inl is ↦ record { place = 0; mark = m; there = refl; such = is; number = refl }
  | inr is ↦
      let one : flag (p m) ≡ flag false = ap flag is in
      let all : count_by p (m ∷ ms) ≡ flag (p m) + count_by p ms = count-cons p m ms in
      pass-by p m ms 0 0 (omega (arith, one)) (nth-of p ms 0 (omega (arith, low, all, one)))
]
nth-of p (m ∷ ms) (suc n) low = elim (cases_Bool (p m)) [
  | inl is ↦
      let one : flag (p m) ≡ flag true = ap flag is in
      let all : count_by p (m ∷ ms) ≡ flag (p m) + count_by p ms = count-cons p m ms in
      pass-by p m ms n (suc n) (omega (arith, one)) (nth-of p ms n (omega (arith, low, all, one)))
  | inr is ↦
      let one : flag (p m) ≡ flag false = ap flag is in
      let all : count_by p (m ∷ ms) ≡ flag (p m) + count_by p ms = count-cons p m ms in
      pass-by p m ms (suc n) (suc n) (omega (arith, one)) (nth-of p ms (suc n) (omega (arith, low, all, one)))
]

abbrev such-in : (MarkLine → Bool) → FrameLine → ℕ
such-in p l = count_by p l.marks

record NthMark (p : MarkLine → Bool) (frames : List FrameLine) (n : ℕ) : Type 0 where
  frame : ℕ
  line : FrameLine
  place : ℕ
  mark : MarkLine
  shown : slice_get frames frame ≡ Some line
  there : slice_get line.marks place ≡ Some mark
  such : p mark ≡ true
  number : sum_by (such-in p) (take frame frames) + count_by p (take place line.marks) ≡ n

nth-mark : (p : MarkLine → Bool) (frames : List FrameLine) (n : ℕ) → n < sum_by (such-in p) frames → NthMark p frames n
nth-mark p [] n low = absurd (omega (arith, low))
nth-mark p (l ∷ ls) n low = elim (cases_lt n (count_by p l.marks)) [
  | inl here ↦ let r = nth-of p l.marks n here in record {
    frame = 0;
    line = l;
    place = r.place;
    mark = r.mark;
    shown = refl;
    there = r.there;
    such = r.such;
    number = let m : count_by p (take r.place l.marks) ≡ n = r.number in omega (arith, m);
  }
  | inr past ↦
      let all : sum_by (such-in p) (l ∷ ls) ≡ such-in p l + sum_by (such-in p) ls = sum_by-cons (such-in p) l ls in
      let r = nth-mark p ls (n - count_by p l.marks) (omega (arith, low, past, all)) in record {
        frame = suc r.frame;
        line = r.line;
        place = r.place;
        mark = r.mark;
        shown = r.shown;
        there = r.there;
        such = r.such;
        number =
            let m : sum_by (such-in p) (take r.frame ls) + count_by p (take r.place r.line.marks) ≡ n - count_by p l.marks = r.number in
            let more : sum_by (such-in p) (l ∷ take r.frame ls) ≡ such-in p l + sum_by (such-in p) (take r.frame ls) = sum_by-cons (such-in p) l (take r.frame ls) in
            omega (arith, m, more, past);
      }
]

-- fewer stand before a mark that is such than there are
before-less : (p : MarkLine → Bool) (frames : List FrameLine) (frame place : ℕ) (line : FrameLine) (mark : MarkLine) → slice_get frames frame ≡ Some line → slice_get line.marks place ≡ Some mark → p mark ≡ true
    → sum_by (such-in p) (take frame frames) + count_by p (take place line.marks) < sum_by (such-in p) frames
before-less p frames frame place line mark shown there such =
    let above : sum_by (such-in p) (take frame frames) + such-in p (get_or frames frame line) ≤ sum_by (such-in p) frames = sum_by_more_le (such-in p) frames frame line (slice_get_within frames frame line shown) in
    let this : such-in p (get_or frames frame line) ≡ such-in p line = ap (such-in p) (get_or_from_slice_get frames frame line line shown) in
    let inside : count_by p (take place line.marks) + flag (p (get_or line.marks place mark)) ≤ count_by p line.marks = sum_by_more_le (λ (y : MarkLine). flag (p y)) line.marks place mark (slice_get_within line.marks place mark there) in
    let one : flag (p (get_or line.marks place mark)) ≡ flag true = ap (λ (m : MarkLine). flag (p m)) (get_or_from_slice_get line.marks place mark mark there) ∙ ap flag such in
    omega (arith, above, this, inside, one)

or-cases : (a b : Bool) → (a || b) ≡ true → (a ≡ true) ⊎ (b ≡ true)
or-cases true b is = inl refl
or-cases false b is = inr is

or-left : (a b : Bool) → (a || b) ≡ false → a ≡ false
or-left true b is = absurd (true≢false is)
or-left false b is = refl

or-right : (a b : Bool) → (a || b) ≡ false → b ≡ false
or-right true b is = absurd (true≢false is)
or-right false b is = is

module _ (report : Report) (frame : Frame) (place : ℕ) where
  abbrev above : List FrameLine
  above = take frame.0 report.frames

  abbrev before : List MarkLine
  before = take place (marks_of report frame.0)

  too-many : (mark : MarkLine) → is_extra report (take frame.0 report.frames) (take place (marks_of report frame.0)) mark ≡ true → IsTooMany report frame place mark
  too-many (marks.Poisoned cycle who (hows.Failure hardware situation outcome)) is = elim (or-cases (has_page situation && exceeds report who (kinds.Failure situation) above before) (not hardware && exceeds report who kinds.Commanded above before) is) [
    | inl fails ↦ inl (record {
      situation = situation;
      of_page = and-left (has_page situation) (exceeds report who (kinds.Failure situation) above before) fails;
      finds_it = and-both _ _ (same-self who) (eq-eqb (situation_number situation) (situation_number situation) refl);
      beyond = leb-true _ _ (and-right (has_page situation) (exceeds report who (kinds.Failure situation) above before) fails);
    })
    | inr alone ↦ inr (inr (record { commanded = and-both _ _ (same-self who) (and-left (not hardware) (exceeds report who kinds.Commanded above before) alone); beyond = leb-true _ _ (and-right (not hardware) (exceeds report who kinds.Commanded above before) alone) }))
  ]
  too-many (marks.Poisoned cycle who hows.Moved) is = inr (inl (record { moved = and-both _ _ (same-self who) refl; beyond = leb-true _ _ is }))
  too-many (marks.Poisoned cycle who hows.TakenFree) is = absurd (true≢false (sym is))
  too-many (marks.Unpoisoned cycle who) is = inr (inr (record { commanded = and-both _ _ (same-self who) refl; beyond = leb-true _ _ is }))

  still-low : (who : Who) (kind : Kind) → exceeds report who kind (take frame.0 report.frames) (take place (marks_of report frame.0)) ≡ false
      → allowed report who kind ≤ before_in who kind (take frame.0 report.frames) (take place (marks_of report frame.0)) → ⊥
  still-low who kind not_yet beyond = let less : before_in who kind (take frame.0 report.frames) (take place (marks_of report frame.0)) < allowed report who kind = leb-false _ _ not_yet in omega (arith, less, beyond)

  -- the kinds that a mark is of
  not-failure : (mark : MarkLine) (situation : Situation) → has_page situation ≡ true → is_failure_mark (who_in mark) situation mark ≡ true
      → is_extra report (take frame.0 report.frames) (take place (marks_of report frame.0)) mark ≡ false → exceeds report (who_in mark) (kinds.Failure situation) (take frame.0 report.frames) (take place (marks_of report frame.0)) ≡ false
  not-failure (marks.Poisoned cycle who (hows.Failure hardware s outcome)) situation page is none =
      let same : s ≡ situation = same-situation s situation (and-right (is_same_command who who) (situation_number s == situation_number situation) is) in
      subst (λ (t : Situation). exceeds report who (kinds.Failure t) (take frame.0 report.frames) (take place (marks_of report frame.0)) ≡ false) same
      (and-false (has_page s) _ (ap has_page same ∙ page) (or-left _ _ none))
    where
      and-false : (a b : Bool) → a ≡ true → (a && b) ≡ false → b ≡ false
      and-false true b yes_is not_both = not_both
      and-false false b yes_is not_both = absurd (true≢false (sym yes_is))
  not-failure (marks.Poisoned cycle who hows.Moved) situation page is none = absurd (true≢false (sym (and-right (is_same_command who who) false is)))
  not-failure (marks.Poisoned cycle who hows.TakenFree) situation page is none = absurd (true≢false (sym (and-right (is_same_command who who) false is)))
  not-failure (marks.Unpoisoned cycle who) situation page is none = absurd (true≢false (sym (and-right (is_same_command who who) false is)))

  not-moved : (mark : MarkLine) → is_move_mark (who_in mark) mark ≡ true → is_extra report (take frame.0 report.frames) (take place (marks_of report frame.0)) mark ≡ false
      → exceeds report (who_in mark) kinds.Moved (take frame.0 report.frames) (take place (marks_of report frame.0)) ≡ false
  not-moved (marks.Poisoned cycle who (hows.Failure hardware s outcome)) is none = absurd (true≢false (sym (and-right (is_same_command who who) false is)))
  not-moved (marks.Poisoned cycle who hows.Moved) is none = none
  not-moved (marks.Poisoned cycle who hows.TakenFree) is none = absurd (true≢false (sym (and-right (is_same_command who who) false is)))
  not-moved (marks.Unpoisoned cycle who) is none = absurd (true≢false (sym (and-right (is_same_command who who) false is)))

  not-second : (mark : MarkLine) → is_commands (who_in mark) mark ≡ true → is_extra report (take frame.0 report.frames) (take place (marks_of report frame.0)) mark ≡ false
      → exceeds report (who_in mark) kinds.Commanded (take frame.0 report.frames) (take place (marks_of report frame.0)) ≡ false
  not-second (marks.Poisoned cycle who (hows.Failure hardware s outcome)) is none = alone hardware (and-right (is_same_command who who) (not hardware) is) (or-right _ _ none)
    where
      alone : (h : Bool) → not h ≡ true → (not h && exceeds report who kinds.Commanded (take frame.0 report.frames) (take place (marks_of report frame.0))) ≡ false
          → exceeds report who kinds.Commanded (take frame.0 report.frames) (take place (marks_of report frame.0)) ≡ false
      alone true by_command not_yet = absurd (true≢false (sym by_command))
      alone false by_command not_yet = not_yet
  not-second (marks.Poisoned cycle who hows.Moved) is none = absurd (true≢false (sym (and-right (is_same_command who who) false is)))
  not-second (marks.Poisoned cycle who hows.TakenFree) is none = absurd (true≢false (sym (and-right (is_same_command who who) false is)))
  not-second (marks.Unpoisoned cycle who) is none = none

  none-many : (mark : MarkLine) → is_extra report (take frame.0 report.frames) (take place (marks_of report frame.0)) mark ≡ false → IsTooMany report frame place mark → ⊥
  none-many mark none (inl u) = still-low (who_in mark) (kinds.Failure u.situation) (not-failure mark u.situation u.of_page u.finds_it none) u.beyond
  none-many mark none (inr (inl m)) = still-low (who_in mark) kinds.Moved (not-moved mark m.moved none) m.beyond
  none-many mark none (inr (inr s)) = still-low (who_in mark) kinds.Commanded (not-second mark s.commanded none) s.beyond

-- no mark of the first frames is one too many
pub record FewBelow (report : Report) (n heading : ℕ) : Type 0 where
  pub none : (frame : Frame) → frame.0 < n → NoneExtra report (take frame.0 report.frames) (marks_of report frame.0) (length (marks_of report frame.0))
  pub heading_is : heading ≡ frame_line report n

abbrev frame-at : ℕ → Frame
frame-at n = record { 0 = n }

-- a command with more marks of a kind than it may have has one that is too many
module _ (report : Report) (all : (frame : Frame) (place : ℕ) (mark : MarkLine) → slice_get (marks_of report frame.0) place ≡ Some mark → IsTooMany report frame place mark → ⊥) where
  beyond-at : (p : MarkLine → Bool) (n : ℕ) → n < marks_in report p → (frame : Frame) × (place : ℕ) × (mark : MarkLine) × (slice_get (marks_of report frame.0) place ≡ Some mark) × (p mark ≡ true)
      × (sum_by (such-in p) (take frame.0 report.frames) + count_by p (take place (marks_of report frame.0)) ≡ n)
  beyond-at p n low =
      let r = nth-mark p report.frames n low in
      let are : marks_of report r.frame ≡ r.line.marks = marks-are report r.frame r.line r.shown in (
        frame-at r.frame,
        r.place,
        r.mark,
        subst (λ (ms : List MarkLine). slice_get ms r.place ≡ Some r.mark) (sym are) r.there,
        r.such,
        subst (λ (ms : List MarkLine). sum_by (such-in p) (take r.frame report.frames) + count_by p (take r.place ms) ≡ n) (sym are) r.number,
      )

  few-failures : (who : Who) (situation : Situation) → has_page situation ≡ true → marks_in report (is_failure_mark who situation) ≤ entries_of report who (is_failure situation)
  few-failures who situation page = elim (cases_lt (entries_of report who (is_failure situation)) (marks_in report (is_failure_mark who situation))) [
    | inr most ↦ most
    | inl more ↦
        let r = beyond-at (is_failure_mark who situation) (entries_of report who (is_failure situation)) more in
        let same : who_in r.2 ≡ who = same-who who (who_in r.2) (and-left (is_same_command who (who_in r.2)) (finds situation (how_in r.2)) r.4) in
        let number : marks_before report r.0.0 r.1 (is_failure_mark who situation) ≡ entries_of report who (is_failure situation) = r.5 in
        absurd (all r.0 r.1 r.2 r.3 (inl (record {
          situation = situation;
          of_page = page;
          finds_it = subst (λ (w : Who). is_failure_mark w situation r.2 ≡ true) (sym same) r.4;
          beyond = subst (λ (w : Who). entries_of report w (is_failure situation) ≤ marks_before report r.0.0 r.1 (is_failure_mark w situation)) (sym same) (omega (arith, number));
        })))
  ]

  few-moves : (who : Who) → marks_in report (is_move_mark who) ≤ entries_of report who is_soft
  few-moves who = elim (cases_lt (entries_of report who is_soft) (marks_in report (is_move_mark who))) [
    | inr most ↦ most
    | inl more ↦
        let r = beyond-at (is_move_mark who) (entries_of report who is_soft) more in
        let same : who_in r.2 ≡ who = same-who who (who_in r.2) (and-left (is_same_command who (who_in r.2)) (is_move (how_in r.2)) r.4) in
        let number : marks_before report r.0.0 r.1 (is_move_mark who) ≡ entries_of report who is_soft = r.5 in
        absurd (all r.0 r.1 r.2 r.3 (inr (inl (record {
          moved = subst (λ (w : Who). is_move_mark w r.2 ≡ true) (sym same) r.4;
          beyond = subst (λ (w : Who). entries_of report w is_soft ≤ marks_before report r.0.0 r.1 (is_move_mark w)) (sym same) (omega (arith, number));
        }))))
  ]

  few-commands : (who : Who) → marks_in report (is_commands who) ≤ 1
  few-commands who = elim (cases_lt 1 (marks_in report (is_commands who))) [
    | inr most ↦ most
    | inl more ↦
        let r = beyond-at (is_commands who) 1 more in
        let same : who_in r.2 ≡ who = same-who who (who_in r.2) (and-left (is_same_command who (who_in r.2)) (is_commanded r.2) r.4) in
        let number : marks_before report r.0.0 r.1 (is_commands who) ≡ 1 = r.5 in
        absurd (all r.0 r.1 r.2 r.3 (inr (inr (record {
          commanded = subst (λ (w : Who). is_commands w r.2 ≡ true) (sym same) r.4;
          beyond = subst (λ (w : Who). 1 ≤ marks_before report r.0.0 r.1 (is_commands w)) (sym same) (omega (arith, number));
        }))))
  ]

  all-few : AllFew report
  all-few who = record { failures = few-failures who; moves = few-moves who; one = few-commands who }

-- fewer such marks stand before one than there are
before-mark : (report : Report) (p : MarkLine → Bool) (frame : Frame) (place : ℕ) (mark : MarkLine) → slice_get (marks_of report frame.0) place ≡ Some mark → p mark ≡ true
    → marks_before report frame.0 place p < marks_in report p
before-mark report p frame place mark there such =
    let s = shown-in report frame.0 place mark there in
    let are : marks_of report frame.0 ≡ s.0.marks = marks-are report frame.0 s.0 s.1 in
    subst (λ (ms : List MarkLine). sum_by (such-in p) (take frame.0 report.frames) + count_by p (take place ms) < marks_in report p) (sym are)
    (before-less p report.frames frame.0 place s.0 mark s.1 (subst (λ (ms : List MarkLine). slice_get ms place ≡ Some mark) are there) such)

few-refutes : (report : Report) → AllFew report → (frame : Frame) (place : ℕ) (mark : MarkLine) → slice_get (marks_of report frame.0) place ≡ Some mark → IsTooMany report frame place mark → ⊥
few-refutes report few frame place mark there (inl u) =
    let less : marks_before report frame.0 place (is_failure_mark (who_in mark) u.situation) < marks_in report (is_failure_mark (who_in mark) u.situation) = before-mark report (is_failure_mark (who_in mark) u.situation) frame place mark there u.finds_it in
    let most : marks_in report (is_failure_mark (who_in mark) u.situation) ≤ entries_of report (who_in mark) (is_failure u.situation) = (few (who_in mark)).failures u.situation u.of_page in
    let beyond : entries_of report (who_in mark) (is_failure u.situation) ≤ marks_before report frame.0 place (is_failure_mark (who_in mark) u.situation) = u.beyond in
    omega (arith, less, most, beyond)
few-refutes report few frame place mark there (inr (inl m)) =
    let less : marks_before report frame.0 place (is_move_mark (who_in mark)) < marks_in report (is_move_mark (who_in mark)) = before-mark report (is_move_mark (who_in mark)) frame place mark there m.moved in
    let most : marks_in report (is_move_mark (who_in mark)) ≤ entries_of report (who_in mark) is_soft = (few (who_in mark)).moves in
    let beyond : entries_of report (who_in mark) is_soft ≤ marks_before report frame.0 place (is_move_mark (who_in mark)) = m.beyond in
    omega (arith, less, most, beyond)
few-refutes report few frame place mark there (inr (inr s)) =
    let less : marks_before report frame.0 place (is_commands (who_in mark)) < marks_in report (is_commands (who_in mark)) = before-mark report (is_commands (who_in mark)) frame place mark there s.commanded in
    let most : marks_in report (is_commands (who_in mark)) ≤ 1 = (few (who_in mark)).one in
    let beyond : 1 ≤ marks_before report frame.0 place (is_commands (who_in mark)) = s.beyond in
    omega (arith, less, most, beyond)

same-frame : (f : Frame) (n : ℕ) → f.0 ≡ n → f ≡ frame-at n
same-frame f n is = ap frame-at is

-- it goes on behind a frame with none too many
pub few-next : (report : Report) (n heading next : ℕ) (shown : FrameLine) → FewBelow report n heading → slice_get report.frames n ≡ Some shown
    → NoneExtra report (take n report.frames) shown.marks (length shown.marks) → next ≡ heading + (1 + length shown.marks) → FewBelow report (n + 1) next
few-next report n heading next shown below there none is = record {
  none = λ frame low. elim (cases_lt frame.0 n) [
    | inl less ↦ below.none frame less
    | inr high ↦
        let same : frame.0 ≡ n = omega (arith, low, high) in
        subst (λ (g : Frame). NoneExtra report (take g.0 report.frames) (marks_of report g.0) (length (marks_of report g.0))) (sym (same-frame frame n same))
        (subst (λ (ms : List MarkLine). NoneExtra report (take n report.frames) ms (length ms)) (sym (marks-are report n shown there)) none)
  ];
  heading_is = let h : heading ≡ frame_line report n = below.heading_is in let more : frame_line report (n + 1) ≡ frame_line report n + 1 + length shown.marks = frame-next report n shown there in omega (arith, h, more, is);
}

none-here : (report : Report) (n : ℕ) (frame : Frame) (place : ℕ) (mark : MarkLine) (list : List MarkLine) (k : ℕ) → frame.0 ≡ n → marks_of report n ≡ list → NoneExtra report (take n report.frames) list k → place < k
    → slice_get (marks_of report frame.0) place ≡ Some mark → IsTooMany report frame place mark → ⊥
none-here report n frame place mark list k same are none low there wrong =
    let mine : NoneExtra report (take frame.0 report.frames) (marks_of report frame.0) k =
    subst (λ (g : Frame). NoneExtra report (take g.0 report.frames) (marks_of report g.0) k) (sym (same-frame frame n same)) (subst (λ (ms : List MarkLine). NoneExtra report (take n report.frames) ms k) (sym are) none) in
    none-many report frame place mark (mine place mark low there) wrong

-- a mark that is one too many in the frame that was read is the first
pub few-first : (report : Report) (n heading line place : ℕ) (shown : FrameLine) → FewBelow report n heading → slice_get report.frames n ≡ Some shown
    → IsFirstExtra report (take n report.frames) shown.marks place → line ≡ heading + 1 + place → IsFirstFault (AllFew report) (IsExtra report) line
few-first report n heading line place shown below shown_is extra is = record {
  broken = λ few. few-refutes report few (frame-at n) place extra.mark there wrong;
  at = record { frame = frame-at n; place = place; mark = extra.mark; there = there; line_is = is ∙ ap (λ h. h + 1 + place) below.heading_is; wrong = wrong };
  first = λ other f. elim (cases_lt f.frame.0 n) [
    | inl low ↦ absurd (none-many report f.frame f.place f.mark (below.none f.frame low f.place f.mark (slice_get_within (marks_of report f.frame.0) f.place f.mark f.there) f.there) f.wrong)
    | inr high ↦ elim (cases_lt n f.frame.0) [
      | inl past ↦
          let rises : frame_line report (n + 1) ≤ frame_line report f.frame.0 = frame-rises report (n + 1) f.frame.0 (omega (arith, past)) in
          let next : frame_line report (n + 1) ≡ frame_line report n + 1 + length shown.marks = frame-next report n shown shown_is in
          let inside : place < length shown.marks = slice_get_within shown.marks place extra.mark extra.there in
          let h : heading ≡ frame_line report n = below.heading_is in
          let other_is : other ≡ frame_line report f.frame.0 + 1 + f.place = f.line_is in
          omega (arith, rises, next, inside, h, other_is, is)
      | inr low ↦
          let same : f.frame.0 ≡ n = omega (arith, high, low) in
          elim (cases_lt f.place place) [
            | inl earlier ↦ absurd (none-here report n f.frame f.place f.mark shown.marks place same (marks-are report n shown shown_is) extra.before earlier f.there f.wrong)
            | inr later ↦
                let lines : frame_line report f.frame.0 ≡ frame_line report n = ap (frame_line report) same in
                let h : heading ≡ frame_line report n = below.heading_is in
                let other_is : other ≡ frame_line report f.frame.0 + 1 + f.place = f.line_is in
                omega (arith, lines, h, other_is, is, later)
          ]
    ]
  ];
}
  where
    there : slice_get (marks_of report n) place ≡ Some extra.mark
    there = subst (λ (ms : List MarkLine). slice_get ms place ≡ Some extra.mark) (sym (marks-are report n shown shown_is)) extra.there

    wrong : IsTooMany report (record { 0 = n }) place extra.mark
    wrong = too-many report (record { 0 = n }) place extra.mark
        (subst (λ (ms : List MarkLine). is_extra report (take n report.frames) (take place ms) extra.mark ≡ true) (sym (marks-are report n shown shown_is)) extra.extra)

-- where none is, no command has too many
pub few-clear : (report : Report) (n heading : ℕ) → FewBelow report n heading → length report.frames ≤ n → IsClear (AllFew report) (IsExtra report)
few-clear report n heading below all = record { fits = all-few report none; none = λ line f. none f.frame f.place f.mark f.there f.wrong }
  where
    none : (frame : Frame) (place : ℕ) (mark : MarkLine) → slice_get (marks_of report frame.0) place ≡ Some mark → IsTooMany report frame place mark → ⊥
    none frame place mark there wrong =
        let s = shown-in report frame.0 place mark there in
        let within : frame.0 < length report.frames = slice_get_within report.frames frame.0 s.0 s.1 in
        none-many report frame place mark (below.none frame (omega (arith, within, all)) place mark (slice_get_within (marks_of report frame.0) place mark there) there) wrong

-- marks, one after the other
pub extra-next : (report : Report) (above : List FrameLine) (list : List MarkLine) (n : ℕ) (mark : MarkLine) → NoneExtra report above list n → slice_get list n ≡ Some mark
    → is_extra report above (take n list) mark ≡ false → NoneExtra report above list (n + 1)
extra-next report above list n mark none there not_here place m low found = elim (cases_lt place n) [
  | inl less ↦ none place m less found
  | inr high ↦
      let same : place ≡ n = omega (arith, low, high) in
      let mark_is : mark ≡ m = same_Some _ _ (sym there ∙ sym (ap (slice_get list) same) ∙ found) in
      subst (λ (k : ℕ). is_extra report above (take k list) m ≡ false) (sym same) (subst (λ (x : MarkLine). is_extra report above (take n list) x ≡ false) mark_is not_here)
]
