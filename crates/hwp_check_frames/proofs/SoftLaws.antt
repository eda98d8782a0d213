-- Marks of soft offlines are counted, and have as many lines of their commands as there are at most.
use Rattle.std.proofs.Common.{◌≡◌, ◌↔◌, inl, inr, ℕ, suc, ◌+◌, ◌<◌, ◌≤◌, ◌&&◌, nat_lt, Bool, true, false, cond, List, [], ◌∷◌, Some, IsTrue, count_by, get_or, length, slice_get, take, true≢false, refl, sym, ap, ◌∙◌, subst, arith}
use Rattle.std.proofs.lemmas.Bool.{cases_Bool, cases_lt, lt-ltb, ltb-true}
use Rattle.std.proofs.lemmas.List.Sums.{sum_by-cons, sum_by-take-le, sum_by_more, sum_by_more_le}
use Rattle.std.proofs.lemmas.Option.{get_or_from_slice_get, slice_get_within}
use Rattle.hwp_check_rules.specs.hwp_geom.declared.Frame.{Frame}
use Rattle.hwp_check_rules.specs.hwp_geom.declared.Who.{Who}
use Rattle.hwp_check_rules.specs.hwp_script_words.declared.Script.{Script}
use Rattle.hwp_check_rules.specs.hwp_report_text.declared.How.TheVariants as hows
use Rattle.hwp_check_rules.specs.hwp_report_text.declared.MarkLine.{MarkLine}
use Rattle.hwp_check_rules.specs.hwp_report_text.declared.MarkLine.TheVariants as marks
use Rattle.hwp_check_rules.specs.hwp_report_text.declared.Report.{Report}
use Rattle.hwp_check_rules.specs.hwp_law.Lines.{answer_of, is_same_command, marks_of}
use Rattle.hwp_check_rules.specs.hwp_law.Pairings.{is_soft_mark, is_soft_of, says_soft, soft_lines}
use Rattle.hwp_check_rules.specs.hwp_law.Commands.{command_at}
use Rattle.hwp_check_rules.specs.hwp_law.Records.{who_in}
use Rattle.hwp_check_rules.specs.MarkFaults.{IsUnsaid, lines_beside}
use Rattle.hwp_check_frames.specs.MarkScans.{AreSaid, IsSaid, IsSaidMore}
use Rattle.hwp_check_frames.specs.Softs.{marks_soft, soft_key, soft_raise}
use Rattle.hwp_check_frames.proofs.CountRises.{flag, raise-one, same-swap}
use Rattle.hwp_check_frames.proofs.FramePlaces.{and-both, and-left, and-right, same-self, same-who}

soft-most : (q : (ℕ × ℕ) × ℕ) (m : MarkLine) → soft_raise q m ≤ 1
soft-most q (marks.Poisoned cycle who (hows.Failure hardware situation outcome)) = omega arith
soft-most q (marks.Poisoned cycle who hows.Moved) = raise-one (soft_key who true) q
soft-most q (marks.Poisoned cycle who hows.TakenFree) = raise-one (soft_key who false) q
soft-most q (marks.Unpoisoned cycle who) = omega arith

softs-most : (q : (ℕ × ℕ) × ℕ) (ms : List MarkLine) → marks_soft q ms ≤ length ms
softs-most q [] = omega arith
softs-most q (m ∷ ms) =
    let all : marks_soft q (m ∷ ms) ≡ soft_raise q m + marks_soft q ms = sum_by-cons (soft_raise q) m ms in
    let one : soft_raise q m ≤ 1 = soft-most q m in
    let rest : marks_soft q ms ≤ length ms = softs-most q ms in
    omega (arith, all, one, rest)

pub softs-front : (q : (ℕ × ℕ) × ℕ) (ms : List MarkLine) (i : ℕ) → marks_soft q (take i ms) ≤ length ms
softs-front q ms i =
    let part : marks_soft q (take i ms) ≤ marks_soft q ms = sum_by-take-le (soft_raise q) ms i in
    let all : marks_soft q ms ≤ length ms = softs-most q ms in
    omega (arith, part, all)

-- a mark more
pub softs-next : (q : (ℕ × ℕ) × ℕ) (ms : List MarkLine) (i : ℕ) (d : MarkLine) (was is : ℕ) → i < length ms → is ≡ was + soft_raise q (get_or ms i d) → was ≡ marks_soft q (take i ms) → is ≡ marks_soft q (take (i + 1) ms)
softs-next q ms i d was is within counted had =
    let more : marks_soft q (take (i + 1) ms) ≡ marks_soft q (take i ms) + soft_raise q (get_or ms i d) = sum_by_more (soft_raise q) ms i d within in
    omega (arith, more, counted, had)

none : (b : Bool) → 0 ≡ flag (b && false)
none true = refl
none false = refl

soft-flag : (w : Who) (moved : Bool) (m : MarkLine) → soft_raise (soft_key w moved) m ≡ flag (is_soft_mark w moved m)
soft-flag w true (marks.Poisoned cycle v (hows.Failure hardware situation outcome)) = none (is_same_command w v)
soft-flag w false (marks.Poisoned cycle v (hows.Failure hardware situation outcome)) = none (is_same_command w v)
soft-flag w true (marks.Poisoned cycle v hows.Moved) = ap (λ (b : Bool). flag (b && true)) (same-swap v w)
soft-flag w false (marks.Poisoned cycle v hows.Moved) = ap (λ (b : Bool). flag (b && false)) (same-swap v w)
soft-flag w true (marks.Poisoned cycle v hows.TakenFree) = ap (λ (b : Bool). flag (b && false)) (same-swap v w)
soft-flag w false (marks.Poisoned cycle v hows.TakenFree) = ap (λ (b : Bool). flag (b && true)) (same-swap v w)
soft-flag w true (marks.Unpoisoned cycle v) = none (is_same_command w v)
soft-flag w false (marks.Unpoisoned cycle v) = none (is_same_command w v)

pub softs-are : (w : Who) (moved : Bool) (ms : List MarkLine) → marks_soft (soft_key w moved) ms ≡ count_by (is_soft_mark w moved) ms
softs-are w moved [] = refl
softs-are w moved (m ∷ ms) =
    let all : marks_soft (soft_key w moved) (m ∷ ms) ≡ soft_raise (soft_key w moved) m + marks_soft (soft_key w moved) ms = sum_by-cons (soft_raise (soft_key w moved)) m ms in
    let count : count_by (is_soft_mark w moved) (m ∷ ms) ≡ flag (is_soft_mark w moved m) + count_by (is_soft_mark w moved) ms = sum_by-cons (λ (x : MarkLine). flag (is_soft_mark w moved x)) m ms in
    let one : soft_raise (soft_key w moved) m ≡ flag (is_soft_mark w moved m) = soft-flag w moved m in
    let rest : marks_soft (soft_key w moved) ms ≡ count_by (is_soft_mark w moved) ms = softs-are w moved ms in
    omega (arith, all, count, one, rest)

-- the lines that say so are a command's answer and those beside it
pub lines-are : (script : Script) (report : Report) (who : Who) (frame : Frame) (moved said : Bool) (n beside : ℕ) → n ≡ cond said 1 0 → beside ≡ lines_beside report who frame.0 moved → said ≡ (is_soft_of frame (command_at script who) && says_soft moved (answer_of report who))
    → n + beside ≡ soft_lines script report who frame moved
lines-are script report who frame moved said n beside is are told =
    let own : n ≡ cond (is_soft_of frame (command_at script who) && says_soft moved (answer_of report who)) 1 0 = is ∙ ap (λ (b : Bool). cond b 1 0) told in
    omega (arith, own, are)

pub more-is : (script : Script) (report : Report) (frame : Frame) (before : List MarkLine) (who : Who) (moved : Bool) (n lines : ℕ) → n ≡ marks_soft (soft_key who moved) before → lines ≡ soft_lines script report who frame moved
    → IsTrue (nat_lt n lines) ↔ IsSaidMore script report frame before who moved
more-is script report frame before who moved n lines counted are =
    let same : n ≡ count_by (is_soft_mark who moved) before = counted ∙ softs-are who moved before in (
      λ t. let low : n < lines = ltb-true n lines t in omega (arith, same, are, low),
      λ low. lt-ltb n lines (let less : count_by (is_soft_mark who moved) before < soft_lines script report who frame moved = low in omega (arith, same, are, less)),
    )

module _ (script : Script) (report : Report) (frame : Frame) (place : ℕ) where
  abbrev before : List MarkLine
  before = take place (marks_of report frame.0)

  low-not : (who : Who) (moved : Bool) → IsSaidMore script report frame (take place (marks_of report frame.0)) who moved → soft_lines script report who frame moved ≤ count_by (is_soft_mark who moved) (take place (marks_of report frame.0)) → ⊥
  low-not who moved low beyond = let less : count_by (is_soft_mark who moved) (take place (marks_of report frame.0)) < soft_lines script report who frame moved = low in omega (arith, less, beyond)

  pub said-not : (mark : MarkLine) → IsSaid script report frame (take place (marks_of report frame.0)) mark → IsUnsaid script report frame place mark → ⊥
  said-not mark said u = by mark u.moved said u.soft u.beyond
    where
      by : (mark : MarkLine) (moved : Bool) → IsSaid script report frame (take place (marks_of report frame.0)) mark → is_soft_mark (who_in mark) moved mark ≡ true
          → soft_lines script report (who_in mark) frame moved ≤ count_by (is_soft_mark (who_in mark) moved) (take place (marks_of report frame.0)) → ⊥
      by (marks.Poisoned cycle who (hows.Failure hardware situation outcome)) true said soft beyond = true≢false (sym (and-right (is_same_command who who) false soft))
      by (marks.Poisoned cycle who (hows.Failure hardware situation outcome)) false said soft beyond = true≢false (sym (and-right (is_same_command who who) false soft))
      by (marks.Poisoned cycle who hows.Moved) true said soft beyond = low-not who true said beyond
      by (marks.Poisoned cycle who hows.Moved) false said soft beyond = true≢false (sym (and-right (is_same_command who who) false soft))
      by (marks.Poisoned cycle who hows.TakenFree) true said soft beyond = true≢false (sym (and-right (is_same_command who who) false soft))
      by (marks.Poisoned cycle who hows.TakenFree) false said soft beyond = low-not who false said beyond
      by (marks.Unpoisoned cycle who) true said soft beyond = true≢false (sym (and-right (is_same_command who who) false soft))
      by (marks.Unpoisoned cycle who) false said soft beyond = true≢false (sym (and-right (is_same_command who who) false soft))

  high-of : (who : Who) (moved : Bool) → (IsSaidMore script report frame (take place (marks_of report frame.0)) who moved → ⊥) → soft_lines script report who frame moved ≤ count_by (is_soft_mark who moved) (take place (marks_of report frame.0))
  high-of who moved not = elim (cases_lt (count_by (is_soft_mark who moved) (take place (marks_of report frame.0))) (soft_lines script report who frame moved)) [ inl low ↦ absurd (not low) | inr high ↦ high ]

  pub not-said : (mark : MarkLine) → (IsSaid script report frame (take place (marks_of report frame.0)) mark → ⊥) → IsUnsaid script report frame place mark
  not-said (marks.Poisoned cycle who (hows.Failure hardware situation outcome)) not = absurd (not (record {}))
  not-said (marks.Poisoned cycle who hows.Moved) not = record { moved = true; soft = and-both _ _ (same-self who) refl; beyond = high-of who true not }
  not-said (marks.Poisoned cycle who hows.TakenFree) not = record { moved = false; soft = and-both _ _ (same-self who) refl; beyond = high-of who false not }
  not-said (marks.Unpoisoned cycle who) not = absurd (not (record {}))

-- fewer stand before a mark that is such than there are
count-less : (p : MarkLine → Bool) (ms : List MarkLine) (place : ℕ) (mark : MarkLine) → slice_get ms place ≡ Some mark → p mark ≡ true → count_by p (take place ms) < count_by p ms
count-less p ms place mark there such =
    let inside : count_by p (take place ms) + flag (p (get_or ms place mark)) ≤ count_by p ms = sum_by_more_le (λ (y : MarkLine). flag (p y)) ms place mark (slice_get_within ms place mark there) in
    let one : flag (p (get_or ms place mark)) ≡ flag true = ap (λ (m : MarkLine). flag (p m)) (get_or_from_slice_get ms place mark mark there) ∙ ap flag such in
    omega (arith, inside, one)

-- where fewer than n stand before each mark that is such, there are n at most
count-most : (p : MarkLine → Bool) (ms : List MarkLine) (b n : ℕ) → ((place : ℕ) (mark : MarkLine) → slice_get ms place ≡ Some mark → p mark ≡ true → b + count_by p (take place ms) < n) → b ≤ n → b + count_by p ms ≤ n
count-most p [] b n each low = omega (arith, low)
count-most p (m ∷ ms) b n each low = elim (cases_Bool (p m)) [
  | inl is ↦
      let one : flag (p m) ≡ flag true = ap flag is in
      let first : b + 0 < n = each 0 m refl is in
      let rest : b + 1 + count_by p ms ≤ n = count-most p ms (b + 1) n (λ place mark there such. let less : b + count_by p (m ∷ take place ms) < n = each (suc place) mark there such in let more : count_by p (m ∷ take place ms) ≡ flag (p m) + count_by p (take place ms) = cons (take place ms) in omega (arith, less, more, one)) (omega (arith, first)) in
      let all : count_by p (m ∷ ms) ≡ flag (p m) + count_by p ms = cons ms in
      omega (arith, one, rest, all)
  | inr is ↦
      let one : flag (p m) ≡ flag false = ap flag is in
      let rest : b + count_by p ms ≤ n = count-most p ms b n (λ place mark there such. let less : b + count_by p (m ∷ take place ms) < n = each (suc place) mark there such in let more : count_by p (m ∷ take place ms) ≡ flag (p m) + count_by p (take place ms) = cons (take place ms) in omega (arith, less, more, one)) low in
      let all : count_by p (m ∷ ms) ≡ flag (p m) + count_by p ms = cons ms in
      omega (arith, one, rest, all)
]
  where
    cons : (xs : List MarkLine) → count_by p (m ∷ xs) ≡ flag (p m) + count_by p xs
    cons xs = sum_by-cons (λ (y : MarkLine). flag (p y)) m xs

module _ (script : Script) (report : Report) (frame : Frame) where
  -- marks that are said each by itself are said together
  pub said-all : ((place : ℕ) (mark : MarkLine) → slice_get (marks_of report frame.0) place ≡ Some mark → IsSaid script report frame (take place (marks_of report frame.0)) mark) → AreSaid script report frame
  said-all each who moved =
      let most : 0 + count_by (is_soft_mark who moved) (marks_of report frame.0) ≤ soft_lines script report who frame moved = count-most (is_soft_mark who moved) (marks_of report frame.0) 0 (soft_lines script report who frame moved) (λ place mark there such. low place mark moved such (each place mark there)) (omega arith) in
      omega (arith, most)
    where
      own : (place : ℕ) (w : Who) (m : Bool) → who ≡ w → IsSaidMore script report frame (take place (marks_of report frame.0)) w m → 0 + count_by (is_soft_mark who m) (take place (marks_of report frame.0)) < soft_lines script report who frame m
      own place w m same more =
          let less : count_by (is_soft_mark who m) (take place (marks_of report frame.0)) < soft_lines script report who frame m = subst (λ (v : Who). IsSaidMore script report frame (take place (marks_of report frame.0)) v m) (sym same) more in
          omega (arith, less)

      low : (place : ℕ) (mark : MarkLine) (m : Bool) → is_soft_mark who m mark ≡ true → IsSaid script report frame (take place (marks_of report frame.0)) mark → 0 + count_by (is_soft_mark who m) (take place (marks_of report frame.0)) < soft_lines script report who frame m
      low place (marks.Poisoned cycle w (hows.Failure hardware situation outcome)) true soft said = absurd (true≢false (sym (and-right (is_same_command who w) false soft)))
      low place (marks.Poisoned cycle w (hows.Failure hardware situation outcome)) false soft said = absurd (true≢false (sym (and-right (is_same_command who w) false soft)))
      low place (marks.Poisoned cycle w hows.Moved) true soft said = own place w true (sym (same-who who w (and-left (is_same_command who w) true soft))) said
      low place (marks.Poisoned cycle w hows.Moved) false soft said = absurd (true≢false (sym (and-right (is_same_command who w) false soft)))
      low place (marks.Poisoned cycle w hows.TakenFree) true soft said = absurd (true≢false (sym (and-right (is_same_command who w) false soft)))
      low place (marks.Poisoned cycle w hows.TakenFree) false soft said = own place w false (sym (same-who who w (and-left (is_same_command who w) true soft))) said
      low place (marks.Unpoisoned cycle w) true soft said = absurd (true≢false (sym (and-right (is_same_command who w) false soft)))
      low place (marks.Unpoisoned cycle w) false soft said = absurd (true≢false (sym (and-right (is_same_command who w) false soft)))

  -- and the other way round
  pub all-said : AreSaid script report frame → (place : ℕ) (mark : MarkLine) → slice_get (marks_of report frame.0) place ≡ Some mark → IsSaid script report frame (take place (marks_of report frame.0)) mark
  all-said said place (marks.Poisoned cycle w (hows.Failure hardware situation outcome)) there = record {}
  all-said said place (marks.Poisoned cycle w hows.Moved) there =
      let less : count_by (is_soft_mark w true) (take place (marks_of report frame.0)) < count_by (is_soft_mark w true) (marks_of report frame.0) = count-less (is_soft_mark w true) (marks_of report frame.0) place (marks.Poisoned cycle w hows.Moved) there (and-both _ _ (same-self w) refl) in
      let most : count_by (is_soft_mark w true) (marks_of report frame.0) ≤ soft_lines script report w frame true = said w true in
      omega (arith, less, most)
  all-said said place (marks.Poisoned cycle w hows.TakenFree) there =
      let less : count_by (is_soft_mark w false) (take place (marks_of report frame.0)) < count_by (is_soft_mark w false) (marks_of report frame.0) = count-less (is_soft_mark w false) (marks_of report frame.0) place (marks.Poisoned cycle w hows.TakenFree) there (and-both _ _ (same-self w) refl) in
      let most : count_by (is_soft_mark w false) (marks_of report frame.0) ≤ soft_lines script report w frame false = said w false in
      omega (arith, less, most)
  all-said said place (marks.Unpoisoned cycle w) there = record {}
