-- In a report whose answers fit, an answer that says so of a soft offline has its mark; so each line has, where those beside answers have.
use Rattle.std.proofs.Common.{◌≡◌, inl, inr, ℕ, zero, suc, ◌+◌, ◌≤◌, ◌&&◌, Bool, true, false, true≢false, cond, List, [], ◌∷◌, Option, Some, None, count_by, option_and_then, slice_get, unwrap_or, refl, sym, ap, ◌∙◌, arith}
use Rattle.std.proofs.lemmas.Bool.{cases_lt, eqb-true}
use Rattle.std.proofs.lemmas.List.Sums.{sum_by-cons}
use Rattle.std.proofs.lemmas.Option.{none-some, same_Some, slice_get-get_or}
use Rattle.hwp_check_rules.specs.hwp_geom.declared.Frame.{Frame}
use Rattle.hwp_check_rules.specs.hwp_geom.declared.Who.{Who}
use Rattle.hwp_check_rules.specs.hwp_page.declared.At.{At}
use Rattle.hwp_check_rules.specs.hwp_check_event_line.Scripts.{IsDeclared}
use Rattle.hwp_check_rules.specs.hwp_script_words.declared.Command.{Command}
use Rattle.hwp_check_rules.specs.hwp_script_words.declared.Command.TheVariants as commands
use Rattle.hwp_check_rules.specs.hwp_script_words.declared.Script.{Script}
use Rattle.hwp_check_rules.specs.hwp_report_text.declared.Answer.{Answer}
use Rattle.hwp_check_rules.specs.hwp_report_text.declared.Answer.TheVariants as answers
use Rattle.hwp_check_rules.specs.hwp_report_text.declared.CpuLine.{CpuLine}
use Rattle.hwp_check_rules.specs.hwp_report_text.declared.How.{How}
use Rattle.hwp_check_rules.specs.hwp_report_text.declared.How.TheVariants as hows
use Rattle.hwp_check_rules.specs.hwp_report_text.declared.MarkLine.{MarkLine}
use Rattle.hwp_check_rules.specs.hwp_report_text.declared.Report.{Report}
use Rattle.hwp_check_rules.specs.hwp_law.Causes.{HasMark, IsCaused}
use Rattle.hwp_check_rules.specs.hwp_law.Lines.{answer_among, answer_of, is_same_command, marks_of}
use Rattle.hwp_check_rules.specs.hwp_law.Pairings.{is_move, is_soft_mark, is_soft_of, is_take, says_soft, soft_lines}
use Rattle.hwp_check_rules.specs.hwp_law.Commands.{command_at}
use Rattle.hwp_check_rules.specs.hwp_law.Records.{how_in, is_moved, is_taken}
use Rattle.hwp_check_rules.proofs.of_hwp_law.Extents.{answer_there}
use Rattle.hwp_check_rules.specs.MarkFaults.{IsSoftBeyond, lines_beside}
use Rattle.hwp_check_rules.specs.Standing.{frame_line}
use Rattle.hwp_check_rules.specs.Rules.{ShapeFits, AreAllAnswered}
use Rattle.hwp_check_rules.proofs.Lawful.{both_there}
use Rattle.hwp_check_frames.proofs.FramePlaces.{and-both, and-left, and-right, same-self}

abbrev flag : Bool → ℕ
flag b = cond b 1 0

-- a mark that is such counts
one-such : (p : MarkLine → Bool) (ms : List MarkLine) (i : ℕ) (m : MarkLine) → slice_get ms i ≡ Some m → p m ≡ true → 1 ≤ count_by p ms
one-such p [] i m there such = absurd (none-some m there)
one-such p (x ∷ xs) zero m there such =
    let all : count_by p (x ∷ xs) ≡ flag (p x) + count_by p xs = sum_by-cons (λ (y : MarkLine). flag (p y)) x xs in
    let one : flag (p x) ≡ flag true = ap (λ (y : MarkLine). flag (p y)) (same_Some _ _ there) ∙ ap flag such in
    omega (arith, all, one)
one-such p (x ∷ xs) (suc i) m there such =
    let all : count_by p (x ∷ xs) ≡ flag (p x) + count_by p xs = sum_by-cons (λ (y : MarkLine). flag (p y)) x xs in
    let rest : 1 ≤ count_by p xs = one-such p xs i m there such in
    omega (arith, all, rest)

is-soft : (frame : Frame) (o : Option Command) → is_soft_of frame o ≡ true → o ≡ Some (commands.Soft frame)
is-soft frame None is = absurd (true≢false (sym is))
is-soft frame (Some (commands.Soft other)) is = ap (λ (n : ℕ). Some (commands.Soft (record { 0 = n }))) (eqb-true other.0 frame.0 is)
is-soft frame (Some _) is = absurd (true≢false (sym is))

record IsMovedTo (o : Option Answer) : Type 0 where
  to : Frame
  at : At
  is : o ≡ Some (answers.Moved to at)

moved-to : (o : Option Answer) → is_moved o ≡ true → IsMovedTo o
moved-to None is = absurd (true≢false (sym is))
moved-to (Some (answers.Moved to at)) is = record { to = to; at = at; is = refl }
moved-to (Some _) is = absurd (true≢false (sym is))

taken-is : (o : Option Answer) → is_taken o ≡ true → o ≡ Some answers.TakenFree
taken-is None is = absurd (true≢false (sym is))
taken-is (Some answers.TakenFree) is = refl
taken-is (Some _) is = absurd (true≢false (sym is))

module _ (script : Script) (report : Report) (valid : IsDeclared script) (shape : ShapeFits script report) (answered : AreAllAnswered script report) where
  -- the answer of a command has its cause
  caused : (who : Who) (command : Command) (answer : Answer) → command_at script who ≡ Some command → answer_of report who ≡ Some answer → IsCaused script report who command answer
  caused who command answer made told = by (slice_get report.cpus who.cpu.0) refl
    where
      by : (o : Option (List CpuLine)) → slice_get report.cpus who.cpu.0 ≡ o → IsCaused script report who command answer
      by None is = absurd (none-some answer (sym (ap (λ (o : Option (List CpuLine)). answer_among (unwrap_or o []) who.seq) is) ∙ told))
      by (Some rows) is =
          let list = both_there report.cpus script.lists who.cpu.0 rows (shape.cpus ∙ sym valid.one_each) is in
          let row = answer_there rows who.seq answer (sym (ap (λ (o : Option (List CpuLine)). answer_among (unwrap_or o []) who.seq) is) ∙ told) in
          let own : slice_get list.0 who.seq ≡ Some command = sym (ap (λ (o : Option (List Command)). option_and_then (λ (l : List Command). slice_get l who.seq) o) list.1) ∙ made in
          ((answered who.cpu list.0 rows list.1 is).right row.0 who.seq answer command row.1 own).shown

  -- the mark counts
  has-one : (who : Who) (frame : Frame) (moved : Bool) (how : How) → cond moved hows.Moved hows.TakenFree ≡ how → HasMark report who frame (λ (m : MarkLine). how_in m ≡ Some how) → 1 ≤ count_by (is_soft_mark who moved) (marks_of report frame.0)
  has-one who frame moved how is has =
      one-such (is_soft_mark who moved) (marks_of report frame.0) has.0 has.1 (slice_get-get_or (marks_of report frame.0) has.0 has.1 has.2 ∙ ap Some has.3)
      (and-both _ _ (ap (is_same_command who) has.4.0 ∙ same-self who) (by moved (has.4.1 ∙ ap Some (sym is))))
    where
      by : (b : Bool) → how_in has.1 ≡ Some (cond b hows.Moved hows.TakenFree) → cond b (is_move (how_in has.1)) (is_take (how_in has.1)) ≡ true
      by true told = ap is_move told
      by false told = ap is_take told

  answered-low : (who : Who) (frame : Frame) (moved : Bool) → is_soft_of frame (command_at script who) ≡ true → says_soft moved (answer_of report who) ≡ true → 1 ≤ count_by (is_soft_mark who moved) (marks_of report frame.0)
  answered-low who frame true soft told =
      let to = moved-to (answer_of report who) told in
      has-one who frame true hows.Moved refl (caused who (commands.Soft frame) (answers.Moved to.to to.at) (is-soft frame (command_at script who) soft) to.is).1.1
  answered-low who frame false soft told =
      has-one who frame false hows.TakenFree refl (caused who (commands.Soft frame) answers.TakenFree (is-soft frame (command_at script who) soft) (taken-is (answer_of report who) told)).1

  -- where lines beside an answer have their marks
  pub softs_low : ((line : ℕ) → IsSoftBeyond script report line → ⊥) → (who : Who) (frame : Frame) (moved : Bool) → soft_lines script report who frame moved ≤ count_by (is_soft_mark who moved) (marks_of report frame.0)
  softs_low none who frame moved = elim (cases_lt 0 (lines_beside report who frame.0 moved)) [
    | inl some ↦ elim (cases_lt (count_by (is_soft_mark who moved) (marks_of report frame.0)) (soft_lines script report who frame moved)) [
      | inl less ↦ absurd (none (frame_line report frame.0) (record { frame = frame; who = who; moved = moved; beside = some; line_is = refl; beyond = less }))
      | inr most ↦ most
    ]
    | inr few ↦ by (is_soft_of frame (command_at script who) && says_soft moved (answer_of report who)) refl few
  ]
    where
      by : (b : Bool) → (is_soft_of frame (command_at script who) && says_soft moved (answer_of report who)) ≡ b → lines_beside report who frame.0 moved ≤ 0 → soft_lines script report who frame moved ≤ count_by (is_soft_mark who moved) (marks_of report frame.0)
      by false is few = let none_said : flag (is_soft_of frame (command_at script who) && says_soft moved (answer_of report who)) ≡ 0 = ap flag is in omega (arith, none_said, few)
      by true is few =
          let one : flag (is_soft_of frame (command_at script who) && says_soft moved (answer_of report who)) ≡ 1 = ap flag is in
          let low : 1 ≤ count_by (is_soft_mark who moved) (marks_of report frame.0) = answered-low who frame moved (and-left (is_soft_of frame (command_at script who)) (says_soft moved (answer_of report who)) is) (and-right (is_soft_of frame (command_at script who)) (says_soft moved (answer_of report who)) is) in
          omega (arith, one, few, low)
