-- The walk over a processor's lines.
use Rattle.std.proofs.Common.{◌≡◌, ◌↔◌, IsTrue, inl, inr, ℕ, ◌+◌, Bool, true, false, true≢false, List, Some, None, MatchBool, count_by, slice_get, take, refl, sym, ap, ◌∙◌, subst, arith, Option}
use Rattle.std.proofs.lemmas.Bool.{cases_lt}
use Rattle.std.proofs.lemmas.List.Sums.{count_by_more_no, count_by_more_yes}
use Rattle.std.proofs.lemmas.Option.{get_or_from_slice_get, none-some, same_Some, slice_get_within}
use Rattle.hwp_check_evidence.specs.hwp_geom.declared.Cpu.{Cpu}
use Rattle.hwp_check_evidence.specs.hwp_script_words.declared.Command.{Command}
use Rattle.hwp_check_evidence.specs.hwp_script_words.declared.Script.{Script}
use Rattle.hwp_check_evidence.specs.hwp_report_text.declared.CpuLine.{CpuLine}
use Rattle.hwp_check_evidence.specs.hwp_report_text.declared.CpuLine.TheVariants as lines
use Rattle.hwp_check_evidence.specs.hwp_report_text.declared.Answer.{Answer}
use Rattle.hwp_check_evidence.specs.hwp_report_text.declared.OfflinedLine.{OfflinedLine}
use Rattle.hwp_check_evidence.specs.hwp_report_text.declared.Report.{Report}
use Rattle.hwp_check_rules.specs.Answered.{is_answer}
use Rattle.hwp_check_evidence.specs.hwp_law.Offlined.{IsOffline}
use Rattle.hwp_check_answers.specs.Facts.{AreGoodRows, IsGoodRow, at_number}
use Rattle.hwp_check_answers.specs.Judging.{next_seq}
use Rattle.hwp_check_answers.specs.Values.{ProcessorValue}
use Rattle.hwp_check_answers.specs.Walk.{IsBadLine, IsGoodAt, IsGoodLine, IsWrongAt}
use Rattle.hwp_check_evidence.specs.hwp_geom.declared.VSlot.{VSlot}
use Rattle.hwp_check_evidence.specs.hwp_geom.declared.Who.{Who}

-- the number of the next command
pub next_count : (rows : List CpuLine) (row : ℕ) (line : CpuLine) → slice_get rows row ≡ Some line → next_seq (count_by is_answer (take row rows)) line ≡ count_by is_answer (take (row + 1) rows)
next_count rows row (lines.Event event) there =
    sym (count_by_more_no is_answer rows row (lines.Event event) (slice_get_within rows row (lines.Event event) there)
    (ap is_answer (get_or_from_slice_get rows row (lines.Event event) (lines.Event event) there)))
next_count rows row (lines.Offlined offlined) there =
    sym (count_by_more_no is_answer rows row (lines.Offlined offlined) (slice_get_within rows row (lines.Offlined offlined) there)
    (ap is_answer (get_or_from_slice_get rows row (lines.Offlined offlined) (lines.Offlined offlined) there)))
next_count rows row (lines.Guest guest) there =
    sym (count_by_more_no is_answer rows row (lines.Guest guest) (slice_get_within rows row (lines.Guest guest) there)
    (ap is_answer (get_or_from_slice_get rows row (lines.Guest guest) (lines.Guest guest) there)))
next_count rows row (lines.Answer seq answer) there =
    sym (count_by_more_yes is_answer rows row (lines.Answer seq answer) (slice_get_within rows row (lines.Answer seq answer) there)
    (ap is_answer (get_or_from_slice_get rows row (lines.Answer seq answer) (lines.Answer seq answer) there)))

-- one good line more
pub good_more : {copies : Who → Option VSlot} (script : Script) (report : Report) (cpu : Cpu) (commands : List Command) (rows : List CpuLine) (n : ℕ) (line : CpuLine) → slice_get rows n ≡ Some line
    → IsGoodRow script copies report cpu commands (take n rows) line → AreGoodRows script copies report cpu commands rows n → AreGoodRows script copies report cpu commands rows (n + 1)
good_more {copies = copies} script report cpu commands rows n line there good before row other less is = elim (cases_lt row n) [
  | inl low ↦ before row other low is
  | inr high ↦
      let here : row ≡ n = omega (arith, less, high) in
      let same : line ≡ other = same_Some _ _ (sym there ∙ ap (slice_get rows) (sym here) ∙ is) in
      subst (λ (m : ℕ). IsGoodRow script copies report cpu commands (take m rows) other) (sym here) (subst (λ (l : CpuLine). IsGoodRow script copies report cpu commands (take n rows) l) same good)
]

module _ (p : ProcessorValue) (number : ℕ) where
  -- a line of a command is good where the answer is, or where the report shows the cause of what came of the frame; a line of none is
  pub good_there : (seq : ℕ) (command : Command) (answer : Answer) (b : Bool) → slice_get p.commands seq ≡ Some command → MatchBool b (IsGoodAt p number seq command answer) (IsWrongAt p number seq command answer)
      → MatchBool b (IsGoodLine p number (lines.Answer seq answer)) (IsBadLine p number (lines.Answer seq answer))
  good_there seq command answer true made good = λ other is. subst (λ (c : Command). IsGoodAt p number seq c answer) (same_Some _ _ (sym made ∙ is)) good
  good_there seq command answer false made wrong = record { command = command; made = made; wrong = wrong }

  pub good_free : (seq : ℕ) (answer : Answer) → slice_get p.commands seq ≡ None → IsGoodLine p number (lines.Answer seq answer)
  good_free seq answer none other is = absurd (none-some other (sym none ∙ is))

  pub offlined_there : (line : OfflinedLine) (command : Command) (b : Bool) → slice_get p.commands line.seq ≡ Some command → (IsTrue b ↔ IsOffline p.script p.report (at_number p.cpu line.seq) line.frame line.result)
      → MatchBool b (IsGoodLine p number (lines.Offlined line)) (IsBadLine p number (lines.Offlined line))
  offlined_there line command true made iff = λ other is. iff.0 refl
  offlined_there line command false made iff = record { command = command; made = made; wrong = λ caused. true≢false (sym (iff.1 caused)) }

  pub offlined_free : (line : OfflinedLine) → slice_get p.commands line.seq ≡ None → IsGoodLine p number (lines.Offlined line)
  offlined_free line none other is = absurd (none-some other (sym none ∙ is))
