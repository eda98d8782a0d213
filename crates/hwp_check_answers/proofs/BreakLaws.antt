-- A line that is out of place, or a wrong answer, breaks the rule of answers.
use Rattle.std.proofs.Common.{◌≡◌, IsTrue, inl, inr, ℕ, ◌<◌, List, [], Option, Some, IsSomeAnd, count_by, option_and_then, slice_get, take, unwrap_or, refl, sym, ap, ◌∙◌, subst, arith, true≢false}
use Rattle.std.proofs.lemmas.Bool.{cases_lt}
use Rattle.std.proofs.lemmas.Option.{none-some, same_Some}
use Rattle.hwp_check_evidence.specs.hwp_geom.declared.Cpu.{Cpu}
use Rattle.hwp_check_evidence.specs.hwp_geom.declared.Who.{Who}
use Rattle.hwp_check_evidence.specs.hwp_script_words.declared.Command.{Command}
use Rattle.hwp_check_evidence.specs.hwp_script_words.declared.Script.{Script}
use Rattle.hwp_check_evidence.specs.hwp_report_text.declared.Answer.{Answer}
use Rattle.hwp_check_evidence.specs.hwp_report_text.declared.Answer.TheVariants as answers
use Rattle.hwp_check_evidence.specs.hwp_report_text.declared.CpuLine.{CpuLine}
use Rattle.hwp_check_evidence.specs.hwp_report_text.declared.CpuLine.TheVariants as lines
use Rattle.hwp_check_evidence.specs.hwp_report_text.declared.Report.{Report}
use Rattle.hwp_check_evidence.specs.hwp_law.Answers.{named_in}
use Rattle.hwp_check_evidence.specs.hwp_law.Copies.{must_be_named}
use Rattle.hwp_check_evidence.specs.hwp_law.Lines.{answer_among, answer_of, rows_of, seq_of}
use Rattle.hwp_check_evidence.specs.hwp_law.States.{entry_named}
use Rattle.hwp_check_evidence.proofs.ListItems.{item_of_take, none_of_take}
use Rattle.hwp_check_rules.specs.AnswerFaults.{IsOutside, IsRevived, IsUnnamed, IsNotLast}
use Rattle.hwp_check_rules.specs.Answered.{is_answer}
use Rattle.hwp_check_rules.specs.Rules.{AnswersFit}
use Rattle.hwp_check_answers.specs.Disorders.{AreOrderly}
use Rattle.hwp_check_rules.proofs.OfflinedFaults.{line-caused}
use Rattle.hwp_check_evidence.specs.hwp_law.Commands.{command_at}
use Rattle.hwp_check_answers.specs.Facts.{IsBadOf, at_number}
use Rattle.hwp_check_answers.specs.Sifting.{IsAnswerLine}
use Rattle.hwp_check_answers.proofs.NextLaws.{count-rises, next_of}
use Rattle.hwp_check_evidence.specs.hwp_geom.declared.VSlot.{VSlot}

abbrev told_in : CpuLine → Answer
told_in (lines.Answer seq answer) = answer
told_in _ = answers.Stopped

-- an item of a front of a list is one of the list
of-take : {X : Type 0} (xs : List X) (n i : ℕ) (x : X) → slice_get (take n xs) i ≡ Some x → slice_get xs i ≡ Some x
of-take xs n i x is = elim (cases_lt i n) [
  | inl low ↦ sym (item_of_take xs n i low) ∙ is
  | inr high ↦ absurd (none-some x (sym (none_of_take xs n i high) ∙ is))
]

-- lines in place have one answer of a command
one-answer : (commands : List Command) (rows : List CpuLine) (i j seq : ℕ) (a b : Answer) → AreOrderly commands rows → slice_get rows i ≡ Some (lines.Answer seq a) → slice_get rows j ≡ Some (lines.Answer seq b) → a ≡ b
one-answer commands rows i j seq a b orderly one other = elim (cases_lt i j) [
  | inl low ↦ absurd (let rises : count_by is_answer (take i rows) < count_by is_answer (take j rows) = count-rises rows i j (lines.Answer seq a) low one refl in omega (arith, first, second, rises))
  | inr high ↦ elim (cases_lt j i) [
    | inl low ↦ absurd (let rises : count_by is_answer (take j rows) < count_by is_answer (take i rows) = count-rises rows j i (lines.Answer seq b) low other refl in omega (arith, first, second, rises))
    | inr most ↦ ap told_in (same_Some _ _ (sym one ∙ ap (slice_get rows) (let same : i ≡ j = omega (arith, high, most) in same) ∙ other))
  ]
]
  where
    first : seq ≡ count_by is_answer (take i rows)
    first = (orderly.in_place i (lines.Answer seq a) one).of_next

    second : seq ≡ count_by is_answer (take j rows)
    second = (orderly.in_place j (lines.Answer seq b) other).of_next

module _ (script : Script) (copies : Who → Option VSlot) (report : Report) (fit : AnswersFit script copies report) where
  orderly-of : (cpu : Cpu) (commands : List Command) (rows : List CpuLine) → slice_get script.lists cpu.0 ≡ Some commands → slice_get report.cpus cpu.0 ≡ Some rows → AreOrderly commands rows
  orderly-of cpu commands rows of_script of_report = let a = fit.answered cpu commands rows of_script of_report in record { in_place = a.in_place; each = a.each }

  -- a wrong answer
  record IsWrong (line : ℕ) : Type 0 where
    cpu : Cpu
    commands : List Command
    rows : List CpuLine
    row : ℕ
    seq : ℕ
    answer : Answer
    command : Command
    of_script : slice_get script.lists cpu.0 ≡ Some commands
    of_report : slice_get report.cpus cpu.0 ≡ Some rows
    there : slice_get rows row ≡ Some (lines.Answer seq answer)
    made : slice_get commands seq ≡ Some command

  -- the answer of a wrong answer's command is that
  told-is : (line : ℕ) (w : IsWrong line) → answer_of report (at_number w.cpu w.seq) ≡ Some w.answer
  told-is line w =
      let orderly = orderly-of w.cpu w.commands w.rows w.of_script w.of_report in
      let number : w.seq ≡ count_by is_answer (take w.row w.rows) = (orderly.in_place w.row (lines.Answer w.seq w.answer) w.there).of_next in
      let next = next_of w.commands w.rows w.row (lines.Answer w.seq w.answer) w.there (λ row shown less is. orderly.in_place row shown is) in
      ap (λ (o : Option (List CpuLine)). answer_among (unwrap_or o []) w.seq) w.of_report ∙ ap (answer_among w.rows) number ∙ next.first w.answer (ap (λ (n : ℕ). lines.Answer n w.answer) number)

  no-unnamed : (line : ℕ) (w : IsWrong line) → IsUnnamed copies report (at_number w.cpu w.seq) w.answer → ⊥
  no-unnamed line w u = by named.0 there named.3 named.4
    where
      named : (shown : CpuLine) × (i : ℕ) × IsSomeAnd (slice_get report.cpus w.cpu.0) (λ (rows : List CpuLine). slice_get rows i ≡ Some shown) × (seq_of shown ≡ w.seq) × (named_in shown ≡ Some u.at)
      named = subst
          (λ (who : Who). (shown : CpuLine) × (i : ℕ) × IsSomeAnd (slice_get report.cpus who.cpu.0) (λ (rows : List CpuLine). slice_get rows i ≡ Some shown) × (seq_of shown ≡ who.seq) × (named_in shown ≡ Some u.at))
          u.own (fit.named u.at u.entry u.there (subst (λ (who : Who). IsTrue (must_be_named (copies who) u.entry.what)) (sym u.own) u.answering))

      there : slice_get w.rows named.1 ≡ Some named.0
      there = subst (λ (o : Option (List CpuLine)). IsSomeAnd o (λ (rows : List CpuLine). slice_get rows named.1 ≡ Some named.0)) w.of_report named.2

      rows_are : rows_of report (at_number w.cpu w.seq) ≡ w.rows
      rows_are = ap (λ (o : Option (List CpuLine)). unwrap_or o []) w.of_report

      by : (shown : CpuLine) → slice_get w.rows named.1 ≡ Some shown → seq_of shown ≡ w.seq → named_in shown ≡ Some u.at → ⊥
      by (lines.Event event) at own names = none-some u.at names
      by (lines.Offlined offlined) at own names = u.beside named.1 offlined (subst (λ (r : List CpuLine). slice_get r named.1 ≡ Some (lines.Offlined offlined)) (sym rows_are) at) own names
      by (lines.Guest guest) at own names = none-some u.at names
      by (lines.Answer seq answer) at own names =
          u.other (ap entry_named (one-answer w.commands w.rows w.row named.1 w.seq w.answer answer (orderly-of w.cpu w.commands w.rows w.of_script w.of_report) w.there (at ∙ ap (λ (n : ℕ). Some (lines.Answer n answer)) own)) ∙ names)

  no-not-last : (line : ℕ) (w : IsWrong line) → IsNotLast copies report (at_number w.cpu w.seq) w.answer → ⊥
  no-not-last line w n =
      true≢false (sym n.stores ∙ fit.last (at_number w.cpu w.seq) n.from n.at n.copied (told-is line w ∙ ap Some n.stored) n.later n.entry n.there n.own n.same_page n.behind)

  no-outside : (line : ℕ) (w : IsWrong line) → IsOutside report (take w.row w.rows) (at_number w.cpu w.seq) w.answer → ⊥
  no-outside line w o =
      let window = fit.windows w.cpu w.rows w.row w.seq w.answer o.at w.of_report w.there o.names in
      o.outside (record {
        past_earlier = window.past_earlier;
        not_below = λ i seq answer bt is low named page. window.not_below i seq answer bt (of-take w.rows w.row i (lines.Answer seq answer) is) low named page;
        before_later = window.before_later;
      })

  no-revived : (line : ℕ) (w : IsWrong line) → IsRevived script report (at_number w.cpu w.seq) w.answer → ⊥
  no-revived line w r = r.wrong (fit.endings r.who (at_number w.cpu w.seq) r.process w.answer r.ended r.before r.process_is (told-is line w))

  pub line_breaks : (line : ℕ) → IsAnswerLine script copies report line → ⊥
  line_breaks line (inl (inl u)) = u.lacks ((fit.answered u.cpu u.commands u.rows u.of_script u.of_report).each u.seq u.within)
  line_breaks line (inl (inr m)) = m.out ((fit.answered (record { 0 = m.cpu }) m.commands m.rows m.of_script m.of_report).in_place m.row m.shown m.there)
  line_breaks line (inr w) = by w.shown w.there w.made w.wrong
    where
      by : (shown : CpuLine) → slice_get w.rows w.row ≡ Some shown → slice_get w.commands (seq_of shown) ≡ Some w.command → IsBadOf script copies report w.cpu (take w.row w.rows) w.command shown → ⊥
      by (lines.Event event) there made wrong = wrong
      by (lines.Guest guest) there made wrong = wrong
      by (lines.Offlined offlined) there made wrong =
          let at : command_at script (at_number w.cpu offlined.seq) ≡ Some w.command = ap (λ (o : Option (List Command)). option_and_then (λ (list : List Command). slice_get list offlined.seq) o) w.of_script ∙ made in
          let rows_are : rows_of report (at_number w.cpu offlined.seq) ≡ w.rows = ap (λ (o : Option (List CpuLine)). unwrap_or o []) w.of_report in
          wrong (line-caused script report (at_number w.cpu offlined.seq) (fit.offlined (at_number w.cpu offlined.seq) w.command at) w.row offlined
          (ap (λ (r : List CpuLine). slice_get r w.row) rows_are ∙ there) refl)
      by (lines.Answer seq answer) there made wrong = elim wrong [
        | inl wrong ↦ wrong ((fit.answered w.cpu w.commands w.rows w.of_script w.of_report).right w.row seq answer w.command there made)
        | inr rest ↦ elim rest [
          | inl unnamed ↦ no-unnamed line a unnamed
          | inr more ↦ elim more [
            | inl not_last ↦ no-not-last line a not_last
            | inr others ↦ elim others [
              | inl outside ↦ no-outside line a outside
              | inr revived ↦ no-revived line a revived
            ]
          ]
        ]
      ]
        where
          a : IsWrong line
          a = record { cpu = w.cpu; commands = w.commands; rows = w.rows; row = w.row; seq = seq; answer = answer; command = w.command; of_script = w.of_script; of_report = w.of_report; there = there; made = made }
