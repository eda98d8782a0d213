-- The first of the lines of answers and of events that are wrong is the first that breaks the rule of answers.
use Rattle.std.proofs.Common.{◌≡◌, ◌⊎◌, inl, inr, ℕ, ◌≤◌, min, true, Option, Some, None, MatchOption, slice_get, take, refl, sym, ◌∙◌, subst, true≢false, arith}
use Rattle.std.proofs.lemmas.Bool.{cases_lt}
use Rattle.hwp_check_rules.specs.hwp_check_event_line.Scripts.{IsDeclared}
use Rattle.hwp_check_evidence.specs.hwp_script_words.declared.Command.{Command}
use Rattle.hwp_check_evidence.specs.hwp_script_words.declared.Script.{Script}
use Rattle.hwp_check_evidence.specs.hwp_report_text.declared.CpuLine.{CpuLine}
use Rattle.hwp_check_evidence.specs.hwp_report_text.declared.CpuLine.TheVariants as lines
use Rattle.hwp_check_evidence.specs.hwp_report_text.declared.Report.{Report}
use Rattle.hwp_check_evidence.specs.hwp_law.Events.{AreEvents}
use Rattle.hwp_check_rules.specs.AnswerFaults.{IsAnswerFault, IsEventWrong, IsLineWrong, IsRowFault}
use Rattle.hwp_check_rules.specs.Answered.{is_event}
use Rattle.hwp_check_rules.specs.hwp_law.Lines.{seq_of}
use Rattle.hwp_check_rules.specs.Firsts.{IsLeast, soonest, IsFirstFault, IsClear}
use Rattle.hwp_check_rules.specs.Rules.{AnswersFit, ShapeFits, HistoriesFit}
use Rattle.hwp_check_answers.specs.Facts.{IsBadOf, at_number}
use Rattle.hwp_check_answers.specs.Joining.{BreakEvents, IsEventLine, IsWrongEvent}
use Rattle.hwp_check_answers.specs.Offlining.{AreAllOfflined, IsOfflinedLine}
use Rattle.hwp_check_answers.specs.Sifting.{AreAllRight, IsAnswerLine, IsWrongLine}
use Rattle.hwp_check_answers.proofs.BreakLaws.{line_breaks}
use Rattle.hwp_check_answers.proofs.JoinLaws.{no_answer_line}
use Rattle.hwp_check_answers.proofs.OfflinedOrder.{no_offlined, offlined_breaks}
use Rattle.hwp_check_answers.proofs.RuleLaws.{all_answered, all_endings, all_named, all_offlined, all_windows, all_last}
use Rattle.hwp_check_evidence.specs.hwp_geom.declared.VSlot.{VSlot}
use Rattle.hwp_check_evidence.specs.hwp_geom.declared.Who.{Who}

module _ (script : Script) (copies : Who → Option VSlot) (report : Report) where
  abbrev IsLine : ℕ → Type 0
  IsLine line = IsAnswerLine script copies report line ⊎ IsEventLine script copies report line ⊎ IsOfflinedLine script report line

  -- a fault of a line is one of what it says, of an event, or of a frame that isn't due
  row-line : (line : ℕ) → IsRowFault script copies report line → IsLine line
  row-line line f = elim f.wrong [
    | inl out ↦ inl (inl (inr (record { cpu = f.cpu.0; commands = f.commands; rows = f.rows; row = f.row; shown = f.shown; of_script = f.of_script; of_report = f.of_report; there = f.there; line_is = f.line_is; out = out })))
    | inr wrong ↦ by f.shown f.there wrong.0 wrong.1 wrong.2
  ]
    where
      said : (shown : CpuLine) → slice_get f.rows f.row ≡ Some shown → (command : Command) → slice_get f.commands (seq_of shown) ≡ Some command → IsBadOf script copies report f.cpu (take f.row f.rows) command shown → IsLine line
      said shown there command made wrong =
          inl (inr (record { cpu = f.cpu; commands = f.commands; rows = f.rows; row = f.row; shown = shown; command = command; of_script = f.of_script; of_report = f.of_report; there = there; made = made; line_is = f.line_is; wrong = wrong }))

      by : (shown : CpuLine) → slice_get f.rows f.row ≡ Some shown → (command : Command) → slice_get f.commands (seq_of shown) ≡ Some command → IsLineWrong script copies report f.cpu f.rows f.row shown command → IsLine line
      by (lines.Answer seq answer) there command made wrong = said (lines.Answer seq answer) there command made wrong
      by (lines.Event line) there command made wrong =
          inr (inl (inr (record {
            cpu = f.cpu;
            commands = f.commands;
            rows = f.rows;
            row = f.row;
            shown = lines.Event line;
            command = command;
            of_script = f.of_script;
            of_report = f.of_report;
            there = there;
            event = refl;
            made = made;
            line_is = f.line_is;
            wrong = wrong;
          })))
      by (lines.Offlined offlined) there command made (inl undue) =
          inr (inr (inr (inr (record { cpu = f.cpu; commands = f.commands; rows = f.rows; row = f.row; offlined = offlined; command = command; of_script = f.of_script; of_report = f.of_report; there = there; made = made; line_is = f.line_is; undue = undue }))))
      by (lines.Offlined offlined) there command made (inr uncaused) = said (lines.Offlined offlined) there command made uncaused
      by (lines.Guest guest) there command made wrong = absurd wrong

  fault-line : (line : ℕ) → IsAnswerFault script copies report line → IsLine line
  fault-line line (inl unanswered) = inl (inl (inl unanswered))
  fault-line line (inr (inl lacks)) = inr (inl (inl lacks))
  fault-line line (inr (inr (inl lacks))) = inr (inr (inr (inl lacks)))
  fault-line line (inr (inr (inr fault))) = row-line line fault

  event-row : (line : ℕ) (w : IsWrongEvent script copies report line) → IsLineWrong script copies report w.cpu w.rows w.row w.shown w.command
  event-row line w = by w.shown w.event w.wrong
    where
      by : (shown : CpuLine) → is_event shown ≡ true → IsEventWrong script copies report w.rows w.row (at_number w.cpu (seq_of shown)) w.command → IsLineWrong script copies report w.cpu w.rows w.row shown w.command
      by (lines.Event line) event wrong = wrong
      by (lines.Offlined offlined) event wrong = absurd (true≢false (sym event))
      by (lines.Guest guest) event wrong = absurd (true≢false (sym event))
      by (lines.Answer seq answer) event wrong = absurd (true≢false (sym event))

  said-row : (line : ℕ) (w : IsWrongLine script copies report line) → IsLineWrong script copies report w.cpu w.rows w.row w.shown w.command
  said-row line w = by w.shown w.wrong
    where
      by : (shown : CpuLine) → IsBadOf script copies report w.cpu (take w.row w.rows) w.command shown → IsLineWrong script copies report w.cpu w.rows w.row shown w.command
      by (lines.Answer seq answer) wrong = wrong
      by (lines.Offlined offlined) wrong = inr wrong
      by (lines.Event event) wrong = absurd wrong
      by (lines.Guest guest) wrong = absurd wrong

  row-fault : {line : ℕ} → IsRowFault script copies report line → IsAnswerFault script copies report line
  row-fault fault = inr (inr (inr fault))

  line-fault : (line : ℕ) → IsLine line → IsAnswerFault script copies report line
  line-fault line (inl (inl (inl unanswered))) = inl unanswered
  line-fault line (inl (inl (inr m))) =
      row-fault (record { cpu = record { 0 = m.cpu }; commands = m.commands; rows = m.rows; row = m.row; shown = m.shown; of_script = m.of_script; of_report = m.of_report; there = m.there; line_is = m.line_is; wrong = inl m.out })
  line-fault line (inl (inr w)) =
      row-fault (record { cpu = w.cpu; commands = w.commands; rows = w.rows; row = w.row; shown = w.shown; of_script = w.of_script; of_report = w.of_report; there = w.there; line_is = w.line_is; wrong = inr (w.command, w.made, said-row line w) })
  line-fault line (inr (inl (inl lacks))) = inr (inl lacks)
  line-fault line (inr (inl (inr w))) =
      row-fault (record { cpu = w.cpu; commands = w.commands; rows = w.rows; row = w.row; shown = w.shown; of_script = w.of_script; of_report = w.of_report; there = w.there; line_is = w.line_is; wrong = inr (w.command, w.made, event-row line w) })
  line-fault line (inr (inr (inl unanswered))) = inl unanswered.0
  line-fault line (inr (inr (inr (inl lacks)))) = inr (inr (inl lacks))
  line-fault line (inr (inr (inr (inr w)))) =
      row-fault (record {
        cpu = w.cpu;
        commands = w.commands;
        rows = w.rows;
        row = w.row;
        shown = lines.Offlined w.offlined;
        of_script = w.of_script;
        of_report = w.of_report;
        there = w.there;
        line_is = w.line_is;
        wrong = inr (w.command, w.made, inl w.undue);
      })

  module _ (valid : IsDeclared script) (shape : ShapeFits script report) (histories : HistoriesFit script copies report) (breaks : BreakEvents script copies report) where
    fits : AreAllRight script copies report → AreEvents script copies report → AreAllOfflined script report → AnswersFit script copies report
    fits all events offlined = record {
      answered = all_answered script copies report valid shape histories all offlined;
      named = all_named script copies report valid shape histories all;
      last = all_last script copies report valid shape histories all;
      windows = all_windows script copies report valid shape histories all;
      endings = all_endings script copies report valid shape histories all;
      events = events;
      offlined = all_offlined script copies report valid shape histories all offlined;
    }

    no-line : AnswersFit script copies report → (line : ℕ) → IsLine line → ⊥
    no-line fit line (inl of-answers) = line_breaks script copies report fit line of-answers
    no-line fit line (inr (inl of-events)) = breaks fit.events line of-events
    no-line fit line (inr (inr of-offlined)) = offlined_breaks script report fit line of-offlined

    broken-by : (line : ℕ) → IsLine line → ((other : ℕ) → IsLine other → line ≤ other) → IsFirstFault (AnswersFit script copies report) (IsAnswerFault script copies report) line
    broken-by line at first = record { broken = λ fit. no-line fit line at; at = line-fault line at; first = λ other fault. first other (fault-line other fault) }

    -- the lower of two first lines is the first of both kinds
    lower : (P Q R : ℕ → Type 0) (a b : ℕ) → ((line : ℕ) → P line → R line) → ((line : ℕ) → Q line → R line) → P a → Q b → R (min a b)
    lower P Q R a b of-p of-q p q = elim (cases_lt a b) [
      | inl less ↦ let is : a ≡ min a b = omega (arith, less) in subst R is (of-p a p)
      | inr less ↦ let is : b ≡ min a b = omega (arith, less) in subst R is (of-q b q)
    ]

    -- of each kind: no such line, or the first one
    abbrev Of : (ℕ → Type 0) → Type 0 → Option ℕ → Type 0
    Of P Whole found = MatchOption found Whole (IsLeast P)

    -- two kinds together
    two : (P Q : ℕ → Type 0) (A B : Type 0) (a b : Option ℕ) → (A → (line : ℕ) → P line → ⊥) → (B → (line : ℕ) → Q line → ⊥) → Of P A a → Of Q B b → Of (λ line. P line ⊎ Q line) (A × B) (soonest a b)
    two P Q A B None None no-p no-q all others = (all, others)
    two P Q A B (Some a) None no-p no-q least others = record { at = inl least.at; first = λ other of. elim of [ inl p ↦ least.first other p | inr q ↦ absurd (no-q others other q) ] }
    two P Q A B None (Some b) no-p no-q all least = record { at = inr least.at; first = λ other of. elim of [ inl p ↦ absurd (no-p all other p) | inr q ↦ least.first other q ] }
    two P Q A B (Some a) (Some b) no-p no-q one least = record {
      at = lower P Q (λ line. P line ⊎ Q line) a b (λ line p. inl p) (λ line q. inr q) one.at least.at;
      first = λ other of. elim of [
        | inl p ↦ let low : a ≤ other = one.first other p in omega (arith, low)
        | inr q ↦ let low : b ≤ other = least.first other q in omega (arith, low)
      ];
    }

    pub all_lines : (of-answers of-events of-offlined : Option ℕ) → MatchOption of-answers (AreAllRight script copies report) (IsLeast (IsAnswerLine script copies report)) → MatchOption of-events (AreEvents script copies report) (IsLeast (IsEventLine script copies report))
        → MatchOption of-offlined (AreAllOfflined script report) (IsLeast (IsOfflinedLine script report)) → MatchOption (soonest (soonest of-answers of-events) of-offlined) (IsClear (AnswersFit script copies report) (IsAnswerFault script copies report)) (IsFirstFault (AnswersFit script copies report) (IsAnswerFault script copies report))
    all_lines of-answers of-events of-offlined answers events offlined =
        by (soonest (soonest of-answers of-events) of-offlined)
        (two (λ line. IsAnswerLine script copies report line ⊎ IsEventLine script copies report line) (IsOfflinedLine script report) (AreAllRight script copies report × AreEvents script copies report) (AreAllOfflined script report) (soonest of-answers of-events) of-offlined
        (λ both line is. elim is [ inl a ↦ no_answer_line script copies report both.0 line a | inr e ↦ breaks both.1 line e ])
        (λ all line is. none-offlined all line is)
        (two (IsAnswerLine script copies report) (IsEventLine script copies report) (AreAllRight script copies report) (AreEvents script copies report) of-answers of-events (λ all line is. no_answer_line script copies report all line is) (λ all line is. breaks all line is) answers events) offlined)
      where
        none-offlined : AreAllOfflined script report → (line : ℕ) → IsOfflinedLine script report line → ⊥
        none-offlined all line is = no_offlined script report (valid.one_each ∙ sym shape.cpus) all line is

        by : (found : Option ℕ) → Of (λ line. (IsAnswerLine script copies report line ⊎ IsEventLine script copies report line) ⊎ IsOfflinedLine script report line) ((AreAllRight script copies report × AreEvents script copies report) × AreAllOfflined script report) found
            → MatchOption found (IsClear (AnswersFit script copies report) (IsAnswerFault script copies report)) (IsFirstFault (AnswersFit script copies report) (IsAnswerFault script copies report))
        by None all = let fit : AnswersFit script copies report = fits all.0.0 all.0.1 all.1 in record { fits = fit; none = λ line fault. no-line fit line (fault-line line fault) }
        by (Some line) least = broken-by line (turned line least.at) (λ other is. least.first other (back other is))
          where
            turned : (line : ℕ) → (IsAnswerLine script copies report line ⊎ IsEventLine script copies report line) ⊎ IsOfflinedLine script report line → IsLine line
            turned line (inl (inl a)) = inl a
            turned line (inl (inr e)) = inr (inl e)
            turned line (inr o) = inr (inr o)

            back : (line : ℕ) → IsLine line → (IsAnswerLine script copies report line ⊎ IsEventLine script copies report line) ⊎ IsOfflinedLine script report line
            back line (inl a) = inl (inl a)
            back line (inr (inl e)) = inl (inr e)
            back line (inr (inr o)) = inr o
