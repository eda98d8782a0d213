-- The lines of a processor where its event lines are wrong, by what was found of them.
use Rattle.std.proofs.Common.{◌≡◌, inl, inr, ℕ, ◌+◌, ◌<◌, ◌≤◌, Bool, true, false, List, [], Option, Some, None, MatchBool, MatchOption, length, slice_get, unwrap_or, refl, sym, ap, ◌∙◌, subst, arith}
use Rattle.std.specs.Option.{option_and_then}
use Rattle.std.proofs.lemmas.Option.{none-some, same_Some, slice_get_within}
use Rattle.hwp_check_evidence.specs.hwp_geom.declared.Cpu.{Cpu}
use Rattle.hwp_check_evidence.specs.hwp_script_words.declared.Command.{Command}
use Rattle.hwp_check_evidence.specs.hwp_script_words.declared.Script.{Script}
use Rattle.hwp_check_evidence.specs.hwp_report_text.declared.CpuLine.{CpuLine}
use Rattle.hwp_check_evidence.specs.hwp_report_text.declared.CpuLine.TheVariants as lines
use Rattle.hwp_check_evidence.specs.hwp_report_text.declared.Report.{Report}
use Rattle.hwp_check_evidence.specs.hwp_banks.Banks.{empty_banks}
use Rattle.hwp_check_evidence.specs.hwp_law.Events.{AreEventsFrom}
use Rattle.hwp_check_evidence.specs.hwp_law.Lines.{events_of, seq_of}
use Rattle.hwp_check_rules.specs.hwp_check_event_line.Misfits.{AreTold, IsWrong, Lacks, found_by}
use Rattle.hwp_check_events.specs.Walked.{AllRight, IsFirstRow, IsProcessorJudged, IsWalked, IsWrongRow, LacksSome, is_clean}
use Rattle.hwp_check_events.specs.declared.Misfits.{Misfits}
use Rattle.hwp_check_rules.specs.AnswerFaults.{IsEventWrong, LacksEvents}
use Rattle.hwp_check_rules.specs.Answered.{events_before, is_event}
use Rattle.hwp_check_rules.specs.Standing.{cpu_line}
use Rattle.hwp_check_answers.specs.Facts.{at_number}
use Rattle.hwp_check_answers.specs.Joining.{IsEventLine, IsWrongEvent}
use Rattle.hwp_check_answers.specs.Firsts.{line_of}
use Rattle.hwp_check_answers.proofs.Places.{IsShown, Stands, is-shown, stands}
use Rattle.hwp_check_evidence.specs.hwp_geom.declared.VSlot.{VSlot}
use Rattle.hwp_check_evidence.specs.hwp_geom.declared.Who.{Who}

abbrev pub cpu_of : ℕ → Cpu
cpu_of n = record { 0 = n }

-- where all is told as the law asks no line is wrong
pub no-lack : {copies : Who → Option VSlot} (script : Script) (report : Report) (line : ℕ) (l : LacksEvents script copies report line) (list : List Command) → slice_get script.lists l.who.cpu.0 ≡ Some list → AreTold script copies report l.who.cpu list → ⊥
no-lack script report line l list of told = (told l.who.seq l.command made).enough l.lacks
  where
    made : slice_get list l.who.seq ≡ Some l.command
    made = ap (λ (o : Option (List Command)). option_and_then (λ (c : List Command). slice_get c l.who.seq) o) (sym of) ∙ l.made

pub no-wrong : {copies : Who → Option VSlot} (script : Script) (report : Report) (line : ℕ) (w : IsWrongEvent script copies report line) → AreTold script copies report w.cpu w.commands → ⊥
no-wrong script report line w told = w.wrong.wrong.wrong ((told (seq_of w.shown) w.command w.made).right (events_before w.rows w.row (seq_of w.shown)) w.wrong.wrong.line w.wrong.wrong.there)

module _ (script : Script) (copies : Who → Option VSlot) (report : Report) (n : ℕ) (commands : List Command) (rows : List CpuLine) (of_script : slice_get script.lists n ≡ Some commands) (of_report : slice_get report.cpus n ≡ Some rows) where
  abbrev heading : ℕ
  heading = cpu_line report n

  abbrev count : ℕ
  count = length commands

  abbrev Lacking : Type 0
  Lacking = LacksSome script copies report (cpu_of n) commands rows count

  abbrev WrongAt : ℕ → Type 0
  WrongAt row = IsWrongRow script copies report (cpu_of n) commands rows count row

  -- what was found is a line of the report
  lack-line : Lacking → LacksEvents script copies report heading
  lack-line l = record {
    who = record { cpu = cpu_of n; seq = l.seq };
    command = l.command;
    made = ap (λ (o : Option (List Command)). option_and_then (λ (c : List Command). slice_get c l.seq) o) of_script ∙ l.made;
    lacks = l.lacks;
    line_is = refl;
  }

  wrong-line : (row : ℕ) → WrongAt row → IsWrongEvent script copies report (heading + 1 + row)
  wrong-line row w = record {
    cpu = cpu_of n;
    commands = commands;
    rows = rows;
    row = at.k;
    shown = lines.Event w.shown.line;
    command = w.command;
    of_script = of_script;
    of_report = of_report;
    there = at.there;
    event = refl;
    made = subst (λ (s : ℕ). slice_get commands s ≡ Some w.command) (sym at.seq_is) w.made;
    line_is = let p : w.shown.place ≡ 0 + at.k = at.place_is in let r : row ≡ w.shown.place = w.row_is in omega (arith, p, r);
    wrong = subst (λ (s : ℕ). IsEventWrong script copies report rows at.k (at_number (cpu_of n) s) w.command) (sym at.seq_is) (record {
      wrong = subst (λ (k : ℕ). IsWrong script copies report (at_number (cpu_of n) w.seq) w.command (found_by script copies report (at_number (cpu_of n) w.seq)) (events_of report (at_number (cpu_of n) w.seq)) k) (sym at.number_is) w.wrong;
    });
  }
    where
      at : Stands w.seq rows 0 w.number w.shown
      at = stands w.seq rows 0 w.number w.shown w.there

  pub row-within : (row : ℕ) → WrongAt row → row < length rows
  row-within row w =
      let at = stands w.seq rows 0 w.number w.shown w.there in
      let within : at.k < length rows = slice_get_within rows at.k (lines.Event w.shown.line) at.there in
      let p : w.shown.place ≡ 0 + at.k = at.place_is in
      let r : row ≡ w.shown.place = w.row_is in
      omega (arith, within, p, r)

  -- a line of this processor is one that was to be found
  line-lack : (line : ℕ) (l : LacksEvents script copies report line) → l.who.cpu.0 ≡ n → Lacking
  line-lack line l here = by l.who.cpu (λ i. record { 0 = here i }) l.who.seq l.command l.made l.lacks
    where
      by : (cpu : Cpu) → cpu ≡ cpu_of n → (seq : ℕ) (command : Command) → option_and_then (λ (c : List Command). slice_get c seq) (slice_get script.lists cpu.0) ≡ Some command
          → Lacks script copies report (record { cpu = cpu; seq = seq }) command (found_by script copies report (record { cpu = cpu; seq = seq })) (events_of report (record { cpu = cpu; seq = seq })) → Lacking
      by cpu is seq command made lacks = record { seq = seq; command = command; within = slice_get_within commands seq command own; made = own; lacks = subst (λ (c : Cpu). Lacks script copies report (record { cpu = c; seq = seq }) command (found_by script copies report (record { cpu = c; seq = seq })) (events_of report (record { cpu = c; seq = seq }))) is lacks }
        where
          own : slice_get commands seq ≡ Some command
          own = ap (λ (o : Option (List Command)). option_and_then (λ (c : List Command). slice_get c seq) o) (sym of_script ∙ ap (λ (c : Cpu). slice_get script.lists c.0) (sym is)) ∙ made

  line-wrong : (line : ℕ) (w : IsWrongEvent script copies report line) → w.cpu.0 ≡ n → WrongAt w.row
  line-wrong line w here = by w.cpu (λ i. record { 0 = here i }) w.commands w.rows w.row w.shown w.command w.of_script w.of_report w.there w.event w.made w.wrong
    where
      by : (cpu : Cpu) → cpu ≡ cpu_of n → (cs : List Command) (rs : List CpuLine) (row : ℕ) (shown : CpuLine) (command : Command) → slice_get script.lists cpu.0 ≡ Some cs → slice_get report.cpus cpu.0 ≡ Some rs → slice_get rs row ≡ Some shown
          → is_event shown ≡ true → slice_get cs (seq_of shown) ≡ Some command → IsEventWrong script copies report rs row (at_number cpu (seq_of shown)) command → WrongAt row
      by cpu is cs rs row shown command one other there event made wrong = record {
        seq = seq_of shown;
        command = command;
        number = events_before rows row (seq_of shown);
        shown = at.shown;
        within = slice_get_within commands (seq_of shown) command own;
        made = own;
        there = at.there;
        row_is = let p : at.shown.place ≡ 0 + row = at.place_is in omega (arith, p);
        wrong = own_wrong.wrong;
      }
        where
          commands_are : cs ≡ commands
          commands_are = same_Some _ _ (sym one ∙ ap (λ (c : Cpu). slice_get script.lists c.0) is ∙ of_script)

          rows_are : rs ≡ rows
          rows_are = same_Some _ _ (sym other ∙ ap (λ (c : Cpu). slice_get report.cpus c.0) is ∙ of_report)

          own : slice_get commands (seq_of shown) ≡ Some command
          own = subst (λ (c : List Command). slice_get c (seq_of shown) ≡ Some command) commands_are made

          at : IsShown (seq_of shown) rows 0 row
          at = is-shown (seq_of shown) rows 0 row shown (subst (λ (r : List CpuLine). slice_get r row ≡ Some shown) rows_are there) event refl

          own_wrong : IsEventWrong script copies report rows row (at_number (cpu_of n) (seq_of shown)) command
          own_wrong = subst (λ (c : Cpu). IsEventWrong script copies report rows row (at_number c (seq_of shown)) command) is (subst (λ (r : List CpuLine). IsEventWrong script copies report r row (at_number cpu (seq_of shown)) command) rows_are wrong)

  -- the first of them
  pub record IsFirst (line : ℕ) : Type 0 where
    pub at : IsEventLine script copies report line
    pub within : line < heading + 1 + length rows
    pub lack : (other : ℕ) (l : LacksEvents script copies report other) → l.who.cpu.0 ≡ n → line ≤ other
    pub wrong : (other : ℕ) (w : IsWrongEvent script copies report other) → w.cpu.0 ≡ n → line ≤ other

  abbrev Law : Type 0
  Law = AreEventsFrom script copies report (cpu_of n) 0 commands empty_banks

  own-walked : (found : Misfits) → IsProcessorJudged script copies report (cpu_of n) commands found → IsWalked script copies report (cpu_of n) commands rows count found
  own-walked found judged = subst (λ (o : Option (List CpuLine)). IsWalked script copies report (cpu_of n) commands (unwrap_or o []) count found) of_report judged.walked

  pub first-line : (found : Misfits) (line : ℕ) → line ≡ heading → IsProcessorJudged script copies report (cpu_of n) commands found → MatchOption (line_of found line) Law IsFirst
  first-line found line is judged = subst (λ (h : ℕ). MatchOption (line_of found h) Law IsFirst) (sym is) (by found.lacks found.wrong walked.lacks walked.wrong judged.law)
    where
      walked : IsWalked script copies report (cpu_of n) commands rows count found
      walked = own-walked found judged

      by : (a : Bool) (o : Option ℕ) → MatchBool a Lacking (Lacking → ⊥) → MatchOption o (AllRight script copies report (cpu_of n) commands rows count) (IsFirstRow script copies report (cpu_of n) commands rows count)
          → MatchBool (is_clean (record { lacks = a; wrong = o })) Law (Law → ⊥) → MatchOption (line_of (record { lacks = a; wrong = o }) heading) Law IsFirst
      by true o lacks wrong law = record {
        at = inl (lack-line lacks);
        within = omega arith;
        lack = λ other l here. let e : other ≡ cpu_line report l.who.cpu.0 = l.line_is in let h : cpu_line report l.who.cpu.0 ≡ heading = ap (cpu_line report) here in omega (arith, e, h);
        wrong = λ other w here. let e : other ≡ cpu_line report w.cpu.0 + 1 + w.row = w.line_is in let h : cpu_line report w.cpu.0 ≡ heading = ap (cpu_line report) here in omega (arith, e, h);
      }
      by false None enough right law = law
      by false (Some row) enough first law = record {
        at = inr (wrong-line row first.at);
        within = let w : row < length rows = row-within row first.at in omega (arith, w);
        lack = λ other l here. absurd (enough (line-lack other l here));
        wrong = λ other w here.
            let up : row ≤ w.row = first.first w.row (line-wrong other w here) in let e : other ≡ cpu_line report w.cpu.0 + 1 + w.row = w.line_is in
            let h : cpu_line report w.cpu.0 ≡ heading = ap (cpu_line report) here in omega (arith, up, e, h);
      }

  -- the row that was found is one of the processor's
  pub row-room : (found : Misfits) (row : ℕ) → IsProcessorJudged script copies report (cpu_of n) commands found → found.wrong ≡ Some row → row < length rows
  row-room found row judged is = by found.wrong is (own-walked found judged).wrong
    where
      by : (o : Option ℕ) → o ≡ Some row → MatchOption o (AllRight script copies report (cpu_of n) commands rows count) (IsFirstRow script copies report (cpu_of n) commands rows count) → row < length rows
      by None none right = absurd (none-some row none)
      by (Some r) same first = row-within row (subst WrongAt (same_Some _ _ same) first.at)
