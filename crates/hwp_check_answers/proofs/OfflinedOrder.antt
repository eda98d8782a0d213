-- The first line of a report where a frame taken out of use isn't due, or where such a line lacks.
use Rattle.std.proofs.Common.{◌≡◌, ◌⊎◌, inl, inr, ℕ, ◌+◌, ◌<◌, ◌≤◌, ◌^◌, min, Bool, true, false, true≢false, List, [], Option, Some, None, IfSome, MatchBool, MatchOption, cond, length, option_and_then, option_map, slice_get, unwrap_or, refl, sym, ap, ◌∙◌, subst, arith}
use Rattle.std.specs.List.{list_any}
use Rattle.std.specs.Option.{is_some}
use Rattle.std.proofs.lemmas.Bool.{cases_lt}
use Rattle.std.proofs.lemmas.Option.{none-some, same_Some, slice_get_within}
use Rattle.hwp_check_evidence.specs.hwp_geom.declared.Cpu.{Cpu}
use Rattle.hwp_check_evidence.specs.hwp_geom.declared.Who.{Who}
use Rattle.hwp_check_evidence.specs.hwp_script_words.declared.Command.{Command}
use Rattle.hwp_check_evidence.specs.hwp_script_words.declared.Script.{Script}
use Rattle.hwp_check_evidence.specs.hwp_report_text.declared.CpuLine.{CpuLine}
use Rattle.hwp_check_evidence.specs.hwp_report_text.declared.CpuLine.TheVariants as lines
use Rattle.hwp_check_evidence.specs.hwp_report_text.declared.Report.{Report}
use Rattle.hwp_check_evidence.specs.hwp_law.Lines.{offlined_among, offlined_of, rows_of}
use Rattle.hwp_check_evidence.specs.hwp_law.Offlined.{due_of}
use Rattle.hwp_check_evidence.specs.hwp_law.Commands.{command_at, is_watch}
use Rattle.hwp_check_evidence.proofs.ListItems.{item_at}
use Rattle.hwp_check_rules.specs.AnswerFaults.{IsDue, IsUnanswered, LacksOfflined}
use Rattle.hwp_check_rules.specs.Answered.{IsBehindEvents}
use Rattle.hwp_check_rules.specs.Firsts.{IsLeast}
use Rattle.hwp_check_rules.specs.Rules.{AnswersFit}
use Rattle.hwp_check_rules.specs.Standing.{cpu_line}
use Rattle.hwp_check_events.specs.declared.Misfits.{Misfits}
use Rattle.hwp_check_rules.proofs.OfflinedFaults.{frame-due, none-lacks}
use Rattle.hwp_check_answers.specs.Judged.{AreSuch, IsFirstOther, IsJudged, IsTold, LacksNone, LacksOne}
use Rattle.hwp_check_answers.specs.Facts.{at_number}
use Rattle.hwp_check_answers.specs.Firsts.{line_of}
use Rattle.hwp_check_answers.specs.Offlining.{AreAllDue, AreAllOfflined, AreDueTo, IsAnsweredIf, IsFirstOfflined, IsFirstUndue, IsOfflinedLine, IsUndueLine}
use Rattle.hwp_check_answers.specs.Placing.{HasNone, HaveAnswers}
use Rattle.hwp_check_rules.proofs.StandingLaws.{later-line, next-line}
use Rattle.hwp_check_evidence.specs.hwp_geom.declared.VSlot.{VSlot}

abbrev cpu_of : ℕ → Cpu
cpu_of n = record { 0 = n }

same-cpu : (a b : Cpu) → a.0 ≡ b.0 → a ≡ b
same-cpu a b is = λ i. record { 0 = is i }

-- the list of a command that there is
record HasList (script : Script) (who : Who) (command : Command) : Type 0 where
  list : List Command
  of_script : slice_get script.lists who.cpu.0 ≡ Some list
  there : slice_get list who.seq ≡ Some command

list-of : (script : Script) (who : Who) (command : Command) → command_at script who ≡ Some command → HasList script who command
list-of script who command made = by (slice_get script.lists who.cpu.0) refl made
  where
    by : (o : Option (List Command)) → slice_get script.lists who.cpu.0 ≡ o → option_and_then (λ (c : List Command). slice_get c who.seq) o ≡ Some command → HasList script who command
    by None is none = absurd (none-some command none)
    by (Some list) is there = record { list = list; of_script = is; there = there }

-- a command without an answer
pub answered-if : (commands : List Command) (rows : List CpuLine) (found : Option ℕ) → list_any is_watch commands ≡ true → MatchOption found (HaveAnswers commands rows) (HasNone commands rows) → IsAnsweredIf commands rows found
answered-if commands rows None watch each = λ w. each
answered-if commands rows (Some seq) watch none = (none, watch)

pub free-if : (commands : List Command) (rows : List CpuLine) → list_any is_watch commands ≡ false → IsAnsweredIf commands rows None
free-if commands rows plain w = absurd (true≢false (sym w ∙ plain))

pub none-lacking : (commands : List Command) (rows : List CpuLine) (found : Option ℕ) → found ≡ None → IsAnsweredIf commands rows found → list_any is_watch commands ≡ true → HaveAnswers commands rows
none-lacking commands rows found is lacks = subst (IsAnsweredIf commands rows) is lacks

module _ (script : Script) (report : Report) where
  -- where the rule holds no line is such a fault
  pub offlined_breaks : {copies : Who → Option VSlot} → AnswersFit script copies report → (line : ℕ) → IsOfflinedLine script report line → ⊥
  offlined_breaks fit line (inl (u, watch)) = u.lacks ((fit.answered u.cpu u.commands u.rows u.of_script u.of_report).each u.seq u.within)
  offlined_breaks fit line (inr (inl l)) = none-lacks script report l.who (fit.offlined l.who l.command l.made) l.lacks
  offlined_breaks fit line (inr (inr w)) =
      let who : Who = at_number w.cpu w.offlined.seq in
      let at : command_at script who ≡ Some w.command = ap (λ (o : Option (List Command)). option_and_then (λ (list : List Command). slice_get list w.offlined.seq) o) w.of_script ∙ w.made in
      let rows_are : rows_of report who ≡ w.rows = ap (λ (o : Option (List CpuLine)). unwrap_or o []) w.of_report in
      w.undue (subst (λ (r : List CpuLine). IsDue script report r w.row who w.offlined) rows_are (record {
        frame = frame-due script report who (fit.offlined who w.command at) w.row w.offlined (ap (λ (r : List CpuLine). slice_get r w.row) rows_are ∙ w.there) refl;
        past = subst (λ (r : List CpuLine). IsBehindEvents r w.row w.offlined.seq) (sym rows_are) ((fit.answered w.cpu w.commands w.rows w.of_script w.of_report).past w.row w.offlined w.there);
      }))

  -- the processors below this number are right
  abbrev pub DueUnder : ℕ → Type 0
  DueUnder n = (cpu : Cpu) (commands : List Command) (rows : List CpuLine) → cpu.0 < n → slice_get script.lists cpu.0 ≡ Some commands → slice_get report.cpus cpu.0 ≡ Some rows → AreAllDue script report cpu commands rows

  module _ (many : length script.lists ≡ length report.cpus) where
    rows-of : (cpu : Cpu) (list : List Command) → slice_get script.lists cpu.0 ≡ Some list → (rows : List CpuLine) × (slice_get report.cpus cpu.0 ≡ Some rows)
    rows-of cpu list is = item_at report.cpus cpu.0 (let inside : cpu.0 < length script.lists = slice_get_within script.lists cpu.0 list is in omega (arith, inside, many))

    pub no_offlined : AreAllOfflined script report → (line : ℕ) → IsOfflinedLine script report line → ⊥
    no_offlined all line (inl (u, watch)) = u.lacks ((all u.cpu u.commands u.rows u.of_script u.of_report).answered watch u.seq u.within)
    no_offlined all line (inr (inl l)) =
        let h = list-of script l.who l.command l.made in
        let r = rows-of l.who.cpu h.list h.of_script in
        let enough : length (due_of script report l.who) ≤ length (offlined_of report l.who) = (all l.who.cpu h.list r.0 h.of_script r.1).enough l.who.seq (slice_get_within h.list l.who.seq l.command h.there) in
        let lacks : length (offlined_of report l.who) < length (due_of script report l.who) = l.lacks in
        omega (arith, enough, lacks)
    no_offlined all line (inr (inr w)) =
        w.undue ((all w.cpu w.commands w.rows w.of_script w.of_report).due w.row w.offlined (slice_get_within w.rows w.row (lines.Offlined w.offlined) w.there) w.there (slice_get_within w.commands w.offlined.seq w.command w.made))

    pub all-due : (n : ℕ) → min (length script.lists) (length report.cpus) ≤ n → DueUnder n → AreAllOfflined script report
    all-due n most below cpu commands rows of_script of_report =
        below cpu commands rows (let within : cpu.0 < length script.lists = slice_get_within script.lists cpu.0 commands of_script in omega (arith, most, within, many)) of_script of_report

    module _ (n : ℕ) (commands : List Command) (rows : List CpuLine) (of_script : slice_get script.lists n ≡ Some commands) (of_report : slice_get report.cpus n ≡ Some rows) (below : DueUnder n) where
      pub one-due : AreAllDue script report (cpu_of n) commands rows → DueUnder (n + 1)
      one-due due cpu cs rs less one other = elim (cases_lt cpu.0 n) [
        | inl low ↦ below cpu cs rs low one other
        | inr high ↦
            let here : n ≡ cpu.0 = omega (arith, less, high) in
            let commands_are : commands ≡ cs = same_Some _ _ (sym of_script ∙ ap (slice_get script.lists) here ∙ one) in
            let rows_are : rows ≡ rs = same_Some _ _ (sym of_report ∙ ap (slice_get report.cpus) here ∙ other) in
            subst (λ (c : Cpu). AreAllDue script report c cs rs) (same-cpu (cpu_of n) cpu here)
            (subst (λ (c : List Command). AreAllDue script report (cpu_of n) c rs) commands_are (subst (λ (r : List CpuLine). AreAllDue script report (cpu_of n) commands r) rows_are due))
      ]

      which : (cpu : ℕ) → (cpu < n) ⊎ ((n ≡ cpu) ⊎ (n < cpu))
      which cpu = elim (cases_lt cpu n) [
        | inl low ↦ inl low
        | inr high ↦ elim (cases_lt n cpu) [
          | inl later ↦ inr (inr later)
          | inr most ↦ inr (inl (let e : n ≡ cpu = omega (arith, high, most) in e))
        ]
      ]

      -- no fault stands on an earlier processor
      from-here : (cpu : ℕ) → ((cpu < n) → ⊥) → cpu_line report n ≤ cpu_line report cpu
      from-here cpu not_low = elim (cases_lt cpu n) [
        | inl low ↦ absurd (not_low low)
        | inr high ↦ later-line report n cpu high
      ]

      none-below-u : {line : ℕ} (u : IsUnanswered script report line) → list_any is_watch u.commands ≡ true → u.cpu.0 < n → ⊥
      none-below-u u watch low = u.lacks ((below u.cpu u.commands u.rows low u.of_script u.of_report).answered watch u.seq u.within)

      none-below-l : {line : ℕ} (l : LacksOfflined script report line) → l.who.cpu.0 < n → ⊥
      none-below-l l low =
          let h = list-of script l.who l.command l.made in
          let r = rows-of l.who.cpu h.list h.of_script in
          let enough : length (due_of script report l.who) ≤ length (offlined_of report l.who) = (below l.who.cpu h.list r.0 low h.of_script r.1).enough l.who.seq (slice_get_within h.list l.who.seq l.command h.there) in
          let lacks : length (offlined_of report l.who) < length (due_of script report l.who) = l.lacks in
          omega (arith, enough, lacks)

      none-below-w : {line : ℕ} (w : IsUndueLine script report line) → w.cpu.0 < n → ⊥
      none-below-w w low =
          w.undue ((below w.cpu w.commands w.rows low w.of_script w.of_report).due w.row w.offlined (slice_get_within w.rows w.row (lines.Offlined w.offlined) w.there) w.there (slice_get_within w.commands w.offlined.seq w.command w.made))

      above-heading : (other : ℕ) → IsOfflinedLine script report other → cpu_line report n ≤ other
      above-heading other (inl (u, watch)) = let l : cpu_line report n ≤ cpu_line report u.cpu.0 = from-here u.cpu.0 (none-below-u u watch) in let is : other ≡ cpu_line report u.cpu.0 = u.line_is in omega (arith, l, is)
      above-heading other (inr (inl l)) = let up : cpu_line report n ≤ cpu_line report l.who.cpu.0 = from-here l.who.cpu.0 (none-below-l l) in let is : other ≡ cpu_line report l.who.cpu.0 = l.line_is in omega (arith, up, is)
      above-heading other (inr (inr w)) = let up : cpu_line report n ≤ cpu_line report w.cpu.0 = from-here w.cpu.0 (none-below-w w) in let is : other ≡ cpu_line report w.cpu.0 + 1 + w.row = w.line_is in omega (arith, up, is)

      behind : (row cpu other : ℕ) → row < length rows → n < cpu → cpu_line report cpu ≤ other → cpu_line report n + 1 + row ≤ other
      behind row cpu other within less at =
          let next : cpu_line report (n + 1) ≡ cpu_line report n + 1 + length rows = next-line report n rows of_report in
          let after : cpu_line report (n + 1) ≤ cpu_line report cpu = later-line report (n + 1) cpu (omega (arith, less)) in
          omega (arith, next, after, within, at)

      commands-are : (cpu : Cpu) (cs : List Command) → n ≡ cpu.0 → slice_get script.lists cpu.0 ≡ Some cs → commands ≡ cs
      commands-are cpu cs here one = same_Some _ _ (sym of_script ∙ ap (slice_get script.lists) here ∙ one)

      rows-are : (cpu : Cpu) (rs : List CpuLine) → n ≡ cpu.0 → slice_get report.cpus cpu.0 ≡ Some rs → rows ≡ rs
      rows-are cpu rs here other = same_Some _ _ (sym of_report ∙ ap (slice_get report.cpus) here ∙ other)

      from-row : (row : ℕ) → IsFirstUndue script report (cpu_of n) commands rows row → (other : ℕ) → IsOfflinedLine script report other → cpu_line report n + 1 + row ≤ other
      from-row row f other (inl (u, watch)) = elim (which u.cpu.0) [
        | inl low ↦ absurd (none-below-u u watch low)
        | inr (inl here) ↦
            let cs : commands ≡ u.commands = commands-are u.cpu u.commands here u.of_script in
            let rs : rows ≡ u.rows = rows-are u.cpu u.rows here u.of_report in
            absurd (u.lacks (subst (λ (r : List CpuLine). HaveAnswers u.commands r) rs (subst (λ (c : List Command). HaveAnswers c rows) cs (f.answered (ap (list_any is_watch) cs ∙ watch))) u.seq u.within))
        | inr (inr later) ↦ behind row u.cpu.0 other (slice_get_within rows row (lines.Offlined f.line) f.there) later (let is : other ≡ cpu_line report u.cpu.0 = u.line_is in omega (arith, is))
      ]
      from-row row f other (inr (inl l)) = elim (which l.who.cpu.0) [
        | inl low ↦ absurd (none-below-l l low)
        | inr (inl here) ↦
            let h = list-of script l.who l.command l.made in
            let cs : commands ≡ h.list = commands-are l.who.cpu h.list here h.of_script in
            let inside : l.who.seq < length commands = subst (λ (c : List Command). l.who.seq < length c) (sym cs) (slice_get_within h.list l.who.seq l.command h.there) in
            let enough : length (due_of script report l.who) ≤ length (offlined_of report l.who) =
            subst (λ (c : Cpu). length (due_of script report (at_number c l.who.seq)) ≤ length (offlined_of report (at_number c l.who.seq))) (same-cpu (cpu_of n) l.who.cpu here) (f.enough l.who.seq inside) in
            let lacks : length (offlined_of report l.who) < length (due_of script report l.who) = l.lacks in
            absurd (omega (arith, enough, lacks))
        | inr (inr later) ↦ behind row l.who.cpu.0 other (slice_get_within rows row (lines.Offlined f.line) f.there) later (let is : other ≡ cpu_line report l.who.cpu.0 = l.line_is in omega (arith, is))
      ]
      from-row row f other (inr (inr w)) = elim (which w.cpu.0) [
        | inl low ↦ absurd (none-below-w w low)
        | inr (inl here) ↦ elim (cases_lt w.row row) [
          | inl before ↦
              let cs : commands ≡ w.commands = commands-are w.cpu w.commands here w.of_script in
              let rs : rows ≡ w.rows = rows-are w.cpu w.rows here w.of_report in
              let due : AreDueTo script report w.cpu w.commands w.rows row =
              subst (λ (c : Cpu). AreDueTo script report c w.commands w.rows row) (same-cpu (cpu_of n) w.cpu here)
              (subst (λ (c : List Command). AreDueTo script report (cpu_of n) c w.rows row) cs (subst (λ (r : List CpuLine). AreDueTo script report (cpu_of n) commands r row) rs f.before)) in
              absurd (w.undue (due w.row w.offlined before w.there (slice_get_within w.commands w.offlined.seq w.command w.made)))
          | inr most ↦
              let at : cpu_line report n ≡ cpu_line report w.cpu.0 = ap (cpu_line report) here in
              let is : other ≡ cpu_line report w.cpu.0 + 1 + w.row = w.line_is in
              omega (arith, at, is, most)
        ]
        | inr (inr later) ↦ behind row w.cpu.0 other (slice_get_within rows row (lines.Offlined f.line) f.there) later (let is : other ≡ cpu_line report w.cpu.0 + 1 + w.row = w.line_is in omega (arith, is))
      ]

      command-there : (seq : ℕ) → seq < length commands → (command : Command) × (slice_get commands seq ≡ Some command)
      command-there seq within = item_at commands seq within

      made-at : (seq : ℕ) (command : Command) → slice_get commands seq ≡ Some command → command_at script (at_number (cpu_of n) seq) ≡ Some command
      made-at seq command there = ap (λ (o : Option (List Command)). option_and_then (λ (list : List Command). slice_get list seq) o) of_script ∙ there

      first-due : (heading line : ℕ) → heading ≡ cpu_line report n → IsFirstOfflined script report (cpu_of n) commands rows heading line → IsLeast (IsOfflinedLine script report) line
      first-due heading line is (inl none) =
          let at : line ≡ cpu_line report n = none.1 ∙ is in
          record {
            at = inl (record { cpu = cpu_of n; commands = commands; rows = rows; seq = none.0.0; of_script = of_script; of_report = of_report; within = none.0.1.within; lacks = none.0.1.lacks; line_is = at }, none.0.2);
            first = λ other fault. let low : cpu_line report n ≤ other = above-heading other fault in omega (arith, at, low);
          }
      first-due heading line is (inr (inl lacks)) =
          let at : line ≡ cpu_line report n = lacks.1 ∙ is in
          let c = command-there lacks.0.seq lacks.0.within in
          record {
            at = inr (inl (record { who = at_number (cpu_of n) lacks.0.seq; command = c.0; made = made-at lacks.0.seq c.0 c.1; lacks = lacks.0.lacks; line_is = at }));
            first = λ other fault. let low : cpu_line report n ≤ other = above-heading other fault in omega (arith, at, low);
          }
      first-due heading line is (inr (inr undue)) =
          let at : line ≡ cpu_line report n + 1 + undue.0 = (let l : line ≡ heading + 1 + undue.0 = undue.2 in omega (arith, l, is)) in
          let f = undue.1 in
          let c = command-there f.line.seq f.within in
          record {
            at = inr (inr (record { cpu = cpu_of n; commands = commands; rows = rows; row = undue.0; offlined = f.line; command = c.0; of_script = of_script; of_report = of_report; there = f.there; made = c.1; line_is = at; undue = f.undue }));
            first = λ other fault. let low : cpu_line report n + 1 + undue.0 ≤ other = from-row undue.0 f other fault in omega (arith, at, low);
          }

      pub found-due : (heading : ℕ) (found : Option ℕ) → heading ≡ cpu_line report n → is_some found ≡ true → MatchOption found (AreAllDue script report (cpu_of n) commands rows) (IsFirstOfflined script report (cpu_of n) commands rows heading)
          → MatchOption found (AreAllOfflined script report) (IsLeast (IsOfflinedLine script report))
      found-due heading None is some due = absurd (true≢false (sym some))
      found-due heading (Some line) is some first = first-due heading line is first

  -- what was found of a processor
  pub due-none : (cpu : Cpu) (commands : List Command) (rows : List CpuLine) (heading : ℕ) (found : Option ℕ) → found ≡ None → MatchOption found (AreAllDue script report cpu commands rows) (IsFirstOfflined script report cpu commands rows heading) → AreAllDue script report cpu commands rows
  due-none cpu commands rows heading found none is = subst (λ (o : Option ℕ). MatchOption o (AreAllDue script report cpu commands rows) (IsFirstOfflined script report cpu commands rows heading)) none is

  pub judged-line : (cpu : Cpu) (commands : List Command) (rows : List CpuLine) (heading : ℕ) (found : Misfits) → slice_get report.cpus cpu.0 ≡ Some rows → (list_any is_watch commands ≡ true → HaveAnswers commands rows) → IsJudged script report cpu commands rows found
      → MatchOption (line_of found heading) (AreAllDue script report cpu commands rows) (IsFirstOfflined script report cpu commands rows heading)
  judged-line cpu commands rows heading found of_report answered judged = by found.lacks found.wrong judged.lacks judged.wrong
    where
      rows_are : rows_of report (at_number cpu 0) ≡ rows
      rows_are = ap (λ (o : Option (List CpuLine)). unwrap_or o []) of_report

      many-of : (seq : ℕ) → length (offlined_of report (at_number cpu seq)) ≡ length (offlined_among rows seq)
      many-of seq = ap (λ (r : List CpuLine). length (offlined_among r seq)) rows_are

      due-to : (n : ℕ) → AreSuch (IsTold (λ seq. due_of script report (at_number cpu seq)) rows) (length commands) rows n → AreDueTo script report cpu commands rows n
      due-to n so row line less is within = let t = so row line less is within in record { frame = t.frame; past = t.past }

      enough : LacksNone (λ seq. due_of script report (at_number cpu seq)) (length commands) rows → (seq : ℕ) → seq < length commands → length (due_of script report (at_number cpu seq)) ≤ length (offlined_of report (at_number cpu seq))
      enough none seq within = let l : length (due_of script report (at_number cpu seq)) ≤ length (offlined_among rows seq) = none seq within in let m : length (offlined_of report (at_number cpu seq)) ≡ length (offlined_among rows seq) = many-of seq in omega (arith, l, m)

      by : (lacks : Bool) (wrong : Option ℕ) → MatchBool lacks (LacksOne (λ seq. due_of script report (at_number cpu seq)) (length commands) rows) (LacksNone (λ seq. due_of script report (at_number cpu seq)) (length commands) rows)
          → MatchOption wrong (AreSuch (IsTold (λ seq. due_of script report (at_number cpu seq)) rows) (length commands) rows (length rows)) (IsFirstOther (IsTold (λ seq. due_of script report (at_number cpu seq)) rows) (length commands) rows)
          → MatchOption (cond lacks (Some heading) (option_map (λ (row : ℕ). heading + 1 + row) wrong)) (AreAllDue script report cpu commands rows) (IsFirstOfflined script report cpu commands rows heading)
      by true wrong lacks first =
          inr (inl (record { seq = lacks.seq; within = lacks.within; lacks = (let l : length (offlined_among rows lacks.seq) < length (due_of script report (at_number cpu lacks.seq)) = lacks.lacks in let m : length (offlined_of report (at_number cpu lacks.seq)) ≡ length (offlined_among rows lacks.seq) = many-of lacks.seq in omega (arith, l, m)) }, refl))
      by false None none so = record { answered = answered; due = due-to (length rows) so; enough = enough none }
      by false (Some row) none f =
          inr (inr (row, record { line = f.line; there = f.there; within = f.within; undue = λ d. f.other (record { frame = d.frame; past = d.past }); before = due-to row f.before; answered = answered; enough = enough none }, refl))

  pub heading-first : (cpu : Cpu) (commands : List Command) (rows : List CpuLine) (heading seq : ℕ) (found : Option ℕ) → found ≡ Some seq → IsAnsweredIf commands rows found → IsFirstOfflined script report cpu commands rows heading heading
  heading-first cpu commands rows heading seq found is lacks = let l : IsAnsweredIf commands rows (Some seq) = subst (IsAnsweredIf commands rows) is lacks in inl ((seq, l.0, l.1), refl)

  -- the row that was found is a line of the report
  pub row-within : (cpu : Cpu) (commands : List Command) (rows : List CpuLine) (found : Misfits) (heading : ℕ) → heading + 1 + length rows < 2 ^ 64 → IsJudged script report cpu commands rows found → IfSome found.wrong (λ (row : ℕ). heading + 1 + row < 2 ^ 64)
  row-within cpu commands rows found heading room judged = by found.wrong judged.wrong
    where
      by : (wrong : Option ℕ) → MatchOption wrong (AreSuch (IsTold (λ seq. due_of script report (at_number cpu seq)) rows) (length commands) rows (length rows)) (IsFirstOther (IsTold (λ seq. due_of script report (at_number cpu seq)) rows) (length commands) rows) → IfSome wrong (λ (row : ℕ). heading + 1 + row < 2 ^ 64)
      by None so = record {}
      by (Some row) f = let w : row < length rows = slice_get_within rows row (lines.Offlined f.line) f.there in omega (arith, w, room)
