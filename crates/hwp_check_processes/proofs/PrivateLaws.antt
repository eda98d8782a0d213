-- The processors one after another: the first line that answers a load by another word, or none does.
use Rattle.std.proofs.Common.{◌≡◌, ◌⊎◌, inl, inr, ℕ, ◌+◌, ◌<◌, ◌≤◌, min, List, [], Option, Some, None, length, option_and_then, option_map, slice_get, take, unwrap_or, refl, sym, ap, subst, ◌∙◌, arith}
use Rattle.std.proofs.lemmas.Bool.{cases_eq, cases_lt}
use Rattle.std.proofs.lemmas.Option.{none-some, same_Some, slice_get_within}
use Rattle.hwp_check_rules.specs.hwp_geom.declared.Cpu.{Cpu}
use Rattle.hwp_check_rules.specs.hwp_geom.declared.VSlot.{VSlot}
use Rattle.hwp_check_rules.specs.hwp_geom.declared.Who.{Who}
use Rattle.hwp_check_rules.specs.hwp_report_text.declared.Answer.{Answer}
use Rattle.hwp_check_rules.specs.hwp_report_text.declared.Answer.TheVariants as answers
use Rattle.hwp_check_rules.specs.hwp_report_text.declared.CpuLine.{CpuLine}
use Rattle.hwp_check_rules.specs.hwp_report_text.declared.CpuLine.TheVariants as lines
use Rattle.hwp_check_rules.specs.hwp_report_text.declared.Report.{Report}
use Rattle.hwp_check_rules.specs.hwp_script_words.declared.Command.{Command}
use Rattle.hwp_check_rules.specs.hwp_script_words.declared.Script.{Script}
use Rattle.hwp_check_rules.specs.hwp_law.Lines.{answer_among, answered}
use Rattle.hwp_check_rules.specs.hwp_law.Policies.{answered_before}
use Rattle.hwp_check_rules.specs.hwp_law.Private.{ArePrivate, freeze_from, loaded, private_word}
use Rattle.hwp_check_rules.specs.hwp_law.Commands.{command_at}
use Rattle.hwp_check_rules.specs.AnswerFaults.{IsPrivateFault}
use Rattle.hwp_check_rules.specs.Firsts.{IsLeast}
use Rattle.hwp_check_rules.specs.Standing.{cpu_line, row_line}
use Rattle.hwp_check_rules.proofs.StandingLaws.{answer-line, later-line, next-line}
use Rattle.hwp_check_processes.specs.Loads.{AreKept, AreKeptOn, IsFirstOn, IsFirstWrong, IsWordWrong, IsWrongRow, expected, word_expected}

module _ (script : Script) (report : Report) where
  abbrev Kept : Cpu → List Command → List CpuLine → Type 0
  Kept cpu list rows = AreKept script.layout report cpu list rows (answered list rows) (length rows)

  -- the processors below this number are right
  abbrev pub KeptUnder : ℕ → Type 0
  KeptUnder n = (cpu : Cpu) (list : List Command) (rows : List CpuLine) → cpu.0 < n → slice_get script.lists cpu.0 ≡ Some list → slice_get report.cpus cpu.0 ≡ Some rows → Kept cpu list rows

  -- the list and the lines of a command that was answered
  pub record Stands (who : Who) (command : Command) (answer : Answer) : Type 0 where
    pub list : List Command
    pub rows : List CpuLine
    pub of_script : slice_get script.lists who.cpu.0 ≡ Some list
    pub of_report : slice_get report.cpus who.cpu.0 ≡ Some rows
    pub made : slice_get list who.seq ≡ Some command
    pub told : answer_among rows who.seq ≡ Some answer

  stands : (who : Who) (command : Command) (answer : Answer) → command_at script who ≡ Some command → answer_among (unwrap_or (slice_get report.cpus who.cpu.0) []) who.seq ≡ Some answer → Stands who command answer
  stands who command answer made told = by (slice_get script.lists who.cpu.0) (slice_get report.cpus who.cpu.0) refl refl made told
    where
      by : (o : Option (List Command)) (q : Option (List CpuLine)) → slice_get script.lists who.cpu.0 ≡ o → slice_get report.cpus who.cpu.0 ≡ q → option_and_then (λ (l : List Command). slice_get l who.seq) o ≡ Some command
          → answer_among (unwrap_or q []) who.seq ≡ Some answer → Stands who command answer
      by None q is other at given = absurd (none-some command at)
      by (Some list) None is other at given = absurd (none-some answer given)
      by (Some list) (Some rows) is other at given = record { list = list; rows = rows; of_script = is; of_report = other; made = at; told = given }

  -- what stood before it
  before-is : {who : Who} {command : Command} {answer : Answer} (s : Stands who command answer) → answered_before script report who ≡ take who.seq (answered s.list s.rows)
  before-is {who = who} s = λ i. take who.seq (answered (unwrap_or (s.of_script i) []) (unwrap_or (s.of_report i) []))

  -- a fault is a wrong line of its processor
  abbrev WrongAt : Cpu → List Command → List CpuLine → CpuLine → Type 0
  WrongAt cpu list rows line = IsWrongRow script.layout report cpu list rows (answered list rows) line

  pub all-private : (n : ℕ) → min (length script.lists) (length report.cpus) ≤ n → KeptUnder n → ArePrivate script report
  all-private n most under who command slot line fork word at made loads frozen told = which (cases_eq word own)
    where
      own : ℕ
      own = private_word script.layout report who.cpu fork slot line (answered_before script report who)

      s : Stands who command (answers.Value word at)
      s = stands who command (answers.Value word at) made told

      row : (row : ℕ) × (slice_get s.rows row ≡ Some (lines.Answer who.seq (answers.Value word at)))
      row = answer-line s.rows who.seq (answers.Value word at) s.told

      expects : expected script.layout report who.cpu (take who.seq (answered s.list s.rows)) command ≡ Some own
      expects =
          ap (λ (p : List (Command × Answer)). expected script.layout report who.cpu p command) (sym (before-is s)) ∙ ap (option_and_then (word_expected script.layout report who.cpu (answered_before script report who))) loads
          ∙ ap (option_map (λ (f : ℕ). private_word script.layout report who.cpu f slot line (answered_before script report who))) frozen

      inside : who.cpu.0 < n
      inside =
          let a : who.cpu.0 < length script.lists = slice_get_within script.lists who.cpu.0 s.list s.of_script in
          let b : who.cpu.0 < length report.cpus = slice_get_within report.cpus who.cpu.0 s.rows s.of_report in
          omega (arith, most, a, b)

      which : (word ≡ own) ⊎ (word ≡ own → ⊥) → word ≡ own
      which (inl same) = same
      which (inr other) =
          absurd (under who.cpu s.list s.rows inside s.of_script s.of_report row.0 (lines.Answer who.seq (answers.Value word at)) (slice_get_within s.rows row.0 (lines.Answer who.seq (answers.Value word at)) row.1) row.1
          (record { seq = who.seq; word = word; at = at; line_is = refl; answered = s.told; wrong = record { command = command; own = own; made = s.made; expects = expects; other = λ is. other (sym is) } }))

  -- a fault, as a wrong line
  pub record IsAtRow (line : ℕ) : Type 0 where
    pub cpu : Cpu
    pub list : List Command
    pub rows : List CpuLine
    pub row : ℕ
    pub shown : CpuLine
    pub of_script : slice_get script.lists cpu.0 ≡ Some list
    pub of_report : slice_get report.cpus cpu.0 ≡ Some rows
    pub there : slice_get rows row ≡ Some shown
    pub wrong : WrongAt cpu list rows shown
    pub line_is : line ≡ row_line report cpu.0 row

  to-row : (line : ℕ) → IsPrivateFault script report line → IsAtRow line
  to-row line f = record {
    cpu = f.who.cpu;
    list = s.list;
    rows = s.rows;
    row = f.row;
    shown = lines.Answer f.who.seq (answers.Value f.word f.at);
    of_script = s.of_script;
    of_report = s.of_report;
    there = subst (λ (r : List CpuLine). slice_get r f.row ≡ Some (lines.Answer f.who.seq (answers.Value f.word f.at))) (same_Some f.rows s.rows (sym f.of_report ∙ s.of_report)) f.there;
    wrong = record { seq = f.who.seq; word = f.word; at = f.at; line_is = refl; answered = s.told; wrong = record { command = f.command; own = own; made = s.made; expects = expects; other = λ is. f.wrong (sym is) } };
    line_is = f.line_is;
  }
    where
      own : ℕ
      own = private_word script.layout report f.who.cpu f.fork f.slot f.at_line (answered_before script report f.who)

      s : Stands f.who f.command (answers.Value f.word f.at)
      s = stands f.who f.command (answers.Value f.word f.at) f.made f.answered

      expects : expected script.layout report f.who.cpu (take f.who.seq (answered s.list s.rows)) f.command ≡ Some own
      expects =
          ap (λ (p : List (Command × Answer)). expected script.layout report f.who.cpu p f.command) (sym (before-is s)) ∙ ap (option_and_then (word_expected script.layout report f.who.cpu (answered_before script report f.who))) f.loads
          ∙ ap (option_map (λ (k : ℕ). private_word script.layout report f.who.cpu k f.slot f.at_line (answered_before script report f.who))) f.frozen

  from-row : (line : ℕ) → IsAtRow line → IsPrivateFault script report line
  from-row line r = by (loaded w.command) refl w.expects
    where
      w : IsWordWrong script.layout report r.cpu r.list (answered r.list r.rows) r.wrong.seq r.wrong.word
      w = r.wrong.wrong

      who : Who
      who = record { cpu = r.cpu; seq = r.wrong.seq }

      before : answered_before script report who ≡ take r.wrong.seq (answered r.list r.rows)
      before = λ i. take r.wrong.seq (answered (unwrap_or (r.of_script i) []) (unwrap_or (r.of_report i) []))

      by : (o : Option (VSlot × ℕ)) → loaded w.command ≡ o → option_and_then (word_expected script.layout report r.cpu (take r.wrong.seq (answered r.list r.rows))) o ≡ Some w.own → IsPrivateFault script report line
      by None is none = absurd (none-some w.own none)
      by (Some spot) is expects = frozen (freeze_from script.layout spot.0 0 (take r.wrong.seq (answered r.list r.rows))) refl expects
        where
          frozen : (o : Option ℕ) → freeze_from script.layout spot.0 0 (take r.wrong.seq (answered r.list r.rows)) ≡ o
              → option_map (λ (f : ℕ). private_word script.layout report r.cpu f spot.0 spot.1 (take r.wrong.seq (answered r.list r.rows))) o ≡ Some w.own → IsPrivateFault script report line
          frozen None at none = absurd (none-some w.own none)
          frozen (Some fork) at own = record {
            who = who;
            command = w.command;
            slot = spot.0;
            at_line = spot.1;
            fork = fork;
            word = r.wrong.word;
            at = r.wrong.at;
            rows = r.rows;
            row = r.row;
            made = ap (option_and_then (λ (l : List Command). slice_get l r.wrong.seq)) r.of_script ∙ w.made;
            loads = is;
            frozen = ap (freeze_from script.layout spot.0 0) before ∙ at;
            answered = ap (λ (o : Option (List CpuLine)). answer_among (unwrap_or o []) r.wrong.seq) r.of_report ∙ r.wrong.answered;
            of_report = r.of_report;
            there = r.there ∙ ap Some r.wrong.line_is;
            line_is = r.line_is;
            wrong = λ same.
                w.other (sym (same_Some _ _ own) ∙ ap (private_word script.layout report r.cpu fork spot.0 spot.1) (sym before) ∙ sym same);
          }

  -- the first wrong line of the first processor that has one
  pub first-fault : (n heading row : ℕ) (list : List Command) (rows : List CpuLine) → slice_get script.lists n ≡ Some list → slice_get report.cpus n ≡ Some rows → heading ≡ cpu_line report n → KeptUnder n
      → IsFirstWrong script.layout report (record { 0 = n }) list rows (answered list rows) row → IsLeast (IsPrivateFault script report) (heading + 1 + row)
  first-fault n heading row list rows of_script of_report heading_is under f = record {
    at = from-row (heading + 1 + row) (record {
      cpu = record { 0 = n };
      list = list;
      rows = rows;
      row = row;
      shown = f.line;
      of_script = of_script;
      of_report = of_report;
      there = f.there;
      wrong = f.wrong;
      line_is = ap (λ (h : ℕ). h + 1 + row) heading_is;
    });
    first = λ other fault. least other (to-row other fault);
  }
    where
      least : (other : ℕ) → IsAtRow other → heading + 1 + row ≤ other
      least other r = elim (cases_lt r.cpu.0 n) [
        | inl low ↦ absurd (under r.cpu r.list r.rows low r.of_script r.of_report r.row r.shown (slice_get_within r.rows r.row r.shown r.there) r.there r.wrong)
        | inr high ↦ elim (cases_lt n r.cpu.0) [
          | inl later ↦
              let next : cpu_line report (n + 1) ≡ cpu_line report n + 1 + length rows = next-line report n rows of_report in
              let rises : cpu_line report (n + 1) ≤ cpu_line report r.cpu.0 = later-line report (n + 1) r.cpu.0 (omega (arith, later)) in
              let inside : row < length rows = slice_get_within rows row f.line f.there in
              let is : other ≡ cpu_line report r.cpu.0 + 1 + r.row = r.line_is in
              omega (arith, next, rises, inside, is, heading_is)
          | inr most ↦ own-row (let here : n ≡ r.cpu.0 = omega (arith, high, most) in here)
        ]
      ]
        where
          own-row : n ≡ r.cpu.0 → heading + 1 + row ≤ other
          own-row here = elim (cases_lt r.row row) [
            | inl low ↦ absurd (f.before r.row r.shown low there wrong)
            | inr high ↦
                let is : other ≡ cpu_line report r.cpu.0 + 1 + r.row = r.line_is in
                let at : cpu_line report n ≡ cpu_line report r.cpu.0 = ap (cpu_line report) here in
                omega (arith, is, at, high, heading_is)
          ]
            where
              lists : r.list ≡ list
              lists = same_Some _ _ (sym r.of_script ∙ ap (slice_get script.lists) (sym here) ∙ of_script)

              rows_are : r.rows ≡ rows
              rows_are = same_Some _ _ (sym r.of_report ∙ ap (slice_get report.cpus) (sym here) ∙ of_report)

              there : slice_get rows r.row ≡ Some r.shown
              there = subst (λ (x : List CpuLine). slice_get x r.row ≡ Some r.shown) rows_are r.there

              wrong : WrongAt (record { 0 = n }) list rows r.shown
              wrong = subst (λ (c : Cpu). WrongAt c list rows r.shown) (λ i. record { 0 = sym here i }) (subst (λ (l : List Command). WrongAt r.cpu l rows r.shown) lists (subst (λ (x : List CpuLine). WrongAt r.cpu r.list x r.shown) rows_are r.wrong))

  -- ---- as the processors are judged one after another

  pub first-on : (cpu : Cpu) (list : List Command) (rows : List CpuLine) (pairs : List (Command × Answer)) (row line : ℕ) → slice_get script.lists cpu.0 ≡ Some list → slice_get report.cpus cpu.0 ≡ Some rows → pairs ≡ answered list rows
      → IsFirstWrong script.layout report cpu list rows pairs row → line ≡ row_line report cpu.0 row → IsFirstOn script report cpu line
  first-on cpu list rows pairs row line of_script of_report are wrong line_is = record {
    list = list;
    rows = rows;
    row = row;
    of_script = of_script;
    of_report = of_report;
    wrong = subst (λ (p : List (Command × Answer)). IsFirstWrong script.layout report cpu list rows p row) are wrong;
    line_is = line_is;
  }

  pub none-under : KeptUnder 0
  none-under = λ cpu cs rs low one other. absurd (omega (arith, low))

  pub under-next : (n : ℕ) → AreKeptOn script report (record { 0 = n }) → KeptUnder n → KeptUnder (n + 1)
  under-next n on under = λ cpu cs rs less one other. elim (cases_lt cpu.0 n) [
    | inl low ↦ under cpu cs rs low one other
    | inr high ↦ let here : n ≡ cpu.0 = omega (arith, less, high) in subst (AreKeptOn script report) (λ i. record { 0 = here i }) on cs rs one other
  ]

  pub fault-is : (n line : ℕ) → KeptUnder n → IsFirstOn script report (record { 0 = n }) line → IsLeast (IsPrivateFault script report) line
  fault-is n line under f = subst (IsLeast (IsPrivateFault script report)) (sym f.line_is) (first-fault n (cpu_line report n) f.row f.list f.rows f.of_script f.of_report refl under f.wrong)
