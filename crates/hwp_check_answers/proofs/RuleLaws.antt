-- Where each line is in place and nothing is wrong about any answer, the rule of answers holds but for the event lines.
use Rattle.std.proofs.Common.{◌≡◌, ◌⊎◌, inl, inr, ℕ, ◌<◌, ◌≤◌, Bool, true, false, List, [], Option, Some, None, IsSomeAnd, count_by, length, option_and_then, slice_get, take, unwrap_or, refl, sym, ap, ◌∙◌, subst, true≢false, arith}
use Rattle.std.specs.List.{list_any}
use Rattle.std.proofs.lemmas.Bool.{cases_lt}
use Rattle.std.proofs.lemmas.Option.{none-some, slice_get_within}
use Rattle.hwp_check_evidence.specs.hwp_geom.declared.Cpu.{Cpu}
use Rattle.hwp_check_evidence.specs.hwp_geom.declared.Proc.{Proc}
use Rattle.hwp_check_evidence.specs.hwp_geom.declared.Who.{Who}
use Rattle.hwp_check_evidence.specs.hwp_page.declared.At.{At}
use Rattle.hwp_check_evidence.specs.hwp_page.declared.Entry.{Entry}
use Rattle.hwp_check_rules.specs.hwp_check_event_line.Scripts.{IsDeclared}
use Rattle.hwp_check_evidence.specs.hwp_script_words.declared.Command.{Command}
use Rattle.hwp_check_evidence.specs.hwp_script_words.declared.Script.{Script}
use Rattle.hwp_check_evidence.specs.hwp_report_text.declared.Answer.{Answer}
use Rattle.hwp_check_evidence.specs.hwp_report_text.declared.Answer.TheVariants as answers
use Rattle.hwp_check_evidence.specs.hwp_report_text.declared.CpuLine.{CpuLine}
use Rattle.hwp_check_evidence.specs.hwp_report_text.declared.CpuLine.TheVariants as lines
use Rattle.hwp_check_evidence.specs.hwp_report_text.declared.OfflinedLine.{OfflinedLine}
use Rattle.hwp_check_evidence.specs.hwp_report_text.declared.Report.{Report}
use Rattle.hwp_check_evidence.specs.hwp_law.Answers.{AreInWindows, IsNamed}
use Rattle.hwp_check_evidence.specs.hwp_law.Commands.{command_at, process_at, process_of_thread, thread_of}
use Rattle.hwp_check_evidence.specs.hwp_law.Endings.{EndingsStay, IsOver}
use Rattle.hwp_check_evidence.specs.hwp_law.Lines.{answer_among, rows_of}
use Rattle.hwp_check_evidence.specs.hwp_law.States.{IsInWindow, entry_named}
use Rattle.hwp_check_evidence.specs.Firsts.{is_at, names_beside}
use Rattle.hwp_check_evidence.proofs.NamedLaws.{at-is, named-at}
use Rattle.hwp_check_evidence.proofs.NameLaws.{beside-some, some-beside}
use Rattle.hwp_check_evidence.proofs.ListItems.{item_at, item_of_take}
use Rattle.hwp_check_evidence.specs.hwp_law.Offlined.{AreOfflined, IsOffline}
use Rattle.hwp_check_rules.proofs.OfflinedFaults.{lines-offlined}
use Rattle.hwp_check_rules.proofs.StandingLaws.{answer-line}
use Rattle.hwp_check_rules.specs.AnswerFaults.{IsDue}
use Rattle.hwp_check_rules.specs.Answered.{AreAnswered, HasAnswer, is_answer}
use Rattle.hwp_check_answers.specs.Disorders.{AreOrderly}
use Rattle.hwp_check_answers.specs.Facts.{at_number}
use Rattle.hwp_check_answers.specs.Judging.{IsGood}
use Rattle.hwp_check_answers.specs.Offlining.{AreAllDue, AreAllOfflined}
use Rattle.hwp_check_answers.specs.Sifting.{AreAllRight}
use Rattle.hwp_check_answers.proofs.NextLaws.{count-rises}
use Rattle.hwp_check_rules.specs.Rules.{ShapeFits, HistoriesFit}
use Rattle.hwp_check_evidence.specs.hwp_law.Copies.{AreLastStores, AreNamed, is_store}
use Rattle.hwp_check_evidence.specs.hwp_geom.declared.VSlot.{VSlot}

some-there : {A : Type 0} (o : Option A) (P : A → Type 0) → IsSomeAnd o P → (x : A) × (o ≡ Some x)
some-there None P holds = absurd holds
some-there (Some x) P holds = (x, refl)

-- an answer is over, or it isn't
over : (answer : Answer) → IsOver answer ⊎ (IsOver answer → ⊥)
over (answers.Gone page) = inl (record {})
over answers.Stopped = inl (record {})
over answer = inr (λ o. o)

-- a window that isn't refused holds
stable : (pages : List (List Entry)) (rows : List CpuLine) (who : Who) (at : At) → ((IsInWindow pages rows who at → ⊥) → ⊥) → IsInWindow pages rows who at
stable pages rows who at not-out = record {
  past_earlier = λ bt e is page own low. elim (cases_lt bt.entry at.entry) [
    | inl before ↦ before
    | inr after ↦ absurd (not-out (λ window. let less : bt.entry < at.entry = window.past_earlier bt e is page own low in omega (arith, after, less)))
  ];
  not_below = λ i seq answer bt is low named page. elim (cases_lt at.entry bt.entry) [
    | inl above ↦ absurd (not-out (λ window. let less : bt.entry ≤ at.entry = window.not_below i seq answer bt is low named page in omega (arith, above, less)))
    | inr fine ↦ fine
  ];
  before_later = λ bt e is page own high. elim (cases_lt bt.entry at.entry) [
    | inl before ↦ absurd (not-out (λ window. let less : at.entry ≤ bt.entry = window.before_later bt e is page own high in omega (arith, before, less)))
    | inr after ↦ after
  ];
}

-- earlier answers stand before
earlier-before : (commands : List Command) (rows : List CpuLine) (i j seq later : ℕ) (answer last : Answer) → AreOrderly commands rows → slice_get rows j ≡ Some (lines.Answer seq answer) → slice_get rows i ≡ Some (lines.Answer later last)
    → seq < later → j < i
earlier-before commands rows i j seq later answer last orderly one other low = elim (cases_lt j i) [
  | inl before ↦ before
  | inr after ↦
      let first : seq ≡ count_by is_answer (take j rows) = (orderly.in_place j (lines.Answer seq answer) one).of_next in
      let second : later ≡ count_by is_answer (take i rows) = (orderly.in_place i (lines.Answer later last) other).of_next in
      elim (cases_lt i j) [
        | inl rises ↦ absurd (let more : count_by is_answer (take i rows) < count_by is_answer (take j rows) = count-rises rows i j (lines.Answer later last) rises other refl in omega (arith, first, second, more, low))
        | inr most ↦ absurd (let same : i ≡ j = omega (arith, after, most) in let counts : count_by is_answer (take i rows) ≡ count_by is_answer (take j rows) = ap (λ (n : ℕ). count_by is_answer (take n rows)) same in omega (arith, first, second, counts, low))
      ]
]

module _ (script : Script) (copies : Who → Option VSlot) (report : Report) (valid : IsDeclared script) (shape : ShapeFits script report) (histories : HistoriesFit script copies report) where
  many : length script.lists ≡ length report.cpus
  many = valid.one_each ∙ sym shape.cpus

  -- a command that there is, with its list and its processor's lines
  record Made (who : Who) (command : Command) : Type 0 where
    list : List Command
    rows : List CpuLine
    of_script : slice_get script.lists who.cpu.0 ≡ Some list
    of_report : slice_get report.cpus who.cpu.0 ≡ Some rows
    there : slice_get list who.seq ≡ Some command

  made : (who : Who) (command : Command) → command_at script who ≡ Some command → Made who command
  made who command is = by (slice_get script.lists who.cpu.0) refl is
    where
      by : (o : Option (List Command)) → slice_get script.lists who.cpu.0 ≡ o → option_and_then (λ (list : List Command). slice_get list who.seq) o ≡ Some command → Made who command
      by None of there = absurd (none-some command there)
      by (Some list) of there =
          let inside : who.cpu.0 < length script.lists = slice_get_within script.lists who.cpu.0 list of in
          let same : length script.lists ≡ length report.cpus = many in
          let rows = item_at report.cpus who.cpu.0 (omega (arith, inside, same)) in
          record { list = list; rows = rows.0; of_script = of; of_report = rows.1; there = there }

  -- the list of a processor that has lines
  list-of : (cpu : Cpu) (rows : List CpuLine) → slice_get report.cpus cpu.0 ≡ Some rows → (list : List Command) × (slice_get script.lists cpu.0 ≡ Some list)
  list-of cpu rows is = item_at script.lists cpu.0 (let inside : cpu.0 < length report.cpus = slice_get_within report.cpus cpu.0 rows is in let same : length script.lists ≡ length report.cpus = many in omega (arith, inside, same))

  made-process : (who : Who) (process : Proc) → process_at script who ≡ Some process → (command : Command) × (command_at script who ≡ Some command)
  made-process who process is = by (command_at script who) refl is
    where
      by : (o : Option Command) → command_at script who ≡ o → option_and_then (process_of_thread script.layout) (option_and_then thread_of o) ≡ Some process → (command : Command) × (command_at script who ≡ Some command)
      by None at got = absurd (none-some process got)
      by (Some command) at got = (command, at)

  module _ (all : AreAllRight script copies report) where
    good-at : (cpu : Cpu) (list : List Command) (rows : List CpuLine) (row seq : ℕ) (answer : Answer) (command : Command) → slice_get script.lists cpu.0 ≡ Some list → slice_get report.cpus cpu.0 ≡ Some rows
        → slice_get rows row ≡ Some (lines.Answer seq answer) → slice_get list seq ≡ Some command → IsGood script copies report (take row rows) (at_number cpu seq) command answer
    good-at cpu list rows row seq answer command of_script of_report there is =
        all.good cpu list rows of_script of_report row (lines.Answer seq answer) (slice_get_within rows row (lines.Answer seq answer) there) there command is

    pub all_answered : AreAllOfflined script report → (cpu : Cpu) (list : List Command) (rows : List CpuLine) → slice_get script.lists cpu.0 ≡ Some list → slice_get report.cpus cpu.0 ≡ Some rows → AreAnswered script report cpu list rows
    all_answered offlined cpu list rows of_script of_report = record {
      in_place = (all.orderly cpu.0 list rows of_script of_report).in_place;
      past = λ row line there.
          let inside : line.seq < length list = ((all.orderly cpu.0 list rows of_script of_report).in_place row (lines.Offlined line) there).of_some in
          ((offlined cpu list rows of_script of_report).due row line (slice_get_within rows row (lines.Offlined line) there) there inside).past;
      each = (all.orderly cpu.0 list rows of_script of_report).each;
      right = λ row seq answer command there is. (good-at cpu list rows row seq answer command of_script of_report there is).right;
    }

    pub all_offlined : AreAllOfflined script report → (who : Who) (command : Command) → command_at script who ≡ Some command → AreOfflined script report who
    all_offlined offlined who command is = lines-offlined script report who (a.enough who.seq inside) (λ row line there own. (due-at row line (sym (at row) ∙ there) own, cause-at row line (sym (at row) ∙ there) own))
      where
        m : Made who command
        m = made who command is

        a : AreAllDue script report who.cpu m.list m.rows
        a = offlined who.cpu m.list m.rows m.of_script m.of_report

        inside : who.seq < length m.list
        inside = slice_get_within m.list who.seq command m.there

        rows_are : rows_of report who ≡ m.rows
        rows_are = ap (λ (o : Option (List CpuLine)). unwrap_or o []) m.of_report

        at : (row : ℕ) → slice_get (rows_of report who) row ≡ slice_get m.rows row
        at row = ap (λ (r : List CpuLine). slice_get r row) rows_are

        due-at : (row : ℕ) (line : OfflinedLine) → slice_get m.rows row ≡ Some (lines.Offlined line) → line.seq ≡ who.seq → IsDue script report (rows_of report who) row who line
        due-at row line there own =
            subst (λ (r : List CpuLine). IsDue script report r row who line) (sym rows_are)
            (subst (λ (n : ℕ). IsDue script report m.rows row (at_number who.cpu n) line) own
            (a.due row line (slice_get_within m.rows row (lines.Offlined line) there) there (subst (λ (n : ℕ). n < length m.list) (sym own) inside)))

        cause-at : (row : ℕ) (line : OfflinedLine) → slice_get m.rows row ≡ Some (lines.Offlined line) → line.seq ≡ who.seq → IsOffline script report who line.frame line.result
        cause-at row line there own =
            subst (λ (n : ℕ). IsOffline script report (at_number who.cpu n) line.frame line.result) own
            (all.good who.cpu m.list m.rows m.of_script m.of_report row (lines.Offlined line) (slice_get_within m.rows row (lines.Offlined line) there) there command (ap (slice_get m.list) own ∙ m.there))

    pub all_named : AreNamed copies report.pages report.cpus
    all_named at e there answering = which (is_at (entry_named has.answer) at) (list_any (names_beside e.who.seq at) m.rows) refl refl
      where
        command : (command : Command) × (command_at script e.who ≡ Some command)
        command = some-there (command_at script e.who) _ (histories.made at e there)

        m : Made e.who command.0
        m = made e.who command.0 command.1

        has : HasAnswer m.rows e.who.seq
        has = (all.orderly e.who.cpu.0 m.list m.rows m.of_script m.of_report).each e.who.seq (slice_get_within m.list e.who.seq command.0 m.there)

        good : IsGood script copies report (take has.row m.rows) (at_number e.who.cpu e.who.seq) command.0 has.answer
        good = good-at e.who.cpu m.list m.rows has.row e.who.seq has.answer command.0 m.of_script m.of_report has.there m.there

        shown : (i : ℕ) (line : CpuLine) → slice_get m.rows i ≡ Some line → IsSomeAnd (slice_get report.cpus e.who.cpu.0) (λ (rows : List CpuLine). slice_get rows i ≡ Some line)
        shown i line is = subst (λ (o : Option (List CpuLine)). IsSomeAnd o (λ (rows : List CpuLine). slice_get rows i ≡ Some line)) (sym m.of_report) is

        rows_are : rows_of report e.who ≡ m.rows
        rows_are = ap (λ (o : Option (List CpuLine)). unwrap_or o []) m.of_report

        which : (answered beside : Bool) → is_at (entry_named has.answer) at ≡ answered → list_any (names_beside e.who.seq at) m.rows ≡ beside → IsNamed report.cpus at e
        which true beside is any = (lines.Answer e.who.seq has.answer, has.row, shown has.row (lines.Answer e.who.seq has.answer) has.there, refl, at-is (entry_named has.answer) at is)
        which false true is any =
            let b = some-beside e.who.seq at m.rows any in (lines.Offlined b.line, b.i, shown b.i (lines.Offlined b.line) b.there, b.own, b.names)
        which false false is any =
            absurd (good.named (record {
              at = at;
              entry = e;
              there = there;
              own = refl;
              answering = answering;
              other = λ same. true≢false (sym (named-at (entry_named has.answer) at same) ∙ is);
              beside = λ row line at_row own names. true≢false (sym (beside-some e.who.seq at m.rows row line (subst (λ (r : List CpuLine). slice_get r row ≡ Some (lines.Offlined line)) rows_are at_row) own names) ∙ any);
            }))

    pub all_last : AreLastStores copies report
    all_last who from at copied told later e there own same_page behind = by (is_store e.what) refl
      where
        command : (command : Command) × (command_at script who ≡ Some command)
        command = subst (λ (w : Who). (command : Command) × (command_at script w ≡ Some command)) own (some-there (command_at script e.who) _ (histories.made later e there))

        m : Made who command.0
        m = made who command.0 command.1

        row : (row : ℕ) × (slice_get m.rows row ≡ Some (lines.Answer who.seq (answers.Stored at)))
        row = answer-line m.rows who.seq (answers.Stored at) (sym (ap (λ (o : Option (List CpuLine)). answer_among (unwrap_or o []) who.seq) m.of_report) ∙ told)

        good : IsGood script copies report (take row.0 m.rows) (at_number who.cpu who.seq) command.0 (answers.Stored at)
        good = good-at who.cpu m.list m.rows row.0 who.seq (answers.Stored at) command.0 m.of_script m.of_report row.1 m.there

        by : (b : Bool) → is_store e.what ≡ b → b ≡ false
        by false is = refl
        by true is = absurd (good.last (record { from = from; at = at; later = later; entry = e; copied = copied; stored = refl; there = there; own = own; same_page = same_page; behind = behind; stores = is }))

    pub all_windows : AreInWindows report.pages report.cpus
    all_windows cpu rows i seq answer at of_report there names =
        let list = list-of cpu rows of_report in
        let orderly = all.orderly cpu.0 list.0 rows list.1 of_report in
        let inside : seq < length list.0 = (orderly.in_place i (lines.Answer seq answer) there).of_some in
        let command = item_at list.0 seq inside in
        let good = good-at cpu list.0 rows i seq answer command.0 list.1 of_report there command.1 in
        let window : IsInWindow report.pages (take i rows) (at_number cpu seq) at = stable report.pages (take i rows) (at_number cpu seq) at (λ out. good.within (record { at = at; names = names; outside = out })) in
        record {
          past_earlier = window.past_earlier;
          not_below = λ j s a bt is low named page. window.not_below j s a bt (item_of_take rows i j (earlier-before list.0 rows i j s seq a answer orderly is there low) ∙ is) low named page;
          before_later = window.before_later;
        }

    pub all_endings : EndingsStay script report
    all_endings who later process answer ended earlier process_is told = elim (over answer) [
      | inl is ↦ is
      | inr wrong ↦
          let command = made-process later process process_is in
          let m = made later command.0 command.1 in
          let among : answer_among m.rows later.seq ≡ Some answer = sym (ap (λ (o : Option (List CpuLine)). answer_among (unwrap_or o []) later.seq) m.of_report) ∙ told in
          let row = answer-line m.rows later.seq answer among in
          let good = good-at later.cpu m.list m.rows row.0 later.seq answer command.0 m.of_script m.of_report row.1 m.there in
          absurd (good.stays (record { who = who; process = process; ended = ended; before = earlier; process_is = process_is; wrong = wrong }))
    ]
