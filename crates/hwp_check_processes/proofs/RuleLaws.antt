-- The processors one after another: the first line of a report that breaks the rule of guests, or none does.
use Rattle.std.proofs.Common.{◌≡◌, inl, inr, ℕ, zero, suc, ◌+◌, ◌<◌, ◌≤◌, min, Bool, false, List, [], ◌∷◌, Option, Some, None, if◌then◌else◌, get_or, length, option_and_then, option_map, slice_get, slice_index_or, take, refl, sym, ap, subst, ◌∙◌, arith}
use Rattle.std.specs.List.{cons_option, list_any}
use Rattle.std.proofs.lemmas.Bool.{cases_lt, or_parts}
use Rattle.std.proofs.lemmas.Option.{none-some, same_Some, slice_get_within}
use Rattle.hwp_check_rules.specs.hwp_geom.Layout.{has_guests, is_guest}
use Rattle.hwp_check_rules.specs.hwp_geom.declared.Cpu.{Cpu}
use Rattle.hwp_check_rules.specs.hwp_geom.declared.Layout.{Layout}
use Rattle.hwp_check_rules.specs.hwp_geom.declared.Proc.{Proc}
use Rattle.hwp_check_rules.specs.hwp_report_text.declared.Answer.{Answer}
use Rattle.hwp_check_rules.specs.hwp_report_text.declared.Answer.TheVariants as answers
use Rattle.hwp_check_rules.specs.hwp_report_text.declared.CpuLine.{CpuLine}
use Rattle.hwp_check_rules.specs.hwp_report_text.declared.CpuLine.TheVariants as lines
use Rattle.hwp_check_rules.specs.hwp_report_text.declared.Report.{Report}
use Rattle.hwp_check_rules.specs.hwp_script_words.declared.Command.{Command}
use Rattle.hwp_check_rules.specs.hwp_script_words.declared.Script.{Script}
use Rattle.hwp_check_rules.specs.hwp_law.Guests.{DoesNothing}
use Rattle.hwp_check_rules.specs.hwp_law.Lines.{answered}
use Rattle.hwp_check_rules.specs.hwp_law.Commands as access
use Rattle.hwp_check_rules.specs.hwp_law.Commands.{access_of, arrival_of, process_of_thread}
use Rattle.hwp_check_rules.specs.hwp_law.declared.GuestAccess.{GuestAccess}
use Rattle.hwp_check_rules.specs.hwp_law.GuestRule.{denial, denied, guest_access, guest_line, guest_lines, guest_of, kind_of}
use Rattle.hwp_check_rules.specs.Firsts.{IsLeast}
use Rattle.hwp_check_rules.specs.GuestFaults.{IsAdmitted, IsGuestFault, IsGuestLacking, IsGuestWrong, IsMisadmitted}
use Rattle.hwp_check_rules.specs.Standing.{cpu_line, row_line}
use Rattle.hwp_check_rules.specs.hwp_guest.declared.Admit.{Admit}
use Rattle.hwp_check_rules.specs.hwp_guest.declared.Admit.TheVariants as admissions
use Rattle.hwp_check_rules.specs.hwp_guest.GuestState.{admitted}
use Rattle.hwp_check_rules.proofs.StandingLaws.{later-line, next-line}
use Rattle.hwp_check_processes.specs.Admission.{AreAdmissions}
use Rattle.hwp_check_processes.specs.Busy.{busy_by, guests_by}
use Rattle.hwp_check_processes.specs.Judging.{AreEnough, AreRight, HasNoFault, HasNoFaultOn, IsFirstIn, IsFirstOn, IsFirstWrong, IsKnown, IsMisadmittedBy, IsWrongBy}
use Rattle.hwp_check_processes.proofs.BusyLaws.{idle-nothing, nothing-idle, told-guests}

-- ---- where no process is a guest

no-flag : (flags : List Bool) (i : ℕ) → list_any (λ (guest : Bool). guest) flags ≡ false → get_or flags i false ≡ false
no-flag [] i none = refl
no-flag (b ∷ bs) zero none = (or_parts b (list_any (λ (guest : Bool). guest) bs) none).0
no-flag (b ∷ bs) (suc i) none = no-flag bs i (or_parts b (list_any (λ (guest : Bool). guest) bs) none).1

abbrev found_by : Layout → Command → access.Access → Proc → Option GuestAccess
found_by layout command a process = if is_guest layout process then Some (record { process = process; slot = a.slot; line = a.line; kind = kind_of command; mode = (arrival_of command).mode }) else None

no-access : (layout : Layout) (command : Command) → has_guests layout ≡ false → guest_access layout command ≡ None
no-access layout command none = by (access_of command)
  where
    of-process : (a : access.Access) (o : Option Proc) → option_and_then (found_by layout command a) o ≡ None
    of-process a None = refl
    of-process a (Some process) = ap (λ (b : Bool). if b then Some (record { process = process; slot = a.slot; line = a.line; kind = kind_of command; mode = (arrival_of command).mode }) else None) (no-flag layout.guests process.0 none)

    by : (o : Option access.Access) → option_and_then (λ (a : access.Access). option_and_then (found_by layout command a) (process_of_thread layout a.thread)) o ≡ None
    by None = refl
    by (Some a) = of-process a (process_of_thread layout a.thread)

unasked : (layout : Layout) (earlier : List (Command × Answer)) (command : Command) → guest_access layout command ≡ None → denied layout earlier command ≡ None
unasked layout earlier command none = by (guest_access layout command) none
  where
    by : (o : Option GuestAccess) → o ≡ None → option_and_then (λ (a : GuestAccess). denial (admitted (guest_of layout earlier a.process) a.slot.0)) o ≡ None
    by None is = refl
    by (Some a) is = absurd (none-some a (sym is))

-- ---- what is known of a processor's commands

module _ (layout : Layout) (report : Report) (cpu : Cpu) (commands : List Command) (rows : List CpuLine) where
  untold : (seq : ℕ) (command : Command) (answer : Answer) → guest_access layout command ≡ None → guest_lines layout seq command answer ≡ []
  untold seq command (answers.Sigbus at) none = ap (λ (o : Option GuestAccess). cons_option (option_map (guest_line seq) o) []) none
  untold seq command answer none = refl

  pub known_unasked : (admits : List Admit) (flags told : List Bool) → has_guests layout ≡ false → admits ≡ [] → IsKnown layout report cpu commands rows admits flags told
  known_unasked admits flags told none empty = record {
    told_is = λ seq command answer made due. absurd (due (untold seq command answer (no-access layout command none)));
    denied_is = λ seq command made. ap (λ (a : List Admit). denial (slice_index_or a seq admissions.Yes)) empty ∙ sym (unasked layout (take seq (answered commands rows)) command (no-access layout command none));
    idle = λ seq command due made denies is. absurd (none-some due (sym (unasked layout (take seq (answered commands rows)) command (no-access layout command none)) ∙ denies));
    nothing = λ seq command due made denies is. absurd (none-some due (sym (unasked layout (take seq (answered commands rows)) command (no-access layout command none)) ∙ denies));
  }

  pub known_asked : (pairs : List (Command × Answer)) (admits : List Admit) (flags told : List Bool) → slice_get report.cpus cpu.0 ≡ Some rows → pairs ≡ answered commands rows
      → AreAdmissions layout commands pairs (length commands) admits → flags ≡ busy_by report cpu (length commands) rows → told ≡ guests_by (length commands) rows → IsKnown layout report cpu commands rows admits flags told
  known_asked pairs admits flags told of_report pairs_are are flags_are told_are = record {
    told_is = λ seq command answer made due. ap (λ (t : List Bool). slice_index_or t seq false) told_are ∙ told-guests cpu seq (length commands) rows (slice_get_within commands seq command made);
    denied_is = λ seq command made.
        are.each seq command (slice_get_within commands seq command made) made ∙ ap (λ (p : List (Command × Answer)). denied layout (take seq p) command) pairs_are;
    idle = λ seq command due made denies is.
        idle-nothing cpu seq report (length commands) rows (slice_get_within commands seq command made) of_report (sym (ap (λ (f : List Bool). slice_index_or f seq false) flags_are) ∙ is);
    nothing = λ seq command due made denies does.
        ap (λ (f : List Bool). slice_index_or f seq false) flags_are ∙ nothing-idle cpu seq report (length commands) rows (slice_get_within commands seq command made) of_report does;
  }

-- what is wrong by what is known is what is wrong
module _ (script : Script) (report : Report) (cpu : Cpu) (commands : List Command) (rows : List CpuLine) (admits : List Admit) (flags told : List Bool) (known : IsKnown script.layout report cpu commands rows admits flags told) where
  abbrev due-of : ℕ → Command → Option Answer
  due-of seq command = denied script.layout (take seq (answered commands rows)) command

  abbrev Nothing : ℕ → Type 0
  Nothing seq = DoesNothing report (record { cpu = cpu; seq = seq })

  exchange : (due : Option Answer) (answer : Answer) (P Q : Type 0) → ((a : Answer) → due ≡ Some a → P → Q) → IsAdmitted due answer P → IsAdmitted due answer Q
  exchange None answer P Q turn is = is
  exchange (Some a) answer P Q turn is = (is.0, turn a refl is.1)

  to-law : (seq : ℕ) (answer : Answer) → IsMisadmittedBy commands admits flags seq answer → IsMisadmitted script report cpu commands rows seq answer
  to-law seq answer w = record {
    command = w.command;
    made = w.made;
    wrong = λ fit.
        w.wrong (subst (λ (o : Option Answer). IsAdmitted o answer (slice_index_or flags seq false ≡ false)) (sym (known.denied_is seq w.command w.made))
        (exchange (due-of seq w.command) answer (Nothing seq) (slice_index_or flags seq false ≡ false) (λ a is does. known.nothing seq w.command a w.made is does) fit));
  }

  from-law : (seq : ℕ) (answer : Answer) → IsMisadmitted script report cpu commands rows seq answer → IsMisadmittedBy commands admits flags seq answer
  from-law seq answer w = record {
    command = w.command;
    made = w.made;
    wrong = λ fit.
        w.wrong (exchange (due-of seq w.command) answer (slice_index_or flags seq false ≡ false) (Nothing seq) (λ a is idle. known.idle seq w.command a w.made is idle)
        (subst (λ (o : Option Answer). IsAdmitted o answer (slice_index_or flags seq false ≡ false)) (known.denied_is seq w.command w.made) fit));
  }

  wrong-law : (row : ℕ) (line : CpuLine) → IsWrongBy script.layout commands rows admits flags row line → IsGuestWrong script report cpu commands rows row line
  wrong-law row (lines.Answer seq answer) w = to-law seq answer w
  wrong-law row (lines.Guest guest) w = w
  wrong-law row (lines.Event event) w = absurd w
  wrong-law row (lines.Offlined offlined) w = absurd w

  law-wrong : (row : ℕ) (line : CpuLine) → IsGuestWrong script report cpu commands rows row line → IsWrongBy script.layout commands rows admits flags row line
  law-wrong row (lines.Answer seq answer) w = from-law seq answer w
  law-wrong row (lines.Guest guest) w = w
  law-wrong row (lines.Event event) w = absurd w
  law-wrong row (lines.Offlined offlined) w = absurd w

  pub none-on : AreEnough script.layout commands rows (length rows) → AreRight script.layout commands rows admits flags (length rows) → HasNoFault script report cpu commands rows
  none-on enough right = record { enough = enough; right = λ row line there wrong. right row line (slice_get_within rows row line there) there (law-wrong row line wrong) }

  pub first-in : (row : ℕ) → AreEnough script.layout commands rows (length rows) → IsFirstWrong script.layout commands rows admits flags row → IsFirstIn script report cpu commands rows row
  first-in row enough f = record {
    line = f.line;
    there = f.there;
    enough = enough;
    wrong = wrong-law row f.line f.wrong;
    before = λ other line less there wrong. f.before other line less there (law-wrong other line wrong);
  }

module _ (script : Script) (report : Report) where
  -- a processor was judged
  pub kept-on : (cpu : Cpu) (commands : List Command) (rows : List CpuLine) → slice_get script.lists cpu.0 ≡ Some commands → slice_get report.cpus cpu.0 ≡ Some rows → HasNoFault script report cpu commands rows → HasNoFaultOn script report cpu
  kept-on cpu commands rows of_script of_report none = λ cs rs one other.
      subst (λ (l : List Command). HasNoFault script report cpu l rs) (same_Some _ _ (sym of_script ∙ one)) (subst (HasNoFault script report cpu commands) (same_Some _ _ (sym of_report ∙ other)) none)

  -- what was found of it, by what is known of its commands
  module _ (cpu : Cpu) (commands : List Command) (rows : List CpuLine) (admits let-in : List Admit) (flags set told : List Bool) (of_script : slice_get script.lists cpu.0 ≡ Some commands) (of_report : slice_get report.cpus cpu.0 ≡ Some rows)
      (known : IsKnown script.layout report cpu commands rows admits flags told) (let_are : let-in ≡ admits) (set_are : set ≡ flags) (enough : AreEnough script.layout commands rows (length rows)) where
    pub judged-none : AreRight script.layout commands rows let-in set (length rows) → HasNoFaultOn script report cpu
    judged-none right =
        kept-on cpu commands rows of_script of_report
        (none-on script report cpu commands rows admits flags told known enough
        (subst (λ (f : List Bool). AreRight script.layout commands rows admits f (length rows)) set_are (subst (λ (a : List Admit). AreRight script.layout commands rows a set (length rows)) let_are right)))

    pub judged-first : (row line : ℕ) → IsFirstWrong script.layout commands rows let-in set row → line ≡ row_line report cpu.0 row → IsFirstOn script report cpu line
    judged-first row line wrong line_is = record {
      commands = commands;
      rows = rows;
      of_script = of_script;
      of_report = of_report;
      first = inr (
        row,
        first-in script report cpu commands rows admits flags told known row enough
            (subst (λ (f : List Bool). IsFirstWrong script.layout commands rows admits f row) set_are (subst (λ (a : List Admit). IsFirstWrong script.layout commands rows a set row) let_are wrong)),
        line_is,
      );
    }

  -- the processors below this number have no fault
  abbrev pub NoneUnder : ℕ → Type 0
  NoneUnder n = (cpu : Cpu) → cpu.0 < n → HasNoFaultOn script report cpu

  pub none-under : NoneUnder 0
  none-under = λ cpu low. absurd (omega (arith, low))

  pub under-next : (n : ℕ) → HasNoFaultOn script report (record { 0 = n }) → NoneUnder n → NoneUnder (n + 1)
  under-next n on under = λ cpu less. elim (cases_lt cpu.0 n) [
    | inl low ↦ under cpu low
    | inr high ↦ let here : n ≡ cpu.0 = omega (arith, less, high) in subst (HasNoFaultOn script report) (λ i. record { 0 = here i }) on
  ]

  -- a processor without a fault has no line that is one
  on-none : (line : ℕ) (f : IsGuestFault script report line) → HasNoFaultOn script report f.cpu → ⊥
  on-none line f on = elim f.fault [
    | inl lacks ↦ none.enough f.row f.shown (slice_get_within f.rows f.row f.shown f.there) f.there lacks.0
    | inr wrong ↦ none.right f.row f.shown f.there wrong.0
  ]
    where
      none : HasNoFault script report f.cpu f.commands f.rows
      none = on f.commands f.rows f.of_script f.of_report

  pub no-fault : (n : ℕ) → min (length script.lists) (length report.cpus) ≤ n → NoneUnder n → (line : ℕ) → IsGuestFault script report line → ⊥
  no-fault n most under line f =
      let a : f.cpu.0 < length script.lists = slice_get_within script.lists f.cpu.0 f.commands f.of_script in
      let b : f.cpu.0 < length report.cpus = slice_get_within report.cpus f.cpu.0 f.rows f.of_report in
      on-none line f (under f.cpu (omega (arith, most, a, b)))

  -- a fault stands on its processor's lines
  at-least : (line : ℕ) (f : IsGuestFault script report line) → cpu_line report f.cpu.0 ≤ line
  at-least line f = elim f.fault [
    | inl lacks ↦ let is : line ≡ cpu_line report f.cpu.0 = lacks.1 in omega (arith, is)
    | inr wrong ↦ let is : line ≡ cpu_line report f.cpu.0 + 1 + f.row = wrong.1 in omega (arith, is)
  ]

  -- the first fault of the first processor that has one
  module _ (n line : ℕ) (under : NoneUnder n) (f : IsFirstOn script report (record { 0 = n }) line) where
    within : line < cpu_line report (n + 1)
    within = elim f.first [
      | inl l ↦ let is : line ≡ cpu_line report n = l.2 in omega (arith, next, is)
      | inr w ↦
          let is : line ≡ cpu_line report n + 1 + w.0 = w.2 in
          let inside : w.0 < length f.rows = slice_get_within f.rows w.0 w.1.line w.1.there in
          omega (arith, next, is, inside)
    ]
      where
        next : cpu_line report (n + 1) ≡ cpu_line report n + 1 + length f.rows
        next = next-line report n f.rows f.of_report

    at-fault : IsGuestFault script report line
    at-fault = elim f.first [
      | inl l ↦ record { cpu = record { 0 = n }; commands = f.commands; rows = f.rows; row = l.0; shown = l.1.line; of_script = f.of_script; of_report = f.of_report; there = l.1.there; fault = inl (l.1.lacks, l.2) }
      | inr w ↦ record { cpu = record { 0 = n }; commands = f.commands; rows = f.rows; row = w.0; shown = w.1.line; of_script = f.of_script; of_report = f.of_report; there = w.1.there; fault = inr (w.1.wrong, w.2) }
    ]

    -- another fault of the same processor
    own : (other : ℕ) (g : IsGuestFault script report other) → n ≡ g.cpu.0 → line ≤ other
    own other g here = elim f.first [
      | inl l ↦
          let is : line ≡ cpu_line report n = l.2 in
          let at : cpu_line report n ≡ cpu_line report g.cpu.0 = ap (cpu_line report) here in
          let least : cpu_line report g.cpu.0 ≤ other = at-least other g in
          omega (arith, is, at, least)
      | inr w ↦ elim g.fault [
        | inl lacks ↦ absurd (w.1.enough g.row g.shown (slice_get_within f.rows g.row g.shown there) there (subst (λ (r : List CpuLine). IsGuestLacking script.layout f.commands r g.shown) rows_are (subst (λ (l : List Command). IsGuestLacking script.layout l g.rows g.shown) lists_are lacks.0)))
        | inr wrong ↦ elim (cases_lt g.row w.0) [
          | inl low ↦ absurd (w.1.before g.row g.shown low there (turned wrong.0))
          | inr high ↦
              let is : line ≡ cpu_line report n + 1 + w.0 = w.2 in
              let at : cpu_line report n ≡ cpu_line report g.cpu.0 = ap (cpu_line report) here in
              let more : other ≡ cpu_line report g.cpu.0 + 1 + g.row = wrong.1 in
              omega (arith, is, at, more, high)
        ]
      ]
    ]
      where
        lists_are : g.commands ≡ f.commands
        lists_are = same_Some _ _ (sym g.of_script ∙ ap (slice_get script.lists) (sym here) ∙ f.of_script)

        rows_are : g.rows ≡ f.rows
        rows_are = same_Some _ _ (sym g.of_report ∙ ap (slice_get report.cpus) (sym here) ∙ f.of_report)

        there : slice_get f.rows g.row ≡ Some g.shown
        there = subst (λ (r : List CpuLine). slice_get r g.row ≡ Some g.shown) rows_are g.there

        turned : IsGuestWrong script report g.cpu g.commands g.rows g.row g.shown → IsGuestWrong script report (record { 0 = n }) f.commands f.rows g.row g.shown
        turned wrong = subst (λ (c : Cpu). IsGuestWrong script report c f.commands f.rows g.row g.shown) (λ i. record { 0 = sym here i })
            (subst (λ (r : List CpuLine). IsGuestWrong script report g.cpu f.commands r g.row g.shown) rows_are (subst (λ (l : List Command). IsGuestWrong script report g.cpu l g.rows g.row g.shown) lists_are wrong))

    pub fault-is : IsLeast (IsGuestFault script report) line
    fault-is = record {
      at = at-fault;
      first = λ other g. elim (cases_lt g.cpu.0 n) [
        | inl low ↦ absurd (on-none other g (under g.cpu low))
        | inr high ↦ elim (cases_lt n g.cpu.0) [
          | inl later ↦
              let rises : cpu_line report (n + 1) ≤ cpu_line report g.cpu.0 = later-line report (n + 1) g.cpu.0 (omega (arith, later)) in
              let least : cpu_line report g.cpu.0 ≤ other = at-least other g in
              omega (arith, within, rises, least)
          | inr most ↦ own other g (let here : n ≡ g.cpu.0 = omega (arith, high, most) in here)
        ]
      ];
    }
