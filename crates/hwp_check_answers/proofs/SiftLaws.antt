-- The first wrong answer of all processors.
use Rattle.std.proofs.Common.{◌≡◌, inl, inr, ℕ, ◌+◌, ◌<◌, ◌≤◌, true, List, [], Option, Some, None, MatchOption, length, slice_get, take, unwrap_or, refl, sym, ap, ◌∙◌, subst, true≢false, arith}
use Rattle.std.specs.Option.{is_some}
use Rattle.std.proofs.lemmas.Bool.{cases_eq, cases_lt}
use Rattle.std.proofs.lemmas.Option.{same_Some, slice_get_within}
use Rattle.hwp_check_evidence.specs.hwp_geom.declared.Cpu.{Cpu}
use Rattle.hwp_check_evidence.specs.hwp_script_words.declared.Command.{Command}
use Rattle.hwp_check_evidence.specs.hwp_script_words.declared.Script.{Script}
use Rattle.hwp_check_evidence.specs.hwp_report_text.declared.Answer.{Answer}
use Rattle.hwp_check_evidence.specs.hwp_report_text.declared.CpuLine.{CpuLine}
use Rattle.hwp_check_evidence.specs.hwp_report_text.declared.CpuLine.TheVariants as lines
use Rattle.hwp_check_evidence.specs.hwp_report_text.declared.Report.{Report}
use Rattle.hwp_check_evidence.proofs.ListItems.{item_at}
use Rattle.hwp_check_rules.specs.hwp_law.Lines.{seq_of}
use Rattle.hwp_check_rules.specs.Standing.{cpu_line}
use Rattle.hwp_check_answers.specs.Facts.{IsBadOf, IsGoodOf}
use Rattle.hwp_check_answers.specs.Placing.{AreInPlace, IsFirstOut}
use Rattle.hwp_check_answers.specs.Sifting.{AreAllSound, AreSound, IsBehind, IsCut, IsFirstAnswer, IsUnsound, IsWrongLine}
use Rattle.hwp_check_rules.proofs.StandingLaws.{later-line, next-line}
use Rattle.hwp_check_rules.specs.Rules.{ShapeFits}
use Rattle.hwp_check_evidence.specs.hwp_geom.declared.VSlot.{VSlot}
use Rattle.hwp_check_evidence.specs.hwp_geom.declared.Who.{Who}

-- what is good isn't wrong
pub good-not-wrong : (script : Script) (copies : Who → Option VSlot) (report : Report) (cpu : Cpu) (before : List CpuLine) (command : Command) (shown : CpuLine) → IsGoodOf script copies report cpu before command shown → IsBadOf script copies report cpu before command shown → ⊥
good-not-wrong script copies report cpu before command (lines.Answer seq answer) good (inl wrong) = wrong good.right
good-not-wrong script copies report cpu before command (lines.Answer seq answer) good (inr (inl wrong)) = good.named wrong
good-not-wrong script copies report cpu before command (lines.Answer seq answer) good (inr (inr (inl wrong))) = good.last wrong
good-not-wrong script copies report cpu before command (lines.Answer seq answer) good (inr (inr (inr (inl wrong)))) = good.within wrong
good-not-wrong script copies report cpu before command (lines.Answer seq answer) good (inr (inr (inr (inr wrong)))) = good.stays wrong
good-not-wrong script copies report cpu before command (lines.Offlined line) good wrong = wrong good
good-not-wrong script copies report cpu before command (lines.Event event) good wrong = wrong
good-not-wrong script copies report cpu before command (lines.Guest guest) good wrong = wrong

same-cpu : (a b : Cpu) → a.0 ≡ b.0 → a ≡ b
same-cpu a b is = λ i. record { 0 = is i }

-- where lines are cut
pub cut_none : (commands : List Command) (rows : List CpuLine) → AreInPlace commands rows → IsCut commands rows (length rows)
cut_none commands rows places = record { within = omega arith; places = λ row line less is. places row line is; whole = inl refl }

pub cut_some : (commands : List Command) (rows : List CpuLine) (end : ℕ) → IsFirstOut commands rows end → IsCut commands rows end
cut_some commands rows end out = record { within = let w : end < length rows = slice_get_within rows end out.line out.there in omega (arith, w); places = out.before; whole = inr out }

-- the list of a processor
pub list_there : {X : Type 0} (lists : List (List X)) (n : ℕ) (list : List X) → n < length lists → list ≡ unwrap_or (slice_get lists n) [] → slice_get lists n ≡ Some list
list_there {X = X} lists n list inside is = let x = item_at lists n inside in x.1 ∙ ap Some (sym (is ∙ ap (λ (o : Option (List X)). unwrap_or o []) x.1))

-- the processors below this number are sound
abbrev pub SoundBelow : Script → (Who → Option VSlot) → Report → ℕ → Type 0
SoundBelow script copies report n =
    (cpu : Cpu) (commands : List Command) (rows : List CpuLine) → cpu.0 < n → slice_get script.lists cpu.0 ≡ Some commands → slice_get report.cpus cpu.0 ≡ Some rows → AreSound script copies report cpu commands rows

pub sound_more : {copies : Who → Option VSlot} (script : Script) (report : Report) (n : ℕ) (commands : List Command) (rows : List CpuLine) → slice_get script.lists n ≡ Some commands → slice_get report.cpus n ≡ Some rows
    → AreSound script copies report (record { 0 = n }) commands rows → SoundBelow script copies report n → SoundBelow script copies report (n + 1)
sound_more {copies = copies} script report n commands rows of_script of_report sound below cpu cs rs less one other = elim (cases_lt cpu.0 n) [
  | inl low ↦ below cpu cs rs low one other
  | inr high ↦
      let here : n ≡ cpu.0 = omega (arith, less, high) in
      let commands_are : commands ≡ cs = same_Some _ _ (sym of_script ∙ ap (slice_get script.lists) here ∙ one) in
      let rows_are : rows ≡ rs = same_Some _ _ (sym of_report ∙ ap (slice_get report.cpus) here ∙ other) in
      subst (λ (c : Cpu). AreSound script copies report c cs rs) (same-cpu (record { 0 = n }) cpu here)
      (subst (λ (c : List Command). AreSound script copies report (record { 0 = n }) c rs) commands_are (subst (λ (r : List CpuLine). AreSound script copies report (record { 0 = n }) commands r) rows_are sound))
]

pub all_sound : {copies : Who → Option VSlot} (script : Script) (report : Report) (n : ℕ) → length report.cpus ≤ n → SoundBelow script copies report n → AreAllSound script copies report
all_sound script report n all below cpu commands rows one other =
    below cpu commands rows (let w : cpu.0 < length report.cpus = slice_get_within report.cpus cpu.0 rows other in omega (arith, w, all)) one other

module _ (script : Script) (copies : Who → Option VSlot) (report : Report) where
  -- a wrong answer of a sound processor stands behind a line that is out of place
  pub behind : (w : ℕ) (wrong : IsWrongLine script copies report w) → AreSound script copies report wrong.cpu wrong.commands wrong.rows → IsBehind script report w
  behind w wrong sound = elim (cases_lt wrong.row sound.end) [
    | inl low ↦ absurd (good-not-wrong script copies report wrong.cpu (take wrong.row wrong.rows) wrong.command wrong.shown (sound.good wrong.row wrong.shown low wrong.there wrong.command wrong.made) wrong.wrong)
    | inr high ↦ elim sound.cut.whole [
      | inl whole ↦ absurd (let inside : wrong.row < length wrong.rows = slice_get_within wrong.rows wrong.row wrong.shown wrong.there in let e : sound.end ≡ length wrong.rows = whole in omega (arith, high, inside, e))
      | inr out ↦ record {
        other = cpu_line report wrong.cpu.0 + 1 + sound.end;
        disorder = inr (record { cpu = wrong.cpu.0; commands = wrong.commands; rows = wrong.rows; row = sound.end; shown = out.line; of_script = wrong.of_script; of_report = wrong.of_report; there = out.there; line_is = refl; out = out.out });
        before = let is : w ≡ cpu_line report wrong.cpu.0 + 1 + wrong.row = wrong.line_is in omega (arith, is, high);
      }
    ]
  ]

  module _ (n heading line : ℕ) (commands : List Command) (rows : List CpuLine) (of_script : slice_get script.lists n ≡ Some commands) (of_report : slice_get report.cpus n ≡ Some rows) (heading_is : heading ≡ cpu_line report n) (below : SoundBelow script copies report n) where
    abbrev here : Cpu
    here = record { 0 = n }

    -- the first wrong answer of the first processor that has one is that of the report
    pub first_answer : IsUnsound script copies report here commands rows heading line → IsFirstAnswer script copies report line
    first_answer u = record {
      at = record {
        cpu = here;
        commands = commands;
        rows = rows;
        row = u.row;
        shown = u.bad.line;
        command = u.bad.bad.command;
        of_script = of_script;
        of_report = of_report;
        there = u.bad.there;
        made = u.bad.bad.made;
        line_is = let l : line ≡ heading + 1 + u.row = u.line_is in omega (arith, l, heading_is);
        wrong = u.bad.bad.wrong;
      };
      first = λ other w. elim (cases_lt w.cpu.0 n) [
        | inl low ↦ inr (behind other w (below w.cpu w.commands w.rows low w.of_script w.of_report))
        | inr high ↦ elim (cases_eq n w.cpu.0) [
          | inl same ↦ inl (in-here other w same u)
          | inr apart ↦ inl (after other w (later w.cpu.0 high apart) u)
        ]
      ];
    }
      where
        later : (cpu : ℕ) → n ≤ cpu → (n ≡ cpu → ⊥) → n + 1 ≤ cpu
        later cpu high apart = elim (cases_lt n cpu) [
          | inl less ↦ omega (arith, less)
          | inr most ↦ absurd (apart (omega (arith, high, most)))
        ]

        after : (other : ℕ) (w : IsWrongLine script copies report other) → n + 1 ≤ w.cpu.0 → IsUnsound script copies report here commands rows heading line → line ≤ other
        after other w less v =
            let next : cpu_line report (n + 1) ≡ cpu_line report n + 1 + length rows = next-line report n rows of_report in
            let rises : cpu_line report (n + 1) ≤ cpu_line report w.cpu.0 = later-line report (n + 1) w.cpu.0 less in
            let inside : v.row < length rows = slice_get_within rows v.row v.bad.line v.bad.there in
            let l : line ≡ heading + 1 + v.row = v.line_is in
            let o : other ≡ cpu_line report w.cpu.0 + 1 + w.row = w.line_is in
            omega (arith, next, rises, inside, l, o, heading_is)

        in-here : (other : ℕ) (w : IsWrongLine script copies report other) → n ≡ w.cpu.0 → IsUnsound script copies report here commands rows heading line → line ≤ other
        in-here other w same v = elim (cases_lt w.row v.row) [
          | inl low ↦
              let rows_are : w.rows ≡ rows = same_Some _ _ (sym w.of_report ∙ ap (slice_get report.cpus) (sym same) ∙ of_report) in
              let commands_are : w.commands ≡ commands = same_Some _ _ (sym w.of_script ∙ ap (slice_get script.lists) (sym same) ∙ of_script) in
              let cpu_is : here ≡ w.cpu = same-cpu here w.cpu same in
              let there : slice_get rows w.row ≡ Some w.shown = subst (λ (r : List CpuLine). slice_get r w.row ≡ Some w.shown) rows_are w.there in
              let made : slice_get commands (seq_of w.shown) ≡ Some w.command = subst (λ (c : List Command). slice_get c (seq_of w.shown) ≡ Some w.command) commands_are w.made in
              let good : IsGoodOf script copies report here (take w.row rows) w.command w.shown = v.bad.before w.row w.shown low there w.command made in
              absurd (good-not-wrong script copies report w.cpu (take w.row w.rows) w.command w.shown
              (subst (λ (c : Cpu). IsGoodOf script copies report c (take w.row w.rows) w.command w.shown) cpu_is
              (subst (λ (r : List CpuLine). IsGoodOf script copies report here (take w.row r) w.command w.shown) (sym rows_are) good)) w.wrong)
          | inr high ↦
              let l : line ≡ heading + 1 + v.row = v.line_is in
              let o : other ≡ cpu_line report w.cpu.0 + 1 + w.row = w.line_is in
              let at : cpu_line report n ≡ cpu_line report w.cpu.0 = ap (cpu_line report) same in
              omega (arith, l, o, at, high, heading_is)
        ]

  pub found_answer : (n heading : ℕ) (commands : List Command) (rows : List CpuLine) (found : Option ℕ) → slice_get script.lists n ≡ Some commands → slice_get report.cpus n ≡ Some rows → heading ≡ cpu_line report n
      → SoundBelow script copies report n → is_some found ≡ true → MatchOption found (AreSound script copies report (record { 0 = n }) commands rows) (λ line. IsUnsound script copies report (record { 0 = n }) commands rows heading line)
      → MatchOption found (AreAllSound script copies report) (IsFirstAnswer script copies report)
  found_answer n heading commands rows None of_script of_report is below some sound = absurd (true≢false (sym some))
  found_answer n heading commands rows (Some line) of_script of_report is below some unsound = first_answer n heading line commands rows of_script of_report is below unsound

-- no wrong answer was found in a processor, and then it is sound
pub none_sound : {copies : Who → Option VSlot} (script : Script) (report : Report) (n heading : ℕ) (commands : List Command) (rows : List CpuLine) (found : Option ℕ) → found ≡ None
    → MatchOption found (AreSound script copies report (record { 0 = n }) commands rows) (λ line. IsUnsound script copies report (record { 0 = n }) commands rows heading line) → AreSound script copies report (record { 0 = n }) commands rows
none_sound {copies = copies} script report n heading commands rows found none is =
    subst (λ (o : Option ℕ). MatchOption o (AreSound script copies report (record { 0 = n }) commands rows) (λ line. IsUnsound script copies report (record { 0 = n }) commands rows heading line)) none is

-- a report of the right shape has as many processors as its script
pub cpus_fit : (script : Script) (report : Report) → ShapeFits script report → length report.cpus ≡ script.layout.cpus
cpus_fit script report shape = shape.cpus
