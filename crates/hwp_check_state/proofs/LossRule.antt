-- The rule of losses, and the first line that breaks it.
use Rattle.std.proofs.Common.{◌≡◌, ◌⊎◌, inl, inr, ℕ, ◌+◌, ◌-◌, ◌^◌, ◌<◌, ◌≤◌, ◌==◌, ◌&&◌, min, not, Bool, true, false, cond, nat_le, List, [], Option, Some, None, MatchOption, get_or, length, replicate, slice_get, take, unwrap_or, refl, sym, ap, ◌∙◌, subst, true≢false, arith}
use Rattle.std.proofs.lemmas.Bool.{cases_Bool, cases_eq, cases_lt, eqb-false, eqb-true, le-leb, leb-true}
use Rattle.std.proofs.lemmas.List.{length-take}
use Rattle.std.proofs.lemmas.Option.{same_Some, slice_get-get_or, slice_get_within, unwrap_or-slice_get}
use Rattle.hwp_check_rules.specs.hwp_geom.declared.Cpu.{Cpu}
use Rattle.hwp_check_rules.specs.hwp_geom.declared.FileNo.{FileNo}
use Rattle.hwp_check_rules.specs.hwp_check_event_line.Scripts.{IsDeclared}
use Rattle.hwp_check_rules.specs.hwp_script_words.declared.Command.{Command}
use Rattle.hwp_check_rules.specs.hwp_script_words.declared.Script.{Script}
use Rattle.hwp_check_rules.specs.hwp_report_text.declared.Answer.{Answer}
use Rattle.hwp_check_rules.specs.hwp_report_text.declared.CpuLine.{CpuLine}
use Rattle.hwp_check_rules.specs.hwp_report_text.declared.Report.{Report}
use Rattle.hwp_check_rules.specs.hwp_law.Causes.{AreCaused}
use Rattle.hwp_check_rules.specs.hwp_law.Lines.{answered}
use Rattle.hwp_check_rules.specs.hwp_law.Losses.{IsNumber, is_lost, is_lost_before, losses_such, numbers_after, tells_number}
use Rattle.hwp_check_rules.specs.Faults.{IsLossFault}
use Rattle.hwp_check_rules.specs.Firsts.{sooner_if, soonest, IsFirstFault}
use Rattle.hwp_check_rules.specs.Rules.{IsTold, LossesFit, ShapeFits, AreAllAnswered}
use Rattle.hwp_check_rules.specs.Standing.{file_line}
use Rattle.hwp_check_rules.proofs.AnswersByRow.{rows-by}
use Rattle.hwp_check_state.specs.Handles.{IsFirst, IsFirstLost, IsFirstTold, IsLostWrong, IsToldWrong, IsToldWrongBy}
use Rattle.hwp_check_state.specs.Told.{is_good, walk}
use Rattle.hwp_check_state.proofs.FirstFound.{first-both, first-same, soon-if}
use Rattle.hwp_check_state.proofs.ToldLaws.{told-first}

not-true : (b : Bool) → not b ≡ true → b ≡ false
not-true true is = absurd (true≢false (sym is))
not-true false is = refl

not-false : (b : Bool) → not b ≡ false → b ≡ true
not-false true is = refl
not-false false is = absurd (true≢false is)

and-left : (a b : Bool) → (a && b) ≡ true → a ≡ true
and-left true b is = refl
and-left false b is = absurd (true≢false (sym is))

and-right : (a b : Bool) → (a && b) ≡ true → b ≡ true
and-right true b is = is
and-right false b is = absurd (true≢false (sym is))

module _ (script : Script) (report : Report) (shape : ShapeFits script report) where
  abbrev pub Wrong : ℕ → Type 0
  Wrong line = IsLostWrong script report script.layout.files line ⊎ IsToldWrongBy script report script.layout.cpus line

  line-of : (file : ℕ) → file < length report.files → 4 + file ≡ file_line report file
  line-of file within = let short : length (take file report.files) ≡ min file (length report.files) = length-take file report.files in omega (arith, short, within)

  -- where a file's line isn't wrong, what is told of the file is right
  told-right : (file : FileNo) (lost : ℕ) → slice_get report.files file.0 ≡ Some lost → (Wrong (4 + file.0) → ⊥) → IsTold script report file lost
  told-right file lost there none = record {
    lost_is = elim (cases_eq lost (losses_such is_lost script report file)) [
      | inl is ↦ is
      | inr other ↦ absurd (none (inl (record { file = file; lost = lost; before = inside; there = there; other = other; line_is = refl })))
    ];
    numbers = λ cpu list rows of_script of_report i p at tells. number cpu list rows of_script of_report i p at tells;
  }
    where
      within : file.0 < length report.files
      within = slice_get_within report.files file.0 lost there

      inside : file.0 < script.layout.files
      inside = let less = within in omega (arith, less, shape.files)

      number : (cpu : Cpu) (list : List Command) (rows : List CpuLine) → slice_get script.lists cpu.0 ≡ Some list → slice_get report.cpus cpu.0 ≡ Some rows → (i : ℕ) (p : Command × Answer)
          → slice_get {X = Command × Answer} (answered list rows) i ≡ Some p → tells_number file p.0 p.1 ≡ true → IsNumber script report file cpu (answered list rows) i
      number cpu list rows of_script of_report i p at tells = record {
        rises = leb-true _ _ (and-left _ (nat_le new (losses_such is_lost script report file)) low);
        within = leb-true _ _ (and-right (nat_le old new) _ low);
        covers = leb-true _ _ (and-right (nat_le old new && nat_le new (losses_such is_lost script report file)) _ good);
      }
        where
          cpu_inside : cpu.0 < script.layout.cpus
          cpu_inside = let less : cpu.0 < length report.cpus = slice_get_within report.cpus cpu.0 rows of_report in omega (arith, less, shape.cpus)

          old : ℕ
          old = numbers_after file 0 (take i (answered list rows))

          new : ℕ
          new = numbers_after file 0 (take (i + 1) (answered list rows))

          good : is_good script report file (record { cpu = cpu; seq = i }) old new ≡ true
          good = elim (cases_Bool (is_good script report file (record { cpu = cpu; seq = i }) old new)) [
            | inl right ↦ right
            | inr wrong ↦
                absurd (none (inr (record {
                  cpu = cpu;
                  list = list;
                  rows = rows;
                  before = cpu_inside;
                  of_script = of_script;
                  of_report = of_report;
                  wrong = record {
                    file = file;
                    place = i;
                    pair = p;
                    within = inside;
                    before = slice_get_within {A = Command × Answer} (answered list rows) i p at;
                    there = at;
                    tells = tells;
                    wrong = wrong;
                    line_is = refl;
                  };
                })))
          ]

          low : (nat_le old new && nat_le new (losses_such is_lost script report file)) ≡ true
          low = and-left _ (nat_le (losses_such (is_lost_before (record { cpu = cpu; seq = i })) script report file) new) good

  -- a wrong line breaks the rule
  fault-of : (line : ℕ) → Wrong line → IsLossFault script report line
  fault-of line (inl w) = record {
    file = w.file;
    lost = w.lost;
    there = w.there;
    line_is = w.line_is ∙ line-of w.file.0 (slice_get_within report.files w.file.0 w.lost w.there);
    wrong = λ told. w.other told.lost_is;
  }
  fault-of line (inr w) = record {
    file = w.wrong.file;
    lost = get_or report.files w.wrong.file.0 0;
    there = slice_get-get_or report.files w.wrong.file.0 0 within;
    line_is = w.wrong.line_is ∙ line-of w.wrong.file.0 within;
    wrong = λ told.
        let number = told.numbers w.cpu w.list w.rows w.of_script w.of_report w.wrong.place w.wrong.pair w.wrong.there w.wrong.tells in
        true≢false (sym (both _ _ (both _ _ (le-leb _ _ number.rises) (le-leb _ _ number.within)) (le-leb _ _ number.covers)) ∙ w.wrong.wrong);
  }
    where
      within : w.wrong.file.0 < length report.files
      within = let less : w.wrong.file.0 < script.layout.files = w.wrong.within in omega (arith, less, shape.files)

      both : (a b : Bool) → a ≡ true → b ≡ true → (a && b) ≡ true
      both a b one other = ap (λ (x : Bool). x && b) one ∙ other

  first-is : (found : Option ℕ) → IsFirst Wrong found → MatchOption found (LossesFit script report) (IsFirstFault (LossesFit script report) (IsLossFault script report))
  first-is None none = λ file lost there. told-right file lost there (none (4 + file.0))
  first-is (Some line) least = record {
    broken = λ holds. let f = fault-of line least.at in f.wrong (holds f.file f.lost f.there);
    at = fault-of line least.at;
    first = λ other fault. elim (cases_lt other line) [
      | inr most ↦ most
      | inl less ↦ absurd (fault.wrong (told-right fault.file fault.lost fault.there (λ w.
          let low : line ≤ 4 + fault.file.0 = least.first (4 + fault.file.0) w in
          let at : other ≡ file_line report fault.file.0 = fault.line_is in
          let is : 4 + fault.file.0 ≡ file_line report fault.file.0 = line-of fault.file.0 (slice_get_within report.files fault.file.0 fault.lost fault.there) in
          omega (arith, low, at, is, less))))
    ];
  }

  pub rule-is : (lost told : Option ℕ) → IsFirstLost script report lost → IsFirstTold script report told → MatchOption (soonest lost told) (LossesFit script report) (IsFirstFault (LossesFit script report) (IsLossFault script report))
  rule-is lost told one other =
      first-is (soonest lost told) (first-both (IsLostWrong script report script.layout.files) (IsToldWrongBy script report script.layout.cpus) Wrong (λ line w. inl w) (λ line w. inr w) (λ line w. w) lost told one other)

  -- ---- one file more

  abbrev said : ℕ → ℕ
  said file = get_or report.files file 0

  abbrev had : ℕ → ℕ
  had file = losses_such is_lost script report (record { 0 = file })

  abbrev Differs : ℕ → ℕ → Type 0
  Differs file line = (said file ≡ had file → ⊥) × (line ≡ 4 + file)

  differs-first : (file : ℕ) (b : Bool) → not (said file == had file) ≡ b → IsFirst (Differs file) (cond b (Some (4 + file)) None)
  differs-first file true is = record { at = (eqb-false (said file) (had file) (not-true (said file == had file) is), refl); first = λ l d. let same : l ≡ 4 + file = d.1 in omega (arith, same) }
  differs-first file false is = λ l d. d.0 (eqb-true (said file) (had file) (not-false (said file == had file) is))

  pub lost-next : (file : ℕ) (found : Option ℕ) → file < length report.files → IsFirst (IsLostWrong script report file) found
      → IsFirst (IsLostWrong script report (file + 1)) (sooner_if (not (get_or report.files file 0 == losses_such is_lost script report (record { 0 = file }))) found (4 + file))
  lost-next file found inside first =
      subst (IsFirst (IsLostWrong script report (file + 1))) (soon-if (not (said file == had file)) found (4 + file))
      (first-both (IsLostWrong script report file) (Differs file) (IsLostWrong script report (file + 1)) weaken now which found (cond (not (said file == had file)) (Some (4 + file)) None) first (differs-first file (not (said file == had file)) refl))
    where
      there : slice_get report.files file ≡ Some (said file)
      there = slice_get-get_or report.files file 0 inside

      weaken : (line : ℕ) → IsLostWrong script report file line → IsLostWrong script report (file + 1) line
      weaken line w = record { file = w.file; lost = w.lost; before = (let less : w.file.0 < file = w.before in omega (arith, less)); there = w.there; other = w.other; line_is = w.line_is }

      now : (line : ℕ) → Differs file line → IsLostWrong script report (file + 1) line
      now line d = record { file = record { 0 = file }; lost = said file; before = omega arith; there = there; other = d.0; line_is = d.1 }

      which : (line : ℕ) → IsLostWrong script report (file + 1) line → IsLostWrong script report file line ⊎ Differs file line
      which line w = elim (cases_lt w.file.0 file) [
        | inl less ↦ inl (record { file = w.file; lost = w.lost; before = less; there = w.there; other = w.other; line_is = w.line_is })
        | inr most ↦
            let less : w.file.0 < file + 1 = w.before in
            let here : w.file.0 ≡ file = omega (arith, most, less) in
            let same : w.lost ≡ said file = same_Some w.lost (said file) (sym w.there ∙ ap (λ (k : ℕ). slice_get report.files k) here ∙ there) in
            inr (λ is. w.other (same ∙ is ∙ sym (ap had here)), w.line_is ∙ ap (λ (k : ℕ). 4 + k) here)
      ]

  -- all files
  pub lost-end : (many : ℕ) (found : Option ℕ) → script.layout.files ≤ many → IsFirst (IsLostWrong script report many) found → IsFirstLost script report found
  lost-end many found all first = first-same (IsLostWrong script report many) (IsLostWrong script report script.layout.files) to from found first
    where
      to : (line : ℕ) → IsLostWrong script report many line → IsLostWrong script report script.layout.files line
      to line w =
          let inside : w.file.0 < length report.files = slice_get_within report.files w.file.0 w.lost w.there in
          record { file = w.file; lost = w.lost; before = omega (arith, inside, shape.files); there = w.there; other = w.other; line_is = w.line_is }

      from : (line : ℕ) → IsLostWrong script report script.layout.files line → IsLostWrong script report many line
      from line w = record { file = w.file; lost = w.lost; before = (let less : w.file.0 < script.layout.files = w.before in omega (arith, less, all)); there = w.there; other = w.other; line_is = w.line_is }

  -- ---- one processor more

  -- all processors
  pub told-end : (many : ℕ) (found : Option ℕ) → script.layout.cpus ≤ many → IsFirst (IsToldWrongBy script report many) found → IsFirstTold script report found
  told-end many found all first = first-same (IsToldWrongBy script report many) (IsToldWrongBy script report script.layout.cpus) to from found first
    where
      to : (line : ℕ) → IsToldWrongBy script report many line → IsToldWrongBy script report script.layout.cpus line
      to line w =
          let inside : w.cpu.0 < length report.cpus = slice_get_within report.cpus w.cpu.0 w.rows w.of_report in
          record { cpu = w.cpu; list = w.list; rows = w.rows; before = omega (arith, inside, shape.cpus); of_script = w.of_script; of_report = w.of_report; wrong = w.wrong }

      from : (line : ℕ) → IsToldWrongBy script report script.layout.cpus line → IsToldWrongBy script report many line
      from line w =
          let less : w.cpu.0 < script.layout.cpus = w.before in
          record { cpu = w.cpu; list = w.list; rows = w.rows; before = omega (arith, less, all); of_script = w.of_script; of_report = w.of_report; wrong = w.wrong }

  module _ (valid : IsDeclared script) (answers_fit : AreAllAnswered script report) (room : (file : FileNo) → losses_such is_lost script report file < 2 ^ 64 - 1) where
    pub told-next : (cpu : ℕ) (found told : Option ℕ) → cpu < script.layout.cpus → IsFirst (IsToldWrongBy script report cpu) found
        → told ≡ walk script report (record { 0 = cpu }) (unwrap_or (slice_get script.lists cpu) []) (replicate script.layout.files 0) None (unwrap_or (slice_get report.cpus cpu) [])
        → IsFirst (IsToldWrongBy script report (cpu + 1)) (soonest found told)
    told-next cpu found told inside first is =
        first-both (IsToldWrongBy script report cpu) Now (IsToldWrongBy script report (cpu + 1)) weaken now which found told first (subst (IsFirst Now) (sym (is ∙ same-walk)) (told-first script report room (record { 0 = cpu }) list rows caused))
      where
        list : List Command
        list = get_or script.lists cpu []

        rows : List CpuLine
        rows = get_or report.cpus cpu []

        of_script : slice_get script.lists cpu ≡ Some list
        of_script = slice_get-get_or script.lists cpu [] (omega (arith, inside, valid.one_each))

        of_report : slice_get report.cpus cpu ≡ Some rows
        of_report = slice_get-get_or report.cpus cpu [] (omega (arith, inside, shape.cpus))

        same-walk : walk script report (record { 0 = cpu }) (unwrap_or (slice_get script.lists cpu) []) (replicate script.layout.files 0) None (unwrap_or (slice_get report.cpus cpu) [])
            ≡ walk script report (record { 0 = cpu }) list (replicate script.layout.files 0) None rows
        same-walk =
            ap (λ (l : List Command). walk script report (record { 0 = cpu }) l (replicate script.layout.files 0) None (unwrap_or (slice_get report.cpus cpu) [])) (unwrap_or-slice_get script.lists cpu [])
            ∙ ap (λ (r : List CpuLine). walk script report (record { 0 = cpu }) list (replicate script.layout.files 0) None r) (unwrap_or-slice_get report.cpus cpu [])

        caused : AreCaused script report (record { 0 = cpu }) 0 list rows
        caused = rows-by script report (record { 0 = cpu }) list rows (answers_fit (record { 0 = cpu }) list rows of_script of_report)

        Now : ℕ → Type 0
        Now line = IsToldWrong script report (record { 0 = cpu }) (answered list rows) (length (answered list rows)) line

        weaken : (line : ℕ) → IsToldWrongBy script report cpu line → IsToldWrongBy script report (cpu + 1) line
        weaken line w = record {
          cpu = w.cpu;
          list = w.list;
          rows = w.rows;
          before = let less : w.cpu.0 < cpu = w.before in omega (arith, less);
          of_script = w.of_script;
          of_report = w.of_report;
          wrong = w.wrong;
        }

        now : (line : ℕ) → Now line → IsToldWrongBy script report (cpu + 1) line
        now line w = record { cpu = record { 0 = cpu }; list = list; rows = rows; before = omega arith; of_script = of_script; of_report = of_report; wrong = w }

        which : (line : ℕ) → IsToldWrongBy script report (cpu + 1) line → IsToldWrongBy script report cpu line ⊎ Now line
        which line w = elim (cases_lt w.cpu.0 cpu) [
          | inl less ↦ inl (record { cpu = w.cpu; list = w.list; rows = w.rows; before = less; of_script = w.of_script; of_report = w.of_report; wrong = w.wrong })
          | inr most ↦
              let less : w.cpu.0 < cpu + 1 = w.before in
              let here : w.cpu.0 ≡ cpu = omega (arith, most, less) in
              let own : w.cpu ≡ record { 0 = cpu } = λ i. record { 0 = here i } in
              let same-list : w.list ≡ list = same_Some w.list list (sym w.of_script ∙ ap (λ (k : ℕ). slice_get script.lists k) here ∙ of_script) in
              let same-rows : w.rows ≡ rows = same_Some w.rows rows (sym w.of_report ∙ ap (λ (k : ℕ). slice_get report.cpus k) here ∙ of_report) in
              inr (subst (λ (c : Cpu). IsToldWrong script report c (answered list rows) (length (answered list rows)) line) own
              (subst (λ (l : List Command). IsToldWrong script report w.cpu (answered l rows) (length (answered l rows)) line) same-list
              (subst (λ (r : List CpuLine). IsToldWrong script report w.cpu (answered w.list r) (length (answered w.list r)) line) same-rows w.wrong)))
        ]
