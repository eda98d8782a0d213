-- Where the processors of a report are disorderly first.
use Rattle.std.proofs.Common.{◌≡◌, inl, inr, ℕ, ◌+◌, ◌<◌, ◌≤◌, min, true, false, List, Option, Some, None, MatchOption, get_or, length, slice_get, refl, sym, ap, ◌∙◌, subst, true≢false, arith}
use Rattle.std.specs.Option.{is_some}
use Rattle.std.proofs.lemmas.Bool.{cases_eq, cases_lt}
use Rattle.std.proofs.lemmas.Option.{same_Some, slice_get-get_or, slice_get_within}
use Rattle.hwp_check_evidence.specs.hwp_script_words.declared.Command.{Command}
use Rattle.hwp_check_evidence.specs.hwp_script_words.declared.Script.{Script}
use Rattle.hwp_check_evidence.specs.hwp_report_text.declared.CpuLine.{CpuLine}
use Rattle.hwp_check_evidence.specs.hwp_report_text.declared.Report.{Report}
use Rattle.hwp_check_rules.specs.Answered.{HasAnswer, IsInPlace}
use Rattle.hwp_check_answers.specs.Disorders.{AreAllOrderly, AreOrderly, IsDisorder, IsFirstDisorder}
use Rattle.hwp_check_rules.specs.Firsts.{IsLeast}
use Rattle.hwp_check_answers.specs.Placing.{HaveAnswers, IsFirstOut}
use Rattle.hwp_check_rules.specs.Standing.{cpu_line}
use Rattle.hwp_check_rules.proofs.StandingLaws.{later-line, next-line}

-- the processors below this number are orderly
abbrev pub OrderlyBelow : Script → Report → ℕ → Type 0
OrderlyBelow script report n =
    (cpu : ℕ) (commands : List Command) (rows : List CpuLine) → cpu < n → slice_get script.lists cpu ≡ Some commands → slice_get report.cpus cpu ≡ Some rows → AreOrderly commands rows

pub one-more : (script : Script) (report : Report) (n : ℕ) (commands : List Command) (rows : List CpuLine) → slice_get script.lists n ≡ Some commands → slice_get report.cpus n ≡ Some rows
    → AreOrderly commands rows → OrderlyBelow script report n → OrderlyBelow script report (n + 1)
one-more script report n commands rows of_script of_report orderly below = λ cpu cs rs less one other. elim (cases_lt cpu n) [
  | inl low ↦ below cpu cs rs low one other
  | inr high ↦
      let here : cpu ≡ n = omega (arith, less, high) in
      let commands_are : commands ≡ cs = same_Some _ _ (sym of_script ∙ ap (slice_get script.lists) (sym here) ∙ one) in
      let rows_are : rows ≡ rs = same_Some _ _ (sym of_report ∙ ap (slice_get report.cpus) (sym here) ∙ other) in
      subst (λ (c : List Command). AreOrderly c rs) commands_are (subst (λ (r : List CpuLine). AreOrderly commands r) rows_are orderly)
]

pub all-orderly : (script : Script) (report : Report) (n : ℕ) → min (length script.lists) (length report.cpus) ≤ n → OrderlyBelow script report n → AreAllOrderly script report
all-orderly script report n all below = λ cpu commands rows one other.
    let first : cpu < length script.lists = slice_get_within script.lists cpu commands one in
    let second : cpu < length report.cpus = slice_get_within report.cpus cpu rows other in
    below cpu commands rows (omega (arith, all, first, second)) one other

module _ (script : Script) (report : Report) (n : ℕ) (commands : List Command) (rows : List CpuLine) (of_script : slice_get script.lists n ≡ Some commands) (of_report : slice_get report.cpus n ≡ Some rows) (below : OrderlyBelow script report n) where
  abbrev heading : ℕ
  heading = cpu_line report n

  same-commands : (cpu : ℕ) (cs : List Command) → cpu ≡ n → slice_get script.lists cpu ≡ Some cs → cs ≡ commands
  same-commands cpu cs here one = same_Some _ _ (sym one ∙ ap (slice_get script.lists) here ∙ of_script)

  same-rows : (cpu : ℕ) (rs : List CpuLine) → cpu ≡ n → slice_get report.cpus cpu ≡ Some rs → rs ≡ rows
  same-rows cpu rs here one = same_Some _ _ (sym one ∙ ap (slice_get report.cpus) here ∙ of_report)

  -- no line before this processor is one of disorder
  from-here : (other : ℕ) → IsDisorder script report other → heading ≤ other
  from-here other (inl u) = elim (cases_lt u.cpu.0 n) [
    | inl low ↦ absurd (u.lacks ((below u.cpu.0 u.commands u.rows low u.of_script u.of_report).each u.seq u.within))
    | inr high ↦ let later : heading ≤ cpu_line report u.cpu.0 = later-line report n u.cpu.0 high in let is : other ≡ cpu_line report u.cpu.0 = u.line_is in omega (arith, later, is)
  ]
  from-here other (inr m) = elim (cases_lt m.cpu n) [
    | inl low ↦ absurd (m.out ((below m.cpu m.commands m.rows low m.of_script m.of_report).in_place m.row m.shown m.there))
    | inr high ↦ let later : heading ≤ cpu_line report m.cpu = later-line report n m.cpu high in let is : other ≡ cpu_line report m.cpu + 1 + m.row = m.line_is in omega (arith, later, is)
  ]

  later : (cpu : ℕ) → n ≤ cpu → (cpu ≡ n → ⊥) → n + 1 ≤ cpu
  later cpu high differs = elim (cases_lt n cpu) [
    | inl less ↦ omega (arith, less)
    | inr most ↦ absurd (differs (omega (arith, high, most)))
  ]

  -- what stands in a later processor stands behind all lines of this one
  behind : (row cpu other : ℕ) → row < length rows → n + 1 ≤ cpu → cpu_line report cpu ≤ other → heading + 1 + row ≤ other
  behind row cpu other within less at =
      let next : cpu_line report (n + 1) ≡ cpu_line report n + 1 + length rows = next-line report n rows of_report in
      let after : cpu_line report (n + 1) ≤ cpu_line report cpu = later-line report (n + 1) cpu less in
      omega (arith, next, after, within, at)

  -- where each of its commands has an answer, none is before its first line that is out of place
  from-row : (row : ℕ) → HaveAnswers commands rows → IsFirstOut commands rows row → (other : ℕ) → IsDisorder script report other → heading + 1 + row ≤ other
  from-row row each first other (inl u) = elim (cases_lt u.cpu.0 n) [
    | inl low ↦ absurd (u.lacks ((below u.cpu.0 u.commands u.rows low u.of_script u.of_report).each u.seq u.within))
    | inr high ↦ elim (cases_eq u.cpu.0 n) [
      | inl here ↦
          let cs : u.commands ≡ commands = same-commands u.cpu.0 u.commands here u.of_script in
          let rs : u.rows ≡ rows = same-rows u.cpu.0 u.rows here u.of_report in
          let few : u.seq < length commands = subst (λ (c : List Command). u.seq < length c) cs u.within in
          absurd (u.lacks (subst (λ (r : List CpuLine). HasAnswer r u.seq) (sym rs) (each u.seq few)))
      | inr differs ↦ behind row u.cpu.0 other (slice_get_within rows row first.line first.there) (later u.cpu.0 high differs) (let is : other ≡ cpu_line report u.cpu.0 = u.line_is in omega (arith, is))
    ]
  ]
  from-row row each first other (inr m) = elim (cases_lt m.cpu n) [
    | inl low ↦ absurd (m.out ((below m.cpu m.commands m.rows low m.of_script m.of_report).in_place m.row m.shown m.there))
    | inr high ↦ elim (cases_eq m.cpu n) [
      | inl here ↦
          let cs : m.commands ≡ commands = same-commands m.cpu m.commands here m.of_script in
          let rs : m.rows ≡ rows = same-rows m.cpu m.rows here m.of_report in
          let there : slice_get rows m.row ≡ Some m.shown = subst (λ (r : List CpuLine). slice_get r m.row ≡ Some m.shown) rs m.there in
          let out : IsInPlace commands rows m.row m.shown → ⊥ = subst (λ (c : List Command). IsInPlace c rows m.row m.shown → ⊥) cs (subst (λ (r : List CpuLine). IsInPlace m.commands r m.row m.shown → ⊥) rs m.out) in
          let line : other ≡ cpu_line report m.cpu + 1 + m.row = m.line_is in
          let at : cpu_line report m.cpu ≡ cpu_line report n = ap (cpu_line report) here in
          elim (cases_lt m.row row) [
            | inl before ↦ absurd (out (first.before m.row m.shown before there))
            | inr most ↦ omega (arith, line, at, most)
          ]
      | inr differs ↦ behind row m.cpu other (slice_get_within rows row first.line first.there) (later m.cpu high differs) (let is : other ≡ cpu_line report m.cpu + 1 + m.row = m.line_is in omega (arith, is))
    ]
  ]

  -- the first line of disorder of this processor is that of the report
  pub first-disorder : (line found : ℕ) → line ≡ heading → IsFirstDisorder commands rows line found → IsLeast (IsDisorder script report) found
  first-disorder line found is (inl none) =
      let at : found ≡ heading = none.2 ∙ is in
      record {
        at = inl (record { cpu = record { 0 = n }; commands = commands; rows = rows; seq = none.0; of_script = of_script; of_report = of_report; within = none.1.within; lacks = none.1.lacks; line_is = at });
        first = λ other fault. let from : heading ≤ other = from-here other fault in omega (arith, at, from);
      }
  first-disorder line found is (inr out) =
      let at : found ≡ heading + 1 + out.1 = let l : found ≡ line + 1 + out.1 = out.3 in omega (arith, l, is) in
      record {
        at = inr (record { cpu = n; commands = commands; rows = rows; row = out.1; shown = out.2.line; of_script = of_script; of_report = of_report; there = out.2.there; line_is = at; out = out.2.out });
        first = λ other fault. let from : heading + 1 + out.1 ≤ other = from-row out.1 out.0 out.2 other fault in omega (arith, at, from);
      }

-- what was found in a processor: nothing, and then it is orderly
pub orderly-none : (commands : List Command) (rows : List CpuLine) (line : ℕ) (found : Option ℕ) → found ≡ None → MatchOption found (AreOrderly commands rows) (IsFirstDisorder commands rows line) → AreOrderly commands rows
orderly-none commands rows line found none is = subst (λ (o : Option ℕ). MatchOption o (AreOrderly commands rows) (IsFirstDisorder commands rows line)) none is

-- what was read of a list at a number
pub read-at : {A : Type 0} (xs ys : List A) (i : ℕ) (d x y : A) → ys ≡ xs → i < length xs → x ≡ get_or ys i d → y ≡ x → slice_get xs i ≡ Some y
read-at {A = A} xs ys i d x y same within is shown = slice_get-get_or xs i d within ∙ ap Some (sym (shown ∙ is ∙ ap (λ (l : List A). get_or l i d) same))

pub none-of : (found : Option ℕ) → is_some found ≡ false → found ≡ None
none-of None is = refl
none-of (Some line) is = absurd (true≢false is)

-- what was found in the first processor that isn't orderly
pub found-first : (script : Script) (report : Report) (n : ℕ) (commands : List Command) (rows : List CpuLine) (line : ℕ) (found : Option ℕ) → slice_get script.lists n ≡ Some commands → slice_get report.cpus n ≡ Some rows
    → OrderlyBelow script report n → line ≡ cpu_line report n → is_some found ≡ true → MatchOption found (AreOrderly commands rows) (IsFirstDisorder commands rows line)
    → MatchOption found (AreAllOrderly script report) (IsLeast (IsDisorder script report))
found-first script report n commands rows line None of_script of_report below is some first = absurd (true≢false (sym some))
found-first script report n commands rows line (Some at) of_script of_report below is some first = first-disorder script report n commands rows of_script of_report below line at is first
