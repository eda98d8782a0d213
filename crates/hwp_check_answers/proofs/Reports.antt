-- The first line of a report where event lines are wrong, processor by processor.
use Rattle.std.proofs.Common.{◌≡◌, ◌⊎◌, inl, inr, ℕ, ◌+◌, ◌<◌, ◌≤◌, ◌^◌, min, true, false, List, [], ◌∷◌, Option, Some, None, IfSome, MatchOption, is_some, length, slice_get, sum_by, take, true≢false, refl, sym, ap, ◌∙◌, subst, arith}
use Rattle.std.specs.List.{All}
use Rattle.std.specs.Option.{option_and_then}
use Rattle.std.proofs.lemmas.Bool.{cases_lt}
use Rattle.std.proofs.lemmas.List.Sums.{sum_by-cons, sum_by-le-sum_by}
use Rattle.std.proofs.lemmas.Option.{none-some, same_Some, slice_get_within}
use Rattle.hwp_check_evidence.specs.hwp_geom.declared.Cpu.{Cpu}
use Rattle.hwp_check_evidence.specs.hwp_page.declared.Entry.{Entry}
use Rattle.hwp_check_evidence.specs.hwp_page.declared.What.{What}
use Rattle.hwp_check_evidence.specs.hwp_page.declared.What.TheVariants as entries
use Rattle.hwp_check_rules.specs.hwp_check_event_line.Scripts.{IsDeclared}
use Rattle.hwp_check_evidence.specs.hwp_script_words.declared.Command.{Command}
use Rattle.hwp_check_evidence.specs.hwp_script_words.declared.Script.{Script}
use Rattle.hwp_check_evidence.specs.hwp_report_text.declared.CpuLine.{CpuLine}
use Rattle.hwp_check_evidence.specs.hwp_report_text.declared.FrameLine.{FrameLine}
use Rattle.hwp_check_evidence.specs.hwp_report_text.declared.Report.{Report}
use Rattle.hwp_check_evidence.specs.hwp_banks.Banks.{empty_banks}
use Rattle.hwp_check_evidence.specs.hwp_law.Events.{AreEvents, AreEventsFrom}
use Rattle.hwp_check_rules.specs.hwp_check_event_line.Misfits.{AreTold}
use Rattle.hwp_check_events.proofs.Verdicts.{both}
use Rattle.hwp_check_rules.specs.AnswerFaults.{LacksEvents}
use Rattle.hwp_check_rules.specs.Firsts.{IsLeast}
use Rattle.hwp_check_rules.specs.Rules.{ShapeFits}
use Rattle.hwp_check_rules.specs.Standing.{cpu_height, cpu_line, entry_height, frame_height, last_line, page_height, what_height}
use Rattle.hwp_check_answers.specs.Joining.{BreakEvents, IsEventLine}
use Rattle.hwp_check_rules.proofs.StandingLaws.{later-line, next-line}
use Rattle.hwp_check_answers.proofs.Processors.{IsFirst, cpu_of, no-lack, no-wrong}
use Rattle.hwp_check_evidence.specs.hwp_geom.declared.VSlot.{VSlot}
use Rattle.hwp_check_evidence.specs.hwp_geom.declared.Who.{Who}

-- a report has a line for each entry
entry-line : (e : Entry) → 1 ≤ entry_height e
entry-line e = by e.what
  where
    by : (w : What) → 1 ≤ what_height w
    by (entries.Fail situation required seen signals) = omega arith
    by _ = omega arith

page-lines : (es : List Entry) → length es ≤ sum_by entry_height es
page-lines [] = omega arith
page-lines (e ∷ es) =
    let first : sum_by entry_height (e ∷ es) ≡ entry_height e + sum_by entry_height es = sum_by-cons entry_height e es in
    let one : 1 ≤ entry_height e = entry-line e in
    let rest : length es ≤ sum_by entry_height es = page-lines es in
    omega (arith, first, one, rest)

pub pages-room : (report : Report) → last_line report < 2 ^ 64 → sum_by length report.pages + 1 < 2 ^ 64
pages-room report room =
    let most : sum_by length report.pages ≤ sum_by page_height report.pages = sum_by-le-sum_by length page_height report.pages (λ p. let l : length p ≤ sum_by entry_height p = page-lines p in let h : page_height p ≡ 1 + sum_by entry_height p = refl in omega (arith, l, h)) in
    let last : last_line report ≡ 4 + length report.files + sum_by frame_height report.frames + sum_by page_height report.pages + sum_by cpu_height (take (length report.cpus) report.cpus) = refl in
    let r : last_line report < 2 ^ 64 = room in
    omega (arith, most, last, r)

-- the row that was found is a line of the report
pub row-fits : (found : Option ℕ) (line many last : ℕ) → ((row : ℕ) → found ≡ Some row → row < many) → line + 1 + many ≤ last → last < 2 ^ 64 → IfSome found (λ (row : ℕ). line + 1 + row < 2 ^ 64)
row-fits None line many last few within room = record {}
row-fits (Some row) line many last few within room = let f : row < many = few row refl in omega (arith, f, within, room)

-- the processors below this number are as the law asks
abbrev pub LegalBelow : Script → (Who → Option VSlot) → Report → ℕ → Type 0
LegalBelow script copies report n = (cpu : Cpu) (list : List Command) → cpu.0 < n → slice_get script.lists cpu.0 ≡ Some list → AreEventsFrom script copies report cpu 0 list empty_banks

module _ (script : Script) (copies : Who → Option VSlot) (report : Report) (valid : IsDeclared script) (all : All (λ (l : FrameLine). (l.bad.0 < 2 ^ 64) × (l.weak.0 < 2 ^ 64)) report.frames) where
  abbrev Law : Cpu → List Command → Type 0
  Law cpu list = AreEventsFrom script copies report cpu 0 list empty_banks

  is-told : (cpu : Cpu) (list : List Command) → slice_get script.lists cpu.0 ≡ Some list → Law cpu list → AreTold script copies report cpu list
  is-told cpu list of law = (both script copies report cpu list valid all of).1 law

  -- the list of a command
  list-of : (line : ℕ) (l : LacksEvents script copies report line) → (list : List Command) × (slice_get script.lists l.who.cpu.0 ≡ Some list)
  list-of line l = by (slice_get script.lists l.who.cpu.0) refl l.made
    where
      by : (o : Option (List Command)) → slice_get script.lists l.who.cpu.0 ≡ o → option_and_then (λ (c : List Command). slice_get c l.who.seq) o ≡ Some l.command → (list : List Command) × (slice_get script.lists l.who.cpu.0 ≡ Some list)
      by None is none = absurd (none-some l.command none)
      by (Some list) is made = (list, is)

  pub breaks : BreakEvents script copies report
  breaks events line (inl l) = let list = list-of line l in no-lack script report line l list.0 list.1 (is-told l.who.cpu list.0 list.1 (events l.who.cpu list.0 list.1))
  breaks events line (inr w) = no-wrong script report line w (is-told w.cpu w.commands w.of_script (events w.cpu w.commands w.of_script))

  abbrev Below : ℕ → Type 0
  Below n = LegalBelow script copies report n

  pub one-more : (n : ℕ) (commands : List Command) → slice_get script.lists n ≡ Some commands → Law (cpu_of n) commands → Below n → Below (n + 1)
  one-more n commands of law below = λ cpu list less there. elim (cases_lt cpu.0 n) [
    | inl low ↦ below cpu list low there
    | inr high ↦
        let here : n ≡ cpu.0 = omega (arith, less, high) in
        let same : commands ≡ list = same_Some _ _ (sym of ∙ ap (slice_get script.lists) here ∙ there) in
        subst (λ (l : List Command). Law cpu l) same (subst (λ (c : Cpu). Law c commands) (λ i. record { 0 = here i }) law)
  ]

  pub all-legal : (n : ℕ) → ShapeFits script report → min (length script.lists) (length report.cpus) ≤ n → Below n → AreEvents script copies report
  all-legal n shape most below = λ cpu list there. below cpu list
      (let within : cpu.0 < length script.lists = slice_get_within script.lists cpu.0 list there in let a : length report.cpus ≡ script.layout.cpus = shape.cpus in let b : length script.lists ≡ script.layout.cpus = valid.one_each in omega (arith, most, within, a, b)) there

  module _ (n : ℕ) (commands : List Command) (rows : List CpuLine) (of_script : slice_get script.lists n ≡ Some commands) (of_report : slice_get report.cpus n ≡ Some rows) (below : Below n) where
    behind : (cpu line : ℕ) → n < cpu → line < cpu_line report n + 1 + length rows → line ≤ cpu_line report cpu
    behind cpu line less within =
        let next : cpu_line report (n + 1) ≡ cpu_line report n + 1 + length rows = next-line report n rows of_report in
        let after : cpu_line report (n + 1) ≤ cpu_line report cpu = later-line report (n + 1) cpu (omega (arith, less)) in
        omega (arith, next, after, within)

    which : (cpu : ℕ) → (cpu < n) ⊎ ((cpu ≡ n) ⊎ (n < cpu))
    which cpu = elim (cases_lt cpu n) [
      | inl low ↦ inl low
      | inr high ↦ elim (cases_lt n cpu) [
        | inl later ↦ inr (inr later)
        | inr most ↦ inr (inl (let e : cpu ≡ n = omega (arith, high, most) in e))
      ]
    ]

    pub least : (line : ℕ) → IsFirst script copies report n commands rows of_script of_report line → IsLeast (IsEventLine script copies report) line
    least line f = record { at = f.at; first = first }
      where
        first : (other : ℕ) → IsEventLine script copies report other → line ≤ other
        first other (inl l) = elim (which l.who.cpu.0) [
          | inl low ↦ let list = list-of other l in absurd (no-lack script report other l list.0 list.1 (is-told l.who.cpu list.0 list.1 (below l.who.cpu list.0 low list.1)))
          | inr (inl here) ↦ f.lack other l here
          | inr (inr later) ↦ let up : line ≤ cpu_line report l.who.cpu.0 = behind l.who.cpu.0 line later f.within in let e : other ≡ cpu_line report l.who.cpu.0 = l.line_is in omega (arith, up, e)
        ]
        first other (inr w) = elim (which w.cpu.0) [
          | inl low ↦ absurd (no-wrong script report other w (is-told w.cpu w.commands w.of_script (below w.cpu w.commands low w.of_script)))
          | inr (inl here) ↦ f.wrong other w here
          | inr (inr later) ↦ let up : line ≤ cpu_line report w.cpu.0 = behind w.cpu.0 line later f.within in let e : other ≡ cpu_line report w.cpu.0 + 1 + w.row = w.line_is in omega (arith, up, e)
        ]

    pub found : (o : Option ℕ) → is_some o ≡ true → MatchOption o (Law (cpu_of n) commands) (IsFirst script copies report n commands rows of_script of_report) → MatchOption o (AreEvents script copies report) (IsLeast (IsEventLine script copies report))
    found None some first = absurd (true≢false (sym some))
    found (Some line) some first = least line first

    pub legal : (o : Option ℕ) → is_some o ≡ false → MatchOption o (Law (cpu_of n) commands) (IsFirst script copies report n commands rows of_script of_report) → Law (cpu_of n) commands
    legal None none law = law
    legal (Some line) none first = absurd (true≢false none)
