-- Each answer that says what state a page was in names a number of entries in its command's window.
use Rattle.std.proofs.Common.{◌≡◌, ◌⊎◌, ℕ, ◌+◌, ◌<◌, ◌≤◌, List, Some, length, slice_get, sym, ap, ◌∙◌, subst, arith, inl, inr, Option}
use Rattle.std.proofs.lemmas.Option.{slice_get_within}
use Rattle.hwp_law.specs.hwp_geom.declared.VSlot.{VSlot}
use Rattle.hwp_law.specs.hwp_geom.declared.Cpu.{Cpu}
use Rattle.hwp_law.specs.hwp_geom.declared.Who.{Who}
use Rattle.hwp_law.specs.hwp_page.declared.At.{At}
use Rattle.hwp_plain.specs.hwp_core_rule.declared.Length.{Length}
use Rattle.hwp_plain.specs.hwp_core_rule.declared.Log.{Log}
use Rattle.hwp_plain.specs.hwp_core_rule.declared.State.{State}
use Rattle.hwp_plain.specs.hwp_core_rule.Boards.{view_of}
use Rattle.hwp_law.specs.hwp_script_words.declared.Script.{Script}
use Rattle.hwp_law.specs.hwp_report_text.declared.Answer.{Answer}
use Rattle.hwp_law.specs.hwp_report_text.declared.CpuLine.{CpuLine}
use Rattle.hwp_law.specs.hwp_report_text.declared.CpuLine.TheVariants as lines
use Rattle.hwp_law.specs.hwp_report_text.declared.Report.{Report}
use Rattle.hwp_law.specs.Answers.{AreInWindows}
use Rattle.hwp_law.specs.States.{place_named, state_named, IsInWindow}
use Rattle.hwp_law.specs.Commands.{command_at}
use Rattle.hwp_cpu_row.specs.declared.Row.{Row}
use Rattle.hwp_law_served.proofs.Homes.{there-is}
use Rattle.hwp_law_served.proofs.Reported.{before-later, listed-entry, not-below-seen, past-earlier}
use Rattle.hwp_law_served.specs.Rows.{lines_from}
use Rattle.hwp_law_served.proofs.RunEnds.{IsEnd, IsOf, command-of, rows-of-lines, same-row}
use Rattle.hwp_law_served.proofs.RowLines.{row-of-line}
use Rattle.hwp_law_served.proofs.deeds.Made.{command-is}
use Rattle.hwp_law_served.proofs.Seen.{MadeAt, SawAt}
use Rattle.hwp_law_served.proofs.copied.CopyPlaces.{names-place, names-state}

module _ (script : Script) (copies : Who → Option VSlot) (seat : Cpu → ℕ) (last : State) (report : Report) (end : IsEnd script copies seat last report) where
  -- the command that a line of a processor answers, with its row
  pub record Answers (cpu : Cpu) (seq : ℕ) (answer : Answer) : Type 0 where
    pub of : IsOf script copies end.rows (view_of last (seat cpu)) (record { cpu = cpu; seq = seq })
    pub command_is : command_at script (record { cpu = cpu; seq = seq }) ≡ Some of.command
    pub answer_is : of.row.answer ≡ answer

  answers-by : (cpu : Cpu) (seq : ℕ) (answer : Answer) (of : IsOf script copies end.rows (view_of last (seat cpu)) (record { cpu = cpu; seq = seq })) (own : List Row) (row : Row) → slice_get end.rows cpu.0 ≡ Some own → slice_get own seq ≡ Some row → row.answer ≡ answer → Answers cpu seq answer
  answers-by cpu seq answer of own row own_is row_is is = record {
    of = of;
    command_is = command-is script (record { cpu = cpu; seq = seq }) of.list of.command of.list_is of.command_is;
    answer_is = ap (λ (r : Row). r.answer) (same-row of own row own_is row_is) ∙ is;
  }

  pub line-answers : (cpu : Cpu) (rows : List CpuLine) (i seq : ℕ) (answer : Answer) → slice_get report.cpus cpu.0 ≡ Some rows → slice_get rows i ≡ Some (lines.Answer seq answer) → Answers cpu seq answer
  line-answers cpu rows i seq answer rows_is line =
      let who : Who = record { cpu = cpu; seq = seq } in
      let has = rows-of-lines script copies seat last report end cpu rows rows_is in
      let line_is : slice_get (lines_from 0 has.own) i ≡ Some (lines.Answer seq answer) = subst (λ (l : List CpuLine). slice_get l i ≡ Some (lines.Answer seq answer)) has.lines_are line in
      let at = row-of-line 0 has.own i seq answer line_is in
      let number : at.k ≡ seq = (let is : seq ≡ 0 + at.k = at.number in omega arith) in
      let row_is : slice_get has.own seq ≡ Some at.row = subst (λ (n : ℕ). slice_get has.own n ≡ Some at.row) number at.row_is in
      let command = there-is has.list seq (subst (λ (n : ℕ). seq < n) has.served.count (slice_get_within has.own seq at.row row_is)) in
      let of = command-of script copies seat last report end who has.list command.0 has.list_is command.1 in
      answers-by cpu seq answer of has.own at.row has.own_is row_is at.answer_is

  -- where the command saw the page is in its window
  pub in-window : (cpu : Cpu) (rows : List CpuLine) → slice_get report.cpus cpu.0 ≡ Some rows → (seq : ℕ) (at : At) → slice_get last.views (seat cpu) ≡ Some (view_of last (seat cpu)) → SawAt (view_of last (seat cpu)) (record { cpu = cpu; seq = seq }) at
      → IsInWindow report.pages rows (record { cpu = cpu; seq = seq }) at
  in-window cpu rows rows_is seq at there saw =
      let x : Length = saw.saw.1 in
      let seen = saw.saw.2 in
      let who : x.stamp.who ≡ record { cpu = cpu; seq = seq } = saw.saw.3.0 in
      let log : x.log ≡ saw.log = saw.saw.3.2 in
      let page : x.log.page ≡ at.page = ap (λ (l : Log). l.page) log ∙ saw.page_is in
      let long : length x.log.entries ≡ at.entry = ap (λ (l : Log). length l.entries) log ∙ saw.place_is in
      let cpu_is : x.stamp.who.cpu ≡ cpu = ap (λ (w : Who). w.cpu) who in
      let seq_is : x.stamp.who.seq ≡ seq = ap (λ (w : Who). w.seq) who in
      record {
        past_earlier = λ bt e is same_page same_cpu earlier.
            let below : bt.entry < length x.log.entries = past-earlier script.layout last report end.board (seat cpu) saw.saw.0 (view_of last (seat cpu)) x there seen bt e is (same_page ∙ sym page) (same_cpu ∙ sym cpu_is) (let before : e.who.seq < seq = earlier in omega arith) in
            omega arith;
        before_later = λ bt e is same_page same_cpu later.
            let above : length x.log.entries ≤ bt.entry = before-later script.layout last report end.board (seat cpu) saw.saw.0 (view_of last (seat cpu)) x there seen bt e is (same_page ∙ sym page) (same_cpu ∙ sym cpu_is) (let after : seq < e.who.seq = later in omega arith) in
            omega arith;
        not_below = λ k n answer bt line earlier named same_page.
            let b = line-answers cpu rows k n answer rows_is line in
            not-below cpu seq at x saw.saw.0 there seen page long cpu_is seq_is n bt earlier same_page
            (names-place script.layout b.of.earlier (copies (record { cpu = cpu; seq = n })) (view_of last (seat cpu)) (record { cpu = cpu; seq = n }) b.of.command b.of.before b.of.row b.of.served.caused b.of.served.accounted bt (ap place_named b.answer_is ∙ named));
      }
    where
      not-below : (cpu : Cpu) (seq : ℕ) (at : At) (x : Length) (j : ℕ) → slice_get last.views (seat cpu) ≡ Some (view_of last (seat cpu)) → slice_get (view_of last (seat cpu)).lengths j ≡ Some x → x.log.page ≡ at.page → length x.log.entries ≡ at.entry
          → x.stamp.who.cpu ≡ cpu → x.stamp.who.seq ≡ seq → (n : ℕ) (bt : At) → n < seq → bt.page ≡ at.page
          → MadeAt (view_of last (seat cpu)) (record { cpu = cpu; seq = n }) bt ⊎ SawAt (view_of last (seat cpu)) (record { cpu = cpu; seq = n }) bt → bt.entry ≤ at.entry
      not-below cpu seq at x j there seen page long cpu_is seq_is n bt earlier same_page (inl made) =
          let listed = listed-entry script.layout last report end.board (seat cpu) made.j (view_of last (seat cpu)) made.made there made.there in
          let below : made.made.place < length x.log.entries = past-earlier script.layout last report end.board (seat cpu) j (view_of last (seat cpu)) x there seen (record { page = made.made.page; entry = made.made.place }) made.made.entry listed
          (made.page_is ∙ same_page ∙ sym page) (ap (λ (w : Who). w.cpu) made.own ∙ sym cpu_is) (let is : made.made.entry.who.seq ≡ n = ap (λ (w : Who). w.seq) made.own in omega (arith, earlier)) in
          let place : made.made.place ≡ bt.entry = made.place_is in
          omega arith
      not-below cpu seq at x j there seen page long cpu_is seq_is n bt earlier same_page (inr saw) =
          let y : Length = saw.saw.1 in
          let log : y.log ≡ saw.log = saw.saw.3.2 in
          let below : length y.log.entries ≤ length x.log.entries = not-below-seen script.layout last report end.board (seat cpu) j (view_of last (seat cpu)) x there seen (seat cpu) saw.saw.0 (view_of last (seat cpu)) y there saw.saw.2
          (ap (λ (l : Log). l.page) log ∙ saw.page_is ∙ same_page ∙ sym page) (ap (λ (w : Who). w.cpu) saw.saw.3.0 ∙ sym cpu_is) (let is : y.stamp.who.seq ≡ n = ap (λ (w : Who). w.seq) saw.saw.3.0 in omega (arith, earlier)) in
          let place : length y.log.entries ≡ bt.entry = ap (λ (l : Log). length l.entries) log ∙ saw.place_is in
          omega arith

  pub states-in-windows : AreInWindows report.pages report.cpus
  states-in-windows cpu rows i seq answer at rows_is line state =
      let a = line-answers cpu rows i seq answer rows_is line in
      let there = end.seated.there cpu a.of.inside in
      let saw = names-state script.layout a.of.earlier (copies (record { cpu = cpu; seq = seq })) (view_of last (seat cpu)) (record { cpu = cpu; seq = seq }) a.of.command a.of.before a.of.row a.of.served.caused at (ap state_named a.answer_is ∙ state) in
      in-window cpu rows rows_is seq at there saw
