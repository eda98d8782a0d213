-- The page of a translation that a fork froze: no command behind the fork stores there, so each load of it behind the fork reads what the page
-- held then.
use Rattle.std.proofs.Common.{◌≡◌, ◌⊎◌, inl, inr, ℕ, ◌<◌, Bool, true, false, List, [], Option, None, Some, filter_map, is_some, slice_get, take, unwrap_or, if◌then◌else◌, refl, sym, ap, ◌∙◌, subst, true≢false, arith}
use Rattle.std.specs.Option.{option_map_or}
use Rattle.std.proofs.lemmas.Bool.{cases_order}
use Rattle.std.proofs.lemmas.Option.{same_Some}
use Rattle.hwp_law_served.specs.hwp_geom.Layout.{twin_of}
use Rattle.hwp_law_served.specs.hwp_geom.Limits.{line_limit}
use Rattle.hwp_law_served.specs.hwp_geom.declared.Cpu.{Cpu}
use Rattle.hwp_law_served.specs.hwp_geom.declared.Layout.{Layout}
use Rattle.hwp_law_served.specs.hwp_geom.declared.Mask.{Mask}
use Rattle.hwp_law_served.specs.hwp_geom.declared.Page.{Page}
use Rattle.hwp_law_served.specs.hwp_geom.declared.Thread.{Thread}
use Rattle.hwp_law_served.specs.hwp_geom.declared.TransDecl.{TransDecl}
use Rattle.hwp_law_served.specs.hwp_geom.declared.VSlot.{VSlot}
use Rattle.hwp_law_served.specs.hwp_geom.declared.Who.{Who}
use Rattle.hwp_law_served.specs.hwp_page.declared.At.{At}
use Rattle.hwp_law_served.specs.hwp_page.declared.Entry.{Entry}
use Rattle.hwp_law_served.specs.hwp_page.declared.Met.TheVariants.{Word}
use Rattle.hwp_law_served.specs.hwp_page.declared.What.TheVariants as entries
use Rattle.hwp_law_served.specs.hwp_report_text.declared.Answer.{Answer}
use Rattle.hwp_law_served.specs.hwp_report_text.declared.Answer.TheVariants as answers
use Rattle.hwp_law_served.specs.hwp_report_text.declared.Report.{Report}
use Rattle.hwp_law_served.specs.hwp_script_words.Forks.{froze}
use Rattle.hwp_law_served.specs.hwp_script_words.Valid.{IsCommandOf, IsValid}
use Rattle.hwp_law_served.specs.hwp_script_words.declared.Command.{Command}
use Rattle.hwp_law_served.specs.hwp_script_words.declared.Command.TheVariants as commands
use Rattle.hwp_law_served.specs.hwp_script_words.declared.Script.{Script}
use Rattle.hwp_law_served.specs.hwp_law.Commands.{command_at, is_fork}
use Rattle.hwp_law_served.specs.hwp_law.Cows.{cow_of, own_page, twin_or, written_through}
use Rattle.hwp_law_served.specs.hwp_law.Acting.{acting_script, copied_at}
use Rattle.hwp_law_served.specs.hwp_law.Law.{AnswersFit, HistoriesFit}
use Rattle.hwp_law_served.specs.hwp_law.Places.{entry_at}
use Rattle.hwp_law_served.specs.hwp_law.Policies.{answered_before, answered_on}
use Rattle.hwp_law_served.specs.hwp_law.Private.{last_word, word_at_fork, word_before, word_in}
use Rattle.hwp_top_report.proofs.forks.Contents.{word-read}
use Rattle.hwp_top_report.proofs.forks.Forked.{IsForked, froze-slot, valid-command}
use Rattle.hwp_top_report.proofs.forks.Freezes.{frozen-behind}
use Rattle.hwp_top_report.proofs.forks.GivenAnswers.{answered-at, then-there}
use Rattle.hwp_top_report.proofs.forks.MadeStores.{made-store, stored-word}
use Rattle.hwp_top_report.proofs.forks.PageWords.{page-ordered, page-words, place, stands}
use Rattle.hwp_top_report.proofs.forks.Shares.{some-and}

-- ---- through which translation a store goes

abbrev IsThrough : Layout → List (Command × Answer) → VSlot → VSlot → Type 0
IsThrough layout earlier through slot =
    (((cow_of layout earlier slot).frozen ≡ false) × (through ≡ slot)) ⊎ (((cow_of layout earlier slot).frozen ≡ true) × ((twin_of layout slot ≡ Some through) ⊎ ((twin_of layout slot ≡ None) × (through ≡ slot))))

pub through-which : (layout : Layout) (earlier : List (Command × Answer)) (through slot : VSlot) → through ≡ written_through layout earlier slot → IsThrough layout earlier through slot
through-which layout earlier through slot is = which (cow_of layout earlier slot).frozen refl is
  where
    by-twin : (o : Option VSlot) → twin_of layout slot ≡ o → through ≡ unwrap_or o slot → (twin_of layout slot ≡ Some through) ⊎ ((twin_of layout slot ≡ None) × (through ≡ slot))
    by-twin None twin is = inr (twin, is)
    by-twin (Some t) twin is = inl (twin ∙ ap Some (sym is))

    which : (b : Bool) → (cow_of layout earlier slot).frozen ≡ b → through ≡ (if b then twin_or layout slot else slot) → IsThrough layout earlier through slot
    which true e is = inr (e, by-twin (twin_of layout slot) refl is)
    which false e is = inl (e, is)

-- ---- the page

pub same-cpu : (a b : Cpu) → a.0 ≡ b.0 → a ≡ b
same-cpu a b same = ap cpu_of same
  where
    cpu_of : ℕ → Cpu
    cpu_of n = record { 0 = n }

module _ (script : Script) (report : Report) (valid : IsValid script) (histories : HistoriesFit (acting_script script report) (copied_at script report) report) (fit : AnswersFit (acting_script script report) (copied_at script report) report)
    (cpu : Cpu) (slot : VSlot) (fork : ℕ) (f : IsForked script report cpu slot fork) where
  -- a store that isn't frozen when it comes, through a translation to the page, is of a command before the fork
  before-fork : (who : Who) (other : VSlot) (c : Command) → command_at script who ≡ Some c → is_fork c ≡ false → (o : TransDecl) → slice_get script.layout.trans other.0 ≡ Some o → o.page.0 ≡ f.v.page.0 → who.cpu.0 ≡ cpu.0
      → (cow_of script.layout (answered_before script report who) other).frozen ≡ false → who.seq < fork
  before-fork who other c is no-fork o there page mine unfrozen = which (cases_order who.seq fork)
    where
      fork_there : command_at script (record { cpu = cpu; seq = fork }) ≡ Some (commands.Fork f.thread f.process)
      fork_there = (answered-at script report fit (record { cpu = cpu; seq = fork }) (commands.Fork f.thread f.process, answers.Done) f.fork_is refl).command_is

      which : (who.seq ≡ fork) ⊎ ((who.seq < fork) ⊎ (fork < who.seq)) → who.seq < fork
      which (inl same) =
          let one : command_at script who ≡ command_at script (record { cpu = cpu; seq = fork }) = ap (λ (k : Cpu). command_at script (record { cpu = k; seq = who.seq })) (same-cpu who.cpu cpu mine) ∙ ap (λ (n : ℕ). command_at script (record { cpu = cpu; seq = n })) same in
          let clash : c ≡ commands.Fork f.thread f.process = same_Some c (commands.Fork f.thread f.process) (sym is ∙ one ∙ fork_there) in
          absurd (true≢false (sym (ap is_fork clash) ∙ no-fork))
      which (inr (inl less)) = less
      which (inr (inr past)) =
          let still = frozen-behind script.layout other own_page (answered_on script report cpu) fork who.seq f.thread f.process f.fork_is
          (froze-slot script.layout other o (commands.Fork f.thread f.process) there ∙ ap (λ (p : ℕ). froze script.layout p (commands.Fork f.thread f.process)) page ∙ f.frozen) past in
          absurd (true≢false (sym still ∙ ap (λ (k : Cpu). (cow_of script.layout (take who.seq (answered_on script report k)) other).frozen) (sym (same-cpu who.cpu cpu mine)) ∙ unfrozen))

  pub store-before : (at : At) (e : Entry) (line y : ℕ) → entry_at report.pages at ≡ Some e → at.page.0 ≡ f.v.page.0 → word_in line e.what ≡ Some y → (e.who.cpu.0 ≡ cpu.0) × (e.who.seq < fork)
  store-before at e line y there page stores =
      let s = stored-word line y e.what stores in
      let m = made-store script report histories.made at e s.slot line y s.mask there s.is in
      let u = some-and (slice_get script.layout.trans s.slot.0) (λ (t : TransDecl). t.page ≡ at.page) m.2.page_is in
      let here : u.0.page.0 ≡ f.v.page.0 = ap (λ (p : Page). p.0) u.2 ∙ page in
      let twinned : is_some (twin_of script.layout s.slot) ≡ true = f.shared.twinned s.slot u.0 u.1 here in
      which m.0 m.1 m.2.thread m.2.slot m.2.own m.2.own_word m.2.command_is s.slot u.0 u.1 here twinned (through-which script.layout (answered_before script report e.who) s.slot m.2.slot m.2.through_is)
    where
      which : (c : Command) → command_at script e.who ≡ Some c → (thread : Thread) (other : VSlot) (own x : ℕ) → c ≡ commands.Store thread other own x → (through : VSlot) (o : TransDecl) → slice_get script.layout.trans through.0 ≡ Some o → o.page.0 ≡ f.v.page.0
          → is_some (twin_of script.layout through) ≡ true → IsThrough script.layout (answered_before script report e.who) through other → (e.who.cpu.0 ≡ cpu.0) × (e.who.seq < fork)
      which c is thread other own x command through o there here twinned (inl (unfrozen, same)) =
          let declared : slice_get script.layout.trans other.0 ≡ Some o = subst (λ (t : VSlot). slice_get script.layout.trans t.0 ≡ Some o) same there in
          let access = subst (IsCommandOf script.layout e.who.cpu.0) command (valid-command script valid e.who c is).0 in
          let mine : e.who.cpu.0 ≡ cpu.0 = f.shared.here other o e.who.cpu.0 thread declared here access.0 in
          (mine, before-fork e.who other c is (ap is_fork command) o declared here mine unfrozen)
      which c is thread other own x command through o there here twinned (inr (frozen, inl twin)) =
          absurd (true≢false (sym twinned ∙ (valid.twins.each other through twin).last))
      which c is thread other own x command through o there here twinned (inr (frozen, inr (none, same))) =
          absurd (true≢false (sym twinned ∙ ap (λ (t : VSlot). is_some (twin_of script.layout t)) same ∙ ap (λ (t : Option VSlot). is_some t) none))

  -- a load of the page behind the fork reads what it held then
  pub frozen-word : (at : At) (e : Entry) (through : VSlot) (line read : ℕ) (mask : Mask) → entry_at report.pages at ≡ Some e → at.page.0 ≡ f.v.page.0 → e.who.cpu.0 ≡ cpu.0 → fork < e.who.seq → line < line_limit → e.what ≡ entries.Load through line (Word mask read)
      → read ≡ word_at_fork script.layout report cpu fork slot line
  frozen-word at e through line read mask there page mine behind within is =
      let l = then-there (λ (list : List Entry). slice_get list at.entry) (slice_get report.pages at.page.0) e there in
      let here : slice_get report.pages f.v.page.0 ≡ Some l.0 = ap (slice_get report.pages) (sym page) ∙ l.1 in
      let history = histories.legal at.page l.0 l.1 in
      let anon = ap (slice_get script.layout.pages) page ∙ f.v_anon in
      word-read script.layout at.page l.0 history.state history.replay anon line within at.entry e through mask read l.2 is
      ∙ ap (last_word 0) (page-words l.0 cpu line fork at.entry e (page-ordered report.pages f.v.page.0 l.0 cpu histories.ordered here) l.2 mine (omega (arith, behind))
      (λ (j : ℕ) (x : Entry) (y : ℕ) one less stores. store-before (place f.v.page.0 j) x line y (stands report.pages f.v.page.0 j l.0 x here one) refl stores))
      ∙ sym (at-fork l.0 here)
    where
      at-fork : (list : List Entry) → slice_get report.pages f.v.page.0 ≡ Some list → word_at_fork script.layout report cpu fork slot line ≡ last_word 0 (filter_map (word_before cpu fork line) list)
      at-fork list here =
          ap (λ (o : Option TransDecl). last_word 0 (option_map_or (λ (v : TransDecl). filter_map (word_before cpu fork line) (unwrap_or (slice_get report.pages v.page.0) [])) o [])) f.v_is
          ∙ ap (λ (o : Option (List Entry)). last_word 0 (filter_map (word_before cpu fork line) (unwrap_or o []))) here
