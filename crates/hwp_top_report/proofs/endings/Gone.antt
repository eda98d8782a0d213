-- A command that was answered that its process had ended: the history that the answer names has a signal that ended it, of no
-- later command of the processor.
use Rattle.std.proofs.Common.{◌≡◌, ◌≢◌, ℕ, ◌+◌, ◌<◌, ◌≤◌, List, Option, Some, None, length, slice_get, option_and_then, option_map, refl, sym, ap, ◌∙◌, subst, arith}
use Rattle.std.proofs.lemmas.List.Elements.{All-get_or}
use Rattle.std.proofs.lemmas.Option.{get_or_from_slice_get, none-some, same_Some, slice_get_within}
use Rattle.hwp_law_served.specs.hwp_geom.declared.VSlot.{VSlot}
use Rattle.hwp_law_served.specs.hwp_geom.declared.Cpu.{Cpu}
use Rattle.hwp_law_served.specs.hwp_geom.declared.Layout.{Layout}
use Rattle.hwp_law_served.specs.hwp_geom.declared.Page.{Page}
use Rattle.hwp_law_served.specs.hwp_geom.declared.Proc.{Proc}
use Rattle.hwp_law_served.specs.hwp_geom.declared.Thread.{Thread}
use Rattle.hwp_law_served.specs.hwp_geom.declared.ThreadDecl.{ThreadDecl}
use Rattle.hwp_law_served.specs.hwp_geom.declared.Who.{Who}
use Rattle.hwp_law_served.specs.hwp_geom.Layout.{IsSound}
use Rattle.hwp_law_served.specs.hwp_page.declared.Entry.{Entry}
use Rattle.hwp_law_served.specs.hwp_page.Orders.{IsNotLater}
use Rattle.hwp_law_served.specs.hwp_core_rule.declared.SharedWord.TheVariants as places
use Rattle.hwp_law_served.specs.hwp_core_rule.declared.Sight.{Sight}
use Rattle.hwp_law_served.specs.hwp_core_rule.declared.State.{State}
use Rattle.hwp_law_served.specs.hwp_core_rule.declared.View.{View}
use Rattle.hwp_law_served.specs.hwp_core_rule.Words.{words_of}
use Rattle.hwp_law_served.proofs.of_hwp_core_rule.Lists.{at_map}
use Rattle.hwp_law_served.proofs.of_hwp_core_rule.MoveKeeps.{shaped}
use Rattle.hwp_law_served.specs.hwp_core_rule.Boards.{view_of}
use Rattle.hwp_law_served.specs.hwp_script_words.declared.Command.{Command}
use Rattle.hwp_law_served.specs.hwp_script_words.declared.Script.{Script}
use Rattle.hwp_law_served.specs.hwp_report_text.declared.Report.{Report}
use Rattle.hwp_law_served.specs.hwp_law.Commands.{command_at, process_of_thread, thread_of}
use Rattle.hwp_law_served.specs.hwp_law.Endings.{HasEnding, IsGone}
use Rattle.hwp_law_served.proofs.Homes.{there-is}
use Rattle.hwp_law_served.proofs.Reported.{home-of}
use Rattle.hwp_law_served.specs.Causes.{FoundGone}
use Rattle.hwp_law_served.proofs.RunEnds.{IsEnd}
use Rattle.hwp_top_report.proofs.Shown.{process-is}

-- a thread is declared with a process and a processor of the layout
pub names-inside : (layout : Layout) → IsSound layout → (thread : Thread) (t : ThreadDecl) → slice_get layout.threads thread.0 ≡ Some t → (t.process.0 < layout.procs) × (t.cpu.0 < layout.cpus)
names-inside layout sound thread t there = subst (λ (x : ThreadDecl). (x.process.0 < layout.procs) × (x.cpu.0 < layout.cpus)) (get_or_from_slice_get layout.threads thread.0 t t there)
    (All-get_or (λ (x : ThreadDecl). (x.process.0 < layout.procs) × (x.cpu.0 < layout.cpus)) layout.threads thread.0 t (slice_get_within layout.threads thread.0 t there) sound.thread_names)

-- the process of a thread is one of the layout
declared : (layout : Layout) → IsSound layout → (thread : Thread) (process : Proc) → process_of_thread layout thread ≡ Some process → process.0 < layout.procs
declared layout sound thread process is = which (slice_get layout.threads thread.0) refl is
  where
    which : (o : Option ThreadDecl) → slice_get layout.threads thread.0 ≡ o → option_map (λ (t : ThreadDecl). t.process) o ≡ Some process → process.0 < layout.procs
    which None there is = absurd (none-some process is)
    which (Some t) there is = subst (λ (p : Proc). p.0 < layout.procs) (same_Some t.process process is) (names-inside layout sound thread t there).0

module _ (script : Script) (copies : Who → Option VSlot) (seat : Cpu → ℕ) (last : State) (report : Report) (end : IsEnd script copies seat last report) (cpu : Cpu) (inside : cpu.0 < script.layout.cpus) where
  abbrev view : View
  view = view_of last (seat cpu)

  there : slice_get last.views (seat cpu) ≡ Some view
  there = end.seated.there cpu inside

  -- the page that a word of a process named is one of the layout
  named-page : (process : Proc) (page : Page) (j : ℕ) (s : Sight) → process.0 < script.layout.procs → slice_get view.sights j ≡ Some s → s.place ≡ places.Process process → s.word ≡ page.0 + 1 → page.0 < length script.layout.pages
  named-page process page j s known at place is =
      let shape = shaped script.layout last end.board.holds in
      let word = there-is (words_of script.layout last.words).processes process.0 (subst (λ (n : ℕ). process.0 < n) (sym shape.processes) known) in
      let some : s.word ≢ 0 = λ none. let no_ : page.0 + 1 ≡ 0 = sym is ∙ none in omega arith in
      let stays : word.0 ≡ s.word = end.board.holds.rule.processors.stops.ended_stays process word.0 word.1 (seat cpu) view.sights (at_map (λ (v : View). v.sights) last.views (seat cpu) view there) j s at place some in
      let few : word.0 ≤ length script.layout.pages = end.board.holds.rule.histories.endings.named process.0 word.0 word.1 in
      omega arith

  has-ending : (who : Who) (thread : Thread) (page : Page) → (gone : FoundGone script.layout view who thread page) → HasEnding script report who gone.ended.process page
  has-ending who thread page gone =
      let process : Proc = gone.ended.process in
      let saw = gone.ended.saw in
      let within : page.0 < length script.layout.pages = named-page process page saw.0 saw.1 (declared script.layout end.board.holds.sound thread process gone.ended.process_is) saw.2 saw.3.1 saw.3.2 in
      let told = there-is report.pages page.0 (subst (λ (n : ℕ). page.0 < n) (sym end.board.pages_fit) within) in
      let home = home-of script.layout last report end.board page told.0 told.1 in
      let shown = end.board.holds.rule.histories.endings.shown (seat cpu) view.sights (at_map (λ (v : View). v.sights) last.views (seat cpu) view there) saw.0 saw.1 saw.2 process saw.3.1 in
      let ends = shown.at_home home.0 (record { page = page; entries = told.0 }) home.1 saw.3.2 in
      record {
        at = record { page = page; entry = ends.0 };
        entry = ends.1;
        there = ap (λ (o : Option (List Entry)). option_and_then (λ (es : List Entry). slice_get es ends.0) o) told.1 ∙ ends.2;
        page_is = refl;
        ending = ends.3.0;
        not_later = subst (IsNotLater ends.1.who) saw.3.0 ends.3.1;
      }

  pub is-gone : (who : Who) (command : Command) (thread : Thread) (page : Page) → command_at script who ≡ Some command → thread_of command ≡ Some thread → FoundGone script.layout view who thread page → IsGone script report who page
  is-gone who command thread page at of gone = record {
    process = gone.ended.process;
    process_is = process-is script who command at ∙ ap (λ (o : Option Thread). option_and_then (process_of_thread script.layout) o) of ∙ gone.ended.process_is;
    ending = has-ending who thread page gone;
  }
