-- What holds of each event of a machine check holds of each event that a store tells which copies a page first, and so of each command.
use Rattle.std.proofs.Common.{◌≡◌, ℕ, List, [], ◌∷◌, ◌++◌, Option, Some, None, is_some, slice_get, refl, sym, ap, ◌∙◌, subst}
use Rattle.std.proofs.lemmas.List.Concat.{flat_map-append}
use Rattle.std.proofs.lemmas.Option.{none-some}
use Rattle.hwp_law.specs.hwp_geom.declared.Layout.{Layout}
use Rattle.hwp_law.specs.hwp_geom.declared.Mode.TheVariants as modes
use Rattle.hwp_law.specs.hwp_geom.declared.Page.{Page}
use Rattle.hwp_law.specs.hwp_geom.declared.Proc.{Proc}
use Rattle.hwp_law.specs.hwp_geom.declared.Thread.{Thread}
use Rattle.hwp_law.specs.hwp_geom.declared.VSlot.{VSlot}
use Rattle.hwp_law.specs.hwp_geom.declared.Who.{Who}
use Rattle.hwp_law.specs.hwp_banks.declared.Origin.TheVariants as origins
use Rattle.hwp_law.specs.hwp_banks.Banks.{Banks}
use Rattle.hwp_plain.specs.hwp_core_rule.declared.View.{View}
use Rattle.hwp_plain.specs.hwp_core_rule.Lists.{EachMember}
use Rattle.hwp_plain.proofs.of_hwp_core_rule.MoreEntries.{each-append}
use Rattle.hwp_law.specs.hwp_script_words.declared.Command.{Command}
use Rattle.hwp_law.specs.hwp_script_words.declared.Command.TheVariants as commands
use Rattle.hwp_law.specs.hwp_report_text.declared.Answer.{Answer}
use Rattle.hwp_law.specs.Commands.{current_thread}
use Rattle.hwp_cpu_row.specs.hwp_claim.declared.EventOutcome.{EventOutcome}
use Rattle.hwp_cpu_row.specs.hwp_claim.Checks.{Check, left_by, lines_of}
use Rattle.hwp_cpu_access.specs.hwp_fork.declared.cow.Cow.{Cow}
use Rattle.hwp_cpu_access.specs.hwp_fork.declared.cow.CowAt.{CowAt}
use Rattle.hwp_cpu_access.specs.hwp_fork.declared.cow.CowAt.TheVariants as at
use Rattle.hwp_cpu_access.specs.hwp_fork.declared.cow.Sub.{Sub}
use Rattle.hwp_cpu_access.specs.hwp_fork.declared.cow.Sub.TheVariants as subs
use Rattle.hwp_cpu_access.specs.hwp_fork.Cows as cows
use Rattle.hwp_cpu_access.specs.Copyings.{request_by}
use Rattle.hwp_cpu_access.specs.Runs.{AreRuns, IsRun, Run, checks_by}
use Rattle.hwp_law_served.specs.Copied.{AreChecksOf, IsCopyTold, store_by}
use Rattle.hwp_law_served.specs.Told.{AreToldWith}
use Rattle.hwp_law_served.proofs.RowTold.{HoldsOfEvents, IsToldRight, of-checks, told-by, told-each}

module _ (layout : Layout) (view : View) (who : Who) (P : Option Thread → EventOutcome → Type 0) (holds : HoldsOfEvents layout view who P) where
  module _ (thread : Thread) (to : VSlot) (line word : ℕ) (of_to : Page) (process : Proc) where
    abbrev So : List Check → Type 0
    So checks = EachMember (P (Some thread)) (lines_of checks)

    so-none : (checks : List Check) → checks ≡ [] → So checks
    so-none checks none = subst So (sym none) (λ i t there. absurd (none-some t there))

    both : (first second : List Check) → So first → So second → So (first ++ second)
    both first second a b = subst (EachMember (P (Some thread))) (sym (flat_map-append (λ (c : Check). c.lines) first second)) (each-append (P (Some thread)) (lines_of first) (lines_of second) a b)

    of-run : (page : Page) (c : Cow) (x : CowAt) (banks : Banks) (r : Run) → IsRun layout view (store_by who thread to line word of_to process) page banks r (cows.sub_at c x) → So r.checks
    of-run page c (at.Load n) banks r run = of-checks layout view who P holds thread n origins.Access modes.User banks r.checks run.checked
    of-run page c (at.Store n w) banks r run = of-checks layout view who P holds thread n origins.Access modes.User banks r.checks run.checked
    of-run page c at.Last banks r run = of-checks layout view who P holds thread c.line origins.Access modes.User banks r.checks run.checked
    of-run page c at.Free banks r run = so-none r.checks run.unchecked
    of-run page c at.Switched banks r run = absurd run

    of-runs : (page : Page) (c : Cow) (banks : Banks) (runs : List Run) → AreRuns layout view (store_by who thread to line word of_to process) page c banks runs → So (checks_by runs)
    of-runs page c banks [] are = λ i t there. absurd (none-some t there)
    of-runs page c banks (r ∷ rs) are = both r.checks (checks_by rs) (of-run page c c.at banks r are.0) (of-runs page (cows.told_by c r.word) (left_by banks r.checks) rs are.1)

    of-last : (page : Page) (sub : Sub) (banks : Banks) (checks : List Check) → AreChecksOf layout view (request_by (store_by who thread to line word of_to process) page sub) banks checks → So checks
    of-last page (subs.Load slot n) banks checks are = of-checks layout view who P holds thread n origins.Access modes.User banks checks are
    of-last page (subs.Store slot n w) banks checks are = of-checks layout view who P holds thread n origins.Access modes.User banks checks are
    of-last page (subs.Free slot) banks checks none = so-none checks none
    of-last page subs.Switched banks checks none = so-none checks none

  copy-told : (thread : Thread) (from to : VSlot) (line word : ℕ) (before : Banks) (told : List EventOutcome) (after : Banks) → IsCopyTold layout view who thread from to line word before told after → EachMember (P (Some thread)) told
  copy-told thread from to line word before told after is =
      subst (EachMember (P (Some thread))) (sym is.told_is)
      (both thread to line word is.page is.process (checks_by is.has.runs) is.last
      (of-runs thread to line word is.page is.process is.has.page (cows.begin from to line word) before is.has.runs is.has.are)
      (of-last thread to line word is.page is.process is.has.page _ _ is.last is.are))

  -- of any command
  pub told-with : (copied : Option VSlot) (command : Command) (answer : Answer) (before : Banks) (told : List EventOutcome) (after : Banks) → AreToldWith layout copied view who command answer before told after → EachMember (P (current_thread command)) told
  told-with None command answer before told after is = told-by layout view who P holds command answer before told after is
  told-with (Some from) (commands.Store thread to line word) answer before told after is = copy-told thread from to line word before told after is
  told-with (Some from) command answer before told after is = absurd is

module _ (layout : Layout) (view : View) (who : Who) where
  -- what was done about each event is right
  pub told-so : (copied : Option VSlot) (command : Command) (answer : Answer) (before : Banks) (told : List EventOutcome) (after : Banks) → AreToldWith layout copied view who command answer before told after → EachMember (IsToldRight layout view who (current_thread command)) told
  told-so = told-with layout view who (IsToldRight layout view who) (λ thread how events held_back lines user held told. told-each layout view who thread held_back lines told)
