-- The event lines of a store that copies a page first are those of the machine checks of its accesses, one after another.
use Rattle.std.proofs.Common.{◌≡◌, ℕ, ◌<◌, List, [], ◌∷◌, ◌++◌, Option, Some, None, length, map, replicate, append_assoc, refl, sym, ap, ◌∙◌, subst}
use Rattle.std.proofs.lemmas.List.{map-append}
use Rattle.std.proofs.lemmas.List.Concat.{flat_map-append}
use Rattle.hwp_law_served.specs.hwp_geom.declared.Cpu.{Cpu}
use Rattle.hwp_law_served.specs.hwp_geom.declared.Mode.TheVariants as modes
use Rattle.hwp_law_served.specs.hwp_geom.declared.Page.{Page}
use Rattle.hwp_law_served.specs.hwp_geom.declared.Proc.{Proc}
use Rattle.hwp_law_served.specs.hwp_geom.declared.Thread.{Thread}
use Rattle.hwp_law_served.specs.hwp_geom.declared.VSlot.{VSlot}
use Rattle.hwp_law_served.specs.hwp_geom.declared.Who.{Who}
use Rattle.hwp_law_served.specs.hwp_banks.declared.Origin.{Origin}
use Rattle.hwp_law_served.specs.hwp_banks.declared.Origin.TheVariants as origins
use Rattle.hwp_law_served.specs.hwp_banks.Banks.{Banks}
use Rattle.hwp_law_served.specs.hwp_core_rule.declared.State.{State}
use Rattle.hwp_law_served.specs.hwp_core_rule.Lists.{EachMember}
use Rattle.hwp_law_served.specs.hwp_core_rule.Boards.{view_of}
use Rattle.hwp_law_served.specs.hwp_script_words.declared.Command.TheVariants as commands
use Rattle.hwp_law_served.specs.hwp_script_words.declared.Script.{Script}
use Rattle.hwp_law_served.specs.hwp_report_text.declared.EventLine.{EventLine}
use Rattle.hwp_law_served.specs.hwp_report_text.declared.Report.{Report}
use Rattle.hwp_law_served.specs.hwp_severity.declared.Arrival.{Arrival}
use Rattle.hwp_law_served.specs.hwp_law.Commands.{command_at}
use Rattle.hwp_law_served.specs.hwp_law.Copies.{copy_checks}
use Rattle.hwp_law_served.specs.hwp_law.Events.{AreAccessChecks}
use Rattle.hwp_law_served.specs.hwp_cpu_row.Acts.{event_at}
use Rattle.hwp_law_served.specs.hwp_claim.declared.EventOutcome.{EventOutcome}
use Rattle.hwp_law_served.specs.hwp_claim.Checks.{AreChecks, Check, left_by, lines_of, restarting}
use Rattle.hwp_law_served.specs.hwp_fork.declared.cow.Cow.{Cow}
use Rattle.hwp_law_served.specs.hwp_fork.declared.cow.CowAt.{CowAt}
use Rattle.hwp_law_served.specs.hwp_fork.declared.cow.CowAt.TheVariants as at
use Rattle.hwp_law_served.specs.hwp_fork.declared.cow.Sub.{Sub}
use Rattle.hwp_law_served.specs.hwp_fork.declared.cow.Sub.TheVariants as subs
use Rattle.hwp_law_served.specs.hwp_fork.Cows as cows
use Rattle.hwp_law_served.specs.hwp_cpu_access.Copyings.{request_by}
use Rattle.hwp_law_served.specs.hwp_cpu_access.Runs.{AreRuns, IsRun, Run, checks_by}
use Rattle.hwp_law_served.specs.Copied.{AreChecksOf, IsCopyTold, store_by, sub_next}
use Rattle.hwp_law_served.proofs.RunEnds.{IsEnd}
use Rattle.hwp_law_served.proofs.copied.CopyLines.{copy-lines, line_of, told_lines}
use Rattle.hwp_top_report.proofs.report_lines.Checks.{HasResult, checks-so, each-first, each-second}
use Rattle.hwp_top_report.proofs.report_lines.SpoiledLines.{bad-shown}

pub left-behind : (banks : Banks) (first more : List Check) → left_by banks (first ++ more) ≡ left_by (left_by banks first) more
left-behind banks [] more = refl
left-behind banks (c ∷ cs) [] = refl
left-behind banks (c ∷ cs) (d ∷ ds) = refl

pub lines-behind : (first more : List Check) → lines_of (first ++ more) ≡ lines_of first ++ lines_of more
lines-behind first more = flat_map-append (λ (c : Check). c.lines) first more

-- machine checks behind others
access-append : (script : Script) (report : Report) (who : Who) (how : Arrival) (origin : Origin) (xs ys : List ℕ) (banks : Banks) (first : List EventLine) (mid : Banks) (more : List EventLine) (after : Banks)
    → AreAccessChecks script report who how origin xs banks first mid → AreAccessChecks script report who how origin ys mid more after → AreAccessChecks script report who how origin (xs ++ ys) banks (first ++ more) after
access-append script report who how origin [] ys banks first mid more after (none, same) rest =
    subst (λ (l : List EventLine). AreAccessChecks script report who how origin ys banks (l ++ more) after) (sym none) (subst (λ (b : Banks). AreAccessChecks script report who how origin ys b more after) same rest)
access-append script report who how origin (x ∷ xs) ys banks first mid more after (frame, now, later, all, damaged, check, then_) rest =
    (frame, now, later ++ more, ap (λ (l : List EventLine). l ++ more) all ∙ append_assoc now later more, damaged, check, access-append script report who how origin xs ys _ later mid more after then_ rest)

module _ (script : Script) (copies : Who → Option VSlot) (seat : Cpu → ℕ) (last : State) (report : Report) (end : IsEnd script copies seat last report) (who : Who) (inside : who.cpu.0 < script.layout.cpus) where
  abbrev Result : EventOutcome → Type 0
  Result = HasResult script copies seat last report end who inside

  abbrev Are : List ℕ → Banks → List Check → Type 0
  Are lines banks checks = AreAccessChecks script report who (restarting modes.User) origins.Access lines banks (map (event_at who.seq) (lines_of checks)) (left_by banks checks)

  both : (xs ys : List ℕ) (banks : Banks) (first more : List Check) → Are xs banks first → Are ys (left_by banks first) more → Are (xs ++ ys) banks (first ++ more)
  both xs ys banks first more a b =
      subst (λ (l : List EventLine). AreAccessChecks script report who (restarting modes.User) origins.Access (xs ++ ys) banks l (left_by banks (first ++ more))) (sym (ap (map (event_at who.seq)) (lines-behind first more) ∙ map-append (event_at who.seq) (lines_of first) (lines_of more)))
      (subst (AreAccessChecks script report who (restarting modes.User) origins.Access (xs ++ ys) banks (map (event_at who.seq) (lines_of first) ++ map (event_at who.seq) (lines_of more))) (sym (left-behind banks first more))
      (access-append script report who (restarting modes.User) origins.Access xs ys banks (map (event_at who.seq) (lines_of first)) (left_by banks first) (map (event_at who.seq) (lines_of more)) (left_by (left_by banks first) more) a b))

  none : (n : ℕ) (banks : Banks) (checks : List Check) → checks ≡ [] → Are (replicate (length checks) n) banks checks
  none n banks checks is = subst (λ (l : List Check). Are (replicate (length l) n) banks l) (sym is) (refl, refl)

  module _ (thread : Thread) (to : VSlot) (line word : ℕ) (of_to : Page) (process : Proc) (page : Page) where
    one : (n : ℕ) (banks : Banks) (checks : List Check) → AreChecks script.layout (view_of last (seat who.cpu)) who thread n origins.Access modes.User banks checks → EachMember Result (lines_of checks) → Are (replicate (length checks) n) banks checks
    one n banks checks = checks-so script copies seat last report end who inside thread n origins.Access modes.User (λ frame saw. bad-shown script copies seat last report end who.cpu inside who n frame saw) banks checks

    of-run : (c : Cow) (x : CowAt) (banks : Banks) (r : Run) → IsRun script.layout (view_of last (seat who.cpu)) (store_by who thread to line word of_to process) page banks r (cows.sub_at c x) → EachMember Result (lines_of r.checks)
        → Are (replicate (length r.checks) (line_of (cows.sub_at c x))) banks r.checks
    of-run c (at.Load n) banks r run results = one n banks r.checks run.checked results
    of-run c (at.Store n w) banks r run results = one n banks r.checks run.checked results
    of-run c at.Last banks r run results = one c.line banks r.checks run.checked results
    of-run c at.Free banks r run results = none 0 banks r.checks run.unchecked
    of-run c at.Switched banks r run results = absurd run

    of-runs : (c : Cow) (banks : Banks) (runs : List Run) → AreRuns script.layout (view_of last (seat who.cpu)) (store_by who thread to line word of_to process) page c banks runs → EachMember Result (lines_of (checks_by runs))
        → Are (told_lines c runs) banks (checks_by runs)
    of-runs c banks [] are results = (refl, refl)
    of-runs c banks (r ∷ rs) are results =
        let all : EachMember Result (lines_of r.checks ++ lines_of (checks_by rs)) = subst (EachMember Result) (lines-behind r.checks (checks_by rs)) results in
        both (replicate (length r.checks) (line_of (cows.sub_of c))) (told_lines (cows.told_by c r.word) rs) banks r.checks (checks_by rs)
        (of-run c c.at banks r are.0 (each-first Result (lines_of r.checks) (lines_of (checks_by rs)) all))
        (of-runs (cows.told_by c r.word) (left_by banks r.checks) rs are.1 (each-second Result (lines_of r.checks) (lines_of (checks_by rs)) all))

    of-last : (sub : Sub) (banks : Banks) (checks : List Check) → AreChecksOf script.layout (view_of last (seat who.cpu)) (request_by (store_by who thread to line word of_to process) page sub) banks checks → EachMember Result (lines_of checks)
        → Are (replicate (length checks) (line_of sub)) banks checks
    of-last (subs.Load slot n) banks checks are results = one n banks checks are results
    of-last (subs.Store slot n w) banks checks are results = one n banks checks are results
    of-last (subs.Free slot) banks checks is results = none 0 banks checks is
    of-last subs.Switched banks checks is results = none 0 banks checks is

  pub copy-checked : (thread : Thread) (from to : VSlot) (line word : ℕ) → copies who ≡ Some from → command_at script who ≡ Some (commands.Store thread to line word) → (before : Banks) (told : List EventOutcome) (after : Banks)
      → IsCopyTold script.layout (view_of last (seat who.cpu)) who thread from to line word before told after → EachMember Result told
      → AreAccessChecks script report who (restarting modes.User) origins.Access (copy_checks script.layout report who from to) before (map (event_at who.seq) told) after
  copy-checked thread from to line word some command before told after is results =
      let checks : List Check = checks_by is.has.runs ++ is.last in
      let all : EachMember Result (lines_of (checks_by is.has.runs) ++ lines_of is.last) = subst (EachMember Result) (is.told_is ∙ lines-behind (checks_by is.has.runs) is.last) results in
      let here : List ℕ = told_lines (cows.begin from to line word) is.has.runs ++ replicate (length is.last) (line_of (sub_next (store_by who thread to line word is.page is.process) from word is.has.runs)) in
      let are = both (told_lines (cows.begin from to line word) is.has.runs) (replicate (length is.last) (line_of (sub_next (store_by who thread to line word is.page is.process) from word is.has.runs))) before (checks_by is.has.runs) is.last
      (of-runs thread to line word is.page is.process is.has.page (cows.begin from to line word) before is.has.runs is.has.are (each-first Result (lines_of (checks_by is.has.runs)) (lines_of is.last) all))
      (of-last thread to line word is.page is.process is.has.page (sub_next (store_by who thread to line word is.page is.process) from word is.has.runs) (left_by before (checks_by is.has.runs)) is.last is.are (each-second Result (lines_of (checks_by is.has.runs)) (lines_of is.last) all)) in
      subst (λ (l : List ℕ). AreAccessChecks script report who (restarting modes.User) origins.Access l before (map (event_at who.seq) told) after) (copy-lines script copies seat last report end who inside thread from to line word some command before told after is)
      (subst (λ (ts : List EventOutcome). AreAccessChecks script report who (restarting modes.User) origins.Access here before (map (event_at who.seq) ts) after) (sym is.told_is)
      (subst (AreAccessChecks script report who (restarting modes.User) origins.Access here before (map (event_at who.seq) (lines_of checks))) (sym is.after_is) are))
