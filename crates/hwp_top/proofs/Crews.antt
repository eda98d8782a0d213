-- The processors of a script, at their beginning and when all their turns are made.
use Rattle.std.proofs.Common.{◌≡◌, ◌⊎◌, ℕ, zero, suc, ◌+◌, ◌<◌, ◌≤◌, inl, inr, List, [], ◌∷◌, ◌++◌, Some, All, count_by, length, get_or, slice_get, refl, sym, ap, ◌∙◌, subst, arith}
use Rattle.std.proofs.lemmas.Bool.{cases_lt}
use Rattle.std.proofs.lemmas.List.{length-append}
use Rattle.std.proofs.lemmas.List.Sums.{get_or-le-sum_by}
use Rattle.std.proofs.lemmas.Option.{get_or_from_slice_get, same_Some, slice_get-get_or, slice_get_within}
use Rattle.hwp_top_report.specs.hwp_geom.declared.Cpu.{Cpu}
use Rattle.hwp_top_report.specs.hwp_geom.declared.Layout.{Layout}
use Rattle.hwp_top_report.specs.hwp_core_rule.declared.State.{State}
use Rattle.hwp_top_report.specs.hwp_core_rule.Opening.{opening}
use Rattle.hwp_top_report.specs.hwp_core_rule.Rule.{Holds}
use Rattle.hwp_top_report.specs.hwp_core_rule.declared.Turn.{Turn}
use Rattle.hwp_top_report.specs.hwp_core_rule.Boards.{AreSeated, Played, view_of}
use Rattle.hwp_top_report.specs.hwp_core_rule.Ranks.{Made}
use Rattle.hwp_top_words.specs.hwp_script_read.declared.Command.{Command}
use Rattle.hwp_top_words.specs.hwp_script_read.declared.Script.{Script}
use Rattle.hwp_top_words.specs.hwp_script_read.hwp_script_words.Forks.{is_fork_of}
use Rattle.hwp_top_words.specs.hwp_script_read.hwp_script_words.Valid.{AreLists, IsCommandOf, IsValid}
use Rattle.hwp_top_report.specs.hwp_plain.Order.{InOrder, IsAt, Running, cpu_of, running}
use Rattle.hwp_top_report.specs.hwp_plain.Ready.{IsCrew}
use Rattle.hwp_top_report.proofs.of_hwp_plain.CrewOpens.{opening-crew}
use Rattle.hwp_top_report.proofs.of_hwp_law_served.Homes.{there-is}
use Rattle.hwp_top_report.proofs.of_hwp_law_served.turns.TurnKeeps.{kept-ordered}
use Rattle.hwp_top_report.specs.hwp_cpu_row.declared.Row.{Row}
use Rattle.hwp_top_report.specs.hwp_law_served.Runs.{HaveServed}
use Rattle.hwp_cpu.specs.declared.Processor.{Processor}
use Rattle.hwp_cpu.specs.Processors.{AreCommands, AreFinished, AtBeginning}
use Rattle.hwp_cpu.specs.Serving.{Fits}
use Rattle.hwp_cpu.proofs.Ends.{opening-fits, opening-own}
use Rattle.hwp_top_report.specs.Closing.{lines_of_all}
use Rattle.hwp_top.proofs.ProcessorServes.{Keeps, begins-kept, next-kept, served-kept}
use Rattle.hwp_top_report.specs.Finishes.{own_seat}
use Rattle.hwp_top.specs.Runs.{AreAtBeginning, processors}

-- ---- the commands of a processor

lists-at : (layout : Layout) (cpu : ℕ) (lists : List (List Command)) (i k : ℕ) (d : List Command) → AreLists layout cpu lists → i < length lists → k ≡ cpu + i → All (IsCommandOf layout k) (get_or lists i d)
lists-at layout cpu [] i k d are inside at = absurd (omega arith)
lists-at layout cpu (l ∷ ls) zero k d are inside at = subst (λ (c : ℕ). All (IsCommandOf layout c) l) (let same : cpu ≡ k = omega arith in same) are.0
lists-at layout cpu (l ∷ ls) (suc i) k d are inside at = lists-at layout (cpu + 1) ls i k d are.1 (omega arith) (omega arith)

-- the commands of a processor's list name what the layout declares, and are no more than a script has; its forks are such as there may be
pub commands-at : (script : Script) (i : ℕ) (d : List Command) → IsValid script → i < length script.lists → AreCommands script.layout (cpu_of i) (get_or script.lists i d)
commands-at script i d valid inside = record {
  named = lists-at script.layout 0 script.lists i i d valid.lists inside (omega arith);
  few = omega (arith, get_or-le-sum_by length script.lists i d inside, valid.few);
  twins = valid.twins;
  forks = valid.forks i (get_or script.lists i d) (slice_get-get_or script.lists i d inside);
  once = λ process. omega (arith, get_or-le-sum_by (count_by (is_fork_of process)) script.lists i d inside, valid.once process);
}

-- ---- the beginning

-- so many processors are at their beginning
pub record AreBegun (script : Script) (tasks : List Processor) : Type 0 where
  pub each : (cpu : Cpu) (list : List Command) (p : Processor) → slice_get script.lists cpu.0 ≡ Some list → slice_get tasks cpu.0 ≡ Some p → AtBeginning script.layout cpu list p

-- what stands before a member that was added is as it was
get-front : {A : Type 0} (xs : List A) (x : A) (i : ℕ) → i < length xs → slice_get (xs ++ x ∷ []) i ≡ slice_get xs i
get-front [] x i inside = absurd (omega arith)
get-front (y ∷ ys) x zero inside = refl
get-front (y ∷ ys) x (suc i) inside = get-front ys x i (omega arith)

get-last : {A : Type 0} (xs : List A) (x : A) → slice_get (xs ++ x ∷ []) (length xs) ≡ Some x
get-last [] x = refl
get-last (y ∷ ys) x = get-last ys x

-- and one more
pub begun-more : (script : Script) (tasks : List Processor) (p : Processor) (d : List Command) → AreBegun script tasks → length tasks < length script.lists
    → AtBeginning script.layout (cpu_of (length tasks)) (get_or script.lists (length tasks) d) p → AreBegun script (tasks ++ p ∷ [])
begun-more script tasks p d begun inside at = record {
  each = λ cpu list q there mine. which cpu list q there mine (cases_lt cpu.0 (length tasks));
}
  where
    which : (cpu : Cpu) (list : List Command) (q : Processor) → slice_get script.lists cpu.0 ≡ Some list → slice_get (tasks ++ p ∷ []) cpu.0 ≡ Some q → (cpu.0 < length tasks) ⊎ (length tasks ≤ cpu.0) → AtBeginning script.layout cpu list q
    which cpu list q there mine (inl before) = begun.each cpu list q there (sym (get-front tasks p cpu.0 before) ∙ mine)
    which cpu list q there mine (inr past) =
        let within : cpu.0 < length (tasks ++ p ∷ []) = slice_get_within (tasks ++ p ∷ []) cpu.0 q mine in
        let all : length (tasks ++ p ∷ []) ≡ length tasks + 1 = length-append tasks (p ∷ []) in
        let last : length tasks ≡ cpu.0 = omega arith in
        let same : p ≡ q = same_Some p q (sym (get-last tasks p) ∙ ap (slice_get (tasks ++ p ∷ [])) last ∙ mine) in
        let listed : get_or script.lists (length tasks) d ≡ list = ap (λ (n : ℕ). get_or script.lists n d) last ∙ get_or_from_slice_get script.lists cpu.0 list d there in
        subst (λ (x : Processor). AtBeginning script.layout cpu list x) same
        (subst (λ (l : List Command). AtBeginning script.layout cpu l p) listed
        (subst (λ (n : ℕ). AtBeginning script.layout (cpu_of n) (get_or script.lists (length tasks) d) p) last at))

-- ---- the tasks at their places

at-place : {A : Type 0} (tasks : List A) (i : ℕ) (p : A) → IsAt tasks i p → slice_get tasks i ≡ Some p
at-place tasks i p at = slice_get-get_or tasks i p at.within ∙ ap (λ x. Some x) at.is

is-at : {A : Type 0} (tasks : List A) (i : ℕ) (p : A) → slice_get tasks i ≡ Some p → IsAt tasks i p
is-at tasks i p there = record { within = slice_get_within tasks i p there; is = get_or_from_slice_get tasks i p p there }

module _ (script : Script) (tasks : List Processor) (valid : IsValid script) (begin : AreAtBeginning script tasks) where
  -- a task is at the beginning of its processor's list
  begins-at : (cpu : ℕ) (p : Processor) → IsAt tasks cpu p → (list : List Command) × (slice_get script.lists cpu ≡ Some list) × AtBeginning script.layout (cpu_of cpu) list p
  begins-at cpu p at =
      let within : cpu < length tasks = at.within in
      let one_each : length tasks ≡ length script.lists = begin.one_each in
      let list = there-is script.lists cpu (omega arith) in
      (list.0, list.1, begin.each (cpu_of cpu) list.0 p list.1 (at-place tasks cpu p at))

  -- the tasks are a crew on the board at opening
  pub begin-crew : IsCrew processors (running script.layout own_seat tasks (opening script.layout))
  begin-crew = opening-crew processors script.layout own_seat tasks valid.sound (begin.one_each ∙ valid.one_each) (λ cpu p at.
      let begins = begins-at cpu p at in
      (opening-own script.layout (cpu_of cpu) begins.0 p begins.2, opening-fits script.layout (cpu_of cpu) begins.0 p begins.2))

  -- when all turns are made, each has served its commands
  pub all-served : (turns : List Played) (last : Running Processor) → InOrder processors script.go (running script.layout own_seat tasks (opening script.layout)) turns last
      → Holds script.layout last.state → AreSeated script.layout last.state own_seat
      → IsCrew processors (running script.layout own_seat last.tasks last.state) → (rows : List (List Row)) → AreFinished last.tasks rows → HaveServed script own_seat last.state rows (lines_of_all rows)
  all-served turns last order holds seated crew rows finished = served-kept script valid last.state last.tasks holds seated each rows finished
    where
      turn-keeps : (layout : Layout) (seat : ℕ) (a b : State) (cpu : ℕ) (p q : Processor) (turn : Turn) → Made processors layout seat a b p q turn → Keeps script cpu p → Keeps script cpu q
      turn-keeps layout seat a b cpu p q turn made = next-kept script layout cpu p q made.found made.got turn made.follows

      each : (cpu : ℕ) (p : Processor) → slice_get last.tasks cpu ≡ Some p → Keeps script cpu p × Fits script.layout (view_of last.state cpu) p
      each cpu p there =
          let at : IsAt last.tasks cpu p = is-at last.tasks cpu p there in (
            kept-ordered processors (Keeps script) turn-keeps script.go (running script.layout own_seat tasks (opening script.layout)) last turns order
                (λ c q begun. begins-kept script tasks valid begin c q (at-place tasks c q begun)) cpu p at,
            crew.fits cpu p at,
          )

-- there are as many lists of rows as processors
pub finished-length : (ps : List Processor) (rows : List (List Row)) → AreFinished ps rows → length rows ≡ length ps
finished-length [] [] are = refl
finished-length [] (r ∷ rs) are = absurd are
finished-length (p ∷ ps) [] are = absurd are
finished-length (p ∷ ps) (r ∷ rs) are = ap (λ (n : ℕ). suc n) (finished-length ps rs are.1)
