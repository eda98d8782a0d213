-- The rank of running tasks: what each turn of the finishing order lowers.
use Rattle.std.specs.Prelude.{ℕ, ◌+◌, ◌-◌, ◌*◌, ◌==◌, Bool, true, false, cond, List, [], ◌∷◌, map, get_or, set, Option, Some, None}
use Rattle.hwp_core_rule.specs.Words.{Words}
use Rattle.hwp_core_rule.specs.Ranks.{cpu_room, failure_weight, failures_left, top, words_at}
use Rattle.hwp_core_rule.specs.Turns.{Member}
use Rattle.hwp_plain.specs.Order.{Running}

abbrev pub words_in : {S : Type 0} → Running S → Words
words_in a = words_at a.layout a.state

-- how far a processor is from the end of its class, with as many processors as there is room for
abbrev pub gap : ℕ → ℕ → ℕ
gap cpu level = 5 * cpu_room - (cpu_room * level + cpu)

-- the sum of the gaps, the first being of this processor
abbrev pub gaps : ℕ → List ℕ → ℕ
gaps cpu [] = 0
gaps cpu (l ∷ ls) = gap cpu l + gaps (cpu + 1) ls

-- the gaps of all but the chosen one
abbrev pub phi : List ℕ → ℕ → ℕ
phi ls cpu = gaps 0 (set ls cpu 5)

-- one of the levels is 1
abbrev pub has_one : List ℕ → Bool
has_one [] = false
has_one (l ∷ ls) = cond (l == 1) true (has_one ls)

-- how soon another is chosen: 1 where the chosen one is over, 2 where it is about to leave its class to another of class 1
abbrev pub stage : Bool → Bool → List ℕ → ℕ → ℕ
stage over aborts ls cpu = cond over 1 (cond aborts (cond (has_one (set ls cpu 5)) 2 3) 3)

abbrev pub is_none : {A : Type 0} → Option A → Bool
is_none None = true
is_none (Some step) = false

abbrev pub over_at : {S : Type 0} → Member S → List S → ℕ → Bool
over_at m tasks cpu = get_or (map (λ s. is_none (m.plan s)) tasks) cpu false

abbrev pub aborts_at : {S : Type 0} → Member S → List S → ℕ → Bool
aborts_at m tasks cpu = get_or (map m.aborts tasks) cpu false

abbrev pub cost_at : {S : Type 0} → Member S → List S → Words → ℕ → ℕ
cost_at m tasks words cpu = get_or (map (λ s. m.cost s words) tasks) cpu 0

-- what a processor may need: its cost, and what the failures that are left may add to it
abbrev pub need_at : {S : Type 0} → Member S → List S → Words → ℕ → ℕ
need_at m tasks words cpu = cost_at m tasks words cpu + failure_weight * failures_left words

-- more than all needs
abbrev pub ceiling : ℕ
ceiling = 2 * top

abbrev pub number_of : ℕ → ℕ → ℕ → ℕ
number_of phi stage need = (3 * phi + stage) * ceiling + need

-- with these levels: first what the others have left, then the stage of the chosen one, then what it may need; 0 where none is left
abbrev pub rank : {S : Type 0} → Member S → Running S → List ℕ → Option ℕ → ℕ
rank m a ls None = 0
rank m a ls (Some cpu) = number_of (phi ls cpu) (stage (over_at m a.tasks cpu) (aborts_at m a.tasks cpu) ls cpu) (need_at m a.tasks (words_in a) cpu)
