-- What a scheduler asks of tasks and board, and what it keeps between turns.
use Rattle.std.specs.Prelude.{◌≡◌, ◌≢◌, ℕ, ◌<◌, ◌≤◌, ◌⊎◌, List, ◌∷◌, length, take, get_or, set, Option, Some, None}
use Rattle.hwp_script_words.specs.hwp_geom.declared.Frame.{Frame}
use Rattle.hwp_script_words.specs.hwp_geom.declared.Kind.{Kind}
use Rattle.hwp_script_words.specs.hwp_geom.Limits.{cpu_limit}
use Rattle.hwp_core_rule.specs.Rule.{Holds}
use Rattle.hwp_core_rule.specs.declared.Turn.{Turn}
use Rattle.hwp_core_rule.specs.declared.Turn.TheVariants as turns
use Rattle.hwp_core_rule.specs.Boards.{Played, view_of, AreSeated}
use Rattle.hwp_core_rule.specs.Ranks.{Pending}
use Rattle.hwp_core_rule.specs.Turns.{Member}
use Rattle.hwp_core_rule.specs.Classes.{IsScheduled}
use Rattle.hwp_plain.specs.Order.{Running, IsAt, IsChosen, IsOver, TurnOf, cpu_of, seat_of, told_of}
use Rattle.hwp_plain.specs.Rank.{words_in}

-- a failure is the claim of a task
pub record Claimed {S : Type 0} (m : Member S) (tasks : List S) (frame : Frame) (cycle : ℕ) : Type 0 where
  pub cpu : ℕ
  pub task : S
  pub at : IsAt tasks cpu task
  pub claims : m.claims task ≡ Some (frame, cycle)

-- There is one task a processor, in their order. Each fits what its processor knows, and each failure that isn't ended is the
-- claim of one.
pub record IsCrew {S : Type 0} (m : Member S) (a : Running S) : Type 0 where
  pub count : length a.tasks ≡ a.layout.cpus
  pub own : (cpu : ℕ) (s : S) → IsAt a.tasks cpu s → (m.who s).cpu ≡ cpu_of cpu
  pub fits : (cpu : ℕ) (s : S) → IsAt a.tasks cpu s → m.fits a.layout (view_of a.state (seat_of a cpu)) s
  pub claimed : (frame : Frame) (cycle : ℕ) → Pending (words_in a) frame cycle → Claimed m a.tasks frame cycle

-- tasks that keep the law, on a board that keeps the rule
pub record Ready {S : Type 0} (m : Member S) (a : Running S) : Type 0 where
  pub law : 0 < length a.tasks → IsScheduled m
  pub rule : Holds a.layout a.state
  pub seats : AreSeated a.layout a.state a.seat
  pub crew : IsCrew m a

-- A level for each task: the class of each that isn't over. One that is over may still have the level that it had.
pub record AreLevels {S : Type 0} (m : Member S) (tasks : List S) (ls : List ℕ) : Type 0 where
  pub count : length ls ≡ length tasks
  pub class : (cpu : ℕ) (s : S) → IsAt tasks cpu s → m.plan s ≢ None → get_or ls cpu 5 ≡ m.class s

-- what the scheduler keeps between turns of the finishing order, with its array of levels
pub record InPlay {S : Type 0} (m : Member S) (ls : List ℕ) (a : Running S) : Type 0 where
  pub ready : Ready m a
  pub places : length ls ≡ cpu_limit
  pub are : AreLevels m a.tasks (take (length a.tasks) ls)

-- a turn as the board logs it and as it tells it
pub record TurnTold {S : Type 0} (m : Member S) (a : Running S) (cpu : ℕ) (was now : List Played) (told : Turn × Option Kind) (b : Running S) : Type 0 where
  pub played : Played
  pub turn : TurnOf m a cpu played b
  pub logged : now ≡ played ∷ was
  pub told_is : told ≡ told_of played

-- there was no turn, because the task is over
abbrev pub IsFinished : Turn → Type 0
IsFinished turns.Finished = Unit {0}
IsFinished turn = ⊥

-- the task is over: there was no turn, and nothing changed
pub record NoneTold {S : Type 0} (m : Member S) (a : Running S) (cpu : ℕ) (was now : List Played) (told : Turn × Option Kind) (b : Running S) : Type 0 where
  pub over : IsOver m a.tasks cpu
  pub board : b ≡ a
  pub log : now ≡ was
  pub told_is : told ≡ (turns.Finished, None)

-- a turn, or none where the task is over
abbrev pub TurnOrNone : {S : Type 0} → Member S → Running S → ℕ → List Played → List Played → Turn × Option Kind → Running S → Type 0
TurnOrNone m a cpu was now told b = NoneTold m a cpu was now told b ⊎ TurnTold m a cpu was now told b

-- one of the levels is new
pub record IsSet (ls : List ℕ) (cpu : ℕ) (after : List ℕ) : Type 0 where
  pub level : ℕ
  pub is : after ≡ set ls cpu level

-- a turn, or none where the task is over, and the levels after it; that of a task without a turn is above all classes
abbrev pub TurnOrOver : {S : Type 0} → Member S → Running S → ℕ → List Played → List Played → List ℕ → List ℕ → Turn × Option Kind → Running S → Type 0
TurnOrOver m a cpu was now ls after told b = (NoneTold m a cpu was now told b × (after ≡ set ls cpu 5)) ⊎ (TurnTold m a cpu was now told b × IsSet ls cpu after)

-- who comes next, by the levels: none where all are over
abbrev pub IsNext : List ℕ → Option ℕ → Type 0
IsNext ls None = (i : ℕ) → i < length ls → 5 ≤ get_or ls i 5
IsNext ls (Some cpu) = IsChosen ls cpu
