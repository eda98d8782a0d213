-- The order of turns: the schedule's words, and then the finishing order.
use Rattle.std.specs.Prelude.{◌≡◌, ℕ, ◌<◌, ◌≤◌, ◌⊎◌, List, [], ◌∷◌, ◌++◌, map, length, get_or, set, Option, Some, None}
use Rattle.hwp_script_words.specs.hwp_geom.declared.Cpu.{Cpu}
use Rattle.hwp_script_words.specs.hwp_geom.declared.Kind.{Kind}
use Rattle.hwp_script_words.specs.hwp_geom.declared.Layout.{Layout}
use Rattle.hwp_core_rule.specs.declared.State.{State}
use Rattle.hwp_core_rule.specs.Steps.{kind_of}
use Rattle.hwp_script_words.specs.declared.Go.{Go}
use Rattle.hwp_script_words.specs.declared.Until.{Until}
use Rattle.hwp_script_words.specs.declared.Until.TheVariants as untils
use Rattle.hwp_core_rule.specs.declared.Turn.{Turn}
use Rattle.hwp_core_rule.specs.declared.Turn.TheVariants as turns
use Rattle.hwp_core_rule.specs.Boards.{Played}
use Rattle.hwp_core_rule.specs.Calls.{logs, rec_of}
use Rattle.hwp_core_rule.specs.Ranks.{Made}
use Rattle.hwp_core_rule.specs.Turns.{Member}

-- tasks that run on a board, each at the place of its processor
pub record Running (S : Type 0) : Type 0 where
  pub layout : Layout
  pub seat : Cpu → ℕ
  pub tasks : List S
  pub state : State

abbrev pub running : {S : Type 0} → Layout → (Cpu → ℕ) → List S → State → Running S
running layout seat tasks state = record { layout = layout; seat = seat; tasks = tasks; state = state }

abbrev pub cpu_of : ℕ → Cpu
cpu_of cpu = record { 0 = cpu }

abbrev pub seat_of : {S : Type 0} → Running S → ℕ → ℕ
seat_of a cpu = a.seat (cpu_of cpu)

-- the task of a processor
pub record IsAt {S : Type 0} (tasks : List S) (cpu : ℕ) (s : S) : Type 0 where
  pub within : cpu < length tasks
  pub is : get_or tasks cpu s ≡ s

abbrev pub IsOver : {S : Type 0} → Member S → List S → ℕ → Type 0
IsOver {S} m tasks cpu = (s : S) → IsAt tasks cpu s → m.plan s ≡ None

abbrev pub AreOver : {S : Type 0} → Member S → List S → Type 0
AreOver m tasks = (cpu : ℕ) → IsOver m tasks cpu

abbrev pub IsNoMemory : Turn → Type 0
IsNoMemory turns.NoMemory = Unit {0}
IsNoMemory turn = ⊥

-- A turn of a processor, as a log lists it: its task made a step, for which memory was not refused. The other tasks stayed.
pub record TurnOf {S : Type 0} (m : Member S) (a : Running S) (cpu : ℕ) (played : Played) (b : Running S) : Type 0 where
  pub before : S
  pub after : S
  pub at : IsAt a.tasks cpu before
  pub made : Made m a.layout (seat_of a cpu) a.state b.state before after played.turn
  pub next : b ≡ record a { tasks = set a.tasks cpu after; state = b.state }
  pub listed : played ≡ record { seat = seat_of a cpu; made = rec_of a.layout (m.who before) made.step (logs (m.put before)) made.found made.got; turn = played.turn }
  pub goes_on : IsNoMemory played.turn → ⊥

-- the turn ends a command, or waits
abbrev pub EndsCommand : Turn → Type 0
EndsCommand turns.Answered = Unit {0}
EndsCommand (turns.Waits word) = Unit {0}
EndsCommand turn = ⊥

-- a word of the schedule ends with this turn, of a step of this kind
abbrev pub EndsWord : Until → Turn × Option Kind → Type 0
EndsWord untils.One told = Unit {0}
EndsWord untils.Command told = EndsCommand told.0
EndsWord (untils.After kind) told = (told.1 ≡ Some kind) ⊎ EndsCommand told.0

abbrev pub told_of : Played → Turn × Option Kind
told_of played = (played.turn, kind_of played.made.step)

-- the turns of one word: of its processor alone, up to the first that ends it, or until the processor is over
abbrev pub Word : {S : Type 0} → Member S → Go → Running S → List Played → Running S → Type 0
Word {S} m go a [] b = IsOver m a.tasks go.cpu.0 × (b ≡ a)
Word {S} m go a (p ∷ ps) b = (mid : Running S) × TurnOf m a go.cpu.0 p mid
    × ((EndsWord go.until (told_of p) × (ps ≡ []) × (b ≡ mid)) ⊎ ((EndsWord go.until (told_of p) → ⊥) × Word m go mid ps b))

-- the turns of one word, and then others
pub record WordThen {S : Type 0} (m : Member S) (go : Go) (a : Running S) (ps : List Played) (rest : Running S → List Played → Type 0) : Type 0 where
  pub now : List Played
  pub later : List Played
  pub mid : Running S
  pub all : ps ≡ now ++ later
  pub word : Word m go a now mid
  pub goes_on : rest mid later

-- the turns of a schedule
abbrev pub Schedule : {S : Type 0} → Member S → List Go → Running S → List Played → Running S → Type 0
Schedule m [] a ps b = (ps ≡ []) × (b ≡ a)
Schedule m (go ∷ words) a ps b = WordThen m go a ps (λ mid later. Schedule m words mid later b)

-- the class of a task, and 5 where it is over
abbrev pub level_by : {A : Type 0} → Option A → ℕ → ℕ
level_by None class = 5
level_by (Some step) class = class

abbrev pub level : {S : Type 0} → Member S → S → ℕ
level m s = level_by (m.plan s) (m.class s)

abbrev pub levels : {S : Type 0} → Member S → List S → List ℕ
levels m tasks = map (level m) tasks

-- of the processors that aren't over, the lowest-numbered of the lowest class
pub record IsChosen (ls : List ℕ) (cpu : ℕ) : Type 0 where
  pub within : cpu < length ls
  pub going : get_or ls cpu 5 < 5
  pub least : (i : ℕ) → i < length ls → (get_or ls cpu 5 < get_or ls i 5) ⊎ ((get_or ls cpu 5 ≡ get_or ls i 5) × (cpu ≤ i))

-- the finishing order: each turn goes to the chosen processor, until all are over
abbrev pub Finishing : {S : Type 0} → Member S → Running S → List Played → Running S → Type 0
Finishing {S} m a [] b = AreOver m a.tasks × (b ≡ a)
Finishing {S} m a (p ∷ ps) b = (cpu : ℕ) × IsChosen (levels m a.tasks) cpu × ((mid : Running S) × TurnOf m a cpu p mid × Finishing m mid ps b)

-- the schedule's turns, then those of the finishing order
pub record InOrder {S : Type 0} (m : Member S) (words : List Go) (a : Running S) (ps : List Played) (b : Running S) : Type 0 where
  pub scheduled : List Played
  pub finishing : List Played
  pub mid : Running S
  pub all : ps ≡ scheduled ++ finishing
  pub schedule : Schedule m words a scheduled mid
  pub finish : Finishing m mid finishing b

-- a log with these turns more, given in their order
abbrev pub logged : List Played → List Played → List Played
logged [] log = log
logged (p ∷ ps) log = logged ps (p ∷ log)

-- the log grew by turns that are such
pub record Grows (was now : List Played) (Are : List Played → Type 0) : Type 0 where
  pub turns : List Played
  pub now_is : now ≡ logged turns was
  pub are : Are turns

-- the newest turn was refused memory
abbrev pub IsRefused : List Played → Type 0
IsRefused [] = ⊥
IsRefused (p ∷ log) = IsNoMemory p.turn
