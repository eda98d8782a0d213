-- The commands of one processor as one task: in all that it plans, shows and needs it is the command that runs, with the frames that are
-- taken out of use beside it, until that is answered; then the next one begins.
use Rattle.std.specs.Prelude.{◌≡◌, ℕ, ◌+◌, ◌-◌, ◌*◌, ◌<◌, ◌≤◌, Bool, false, List, [], ◌∷◌, ◌++◌, Option, Some, None, All, count_by, length, option_map, slice_get, vec_capacity}
use Rattle.std.specs.Arc.{arc_value}
use Rattle.std.specs.List.{list_any}
use Rattle.hwp_cpu_row.specs.hwp_geom.declared.Cpu.{Cpu}
use Rattle.hwp_cpu_row.specs.hwp_geom.declared.Frame.{Frame}
use Rattle.hwp_cpu_row.specs.hwp_geom.declared.Layout.{Layout}
use Rattle.hwp_cpu_row.specs.hwp_geom.declared.Who.{Who}
use Rattle.hwp_cpu_row.specs.hwp_geom.Layout.{IsSound}
use Rattle.hwp_cpu_row.specs.hwp_geom.Limits.{command_limit}
use Rattle.hwp_cpu_row.specs.hwp_geom.Pairs.{Pairs}
use Rattle.hwp_cpu_row.specs.hwp_page.History.{BodyValue}
use Rattle.hwp_cpu_row.specs.hwp_script_words.declared.Command.{Command}
use Rattle.hwp_cpu_row.specs.hwp_law.Commands.{is_watch}
use Rattle.hwp_cpu_row.specs.hwp_script_words.Forks.{is_fork_of}
use Rattle.hwp_cpu_row.specs.hwp_script_words.Valid.{AreForksFit, AreTwinsFit, IsCommandOf}
use Rattle.hwp_cpu_row.specs.hwp_report_text.declared.Answer.{Answer}
use Rattle.hwp_cpu_row.specs.hwp_core_rule.declared.Step.{Step}
use Rattle.hwp_cpu_row.specs.hwp_core_rule.Words.{Words}
use Rattle.hwp_cpu_row.specs.hwp_core_rule.declared.Turn.{Turn}
use Rattle.hwp_cpu_row.specs.hwp_core_rule.declared.Turn.TheVariants as turns
use Rattle.hwp_cpu_row.specs.hwp_core_rule.Ranks.{command_weight}
use Rattle.hwp_cpu_command.specs.FileHandles.{HasChangeWithin, StandsOn}
use Rattle.hwp_cpu_command.specs.declared.Job.{Job}
use Rattle.hwp_cpu_command.specs.Jobs as jobs
use Rattle.hwp_cpu.specs.declared.course.Course.{Course}
use Rattle.hwp_cpu.specs.Courses as courses
use Rattle.hwp_cpu.specs.Courses.{BeginsCourse, local_after, local_left, part, row_of}
use Rattle.hwp_cpu_row.specs.declared.Local.{Local}
use Rattle.hwp_cpu_row.specs.CowLists.{acting_in, copied_in, told_in}
use Rattle.hwp_cpu_row.specs.GuestLists as guests
use Rattle.hwp_cpu_row.specs.GuestLists.{MayTake, MayTell, States, admission_in, line_in}
use Rattle.hwp_cpu_row.specs.Locals.{IsFirst}
use Rattle.hwp_cpu_row.specs.declared.Row.{Row}
use Rattle.hwp_cpu_row.specs.hwp_report_text.declared.GuestLine.{GuestLine}
use Rattle.hwp_cpu.specs.declared.processor.Processor.{Processor}
use Rattle.hwp_law_served.specs.Rows.{at_number}

-- no process is forked twice
abbrev pub AreForkedOnce : List Command → Type 0
AreForkedOnce list = (process : ℕ) → count_by (is_fork_of process) list ≤ 1

-- commands of the processor, which name what the layout declares, no more than a script has; its forks and the layout's twins are such as
-- there may be
pub record AreCommands (layout : Layout) (cpu : Cpu) (list : List Command) : Type 0 where
  pub named : All (IsCommandOf layout cpu.0) list
  pub few : length list ≤ command_limit
  pub twins : AreTwinsFit layout
  pub forks : AreForksFit layout cpu.0 list
  pub once : AreForkedOnce list

-- the processor can run its commands, and has memory for a row of each
pub record IsReady (p : Processor) : Type 0 where
  pub sound : IsSound (arc_value p.layout)
  pub commands : AreCommands (arc_value p.layout) p.cpu p.commands
  pub room : length p.commands ≤ vec_capacity p.rows

-- the command is at its beginning, of a processor that carries this: it is acted on through the translations that stand for those it names,
-- and copies from one that is frozen; one that its guest doesn't admit is answered by that guest; it begins with what the banks hold, and
-- with the number of its file's handle, knows whether the processor collects, and has the collector while it runs; past the last command
-- none runs
abbrev pub BeginsAt : Layout → Who → Option Command → Local → Option Course → Type 0
BeginsAt layout who (Some command) local (Some c) = BeginsCourse layout who (acting_in layout local.cows command) (copied_in local.cows command) (admission_in layout local.guests command) local c
BeginsAt layout who None local None = Unit {0}
BeginsAt layout who _ local _ = ⊥

-- what the processor keeps when it has begun: some commands take what the banks hold, and each has the collector
abbrev pub left_of : Option Course → Local → Local
left_of (Some c) local = local_left c local
left_of None local = local

-- the processor is at the beginning of its first command, and has answered none; its banks held nothing, the numbers of its handles
-- were 0, and there was room for a collector if one of its commands is a `watch`
pub record AtBeginning (layout : Layout) (cpu : Cpu) (list : List Command) (p : Processor) : Type 0 where
  pub layout_is : arc_value p.layout ≡ layout
  pub cpu_is : p.cpu ≡ cpu
  pub commands_are : p.commands ≡ list
  pub ready : IsReady p
  pub no_row : p.rows.items ≡ []
  pub first : Local
  pub is_first : IsFirst layout (list_any is_watch list) first
  pub begins : BeginsAt layout (at_number cpu 0) (slice_get list 0) first p.course
  pub local_is : p.local ≡ left_of p.course first

-- ---- the command that runs

abbrev pub who_of : Cpu → Option Course → Who
who_of cpu (Some c) = jobs.who c.own
who_of cpu None = at_number cpu 0

abbrev pub who : Processor → Who
who p = who_of p.cpu p.course

abbrev pub plan_of : Option Course → Option Step
plan_of (Some c) = jobs.plan (part c)
plan_of None = None

abbrev pub plan : Processor → Option Step
plan p = plan_of p.course

abbrev pub put_of : Option Course → Option BodyValue
put_of (Some c) = jobs.put (part c)
put_of None = None

abbrev pub put : Processor → Option BodyValue
put p = put_of p.course

abbrev pub bare : Processor → Processor
bare p = record p { course = option_map courses.bare p.course }

abbrev pub class_of : Option Course → ℕ
class_of (Some c) = jobs.class (part c)
class_of None = 4

abbrev pub class : Processor → ℕ
class p = class_of p.course

abbrev pub cost_of : Option Course → Words → ℕ
cost_of (Some c) words = courses.cost c words
cost_of None words = 0

-- what the command that runs claims, and whether it gives up what it has begun
abbrev pub claims_of : Option Course → Option (Frame × ℕ)
claims_of (Some c) = jobs.claims (part c)
claims_of None = None

abbrev pub claims : Processor → Option (Frame × ℕ)
claims p = claims_of p.course

abbrev pub aborts_of : Option Course → Bool
aborts_of (Some c) = jobs.aborts (part c)
aborts_of None = false

abbrev pub aborts : Processor → Bool
aborts p = aborts_of p.course

-- each command that isn't answered costs more than all turns of one, and the one that runs its turns beside
abbrev pub cost : Processor → Words → ℕ
cost p words = command_weight * (length p.commands - length p.rows.items) + cost_of p.course words

-- ---- what a turn comes to

-- the script's command that has come
abbrev pub command_now : Processor → Option Command
command_now p = slice_get p.commands (length p.rows.items)

-- where it is answered so, its access can be one that a guest is told of
abbrev pub MayTellOf : Layout → Option Command → Answer → States → Type 0
MayTellOf layout None answer guests = Unit {0}
MayTellOf layout (Some command) answer guests = MayTell layout guests command answer

-- so it is of any answer, unless its guest doesn't admit it
abbrev pub IsAdmitted : Layout → Option Command → States → Job → Type 0
IsAdmitted layout None guests j = Unit {0}
IsAdmitted layout (Some command) guests j = jobs.denial_of j ≡ None → MayTake layout guests command

-- what the command shows, where there is a command that can be answered and ended
abbrev pub ShowsOf : Processor → Option Course → ℕ → Option BodyValue → Type 0
ShowsOf p (Some c) found got = courses.Shows c found got × HasChangeWithin c.own × IsReady p × (length p.rows.items < length p.commands) × IsAdmitted (arc_value p.layout) (command_now p) p.local.guests c.own
ShowsOf p None found got = Unit {0}

abbrev pub Shows : Processor → ℕ → Option BodyValue → Type 0
Shows p found got = ShowsOf p p.course found got

-- what the processor carries on behind this command with this answer: it knows what is frozen and switched, and what each guest is
abbrev pub told_local : Layout → Option Command → Answer → Local → Local
told_local layout None answer local = local
told_local layout (Some command) answer local = record local { cows = told_in layout command answer local.cows; guests = guests.told_in layout command answer local.guests }

-- and the guest's line of the command
abbrev pub line_of : Layout → ℕ → Option Command → Answer → Option GuestLine
line_of layout seq None answer = None
line_of layout seq (Some command) answer = line_in layout seq command answer

-- the same behind the command of this number, that comes to its end
abbrev pub carried_on : Processor → Course → Answer → Local
carried_on p c answer = told_local (arc_value p.layout) (command_now p) answer (local_after c answer p.local)

-- its row, with the guest's line
abbrev pub with_guest : Row → Option GuestLine → Row
with_guest row guest = record row { guest = guest }

abbrev pub row_now : Processor → Course → Answer → Row
row_now p c answer = with_guest (row_of c answer) (line_of (arc_value p.layout) (length p.rows.items) (command_now p) answer)

-- the command that ran is answered so, its row is the last one, and the next command begins with what it left, perhaps in a new round of
-- the collector
pub record IsAnswered (p : Processor) (c : Course) (answer : Answer) (after : Processor) : Type 0 where
  pub layout_is : arc_value after.layout ≡ arc_value p.layout
  pub cpu_is : after.cpu ≡ p.cpu
  pub commands_are : after.commands ≡ p.commands
  pub rows_are : after.rows.items ≡ p.rows.items ++ row_now p c answer ∷ []
  pub room : vec_capacity after.rows ≡ vec_capacity p.rows
  pub round : StandsOn c.own answer c.watching
  pub begins : BeginsAt (arc_value p.layout) (at_number p.cpu (length p.rows.items + 1)) (slice_get p.commands (length p.rows.items + 1)) (carried_on p c answer) after.course
  pub local_is : after.local ≡ left_of after.course (carried_on p c answer)

-- the turn is that of the command, until the command has its answer
abbrev pub Follows : Processor → Course → Option Answer → Turn → Processor → Turn → Type 0
Follows p c None t after turn = (after ≡ record p { course = Some c }) × (turn ≡ t)
Follows p c (Some answer) t after turn = IsAnswered p c answer after × (turn ≡ turns.Answered)

abbrev pub NextOf : Layout → Processor → Option Course → ℕ → Option BodyValue → Processor → Turn → Type 0
NextOf layout p (Some c) found got after turn = (d : Course) × (t : Turn) × courses.Next layout c found got d t × Follows p d (courses.answer d) t after turn
NextOf layout p None found got after turn = (after ≡ p) × (turn ≡ turns.Moved)

abbrev pub Next : Layout → Processor → ℕ → Option BodyValue → Processor → Turn → Type 0
Next layout p found got after turn = NextOf layout p p.course found got after turn

-- the processors have answered all their commands, and these are their rows
abbrev pub AreFinished : List Processor → List (List Row) → Type 0
AreFinished ps rows = Pairs (λ (p : Processor) (own : List Row). (own ≡ p.rows.items) × (p.course ≡ None)) ps rows
