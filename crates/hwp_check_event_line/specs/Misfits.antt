-- Which event line of a command isn't the one that its machine checks ask, whether some lack, and what the command leaves in bank 1.
use Rattle.std.specs.Prelude.{◌≡◌, ℕ, ◌+◌, ◌-◌, ◌<◌, ◌≤◌, ◌==◌, Bool, true, false, cond, List, [], ◌∷◌, Option, Some, None, MatchBool, is_some, length, slice_get, take, unwrap_or}
use Rattle.std.specs.Int.{from_bool}
use Rattle.hwp_banks.specs.hwp_geom.Limits.{line_limit}
use Rattle.hwp_banks.specs.hwp_geom.declared.Cpu.{Cpu}
use Rattle.hwp_banks.specs.hwp_geom.declared.Frame.{Frame}
use Rattle.hwp_banks.specs.hwp_geom.declared.VSlot.{VSlot}
use Rattle.hwp_banks.specs.hwp_geom.declared.Who.{Who}
use Rattle.hwp_banks.specs.Logged.{logged}
use Rattle.hwp_banks.specs.declared.Event.{Event}
use Rattle.hwp_banks.specs.declared.Origin.TheVariants as origins
use Rattle.hwp_law.specs.hwp_script_words.declared.Command.{Command}
use Rattle.hwp_law.specs.hwp_script_words.declared.Command.TheVariants as commands
use Rattle.hwp_law.specs.hwp_script_words.declared.Script.{Script}
use Rattle.hwp_law.specs.hwp_report_text.declared.Answer.{Answer}
use Rattle.hwp_law.specs.hwp_report_text.declared.Answer.TheVariants as answers
use Rattle.hwp_law.specs.hwp_report_text.declared.EventLine.{EventLine}
use Rattle.hwp_law.specs.hwp_report_text.declared.Report.{Report}
use Rattle.hwp_law.specs.Commands.{arrival_of}
use Rattle.hwp_law.specs.Events.{access_lines, is_raised, store_lines}
use Rattle.hwp_banks.specs.Banks.{raw_event}
use Rattle.hwp_law.specs.Lines.{answer_of, events_of}
use Rattle.hwp_check_event_line.specs.Firsts.{AreRight}
use Rattle.hwp_check_event_line.specs.Accesses.{IsAccessLine, IsRaisedLine, access_of, asked_by_access}
use Rattle.hwp_check_event_line.specs.Scrubs.{Course, after_all, bound_from, lacking, lowest, reach_from}
use Rattle.hwp_check_event_line.specs.Scrubbing.{IsRightIn}

abbrev pub is_scrubbed : Option Answer → Bool
is_scrubbed (Some (answers.Scrubbed n)) = true
is_scrubbed _ = false

-- the commands of a processor before one of them
abbrev pub commands_before : Script → Who → List Command
commands_before script who = take who.seq (unwrap_or (slice_get script.lists who.cpu.0) [])

-- a scrub that went to its end meets a line where an earlier command of its processor marked one, and none above it
abbrev pub low_of : Script → Report → Who → ℕ → ℕ
low_of script report who place = cond (is_scrubbed (answer_of report who)) (lowest (commands_before script who) place) line_limit

abbrev pub course_of : Script → Report → Who → Frame → Frame → Course
course_of script report who first last =
    record { low = low_of script report who; last = last.0; bound = bound_from report (low_of script report who) 0 first.0 (last.0 + 1 - first.0) }

-- the line is right as the one with this number among a command's lines, where bank 1 holds this
abbrev pub IsRightLine : Script → (Who → Option VSlot) → Report → Who → Command → Option Event → List EventLine → ℕ → EventLine → Type 0
IsRightLine script copies report who (commands.Load thread slot at) raw lines number line = IsAccessLine script report who (arrival_of (commands.Load thread slot at)) (access_of origins.Access (access_lines report who at) raw) lines number line
IsRightLine script copies report who (commands.Fetch thread slot at) raw lines number line = IsAccessLine script report who (arrival_of (commands.Fetch thread slot at)) (access_of origins.Fetch (access_lines report who at) raw) lines number line
IsRightLine script copies report who (commands.KLoad thread slot at) raw lines number line = IsAccessLine script report who (arrival_of (commands.KLoad thread slot at)) (access_of origins.Access (access_lines report who at) raw) lines number line
IsRightLine script copies report who (commands.Store thread slot at word) raw lines number line =
    IsAccessLine script report who (arrival_of (commands.Store thread slot at word)) (access_of origins.Access (store_lines script.layout report who (copies who) slot at) raw) lines number line
IsRightLine script copies report who (commands.Scrub first last) raw lines number line =
    IsRightIn script report who (arrival_of (commands.Scrub first last)) (course_of script report who first last) (reach_from first raw) lines number line
IsRightLine script copies report who (commands.RaiseUser thread ripv eipv) raw lines number line =
    MatchBool (is_raised (answer_of report who) lines) (IsRaisedLine script report who (arrival_of (commands.RaiseUser thread ripv eipv)) raw number line) ⊥
IsRightLine script copies report who (commands.RaiseKernel ripv eipv) raw lines number line =
    MatchBool (is_raised (answer_of report who) lines) (IsRaisedLine script report who (arrival_of (commands.RaiseKernel ripv eipv)) raw number line) ⊥
IsRightLine script copies report who command raw lines number line = ⊥

-- the command has fewer lines than its machine checks ask. In a scrub a line that it passes by stands for one that it lacks.
abbrev pub Lacks : Script → (Who → Option VSlot) → Report → Who → Command → Option Event → List EventLine → Type 0
Lacks script copies report who (commands.Load thread slot at) raw lines = length lines < asked_by_access (access_of origins.Access (access_lines report who at) raw)
Lacks script copies report who (commands.Fetch thread slot at) raw lines = length lines < asked_by_access (access_of origins.Fetch (access_lines report who at) raw)
Lacks script copies report who (commands.KLoad thread slot at) raw lines = length lines < asked_by_access (access_of origins.Access (access_lines report who at) raw)
Lacks script copies report who (commands.Store thread slot at word) raw lines = length lines < asked_by_access (access_of origins.Access (store_lines script.layout report who (copies who) slot at) raw)
Lacks script copies report who (commands.Scrub first last) raw lines =
    (after_all report (course_of script report who first last) (reach_from first raw) lines).strays
    < lacking (course_of script report who first last) (after_all report (course_of script report who first last) (reach_from first raw) lines)
Lacks script copies report who (commands.RaiseUser thread ripv eipv) raw lines = length lines < cond (is_raised (answer_of report who) lines) (from_bool (is_some raw)) 0
Lacks script copies report who (commands.RaiseKernel ripv eipv) raw lines = length lines < cond (is_raised (answer_of report who) lines) (from_bool (is_some raw)) 0
Lacks script copies report who command raw lines = ⊥

-- a raw event is logged where its command was done
abbrev pub logged_if : Option Answer → Event → Option Event → Option Event
logged_if (Some answers.Done) event raw = logged raw event
logged_if _ event raw = raw

-- what a command leaves in bank 1
abbrev pub leaves : Script → (Who → Option VSlot) → Report → Who → Command → Option Event → List EventLine → Option Event
leaves script copies report who (commands.Load thread slot at) raw lines = cond (length (access_lines report who at) == 0) raw None
leaves script copies report who (commands.Fetch thread slot at) raw lines = cond (length (access_lines report who at) == 0) raw None
leaves script copies report who (commands.KLoad thread slot at) raw lines = cond (length (access_lines report who at) == 0) raw None
leaves script copies report who (commands.Store thread slot at word) raw lines = cond (length (store_lines script.layout report who (copies who) slot at) == 0) raw None
leaves script copies report who (commands.Scrub first last) raw lines = (after_all report (course_of script report who first last) (reach_from first raw) lines).raw
leaves script copies report who (commands.RaiseUser thread ripv eipv) raw lines = cond (is_raised (answer_of report who) lines) None raw
leaves script copies report who (commands.RaiseKernel ripv eipv) raw lines = cond (is_raised (answer_of report who) lines) None raw
leaves script copies report who (commands.Log status addr misc) raw lines = logged_if (answer_of report who) (raw_event status addr misc) raw
leaves script copies report who command raw lines = raw

-- what the commands from number n on leave in bank 1 where they find this
abbrev pub left_by : Script → (Who → Option VSlot) → Report → Cpu → ℕ → List Command → Option Event → Option Event
left_by script copies report cpu n [] raw = raw
left_by script copies report cpu n (command ∷ rest) raw =
    left_by script copies report cpu (n + 1) rest (leaves script copies report (record { cpu = cpu; seq = n }) command raw (events_of report (record { cpu = cpu; seq = n })))

-- what a command finds in bank 1
abbrev pub found_by : Script → (Who → Option VSlot) → Report → Who → Option Event
found_by script copies report who = left_by script copies report who.cpu 0 (commands_before script who) None

-- the event line of a command with this number is wrong
pub record IsWrong (script : Script) (copies : Who → Option VSlot) (report : Report) (who : Who) (command : Command) (raw : Option Event) (lines : List EventLine) (number : ℕ) : Type 0 where
  pub line : EventLine
  pub there : slice_get lines number ≡ Some line
  pub wrong : IsRightLine script copies report who command raw lines number line → ⊥

-- the frames of a scrub are in order
abbrev pub IsFit : Command → Type 0
IsFit (commands.Scrub first last) = first.0 ≤ last.0
IsFit _ = Unit {0}

-- the event lines of a command are right, where it finds this in bank 1, and none lacks
pub record IsTold (script : Script) (copies : Who → Option VSlot) (report : Report) (who : Who) (command : Command) (raw : Option Event) : Type 0 where
  pub right : AreRight (IsRightLine script copies report who command raw (events_of report who)) (events_of report who)
  pub enough : Lacks script copies report who command raw (events_of report who) → ⊥

-- so it is with each command of a processor
abbrev pub AreTold : Script → (Who → Option VSlot) → Report → Cpu → List Command → Type 0
AreTold script copies report cpu list =
    (seq : ℕ) (command : Command) → slice_get list seq ≡ Some command → IsTold script copies report (record { cpu = cpu; seq = seq }) command (found_by script copies report (record { cpu = cpu; seq = seq }))
