-- The records of frames: how often each was poisoned and unpoisoned, by which command, and what each mark has beside it.
use Rattle.std.specs.Prelude.{◌≡◌, ℕ, ◌/◌, ◌%◌, ◌<◌, ◌≤◌, ◌==◌, ◌&&◌, not, Bool, true, false, List, Option, Some, None, is_some, fold, length, take, filter, filter_map, slice_get}
use Rattle.hwp_script_words.specs.hwp_geom.declared.Frame.{Frame}
use Rattle.hwp_script_words.specs.hwp_geom.declared.Who.{Who}
use Rattle.hwp_report_text.specs.hwp_banks.Addresses.{frame_at}
use Rattle.hwp_report_text.specs.hwp_page.declared.Outcome.{Outcome}
use Rattle.hwp_report_text.specs.hwp_page.declared.Outcome.TheVariants as outcomes
use Rattle.hwp_report_text.specs.hwp_page.declared.Situation.{Situation}
use Rattle.hwp_report_text.specs.hwp_page.declared.Situation.TheVariants as situations
use Rattle.hwp_report_text.specs.hwp_page.Orders.{IsEarlier}
use Rattle.hwp_report_text.specs.hwp_page.Situations.{outcome_of}
use Rattle.hwp_script_words.specs.declared.Command.TheVariants as commands
use Rattle.hwp_script_words.specs.declared.Script.{Script}
use Rattle.hwp_report_text.specs.declared.Acted.{Acted}
use Rattle.hwp_report_text.specs.declared.Acted.TheVariants as acts
use Rattle.hwp_report_text.specs.declared.Answer.{Answer}
use Rattle.hwp_report_text.specs.declared.Answer.TheVariants as answers
use Rattle.hwp_report_text.specs.declared.EventLine.{EventLine}
use Rattle.hwp_report_text.specs.declared.How.{How}
use Rattle.hwp_report_text.specs.declared.How.TheVariants as hows
use Rattle.hwp_report_text.specs.declared.MarkLine.{MarkLine}
use Rattle.hwp_report_text.specs.declared.MarkLine.TheVariants as marks
use Rattle.hwp_report_text.specs.declared.Report.{Report}
use Rattle.hwp_law.specs.Lines.{answer_of, events_of, is_same_command, marks_of}
use Rattle.hwp_law.specs.Outcomes.{outcome_act, outcome_answer}
use Rattle.hwp_law.specs.Commands.{command_at}

-- what a mark says
abbrev pub is_poisoning : MarkLine → Bool
is_poisoning (marks.Poisoned cycle who how) = true
is_poisoning (marks.Unpoisoned cycle who) = false

abbrev pub cycle_in : MarkLine → ℕ
cycle_in (marks.Poisoned cycle who how) = cycle
cycle_in (marks.Unpoisoned cycle who) = cycle

abbrev pub who_in : MarkLine → Who
who_in (marks.Poisoned cycle who how) = who
who_in (marks.Unpoisoned cycle who) = who

abbrev pub how_in : MarkLine → Option How
how_in (marks.Poisoned cycle who how) = Some how
how_in (marks.Unpoisoned cycle who) = None

-- a bank's event caused the mark
abbrev pub is_by_hardware : MarkLine → Bool
is_by_hardware (marks.Poisoned cycle who (hows.Failure hardware situation outcome)) = hardware
is_by_hardware _ = false

-- an `inject` or an `unpoison` made the mark: a failure that no bank's event caused, or the poison taken back
abbrev pub is_commanded : MarkLine → Bool
is_commanded (marks.Poisoned cycle who (hows.Failure hardware situation outcome)) = not hardware
is_commanded (marks.Poisoned cycle who hows.Moved) = false
is_commanded (marks.Poisoned cycle who hows.TakenFree) = false
is_commanded (marks.Unpoisoned cycle who) = true

-- the frame is poisoned after these marks
abbrev pub ends_poisoned : List MarkLine → Bool
ends_poisoned list = fold (λ (before : Bool) (m : MarkLine). is_poisoning m) false list

-- the mark at a place of a record: first poisoned and then unpoisoned in cycle 0, the same in cycle 1, and so on
pub record IsMarkAt (place : ℕ) (mark : MarkLine) : Type 0 where
  pub cycle : cycle_in mark ≡ place / 2
  pub turn : is_poisoning mark ≡ (place % 2 == 0)

abbrev pub Alternates : List MarkLine → Type 0
Alternates list = (place : ℕ) (mark : MarkLine) → slice_get list place ≡ Some mark → IsMarkAt place mark

abbrev pub is_kernel_found : Situation → Bool
is_kernel_found situations.Kernel = true
is_kernel_found _ = false

-- a mark finds the kernel exactly in a frame of the kernel, and its result is that of what it finds
abbrev pub IsFound : Bool → How → Type 0
IsFound kernel (hows.Failure hardware situation outcome) = (is_kernel_found situation ≡ kernel) × (outcome ≡ outcome_of situation)
IsFound kernel hows.Moved = kernel ≡ false
IsFound kernel hows.TakenFree = kernel ≡ false

-- the result that a mark tells: a soft offline recovers
abbrev pub outcome_in : How → Outcome
outcome_in (hows.Failure hardware situation outcome) = outcome
outcome_in hows.Moved = outcomes.Recovered
outcome_in hows.TakenFree = outcomes.Recovered

-- the answer says that the content moved, or that nothing was in the frame
abbrev pub is_moved : Option Answer → Bool
is_moved (Some (answers.Moved frame at)) = true
is_moved _ = false

abbrev pub is_taken : Option Answer → Bool
is_taken (Some answers.TakenFree) = true
is_taken _ = false

-- the answer beside a mark by `inject` or `unpoison`: of the command that made it, which names the frame (marks that a bank's event caused
-- have an event line, and those of soft offlines are counted)
abbrev pub IsAnswered : Script → Report → Frame → MarkLine → Type 0
IsAnswered script report frame (marks.Poisoned cycle who (hows.Failure true situation outcome)) = Unit {0}
IsAnswered script report frame (marks.Poisoned cycle who (hows.Failure false situation outcome)) =
    (command_at script who ≡ Some (commands.Inject frame)) × (answer_of report who ≡ Some (outcome_answer outcome))
IsAnswered script report frame (marks.Poisoned cycle who hows.Moved) = Unit {0}
IsAnswered script report frame (marks.Poisoned cycle who hows.TakenFree) = Unit {0}
IsAnswered script report frame (marks.Unpoisoned cycle who) = (command_at script who ≡ Some (commands.Unpoison frame)) × (answer_of report who ≡ Some answers.Done)

-- how an event line says the result of an event, where it says one
abbrev pub result_of : Acted → Option Acted
result_of acts.Recovered = Some acts.Recovered
result_of acts.Delayed = Some acts.Delayed
result_of acts.Ignored = Some acts.Ignored
result_of _ = None

abbrev pub hardware_act : MarkLine → Option Acted
hardware_act (marks.Poisoned cycle who (hows.Failure true situation outcome)) = Some (outcome_act outcome)
hardware_act _ = None

-- the marks of a command in a record that its events caused, in rising cycle
abbrev pub hardware_marks : Who → List MarkLine → List MarkLine
hardware_marks who list = filter (λ (m : MarkLine). is_same_command who (who_in m) && is_by_hardware m) list

-- the event lines of a command for a frame that say a result, in the order of the report
abbrev pub result_lines : Report → Who → ℕ → List EventLine
result_lines report who frame = filter (λ (l : EventLine). (frame == frame_at l.addr) && is_some (result_of l.acted)) (events_of report who)

-- the results that marks say, and that event lines say
abbrev pub mark_results : List MarkLine → List Acted
mark_results list = filter_map hardware_act list

abbrev pub line_results : List EventLine → List Acted
line_results list = filter_map (λ (l : EventLine). result_of l.acted) list

-- the marks of a command that its events caused have its event lines for the frame, one each and in order, with the results
abbrev pub HaveEvents : Report → Frame → Who → Type 0
HaveEvents report frame who = mark_results (hardware_marks who (marks_of report frame.0)) ≡ line_results (result_lines report who frame.0)

-- the record of a frame
pub record IsFrameRecord (script : Script) (report : Report) (kernel : Bool) (frame : Frame) : Type 0 where
  pub alternates : Alternates (marks_of report frame.0)
  pub found : (place : ℕ) (mark : MarkLine) (how : How) → slice_get (marks_of report frame.0) place ≡ Some mark → how_in mark ≡ Some how → IsFound kernel how
  pub answered : (place : ℕ) (mark : MarkLine) → slice_get (marks_of report frame.0) place ≡ Some mark → IsAnswered script report frame mark
  pub events : (who : Who) → HaveEvents report frame who

-- while the command ran the record may have had these marks only: all of the processor's earlier commands, and none of its
-- later ones; after them the frame is poisoned, or is not
pub record WasPoisoned (list : List MarkLine) (who : Who) (poisoned : Bool) : Type 0 where
  pub count : ℕ
  pub within : count ≤ length list
  pub earlier : (place : ℕ) (mark : MarkLine) → slice_get list place ≡ Some mark → IsEarlier (who_in mark) who → place < count
  pub later : (place : ℕ) (mark : MarkLine) → slice_get list place ≡ Some mark → IsEarlier who (who_in mark) → count ≤ place
  pub ended : ends_poisoned (take count list) ≡ poisoned
