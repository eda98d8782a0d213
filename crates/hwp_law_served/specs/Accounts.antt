-- What a command did beside what its answer tells: the frames that it poisoned, the failures that its entries tell, and the policy
-- that it set.
use Rattle.std.specs.Prelude.{◌≡◌, ◌==◌, ◌&&◌, Bool, true, false, List, [], ◌∷◌, ◌++◌, Option, None, Some, option_map, option_and_then, filter, filter_map, map}
use Rattle.std.specs.List.{cons_option}
use Rattle.hwp_law.specs.hwp_geom.declared.Layout.{Layout}
use Rattle.hwp_law.specs.hwp_geom.declared.Thread.{Thread}
use Rattle.hwp_law.specs.hwp_geom.declared.Who.{Who}
use Rattle.hwp_law.specs.hwp_kill.declared.Policy.{Policy}
use Rattle.hwp_law.specs.hwp_kill.Prctl.{policy_set}
use Rattle.hwp_law.specs.hwp_page.Situations.{outcome_of}
use Rattle.hwp_plain.specs.hwp_core_rule.declared.Mark.{Mark}
use Rattle.hwp_plain.specs.hwp_core_rule.declared.MarkKind.{MarkKind}
use Rattle.hwp_plain.specs.hwp_core_rule.declared.MarkKind.TheVariants as mark_kinds
use Rattle.hwp_plain.specs.hwp_core_rule.declared.Setting.{Setting}
use Rattle.hwp_plain.specs.hwp_core_rule.declared.View.{View}
use Rattle.hwp_plain.specs.hwp_core_rule.Known.{deeds}
use Rattle.hwp_cpu_row.specs.hwp_claim_act.declared.Failed.{Failed}
use Rattle.hwp_cpu_row.specs.hwp_claim_act.Abandoned as abandoned
use Rattle.hwp_cpu_row.specs.hwp_claim_frame.Done.{Marking, marking_of, poisoning}
use Rattle.hwp_law.specs.hwp_script_words.declared.Command.{Command}
use Rattle.hwp_law.specs.hwp_script_words.declared.Command.TheVariants as commands
use Rattle.hwp_law.specs.hwp_report_text.declared.Answer.{Answer}
use Rattle.hwp_law.specs.hwp_report_text.declared.Answer.TheVariants as answers
use Rattle.hwp_law.specs.hwp_report_text.declared.How.{How}
use Rattle.hwp_law.specs.hwp_report_text.declared.How.TheVariants as hows
use Rattle.hwp_law.specs.hwp_report_text.declared.MarkLine.{MarkLine}
use Rattle.hwp_law.specs.hwp_report_text.declared.MarkLine.TheVariants as marks
use Rattle.hwp_law.specs.Commands.{current_thread}
use Rattle.hwp_law.specs.Settings.{arguments, last_policy, settings}
use Rattle.hwp_cpu_control.specs.Forks.{threads_of}
use Rattle.hwp_law.specs.Outcomes.{outcome_answer}
use Rattle.hwp_law.specs.Records.{is_moved}
use Rattle.hwp_cpu_row.specs.hwp_claim.declared.Found.{Found}
use Rattle.hwp_cpu_row.specs.declared.FrameChange.{FrameChange}
use Rattle.hwp_cpu_row.specs.declared.FrameChange.TheVariants as owns
use Rattle.hwp_cpu_row.specs.declared.Row.{Row}
use Rattle.hwp_cpu_row.specs.Acts.{Act, Offlined, Told, acts}
use Rattle.hwp_cpu_row.specs.hwp_claim.CheckDone.{failed_by, failed_in, marked_in}
use Rattle.hwp_law_served.specs.Rows.{Note}

abbrev pub is_same : Who → Who → Bool
is_same who other = (other.cpu.0 == who.cpu.0) && (other.seq == who.seq)

-- the marks that a view lists as made by the command
abbrev pub markings : Who → View → List Marking
markings who view = map marking_of (filter (λ (m : Mark). is_same who m.stamp.who) view.marks)

-- the failures that the command's entries tell
abbrev pub failures : Who → View → List Failed
failures who view = filter_map abandoned.failed_in (deeds who view)

-- the policies that it lists as set by the command, each with its thread
abbrev pub policies_set : Who → View → List (Thread × Policy)
policies_set who view = map (λ (s : Setting). (s.thread, s.policy)) (filter (λ (s : Setting). is_same who s.stamp.who) view.settings)

-- ---- by the command's row

-- the marks: those that its events told and of the frames that were taken out of use beside it, and its own
abbrev pub marking_by : FrameChange → Marking
marking_by (owns.Failed frame found) = poisoning frame false found.cycle
marking_by (owns.Offlined frame cycle moved) = poisoning frame false cycle
marking_by (owns.Revived frame cycle) = record { frame = frame; cycle = cycle; kind = mark_kinds.Revived }

abbrev pub own_marking : Option FrameChange → Option Marking
own_marking own = option_map marking_by own

abbrev pub act_marking : Act → Option Marking
act_marking (Told t) = marked_in t
act_marking (Offlined o) = own_marking o.change

abbrev pub markings_in : Row → List Marking
markings_in row = filter_map act_marking (acts row.told row.offlined) ++ cons_option (own_marking row.own) []

-- the failures, where a page was in the frame
abbrev pub found_in : FrameChange → Option Found
found_in (owns.Failed frame found) = Some found
found_in (owns.Offlined frame cycle moved) = None
found_in (owns.Revived frame cycle) = None

abbrev pub own_failure : Option FrameChange → Option Failed
own_failure own = failed_by None (option_and_then found_in own)

abbrev pub failures_in : Command → Row → List Failed
failures_in command row = filter_map (failed_in (current_thread command)) row.told ++ cons_option (own_failure row.own) []

-- the policies that a command set, by its answer
abbrev pub set_for : Thread → Option Policy → List (Thread × Policy)
set_for thread None = []
set_for thread (Some policy) = (thread, policy) ∷ []

-- behind these earlier ones: a fork sets for each thread of the child the policy that its own thread has then
abbrev pub set_by : Layout → List (Command × Answer) → Command → Answer → List (Thread × Policy)
set_by layout earlier (commands.Prctl thread args) answers.Done = set_for thread (policy_set (arguments args))
set_by layout earlier (commands.Fork parent process) answers.Done = map (λ (t : Thread). (t, last_policy (settings layout parent earlier))) (threads_of process 0 layout.threads)
set_by layout earlier _ _ = []

-- the answer says whether a page left the frame that was taken out of use
abbrev pub IsOfflined : Bool → Answer → Type 0
IsOfflined true answer = is_moved (Some answer) ≡ true
IsOfflined false answer = answer ≡ answers.TakenFree

-- only a command that makes its frame fail, takes it out of use or takes its poison back did something to a frame itself, and its answer
-- is what came of it
abbrev pub IsOwn : Command → Answer → Option FrameChange → Type 0
IsOwn command answer None = Unit {0}
IsOwn (commands.Inject frame) answer (Some (owns.Failed own found)) = (own ≡ frame) × (answer ≡ outcome_answer (outcome_of found.situation))
IsOwn (commands.Soft frame) answer (Some (owns.Offlined own cycle moved)) = (own ≡ frame) × IsOfflined moved answer
IsOwn (commands.Unpoison frame) answer (Some (owns.Revived own cycle)) = (own ≡ frame) × (answer ≡ answers.Done)
IsOwn command answer (Some own) = ⊥

-- the command did what its row says
pub record IsAccounted (layout : Layout) (earlier : List (Command × Answer)) (view : View) (who : Who) (command : Command) (row : Row) : Type 0 where
  pub marked : markings who view ≡ markings_in row
  pub failed : failures who view ≡ failures_in command row
  pub set : policies_set who view ≡ set_by layout earlier command row.answer
  pub own : IsOwn command row.answer row.own

-- a poisoning that the hardware reported, or not, came about so
abbrev pub IsHow : Bool → How → Type 0
IsHow hardware (hows.Failure reported situation outcome) = (reported ≡ hardware) × (outcome ≡ outcome_of situation)
IsHow hardware hows.Moved = hardware ≡ false
IsHow hardware hows.TakenFree = hardware ≡ false

-- the line tells a mark of this kind
abbrev pub IsLineOf : MarkKind → Mark → MarkLine → Type 0
IsLineOf (mark_kinds.Poisoned hardware) m line = (how : How) × IsHow hardware how × (line ≡ marks.Poisoned m.cycle m.stamp.who how)
IsLineOf mark_kinds.Revived m line = line ≡ marks.Unpoisoned m.cycle m.stamp.who

-- the note tells the mark
pub record IsNote (note : Note) (m : Mark) : Type 0 where
  pub frame : note.0 ≡ m.frame
  pub kind : MarkKind
  pub kind_is : m.kind ≡ kind
  pub line : IsLineOf kind m note.1
