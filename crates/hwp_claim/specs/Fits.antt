-- What is held and known during a machine check.
use Rattle.std.specs.Prelude.{◌≡◌, ℕ, ◌≤◌, ◌||◌, Bool, true, false, List, [], ◌∷◌, ◌++◌, Option, Some, None, length, map, slice_get}
use Rattle.std.specs.List.{list_any}
use Rattle.hwp_banks.specs.hwp_geom.declared.Frame.{Frame}
use Rattle.hwp_banks.specs.hwp_geom.declared.Layout.{Layout}
use Rattle.hwp_banks.specs.hwp_geom.declared.Thread.{Thread}
use Rattle.hwp_banks.specs.hwp_geom.declared.Who.{Who}
use Rattle.hwp_banks.specs.hwp_geom.Layout.{IsSound}
use Rattle.hwp_banks.specs.Events.{bank_count}
use Rattle.hwp_claim_frame.specs.hwp_kill.declared.Seen.{Seen}
use Rattle.hwp_claim_frame.specs.hwp_kill.declared.Signal.{Signal}
use Rattle.hwp_claim_frame.specs.hwp_page.declared.At.{At}
use Rattle.hwp_claim_frame.specs.hwp_page.declared.What.TheVariants as entries
use Rattle.hwp_claim_frame.specs.hwp_page.Situations.{outcome_of}
use Rattle.hwp_claim_frame.specs.hwp_core_rule.declared.Mark.{Mark}
use Rattle.hwp_claim_frame.specs.hwp_core_rule.declared.MarkKind.TheVariants as mark_kinds
use Rattle.hwp_claim_frame.specs.hwp_core_rule.declared.View.{View}
use Rattle.hwp_claim_frame.specs.hwp_core_rule.Lists.{SomeMember}
use Rattle.hwp_claim_frame.specs.hwp_core_rule.Calls.{IsOnTurn}
use Rattle.hwp_claim_frame.specs.hwp_core_rule.Hands.{hand_of, empty}
use Rattle.hwp_claim_frame.specs.hwp_core_rule.Known.{IsAt, deeds}
use Rattle.hwp_claim_frame.specs.hwp_core_rule.Turns.{Member}
use Rattle.hwp_claim_act.specs.Abandoned.{IsOfPage}
use Rattle.hwp_claim_act.specs.Abandons.{signals_now}
use Rattle.hwp_claim_frame.specs.Claims.{IsStopped, SawPoison, marks_by}
use Rattle.hwp_law.specs.hwp_report_text.declared.Acted.{Acted}
use Rattle.hwp_law.specs.hwp_report_text.declared.Acted.TheVariants as acts
use Rattle.hwp_law.specs.hwp_report_text.Acts.{is_panic}
use Rattle.hwp_law.specs.Outcomes.{outcome_act}
use Rattle.hwp_claim.specs.declared.fail.Fail.{Fail}
use Rattle.hwp_claim.specs.declared.fail.Found.{Found}
use Rattle.hwp_claim.specs.Fails as fails
use Rattle.hwp_claim.specs.Fails.{IsPageless}
use Rattle.hwp_claim.specs.Injects.{recovers_at}
use Rattle.hwp_claim.specs.Queue.{Queue}
use Rattle.hwp_claim.specs.Told.{are_held_back, at_once, frame_of, halts, required_by, stops_machine}
use Rattle.hwp_claim.specs.Handlers.{Follows, Shows, aborts, bare, claims, class, cost, plan, put}
use Rattle.hwp_claim.specs.declared.handler.Handler.{Handler}
use Rattle.hwp_claim.specs.declared.handler.HandlerAt.{HandlerAt}
use Rattle.hwp_claim.specs.declared.handler.HandlerAt.TheVariants as at
use Rattle.hwp_claim.specs.declared.told.Held.{Held}
use Rattle.hwp_claim.specs.declared.told.EventOutcome.{EventOutcome}

-- the events of the machine check, of which it is told what was done, or not yet
abbrev pub events_of : Queue → List Held
events_of q = map (λ (t : EventOutcome). t.held) q.told ++ q.left

-- they are no more than there are banks; and whether one of them stops the machine
pub record AreFound (stops : Bool) (events : List Held) : Type 0 where
  pub few : length events ≤ bank_count
  pub stops_is : stops ≡ list_any stops_machine events

-- ---- that what is told is right

-- the command poisoned the frame, in this cycle of it, by a report of the hardware
abbrev pub IsMark : Frame → ℕ → Mark → Type 0
IsMark frame cycle mark = (mark.frame ≡ frame) × (mark.cycle ≡ cycle) × (mark.kind ≡ mark_kinds.Poisoned true)

abbrev pub HasPoisoned : View → Who → Frame → ℕ → Type 0
HasPoisoned view who frame cycle = SomeMember (IsMark frame cycle) (marks_by who view)

-- the command made this entry of a failure, and it says whether the thread that needs the page now was signalled
pub record HasEntered (view : View) (who : Who) (required : Option Thread) (found : Found) (place : At) : Type 0 where
  pub seen : List Seen
  pub signals : List Signal
  pub made : SomeMember (IsAt place.page place.entry (entries.Fail found.situation required seen signals)) (deeds who view)
  pub signalled : found.signalled ≡ signals_now signals
  pub paged : IsOfPage found.situation

-- a failure made no entry where no page was in the frame, and else this one
abbrev pub IsEntered : Layout → View → Who → Frame → Option Thread → Found → Option At → Type 0
IsEntered layout view who frame required found None = IsPageless layout frame found.situation × (found.signalled ≡ false)
IsEntered layout view who frame required found (Some place) = HasEntered view who required found place × (slice_get layout.kernel frame.0 ≡ Some false)

-- a failure found its frame poisoned already, or it came to its result
abbrev pub IsFailed : Layout → View → Who → Frame → Option Thread → Acted → Option Found → Type 0
IsFailed layout view who frame required acted None = (acted ≡ acts.Already) × SawPoison view who frame
IsFailed layout view who frame required acted (Some found) = (acted ≡ outcome_act (outcome_of found.situation)) × HasPoisoned view who frame found.cycle × IsEntered layout view who frame required found found.at

-- what was done without a step, or else by a failure
abbrev pub IsDone : Layout → View → Who → Option Thread → EventOutcome → Option Acted → Type 0
IsDone layout view who required t (Some acted) = (t.acted ≡ acted) × (t.found ≡ None)
IsDone layout view who required t None = IsFailed layout view who (frame_of t.held) required t.acted t.found

abbrev pub IsTold : Layout → View → Who → Option Thread → Bool → EventOutcome → Type 0
IsTold layout view who thread held_back t = IsDone layout view who (required_by thread t.held.grade.severity) t (at_once layout held_back t.held)

-- of each event, in the order of the banks; `held_back` says that failures are held back
abbrev pub AreTold : Layout → View → Who → Option Thread → Bool → List EventOutcome → Type 0
AreTold layout view who thread held_back [] = Unit {0}
AreTold layout view who thread held_back (t ∷ ts) = IsTold layout view who thread held_back t × AreTold layout view who thread (held_back || is_panic t.acted) ts

-- ---- what is held

-- nothing is held, and no loss is owed
pub record IsAtRest (view : View) : Type 0 where
  pub hand_is : hand_of view ≡ empty
  pub paid : view.owed.losses ≡ []

-- the failure of the event that comes next goes on, on a machine that recovers
pub record IsFailing (layout : Layout) (view : View) (who : Who) (thread : Option Thread) (stops : Bool) (q : Queue) (f : Fail) : Type 0 where
  pub fail : fails.Fits layout view f
  pub own : f.who ≡ who
  pub hardware : f.hardware ≡ true
  pub recovers : recovers_at f.at ≡ true
  pub held : Held
  pub rest : List Held
  pub next_is : q.left ≡ held ∷ rest
  pub due : at_once layout (are_held_back stops q.told) held ≡ None
  pub frame_is : f.frame ≡ frame_of held
  pub required_is : f.required ≡ required_by thread held.grade.severity

-- all is told, and whether the machine has to stop
pub record IsAllTold (view : View) (q : Queue) (stopped : Bool) : Type 0 where
  pub rest : IsAtRest view
  pub none_left : q.left ≡ []
  pub halts_is : halts q.told ≡ stopped

abbrev pub IsStoppedIf : Bool → View → Who → Type 0
IsStoppedIf true view who = IsStopped view who
IsStoppedIf false view who = Unit {0}

abbrev pub FitsAt : Layout → View → Who → Option Thread → Bool → Queue → HandlerAt → Type 0
FitsAt layout view who thread stops q at.Stop = IsAllTold view q true
FitsAt layout view who thread stops q (at.Fail f) = IsFailing layout view who thread stops q f
FitsAt layout view who thread stops q at.GaveUp = IsAtRest view
FitsAt layout view who thread stops q (at.Over stopped) = IsAllTold view q stopped × IsStoppedIf stopped view who

pub record Fits (layout : Layout) (view : View) (h : Handler) : Type 0 where
  pub on_turn : IsOnTurn view h.who
  pub sound : IsSound layout
  pub found : AreFound h.stops (events_of h.events)
  pub told : AreTold layout view h.who h.thread h.stops h.events.told
  pub at : FitsAt layout view h.who h.thread h.stops h.events h.at

-- the task, as the laws of tasks read it
abbrev pub task : Member Handler
task = record {
  who = λ h. h.who;
  plan = plan;
  put = put;
  bare = bare;
  shows = Shows;
  next = Follows;
  fits = Fits;
  class = class;
  cost = cost;
  aborts = aborts;
  claims = claims;
}
