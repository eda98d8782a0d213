-- What is held and known while a machine check is raised.
use Rattle.std.specs.Prelude.{◌≡◌, ◌⊎◌, ◌+◌, ◌<◌, ◌≤◌, Bool, true, false, [], Option, Some, None, length, slice_get}
use Rattle.hwp_cpu_control.specs.hwp_geom.declared.Layout.{Layout}
use Rattle.hwp_cpu_control.specs.hwp_geom.declared.Page.{Page}
use Rattle.hwp_cpu_control.specs.hwp_geom.declared.ThreadDecl.{ThreadDecl}
use Rattle.hwp_cpu_control.specs.hwp_geom.declared.Who.{Who}
use Rattle.hwp_cpu_control.specs.hwp_geom.Layout.{IsSound}
use Rattle.hwp_claim.specs.hwp_banks.Events.{bank_count}
use Rattle.hwp_cpu_control.specs.hwp_core_rule.declared.Made.{Made}
use Rattle.hwp_cpu_control.specs.hwp_core_rule.declared.SharedWord.TheVariants as places
use Rattle.hwp_cpu_control.specs.hwp_core_rule.declared.View.{View}
use Rattle.hwp_cpu_control.specs.hwp_core_rule.Calls.{IsOnTurn}
use Rattle.hwp_cpu_control.specs.hwp_core_rule.Hands.{hand_of, empty}
use Rattle.hwp_cpu_control.specs.hwp_core_rule.Known.{HasMadeNone, HasOnly, Saw, SawStop, is_failure}
use Rattle.hwp_cpu_control.specs.hwp_core_rule.Turns.{Member}
use Rattle.hwp_claim.specs.hwp_banks.Banks.{empty_banks}
use Rattle.hwp_claim.specs.hwp_severity.Handling.{has_stop}
use Rattle.hwp_claim.specs.declared.Handler.{Handler}
use Rattle.hwp_claim.specs.Checks.{IsActedOn}
use Rattle.hwp_claim.specs.Events.{held_in}
use Rattle.hwp_claim.specs.Fits as handler_fits
use Rattle.hwp_claim.specs.Fits.{IsAtRest, IsStoppedIf, events_of}
use Rattle.hwp_claim.specs.Handlers as handlers
use Rattle.hwp_claim.specs.Told.{halts}
use Rattle.hwp_scrub.specs.Raises.{Follows, Shows, bare, how_of, plan, put, thread_of}
use Rattle.hwp_scrub.specs.RaiseCosts.{aborts, claims, class, cost}
use Rattle.hwp_scrub.specs.declared.raise.Raise.{Raise}
use Rattle.hwp_scrub.specs.declared.raise.RaiseAnswer.{RaiseAnswer}
use Rattle.hwp_scrub.specs.declared.raise.RaiseAnswer.TheVariants as answers
use Rattle.hwp_scrub.specs.declared.raise.RaiseAt.{RaiseAt}
use Rattle.hwp_scrub.specs.declared.raise.RaiseAt.TheVariants as at
use Rattle.hwp_scrub.specs.declared.raise.Raiser.{Raiser}

-- the thread is one of the machine's, and of the process
pub record IsThreadOf (layout : Layout) (raiser : Raiser) : Type 0 where
  pub decl : ThreadDecl
  pub declared : slice_get layout.threads raiser.thread.0 ≡ Some decl
  pub process_is : decl.process ≡ raiser.process
  pub process : raiser.process.0 < layout.procs

abbrev pub IsRaiser : Layout → Option Raiser → Type 0
IsRaiser layout None = Unit {0}
IsRaiser layout (Some raiser) = IsThreadOf layout raiser

-- the thread's process goes on, where a thread runs
abbrev pub GoesOn : View → Who → Option Raiser → Type 0
GoesOn view who None = Unit {0}
GoesOn view who (Some raiser) = Saw view who (places.Process raiser.process) 0

-- the thread's process has ended, by a signal in the history of this page
abbrev pub IsGone : View → Who → Option Raiser → Page → Type 0
IsGone view who None page = ⊥
IsGone view who (Some raiser) page = Saw view who (places.Process raiser.process) (page.0 + 1)

-- the command made such entries alone as failures make
abbrev pub HasOnlyFailed : View → Who → Type 0
HasOnlyFailed view who = HasOnly (λ (m : Made). is_failure m.entry.what ≡ true) view who

-- ---- how it ends

-- without a machine check: nothing is told, the banks hold what they held, and no entry is made
pub record IsUnchecked (view : View) (r : Raise) : Type 0 where
  pub told_none : r.lines.told ≡ []
  pub banks_are : r.banks ≡ r.before.value
  pub made : HasMadeNone view r.who

-- by a machine check of what the banks held at the beginning, which left them empty
pub record IsChecked (layout : Layout) (view : View) (r : Raise) (stopped : Bool) : Type 0 where
  pub going : GoesOn view r.who r.raiser
  pub acted_on : IsActedOn layout view r.who (thread_of r.raiser) (how_of r) r.before.value r.lines.told
  pub emptied : r.banks ≡ empty_banks
  pub only : HasOnlyFailed view r.who
  pub halts_is : halts r.lines.told ≡ stopped
  pub stops : IsStoppedIf stopped view r.who

abbrev pub IsEnd : Layout → View → Raise → RaiseAnswer → Type 0
IsEnd layout view r answers.Raised = IsChecked layout view r false
IsEnd layout view r answers.Stopped = (IsUnchecked view r × SawStop view r.who) ⊎ IsChecked layout view r true
IsEnd layout view r (answers.Gone page) = IsUnchecked view r × IsGone view r.who r.raiser page

-- ---- what is held

pub record IsUnbegun (view : View) (r : Raise) : Type 0 where
  pub rest : IsAtRest view
  pub unchecked : IsUnchecked view r

-- the machine check goes on, or has just ended
pub record HasHandler (layout : Layout) (view : View) (r : Raise) (h : Handler) : Type 0 where
  pub handler : handler_fits.Fits layout view h
  pub own : h.who ≡ r.who
  pub thread_is : h.thread ≡ thread_of r.raiser
  pub stops_is : h.stops ≡ has_stop (how_of r) r.before.value
  pub events : events_of h.events ≡ held_in (how_of r) r.before.value
  pub room : bank_count ≤ r.lines.spare
  pub told_none : r.lines.told ≡ []
  pub emptied : r.banks ≡ empty_banks
  pub going : GoesOn view r.who r.raiser
  pub only : HasOnlyFailed view r.who

abbrev pub FitsAt : Layout → View → Raise → RaiseAt → Type 0
FitsAt layout view r at.LoadStop = IsUnbegun view r
FitsAt layout view r (at.LoadProcess raiser) = (r.raiser ≡ Some raiser) × IsUnbegun view r
FitsAt layout view r (at.Handle h) = HasHandler layout view r h × (handlers.answer h ≡ None)
FitsAt layout view r at.GiveUp = hand_of view ≡ empty
FitsAt layout view r (at.Over None) = hand_of view ≡ empty
FitsAt layout view r (at.Over (Some answer)) = IsAtRest view × IsEnd layout view r answer

pub record Fits (layout : Layout) (view : View) (r : Raise) : Type 0 where
  pub on_turn : IsOnTurn view r.who
  pub sound : IsSound layout
  pub raiser : IsRaiser layout r.raiser
  pub three : length r.before.value ≡ bank_count
  pub at : FitsAt layout view r r.at

-- the task, as the laws of tasks read it
abbrev pub task : Member Raise
task = record {
  who = λ r. r.who;
  plan = plan;
  put = put;
  bare = bare;
  shows = Shows;
  next = Follows;
  fits = Fits;
  class = class;
  cost = cost;
  aborts = aborts;
  claims = claims;
}
