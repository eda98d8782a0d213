-- What is held and known during a scrub.
use Rattle.std.specs.Prelude.{◌≡◌, ◌⊎◌, ℕ, ◌+◌, ◌<◌, ◌≤◌, Bool, true, false, List, [], ◌++◌, Some, None, length}
use Rattle.hwp_claim.specs.hwp_geom.declared.Frame.{Frame}
use Rattle.hwp_claim.specs.hwp_geom.declared.Layout.{Layout}
use Rattle.hwp_claim.specs.hwp_geom.declared.Who.{Who}
use Rattle.hwp_claim.specs.hwp_geom.Layout.{IsSound}
use Rattle.hwp_claim.specs.hwp_banks.Events.{bank_count}
use Rattle.hwp_claim.specs.hwp_core_rule.declared.Made.{Made}
use Rattle.hwp_claim.specs.hwp_core_rule.declared.SharedWord.TheVariants as places
use Rattle.hwp_claim.specs.hwp_core_rule.declared.View.{View}
use Rattle.hwp_claim.specs.hwp_core_rule.Calls.{IsOnTurn}
use Rattle.hwp_claim.specs.hwp_core_rule.Hands.{hand_of, empty}
use Rattle.hwp_claim.specs.hwp_core_rule.Known.{HasMadeNone, HasOnly, SawStop, is_failure}
use Rattle.hwp_claim.specs.hwp_core_rule.Turns.{Member}
use Rattle.hwp_claim.specs.hwp_banks.Banks.{Banks, empty_banks}
use Rattle.hwp_claim.specs.hwp_severity.Handling.{has_stop}
use Rattle.hwp_claim.specs.declared.Handler.{Handler}
use Rattle.hwp_claim.specs.Events.{held_in}
use Rattle.hwp_claim.specs.Fits as handler_fits
use Rattle.hwp_claim.specs.Fits.{IsAtRest, IsStoppedIf, events_of}
use Rattle.hwp_claim.specs.Handlers as handlers
use Rattle.hwp_claim.specs.Told.{halts}
use Rattle.hwp_scrub.specs.Visits.{AreBanks, AreVisits, Find, IsBadFind, SawLowest, Visit, left_by, left_by_bad, lines_of, scrubbing, with_bad}
use Rattle.hwp_scrub.specs.Scrubs.{Follows, Shows, bare, plan, put}
use Rattle.hwp_scrub.specs.Costs.{aborts, claims, class, cost}
use Rattle.hwp_scrub.specs.declared.scrub.Scrub.{Scrub}
use Rattle.hwp_scrub.specs.declared.scrub.ScrubAnswer.{ScrubAnswer}
use Rattle.hwp_scrub.specs.declared.scrub.ScrubAnswer.TheVariants as answers
use Rattle.hwp_scrub.specs.declared.scrub.ScrubAt.{ScrubAt}
use Rattle.hwp_scrub.specs.declared.scrub.ScrubAt.TheVariants as at

-- the command made such entries alone as failures make
abbrev pub HasOnlyFailed : View → Who → Type 0
HasOnlyFailed view who = HasOnly (λ (m : Made). is_failure m.entry.what ≡ true) view who

-- the frames are the machine's, and the first is no higher than the last
pub record AreFrames (layout : Layout) (first last : Frame) : Type 0 where
  pub rising : first.0 ≤ last.0
  pub within : last.0 < layout.frames

-- ---- where it has come to

-- nothing is done: nothing is told, the banks hold what they held, and no entry is made
pub record IsUnbegun (view : View) (s : Scrub) : Type 0 where
  pub rest : IsAtRest view
  pub told_none : s.lines.told ≡ []
  pub banks_are : s.banks ≡ s.before.value
  pub made : HasMadeNone view s.who

-- it went over the frames from the first one to below this one, and no event of theirs stopped the machine
pub record HasVisited (layout : Layout) (view : View) (who : Who) (first : Frame) (before : Banks) (frame : ℕ) (visits : List Visit) : Type 0 where
  pub visited : AreVisits layout view who first.0 before visits
  pub next_is : first.0 + length visits ≡ frame
  pub halts_none : halts (lines_of visits) ≡ false
  pub only : HasOnlyFailed view who

-- it comes to this frame, or has gone over all
pub record IsBefore (layout : Layout) (view : View) (s : Scrub) (frame : ℕ) : Type 0 where
  pub rest : IsAtRest view
  pub visits : List Visit
  pub visited : HasVisited layout view s.who s.first s.before.value frame visits
  pub told_is : s.lines.told ≡ lines_of visits
  pub banks_are : s.banks ≡ left_by s.before.value visits

-- the machine check of the frame's lowest bad line goes on, or has just ended
pub record HasHandler (layout : Layout) (view : View) (s : Scrub) (frame : Frame) (h : Handler) : Type 0 where
  pub visits : List Visit
  pub visited : HasVisited layout view s.who s.first s.before.value frame.0 visits
  pub told_is : s.lines.told ≡ lines_of visits
  pub line : ℕ
  pub saw : SawLowest view s.who (places.Bad frame) (Some line)
  pub handler : handler_fits.Fits layout view h
  pub own : h.who ≡ s.who
  pub thread_is : h.thread ≡ None
  pub stops_is : h.stops ≡ has_stop scrubbing (with_bad frame line (left_by s.before.value visits))
  pub events : events_of h.events ≡ held_in scrubbing (with_bad frame line (left_by s.before.value visits))
  pub room : bank_count ≤ s.lines.spare
  pub emptied : s.banks ≡ empty_banks

-- the frame's bad lines are dealt with, and whether that stopped the machine
pub record IsHalfway (layout : Layout) (view : View) (s : Scrub) (frame : Frame) (stopped : Bool) : Type 0 where
  pub rest : IsAtRest view
  pub visits : List Visit
  pub visited : HasVisited layout view s.who s.first s.before.value frame.0 visits
  pub inside : frame.0 ≤ s.last.0
  pub bad : Find
  pub found : IsBadFind layout view s.who frame (left_by s.before.value visits) bad
  pub told_is : s.lines.told ≡ lines_of visits ++ bad.lines
  pub banks_are : s.banks ≡ left_by_bad bad.line (left_by s.before.value visits)
  pub halts_is : halts bad.lines ≡ stopped
  pub stops : IsStoppedIf stopped view s.who

abbrev pub IsEnd : Layout → View → Scrub → ScrubAnswer → Type 0
IsEnd layout view s answers.Scrubbed = IsBefore layout view s (s.last.0 + 1)
IsEnd layout view s answers.Stopped = (IsUnbegun view s × SawStop view s.who) ⊎ ((frame : Frame) × IsHalfway layout view s frame true)

abbrev pub FitsAt : Layout → View → Scrub → ScrubAt → Type 0
FitsAt layout view s at.LoadStop = IsUnbegun view s
FitsAt layout view s (at.LoadBad frame) = IsBefore layout view s frame.0 × (frame.0 ≤ s.last.0)
FitsAt layout view s (at.Handle frame h) = HasHandler layout view s frame h × (frame.0 ≤ s.last.0) × (handlers.answer h ≡ None)
FitsAt layout view s (at.LoadWeak frame) = IsHalfway layout view s frame false
FitsAt layout view s at.GiveUp = hand_of view ≡ empty
FitsAt layout view s (at.Over None) = hand_of view ≡ empty
FitsAt layout view s (at.Over (Some answer)) = IsEnd layout view s answer

pub record Fits (layout : Layout) (view : View) (s : Scrub) : Type 0 where
  pub on_turn : IsOnTurn view s.who
  pub sound : IsSound layout
  pub frames : AreFrames layout s.first s.last
  pub banks : AreBanks s.before.value
  pub at : FitsAt layout view s s.at

-- the task, as the laws of tasks read it
abbrev pub task : Member Scrub
task = record {
  who = λ s. s.who;
  plan = plan;
  put = put;
  bare = bare;
  shows = Shows;
  next = Follows;
  fits = Fits;
  class = class;
  cost = cost;
  aborts = aborts;
  claims = claims;
}
