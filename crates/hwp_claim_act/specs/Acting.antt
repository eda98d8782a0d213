-- What is held and known while a memory failure acts on the page in its frame.
use Rattle.std.specs.Prelude.{◌≡◌, ℕ, ◌+◌, ◌<◌, ◌≤◌, true, false, [], ◌∷◌, Option, Some, None, is_none, length, drop}
use Rattle.hwp_core.specs.hwp_geom.declared.Frame.{Frame}
use Rattle.hwp_core.specs.hwp_geom.declared.Layout.{Layout}
use Rattle.hwp_core.specs.hwp_geom.declared.Page.{Page}
use Rattle.hwp_core.specs.hwp_geom.declared.Thread.{Thread}
use Rattle.hwp_core.specs.hwp_geom.declared.Who.{Who}
use Rattle.hwp_core.specs.hwp_page.History.{BodyValue, IsReplay}
use Rattle.hwp_core.specs.hwp_core_rule.declared.InHand.{InHand}
use Rattle.hwp_core.specs.hwp_core_rule.declared.Log.{Log}
use Rattle.hwp_core.specs.hwp_core_rule.declared.View.{View}
use Rattle.hwp_core.specs.hwp_core_rule.Logs.{log_of, state_of}
use Rattle.hwp_core.specs.hwp_core_rule.Views.{body_of, more_of}
use Rattle.hwp_core.specs.hwp_core_rule.parts.Entries.{HasSeen}
use Rattle.hwp_core.specs.hwp_core_rule.Calls.{IsOnTurn}
use Rattle.hwp_core.specs.hwp_core_rule.Hands.{hand_of, empty, body_in}
use Rattle.hwp_core.specs.hwp_core_rule.Turns.{Member}
use Rattle.hwp_core.specs.declared.give_up.GiveUp.{GiveUp}
use Rattle.hwp_core.specs.GiveUps as give_ups
use Rattle.hwp_core.specs.declared.clear.Clear.{Clear}
use Rattle.hwp_core.specs.Clears as clears
use Rattle.hwp_claim_act.specs.declared.abandon.Abandon.{Abandon}
use Rattle.hwp_claim_act.specs.declared.abandon.Failed.{Failed}
use Rattle.hwp_claim_act.specs.declared.abandon.Losses.{Losses}
use Rattle.hwp_claim_act.specs.declared.act.Act.{Act}
use Rattle.hwp_claim_act.specs.declared.act.ActAt.{ActAt}
use Rattle.hwp_claim_act.specs.declared.act.ActAt.TheVariants as at
use Rattle.hwp_claim_act.specs.declared.read_policies.ReadPolicies.{ReadPolicies}
use Rattle.hwp_claim_act.specs.Abandoned as abandoned
use Rattle.hwp_claim_act.specs.Abandoned.{CanLoseOne, Failure, HasFailed, HasFailure, what_of}
use Rattle.hwp_claim_act.specs.Abandons as abandons
use Rattle.hwp_claim_act.specs.Acts.{Follows, IsReady, Shows, bare, class, cost, plan, put}
use Rattle.hwp_claim_act.specs.Failing.{bars_of}
use Rattle.hwp_claim_act.specs.Reads as reads

-- no loss is owed, and the view poisoned more frames than losses that it made
pub record IsClean (view : View) : Type 0 where
  pub paid : view.owed.losses ≡ []
  pub spare : CanLoseOne view

-- policies are being read
pub record IsReading (layout : Layout) (view : View) (who : Who) (page : Page) (frame : Frame) (r : ReadPolicies) : Type 0 where
  pub read : reads.Fits layout view r
  pub own : r.who ≡ who
  pub page_is : r.body.page ≡ page
  pub frame_is : r.frame ≡ frame
  pub under_way : is_none r.next ≡ false
  pub ready : IsReady r.body
  pub clean : IsClean view

-- the body has the entry of the failure, and the translations are being written
pub record IsClearing (layout : Layout) (view : View) (who : Who) (page : Page) (frame : Frame) (c : Clear) (losses : Losses) (failed : Failed) (body : BodyValue) : Type 0 where
  pub clear : clears.Fits layout view c
  pub own : c.who ≡ who
  pub page_is : c.page ≡ page
  pub frame_is : c.frame ≡ frame
  pub log : Log
  pub seen : ℕ
  pub f : Failure
  pub bodies_are : view.bodies ≡ body_in (Some frame) log seen ∷ []
  pub locks_are : view.locks ≡ record { frame = frame; owner = page.0 + 1; handled = false; poisoned = true } ∷ []
  pub entry : HasFailure layout who page log f losses failed body
  pub replay : IsReplay layout page log.entries (state_of layout log)
  pub barred_is : c.barred ≡ bars_of f.situation
  pub few : seen ≤ length view.sights
  pub saw : HasSeen (drop seen view.sights) who (Some frame) (what_of f)
  pub clean : IsClean view

pub record IsAbandoning (layout : Layout) (view : View) (who : Who) (page : Page) (frame : Frame) (a : Abandon) : Type 0 where
  pub abandon : abandoned.Fits layout view a
  pub own : a.who ≡ who
  pub page_is : a.page ≡ page
  pub frame_is : a.frame ≡ frame
  pub under_way : is_none (abandons.plan a) ≡ false

-- a body that goes home has the entries that it was taken with
abbrev pub AsTaken : View → Option BodyValue → Type 0
AsTaken view given = (b : BodyValue) → given ≡ Some b → (taken : InHand) × (body_of b.page view ≡ Some taken) × (more_of taken (log_of b) ≡ [])

pub record IsGivingUp (layout : Layout) (view : View) (who : Who) (g : GiveUp) : Type 0 where
  pub give_up : give_ups.Fits layout view g
  pub own : g.who ≡ who
  pub as_taken : AsTaken view (give_ups.put g)
  pub under_way : is_none (give_ups.plan g) ≡ false

-- the last entry that the command made is the failure's, where it didn't give up
abbrev pub FitsOver : View → Who → Page → Option Failed → Type 0
FitsOver view who page None = hand_of view ≡ empty
FitsOver view who page (Some failed) = (hand_of view ≡ empty) × (view.owed.losses ≡ []) × (failed.at.page ≡ page) × HasFailed view who failed

abbrev pub FitsAt : Layout → View → Who → Page → Frame → ActAt → Type 0
FitsAt layout view who page frame (at.Read r) = IsReading layout view who page frame r
FitsAt layout view who page frame (at.Clear c losses failed body) = IsClearing layout view who page frame c losses failed body × (is_none c.next ≡ false)
FitsAt layout view who page frame (at.Abandon a) = IsAbandoning layout view who page frame a
FitsAt layout view who page frame (at.GiveUp g) = IsGivingUp layout view who g
FitsAt layout view who page frame (at.Over failed) = FitsOver view who page failed

pub record Fits (layout : Layout) (view : View) (a : Act) : Type 0 where
  pub on_turn : IsOnTurn view a.who
  pub page : a.page.0 < length layout.pages
  pub frame : a.frame.0 < layout.frames
  pub at : FitsAt layout view a.who a.page a.frame a.at

-- this thread, or none, needs the page now
abbrev pub IsFor : Option Thread → ActAt → Type 0
IsFor required (at.Read r) = r.required ≡ required
IsFor required (at.Clear c losses failed body) = failed.required ≡ required
IsFor required (at.Abandon a) = a.failed.required ≡ required
IsFor required (at.GiveUp g) = Unit {0}
IsFor required (at.Over None) = Unit {0}
IsFor required (at.Over (Some failed)) = failed.required ≡ required

-- the task, as the laws of tasks read it
abbrev pub task : Member Act
task = record {
  who = λ a. a.who;
  plan = plan;
  put = put;
  bare = bare;
  shows = λ a found got. Shows a found;
  next = λ layout a found got after result. Follows a found after result;
  fits = Fits;
  class = class;
  cost = cost;
  aborts = λ a. false;
  claims = λ a. None;
}
