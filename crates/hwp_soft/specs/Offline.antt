-- What is held and known while a frame is taken out of use, and why the command answers so.
use Rattle.std.specs.Prelude.{◌≡◌, ◌≢◌, ℕ, ◌<◌, ◌≤◌, Bool, true, false, [], ◌∷◌, ◌++◌, Option, Some, None, is_none, length, drop, List}
use Rattle.hwp_claim_frame.specs.hwp_geom.declared.Frame.{Frame}
use Rattle.hwp_claim_frame.specs.hwp_geom.declared.Layout.{Layout}
use Rattle.hwp_claim_frame.specs.hwp_geom.declared.Page.{Page}
use Rattle.hwp_claim_frame.specs.hwp_geom.declared.Who.{Who}
use Rattle.hwp_claim_frame.specs.hwp_page.declared.What.TheVariants as entries
use Rattle.hwp_claim_frame.specs.hwp_page.History.{BodyValue}
use Rattle.hwp_claim_frame.specs.hwp_core_rule.declared.Made.{Made}
use Rattle.hwp_claim_frame.specs.hwp_core_rule.declared.SharedWord.TheVariants as places
use Rattle.hwp_claim_frame.specs.hwp_core_rule.declared.View.{View}
use Rattle.hwp_claim_frame.specs.hwp_core_rule.Logs.{log_of}
use Rattle.hwp_claim_frame.specs.hwp_core_rule.Views.{unpoisoned, with_refs}
use Rattle.hwp_claim_frame.specs.hwp_core_rule.parts.Entries.{HasSeen}
use Rattle.hwp_claim_frame.specs.hwp_core_rule.Calls.{IsOnTurn}
use Rattle.hwp_claim_frame.specs.hwp_core_rule.Hands.{Hand, hand_of, empty}
use Rattle.hwp_claim_frame.specs.hwp_core_rule.Known.{HasMadeBeside, HasMadeNoneBeside, Saw, SawBadOf, SawStop}
use Rattle.hwp_claim_frame.specs.hwp_core_rule.Turns.{Member}
use Rattle.hwp_claim_frame.specs.hwp_core.declared.give_up.GiveUp.{GiveUp}
use Rattle.hwp_claim_frame.specs.hwp_core.declared.release.Release.{Release}
use Rattle.hwp_claim_frame.specs.hwp_core.declared.release.ReleaseAt.{ReleaseAt}
use Rattle.hwp_claim_frame.specs.hwp_core.declared.release.ReleaseAt.TheVariants as release_at
use Rattle.hwp_evict.specs.declared.take.Take.{Take}
use Rattle.hwp_evict.specs.declared.take.TakeAt.{TakeAt}
use Rattle.hwp_evict.specs.declared.take.TakeAt.TheVariants as take_at
use Rattle.hwp_claim_frame.specs.hwp_core.declared.unhold.Unhold.{Unhold}
use Rattle.hwp_claim_frame.specs.hwp_core.GiveUps as give_ups
use Rattle.hwp_claim_frame.specs.hwp_core.Holds.{IsBodyOf, held}
use Rattle.hwp_claim_frame.specs.hwp_core.Releases as releases
use Rattle.hwp_evict.specs.Takes as takes
use Rattle.hwp_claim_frame.specs.hwp_core.Releases.{adopted_lock, new_lock}
use Rattle.hwp_claim_frame.specs.hwp_core.Unholds as unholds
use Rattle.hwp_claim_frame.specs.Claims.{HasMarked, SawPoison}
use Rattle.hwp_claim_frame.specs.Grabs.{WasFree}
use Rattle.hwp_claim_frame.specs.Meets.{AsTaken, HoldsMet}
use Rattle.hwp_soft_move.specs.declared.discard.Discard.{Discard}
use Rattle.hwp_soft_move.specs.declared.relocate.Relocate.{Relocate}
use Rattle.hwp_soft_move.specs.declared.seize.Seize.{Seize}
use Rattle.hwp_soft.specs.declared.soft.Soft.{Soft}
use Rattle.hwp_soft.specs.declared.soft.SoftAnswer.{SoftAnswer}
use Rattle.hwp_soft.specs.declared.soft.SoftAnswer.TheVariants as answers
use Rattle.hwp_soft.specs.declared.soft.SoftAt.{SoftAt}
use Rattle.hwp_soft.specs.declared.soft.SoftAt.TheVariants as at
use Rattle.hwp_soft_move.specs.Discards as discards
use Rattle.hwp_soft_move.specs.Relocating as relocating
use Rattle.hwp_soft_move.specs.Relocations as relocations
use Rattle.hwp_soft_move.specs.Seizes as seizes
use Rattle.hwp_soft_move.specs.Seizes.{IsUsers, SawKernel}
use Rattle.hwp_soft.specs.Softs.{CanMakeEntry, Follows, Shows, aborts, bare, claims, class, cost, plan, put}

-- ---- why the command answers so, where it had made the entries of `base` before

-- a step of it showed the bad lines of the frame, under its lock
pub record SawLines (view : View) (who : Who) (frame : Frame) (mask : ℕ) : Type 0 where
  pub page : Page
  pub some : mask ≢ 0
  pub saw : SawBadOf view who page frame mask

-- what a step of it showed, or the mark and the entry that it made
abbrev pub IsCaused : List Made → Layout → View → Who → Frame → SoftAnswer → Type 0
IsCaused base layout view who frame answers.Stopped = HasMadeNoneBeside base view who × SawStop view who
IsCaused base layout view who frame answers.Kernel = HasMadeNoneBeside base view who × SawKernel layout view who frame
IsCaused base layout view who frame answers.Already = HasMadeNoneBeside base view who × SawPoison view who frame × IsUsers layout frame
IsCaused base layout view who frame (answers.HasBad mask) = HasMadeNoneBeside base view who × SawLines view who frame mask.0 × IsUsers layout frame
IsCaused base layout view who frame answers.NoFrame = HasMadeNoneBeside base view who × Saw view who places.Available 0 × IsUsers layout frame
IsCaused base layout view who frame (answers.TakenFree cycle) = HasMadeNoneBeside base view who × HasMarked view who frame false cycle × IsUsers layout frame
IsCaused base layout view who frame (answers.Moved to place cycle) = HasMadeBeside base (λ m. ⊥) view who place.page place.entry entries.Soft × HasMarked view who frame false cycle × ((word : ℕ) × WasFree view who to word) × IsUsers layout frame

-- ---- what is held

pub record IsSeizing (layout : Layout) (view : View) (who : Who) (frame : Frame) (s : Seize) : Type 0 where
  pub seize : seizes.Fits layout view s
  pub own : s.who ≡ who
  pub frame_is : s.frame ≡ frame
  pub under_way : is_none (seizes.plan s) ≡ false

pub record IsDiscarding (layout : Layout) (view : View) (who : Who) (frame : Frame) (d : Discard) : Type 0 where
  pub discard : discards.Fits layout view d
  pub own : d.who ≡ who
  pub frame_is : d.frame ≡ frame
  pub under_way : is_none (discards.plan d) ≡ false

-- what a take adds to what is held with a page
abbrev pub with_take : TakeAt → Hand → Hand
with_take (take_at.LoadFree number) h = record h { reserved = 1 }
with_take (take_at.TakeBit to) h = record h { reserved = 1 }
with_take (take_at.Adopt to) h = record h { hands = unpoisoned to ∷ [] }
with_take (take_at.Retire to) h = record h { locks = h.locks ++ adopted_lock to true ∷ []; refs = with_refs to 1 h.refs }
with_take (take_at.Over (Some to)) h = record h { locks = h.locks ++ new_lock to ∷ []; refs = with_refs to 1 h.refs }
with_take _ h = h

-- the page is held with its frame as it was met, its body has room for the entry, and the frame was seen without bad lines since
-- the body was taken; beside that this is held
pub record HoldsGood (base : List Made) (layout : Layout) (view : View) (who : Who) (frame : Frame) (page : Page) (body : BodyValue) (more : Hand → Hand) : Type 0 where
  pub seen : ℕ
  pub poisoned : Bool
  pub hand_is : hand_of view ≡ more (held layout page (Some frame) (log_of body) seen false poisoned)
  pub body_is : IsBodyOf layout page (Some frame) body
  pub can : CanMakeEntry body
  pub few : seen ≤ length view.sights
  pub saw : HasSeen (drop seen view.sights) who (Some frame) entries.Soft
  pub inside : page.0 < length layout.pages
  pub users : IsUsers layout frame
  pub made_none : HasMadeNoneBeside base view who

-- the frame that a take has locked
abbrev pub locked_in : TakeAt → Option Frame
locked_in (take_at.Retire to) = Some to
locked_in (take_at.Over to) = to
locked_in _ = None

pub record IsTaking (base : List Made) (layout : Layout) (view : View) (who : Who) (frame : Frame) (page : Page) (body : BodyValue) (t : Take) : Type 0 where
  pub good : HoldsGood base layout view who frame page body (with_take t.at)
  pub apart : (to : Frame) → locked_in t.at ≡ Some to → frame.0 ≢ to.0
  pub take : takes.Fits layout view t
  pub own : t.who ≡ who
  pub under_way : is_none (takes.plan t) ≡ false

-- and another frame, which was free
pub record HoldsSpare (base : List Made) (layout : Layout) (view : View) (who : Who) (frame : Frame) (page : Page) (body : BodyValue) (to : Frame) : Type 0 where
  pub good : HoldsGood base layout view who frame page body (with_take (take_at.Over (Some to)))
  pub within : to.0 < layout.frames
  pub apart : frame.0 ≢ to.0
  pub word : ℕ
  pub free : WasFree view who to word

-- what is held while it is released
abbrev pub releasing : Frame → ReleaseAt → Hand → Hand
releasing to release_at.Put h = record h { refs = with_refs to 1 h.refs }
releasing to (release_at.Give word) h = record h { hands = unpoisoned to ∷ [] }
releasing to (release_at.Unreserve word) h = record h { reserved = 1 }
releasing to (release_at.Adopt word) h = record h { hands = record { frame = to; poisoned = true } ∷ [] }
releasing to (release_at.Retire word) h = record h { locks = h.locks ++ adopted_lock to true ∷ []; refs = with_refs to 1 h.refs }
releasing to (release_at.Back word) h = h

pub record IsReleasing (base : List Made) (layout : Layout) (view : View) (who : Who) (frame : Frame) (page : Page) (body : BodyValue) (r : Release) : Type 0 where
  pub good : HoldsGood base layout view who frame page body (releasing r.frame r.at)
  pub apart : frame.0 ≢ r.frame.0
  pub release : releases.Fits layout view r
  pub own : r.who ≡ who
  pub count_is : r.count ≡ 1
  pub under_way : is_none (releases.plan r) ≡ false

-- the page is on its way to another frame, which was free, and the frame is poisoned
pub record IsRelocating (base : List Made) (layout : Layout) (view : View) (who : Who) (frame : Frame) (r : Relocate) (answer : SoftAnswer) : Type 0 where
  pub relocate : relocating.FitsFrom base layout view r
  pub own : r.transfer.who ≡ who
  pub frame_is : r.transfer.from ≡ frame
  pub under_way : is_none (relocations.plan r) ≡ false
  pub cycle : ℕ
  pub answer_is : answer ≡ answers.Moved r.transfer.to r.done cycle
  pub marked : HasMarked view who frame false cycle
  pub word : ℕ
  pub free : WasFree view who r.transfer.to word
  pub users : IsUsers layout frame

-- the page is let go, and its body goes home as it was taken
pub record IsLettingGo (base : List Made) (layout : Layout) (view : View) (who : Who) (frame : Frame) (u : Unhold) (answer : SoftAnswer) : Type 0 where
  pub unhold : unholds.Fits layout view u
  pub own : u.who ≡ who
  pub under_way : is_none (unholds.plan u) ≡ false
  pub as_taken : AsTaken view (unholds.put u)
  pub caused : IsCaused base layout view who frame answer

pub record IsGivingUp (layout : Layout) (view : View) (who : Who) (g : GiveUp) : Type 0 where
  pub give_up : give_ups.Fits layout view g
  pub own : g.who ≡ who
  pub as_taken : AsTaken view (give_ups.put g)

abbrev pub FitsAt : List Made → Layout → View → Who → Frame → SoftAt → Type 0
FitsAt base layout view who frame at.LoadStop = (hand_of view ≡ empty) × HasMadeNoneBeside base view who
FitsAt base layout view who frame (at.Seize s) = IsSeizing layout view who frame s × HasMadeNoneBeside base view who
FitsAt base layout view who frame (at.Discard d) = IsDiscarding layout view who frame d × IsUsers layout frame × HasMadeNoneBeside base view who
FitsAt base layout view who frame (at.LoadBad page body) = HoldsMet layout view who page frame None body × IsUsers layout frame × HasMadeNoneBeside base view who
FitsAt base layout view who frame (at.Take page body t) = IsTaking base layout view who frame page body t
FitsAt base layout view who frame (at.Poison page body to) = HoldsSpare base layout view who frame page body to
FitsAt base layout view who frame (at.UnlockSpare page body to) = HoldsSpare base layout view who frame page body to × SawPoison view who frame
FitsAt base layout view who frame (at.ReleaseSpare page body r) = IsReleasing base layout view who frame page body r × SawPoison view who frame
FitsAt base layout view who frame (at.Relocate r answer) = IsRelocating base layout view who frame r answer
FitsAt base layout view who frame (at.Unhold u answer) = IsLettingGo base layout view who frame u answer
FitsAt base layout view who frame (at.GiveUp g) = IsGivingUp layout view who g
FitsAt base layout view who frame (at.Over answer) = (hand_of view ≡ empty) × IsCaused base layout view who frame answer

-- the processor holds nothing at first and in the end, and knows why the command answers so
pub record FitsFrom (base : List Made) (layout : Layout) (view : View) (s : Soft) : Type 0 where
  pub on_turn : IsOnTurn view s.who
  pub frame : s.frame.0 < layout.frames
  pub at : FitsAt base layout view s.who s.frame s.at

-- whatever the command had made before
abbrev pub Fits : Layout → View → Soft → Type 0
Fits layout view s = (base : List Made) × FitsFrom base layout view s

-- the task, as the laws of tasks read it
abbrev pub task : Member Soft
task = record {
  who = λ s. s.who;
  plan = plan;
  put = put;
  bare = bare;
  shows = Shows;
  next = Follows;
  fits = Fits;
  class = class;
  cost = cost;
  aborts = aborts;
  claims = claims;
}
