-- What is held and known while a page is taken out of its failed frame.
use Rattle.std.specs.Prelude.{◌≡◌, ◌⊎◌, ℕ, ◌+◌, ◌-◌, ◌<◌, ◌≤◌, Bool, true, false, List, [], ◌∷◌, ◌++◌, Option, Some, None, length, slice_get}
use Rattle.std.specs.FinSet as set
use Rattle.std.specs.List.{sum_by}
use Rattle.std.specs.Int.{from_bool}
use Rattle.hwp_core.specs.hwp_geom.declared.FileNo.{FileNo}
use Rattle.hwp_core.specs.hwp_geom.declared.Frame.{Frame}
use Rattle.hwp_core.specs.hwp_geom.declared.Layout.{Layout}
use Rattle.hwp_core.specs.hwp_geom.declared.Page.{Page}
use Rattle.hwp_core.specs.hwp_geom.declared.Proc.{Proc}
use Rattle.hwp_core.specs.hwp_geom.declared.Thread.{Thread}
use Rattle.hwp_core.specs.hwp_geom.declared.Who.{Who}
use Rattle.hwp_core.specs.hwp_geom.Layout.{IsSound}
use Rattle.hwp_core.specs.hwp_kill.declared.Seen.{Seen}
use Rattle.hwp_core.specs.hwp_kill.declared.Signal.{Signal}
use Rattle.hwp_core.specs.hwp_kill.Limits.{signal_limit}
use Rattle.hwp_core.specs.hwp_page.declared.Entry.{Entry}
use Rattle.hwp_core.specs.hwp_page.declared.Situation.{Situation}
use Rattle.hwp_core.specs.hwp_page.declared.Situation.TheVariants as situations
use Rattle.hwp_core.specs.hwp_page.declared.What.{What}
use Rattle.hwp_core.specs.hwp_page.declared.What.TheVariants as entries
use Rattle.hwp_core.specs.hwp_page.History.{BodyValue}
use Rattle.hwp_core.specs.hwp_page.Losses.{is_loss}
use Rattle.hwp_core.specs.hwp_page.Step.{IsFailure}
use Rattle.hwp_core.specs.hwp_core_rule.declared.InHand.{InHand}
use Rattle.hwp_core.specs.hwp_core_rule.declared.Log.{Log}
use Rattle.hwp_core.specs.hwp_core_rule.declared.Made.{Made}
use Rattle.hwp_core.specs.hwp_core_rule.declared.Mark.{Mark}
use Rattle.hwp_core.specs.hwp_core_rule.declared.View.{View}
use Rattle.hwp_core.specs.hwp_core_rule.Asks.{Extends}
use Rattle.hwp_core.specs.hwp_core_rule.Lists.{SomeMember}
use Rattle.hwp_core.specs.hwp_core_rule.Logs.{file_of, log_of, state_of}
use Rattle.hwp_core.specs.hwp_core_rule.Views.{more_of}
use Rattle.hwp_core.specs.hwp_core_rule.parts.Counter.{is_poisoning}
use Rattle.hwp_core.specs.hwp_core_rule.parts.Fits.{FitsWords}
use Rattle.hwp_core.specs.hwp_core_rule.Calls.{IsOnTurn}
use Rattle.hwp_core.specs.hwp_core_rule.Hands.{Hand, hand_of, empty}
use Rattle.hwp_core.specs.hwp_core_rule.Known.{HasMade, deeds}
use Rattle.hwp_core.specs.hwp_core_rule.Turns.{Member}
use Rattle.hwp_core.specs.hwp_core_rule.declared.Turn.TheVariants.{Moved}
use Rattle.hwp_core.specs.Vacates.{page_held, with_frame}
use Rattle.hwp_claim_act.specs.declared.abandon.Abandon.{Abandon}
use Rattle.hwp_claim_act.specs.declared.abandon.AbandonAt.{AbandonAt}
use Rattle.hwp_claim_act.specs.declared.abandon.AbandonAt.TheVariants as at
use Rattle.hwp_claim_act.specs.declared.abandon.Failed.{Failed}
use Rattle.hwp_claim_act.specs.declared.abandon.Losses.{Losses}
use Rattle.hwp_claim_act.specs.Abandons.{Shows, bare, class, cost, endings_of, has_told, next, plan, put, signals_now}

-- the entry of a failure
pub record Failure : Type 0 where
  pub situation : Situation
  pub required : Option Thread
  pub seen : List Seen
  pub signals : List Signal

abbrev pub what_of : Failure → What
what_of f = entries.Fail f.situation f.required f.seen f.signals

abbrev pub entry_of : Who → Failure → Entry
entry_of who f = record { who = who; what = what_of f }

-- a page was in the frame
abbrev pub IsOfPage : Situation → Type 0
IsOfPage situations.Free = ⊥
IsOfPage situations.Kernel = ⊥
IsOfPage _ = Unit {0}

-- the last entry that the command made is this one, of a page that was in the frame
pub record HasFailed (view : View) (who : Who) (failed : Failed) : Type 0 where
  pub seen : List Seen
  pub signals : List Signal
  pub made : HasMade (λ (m : Made). Unit {0}) view who failed.at.page failed.at.entry (entries.Fail failed.situation failed.required seen signals)
  pub signalled : failed.signalled ≡ signals_now signals
  pub paged : IsOfPage failed.situation

-- the failure that an entry tells
abbrev pub failed_of : Page → ℕ → What → Option Failed
failed_of page place (entries.Fail situation required seen signals) = Some (record { situation = situation; required = required; at = record { page = page; entry = place }; signalled = signals_now signals })
failed_of page place _ = None

abbrev pub failed_in : Made → Option Failed
failed_in m = failed_of m.page m.place m.entry.what

-- the command makes no entry; or it makes one, of a failure, and its failures grow by that
abbrev pub AddsFailure : Who → View → View → List Failed → List Failed → Type 0
AddsFailure who old new before after =
    ((deeds who new ≡ deeds who old) × (after ≡ before)) ⊎ ((m : Made) × (failed : Failed) × (deeds who new ≡ deeds who old ++ m ∷ []) × (failed_in m ≡ Some failed) × (after ≡ before ++ failed ∷ []))

-- the file that the failure costs content
abbrev pub IsLostFile : Layout → Page → Failure → Option FileNo → Type 0
IsLostFile layout page f None = is_loss (what_of f) ≡ false
IsLostFile layout page f (Some file) = (file_of layout page ≡ Some file) × (is_loss (what_of f) ≡ true)

-- the body has the entry of the failure, which the page's state allowed, and these are its signals and its answer
pub record HasFailure (layout : Layout) (who : Who) (page : Page) (log : Log) (f : Failure) (losses : Losses) (failed : Failed) (body : BodyValue) : Type 0 where
  pub page_is : log.page ≡ page
  pub log_is : log_of body ≡ record { page = log.page; entries = log.entries ++ entry_of who f ∷ [] }
  pub layout_is : body.layout ≡ layout
  pub allowed : IsFailure layout (state_of layout log) f.situation f.required f.seen f.signals
  pub endings_are : losses.endings ≡ endings_of layout f.signals
  pub few : length losses.endings ≤ signal_limit
  pub file_is : IsLostFile layout page f losses.file
  pub failed_is : failed ≡ record { situation = f.situation; required = f.required; at = record { page = page; entry = length log.entries }; signalled = signals_now f.signals }

-- the processes of the first signals have ended
abbrev pub HaveEnded : List Signal → ℕ → InHand → Type 0
HaveEnded endings n taken = (i : ℕ) (s : Signal) → i < n → slice_get endings i ≡ Some s → SomeMember (λ (p : Proc). p ≡ s.process) taken.killed

-- the body in hand, with as many processes ended of those that have to
pub record IsInHand (layout : Layout) (view : View) (who : Who) (page : Page) (frame : Frame) (log : Log) (losses : Losses) (killed : ℕ) (body : BodyValue) (taken : InHand) : Type 0 where
  pub own : taken.log.page ≡ page
  pub since : taken.since ≡ length log.entries
  pub place : taken.frame ≡ Some frame
  pub killed_are : HaveEnded losses.endings killed taken
  pub few : taken.from ≤ length view.sights
  pub extends : Extends layout who view.sights taken (log_of body)

-- the entry isn't listed yet
pub record IsUnlisted (who : Who) (log : Log) (f : Failure) (body : BodyValue) (taken : InHand) : Type 0 where
  pub more : more_of taken (log_of body) ≡ entry_of who f ∷ []
  pub length_is : length taken.log.entries ≡ length log.entries

-- the entry is listed, as the last of the command
pub record IsListed (view : View) (who : Who) (page : Page) (log : Log) (f : Failure) (body : BodyValue) (taken : InHand) : Type 0 where
  pub more : more_of taken (log_of body) ≡ []
  pub made : HasMade (λ (m : Made). Unit {0}) view who page (length log.entries) (what_of f)

-- the entry is listed, or isn't yet
abbrev pub IsListedIf : Bool → View → Who → Page → Log → Failure → BodyValue → InHand → Type 0
IsListedIf true view who page log f body taken = IsListed view who page log f body taken
IsListedIf false view who page log f body taken = IsUnlisted who log f body taken

-- the view poisoned more frames than losses that it made
abbrev pub CanLoseOne : View → Type 0
CanLoseOne v = sum_by (λ (m : Made). from_bool (is_loss m.entry.what)) v.made < sum_by (λ (m : Mark). from_bool (is_poisoning m.kind)) v.marks

-- the page is held with its frame or without, and its body is on its way to the shelf
pub record Carries (layout : Layout) (view : View) (a : Abandon) (killed : ℕ) (trans : List ℕ) (taken : InHand) : Type 0 where
  pub log : Log
  pub f : Failure
  pub body : BodyValue
  pub given_is : a.body ≡ Some body
  pub entry : HasFailure layout a.who a.page log f a.losses a.failed body
  pub in_hand : IsInHand layout view a.who a.page a.frame log a.losses killed body taken
  pub fits : FitsWords layout (log_of body) 0 trans
  pub unmapped : (state_of layout (log_of body)).maps ≡ set.empty
  pub paid : view.owed.losses ≡ []

-- what is held in each state
abbrev pub hand_at : Page → Frame → ℕ → AbandonAt → List ℕ → InHand → Hand
hand_at page frame count at.SetCache trans taken = with_frame frame (page.0 + 1) false true (count - 1) (page_held page (Some frame) trans taken)
hand_at page frame count at.SetOwner trans taken = with_frame frame (page.0 + 1) false true count (page_held page None trans taken)
hand_at page frame count (at.Lose file) trans taken = with_frame frame 0 false true count (page_held page None trans taken)
hand_at page frame count (at.Kill number process) trans taken = with_frame frame 0 false true count (page_held page None trans taken)
hand_at page frame count at.PutRef trans taken = with_frame frame 0 false true count (page_held page None trans taken)
hand_at page frame count at.Retire trans taken = with_frame frame 0 false true 1 (page_held page None trans taken)
hand_at page frame count at.UnlockPage trans taken = page_held page None trans taken
hand_at page frame count at.Over trans taken = empty

-- nothing is listed yet, and a loss can be counted
pub record IsAhead (layout : Layout) (view : View) (a : Abandon) (x : AbandonAt) : Type 0 where
  pub trans : List ℕ
  pub taken : InHand
  pub hand_is : hand_of view ≡ hand_at a.page a.frame a.count x trans taken
  pub carries : Carries layout view a 0 trans taken
  pub unlisted : IsUnlisted a.who carries.log carries.f carries.body taken
  pub spare : CanLoseOne view

-- the loss, if there is one, is counted, and these processes have ended
pub record IsPast (layout : Layout) (view : View) (a : Abandon) (x : AbandonAt) (killed : ℕ) : Type 0 where
  pub trans : List ℕ
  pub taken : InHand
  pub hand_is : hand_of view ≡ hand_at a.page a.frame a.count x trans taken
  pub carries : Carries layout view a killed trans taken
  pub listing : IsListedIf (has_told a.losses killed) view a.who a.page carries.log carries.f carries.body taken

-- the process of the signal of this number is the one that ends
abbrev pub IsNumbered : Losses → ℕ → Proc → Type 0
IsNumbered losses number process = (s : Signal) × (slice_get losses.endings number ≡ Some s) × (s.process ≡ process)

abbrev pub FitsAt : Layout → View → Abandon → AbandonAt → Type 0
FitsAt layout view a at.SetCache = IsAhead layout view a at.SetCache
FitsAt layout view a at.SetOwner = IsAhead layout view a at.SetOwner
FitsAt layout view a (at.Lose file) = IsAhead layout view a (at.Lose file) × (a.losses.file ≡ Some file)
FitsAt layout view a (at.Kill number process) = IsPast layout view a (at.Kill number process) number × IsNumbered a.losses number process
FitsAt layout view a at.PutRef = IsPast layout view a at.PutRef (length a.losses.endings)
FitsAt layout view a at.Retire = IsPast layout view a at.Retire (length a.losses.endings)
FitsAt layout view a at.UnlockPage = IsPast layout view a at.UnlockPage (length a.losses.endings)
FitsAt layout view a at.Over = (hand_of view ≡ empty) × (view.owed.losses ≡ []) × HasFailed view a.who a.failed

-- the processor holds the page with its frame, and in the end nothing; a name more of the frame has room for its reference
pub record Fits (layout : Layout) (view : View) (a : Abandon) : Type 0 where
  pub on_turn : IsOnTurn view a.who
  pub sound : IsSound layout
  pub page : a.page.0 < length layout.pages
  pub frame : a.frame.0 < layout.frames
  pub place : a.failed.at.page ≡ a.page
  pub some : 2 ≤ a.count
  pub room : a.count ≤ length layout.trans + 2
  pub at : FitsAt layout view a a.at

-- the task, as the laws of tasks read it
abbrev pub task : Member Abandon
task = record {
  who = λ a. a.who;
  plan = plan;
  put = put;
  bare = bare;
  shows = λ a found got. Shows a;
  next = λ layout a found got after result. (after ≡ next a) × (result ≡ Moved);
  fits = Fits;
  class = class;
  cost = λ a words. cost a;
  aborts = λ a. false;
  claims = λ a. None;
}
