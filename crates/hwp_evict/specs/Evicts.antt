-- A page, or a part of it, that leaves its frame: the task's states, its steps and what they come to.
use Rattle.std.specs.Prelude.{◌≡◌, ◌⊎◌, ℕ, ◌+◌, ◌<◌, ◌≤◌, ◌==◌, Bool, true, false, cond, List, [], ◌∷◌, ◌++◌, Option, Some, None, is_none, length, drop, MatchBool}
use Rattle.std.specs.FinSet as set
use Rattle.std.specs.Ordering.{nat_cmp}
use Rattle.hwp_core.specs.hwp_geom.declared.Frame.{Frame}
use Rattle.hwp_core.specs.hwp_geom.declared.Layout.{Layout}
use Rattle.hwp_core.specs.hwp_geom.declared.Page.{Page}
use Rattle.hwp_core.specs.hwp_geom.declared.Who.{Who}
use Rattle.hwp_core.specs.hwp_geom.Layout.{IsSound}
use Rattle.hwp_core.specs.hwp_page.declared.At.{At}
use Rattle.hwp_core.specs.hwp_page.declared.What.{What}
use Rattle.hwp_core.specs.hwp_page.History.{BodyValue, IsReplay}
use Rattle.hwp_core.specs.hwp_page.Step.{Allowed, after}
use Rattle.hwp_core.specs.hwp_words.Stops.{is_stopped}
use Rattle.hwp_core.specs.hwp_words.declared.Pte.TheVariants as ptes
use Rattle.hwp_core.specs.hwp_core_rule.declared.InHand.{InHand}
use Rattle.hwp_core.specs.hwp_core_rule.declared.Log.{Log}
use Rattle.hwp_core.specs.hwp_core_rule.declared.Made.{Made}
use Rattle.hwp_core.specs.hwp_core_rule.declared.SharedWord.TheVariants as places
use Rattle.hwp_core.specs.hwp_core_rule.declared.Step.{Step}
use Rattle.hwp_core.specs.hwp_core_rule.declared.Step.TheVariants as steps
use Rattle.hwp_core.specs.hwp_core_rule.declared.View.{View}
use Rattle.hwp_core.specs.hwp_core_rule.Logs.{log_of, state_of}
use Rattle.hwp_core.specs.hwp_core_rule.Views.{body_of, more_of}
use Rattle.hwp_core.specs.hwp_core_rule.Words.{Words}
use Rattle.hwp_core.specs.hwp_core_rule.parts.Entries.{HasSeen}
use Rattle.hwp_core.specs.hwp_core_rule.declared.Turn.{Turn}
use Rattle.hwp_core.specs.hwp_core_rule.declared.Turn.TheVariants.{Moved, Answered}
use Rattle.hwp_core.specs.hwp_core_rule.Calls.{IsOnTurn}
use Rattle.hwp_core.specs.hwp_core_rule.Hands.{hand_of, empty, body_in}
use Rattle.hwp_core.specs.hwp_core_rule.Known.{HasMadeNoneBeside, SawLog}
use Rattle.hwp_core.specs.hwp_core_rule.Turns.{Member}
use Rattle.hwp_core.specs.hwp_core_rule.Ranks.{pass}
use Rattle.hwp_core.specs.declared.give_up.GiveUp.{GiveUp}
use Rattle.hwp_core.specs.declared.hold.Hold.{Hold}
use Rattle.hwp_core.specs.declared.hold.HoldAt.{HoldAt}
use Rattle.hwp_core.specs.declared.hold.HoldAt.TheVariants as hold_at
use Rattle.hwp_core.specs.declared.unhold.Unhold.{Unhold}
use Rattle.hwp_core.specs.GiveUps as give_ups
use Rattle.hwp_core.specs.Holds as holds
use Rattle.hwp_core.specs.Holds.{HoldsPage, held}
use Rattle.hwp_core.specs.Unholds as unholds
use Rattle.hwp_core.specs.declared.clear.Clear.{Clear}
use Rattle.hwp_evict.specs.declared.evict.Evict.{Evict}
use Rattle.hwp_evict.specs.declared.evict.EvictAnswer.{EvictAnswer}
use Rattle.hwp_evict.specs.declared.evict.EvictAnswer.TheVariants as answers
use Rattle.hwp_evict.specs.declared.evict.EvictAt.{EvictAt}
use Rattle.hwp_evict.specs.declared.evict.EvictAt.TheVariants as at
use Rattle.hwp_evict.specs.declared.evict.Eviction.{Eviction}
use Rattle.hwp_evict.specs.declared.evict.Eviction.TheVariants as evictions
use Rattle.hwp_evict.specs.declared.evict.Refusal.{Refusal}
use Rattle.hwp_evict.specs.declared.evict.Refusal.TheVariants as refusals
use Rattle.hwp_core.specs.declared.vacate.Vacate.{Vacate}
use Rattle.hwp_evict.specs.Evictions.{entry_of, copies, absence, IsOfKind, Passes, Bars, SawRefusal, IsCaused}
use Rattle.hwp_core.specs.Clears as clears
use Rattle.hwp_core.specs.Vacates as vacates

abbrev pub begin : Who → Page → Eviction → Evict
begin who page what = record { who = who; page = page; what = what; at = at.LoadStop }

abbrev pub plan_at : EvictAt → Option Step
plan_at at.LoadStop = Some (steps.Load places.Stop)
plan_at (at.Hold h) = holds.plan h
plan_at (at.LoadBad frame body) = Some (steps.Load (places.Bad frame))
plan_at (at.SetPte slot frame body done) = Some (steps.SetPte slot ptes.Empty)
plan_at (at.Clear c body done) = clears.plan c
plan_at (at.Vacate v done) = vacates.plan v
plan_at (at.Unhold u answer) = unholds.plan u
plan_at (at.GiveUp g) = give_ups.plan g
plan_at (at.Over answer) = None

abbrev pub plan : Evict → Option Step
plan e = plan_at e.at

abbrev pub put_at : EvictAt → Option BodyValue
put_at (at.Vacate v done) = vacates.put v
put_at (at.Unhold u answer) = unholds.put u
put_at (at.GiveUp g) = give_ups.put g
put_at _ = None

abbrev pub put : Evict → Option BodyValue
put e = put_at e.at

abbrev pub bare_at : EvictAt → EvictAt
bare_at (at.Vacate v done) = at.Vacate (vacates.bare v) done
bare_at (at.Unhold u answer) = at.Unhold (unholds.bare u) answer
bare_at (at.GiveUp g) = at.GiveUp (give_ups.bare g)
bare_at at.LoadStop = at.LoadStop
bare_at (at.Hold h) = at.Hold h
bare_at (at.LoadBad frame body) = at.LoadBad frame body
bare_at (at.SetPte slot frame body done) = at.SetPte slot frame body done
bare_at (at.Clear c body done) = at.Clear c body done
bare_at (at.Over answer) = at.Over answer

abbrev pub bare : Evict → Evict
bare e = record e { at = bare_at e.at }

abbrev pub answer_at : EvictAt → Option EvictAnswer
answer_at (at.Over answer) = Some answer
answer_at _ = None

abbrev pub answer : Evict → Option EvictAnswer
answer e = answer_at e.at

abbrev pub after_stop : Who → Page → ℕ → EvictAt
after_stop who page word = cond (is_stopped word) (at.Over answers.Stopped) (at.Hold (holds.begin who page))

-- the number of entries that the page has
abbrev pub place : Page → BodyValue → At
place page body = record { page = page; entry = length body.log }

-- the command is refused, and lets the page go
abbrev pub refused : Who → Page → Option Frame → BodyValue → Refusal → EvictAt
refused who page frame body refusal = at.Unhold (unholds.begin who page frame 1 body) (answers.Refused refusal (place page body))

-- the translation is written, and the page is let go with the reference that it had
abbrev pub freed : Who → Page → Frame → BodyValue → At → EvictAt
freed who page frame body done = at.Unhold (unholds.begin who page (Some frame) 2 body) (answers.Done done)

-- memory for the entry is refused, and the command gives up
abbrev pub given_up : Who → Page → Frame → BodyValue → EvictAt
given_up who page frame body = at.GiveUp (give_ups.with_page who page (Some frame) 1 body)

-- the body with the command's entry, and room for so many more
abbrev pub with_entry : Who → What → BodyValue → ℕ → BodyValue
with_entry who what body spare = record body { state = after body.state what; log = body.log ++ (record { who = who; what = what }) ∷ []; spare = spare }

-- once all translations are written, the page leaves its frame
abbrev pub after_clear : Who → Page → Clear → BodyValue → At → EvictAt
after_clear who page c body done = cond (is_none c.next) (at.Vacate (vacates.begin who page c.frame c.count body) done) (at.Clear c body done)

-- the translations that were in use are being written
pub record StartsClearing (who : Who) (page : Page) (frame : Frame) (maps : set.FinSet nat_cmp) (body : BodyValue) (done : At) (x : EvictAt) : Type 0 where
  pub clear : Clear
  pub begun : clears.IsBegun who page frame maps false clear
  pub next_is : x ≡ after_clear who page clear body done

-- what the command does once its entry is made, where these translations were in use before
abbrev pub GoesOut : Who → Page → Eviction → Frame → set.FinSet nat_cmp → BodyValue → At → EvictAt → Type 0
GoesOut who page (evictions.Free slot) frame maps body done x = x ≡ at.SetPte slot frame body done
GoesOut who page evictions.Sync frame maps body done x = x ≡ at.Unhold (unholds.begin who page (Some frame) 1 body) (answers.Done done)
GoesOut who page evictions.Drop frame maps body done x = x ≡ at.Vacate (vacates.begin who page frame 2 body) done
GoesOut who page evictions.Out frame maps body done x = StartsClearing who page frame maps body done x

-- the entry is made, or memory for it is refused
pub record IsEntered (who : Who) (page : Page) (what : Eviction) (frame : Frame) (body : BodyValue) (x : EvictAt) : Type 0 where
  pub now : BodyValue
  pub made : now ≡ with_entry who (entry_of what) body now.spare
  pub next_is : GoesOut who page what frame body.state.maps now (place page body) x

abbrev pub Enters : Who → Page → Eviction → Frame → BodyValue → EvictAt → Type 0
Enters who page what frame body x = (x ≡ given_up who page frame body) ⊎ IsEntered who page what frame body x

-- the page is held in the frame, and lets the command go on, or doesn't
abbrev pub GoesOn : Who → Page → Eviction → Frame → BodyValue → EvictAt → Type 0
GoesOn who page what frame body x = MatchBool (copies what) (x ≡ at.LoadBad frame body) (Enters who page what frame body x)

pub record IsBarred (who : Who) (page : Page) (what : Eviction) (frame : Frame) (body : BodyValue) (x : EvictAt) : Type 0 where
  pub refusal : Refusal
  pub bars : Bars what body.state refusal
  pub next_is : x ≡ refused who page (Some frame) body refusal

abbrev pub AfterHeld : Who → Page → Eviction → Option Frame → BodyValue → EvictAt → Type 0
AfterHeld who page what None body x = x ≡ refused who page None body (absence what)
AfterHeld who page what (Some frame) body x = (Passes what body.state × GoesOn who page what frame body x) ⊎ IsBarred who page what frame body x

abbrev pub AfterHoldAt : Who → Page → Eviction → Hold → HoldAt → EvictAt → Type 0
AfterHoldAt who page what h (hold_at.Held frame body) x = AfterHeld who page what frame body x
AfterHoldAt who page what h _ x = x ≡ at.Hold h

abbrev pub AfterHold : Who → Page → Eviction → Hold → EvictAt → Type 0
AfterHold who page what h x = AfterHoldAt who page what h h.at x

-- the bad lines are read
abbrev pub AfterBad : Who → Page → Eviction → Frame → BodyValue → ℕ → EvictAt → Type 0
AfterBad who page what frame body word x =
    MatchBool (word == 0) (Enters who page what frame body x) (x ≡ refused who page (Some frame) body (refusals.BadLines (record { 0 = word })))

-- a translation more is written
pub record IsCleared (who : Who) (page : Page) (c : Clear) (body : BodyValue) (done : At) (x : EvictAt) : Type 0 where
  pub after : Clear
  pub follows : clears.Follows c after
  pub next_is : x ≡ after_clear who page after body done

abbrev pub after_vacate : Vacate → At → EvictAt
after_vacate v done = cond (is_none (vacates.plan v)) (at.Over (answers.Done done)) (at.Vacate v done)

abbrev pub after_unhold : Unhold → EvictAnswer → EvictAt
after_unhold u answer = cond (is_none (unholds.plan u)) (at.Over answer) (at.Unhold u answer)

-- the turn that ended the command answers it
abbrev pub turn_after : EvictAt → Turn
turn_after (at.Over answer) = Answered
turn_after _ = Moved

abbrev pub FollowsAt : Who → Page → Eviction → EvictAt → ℕ → Option BodyValue → EvictAt → Turn → Type 0
FollowsAt who page what at.LoadStop found got x turn = (x ≡ after_stop who page found) × (turn ≡ turn_after (after_stop who page found))
FollowsAt who page what (at.Hold h) found got x turn = AfterHold who page what (holds.next h found got) x × (turn ≡ holds.turn h found)
FollowsAt who page what (at.LoadBad frame body) found got x turn = AfterBad who page what frame body found x × (turn ≡ Moved)
FollowsAt who page what (at.SetPte slot frame body done) found got x turn = (x ≡ freed who page frame body done) × (turn ≡ Moved)
FollowsAt who page what (at.Clear c body done) found got x turn = IsCleared who page c body done x × (turn ≡ Moved)
FollowsAt who page what (at.Vacate v done) found got x turn = (x ≡ after_vacate (vacates.next v found) done) × (turn ≡ turn_after (after_vacate (vacates.next v found) done))
FollowsAt who page what (at.Unhold u answer) found got x turn = (x ≡ after_unhold (unholds.next u found) answer) × (turn ≡ turn_after (after_unhold (unholds.next u found) answer))
FollowsAt who page what (at.GiveUp g) found got x turn = (x ≡ at.GiveUp (give_ups.next g found)) × (turn ≡ give_ups.turn g)
FollowsAt who page what (at.Over answer) found got x turn = (x ≡ at.Over answer) × (turn ≡ Moved)

abbrev pub Follows : Evict → ℕ → Option BodyValue → Evict → Turn → Type 0
Follows e found got after turn = (after ≡ record e { at = after.at }) × FollowsAt e.who e.page e.what e.at found got after.at turn

-- the body's state allows the entry, where the command goes on
abbrev pub CanMakeEntry : Eviction → BodyValue → Type 0
CanMakeEntry what body = Allowed body.layout body.page body.state (entry_of what)

abbrev pub CanEnter : Eviction → Option Frame → BodyValue → Type 0
CanEnter what None body = Unit {0}
CanEnter what (Some frame) body = Passes what body.state → CanMakeEntry what body

abbrev pub CanEnterHeld : Eviction → HoldAt → Type 0
CanEnterHeld what (hold_at.Held frame body) = CanEnter what frame body
CanEnterHeld what _ = Unit {0}

abbrev pub ShowsAt : Eviction → EvictAt → ℕ → Option BodyValue → Type 0
ShowsAt what (at.Hold h) found got = holds.Shows h found got × CanEnterHeld what (holds.next h found got).at
ShowsAt what (at.LoadBad frame body) found got = CanMakeEntry what body
ShowsAt what (at.Clear c body done) found got = clears.Shows c
ShowsAt what _ found got = Unit {0}

abbrev pub Shows : Evict → ℕ → Option BodyValue → Type 0
Shows e found got = ShowsAt e.what e.at found got

-- the page leaves its frame, or is let go
abbrev pub IsLeaving : EvictAt → Type 0
IsLeaving (at.Clear c body done) = Unit {0}
IsLeaving (at.Vacate v done) = Unit {0}
IsLeaving (at.Unhold u answer) = Unit {0}
IsLeaving _ = ⊥

-- ---- what is held and known, where the command had made the entries of `base` before

-- the page is being held
pub record IsHolding (base : List Made) (layout : Layout) (view : View) (who : Who) (page : Page) (h : Hold) : Type 0 where
  pub hold : holds.Fits layout view h
  pub own : h.who ≡ who
  pub page_is : h.page ≡ page
  pub under_way : is_none (holds.plan h) ≡ false
  pub made_none : HasMadeNoneBeside base view who

-- the page is held, lets the command go on, and the command saw its history
pub record IsReading (base : List Made) (layout : Layout) (view : View) (who : Who) (page : Page) (what : Eviction) (frame : Frame) (body : BodyValue) : Type 0 where
  pub copying : copies what ≡ true
  pub passes : Passes what body.state
  pub page_held : HoldsPage layout view page (Some frame) body
  pub few : page_held.seen ≤ length view.sights
  pub saw : SawLog view who (log_of body)
  pub made_none : HasMadeNoneBeside base view who

-- the body is one of this history with the command's entry, which the page's state allowed in a frame
pub record HasEntry (layout : Layout) (who : Who) (page : Page) (what : Eviction) (log : Log) (done : At) (body : BodyValue) : Type 0 where
  pub page_is : log.page ≡ page
  pub log_is : log_of body ≡ record { page = log.page; entries = log.entries ++ (record { who = who; what = entry_of what }) ∷ [] }
  pub layout_is : body.layout ≡ layout
  pub cached : (state_of layout log).cached ≡ true
  pub replay : IsReplay layout page log.entries (state_of layout log)
  pub allowed : Allowed layout page (state_of layout log) (entry_of what)
  pub done_is : done ≡ record { page = page; entry = length log.entries }

-- the page is held, its body has the entry, and its translation isn't written yet
pub record IsFreeing (base : List Made) (layout : Layout) (view : View) (who : Who) (page : Page) (what : Eviction) (frame : Frame) (body : BodyValue) (done : At) : Type 0 where
  pub log : Log
  pub seen : ℕ
  pub handled : Bool
  pub poisoned : Bool
  pub hand_is : hand_of view ≡ held layout page (Some frame) log seen handled poisoned
  pub entry : HasEntry layout who page what log done body
  pub sound : IsSound layout
  pub within : frame.0 < layout.frames
  pub made_none : HasMadeNoneBeside base view who

-- what the body that goes home has more than when it was taken: the one entry, or nothing
abbrev pub Comes : Layout → View → Who → Page → Eviction → EvictAnswer → InHand → BodyValue → Type 0
Comes layout view who page what answers.Stopped taken body = ⊥
Comes layout view who page what (answers.Done done) taken body =
    (more_of taken (log_of body) ≡ (record { who = who; what = entry_of what }) ∷ []) × (done ≡ record { page = page; entry = length taken.log.entries })
Comes layout view who page what (answers.Refused refusal left) taken body = (more_of taken (log_of body) ≡ []) × SawRefusal layout view who page what refusal left

-- the command has made no entry more yet, and with the body it makes what it answers
pub record IsAhead (base : List Made) (layout : Layout) (view : View) (who : Who) (page : Page) (what : Eviction) (answer : EvictAnswer) (body : BodyValue) : Type 0 where
  pub taken : InHand
  pub there : body_of body.page view ≡ Some taken
  pub page_is : body.page ≡ page
  pub made_none : HasMadeNoneBeside base view who
  pub comes : Comes layout view who page what answer taken body

-- the answer has its cause, or has it once the body is home
abbrev pub KnowsPut : List Made → Layout → View → Who → Page → Eviction → EvictAnswer → Option BodyValue → Type 0
KnowsPut base layout view who page what answer None = IsCaused base layout view who page what answer
KnowsPut base layout view who page what answer (Some body) = IsAhead base layout view who page what answer body

pub record IsLettingGo (base : List Made) (layout : Layout) (view : View) (who : Who) (page : Page) (what : Eviction) (u : Unhold) (answer : EvictAnswer) : Type 0 where
  pub unhold : unholds.Fits layout view u
  pub own : u.who ≡ who
  pub under_way : is_none (unholds.plan u) ≡ false
  pub knows : KnowsPut base layout view who page what answer (unholds.put u)

pub record IsVacating (base : List Made) (layout : Layout) (view : View) (who : Who) (page : Page) (what : Eviction) (v : Vacate) (done : At) : Type 0 where
  pub vacate : vacates.Fits layout view v
  pub own : v.who ≡ who
  pub under_way : is_none (vacates.plan v) ≡ false
  pub body : BodyValue
  pub body_is : v.body ≡ Some body
  pub ahead : IsAhead base layout view who page what (answers.Done done) body

-- the page is held, its body has the entry, and its translations are being written
pub record IsClearingOut (base : List Made) (layout : Layout) (view : View) (who : Who) (page : Page) (what : Eviction) (c : Clear) (body : BodyValue) (done : At) : Type 0 where
  pub clear : clears.Fits layout view c
  pub own : c.who ≡ who
  pub page_is : c.page ≡ page
  pub under_way : is_none (clears.plan c) ≡ false
  pub empties : c.barred ≡ false
  pub out : what ≡ evictions.Out
  pub log : Log
  pub seen : ℕ
  pub bodies_are : view.bodies ≡ body_in (Some c.frame) log seen ∷ []
  pub entry : HasEntry layout who page what log done body
  pub few : seen ≤ length view.sights
  pub saw : HasSeen (drop seen view.sights) who (Some c.frame) (entry_of what)
  pub made_none : HasMadeNoneBeside base view who

-- the body that goes home has no entry more than when it was taken
pub record HasNoMore (view : View) (body : BodyValue) : Type 0 where
  pub taken : InHand
  pub there : body_of body.page view ≡ Some taken
  pub none_more : more_of taken (log_of body) ≡ []

abbrev pub PutsNoMore : View → Option BodyValue → Type 0
PutsNoMore view None = Unit {0}
PutsNoMore view (Some body) = HasNoMore view body

-- the command makes no entry more
pub record IsGivingUp (layout : Layout) (view : View) (who : Who) (g : GiveUp) : Type 0 where
  pub give_up : give_ups.Fits layout view g
  pub own : g.who ≡ who
  pub puts : PutsNoMore view (give_ups.put g)

abbrev pub FitsAt : List Made → Layout → View → Who → Page → Eviction → EvictAt → Type 0
FitsAt base layout view who page what at.LoadStop = (hand_of view ≡ empty) × HasMadeNoneBeside base view who
FitsAt base layout view who page what (at.Hold h) = IsHolding base layout view who page h
FitsAt base layout view who page what (at.LoadBad frame body) = IsReading base layout view who page what frame body
FitsAt base layout view who page what (at.SetPte slot frame body done) = (what ≡ evictions.Free slot) × IsFreeing base layout view who page what frame body done
FitsAt base layout view who page what (at.Clear c body done) = IsClearingOut base layout view who page what c body done
FitsAt base layout view who page what (at.Vacate v done) = IsVacating base layout view who page what v done
FitsAt base layout view who page what (at.Unhold u answer) = IsLettingGo base layout view who page what u answer
FitsAt base layout view who page what (at.GiveUp g) = IsGivingUp layout view who g
FitsAt base layout view who page what (at.Over answer) = (hand_of view ≡ empty) × IsCaused base layout view who page what answer

-- the processor holds nothing at first and in the end, and knows why the command answers so
pub record FitsFrom (base : List Made) (layout : Layout) (view : View) (e : Evict) : Type 0 where
  pub on_turn : IsOnTurn view e.who
  pub page : e.page.0 < length layout.pages
  pub kind : IsOfKind layout e.page e.what
  pub at : FitsAt base layout view e.who e.page e.what e.at

-- whatever the command had made before
abbrev pub Fits : Layout → View → Evict → Type 0
Fits layout view e = (base : List Made) × FitsFrom base layout view e

-- that of what is being done
abbrev pub class_at : EvictAt → ℕ
class_at at.LoadStop = 4
class_at (at.Hold h) = holds.class h
class_at (at.LoadBad frame body) = 1
class_at (at.SetPte slot frame body done) = 1
class_at (at.Clear c body done) = 1
class_at (at.Vacate v done) = vacates.class v
class_at (at.Unhold u answer) = unholds.class u
class_at (at.GiveUp g) = give_ups.class g
class_at (at.Over answer) = 4

abbrev pub class : Evict → ℕ
class e = class_at e.at

-- the turns that are left, where no word changes
abbrev pub cost_at : EvictAt → Words → ℕ
cost_at at.LoadStop words = pass + 8
cost_at (at.Hold h) words = holds.cost h words + (pass + 2)
cost_at (at.LoadBad frame body) words = pass + 1
cost_at (at.SetPte slot frame body done) words = 6
cost_at (at.Clear c body done) words = clears.cost c words + 8
cost_at (at.Vacate v done) words = vacates.cost v words
cost_at (at.Unhold u answer) words = unholds.cost u words
cost_at (at.GiveUp g) words = give_ups.cost g words
cost_at (at.Over answer) words = 0

abbrev pub cost : Evict → Words → ℕ
cost e words = cost_at e.at words

-- the task, as the laws of tasks read it
abbrev pub task : Member Evict
task = record {
  who = λ e. e.who;
  plan = plan;
  put = put;
  bare = bare;
  shows = Shows;
  next = λ layout e found got after result. Follows e found got after result;
  fits = Fits;
  class = class;
  cost = cost;
  aborts = λ e. false;
  claims = λ e. None;
}
