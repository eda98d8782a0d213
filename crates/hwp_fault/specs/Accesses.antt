-- An access: the task's states, its steps and what they come to.
use Rattle.std.specs.Prelude.{◌≡◌, ℕ, ◌+◌, ◌-◌, ◌^◌, ◌<◌, ◌≤◌, ◌==◌, Bool, true, false, not, bit_and, cond, List, [], ◌∷◌, ◌++◌, Option, Some, None, is_some, is_none, length, slice_get, slice_index, IsBitSet, IsTrue}
use Rattle.std.specs.FinSet as set
use Rattle.hwp_page.specs.hwp_geom.declared.Frame.{Frame}
use Rattle.hwp_page.specs.hwp_geom.declared.Layout.{Layout}
use Rattle.hwp_page.specs.hwp_geom.declared.Mask.{Mask}
use Rattle.hwp_page.specs.hwp_geom.declared.Page.{Page}
use Rattle.hwp_page.specs.hwp_geom.declared.ThreadDecl.{ThreadDecl}
use Rattle.hwp_page.specs.hwp_geom.declared.TransDecl.{TransDecl}
use Rattle.hwp_page.specs.hwp_geom.declared.VSlot.{VSlot}
use Rattle.hwp_page.specs.hwp_geom.Limits.{line_limit}
use Rattle.hwp_page.specs.declared.At.{At}
use Rattle.hwp_page.specs.declared.Entry.{Entry}
use Rattle.hwp_page.specs.declared.Met.TheVariants.{Word}
use Rattle.hwp_page.specs.declared.What.{What}
use Rattle.hwp_page.specs.declared.What.TheVariants as entries
use Rattle.hwp_page.specs.History.{BodyValue, IsReplay}
use Rattle.hwp_page.specs.Refusals.{IsAway}
use Rattle.hwp_page.specs.Step.{after}
use Rattle.hwp_core.specs.hwp_words.Frames.{is_locked}
use Rattle.hwp_core.specs.hwp_words.Names.{page_named}
use Rattle.hwp_core.specs.hwp_words.Stops.{is_stopped}
use Rattle.hwp_core.specs.hwp_core_rule.declared.InHand.{InHand}
use Rattle.hwp_core.specs.hwp_core_rule.declared.Made.{Made}
use Rattle.hwp_core.specs.hwp_core_rule.declared.SharedWord.TheVariants as places
use Rattle.hwp_core.specs.hwp_core_rule.declared.Step.{Step}
use Rattle.hwp_core.specs.hwp_core_rule.declared.Step.TheVariants as steps
use Rattle.hwp_core.specs.hwp_core_rule.declared.View.{View}
use Rattle.hwp_core.specs.hwp_core_rule.Logs.{log_of}
use Rattle.hwp_core.specs.hwp_core_rule.Views.{body_of, frame_in, more_of}
use Rattle.hwp_core.specs.hwp_core_rule.Words.{Words}
use Rattle.hwp_core.specs.hwp_core_rule.declared.Turn.{Turn}
use Rattle.hwp_core.specs.hwp_core_rule.declared.Turn.TheVariants.{Moved, Waits}
use Rattle.hwp_core.specs.hwp_core_rule.Calls.{IsOnTurn}
use Rattle.hwp_core.specs.hwp_core_rule.Hands.{hand_of, empty, body_in}
use Rattle.hwp_core.specs.hwp_core_rule.Ranks.{stale}
use Rattle.hwp_core.specs.hwp_core_rule.Known.{Saw, SawStop, HasMadeNoneBeside, Precedes, HasOnlyBeside, HasMadeBeside}
use Rattle.hwp_core.specs.hwp_core_rule.Pages.{SawState}
use Rattle.hwp_core.specs.hwp_core_rule.Turns.{Member}
use Rattle.hwp_core.specs.declared.GiveUp.{GiveUp}
use Rattle.hwp_core.specs.declared.give_up.GiveUpAt.{GiveUpAt}
use Rattle.hwp_core.specs.declared.give_up.GiveUpAt.TheVariants as give_up_at
use Rattle.hwp_core.specs.declared.Pin.{Pin}
use Rattle.hwp_core.specs.declared.pin.PinAt.{PinAt}
use Rattle.hwp_core.specs.declared.pin.PinAt.TheVariants as pin_at
use Rattle.hwp_core.specs.declared.Unlock.{Unlock}
use Rattle.hwp_core.specs.declared.unlock.UnlockAt.{UnlockAt}
use Rattle.hwp_core.specs.declared.unlock.UnlockAt.TheVariants as unlock_at
use Rattle.hwp_core.specs.GiveUps as give_ups
use Rattle.hwp_core.specs.Holds.{one_ref}
use Rattle.hwp_core.specs.Pins as pins
use Rattle.hwp_core.specs.Unlocks as unlocks
use Rattle.hwp_fault.specs.declared.access.Access.{Access}
use Rattle.hwp_fault.specs.declared.access.Request.{Request}
use Rattle.hwp_fault.specs.declared.access.AccessAt.{AccessAt}
use Rattle.hwp_fault.specs.declared.access.AccessAt.TheVariants as at
use Rattle.hwp_fault.specs.declared.access.AccessAnswer.{AccessAnswer}
use Rattle.hwp_fault.specs.declared.access.AccessAnswer.TheVariants as answers
use Rattle.hwp_fault.specs.declared.touch.AccessKind.{AccessKind}
use Rattle.hwp_fault.specs.declared.touch.AccessKind.TheVariants as kinds
use Rattle.hwp_fault.specs.declared.fault.Fault.{Fault}
use Rattle.hwp_fault.specs.declared.fault.FaultAnswer.{FaultAnswer}
use Rattle.hwp_fault.specs.declared.fault.FaultAnswer.TheVariants as fault_answers
use Rattle.hwp_fault.specs.declared.touch.Touch.{Touch}
use Rattle.hwp_fault.specs.Faults as faults
use Rattle.hwp_fault.specs.Touches.{refusal}

abbrev pub begin : Request → Access
begin a = record { request = a; at = at.LoadStop }

-- the same request, from the word of the process on
abbrev pub again : Request → Access
again a = record { request = a; at = at.LoadProcess }

abbrev pub plan_at : Request → AccessAt → Option Step
plan_at a at.LoadStop = Some (steps.Load places.Stop)
plan_at a at.LoadProcess = Some (steps.Load (places.Process a.process))
plan_at a at.LoadTranslation = Some (steps.Load (places.Trans a.slot))
plan_at a (at.Pin p) = pins.plan p
plan_at a (at.LockFrame frame) = Some (steps.LockFrame frame)
plan_at a (at.LoadAgain frame body) = Some (steps.Load (places.Trans a.slot))
plan_at a (at.LoadBad frame body) = Some (steps.Load (places.Bad frame))
plan_at a (at.Unlock u then) = unlocks.plan u
plan_at a (at.Fault f) = faults.plan f
plan_at a (at.GiveUp g) = give_ups.plan g
plan_at a (at.Over answer) = None

abbrev pub plan : Access → Option Step
plan a = plan_at a.request a.at

abbrev pub put_at : AccessAt → Option BodyValue
put_at (at.Unlock u then) = unlocks.put u
put_at (at.Fault f) = faults.put f
put_at (at.GiveUp g) = give_ups.put g
put_at _ = None

abbrev pub put : Access → Option BodyValue
put a = put_at a.at

abbrev pub bare_at : AccessAt → AccessAt
bare_at (at.Unlock u then) = at.Unlock (unlocks.bare u) then
bare_at (at.Fault f) = at.Fault (faults.bare f)
bare_at (at.GiveUp g) = at.GiveUp (give_ups.bare g)
bare_at x = x

abbrev pub bare : Access → Access
bare a = record a { at = bare_at a.at }

-- what follows the stop word
abbrev pub at_start : ℕ → AccessAt
at_start found = cond (is_stopped found) (at.Over answers.Stopped) at.LoadProcess

-- what follows the word of the process: 0, or the page whose history has the signal that ended it
abbrev pub after_process : Option Page → AccessAt
after_process None = at.LoadTranslation
after_process (Some page) = at.Over (answers.Gone page)

abbrev pub at_process : ℕ → AccessAt
at_process found = after_process (page_named found)

abbrev pub touch_of : Request → Touch
touch_of a = record { thread = a.thread; process = a.process; line = a.line; kind = a.kind }

-- what follows a translation that leads to a frame, or to none
abbrev pub leading : Request → Option Frame → AccessAt
leading a (Some frame) = at.Pin (pins.begin a.who frame)
leading a None = at.Fault (faults.begin a.who a.page a.slot (touch_of a))

abbrev pub at_translation : Request → ℕ → AccessAt
at_translation a found = leading a (frame_in found)

-- once the pin has its reference, the frame's lock is next; a frame that is gone is no longer the translation's
abbrev pub pinned_at : Pin → PinAt → AccessAt
pinned_at p (pin_at.Held word) = at.LockFrame p.frame
pinned_at p (pin_at.Gone word) = at.LoadTranslation
pinned_at p _ = at.Pin p

abbrev pub pinned : Pin → AccessAt
pinned p = pinned_at p p.at

-- once the frame is let go, the command has its answer, or reads the translation anew
abbrev pub ended : Option AccessAnswer → AccessAt
ended None = at.LoadTranslation
ended (Some answer) = at.Over answer

abbrev pub unlocked : Unlock → Option AccessAnswer → AccessAt
unlocked u then = cond (is_none (unlocks.plan u)) (ended then) (at.Unlock u then)

-- once the page was brought in, or another has done so, the translation is read anew
abbrev pub after_fault_at : Fault → Option FaultAnswer → AccessAt
after_fault_at f None = at.Fault f
after_fault_at f (Some fault_answers.Again) = at.LoadTranslation
after_fault_at f (Some (fault_answers.NoFrame place)) = at.Over answers.NoFrame
after_fault_at f (Some (fault_answers.Sigbus place)) = at.Over (answers.Sigbus place)

abbrev pub after_fault : Fault → AccessAt
after_fault f = after_fault_at f (faults.answer f)

-- the word names this frame
abbrev pub is_frame : Frame → Option Frame → Bool
is_frame frame None = false
is_frame frame (Some named) = named.0 == frame.0

abbrev pub leads_to : Frame → ℕ → Bool
leads_to frame word = is_frame frame (frame_in word)

-- the line is one of the bad ones
abbrev pub is_bad : ℕ → ℕ → Bool
is_bad mask line = not (bit_and mask (2 ^ line) == 0)

-- the entry of an access that met a word, and these bad lines
abbrev pub what_by : AccessKind → VSlot → ℕ → Mask → ℕ → What
what_by kinds.Load slot line mask word = entries.Load slot line (Word mask word)
what_by (kinds.Store stored) slot line mask word = entries.Store slot line (Word mask stored)

abbrev pub what_of : Request → ℕ → ℕ → What
what_of a mask word = what_by a.kind a.slot a.line (record { 0 = mask }) word

-- the entry of one whose line is among these bad ones
abbrev pub check_of : Request → ℕ → What
check_of a mask = entries.Mce a.slot a.line (record { 0 = mask })

-- the entry of an access: whether its line is bad decides
abbrev pub met_by : Bool → Request → ℕ → ℕ → What
met_by true a mask word = check_of a mask
met_by false a mask word = what_of a mask word

abbrev pub met_of : Request → ℕ → ℕ → What
met_of a mask word = met_by (is_bad mask a.line) a mask word

-- an entry of the access
abbrev pub entry_of : Request → What → Entry
entry_of a what = record { who = a.who; what = what }

-- the body with it
abbrev pub entered : Request → What → BodyValue → BodyValue
entered a what body = record body { state = after body.state what; log = body.log ++ entry_of a what ∷ []; spare = body.spare - 1 }

-- the word at the line, and what the access answers that got it, or stored another
abbrev pub word_in : Request → BodyValue → ℕ
word_in a body = slice_index body.state.val a.line

abbrev pub reply_by : AccessKind → ℕ → At → AccessAnswer
reply_by kinds.Load word place = answers.Value word place
reply_by (kinds.Store stored) word place = answers.Stored place

-- the place of the next entry
abbrev pub place_in : Request → BodyValue → At
place_in a body = record { page = a.page; entry = length body.log }

abbrev pub word_reply : Request → BodyValue → AccessAnswer
word_reply a body = reply_by a.kind (word_in a body) (place_in a body)

-- the answer of one that met a bad line in this frame
abbrev pub checked : Request → Frame → BodyValue → AccessAnswer
checked a frame body = answers.Checked frame (place_in a body)

-- what an access that met these bad lines comes to: the body with its entry, and its answer
abbrev pub reached : Request → ℕ → BodyValue → BodyValue
reached a mask body = entered a (met_of a mask (word_in a body)) body

abbrev pub reply_where : Bool → Request → Frame → BodyValue → AccessAnswer
reply_where true a frame body = checked a frame body
reply_where false a frame body = word_reply a body

abbrev pub reply : Request → Frame → ℕ → BodyValue → AccessAnswer
reply a frame mask body = reply_where (is_bad mask a.line) a frame body

-- the translation is in use, and there is room for the entry
pub record Reaches (a : Request) (body : BodyValue) : Type 0 where
  pub used : IsTrue (set.contains body.state.maps a.slot.0)
  pub spare : 0 < body.spare

-- room was made for the entry; or, where it was refused, the command is given up
abbrev pub Prepares : Request → Frame → BodyValue → AccessAt → Type 0
Prepares a frame body (at.LoadBad of ready) = (of ≡ frame) × (ready ≡ record body { spare = ready.spare }) × (1 ≤ ready.spare)
Prepares a frame body (at.GiveUp g) = g ≡ give_ups.with_frame a.who frame body
Prepares a frame body _ = ⊥

-- what follows the translation's word under the frame's lock
abbrev pub LooksOf : Bool → Request → Frame → Option BodyValue → AccessAt → Type 0
LooksOf true a frame None next = ⊥
LooksOf true a frame (Some body) next = Prepares a frame body next
LooksOf false a frame body next = next ≡ at.Unlock (unlocks.begin a.who frame body) None

abbrev pub LooksAgain : Request → Frame → Option BodyValue → ℕ → AccessAt → Type 0
LooksAgain a frame body found next = LooksOf (leads_to frame found) a frame body next

-- what follows a step of the fault
pub record FaultStepped (layout : Layout) (f : Fault) (found : ℕ) (got : Option BodyValue) (next : AccessAt) (turn : Turn) : Type 0 where
  pub after : Fault
  pub follows : faults.Follows layout f found got after turn
  pub next_is : next ≡ after_fault after

-- what follows the frame's lock: the translation is read again under it, or it is waited for
abbrev pub LocksFrame : Frame → ℕ → Option BodyValue → AccessAt → Turn → Type 0
LocksFrame frame found got next turn = (next ≡ cond (is_locked found) (at.LockFrame frame) (at.LoadAgain frame got)) × (turn ≡ cond (is_locked found) (Waits found) Moved)

-- the entry is made, and the frame let go
abbrev pub let_go : Request → Frame → BodyValue → ℕ → AccessAt
let_go a frame body found = at.Unlock (unlocks.begin a.who frame (Some (reached a found body))) (Some (reply a frame found body))

-- what follows a step of a part, which is over or goes on
abbrev pub followed : AccessAt → AccessAt
followed (at.Pin p) = pinned p
followed (at.Unlock u then) = unlocked u then
followed (at.Fault f) = after_fault f
followed x = x

-- the frame's bad lines come next, and the entry can be made
abbrev pub LoadsBad : Request → AccessAt → Type 0
LoadsBad a (at.LoadBad frame body) = Reaches a body
LoadsBad a _ = ⊥

-- what follows them
abbrev pub let_go_at : Request → AccessAt → ℕ → AccessAt
let_go_at a (at.LoadBad frame body) found = let_go a frame body found
let_go_at a x found = x

abbrev pub NextAt : Layout → Request → AccessAt → ℕ → Option BodyValue → AccessAt → Turn → Type 0
NextAt layout a at.LoadStop found got next turn = (next ≡ at_start found) × (turn ≡ Moved)
NextAt layout a at.LoadProcess found got next turn = (next ≡ at_process found) × (turn ≡ Moved)
NextAt layout a at.LoadTranslation found got next turn = (next ≡ at_translation a found) × (turn ≡ Moved)
NextAt layout a (at.Pin p) found got next turn = (next ≡ pinned (pins.next p found)) × (turn ≡ pins.turn p found)
NextAt layout a (at.LockFrame frame) found got next turn = LocksFrame frame found got next turn
NextAt layout a (at.LoadAgain frame body) found got next turn = LooksAgain a frame body found next × (turn ≡ Moved)
NextAt layout a (at.LoadBad frame body) found got next turn = (next ≡ let_go a frame body found) × (turn ≡ Moved)
NextAt layout a (at.Unlock u then) found got next turn = (next ≡ unlocked (unlocks.next u found) then) × (turn ≡ Moved)
NextAt layout a (at.Fault f) found got next turn = FaultStepped layout f found got next turn
NextAt layout a (at.GiveUp g) found got next turn = (next ≡ at.GiveUp (give_ups.next g found)) × (turn ≡ give_ups.turn g)
NextAt layout a (at.Over answer) found got next turn = (next ≡ at.Over answer) × (turn ≡ Moved)

pub record Next (layout : Layout) (a : Access) (found : ℕ) (got : Option BodyValue) (after : Access) (turn : Turn) : Type 0 where
  pub rest : after ≡ record a { at = after.at }
  pub at : NextAt layout a.request a.at found got after.at turn

-- the frame's body is there where the translation leads to it, and the entry can be made where it is to be
abbrev pub ShowsAt : Request → AccessAt → ℕ → Option BodyValue → Type 0
ShowsAt a (at.LoadAgain frame body) found got = leads_to frame found ≡ true → is_some body ≡ true
ShowsAt a (at.LoadBad frame body) found got = Reaches a body
ShowsAt a (at.Fault f) found got = faults.Shows f found got
ShowsAt a _ found got = Unit {0}

abbrev pub Shows : Access → ℕ → Option BodyValue → Type 0
Shows a found got = ShowsAt a.request a.at found got

abbrev pub answer_at : AccessAt → Option AccessAnswer
answer_at (at.Over answer) = Some answer
answer_at _ = None

abbrev pub answer : Access → Option AccessAnswer
answer a = answer_at a.at

-- ---- what the command knows and has made

-- so far it has made only entries that may stand before its answer, and the process goes on
pub record GoesOn (base : List Made) (a : Request) (view : View) : Type 0 where
  pub alive : Saw view a.who (places.Process a.process) 0
  pub only : HasOnlyBeside base (Precedes a.page a.slot a.line) view a.who

-- the entry of a load of this word, or of a store, is the last one that the command made
pub record HasReached (base : List Made) (a : Request) (view : View) (word place : ℕ) : Type 0 where
  pub alive : Saw view a.who (places.Process a.process) 0
  pub mask : ℕ
  pub good : ¬ IsBitSet mask a.line
  pub made : HasMadeBeside base (Precedes a.page a.slot a.line) view a.who a.page place (what_of a mask word)

-- the entry that the line was bad in this frame, as a step of the command showed, is the last one that the command made
pub record HasChecked (base : List Made) (layout : Layout) (a : Request) (view : View) (frame : Frame) (place : ℕ) : Type 0 where
  pub alive : Saw view a.who (places.Process a.process) 0
  pub mask : ℕ
  pub bad : IsBitSet mask a.line
  pub saw : Saw view a.who (places.Bad frame) mask
  pub within : frame.0 < layout.frames
  pub made : HasMadeBeside base (Precedes a.page a.slot a.line) view a.who a.page place (check_of a mask)

-- the entry that the access was answered by SIGBUS is the last one that the command made
pub record HasRefusal (base : List Made) (a : Request) (view : View) (place : ℕ) : Type 0 where
  pub alive : Saw view a.who (places.Process a.process) 0
  pub made : HasMadeBeside base (Precedes a.page a.slot a.line) view a.who a.page place (refusal a.slot (touch_of a))

-- each answer rests on what the command was shown, and on the entry that it made
abbrev pub Answered : List Made → Layout → View → Request → AccessAnswer → Type 0
Answered base layout view a (answers.Value word place) = (a.kind ≡ kinds.Load) × (place.page ≡ a.page) × HasReached base a view word place.entry
Answered base layout view a (answers.Stored place) = (stored : ℕ) × (a.kind ≡ kinds.Store stored) × (place.page ≡ a.page) × HasReached base a view stored place.entry
Answered base layout view a (answers.Checked frame place) = (place.page ≡ a.page) × HasChecked base layout a view frame place.entry
Answered base layout view a (answers.Sigbus place) = (place.page ≡ a.page) × HasRefusal base a view place.entry
Answered base layout view a answers.NoFrame = GoesOn base a view × Saw view a.who places.Available 0 × (place : ℕ) × SawState layout view a.who a.page place IsAway
Answered base layout view a (answers.Gone page) = Saw view a.who (places.Process a.process) (page.0 + 1) × HasOnlyBeside base (Precedes a.page a.slot a.line) view a.who
Answered base layout view a answers.Stopped = SawStop view a.who × HasMadeNoneBeside base view a.who

-- ---- what is held

-- the frame's lock, one reference to it, and the body that was in it, as it was taken
pub record HasTaken (layout : Layout) (view : View) (frame : Frame) (body : BodyValue) : Type 0 where
  pub seen : ℕ
  pub handled : Bool
  pub poisoned : Bool
  pub hand_is : hand_of view ≡ unlocks.holding frame body.page (body_in (Some frame) (log_of body) seen) handled poisoned
  pub earlier : seen ≤ length view.sights
  pub layout_is : body.layout ≡ layout
  pub replay : IsReplay layout body.page body.log body.state
  pub within : frame.0 < layout.frames

abbrev pub HasLocked : Layout → View → Frame → Option BodyValue → Type 0
HasLocked layout view frame None = unlocks.HoldsEmptyFrame layout view frame
HasLocked layout view frame (Some body) = HasTaken layout view frame body

-- the translation leads to the frame, in which the page's body was, and there is room for the entry
pub record IsReady (base : List Made) (layout : Layout) (view : View) (a : Request) (frame : Frame) (body : BodyValue) : Type 0 where
  pub taken : HasTaken layout view frame body
  pub page_is : body.page ≡ a.page
  pub used : IsTrue (set.contains body.state.maps a.slot.0)
  pub spare : 1 ≤ body.spare
  pub on : GoesOn base a view

-- the body goes home with the entry; once it is home, the command has made it
pub record IsReached (base : List Made) (layout : Layout) (view : View) (a : Request) (frame : Frame) (body : BodyValue) (answer : AccessAnswer) : Type 0 where
  pub before : BodyValue
  pub mask : ℕ
  pub taken : HasTaken layout view frame before
  pub page_is : before.page ≡ a.page
  pub saw : Saw view a.who (places.Bad frame) mask
  pub body_is : body ≡ reached a mask before
  pub answer_is : answer ≡ reply a frame mask before
  pub on : GoesOn base a view

abbrev pub HasToList : List Made → Layout → View → Request → Frame → Option BodyValue → AccessAnswer → Type 0
HasToList base layout view a frame None answer = ⊥
HasToList base layout view a frame (Some body) answer = IsReached base layout view a frame body answer

-- a frame that is let go for another look holds what it held when it was taken
abbrev pub HoldsStill : Layout → View → UnlockAt → Type 0
HoldsStill layout view (unlock_at.UnlockFrame frame body) = HasLocked layout view frame body
HoldsStill layout view _ = Unit {0}

abbrev pub HoldsReached : List Made → Layout → View → Request → UnlockAt → AccessAnswer → Type 0
HoldsReached base layout view a (unlock_at.UnlockFrame frame body) answer = HasToList base layout view a frame body answer
HoldsReached base layout view a _ answer = Answered base layout view a answer

abbrev pub FitsThen : List Made → Layout → View → Request → UnlockAt → Option AccessAnswer → Type 0
FitsThen base layout view a x None = GoesOn base a view × HoldsStill layout view x
FitsThen base layout view a x (Some answer) = HoldsReached base layout view a x answer

-- ---- what fits

-- nothing is held, and no entry is made
pub record IsBegun (base : List Made) (view : View) (a : Request) : Type 0 where
  pub hand_is : hand_of view ≡ empty
  pub none : HasMadeNoneBeside base view a.who

-- nothing is held, and no other entry is made but such as may stand before the answer
pub record IsAnew (base : List Made) (view : View) (a : Request) : Type 0 where
  pub hand_is : hand_of view ≡ empty
  pub only : HasOnlyBeside base (Precedes a.page a.slot a.line) view a.who

-- nothing is held, and the process goes on
pub record IsLooking (base : List Made) (view : View) (a : Request) : Type 0 where
  pub hand_is : hand_of view ≡ empty
  pub on : GoesOn base a view

-- a reference to the frame is on its way
pub record IsPinning (base : List Made) (layout : Layout) (view : View) (a : Request) (p : Pin) : Type 0 where
  pub hand_is : hand_of view ≡ empty
  pub pin : pins.Fits layout view p
  pub own : p.who ≡ a.who
  pub under_way : is_none (pins.plan p) ≡ false
  pub on : GoesOn base a view

-- it is taken
pub record IsPinned (base : List Made) (layout : Layout) (view : View) (a : Request) (frame : Frame) : Type 0 where
  pub hand_is : hand_of view ≡ record empty { refs = one_ref frame }
  pub within : frame.0 < layout.frames
  pub on : GoesOn base a view

-- and the frame is locked
pub record IsLocked (base : List Made) (layout : Layout) (view : View) (a : Request) (frame : Frame) (body : Option BodyValue) : Type 0 where
  pub locked : HasLocked layout view frame body
  pub on : GoesOn base a view

-- the frame is let go
pub record IsUnlocking (base : List Made) (layout : Layout) (view : View) (a : Request) (u : Unlock) (then : Option AccessAnswer) : Type 0 where
  pub unlock : unlocks.Fits layout view u
  pub own : u.who ≡ a.who
  pub under_way : is_none (unlocks.plan u) ≡ false
  pub goal : FitsThen base layout view a u.at then

-- the page is being brought in
pub record IsFaulting (base : List Made) (layout : Layout) (view : View) (a : Request) (f : Fault) : Type 0 where
  pub fault : faults.FitsFrom base layout view f
  pub own : f.who ≡ a.who
  pub page_is : f.page ≡ a.page
  pub slot_is : f.slot ≡ a.slot
  pub touch_is : f.touch ≡ touch_of a
  pub unanswered : faults.answer f ≡ None
  pub alive : Saw view a.who (places.Process a.process) 0

-- a frame alone is let go, and no page
abbrev pub IsOfFrame : GiveUpAt → Type 0
IsOfFrame (give_up_at.Unhold u) = ⊥
IsOfFrame _ = Unit {0}

-- the command is being given up, and a body that goes home has no entry more than it was taken with
pub record IsGivingUp (layout : Layout) (view : View) (a : Request) (g : GiveUp) : Type 0 where
  pub give_up : give_ups.Fits layout view g
  pub own : g.who ≡ a.who
  pub of_frame : IsOfFrame g.at
  pub still : (body : BodyValue) → give_ups.put g ≡ Some body → (taken : InHand) × (body_of body.page view ≡ Some taken) × (more_of taken (log_of body) ≡ [])

-- nothing is held any more, and the answer has its cause
pub record IsAnswered (base : List Made) (layout : Layout) (view : View) (a : Request) (answer : AccessAnswer) : Type 0 where
  pub hand_is : hand_of view ≡ empty
  pub answered : Answered base layout view a answer

abbrev pub FitsAt : List Made → Layout → View → Request → AccessAt → Type 0
FitsAt base layout view a at.LoadStop = IsBegun base view a
FitsAt base layout view a at.LoadProcess = IsAnew base view a
FitsAt base layout view a at.LoadTranslation = IsLooking base view a
FitsAt base layout view a (at.Pin p) = IsPinning base layout view a p
FitsAt base layout view a (at.LockFrame frame) = IsPinned base layout view a frame
FitsAt base layout view a (at.LoadAgain frame body) = IsLocked base layout view a frame body
FitsAt base layout view a (at.LoadBad frame body) = IsReady base layout view a frame body
FitsAt base layout view a (at.Unlock u then) = IsUnlocking base layout view a u then
FitsAt base layout view a (at.Fault f) = IsFaulting base layout view a f
FitsAt base layout view a (at.GiveUp g) = IsGivingUp layout view a g
FitsAt base layout view a (at.Over answer) = IsAnswered base layout view a answer

-- the names are of the layout: the thread and the translation are of the process, and the translation is of the page
pub record IsDeclared (layout : Layout) (a : Request) : Type 0 where
  pub decl : TransDecl
  pub declared : slice_get layout.trans a.slot.0 ≡ Some decl
  pub page_is : decl.page ≡ a.page
  pub process_is : decl.process ≡ a.process
  pub page : a.page.0 < length layout.pages
  pub process : a.process.0 < layout.procs
  pub thread : ThreadDecl
  pub thread_declared : slice_get layout.threads a.thread.0 ≡ Some thread
  pub thread_of : thread.process ≡ a.process
  pub line : a.line < line_limit

-- the processor holds nothing at first and in the end, and the command had made these entries before the access
pub record FitsFrom (base : List Made) (layout : Layout) (view : View) (a : Access) : Type 0 where
  pub on_turn : IsOnTurn view a.request.who
  pub names : IsDeclared layout a.request
  pub at : FitsAt base layout view a.request a.at

-- whatever entries those are
abbrev pub Fits : Layout → View → Access → Type 0
Fits layout view a = (base : List Made) × FitsFrom base layout view a

-- ---- the rank

-- 1 while a frame is locked, in hand or reserved
abbrev pub class_at : AccessAt → ℕ
class_at (at.LoadAgain frame body) = 1
class_at (at.LoadBad frame body) = 1
class_at (at.Unlock u then) = unlocks.class u
class_at (at.Fault f) = faults.class f
class_at (at.GiveUp g) = give_ups.class g
class_at _ = 4

abbrev pub class : Access → ℕ
class a = class_at a.at

-- the translation's word may have changed since it was seen: it may lead to another frame, or to none
abbrev pub moved_away : VSlot → Frame → Words → ℕ
moved_away slot frame words = stale (is_some (frame_in (slice_index words.trans slot.0))) + stale (leads_to frame (slice_index words.trans slot.0))

-- the turns of another look, where there is one
abbrev pub then_cost : VSlot → Option AccessAnswer → Words → ℕ
then_cost slot None words = faults.again slot words
then_cost slot (Some answer) words = 0

-- the turns that are left
abbrev pub cost_at : VSlot → AccessAt → Words → ℕ
cost_at slot at.LoadStop words = faults.again slot words + 2
cost_at slot at.LoadProcess words = faults.again slot words + 1
cost_at slot at.LoadTranslation words = faults.again slot words
cost_at slot (at.Pin p) words = pins.cost p words + (12 + moved_away slot p.frame words)
cost_at slot (at.LockFrame frame) words = 12 + moved_away slot frame words
cost_at slot (at.LoadAgain frame body) words = 11 + moved_away slot frame words
cost_at slot (at.LoadBad frame body) words = 10
cost_at slot (at.Unlock u then) words = unlocks.cost u words + then_cost slot then words
cost_at slot (at.Fault f) words = faults.cost f words
cost_at slot (at.GiveUp g) words = give_ups.cost g words
cost_at slot (at.Over answer) words = 0

abbrev pub cost : Access → Words → ℕ
cost a words = cost_at a.request.slot a.at words

-- the task, as the laws of tasks read it
abbrev pub task : Member Access
task = record {
  who = λ a. a.request.who;
  plan = plan;
  put = put;
  bare = bare;
  shows = Shows;
  next = Next;
  fits = Fits;
  class = class;
  cost = cost;
  aborts = λ a. false;
  claims = λ a. None;
}
