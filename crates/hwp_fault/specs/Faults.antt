-- A page brought in, and a translation of it into use, or the access refused: the task's states, its steps and what they
-- come to.
use Rattle.std.specs.Prelude.{◌≡◌, ◌⊎◌, ℕ, ◌+◌, ◌<◌, ◌≤◌, Bool, true, false, cond, List, [], ◌∷◌, Option, Some, None, is_some, is_none, length, slice_index}
use Rattle.std.specs.FinSet as set
use Rattle.hwp_page.specs.hwp_geom.declared.Frame.{Frame}
use Rattle.hwp_page.specs.hwp_geom.declared.Layout.{Layout}
use Rattle.hwp_page.specs.hwp_geom.declared.Page.{Page}
use Rattle.hwp_page.specs.hwp_geom.declared.VSlot.{VSlot}
use Rattle.hwp_page.specs.hwp_geom.declared.Who.{Who}
use Rattle.hwp_page.specs.declared.At.{At}
use Rattle.hwp_page.specs.declared.PageState.{PageState}
use Rattle.hwp_page.specs.Endings.{ends}
use Rattle.hwp_page.specs.History.{BodyValue}
use Rattle.hwp_page.specs.Refusals.{IsAway}
use Rattle.hwp_page.specs.Step.{IsOf, IsRefused}
use Rattle.hwp_core.specs.hwp_words.declared.Pte.{Pte}
use Rattle.hwp_core.specs.hwp_words.declared.Pte.TheVariants as ptes
use Rattle.hwp_core.specs.hwp_words.Translations.{pte_reading}
use Rattle.hwp_core.specs.hwp_core_rule.declared.InHand.{InHand}
use Rattle.hwp_core.specs.hwp_core_rule.declared.Made.{Made}
use Rattle.hwp_core.specs.hwp_core_rule.declared.SharedWord.TheVariants as places
use Rattle.hwp_core.specs.hwp_core_rule.declared.Step.{Step}
use Rattle.hwp_core.specs.hwp_core_rule.declared.Step.TheVariants as steps
use Rattle.hwp_core.specs.hwp_core_rule.declared.View.{View}
use Rattle.hwp_core.specs.hwp_core_rule.Lists.{EachMember}
use Rattle.hwp_core.specs.hwp_core_rule.Logs.{log_of}
use Rattle.hwp_core.specs.hwp_core_rule.Views.{body_of, frame_in, more_of}
use Rattle.hwp_core.specs.hwp_core_rule.Words.{Words}
use Rattle.hwp_core.specs.hwp_core_rule.declared.Turn.{Turn}
use Rattle.hwp_core.specs.hwp_core_rule.declared.Turn.TheVariants.{Moved}
use Rattle.hwp_core.specs.hwp_core_rule.Calls.{IsOnTurn}
use Rattle.hwp_core.specs.hwp_core_rule.Hands.{hand_of, empty}
use Rattle.hwp_core.specs.hwp_core_rule.Ranks.{stale, stale_weight}
use Rattle.hwp_core.specs.hwp_core_rule.Known.{Saw, SawLog, HasOnlyBeside, HasMadeBeside, Precedes}
use Rattle.hwp_core.specs.hwp_core_rule.Pages.{SawState}
use Rattle.hwp_core.specs.hwp_core_rule.Turns.{Member}
use Rattle.hwp_evict.specs.declared.Fill.{Fill}
use Rattle.hwp_evict.specs.declared.fill.FillAt.{FillAt}
use Rattle.hwp_evict.specs.declared.fill.FillAt.TheVariants as fill_at
use Rattle.hwp_core.specs.declared.GiveUp.{GiveUp}
use Rattle.hwp_core.specs.declared.Hold.{Hold}
use Rattle.hwp_core.specs.declared.hold.HoldAt.{HoldAt}
use Rattle.hwp_core.specs.declared.hold.HoldAt.TheVariants as hold_at
use Rattle.hwp_core.specs.declared.Unhold.{Unhold}
use Rattle.hwp_evict.specs.Fills as fills
use Rattle.hwp_core.specs.GiveUps as give_ups
use Rattle.hwp_core.specs.Holds as holds
use Rattle.hwp_core.specs.Holds.{HoldsPage}
use Rattle.hwp_core.specs.Unholds as unholds
use Rattle.hwp_fault.specs.declared.fault.Fault.{Fault}
use Rattle.hwp_fault.specs.declared.fault.FaultAt.{FaultAt}
use Rattle.hwp_fault.specs.declared.fault.FaultAt.TheVariants as at
use Rattle.hwp_fault.specs.declared.fault.FaultAnswer.{FaultAnswer}
use Rattle.hwp_fault.specs.declared.fault.FaultAnswer.TheVariants as answers
use Rattle.hwp_fault.specs.declared.map_in.MapIn.{MapIn}
use Rattle.hwp_fault.specs.declared.map_in.MapInAt.{MapInAt}
use Rattle.hwp_fault.specs.declared.map_in.MapInAt.TheVariants as map_in_at
use Rattle.hwp_fault.specs.declared.touch.Touch.{Touch}
use Rattle.hwp_fault.specs.MapIns as map_ins
use Rattle.hwp_fault.specs.MapIns.{IsBringing}
use Rattle.hwp_fault.specs.Touches.{IsTouch, as_snapshot, refusal, refusal_entry, refused}

abbrev pub begin : Who → Page → VSlot → Touch → Fault
begin who page slot touch = record { who = who; page = page; slot = slot; touch = touch; at = at.Hold (holds.begin who page) }

abbrev pub plan_at : Page → VSlot → Touch → FaultAt → Option Step
plan_at page slot touch (at.Hold h) = holds.plan h
plan_at page slot touch (at.LoadPte frame body) = Some (steps.Load (places.Trans slot))
plan_at page slot touch (at.Kill frame body place) = Some (steps.Kill touch.process page (as_snapshot body))
plan_at page slot touch (at.Fill f) = fills.plan f
plan_at page slot touch (at.MapIn m) = map_ins.plan m
plan_at page slot touch (at.Unhold u answer) = unholds.plan u
plan_at page slot touch (at.GiveUp g) = give_ups.plan g
plan_at page slot touch (at.Over answer) = None

abbrev pub plan : Fault → Option Step
plan f = plan_at f.page f.slot f.touch f.at

abbrev pub put_at : FaultAt → Option BodyValue
put_at (at.Unhold u answer) = unholds.put u
put_at (at.GiveUp g) = give_ups.put g
put_at _ = None

abbrev pub put : Fault → Option BodyValue
put f = put_at f.at

abbrev pub bare_at : FaultAt → FaultAt
bare_at (at.Hold h) = at.Hold h
bare_at (at.LoadPte frame body) = at.LoadPte frame body
bare_at (at.Kill frame body place) = at.Kill frame body place
bare_at (at.Fill f) = at.Fill f
bare_at (at.MapIn m) = at.MapIn m
bare_at (at.Unhold u answer) = at.Unhold (unholds.bare u) answer
bare_at (at.GiveUp g) = at.GiveUp (give_ups.bare g)
bare_at (at.Over answer) = at.Over answer

abbrev pub bare : Fault → Fault
bare f = record f { at = bare_at f.at }

abbrev pub answer_at : FaultAt → Option FaultAnswer
answer_at (at.Over answer) = answer
answer_at _ = None

abbrev pub answer : Fault → Option FaultAnswer
answer f = answer_at f.at

-- the page is let go, and this is to be the answer
abbrev pub let_go : Who → Page → Option Frame → BodyValue → FaultAnswer → FaultAt
let_go who page frame body answer = at.Unhold (unholds.begin who page frame 1 body) answer

-- the page is brought into a frame, or else the translation into use
abbrev pub bring : Who → Page → VSlot → Option Frame → BodyValue → FaultAt
bring who page slot None body = at.Fill (fills.begin who page body)
bring who page slot (Some frame) body = at.MapIn (map_ins.begin who page slot frame body)

-- where room for so many entries was made; or it was refused, and the command is given up
abbrev pub with_room : Who → Page → VSlot → Option Frame → BodyValue → Option ℕ → FaultAt
with_room who page slot frame body None = at.GiveUp (give_ups.with_page who page frame 1 body)
with_room who page slot frame body (Some spare) = bring who page slot frame (record body { spare = spare })

-- once the page is held, the translation's word is loaded
abbrev pub after_hold_at : Hold → HoldAt → FaultAt
after_hold_at h (hold_at.Held frame body) = at.LoadPte frame body
after_hold_at h _ = at.Hold h

abbrev pub after_hold : Hold → FaultAt
after_hold h = after_hold_at h h.at

-- once the entry that the access is refused is appended, the process is ended where its thread has no handler
abbrev pub after_refusal : Layout → Who → Page → Touch → Option Frame → BodyValue → At → FaultAt
after_refusal layout who page touch frame body place =
    cond (ends layout touch.process touch.thread) (at.Kill frame body place) (let_go who page frame body (answers.Sigbus place))

-- the access is refused, where room for so many entries was made; or that was refused, and the command is given up
abbrev pub refuse : Layout → Who → Page → VSlot → Touch → Option Frame → BodyValue → Option ℕ → FaultAt
refuse layout who page slot touch frame body None = at.GiveUp (give_ups.with_page who page frame 1 body)
refuse layout who page slot touch frame body (Some spare) =
    after_refusal layout who page touch frame (refused who slot touch (record body { spare = spare })) (record { page = page; entry = length body.log })

-- where the translation leads to a frame there is nothing to do; a poison entry refuses the access, and so does a page whose
-- content is lost
abbrev pub after_pte : Layout → Who → Page → VSlot → Touch → Option Frame → BodyValue → Pte → Option ℕ → FaultAt
after_pte layout who page slot touch frame body ptes.Empty spare =
    cond body.state.lost (refuse layout who page slot touch frame body spare) (with_room who page slot frame body spare)
after_pte layout who page slot touch frame body (ptes.At other) spare = let_go who page frame body answers.Again
after_pte layout who page slot touch frame body ptes.Poison spare = refuse layout who page slot touch frame body spare

abbrev pub is_refused : Pte → PageState → Bool
is_refused ptes.Empty s = s.lost
is_refused (ptes.At other) s = false
is_refused ptes.Poison s = true

-- there is room for the entry that the access is refused, and the state allows it
pub record CanRefuse (slot : VSlot) (touch : Touch) (body : BodyValue) : Type 0 where
  pub spare : 0 < body.spare
  pub allowed : IsRefused body.layout body.page body.state touch.thread slot

-- once the page is in a frame, the translation comes into use; or no frame was available
abbrev pub after_fill_at : Who → Page → VSlot → Fill → FillAt → Option ℕ → FaultAt
after_fill_at who page slot f (fill_at.Over (Some frame)) spare = with_room who page slot (Some frame) f.body spare
after_fill_at who page slot f (fill_at.Over None) spare = let_go who page None f.body (answers.NoFrame (record { page = page; entry = length f.body.log }))
after_fill_at who page slot f _ spare = at.Fill f

abbrev pub after_fill : Who → Page → VSlot → Fill → Option ℕ → FaultAt
after_fill who page slot f spare = after_fill_at who page slot f f.at spare

-- once the translation is in use, the page is let go
abbrev pub after_map_in_at : Who → Page → MapIn → MapInAt → FaultAt
after_map_in_at who page m map_in_at.Over = let_go who page (Some m.frame) m.body answers.Again
after_map_in_at who page m _ = at.MapIn m

abbrev pub after_map_in : Who → Page → MapIn → FaultAt
after_map_in who page m = after_map_in_at who page m m.at

abbrev pub after_unhold : Unhold → FaultAnswer → FaultAt
after_unhold u answer = cond (is_none (unholds.plan u)) (at.Over (Some answer)) (at.Unhold u answer)

abbrev pub after_give_up : GiveUp → FaultAt
after_give_up g = cond (is_none (give_ups.plan g)) (at.Over None) (at.GiveUp g)

-- what follows a step, where room for so many entries was made, or was refused, if it was asked for
abbrev pub next_at : Layout → Who → Page → VSlot → Touch → FaultAt → ℕ → Option BodyValue → Option ℕ → FaultAt
next_at layout who page slot touch (at.Hold h) found got spare = after_hold (holds.next h found got)
next_at layout who page slot touch (at.LoadPte frame body) found got spare = after_pte layout who page slot touch frame body (pte_reading found) spare
next_at layout who page slot touch (at.Kill frame body place) found got spare = let_go who page frame body (answers.Sigbus place)
next_at layout who page slot touch (at.Fill f) found got spare = after_fill who page slot (fills.next layout f found) spare
next_at layout who page slot touch (at.MapIn m) found got spare = after_map_in who page (map_ins.next m found)
next_at layout who page slot touch (at.Unhold u answer) found got spare = after_unhold (unholds.next u found) answer
next_at layout who page slot touch (at.GiveUp g) found got spare = after_give_up (give_ups.next g found)
next_at layout who page slot touch (at.Over answer) found got spare = at.Over answer

abbrev pub next : Layout → Fault → ℕ → Option BodyValue → Option ℕ → Fault
next layout f found got spare = record f { at = next_at layout f.who f.page f.slot f.touch f.at found got spare }

abbrev pub turn_at : FaultAt → ℕ → Turn
turn_at (at.Hold h) found = holds.turn h found
turn_at (at.Fill f) found = fills.turn f found
turn_at (at.MapIn m) found = map_ins.turn m found
turn_at (at.GiveUp g) found = give_ups.turn g
turn_at _ found = Moved

abbrev pub turn : Fault → ℕ → Turn
turn f found = turn_at f.at found

-- room for at least one entry was made, or none
abbrev pub IsRoom : Option ℕ → Type 0
IsRoom None = Unit {0}
IsRoom (Some spare) = 1 ≤ spare

-- a state that follows from the room that was made, or refused
pub record Roomed (state : Option ℕ → FaultAt) (result : FaultAt) : Type 0 where
  pub spare : Option ℕ
  pub room : IsRoom spare
  pub is : result ≡ state spare

abbrev pub IsRoomed : Who → Page → VSlot → Option Frame → BodyValue → FaultAt → Type 0
IsRoomed who page slot frame body result = Roomed (with_room who page slot frame body) result

abbrev pub IsLoaded : Layout → Who → Page → VSlot → Touch → Option Frame → BodyValue → Pte → FaultAt → Type 0
IsLoaded layout who page slot touch frame body pte result = Roomed (after_pte layout who page slot touch frame body pte) result

abbrev pub IsRefusal : Layout → Who → Page → VSlot → Touch → Option Frame → BodyValue → FaultAt → Type 0
IsRefusal layout who page slot touch frame body result = Roomed (refuse layout who page slot touch frame body) result

abbrev pub IsFilled : Who → Page → VSlot → Fill → FaultAt → Type 0
IsFilled who page slot f result = Roomed (after_fill who page slot f) result

-- which state follows a step, and which turn it was
abbrev pub FollowsAt : Layout → Who → Page → VSlot → Touch → FaultAt → ℕ → Option BodyValue → FaultAt → Turn → Type 0
FollowsAt layout who page slot touch (at.Hold h) found got x turn = (x ≡ after_hold (holds.next h found got)) × (turn ≡ holds.turn h found)
FollowsAt layout who page slot touch (at.LoadPte frame body) found got x turn = IsLoaded layout who page slot touch frame body (pte_reading found) x × (turn ≡ Moved)
FollowsAt layout who page slot touch (at.Kill frame body place) found got x turn = (x ≡ let_go who page frame body (answers.Sigbus place)) × (turn ≡ Moved)
FollowsAt layout who page slot touch (at.Fill f) found got x turn = IsFilled who page slot (fills.next layout f found) x × (turn ≡ fills.turn f found)
FollowsAt layout who page slot touch (at.MapIn m) found got x turn = (x ≡ after_map_in who page (map_ins.next m found)) × (turn ≡ map_ins.turn m found)
FollowsAt layout who page slot touch (at.Unhold u answer) found got x turn = (x ≡ after_unhold (unholds.next u found) answer) × (turn ≡ Moved)
FollowsAt layout who page slot touch (at.GiveUp g) found got x turn = (x ≡ after_give_up (give_ups.next g found)) × (turn ≡ give_ups.turn g)
FollowsAt layout who page slot touch (at.Over answer) found got x turn = (x ≡ at.Over answer) × (turn ≡ Moved)

-- what follows a state from which the page's body goes on: its part is over, or its step is made and loaded this word
abbrev pub GoesOn : Layout → Who → Page → VSlot → Touch → FaultAt → ℕ → FaultAt → Type 0
GoesOn layout who page slot touch (at.Hold h) found x = x ≡ after_hold h
GoesOn layout who page slot touch (at.LoadPte frame body) found x = IsLoaded layout who page slot touch frame body (pte_reading found) x
GoesOn layout who page slot touch (at.Kill frame body place) found x = x ≡ let_go who page frame body (answers.Sigbus place)
GoesOn layout who page slot touch (at.Fill f) found x = IsFilled who page slot f x
GoesOn layout who page slot touch (at.MapIn m) found x = x ≡ after_map_in who page m
GoesOn layout who page slot touch (at.Unhold u answer) found x = x ≡ at.Unhold u answer
GoesOn layout who page slot touch (at.GiveUp g) found x = x ≡ at.GiveUp g
GoesOn layout who page slot touch (at.Over answer) found x = x ≡ at.Over answer

-- where the word that was loaded refuses the access, the entry of it is allowed
abbrev pub CanGoOn : VSlot → Touch → FaultAt → ℕ → Type 0
CanGoOn slot touch (at.LoadPte frame body) found = is_refused (pte_reading found) body.state ≡ true → IsRefused body.layout body.page body.state touch.thread slot
CanGoOn slot touch _ found = Unit {0}

-- which task follows a step, and which turn it was
pub record Follows (layout : Layout) (f : Fault) (found : ℕ) (got : Option BodyValue) (after : Fault) (result : Turn) : Type 0 where
  pub spare : Option ℕ
  pub room : IsRoom spare
  pub after_is : after ≡ next layout f found got spare
  pub turn_is : result ≡ turn f found

-- where the word that was loaded refuses the access, the entry of it is allowed
abbrev pub ShowsAt : VSlot → Touch → FaultAt → ℕ → Option BodyValue → Type 0
ShowsAt slot touch (at.Hold h) found got = holds.Shows h found got
ShowsAt slot touch (at.LoadPte frame body) found got = is_refused (pte_reading found) body.state ≡ true → IsRefused body.layout body.page body.state touch.thread slot
ShowsAt slot touch (at.Fill f) found got = fills.Shows f found got
ShowsAt slot touch (at.MapIn m) found got = map_ins.Shows m
ShowsAt slot touch _ found got = Unit {0}

abbrev pub Shows : Fault → ℕ → Option BodyValue → Type 0
Shows f found got = ShowsAt f.slot f.touch f.at found got

-- the body is the page's, and all entries that it has more than it was taken with bring the page in, or the translation into use
pub record AddsOnly (view : View) (page : Page) (slot : VSlot) (body : BodyValue) : Type 0 where
  pub of : body.page ≡ page
  pub only : EachMember (λ (b : InHand). EachMember (IsBringing slot) (more_of b (log_of body))) view.bodies

-- the translation is neither in use nor barred
abbrev pub IsFree : VSlot → PageState → Type 0
IsFree slot s = (set.contains s.maps slot.0 ≡ false) × (set.contains s.bar slot.0 ≡ false)

-- the page is being locked
pub record IsHolding (layout : Layout) (view : View) (who : Who) (page : Page) (h : Hold) : Type 0 where
  pub hold : holds.Fits layout view h
  pub own : h.who ≡ who
  pub of : h.page ≡ page
  pub under_way : is_none (holds.plan h) ≡ false

-- it is held, with the body that the command saw
pub record IsHeld (layout : Layout) (view : View) (who : Who) (page : Page) (frame : Option Frame) (body : BodyValue) : Type 0 where
  pub held : HoldsPage layout view page frame body
  pub saw : SawLog view who (log_of body)

-- it is being brought into a frame, and its body is still as the command saw it
pub record IsFilling (layout : Layout) (view : View) (who : Who) (page : Page) (slot : VSlot) (f : Fill) : Type 0 where
  pub fill : fills.Fits layout view f
  pub own : f.who ≡ who
  pub of : f.page ≡ page
  pub under_way : is_none (fills.plan f) ≡ false
  pub saw : SawLog view who (log_of f.body)
  pub free : IsFree slot f.body.state

-- the translation is being brought into use
pub record IsMapping (layout : Layout) (view : View) (who : Who) (page : Page) (slot : VSlot) (m : MapIn) : Type 0 where
  pub map_in : map_ins.Fits layout view m
  pub own : m.who ≡ who
  pub of : m.page ≡ page
  pub slot_is : m.slot ≡ slot
  pub under_way : is_none (map_ins.plan m) ≡ false

-- the access is refused, and its process is to be ended: the page is held, and its body has the entry more that it was taken
-- with
pub record IsEnding (layout : Layout) (view : View) (who : Who) (page : Page) (slot : VSlot) (touch : Touch) (frame : Option Frame) (body : BodyValue) (place : At) : Type 0 where
  pub before : BodyValue
  pub held : HoldsPage layout view page frame before
  pub allowed : IsRefused layout page before.state touch.thread slot
  pub body_is : body ≡ refused who slot touch before
  pub place_is : place ≡ record { page = page; entry = length before.log }
  pub ending : ends layout touch.process touch.thread ≡ true

-- what is answered is of the page; and the command saw why no frame is: none was available, and the page was in none after so many
-- entries
abbrev pub IsWhy : Layout → View → Who → Page → FaultAnswer → Type 0
IsWhy layout view who page answers.Again = Unit {0}
IsWhy layout view who page (answers.NoFrame place) = (place.page ≡ page) × Saw view who places.Available 0 × SawState layout view who page place.entry IsAway
IsWhy layout view who page (answers.Sigbus place) = place.page ≡ page

abbrev pub is_sigbus : FaultAnswer → Bool
is_sigbus answers.Again = false
is_sigbus (answers.NoFrame place) = false
is_sigbus (answers.Sigbus place) = true

-- the page is being let go
pub record IsLettingGo (layout : Layout) (view : View) (who : Who) (page : Page) (slot : VSlot) (u : Unhold) (answer : FaultAnswer) : Type 0 where
  pub unhold : unholds.Fits layout view u
  pub own : u.who ≡ who
  pub under_way : is_none (unholds.plan u) ≡ false
  pub adds : is_sigbus answer ≡ false → (body : BodyValue) → unholds.put u ≡ Some body → AddsOnly view page slot body
  pub why : IsWhy layout view who page answer

-- the command is being given up
pub record IsGivingUp (layout : Layout) (view : View) (who : Who) (page : Page) (slot : VSlot) (g : GiveUp) : Type 0 where
  pub give_up : give_ups.Fits layout view g
  pub own : g.who ≡ who
  pub under_way : is_none (give_ups.plan g) ≡ false
  pub adds : (body : BodyValue) → give_ups.put g ≡ Some body → AddsOnly view page slot body

abbrev pub FitsOver : Layout → View → Who → Page → Option FaultAnswer → Type 0
FitsOver layout view who page None = hand_of view ≡ empty
FitsOver layout view who page (Some answer) = (hand_of view ≡ empty) × IsWhy layout view who page answer

abbrev pub FitsAt : Layout → View → Who → Page → VSlot → Touch → FaultAt → Type 0
FitsAt layout view who page slot touch (at.Hold h) = IsHolding layout view who page h
FitsAt layout view who page slot touch (at.LoadPte frame body) = IsHeld layout view who page frame body
FitsAt layout view who page slot touch (at.Kill frame body place) = IsEnding layout view who page slot touch frame body place
FitsAt layout view who page slot touch (at.Fill f) = IsFilling layout view who page slot f
FitsAt layout view who page slot touch (at.MapIn m) = IsMapping layout view who page slot m
FitsAt layout view who page slot touch (at.Unhold u answer) = IsLettingGo layout view who page slot u answer
FitsAt layout view who page slot touch (at.GiveUp g) = IsGivingUp layout view who page slot g
FitsAt layout view who page slot touch (at.Over answer) = FitsOver layout view who page answer

-- the command has made no entries but those that may stand before its answer; and the body that goes home has that of the refusal
-- more
pub record HasToList (base : List Made) (view : View) (who : Who) (page : Page) (slot : VSlot) (touch : Touch) (put : Option BodyValue) (place : ℕ) : Type 0 where
  pub only : HasOnlyBeside base (Precedes page slot touch.line) view who
  pub body : BodyValue
  pub put_is : put ≡ Some body
  pub taken : InHand
  pub taken_is : body_of body.page view ≡ Some taken
  pub page_is : body.page ≡ page
  pub more : more_of taken (log_of body) ≡ refusal_entry who slot touch ∷ []
  pub place_is : length taken.log.entries ≡ place

-- the command has made the entry of the refusal, and a body that goes home has none more
pub record HasListed (base : List Made) (view : View) (who : Who) (page : Page) (slot : VSlot) (touch : Touch) (put : Option BodyValue) (place : ℕ) : Type 0 where
  pub made : HasMadeBeside base (Precedes page slot touch.line) view who page place (refusal slot touch)
  pub rest : (body : BodyValue) → put ≡ Some body → (taken : InHand) × (body_of body.page view ≡ Some taken) × (more_of taken (log_of body) ≡ [])

-- what the command has made: entries that may stand before its answer; and then, where the access was refused, the one that it was
abbrev pub MadeAt : List Made → View → Who → Page → VSlot → Touch → FaultAt → Type 0
MadeAt base view who page slot touch (at.Unhold u (answers.Sigbus place)) = HasToList base view who page slot touch (unholds.put u) place.entry ⊎ HasListed base view who page slot touch (unholds.put u) place.entry
MadeAt base view who page slot touch (at.Over (Some (answers.Sigbus place))) = HasMadeBeside base (Precedes page slot touch.line) view who page place.entry (refusal slot touch)
MadeAt base view who page slot touch _ = HasOnlyBeside base (Precedes page slot touch.line) view who

-- The processor holds nothing at first and in the end. The translation is one of the page, the names are of the layout, and the
-- command had made these entries before the access.
pub record FitsFrom (base : List Made) (layout : Layout) (view : View) (f : Fault) : Type 0 where
  pub on_turn : IsOnTurn view f.who
  pub page : f.page.0 < length layout.pages
  pub slot : IsOf layout f.page f.slot
  pub touch : IsTouch layout f.slot f.touch
  pub made : MadeAt base view f.who f.page f.slot f.touch f.at
  pub at : FitsAt layout view f.who f.page f.slot f.touch f.at

-- whatever entries those are
abbrev pub Fits : Layout → View → Fault → Type 0
Fits layout view f = (base : List Made) × FitsFrom base layout view f

abbrev pub class_at : FaultAt → ℕ
class_at (at.Hold h) = holds.class h
class_at (at.LoadPte (Some frame) body) = 1
class_at (at.LoadPte None body) = 2
class_at (at.Kill (Some frame) body place) = 1
class_at (at.Kill None body place) = 2
class_at (at.Fill f) = fills.class f
class_at (at.MapIn m) = 1
class_at (at.Unhold u answer) = unholds.class u
class_at (at.GiveUp g) = give_ups.class g
class_at (at.Over answer) = 4

abbrev pub class : Fault → ℕ
class f = class_at f.at

-- what is left of an access that starts over: it loads the translation's word, and a fault follows where that leads nowhere
abbrev pub again : VSlot → Words → ℕ
again slot words = length words.frees + 20 + stale (is_some (frame_in (slice_index words.trans slot.0)))

-- until the translation leads to a frame, or is seen to: the word that was loaded before has changed since, or this fault
-- brings it into use
abbrev pub owed : ℕ
owed = stale_weight

abbrev pub rest : VSlot → FaultAnswer → Words → ℕ
rest slot answers.Again words = again slot words
rest slot (answers.NoFrame place) words = 0
rest slot (answers.Sigbus place) words = 0

abbrev pub rest_of : VSlot → Option FaultAnswer → Words → ℕ
rest_of slot None words = 0
rest_of slot (Some answer) words = rest slot answer words

-- the turns that are left, where no word changes, with those of the access that starts over
abbrev pub cost_at : VSlot → FaultAt → Words → ℕ
cost_at slot (at.Hold h) words = holds.cost h words + length words.frees + 14 + owed
cost_at slot (at.LoadPte frame body) words = length words.frees + 14 + owed
cost_at slot (at.Kill frame body place) words = 6
cost_at slot (at.Fill f) words = fills.cost f words + 3 + owed
cost_at slot (at.MapIn m) words = map_ins.cost m words + owed
cost_at slot (at.Unhold u answer) words = unholds.cost u words + rest slot answer words
cost_at slot (at.GiveUp g) words = give_ups.cost g words
cost_at slot (at.Over answer) words = rest_of slot answer words

abbrev pub cost : Fault → Words → ℕ
cost f words = cost_at f.slot f.at words

-- the task, as the laws of tasks read it
abbrev pub task : Member Fault
task = record {
  who = λ f. f.who;
  plan = plan;
  put = put;
  bare = bare;
  shows = Shows;
  next = Follows;
  fits = Fits;
  class = class;
  cost = cost;
  aborts = λ f. false;
  claims = λ f. None;
}
