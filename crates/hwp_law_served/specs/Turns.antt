-- A run as a list of turns: where they lead, and what the steps of one command found.
use Rattle.std.specs.Prelude.{◌≡◌, ℕ, ◌+◌, List, [], ◌∷◌, ◌++◌, Some, slice_get}
use Rattle.hwp_law.specs.hwp_geom.declared.Frame.{Frame}
use Rattle.hwp_law.specs.hwp_geom.declared.Layout.{Layout}
use Rattle.hwp_law.specs.hwp_geom.declared.Page.{Page}
use Rattle.hwp_law.specs.hwp_geom.declared.Who.{Who}
use Rattle.hwp_plain.specs.hwp_core_rule.declared.FrameLock.{FrameLock}
use Rattle.hwp_plain.specs.hwp_core_rule.declared.InHand.{InHand}
use Rattle.hwp_plain.specs.hwp_core_rule.declared.Log.{Log}
use Rattle.hwp_plain.specs.hwp_core_rule.declared.PageLock.{PageLock}
use Rattle.hwp_plain.specs.hwp_core_rule.declared.SharedWord.{SharedWord}
use Rattle.hwp_plain.specs.hwp_core_rule.declared.SharedWord.TheVariants as places
use Rattle.hwp_plain.specs.hwp_core_rule.declared.Rec.{Rec}
use Rattle.hwp_plain.specs.hwp_core_rule.declared.State.{State}
use Rattle.hwp_plain.specs.hwp_core_rule.declared.View.{View}
use Rattle.hwp_plain.specs.hwp_core_rule.Lists.{SomeMember}
use Rattle.hwp_plain.specs.hwp_core_rule.Moves.{Move}
use Rattle.hwp_plain.specs.hwp_core_rule.Opening.{opening}
use Rattle.hwp_plain.specs.hwp_core_rule.Rule.{Holds}
use Rattle.hwp_plain.specs.hwp_core_rule.Steps.{place_of}
use Rattle.hwp_plain.specs.hwp_core_rule.Boards.{Played}

-- the turns lead, move by move, from one board to another, and each keeps the frame rule
abbrev pub Leads : Layout → State → List Played → State → Type 0
Leads layout a [] b = b ≡ a
Leads layout a (turn ∷ later) b = (mid : State) × Move layout turn.seat turn.made a mid × Holds layout mid × Leads layout mid later b

-- one of the turns is of this command, and its step and what its seat knows after it are such
pub record TurnBy (layout : Layout) (turns : List Played) (who : Who) (Such : Rec → View → Type 0) : Type 0 where
  pub before : List Played
  pub turn : Played
  pub after : List Played
  pub all : turns ≡ before ++ turn ∷ after
  pub board : State
  pub led : Leads layout (opening layout) (before ++ turn ∷ []) board
  pub view : View
  pub knows : slice_get board.views turn.seat ≡ Some view
  pub own : turn.made.who ≡ who
  pub such : Such turn.made view

-- a step of the command found such a word at the place
abbrev pub Finds : Layout → List Played → Who → SharedWord → (ℕ → Type 0) → Type 0
Finds layout turns who place Such = TurnBy layout turns who (λ (made : Rec) (view : View). (place_of made.step ≡ place) × Such made.found)

-- the seat has the page's lock and the page's body, whose history is such
pub record SeesPage (page : Page) (Such : Log → Type 0) (view : View) : Type 0 where
  pub locked : SomeMember (λ (l : PageLock). l.page ≡ page) view.pages
  pub body : SomeMember (λ (b : InHand). (b.log.page ≡ page) × Such b.log) view.bodies

-- after a step of the command its seat had the page's lock and the page's body, whose history was such
abbrev pub SawPage : Layout → List Played → Who → Page → (Log → Type 0) → Type 0
SawPage layout turns who page Such = TurnBy layout turns who (λ (made : Rec) (view : View). SeesPage page Such view)

-- the seat has the lock of a frame that the page owns
abbrev pub HasFrameOf : Page → Frame → View → Type 0
HasFrameOf page frame view = SomeMember (λ (l : FrameLock). (l.frame ≡ frame) × (l.owner ≡ page.0 + 1)) view.locks

-- a step of the command, made under the lock of the page's frame, showed these bad lines of it
abbrev pub FindsBad : Layout → List Played → Who → Page → Frame → ℕ → Type 0
FindsBad layout turns who page frame mask =
    TurnBy layout turns who (λ (made : Rec) (view : View). (place_of made.step ≡ places.Bad frame) × (made.found ≡ mask) × HasFrameOf page frame view)
