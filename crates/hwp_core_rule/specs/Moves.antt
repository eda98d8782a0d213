-- A move: what one step does to a board; and a run of moves.
use Rattle.std.specs.Prelude.{◌≡◌, ℕ, ◌^◌, ◌<◌, List, [], ◌∷◌, Some, slice_get, slice_set, slice_index}
use Rattle.hwp_page.specs.hwp_geom.declared.Layout.{Layout}
use Rattle.hwp_core_rule.specs.declared.record.Rec.{Rec}
use Rattle.hwp_core_rule.specs.declared.record.State.{State}
use Rattle.hwp_core_rule.specs.declared.view.View.{View}
use Rattle.hwp_core_rule.specs.Asks.{Asks}
use Rattle.hwp_core_rule.specs.Rule.{Holds}
use Rattle.hwp_core_rule.specs.Steps.{place_of, word_after}
use Rattle.hwp_core_rule.specs.SlotMoves.{homes_after, Meets}
use Rattle.hwp_core_rule.specs.Views.{view_after}
use Rattle.hwp_core_rule.specs.Words.{index}

-- the board after a step of a seat with this view
abbrev pub moved : Layout → ℕ → Rec → View → State → State
moved layout seat r view s = record {
  words = slice_set s.words (index layout (place_of r.step)) (word_after r.step r.found);
  homes = homes_after layout r.step r.found r.content s.homes;
  views = slice_set s.views seat (view_after layout r view);
}

-- One step of a seat: it finds the word that stands there, its condition holds, and all other words, slots and views stay.
pub record Move (layout : Layout) (seat : ℕ) (r : Rec) (a b : State) : Type 0 where
  pub view : View
  pub me : slice_get a.views seat ≡ Some view
  pub asks : Asks layout r.who r.step r.content view
  pub fits : r.found < 2 ^ 64
  pub met : r.found ≡ slice_index a.words (index layout (place_of r.step))
  pub slot : Meets layout a.homes r.step r.found r.content
  pub next : b ≡ moved layout seat r view a

-- a list of moves from an opening to a board, the newest first, each with its seat
abbrev pub Run : Layout → State → List (ℕ × Rec) → State → Type 0
Run layout opening [] s = s ≡ opening
Run layout opening (r ∷ rs) s = (t : State) × Run layout opening rs t × Move layout r.0 r.1 t s

-- What a step tells its seat: it met its word and its content on some board that keeps the rule and on which the seat knew
-- what it knew, and the seat's view is that of the step.
pub record Told (layout : Layout) (r : Rec) (old new : View) : Type 0 where
  pub board : State
  pub rule : Holds layout board
  pub seat : ℕ
  pub me : slice_get board.views seat ≡ Some old
  pub fits : r.found < 2 ^ 64
  pub met : r.found ≡ slice_index board.words (index layout (place_of r.step))
  pub slot : Meets layout board.homes r.step r.found r.content
  pub next : new ≡ view_after layout r old
