-- Handled frames: out of use, on every board of a run.
use Rattle.std.specs.Prelude.{◌≡◌, ◌≢◌, ℕ, ◌+◌, List, ◌++◌, Some, None, map, slice_get}
use Rattle.hwp_law_served.specs.hwp_geom.declared.Frame.{Frame}
use Rattle.hwp_law_served.specs.hwp_geom.declared.Layout.{Layout}
use Rattle.hwp_law_served.specs.hwp_geom.declared.Page.{Page}
use Rattle.hwp_law_served.specs.hwp_geom.declared.VSlot.{VSlot}
use Rattle.hwp_law_served.specs.hwp_words.Frames.{handled_of, lock_of, owner_of, poison_of}
use Rattle.hwp_law_served.specs.hwp_core_rule.declared.State.{State}
use Rattle.hwp_law_served.specs.hwp_core_rule.declared.View.{View}
use Rattle.hwp_law_served.specs.hwp_core_rule.Lists.{Homes}
use Rattle.hwp_law_served.specs.hwp_core_rule.Opening.{opening}
use Rattle.hwp_law_served.specs.hwp_core_rule.Words.{Words, free_bit, words_of}
use Rattle.hwp_law_served.specs.hwp_core_rule.parts.Places.{in_hand}
use Rattle.hwp_law_served.specs.hwp_core_rule.Boards.{Played}
use Rattle.hwp_law_served.specs.Turns.{Leads}

-- The frame is out of use: it is poisoned, its free bit is 0, it is in nobody's hand, no page owns it, and no translation word
-- and no cache word names it, which each would do by the frame's number plus 1. While it isn't locked, its slot has no page's
-- content.
pub record IsRetired (words : Words) (homes : Homes) (views : List View) (frame : Frame) (word : ℕ) : Type 0 where
  pub poisoned : poison_of word ≡ 1
  pub not_free : free_bit words.frees frame.0 ≡ 0
  pub in_no_hand : in_hand frame.0 (map (λ (v : View). v.hands) views) ≡ 0
  pub unowned : owner_of word ≡ 0
  pub untranslated : (slot : VSlot) → slice_get words.trans slot.0 ≢ Some (frame.0 + 1)
  pub uncached : (page : Page) → slice_get words.caches page.0 ≢ Some (frame.0 + 1)
  pub empty : lock_of word ≡ 0 → slice_get homes frame.0 ≡ Some (Some None)

-- each frame whose word has HANDLED is out of use, locked or not
abbrev pub AreHandledRetired : Layout → State → Type 0
AreHandledRetired layout s =
    (frame : Frame) (word : ℕ) → slice_get (words_of layout s.words).frames frame.0 ≡ Some word → handled_of word ≡ 1 → IsRetired (words_of layout s.words) s.homes s.views frame word

-- the board stands between two turns of the run, before the first, or after the last
pub record IsBoardOf (layout : Layout) (turns : List Played) (board : State) : Type 0 where
  pub before : List Played
  pub later : List Played
  pub all : turns ≡ before ++ later
  pub led : Leads layout (opening layout) before board
