-- What a table comes to.
use Rattle.std.specs.Prelude.{◌≡◌, ℕ, ◌*◌, ◌<◌, ◌⊎◌, List, Some, length, map, slice_get}
use Rattle.hwp_core_rule.specs.hwp_geom.declared.Layout.{Layout}
use Rattle.hwp_core_rule.specs.declared.Rec.{Rec}
use Rattle.hwp_core_rule.specs.declared.State.{State}
use Rattle.hwp_core_rule.specs.declared.View.{View}
use Rattle.hwp_core_rule.specs.Lists.{EachMember}
use Rattle.hwp_core_rule.specs.Moves.{Run}
use Rattle.hwp_core_rule.specs.Opening.{opening}
use Rattle.hwp_core_rule.specs.Rule.{Holds}
use Rattle.hwp_core_rule.specs.Words.{words_of}
use Rattle.hwp_core_rule.specs.parts.Holdings.{HoldsNothing}
use Rattle.hwp_plain.specs.Openings.{home_with}
use Rattle.hwp_table_words.specs.Known.{Known, Whole, moves_by, views_for}
use Rattle.hwp_table_words.specs.Rules.{IsWhole}
use Rattle.hwp_table_words.specs.Stands.{Content}
use Rattle.hwp_table_words.specs.tlb.Rule.{Leads}

-- the seat has the views of all processors, and none of them holds anything
pub record HasAll (layout : Layout) (v : Known) : Type 0 where
  pub all : (c : ℕ) → c < layout.cpus → 0 < views_for c v.mines
  pub nothing : EachMember (λ (x : ℕ × View). HoldsNothing x.1) v.mines

-- the board of these words and bodies, where the processors know this
abbrev pub board_of : List ℕ → List Content → List View → State
board_of words slots views = record { words = words; homes = map home_with slots; views = views }

-- what clauses see of a table's end: the machine, its words, what was in the slots, what the last seat knew, and the words of the
-- translation caches
pub record EndValue : Type 0 where
  pub layout : Layout
  pub words : List ℕ
  pub slots : List Content
  pub known : Known
  pub entries : List ℕ

-- Moves led from the opening to these words and bodies, on which the frame rule holds and nothing is held. Each processor knows then what the
-- seat had for it, and the moves that the seat had of it are its part of these moves. A word of a translation cache is 0, or names
-- the frame to which its translation leads.
pub record IsEnd (ways : ℕ) (layout : Layout) (v : Known) (words : List ℕ) (slots : List Content) (entries : List ℕ) : Type 0 where
  pub moves : List (ℕ × Rec)
  pub views : List View
  pub run : Run layout (opening layout) moves (board_of words slots views)
  pub holds : Holds layout (board_of words slots views)
  pub count : length views ≡ layout.cpus
  pub nothing : EachMember HoldsNothing views
  pub mines : EachMember (λ (x : ℕ × View). slice_get views x.0 ≡ Some x.1) v.mines
  pub own : EachMember (λ (x : ℕ × View). moves_by x.0 v.own ≡ moves_by x.0 moves) v.mines
  pub whole : (w : Whole) → v.whole ≡ Some w → IsWhole layout (board_of words slots views) moves v.rights w
  pub entry_count : length entries ≡ ways * layout.cpus
  pub lead : (i w : ℕ) → slice_get entries i ≡ Some w → (w ≡ 0) ⊎ Leads ways (words_of layout words).trans i w
