-- The rule of the table: moves lead from the opening to the table as it is, and each seat knows its part of what they led to.
use Rattle.std.specs.Prelude.{◌≡◌, ℕ, ◌<◌, ◌≤◌, List, [], Some, drop, map, slice_get}
use Rattle.std.specs.List.{sum_by}
use Rattle.hwp_core_rule.specs.hwp_geom.declared.Layout.{Layout}
use Rattle.hwp_core_rule.specs.hwp_geom.Layout.{IsSound}
use Rattle.hwp_core_rule.specs.declared.Rec.{Rec}
use Rattle.hwp_core_rule.specs.declared.State.{State}
use Rattle.hwp_core_rule.specs.declared.View.{View}
use Rattle.hwp_core_rule.specs.Lists.{EachMember}
use Rattle.hwp_core_rule.specs.Moves.{Run}
use Rattle.hwp_core_rule.specs.Opening.{opening}
use Rattle.hwp_core_rule.specs.Words.{size}
use Rattle.hwp_table_words.specs.Known.{Known, Knowing, Whole, moves_by, times, views_for}
use Rattle.hwp_table_words.specs.Stands.{CachedTable, Table, first_part, stand, AreOfLayout}
use Rattle.hwp_table_words.specs.tlb.Rule.{CachesAgree, Seat}

-- what one seat knows of the whole: it has all rights
pub record IsWhole (layout : Layout) (s : State) (log : List (ℕ × Rec)) (rights : List ℕ) (w : Whole) : Type 0 where
  pub words : w.words ≡ s.words
  pub homes : w.homes ≡ s.homes
  pub moves : w.log ≡ log
  pub all : (c : ℕ) → c < layout.cpus → 0 < times c rights

-- a seat has the moves of the processors whose views it has, and of no others
pub record IsOwn (log : List (ℕ × Rec)) (v : Known) : Type 0 where
  pub all : (c : ℕ) → 0 < views_for c v.mines → moves_by c v.own ≡ moves_by c log
  pub none : (c : ℕ) → views_for c v.mines ≡ 0 → moves_by c v.own ≡ []

-- Each view that a seat has is the processor's, and its moves are that processor's. The view of a processor is in one seat at most, and so is its right. Broken
-- by: a step without its processor's right, or a right that two seats share.
pub record Ruled (layout : Layout) (s : State) (log : List (ℕ × Rec)) (vs : List Known) : Type 0 where
  pub mines : EachMember (λ (v : Known). EachMember (λ (x : ℕ × View). slice_get s.views x.0 ≡ Some x.1) v.mines) vs
  pub own : EachMember (IsOwn log) vs
  pub one_view : (c : ℕ) → sum_by (λ (v : Known). views_for c v.mines) vs ≤ 1
  pub one_right : (c : ℕ) → sum_by (λ (v : Known). times c v.rights) vs ≤ 1
  pub whole : EachMember (λ (v : Known). (w : Whole) → v.whole ≡ Some w → IsWhole layout s log v.rights w) vs

-- The moves start at the frame rule's own opening, and a seat is a processor of it. So that the table keeps the frame rule
-- follows from the run.
pub record Reached (layout : Layout) (t : Table) : Type 0 where
  pub sound : IsSound layout
  pub log : List (ℕ × Rec)
  pub views : List View
  pub run : Run layout (opening layout) log (stand views t)
  pub ruled : Ruled layout (stand views t) log t.views
  pub bodies : AreOfLayout layout t.homes

-- a seat, as the rule of the translation caches sees it: the views that it has, and what it knows of the caches
abbrev pub cache_seat : Knowing → Seat
cache_seat k = (k.known.mines, k.caching)

-- The rule of the whole table: moves lead to its first words. Of the words behind them, which are the entries of the translation
-- caches, each leads where its translation does, and each seat is right in what it lists of them.
pub record Kept (ways : ℕ) (layout : Layout) (t : CachedTable) : Type 0 where
  pub reached : Reached layout (first_part layout t)
  pub agree : CachesAgree ways layout (stand reached.views (first_part layout t)) (drop (size layout) t.words) (map cache_seat t.views)
