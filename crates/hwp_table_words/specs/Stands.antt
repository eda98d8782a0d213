-- A table, as the frame rule sees it.
use Rattle.std.specs.Prelude.{◌≡◌, ℕ, List, map, take}
use Rattle.std.specs.Prelude.{Option as Maybe, Some, None}
use mathlib.Core.Option.{Option, some, none}
use lib.ListN.{get_elem?}
use Rattle.atomic_table.specs.Table as table
use Rattle.hwp_core_rule.specs.hwp_geom.declared.Layout.{Layout}
use Rattle.hwp_core_rule.specs.hwp_page.History.{BodyValue}
use Rattle.hwp_core_rule.specs.declared.Log.{Log}
use Rattle.hwp_core_rule.specs.declared.State.{State}
use Rattle.hwp_core_rule.specs.declared.View.{View}
use Rattle.hwp_core_rule.specs.Words.{size}
use Rattle.hwp_core_rule.specs.Calls.{FitsLayout, logs}
use Rattle.hwp_table_words.specs.Known.{Known, Knowing}
use Rattle.hwp_table_words.specs.Order.{in_rule}

-- the value of a slot: a body, or none
abbrev pub Content : Type 0
Content = Maybe BodyValue

-- a table of this machine, without the translation caches
abbrev pub Table : Type 0
Table = table.State Content Known

-- the same with them: their words stand behind the machine's
abbrev pub CachedTable : Type 0
CachedTable = table.State Content Knowing

abbrev pub first_part : Layout → CachedTable → Table
first_part layout t = record { words = take (size layout) t.words; homes = t.homes; views = map (λ (k : Knowing). k.known) t.views }

-- a seat of it, and what of that the frame rule sees
abbrev pub Me : Type 0
Me = table.Me Content Knowing

abbrev pub FirstMe : Type 0
FirstMe = table.Me Content Known

abbrev pub first_me : Me → FirstMe
first_me m = (m.0.known, m.1)

-- a slot at home has its content, and one that is out with a seat has none
abbrev pub home_of : Option Content → Maybe (Maybe Log)
home_of none = None
home_of (some content) = Some (logs content)

-- its words and slots as those of a board on which the processors know this
abbrev pub stand : List View → Table → State
stand views t = record { words = in_rule t.words; homes = map home_of t.homes; views = views }

-- the bodies at home are of the layout
abbrev pub AreOfLayout : Layout → List (Option Content) → Type 0
AreOfLayout layout homes = (slot : ℕ) (content : Content) → get_elem? homes slot ≡ some (some content) → FitsLayout layout content
