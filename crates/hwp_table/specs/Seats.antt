-- The seats of a board, one for each processor. One of them has all rights, and knows the whole.
use Rattle.std.specs.Prelude.{◌≡◌, ◌≢◌, ℕ, ◌<◌, ◌≤◌, ◌⊎◌, List, [], ◌∷◌, ◌++◌, Option, Some, None, length, map, slice_get, slice_set}
use Rattle.atomic_table.specs.Seated.{TableId}
use Rattle.hwp_core_rule.specs.hwp_geom.declared.Layout.{Layout}
use Rattle.hwp_core_rule.specs.declared.View.{View}
use Rattle.hwp_core_rule.specs.Lists.{EachMember}
use Rattle.hwp_core_rule.specs.Opening.{opening_view}
use Rattle.hwp_core_rule.specs.parts.Holdings.{HoldsNothing}
use Rattle.hwp_table_words.specs.tlb.Caching.{idle_caching}
use Rattle.hwp_table_words.specs.Known.{Known, Whole, let_go, note, times, views_for, with_note}
use Rattle.hwp_table_words.specs.Seats.{IsTableOf, SeatValue, cpu, mine}
use Rattle.hwp_table_words.specs.Stands.{Me}

-- what a seat knows of the whole
abbrev pub no_whole : Whole
no_whole = record { words = []; homes = []; log = [] }

abbrev pub whole_in : Option Whole → Whole
whole_in None = no_whole
whole_in (Some w) = w

abbrev pub whole_of : Option SeatValue → Whole
whole_of None = no_whole
whole_of (Some s) = whole_in s.known.whole

abbrev pub whole_at : List SeatValue → ℕ → Whole
whole_at seats holder = whole_of (slice_get seats holder)

-- each seat is at this table, and has the view of the processor of its number
pub record IsSeatOf (id : TableId) (layout : Layout) (number : ℕ) (s : SeatValue) : Type 0 where
  pub table : s.table ≡ id
  pub layout_is : s.layout ≡ layout
  pub number_is : cpu s ≡ number
  pub one : s.known.mines ≡ (cpu s, mine s) ∷ []

pub record AreSeats (id : TableId) (layout : Layout) (seats : List SeatValue) : Type 0 where
  pub count : length seats ≡ layout.cpus
  pub each : (i : ℕ) (s : SeatValue) → slice_get seats i ≡ Some s → IsSeatOf id layout i s

-- one seat has all rights and knows this of the whole, and no other knows it
pub record IsHeld (layout : Layout) (seats : List SeatValue) (holder : ℕ) (w : Whole) : Type 0 where
  pub seat : SeatValue
  pub there : slice_get seats holder ≡ Some seat
  pub whole : seat.known.whole ≡ Some w
  pub all : (c : ℕ) → c < layout.cpus → 0 < times c seat.known.rights
  pub others : (i : ℕ) (s : SeatValue) → i ≢ holder → slice_get seats i ≡ Some s → s.known.whole ≡ None

-- a seat whose rights are gone, and one that took those of another; what each knows of caches stays
abbrev pub without_rights : SeatValue → SeatValue
without_rights s = record s { known = let_go s.known }

abbrev pub with_rights : SeatValue → Known → SeatValue
with_rights s v = record s { known = with_note s.known (note v) }

-- all rights went from one seat to another
pub record Handed (a b : List SeatValue) (from to : ℕ) : Type 0 where
  pub giver : SeatValue
  pub taker : SeatValue
  pub from_there : slice_get a from ≡ Some giver
  pub to_there : slice_get (slice_set a from (without_rights giver)) to ≡ Some taker
  pub next : b ≡ slice_set (slice_set a from (without_rights giver)) to (with_rights taker giver.known)

-- all rights are with the seat `to`: they were there, and nothing changed, or they went there
abbrev pub IsHandedOver : List SeatValue → List SeatValue → ℕ → ℕ → Type 0
IsHandedOver a b from to = ((from ≡ to) × (b ≡ a)) ⊎ Handed a b from to

-- the seats at opening: each has its view, none has a right yet, and none knows anything of caches
abbrev pub seat_open : TableId → Layout → ℕ → SeatValue
seat_open id layout c = record { table = id; layout = layout; known = record { mines = (c, opening_view c) ∷ []; own = []; rights = []; whole = None }; caching = idle_caching }

-- no table
abbrev pub no_table : TableId
no_table = record { words = 0; slots = 0; views_name = 0; atom = 0; block = 0; offset = 0; slot_names = [] }

-- The seats that are left are a front of all, and one seat has what the others had. It has the rights if their holder is not
-- among those that are left.
pub record IsGathered (id : TableId) (layout : Layout) (all : List SeatValue) (holder : ℕ) (w : Whole) (left : List SeatValue) (of : TableId) (me : Me) : Type 0 where
  pub rest : List SeatValue
  pub front : all ≡ left ++ rest
  pub same : of ≡ id
  pub bare : me.1 ≡ []
  pub views : EachMember (λ (x : ℕ × View). slice_get (map mine all) x.0 ≡ Some x.1) me.0.known.mines
  pub each : (c : ℕ) → length left ≤ c → c < layout.cpus → 0 < views_for c me.0.known.mines
  pub none : holder < length left → me.0.known.whole ≡ None
  pub whole : length left ≤ holder → me.0.known.whole ≡ Some w

-- the seats of a board, none of which holds anything
pub record CanGather (id : TableId) (layout : Layout) (all : List SeatValue) (holder : ℕ) (w : Whole) : Type 0 where
  pub are : AreSeats id layout all
  pub held : IsHeld layout all holder w
  pub some_cpu : 0 < layout.cpus
  pub nothing : EachMember HoldsNothing (map mine all)

-- which seats these are
pub record Gathering : Type 0 where
  pub table : TableId
  pub layout : Layout
  pub holder : ℕ
  pub whole : Whole

-- the seats are these, at the table of this sheet
pub record AreThese (ways : ℕ) (g : Gathering) (sheet : TableId) (all : List SeatValue) : Type 0 where
  pub sheet_is : sheet ≡ g.table
  pub table_is : IsTableOf ways g.layout g.table
  pub can : CanGather g.table g.layout all g.holder g.whole
