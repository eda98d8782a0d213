-- One seat with the slots that it carries.
use Rattle.std.specs.Prelude.{◌≡◌, ℕ, ◌+◌, ◌*◌, ◌<◌, List, [], ◌∷◌, ◌++◌, Some, map, length}
use Rattle.atomic_table.specs.Seated.{TableId}
use Rattle.hwp_core_rule.specs.hwp_geom.declared.Layout.{Layout}
use Rattle.hwp_core_rule.specs.hwp_geom.Layout.{IsSound}
use Rattle.hwp_core_rule.specs.declared.FrameLock.{FrameLock}
use Rattle.hwp_core_rule.specs.declared.PageLock.{PageLock}
use Rattle.hwp_core_rule.specs.declared.Rec.{Rec}
use Rattle.hwp_core_rule.specs.declared.View.{View}
use Rattle.hwp_core_rule.specs.Lists.{SomeMember}
use Rattle.hwp_core_rule.specs.Opening.{opening_view}
use Rattle.hwp_core_rule.specs.SlotMoves.{slot_move}
use Rattle.hwp_core_rule.specs.Steps.{place_of}
use Rattle.hwp_core_rule.specs.Words.{index, size}
use Rattle.hwp_core_rule.specs.Calls.{CanMake}
use Rattle.hwp_table_words.specs.CacheCounts.{told_counts}
use Rattle.hwp_table_words.specs.Carrying.{vacant}
use Rattle.hwp_table_words.specs.Known.{Known, Knowing, Whole, known_after, times}
use Rattle.hwp_table_words.specs.Order.{in_table}
use Rattle.hwp_table_words.specs.Plays.{Call, Finds, IsFront}
use Rattle.hwp_table_words.specs.Stands.{Content, FirstMe, Me}
use Rattle.hwp_table_words.specs.tlb.Caching.{Caching}
use Rattle.hwp_table_words.specs.tlb.Steps.{IsGuarded}
use Rattle.hwp_table_words.specs.declared.counts.TlbCounts.{TlbCounts}

-- the processor of a seat that has one view, and that view
abbrev pub cpu_of : List (ℕ × View) → ℕ
cpu_of [] = 0
cpu_of (x ∷ xs) = x.0

abbrev pub mine_of : List (ℕ × View) → View
mine_of [] = opening_view 0
mine_of (x ∷ xs) = x.1

-- what clauses see of a seat: which table it is of, the machine, what it knows, and what it knows of the translation caches
pub record SeatValue : Type 0 where
  pub table : TableId
  pub layout : Layout
  pub known : Known
  pub caching : Caching

abbrev pub value_of : TableId → Layout → Knowing → SeatValue
value_of id layout k = record { table = id; layout = layout; known = k.known; caching = k.caching }

abbrev pub cpu : SeatValue → ℕ
cpu s = cpu_of s.known.mines

abbrev pub mine : SeatValue → View
mine s = mine_of s.known.mines

-- the slots of the locks that a view lists
abbrev pub slots_of : Layout → View → List ℕ
slots_of layout v = map (λ (l : FrameLock). l.frame.0) v.locks ++ map (λ (q : ℕ). layout.frames + q) (map (λ (l : PageLock). l.page.0) v.pages)

-- a table has a word and a slot for all that the layout has, and so many words for each processor's translation cache
pub record IsTableOf (ways : ℕ) (layout : Layout) (id : TableId) : Type 0 where
  pub sound : IsSound layout
  pub words : id.words ≡ size layout + ways * layout.cpus
  pub slots : id.slots ≡ layout.frames + length layout.pages

-- the slots that a seat with this view carries are those of its locks, in this order, and nothing is in them between its steps
pub record Carries (layout : Layout) (view : View) (slots : List (ℕ × Content)) (order : List ℕ) : Type 0 where
  pub empty : slots ≡ vacant order
  pub same : (slot : ℕ) → times slot order ≡ times slot (slots_of layout view)
  pub few : length order ≡ length (slots_of layout view)

-- the step can be played as this call: by this seat of the table, which has the processor's view and right, on this word
pub record CanPlay (ways : ℕ) (id : TableId) (layout : Layout) (call : Call) (of : TableId) (me : Me) (word : ℕ) : Type 0 where
  pub same : of ≡ id
  pub table : IsTableOf ways layout id
  pub layout_is : call.layout ≡ layout
  pub places : call.places ≡ ways * layout.cpus
  pub word_is : word ≡ in_table (size layout) (index layout (place_of call.step))
  pub inside : word < size layout
  pub view : SomeMember (λ (x : ℕ × View). x ≡ (call.cpu, call.mine)) me.0.known.mines
  pub right : 0 < times call.cpu me.0.known.rights
  pub guarded : IsGuarded call.places call.mine me.0.caching
  pub can : CanMake layout call.who call.step call.put call.mine
  pub front : (found : ℕ) → IsFront (slot_move layout call.step found) call.put me.1

-- what a seat with its table is: it has the view of one processor
pub record IsSeat (ways : ℕ) (layout key : Layout) (id of : TableId) (me : FirstMe) (order : List ℕ) : Type 0 where
  pub key_is : key ≡ layout
  pub table : IsTableOf ways layout id
  pub same : of ≡ id
  pub one : me.0.mines ≡ (cpu_of me.0.mines, mine_of me.0.mines) ∷ []
  pub carries : Carries layout (mine_of me.0.mines) me.1 order

-- and what it keeps of the translation caches between its steps
pub record HasCache (places : ℕ) (counts : TlbCounts) (k : Knowing) : Type 0 where
  pub guarded : IsGuarded places (mine_of k.known.mines) k.caching
  pub counted : counts ≡ told_counts k.caching.counts

-- it has the right to make steps of its processor
abbrev pub HasRight : Known → Type 0
HasRight v = 0 < times (cpu_of v.mines) v.rights

-- one step of the seat: what it knows then, and that it met what it knew where it knew the whole
pub record Moves (a : SeatValue) (r : Rec) (b : SeatValue) : Type 0 where
  pub next : b ≡ record a { known = known_after a.layout (cpu a) r a.known; caching = b.caching }
  pub found : (w : Whole) → a.known.whole ≡ Some w → Finds a.layout r w
