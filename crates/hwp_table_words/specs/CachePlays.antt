-- The steps on the entries of translation caches: what they ask, and what they tell.
use Rattle.std.specs.Prelude.{◌≡◌, ℕ, ◌+◌, ◌*◌, ◌%◌, ◌<◌, ◌≤◌, Option, Some, None}
use Rattle.atomic_table.specs.Seated.{TableId}
use Rattle.hwp_core_rule.specs.hwp_geom.declared.Frame.{Frame}
use Rattle.hwp_core_rule.specs.hwp_geom.declared.Layout.{Layout}
use Rattle.hwp_core_rule.specs.hwp_geom.declared.VSlot.{VSlot}
use Rattle.hwp_core_rule.specs.declared.SharedWord.TheVariants as shared
use Rattle.hwp_core_rule.specs.declared.Step.TheVariants as steps
use Rattle.hwp_core_rule.specs.declared.View.{View}
use Rattle.hwp_core_rule.specs.Lists.{SomeMember}
use Rattle.hwp_core_rule.specs.Words.{size}
use Rattle.hwp_core_rule.specs.Calls.{CanMake}
use Rattle.hwp_table_words.specs.tlb.Caching.{Caching, upto_of}
use Rattle.hwp_table_words.specs.tlb.Rule.{frames_of, locks_in, times}
use Rattle.hwp_table_words.specs.tlb.Steps.{IsGuarded, caching_after, filled, flushed, hit, looked}
use Rattle.hwp_table_words.specs.tlb.Words.{hit_of}
use Rattle.hwp_table_words.specs.Plays.{Call, Makes, no_call}
use Rattle.hwp_table_words.specs.Seats.{IsTableOf}
use Rattle.hwp_table_words.specs.Stands.{Me, first_me}

-- a step on an entry: of which machine, at which place, for which frame, and the word that it expects there
pub record Aim : Type 0 where
  pub layout : Layout
  pub place : ℕ
  pub frame : ℕ
  pub seen : ℕ

abbrev pub no_aim : Aim
no_aim = record { layout = no_call.layout; place = 0; frame = 0; seen = 0 }

-- a load of a translation that an entry may answer, and the entry's place
pub record Look : Type 0 where
  pub call : Call
  pub slot : VSlot
  pub place : ℕ

abbrev pub no_look : Look
no_look = record { call = no_call; slot = record { 0 = 0 }; place = 0 }

-- the place of a translation in its processor's cache: each processor has so many entries
abbrev pub own_place : ℕ → ℕ → ℕ → ℕ
own_place ways cpu slot = ways * cpu + slot % ways

-- a seat that knows this of the caches, and is else as it was
abbrev pub with_caching : Caching → Me → Me
with_caching k m = (record m.0 { caching = k }, m.1)

-- the load hit: it is the move of the frame rule that finds this word
pub record IsHit (call : Call) (m : Me) (found : ℕ) (n : Me) : Type 0 where
  pub makes : Makes call (first_me m) found (first_me n)
  pub caching : n.0.caching ≡ hit (caching_after call.places call.step found (frames_of call.mine.locks) m.0.caching)

-- an entry of the translation answers the load; else nothing is learned
abbrev pub HasFound : Call → Me → Option Frame → Me → Type 0
HasFound call m None n = n ≡ m
HasFound call m (Some frame) n = IsHit call m (frame.0 + 1) n

-- what the four kinds tell: each stands behind the words of the frame rule
abbrev pub IsLooked : Look → ℕ → Me → ℕ → Me → Type 0
IsLooked look word m found n = (word ≡ size look.call.layout + look.place) × HasFound look.call m (hit_of look.slot found) n

abbrev pub IsSearched : Aim → ℕ → Me → ℕ → Me → Type 0
IsSearched aim word m found n = (word ≡ size aim.layout + aim.place) × (n ≡ with_caching (looked aim.frame aim.place found m.0.caching) m)

abbrev pub IsFlushed : Aim → ℕ → Me → ℕ → Me → Type 0
IsFlushed aim word m found n = (word ≡ size aim.layout + aim.place) × (n ≡ with_caching (flushed aim.frame aim.place aim.seen found m.0.caching) m)

abbrev pub IsFilled : Aim → ℕ → Me → ℕ → Me → Type 0
IsFilled aim word m found n = (word ≡ size aim.layout + aim.place) × (n ≡ with_caching (filled aim.frame m.0.caching) m)

-- the seat is of this table, and the word is that of an entry
pub record IsEntry (ways : ℕ) (id : TableId) (layout : Layout) (of : TableId) (place word : ℕ) : Type 0 where
  pub same : of ≡ id
  pub table : IsTableOf ways layout id
  pub word_is : word ≡ size layout + place
  pub inside : place < ways * layout.cpus

-- a look for a frame: its lock is listed, and the entries before are cleared of it
pub record CanSearch (frame place : ℕ) (m : Me) : Type 0 where
  pub locked : 0 < times frame (locks_in m.0.known.mines)
  pub before : place ≤ upto_of frame m.0.caching.cleared

-- a flush: the entry was looked at, and named the frame
pub record CanFlush (frame place seen : ℕ) (m : Me) : Type 0 where
  pub glimpse : m.0.caching.glimpse ≡ Some (record { frame = frame; place = place; word = seen })
  pub before : place ≤ upto_of frame m.0.caching.cleared

-- a fill: the last step of the frame rule was a load that showed where the translation leads, to a frame that is locked
abbrev pub CanFill : ℕ → ℕ → Me → Type 0
CanFill slot frame m = m.0.caching.shown ≡ Some (record { slot = slot; frame = frame })

-- a load of the translation can be made
pub record CanLook (ways : ℕ) (layout : Layout) (look : Look) (m : Me) : Type 0 where
  pub layout_is : look.call.layout ≡ layout
  pub places : look.call.places ≡ ways * layout.cpus
  pub step_is : look.call.step ≡ steps.Load (shared.Trans look.slot)
  pub put_is : look.call.put ≡ None
  pub view : SomeMember (λ (x : ℕ × View). x ≡ (look.call.cpu, look.call.mine)) m.0.known.mines
  pub right : 0 < times look.call.cpu m.0.known.rights
  pub guarded : IsGuarded look.call.places look.call.mine m.0.caching
  pub can : CanMake layout look.call.who look.call.step None look.call.mine
