-- What a seat does with the translation caches beside its moves of the frame rule.
use Rattle.std.specs.Prelude.{◌≡◌, ◌⊎◌, ℕ, ◌+◌, ◌<◌, ◌≤◌, cond, Option, Some, None, List, length, option_map}
use Rattle.atomic_table.specs.Seated.{TableId}
use Rattle.hwp_core_rule.specs.hwp_geom.declared.Frame.{Frame}
use Rattle.hwp_core_rule.specs.hwp_geom.declared.Layout.{Layout}
use Rattle.hwp_core_rule.specs.hwp_geom.declared.VSlot.{VSlot}
use Rattle.hwp_core_rule.specs.hwp_geom.declared.Who.{Who}
use Rattle.hwp_core_rule.specs.declared.SharedWord.TheVariants as shared
use Rattle.hwp_core_rule.specs.declared.Step.{Step}
use Rattle.hwp_core_rule.specs.declared.Step.TheVariants as steps
use Rattle.hwp_core_rule.specs.declared.View.{View}
use Rattle.hwp_core_rule.specs.Lists.{EachMember}
use Rattle.hwp_core_rule.specs.Steps.{goes}
use Rattle.hwp_core_rule.specs.Views.{locks_on}
use Rattle.hwp_table_words.specs.tlb.Caching.{Caching, upto_of}
use Rattle.hwp_table_words.specs.tlb.Rule.{locks_in}
use Rattle.hwp_table_words.specs.declared.follow.Follow.{Follow}
use Rattle.hwp_table_words.specs.declared.follow.Follow.TheVariants as follows
use Rattle.hwp_table_words.specs.CachePlays.{IsHit, with_caching}
use Rattle.hwp_table_words.specs.Known.{times}
use Rattle.hwp_table_words.specs.Plays.{Call}
use Rattle.hwp_table_words.specs.Seats.{IsTableOf, cpu_of, mine_of}
use Rattle.hwp_table_words.specs.Stands.{Me}

-- the seat is of this table of this machine, whose caches have few entries
pub record IsAtTable (ways : ℕ) (layout key : Layout) (id of : TableId) : Type 0 where
  pub few : ways ≤ 16
  pub key_is : key ≡ layout
  pub table : IsTableOf ways layout id
  pub same : of ≡ id

-- the step of the one processor that the seat has, which puts no body home
abbrev pub call_of : ℕ → Layout → Who → Step → Me → Call
call_of places layout who step m = record {
  layout = layout;
  cpu = cpu_of m.0.known.mines;
  mine = mine_of m.0.known.mines;
  who = who;
  step = step;
  put = None;
  places = places;
}

-- a look told the word that the load finds, or nothing
abbrev pub HasLooked : ℕ → Layout → Who → Step → Me → Option ℕ → Me → Type 0
HasLooked places layout who step m None n = n ≡ m
HasLooked places layout who step m (Some found) n = IsHit (call_of places layout who step m) m found n

abbrev pub load_of : VSlot → Step
load_of slot = steps.Load (shared.Trans slot)

-- the word of a translation that an entry gives
abbrev pub word_to : Option Frame → Option ℕ
word_to frame = option_map (λ (f : Frame). f.0 + 1) frame

-- what follows a step of the seat in the caches: a lock that was taken may leave frames to be swept
abbrev pub follow_of : Step → ℕ → Follow
follow_of (steps.Load (shared.Trans slot)) found = follows.Fill slot
follow_of (steps.LockFrame frame) found = cond (goes (steps.LockFrame frame) found) (follows.Sweep frame) follows.Nothing
follow_of (steps.LockPage page) found = cond (goes (steps.LockPage page) found) follows.SweepAll follows.Nothing
follow_of step found = follows.Nothing

-- the frames that are to be swept, of so many, if a page is locked
abbrev pub IsToSweep : ℕ → Follow → ℕ → Type 0
IsToSweep frames (follows.Sweep frame) f = f ≡ frame.0
IsToSweep frames follows.SweepAll f = f < frames
IsToSweep frames follow f = ⊥

-- the lock of a frame that is to be swept is listed
abbrev pub IsListed : Follow → View → Type 0
IsListed (follows.Sweep frame) v = 0 < locks_on frame.0 v.locks
IsListed follow v = Unit {0}

-- the guard, but for them
abbrev pub IsAlmostGuarded : ℕ → ℕ → Follow → View → Caching → Type 0
IsAlmostGuarded places frames follow v k = 0 < length v.pages → (f : ℕ) → 0 < locks_on f v.locks → IsToSweep frames follow f ⊎ (places ≤ upto_of f k.cleared)

abbrev pub sweep_of : Frame → Follow
sweep_of frame = follows.Sweep frame

-- the same seat, which may know more of the caches: of no frame fewer entries are cleared
pub record IsSweptOn (m n : Me) : Type 0 where
  pub rest : n ≡ with_caching n.0.caching m
  pub grows : (f : ℕ) → upto_of f m.0.caching.cleared ≤ upto_of f n.0.caching.cleared

-- the frames whose slots are among these have their locks listed
abbrev pub AreLocked : ℕ → List ℕ → Me → Type 0
AreLocked frames order m = EachMember (λ (f : ℕ). f < frames → 0 < times f (locks_in m.0.known.mines)) order

-- no entry of so many names one of them
abbrev pub AreSwept : ℕ → ℕ → List ℕ → Caching → Type 0
AreSwept places frames order k = EachMember (λ (f : ℕ). f < frames → places ≤ upto_of f k.cleared) order
