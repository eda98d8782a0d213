-- What each step makes of what its seat knows of the caches.
use Rattle.std.specs.Prelude.{ℕ, suc, ◌+◌, ◌-◌, ◌<◌, ◌≤◌, ◌==◌, ◌&&◌, nat_lt, cond, List, Option, Some, None, length}
use Rattle.std.specs.Int.{from_bool}
use Rattle.hwp_core_rule.specs.hwp_geom.declared.Layout.{Layout}
use Rattle.hwp_core_rule.specs.declared.Rec.{Rec}
use Rattle.hwp_core_rule.specs.declared.SharedWord.{SharedWord}
use Rattle.hwp_core_rule.specs.declared.SharedWord.TheVariants as places
use Rattle.hwp_core_rule.specs.declared.Step.{Step}
use Rattle.hwp_core_rule.specs.declared.Step.TheVariants as steps
use Rattle.hwp_core_rule.specs.declared.View.{View}
use Rattle.hwp_core_rule.specs.Views.{locks_on, view_after}
use Rattle.hwp_table_words.specs.tlb.Caching.{Caching, Cleared, Shown, upto_of, with_upto, without_frame}
use Rattle.hwp_table_words.specs.tlb.Rule.{times}
use Rattle.hwp_table_words.specs.tlb.Words.{is_of}

-- a load of a translation that leads to a frame whose lock the seat has
abbrev pub shown_by : SharedWord → ℕ → List ℕ → Option Shown
shown_by (places.Trans slot) found locks = cond (nat_lt 0 found && nat_lt 0 (times (found - 1) locks)) (Some (record { slot = slot.0; frame = found - 1 })) None
shown_by place found locks = None

abbrev pub shown_after : Step → ℕ → List ℕ → Option Shown
shown_after (steps.Load place) found locks = shown_by place found locks
shown_after step found locks = None

-- an adopted frame is named by no entry, and of one that is unlocked nothing is known
abbrev pub cleared_after : ℕ → Step → List Cleared → List Cleared
cleared_after places (steps.Adopt frame) list = with_upto frame.0 places list
cleared_after places (steps.UnlockFrame frame) list = without_frame frame.0 list
cleared_after places (steps.Retire frame) list = without_frame frame.0 list
cleared_after places step list = list

-- what a step of the frame rule makes of it: the places are all entries of all processors, and the locks are the frames that
-- the step's own view lists
abbrev pub caching_after : ℕ → Step → ℕ → List ℕ → Caching → Caching
caching_after places step found locks k = record {
  cleared = cleared_after places step k.cleared;
  glimpse = None;
  shown = shown_after step found locks;
  counts = k.counts;
}

-- a look for a frame at an entry, which found this word: the entry names the frame, or it is one more that doesn't
abbrev pub looked : ℕ → ℕ → ℕ → Caching → Caching
looked f i found k = cond (is_of f found) (record k { glimpse = Some (record { frame = f; place = i; word = found }) }) (record k { cleared = with_upto f (suc i) k.cleared })

-- an exchange that takes the entry away where it still is the one that was seen: either way the entry doesn't name the frame
-- any more
abbrev pub flushed : ℕ → ℕ → ℕ → ℕ → Caching → Caching
flushed f i seen found k = record k {
  cleared = with_upto f (suc i) k.cleared;
  glimpse = None;
  counts = record k.counts { flushes = k.counts.flushes + from_bool (found == seen) };
}

-- an entry of the frame was written, so that no entry is known to be clear of it
abbrev pub filled : ℕ → Caching → Caching
filled f k = record k {
  cleared = without_frame f k.cleared;
  glimpse = None;
  counts = record k.counts { fills = k.counts.fills + 1 };
}

-- an entry answered a load
abbrev pub hit : Caching → Caching
hit k = record k { counts = record k.counts { hits = k.counts.hits + 1 } }

-- a view that has a page's lock knows of each frame whose lock it has that no entry names it. So a translation is never cleared
-- while an entry of it stays.
abbrev pub IsGuarded : ℕ → View → Caching → Type 0
IsGuarded places v k = 0 < length v.pages → (f : ℕ) → 0 < locks_on f v.locks → places ≤ upto_of f k.cleared

-- what a seat has of a view after a step of the processor
abbrev pub mine_after : Layout → ℕ → Rec → ℕ × View → ℕ × View
mine_after layout c r x = (x.0, cond (x.0 == c) (view_after layout r x.1) x.1)
