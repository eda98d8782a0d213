-- What a processor carries from one command to the next.
use Rattle.std.specs.Prelude.{◌≡◌, ℕ, ◌<◌, ◌≤◌, Bool, true, false, List, ◌++◌, map, length, replicate, slice_get, unwrap_or, Option, Some, None}
use Rattle.hwp_claim.specs.hwp_geom.declared.FileNo.{FileNo}
use Rattle.hwp_claim.specs.hwp_geom.declared.Frame.{Frame}
use Rattle.hwp_claim.specs.hwp_geom.declared.Layout.{Layout}
use Rattle.hwp_claim.specs.hwp_banks.Banks.{empty_banks}
use Rattle.hwp_claim.specs.hwp_core_rule.Lists.{EachMember}
use Rattle.hwp_claim.specs.hwp_law.hwp_cec.Ages.{CecEvent, Note}
use Rattle.hwp_claim.specs.hwp_law.hwp_cec.Counters.{Counters, StandsFor}
use Rattle.hwp_claim.specs.hwp_law.Watched.{Watched, offlining}
use Rattle.hwp_cpu_row.specs.declared.local.Local.{Local}
use Rattle.hwp_cpu_row.specs.declared.local.Watching.{Watching}
use Rattle.hwp_cpu_row.specs.CowLists.{first_cows}
use Rattle.hwp_cpu_row.specs.GuestLists.{first_guests}

-- a collector for so many frames that doesn't collect
abbrev pub IsOff : ℕ → Watching → Type 0
IsOff frames w = (w.on ≡ false) × (length w.collector.counts ≡ frames)

-- room for a collector is there where the processor watches
abbrev pub HasRoom : ℕ → Bool → Option Watching → Type 0
HasRoom frames true (Some w) = IsOff frames w
HasRoom frames false None = Unit {0}
HasRoom frames _ _ = ⊥

-- at first: its banks are empty, the handle of each file has the number 0, nothing is collected, no translation is frozen, and no guest has a bad
-- frame
pub record IsFirst (layout : Layout) (watches : Bool) (l : Local) : Type 0 where
  pub banks : l.banks ≡ empty_banks
  pub handles : l.handles ≡ replicate layout.files 0
  pub watching : HasRoom layout.frames watches l.watching
  pub cows : l.cows ≡ first_cows layout
  pub guests : l.guests ≡ first_guests layout

-- the number of the file's handle
abbrev pub number_in : List ℕ → FileNo → ℕ
number_in handles file = unwrap_or (slice_get handles file.0) 0

-- whether a processor collects corrected errors
abbrev pub collects : Option Watching → Bool
collects None = false
collects (Some w) = w.on

-- the counters stand for what the collector of a processor was told since its `watch`
pub record IsCollecting (v : Watched) (w : Watching) : Type 0 where
  pub on : w.on ≡ true
  pub threshold : w.collector.threshold ≡ v.threshold
  pub window : w.collector.window ≡ v.window
  pub stands : StandsFor v.events w.collector

-- what it has is the collector of these events, where there is one, for so many frames
abbrev pub IsWatching : ℕ → Option Watched → Option Watching → Type 0
IsWatching frames None None = Unit {0}
IsWatching frames None (Some w) = IsOff frames w
IsWatching frames (Some v) (Some w) = IsCollecting v w × (length w.collector.counts ≡ frames)
IsWatching frames (Some v) None = ⊥

-- the notes lead from these counters to those, and these frames are due, in order
pub record Collects (notes : List Frame) (c after : Counters) (due : List Frame) : Type 0 where
  pub threshold : after.threshold ≡ c.threshold
  pub window : after.window ≡ c.window
  pub many : length after.counts ≡ length c.counts
  pub few : length due ≤ length notes
  pub within : EachMember (λ (f : Frame). f.0 < length c.counts) due
  pub stands : (events : List CecEvent) → StandsFor events c → StandsFor (events ++ map Note notes) after × (due ≡ offlining (record { threshold = c.threshold; window = c.window; events = events }) notes)
