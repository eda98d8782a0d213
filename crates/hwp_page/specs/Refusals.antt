-- Why a page is left as it is.
use Rattle.std.specs.Prelude.{◌≡◌, ◌≢◌, ◌⊎◌, true, false, None, IsFalse}
use Rattle.std.specs.FinSet as set
use Rattle.hwp_kill.specs.hwp_geom.declared.VSlot.{VSlot}
use Rattle.hwp_page.specs.declared.state.PageState.{PageState}

-- the page is in no frame
abbrev pub IsAway : PageState → Type 0
IsAway s = s.cached ≡ false

-- the translation isn't in use
abbrev pub IsUnused : VSlot → PageState → Type 0
IsUnused slot s = IsFalse (set.contains s.maps slot.0)

-- the page's content does not stand behind it
abbrev pub IsUnsaved : PageState → Type 0
IsUnsaved s = (s.dirty ≡ true) ⊎ (s.back ≡ None)

-- the page is in a frame, and locked
abbrev pub IsLockedIn : PageState → Type 0
IsLockedIn s = (s.cached ≡ true) × (s.locked ≡ true)

-- the page is in a frame and not locked, and its content does not stand behind it
abbrev pub IsDirty : PageState → Type 0
IsDirty s = (s.cached ≡ true) × (s.locked ≡ false) × IsUnsaved s

-- the page is in a frame and not locked, its content stands behind it, and translations lead to it
abbrev pub IsMapped : PageState → Type 0
IsMapped s = (s.cached ≡ true) × (s.locked ≡ false) × (¬ IsUnsaved s) × (s.maps ≢ set.empty)
