-- What a memory failure finds of a page, and what it does to the page's state.
use Rattle.std.specs.Prelude.{ℕ, Bool, true, false, cond, Option, Some, None, List}
use Rattle.std.specs.FinSet as set
use Rattle.hwp_kill.specs.hwp_geom.declared.PageKind.{PageKind}
use Rattle.hwp_kill.specs.hwp_geom.declared.PageKind.TheVariants.{Anon, File}
use Rattle.hwp_page.specs.declared.state.PageState.{PageState}
use Rattle.hwp_page.specs.declared.situation.Situation.{Situation}
use Rattle.hwp_page.specs.declared.situation.Situation.TheVariants.{Free, Kernel, FileClean, FileDirty, AnonOnly, SwapClean, SwapDirty, LockedClean, LockedFile, LockedAnon}

-- the situation of an anonymous page that isn't locked
abbrev pub anon_situation : Bool → Option (List ℕ) → Situation
anon_situation dirty None = AnonOnly
anon_situation dirty (Some words) = cond dirty SwapDirty SwapClean

-- the situation of a page of this kind, locked or not, dirty or not, with or without content behind it
abbrev pub situation_by : PageKind → Bool → Bool → Option (List ℕ) → Situation
situation_by (File file fill) locked dirty back = cond locked (cond dirty LockedFile LockedClean) (cond dirty FileDirty FileClean)
situation_by Anon locked dirty back = cond locked LockedAnon (anon_situation dirty back)

-- the situation of a failure of the page's frame
abbrev pub situation_of : PageState → Situation
situation_of s = situation_by s.kind s.locked s.dirty s.back

-- the content behind the page, or its own where there is none
abbrev pub content_behind : PageState → Option (List ℕ) → List ℕ
content_behind s None = s.val
content_behind s (Some words) = words

-- the page leaves its frame, and no translation is in use
abbrev pub unmapped : PageState → PageState
unmapped s = record s { maps = set.empty; cached = false }

-- the page leaves its frame, and the translations that were in use have a poison entry
abbrev pub barred : PageState → PageState
barred s = record s { maps = set.empty; bar = set.union s.bar s.maps; cached = false }

-- the state after a failure in this situation
abbrev pub acted : PageState → Situation → PageState
acted s Free = s
acted s Kernel = s
acted s FileClean = unmapped s
acted s FileDirty = record (barred s) { val = content_behind s s.back; dirty = false }
acted s AnonOnly = record (barred s) { lost = true }
acted s SwapClean = unmapped s
acted s SwapDirty = record (unmapped s) { lost = true }
acted s LockedClean = unmapped s
acted s LockedFile = record (barred s) { val = content_behind s s.back; dirty = false }
acted s LockedAnon = record (barred s) { lost = true }
