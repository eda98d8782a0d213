-- What the commands ask by which a page, or a part of it, leaves its frame: the entry that each makes, and why it is refused.
use Rattle.std.specs.Prelude.{◌≡◌, ◌≢◌, ◌<◌, Bool, true, false, List, Option, slice_get, IsTrue, IsSomeAnd, MatchOption}
use Rattle.std.specs.FinSet as set
use Rattle.hwp_core.specs.hwp_geom.declared.Frame.{Frame}
use Rattle.hwp_core.specs.hwp_geom.declared.Layout.{Layout}
use Rattle.hwp_core.specs.hwp_geom.declared.Page.{Page}
use Rattle.hwp_core.specs.hwp_geom.declared.PageKind.{PageKind}
use Rattle.hwp_core.specs.hwp_geom.declared.Who.{Who}
use Rattle.hwp_core.specs.hwp_page.declared.At.{At}
use Rattle.hwp_core.specs.hwp_page.declared.PageState.{PageState}
use Rattle.hwp_core.specs.hwp_page.declared.What.{What}
use Rattle.hwp_core.specs.hwp_page.declared.What.TheVariants as entries
use Rattle.hwp_core.specs.hwp_page.Refusals.{IsAway, IsDirty, IsLockedIn, IsMapped, IsUnsaved, IsUnused}
use Rattle.hwp_core.specs.hwp_page.Step.{IsOf, is_file}
use Rattle.hwp_core.specs.hwp_core_rule.declared.Made.{Made}
use Rattle.hwp_core.specs.hwp_core_rule.declared.View.{View}
use Rattle.hwp_core.specs.hwp_core_rule.Known.{HasMadeBeside, HasMadeNoneBeside, SawBadOf, SawStop}
use Rattle.hwp_core.specs.hwp_core_rule.Pages.{SawState}
use Rattle.hwp_evict.specs.declared.evict.EvictAnswer.{EvictAnswer}
use Rattle.hwp_evict.specs.declared.evict.EvictAnswer.TheVariants as answers
use Rattle.hwp_evict.specs.declared.evict.Eviction.{Eviction}
use Rattle.hwp_evict.specs.declared.evict.Eviction.TheVariants as evictions
use Rattle.hwp_evict.specs.declared.evict.Refusal.{Refusal}
use Rattle.hwp_evict.specs.declared.evict.Refusal.TheVariants as refusals

-- the entry that the command makes
abbrev pub entry_of : Eviction → What
entry_of (evictions.Free slot) = entries.Free slot
entry_of evictions.Sync = entries.Sync
entry_of evictions.Drop = entries.Drop
entry_of evictions.Out = entries.Out

-- the command copies the page's content
abbrev pub copies : Eviction → Bool
copies (evictions.Free slot) = false
copies evictions.Sync = true
copies evictions.Drop = false
copies evictions.Out = true

-- the command's page is one that it can be of: the translation's, a file's, or one without a file
abbrev pub IsOfKind : Layout → Page → Eviction → Type 0
IsOfKind layout page (evictions.Free slot) = IsOf layout page slot
IsOfKind layout page evictions.Sync = IsSomeAnd (slice_get layout.pages page.0) (λ (kind : PageKind). is_file kind ≡ true)
IsOfKind layout page evictions.Drop = Unit {0}
IsOfKind layout page evictions.Out = IsSomeAnd (slice_get layout.pages page.0) (λ (kind : PageKind). is_file kind ≡ false)

-- why the command is refused where no frame holds the page
abbrev pub absence : Eviction → Refusal
absence (evictions.Free slot) = refusals.NotMapped
absence evictions.Sync = refusals.NotResident
absence evictions.Drop = refusals.NotResident
absence evictions.Out = refusals.NotResident

-- a page in this state, which a frame holds, lets the command go on
abbrev pub Passes : Eviction → PageState → Type 0
Passes (evictions.Free slot) s = IsTrue (set.contains s.maps slot.0)
Passes evictions.Sync s = Unit {0}
Passes evictions.Drop s = (s.locked ≡ false) × (¬ IsUnsaved s) × (s.maps ≡ set.empty)
Passes evictions.Out s = s.locked ≡ false

-- it bars the command for this reason
abbrev pub Bars : Eviction → PageState → Refusal → Type 0
Bars (evictions.Free slot) s refusals.NotMapped = IsUnused slot s
Bars evictions.Drop s refusals.Locked = s.locked ≡ true
Bars evictions.Drop s refusals.Dirty = (s.locked ≡ false) × IsUnsaved s
Bars evictions.Drop s refusals.Mapped = (s.locked ≡ false) × (¬ IsUnsaved s) × (s.maps ≢ set.empty)
Bars evictions.Out s refusals.Locked = s.locked ≡ true
Bars what s refusal = ⊥

abbrev pub IsJudged : Eviction → PageState → Option Refusal → Type 0
IsJudged what s verdict = MatchOption verdict (Passes what s) (Bars what s)

-- the state in which a page is left as it is for this reason
abbrev pub IsWhy : Eviction → Refusal → PageState → Type 0
IsWhy (evictions.Free slot) refusals.NotMapped s = IsUnused slot s
IsWhy evictions.Sync refusals.NotResident s = IsAway s
IsWhy evictions.Sync (refusals.BadLines mask) s = s.cached ≡ true
IsWhy evictions.Drop refusals.NotResident s = IsAway s
IsWhy evictions.Drop refusals.Locked s = IsLockedIn s
IsWhy evictions.Drop refusals.Dirty s = IsDirty s
IsWhy evictions.Drop refusals.Mapped s = IsMapped s
IsWhy evictions.Out refusals.NotResident s = IsAway s
IsWhy evictions.Out refusals.Locked s = IsLockedIn s
IsWhy evictions.Out (refusals.BadLines mask) s = (s.cached ≡ true) × (s.locked ≡ false)
IsWhy what refusal s = ⊥

-- the bad lines were shown, of a frame that the page owns
abbrev pub SawLines : Layout → View → Who → Page → Refusal → Type 0
SawLines layout view who page (refusals.BadLines mask) = (mask.0 ≢ 0) × ((frame : Frame) × (frame.0 < layout.frames) × SawBadOf view who page frame mask.0)
SawLines layout view who page refusal = Unit {0}

-- the command saw the page, after so many entries, in a state that bars it for this reason
pub record SawRefusal (layout : Layout) (view : View) (who : Who) (page : Page) (what : Eviction) (refusal : Refusal) (at : At) : Type 0 where
  pub page_is : at.page ≡ page
  pub state : SawState layout view who page at.entry (IsWhy what refusal)
  pub lines : SawLines layout view who page refusal

-- why the command answers so: what a step of it showed, or the one entry that it made beside those that it had made before
abbrev pub IsCaused : List Made → Layout → View → Who → Page → Eviction → EvictAnswer → Type 0
IsCaused base layout view who page what answers.Stopped = HasMadeNoneBeside base view who × SawStop view who
IsCaused base layout view who page what (answers.Done at) = (at.page ≡ page) × HasMadeBeside base (λ m. ⊥) view who page at.entry (entry_of what)
IsCaused base layout view who page what (answers.Refused refusal at) = HasMadeNoneBeside base view who × SawRefusal layout view who page what refusal at
