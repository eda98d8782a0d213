-- The step of a page: which entry a state allows, and the state after it. A pair of a state and an entry that no case
-- lists has no step.
use Rattle.std.specs.Prelude.{◌≡◌, ◌≢◌, ℕ, ◌<◌, Bool, true, false, Option, Some, None, List, [], ◌⊎◌, slice_get, slice_index, slice_set, replicate, IsSomeAnd, IsBitSet, IsTrue, IsFalse, MatchBool}
use Rattle.std.specs.Ordering.{nat_cmp}
use Rattle.std.specs.FinSet as set
use Rattle.hwp_kill.specs.hwp_geom.declared.Layout.{Layout}
use Rattle.hwp_kill.specs.hwp_geom.declared.Page.{Page}
use Rattle.hwp_kill.specs.hwp_geom.declared.VSlot.{VSlot}
use Rattle.hwp_kill.specs.hwp_geom.declared.Thread.{Thread}
use Rattle.hwp_kill.specs.hwp_geom.declared.TransDecl.{TransDecl}
use Rattle.hwp_kill.specs.hwp_geom.declared.PageKind.{PageKind}
use Rattle.hwp_kill.specs.hwp_geom.declared.PageKind.TheVariants.{Anon, File}
use Rattle.hwp_kill.specs.hwp_geom.Limits.{line_limit}
use Rattle.hwp_kill.specs.Limits.{slot_limit}
use Rattle.hwp_kill.specs.declared.Seen.{Seen}
use Rattle.hwp_kill.specs.declared.Signal.{Signal}
use Rattle.hwp_kill.specs.Kill.{Killed, PoliciesRead}
use Rattle.hwp_page.specs.declared.state.PageState.{PageState}
use Rattle.hwp_page.specs.declared.entry.What.{What}
use Rattle.hwp_page.specs.declared.entry.What.TheVariants.{Load, Store, FaultIn, Map, Free, Drop, Sync, Out, Mce, Fail, Soft}
use Rattle.hwp_page.specs.declared.entry.Met.TheVariants.{Word, Sigbus}
use Rattle.hwp_page.specs.declared.situation.Situation.{Situation}
use Rattle.hwp_page.specs.Situations.{is_signalling, always_signals}
use Rattle.hwp_page.specs.Actions.{situation_of, acted, unmapped}

-- the translation belongs to the page
abbrev pub IsOf : Layout → Page → VSlot → Type 0
IsOf layout page slot = IsSomeAnd (slice_get layout.trans slot.0) (λ (t : TransDecl). t.page ≡ page)

-- the thread is one of the translation's process
abbrev pub IsThreadOf : Layout → Thread → VSlot → Type 0
IsThreadOf layout thread slot =
    IsSomeAnd (slice_get layout.threads thread.0) (λ t. IsSomeAnd (slice_get layout.trans slot.0) (λ (v : TransDecl). t.process ≡ v.process))

-- an access through the translation is answered by SIGBUS
abbrev pub IsRefused : Layout → Page → PageState → Thread → VSlot → Type 0
IsRefused layout page s thread slot =
    IsOf layout page slot × IsThreadOf layout thread slot × (IsTrue (set.contains s.bar slot.0) ⊎ (s.lost ≡ true))

-- a file stands behind a page of this kind
abbrev pub is_file : PageKind → Bool
is_file Anon = false
is_file (File file fill) = true

-- the threads whose policies a failure reads: those of the kill table where the failure signals, and else none
abbrev pub IsSeenList : Layout → set.FinSet nat_cmp → Bool → Option Thread → List Seen → Type 0
IsSeenList layout maps signals required seen = MatchBool signals (PoliciesRead layout maps required seen) (seen ≡ [])

-- a failure of the page's frame: in the actual situation, with the policies that it reads and the signals of the kill table
pub record IsFailure (layout : Layout) (s : PageState) (situation : Situation) (required : Option Thread) (seen : List Seen) (signals : List Signal) : Type 0 where
  pub cached : s.cached ≡ true
  pub actual : situation ≡ situation_of s
  pub policies : IsSeenList layout s.maps (is_signalling situation) required seen
  pub killed : Killed layout s.maps (is_signalling situation) (always_signals situation) required seen signals

-- the translation can come into use
abbrev pub CanMap : Layout → Page → PageState → VSlot → Type 0
CanMap layout page s slot =
    (s.cached ≡ true) × IsOf layout page slot × IsFalse (set.contains s.maps slot.0) × IsFalse (set.contains s.bar slot.0)

-- the page can leave its frame at once: it isn't locked, nothing uses it, and its content stands behind it
pub record IsDroppable (s : PageState) : Type 0 where
  pub cached : s.cached ≡ true
  pub unused : s.maps ≡ set.empty
  pub clean : s.dirty ≡ false
  pub backed : s.back ≢ None
  pub unlocked : s.locked ≡ false

-- the state allows the entry
abbrev pub Allowed : Layout → Page → PageState → What → Type 0
Allowed layout page s (Load slot line (Word mask word)) =
    IsTrue (set.contains s.maps slot.0) × (¬ IsBitSet mask.0 line) × (slice_index s.val line ≡ word)
Allowed layout page s (Load slot line (Sigbus thread)) = IsRefused layout page s thread slot
Allowed layout page s (Store slot line (Word mask word)) = IsTrue (set.contains s.maps slot.0) × (¬ IsBitSet mask.0 line)
Allowed layout page s (Store slot line (Sigbus thread)) = IsRefused layout page s thread slot
Allowed layout page s FaultIn = (s.cached ≡ false) × (s.lost ≡ false)
Allowed layout page s (Map slot) = CanMap layout page s slot
Allowed layout page s (Free slot) = IsTrue (set.contains s.maps slot.0)
Allowed layout page s Drop = IsDroppable s
Allowed layout page s Sync = (is_file s.kind ≡ true) × (s.cached ≡ true)
Allowed layout page s Out = (is_file s.kind ≡ false) × (s.cached ≡ true) × (s.locked ≡ false)
Allowed layout page s (Mce slot line mask) = IsTrue (set.contains s.maps slot.0) × IsBitSet mask.0 line
Allowed layout page s (Fail situation required seen signals) = IsFailure layout s situation required seen signals
Allowed layout page s Soft = s.cached ≡ true

-- a set of translations has room for the one that the entry maps
abbrev pub MapsWithin : What → Type 0
MapsWithin (Map slot) = slot.0 < slot_limit
MapsWithin _ = Unit {0}

-- the state after an entry
abbrev pub after : PageState → What → PageState
after s (Load slot line met) = s
after s (Store slot line (Word mask word)) = record s { val = slice_set s.val line word; dirty = true }
after s (Store slot line (Sigbus thread)) = s
after s FaultIn = record s { cached = true }
after s (Map slot) = record s { maps = set.insert s.maps slot.0 }
after s (Free slot) = record s { maps = set.remove s.maps slot.0 }
after s Drop = record s { cached = false }
after s Sync = record s { back = Some s.val; dirty = false }
after s Out = record (unmapped s) { back = Some s.val; dirty = false }
after s (Mce slot line mask) = s
after s (Fail situation required seen signals) = acted s situation
after s Soft = s

-- the word that a page of this kind has on every line at opening
abbrev pub first_word : PageKind → ℕ
first_word Anon = 0
first_word (File file fill) = fill

-- what stands behind a page of this kind at opening
abbrev pub first_back : PageKind → Option (List ℕ)
first_back Anon = None
first_back (File file fill) = Some (replicate line_limit fill)

-- the state at opening of a page of this kind, locked or not
abbrev pub opening_of : PageKind → Bool → PageState
opening_of kind locked = record {
  kind = kind;
  val = replicate line_limit (first_word kind);
  back = first_back kind;
  dirty = false;
  cached = false;
  maps = set.empty;
  bar = set.empty;
  lost = false;
  locked = locked;
}
