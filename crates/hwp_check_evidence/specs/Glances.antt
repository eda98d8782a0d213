-- The states of pages at all places of their histories, as far as answers tell of them.
use Rattle.std.specs.Prelude.{◌≡◌, ◌==◌, ◌&&◌, ◌||◌, ℕ, ◌+◌, ◌*◌, ◌-◌, ◌/◌, ◌%◌, Bool, true, false, not, cond, List, [], ◌∷◌, ◌++◌, Option, Some, drop, fold, length, slice_get, take, unwrap_or, option_and_then, option_map}
use Rattle.std.specs.FinSet as set
use Rattle.std.specs.List.{All}
use Rattle.std.specs.Option.{is_none}
use Rattle.std.specs.Ordering.{nat_cmp}
use Rattle.hwp_law.specs.hwp_geom.Layout.{is_locked}
use Rattle.hwp_law.specs.hwp_geom.declared.Layout.{Layout}
use Rattle.hwp_law.specs.hwp_geom.declared.PageKind.{PageKind}
use Rattle.hwp_law.specs.hwp_geom.declared.VSlot.{VSlot}
use Rattle.hwp_law.specs.hwp_page.History.{state_after}
use Rattle.hwp_law.specs.hwp_page.Step.{MapsWithin, after, opening_of}
use Rattle.hwp_law.specs.hwp_page.declared.At.{At}
use Rattle.hwp_law.specs.hwp_page.declared.Entry.{Entry}
use Rattle.hwp_law.specs.hwp_page.declared.PageState.{PageState}
use Rattle.hwp_law.specs.hwp_page.declared.Situation.{Situation}
use Rattle.hwp_law.specs.hwp_page.declared.Situation.TheVariants as situations
use Rattle.hwp_law.specs.hwp_page.declared.What.{What}
use Rattle.hwp_law.specs.hwp_page.declared.What.TheVariants as entries
use Rattle.hwp_check_evidence.specs.declared.glances.Glance.{Glance}
use Rattle.hwp_check_evidence.specs.declared.glances.PageGlances.{PageGlances}

-- the set has a member
abbrev pub is_held : set.FinSet nat_cmp → Bool
is_held slots = not (set.len slots == 0)

-- what answers tell of a state
abbrev pub glance_of : PageState → Glance
glance_of s = record { cached = s.cached; unsaved = s.dirty || is_none s.back; mapped = is_held s.maps }

-- that of the state before each of some entries and behind the last
abbrev pub glances_from : PageState → List Entry → List Glance
glances_from s [] = glance_of s ∷ []
glances_from s (e ∷ rest) = glance_of s ∷ glances_from (after s e.what) rest

-- the translations in use are kept behind each so many entries
abbrev pub stride : ℕ
stride = 64

-- the sets that are kept, where these translations are in use behind so many entries
abbrev pub kept_with : List (set.FinSet nat_cmp) → set.FinSet nat_cmp → ℕ → List (set.FinSet nat_cmp)
kept_with kept slots count = cond (count % stride == 0) (kept ++ slots ∷ []) kept

-- they are right behind so many entries
pub record AreKept (s : PageState) (entries : List Entry) (count : ℕ) (kept : List (set.FinSet nat_cmp)) : Type 0 where
  pub many : length kept ≡ count / stride
  pub each : (k : ℕ) (slots : set.FinSet nat_cmp) → slice_get kept k ≡ Some slots → slots ≡ (state_after s (take ((k + 1) * stride) entries)).maps

-- what is known of a page's states is right
pub record IsPage (kind : PageKind) (locked : Bool) (entries : List Entry) (page : PageGlances) : Type 0 where
  pub glances : page.glances ≡ glances_from (opening_of kind locked) entries
  pub kept : AreKept (opening_of kind locked) entries (length entries) page.maps.items

-- the same of each page
pub record AreGlances (layout : Layout) (pages : List (List Entry)) (all : List PageGlances) : Type 0 where
  pub many : length layout.pages ≡ length pages
  pub as_many : length all ≡ length pages
  pub each : (page : ℕ) (kind : PageKind) (entries : List Entry) (found : PageGlances) → slice_get layout.pages page ≡ Some kind → slice_get pages page ≡ Some entries
      → slice_get all page ≡ Some found → IsPage kind (is_locked layout (record { 0 = page })) entries found

-- what is to be seen at a place
abbrev pub glance_at : List PageGlances → At → Option Glance
glance_at all at = option_and_then (λ (page : PageGlances). slice_get page.glances at.entry) (slice_get all at.page.0)

-- a failure in this situation leaves the translations in use
abbrev pub is_left : Situation → Bool
is_left situations.Free = true
is_left situations.Kernel = true
is_left _ = false

-- whether the translation is in use behind what happened, where it was or wasn't before; and behind some entries
abbrev pub used_by : VSlot → Bool → What → Bool
used_by slot used (entries.Map other) = (slot.0 == other.0) || used
used_by slot used (entries.Free other) = not (slot.0 == other.0) && used
used_by slot used entries.Out = false
used_by slot used (entries.Fail situation required seen signals) = is_left situation && used
used_by slot used _ = used

abbrev pub used_behind : VSlot → Bool → List Entry → Bool
used_behind slot used list = fold (λ (u : Bool) (e : Entry). used_by slot u e.what) used list

-- whether it is in the set of this number, from 1; and in use behind so many entries
abbrev pub was_kept : List (set.FinSet nat_cmp) → ℕ → VSlot → Bool
was_kept kept number slot = cond (number == 0) false (unwrap_or (option_map (λ (slots : set.FinSet nat_cmp). set.contains slots slot.0) (slice_get kept (number - 1))) false)

abbrev pub used_at : List (set.FinSet nat_cmp) → List Entry → VSlot → ℕ → Bool
used_at kept list slot place =
    used_behind slot (was_kept kept (place / stride) slot) (take (place - place / stride * stride) (drop (place / stride * stride) list))

-- each entry that brings a translation into use names one that can be declared
abbrev pub AreLegalSteps : List (List Entry) → Type 0
AreLegalSteps pages = (page : ℕ) (list : List Entry) → slice_get pages page ≡ Some list → All (λ (e : Entry). MapsWithin e.what) list
