-- The accesses of a copy that went well: what was told of each, and what the command made by it. This project's rule.
use Rattle.std.specs.Prelude.{◌≡◌, ◌⊎◌, ℕ, List, [], ◌∷◌, ◌++◌, IsBitSet, length, map}
use Rattle.std.specs.List.{flat_map}
use Rattle.hwp_fault.specs.hwp_geom.declared.Layout.{Layout}
use Rattle.hwp_fault.specs.hwp_geom.declared.Mode.TheVariants as modes
use Rattle.hwp_fault.specs.hwp_geom.declared.Page.{Page}
use Rattle.hwp_fault.specs.hwp_geom.declared.VSlot.{VSlot}
use Rattle.hwp_fault.specs.hwp_geom.declared.Who.{Who}
use Rattle.hwp_fault.specs.hwp_page.declared.At.{At}
use Rattle.hwp_fault.specs.hwp_page.declared.What.TheVariants as entries
use Rattle.hwp_fault.specs.hwp_page.Refusals.{IsUnused}
use Rattle.hwp_fault.specs.hwp_core_rule.declared.Made.{Made}
use Rattle.hwp_fault.specs.hwp_core_rule.declared.View.{View}
use Rattle.hwp_fault.specs.hwp_core_rule.Lists.{EachMember}
use Rattle.hwp_fault.specs.hwp_core_rule.Known.{IsAt, Precedes}
use Rattle.hwp_fault.specs.hwp_core_rule.Pages.{SawState}
use Rattle.hwp_fault.specs.declared.Request.{Request}
use Rattle.hwp_fault.specs.Accesses.{what_of}
use Rattle.hwp_claim.specs.Checks.{Check, left_by}
use Rattle.hwp_claim.specs.hwp_banks.Banks.{Banks}
use Rattle.hwp_claim.specs.hwp_banks.declared.Origin.TheVariants as origins
use Rattle.hwp_fork.specs.declared.cow.Cow.{Cow}
use Rattle.hwp_fork.specs.declared.cow.Sub.{Sub}
use Rattle.hwp_fork.specs.declared.cow.Sub.TheVariants as subs
use Rattle.hwp_fork.specs.Cows as cows
use Rattle.hwp_cpu_access.specs.Checks.{AreChecks}
use Rattle.hwp_cpu_access.specs.Fits.{checks_in}
use Rattle.hwp_cpu_access.specs.Copyings.{load_of, store_of}
use Rattle.hwp_cpu_access.specs.Looks.{StandBefore}

-- an access that went well, or the freeing: the word that was told of it, the entries that the command made by it, in their order, its
-- machine checks, and the place of the entry that answers it, or at which the page was seen
pub record Run : Type 0 where
  pub word : ℕ
  pub made : List Made
  pub checks : List Check
  pub place : At

abbrev pub words_of : List Run → List ℕ
words_of runs = map (λ (r : Run). r.word) runs

abbrev pub made_by : List Run → List Made
made_by runs = flat_map (λ (r : Run). r.made) runs

abbrev pub checks_by : List Run → List Check
checks_by runs = flat_map (λ (r : Run). r.checks) runs

-- such an entry may stand before the one that answers an access: the access made it on its way, or by it a page left a frame that was taken
-- out of use while the access paused
abbrev pub IsBetween : Request → Made → Type 0
IsBetween a m = Precedes a.page a.slot a.line m ⊎ (m.entry.what ≡ entries.Soft)

-- an access of which this word was told: of its entries the last one answers it, and is the only one that does
pub record IsAccessRun (layout : Layout) (view : View) (a : Request) (banks : Banks) (r : Run) : Type 0 where
  pub before : List Made
  pub last : Made
  pub made_is : r.made ≡ before ++ last ∷ []
  pub such : EachMember (IsBetween a) before
  pub mask : ℕ
  pub good : ¬ IsBitSet mask a.line
  pub page_is : r.place.page ≡ a.page
  pub answers : IsAt a.page r.place.entry (what_of a mask r.word) last
  pub checked : AreChecks layout view a origins.Access modes.User banks r.checks
  pub counted : checks_in r.made ≡ length r.checks

-- the freeing: one entry; or none, where a step of the command saw, after so many entries of the page, that the translation wasn't in use
pub record IsFreeRun (layout : Layout) (view : View) (who : Who) (page : Page) (slot : VSlot) (r : Run) : Type 0 where
  pub made_is : (r.made ≡ []) ⊎ ((m : Made) × (r.made ≡ m ∷ []) × (m.page ≡ page) × (m.entry.what ≡ entries.Free slot))
  pub unused : r.made ≡ [] → SawState layout view who page r.place.entry (IsUnused slot)
  pub unchecked : r.checks ≡ []

-- where it made no entry, that step saw the page behind all that the command had made in it by these accesses
abbrev pub LooksLast : Page → List Run → Run → Type 0
LooksLast page runs freed = freed.made ≡ [] → StandBefore page freed.place.entry (made_by runs)

abbrev pub IsRun : Layout → View → Request → Page → Banks → Run → Sub → Type 0
IsRun layout view store page banks r (subs.Load slot line) = IsAccessRun layout view (load_of store page slot line) banks r
IsRun layout view store page banks r (subs.Store slot line word) = IsAccessRun layout view (store_of store slot line word) banks r
IsRun layout view store page banks r (subs.Free slot) = IsFreeRun layout view store.who page slot r
IsRun layout view store page banks r subs.Switched = ⊥

-- one after the other, in the order of the copy; each machine check leaves the banks empty
abbrev pub AreRuns : Layout → View → Request → Page → Cow → Banks → List Run → Type 0
AreRuns layout view store page cow banks [] = Unit {0}
AreRuns layout view store page cow banks (r ∷ rs) =
    IsRun layout view store page banks r (cows.sub_of cow) × AreRuns layout view store page (cows.told_by cow r.word) (left_by banks r.checks) rs
