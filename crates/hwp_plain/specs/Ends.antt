-- What a board comes to at the end of a run, when no lock is held and no body is in hand.
use Rattle.std.specs.Prelude.{◌≡◌, ℕ, ◌+◌, ◌-◌, ◌==◌, ◌++◌, cond, length, List, map, Option, Some, slice_get}
use Rattle.hwp_core_rule.specs.hwp_geom.declared.Layout.{Layout}
use Rattle.hwp_core_rule.specs.hwp_geom.declared.Page.{Page}
use Rattle.hwp_core_rule.specs.hwp_page.declared.Entry.{Entry}
use Rattle.hwp_core_rule.specs.declared.Log.{Log}
use Rattle.hwp_core_rule.specs.Lists.{Homes, SomeMember}
use Rattle.hwp_plain.specs.declared.machine.Machine.{Machine}
use Rattle.hwp_plain.specs.Openings.{home_with}

-- the slot of a page's body, by the page's cache word: that of the frame that the word names, or the page's shelf
abbrev pub slot_by : ℕ → ℕ → ℕ → ℕ
slot_by frames cache q = cond (cache == 0) (frames + q) (cache - 1)

-- the slot has the body of the page
abbrev pub HasBody : Homes → ℕ → ℕ → Type 0
HasBody homes slot q = (entries : List Entry) × (slice_get homes slot ≡ Some (Some (Some (record { page = record { 0 = q }; entries = entries }))))

-- each page's body is in the slot that its cache word leads to
abbrev pub AreLed : ℕ → List ℕ → Homes → Type 0
AreLed frames caches homes = (q cache : ℕ) → slice_get caches q ≡ Some cache → HasBody homes (slot_by frames cache q) q

-- some slot has the body of the page, with this history
abbrev pub IsHistoryOf : Homes → Page → List Entry → Type 0
IsHistoryOf homes page entries = SomeMember (λ (content : Option (Option Log)). content ≡ Some (Some (record { page = page; entries = entries }))) homes

-- the histories are those of the bodies in the slots, in the order of the pages
abbrev pub AreHistories : Homes → List (List Entry) → Type 0
AreHistories homes pages = (page : Page) (entries : List Entry) → slice_get pages page.0 ≡ Some entries → IsHistoryOf homes page entries

-- the machine has these words, and in its slots, those of the frames first, what is at home here
pub record IsMachineOf (layout : Layout) (words : List ℕ) (homes : Homes) (machine : Machine) : Type 0 where
  pub words_are : machine.words.items ≡ words
  pub homes_are : map home_with (machine.frames.items ++ machine.shelves.items) ≡ homes
  pub frames : length machine.frames.items ≡ layout.frames
  pub shelves : length machine.shelves.items ≡ length layout.pages
