-- The entries that the lines of their commands have to name, and the commands whose lines don't name them.
use Rattle.std.specs.Prelude.{◌≡◌, ℕ, ◌+◌, ◌==◌, ◌&&◌, not, Bool, true, false, cond, List, [], ◌∷◌, Some, slice_set, Option}
use Rattle.hwp_law.specs.hwp_geom.declared.Cpu.{Cpu}
use Rattle.hwp_law.specs.hwp_geom.declared.Page.{Page}
use Rattle.hwp_law.specs.hwp_geom.declared.Who.{Who}
use Rattle.hwp_law.specs.hwp_page.declared.At.{At}
use Rattle.hwp_law.specs.hwp_page.declared.Entry.{Entry}
use Rattle.hwp_law.specs.Copies.{must_be_named}
use Rattle.hwp_law.specs.hwp_geom.declared.VSlot.{VSlot}
use Rattle.hwp_law.specs.Places.{entry_at}

-- the entry is one of the processor that a line of its command has to name, and none does
abbrev pub is_other : (ℕ → At → Bool) → (Who → Option VSlot) → Cpu → At → Entry → Bool
is_other named copies cpu at e = (e.who.cpu.0 == cpu.0) && must_be_named (copies e.who) e.what && not (named e.who.seq at)

-- the flags of the commands after the entry
abbrev pub flagged : (ℕ → At → Bool) → (Who → Option VSlot) → Cpu → List Bool → At → Entry → List Bool
flagged named copies cpu flags at e = cond (is_other named copies cpu at e) (slice_set flags e.who.seq true) flags

-- the same after the entries of a page, the first of which has a number
abbrev pub flagged_page : (ℕ → At → Bool) → (Who → Option VSlot) → Cpu → Page → List Bool → ℕ → List Entry → List Bool
flagged_page named copies cpu page flags n [] = flags
flagged_page named copies cpu page flags n (e ∷ rest) = flagged_page named copies cpu page (flagged named copies cpu flags (record { page = page; entry = n }) e) (n + 1) rest

-- and after pages
abbrev pub flagged_pages : (ℕ → At → Bool) → (Who → Option VSlot) → Cpu → List Bool → ℕ → List (List Entry) → List Bool
flagged_pages named copies cpu flags n [] = flags
flagged_pages named copies cpu flags n (list ∷ rest) = flagged_pages named copies cpu (flagged_page named copies cpu (record { 0 = n }) flags 0 list) (n + 1) rest

-- an entry of the command that a line of it has to name stands where none of these places is
pub record HasOther (pages : List (List Entry)) (copies : Who → Option VSlot) (who : Who) (named : At → Bool) : Type 0 where
  pub at : At
  pub entry : Entry
  pub there : entry_at pages at ≡ Some entry
  pub own : entry.who ≡ who
  pub answering : must_be_named (copies who) entry.what ≡ true
  pub other : named at ≡ false
