-- The lowest line that the entries of a report ask for, as they are gone through.
use Rattle.std.specs.Prelude.{◌≡◌, ℕ, ◌+◌, Bool, true, List, [], ◌∷◌, Option, Some, MatchOption, slice_get, sum_by, take}
use Rattle.hwp_check_rules.specs.hwp_page.declared.Entry.{Entry}
use Rattle.hwp_check_rules.specs.Firsts.{IsLeast, sooner_if}
use Rattle.hwp_check_rules.specs.Standing.{entry_height, page_height}

-- an entry that asks, standing on a line, asks for a line; found is the lowest so far
abbrev pub walk_entries : (Entry → Bool) → (Entry → ℕ → ℕ) → ℕ → Option ℕ → List Entry → Option ℕ
walk_entries asks wants line found [] = found
walk_entries asks wants line found (e ∷ es) = walk_entries asks wants (line + entry_height e) (sooner_if (asks e) found (wants e line)) es

-- the same of pages, the first of which has its heading on the line
abbrev pub walk_pages : (Entry → Bool) → (Entry → ℕ → ℕ) → ℕ → Option ℕ → List (List Entry) → Option ℕ
walk_pages asks wants line found [] = found
walk_pages asks wants line found (es ∷ rest) = walk_pages asks wants (line + page_height es) (walk_entries asks wants (line + 1) found es) rest

-- an entry among these asks for the line
pub record IsAsked (asks : Entry → Bool) (wants : Entry → ℕ → ℕ) (first : ℕ) (list : List Entry) (line : ℕ) : Type 0 where
  pub place : ℕ
  pub entry : Entry
  pub there : slice_get list place ≡ Some entry
  pub so : asks entry ≡ true
  pub line_is : line ≡ wants entry (first + sum_by entry_height (take place list))

pub record IsAskedIn (asks : Entry → Bool) (wants : Entry → ℕ → ℕ) (first : ℕ) (pages : List (List Entry)) (line : ℕ) : Type 0 where
  pub page : ℕ
  pub list : List Entry
  pub shown : slice_get pages page ≡ Some list
  pub asked : IsAsked asks wants (first + sum_by page_height (take page pages) + 1) list line

-- none is so, or the one that was found is the lowest that is
abbrev pub IsLowest : (ℕ → Type 0) → Option ℕ → Type 0
IsLowest P found = MatchOption found ((line : ℕ) → P line → ⊥) (IsLeast P)
