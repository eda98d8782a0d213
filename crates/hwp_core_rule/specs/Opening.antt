-- The board at opening.
use Rattle.std.specs.Prelude.{ℕ, zero, suc, ◌+◌, ◌*◌, Bool, not, cond, List, [], ◌∷◌, ◌++◌, Some, None, map, length, replicate, take, drop}
use Rattle.std.specs.List.{sum_by, concat}
use Rattle.std.specs.Int.{from_bool}
use Rattle.hwp_page.specs.hwp_geom.declared.Layout.{Layout}
use Rattle.hwp_core_rule.specs.declared.log.Log.{Log}
use Rattle.hwp_core_rule.specs.declared.record.State.{State}
use Rattle.hwp_core_rule.specs.declared.view.View.{View}
use Rattle.hwp_core_rule.specs.Lists.{Homes}
use Rattle.hwp_core_rule.specs.Words.{free_words}
use Rattle.hwp_core_rule.specs.Views.{no_debts}

-- the numbers below n
abbrev pub below : ℕ → List ℕ
below zero = []
below (suc n) = below n ++ n ∷ []

-- a frame's word: KERNEL where it is the kernel's, and else 0
abbrev pub opening_frame : Bool → ℕ
opening_frame kernel = cond kernel 8 0

-- the word with a bit for each of these frames that isn't the kernel's, the first in bit 0
abbrev pub free_bits : List Bool → ℕ
free_bits [] = 0
free_bits (kernel ∷ rest) = from_bool (not kernel) + 2 * free_bits rest

abbrev pub opening_free : Layout → ℕ → ℕ
opening_free layout n = free_bits (take 64 (drop (n * 64) layout.kernel))

abbrev pub opening_available : Layout → ℕ
opening_available layout = sum_by (λ (kernel : Bool). from_bool (not kernel)) layout.kernel

-- the policy of a thread is the default, after no setting
abbrev pub opening_policy : ℕ
opening_policy = 2

-- all words: those of each kind after those of the kind before
abbrev pub opening_words : Layout → List ℕ
opening_words layout = concat (
    map opening_frame layout.kernel
    ∷ replicate (length layout.trans) 0
    ∷ replicate (length layout.pages) 0
    ∷ replicate (length layout.pages) 0
    ∷ map (opening_free layout) (below (free_words layout))
    ∷ (opening_available layout ∷ [])
    ∷ replicate layout.frames 0
    ∷ replicate layout.frames 0
    ∷ (0 ∷ [])
    ∷ replicate layout.procs 0
    ∷ replicate (length layout.threads) opening_policy
    ∷ replicate layout.files 0
    ∷ (0 ∷ [])
    ∷ [])

-- the slots of the frames are empty, and each page's body is on its shelf, without entries
abbrev pub opening_log : ℕ → Log
opening_log q = record { page = record { 0 = q }; entries = [] }

abbrev pub opening_homes : Layout → Homes
opening_homes layout = replicate layout.frames (Some None) ++ map (λ (q : ℕ). Some (Some (opening_log q))) (below (length layout.pages))

-- a processor that has made no step and holds nothing
abbrev pub opening_view : ℕ → View
opening_view c = record {
  parts = record { cpu = record { 0 = c }; latest = 0 } ∷ [];
  refs = [];
  locks = [];
  pages = [];
  reserved = 0;
  hands = [];
  owed = no_debts;
  bodies = [];
  made = [];
  marks = [];
  sights = [];
  lengths = [];
  spoiled = [];
  settings = [];
  stops = [];
}

-- the board of a layout at opening, with a seat for each processor
abbrev pub opening : Layout → State
opening layout = record { words = opening_words layout; homes = opening_homes layout; views = map opening_view (below layout.cpus) }
