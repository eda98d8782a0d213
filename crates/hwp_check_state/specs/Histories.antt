-- The history of one page, judged entry by entry.
use Rattle.std.specs.Prelude.{◌≡◌, ℕ, ◌+◌, ◌<◌, ◌≤◌, ◌⊎◌, List, Some, length, slice_get, sum_by, take, Option}
use Rattle.hwp_check_rules.specs.hwp_geom.declared.Page.{Page}
use Rattle.hwp_check_rules.specs.hwp_page.History.{IsReplay}
use Rattle.hwp_check_rules.specs.hwp_page.Step.{Allowed}
use Rattle.hwp_check_rules.specs.hwp_page.declared.Entry.{Entry}
use Rattle.hwp_check_rules.specs.hwp_page.declared.PageState.{PageState}
use Rattle.hwp_check_rules.specs.hwp_script_words.declared.Script.{Script}
use Rattle.hwp_check_rules.specs.hwp_law.Entries.{IsMadeBy}
use Rattle.hwp_check_rules.specs.Standing.{entry_height}
use Rattle.hwp_check_rules.specs.hwp_geom.declared.VSlot.{VSlot}
use Rattle.hwp_check_rules.specs.hwp_geom.declared.Who.{Who}

-- the state allows the entry, its command makes it, and the last command of its processor, with this number, is no later one
pub record IsRightEntry (script : Script) (copies : Who → Option VSlot) (page : Page) (state : PageState) (last : ℕ) (entry : Entry) : Type 0 where
  pub allowed : Allowed script.layout page state entry.what
  pub made : IsMadeBy script copies page entry
  pub rises : last ≤ entry.who.seq

abbrev pub IsWrongEntry : Script → (Who → Option VSlot) → Page → PageState → ℕ → Entry → Type 0
IsWrongEntry script copies page state last entry = (Allowed script.layout page state entry.what → ⊥) ⊎ (IsMadeBy script copies page entry → ⊥) ⊎ (entry.who.seq < last)

-- so many first entries of a page's history are legal, made by their commands, and ordered, and they lead to the state
pub record FirstFit (script : Script) (copies : Who → Option VSlot) (page : Page) (entries : List Entry) (n : ℕ) (state : PageState) : Type 0 where
  pub replay : IsReplay script.layout page (take n entries) state
  pub made : (i : ℕ) (e : Entry) → i < n → slice_get entries i ≡ Some e → IsMadeBy script copies page e
  pub ordered : (i j : ℕ) (e f : Entry) → i < j → j < n → slice_get entries i ≡ Some e → slice_get entries j ≡ Some f → e.who.cpu ≡ f.who.cpu → e.who.seq ≤ f.who.seq

-- the whole history is so
abbrev pub PageFits : Script → (Who → Option VSlot) → Page → List Entry → Type 0
PageFits script copies page entries = (state : PageState) × FirstFit script copies page entries (length entries) state

-- before the entry with this number stands one of a later command of its processor
pub record IsBehindIn (entries : List Entry) (n : ℕ) (entry : Entry) : Type 0 where
  pub earlier : ℕ
  pub other : Entry
  pub there : slice_get entries earlier ≡ Some other
  pub before : earlier < n
  pub same_cpu : other.who.cpu ≡ entry.who.cpu
  pub falls : entry.who.seq < other.who.seq

-- the entry with this number is the first that is wrong
pub record IsFirstWrong (script : Script) (copies : Who → Option VSlot) (page : Page) (entries : List Entry) (n : ℕ) : Type 0 where
  pub entry : Entry
  pub state : PageState
  pub there : slice_get entries n ≡ Some entry
  pub before : FirstFit script copies page entries n state
  pub wrong : (Allowed script.layout page state entry.what → ⊥) ⊎ (IsMadeBy script copies page entry → ⊥) ⊎ IsBehindIn entries n entry

-- this is the line of the first wrong entry, where the page's heading stands at `heading`
abbrev pub IsWrongAt : Script → (Who → Option VSlot) → Page → List Entry → ℕ → ℕ → Type 0
IsWrongAt script copies page entries heading line = (n : ℕ) × IsFirstWrong script copies page entries n × (line ≡ heading + 1 + sum_by entry_height (take n entries))
