-- The policies that the failures of a report list as seen, each with its line.
use Rattle.std.specs.Prelude.{◌≡◌, ◌⊎◌, ℕ, ◌+◌, ◌*◌, ◌^◌, ◌<◌, ◌≤◌, ◌==◌, cond, List, [], ◌∷◌, ◌++◌, Option, MatchOption, All, Contains}
use Rattle.hwp_check_rules.specs.hwp_geom.declared.Who.{Who}
use Rattle.hwp_check_rules.specs.hwp_kill.declared.Seen.{Seen}
use Rattle.hwp_check_rules.specs.hwp_page.declared.Entry.{Entry}
use Rattle.hwp_check_rules.specs.hwp_script_words.declared.Script.{Script}
use Rattle.hwp_check_rules.specs.hwp_report_text.declared.Report.{Report}
use Rattle.hwp_check_rules.specs.hwp_law.SeenPolicies.{IsOwnCount, IsPolicySeen, seen_in}
use Rattle.hwp_check_state.specs.declared.sights.Sight.{Sight}
use Rattle.hwp_check_rules.specs.Firsts.{IsLeast}
use Rattle.hwp_check_rules.specs.Standing.{entry_height, page_height, page_line}

-- the policies seen of an entry of a command; given is the line of the first
abbrev pub listed_sights : Who → ℕ → List Seen → List Sight
listed_sights who line [] = []
listed_sights who line (seen ∷ rest) = record { who = who; seen = seen; line = line } ∷ listed_sights who (line + 1) rest

-- those of the entry on a line
abbrev pub entry_sights : ℕ → Entry → List Sight
entry_sights line e = listed_sights e.who (line + 1) (seen_in e.what)

-- those of entries, the first of which is on a line
abbrev pub page_sights : ℕ → List Entry → List Sight
page_sights line [] = []
page_sights line (e ∷ rest) = entry_sights line e ++ page_sights (line + entry_height e) rest

-- those of pages, the first of which has its heading on a line
abbrev pub pages_sights : ℕ → List (List Entry) → List Sight
pages_sights line [] = []
pages_sights line (entries ∷ rest) = page_sights (line + 1) entries ++ pages_sights (line + page_height entries) rest

-- those of a report
abbrev pub sights : Report → List Sight
sights report = pages_sights (page_line report 0) report.pages

-- the line is that of a policy seen, of those in the list, which is such
pub record IsLineOf (Such : Sight → Type 0) (list : List Sight) (line : ℕ) : Type 0 where
  pub sight : Sight
  pub listed : Contains list sight
  pub line_is : line ≡ sight.line
  pub such : Such sight

-- by itself the policy seen is right
abbrev pub IsRight : Script → Report → Sight → Type 0
IsRight script report sight = IsPolicySeen script report sight.seen × IsOwnCount script report sight.who sight.seen

abbrev pub IsWrong : Script → Report → Sight → Type 0
IsWrong script report sight = (IsPolicySeen script report sight.seen → ⊥) ⊎ (IsOwnCount script report sight.who sight.seen → ⊥)

-- all in the list are so, or first the one on the line that was found is such
abbrev pub IsFirstOf : (Sight → Type 0) → (Sight → Type 0) → List Sight → Option ℕ → Type 0
IsFirstOf So Such list found = MatchOption found (All So list) (IsLeast (IsLineOf Such list))

-- one in the list is of an earlier command of the processor and of the same thread, and later than this one
pub record IsBelow (list : List Sight) (sight : Sight) : Type 0 where
  pub before : Sight
  pub listed : Contains list before
  pub same_cpu : before.who.cpu ≡ sight.who.cpu
  pub same_thread : before.seen.thread ≡ sight.seen.thread
  pub rises : before.who.seq < sight.who.seq
  pub falls : sight.seen.n < before.seen.n

-- there is none such in the list
abbrev pub IsNotBelow : List Sight → Sight → Type 0
IsNotBelow list sight = IsBelow list sight → ⊥

-- the processor and the thread of a policy seen as one number; and this, the command and the policy's number as one number
abbrev pub group_of : Sight → ℕ
group_of sight = sight.who.cpu.0 * 256 + sight.seen.thread.0

abbrev pub key_of : Sight → ℕ
key_of sight = (group_of sight * 2 ^ 32 + sight.who.seq) * 2 ^ 32 + sight.seen.n

-- its numbers are of their widths
pub record IsSmall (sight : Sight) : Type 0 where
  pub thread : sight.seen.thread.0 < 256
  pub seq : sight.who.seq < 2 ^ 32
  pub n : sight.seen.n < 2 ^ 32

-- the highest number so far, which counts only in the same group
abbrev pub top_of : ℕ → ℕ → ℕ → ℕ
top_of group own top = cond (group == own) top 0

-- of the things seen so far in the order of keys, the last group and the highest number in it
pub record IsTop (front : List Sight) (group top : ℕ) : Type 0 where
  pub below : (s : Sight) → Contains front s → group_of s ≡ group → s.seen.n ≤ top
  pub reached : (top ≡ 0) ⊎ ((s : Sight) × Contains front s × (group_of s ≡ group) × (s.seen.n ≡ top))
  pub last : (s : Sight) → Contains front s → group_of s ≤ group
  pub low : (k : ℕ) → ((s : Sight) → Contains front s → group_of s ≤ k) → group ≤ k
