-- The translations to a page's frame written, so that they no longer lead to it: the task, its steps and what they come to.
use Rattle.std.specs.Prelude.{◌≡◌, ℕ, ◌+◌, ◌-◌, ◌<◌, ◌≤◌, Bool, true, false, cond, nat_lt, List, Option, Some, None, length, slice_get, MatchOption}
use Rattle.std.specs.FinSet as set
use Rattle.std.specs.Ordering.{nat_cmp}
use Rattle.hwp_core_rule.specs.hwp_geom.declared.Frame.{Frame}
use Rattle.hwp_core_rule.specs.hwp_geom.declared.Layout.{Layout}
use Rattle.hwp_core_rule.specs.hwp_geom.declared.Page.{Page}
use Rattle.hwp_core_rule.specs.hwp_geom.declared.TransDecl.{TransDecl}
use Rattle.hwp_core_rule.specs.hwp_geom.declared.VSlot.{VSlot}
use Rattle.hwp_core_rule.specs.hwp_geom.declared.Who.{Who}
use Rattle.hwp_core_rule.specs.hwp_geom.Layout.{IsSound}
use Rattle.hwp_core_rule.specs.hwp_kill.Limits.{slot_limit}
use Rattle.hwp_core_rule.specs.hwp_kill.Lowest.{HasNoneFrom, IsLowestFrom}
use Rattle.hwp_core_rule.specs.hwp_page.declared.PageState.{PageState}
use Rattle.hwp_core_rule.specs.hwp_words.Translations.{pte_word}
use Rattle.hwp_core_rule.specs.hwp_words.declared.Pte.{Pte}
use Rattle.hwp_core_rule.specs.hwp_words.declared.Pte.TheVariants as ptes
use Rattle.hwp_core_rule.specs.declared.InHand.{InHand}
use Rattle.hwp_core_rule.specs.declared.Step.{Step}
use Rattle.hwp_core_rule.specs.declared.Step.TheVariants as steps
use Rattle.hwp_core_rule.specs.declared.View.{View}
use Rattle.hwp_core_rule.specs.Logs.{state_of}
use Rattle.hwp_core_rule.specs.Words.{Words}
use Rattle.hwp_core_rule.specs.Calls.{IsOnTurn}
use Rattle.hwp_core_rule.specs.Hands.{hand_of}
use Rattle.hwp_core_rule.specs.Turns.{Member}
use Rattle.hwp_core_rule.specs.declared.Turn.TheVariants.{Moved}
use Rattle.hwp_core.specs.declared.clear.Clear.{Clear}
use Rattle.hwp_core.specs.Vacates.{page_held, with_frame}

-- what is written
abbrev pub pte_of : Bool → Pte
pte_of barred = cond barred ptes.Poison ptes.Empty

-- the one that comes is the lowest from a number on
abbrev pub IsNextFrom : set.FinSet nat_cmp → ℕ → Option VSlot → Type 0
IsNextFrom slots from next = MatchOption next (HasNoneFrom slots from) (λ (v : VSlot). (v.0 < slot_limit) × IsLowestFrom slots from v.0)

abbrev pub begin : Who → Page → Frame → set.FinSet nat_cmp → Bool → Option VSlot → Clear
begin who page frame slots barred next = record { who = who; page = page; frame = frame; slots = slots; barred = barred; count = 2; next = next }

pub record IsBegun (who : Who) (page : Page) (frame : Frame) (slots : set.FinSet nat_cmp) (barred : Bool) (c : Clear) : Type 0 where
  pub is : c ≡ begin who page frame slots barred c.next
  pub lowest : IsNextFrom slots 0 c.next

abbrev pub plan_at : Bool → Option VSlot → Option Step
plan_at barred (Some slot) = Some (steps.SetPte slot (pte_of barred))
plan_at barred None = None

abbrev pub plan : Clear → Option Step
plan c = plan_at c.barred c.next

abbrev pub FollowsAt : Clear → Option VSlot → Clear → Type 0
FollowsAt c (Some slot) after = (after ≡ record c { count = c.count + 1; next = after.next }) × IsNextFrom c.slots (slot.0 + 1) after.next
FollowsAt c None after = after ≡ c

abbrev pub Follows : Clear → Clear → Type 0
Follows c after = FollowsAt c c.next after

-- there are not more behind than numbers below, and two references beside
abbrev pub ShowsAt : ℕ → Option VSlot → Type 0
ShowsAt count (Some slot) = (slot.0 < slot_limit) × (count ≤ slot.0 + 2)
ShowsAt count None = Unit {0}

abbrev pub Shows : Clear → Type 0
Shows c = ShowsAt c.count c.next

-- the translation is written already
abbrev pub is_done : Option VSlot → ℕ → Bool
is_done (Some next) slot = nat_lt slot next.0
is_done None slot = true

-- the word of a translation of the page: those that led to the frame do until they are written
abbrev pub word_now : PageState → Bool → Frame → Option VSlot → ℕ → ℕ
word_now s barred frame next slot =
    cond (set.contains s.maps slot) (cond (is_done next slot) (pte_word (pte_of barred)) (frame.0 + 1)) (cond (set.contains s.bar slot) (pte_word ptes.Poison) 0)

-- two references and one for each that is written are counted, and no more than there are translations
abbrev pub IsCounted : Layout → ℕ → Option VSlot → Type 0
IsCounted layout count (Some slot) = count ≤ slot.0 + 2
IsCounted layout count None = count ≤ length layout.trans + 2

-- the page is held with its frame, and its translations are being written; its body is in hand since before
pub record IsClearing (layout : Layout) (view : View) (c : Clear) : Type 0 where
  pub trans : List ℕ
  pub taken : InHand
  pub handled : Bool
  pub poisoned : Bool
  pub hand_is : hand_of view ≡ with_frame c.frame (c.page.0 + 1) handled poisoned (c.count - 1) (page_held c.page (Some c.frame) trans taken)
  pub taken_is : taken.log.page ≡ c.page
  pub slots_are : c.slots ≡ (state_of layout taken.log).maps
  pub declared : (slot : ℕ) → set.contains c.slots slot ≡ true → (t : TransDecl) × (slice_get layout.trans slot ≡ Some t) × (t.page ≡ c.page)
  pub words : (slot : ℕ) (t : TransDecl) → slice_get layout.trans slot ≡ Some t → t.page ≡ c.page → slice_get trans slot ≡ Some (word_now (state_of layout taken.log) c.barred c.frame c.next slot)
  pub some : 2 ≤ c.count
  pub counted : IsCounted layout c.count c.next
  pub member : (slot : VSlot) → c.next ≡ Some slot → set.contains c.slots slot.0 ≡ true

pub record Fits (layout : Layout) (view : View) (c : Clear) : Type 0 where
  pub on_turn : IsOnTurn view c.who
  pub sound : IsSound layout
  pub page : c.page.0 < length layout.pages
  pub frame : c.frame.0 < layout.frames
  pub at : IsClearing layout view c

-- the translations that may be left
abbrev pub cost_at : Option VSlot → ℕ
cost_at (Some slot) = slot_limit - slot.0
cost_at None = 0

abbrev pub cost : Clear → Words → ℕ
cost c words = cost_at c.next

-- the task, as the laws of tasks read it
abbrev pub task : Member Clear
task = record {
  who = λ c. c.who;
  plan = plan;
  put = λ c. None;
  bare = λ c. c;
  shows = λ c found got. Shows c;
  next = λ layout c found got after result. Follows c after × (result ≡ Moved);
  fits = Fits;
  class = λ c. 1;
  cost = cost;
  aborts = λ c. false;
  claims = λ c. None;
}
