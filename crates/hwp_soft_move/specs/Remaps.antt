-- The translations that lead to a page's frame written, so that they lead to another: the task, its steps and what they come to.
use Rattle.std.specs.Prelude.{◌≡◌, ◌≢◌, ℕ, zero, suc, ◌+◌, ◌-◌, ◌<◌, ◌≤◌, true, false, cond, List, [], ◌∷◌, Option, Some, None, length, slice_get}
use Rattle.std.specs.FinSet as set
use Rattle.std.specs.Ordering.{nat_cmp}
use Rattle.std.specs.declared.snapshot.Snapshot.{Snapshot}
use Rattle.hwp_claim_frame.specs.hwp_geom.declared.Frame.{Frame}
use Rattle.hwp_claim_frame.specs.hwp_geom.declared.Layout.{Layout}
use Rattle.hwp_claim_frame.specs.hwp_geom.declared.Page.{Page}
use Rattle.hwp_claim_frame.specs.hwp_geom.declared.TransDecl.{TransDecl}
use Rattle.hwp_claim_frame.specs.hwp_geom.declared.VSlot.{VSlot}
use Rattle.hwp_claim_frame.specs.hwp_geom.declared.Who.{Who}
use Rattle.hwp_claim_frame.specs.hwp_geom.Layout.{IsSound}
use Rattle.hwp_claim_frame.specs.hwp_kill.Limits.{slot_limit}
use Rattle.hwp_claim_frame.specs.hwp_page.declared.PageState.{PageState}
use Rattle.hwp_claim_frame.specs.hwp_words.Translations.{pte_word}
use Rattle.hwp_claim_frame.specs.hwp_words.declared.Pte.TheVariants as ptes
use Rattle.hwp_claim_frame.specs.hwp_core_rule.declared.FrameLock.{FrameLock}
use Rattle.hwp_claim_frame.specs.hwp_core_rule.declared.InHand.{InHand}
use Rattle.hwp_claim_frame.specs.hwp_core_rule.declared.Step.{Step}
use Rattle.hwp_claim_frame.specs.hwp_core_rule.declared.Step.TheVariants as steps
use Rattle.hwp_claim_frame.specs.hwp_core_rule.declared.View.{View}
use Rattle.hwp_claim_frame.specs.hwp_core_rule.Logs.{state_of}
use Rattle.hwp_claim_frame.specs.hwp_core_rule.Words.{Words}
use Rattle.hwp_claim_frame.specs.hwp_core_rule.Calls.{IsOnTurn}
use Rattle.hwp_claim_frame.specs.hwp_core_rule.Hands.{Hand, hand_of}
use Rattle.hwp_claim_frame.specs.hwp_core.Releases.{new_lock}
use Rattle.hwp_claim_frame.specs.hwp_core.Clears.{IsNextFrom, is_done}
use Rattle.hwp_claim_frame.specs.hwp_core.Vacates.{page_held}
use Rattle.hwp_soft_move.specs.declared.remap.Remap.{Remap}

-- the members from this one on, one after the other, are so many
abbrev pub CountsOn : set.FinSet nat_cmp → Option VSlot → ℕ → Type 0
CountsOn slots None n = n ≡ 0
CountsOn slots (Some slot) zero = ⊥
CountsOn slots (Some slot) (suc n) = (next : Option VSlot) × IsNextFrom slots (slot.0 + 1) next × CountsOn slots next n

-- the set has so many members
abbrev pub IsCount : set.FinSet nat_cmp → ℕ → Type 0
IsCount slots n = (first : Option VSlot) × IsNextFrom slots 0 first × CountsOn slots first n

-- a set as clauses see it
abbrev pub snapshot : set.FinSet nat_cmp → Snapshot (set.FinSet nat_cmp)
snapshot s = record { marker = record {}; value = s }

abbrev pub begin : Who → Page → Frame → Frame → set.FinSet nat_cmp → ℕ → Option VSlot → Remap
begin who page from to slots count next = record { who = who; page = page; from = from; to = to; slots = snapshot slots; count = count; next = next }

pub record IsBegun (who : Who) (page : Page) (from to : Frame) (slots : set.FinSet nat_cmp) (count : ℕ) (r : Remap) : Type 0 where
  pub is : r ≡ begin who page from to slots count r.next
  pub lowest : IsNextFrom slots 0 r.next

abbrev pub plan_at : Frame → Option VSlot → Option Step
plan_at to (Some slot) = Some (steps.SetPte slot (ptes.At to))
plan_at to None = None

abbrev pub plan : Remap → Option Step
plan r = plan_at r.to r.next

abbrev pub FollowsAt : Remap → Option VSlot → Remap → Type 0
FollowsAt r (Some slot) after = (after ≡ record r { next = after.next }) × IsNextFrom r.slots.value (slot.0 + 1) after.next
FollowsAt r None after = after ≡ r

abbrev pub Follows : Remap → Remap → Type 0
Follows r after = FollowsAt r r.next after

abbrev pub ShowsAt : Option VSlot → Type 0
ShowsAt (Some slot) = slot.0 < slot_limit
ShowsAt None = Unit {0}

abbrev pub Shows : Remap → Type 0
Shows r = ShowsAt r.next

-- the word of a translation of the page: those in use lead to the one frame until they are written, and then to the other
abbrev pub word_now : PageState → Frame → Frame → Option VSlot → ℕ → ℕ
word_now s from to next slot =
    cond (set.contains s.maps slot) (cond (is_done next slot) (to.0 + 1) (from.0 + 1)) (cond (set.contains s.bar slot) (pte_word ptes.Poison) 0)

-- the lock of the frame that a page leaves: it is poisoned, and isn't handled
abbrev pub old_lock : Frame → ℕ → FrameLock
old_lock frame owner = record { frame = frame; owner = owner; handled = false; poisoned = true }

-- two frames are locked, with these owners, and there are so many references to each
abbrev pub with_both : Frame → ℕ → ℕ → Frame → ℕ → ℕ → Hand → Hand
with_both from from_owner m to to_owner n h = record h {
  locks = old_lock from from_owner ∷ record (new_lock to) { owner = to_owner } ∷ [];
  refs = record { frame = from; count = m } ∷ record { frame = to; count = n } ∷ [];
}

-- the page is held with both frames, and its translations are being written; its body is in hand since before
pub record IsRemapping (layout : Layout) (view : View) (r : Remap) : Type 0 where
  pub trans : List ℕ
  pub taken : InHand
  pub left : ℕ
  pub left_is : CountsOn r.slots.value r.next left
  pub hand_is : hand_of view ≡ with_both r.from (r.page.0 + 1) (r.count - 1 - left) r.to (r.page.0 + 1) (left + 2) (page_held r.page (Some r.from) trans taken)
  pub taken_is : taken.log.page ≡ r.page
  pub slots_are : r.slots.value ≡ (state_of layout taken.log).maps
  pub declared : (slot : ℕ) → set.contains r.slots.value slot ≡ true → (t : TransDecl) × (slice_get layout.trans slot ≡ Some t) × (t.page ≡ r.page)
  pub words : (slot : ℕ) (t : TransDecl) → slice_get layout.trans slot ≡ Some t → t.page ≡ r.page → slice_get trans slot ≡ Some (word_now (state_of layout taken.log) r.from r.to r.next slot)
  pub few : left + 2 ≤ r.count
  pub member : (slot : VSlot) → r.next ≡ Some slot → set.contains r.slots.value slot.0 ≡ true

pub record Fits (layout : Layout) (view : View) (r : Remap) : Type 0 where
  pub on_turn : IsOnTurn view r.who
  pub sound : IsSound layout
  pub page : r.page.0 < length layout.pages
  pub from : r.from.0 < layout.frames
  pub to : r.to.0 < layout.frames
  pub apart : r.from.0 ≢ r.to.0
  pub room : r.count ≤ length layout.trans + 2
  pub at : IsRemapping layout view r

-- the translations that may be left
abbrev pub cost_at : Option VSlot → ℕ
cost_at (Some slot) = slot_limit - slot.0
cost_at None = 0

abbrev pub cost : Remap → Words → ℕ
cost r words = cost_at r.next
