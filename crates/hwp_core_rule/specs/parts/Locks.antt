-- Who holds a lock, and what it knows by that.
use Rattle.std.specs.Prelude.{◌≡◌, ℕ, ◌<◌, ◌≤◌, true, List, Some, length, slice_get}
use Rattle.std.specs.List.{sum_by}
use Rattle.hwp_words.specs.Frames.{owner_of, lock_of, is_handled, is_poisoned}
use Rattle.hwp_core_rule.specs.declared.view.Ref.{Ref}
use Rattle.hwp_core_rule.specs.declared.view.FrameLock.{FrameLock}
use Rattle.hwp_core_rule.specs.declared.view.PageLock.{PageLock}
use Rattle.hwp_core_rule.specs.Lists.{EachMember}
use Rattle.hwp_core_rule.specs.Views.{refs_on, locks_on, page_locks_on}

-- a listed lock: the frame is one of the board, its word is as the lock lists it, and the view has a reference to it
pub record IsLocked (frames : List ℕ) (refs : List Ref) (lock : FrameLock) : Type 0 where
  pub word : ℕ
  pub there : slice_get frames lock.frame.0 ≡ Some word
  pub owner : owner_of word ≡ lock.owner
  pub handled : is_handled word ≡ lock.handled
  pub poisoned : lock.poisoned ≡ true → is_poisoned word ≡ true
  pub referenced : 0 < refs_on lock.frame.0 refs

-- A frame's LOCK is set exactly where one view lists that lock; that view has a reference to the frame, and lists the
-- owner and HANDLED as the word has them, and POISON only where the word has it. Broken by: a lock that is taken and not
-- listed; an unlock of another frame; an owner written without the lock.
pub record FrameLocksHeld (frames : List ℕ) (held : List (List Ref × List FrameLock)) : Type 0 where
  pub one : (f w : ℕ) → slice_get frames f ≡ Some w → sum_by (λ (h : List Ref × List FrameLock). locks_on f h.1) held ≡ lock_of w
  pub known : EachMember (λ (h : List Ref × List FrameLock). EachMember (IsLocked frames h.0) h.1) held

-- A page's LOCK is set exactly where one view lists that lock. A view lists at most one page lock and at most two frame
-- locks. Broken by: a second page locked; an unlock of a page that another holds.
pub record PageLocksHeld (pages : List ℕ) (held : List (List PageLock)) (locks : List (List FrameLock)) : Type 0 where
  pub one : (q w : ℕ) → slice_get pages q ≡ Some w → sum_by (page_locks_on q) held ≡ lock_of w
  pub page_once : EachMember (λ (h : List PageLock). length h ≤ 1) held
  pub frames_twice : EachMember (λ (l : List FrameLock). length l ≤ 2) locks
