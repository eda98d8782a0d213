-- Where a page's body is.
use Rattle.std.specs.Prelude.{◌≡◌, ◌⊎◌, ℕ, ◌+◌, ◌<◌, ◌==◌, cond, List, Option, Some, None, length, map, slice_get}
use Rattle.std.specs.Int.{from_bool}
use Rattle.hwp_page.specs.hwp_geom.declared.Layout.{Layout}
use Rattle.hwp_words.specs.Frames.{owner_of, lock_of}
use Rattle.hwp_core_rule.specs.declared.log.Log.{Log}
use Rattle.hwp_core_rule.specs.declared.view.FrameLock.{FrameLock}
use Rattle.hwp_core_rule.specs.declared.view.PageLock.{PageLock}
use Rattle.hwp_core_rule.specs.declared.view.InHand.{InHand}
use Rattle.hwp_core_rule.specs.Lists.{Homes, EachMember, SomeMember, sum_bodies}
use Rattle.hwp_core_rule.specs.Views.{page_locks_on}

-- the locks of a view, and the bodies that it has in hand
pub record Holder : Type 0 where
  pub locks : List FrameLock
  pub pages : List PageLock
  pub bodies : List InHand

-- the page of the body in a slot, plus 1, or 0 for an empty slot
abbrev pub content_name : Option Log → ℕ
content_name None = 0
content_name (Some log) = log.page.0 + 1

-- the slot is at home, and has the body of the page of this name, or is empty for 0
pub record IsAtHome (homes : Homes) (slot name : ℕ) : Type 0 where
  pub content : Option Log
  pub there : slice_get homes slot ≡ Some (Some content)
  pub named : content_name content ≡ name

-- the lock is that of the frame that the body was in, and the body's page owns the frame
abbrev pub IsLockFor : InHand → FrameLock → Type 0
IsLockFor b l = (l.owner ≡ b.log.page.0 + 1) × (b.frame ≡ Some l.frame)

-- the view has the page's lock, or the lock of the frame that the body was in and that the page owns
abbrev pub IsHolding : InHand → Holder → Type 0
IsHolding b h = (0 < page_locks_on b.log.page.0 h.pages) ⊎ SomeMember (IsLockFor b) h.locks

-- Each page has exactly one body. An unlocked frame has its owner's body in its slot, and none without owner; an unlocked
-- page has it on its shelf exactly where its cache word is 0; the slot of a lock that is held is out. A body elsewhere is
-- in the hands of one view, which holds the page's lock or that of the frame that the body was in. Broken by: a frame
-- unlocked with an empty slot; a body put on the shelf while the page is resident; a page unlocked with its body in hand.
pub record BodiesAtHome (layout : Layout) (frames caches pages : List ℕ) (homes : Homes) (held : List Holder) : Type 0 where
  pub frame_home : (f w : ℕ) → slice_get frames f ≡ Some w → lock_of w ≡ 0 → IsAtHome homes f (owner_of w)
  pub frame_out : (f w : ℕ) → slice_get frames f ≡ Some w → lock_of w ≡ 1 → slice_get homes f ≡ Some None
  pub shelf_home : (q w c : ℕ) → slice_get pages q ≡ Some w → slice_get caches q ≡ Some c → lock_of w ≡ 0 → IsAtHome homes (layout.frames + q) (cond (c == 0) (q + 1) 0)
  pub shelf_out : (q w : ℕ) → slice_get pages q ≡ Some w → lock_of w ≡ 1 → slice_get homes (layout.frames + q) ≡ Some None
  pub one : (q : ℕ) → q < length layout.pages → sum_bodies (λ (log : Log). from_bool (log.page.0 == q)) homes (map (λ (h : Holder). h.bodies) held) ≡ 1
  pub in_hand : EachMember (λ (h : Holder). EachMember (λ (b : InHand). IsHolding b h) h.bodies) held
