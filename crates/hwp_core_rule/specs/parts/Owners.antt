-- Which page a frame belongs to.
use Rattle.std.specs.Prelude.{◌≡◌, ◌⊎◌, ℕ, ◌+◌, ◌<◌, ◌≤◌, List, Some, length, slice_get}
use Rattle.hwp_page.specs.hwp_geom.declared.TransDecl.{TransDecl}
use Rattle.hwp_words.specs.declared.Pte.TheVariants as ptes
use Rattle.hwp_words.specs.Frames.{owner_of}
use Rattle.hwp_words.specs.Translations.{pte_word}
use Rattle.hwp_core_rule.specs.declared.view.FrameLock.{FrameLock}
use Rattle.hwp_core_rule.specs.declared.view.PageLock.{PageLock}
use Rattle.hwp_core_rule.specs.Lists.{SomeMember}
use Rattle.hwp_core_rule.specs.Views.{locks_on, page_locks_on}

-- the word names a frame of the board, and the page owns it
pub record NamesOwn (frames : List ℕ) (q word : ℕ) : Type 0 where
  pub frame : ℕ
  pub named : word ≡ frame + 1
  pub owner_word : ℕ
  pub there : slice_get frames frame ≡ Some owner_word
  pub owned : owner_of owner_word ≡ q + 1

-- A translation word is 0, a poison entry, or names a frame that the translation's page owns. Broken by: a translation
-- written to the frame of another page; an owner cleared while a translation still names the frame.
pub record TranslationsOwned (decls : List TransDecl) (frames trans : List ℕ) : Type 0 where
  pub owned : (v w : ℕ) (t : TransDecl) → slice_get trans v ≡ Some w → slice_get decls v ≡ Some t → (w ≡ 0) ⊎ ((w ≡ pte_word ptes.Poison) ⊎ NamesOwn frames t.page.0 w)

-- the view has the frame's lock and the page's lock
pub record HoldsBoth (f q : ℕ) (locks : List FrameLock × List PageLock) : Type 0 where
  pub frame : 0 < locks_on f locks.0
  pub page : 0 < page_locks_on q locks.1

-- A cache word is 0 or names a frame that its page owns. A frame that a page owns is named by the page's cache word,
-- unless one view holds both the frame's lock and the page's. A frame's owner is a page of the layout, or none. Broken by:
-- a frame unlocked with an owner whose cache word names another; a cache word cleared and the page unlocked before the
-- owner is cleared; an owner that is no page of the layout.
pub record CacheWordsOwned (frames caches : List ℕ) (locks : List (List FrameLock × List PageLock)) : Type 0 where
  pub owned : (q w : ℕ) → slice_get caches q ≡ Some w → (w ≡ 0) ⊎ NamesOwn frames q w
  pub named : (f w q : ℕ) → slice_get frames f ≡ Some w → owner_of w ≡ q + 1 → (slice_get caches q ≡ Some (f + 1)) ⊎ SomeMember (HoldsBoth f q) locks
  pub within : (f w : ℕ) → slice_get frames f ≡ Some w → owner_of w ≤ length caches
