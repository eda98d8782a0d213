-- A page's words and its state.
use Rattle.std.specs.Prelude.{◌≡◌, ℕ, ◌<◌, ◌==◌, not, List, Some, slice_get}
use Rattle.hwp_page.specs.hwp_geom.declared.Layout.{Layout}
use Rattle.hwp_page.specs.hwp_geom.declared.TransDecl.{TransDecl}
use Rattle.hwp_core_rule.specs.declared.log.Log.{Log}
use Rattle.hwp_core_rule.specs.declared.view.InHand.{InHand}
use Rattle.hwp_core_rule.specs.declared.view.PageLock.{PageLock}
use Rattle.hwp_core_rule.specs.Lists.{Homes, EachMember}
use Rattle.hwp_core_rule.specs.Logs.{state_of, fitting_word}
use Rattle.hwp_core_rule.specs.Views.{page_locks_on}

-- the cache word is not 0 exactly where the page is cached; a translation of the page names the cached frame exactly where
-- it is in use, is a poison entry exactly where it is barred, and else is 0
pub record FitsWords (layout : Layout) (log : Log) (cache : ℕ) (trans : List ℕ) : Type 0 where
  pub cached : not (cache == 0) ≡ (state_of layout log).cached
  pub used : (v w : ℕ) (t : TransDecl) → slice_get layout.trans v ≡ Some t → t.page ≡ log.page → slice_get trans v ≡ Some w → w ≡ fitting_word (state_of layout log) cache v

-- the words of the body's page fit it
abbrev pub Fits : Layout → List ℕ → List ℕ → Log → Type 0
Fits layout trans caches log = (cache : ℕ) → slice_get caches log.page.0 ≡ Some cache → FitsWords layout log cache trans

-- what the lock lists of the page's words is so
pub record KnowsWords (layout : Layout) (trans caches : List ℕ) (lock : PageLock) : Type 0 where
  pub resident : (c : ℕ) → slice_get caches lock.page.0 ≡ Some c → not (c == 0) ≡ lock.resident
  pub cache : (c : ℕ) → lock.cache ≡ Some c → slice_get caches lock.page.0 ≡ Some c
  pub words : (ws : List ℕ) → lock.trans ≡ Some ws → (v : ℕ) (t : TransDecl) → slice_get layout.trans v ≡ Some t → t.page ≡ lock.page → slice_get ws v ≡ slice_get trans v

-- where a view with the page's lock has the page's body in hand, the lock lists the page's words
pub record KnowsOwn (locks : List PageLock) (body : InHand) : Type 0 where
  pub lock : PageLock
  pub there : slice_get locks 0 ≡ Some lock
  pub cache : ℕ
  pub cache_is : lock.cache ≡ Some cache
  pub trans : List ℕ
  pub trans_is : lock.trans ≡ Some trans

-- The words of each page fit its state, unless one view has the page's lock and its body in hand; that view lists the words
-- as they are. Broken by: a translation changed without its entry; an entry without its translation.
pub record PageFits (layout : Layout) (trans caches : List ℕ) (homes : Homes) (held : List (List PageLock × List InHand)) : Type 0 where
  pub at_home : (i : ℕ) (log : Log) → slice_get homes i ≡ Some (Some (Some log)) → Fits layout trans caches log
  pub in_hand : EachMember (λ (h : List PageLock × List InHand). EachMember (λ (b : InHand). page_locks_on b.log.page.0 h.0 ≡ 0 → Fits layout trans caches b.log) h.1) held
  pub known : EachMember (λ (h : List PageLock × List InHand). EachMember (KnowsWords layout trans caches) h.0) held
  pub own : EachMember (λ (h : List PageLock × List InHand). EachMember (λ (b : InHand). 0 < page_locks_on b.log.page.0 h.0 → KnowsOwn h.0 b) h.1) held
