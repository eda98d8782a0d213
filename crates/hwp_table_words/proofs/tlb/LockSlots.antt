-- The slots of the locks that a view lists, after a step.
use Rattle.std.proofs.Common.{◌≡◌, ℕ, ◌==◌, Bool, true, false, cond, List, [], ◌∷◌, ◌++◌, map, refl, ap, ◌∙◌}
use Rattle.std.specs.Prelude.{Option, Some, None}
use Rattle.std.proofs.lemmas.List.{map-append}
use Rattle.hwp_core_rule.specs.hwp_geom.declared.Frame.{Frame}
use Rattle.hwp_core_rule.specs.hwp_geom.declared.Layout.{Layout}
use Rattle.hwp_core_rule.specs.hwp_geom.declared.Page.{Page}
use Rattle.hwp_core_rule.specs.hwp_geom.declared.Who.{Who}
use Rattle.hwp_core_rule.specs.declared.FrameLock.{FrameLock}
use Rattle.hwp_core_rule.specs.declared.InHand.{InHand}
use Rattle.hwp_core_rule.specs.declared.Log.{Log}
use Rattle.hwp_core_rule.specs.declared.PageLock.{PageLock}
use Rattle.hwp_core_rule.specs.declared.SharedWord.{SharedWord}
use Rattle.hwp_core_rule.specs.declared.SharedWord.TheVariants as places
use Rattle.hwp_core_rule.specs.declared.Step.{Step}
use Rattle.hwp_core_rule.specs.declared.Step.TheVariants as steps
use Rattle.hwp_core_rule.specs.declared.View.{View}
use Rattle.hwp_core_rule.specs.Steps.{goes}
use Rattle.hwp_core_rule.specs.Views.{without, changed, is_lock_of, is_page_lock_of, loaded, taken, listed_of, put_home, body_of, view_by, lock_found, lock_of_page, poisoned}
use Rattle.hwp_core_rule.specs.Logs.{log_of}
use Rattle.hwp_table_words.specs.tlb.Rule.{frames_of}

-- the list without the number, where it stands first
abbrev pub less : ℕ → List ℕ → List ℕ
less c numbers = without (λ (n : ℕ). n == c) numbers

-- the pages of page locks
abbrev pub pages_of : List PageLock → List ℕ
pages_of pages = map (λ (l : PageLock). l.page.0) pages

module _ {A : Type 0} (g : A → ℕ) where
  -- a change that leaves the number
  pub map-changed : (test : A → Bool) (to : A → A) (l : List A) → ((x : A) → g (to x) ≡ g x) → map g (changed test to l) ≡ map g l
  map-changed test to [] same = refl
  map-changed test to (x ∷ xs) same = (λ i. which (test x) i ∷ map-changed test to xs same i)
    where
      which : (b : Bool) → g (cond b (to x) x) ≡ g x
      which true = same x
      which false = refl

  pub map-without : (c : ℕ) (l : List A) → map g (without (λ (x : A). g x == c) l) ≡ less c (map g l)
  map-without c [] = refl
  map-without c (x ∷ xs) = which (g x == c) (map-without c xs)
    where
      which : (b : Bool) → map g (without (λ (y : A). g y == c) xs) ≡ less c (map g xs) → map g (cond b xs (x ∷ without (λ (y : A). g y == c) xs)) ≡ cond b (map g xs) (g x ∷ less c (map g xs))
      which true rest = refl
      which false rest = ap (λ (l : List ℕ). g x ∷ l) rest

  pub map-map-same : (to : A → A) (l : List A) → ((x : A) → g (to x) ≡ g x) → map g (map to l) ≡ map g l
  map-map-same to [] same = refl
  map-map-same to (x ∷ xs) same = λ i. same x i ∷ map-map-same to xs same i

-- what a step makes of the locks that are listed, and of the page locks
abbrev pub locks_then : Step → ℕ → List ℕ → List ℕ
locks_then (steps.Adopt frame) found list = list ++ frame.0 ∷ []
locks_then (steps.LockFrame frame) found list = cond (goes (steps.LockFrame frame) found) (list ++ frame.0 ∷ []) list
locks_then (steps.UnlockFrame frame) found list = less frame.0 list
locks_then (steps.Retire frame) found list = less frame.0 list
locks_then step found list = list

abbrev pub pages_then : Step → ℕ → List ℕ → List ℕ
pages_then (steps.LockPage page) found list = cond (goes (steps.LockPage page) found) (list ++ page.0 ∷ []) list
pages_then (steps.UnlockPage page) found list = less page.0 list
pages_then step found list = list

abbrev Same : View → View → Type 0
Same u v = (frames_of u.locks ≡ frames_of v.locks) × (pages_of u.pages ≡ pages_of v.pages)

same : (v : View) → Same v v
same v = (refl, refl)

by-load : (who : Who) (place : SharedWord) (found : ℕ) (v : View) → Same (loaded who place found v) v
by-load who (places.Frame frame) found v = same v
by-load who (places.Trans slot) found v = same v
by-load who (places.Cache page) found v = (refl, map-changed (λ (l : PageLock). l.page.0) (is_page_lock_of page) (λ (l : PageLock). record l { cache = Some found }) v.pages (λ l. refl))
by-load who (places.Page page) found v = same v
by-load who (places.Free number) found v = same v
by-load who places.Available found v = same v
by-load who (places.Bad frame) found v = same v
by-load who (places.Weak frame) found v = same v
by-load who places.Counter found v = same v
by-load who (places.Process process) found v = same v
by-load who (places.Policy thread) found v = same v
by-load who (places.Loss file) found v = same v
by-load who places.Stop found v = same v

by-take : (layout : Layout) (who : Who) (frame : Option Frame) (content : Option Log) (v : View) → Same (taken layout who frame content v) v
by-take layout who frame None v = same v
by-take layout who frame (Some log) v = (refl, map-changed (λ (l : PageLock). l.page.0) (is_page_lock_of log.page) _ v.pages (λ l. refl))

by-list : (layout : Layout) (who : Who) (log : Log) (body : Option InHand) (v : View) → Same (listed_of layout who log body v) v
by-list layout who log None v = same v
by-list layout who log (Some body) v = same v

by-put : (layout : Layout) (who : Who) (content : Option Log) (v : View) → Same (put_home layout who content v) v
by-put layout who None v = same v
by-put layout who (Some log) v = ((by-list layout who log (body_of log.page v) v).0, map-changed (λ (l : PageLock). l.page.0) (is_page_lock_of log.page) (λ (l : PageLock). record l { trans = None }) v.pages (λ l. refl))

lock-of-page : (layout : Layout) (page : Page) (content : Option Log) (body : Option InHand) → (lock_of_page layout page content body).page.0 ≡ page.0
lock-of-page layout page content None = refl
lock-of-page layout page content (Some body) = refl

either-way : (list : View → List ℕ) (b : Bool) (x y : View) (z : List ℕ) → list x ≡ z → list y ≡ z → list (cond b x y) ≡ z
either-way list true x y z e g = e
either-way list false x y z e g = g

-- the frames that are locked after a step of any kind
pub locks-after : (layout : Layout) (who : Who) (step : Step) (found : ℕ) (content : Option Log) (v : View) → frames_of (view_by layout who step found content v).locks ≡ locks_then step found (frames_of v.locks)
locks-after layout who (steps.Load place) found content v = (by-load who place found v).0
locks-after layout who (steps.Reserve seen) found content v = either-way (λ (u : View). frames_of u.locks) (found == seen) _ _ _ refl refl
locks-after layout who (steps.TakeBit frame) found content v = either-way (λ (u : View). frames_of u.locks) (goes (steps.TakeBit frame) found) _ _ _ refl refl
locks-after layout who (steps.GiveBit frame) found content v = refl
locks-after layout who steps.Unreserve found content v = refl
locks-after layout who (steps.Adopt frame) found content v = map-append (λ (l : FrameLock). l.frame.0) v.locks _
locks-after layout who (steps.GetRef frame seen count) found content v = either-way (λ (u : View). frames_of u.locks) (found == seen) _ _ _ refl refl
locks-after layout who (steps.PutRef frame count) found content v = refl
locks-after layout who (steps.LockFrame frame) found content v = which (goes (steps.LockFrame frame) found)
  where
    more : View
    more = record v { locks = v.locks ++ lock_found frame found ∷ [] }

    which : (b : Bool) → frames_of (cond b (taken layout who (Some frame) content more) v).locks ≡ cond b (frames_of v.locks ++ frame.0 ∷ []) (frames_of v.locks)
    which true = (by-take layout who (Some frame) content more).0 ∙ map-append (λ (l : FrameLock). l.frame.0) v.locks _
    which false = refl
locks-after layout who (steps.UnlockFrame frame) found content v = map-without (λ (l : FrameLock). l.frame.0) frame.0 v.locks
locks-after layout who (steps.Retire frame) found content v = map-without (λ (l : FrameLock). l.frame.0) frame.0 v.locks
locks-after layout who (steps.Revive frame seen) found content v = either-way (λ (u : View). frames_of u.locks) (found == seen) _ _ _ refl refl
locks-after layout who (steps.SetOwner frame page owned) found content v = map-changed (λ (l : FrameLock). l.frame.0) (is_lock_of frame) _ v.locks (λ l. refl)
locks-after layout who (steps.LockPage page) found content v = either-way (λ (u : View). frames_of u.locks) (goes (steps.LockPage page) found) _ _ _ (by-take layout who None content _).0 refl
locks-after layout who (steps.UnlockPage page) found content v = (by-put layout who content v).0
locks-after layout who (steps.SetPte slot pte) found content v = refl
locks-after layout who (steps.SetCache page frame) found content v = refl
locks-after layout who (steps.Poison frame hardware) found content v =
    map-changed (λ (l : FrameLock). l.frame.0) (is_lock_of frame) _ (poisoned who frame hardware found v).locks (λ l. refl)
    ∙ either-way (λ (u : View). frames_of u.locks) (goes (steps.Poison frame hardware) found) _ _ _ refl refl
locks-after layout who (steps.CountPoison hardware) found content v = refl
locks-after layout who steps.Uncount found content v = refl
locks-after layout who (steps.Spoil frame line damage) found content v = refl
locks-after layout who (steps.Stop cpu) found content v = either-way (λ (u : View). frames_of u.locks) (found == 0) _ _ _ refl refl
locks-after layout who steps.GiveUp found content v = refl
locks-after layout who (steps.Kill process page body) found content v =
    either-way (λ (u : View). frames_of u.locks) (found == 0) _ _ _ (by-list layout who (log_of body.value) (body_of body.value.page v) v).0 (by-list layout who (log_of body.value) (body_of body.value.page v) v).0
locks-after layout who (steps.SetPolicy thread policy settings) found content v = refl
locks-after layout who (steps.Lose file body) found content v = (by-list layout who (log_of body.value) (body_of body.value.page v) v).0
locks-after layout who (steps.ReportLost file) found content v = refl

-- the pages that are locked
pub pages-after : (layout : Layout) (who : Who) (step : Step) (found : ℕ) (content : Option Log) (v : View) → pages_of (view_by layout who step found content v).pages ≡ pages_then step found (pages_of v.pages)
pages-after layout who (steps.Load place) found content v = (by-load who place found v).1
pages-after layout who (steps.Reserve seen) found content v = either-way (λ (u : View). pages_of u.pages) (found == seen) _ _ _ refl refl
pages-after layout who (steps.TakeBit frame) found content v = either-way (λ (u : View). pages_of u.pages) (goes (steps.TakeBit frame) found) _ _ _ refl refl
pages-after layout who (steps.GiveBit frame) found content v = refl
pages-after layout who steps.Unreserve found content v = refl
pages-after layout who (steps.Adopt frame) found content v = refl
pages-after layout who (steps.GetRef frame seen count) found content v = either-way (λ (u : View). pages_of u.pages) (found == seen) _ _ _ refl refl
pages-after layout who (steps.PutRef frame count) found content v = refl
pages-after layout who (steps.LockFrame frame) found content v = either-way (λ (u : View). pages_of u.pages) (goes (steps.LockFrame frame) found) _ _ _ (by-take layout who (Some frame) content _).1 refl
pages-after layout who (steps.UnlockFrame frame) found content v = (by-put layout who content v).1
pages-after layout who (steps.Retire frame) found content v = refl
pages-after layout who (steps.Revive frame seen) found content v = either-way (λ (u : View). pages_of u.pages) (found == seen) _ _ _ refl refl
pages-after layout who (steps.SetOwner frame page owned) found content v = refl
pages-after layout who (steps.LockPage page) found content v = which (goes (steps.LockPage page) found)
  where
    more : View
    more = record v { pages = v.pages ++ lock_of_page layout page content (body_of page v) ∷ [] }

    which : (b : Bool) → pages_of (cond b (taken layout who None content more) v).pages ≡ cond b (pages_of v.pages ++ page.0 ∷ []) (pages_of v.pages)
    which true = (by-take layout who None content more).1 ∙ (map-append (λ (l : PageLock). l.page.0) v.pages _ ∙ ap (λ (n : ℕ). pages_of v.pages ++ n ∷ []) (lock-of-page layout page content (body_of page v)))
    which false = refl
pages-after layout who (steps.UnlockPage page) found content v = map-without (λ (l : PageLock). l.page.0) page.0 v.pages
pages-after layout who (steps.SetPte slot pte) found content v = map-map-same (λ (l : PageLock). l.page.0) _ v.pages (λ l. refl)
pages-after layout who (steps.SetCache page frame) found content v = map-changed (λ (l : PageLock). l.page.0) (is_page_lock_of page) _ v.pages (λ l. refl)
pages-after layout who (steps.Poison frame hardware) found content v = either-way (λ (u : View). pages_of u.pages) (goes (steps.Poison frame hardware) found) _ _ _ refl refl
pages-after layout who (steps.CountPoison hardware) found content v = refl
pages-after layout who steps.Uncount found content v = refl
pages-after layout who (steps.Spoil frame line damage) found content v = refl
pages-after layout who (steps.Stop cpu) found content v = either-way (λ (u : View). pages_of u.pages) (found == 0) _ _ _ refl refl
pages-after layout who steps.GiveUp found content v = refl
pages-after layout who (steps.Kill process page body) found content v =
    either-way (λ (u : View). pages_of u.pages) (found == 0) _ _ _ (by-list layout who (log_of body.value) (body_of body.value.page v) v).1 (by-list layout who (log_of body.value) (body_of body.value.page v) v).1
pages-after layout who (steps.SetPolicy thread policy settings) found content v = refl
pages-after layout who (steps.Lose file body) found content v = (by-list layout who (log_of body.value) (body_of body.value.page v) v).1
pages-after layout who (steps.ReportLost file) found content v = refl
