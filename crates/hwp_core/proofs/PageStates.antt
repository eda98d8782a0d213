-- What a page's state keeps with each entry: its kind, and that a translation in use is one of the page and isn't barred. And the
-- state of a body that is held.
use Rattle.std.proofs.Common.{◌≡◌, ℕ, ◌+◌, ◌==◌, ◌&&◌, ◌||◌, Bool, true, false, not, List, [], ◌∷◌, Option, Some, slice_get, refl, sym, ap, ◌∙◌, subst, arith, IsSomeAnd}
use Rattle.std.proofs.lemmas.Bool.{both_ways, eqb-true, ne_eqb}
use Rattle.std.specs.Cmp.{nat_cmp_total, unsigned_tied}
use Rattle.std.specs.FinSet as set
use Rattle.std.specs.Ordering.{nat_cmp}
use Rattle.hwp_core_rule.specs.hwp_geom.declared.Frame.{Frame}
use Rattle.hwp_core_rule.specs.hwp_geom.declared.Layout.{Layout}
use Rattle.hwp_core_rule.specs.hwp_geom.declared.Page.{Page}
use Rattle.hwp_core_rule.specs.hwp_geom.declared.TransDecl.{TransDecl}
use Rattle.hwp_core_rule.specs.hwp_geom.Layout.{is_locked}
use Rattle.hwp_core_rule.specs.hwp_page.declared.Entry.{Entry}
use Rattle.hwp_core_rule.specs.hwp_page.declared.Met.TheVariants.{Word, Sigbus}
use Rattle.hwp_core_rule.specs.hwp_page.declared.PageState.{PageState}
use Rattle.hwp_core_rule.specs.hwp_page.declared.Situation.{Situation}
use Rattle.hwp_core_rule.specs.hwp_page.declared.Situation.TheVariants as situations
use Rattle.hwp_core_rule.specs.hwp_page.declared.What.{What}
use Rattle.hwp_core_rule.specs.hwp_page.declared.What.TheVariants as entries
use Rattle.hwp_core_rule.specs.hwp_page.Actions.{acted}
use Rattle.hwp_core_rule.specs.hwp_page.History.{BodyValue, IsReplay, Leads}
use Rattle.hwp_core_rule.specs.hwp_page.Step.{Allowed, after, opening_of}
use Rattle.hwp_core_rule.specs.Logs.{log_of, state_of}
use Rattle.hwp_core_rule.proofs.OwedLosses.{after-kind}
use Rattle.hwp_core.specs.Holds.{IsBodyOf}
use Rattle.hwp_core.proofs.BodyStates.{replay-state}

-- ---- what entries leave

pub led-kind : (layout : Layout) (page : Page) (s t : PageState) (list : List Entry) → Leads layout page s list t → t.kind ≡ s.kind
led-kind layout page s t [] leads = ap (λ (x : PageState). x.kind) (sym leads)
led-kind layout page s t (e ∷ es) leads = led-kind layout page (after s e.what) t es leads.1 ∙ after-kind s e.what

-- a translation in use isn't barred
abbrev IsApart : PageState → Type 0
IsApart s = (slot : ℕ) → set.contains s.maps slot ≡ true → set.contains s.bar slot ≡ false

unmapped-apart : (s t : PageState) → t.maps ≡ set.empty → IsApart t
unmapped-apart s t none slot used = absurd (both_ways (set.contains t.maps slot) (ap (λ m. set.contains m slot) none ∙ set.contains-empty nat_cmp slot) used)

acted-apart : (s : PageState) (situation : Situation) → IsApart s → IsApart (acted s situation)
acted-apart s situations.Free was = was
acted-apart s situations.Kernel was = was
acted-apart s situations.FileClean was = unmapped-apart s (acted s situations.FileClean) refl
acted-apart s situations.FileDirty was = unmapped-apart s (acted s situations.FileDirty) refl
acted-apart s situations.AnonOnly was = unmapped-apart s (acted s situations.AnonOnly) refl
acted-apart s situations.SwapClean was = unmapped-apart s (acted s situations.SwapClean) refl
acted-apart s situations.SwapDirty was = unmapped-apart s (acted s situations.SwapDirty) refl
acted-apart s situations.LockedClean was = unmapped-apart s (acted s situations.LockedClean) refl
acted-apart s situations.LockedFile was = unmapped-apart s (acted s situations.LockedFile) refl
acted-apart s situations.LockedAnon was = unmapped-apart s (acted s situations.LockedAnon) refl

-- what a set has with a number more, and without one
has-more : (s : set.FinSet nat_cmp) (k q : ℕ) → set.contains (set.insert s k) q ≡ ((q == k) || set.contains s q)
has-more s k q = set.contains-insert nat_cmp_total s k q ∙ ap (λ (b : Bool). b || set.contains s q) (unsigned_tied q k)

pub has-less : (s : set.FinSet nat_cmp) (k q : ℕ) → set.contains (set.remove s k) q ≡ (not (q == k) && set.contains s q)
has-less s k q = set.contains-remove nat_cmp_total s k q ∙ ap (λ (b : Bool). not b && set.contains s q) (unsigned_tied q k)

mapped-apart : (s : PageState) (k : ℕ) → set.contains s.bar k ≡ false → IsApart s → IsApart (record s { maps = set.insert s.maps k })
mapped-apart s k free was q used = which (q == k) refl (sym (has-more s.maps k q) ∙ used)
  where
    which : (b : Bool) → (q == k) ≡ b → ((q == k) || set.contains s.maps q) ≡ true → set.contains s.bar q ≡ false
    which true is used = subst (λ (n : ℕ). set.contains s.bar n ≡ false) (sym (eqb-true q k is)) free
    which false is used = was q (sym (ap (λ (b : Bool). b || set.contains s.maps q) is) ∙ used)

freed-apart : (s : PageState) (k : ℕ) → IsApart s → IsApart (record s { maps = set.remove s.maps k })
freed-apart s k was q used = which (q == k) refl (sym (has-less s.maps k q) ∙ used)
  where
    which : (b : Bool) → (q == k) ≡ b → (not (q == k) && set.contains s.maps q) ≡ true → set.contains s.bar q ≡ false
    which true is used = absurd (both_ways true (sym used ∙ ap (λ (b : Bool). not b && set.contains s.maps q) is) refl)
    which false is used = was q (sym (ap (λ (b : Bool). not b && set.contains s.maps q) is) ∙ used)

after-apart : (layout : Layout) (page : Page) (s : PageState) (what : What) → IsApart s → Allowed layout page s what → IsApart (after s what)
after-apart layout page s (entries.Load slot line met) was allowed = was
after-apart layout page s (entries.Store slot line (Word mask word)) was allowed = was
after-apart layout page s (entries.Store slot line (Sigbus thread)) was allowed = was
after-apart layout page s entries.FaultIn was allowed = was
after-apart layout page s (entries.Map slot) was allowed = mapped-apart s slot.0 allowed.3 was
after-apart layout page s (entries.Free slot) was allowed = freed-apart s slot.0 was
after-apart layout page s entries.Drop was allowed = was
after-apart layout page s entries.Sync was allowed = was
after-apart layout page s entries.Out was allowed = unmapped-apart s (after s entries.Out) refl
after-apart layout page s (entries.Mce slot line mask) was allowed = was
after-apart layout page s (entries.Fail situation required seen signals) was allowed = acted-apart s situation was
after-apart layout page s entries.Soft was allowed = was

led-apart : (layout : Layout) (page : Page) (s t : PageState) (list : List Entry) → Leads layout page s list t → IsApart s → IsApart t
led-apart layout page s t [] leads was = subst IsApart leads was
led-apart layout page s t (e ∷ es) leads was = led-apart layout page (after s e.what) t es leads.1 (after-apart layout page s e.what was leads.0)

pub replay-apart : {layout : Layout} {page : Page} {list : List Entry} {state : PageState} → IsReplay layout page list state → (slot : ℕ) → set.contains state.maps slot ≡ true → set.contains state.bar slot ≡ false
replay-apart {layout} {page} {list} {state} replay = led-apart layout page (opening_of replay.kind (is_locked layout page)) state list replay.leads (unmapped-apart (opening_of replay.kind (is_locked layout page)) (opening_of replay.kind (is_locked layout page)) refl)

-- a translation in use is one of the page
abbrev AreOwn : Layout → Page → PageState → Type 0
AreOwn layout page s = (slot : ℕ) → set.contains s.maps slot ≡ true → IsSomeAnd (slice_get layout.trans slot) (λ (t : TransDecl). t.page ≡ page)

unmapped-own : (layout : Layout) (page : Page) (t : PageState) → t.maps ≡ set.empty → AreOwn layout page t
unmapped-own layout page t none slot used = absurd (both_ways (set.contains t.maps slot) (ap (λ m. set.contains m slot) none ∙ set.contains-empty nat_cmp slot) used)

acted-own : (layout : Layout) (page : Page) (s : PageState) (situation : Situation) → AreOwn layout page s → AreOwn layout page (acted s situation)
acted-own layout page s situations.Free was = was
acted-own layout page s situations.Kernel was = was
acted-own layout page s situations.FileClean was = unmapped-own layout page (acted s situations.FileClean) refl
acted-own layout page s situations.FileDirty was = unmapped-own layout page (acted s situations.FileDirty) refl
acted-own layout page s situations.AnonOnly was = unmapped-own layout page (acted s situations.AnonOnly) refl
acted-own layout page s situations.SwapClean was = unmapped-own layout page (acted s situations.SwapClean) refl
acted-own layout page s situations.SwapDirty was = unmapped-own layout page (acted s situations.SwapDirty) refl
acted-own layout page s situations.LockedClean was = unmapped-own layout page (acted s situations.LockedClean) refl
acted-own layout page s situations.LockedFile was = unmapped-own layout page (acted s situations.LockedFile) refl
acted-own layout page s situations.LockedAnon was = unmapped-own layout page (acted s situations.LockedAnon) refl

mapped-own : (layout : Layout) (page : Page) (s : PageState) (k : ℕ) → IsSomeAnd (slice_get layout.trans k) (λ (t : TransDecl). t.page ≡ page) → AreOwn layout page s → AreOwn layout page (record s { maps = set.insert s.maps k })
mapped-own layout page s k own was q used = which (q == k) refl (sym (has-more s.maps k q) ∙ used)
  where
    which : (b : Bool) → (q == k) ≡ b → ((q == k) || set.contains s.maps q) ≡ true → IsSomeAnd (slice_get layout.trans q) (λ (t : TransDecl). t.page ≡ page)
    which true is used = subst (λ (n : ℕ). IsSomeAnd (slice_get layout.trans n) (λ (t : TransDecl). t.page ≡ page)) (sym (eqb-true q k is)) own
    which false is used = was q (sym (ap (λ (b : Bool). b || set.contains s.maps q) is) ∙ used)

freed-own : (layout : Layout) (page : Page) (s : PageState) (k : ℕ) → AreOwn layout page s → AreOwn layout page (record s { maps = set.remove s.maps k })
freed-own layout page s k was q used = which (q == k) refl (sym (has-less s.maps k q) ∙ used)
  where
    which : (b : Bool) → (q == k) ≡ b → (not (q == k) && set.contains s.maps q) ≡ true → IsSomeAnd (slice_get layout.trans q) (λ (t : TransDecl). t.page ≡ page)
    which true is used = absurd (both_ways true (sym used ∙ ap (λ (b : Bool). not b && set.contains s.maps q) is) refl)
    which false is used = was q (sym (ap (λ (b : Bool). not b && set.contains s.maps q) is) ∙ used)

after-own : (layout : Layout) (page : Page) (s : PageState) (what : What) → AreOwn layout page s → Allowed layout page s what → AreOwn layout page (after s what)
after-own layout page s (entries.Load slot line met) was allowed = was
after-own layout page s (entries.Store slot line (Word mask word)) was allowed = was
after-own layout page s (entries.Store slot line (Sigbus thread)) was allowed = was
after-own layout page s entries.FaultIn was allowed = was
after-own layout page s (entries.Map slot) was allowed = mapped-own layout page s slot.0 allowed.1 was
after-own layout page s (entries.Free slot) was allowed = freed-own layout page s slot.0 was
after-own layout page s entries.Drop was allowed = was
after-own layout page s entries.Sync was allowed = was
after-own layout page s entries.Out was allowed = unmapped-own layout page (after s entries.Out) refl
after-own layout page s (entries.Mce slot line mask) was allowed = was
after-own layout page s (entries.Fail situation required seen signals) was allowed = acted-own layout page s situation was
after-own layout page s entries.Soft was allowed = was

led-own : (layout : Layout) (page : Page) (s t : PageState) (list : List Entry) → Leads layout page s list t → AreOwn layout page s → AreOwn layout page t
led-own layout page s t [] leads was = subst (AreOwn layout page) leads was
led-own layout page s t (e ∷ es) leads was = led-own layout page (after s e.what) t es leads.1 (after-own layout page s e.what was leads.0)

pub replay-own : {layout : Layout} {page : Page} {list : List Entry} {state : PageState} → IsReplay layout page list state → (slot : ℕ) → set.contains state.maps slot ≡ true → IsSomeAnd (slice_get layout.trans slot) (λ (t : TransDecl). t.page ≡ page)
replay-own {layout} {page} {list} {state} replay = led-own layout page (opening_of replay.kind (is_locked layout page)) state list replay.leads (unmapped-own layout page (opening_of replay.kind (is_locked layout page)) refl)

-- ---- a body that is held

module _ {layout : Layout} {page : Page} {frame : Option Frame} {body : BodyValue} (is : IsBodyOf layout page frame body) where
  pub own-replay : IsReplay layout body.page body.log body.state
  own-replay = subst (λ (p : Page). IsReplay layout p body.log body.state) (sym is.page_is) is.replay

  -- its state is that of its history
  pub state-is : state_of layout (log_of body) ≡ body.state
  state-is = replay-state own-replay

  pub replay-is : IsReplay layout page body.log (state_of layout (log_of body))
  replay-is = subst (λ (s : PageState). IsReplay layout page body.log s) (sym state-is) is.replay

-- in a frame it is cached
pub is-cached : {layout : Layout} {page : Page} {frame : Frame} {body : BodyValue} → IsBodyOf layout page (Some frame) body → (state_of layout (log_of body)).cached ≡ true
is-cached {frame} is = sym is.cached ∙ ap not (ne_eqb (frame.0 + 1) 0 (λ e. omega (arith, e)))
