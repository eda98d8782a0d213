-- What a page's state says of a command: why the command is refused, and that the state allows the command's entry.
use Rattle.std.proofs.Common.{◌≡◌, inl, inr, Bool, true, false, Option, Some, None, slice_get, refl, sym, ap, ◌∙◌, subst, IsSomeAnd}
use Rattle.std.specs.FinSet as set
use Rattle.std.specs.Ordering.{nat_cmp}
use Rattle.hwp_core.specs.hwp_geom.declared.Frame.{Frame}
use Rattle.hwp_core.specs.hwp_geom.declared.Layout.{Layout}
use Rattle.hwp_core.specs.hwp_geom.declared.Page.{Page}
use Rattle.hwp_core.specs.hwp_geom.declared.PageKind.{PageKind}
use Rattle.hwp_core.specs.hwp_geom.Layout.{is_locked}
use Rattle.hwp_core.specs.hwp_page.declared.PageState.{PageState}
use Rattle.hwp_core.specs.hwp_page.History.{BodyValue, IsReplay}
use Rattle.hwp_core.specs.hwp_page.Refusals.{IsUnsaved}
use Rattle.hwp_core.specs.hwp_page.Step.{Allowed, opening_of, is_file}
use Rattle.hwp_core.specs.hwp_core_rule.Logs.{log_of, state_of}
use Rattle.hwp_core.specs.Holds.{IsBodyOf}
use Rattle.hwp_core.proofs.BodyStates.{replay-unused}
use Rattle.hwp_core.proofs.PageStates.{is-cached, led-kind, replay-is, state-is}
use Rattle.hwp_evict.specs.declared.evict.Eviction.{Eviction}
use Rattle.hwp_evict.specs.declared.evict.Eviction.TheVariants as evictions
use Rattle.hwp_evict.specs.declared.evict.Refusal.{Refusal}
use Rattle.hwp_evict.specs.declared.evict.Refusal.TheVariants as refusals
use Rattle.hwp_evict.specs.Evictions.{entry_of, absence, IsOfKind, Passes, Bars, IsWhy}
use Rattle.hwp_evict.specs.Evicts.{CanMakeEntry}

-- in no frame: the command is refused
pub away-why : {layout : Layout} {page : Page} {body : BodyValue} (what : Eviction) → IsBodyOf layout page None body → IsWhy what (absence what) (state_of layout (log_of body))
away-why {layout} {page} {body} what is = which what
  where
    away : (state_of layout (log_of body)).cached ≡ false
    away = sym is.cached

    none : (state_of layout (log_of body)).maps ≡ set.empty
    none = replay-unused (replay-is is) away

    which : (w : Eviction) → IsWhy w (absence w) (state_of layout (log_of body))
    which (evictions.Free slot) = ap (λ m. set.contains m slot.0) none ∙ set.contains-empty nat_cmp slot.0
    which evictions.Sync = away
    which evictions.Drop = away
    which evictions.Out = away

-- what bars the command is why it is refused
barred-why : (what : Eviction) (s : PageState) (refusal : Refusal) → s.cached ≡ true → Bars what s refusal → IsWhy what refusal s
barred-why (evictions.Free slot) s refusals.NotMapped cached bars = bars
barred-why evictions.Drop s refusals.Locked cached bars = (cached, bars)
barred-why evictions.Drop s refusals.Dirty cached bars = (cached, bars.0, bars.1)
barred-why evictions.Drop s refusals.Mapped cached bars = (cached, bars.0, bars.1, bars.2)
barred-why evictions.Out s refusals.Locked cached bars = (cached, bars)
barred-why (evictions.Free slot) s refusals.NotResident cached bars = absurd bars
barred-why (evictions.Free slot) s refusals.Locked cached bars = absurd bars
barred-why (evictions.Free slot) s refusals.Dirty cached bars = absurd bars
barred-why (evictions.Free slot) s refusals.Mapped cached bars = absurd bars
barred-why (evictions.Free slot) s (refusals.BadLines mask) cached bars = absurd bars
barred-why evictions.Sync s refusal cached bars = absurd bars
barred-why evictions.Out s refusals.NotMapped cached bars = absurd bars
barred-why evictions.Out s refusals.NotResident cached bars = absurd bars
barred-why evictions.Out s refusals.Dirty cached bars = absurd bars
barred-why evictions.Out s refusals.Mapped cached bars = absurd bars
barred-why evictions.Out s (refusals.BadLines mask) cached bars = absurd bars
barred-why evictions.Drop s refusals.NotMapped cached bars = absurd bars
barred-why evictions.Drop s refusals.NotResident cached bars = absurd bars
barred-why evictions.Drop s (refusals.BadLines mask) cached bars = absurd bars

pub bars-why : {layout : Layout} {page : Page} {frame : Frame} {body : BodyValue} (what : Eviction) (refusal : Refusal) → IsBodyOf layout page (Some frame) body → Bars what body.state refusal → IsWhy what refusal (state_of layout (log_of body))
bars-why {layout} {page} {frame} {body} what refusal is bars = barred-why what (state_of layout (log_of body)) refusal (is-cached is) (subst (λ (s : PageState). Bars what s refusal) (sym (state-is is)) bars)

is-clean : (s : PageState) → (IsUnsaved s → ⊥) → s.dirty ≡ false
is-clean s saved = which s.dirty refl
  where
    which : (b : Bool) → s.dirty ≡ b → s.dirty ≡ false
    which true dirty = absurd (saved (inl dirty))
    which false clean = clean

-- the kind of a page's state is the declared one
some-is : {A : Type 0} (P : A → Type 0) (o : Option A) (x : A) → o ≡ Some x → IsSomeAnd o P → P x
some-is P o x is has = subst (λ p. IsSomeAnd p P) is has

-- a page in a frame that lets the command go on allows its entry
passes-allowed : (layout : Layout) (page : Page) (what : Eviction) (s : PageState) (kind : PageKind) → slice_get layout.pages page.0 ≡ Some kind → s.kind ≡ kind → s.cached ≡ true → IsOfKind layout page what → Passes what s → Allowed layout page s (entry_of what)
passes-allowed layout page (evictions.Free slot) s kind declared is cached own passes = passes
passes-allowed layout page evictions.Sync s kind declared is cached own passes =
    (ap is_file is ∙ some-is (λ (k : PageKind). is_file k ≡ true) (slice_get layout.pages page.0) kind declared own, cached)
passes-allowed layout page evictions.Out s kind declared is cached own passes =
    (ap is_file is ∙ some-is (λ (k : PageKind). is_file k ≡ false) (slice_get layout.pages page.0) kind declared own, cached, passes)
passes-allowed layout page evictions.Drop s kind declared is cached own passes =
    record { cached = cached; unused = passes.2; clean = is-clean s passes.1; backed = λ none. passes.1 (inr none); unlocked = passes.0 }

module _ {layout : Layout} {page : Page} {frame : Frame} {body : BodyValue} (what : Eviction) (is : IsBodyOf layout page (Some frame) body) (own : IsOfKind layout page what) where
  pub allows : Passes what body.state → Allowed layout page (state_of layout (log_of body)) (entry_of what)
  allows passes = passes-allowed layout page what (state_of layout (log_of body)) replay.kind replay.declared (led-kind layout page (opening_of replay.kind (is_locked layout page)) (state_of layout (log_of body)) body.log replay.leads) (is-cached is) own
      (subst (Passes what) (sym (state-is is)) passes)
    where
      replay : IsReplay layout page body.log (state_of layout (log_of body))
      replay = replay-is is

  pub can-enter : Passes what body.state → CanMakeEntry what body
  can-enter passes = subst (λ (l : Layout). Allowed l body.page body.state (entry_of what)) (sym is.layout_is)
      (subst (λ (p : Page). Allowed layout p body.state (entry_of what)) (sym is.page_is) (subst (λ (s : PageState). Allowed layout page s (entry_of what)) (state-is is) (allows passes)))
