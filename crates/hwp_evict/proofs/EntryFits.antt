-- What fits once the command has made its entry, for each command.
use Rattle.std.proofs.Common.{◌≡◌, inl, inr, ◌<◌, ◌≤◌, Some, length, drop, refl, sym, ap, ◌∙◌, subst, List}
use Rattle.std.specs.FinSet as set
use Rattle.hwp_core.specs.hwp_geom.declared.Frame.{Frame}
use Rattle.hwp_core.specs.hwp_geom.declared.Layout.{Layout}
use Rattle.hwp_core.specs.hwp_geom.declared.Page.{Page}
use Rattle.hwp_core.specs.hwp_geom.declared.Who.{Who}
use Rattle.hwp_core.specs.hwp_geom.Layout.{IsSound}
use Rattle.hwp_core.specs.hwp_page.declared.PageState.{PageState}
use Rattle.hwp_core.specs.hwp_page.History.{BodyValue}
use Rattle.hwp_core.specs.hwp_core_rule.declared.Made.{Made}
use Rattle.hwp_core.specs.hwp_core_rule.declared.View.{View}
use Rattle.hwp_core.specs.hwp_core_rule.Logs.{log_of, state_of}
use Rattle.hwp_core.specs.hwp_core_rule.parts.Entries.{HasSeen}
use Rattle.hwp_core.specs.hwp_core_rule.Calls.{IsOnTurn}
use Rattle.hwp_core.specs.hwp_core_rule.Known.{HasMadeNoneBeside}
use Rattle.hwp_core.specs.Holds.{HoldsPage}
use Rattle.hwp_evict.specs.declared.evict.EvictAt.{EvictAt}
use Rattle.hwp_evict.specs.declared.evict.Eviction.{Eviction}
use Rattle.hwp_evict.specs.declared.evict.Eviction.TheVariants as evictions
use Rattle.hwp_evict.specs.Evictions.{entry_of, IsOfKind, Passes}
use Rattle.hwp_evict.specs.Evicts.{Enters, FitsAt, GoesOut, HasEntry, place}
use Rattle.hwp_evict.proofs.EvictBegins.{given-up-fits, has-entry, leaves, let-go}
use Rattle.hwp_evict.proofs.EntryHome.{same-words, shelf-words, state-after}
use Rattle.hwp_core.proofs.PageStates.{is-cached, state-is}
use Rattle.hwp_evict.proofs.SwapOut.{starts}

module _ {base : List Made} {layout : Layout} {view : View} {who : Who} {page : Page} (on : IsOnTurn view who) (inside : page.0 < length layout.pages) (sound : IsSound layout) (frame : Frame) (body : BodyValue) (has : HoldsPage layout view page (Some frame) body) (none : HasMadeNoneBeside base view who) where
  made-fits : (what : Eviction) → IsOfKind layout page what → Passes what body.state → has.seen ≤ length view.sights → HasSeen (drop has.seen view.sights) who (Some frame) (entry_of what)
      → (now : BodyValue) → HasEntry layout who page what (log_of body) (place page body) now → (x : EvictAt) → GoesOut who page what frame body.state.maps now (place page body) x → FitsAt base layout view who page what x
  made-fits (evictions.Free slot) kind passes few saw now entry x is = subst (FitsAt base layout view who page (evictions.Free slot)) (sym is) (
    refl,
    record {
      log = log_of body;
      seen = has.seen;
      handled = has.handled;
      poisoned = has.poisoned;
      hand_is = has.hand_is;
      entry = entry;
      sound = sound;
      within = has.within frame refl;
      made_none = none;
    },
  )
  made-fits evictions.Sync kind passes few saw now entry x is = subst (FitsAt base layout view who page evictions.Sync) (sym is)
      (let-go evictions.Sync on inside frame body has none kind passes sound few saw now entry (same-words entry frame has.seen (is-cached has.body_is) refl refl))
  made-fits evictions.Drop kind passes few saw now entry x is = subst (FitsAt base layout view who page evictions.Drop) (sym is)
      (leaves evictions.Drop on inside frame body has none kind passes sound few saw now entry (shelf-words entry frame has.seen refl unused unused refl) (ap (λ (s : PageState). s.maps) (state-after entry frame has.seen) ∙ unused))
    where
      unused : (state_of layout (log_of body)).maps ≡ set.empty
      unused = ap (λ (s : PageState). s.maps) (state-is has.body_is) ∙ passes.2
  made-fits evictions.Out kind passes few saw now entry x is = starts on inside sound frame body has now entry few saw none x is

  pub enters-fits : (what : Eviction) → IsOfKind layout page what → Passes what body.state → has.seen ≤ length view.sights → HasSeen (drop has.seen view.sights) who (Some frame) (entry_of what)
      → (x : EvictAt) → Enters who page what frame body x → FitsAt base layout view who page what x
  enters-fits what kind passes few saw x (inl is) = subst (FitsAt base layout view who page what) (sym is) (given-up-fits what on inside frame body has none kind passes)
  enters-fits what kind passes few saw x (inr is) = made-fits what kind passes few saw is.now
      (subst (HasEntry layout who page what (log_of body) (place page body)) (sym is.made) (has-entry what on inside frame body has none kind passes is.now.spare)) x is.next_is
