-- What fits once the page is held: the command is refused, gives up, or has made its entry.
use Rattle.std.proofs.Common.{◌≡◌, ℕ, ◌+◌, ◌<◌, ◌≤◌, Bool, false, cond, [], ◌∷◌, Option, Some, None, is_none, length, drop, refl, sym, ap, ◌∙◌, subst, arith, List}
use Rattle.std.proofs.lemmas.List.{drop_all}
use Rattle.std.proofs.lemmas.Option.{same_Some}
use Rattle.std.specs.FinSet as set
use Rattle.std.specs.List.{find}
use Rattle.hwp_core.specs.hwp_geom.declared.Frame.{Frame}
use Rattle.hwp_core.specs.hwp_geom.declared.Layout.{Layout}
use Rattle.hwp_core.specs.hwp_geom.declared.Page.{Page}
use Rattle.hwp_core.specs.hwp_geom.declared.Who.{Who}
use Rattle.hwp_core.specs.hwp_geom.Layout.{IsSound}
use Rattle.hwp_core.specs.hwp_page.History.{BodyValue}
use Rattle.hwp_core.specs.hwp_core_rule.declared.Made.{Made}
use Rattle.hwp_core.specs.hwp_core_rule.declared.InHand.{InHand}
use Rattle.hwp_core.specs.hwp_core_rule.declared.Log.{Log}
use Rattle.hwp_core.specs.hwp_core_rule.declared.View.{View}
use Rattle.hwp_core.specs.hwp_core_rule.Logs.{log_of, state_of}
use Rattle.hwp_core.specs.hwp_core_rule.Views.{is_body_of}
use Rattle.hwp_core.specs.hwp_core_rule.parts.Entries.{HasSeen}
use Rattle.hwp_core.specs.hwp_core_rule.parts.Fits.{FitsWords}
use Rattle.hwp_core.proofs.of_hwp_core_rule.Lists.{same-number}
use Rattle.hwp_core.specs.hwp_core_rule.Calls.{IsOnTurn}
use Rattle.hwp_core.specs.hwp_core_rule.Hands.{Hand, body_in}
use Rattle.hwp_core.specs.hwp_core_rule.Known.{HasMadeNoneBeside, SawLog}
use Rattle.hwp_core.specs.Holds.{HoldsPage, held, page_lock}
use Rattle.hwp_core.specs.Unholds as unholds
use Rattle.hwp_core.proofs.GiveUpLaws.{page-given-up}
use Rattle.hwp_core.proofs.HoldEnds.{ahead-unholds, held-unholds}
use Rattle.hwp_evict.specs.declared.evict.EvictAnswer.TheVariants as answers
use Rattle.hwp_evict.specs.declared.evict.EvictAt.TheVariants as at
use Rattle.hwp_evict.specs.declared.evict.Eviction.{Eviction}
use Rattle.hwp_evict.specs.declared.evict.Refusal.{Refusal}
use Rattle.hwp_evict.specs.Evictions.{entry_of, IsOfKind, IsWhy, Passes, SawLines}
use Rattle.hwp_evict.specs.Evicts.{HasEntry, IsAhead, KnowsPut, FitsAt, given_up, place, refused, with_entry}
use Rattle.hwp_core.specs.Vacates as vacates
use Rattle.hwp_evict.proofs.EntryHome.{extends, goes-home, kills-none, one-more, words}
use Rattle.hwp_core.proofs.PageStates.{is-cached, replay-is}
use Rattle.hwp_evict.proofs.EvictStates.{allows}

-- the body that is in hand is the page's
in-hand : (view : View) {page : Page} (taken : InHand) → view.bodies ≡ taken ∷ [] → taken.log.page ≡ page → find (is_body_of page) view.bodies ≡ Some taken
in-hand view {page} taken bodies own = ap (find (is_body_of page)) bodies ∙ ap (λ (b : Bool). cond b (Some taken) None) (same-number taken.log.page.0 page.0 (ap (λ (p : Page). p.0) own))

held-bodies : (layout : Layout) (page : Page) (frame : Option Frame) (log : Log) (seen : ℕ) (handled poisoned : Bool) → (held layout page frame log seen handled poisoned).bodies ≡ body_in frame log seen ∷ []
held-bodies layout page None log seen handled poisoned = refl
held-bodies layout page (Some frame) log seen handled poisoned = refl

-- a page just held puts its body, and is under way
begins-with : (who : Who) (page : Page) (frame : Option Frame) (count : ℕ) (body : BodyValue) → (unholds.put (unholds.begin who page frame count body) ≡ Some body) × (is_none (unholds.plan (unholds.begin who page frame count body)) ≡ false)
begins-with who page None count body = (refl, refl)
begins-with who page (Some frame) count body = (refl, refl)

module _ {layout : Layout} {view : View} {who : Who} {page : Page} (what : Eviction) (on : IsOnTurn view who) (inside : page.0 < length layout.pages) where
  -- ---- a refusal
  pub refused-fits : {base : List Made} (frame : Option Frame) (body : BodyValue) (refusal : Refusal) → HoldsPage layout view page frame body → SawLog view who (log_of body) → HasMadeNoneBeside base view who → IsWhy what refusal (state_of layout (log_of body)) → SawLines layout view who page refusal
      → FitsAt base layout view who page what (refused who page frame body refusal)
  refused-fits {base} frame body refusal has saw none why lines = record {
    unhold = held-unholds layout view who page frame body on inside has;
    own = refl;
    under_way = (begins-with who page frame 1 body).1;
    knows = subst (λ (b : Option BodyValue). KnowsPut base layout view who page what (answers.Refused refusal (place page body)) b) (sym (begins-with who page frame 1 body).0) (record {
      taken = body_in frame (log_of body) has.seen;
      there = in-hand view (body_in frame (log_of body) has.seen) (ap (λ (h : Hand). h.bodies) has.hand_is ∙ held-bodies layout page frame (log_of body) has.seen has.handled has.poisoned) refl;
      page_is = has.body_is.page_is;
      made_none = none;
      comes = (
        drop_all (length body.log) body.log (omega arith),
        record { page_is = refl; state = record { log = log_of body; saw = saw; page_is = has.body_is.page_is; place_is = refl; such = why }; lines = lines },
      );
    });
  }

  -- ---- the entry
  module _ {base : List Made} (frame : Frame) (body : BodyValue) (has : HoldsPage layout view page (Some frame) body) (none : HasMadeNoneBeside base view who) (kind : IsOfKind layout page what) (passes : Passes what body.state) where
    pub given-up-fits : FitsAt base layout view who page what (given_up who page frame body)
    given-up-fits = record {
      give_up = page-given-up layout view who page (Some frame) 1 body (held-unholds layout view who page (Some frame) body on inside has);
      own = refl;
      puts = record { taken = body_in (Some frame) (log_of body) has.seen; there = in-hand view (body_in (Some frame) (log_of body) has.seen) (ap (λ (h : Hand). h.bodies) has.hand_is) refl; none_more = drop_all (length body.log) body.log (omega arith) };
    }

    pub has-entry : (spare : ℕ) → HasEntry layout who page what (log_of body) (place page body) (with_entry who (entry_of what) body spare)
    has-entry spare = record {
      page_is = has.body_is.page_is;
      log_is = refl;
      layout_is = has.body_is.layout_is;
      cached = is-cached has.body_is;
      replay = replay-is has.body_is;
      allowed = allows what has.body_is kind passes;
      done_is = refl;
    }

    pages : view.pages ≡ page_lock page (Some frame) (Some (words (has-entry 0) frame has.seen)) ∷ []
    pages = ap (λ (h : Hand). h.pages) has.hand_is

    bodies : view.bodies ≡ body_in (Some frame) (log_of body) has.seen ∷ []
    bodies = ap (λ (h : Hand). h.bodies) has.hand_is

    within : frame.0 < layout.frames
    within = has.within frame refl

    -- what the command makes with the body
    ahead : (now : BodyValue) → HasEntry layout who page what (log_of body) (place page body) now → IsAhead base layout view who page what (answers.Done (place page body)) now
    ahead now entry = record {
      taken = body_in (Some frame) (log_of body) has.seen;
      there = in-hand view (body_in (Some frame) (log_of body) has.seen) bodies (sym (ap (λ (l : Log). l.page) entry.log_is));
      page_is = ap (λ (l : Log). l.page) entry.log_is ∙ entry.page_is;
      made_none = none;
      comes = (one-more entry frame has.seen, refl);
    }

    module _ (sound : IsSound layout) (few : has.seen ≤ length view.sights) (saw : HasSeen (drop has.seen view.sights) who (Some frame) (entry_of what)) where
      -- the content is written, and the page is let go
      pub let-go : (now : BodyValue) → HasEntry layout who page what (log_of body) (place page body) now → FitsWords layout (log_of now) (frame.0 + 1) (words (has-entry 0) frame has.seen)
          → FitsAt base layout view who page what (at.Unhold (unholds.begin who page (Some frame) 1 now) (answers.Done (place page body)))
      let-go now entry fits = record {
        unhold = ahead-unholds layout view who page (Some frame) 1 now on inside (record {
          body = now;
          given_is = refl;
          trans = words (has-entry 0) frame has.seen;
          taken = body_in (Some frame) (log_of body) has.seen;
          handled = has.handled;
          poisoned = has.poisoned;
          hand_is = has.hand_is;
          home = goes-home entry frame has.seen view (Some frame) (words (has-entry 0) frame has.seen) pages bodies fits saw;
          page_is = ap (λ (l : Log). l.page) entry.log_is ∙ entry.page_is;
          taken_is = entry.page_is;
          layout_is = entry.layout_is;
        }) (omega arith) (λ f same. subst (λ (g : Frame). g.0 < layout.frames) (same_Some frame f same) within);
        own = refl;
        under_way = refl;
        knows = ahead now entry;
      }

      -- the page leaves its frame
      pub leaves : (now : BodyValue) → HasEntry layout who page what (log_of body) (place page body) now → FitsWords layout (log_of now) 0 (words (has-entry 0) frame has.seen) → (state_of layout (log_of now)).maps ≡ set.empty
          → FitsAt base layout view who page what (at.Vacate (vacates.begin who page frame 2 now) (place page body))
      leaves now entry fits unmapped = record {
        vacate = record {
          on_turn = on;
          sound = sound;
          page = inside;
          frame = within;
          some = omega arith;
          room = omega arith;
          at = record {
            trans = words (has-entry 0) frame has.seen;
            taken = body_in (Some frame) (log_of body) has.seen;
            handled = has.handled;
            poisoned = has.poisoned;
            hand_is = has.hand_is;
            goes = record {
              body = now;
              given_is = refl;
              page_is = ap (λ (l : Log). l.page) entry.log_is ∙ entry.page_is;
              taken_is = entry.page_is;
              layout_is = entry.layout_is;
              from = few;
              extends = extends entry frame has.seen view.sights saw;
              killed = kills-none entry frame has.seen;
              fits = fits;
              unmapped = unmapped;
            };
          };
        };
        own = refl;
        under_way = refl;
        body = now;
        body_is = refl;
        ahead = ahead now entry;
      }
