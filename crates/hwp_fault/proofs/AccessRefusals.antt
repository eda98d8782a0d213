-- An access that is refused: the entry of it, the process that it ends, and the page let go.
use Rattle.std.proofs.Common.{◌≡◌, ℕ, ◌<◌, ◌==◌, ◌&&◌, ◌||◌, Bool, true, false, not, cond, List, [], ◌∷◌, ◌++◌, Option, Some, None, length, drop, slice_get, refl, sym, ap, ◌∙◌, subst, arith}
use Rattle.std.proofs.Math.Seq.{drop-append_seam}
use Rattle.std.proofs.lemmas.Bool.{both_ways, eqb-true}
use Rattle.std.proofs.lemmas.List.{drop_all}
use Rattle.std.proofs.lemmas.List.Folds.{list_any-append}
use Rattle.std.proofs.lemmas.Option.{same_Some}
use Rattle.std.specs.List.{find}
use Rattle.hwp_page.specs.hwp_geom.declared.Frame.{Frame}
use Rattle.hwp_page.specs.hwp_geom.declared.Layout.{Layout}
use Rattle.hwp_page.specs.hwp_geom.declared.Page.{Page}
use Rattle.hwp_page.specs.hwp_geom.declared.Proc.{Proc}
use Rattle.hwp_page.specs.hwp_geom.declared.VSlot.{VSlot}
use Rattle.hwp_page.specs.hwp_geom.declared.Who.{Who}
use Rattle.hwp_page.specs.declared.Entry.{Entry}
use Rattle.hwp_page.specs.declared.PageState.{PageState}
use Rattle.hwp_page.specs.Endings.{ends, has_ending, is_ended_by, is_ending}
use Rattle.hwp_page.specs.History.{BodyValue, Leads}
use Rattle.hwp_page.specs.Step.{Allowed, IsRefused, after}
use Rattle.hwp_core.specs.hwp_words.Names.{frame_name}
use Rattle.hwp_core.specs.hwp_core_rule.declared.InHand.{InHand}
use Rattle.hwp_core.specs.hwp_core_rule.declared.Log.{Log}
use Rattle.hwp_core.specs.hwp_core_rule.declared.Made.{Made}
use Rattle.hwp_core.specs.hwp_core_rule.declared.PageLock.{PageLock}
use Rattle.hwp_core.specs.hwp_core_rule.declared.Sight.{Sight}
use Rattle.hwp_core.specs.hwp_core_rule.declared.Step.TheVariants as steps
use Rattle.hwp_core.specs.hwp_core_rule.declared.View.{View}
use Rattle.hwp_core.specs.hwp_core_rule.Asks.{CanGoHome, CanKill, Extends, HasPage, HasSameWords, PutFits}
use Rattle.hwp_core.specs.hwp_core_rule.Lists.{EachMember}
use Rattle.hwp_core.specs.hwp_core_rule.Logs.{fitting, fitting_word, log_of, state_of}
use Rattle.hwp_core.specs.hwp_core_rule.Views.{body_of, is_body_of, more_of}
use Rattle.hwp_core.specs.hwp_core_rule.parts.Entries.{HasSeen}
use Rattle.hwp_core.specs.hwp_core_rule.parts.Fits.{FitsWords}
use Rattle.hwp_core.proofs.of_hwp_core_rule.Lists.{same-number}
use Rattle.hwp_core.specs.hwp_core_rule.Calls.{IsOnTurn, Steps}
use Rattle.hwp_core.specs.hwp_core_rule.Hands.{Hand, body_in, hand_of, killing, listing, listing_of}
use Rattle.hwp_core.proofs.of_hwp_core_rule.tasks.StepLeaves.{hand-made}
use Rattle.hwp_core.specs.hwp_core_rule.Known.{HasMadeBeside, HasOnlyBeside, IsAt, Precedes, deeds}
use Rattle.hwp_core.proofs.of_hwp_core_rule.tasks.MadeEntries.{deeds-one, has-made-beside, kill-lists}
use Rattle.hwp_core.specs.Holds.{HoldsPage, held, page_lock}
use Rattle.hwp_core.specs.Unholds as unholds
use Rattle.hwp_core.specs.Unholds.{HoldsAhead, holding}
use Rattle.hwp_core.proofs.HoldEnds.{ahead-unholds, as-taken, held-ahead}
use Rattle.hwp_fault.specs.declared.touch.AccessKind.{AccessKind}
use Rattle.hwp_fault.specs.declared.touch.AccessKind.TheVariants as kinds
use Rattle.hwp_fault.specs.declared.touch.Touch.{Touch}
use Rattle.hwp_fault.specs.Touches.{IsTouch, as_snapshot, refusal, refusal_by, refusal_entry, refused}
use Rattle.hwp_fault.proofs.FaultEntries.{each-one, state-more}
use Rattle.hwp_fault.proofs.TranslationLoads.{in-hand, pages, state-is}

-- ---- the entry

-- a state that refuses the access allows it
pub allows : (layout : Layout) (page : Page) (s : PageState) (slot : VSlot) (touch : Touch) → IsRefused layout page s touch.thread slot → Allowed layout page s (refusal slot touch)
allows layout page s slot touch has = which touch.kind
  where
    which : (kind : AccessKind) → Allowed layout page s (refusal_by kind slot touch.line touch.thread)
    which kinds.Load = has
    which (kinds.Store word) = has

-- the state stays
stays : (slot : VSlot) (touch : Touch) (s : PageState) → after s (refusal slot touch) ≡ s
stays slot touch s = which touch.kind
  where
    which : (kind : AccessKind) → after s (refusal_by kind slot touch.line touch.thread) ≡ s
    which kinds.Load = refl
    which (kinds.Store word) = refl

-- it rests on nothing that was seen
rests : (slot : VSlot) (touch : Touch) (sights : List Sight) (who : Who) (frame : Option Frame) → HasSeen sights who frame (refusal slot touch)
rests slot touch sights who frame = which touch.kind
  where
    which : (kind : AccessKind) → HasSeen sights who frame (refusal_by kind slot touch.line touch.thread)
    which kinds.Load = tt
    which (kinds.Store word) = tt

-- it ends a process where its thread does
ends-by : (layout : Layout) (process : Proc) (slot : VSlot) (touch : Touch) → is_ending layout process (refusal slot touch) ≡ ends layout process touch.thread
ends-by layout process slot touch = which touch.kind
  where
    which : (kind : AccessKind) → is_ending layout process (refusal_by kind slot touch.line touch.thread) ≡ ends layout process touch.thread
    which kinds.Load = refl
    which (kinds.Store word) = refl

or-false : (b : Bool) → (b || false) ≡ b
or-false true = refl
or-false false = refl

or-true : (b : Bool) → (b || true) ≡ true
or-true true = refl
or-true false = refl

and-parts : (a b : Bool) → (a && b) ≡ true → (a ≡ true) × (b ≡ true)
and-parts true b is = (refl, is)
and-parts false b is = absurd (both_ways true (sym is) refl)

alone : (layout : Layout) (process : Proc) (who : Who) (slot : VSlot) (touch : Touch) → has_ending layout process (refusal_entry who slot touch ∷ []) ≡ ends layout process touch.thread
alone layout process who slot touch = or-false (is_ending layout process (refusal slot touch)) ∙ ends-by layout process slot touch

-- it ends the process of the access alone
one-process : (layout : Layout) (slot : VSlot) (touch : Touch) → IsTouch layout slot touch → (process : Proc) → ends layout process touch.thread ≡ true → process ≡ touch.process
one-process layout slot touch names process is = own ∙ names.thread_of
  where
    parts : (not names.thread.handler ≡ true) × ((names.thread.process.0 == process.0) ≡ true)
    parts = and-parts (not names.thread.handler) (names.thread.process.0 == process.0) (ap (is_ended_by process) (sym names.thread_declared) ∙ is)

    own : process ≡ names.thread.process
    own = sym (λ i. record { 0 = eqb-true names.thread.process.0 process.0 parts.1 i })

-- a body alone in hand is listed, and a process is ended by it
kill-one : (process : Proc) (page : Page) (log : Log) (b : InHand) (h : Hand) → (b.log.page.0 == log.page.0) ≡ true → (log.page.0 == page.0) ≡ true
    → killing process page (listing log (record h { bodies = b ∷ [] })) ≡ record h { bodies = record b { log = log; killed = b.killed ++ process ∷ [] } ∷ [] }
kill-one process page log b h in_hand own =
    ap (λ (c : Bool). killing process page (listing_of log (cond c (Some b) None) (record h { bodies = b ∷ [] }))) in_hand
    ∙ ap (λ (c : Bool). killing process page (record h { bodies = cond c (record b { log = log }) b ∷ [] })) in_hand
    ∙ ap (λ (c : Bool). record h { bodies = cond c (record b { log = log; killed = b.killed ++ process ∷ [] }) (record b { log = log }) ∷ [] }) own

-- ---- the body with the entry

module _ {layout : Layout} {view : View} {page : Page} {frame : Option Frame} {before : BodyValue} (who : Who) (slot : VSlot) (touch : Touch) (has : HoldsPage layout view page frame before)
    (allowed : IsRefused layout page before.state touch.thread slot) where
  abbrev log : Log
  log = log_of before

  abbrev entry : Entry
  entry = refusal_entry who slot touch

  abbrev body : BodyValue
  body = refused who slot touch before

  abbrev now : Log
  now = log_of body

  abbrev taken : InHand
  taken = body_in frame log has.seen

  abbrev words : List ℕ
  words = fitting layout before.page (state_of layout log) (frame_name frame)

  abbrev lock : PageLock
  lock = page_lock page frame (Some words)

  own-page : (before.page.0 == page.0) ≡ true
  own-page = same-number before.page.0 page.0 (ap (λ (p : Page). p.0) has.body_is.page_is)

  state-now : state_of layout now ≡ state_of layout log
  state-now = state-more layout log entry ∙ stays slot touch (state_of layout log)

  one-more : more_of taken now ≡ entry ∷ []
  one-more = drop-append_seam before.log (entry ∷ [])

  may : Allowed layout before.page (state_of layout log) entry.what
  may = subst (λ (s : PageState). Allowed layout before.page s entry.what) (sym (state-is has))
      (subst (λ (p : Page). Allowed layout p before.state entry.what) (sym has.body_is.page_is) (allows layout page before.state slot touch allowed))

  of-entry : (P : Entry → Type 0) → P entry → EachMember P (more_of taken now)
  of-entry P is = subst (EachMember P) (sym one-more) (each-one P entry is)

  extends : (sights : List Sight) → Extends layout who sights taken now
  extends sights = record {
    page_is = refl;
    longer = ap (λ (list : List Entry). before.log ++ list) (sym one-more);
    leads = subst (λ (list : List Entry). Leads layout before.page (state_of layout log) list (state_of layout now)) (sym one-more) (may, sym (state-more layout log entry));
    own = of-entry (λ (e : Entry). e.who ≡ who) refl;
    seen = of-entry (λ (e : Entry). HasSeen (drop has.seen sights) who frame e.what) (rests slot touch (drop has.seen sights) who frame);
  }

  ahead : HoldsAhead layout who view page frame 1 (Some before)
  ahead = held-ahead layout view who page frame before has

  home-before : CanGoHome layout who view log
  home-before = subst (λ (b : BodyValue). CanGoHome layout who view (log_of b)) (sym (same_Some before ahead.body ahead.given_is)) ahead.home

  -- the words that fitted fit it still
  fits-words : FitsWords layout now (frame_name frame) words
  fits-words =
      let was : FitsWords layout log (frame_name frame) words = home-before.fits.locked lock (frame_name frame) words (pages has) (sym has.body_is.page_is) refl refl in
      record {
        cached = was.cached ∙ ap (λ (s : PageState). s.cached) (sym state-now);
        used = λ v w t declared own there. was.used v w t declared own there ∙ ap (λ (s : PageState). fitting_word s (frame_name frame) v) (sym state-now);
      }

  put-fits : (v : View) (b : InHand) → slice_get v.pages 0 ≡ Some lock → HasSameWords (state_of layout now) (state_of layout b.log) → PutFits layout v b now
  put-fits v b at same = record {
    unlocked = λ none. same;
    locked = λ other cache trans there own cache_is trans_is.
        let is : lock ≡ other = same_Some lock other (sym at ∙ there) in
        subst (λ (c : ℕ). FitsWords layout now c trans) (same_Some (frame_name frame) cache (ap (λ (l : PageLock). l.cache) is ∙ cache_is))
        (subst (λ (ws : List ℕ). FitsWords layout now (frame_name frame) ws) (same_Some words trans (ap (λ (l : PageLock). l.trans) is ∙ trans_is)) fits-words);
  }

  held-so : hand_of view ≡ holding page frame 1 words taken has.handled has.poisoned
  held-so = has.hand_is ∙ which frame
    where
      which : (f : Option Frame) → held layout page f log has.seen has.handled has.poisoned ≡ holding page f 1 (fitting layout before.page (state_of layout log) (frame_name f)) (body_in f log has.seen) has.handled has.poisoned
      which None = refl
      which (Some f) = refl

  -- the page can be let go from a view that holds it with this body, which can go home
  lets-go : (v : View) (b : InHand) → hand_of v ≡ holding page frame 1 words b has.handled has.poisoned → CanGoHome layout who v now → b.log.page ≡ page → IsOnTurn v who → page.0 < length layout.pages
      → unholds.Fits layout v (unholds.begin who page frame 1 body)
  lets-go v b hand home own on inside = ahead-unholds layout v who page frame 1 body on inside (record {
    body = body;
    given_is = refl;
    trans = words;
    taken = b;
    handled = has.handled;
    poisoned = has.poisoned;
    hand_is = hand;
    home = home;
    page_is = has.body_is.page_is;
    taken_is = own;
    layout_is = has.body_is.layout_is;
  }) (omega arith) has.within

  -- ---- a process that goes on

  module _ (names : IsTouch layout slot touch) (unended : ends layout touch.process touch.thread ≡ false) where
    goes-home : CanGoHome layout who view now
    goes-home = record {
      body = taken;
      body_is = in-hand has;
      extends = extends view.sights;
      fits = put-fits view taken (pages has) (record { cached = ap (λ (s : PageState). s.cached) state-now; maps = ap (λ (s : PageState). s.maps) state-now; bar = ap (λ (s : PageState). s.bar) state-now });
      killed = λ process ended.
          let by : ends layout process touch.thread ≡ true = sym (alone layout process who slot touch) ∙ ap (has_ending layout process) (sym one-more) ∙ ended in
          absurd (both_ways (ends layout touch.process touch.thread) unended (subst (λ (p : Proc). ends layout p touch.thread ≡ true) (one-process layout slot touch names process by) by));
    }

    pub lets-go-at-once : IsOnTurn view who → page.0 < length layout.pages → unholds.Fits layout view (unholds.begin who page frame 1 body)
    lets-go-at-once on inside = lets-go view taken held-so goes-home has.body_is.page_is on inside

  -- ---- a process that is ended

  module _ (ending : ends layout touch.process touch.thread ≡ true) where
    abbrev page-held : HasPage view before.page
    page-held = record {
      lock = record { lock = lock; listed = pages has; page_is = sym has.body_is.page_is };
      body = taken;
      body_is = in-hand has;
      cache = frame_name frame;
      cache_is = refl;
      trans = words;
      trans_is = refl;
    }

    pub can-kill : page.0 < length layout.pages → CanKill layout who view touch.process page now
    can-kill inside = record {
      within = inside;
      page_is = has.body_is.page_is;
      page_held = page-held;
      extends = extends view.sights;
      ending = list_any-append (λ (e : Entry). is_ending layout touch.process e.what) before.log (entry ∷ [])
          ∙ ap (λ (b : Bool). has_ending layout touch.process before.log || b) (alone layout touch.process who slot touch ∙ ending) ∙ or-true (has_ending layout touch.process before.log);
    }

    module _ {new : View} {found : ℕ} {got : Option BodyValue} (made : Steps layout who (steps.Kill touch.process page (as_snapshot body)) None view new found got) where
      abbrev gone : InHand
      gone = record { log = now; since = length before.log; frame = frame; from = has.seen; killed = touch.process ∷ [] }

      hand-now : hand_of new ≡ holding page frame 1 words gone has.handled has.poisoned
      hand-now = hand-made made held-so ∙ which frame words taken (same-number before.page.0 before.page.0 refl)
        where
          which : (f : Option Frame) (ws : List ℕ) (b : InHand) → (b.log.page.0 == before.page.0) ≡ true
              → killing touch.process page (listing now (holding page f 1 ws b has.handled has.poisoned)) ≡ holding page f 1 ws (record b { log = now; killed = b.killed ++ touch.process ∷ [] }) has.handled has.poisoned
          which None ws b own = kill-one touch.process page now b (holding page None 1 ws b has.handled has.poisoned) own own-page
          which (Some f) ws b own = kill-one touch.process page now b (holding page (Some f) 1 ws b has.handled has.poisoned) own own-page

      bodies-now : new.bodies ≡ gone ∷ []
      bodies-now = ap (λ (h : Hand). h.bodies) hand-now ∙ which frame
        where
          which : (f : Option Frame) → (holding page f 1 words gone has.handled has.poisoned).bodies ≡ gone ∷ []
          which None = refl
          which (Some f) = refl

      pages-now : slice_get new.pages 0 ≡ Some lock
      pages-now = ap (λ (h : Hand). slice_get h.pages 0) hand-now ∙ which frame
        where
          which : (f : Option Frame) → slice_get (holding page f 1 words gone has.handled has.poisoned).pages 0 ≡ Some (page_lock page f (Some words))
          which None = refl
          which (Some f) = refl

      in-hand-now : body_of before.page new ≡ Some gone
      in-hand-now = ap (λ (l : List InHand). find (is_body_of before.page) l) bodies-now ∙ ap (λ (b : Bool). cond b (Some gone) None) (same-number before.page.0 before.page.0 refl)

      none-more : more_of gone now ≡ []
      none-more = drop_all (length now.entries) now.entries (omega arith)

      module _ (names : IsTouch layout slot touch) where
        gone-home : CanGoHome layout who new now
        gone-home = record {
          body = gone;
          body_is = in-hand-now;
          extends = let so : Extends layout who new.sights (body_in frame now has.seen) now = as-taken layout who frame now has.seen new.sights in
              record { page_is = so.page_is; longer = so.longer; leads = so.leads; own = so.own; seen = so.seen };
          fits = put-fits new gone pages-now (record { cached = refl; maps = refl; bar = refl });
          killed = λ process ended. (
            0,
            touch.process,
            refl,
            sym (one-process layout slot touch names process (sym (alone layout process who slot touch) ∙ ap (has_ending layout process) (sym one-more) ∙ ended)),
          );
        }

        pub lets-go-killed : IsOnTurn new who → page.0 < length layout.pages → unholds.Fits layout new (unholds.begin who page frame 1 body)
        lets-go-killed on inside = lets-go new gone hand-now gone-home has.body_is.page_is on inside

      -- the entry is the last one that the command made
      pub refusal-made : {base : List Made} → HasOnlyBeside base (Precedes page slot touch.line) view who → HasMadeBeside base (Precedes page slot touch.line) new who page (length before.log) (refusal slot touch)
      refusal-made only = has-made-beside who view new one.0 one.1 (subst (λ (p : Page). IsAt p (length before.log) (refusal slot touch) one.0) has.body_is.page_is one.2) only
        where
          one : (m : Made) × (deeds who new ≡ deeds who view ++ m ∷ []) × IsAt before.page (length before.log) (refusal slot touch) m
          one = deeds-one who (kill-lists (in-hand has) made) entry one-more refl

      pub none-left : (b : BodyValue) → b ≡ body → (t : InHand) × (body_of b.page new ≡ Some t) × (more_of t (log_of b) ≡ [])
      none-left b is = subst (λ (x : BodyValue). (t : InHand) × (body_of x.page new ≡ Some t) × (more_of t (log_of x) ≡ [])) (sym is) (gone, in-hand-now, none-more)
