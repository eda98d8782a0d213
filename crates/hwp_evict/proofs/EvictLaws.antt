-- The laws of `Evict`.
use Rattle.std.proofs.Common.{◌≡◌, ℕ, ◌<◌, Bool, true, false, cond, Option, Some, None, is_none, length, slice_get, refl, sym, ap, ◌∙◌, subst, List}
use Rattle.std.proofs.lemmas.Bool.{both_ways}
use Rattle.std.proofs.lemmas.Option.{none-some, slice_get_within}
use Rattle.hwp_core.specs.hwp_geom.declared.Layout.{Layout}
use Rattle.hwp_core.specs.hwp_geom.declared.Page.{Page}
use Rattle.hwp_core.specs.hwp_geom.declared.TransDecl.{TransDecl}
use Rattle.hwp_core.specs.hwp_geom.declared.VSlot.{VSlot}
use Rattle.hwp_core.specs.hwp_geom.declared.Who.{Who}
use Rattle.hwp_core.specs.hwp_page.declared.At.{At}
use Rattle.hwp_core.specs.hwp_page.History.{BodyValue}
use Rattle.hwp_core.specs.hwp_page.Step.{IsOf}
use Rattle.hwp_core.specs.hwp_words.Stops.{is_stopped}
use Rattle.hwp_core.specs.hwp_core_rule.declared.Made.{Made}
use Rattle.hwp_core.specs.hwp_core_rule.declared.SharedWord.TheVariants as places
use Rattle.hwp_core.specs.hwp_core_rule.declared.Step.{Step}
use Rattle.hwp_core.specs.hwp_core_rule.declared.Step.TheVariants as steps
use Rattle.hwp_core.specs.hwp_core_rule.declared.View.{View}
use Rattle.hwp_core.specs.hwp_core_rule.declared.Turn.{Turn}
use Rattle.hwp_core.specs.hwp_core_rule.Calls.{CanMake, IsOnTurn, Steps, logs}
use Rattle.hwp_core.specs.hwp_core_rule.Hands.{hand_of, empty}
use Rattle.hwp_core.proofs.of_hwp_core_rule.tasks.StepLeaves.{on-turn-after, hand-planned, steps-planned, can-make}
use Rattle.hwp_core.specs.hwp_core_rule.Known.{HasMadeNoneBeside}
use Rattle.hwp_core.specs.hwp_core_rule.Turns.{IsTask}
use Rattle.hwp_core.proofs.of_hwp_core_rule.tasks.MadeEntries.{ListsNone, deeds-same}
use Rattle.hwp_core.proofs.of_hwp_core_rule.tasks.SightKeeps.{saw-load}
use Rattle.hwp_core.specs.declared.release.Release.{Release}
use Rattle.hwp_core.specs.declared.release.ReleaseAt.{ReleaseAt}
use Rattle.hwp_core.specs.declared.release.ReleaseAt.TheVariants as release_at
use Rattle.hwp_core.specs.declared.unhold.Unhold.{Unhold}
use Rattle.hwp_core.specs.GiveUps as give_ups
use Rattle.hwp_core.specs.Holds as holds
use Rattle.hwp_core.specs.Releases as releases
use Rattle.hwp_core.specs.Unholds as unholds
use Rattle.hwp_core.proofs.GiveUpLaws as giving_up
use Rattle.hwp_core.proofs.HoldLaws as holding_laws
use Rattle.hwp_core.proofs.HoldEnds.{nothing-left}
use Rattle.hwp_core.proofs.TaskCosts.{hold-lists}
use Rattle.hwp_core.proofs.UnholdLaws as unholding
use Rattle.hwp_evict.specs.declared.evict.Evict.{Evict}
use Rattle.hwp_evict.specs.declared.evict.EvictAnswer.{EvictAnswer}
use Rattle.hwp_evict.specs.declared.evict.EvictAnswer.TheVariants as answers
use Rattle.hwp_evict.specs.declared.evict.EvictAt.{EvictAt}
use Rattle.hwp_evict.specs.declared.evict.EvictAt.TheVariants as at
use Rattle.hwp_evict.specs.declared.evict.Eviction.{Eviction}
use Rattle.hwp_core.specs.declared.vacate.Vacate.{Vacate}
use Rattle.hwp_core.specs.declared.vacate.VacateAt.{VacateAt}
use Rattle.hwp_core.specs.declared.vacate.VacateAt.TheVariants as vacate_at
use Rattle.hwp_evict.specs.Evictions.{IsCaused, IsOfKind}
use Rattle.hwp_evict.specs.Evicts.{plan, plan_at, put, put_at, bare, bare_at, after_stop, after_unhold, after_vacate, Follows, FollowsAt, Shows, ShowsAt, IsAhead, IsFreeing, IsLettingGo, IsVacating, KnowsPut, PutsNoMore, FitsAt, FitsFrom, task as evict-task}
use Rattle.hwp_core.specs.Vacates as vacates
use Rattle.hwp_evict.proofs.AnswerCauses.{ahead-stays, given-up-after, home-after, home-by-page, unhold-causes}
use Rattle.hwp_evict.proofs.EvictSteps.{bad-fits, held-enters, hold-fits, recent-held}
use Rattle.hwp_core.proofs.TranslationWrites.{declared-of}
use Rattle.hwp_evict.proofs.SlotFreed.{can-write, freed}
use Rattle.hwp_evict.proofs.EvictStates.{can-enter}
use Rattle.hwp_core.proofs.ClearLaws as clearing
use Rattle.hwp_evict.proofs.SwapOut.{clear-fits, clear-shows}
use Rattle.hwp_core.proofs.VacateCosts.{vacate-lists}
use Rattle.hwp_core.proofs.VacateLaws as vacating

-- ---- the steps can be made

-- the translation is one of the layout
slot-within : (layout : Layout) (page : Page) (slot : VSlot) → IsOf layout page slot → slot.0 < length layout.trans
slot-within layout page slot own =
    let decl : (t : TransDecl) × (slice_get layout.trans slot.0 ≡ Some t) × (t.page ≡ page) = declared-of (λ (t : TransDecl). t.page ≡ page) (slice_get layout.trans slot.0) own in
    slice_get_within layout.trans slot.0 decl.0 decl.1

pub can : {base : List Made} (layout : Layout) (view : View) (e : Evict) (step : Step) → FitsFrom base layout view e → plan e ≡ Some step → CanMake layout e.who step (put e) view
can {base} layout view e step fits is = which e.at fits.at is
  where
    which : (x : EvictAt) → FitsAt base layout view e.who e.page e.what x → plan_at x ≡ Some step → CanMake layout e.who step (put_at x) view
    which at.LoadStop has p = can-make fits.on_turn p tt tt
    which (at.Hold h) has p = subst (λ (w : Who). CanMake layout w step None view) has.own (holding_laws.can layout view h step has.hold p)
    which (at.LoadBad frame body) has p = can-make fits.on_turn p (has.page_held.within frame refl) tt
    which (at.SetPte slot frame body done) has p = can-make fits.on_turn p (slot-within layout e.page slot own) (can-write (subst (λ (w : Eviction). IsFreeing base layout view e.who e.page w frame body done) has.0 has.1) own)
      where
        own : IsOf layout e.page slot
        own = subst (IsOfKind layout e.page) has.0 fits.kind
    which (at.Clear c body done) has p = subst (λ (w : Who). CanMake layout w step None view) has.own (clearing.can layout view c step has.clear p)
    which (at.Vacate v done) has p = subst (λ (w : Who). CanMake layout w step (vacates.put v) view) has.own (vacating.can layout view v step has.vacate p)
    which (at.Unhold u answer) has p = subst (λ (w : Who). CanMake layout w step (unholds.put u) view) has.own (unholding.can layout view u step has.unhold p)
    which (at.GiveUp g) has p = subst (λ (w : Who). CanMake layout w step (give_ups.put g) view) has.own (giving_up.can layout view g step has.give_up p)
    which (at.Over answer) has p = absurd (none-some step p)

-- ---- what follows fits

module _ {layout : Layout} {old new : View} {who : Who} {page : Page} {found : ℕ} {got : Option BodyValue} where
  -- the stop word is read
  stop-fits : {base : List Made} (what : Eviction) → IsOnTurn new who → page.0 < length layout.pages → hand_of old ≡ empty → HasMadeNoneBeside base old who → Steps layout who (steps.Load places.Stop) None old new found got → FitsAt base layout new who page what (after_stop who page found)
  stop-fits {base} what on inside hand none made = which (is_stopped found) refl
    where
      still : hand_of new ≡ empty
      still = hand-planned made refl hand

      none-still : HasMadeNoneBeside base new who
      none-still = deeds-same who tt made ∙ none

      which : (b : Bool) → is_stopped found ≡ b → FitsAt base layout new who page what (cond b (at.Over answers.Stopped) (at.Hold (holds.begin who page)))
      which true is = (still, (none-still, record { word = found; saw = saw-load made; stopped = is }))
      which false is = record { hold = record { on_turn = on; page = inside; at = still }; own = refl; page_is = refl; under_way = refl; made_none = none-still }

module _ {layout : Layout} {old new : View} {who : Who} {page : Page} {what : Eviction} {step : Step} {found : ℕ} {got : Option BodyValue} where
  -- a step by which the page is let go
  unhold-fits : {base : List Made} (u : Unhold) (answer : EvictAnswer) → IsLettingGo base layout old who page what u answer → unholds.plan u ≡ Some step → Steps layout who step (logs (unholds.put u)) old new found got
      → FitsAt base layout new who page what (after_unhold (unholds.next (unholds.bare u) found) answer)
  unhold-fits {base} u answer has is made = which (is_none (unholds.plan after)) refl
    where
      after : Unhold
      after = unholds.next (unholds.bare u) found

      own : Steps layout u.who step (logs (unholds.put u)) old new found got
      own = subst (λ (w : Who). Steps layout w step (logs (unholds.put u)) old new found got) (sym has.own) made

      fits : unholds.Fits layout new (unholds.next (unholds.bare u) found)
      fits = unholding.moved layout old new u step found got has.unhold is own

      caused : IsCaused base layout new who page what answer
      caused = subst (λ (w : Who). IsCaused base layout new w page what answer) has.own
          (unhold-causes base page what u answer is own (subst (λ (w : Who). KnowsPut base layout old w page what answer (unholds.put u)) (sym has.own) has.knows))

      which : (b : Bool) → is_none (unholds.plan (unholds.next (unholds.bare u) found)) ≡ b → FitsAt base layout new who page what (cond b (at.Over answer) (at.Unhold (unholds.next (unholds.bare u) found) answer))
      which true over = (nothing-left layout new (unholds.next (unholds.bare u) found) over fits, caused)
      which false on = record { unhold = fits; own = has.own; under_way = on; knows = subst (KnowsPut base layout new who page what answer) (sym (home-after u found)) caused }

-- ---- the page leaves its frame

-- a release that is under way isn't over
release-goes : (v : Vacate) (r : Release) (x : ReleaseAt) → is_none (vacates.plan_at v.page v.frame (vacates.after_release (record r { at = x }))) ≡ true → ⊥
release-goes v r release_at.Put over = both_ways true (sym over) refl
release-goes v r (release_at.Give word) over = both_ways true (sym over) refl
release-goes v r (release_at.Unreserve word) over = both_ways true (sym over) refl
release-goes v r (release_at.Adopt word) over = both_ways true (sym over) refl
release-goes v r (release_at.Retire word) over = both_ways true (sym over) refl
release-goes v r (release_at.Back word) over = both_ways true (sym over) refl

-- while it is under way its body stays in hand, and when it is over the body is home
abbrev Ends : List Made → Layout → View → Page → Eviction → EvictAnswer → BodyValue → Vacate → ℕ → VacateAt → Type 0
Ends base layout view page what answer body v found x =
    (is_none (vacates.plan_at v.page v.frame (vacates.next_at v.who v.frame v.count x found)) ≡ true → IsCaused base layout view v.who page what answer)
    × (is_none (vacates.plan_at v.page v.frame (vacates.next_at v.who v.frame v.count x found)) ≡ false → (vacates.left_at v.body x ≡ Some body) × IsAhead base layout view v.who page what answer body)

module _ {base : List Made} {layout : Layout} {old new : View} {page : Page} {what : Eviction} {answer : EvictAnswer} {body : BodyValue} (v : Vacate) {step : Step} {found : ℕ} {got : Option BodyValue} (ahead : IsAhead base layout old v.who page what answer body) (given : v.body ≡ Some body) (lists : ListsNone step) where
  stays-ahead : Steps layout v.who step None old new found got → new.bodies ≡ old.bodies → IsAhead base layout new v.who page what answer body
  stays-ahead made bodies = ahead-stays made (deeds-same v.who lists made) bodies ahead

  release-bodies : (r : Release) → releases.plan r ≡ Some step → Steps layout v.who step None old new found got → new.bodies ≡ old.bodies
  release-bodies r is made = which r.at is
    where
      which : (x : ReleaseAt) → releases.plan_at r.frame r.count x ≡ Some step → new.bodies ≡ old.bodies
      which release_at.Put e = ap (λ (x : View). x.bodies) (steps-planned e made).told.next
      which (release_at.Give word) e = ap (λ (x : View). x.bodies) (steps-planned e made).told.next
      which (release_at.Unreserve word) e = ap (λ (x : View). x.bodies) (steps-planned e made).told.next
      which (release_at.Adopt word) e = ap (λ (x : View). x.bodies) (steps-planned e made).told.next
      which (release_at.Retire word) e = ap (λ (x : View). x.bodies) (steps-planned e made).told.next
      which (release_at.Back word) e = absurd (none-some step e)

  pub vacate-ends : (x : VacateAt) → vacates.plan_at v.page v.frame x ≡ Some step → Steps layout v.who step (logs (vacates.put_at v.body x)) old new found got → Ends base layout new page what answer body v found x
  vacate-ends vacate_at.SetCache e made = ((λ over. absurd (both_ways true (sym over) refl)), (λ on. (given, stays-ahead made (ap (λ (x : View). x.bodies) (steps-planned e made).told.next))))
  vacate-ends vacate_at.SetOwner e made = ((λ over. absurd (both_ways true (sym over) refl)), (λ on. (given, stays-ahead made (ap (λ (x : View). x.bodies) (steps-planned e made).told.next))))
  vacate-ends vacate_at.UnlockFrame e made = ((λ over. absurd (both_ways true (sym over) refl)), (λ on. (given, stays-ahead made (ap (λ (x : View). x.bodies) (steps-planned e made).told.next))))
  vacate-ends (vacate_at.Release r) e made = ((λ over. absurd (release-goes v r (releases.next_at r.count r.at found) over)), (λ on. (given, stays-ahead made (release-bodies r e made))))
  vacate-ends vacate_at.UnlockPage e made =
      ((λ over. home-by-page ahead (steps-planned e (subst (λ (b : Option BodyValue). Steps layout v.who step (logs b) old new found got) given made))), (λ on. absurd (both_ways true on refl)))
  vacate-ends vacate_at.Over e made = absurd (none-some step e)

-- a page that is let go leaves nothing held
vacate-left : (layout : Layout) (view : View) (v : Vacate) → is_none (vacates.plan v) ≡ true → vacates.Fits layout view v → hand_of view ≡ empty
vacate-left layout view v over fits = which v.at over fits.at
  where
    which : (x : VacateAt) → is_none (vacates.plan_at v.page v.frame x) ≡ true → vacates.FitsAt layout view (record v { at = x }) x → hand_of view ≡ empty
    which vacate_at.SetCache over has = absurd (both_ways true (sym over) refl)
    which vacate_at.SetOwner over has = absurd (both_ways true (sym over) refl)
    which vacate_at.UnlockFrame over has = absurd (both_ways true (sym over) refl)
    which (vacate_at.Release r) over has = absurd (both_ways (is_none (releases.plan r)) has.under_way over)
    which vacate_at.UnlockPage over has = absurd (both_ways true (sym over) refl)
    which vacate_at.Over over has = has

module _ {layout : Layout} {old new : View} {who : Who} {page : Page} {what : Eviction} {step : Step} {found : ℕ} {got : Option BodyValue} where
  vacate-fits : {base : List Made} (v : Vacate) (done : At) → IsVacating base layout old who page what v done → vacates.plan v ≡ Some step → Steps layout who step (logs (vacates.put v)) old new found got
      → FitsAt base layout new who page what (after_vacate (vacates.next (vacates.bare v) found) done)
  vacate-fits {base} v done has is made = which (is_none (vacates.plan (vacates.next (vacates.bare v) found))) refl
    where
      own : Steps layout v.who step (logs (vacates.put v)) old new found got
      own = subst (λ (w : Who). Steps layout w step (logs (vacates.put v)) old new found got) (sym has.own) made

      fits : vacates.Fits layout new (vacates.next (vacates.bare v) found)
      fits = vacating.moved layout old new v step found got has.vacate is own

      ends : (is_none (vacates.plan (vacates.next (vacates.bare v) found)) ≡ true → IsCaused base layout new v.who page what (answers.Done done))
          × (is_none (vacates.plan (vacates.next (vacates.bare v) found)) ≡ false → (vacates.left_at v.body v.at ≡ Some has.body) × IsAhead base layout new v.who page what (answers.Done done) has.body)
      ends = vacate-ends v (subst (λ (w : Who). IsAhead base layout old w page what (answers.Done done) has.body) (sym has.own) has.ahead) has.body_is (vacate-lists v step is) v.at is own

      which : (b : Bool) → is_none (vacates.plan (vacates.next (vacates.bare v) found)) ≡ b → FitsAt base layout new who page what (cond b (at.Over (answers.Done done)) (at.Vacate (vacates.next (vacates.bare v) found) done))
      which true over = (vacate-left layout new (vacates.next (vacates.bare v) found) over fits, subst (λ (w : Who). IsCaused base layout new w page what (answers.Done done)) has.own (ends.0 over))
      which false on = record {
        vacate = fits;
        own = has.own;
        under_way = on;
        body = has.body;
        body_is = (ends.1 on).0;
        ahead = subst (λ (w : Who). IsAhead base layout new w page what (answers.Done done) has.body) has.own (ends.1 on).1;
      }

-- a step shows what is needed, and what follows fits again
pub both : {base : List Made} (layout : Layout) (old new : View) (e : Evict) (step : Step) (found : ℕ) (got : Option BodyValue) → FitsFrom base layout old e → plan e ≡ Some step → Steps layout e.who step (logs (put e)) old new found got
    → Shows (bare e) found got × ((y : EvictAt) (turn : Turn) → FollowsAt e.who e.page e.what (bare_at e.at) found got y turn → FitsAt base layout new e.who e.page e.what y)
both {base} layout old new e step found got fits is made = which e.at is fits.at made
  where
    on : IsOnTurn new e.who
    on = on-turn-after fits.on_turn made

    to : {x y : EvictAt} → y ≡ x → FitsAt base layout new e.who e.page e.what x → FitsAt base layout new e.who e.page e.what y
    to is has = subst (FitsAt base layout new e.who e.page e.what) (sym is) has

    which : (x : EvictAt) → plan_at x ≡ Some step → FitsAt base layout old e.who e.page e.what x → Steps layout e.who step (logs (put_at x)) old new found got
        → ShowsAt e.what (bare_at x) found got × ((y : EvictAt) (turn : Turn) → FollowsAt e.who e.page e.what (bare_at x) found got y turn → FitsAt base layout new e.who e.page e.what y)
    which at.LoadStop p has made = (tt, λ y turn follows. to follows.0 (stop-fits e.what on fits.page has.0 has.1 (steps-planned p made)))
    which (at.Hold h) p has made = (
      (all.0, held-enters e.what (holds.next h found got) has.page_is fits.kind all.1),
      λ y turn follows.
          hold-fits e.what on fits.page own.told.rule.sound fits.kind none (holds.next h found got) has.own has.page_is all.1 (recent-held h has.hold p own) y follows.0,
    )
      where
        own : Steps layout h.who step None old new found got
        own = subst (λ (w : Who). Steps layout w step None old new found got) (sym has.own) made

        all : holds.Shows h found got × holds.Fits layout new (holds.next h found got)
        all = holding_laws.both layout old new h step found got has.hold p own

        none : HasMadeNoneBeside base new e.who
        none = deeds-same e.who (hold-lists h step p) made ∙ has.made_none
    which (at.LoadBad frame body) p has made = (can-enter e.what has.page_held.body_is fits.kind has.passes, λ y turn follows. bad-fits on fits.page fits.kind has (steps-planned p made) y follows.0)
    which (at.SetPte slot frame body done) p has made = (
      tt,
      λ y turn follows. to follows.0
          (subst (λ (w : Eviction). FitsAt base layout new e.who e.page w (at.Unhold (unholds.begin e.who e.page (Some frame) 2 body) (answers.Done done))) (sym has.0)
          (freed (subst (λ (w : Eviction). IsFreeing base layout old e.who e.page w frame body done) has.0 has.1) own on fits.page (slot-within layout e.page slot own) (steps-planned p made))),
    )
      where
        own : IsOf layout e.page slot
        own = subst (IsOfKind layout e.page) has.0 fits.kind
    which (at.Clear c body done) p has made = (clear-shows c on fits.page has p own, λ y turn follows. clear-fits c on fits.page has p own y follows.0)
      where
        own : Steps layout c.who step None old new found got
        own = subst (λ (w : Who). Steps layout w step None old new found got) (sym has.own) made
    which (at.Vacate v done) p has made = (tt, λ y turn follows. to follows.0 (vacate-fits v done has p made))
    which (at.Unhold u answer) p has made = (tt, λ y turn follows. to follows.0 (unhold-fits u answer has p made))
    which (at.GiveUp g) p has made = (
      tt,
      λ y turn follows. to follows.0 (record {
        give_up = giving_up.moved layout old new g step found got has.give_up p (subst (λ (w : Who). Steps layout w step (logs (give_ups.put g)) old new found got) (sym has.own) made);
        own = has.own;
        puts = subst (PutsNoMore new) (sym (given-up-after g found)) tt;
      }),
    )
    which (at.Over answer) p has made = absurd (none-some step p)

pub stays : {base : List Made} (layout : Layout) (old new : View) (e : Evict) (step : Step) (found : ℕ) (got : Option BodyValue) → FitsFrom base layout old e → plan e ≡ Some step → Steps layout e.who step (logs (put e)) old new found got
    → Shows (bare e) found got × ((after : Evict) (turn : Turn) → Follows (bare e) found got after turn → FitsFrom base layout new after × (after.who.cpu ≡ e.who.cpu))
stays {base} layout old new e step found got fits is made = let all = both layout old new e step found got fits is made in (
  all.0,
  λ after turn follows. (
    subst (FitsFrom base layout new) (sym follows.0) (record { on_turn = on-turn-after fits.on_turn made; page = fits.page; kind = fits.kind; at = all.1 after.at turn follows.1 }),
    ap (λ (x : Evict). x.who.cpu) follows.0,
  ),
)

-- whatever the command had made before
pub lawful : IsTask evict-task
lawful = record {
  can = λ layout view e step fits is. can layout view e step fits.1 is;
  stays = λ layout old new e step found got fits is made.
      let all = stays layout old new e step found got fits.1 is made in (all.0, λ after turn follows. let next = all.1 after turn follows in ((fits.0, next.0), next.1));
}
