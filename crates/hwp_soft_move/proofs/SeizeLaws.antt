-- The laws of `Seize`.
use Rattle.std.proofs.Common.{◌≡◌, ℕ, ◌<◌, ◌==◌, Bool, true, false, cond, Option, Some, None, is_none, slice_get, slice_index, refl, sym, ap, ◌∙◌, subst, arith}
use Rattle.std.proofs.lemmas.Bool.{eqb-false, ne_eqb}
use Rattle.std.proofs.lemmas.Option.{none-some}
use Rattle.hwp_claim_frame.specs.hwp_geom.declared.Frame.{Frame}
use Rattle.hwp_claim_frame.specs.hwp_geom.declared.Layout.{Layout}
use Rattle.hwp_claim_frame.specs.hwp_geom.declared.Page.{Page}
use Rattle.hwp_claim_frame.specs.hwp_geom.declared.Who.{Who}
use Rattle.hwp_claim_frame.specs.hwp_page.History.{BodyValue}
use Rattle.hwp_claim_frame.specs.hwp_words.Frames.{count_of, handled_of, is_handled, is_kernel, is_poisoned, poison_of}
use Rattle.hwp_claim_frame.specs.hwp_core_rule.declared.SharedWord.TheVariants as places
use Rattle.hwp_claim_frame.specs.hwp_core_rule.declared.State.{State}
use Rattle.hwp_claim_frame.specs.hwp_core_rule.declared.Step.{Step}
use Rattle.hwp_claim_frame.specs.hwp_core_rule.declared.Step.TheVariants as steps
use Rattle.hwp_claim_frame.specs.hwp_core_rule.declared.View.{View}
use Rattle.hwp_claim_frame.specs.hwp_core_rule.Rule.{Holds}
use Rattle.hwp_claim_frame.specs.hwp_core_rule.Words.{index}
use Rattle.hwp_claim_frame.proofs.of_hwp_core_rule.MetWords.{frame-word}
use Rattle.hwp_claim_frame.specs.hwp_core_rule.declared.Turn.{Turn}
use Rattle.hwp_claim_frame.specs.hwp_core_rule.Calls.{CanMake, IsOnTurn, Steps, logs}
use Rattle.hwp_claim_frame.specs.hwp_core_rule.Hands.{hand_of, empty}
use Rattle.hwp_claim_frame.proofs.of_hwp_core_rule.tasks.StepLeaves.{on-turn-after, hand-planned, steps-planned, can-make}
use Rattle.hwp_claim_frame.specs.hwp_core_rule.Known.{Saw}
use Rattle.hwp_claim_frame.proofs.of_hwp_core_rule.tasks.SightKeeps.{saw-load}
use Rattle.hwp_claim_frame.specs.hwp_core.declared.release.ReleaseAt.{ReleaseAt}
use Rattle.hwp_claim_frame.specs.hwp_core.declared.release.ReleaseAt.TheVariants as release_at
use Rattle.hwp_claim_frame.specs.hwp_core.Holds.{is_free}
use Rattle.hwp_claim_frame.specs.hwp_core.Releases as releases
use Rattle.hwp_claim_frame.proofs.of_hwp_core.TaskTells.{Tells, empty-tells, frame-tells}
use Rattle.hwp_claim_frame.specs.declared.grab.Grab.{Grab}
use Rattle.hwp_claim_frame.specs.declared.grab.GrabAt.{GrabAt}
use Rattle.hwp_claim_frame.specs.declared.grab.GrabAt.TheVariants as grab_at
use Rattle.hwp_claim_frame.specs.declared.meet.Meet.{Meet}
use Rattle.hwp_claim_frame.specs.declared.meet.MeetAt.{MeetAt}
use Rattle.hwp_claim_frame.specs.declared.meet.MeetAt.TheVariants as meet_at
use Rattle.hwp_claim_frame.specs.declared.meet.MeetAnswer.{MeetAnswer}
use Rattle.hwp_claim_frame.specs.declared.meet.MeetAnswer.TheVariants as meet_answers
use Rattle.hwp_claim_frame.specs.Claims.{has_ended_at}
use Rattle.hwp_claim_frame.specs.Grabs as grabs
use Rattle.hwp_claim_frame.specs.Meets as meets
use Rattle.hwp_claim_frame.specs.Meets.{AsTaken, HoldsFree, HoldsMet}
use Rattle.hwp_claim_frame.proofs.ClaimLaws.{kernel-word}
use Rattle.hwp_claim_frame.proofs.GrabLaws as grabbing
use Rattle.hwp_claim_frame.proofs.MeetLaws as meeting
use Rattle.hwp_soft_move.specs.declared.seize.Seize.{Seize}
use Rattle.hwp_soft_move.specs.declared.seize.SeizeAt.{SeizeAt}
use Rattle.hwp_soft_move.specs.declared.seize.SeizeAt.TheVariants as at
use Rattle.hwp_soft_move.specs.Seizes.{plan, plan_at, put, put_at, bare, bare_at, looked, after_grab, after_grab_by, after_meet, after_meet_by, owned_by, next, next_at, turn, Shows, ShowsAt, IsUsers, Fits, FitsAt, class, class_at}

pub can : (layout : Layout) (view : View) (s : Seize) (step : Step) → Fits layout view s → plan s ≡ Some step → CanMake layout s.who step (put s) view
can layout view s step fits is = which s.at fits.at is
  where
    which : (x : SeizeAt) → FitsAt layout view s.who s.frame x → plan_at s.frame x ≡ Some step → CanMake layout s.who step (put_at x) view
    which at.Look has e = can-make fits.on_turn e fits.frame tt
    which (at.Grab g) has e = subst (λ (w : Who). CanMake layout w step None view) has.0.own (grabbing.can layout view g step has.0.grab e)
    which (at.Meet m) has e = subst (λ (w : Who). CanMake layout w step (meets.put m) view) has.0.own (meeting.can layout view m step has.0.meet e)
    which at.Kernel has e = absurd (none-some step e)
    which at.Already has e = absurd (none-some step e)
    which at.Grabbed has e = absurd (none-some step e)
    which at.Free has e = absurd (none-some step e)
    which (at.Owned page body) has e = absurd (none-some step e)

-- ---- the frame's word

-- a frame that isn't poisoned isn't handled
clean-unhandled : (layout : Layout) (s : State) (h : Holds layout s) (frame : Frame) (found : ℕ) → frame.0 < layout.frames → found ≡ slice_index s.words (index layout (places.Frame frame)) → is_poisoned found ≡ false → is_handled found ≡ false
clean-unhandled layout s h frame found inside met clean = ne_eqb (handled_of found) 1 (λ e.
    let poisoned : poison_of found ≡ 1 = (h.rule.failures.handled.out frame.0 found (frame-word layout s h frame found inside met) e).poisoned in
    eqb-false (poison_of found) 1 clean poisoned)

-- a frame that is met for no failure has none that ends
pub lasts-on : (m : Meet) (found : ℕ) (got : Option BodyValue) → m.cycle ≡ None → has_ended_at m.at ≡ false → has_ended_at (meets.next (meets.bare m) found got).at ≡ false
lasts-on m found got none lasts = which m.at lasts
  where
    never : meets.has_ended m.cycle found ≡ false
    never = ap (λ (o : Option ℕ). meets.has_ended o found) none

    which : (x : MeetAt) → has_ended_at x ≡ false → has_ended_at (meets.next_at m.who m.frame m.cycle (meets.bare_at x) found got) ≡ false
    which (meet_at.GetRef seen) is = by (found == seen) (meets.owner_in seen)
      where
        by : (b : Bool) (o : Option Page) → has_ended_at (cond b (meets.referenced o) (meet_at.Back false)) ≡ false
        by true None = refl
        by true (Some page) = refl
        by false o = refl
    which meet_at.LockFree is = ap (λ (e : Bool). has_ended_at (cond (is_free found) (meets.free_at got e (meets.is_taken found)) meet_at.LockFree)) never ∙ by (is_free found) (meets.is_taken found)
      where
        by : (b c : Bool) → has_ended_at (cond b (meets.free_at got false c) meet_at.LockFree) ≡ false
        by true true = refl
        by true false = refl
        by false c = refl
    which (meet_at.LockPage page) is = by (is_free found)
      where
        by : (b : Bool) → has_ended_at (cond b (meet_at.LockOwned page got) (meet_at.LockPage page)) ≡ false
        by true = refl
        by false = refl
    which (meet_at.LockOwned page shelf) is = ap (λ (e : Bool). has_ended_at (cond (is_free found) (meets.owned_at page shelf got e (meets.is_owner page found)) (meet_at.LockOwned page shelf))) never ∙ by (is_free found) (meets.is_owner page found) got
      where
        by : (b c : Bool) (g : Option BodyValue) → has_ended_at (cond b (meets.owned_at page shelf g false c) (meet_at.LockOwned page shelf)) ≡ false
        by true true None = refl
        by true true (Some body) = refl
        by true false g = refl
        by false c g = refl
    which (meet_at.Unlock body ended) is = is
    which (meet_at.UnlockFrame page shelf body ended) is = is
    which (meet_at.UnlockPage page shelf ended) is = is
    which (meet_at.Release r ended) is = by (releases.next r found).at
      where
        by : (y : ReleaseAt) → has_ended_at (meets.released_at (releases.next r found) ended y) ≡ false
        by release_at.Put = is
        by (release_at.Give word) = is
        by (release_at.Unreserve word) = is
        by (release_at.Adopt word) = is
        by (release_at.Retire word) = is
        by (release_at.Back word) = is
    which (meet_at.Back ended) is = is
    which meet_at.Free is = refl
    which (meet_at.Owned page body) is = refl

module _ {layout : Layout} {who : Who} {new : View} (frame : Frame) (inside : frame.0 < layout.frames) (on : IsOnTurn new who) where
  module _ {old : View} {found : ℕ} {got : Option BodyValue} (made : Steps layout who (steps.Load (places.Frame frame)) None old new found got) where
    after-look : hand_of new ≡ empty → FitsAt layout new who frame (looked who frame found)
    after-look held = by (is_kernel found) (is_poisoned found) refl refl
      where
        kernel : slice_get layout.kernel frame.0 ≡ Some (is_kernel found)
        kernel = kernel-word layout made.told.board made.told.rule frame found inside made.told.met

        users : is_kernel found ≡ false → IsUsers layout frame
        users is = kernel ∙ ap (λ (b : Bool). Some b) is

        shown : Saw new who (places.Frame frame) found
        shown = saw-load made

        counted : (z : Bool) → (count_of found == 0) ≡ z → is_kernel found ≡ false → is_poisoned found ≡ false → FitsAt layout new who frame (cond z (at.Grab (grabs.begin who frame)) (at.Meet (meets.begin who frame None found)))
        counted true zero user clean = (
          record {
            grab = record { on_turn = on; frame = inside; users = users user; held = held; knows = tt };
            own = refl;
            frame_is = refl;
            under_way = refl;
          },
          users user,
        )
        counted false some user clean = (
          record {
            meet = record {
              on_turn = on;
              frame = inside;
              at = (held, record { counted = let other = eqb-false (count_of found) 0 some in omega (arith, other); unhandled = clean-unhandled layout made.told.board made.told.rule frame found inside made.told.met clean });
            };
            own = refl;
            frame_is = refl;
            cycle_is = refl;
            lasts = refl;
            under_way = refl;
          },
          users user,
        )

        by : (k p : Bool) → is_kernel found ≡ k → is_poisoned found ≡ p
            → FitsAt layout new who frame (cond k at.Kernel (cond p at.Already (cond (count_of found == 0) (at.Grab (grabs.begin who frame)) (at.Meet (meets.begin who frame None found)))))
        by true p is set = (held, record { word = found; kernel = is; saw = shown; declared = kernel ∙ ap (λ (b : Bool). Some b) is })
        by false true is set = (held, record { word = found; poisoned = set; saw = shown }, users is)
        by false false is clean = counted (count_of found == 0) refl is clean

  module _ (users : IsUsers layout frame) where
    -- ---- the frame is grabbed

    after-grab-is : (g : Grab) → grabs.Fits layout new g → g.who ≡ who → g.frame ≡ frame → FitsAt layout new who frame (after_grab g)
    after-grab-is g fits own frame_is = which g.at refl
      where
        under : (x : GrabAt) → g.at ≡ x → is_none (grabs.plan_at g.frame x) ≡ false → FitsAt layout new who frame (at.Grab g)
        under x e going = (record { grab = fits; own = own; frame_is = frame_is; under_way = ap (λ (y : GrabAt). is_none (grabs.plan_at g.frame y)) e ∙ going }, users)

        which : (x : GrabAt) → g.at ≡ x → FitsAt layout new who frame (after_grab_by g (grabs.answer_at x))
        which grab_at.LoadAvailable e = under grab_at.LoadAvailable e refl
        which (grab_at.Reserve seen) e = under (grab_at.Reserve seen) e refl
        which grab_at.TakeBit e = under grab_at.TakeBit e refl
        which grab_at.Unreserve e = under grab_at.Unreserve e refl
        which grab_at.Adopt e = under grab_at.Adopt e refl
        which grab_at.LookAgain e = fits.held ∙ ap (grabs.held_at g.frame) e
        which (grab_at.Grabbed word) e = (
          record { poisoned = is_poisoned word; hand_is = fits.held ∙ ap (grabs.held_at g.frame) e ∙ ap (λ (f : Frame). grabs.held_at f (grab_at.Grabbed word)) frame_is; failed = tt },
          users,
        )

    -- ---- it is met

    after-meet-is : (m : Meet) → meets.Fits layout new m → m.who ≡ who → m.frame ≡ frame → m.cycle ≡ None → has_ended_at m.at ≡ false → FitsAt layout new who frame (after_meet m)
    after-meet-is m fits own frame_is cycle_is lasts = which (meets.answer m) refl
      where
        owned : (page : Page) (x : MeetAt) → (meets.is_owned_at x ≡ true) × ((body : BodyValue) → meets.IsBodyAt x body → HoldsMet layout new m.who page m.frame m.cycle body) → FitsAt layout new who frame (owned_by m page x)
        owned page x has =
            let met = meeting.owned-state x has.0 in
            subst (λ (y : MeetAt). FitsAt layout new who frame (owned_by m page y)) (sym met.2)
            (subst (λ (w : Who). HoldsMet layout new w page frame None met.1) own (subst (λ (f : Frame). HoldsMet layout new m.who page f None met.1) frame_is (subst (λ (o : Option ℕ). HoldsMet layout new m.who page m.frame o met.1) cycle_is (has.1 met.1 (subst (λ (y : MeetAt). meets.IsBodyAt y met.1) (sym met.2) refl)))), users)

        which : (x : Option MeetAnswer) → meets.answer m ≡ x → FitsAt layout new who frame (after_meet_by m x)
        which None e = (record { meet = fits; own = own; frame_is = frame_is; cycle_is = cycle_is; lasts = lasts; under_way = meeting.goes-on layout new m fits e }, users)
        which (Some meet_answers.LookAgain) e = meeting.is-met layout new m meet_answers.LookAgain fits e
        which (Some meet_answers.Ended) e = meeting.is-met layout new m meet_answers.Ended fits e
        which (Some meet_answers.Free) e = (subst (λ (f : Frame). HoldsFree new f None) frame_is (subst (λ (o : Option ℕ). HoldsFree new m.frame o) cycle_is (meeting.is-met layout new m meet_answers.Free fits e)), users)
        which (Some (meet_answers.Owned page)) e = owned page m.at (meeting.is-met layout new m (meet_answers.Owned page) fits e)

-- ---- each step

-- a step shows what is needed, and what follows fits again
pub both : (layout : Layout) (old new : View) (s : Seize) (step : Step) (found : ℕ) (got : Option BodyValue) → Fits layout old s → plan s ≡ Some step → Steps layout s.who step (logs (put s)) old new found got
    → Shows (bare s) found got × Fits layout new (next (bare s) found got)
both layout old new s step found got fits is made = let all = which s.at fits.at is made in (all.0, record { on_turn = on; frame = fits.frame; at = all.1 })
  where
    on : IsOnTurn new s.who
    on = on-turn-after fits.on_turn made

    own-steps : (put : Option BodyValue) {own : Who} → own ≡ s.who → Steps layout s.who step (logs put) old new found got → Steps layout own step (logs put) old new found got
    own-steps put same m = subst (λ (w : Who). Steps layout w step (logs put) old new found got) (sym same) m

    which : (x : SeizeAt) → FitsAt layout old s.who s.frame x → plan_at s.frame x ≡ Some step → Steps layout s.who step (logs (put_at x)) old new found got
        → ShowsAt (bare_at x) found got × FitsAt layout new s.who s.frame (next_at s.who s.frame (bare_at x) found got)
    which at.Look has e made = (tt, after-look s.frame fits.frame on (steps-planned e made) (hand-planned made e has))
    which (at.Grab g) has e made = (tt, after-grab-is s.frame fits.frame on has.1 (grabs.next g found) (grabbing.moved g e (own-steps None has.0.own made) has.0.grab) has.0.own has.0.frame_is)
    which (at.Meet m) has e made =
        let all = meeting.both layout old new m step found got has.0.meet e (own-steps (meets.put m) has.0.own made) in
        (all.0, after-meet-is s.frame fits.frame on has.1 (meets.next (meets.bare m) found got) all.1 has.0.own has.0.frame_is has.0.cycle_is (lasts-on m found got has.0.cycle_is has.0.lasts))
    which at.Kernel has e made = absurd (none-some step e)
    which at.Already has e made = absurd (none-some step e)
    which at.Grabbed has e made = absurd (none-some step e)
    which at.Free has e made = absurd (none-some step e)
    which (at.Owned page body) has e made = absurd (none-some step e)

pub stays : (layout : Layout) (old new : View) (s : Seize) (step : Step) (found : ℕ) (got : Option BodyValue) → Fits layout old s → plan s ≡ Some step → Steps layout s.who step (logs (put s)) old new found got
    → Shows (bare s) found got × ((after : Seize) (result : Turn) → (after ≡ next (bare s) found got) × (result ≡ turn (bare s) found) → Fits layout new after × (after.who.cpu ≡ s.who.cpu))
stays layout old new s step found got fits is made = let all = both layout old new s step found got fits is made in
    (all.0, λ after result follows. (subst (Fits layout new) (sym follows.0) all.1, ap (λ (x : Seize). x.who.cpu) follows.0))

-- ---- what the parent gets

-- its class tells what is held
pub seize-tells : (layout : Layout) (view : View) (s : Seize) → Fits layout view s → Tells view (class s)
seize-tells layout view s fits = which s.at fits.at
  where
    which : (x : SeizeAt) → FitsAt layout view s.who s.frame x → Tells view (class_at x)
    which at.Look has = empty-tells view 4 has
    which (at.Grab g) has = grabbing.grab-tells layout view g has.0.grab
    which (at.Meet m) has = meeting.meet-tells layout view m has.0.meet
    which at.Kernel has = empty-tells view 4 has.0
    which at.Already has = empty-tells view 4 has.0
    which at.Grabbed has = frame-tells view
    which at.Free has = frame-tells view
    which (at.Owned page body) has = frame-tells view

-- the bodies that it puts home have the entries that they were taken with
pub puts-as-taken : (layout : Layout) (view : View) (s : Seize) → Fits layout view s → AsTaken view (put s)
puts-as-taken layout view s fits = which s.at fits.at
  where
    none : AsTaken view None
    none b is = absurd (none-some b is)

    which : (x : SeizeAt) → FitsAt layout view s.who s.frame x → AsTaken view (put_at x)
    which at.Look has = none
    which (at.Grab g) has = none
    which (at.Meet m) has = meeting.puts-as-taken layout view m has.0.meet
    which at.Kernel has = none
    which at.Already has = none
    which at.Grabbed has = none
    which at.Free has = none
    which (at.Owned page body) has = none
