-- The laws of `Claim`.
use Rattle.std.proofs.Common.{◌≡◌, inl, inr, ℕ, ◌+◌, ◌/◌, ◌%◌, ◌<◌, ◌≤◌, ◌==◌, ◌&&◌, ◌||◌, Bool, true, false, not, cond, List, [], ◌∷◌, ◌++◌, Option, Some, None, is_none, filter, length, get_or, slice_get, slice_index, refl, sym, ap, ◌∙◌, subst, arith}
use Rattle.std.specs.Int.{from_bool}
use Rattle.std.specs.List.{sum_by}
use Rattle.std.proofs.lemmas.Bool.{both_ways, eqb-false, eqb-true, ne_eqb}
use Rattle.std.proofs.lemmas.List.Elements.{filter-append}
use Rattle.std.proofs.lemmas.List.Sums.{sum_by-append}
use Rattle.std.proofs.lemmas.Option.{none-some, slice_get-get_or}
use Rattle.hwp_core.specs.hwp_geom.declared.Frame.{Frame}
use Rattle.hwp_core.specs.hwp_geom.declared.Layout.{Layout}
use Rattle.hwp_core.specs.hwp_geom.declared.Page.{Page}
use Rattle.hwp_core.specs.hwp_geom.declared.Who.{Who}
use Rattle.hwp_core.specs.hwp_page.History.{BodyValue}
use Rattle.hwp_core.specs.hwp_page.Losses.{is_loss}
use Rattle.hwp_core.specs.hwp_words.Frames.{count_of, cycle_of, is_handled, is_kernel, is_poisoned}
use Rattle.hwp_core.specs.hwp_words.Stops.{is_stopped}
use Rattle.hwp_core.specs.hwp_core_rule.declared.Log.{Log}
use Rattle.hwp_core.specs.hwp_core_rule.declared.Made.{Made}
use Rattle.hwp_core.specs.hwp_core_rule.declared.Mark.{Mark}
use Rattle.hwp_core.specs.hwp_core_rule.declared.MarkKind.TheVariants as mark_kinds
use Rattle.hwp_core.specs.hwp_core_rule.declared.SharedWord.TheVariants as places
use Rattle.hwp_core.specs.hwp_core_rule.declared.State.{State}
use Rattle.hwp_core.specs.hwp_core_rule.declared.Step.{Step}
use Rattle.hwp_core.specs.hwp_core_rule.declared.Step.TheVariants as steps
use Rattle.hwp_core.specs.hwp_core_rule.declared.View.{View}
use Rattle.hwp_core.specs.hwp_core_rule.Asks.{CanRetire, OwesCount}
use Rattle.hwp_core.specs.hwp_core_rule.Lists.{SomeMember}
use Rattle.hwp_core.specs.hwp_core_rule.Rule.{Holds, losing_of}
use Rattle.hwp_core.specs.hwp_core_rule.Views.{is_lock_of, less_refs, marked, noted, owing_count, paying_count, poison_listed, sighted, stamp_of, without}
use Rattle.hwp_core.specs.hwp_core_rule.Words.{index}
use Rattle.hwp_core.specs.hwp_core_rule.parts.Counter.{is_poisoning}
use Rattle.hwp_core.proofs.of_hwp_core_rule.Lists.{at_map, same-number, some-last}
use Rattle.hwp_core.proofs.of_hwp_core_rule.MetWords.{frame-word}
use Rattle.hwp_core.specs.hwp_core_rule.declared.Turn.{Turn}
use Rattle.hwp_core.specs.hwp_core_rule.Calls.{CanMake, IsOnTurn, Steps, logs}
use Rattle.hwp_core.specs.hwp_core_rule.Hands.{hand_of, empty}
use Rattle.hwp_core.proofs.of_hwp_core_rule.tasks.StepLeaves.{on-turn-after, hand-planned, steps-planned, can-make}
use Rattle.hwp_core.specs.hwp_core_rule.Known.{IsShown}
use Rattle.hwp_core.proofs.of_hwp_core_rule.tasks.SightKeeps.{saw-stopped, stop-listed}
use Rattle.hwp_core.specs.declared.unlock.Unlock.{Unlock}
use Rattle.hwp_core.specs.declared.unlock.UnlockAt.{UnlockAt}
use Rattle.hwp_core.specs.declared.unlock.UnlockAt.TheVariants as unlock_at
use Rattle.hwp_core.specs.declared.release.Release.{Release}
use Rattle.hwp_core.specs.declared.release.ReleaseAt.{ReleaseAt}
use Rattle.hwp_core.specs.declared.release.ReleaseAt.TheVariants as release_at
use Rattle.hwp_core.specs.Unlocks as unlocks
use Rattle.hwp_core.specs.Unlocks.{empty_frame}
use Rattle.hwp_core.specs.Releases as releases
use Rattle.hwp_core.proofs.UnlockLaws as unlocking
use Rattle.hwp_core.proofs.TaskTells.{Tells, empty-tells, frame-tells, unlock-tells}
use Rattle.hwp_claim_frame.specs.declared.claim.Claim.{Claim}
use Rattle.hwp_claim_frame.specs.declared.claim.ClaimAt.{ClaimAt}
use Rattle.hwp_claim_frame.specs.declared.claim.ClaimAt.TheVariants as at
use Rattle.hwp_claim_frame.specs.declared.grab.Grab.{Grab}
use Rattle.hwp_claim_frame.specs.declared.grab.GrabAt.{GrabAt}
use Rattle.hwp_claim_frame.specs.declared.grab.GrabAt.TheVariants as grab_at
use Rattle.hwp_claim_frame.specs.declared.meet.Meet.{Meet}
use Rattle.hwp_claim_frame.specs.declared.meet.MeetAt.{MeetAt}
use Rattle.hwp_claim_frame.specs.declared.meet.MeetAnswer.{MeetAnswer}
use Rattle.hwp_claim_frame.specs.declared.meet.MeetAnswer.TheVariants as meet_answers
use Rattle.hwp_claim_frame.specs.Grabs as grabs
use Rattle.hwp_claim_frame.specs.Meets as meets
use Rattle.hwp_claim_frame.specs.Meets.{AsTaken, is_ended}
use Rattle.hwp_claim_frame.specs.Claims.{plan, plan_at, put, put_at, bare, bare_at, stopped, poisoned, is_done, looked, grabbed, after_grab, after_grab_by, after_meet, after_meet_by, owned_by, after_unlock, next, next_at, turn, Shows, ShowsAt, is_own, marks_by, HasMarked, HasPoisoned, SawPoison, IsGrabbing, IsMeeting, IsUnlocking, IsUsers, Fits, FitsAt, pressing, class, class_at}
use Rattle.hwp_claim_frame.proofs.GrabLaws as grabbing
use Rattle.hwp_claim_frame.proofs.MeetLaws as meeting
use Rattle.hwp_claim_frame.proofs.ViewKeeps.{Account, account_of, either, kept, grab-only, meet-only, unlock-only}

-- ---- the steps can be made

pub retires : (view : View) (frame : Frame) → hand_of view ≡ empty_frame frame false true → CanRetire view frame None
retires view frame held = grabbing.grabbed-retires view frame held

pub can : (layout : Layout) (view : View) (c : Claim) (step : Step) → Fits layout view c → plan c ≡ Some step → CanMake layout c.who step (put c) view
can layout view c step fits is = which c.at fits.at is
  where
    which : (x : ClaimAt) → FitsAt layout view c.who c.frame c.hardware x → plan_at c.who c.frame c.hardware x ≡ Some step → CanMake layout c.who step (put_at x) view
    which at.Stop has e = can-make fits.on_turn e tt refl
    which at.Poison has e = can-make fits.on_turn e fits.frame tt
    which (at.Count cycle) has e = can-make fits.on_turn e tt has.2
    which (at.Look cycle) has e = can-make fits.on_turn e fits.frame tt
    which (at.Grab cycle g) has e = subst (λ (w : Who). CanMake layout w step None view) has.0.own (grabbing.can layout view g step has.0.grab e)
    which (at.Meet cycle m) has e = subst (λ (w : Who). CanMake layout w step (meets.put m) view) has.0.own (meeting.can layout view m step has.0.meet e)
    which (at.Unlock cycle u) has e = subst (λ (w : Who). CanMake layout w step (unlocks.put u) view) has.0.own (unlocking.can layout view u step has.0.unlock e)
    which (at.Retire cycle) has e = can-make fits.on_turn e fits.frame (retires view c.frame has.0)
    which at.GaveUp has e = absurd (none-some step e)
    which at.Stopped has e = absurd (none-some step e)
    which at.Already has e = absurd (none-some step e)
    which (at.Free cycle) has e = absurd (none-some step e)
    which (at.Kernel cycle) has e = absurd (none-some step e)
    which (at.Owned cycle page body) has e = absurd (none-some step e)

-- ---- what a step leaves of what the command has done

same-paid : (old new : View) → account_of new ≡ account_of old → old.owed.losses ≡ [] → new.owed.losses ≡ []
same-paid old new same paid = ap (λ (a : Account). a.owed.losses) same ∙ paid

abbrev Spares : List Made → List Mark → Type 0
Spares made marks = sum_by (λ (m : Made). from_bool (is_loss m.entry.what)) made < sum_by (λ (m : Mark). from_bool (is_poisoning m.kind)) marks

-- a mark stays
pub mark-stays : (old new : View) {who : Who} {frame : Frame} {hardware : Bool} {cycle : ℕ} → new.marks ≡ old.marks → HasMarked old who frame hardware cycle → HasMarked new who frame hardware cycle
mark-stays old new {who} marks has = record {
  before = has.before;
  mark = has.mark;
  marks = ap (filter (is_own who)) marks ∙ has.marks;
  frame_is = has.frame_is;
  cycle_is = has.cycle_is;
  kind_is = has.kind_is;
}

-- whatever is owed
marks-stay : {old new : View} {who : Who} {frame : Frame} {hardware : Bool} {cycle : ℕ} → new.made ≡ old.made → new.marks ≡ old.marks → HasPoisoned old who frame hardware cycle → HasPoisoned new who frame hardware cycle
marks-stay {old} {new} {who} made marks has = record {
  marked = mark-stays old new marks has.marked;
  spare = subst (λ (l : List Made). Spares l new.marks) (sym made) (subst (λ (l : List Mark). Spares old.made l) (sym marks) has.spare);
}

same-poisoned : {old new : View} {who : Who} {frame : Frame} {hardware : Bool} {cycle : ℕ} → account_of new ≡ account_of old → HasPoisoned old who frame hardware cycle → HasPoisoned new who frame hardware cycle
same-poisoned same has = marks-stay (ap (λ (a : Account). a.made) same) (ap (λ (a : Account). a.marks) same) has

same-users : {layout : Layout} {old new : View} {who : Who} {frame : Frame} {hardware : Bool} {cycle : ℕ} → account_of new ≡ account_of old → IsUsers layout old who frame hardware cycle → IsUsers layout new who frame hardware cycle
same-users same has = record { poisoned = same-poisoned same has.poisoned; users = has.users }

pub none-taken : (view : View) → AsTaken view None
none-taken view b is = absurd (none-some b is)

-- what follows a step
record After (layout : Layout) (new : View) (who : Who) (frame : Frame) (hardware : Bool) (x : ClaimAt) : Type 0 where
  pub paid : new.owed.losses ≡ []
  pub at : FitsAt layout new who frame hardware x

-- ---- the machine stops

module _ {layout : Layout} {who : Who} {old new : View} {found : ℕ} {got : Option BodyValue} (made : Steps layout who (steps.Stop who.cpu) None old new found got) where
  pub stop-keeps : account_of new ≡ account_of old
  stop-keeps = ap account_of made.told.next ∙ either (found == 0) _ _ (account_of old) refl refl

  after-stop : (frame : Frame) (hardware : Bool) → old.owed.losses ≡ [] → hand_of new ≡ empty → After layout new who frame hardware (stopped found)
  after-stop frame hardware paid held = record { paid = same-paid old new stop-keeps paid; at = by (found == 0) refl (is_stopped found) refl }
    where
      by : (b : Bool) → (found == 0) ≡ b → (d : Bool) → is_stopped found ≡ d → FitsAt layout new who frame hardware (cond b at.Stopped (cond d at.Stopped at.GaveUp))
      by true zero d is = (held, inr (stop-listed made zero))
      by false other true is = (held, inl (saw-stopped made other is))
      by false other false is = held

-- ---- the frame is poisoned

module _ {layout : Layout} {who : Who} {old new : View} {found : ℕ} {got : Option BodyValue} (frame : Frame) (hardware : Bool) (made : Steps layout who (steps.Poison frame hardware) None old new found got) where
  abbrev chosen : Bool → View
  chosen b = poison_listed frame (cond b (record (marked who frame found (mark_kinds.Poisoned hardware) (noted who old)) { owed = owing_count hardware old.owed }) (sighted who (places.Frame frame) found (noted who old)))

  next-is : (b : Bool) → (found / 2 % 2 == 0) ≡ b → new ≡ chosen b
  next-is b is = made.told.next ∙ ap chosen is

  abbrev the-mark : Mark
  the-mark = record { stamp = stamp_of who (noted who old); frame = frame; cycle = cycle_of found; kind = mark_kinds.Poisoned hardware }

  own-mark : (is_own who the-mark) ≡ true
  own-mark = ap (λ (b : Bool). b && (who.seq == who.seq)) (same-number who.cpu.0 who.cpu.0 refl) ∙ same-number who.seq who.seq refl

  module _ (clear : is_poisoned found ≡ false) where
    bit : (found / 2 % 2 == 0) ≡ true
    bit = same-number (found / 2 % 2) 0 (let other = eqb-false (found / 2 % 2) 1 clear in omega (arith, other))

    pub is-poisoned : new ≡ chosen true
    is-poisoned = next-is true bit

    new-marks : new.marks ≡ old.marks ++ the-mark ∷ []
    new-marks = ap (λ (v : View). v.marks) is-poisoned

    -- the command marked it last, and owes the count
    pub has-marked : HasMarked new who frame hardware (cycle_of found)
    has-marked = record {
      before = marks_by who old;
      mark = the-mark;
      marks = ap (filter (is_own who)) new-marks ∙ filter-append (is_own who) old.marks (the-mark ∷ []) ∙ ap (λ (b : Bool). marks_by who old ++ cond b (the-mark ∷ []) []) own-mark;
      frame_is = refl;
      cycle_is = refl;
      kind_is = refl;
    }

    owes : (h : Bool) → new.owed ≡ owing_count h old.owed → OwesCount new h
    owes true is = subst (λ (n : ℕ). 0 < n) (sym (ap (λ (d : _). d.hardware) is)) (omega arith)
    owes false is = subst (λ (n : ℕ). 0 < n) (sym (ap (λ (d : _). d.counts) is)) (omega arith)

    pub owes-count : OwesCount new hardware
    owes-count = owes hardware (ap (λ (v : View). v.owed) is-poisoned)

  module _ (set : is_poisoned found ≡ true) where
    no-bit : (found / 2 % 2 == 0) ≡ false
    no-bit = ne_eqb (found / 2 % 2) 0 (λ e. let one : found / 2 % 2 ≡ 1 = eqb-true (found / 2 % 2) 1 set in omega (arith, e, one))

    pub poison-keeps : account_of new ≡ account_of old
    poison-keeps = ap account_of (next-is false no-bit)

    -- it was shown poisoned
    pub saw-poison : SawPoison new who frame
    saw-poison = record {
      word = found;
      poisoned = set;
      saw = subst (SomeMember (IsShown who (places.Frame frame) found)) (sym (ap (λ (v : View). v.sights) (next-is false no-bit))) (some-last (IsShown who (places.Frame frame) found) old.sights (record { stamp = stamp_of who (noted who old); place = places.Frame frame; word = found }) (refl, refl, refl));
    }

  module _ (paid : old.owed.losses ≡ []) (held : hand_of new ≡ empty) where
    few-losses : sum_by (λ (m : Made). from_bool (is_loss m.entry.what)) old.made ≤ sum_by (λ (m : Mark). from_bool (is_poisoning m.kind)) old.marks
    few-losses =
        let all : sum_by (λ (m : Made). from_bool (is_loss m.entry.what)) old.made ≤ length old.owed.losses + sum_by (λ (m : Mark). from_bool (is_poisoning m.kind)) old.marks = made.told.rule.rule.histories.losses.poisoned made.told.seat (losing_of old) (at_map losing_of made.told.board.views made.told.seat old made.told.me) in
        let owes : length old.owed.losses ≡ 0 = ap (λ (l : List _). length l) paid in
        omega (arith, all, owes)

    has-poisoned : is_poisoned found ≡ false → HasPoisoned new who frame hardware (cycle_of found)
    has-poisoned clear = record {
      marked = has-marked clear;
      spare = subst (λ (l : List Made). Spares l new.marks) (sym (ap (λ (v : View). v.made) (is-poisoned clear))) (subst (λ (l : List Mark). Spares old.made l) (sym (new-marks clear))
          (let few : sum_by (λ (m : Made). from_bool (is_loss m.entry.what)) old.made ≤ sum_by (λ (m : Mark). from_bool (is_poisoning m.kind)) old.marks = few-losses in
          let more : sum_by (λ (m : Mark). from_bool (is_poisoning m.kind)) (old.marks ++ the-mark ∷ []) ≡ sum_by (λ (m : Mark). from_bool (is_poisoning m.kind)) old.marks + 1 = sum_by-append (λ (m : Mark). from_bool (is_poisoning m.kind)) old.marks (the-mark ∷ []) in
          omega (arith, few, more)));
    }

    still-paid : (h : Bool) → new.owed ≡ owing_count h old.owed → new.owed.losses ≡ []
    still-paid true is = ap (λ (d : _). d.losses) is ∙ paid
    still-paid false is = ap (λ (d : _). d.losses) is ∙ paid

    goes-on : is_poisoned found ≡ false → After layout new who frame hardware (at.Count (cycle_of found))
    goes-on clear = record {
      paid = still-paid hardware (ap (λ (v : View). v.owed) (is-poisoned clear));
      at = (held, has-poisoned clear, owes-count clear);
    }

    stays-off : is_poisoned found ≡ true → After layout new who frame hardware at.Already
    stays-off set = record {
      paid = same-paid old new (poison-keeps set) paid;
      at = (held, saw-poison set);
    }

    after-poison : After layout new who frame hardware (poisoned found)
    after-poison = by (is_poisoned found) refl
      where
        by : (b : Bool) → is_poisoned found ≡ b → After layout new who frame hardware (cond b at.Already (at.Count (cycle_of found)))
        by true is = stays-off is
        by false is = goes-on is

-- ---- it is counted

module _ {layout : Layout} {who : Who} {old new : View} {found : ℕ} {got : Option BodyValue} (frame : Frame) (hardware : Bool) (made : Steps layout who (steps.CountPoison hardware) None old new found got) where
  after-count : (cycle : ℕ) → old.owed.losses ≡ [] → hand_of new ≡ empty → HasPoisoned old who frame hardware cycle → After layout new who frame hardware (at.Look cycle)
  after-count cycle paid held has = record {
    paid = still-paid hardware (ap (λ (v : View). v.owed) made.told.next);
    at = (held, marks-stay (ap (λ (v : View). v.made) made.told.next) (ap (λ (v : View). v.marks) made.told.next) has);
  }
    where
      still-paid : (h : Bool) → new.owed ≡ paying_count h old.owed → new.owed.losses ≡ []
      still-paid true is = ap (λ (d : _). d.losses) is ∙ paid
      still-paid false is = ap (λ (d : _). d.losses) is ∙ paid

-- ---- its word is looked at

-- whether a frame is the kernel's stands in its word
pub kernel-word : (layout : Layout) (s : State) → Holds layout s → (frame : Frame) (found : ℕ) → frame.0 < layout.frames → found ≡ slice_index s.words (index layout (places.Frame frame)) → slice_get layout.kernel frame.0 ≡ Some (is_kernel found)
kernel-word layout s h frame found inside met = kernel ∙ ap (λ (b : Bool). Some b) (sym (h.rule.frames.places.declared frame.0 found declared (frame-word layout s h frame found inside met) kernel))
  where
    declared : Bool
    declared = get_or layout.kernel frame.0 false

    kernel : slice_get layout.kernel frame.0 ≡ Some declared
    kernel = slice_get-get_or layout.kernel frame.0 false (subst (λ (n : ℕ). frame.0 < n) (sym h.sound.kernel) inside)

module _ {layout : Layout} {who : Who} {new : View} (frame : Frame) (hardware : Bool) (inside : frame.0 < layout.frames) (on : IsOnTurn new who) where
  module _ {old : View} {found : ℕ} {got : Option BodyValue} (made : Steps layout who (steps.Load (places.Frame frame)) None old new found got) where
    after-look : (cycle : ℕ) → old.owed.losses ≡ [] → hand_of new ≡ empty → HasPoisoned old who frame hardware cycle → After layout new who frame hardware (looked who frame cycle found)
    after-look cycle paid held has = record { paid = same-paid old new keeps paid; at = by (is_kernel found) refl }
      where
        keeps : account_of new ≡ account_of old
        keeps = kept None tt (none-taken old) made

        kernel : slice_get layout.kernel frame.0 ≡ Some (is_kernel found)
        kernel = kernel-word layout made.told.board made.told.rule frame found inside made.told.met

        mine : is_kernel found ≡ false → IsUsers layout new who frame hardware cycle
        mine is = record { poisoned = same-poisoned keeps has; users = kernel ∙ ap (λ (b : Bool). Some b) is }

        unhandled : (e h : Bool) → (e || h) ≡ false → h ≡ false
        unhandled true h is = absurd (both_ways true is refl)
        unhandled false h is = is

        counted : (z : Bool) → (count_of found == 0) ≡ z → is_kernel found ≡ false → is_done cycle found ≡ false → FitsAt layout new who frame hardware (cond z (at.Grab cycle (grabs.begin who frame)) (at.Meet cycle (meets.begin who frame (Some cycle) found)))
        counted true zero user going = (
          record {
            grab = record { on_turn = on; frame = inside; users = (mine user).users; held = held; knows = tt };
            own = refl;
            frame_is = refl;
            under_way = refl;
          },
          mine user,
        )
        counted false some user going = (
          record {
            meet = record { on_turn = on; frame = inside; at = (held, record { counted = let other = eqb-false (count_of found) 0 some in omega (arith, other); unhandled = unhandled (is_ended cycle found) (is_handled found) going }) };
            own = refl;
            frame_is = refl;
            cycle_is = refl;
            under_way = refl;
          },
          mine user,
        )

        done : (d : Bool) → is_done cycle found ≡ d → is_kernel found ≡ false
            → FitsAt layout new who frame hardware (cond d (at.Free cycle) (cond (count_of found == 0) (at.Grab cycle (grabs.begin who frame)) (at.Meet cycle (meets.begin who frame (Some cycle) found))))
        done true is user = (held, mine user)
        done false is user = counted (count_of found == 0) refl user is

        by : (k : Bool) → is_kernel found ≡ k
            → FitsAt layout new who frame hardware (cond k (at.Kernel cycle) (cond (is_done cycle found) (at.Free cycle) (cond (count_of found == 0) (at.Grab cycle (grabs.begin who frame)) (at.Meet cycle (meets.begin who frame (Some cycle) found)))))
        by true is = (held, same-poisoned keeps has, kernel ∙ ap (λ (b : Bool). Some b) is)
        by false is = done (is_done cycle found) refl is

  -- ---- the frame is grabbed

  module _ (cycle : ℕ) (users : IsUsers layout new who frame hardware cycle) where
    after-grabbed : (word : ℕ) → hand_of new ≡ grabs.grabbed frame (is_poisoned word) → FitsAt layout new who frame hardware (grabbed who frame cycle word)
    after-grabbed word held = by (is_ended cycle word) refl
      where
        lasts : (p e : Bool) → is_poisoned word ≡ p → not (p && e) ≡ false → is_poisoned word ≡ true
        lasts true e is going = is
        lasts false e is going = absurd (both_ways true going refl)

        by : (e : Bool) → is_ended cycle word ≡ e → FitsAt layout new who frame hardware (cond e (at.Unlock cycle (unlocks.begin who frame None)) (at.Retire cycle))
        by true is = (
          record {
            unlock = record { on_turn = on; at = record { handled = false; poisoned = is_poisoned word; hand_is = held; within = inside } };
            own = refl;
            given = refl;
            under_way = refl;
          },
          users,
        )
        by false is = (held ∙ ap (grabs.grabbed frame) (lasts (is_poisoned word) (cycle_of word == cycle) refl is), users)

    after-grab-is : (g : Grab) → grabs.Fits layout new g → g.who ≡ who → g.frame ≡ frame → FitsAt layout new who frame hardware (after_grab who frame cycle g)
    after-grab-is g fits own frame_is = which g.at refl
      where
        under : (x : GrabAt) → g.at ≡ x → is_none (grabs.plan_at g.frame x) ≡ false → FitsAt layout new who frame hardware (at.Grab cycle g)
        under x e going = (record { grab = fits; own = own; frame_is = frame_is; under_way = ap (λ (y : GrabAt). is_none (grabs.plan_at g.frame y)) e ∙ going }, users)

        which : (x : GrabAt) → g.at ≡ x → FitsAt layout new who frame hardware (after_grab_by who frame cycle g (grabs.answer_at x))
        which grab_at.LoadAvailable e = under grab_at.LoadAvailable e refl
        which (grab_at.Reserve seen) e = under (grab_at.Reserve seen) e refl
        which grab_at.TakeBit e = under grab_at.TakeBit e refl
        which grab_at.Unreserve e = under grab_at.Unreserve e refl
        which grab_at.Adopt e = under grab_at.Adopt e refl
        which grab_at.LookAgain e = (fits.held ∙ ap (grabs.held_at g.frame) e, users.poisoned)
        which (grab_at.Grabbed word) e = after-grabbed word (fits.held ∙ ap (grabs.held_at g.frame) e ∙ ap (λ (f : Frame). grabs.held_at f (grab_at.Grabbed word)) frame_is)

    -- ---- it is met

    after-meet-is : (m : Meet) → meets.Fits layout new m → m.who ≡ who → m.frame ≡ frame → m.cycle ≡ Some cycle → FitsAt layout new who frame hardware (after_meet cycle m)
    after-meet-is m fits own frame_is cycle_is = which (meets.answer m) refl
      where
        owned : (page : Page) (x : MeetAt) → (meets.is_owned_at x ≡ true) × ((body : BodyValue) → meets.IsBodyAt x body → meets.HoldsMet layout new m.who page m.frame m.cycle body) → FitsAt layout new who frame hardware (owned_by cycle m page x)
        owned page x has =
            let met = meeting.owned-state x has.0 in
            subst (λ (y : MeetAt). FitsAt layout new who frame hardware (owned_by cycle m page y)) (sym met.2)
            (subst (λ (w : Who). meets.HoldsMet layout new w page frame (Some cycle) met.1) own (subst (λ (f : Frame). meets.HoldsMet layout new m.who page f (Some cycle) met.1) frame_is (subst (λ (o : Option ℕ). meets.HoldsMet layout new m.who page m.frame o met.1) cycle_is (has.1 met.1 (subst (λ (y : MeetAt). meets.IsBodyAt y met.1) (sym met.2) refl)))), users)

        free : meets.HoldsFree new m.frame m.cycle → hand_of new ≡ empty_frame frame false true
        free has = has.hand_is ∙ ap (empty_frame m.frame false) (subst (λ (o : Option ℕ). meets.IsFailed o has.poisoned) cycle_is has.failed) ∙ ap (λ (f : Frame). empty_frame f false true) frame_is

        which : (x : Option MeetAnswer) → meets.answer m ≡ x → FitsAt layout new who frame hardware (after_meet_by cycle m x)
        which None e = (record { meet = fits; own = own; frame_is = frame_is; cycle_is = cycle_is; under_way = meeting.goes-on layout new m fits e }, users)
        which (Some meet_answers.LookAgain) e = (meeting.is-met layout new m meet_answers.LookAgain fits e, users.poisoned)
        which (Some meet_answers.Ended) e = (meeting.is-met layout new m meet_answers.Ended fits e, users)
        which (Some meet_answers.Free) e = (free (meeting.is-met layout new m meet_answers.Free fits e), users)
        which (Some (meet_answers.Owned page)) e = owned page m.at (meeting.is-met layout new m (meet_answers.Owned page) fits e)

    -- ---- it is let go

    after-unlock-is : (u : Unlock) → unlocks.Fits layout new u → u.who ≡ who → unlocks.put u ≡ None → FitsAt layout new who frame hardware (after_unlock cycle u)
    after-unlock-is u fits own given = by (is_none (unlocks.plan u)) refl
      where
        by : (b : Bool) → is_none (unlocks.plan u) ≡ b → FitsAt layout new who frame hardware (cond b (at.Free cycle) (at.Unlock cycle u))
        by true is = (unlocking.let-go layout new u fits is, users)
        by false is = (record { unlock = fits; own = own; given = given; under_way = is }, users)

-- ---- each step

-- of the own command
own-steps : {layout : Layout} {who own : Who} {step : Step} {put : Option Log} {old new : View} {found : ℕ} {got : Option BodyValue} → own ≡ who → Steps layout who step put old new found got → Steps layout own step put old new found got
own-steps {layout} {who} {own} {step} {put} {old} {new} {found} {got} is made = subst (λ (w : Who). Steps layout w step put old new found got) (sym is) made

-- a step shows what is needed, and what follows fits again
pub both : (layout : Layout) (old new : View) (c : Claim) (step : Step) (found : ℕ) (got : Option BodyValue) → Fits layout old c → plan c ≡ Some step → Steps layout c.who step (logs (put c)) old new found got
    → Shows (bare c) found got × Fits layout new (next (bare c) found got)
both layout old new c step found got fits is made =
    let all = which c.at fits.at is made in
    (all.0, record { on_turn = on; frame = fits.frame; paid = all.1.paid; at = all.1.at })
  where
    on : IsOnTurn new c.who
    on = on-turn-after fits.on_turn made

    by-keeping : (x : ClaimAt) → account_of new ≡ account_of old → FitsAt layout new c.who c.frame c.hardware x → After layout new c.who c.frame c.hardware x
    by-keeping x keeps at = record { paid = same-paid old new keeps fits.paid; at = at }

    grabbing-on : (cycle : ℕ) (g : Grab) → IsGrabbing layout old c.who c.frame g → IsUsers layout old c.who c.frame c.hardware cycle → grabs.plan g ≡ Some step → Steps layout c.who step None old new found got
        → After layout new c.who c.frame c.hardware (after_grab c.who c.frame cycle (grabs.next g found))
    grabbing-on cycle g has users e made = by-keeping _ keeps (after-grab-is c.frame c.hardware fits.frame on cycle (same-users keeps users) (grabs.next g found) (grabbing.moved g e (own-steps has.own made) has.grab) has.own has.frame_is)
      where
        keeps : account_of new ≡ account_of old
        keeps = kept None (grab-only g step e) (none-taken old) made

    meeting-on : (cycle : ℕ) (m : Meet) → IsMeeting layout old c.who c.frame cycle m → IsUsers layout old c.who c.frame c.hardware cycle → meets.plan m ≡ Some step → Steps layout c.who step (logs (meets.put m)) old new found got
        → meets.Shows (meets.bare m) found got × After layout new c.who c.frame c.hardware (after_meet cycle (meets.next (meets.bare m) found got))
    meeting-on cycle m has users e made = (all.0, by-keeping _ keeps (after-meet-is c.frame c.hardware fits.frame on cycle (same-users keeps users) (meets.next (meets.bare m) found got) all.1 has.own has.frame_is has.cycle_is))
      where
        keeps : account_of new ≡ account_of old
        keeps = kept (meets.put m) (meet-only m step e) (meeting.puts-as-taken layout old m has.meet) made

        all : meets.Shows (meets.bare m) found got × meets.Fits layout new (meets.next (meets.bare m) found got)
        all = meeting.both layout old new m step found got has.meet e (own-steps has.own made)

    unlocking-on : (cycle : ℕ) (u : Unlock) → IsUnlocking layout old c.who u → IsUsers layout old c.who c.frame c.hardware cycle → unlocks.plan u ≡ Some step → Steps layout c.who step (logs (unlocks.put u)) old new found got
        → After layout new c.who c.frame c.hardware (after_unlock cycle (unlocks.next (unlocks.bare u) found))
    unlocking-on cycle u has users e made = by-keeping _ keeps (after-unlock-is c.frame c.hardware fits.frame on cycle (same-users keeps users) (unlocks.next (unlocks.bare u) found)
        (unlocking.moved layout old new u step found got has.unlock e (own-steps has.own made)) has.own (gives-none u.at))
      where
        keeps : account_of new ≡ account_of old
        keeps = kept (unlocks.put u) (unlock-only u step e) (λ b some. absurd (none-some b (sym has.given ∙ some))) made

        by : (r : Release) (x : ReleaseAt) → unlocks.put_at (unlocks.after_release_at r x) ≡ None
        by r release_at.Put = refl
        by r (release_at.Give word) = refl
        by r (release_at.Unreserve word) = refl
        by r (release_at.Adopt word) = refl
        by r (release_at.Retire word) = refl
        by r (release_at.Back word) = refl

        gives-none : (x : UnlockAt) → unlocks.put_at (unlocks.next_at u.who (unlocks.bare_at x) found) ≡ None
        gives-none (unlock_at.UnlockFrame frame body) = refl
        gives-none (unlock_at.Release r) = by (releases.next r found) (releases.next r found).at
        gives-none unlock_at.Over = refl

    which : (x : ClaimAt) → FitsAt layout old c.who c.frame c.hardware x → plan_at c.who c.frame c.hardware x ≡ Some step → Steps layout c.who step (logs (put_at x)) old new found got
        → ShowsAt (bare_at x) found got × After layout new c.who c.frame c.hardware (next_at c.who c.frame (bare_at x) found got)
    which at.Stop has e made = (tt, after-stop (steps-planned e made) c.frame c.hardware fits.paid (hand-planned made e has))
    which at.Poison has e made = (tt, after-poison c.frame c.hardware (steps-planned e made) fits.paid (hand-planned made e has))
    which (at.Count cycle) has e made = (tt, after-count c.frame c.hardware (steps-planned e made) cycle fits.paid (hand-planned made e has.0) has.1)
    which (at.Look cycle) has e made = (tt, after-look c.frame c.hardware fits.frame on (steps-planned e made) cycle fits.paid (hand-planned made e has.0) has.1)
    which (at.Grab cycle g) has e made = (tt, grabbing-on cycle g has.0 has.1 e made)
    which (at.Meet cycle m) has e made = meeting-on cycle m has.0 has.1 e made
    which (at.Unlock cycle u) has e made = (tt, unlocking-on cycle u has.0 has.1 e made)
    which (at.Retire cycle) has e made = (tt, by-keeping (at.Free cycle) keeps (hand-planned made e has.0 ∙ let-go, same-users keeps has.1))
      where
        keeps : account_of new ≡ account_of old
        keeps = kept None tt (none-taken old) (steps-planned e made)

        let-go : record (empty_frame c.frame false true) { locks = without (is_lock_of c.frame) (empty_frame c.frame false true).locks; refs = less_refs c.frame 1 (empty_frame c.frame false true).refs } ≡ empty
        let-go = let same = same-number c.frame.0 c.frame.0 refl in grind arith
    which at.GaveUp has e made = absurd (none-some step e)
    which at.Stopped has e made = absurd (none-some step e)
    which at.Already has e made = absurd (none-some step e)
    which (at.Free cycle) has e made = absurd (none-some step e)
    which (at.Kernel cycle) has e made = absurd (none-some step e)
    which (at.Owned cycle page body) has e made = absurd (none-some step e)

pub stays : (layout : Layout) (old new : View) (c : Claim) (step : Step) (found : ℕ) (got : Option BodyValue) → Fits layout old c → plan c ≡ Some step → Steps layout c.who step (logs (put c)) old new found got
    → Shows (bare c) found got × ((after : Claim) (result : Turn) → (after ≡ next (bare c) found got) × (result ≡ turn (bare c) found) → Fits layout new after × (after.who.cpu ≡ c.who.cpu))
stays layout old new c step found got fits is made = let all = both layout old new c step found got fits is made in
    (all.0, λ after result follows. (subst (Fits layout new) (sym follows.0) all.1, ap (λ (x : Claim). x.who.cpu) follows.0))

-- ---- what is held

pub pressed-tells : (view : View) (n : ℕ) → Tells view n → Tells view (pressing n)
pressed-tells view n tells = ((λ some. ap pressing (tells.0 some)), (λ some. let few : n ≤ 2 = tells.1 some in omega (arith, few)))

-- its class tells what is held
pub claim-tells : (layout : Layout) (view : View) (c : Claim) → Fits layout view c → Tells view (class c)
claim-tells layout view c fits = which c.at fits.at
  where
    which : (x : ClaimAt) → FitsAt layout view c.who c.frame c.hardware x → Tells view (class_at x)
    which at.Stop has = empty-tells view 4 has
    which at.Poison has = empty-tells view 4 has
    which (at.Count cycle) has = empty-tells view 3 has.0
    which (at.Look cycle) has = empty-tells view 3 has.0
    which (at.Grab cycle g) has = pressed-tells view (grabs.class g) (grabbing.grab-tells layout view g has.0.grab)
    which (at.Meet cycle m) has = pressed-tells view (meets.class m) (meeting.meet-tells layout view m has.0.meet)
    which (at.Unlock cycle u) has = pressed-tells view (unlocks.class u) (unlock-tells layout view u has.0.unlock has.0.under_way)
    which (at.Retire cycle) has = frame-tells view
    which at.GaveUp has = empty-tells view 4 has
    which at.Stopped has = empty-tells view 4 has.0
    which at.Already has = empty-tells view 4 has.0
    which (at.Free cycle) has = empty-tells view 4 has.0
    which (at.Kernel cycle) has = empty-tells view 4 has.0
    which (at.Owned cycle page body) has = frame-tells view
