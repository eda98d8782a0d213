-- The laws of `Inject`: its steps can be made, and what follows them fits.
use Rattle.std.proofs.Common.{◌≡◌, ℕ, ◌<◌, ◌==◌, ◌&&◌, Bool, true, false, cond, List, [], ◌∷◌, ◌++◌, Option, Some, None, is_none, inl, inr, filter, map, refl, sym, ap, ◌∙◌, subst}
use Rattle.std.proofs.lemmas.List.{map-append}
use Rattle.std.proofs.lemmas.List.Elements.{filter-append}
use Rattle.std.proofs.lemmas.Option.{none-some}
use Rattle.std.specs.declared.alloc.Global.{Global}
use Rattle.hwp_claim_frame.specs.hwp_geom.declared.Frame.{Frame}
use Rattle.hwp_claim_frame.specs.hwp_geom.declared.Layout.{Layout}
use Rattle.hwp_claim_frame.specs.hwp_geom.declared.Thread.{Thread}
use Rattle.hwp_claim_frame.specs.hwp_geom.declared.Who.{Who}
use Rattle.hwp_claim_frame.specs.hwp_geom.Layout.{IsSound}
use Rattle.hwp_claim_frame.specs.hwp_page.History.{BodyValue}
use Rattle.hwp_claim_frame.specs.hwp_words.Frames.{count_of, cycle_of, is_kernel, is_poisoned}
use Rattle.hwp_claim_frame.specs.hwp_words.Stops.{is_stopped}
use Rattle.hwp_claim_frame.specs.hwp_core_rule.declared.Mark.{Mark}
use Rattle.hwp_claim_frame.specs.hwp_core_rule.declared.SharedWord.TheVariants as places
use Rattle.hwp_claim_frame.specs.hwp_core_rule.declared.Step.{Step}
use Rattle.hwp_claim_frame.specs.hwp_core_rule.declared.Step.TheVariants as steps
use Rattle.hwp_claim_frame.specs.hwp_core_rule.declared.View.{View}
use Rattle.hwp_claim_frame.proofs.of_hwp_core_rule.Lists.{same-number}
use Rattle.hwp_claim_frame.specs.hwp_core_rule.Known.{deeds}
use Rattle.hwp_claim_frame.specs.hwp_core_rule.declared.Turn.{Turn}
use Rattle.hwp_claim_frame.specs.hwp_core_rule.Calls.{CanMake, IsOnTurn, Steps, logs}
use Rattle.hwp_claim_frame.proofs.of_hwp_core_rule.tasks.StepLeaves.{can-make, hand-planned, on-turn-after, steps-planned}
use Rattle.hwp_claim_frame.proofs.of_hwp_core_rule.tasks.MadeEntries.{deeds-same}
use Rattle.hwp_claim_frame.proofs.of_hwp_core_rule.tasks.SightKeeps.{saw-load}
use Rattle.hwp_claim_frame.specs.hwp_core.declared.unlock.Unlock.{Unlock}
use Rattle.hwp_claim_frame.specs.hwp_core.Unlocks as unlocks
use Rattle.hwp_claim_act.specs.declared.abandon.Failed.{Failed}
use Rattle.hwp_claim_act.specs.declared.act.Act.{Act}
use Rattle.hwp_claim_act.specs.Abandoned.{failed_in}
use Rattle.hwp_claim_act.specs.Acts as acts
use Rattle.hwp_claim_frame.specs.declared.claim.Claim.{Claim}
use Rattle.hwp_claim_frame.specs.declared.claim.ClaimAt.{ClaimAt}
use Rattle.hwp_claim_frame.specs.declared.claim.ClaimAt.TheVariants as claim_at
use Rattle.hwp_claim_frame.specs.declared.grab.Grab.{Grab}
use Rattle.hwp_claim_frame.specs.declared.grab.GrabAnswer.{GrabAnswer}
use Rattle.hwp_claim_frame.specs.declared.grab.GrabAnswer.TheVariants as grab_answers
use Rattle.hwp_claim_frame.specs.declared.meet.Meet.{Meet}
use Rattle.hwp_claim_frame.specs.declared.meet.MeetAt.{MeetAt}
use Rattle.hwp_claim_frame.specs.declared.meet.MeetAt.TheVariants as meet_at
use Rattle.hwp_claim_frame.specs.declared.meet.MeetAnswer.{MeetAnswer}
use Rattle.hwp_claim_frame.specs.declared.meet.MeetAnswer.TheVariants as meet_answers
use Rattle.hwp_claim_frame.specs.Claims as claims
use Rattle.hwp_claim_frame.specs.Claims.{is_own, marks_by}
use Rattle.hwp_claim_frame.specs.Done.{Marking, marked_in, marking_of}
use Rattle.hwp_claim_frame.specs.Grabs as grabs
use Rattle.hwp_claim_frame.specs.Meets as meets
use Rattle.hwp_claim_frame.specs.Meets.{is_ended}
use Rattle.hwp_claim.specs.declared.fail.Fail.{Fail}
use Rattle.hwp_claim.specs.declared.fail.FailAt.{FailAt}
use Rattle.hwp_claim.specs.declared.fail.FailAt.TheVariants as fail_at
use Rattle.hwp_claim.specs.declared.inject.Inject.{Inject}
use Rattle.hwp_claim.specs.declared.inject.InjectAt.{InjectAt}
use Rattle.hwp_claim.specs.declared.inject.InjectAt.TheVariants as at
use Rattle.hwp_claim.specs.Done.{Adds, failed_at, marked_at}
use Rattle.hwp_claim.specs.Fails as fails
use Rattle.hwp_claim.specs.Injects.{Fits, FitsAt, Follows, FollowsAt, IsAtRest, IsFailing, Shows, ShowsAt, bare, bare_at, loaded, plan, plan_at, put, put_at, recovers_at, recovers_in}
use Rattle.hwp_claim.proofs.FailAdds.{fail-adds}
use Rattle.hwp_claim.proofs.FailLaws as failing

pub can : (layout : Layout) (view : View) (i : Inject) (step : Step) → Fits layout view i → plan i ≡ Some step → CanMake layout i.who step (put i) view
can layout view i step fits is = which i.at fits.at is
  where
    which : (x : InjectAt) → FitsAt layout view i.who i.frame x → plan_at x ≡ Some step → CanMake layout i.who step (put_at x) view
    which at.LoadStop has e = can-make fits.on_turn e tt tt
    which (at.Fail f) has e = subst (λ (w : Who). CanMake layout w step (fails.put f) view) has.own (failing.can layout view f step has.fail e)
    which at.Stopped has e = absurd (none-some step e)

-- ---- the stop word is read

module _ {layout : Layout} {old new : View} {who : Who} {found : ℕ} {got : Option BodyValue} (made : Steps layout who (steps.Load places.Stop) None old new found got) where
  rests : IsAtRest old who → IsAtRest new who
  rests has = record {
    hand_is = hand-planned made refl has.hand_is;
    paid = ap (λ (v : View). v.owed.losses) made.told.next ∙ has.paid;
    made = deeds-same who tt made ∙ has.made;
    unmarked = ap (claims.marks_by who) made.told.next ∙ has.unmarked;
  }

-- a failure begins
begun : {layout : Layout} {view : View} (who : Who) (frame : Frame) (alloc : Global) → IsOnTurn view who → IsSound layout → frame.0 < layout.frames → IsAtRest view who → IsFailing layout view who frame (fails.begin alloc who frame None false layout.recovery)
begun {layout} {view} who frame alloc on sound inside rest = which layout.recovery refl
  where
    fits : (x : ClaimAt) → claims.FitsAt layout view who frame false x → claims.answer_at x ≡ None → fails.Fits layout view (record { alloc = alloc; who = who; frame = frame; required = None; hardware = false; at = fail_at.Claim (record { who = who; frame = frame; hardware = false; at = x }) })
    fits x has none = record {
      on_turn = on;
      sound = sound;
      frame = inside;
      at = record {
        claim = record { on_turn = on; frame = inside; paid = rest.paid; at = has };
        own = refl;
        frame_is = refl;
        hardware_is = refl;
        unanswered = none;
      };
    }

    failing : (x : ClaimAt) → claims.FitsAt layout view who frame false x → claims.answer_at x ≡ None → layout.recovery ≡ recovers_in x → marked_in frame false x ≡ []
        → IsFailing layout view who frame (record { alloc = alloc; who = who; frame = frame; required = None; hardware = false; at = fail_at.Claim (record { who = who; frame = frame; hardware = false; at = x }) })
    failing x has none recovers unmarked = record {
      fail = fits x has none;
      own = refl;
      frame_is = refl;
      unrequired = refl;
      software = refl;
      recovery = recovers;
      marks = ap (map marking_of) rest.unmarked ∙ sym unmarked;
      entries = ap (map failed_in) rest.made;
    }

    which : (b : Bool) → layout.recovery ≡ b → IsFailing layout view who frame (fails.begin alloc who frame None false b)
    which true is = failing claim_at.Poison rest.hand_is refl is refl
    which false is = failing claim_at.Stop rest.hand_is refl is refl

-- ---- whether the machine recovers

-- a claim that doesn't stop the machine doesn't stop it later
module _ (who : Who) (frame : Frame) where
  after-grab : (cycle : ℕ) (g : Grab) (o : Option GrabAnswer) → recovers_in (claims.after_grab_by who frame cycle g o) ≡ true
  after-grab cycle g None = refl
  after-grab cycle g (Some grab_answers.LookAgain) = refl
  after-grab cycle g (Some (grab_answers.Grabbed word)) = which (is_ended cycle word)
    where
      which : (b : Bool) → recovers_in (cond b (claim_at.Unlock cycle (unlocks.begin who frame None)) (claim_at.Retire cycle)) ≡ true
      which true = refl
      which false = refl

  after-look : (cycle word : ℕ) → recovers_in (claims.looked who frame cycle word) ≡ true
  after-look cycle word = which (is_kernel word) (claims.is_done cycle word) (count_of word == 0)
    where
      which : (b c d : Bool) → recovers_in (cond b (claim_at.Kernel cycle) (cond c (claim_at.Free cycle) (cond d (claim_at.Grab cycle (grabs.begin who frame)) (claim_at.Meet cycle (meets.begin who frame (Some cycle) word))))) ≡ true
      which true c d = refl
      which false true d = refl
      which false false true = refl
      which false false false = refl

owned-on : (cycle : ℕ) (m : Meet) (page : _) (x : MeetAt) → recovers_in (claims.owned_by cycle m page x) ≡ true
owned-on cycle m page (meet_at.Owned own body) = refl
owned-on cycle m page (meet_at.GetRef seen) = refl
owned-on cycle m page meet_at.LockFree = refl
owned-on cycle m page (meet_at.LockPage own) = refl
owned-on cycle m page (meet_at.LockOwned own shelf) = refl
owned-on cycle m page (meet_at.Unlock body ended) = refl
owned-on cycle m page (meet_at.UnlockFrame own shelf body ended) = refl
owned-on cycle m page (meet_at.UnlockPage own shelf ended) = refl
owned-on cycle m page (meet_at.Release r ended) = refl
owned-on cycle m page (meet_at.Back ended) = refl
owned-on cycle m page meet_at.Free = refl

after-meet : (cycle : ℕ) (m : Meet) (o : Option MeetAnswer) → recovers_in (claims.after_meet_by cycle m o) ≡ true
after-meet cycle m None = refl
after-meet cycle m (Some meet_answers.LookAgain) = refl
after-meet cycle m (Some meet_answers.Ended) = refl
after-meet cycle m (Some meet_answers.Free) = refl
after-meet cycle m (Some (meet_answers.Owned page)) = owned-on cycle m page m.at

after-unlock : (cycle : ℕ) (u : Unlock) → recovers_in (claims.after_unlock cycle u) ≡ true
after-unlock cycle u = which (is_none (unlocks.plan u))
  where
    which : (b : Bool) → recovers_in (cond b (claim_at.Free cycle) (claim_at.Unlock cycle u)) ≡ true
    which true = refl
    which false = refl

claim-recovers : (who : Who) (frame : Frame) (x : ClaimAt) (found : ℕ) (got : Option BodyValue) → recovers_in (claims.next_at who frame (claims.bare_at x) found got) ≡ recovers_in x
claim-recovers who frame claim_at.Stop found got = which (found == 0) (is_stopped found)
  where
    which : (b c : Bool) → recovers_in (cond b claim_at.Stopped (cond c claim_at.Stopped claim_at.GaveUp)) ≡ false
    which true c = refl
    which false true = refl
    which false false = refl
claim-recovers who frame claim_at.Poison found got = which (is_poisoned found)
  where
    which : (b : Bool) → recovers_in (cond b claim_at.Already (claim_at.Count (cycle_of found))) ≡ true
    which true = refl
    which false = refl
claim-recovers who frame (claim_at.Count cycle) found got = refl
claim-recovers who frame (claim_at.Look cycle) found got = after-look who frame cycle found
claim-recovers who frame (claim_at.Grab cycle g) found got = after-grab who frame cycle (grabs.next g found) (grabs.answer (grabs.next g found))
claim-recovers who frame (claim_at.Meet cycle m) found got = after-meet cycle (meets.next (meets.bare m) found got) (meets.answer (meets.next (meets.bare m) found got))
claim-recovers who frame (claim_at.Unlock cycle u) found got = after-unlock cycle (unlocks.next (unlocks.bare u) found)
claim-recovers who frame (claim_at.Retire cycle) found got = refl
claim-recovers who frame claim_at.GaveUp found got = refl
claim-recovers who frame claim_at.Stopped found got = refl
claim-recovers who frame claim_at.Already found got = refl
claim-recovers who frame (claim_at.Free cycle) found got = refl
claim-recovers who frame (claim_at.Kernel cycle) found got = refl
claim-recovers who frame (claim_at.Owned cycle page body) found got = refl

act-recovers : (cycle : ℕ) (a : Act) → recovers_at (fails.after_act cycle a) ≡ true
act-recovers cycle a = which (acts.answer a)
  where
    which : (o : Option Failed) → recovers_at (fails.after_act_by cycle a o) ≡ true
    which None = refl
    which (Some failed) = refl

-- what follows a claim recovers where the claim does
after-claim : (who : Who) (frame : Frame) (required : Option _) (c : Claim) (x : FailAt) → fails.AfterClaim who frame required c x → recovers_at x ≡ recovers_in c.at
after-claim who frame required c x follows = which c.at refl follows
  where
    which : (y : ClaimAt) → recovers_in c.at ≡ recovers_in y → fails.AfterClaimBy who frame required c (claims.answer_at y) x → recovers_at x ≡ recovers_in c.at
    which claim_at.Stop same is = ap recovers_at is
    which claim_at.Poison same is = ap recovers_at is
    which (claim_at.Count cycle) same is = ap recovers_at is
    which (claim_at.Look cycle) same is = ap recovers_at is
    which (claim_at.Grab cycle g) same is = ap recovers_at is
    which (claim_at.Meet cycle m) same is = ap recovers_at is
    which (claim_at.Unlock cycle u) same is = ap recovers_at is
    which (claim_at.Retire cycle) same is = ap recovers_at is
    which claim_at.GaveUp same is = ap recovers_at is
    which claim_at.Stopped same is = ap recovers_at is ∙ sym same
    which claim_at.Already same is = ap recovers_at is ∙ sym same
    which (claim_at.Free cycle) same is = ap recovers_at is ∙ sym same
    which (claim_at.Kernel cycle) same is = ap recovers_at is ∙ sym same
    which (claim_at.Owned cycle page body) same has = ap recovers_at has.next_is ∙ act-recovers cycle has.act ∙ sym same

pub fail-recovers : (f after : Fail) (found : ℕ) (got : Option BodyValue) (turn : Turn) → fails.Follows (fails.bare f) found got after turn → recovers_at after.at ≡ recovers_at f.at
fail-recovers f after found got turn follows = which f.at follows.1
  where
    which : (x : FailAt) → fails.FollowsAt f.who f.frame f.required (fails.bare_at x) found got after.at turn → recovers_at after.at ≡ recovers_at x
    which (fail_at.Claim c) next = after-claim f.who f.frame f.required (claims.next (claims.bare c) found got) after.at next.0 ∙ claim-recovers c.who c.frame c.at found got
    which (fail_at.Act cycle a) next = ap recovers_at next.next_is ∙ act-recovers cycle next.after
    which (fail_at.Over answer) next = ap recovers_at next.0

-- ---- what the command has marked and entered

abbrev markings : List Mark → List Marking
markings l = map marking_of l

abbrev told : List Failed → List (Option Failed)
told l = map (λ (f : Failed). Some f) l

own-command : (who other : Who) → other ≡ who → ((other.cpu.0 == who.cpu.0) && (other.seq == who.seq)) ≡ true
own-command who other own = ap (λ (b : Bool). b && (other.seq == who.seq)) (same-number other.cpu.0 who.cpu.0 (ap (λ (w : Who). w.cpu.0) own)) ∙ same-number other.seq who.seq (ap (λ (w : Who). w.seq) own)

module _ {old new : View} (who : Who) where
  marks-grow : (frame : Frame) {x y : FailAt} → Adds old new who frame false None x y → markings (marks_by who old) ≡ marked_at frame false x → markings (marks_by who new) ≡ marked_at frame false y
  marks-grow frame {x} {y} adds has = elim adds.marked [
    | inl same ↦ ap (λ (l : List Mark). markings (filter (is_own who) l)) same.0 ∙ has ∙ sym same.1
    | inr grown ↦ ap (λ (l : List Mark). markings (filter (is_own who) l)) grown.1 ∙ ap markings (filter-append (is_own who) old.marks (grown.0 ∷ [])) ∙ map-append marking_of (marks_by who old) (filter (is_own who) (grown.0 ∷ []))
        ∙ ap (λ (b : Bool). markings (marks_by who old) ++ markings (cond b (grown.0 ∷ []) [])) (own-command who grown.0.stamp.who grown.2) ∙ ap (λ (l : List Marking). l ++ marking_of grown.0 ∷ []) has ∙ sym grown.3
  ]

  entries-grow : {frame : Frame} {x y : FailAt} → Adds old new who frame false None x y → map failed_in (deeds who old) ≡ told (failed_at None x) → map failed_in (deeds who new) ≡ told (failed_at None y)
  entries-grow {frame} {x} {y} adds has = elim adds.failed [
    | inl same ↦ ap (map failed_in) same.0 ∙ has ∙ sym (ap told same.1)
    | inr grown ↦ ap (map failed_in) grown.2 ∙ map-append failed_in (deeds who old) (grown.0 ∷ []) ∙ ap (λ (o : Option Failed). map failed_in (deeds who old) ++ o ∷ []) grown.3 ∙ ap (λ (l : List (Option Failed)). l ++ Some grown.1 ∷ []) has
        ∙ sym (ap told grown.4 ∙ map-append (λ (f : Failed). Some f) (failed_at None x) (grown.1 ∷ []))
  ]

-- ---- each step

module _ {layout : Layout} {new : View} {who : Who} {frame : Frame} (on : IsOnTurn new who) (sound : IsSound layout) (inside : frame.0 < layout.frames) where
  loaded-fits : (alloc : Global) {old : View} {found : ℕ} {got : Option BodyValue} → Steps layout who (steps.Load places.Stop) None old new found got → IsAtRest old who → FitsAt layout new who frame (loaded layout.recovery alloc who frame found)
  loaded-fits alloc {old} {found} made has = which (is_stopped found) refl
    where
      rest : IsAtRest new who
      rest = rests made has

      which : (b : Bool) → is_stopped found ≡ b → FitsAt layout new who frame (cond b at.Stopped (at.Fail (fails.begin alloc who frame None false layout.recovery)))
      which true is = (rest, inl (record { word = found; stopped = is; saw = saw-load made }))
      which false is = begun who frame alloc on sound inside rest

both : (layout : Layout) (old new : View) (i : Inject) (step : Step) (found : ℕ) (got : Option BodyValue) → Fits layout old i → plan i ≡ Some step → Steps layout i.who step (logs (put i)) old new found got
    → Shows (bare i) found got × ((after : Inject) (turn : Turn) → Follows layout (bare i) found got after turn → Fits layout new after)
both layout old new i step found got fits is made = let all = which i.at fits.at is made in
    (all.0, λ after turn follows. subst (Fits layout new) (sym follows.0) (record { on_turn = on; sound = fits.sound; frame = fits.frame; at = all.1 after.at turn follows.1 }))
  where
    on : IsOnTurn new i.who
    on = on-turn-after fits.on_turn made

    adds : (f : Fail) → IsFailing layout old i.who i.frame f → fails.plan f ≡ Some step → Steps layout i.who step (logs (fails.put f)) old new found got → (after : Fail) (turn : Turn) → fails.Follows (fails.bare f) found got after turn → Adds old new i.who i.frame false None f.at after.at
    adds f has e made after turn follows =
        subst (λ (r : Option Thread). Adds old new i.who i.frame false r f.at after.at) has.unrequired
        (subst (λ (h : Bool). Adds old new i.who i.frame h f.required f.at after.at) has.software
        (subst (λ (n : Frame). Adds old new i.who n f.hardware f.required f.at after.at) has.frame_is
        (subst (λ (w : Who). Adds old new w f.frame f.hardware f.required f.at after.at) has.own
        (fail-adds layout old new f step found got has.fail e (subst (λ (w : Who). Steps layout w step (logs (fails.put f)) old new found got) (sym has.own) made) after turn follows))))

    which : (x : InjectAt) → FitsAt layout old i.who i.frame x → plan_at x ≡ Some step → Steps layout i.who step (logs (put_at x)) old new found got
        → ShowsAt (bare_at x) found got × ((y : InjectAt) (turn : Turn) → FollowsAt layout i.alloc i.who i.frame (bare_at x) found got y turn → FitsAt layout new i.who i.frame y)
    which at.LoadStop has e made = (tt, λ y turn follows. subst (FitsAt layout new i.who i.frame) (sym follows.0) (loaded-fits on fits.sound fits.frame i.alloc (steps-planned e made) has))
    which (at.Fail f) has e made = let all = failing.stays layout old new f step found got has.fail e (subst (λ (w : Who). Steps layout w step (logs (fails.put f)) old new found got) (sym has.own) made) in (
      all.0,
      λ y turn next. subst (FitsAt layout new i.who i.frame) (sym next.next_is) (record {
        fail = (all.1 next.after turn next.follows).0;
        own = ap (λ (g : Fail). g.who) next.follows.0 ∙ has.own;
        frame_is = ap (λ (g : Fail). g.frame) next.follows.0 ∙ has.frame_is;
        unrequired = ap (λ (g : Fail). g.required) next.follows.0 ∙ has.unrequired;
        software = ap (λ (g : Fail). g.hardware) next.follows.0 ∙ has.software;
        recovery = has.recovery ∙ sym (fail-recovers f next.after found got turn next.follows);
        marks = marks-grow i.who i.frame (adds f has e made next.after turn next.follows) has.marks;
        entries = entries-grow i.who (adds f has e made next.after turn next.follows) has.entries;
      }),
    )
    which at.Stopped has e made = absurd (none-some step e)

pub stays : (layout : Layout) (old new : View) (i : Inject) (step : Step) (found : ℕ) (got : Option BodyValue) → Fits layout old i → plan i ≡ Some step → Steps layout i.who step (logs (put i)) old new found got
    → Shows (bare i) found got × ((after : Inject) (turn : Turn) → Follows layout (bare i) found got after turn → Fits layout new after × (after.who.cpu ≡ i.who.cpu))
stays layout old new i step found got fits is made = let all = both layout old new i step found got fits is made in (all.0, λ after turn follows. (all.1 after turn follows, ap (λ (x : Inject). x.who.cpu) follows.0))
