-- Each turn of a `Fail` lowers its cost, or leaves a failure fewer, and its failure stays its own until it is ended.
use Rattle.std.proofs.Common.{◌≡◌, ◌≢◌, ◌⊎◌, inl, inr, ℕ, ◌+◌, ◌<◌, ◌≤◌, min, Bool, true, false, cond, List, Option, Some, None, is_none, slice_get, refl, sym, ap, ◌∙◌, subst, arith}
use Rattle.std.proofs.lemmas.Bool.{both_ways}
use Rattle.std.proofs.lemmas.Option.{none-some}
use Rattle.hwp_claim_frame.specs.hwp_geom.declared.FileNo.{FileNo}
use Rattle.hwp_claim_frame.specs.hwp_geom.declared.Frame.{Frame}
use Rattle.hwp_claim_frame.specs.hwp_geom.declared.Layout.{Layout}
use Rattle.hwp_claim_frame.specs.hwp_geom.declared.Who.{Who}
use Rattle.hwp_claim_frame.specs.hwp_kill.declared.Signal.{Signal}
use Rattle.hwp_claim_frame.specs.hwp_page.History.{BodyValue}
use Rattle.hwp_claim_frame.specs.hwp_core_rule.declared.State.{State}
use Rattle.hwp_claim_frame.specs.hwp_core_rule.declared.Step.{Step}
use Rattle.hwp_claim_frame.specs.hwp_core_rule.declared.Step.TheVariants as steps
use Rattle.hwp_claim_frame.specs.hwp_core_rule.Moves.{Move}
use Rattle.hwp_claim_frame.specs.hwp_core_rule.Lasting.{LeavesPoison}
use Rattle.hwp_claim_frame.specs.hwp_core_rule.Words.{Words}
use Rattle.hwp_claim_frame.specs.hwp_core_rule.declared.Turn.{Turn}
use Rattle.hwp_claim_frame.specs.hwp_core_rule.Boards.{view_of}
use Rattle.hwp_claim_frame.specs.hwp_core_rule.Calls.{logs, rec_of}
use Rattle.hwp_claim_frame.specs.hwp_core_rule.Hands.{Hand}
use Rattle.hwp_claim_frame.specs.hwp_core_rule.Ranks.{IsRanked, Made, OtherHand, Pending, Quiet, failures_left, is_refused, is_waits, words_at}
use Rattle.hwp_claim_frame.proofs.of_hwp_core_rule.tasks.Failures.{mild-leaves}
use Rattle.hwp_claim_frame.proofs.of_hwp_core_rule.tasks.StepRanks.{failed, pending-kept, steps-on}
use Rattle.hwp_claim_frame.specs.hwp_core.declared.give_up.GiveUp.{GiveUp}
use Rattle.hwp_claim_frame.specs.hwp_core.declared.give_up.GiveUpAt.{GiveUpAt}
use Rattle.hwp_claim_frame.specs.hwp_core.declared.give_up.GiveUpAt.TheVariants as give_up_at
use Rattle.hwp_claim_frame.specs.hwp_core.declared.unhold.Unhold.{Unhold}
use Rattle.hwp_claim_frame.specs.hwp_core.declared.unlock.Unlock.{Unlock}
use Rattle.hwp_claim_frame.specs.hwp_core.GiveUps as give_ups
use Rattle.hwp_claim_frame.specs.hwp_core.Unholds as unholds
use Rattle.hwp_claim_frame.specs.hwp_core.Unlocks as unlocks
use Rattle.hwp_claim_act.specs.declared.abandon.Abandon.{Abandon}
use Rattle.hwp_claim_act.specs.declared.abandon.AbandonAt.{AbandonAt}
use Rattle.hwp_claim_act.specs.declared.abandon.AbandonAt.TheVariants as abandon_at
use Rattle.hwp_claim_act.specs.declared.act.Act.{Act}
use Rattle.hwp_claim_act.specs.declared.act.ActAt.{ActAt}
use Rattle.hwp_claim_act.specs.declared.act.ActAt.TheVariants as act_at
use Rattle.hwp_claim_act.specs.Abandoned as abandoned
use Rattle.hwp_claim_act.specs.Abandons as abandons
use Rattle.hwp_claim_act.specs.Acting as acting
use Rattle.hwp_claim_act.specs.Acting.{IsAbandoning}
use Rattle.hwp_claim_act.specs.Acts as acts
use Rattle.hwp_claim_act.proofs.ActCosts.{act-falls, act-goes, act-mild, act-ranked, act-small}
use Rattle.hwp_claim_frame.specs.declared.claim.Claim.{Claim}
use Rattle.hwp_claim_frame.specs.Claims as claims
use Rattle.hwp_claim_frame.proofs.ClaimCosts.{claim-class, claim-falls, claim-lasting, claim-leaves, claim-small, claim-waits}
use Rattle.hwp_claim_frame.proofs.ClaimOwns.{claim-ranked}
use Rattle.hwp_claim_frame.proofs.ClaimKeeps.{Keeps, drops-now, owned-by, retired}
use Rattle.hwp_claim.specs.declared.fail.Fail.{Fail}
use Rattle.hwp_claim.specs.declared.fail.FailAt.{FailAt}
use Rattle.hwp_claim.specs.declared.fail.FailAt.TheVariants as at
use Rattle.hwp_claim.specs.Fails.{ActsOn, FitsAt, FollowsAt, IsActing, IsClaiming, ShowsAt, aborts, aborts_at, after_act, bare, bare_at, claims_at, claims_of, class, class_at, cost, cost_at, has_retired_at, is_retired_at, plan, plan_at, put, put_at, task as fail-task, fail_most, held_most}
use Rattle.hwp_claim.proofs.FailLeaves.{IsLeft, act-claim, act-cost, claim-on, cleared-on, left, read-on}
use Rattle.hwp_claim.proofs.FailLaws.{both}

-- ---- the page leaves its frame

kill-on : (endings : List Signal) (n : ℕ) → is_retired_at (abandons.kill_at endings n) ≡ false
kill-on endings n = which (slice_get endings n)
  where
    which : (o : Option Signal) → is_retired_at (abandons.kill_from n o) ≡ false
    which (Some s) = refl
    which None = refl

owner-on : (file : Option FileNo) (endings : List Signal) → is_retired_at (abandons.owner_gone file endings) ≡ false
owner-on (Some file) endings = refl
owner-on None endings = kill-on endings 0

left-retired : (x : Abandon) → has_retired_at (acts.after_abandon x) ≡ is_retired_at x.at
left-retired x = which x.at refl
  where
    which : (z : AbandonAt) → x.at ≡ z → has_retired_at (acts.abandoned_at x z) ≡ is_retired_at x.at
    which abandon_at.Over is = sym (ap is_retired_at is)
    which abandon_at.SetCache is = refl
    which abandon_at.SetOwner is = refl
    which (abandon_at.Lose file) is = refl
    which (abandon_at.Kill number process) is = refl
    which abandon_at.PutRef is = refl
    which abandon_at.Retire is = refl
    which abandon_at.UnlockPage is = refl

abbrev gives-at : GiveUp → GiveUpAt → ActAt
gives-at g z = acts.after_give_up (record g { at = z })

-- a command that gives up goes on with that until it has given up
gives-on : (g : GiveUp) {step : Step} (found : ℕ) → give_ups.plan g ≡ Some step → is_refused (give_ups.turn (give_ups.bare g)) ≡ false → has_retired_at (acts.after_give_up (give_ups.next (give_ups.bare g) found)) ≡ false
gives-on g {step} found e going = which g.at e going
  where
    unheld : (u : Unhold) (b : Bool) → is_none (unholds.plan u) ≡ b → has_retired_at (gives-at g (cond b give_up_at.GiveUp (give_up_at.Unhold u))) ≡ false
    unheld u true is = refl
    unheld u false is = ap (λ (b : Bool). has_retired_at (cond b (act_at.Over None) (act_at.GiveUp (record g { at = give_up_at.Unhold u })))) is

    unlocked : (u : Unlock) (b : Bool) → is_none (unlocks.plan u) ≡ b → has_retired_at (gives-at g (cond b give_up_at.GiveUp (give_up_at.Unlock u))) ≡ false
    unlocked u true is = refl
    unlocked u false is = ap (λ (b : Bool). has_retired_at (cond b (act_at.Over None) (act_at.GiveUp (record g { at = give_up_at.Unlock u })))) is

    which : (z : GiveUpAt) → give_ups.plan_at z ≡ Some step → is_refused (give_ups.turn_at (give_ups.bare_at z)) ≡ false → has_retired_at (gives-at g (give_ups.next_at (give_ups.bare_at z) found)) ≡ false
    which (give_up_at.Unhold u) e going = unheld (unholds.next (unholds.bare u) found) (is_none (unholds.plan (unholds.next (unholds.bare u) found))) refl
    which (give_up_at.Unlock u) e going = unlocked (unlocks.next (unlocks.bare u) found) (is_none (unlocks.plan (unlocks.next (unlocks.bare u) found))) refl
    which give_up_at.GiveUp e going = absurd (both_ways true going refl)
    which give_up_at.Over e going = absurd (none-some step e)

-- ---- each turn

module _ {layout : Layout} {seat : ℕ} {a b : State} {s t : Fail} {turned : Turn} (made : Made fail-task layout seat a b s t turned) where
  abbrev w : Words
  w = words_at layout a

  abbrev now : Words
  now = words_at layout b

  abbrev Moves : Option BodyValue → Type 0
  Moves given = Move layout seat (rec_of layout s.who made.step (logs given) made.found made.got) a b

  -- the claim as it follows
  abbrev next-claim : Claim → Claim
  next-claim c = claims.next (claims.bare c) made.found made.got

  claim-made : (c : Claim) → IsClaiming layout (view_of a seat) s.who s.frame s.hardware c → claims.plan c ≡ Some made.step → Moves (claims.put c) → Made claims.task layout seat a b c (next-claim c) (claims.turn (claims.bare c) made.found)
  claim-made c has e move = record {
    step = made.step;
    found = made.found;
    got = made.got;
    rule = made.rule;
    kept = made.kept;
    fits = has.claim;
    planned = e;
    move = subst (λ (x : Who). Move layout seat (rec_of layout x made.step (logs (claims.put c)) made.found made.got) a b) (sym has.own) move;
    brings = made.brings;
    follows = (refl, refl);
  }

  left-of : (c : Claim) → IsClaiming layout (view_of a seat) s.who s.frame s.hardware c → (x : FailAt) → FollowsAt s.who s.frame s.required (bare_at (at.Claim c)) made.found made.got x turned → IsLeft s.frame (next-claim c).at x
  left-of c has x follows = left s.who s.frame s.required (next-claim c) has.frame_is (next-claim c).at x follows.0

  act-less : (cycle : ℕ) (c : Act) → IsActing layout (view_of a seat) s.who s.frame s.required s.hardware cycle c → acts.plan c ≡ Some made.step → acts.Shows (acts.bare c) made.found → (x : FailAt) → ActsOn cycle (acts.bare c) made.found x turned → cost_at x now < acts.cost c w
  act-less cycle c has e shows x on = subst (λ (y : FailAt). cost_at y now < acts.cost c w) (sym on.next_is)
      (let less : acts.cost on.after now < acts.cost c w = act-falls layout (view_of a seat) w now c made.step made.found on.after turned has.act e shows on.follows in
      let ends : cost_at (after_act cycle on.after) now ≤ acts.cost on.after now = act-cost cycle on.after now in
      omega (arith, less, ends))

  -- ---- a turn that doesn't wait

  abbrev Falls : FailAt → FailAt → Type 0
  Falls x y = (cost_at y now < cost_at x w) ⊎ ((failures_left now < failures_left w) × (cost_at y now ≤ held_most + 12))

  falls-at : (x : FailAt) → FitsAt layout (view_of a seat) s.who s.frame s.required s.hardware x → plan_at x ≡ Some made.step → Moves (put_at x) → ShowsAt (bare_at x) made.found made.got → FollowsAt s.who s.frame s.required (bare_at x) made.found made.got t.at turned → is_waits turned ≡ false → Falls x t.at
  falls-at (at.Claim c) has e move shows follows goes =
      let ends : cost_at t.at now ≤ claims.cost_with held_most (next-claim c).at now = (left-of c has t.at follows).cost now in
      elim (claim-falls (claim-made c has e move) held_most (omega arith) (sym (ap is_waits follows.1) ∙ goes)) [
        | inl less ↦ inl (let lower : claims.cost_with held_most (next-claim c).at now < claims.cost_with held_most c.at w = less in omega (arith, ends, lower))
        | inr fails ↦ inr (fails.0, let few : claims.cost_with held_most (next-claim c).at now ≤ held_most + 12 = fails.1 in omega (arith, ends, few))
      ]
  falls-at (at.Act cycle c) has e move shows follows goes = inl (act-less cycle c has e shows t.at follows)
  falls-at (at.Over answer) has e move shows follows goes = absurd (none-some made.step e)

  fail-falls : is_waits turned ≡ false → Falls s.at t.at
  fail-falls goes = falls-at s.at made.fits.at made.planned made.move (both layout (view_of a seat) _ s made.step made.found made.got made.fits made.planned (steps-on made)).0 made.follows.1 goes

  -- ---- a turn that waits

  abbrev Waits : FailAt → FailAt → Type 0
  Waits x y = (cost_at y now < cost_at x w) ⊎ ((aborts_at y ≡ true) × OtherHand a seat)

  waits-at : (x : FailAt) → FitsAt layout (view_of a seat) s.who s.frame s.required s.hardware x → plan_at x ≡ Some made.step → Moves (put_at x) → FollowsAt s.who s.frame s.required (bare_at x) made.found made.got t.at turned → is_waits turned ≡ true → Quiet (class_at x) layout a seat → Waits x t.at
  waits-at (at.Claim c) has e move follows waits quiet =
      let rest : IsLeft s.frame (next-claim c).at t.at = left-of c has t.at follows in
      let ends : cost_at t.at now ≤ claims.cost_with held_most (next-claim c).at now = rest.cost now in
      elim (claim-waits (claim-made c has e move) held_most (omega arith) (sym (ap is_waits follows.1) ∙ waits) quiet) [
        | inl less ↦ inl (let lower : claims.cost_with held_most (next-claim c).at now < claims.cost_with held_most c.at w = less in omega (arith, ends, lower))
        | inr gives ↦ inr (rest.aborts ∙ gives.0, gives.1)
      ]
  waits-at (at.Act cycle c) has e move follows waits quiet = absurd (both_ways true (sym waits ∙ act-goes c made.found follows.after turned follows.follows) refl)
  waits-at (at.Over answer) has e move follows waits quiet = absurd (none-some made.step e)

  fail-waits : is_waits turned ≡ true → Quiet (class s) layout a seat → Waits s.at t.at
  fail-waits waits quiet = waits-at s.at made.fits.at made.planned made.move made.follows.1 waits quiet

  -- ---- a turn that gives the frame's reservation back

  fail-leaves : aborts s ≡ true → 1 < class t
  fail-leaves gives = which s.at made.fits.at made.follows.1 gives
    where
      which : (x : FailAt) → FitsAt layout (view_of a seat) s.who s.frame s.required s.hardware x → FollowsAt s.who s.frame s.required (bare_at x) made.found made.got t.at turned → aborts_at x ≡ true → 1 < class_at t.at
      which (at.Claim c) has follows is = (left-of c has t.at follows).class (claim-leaves c made.found made.got is)
      which (at.Act cycle c) has follows is = absurd (both_ways true (sym is) refl)
      which (at.Over answer) has follows is = absurd (both_ways true (sym is) refl)

  -- ---- the claim

  module _ (cycle : ℕ) (c : Act) (frame_is : c.frame ≡ s.frame) where
    abbrev claim-at : ActAt → Option (Frame × ℕ)
    claim-at x = claim-on s.frame cycle (has_retired_at x)

    abbrev KeepsOn : Bool → Bool → Type 0
    KeepsOn old new = Keeps w now (claim-on s.frame cycle old) (claim-on s.frame cycle new)

    -- the frame isn't retired yet
    stays-on : (y : ActAt) → has_retired_at y ≡ false → KeepsOn false (has_retired_at y)
    stays-on y is = inr (inl (ap (claim-on s.frame cycle) (sym is)))

    retires : (x : Abandon) → x.frame ≡ c.frame → abandoned.FitsAt layout (view_of a seat) x abandon_at.Retire → Some (steps.Retire x.frame) ≡ Some made.step → Keeps w now (Some (s.frame, cycle)) None
    retires x same has e = drops-now w now None s.frame cycle (retired made s.frame made.fits.frame (ap (λ (f : Frame). Some (steps.Retire f)) (sym (same ∙ frame_is)) ∙ e)
        (record { frame = x.frame; owner = 0; handled = false; poisoned = true }) (same ∙ frame_is) refl (ap (λ (h : Hand). slice_get h.locks 0) has.hand_is) cycle)

    abandon-keeps : (x : Abandon) → IsAbandoning layout (view_of a seat) c.who c.page c.frame x → (z : AbandonAt) → abandoned.FitsAt layout (view_of a seat) x z → abandons.plan_at x.page x.frame x.count x.body z ≡ Some made.step → KeepsOn (is_retired_at z) (is_retired_at (abandons.next_at x.losses z))
    abandon-keeps x has abandon_at.SetCache fit e = inr (inl refl)
    abandon-keeps x has abandon_at.SetOwner fit e = inr (inl (ap (claim-on s.frame cycle) (sym (owner-on x.losses.file x.losses.endings))))
    abandon-keeps x has (abandon_at.Lose file) fit e = inr (inl (ap (claim-on s.frame cycle) (sym (kill-on x.losses.endings 0))))
    abandon-keeps x has (abandon_at.Kill number process) fit e = inr (inl (ap (claim-on s.frame cycle) (sym (kill-on x.losses.endings (number + 1)))))
    abandon-keeps x has abandon_at.PutRef fit e = inr (inl refl)
    abandon-keeps x has abandon_at.Retire fit e = retires x has.frame_is fit e
    abandon-keeps x has abandon_at.UnlockPage fit e = inl refl
    abandon-keeps x has abandon_at.Over fit e = inl refl

    act-keeps : (x y : ActAt) → acting.FitsAt layout (view_of a seat) c.who c.page c.frame x → acts.plan_at x ≡ Some made.step → acts.FollowsAt c.who c.page c.frame (acts.bare_at x) made.found y turned → is_refused turned ≡ false → Keeps w now (claim-at x) (claim-at y)
    act-keeps (act_at.Read r) y has e follows going = stays-on y (read-on c.who c.page c.frame follows.0.after y follows.0.next_is)
    act-keeps (act_at.Clear k losses failed body) y has e follows going = stays-on y (cleared-on c.who c.page c.frame k (record { body = body; losses = losses; failed = failed }) y follows.0)
    act-keeps (act_at.Abandon x) y has e follows going = subst (KeepsOn (is_retired_at x.at)) (sym (ap has_retired_at follows.0 ∙ left-retired (abandons.next (abandons.bare x)))) (abandon-keeps x has x.at has.abandon.at e)
    act-keeps (act_at.GiveUp g) y has e follows going = stays-on y (ap has_retired_at follows.0 ∙ gives-on g made.found e (sym (ap is_refused follows.1) ∙ going))
    act-keeps (act_at.Over failed) y has e follows going = absurd (none-some made.step e)

  module _ (frame : Frame) (cycle : ℕ) (going : is_refused turned ≡ false) (pending : Pending now frame cycle) where
    abbrev Owns : FailAt → FailAt → Type 0
    Owns x y = (claims_at s.frame y ≡ Some (frame, cycle)) ⊎ (Pending w frame cycle × (claims_at s.frame x ≢ Some (frame, cycle)))

    act-owns : (own : ℕ) (c : Act) → IsActing layout (view_of a seat) s.who s.frame s.required s.hardware own c → acts.plan c ≡ Some made.step → ActsOn own (acts.bare c) made.found t.at turned → Owns (at.Act own c) t.at
    act-owns own c has e on = subst (λ (o : Option (Frame × ℕ)). (o ≡ Some (frame, cycle)) ⊎ (Pending w frame cycle × (claims_at s.frame (at.Act own c) ≢ Some (frame, cycle)))) (sym (ap (claims_at s.frame) on.next_is ∙ act-claim s.frame own on.after))
        (owned-by w now (claims_at s.frame (at.Act own c)) (claim-on s.frame own (has_retired_at on.after.at)) frame cycle
        (act-keeps own c has.frame_is c.at on.after.at has.act.at e on.follows.1 going) (pending-kept made (act-mild c made.step e) frame cycle pending) pending)

    owns-at : (x : FailAt) → FitsAt layout (view_of a seat) s.who s.frame s.required s.hardware x → plan_at x ≡ Some made.step → Moves (put_at x) → FollowsAt s.who s.frame s.required (bare_at x) made.found made.got t.at turned → Owns x t.at
    owns-at (at.Claim c) has e move follows = elim (claim-ranked.owns layout seat a b c (next-claim c) (claims.turn (claims.bare c) made.found) frame cycle (claim-made c has e move) (sym (ap is_refused follows.1) ∙ going) pending) [
      | inl own ↦ inl ((left-of c has t.at follows).claim ∙ ap (λ (f : Frame). claims.claims_at f (next-claim c).at) (sym has.frame_is) ∙ own)
      | inr other ↦ inr other
    ]
    owns-at (at.Act own c) has e move follows = act-owns own c has e follows
    owns-at (at.Over answer) has e move follows = absurd (none-some made.step e)

    fail-owns : (claims_of t ≡ Some (frame, cycle)) ⊎ (Pending w frame cycle × (claims_of s ≢ Some (frame, cycle)))
    fail-owns = subst (λ (f : Frame). (claims_at f t.at ≡ Some (frame, cycle)) ⊎ (Pending w frame cycle × (claims_of s ≢ Some (frame, cycle)))) (sym (ap (λ (x : Fail). x.frame) made.follows.0)) (owns-at s.at made.fits.at made.planned made.move made.follows.1)

-- ---- classes and bounds

fail-class : (f : Fail) → (1 ≤ class f) × (class f ≤ 4)
fail-class f = which f.at
  where
    pressed : (n : ℕ) → (1 ≤ n) × (n ≤ 4) → (1 ≤ min n 3) × (min n 3 ≤ 4)
    pressed n has = (omega (arith, has.0), omega arith)

    which : (x : FailAt) → (1 ≤ class_at x) × (class_at x ≤ 4)
    which (at.Claim c) = claim-class c
    which (at.Act cycle c) = pressed (acts.class c) (act-ranked.classes c)
    which (at.Over answer) = (omega arith, omega arith)

pub fail-small : (f : Fail) (w : Words) → cost f w ≤ fail_most
fail-small f w = which f.at
  where
    which : (x : FailAt) → cost_at x w ≤ fail_most
    which (at.Claim c) = let few : claims.cost_with held_most c.at w ≤ held_most + claims.claim_most = claim-small held_most c.at w in omega (arith, few)
    which (at.Act cycle c) = let few : acts.cost c w ≤ acts.act_most = act-small w c in omega (arith, few)
    which (at.Over answer) = omega arith

pub fail-ranked : IsRanked fail-task
fail-ranked = record {
  classes = fail-class;
  small = λ layout a seat s rule fits. let few : cost s (words_at layout a) ≤ fail_most = fail-small s (words_at layout a) in omega (arith, few);
  falls = λ layout seat a b s t turn made goes. elim (fail-falls made goes) [
    | inl less ↦ inl less
    | inr fails ↦ inr (failed fails.0 (let few : cost t (words_at layout b) ≤ held_most + 12 = fails.1 in omega (arith, few)))
  ];
  waits = λ layout seat a b s t turn made is quiet. fail-waits made is quiet;
  leaves = λ layout seat a b s t turn made gives. inr (fail-leaves made gives);
  owns = λ layout seat a b s t turn frame cycle made going pending. fail-owns made frame cycle going pending;
}

-- none of its steps takes a frame's poison back
pub fail-lasting : (f : Fail) (step : Step) → plan f ≡ Some step → LeavesPoison step
fail-lasting f step is = which f.at is
  where
    which : (x : FailAt) → plan_at x ≡ Some step → LeavesPoison step
    which (at.Claim c) e = claim-lasting c step e
    which (at.Act cycle a) e = mild-leaves step (act-mild a step e)
    which (at.Over answer) e = absurd (none-some step e)
