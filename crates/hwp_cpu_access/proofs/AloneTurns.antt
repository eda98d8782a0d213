-- The failure of the frame itself, the only event of its machine check: it poisons the frame, or finds it poisoned.
use Rattle.std.proofs.Common.{◌≡◌, inl, inr, ℕ, ◌+◌, ◌≤◌, ◌==◌, ◌&&◌, ◌||◌, Bool, true, false, cond, List, [], ◌∷◌, ◌++◌, Option, Some, None, length, slice_index, refl, sym, ap, ◌∙◌, subst, arith}
use Rattle.std.proofs.lemmas.Bool.{and_parts, both_ways, eq-eqb, eqb-false, eqb-true}
use Rattle.std.proofs.lemmas.Option.{none-some}
use Rattle.hwp_fault.specs.hwp_geom.declared.Frame.{Frame}
use Rattle.hwp_fault.specs.hwp_geom.declared.Layout.{Layout}
use Rattle.hwp_claim.specs.hwp_banks.Addresses.{frame_at}
use Rattle.hwp_fault.specs.hwp_words.Frames.{cycle_of, is_poisoned, poison_of}
use Rattle.hwp_fault.specs.hwp_core_rule.declared.State.{State}
use Rattle.hwp_fault.specs.hwp_core_rule.declared.Step.TheVariants as steps
use Rattle.hwp_fault.specs.hwp_core_rule.Words.{Words}
use Rattle.hwp_fault.specs.hwp_core_rule.declared.Turn.{Turn}
use Rattle.hwp_fault.specs.hwp_core_rule.Boards.{view_of}
use Rattle.hwp_fault.specs.hwp_core_rule.Ranks.{Made, is_waits, words_at}
use Rattle.hwp_fault.proofs.of_hwp_core_rule.tasks.StepRanks.{met, poison-fails}
use Rattle.hwp_fault.proofs.of_hwp_core.TaskCosts.{met-own}
use Rattle.hwp_fault.proofs.FaultCosts.{Lowered}
use Rattle.hwp_claim.specs.hwp_claim_frame.declared.claim.Claim.{Claim}
use Rattle.hwp_claim.specs.hwp_claim_frame.declared.claim.ClaimAt.{ClaimAt}
use Rattle.hwp_claim.specs.hwp_claim_frame.declared.claim.ClaimAt.TheVariants as claim_at
use Rattle.hwp_claim.specs.hwp_claim_frame.declared.ClaimAnswer.{ClaimAnswer}
use Rattle.hwp_claim.specs.hwp_claim_frame.Claims as frame_claims
use Rattle.hwp_claim.specs.hwp_claim_frame.Done.{marked_in}
use Rattle.hwp_claim.specs.declared.Fail.{Fail}
use Rattle.hwp_claim.specs.declared.fail.FailAt.{FailAt}
use Rattle.hwp_claim.specs.declared.fail.FailAt.TheVariants as fail_at
use Rattle.hwp_claim.specs.declared.FailAnswer.{FailAnswer}
use Rattle.hwp_claim.specs.declared.FailAnswer.TheVariants as fail_answers
use Rattle.hwp_claim.specs.Done.{marked_at}
use Rattle.hwp_claim.specs.Fails as fails
use Rattle.hwp_claim.specs.Injects.{recovers_at, recovers_in}
use Rattle.hwp_claim.specs.declared.Handler.{Handler}
use Rattle.hwp_claim.specs.declared.Held.{Held}
use Rattle.hwp_claim.specs.declared.EventOutcome.{EventOutcome}
use Rattle.hwp_claim.specs.declared.handler.HandlerAt.{HandlerAt}
use Rattle.hwp_claim.specs.declared.handler.HandlerAt.TheVariants as handler_at
use Rattle.hwp_claim.specs.Fits as handler_fits
use Rattle.hwp_claim.specs.Handlers as handlers
use Rattle.hwp_claim.specs.Queue.{Queue}
use Rattle.hwp_claim.specs.Told.{told_by}
use Rattle.hwp_cpu_access.specs.Costs.{cost, cost_at, ended_cost, is_alone, past_cost, word_of}
use Rattle.hwp_cpu_access.specs.Instructions.{after_handler, left_to_do, resumed}
use Rattle.hwp_cpu_access.specs.declared.instruction.Instruction.{Instruction}
use Rattle.hwp_cpu_access.proofs.FailureWords.{poison-left}

-- ---- the machine check of which this event is the only one

-- its failure has poisoned nothing yet
record IsAlone (frame : Frame) (q : Queue) (f : Fail) : Type 0 where
  untold : length q.told ≡ 0
  one : length q.left ≡ 1
  own : f.frame.0 ≡ frame.0
  unmarked : length (marked_at f.frame f.hardware f.at) ≡ 0

alone-parts : (frame : Frame) (q : Queue) (f : Fail) → is_alone frame q f ≡ true → IsAlone frame q f
alone-parts frame q f is =
    let all = and_parts ((length q.told == 0) && (length q.left == 1) && (f.frame.0 == frame.0)) (length (marked_at f.frame f.hardware f.at) == 0) is in
    let three = and_parts ((length q.told == 0) && (length q.left == 1)) (f.frame.0 == frame.0) all.0 in
    let two = and_parts (length q.told == 0) (length q.left == 1) three.0 in
    record { untold = eqb-true (length q.told) 0 two.0; one = eqb-true (length q.left) 1 two.1; own = eqb-true f.frame.0 frame.0 three.1; unmarked = eqb-true (length (marked_at f.frame f.hardware f.at)) 0 all.1 }

-- where its failure finds the frame poisoned, the end of that failure is awaited
already-cost : (layout : Layout) (i : Instruction) (h : Handler) (frame : Frame) (held : Held) (left : List Held) (told : List EventOutcome) (w : Words) → length left ≡ 0 → length told ≡ 0 → frame_at held.event.addr ≡ frame.0
    → cost (after_handler i frame (handlers.go_on layout (record h { events = record { told = told ++ told_by held fail_answers.Already ∷ []; left = left } }))) w ≡ 1 + ended_cost (word_of frame w)
already-cost layout i h frame held [] [] w none untold own = ap (λ (c : Bool). cost_at i.banks (resumed i.request (left_to_do None frame (c || false))) w) (eq-eqb (frame_at held.event.addr) frame.0 own)
already-cost layout i h frame held (x ∷ xs) told w some untold own = absurd (omega (arith, some))
already-cost layout i h frame held [] (t ∷ ts) w none some own = absurd (omega (arith, some))

-- ---- its failure's turn

module _ {layout : Layout} {seat : ℕ} {a b : State} {h g : Handler} {turn : Turn} (made : Made handler_fits.task layout seat a b h g turn) where
  abbrev w : Words
  w = words_at layout a

  abbrev now : Words
  now = words_at layout b

  -- it poisons its frame, or finds it poisoned
  record Poisons (f : Fail) (x y : FailAt) : Type 0 where
    hardware : Bool
    planned : Some (steps.Poison f.frame hardware) ≡ Some made.step
    goes : is_waits turn ≡ false
    some : 1 ≤ fails.cost_at x w
    already : is_poisoned made.found ≡ true → y ≡ fail_at.Over fail_answers.Already

  claim-poisons : (f : Fail) (c : Claim) (y : FailAt) (z : ClaimAt) → c.at ≡ z → c.frame ≡ f.frame → frame_claims.plan_at c.who c.frame c.hardware z ≡ Some made.step → recovers_in z ≡ true → length (marked_in f.frame f.hardware z) ≡ 0
      → fails.AfterClaim f.who f.frame f.required (frame_claims.next (frame_claims.bare c) made.found made.got) y → turn ≡ frame_claims.turn (frame_claims.bare c) made.found → Poisons f (fail_at.Claim c) y
  claim-poisons f c y claim_at.Poison is own e recovers none follows turn_is = record {
    hardware = c.hardware;
    planned = ap (λ (x : Frame). Some (steps.Poison x c.hardware)) (sym own) ∙ e;
    goes = ap is_waits (turn_is ∙ ap (λ (x : ClaimAt). frame_claims.turn_at (frame_claims.bare_at x) made.found) is);
    some = let one : frame_claims.cost_with fails.held_most c.at w ≡ 1 = ap (λ (x : ClaimAt). frame_claims.cost_with fails.held_most x w) is in omega (arith, one);
    already = λ poisoned. subst (λ (o : Option ClaimAnswer). fails.AfterClaimBy f.who f.frame f.required (frame_claims.next (frame_claims.bare c) made.found made.got) o y)
        (ap (λ (x : ClaimAt). frame_claims.answer_at (frame_claims.next_at c.who c.frame (frame_claims.bare_at x) made.found made.got)) is ∙ ap (λ (p : Bool). frame_claims.answer_at (cond p claim_at.Already (claim_at.Count (cycle_of made.found)))) poisoned)
        follows;
  }
  claim-poisons f c y claim_at.Stop is own e recovers none follows turn_is = absurd (both_ways false refl recovers)
  claim-poisons f c y claim_at.GaveUp is own e recovers none follows turn_is = absurd (both_ways false refl recovers)
  claim-poisons f c y claim_at.Stopped is own e recovers none follows turn_is = absurd (both_ways false refl recovers)
  claim-poisons f c y claim_at.Already is own e recovers none follows turn_is = absurd (none-some made.step e)
  claim-poisons f c y (claim_at.Count cycle) is own e recovers none follows turn_is = absurd (omega (arith, none))
  claim-poisons f c y (claim_at.Look cycle) is own e recovers none follows turn_is = absurd (omega (arith, none))
  claim-poisons f c y (claim_at.Grab cycle m) is own e recovers none follows turn_is = absurd (omega (arith, none))
  claim-poisons f c y (claim_at.Meet cycle m) is own e recovers none follows turn_is = absurd (omega (arith, none))
  claim-poisons f c y (claim_at.Unlock cycle u) is own e recovers none follows turn_is = absurd (omega (arith, none))
  claim-poisons f c y (claim_at.Retire cycle) is own e recovers none follows turn_is = absurd (omega (arith, none))
  claim-poisons f c y (claim_at.Free cycle) is own e recovers none follows turn_is = absurd (omega (arith, none))
  claim-poisons f c y (claim_at.Kernel cycle) is own e recovers none follows turn_is = absurd (omega (arith, none))
  claim-poisons f c y (claim_at.Owned cycle page body) is own e recovers none follows turn_is = absurd (omega (arith, none))

  fail-poisons : (f : Fail) (y : FailAt) (x : FailAt) → fails.plan_at x ≡ Some made.step → recovers_at x ≡ true → length (marked_at f.frame f.hardware x) ≡ 0 → fails.FitsAt layout (view_of a seat) f.who f.frame f.required f.hardware x
      → fails.FollowsAt f.who f.frame f.required (fails.bare_at x) made.found made.got y turn → Poisons f x y
  fail-poisons f y (fail_at.Claim c) e recovers none has follows = claim-poisons f c y c.at refl has.frame_is e recovers none follows.0 follows.1
  fail-poisons f y (fail_at.Act cycle act) e recovers some has follows = absurd (omega (arith, some))
  fail-poisons f y (fail_at.Over answer) e recovers none has follows = absurd (none-some made.step e)

  -- the machine check goes on with what its failure came to
  ends : (i : Instruction) (frame : Frame) (next : Fail) (held : Held) (l : List Held) → length l ≡ 1 → (rest : List Held) → l ≡ held ∷ rest → length h.events.told ≡ 0 → frame_at held.event.addr ≡ frame.0 → next.at ≡ fail_at.Over fail_answers.Already
      → h.events.left ≡ l → cost (after_handler i frame (handlers.after_fail layout (handlers.bare h) next)) now ≡ 1 + ended_cost (word_of frame now)
  ends i frame next held l one rest is untold own over left =
      ap (λ (o : Option FailAnswer). cost (after_handler i frame (handlers.after_fail_by layout (record (handlers.bare h) { at = handler_at.Fail next }) o)) now) (ap fails.answer_at over)
      ∙ ap (λ (m : List Held). cost (after_handler i frame (handlers.ended_by layout (record (handlers.bare h) { at = handler_at.Fail next }) fail_answers.Already m)) now) (left ∙ is)
      ∙ already-cost layout i (record (handlers.bare h) { at = handler_at.Fail next }) frame held rest h.events.told now (let all : length l ≡ length (held ∷ rest) = ap (λ (m : List Held). length m) is in omega (arith, one, all)) untold own

  module _ (frame : Frame) (f : Fail) (at_is : h.at ≡ handler_at.Fail f) (alone : is_alone frame h.events f ≡ true) where
    parts : IsAlone frame h.events f
    parts = alone-parts frame h.events f alone

    has : handler_fits.IsFailing layout (view_of a seat) h.who h.thread h.stops h.events f
    has = subst (handler_fits.FitsAt layout (view_of a seat) h.who h.thread h.stops h.events) at_is made.fits.at

    on : handlers.FailsOn layout (handlers.bare h) (fails.bare f) made.found made.got g turn
    on = subst (λ (x : HandlerAt). handlers.FollowsAt layout (handlers.bare h) (handlers.bare_at x) made.found made.got g turn) at_is made.follows

    poisons : Poisons f f.at on.fail.at
    poisons = fail-poisons f on.fail.at f.at (ap (handlers.plan_at h.who) (sym at_is) ∙ made.planned) has.recovers parts.unmarked has.fail.at on.follows.1

    total : handlers.cost h w ≡ fails.cost f w + 1
    total = ap (λ (x : HandlerAt). handlers.cost_with (length h.events.left) x w) at_is ∙ ap (λ (n : ℕ). fails.cost f w + n) parts.one

    -- its frame's word is the one that is met
    found_is : word_of frame w ≡ made.found
    found_is = ap (λ (n : ℕ). slice_index w.frames n) (sym parts.own) ∙ met-own w made.found poisons.planned (met made)

    pub alone-goes : (i t : Instruction) → t ≡ after_handler i frame g → Lowered turn layout a b (cost t now) (handlers.cost h w + past_cost (word_of frame w))
    alone-goes i t next = which (is_poisoned made.found) refl
      where
        which : (c : Bool) → is_poisoned made.found ≡ c → Lowered turn layout a b (cost t now) (handlers.cost h w + past_cost (word_of frame w))
        which true is =
            let waits : cost t now ≡ 1 + ended_cost (word_of frame now) = ap (λ (z : Instruction). cost z now) (next ∙ ap (after_handler i frame) on.next_is)
            ∙ ends i frame on.fail has.held h.events.left parts.one has.rest has.next_is parts.untold (ap (λ (x : Frame). x.0) (sym has.frame_is) ∙ parts.own) (poisons.already is) refl in
            let kept : ended_cost (word_of frame now) ≡ ended_cost (word_of frame w) = poison-left made frame f.frame poisons.hardware poisons.planned is in
            let paid : past_cost (word_of frame w) ≡ ended_cost (word_of frame w) = ap (λ (p : Bool). cond p (ended_cost (word_of frame w)) 0) (ap is_poisoned found_is ∙ is) in
            let some : 1 ≤ fails.cost f w = poisons.some in
            inl (omega (arith, waits, kept, paid, some, total))
        which false is = inr (poisons.goes, poison-fails made f.frame poisons.hardware poisons.planned (let other = eqb-false (poison_of made.found) 1 is in omega (arith, other)))
