-- What an instruction costs: it is little, and what follows a machine check costs no more than an access that begins again.
use Rattle.std.proofs.Common.{◌≡◌, ◌+◌, ◌&&◌, ◌<◌, ◌≤◌, Bool, true, false, cond, List, ◌++◌, Option, Some, None, is_some, length, map, refl, sym, ap, ◌∙◌, arith}
use Rattle.std.specs.List.{list_any}
use Rattle.std.proofs.lemmas.List.{length-append}
use Rattle.hwp_fault.specs.hwp_geom.declared.Frame.{Frame}
use Rattle.hwp_fault.specs.hwp_geom.declared.Layout.{Layout}
use Rattle.hwp_claim.specs.hwp_banks.declared.Event.{Event}
use Rattle.hwp_claim.specs.hwp_banks.Events.{bank_count}
use Rattle.hwp_fault.specs.hwp_page.declared.At.{At}
use Rattle.hwp_fault.specs.hwp_core_rule.declared.Made.{Made}
use Rattle.hwp_fault.specs.hwp_core_rule.declared.State.{State}
use Rattle.hwp_fault.specs.hwp_core_rule.declared.View.{View}
use Rattle.hwp_fault.specs.hwp_core_rule.Rule.{Holds}
use Rattle.hwp_fault.specs.hwp_core_rule.Words.{Words, free_words}
use Rattle.hwp_fault.proofs.of_hwp_core_rule.MoveKeeps.{shaped}
use Rattle.hwp_fault.specs.hwp_core_rule.Ranks.{words_at, access_most, again_most, failure_weight, free_room}
use Rattle.hwp_fault.specs.declared.AccessAnswer.TheVariants as access_answers
use Rattle.hwp_fault.specs.declared.access.AccessAt.{AccessAt}
use Rattle.hwp_fault.specs.declared.access.AccessAt.TheVariants as access_at
use Rattle.hwp_fault.specs.Accesses as accesses
use Rattle.hwp_fault.specs.Faults as faults
use Rattle.hwp_fault.specs.hwp_geom.Limits.{frame_limit}
use Rattle.hwp_fault.proofs.AccessCosts.{access-small, again-few}
use Rattle.hwp_claim.specs.Fails as fails
use Rattle.hwp_claim.proofs.FailRank.{fail-small}
use Rattle.hwp_claim.specs.hwp_banks.Banks.{Banks, empty_banks}
use Rattle.hwp_claim.specs.declared.Handler.{Handler}
use Rattle.hwp_claim.specs.declared.EventOutcome.{EventOutcome}
use Rattle.hwp_claim.specs.declared.handler.HandlerAt.{HandlerAt}
use Rattle.hwp_claim.specs.declared.handler.HandlerAt.TheVariants as handler_at
use Rattle.hwp_claim.specs.Fits.{events_of}
use Rattle.hwp_claim.specs.Handlers as handlers
use Rattle.hwp_claim.specs.Queue.{Queue}
use Rattle.hwp_claim.specs.Told.{first_signal, has_kept, was_poisoned}
use Rattle.hwp_claim.specs.Checks.{Check}
use Rattle.hwp_cpu_access.specs.Costs.{aborts, aborts_at, anew, anew_after_wait, check_cost, claims, claims_at, cost, cost_at, ended_cost, held_cost, is_alone, past_cost, paused_cost, rest_at, word_of}
use Rattle.hwp_cpu_access.specs.Fits.{FitsAt, FitsBehind}
use Rattle.hwp_cpu_access.specs.Instructions.{after_check, after_handler, after_handler_by, going_on, left_to_do, resumed}
use Rattle.hwp_cpu_access.specs.declared.instruction.Instruction.{Instruction}
use Rattle.hwp_cpu_access.specs.declared.instruction.InstructionAnswer.TheVariants as answers
use Rattle.hwp_cpu_access.specs.declared.instruction.InstructionAt.{InstructionAt}
use Rattle.hwp_cpu_access.specs.declared.instruction.InstructionAt.TheVariants as at
use Rattle.hwp_cpu_access.specs.declared.instruction.Pause.{Pause}
use Rattle.hwp_cpu_access.specs.declared.instruction.Pause.TheVariants as pauses
use Rattle.hwp_cpu_access.proofs.FailureWords.{ended-most, past-most}

-- the words of free frames of a board
pub few-frees : (layout : Layout) (s : State) → Holds layout s → length (words_at layout s).frees ≤ free_room
few-frees layout s h =
    let all : length (words_at layout s).frees ≡ free_words layout = (shaped layout s h).frees in
    let few : layout.frames ≤ frame_limit = h.sound.frames in
    omega arith

-- ---- costs are small

pub held-most : (banks : Banks) → held_cost banks ≤ paused_cost
held-most banks = which (list_any (λ (b : Option Event). is_some b) banks)
  where
    which : (b : Bool) → cond b paused_cost 0 ≤ paused_cost
    which true = omega arith
    which false = omega arith

check-most : (x : AccessAt) (w : Words) → check_cost x w ≤ 5 + anew
check-most access_at.LoadStop w = omega arith
check-most access_at.LoadProcess w = omega arith
check-most access_at.LoadTranslation w = omega arith
check-most (access_at.Pin p) w = omega arith
check-most (access_at.LockFrame frame) w = omega arith
check-most (access_at.LoadAgain frame body) w = omega arith
check-most (access_at.LoadBad frame body) w = let most : past_cost (word_of frame w) ≤ anew = past-most (word_of frame w) in omega (arith, most)
check-most (access_at.Unlock u (Some (access_answers.Checked frame place))) w = let most : past_cost (word_of frame w) ≤ anew = past-most (word_of frame w) in omega (arith, most)
check-most (access_at.Unlock u (Some (access_answers.Value word place))) w = omega arith
check-most (access_at.Unlock u (Some (access_answers.Stored place))) w = omega arith
check-most (access_at.Unlock u (Some (access_answers.Sigbus place))) w = omega arith
check-most (access_at.Unlock u (Some access_answers.NoFrame)) w = omega arith
check-most (access_at.Unlock u (Some (access_answers.Gone page))) w = omega arith
check-most (access_at.Unlock u (Some access_answers.Stopped)) w = omega arith
check-most (access_at.Unlock u None) w = omega arith
check-most (access_at.Fault f) w = omega arith
check-most (access_at.GiveUp g) w = omega arith
check-most (access_at.Over (access_answers.Checked frame place)) w = let most : past_cost (word_of frame w) ≤ anew = past-most (word_of frame w) in omega (arith, most)
check-most (access_at.Over (access_answers.Value word place)) w = omega arith
check-most (access_at.Over (access_answers.Stored place)) w = omega arith
check-most (access_at.Over (access_answers.Sigbus place)) w = omega arith
check-most (access_at.Over access_answers.NoFrame) w = omega arith
check-most (access_at.Over (access_answers.Gone page)) w = omega arith
check-most (access_at.Over access_answers.Stopped) w = omega arith

pub rest-most : (frame : Frame) (q : Queue) (x : HandlerAt) (w : Words) → rest_at frame q x w ≤ paused_cost
rest-most frame q handler_at.Stop w = omega arith
rest-most frame q handler_at.GaveUp w = omega arith
rest-most frame q (handler_at.Over stopped) w = omega arith
rest-most frame q (handler_at.Fail f) w = which (is_alone frame q f)
  where
    which : (b : Bool) → cond b (past_cost (word_of frame w)) paused_cost ≤ paused_cost
    which true = let most : past_cost (word_of frame w) ≤ anew = past-most (word_of frame w) in omega (arith, most)
    which false = omega arith

handler-few : (h : Handler) (w : Words) → length h.events.left ≤ bank_count → handlers.cost h w ≤ handlers.handler_most
handler-few h w few = which h.at
  where
    which : (x : HandlerAt) → handlers.cost_with (length h.events.left) x w ≤ handlers.handler_most
    which handler_at.Stop = omega arith
    which (handler_at.Fail f) = let small : fails.cost f w ≤ fails.fail_most = fail-small f w in omega (arith, few, small)
    which handler_at.GaveUp = omega arith
    which (handler_at.Over stopped) = omega arith

pub left-few : (h : Handler) → length (events_of h.events) ≤ bank_count → length h.events.left ≤ bank_count
left-few h few = let all : length (events_of h.events) ≡ length (map (λ (t : EventOutcome). t.held) h.events.told) + length h.events.left = length-append (map (λ (t : EventOutcome). t.held) h.events.told) h.events.left in omega (arith, all, few)

-- an instruction costs less than the weight of a failure
pub instruction-below : {past : List Made} {earlier : List Check} (layout : Layout) (a : State) (view : View) (i : Instruction) → Holds layout a → FitsBehind past earlier layout view i → cost i (words_at layout a) < failure_weight
instruction-below {past} {earlier} layout a view i rule fits = which i.at fits.at
  where
    w : Words
    w = words_at layout a

    which : (x : InstructionAt) → FitsAt past layout view i (earlier ++ fits.checks) x → cost_at i.banks x w < failure_weight
    which (at.Access b) has = let one : accesses.cost b w ≤ access_most = access-small w b (few-frees layout a rule) in let two : held_cost i.banks ≤ paused_cost = held-most i.banks in let three : check_cost b.at w ≤ 5 + anew = check-most b.at w in omega (arith, one, two, three)
    which (at.Handle frame h) has = let one : handlers.cost h w ≤ handlers.handler_most = handler-few h w (left-few h has.has.handler.found.few) in let two : rest_at frame h.events h.at w ≤ paused_cost = rest-most frame h.events h.at w in omega (arith, one, two)
    which (at.LoadFrame frame) has = let most : ended_cost (word_of frame w) ≤ anew = ended-most (word_of frame w) in omega (arith, most)
    which (at.LoadStop frame) has = let most : ended_cost (word_of frame w) ≤ anew = ended-most (word_of frame w) in omega (arith, most)
    which at.GiveUp has = omega arith
    which (at.Paused pause) has = omega arith
    which (at.Over answer) has = omega arith

-- ---- what follows a machine check

pub again-cost : (i : Instruction) (w : Words) → length w.frees ≤ free_room → accesses.cost (accesses.again i.request) w ≤ again_most + 1
again-cost i w few = let most : faults.again i.request.slot w ≤ again_most = again-few i.request.slot w few in omega (arith, most)

-- where it didn't stop the machine, with empty banks
check-cost-after : (i : Instruction) (frame : Frame) (h : Handler) (w : Words) → i.banks ≡ empty_banks → length w.frees ≤ free_room → cost_at i.banks (after_check i frame h) w ≤ paused_cost
check-cost-after i frame h w none few = which (first_signal h.events.told) (has_kept h.events.told && i.collects) (was_poisoned frame h.events.told)
  where
    which : (o : Option At) (kept b : Bool) → cost_at i.banks (going_on i.request kept (left_to_do o frame b)) w ≤ paused_cost
    which o true b = omega arith
    which (Some place) false b = omega arith
    which None false true = let most : ended_cost (word_of frame w) ≤ anew = ended-most (word_of frame w) in omega (arith, most)
    which None false false =
        let most : accesses.cost (accesses.again i.request) w ≤ again_most + 1 = again-cost i w few in
        let bare_is : held_cost i.banks ≡ 0 = ap held_cost none in
        omega (arith, most, bare_is)

pub after-cost : (i : Instruction) (frame : Frame) (h : Handler) (w : Words) → i.banks ≡ empty_banks → length w.frees ≤ free_room → cost (after_handler i frame h) w ≤ handlers.cost h w + paused_cost
after-cost i frame h w none few = which h.at refl
  where
    going : cost (record i { at = at.Handle frame h }) w ≤ handlers.cost h w + paused_cost
    going = let most : rest_at frame h.events h.at w ≤ paused_cost = rest-most frame h.events h.at w in omega (arith, most)

    which : (x : HandlerAt) → h.at ≡ x → cost (after_handler_by i frame h (handlers.answer_at x)) w ≤ handlers.cost h w + paused_cost
    which handler_at.Stop is = going
    which (handler_at.Fail f) is = going
    which handler_at.GaveUp is = going
    which (handler_at.Over true) is = omega arith
    which (handler_at.Over false) is = let most : cost_at i.banks (after_check i frame h) w ≤ paused_cost = check-cost-after i frame h w none few in omega (arith, most)

-- what it claims and gives up is what the machine check does
pub after-same : (i : Instruction) (frame : Frame) (h : Handler) → (claims (after_handler i frame h) ≡ handlers.claims h) × (aborts (after_handler i frame h) ≡ handlers.aborts h)
after-same i frame h = which h.at refl
  where
    free : (stopped : Bool) (o : Option At) (kept b : Bool) → (claims_at (cond stopped (at.Over (Some answers.Stopped)) (going_on i.request kept (left_to_do o frame b))) ≡ None)
        × (aborts_at (cond stopped (at.Over (Some answers.Stopped)) (going_on i.request kept (left_to_do o frame b))) ≡ false)
    free true o kept b = (refl, refl)
    free false o true b = (refl, refl)
    free false (Some place) false b = (refl, refl)
    free false None false true = (refl, refl)
    free false None false false = (refl, refl)

    which : (x : HandlerAt) → h.at ≡ x → (claims (after_handler_by i frame h (handlers.answer_at x)) ≡ handlers.claims h) × (aborts (after_handler_by i frame h (handlers.answer_at x)) ≡ handlers.aborts h)
    which handler_at.Stop is = (refl, refl)
    which (handler_at.Fail f) is = (refl, refl)
    which handler_at.GaveUp is = (refl, refl)
    which (handler_at.Over stopped) is = let free = free stopped (first_signal h.events.told) (has_kept h.events.told && i.collects) (was_poisoned frame h.events.told) in (free.0 ∙ sym (ap handlers.claims_at is), free.1 ∙ sym (ap handlers.aborts_at is))

-- an instruction behind its pause costs no more than the pause, less what is for the frames taken out of use
pub resumed-cost : (i : Instruction) (p : Pause) (w : Words) → i.banks ≡ empty_banks → length w.frees ≤ free_room → cost (record i { at = resumed i.request p }) w ≤ anew_after_wait
resumed-cost i (pauses.Sigbus place) w none few = omega arith
resumed-cost i (pauses.Wait frame) w none few = let most : ended_cost (word_of frame w) ≤ anew = ended-most (word_of frame w) in omega (arith, most)
resumed-cost i pauses.Again w none few =
    let most : accesses.cost (accesses.again i.request) w ≤ again_most + 1 = again-cost i w few in
    let bare_is : held_cost i.banks ≡ 0 = ap held_cost none in
    omega (arith, most, bare_is)
