use Rattle.std.proofs.Common.{◌≡◌, Bool, sym, ap, ◌∙◌}
use Rattle.hwp_claim.specs.Handlers.{at_end, failing, tell_on}
use Rattle.hwp_claim.specs.Queue.{Queue}
use Rattle.hwp_claim.specs.Told.{are_held_back, at_once}
use Rattle.hwp_claim.specs.declared.handler.HandlerAt.{HandlerAt}
use Rattle.hwp_claim.proofs.handler.tell_on.Goals as goal
use Rattle.hwp_claim.proofs.EventTells.{step_ends, step_fails}

-- the next event is a failure that takes place
fails : (c : goal.After-failing) → (c.loop-held.events, failing c.args.layout.now c.args.alloc c.args.who c.args.thread c.in-Some.held) ≡ tell_on c.args.layout.now c.args.alloc c.args.who c.args.thread c.args.stops c.args.events.now.left c.args.events.now.told
fails c =
    let held_back : c.are_held_back-held_back.result ≡ are_held_back c.args.stops c.loop-held.events.told = c.are_held_back-held_back.ensures ∙ ap (are_held_back c.args.stops) c.told.ensures in
    sym (step_fails c.args.layout.now c.args.alloc c.args.who c.args.thread c.args.stops c.loop-held.events.told c.loop-held.events.left c.in-Some.held (sym c.next.ensures ∙ c.in-Some.is)
    (ap (λ (b : Bool). at_once c.args.layout.now b c.in-Some.held) (sym held_back) ∙ sym c.at_once.ensures ∙ c.in_default-at_once.is)) ∙ c.loop-held.invariant

pub returns-in_default-at_once-clause-events : goal.returns-in_default-at_once-clause-events
returns-in_default-at_once-clause-events c = ap (λ (next : Queue × HandlerAt). next.0) (fails c)

pub returns-in_default-at_once-clause-at : goal.returns-in_default-at_once-clause-at
returns-in_default-at_once-clause-at c = c.failing.ensures ∙ ap (λ (next : Queue × HandlerAt). next.1) (fails c)

-- there is none
ends : (c : goal.After-at_end) → (c.loop-held.events, c.at_end.result) ≡ tell_on c.args.layout.now c.args.alloc c.args.who c.args.thread c.args.stops c.args.events.now.left c.args.events.now.told
ends c = ap (λ (x : HandlerAt). (c.loop-held.events, x)) (c.at_end.ensures ∙ ap at_end c.told-2.ensures)
    ∙ sym (step_ends c.args.layout.now c.args.alloc c.args.who c.args.thread c.args.stops c.loop-held.events.told c.loop-held.events.left (sym c.next.ensures ∙ c.in_default.is)) ∙ c.loop-held.invariant

pub returns-clause-events : goal.returns-clause-events
returns-clause-events c = ap (λ (next : Queue × HandlerAt). next.0) (ends c)

pub returns-clause-at : goal.returns-clause-at
returns-clause-at c = ap (λ (next : Queue × HandlerAt). next.1) (ends c)
