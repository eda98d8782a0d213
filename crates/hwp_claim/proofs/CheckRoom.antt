-- There is room for what a machine check tells: its events are no more than there are banks.
use Rattle.std.proofs.Common.{◌≡◌, ℕ, ◌+◌, ◌≤◌, Option, length, map, ap, arith}
use Rattle.std.proofs.lemmas.List.{length-append, length-map}
use Rattle.hwp_banks.specs.Events.{bank_count}
use Rattle.hwp_claim_frame.specs.hwp_page.History.{BodyValue}
use Rattle.hwp_claim.specs.Fits.{AreFound, events_of}
use Rattle.hwp_claim.specs.Handlers.{Shows, ShowsWithin, bare}
use Rattle.hwp_claim.specs.Queue.{Queue}
use Rattle.hwp_claim.specs.declared.handler.Handler.{Handler}
use Rattle.hwp_claim.specs.declared.told.EventOutcome.{EventOutcome}
use Rattle.hwp_claim.proofs.EventTells.{kept}

told-few : (q : Queue) → length (events_of q) ≤ bank_count → length q.told ≤ bank_count
told-few q few =
    let parts : length (events_of q) ≡ length (map (λ (t : EventOutcome). t.held) q.told) + length q.left = length-append (map (λ (t : EventOutcome). t.held) q.told) q.left in
    let lines : length (map (λ (t : EventOutcome). t.held) q.told) ≡ length q.told = length-map q.told (λ (t : EventOutcome). t.held) in
    omega (arith, few, parts, lines)

-- where there is room for as many, each step has room for what it tells
pub shows-within : (h : Handler) (room found : ℕ) (got : Option BodyValue) → AreFound h.stops (events_of h.events) → bank_count ≤ room → Shows (bare h) found got → ShowsWithin room (bare h) found got
shows-within h room found got are enough shown = record {
  shown = shown;
  few = λ layout after turn follows.
      let same : length (events_of after.events) ≡ length (events_of h.events) = ap length (kept layout (bare h) found got after turn follows).events in
      let few : length (events_of h.events) ≤ bank_count = are.few in
      let told : length after.events.told ≤ bank_count = told-few after.events (omega (arith, same, few)) in
      omega (arith, told, enough);
}
