use Rattle.std.proofs.Common.{◌≡◌, ◌≤◌, ◌+◌, drop, length}
use Rattle.hwp_check_events.specs.Copied.{own_whats}
use Rattle.hwp_check_events.proofs.copied.own_count.Given as goal

abbrev pub invariant-loop-entry : goal.invariant-loop-entry
invariant-loop-entry l = (l.own ≤ l.entry-index) × (l.own + length (own_whats l.fn.who (drop l.entry-index l.fn.entries)) ≡ length (own_whats l.fn.who l.fn.entries))
