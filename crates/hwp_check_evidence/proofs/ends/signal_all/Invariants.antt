use Rattle.std.proofs.Common.{◌≡◌, ℕ, List, drop, fold}
use Rattle.hwp_law.specs.hwp_kill.declared.Signal.{Signal}
use Rattle.hwp_check_evidence.specs.Ends.{signalled}
use Rattle.hwp_check_evidence.proofs.ends.signal_all.Given as goal

abbrev pub invariant-loop-sent : goal.invariant-loop-sent
invariant-loop-sent l =
    fold (λ (e : List ℕ) (s : Signal). signalled l.fn.layout l.fn.number e s.thread) l.ends.items (drop l.sent-index l.fn.signals) ≡ fold (λ (e : List ℕ) (s : Signal). signalled l.fn.layout l.fn.number e s.thread) l.fn.ends.items l.fn.signals
