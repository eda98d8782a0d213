use Rattle.std.proofs.Common.{ℕ, List, fold, sym, ◌∙◌}
use Rattle.std.proofs.lemmas.List.{at_drop_more}
use Rattle.hwp_law.specs.hwp_kill.declared.Signal.{Signal}
use Rattle.hwp_check_evidence.specs.Ends.{signalled}
use Rattle.hwp_check_evidence.proofs.ends.signal_all.Goals as goal

pub loop-sent-preserved : goal.loop-sent-preserved
loop-sent-preserved c =
    rw c.signal.ensures (
    sym (at_drop_more (fold (λ (e : List ℕ) (s : Signal). signalled c.args.layout.now c.args.number e s.thread) c.loop-sent.ends.items) c.args.signals.now c.loop-sent.sent-index _ c.loop-sent-test.true)
    ∙ c.loop-sent.invariant
    )
