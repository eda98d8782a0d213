use Rattle.std.proofs.Common.{◌≡◌, drop}
use Rattle.hwp_claim.specs.Told.{first_signal}
use Rattle.hwp_claim.proofs.handler.Handler.signalled.Given as goal

abbrev pub invariant-loop-told : goal.invariant-loop-told
invariant-loop-told l = first_signal (drop l.told-index l.self.events.told) ≡ first_signal l.self.events.told
