use Rattle.std.proofs.Common.{◌≡◌}
use Rattle.hwp_script.specs.Machine.{first, trans_decl}
use Rattle.hwp_script.proofs.machine.translations.Given as goal

abbrev pub invariant-loop-slot : goal.invariant-loop-slot
invariant-loop-slot l = l.trans ≡ first trans_decl l.slot
