use Rattle.std.proofs.Common.{rules, IsTrue}
use Rattle.hwp_banks.specs.Status.{is_valid}
use Rattle.hwp_banks.proofs.Valid.{valid-stored}
use Rattle.hwp_banks.proofs.bank.Bank.log.Goals as goal

pub invariant_of-self : goal.invariant_of-self
invariant_of-self c =
    let new : IsTrue (is_valid c.args.event.status) = search rules in
    rw c.stored_of.ensures (valid-stored c.self.inside.held c.args.event c.self.invariant new)
