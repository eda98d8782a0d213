use Rattle.std.proofs.Common.{subst}
use Rattle.hwp_fork.specs.declared.cow.CowAt.TheVariants as at
use Rattle.hwp_fork.specs.Cows.{HasToldAt}
use Rattle.hwp_fork.proofs.SubLaws.{due-load, due-store, due-switched}
use Rattle.hwp_fork.proofs.cow.Cow.next.Goals as goal

pub returns-in-Load-clause-due : goal.returns-in-Load-clause-due
returns-in-Load-clause-due c = λ told has.
    let so : HasToldAt told (at.Load c.in-Load.line) = subst (HasToldAt told) c.in-Load.is has in
    due-load c.args.self.now told c.in-Load.line so.0 so.1

pub returns-in-Store-clause-due : goal.returns-in-Store-clause-due
returns-in-Store-clause-due c = λ told has.
    let so : HasToldAt told (at.Store c.in-Store.line c.in-Store.word) = subst (HasToldAt told) c.in-Store.is has in
    due-store c.args.self.now told c.in-Store.line c.in-Store.word so.0 so.1 so.2

pub returns-in-Switched-clause-due : goal.returns-in-Switched-clause-due
returns-in-Switched-clause-due c = λ told has. due-switched c.args.self.now told (subst (HasToldAt told) c.in-Switched.is has)
