use Rattle.std.proofs.Common.{sym, ◌∙◌}
use Rattle.hwp_cpu_row.specs.Locals.{collects}
use Rattle.hwp_cpu_command.proofs.AccessBegins.{access-begins, access-declared}
use Rattle.hwp_cpu_command.proofs.job.Job.begin_own.Goals as goal

pub access-requires-clause-of : goal.access-requires-clause-of
access-requires-clause-of c = (access-declared c.args.layout.now c.args.who.cpu.0 c.args.command c.in-Some-access_in.at (sym c.access_in.ensures ∙ c.in-Some-access_in.is) c.requires.of).0

pub access-requires-clause-line : goal.access-requires-clause-line
access-requires-clause-line c = (access-declared c.args.layout.now c.args.who.cpu.0 c.args.command c.in-Some-access_in.at (sym c.access_in.ensures ∙ c.in-Some-access_in.is) c.requires.of).1

pub returns-in-Some-access_in-clause-begins : goal.returns-in-Some-access_in-clause-begins
returns-in-Some-access_in-clause-begins c = rw c.in-None.is (access-begins c.args.layout.now c.args.who c.args.command c.in-Some-access_in.at c.args.local.now.banks _ (sym c.access_in.ensures ∙ c.in-Some-access_in.is) c.collects-collects.ensures c.access.ensures.begins)

pub returns-in-None-access_in-clause-begins : goal.returns-in-None-access_in-clause-begins
returns-in-None-access_in-clause-begins c = rw c.in-None.is (c.begin_other.ensures.begins (collects c.args.local.now.watching))
