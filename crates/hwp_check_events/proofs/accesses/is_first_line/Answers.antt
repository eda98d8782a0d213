use Rattle.std.proofs.Common.{ℕ, IsTrue}
use Rattle.hwp_check_event_line.specs.Accesses.{IsOwnLine}
use Rattle.hwp_check_events.proofs.AskedLaws.{first-is, none-first}
use Rattle.hwp_check_events.proofs.accesses.is_first_line.Goals as goal

pub returns-then-checks-eq0-clause-first : goal.returns-then-checks-eq0-clause-first
returns-then-checks-eq0-clause-first c = none-first c.args.checks.now c.args.copied.now c.args.raw.now c.requires.within _ c.if-checks-eq0.true

pub returns-clause-first : goal.returns-clause-first
returns-clause-first c =
    first-is c.args.checks.now c.args.copied.now c.args.raw.now c.requires.within (λ (at : ℕ). IsOwnLine c.args.script.now c.args.report.now c.args.who c.args.how c.args.checks.now.origin at c.args.raw.now c.args.line.now)
    c.met_at-at.result (IsTrue c.is_own_line.result) c.if-checks-eq0.false c.met_at-at.ensures c.is_own_line.ensures
