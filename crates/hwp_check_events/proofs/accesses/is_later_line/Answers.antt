use Rattle.std.proofs.Common.{◌≡◌, rules, arith, IsTrue}
use Rattle.hwp_check_event_line.specs.Firsts.{shown_lines}
use Rattle.hwp_check_events.specs.Met.{access_by}
use Rattle.hwp_check_event_line.specs.Accesses.{asked_by_access}
use Rattle.hwp_check_events.proofs.AskedLaws.{later-is}
use Rattle.hwp_check_events.proofs.accesses.is_later_line.Goals as goal

pub returns : goal.returns
returns c =
    let told : c.asked_by_access.result ≡ asked_by_access (access_by c.args.checks.now c.args.copied.now c.args.raw) = c.asked_by_access.ensures in
    later-is c.args.script.now c.args.report.now c.args.who c.args.how c.args.checks.now c.args.copied.now c.args.raw c.requires.access (shown_lines c.args.lines.now) c.args.number c.args.line.now
    c.beside-beside.result c.beside-beside.ensures _ c.met_at-at.result c.met_at-at.ensures _ (IsTrue c.is_own_line.result) c.is_own_line.ensures c.requires.later (omega (arith, told)) (search rules) (search rules) (search rules)
