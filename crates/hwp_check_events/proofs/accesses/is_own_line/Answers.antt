use Rattle.std.proofs.Common.{IsTrue, ap, ◌∙◌}
use Rattle.hwp_check_event_line.specs.Found.{beside}
use Rattle.hwp_check_events.proofs.OwnLaws.{own_is}
use Rattle.hwp_check_events.proofs.accesses.is_own_line.Goals as goal

pub returns-in-Some : goal.returns-in-Some
returns-in-Some c =
    own_is c.args.script.now c.args.report.now c.args.who c.args.how c.args.origin c.requires.access c.args.raw.now c.args.at c.candidate.ensures.small c.args.line.now c.candidate.result c.in-Some.frame
    c.own_found-own.result c.beside-beside.result c.has_stopper-held.result c.bank-bank.result (IsTrue c.is_line_of.result) c.candidate.ensures.found c.in-Some.is c.own_found-own.ensures (c.beside-beside.ensures ∙ ap (beside c.args.origin) c.get.ensures.held) c.has_stopper-held.ensures
    c.bank-bank.ensures.number c.is_line_of.ensures
