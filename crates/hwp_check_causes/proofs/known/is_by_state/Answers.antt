use Rattle.std.proofs.Common.{sym, ◌∙◌}
use Rattle.hwp_check_causes.proofs.AskLaws.{caused-asked}
use Rattle.hwp_check_causes.proofs.AskedLaws.{asked_caused, names_none}
use Rattle.hwp_check_causes.proofs.known.is_by_state.Goals as goal

pub returns-in-Some : goal.returns-in-Some
returns-in-Some c = (
  λ t. asked_caused c.args.case.now.script c.args.case.now.report c.args.case.now.who c.args.case.now.command c.args.answer.now c.in-Some.at c.requires (sym c.named_state.ensures ∙ c.in-Some.is) (c.was_asked.ensures.0 t),
  λ caused. c.was_asked.ensures.1 (caused-asked c.args.case.now.script c.args.case.now.report c.args.case.now.who c.args.case.now.command c.args.answer.now c.in-Some.at c.requires (sym c.named_state.ensures ∙ c.in-Some.is) caused),
)

pub returns-in-None : goal.returns-in-None
returns-in-None c = absurd (names_none c.args.answer.now c.requires (sym c.named_state.ensures ∙ c.in-None.is))
