use Rattle.std.proofs.Common.{◌≡◌, Some, sym, ◌∙◌}
use Rattle.hwp_check_evidence.specs.hwp_law.States.{entry_named}
use Rattle.hwp_check_causes.proofs.TellLaws.{caused-told, told-caused}
use Rattle.hwp_check_causes.proofs.telling.is_by_entry.Goals as goal

pub returns-in-Some : goal.returns-in-Some
returns-in-Some c =
    let named : entry_named c.args.answer.now ≡ Some c.in-Some.at = sym c.named_entry.ensures ∙ c.in-Some.is in (
      λ is. told-caused c.args.case.now.script c.args.case.now.report c.args.case.now.who c.args.case.now.command c.args.answer.now c.in-Some.at c.requires named (c.is_told_at.ensures.0 is),
      λ caused. c.is_told_at.ensures.1 (caused-told c.args.case.now.script c.args.case.now.report c.args.case.now.who c.args.case.now.command c.args.answer.now c.in-Some.at c.requires named caused),
    )
