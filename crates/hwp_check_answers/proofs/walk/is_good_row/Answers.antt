use Rattle.std.proofs.Common.{MatchBool, sym, subst}
use Rattle.hwp_check_evidence.specs.hwp_report_text.declared.CpuLine.{CpuLine}
use Rattle.hwp_check_answers.specs.Walk.{IsBadLine, IsGoodLine}
use Rattle.hwp_check_answers.proofs.walk.is_good_row.Goals as goal

pub returns-in-Answer : goal.returns-in-Answer
returns-in-Answer c =
    subst (λ (l : CpuLine). MatchBool c.is_good_answer.result (IsGoodLine c.args.processor.now c.args.number l) (IsBadLine c.args.processor.now c.args.number l)) (sym c.in-Answer.is) c.is_good_answer.ensures

pub returns-in-Offlined : goal.returns-in-Offlined
returns-in-Offlined c =
    subst (λ (l : CpuLine). MatchBool c.is_good_offlined.result (IsGoodLine c.args.processor.now c.args.number l) (IsBadLine c.args.processor.now c.args.number l)) (sym c.in-Offlined.is) c.is_good_offlined.ensures
