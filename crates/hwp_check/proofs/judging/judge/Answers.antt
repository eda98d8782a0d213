use Rattle.std.proofs.Common.{ℕ, List, rules, subst}
use Rattle.hwp_check.specs.Parting.{IsParted}
use Rattle.hwp_check.proofs.JudgeLaws.{judged-input, read-fits}
use Rattle.hwp_check.proofs.judging.judge.Goals as goal

pub judge_text-requires-clause-room : goal.judge_text-requires-clause-room
judge_text-requires-clause-room c = read-fits c.in-Ok.behind.now c.read-text.result (search rules) c.read-text.ensures.report

pub returns-clause-verdict : goal.returns-clause-verdict
returns-clause-verdict c =
    judged-input c.args.input c.in-Ok.first.now c.in-Ok.behind.now c.in-Ok-read.script c.read-text.result c.judge_text.result c.told.result
    (subst (λ (l : List ℕ). IsParted l c.in-Ok.first.now c.in-Ok.behind.now) c.as_slice.ensures c.in-Ok.ensures) c.in-Ok-read.ensures.script c.in-Ok-read.ensures.valid
    c.read-text.ensures.report c.read-text.ensures.fault c.judge_text.ensures c.told.ensures.verdict
