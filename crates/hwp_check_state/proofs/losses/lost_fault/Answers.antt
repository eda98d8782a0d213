use Rattle.std.proofs.Common.{◌+◌, ◌==◌, ℕ, not, Option, get_or, ◌∙◌, sym, subst, arith}
use Rattle.hwp_check_rules.specs.Firsts.{sooner_if}
use Rattle.hwp_check_state.specs.Handles.{IsFirst, IsLostWrong}
use Rattle.hwp_check_state.proofs.LossRule.{lost-end, lost-next}
use Rattle.hwp_check_state.proofs.losses.lost_fault.Goals as goal

pub loop-file-preserved : goal.loop-file-preserved
loop-file-preserved c =
    subst (λ (o : Option ℕ). IsFirst (IsLostWrong c.args.script.now c.args.report.now (c.loop-file.file + 1)) o)
    (sym (c.sooner_if-found.ensures ∙ (λ i. sooner_if (not (get_or (c.as_slice-files.ensures i) (c.from.ensures i) 0 == c.lost.ensures.lost i)) c.loop-file.found (4 + c.from-in-loop-file.ensures i))))
    (lost-next c.args.script.now c.args.report.now c.requires.shape c.loop-file.file c.loop-file.found (omega arith) c.loop-file.invariant)

pub returns : goal.returns
returns c = lost-end c.args.script.now c.args.report.now c.requires.shape c.loop-file.file c.loop-file.found (omega arith) c.loop-file.invariant
