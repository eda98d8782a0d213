use Rattle.std.proofs.Common.{ap, Some, ◌∙◌}
use Rattle.std.proofs.lemmas.Option.{slice_get-get_or}
use Rattle.hwp_check_answers.proofs.InPlace.{all-set, set-next}
use Rattle.hwp_check_answers.proofs.placing.first_unset.Goals as goal

pub loop-number-preserved : goal.loop-number-preserved
loop-number-preserved c =
    set-next c.args.flags.now c.loop-number.number _ (slice_get-get_or c.args.flags.now c.loop-number.number _ c.loop-number-test.true) c.if-not-flags-number.false c.loop-number.invariant

pub returns-then-not-flags-number : goal.returns-then-not-flags-number
returns-then-not-flags-number c = slice_get-get_or c.args.flags.now c.loop-number.number _ c.loop-number-test.true ∙ ap Some c.if-not-flags-number.true

pub returns : goal.returns
returns c = all-set c.args.flags.now c.loop-number.number c.loop-number-test.false c.loop-number.invariant
