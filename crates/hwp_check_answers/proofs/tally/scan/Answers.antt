use Rattle.std.proofs.Common.{None, length, refl, ap, ◌∙◌, arith}
use Rattle.hwp_check_answers.specs.Tallied.{lacks_from}
use Rattle.hwp_check_answers.proofs.TallyLaws.{few, few-told, scanned, tallied-more, tallied-none}
use Rattle.hwp_check_answers.proofs.tally.scan.Goals as goal

pub loop-number-init : goal.loop-number-init
loop-number-init c = tallied-none c.args.dues.now c.args.events.now c.args.rows.now c.requires.events c.in_ok-passed.passed.items c.in_ok-told.told.items None c.in_ok-passed.ensures c.in_ok-told.ensures refl

pub is_fit-fits-requires-clause-passed : goal.is_fit-fits-requires-clause-passed
is_fit-fits-requires-clause-passed c = ap length c.as_slice.ensures.value ∙ c.loop-number.invariant.passed_many

pub is_fit-fits-requires-clause-told : goal.is_fit-fits-requires-clause-told
is_fit-fits-requires-clause-told c = ap length c.as_slice-in-loop-number.ensures.value ∙ c.loop-number.invariant.told_many

pub count_row-requires-clause-passed : goal.count_row-requires-clause-passed
count_row-requires-clause-passed c =
    few c.args.dues.now c.args.events.now c.args.rows.now c.requires.events c.loop-number.number c.loop-number.passed.items c.loop-number.passed.items c.loop-number.told.items c.loop-number.wrong c.loop-number-test.true (omega arith) c.loop-number.invariant

pub count_row-requires-clause-told : goal.count_row-requires-clause-told
count_row-requires-clause-told c =
    few-told c.args.dues.now c.args.events.now c.args.rows.now c.requires.events c.loop-number.number c.loop-number.passed.items c.loop-number.told.items c.loop-number.wrong c.loop-number-test.true (omega arith) c.loop-number.invariant

pub loop-number-preserved : goal.loop-number-preserved
loop-number-preserved c =
    tallied-more c.args.dues.now c.args.events.now c.args.rows.now c.requires.events c.loop-number.number _ c.loop-number.passed.items c.loop-number.told.items c.as_slice.result.now c.as_slice-in-loop-number.result.now _ _ c.loop-number.wrong _ c.is_fit-fits.result
    c.loop-number-test.true c.loop-number.invariant c.as_slice.ensures.value c.as_slice-in-loop-number.ensures.value c.is_fit-fits.ensures c.first_of-wrong.ensures c.count_row.ensures.passed c.count_row.ensures.told

pub lacks-requires : goal.lacks-requires
lacks-requires c = ap length c.as_slice-2.ensures.value ∙ c.loop-number.invariant.told_many

pub returns : goal.returns
returns c = scanned c.args.dues.now c.args.events.now c.args.rows.now c.requires.events c.loop-number.number c.loop-number.passed.items c.loop-number.told.items c.loop-number.wrong c.lacks.result (omega arith) c.loop-number.invariant (c.lacks.ensures ∙ ap (lacks_from c.args.dues.now) c.as_slice-2.ensures.value)
