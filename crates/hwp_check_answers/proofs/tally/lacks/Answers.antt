use Rattle.std.proofs.Common.{◌<◌, [], length, refl, sym, ◌∙◌, arith}
use Rattle.hwp_check_answers.proofs.TallyLaws.{lacks-end, lacks-here, lacks-on}
use Rattle.hwp_check_answers.proofs.tally.lacks.Goals as goal

pub loop-number-init : goal.loop-number-init
loop-number-init c = refl

pub returns-then-has_fewer : goal.returns-then-has_fewer
returns-then-has_fewer c =
    let within : c.loop-number.number < length c.args.told.now = (let r = c.requires in let t = c.loop-number-test.true in omega arith) in
    sym (c.loop-number.invariant ∙ lacks-here c.args.dues.now c.args.told.now c.loop-number.number [] 0 c.loop-number-test.true within (sym c.if-has_fewer.ensures))

pub loop-number-preserved : goal.loop-number-preserved
loop-number-preserved c =
    let within : c.loop-number.number < length c.args.told.now = (let r = c.requires in let t = c.loop-number-test.true in omega arith) in
    c.loop-number.invariant ∙ lacks-on c.args.dues.now c.args.told.now c.loop-number.number [] 0 c.loop-number-test.true within (sym c.if-has_fewer.ensures)

pub returns : goal.returns
returns c = sym (c.loop-number.invariant ∙ lacks-end c.args.dues.now c.args.told.now c.loop-number.number (omega arith))
