use Rattle.std.proofs.Common.{rules}
use Rattle.hwp_check_events.proofs.FirstAnswers.{firsts-first, firsts-last, firsts-next}
use Rattle.hwp_check_events.proofs.index.answers_by_command.Goals as goal

pub loop-place-init : goal.loop-place-init
loop-place-init c = firsts-first c.args.rows.now c.args.count c.resize.new.self.items (search rules) (search rules)

pub loop-place-preserved : goal.loop-place-preserved
loop-place-preserved c = firsts-next c.args.rows.now c.args.count c.loop-place.place c.loop-place.answers.items c.add_answer.new.answers.items _ c.loop-place-test.true c.add_answer.ensures c.loop-place.invariant

pub returns : goal.returns
returns c = firsts-last c.args.rows.now c.args.count c.loop-place.place c.loop-place.answers.items c.loop-place-test.false c.loop-place.invariant
