use Rattle.std.proofs.Common.{◌-◌, drop, length}
use Rattle.hwp_check_rules.proofs.AnswerLaws.{answers-begin, answers-many, answers-more}
use Rattle.hwp_check_rules.proofs.pairs.answers_to.Goals as goal

pub loop-back-init : goal.loop-back-init
loop-back-init c =
    answers-begin c.args.commands.now c.args.rows.now c.resize.new.self.items c.new-answers.result.items _ c.in_ok-resize.ensures.items c.new-answers.ensures.items c.new-answers.ensures.len

pub loop-back-preserved : goal.loop-back-preserved
loop-back-preserved c =
    answers-more c.args.commands.now c.args.rows.now c.loop-back.answers.items c.note.new.answers.items c.loop-back.back _ c.loop-back-test.true c.note.ensures c.loop-back.invariant

pub returns-clause-many : goal.returns-clause-many
returns-clause-many c = answers-many c.args.commands.now (drop (length c.args.rows.now - c.loop-back.back) c.args.rows.now) c.loop-back.answers.items c.loop-back.invariant
