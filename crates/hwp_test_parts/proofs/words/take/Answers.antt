use Rattle.hwp_test_parts.proofs.TakeKeeps.{take-turned}
use Rattle.hwp_test_parts.proofs.words.take.Goals as goal

pub returns-clause-hand : goal.returns-clause-hand
returns-clause-hand c = take-turned c.args.board.now.layout c.args.board.now.state c.advance.new.self.state c.args.board.now.log c.advance.new.self.log c.args.task.now c.advance.new.task c.advance.result
    c.keeps.ensures.rule c.requires.fits c.requires.hand c.advance.ensures.turn
