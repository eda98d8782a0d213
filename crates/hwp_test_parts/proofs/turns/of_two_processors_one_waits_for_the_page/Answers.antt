use Rattle.hwp_core.specs.hwp_core_rule.Boards.{view_of}
use Rattle.hwp_test_parts.proofs.turns.of_two_processors_one_waits_for_the_page.Goals as goal

pub play-requires-2-clause-first : goal.play-requires-2-clause-first
play-requires-2-clause-first g c = c.let_go-first.ensures.lets c.play.new.board.layout (view_of c.play.new.board.state 0) c.play.ensures.first

pub play-requires-3-clause-second : goal.play-requires-3-clause-second
play-requires-3-clause-second g c = c.let_go-second.ensures.lets c.play-2.new.board.layout (view_of c.play-2.new.board.state 1) c.play-2.ensures.second
