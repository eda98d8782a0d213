use Rattle.hwp_top_report.proofs.LedBodies.{led-bodies}
use Rattle.hwp_top_report.proofs.finishing.pages_of.Goals as goal

pub histories-requires-clause-led : goal.histories-requires-clause-led
histories-requires-clause-led g c =
    led-bodies g.W.Ways.ways c.args.layout.now c.args.ended.now c.args.bodies.items c.requires.layout c.requires.bodies c.reached.ensures
    c.index-from.result c.len.result c.from.result c.words-words.result.now c.words-words.ensures
    c.index-from.ensures.value c.len.ensures c.from.ensures
