use Rattle.std.proofs.Common.{◌∙◌, []}
use Rattle.std.proofs.lemmas.List.Elements.{All-get_or}
use Rattle.hwp_cec.specs.Counters.{IsRow, row_of}
use Rattle.hwp_cec.proofs.CounterLaws.{noted-stands, answer-live, answer-counted}
use Rattle.hwp_cec.proofs.collector.Collector.note.Goals as goal

pub returns-clause-stands : goal.returns-clause-stands
returns-clause-stands c = λ events stands.
    let has : IsRow c.args.self.now.threshold c.args.self.now.window (row_of c.args.self.now c.args.frame.0) =
    All-get_or (IsRow c.args.self.now.threshold c.args.self.now.window) c.args.self.now.counts c.args.frame.0 [] c.requires c.tally.ensures.counted.rows in
    rw c.tally.ensures.counts (noted-stands c.args.self.now events c.args.frame c.requires has stands)

pub returns-clause-live : goal.returns-clause-live
returns-clause-live c = λ events stands.
    c.tally.ensures.answer
    ∙ answer-live c.args.self.now events c.args.frame c.requires
    (All-get_or (IsRow c.args.self.now.threshold c.args.self.now.window) c.args.self.now.counts c.args.frame.0 [] c.requires c.tally.ensures.counted.rows) stands

pub returns-clause-counted : goal.returns-clause-counted
returns-clause-counted c = λ events stands.
    c.tally.ensures.answer
    ∙ answer-counted c.args.self.now events c.args.frame c.tally.ensures.counted.some_rounds c.requires
    (All-get_or (IsRow c.args.self.now.threshold c.args.self.now.window) c.args.self.now.counts c.args.frame.0 [] c.requires c.tally.ensures.counted.rows) stands
