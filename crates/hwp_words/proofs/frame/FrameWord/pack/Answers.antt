use Rattle.std.proofs.Common.{ap, ◌∙◌}
use Rattle.hwp_words.specs.Frames.{frame_reading}
use Rattle.hwp_words.proofs.Packed.{frame-back, frame-sum}
use Rattle.hwp_words.proofs.frame.FrameWord.pack.Goals as goal

pub returns-clause-word : goal.returns-clause-word
returns-clause-word c =
    frame-sum c.args.self c.from.result c.from-2.result c.from-3.result c.from-4.result c.from-5.result c.page_name.result c.from-6.result c.from.ensures c.from-2.ensures c.from-3.ensures c.from-4.ensures
    c.from-5.ensures c.page_name.ensures.value c.from-6.ensures c.page_name.ensures.below c.requires.cycle

pub returns-clause-back : goal.returns-clause-back
returns-clause-back c =
    ap frame_reading
    (frame-sum c.args.self c.from.result c.from-2.result c.from-3.result c.from-4.result c.from-5.result c.page_name.result c.from-6.result c.from.ensures c.from-2.ensures c.from-3.ensures c.from-4.ensures
    c.from-5.ensures c.page_name.ensures.value c.from-6.ensures c.page_name.ensures.below c.requires.cycle)
    ∙ frame-back c.args.self c.requires.count (rw c.page_name.ensures.value at c.page_name.ensures.below) c.requires.cycle
