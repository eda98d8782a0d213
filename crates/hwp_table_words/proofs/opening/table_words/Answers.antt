use Rattle.std.proofs.Common.{◌+◌, ◌*◌}
use Rattle.std.specs.Prelude.{vec_len}
use Rattle.hwp_table_words.proofs.Opened.{opened-words, resized}
use Rattle.hwp_table_words.proofs.opening.table_words.Goals as goal

pub returns : goal.returns
returns g c = opened-words c.args.layout.now (g.W.Ways.ways * c.args.layout.now.cpus) c.in_ok-words.words.items c.resize.new.self.items c.requires.sound c.in_ok-words.ensures
    (resized c.in_ok-words.words.items c.resize.new.self.items (c.len.result + c.ways.result * c.from.result) (vec_len c.in_ok-words.words) (g.W.Ways.ways * c.args.layout.now.cpus) c.in_ok-resize.ensures.items c.in_ok-words.words.ok.0
    (λ i. c.len.ensures i + c.ways.ensures.value i * c.from.ensures i))
