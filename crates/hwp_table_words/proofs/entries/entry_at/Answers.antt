use Rattle.std.proofs.Common.{◌^◌, ◌<◌, arith}
use Rattle.hwp_core_rule.specs.Words.{size}
use Rattle.hwp_table_words.proofs.EntryAsks.{few-places, few-words}
use Rattle.hwp_table_words.proofs.entries.entry_at.Goals as goal

pub overflow_add-result-2 : goal.overflow_add-result-2
overflow_add-result-2 g c =
    let place : c.args.place < 256 = few-places g.W.Ways.ways c.args.layout.now.cpus c.args.place c.requires.few c.requires.sound.cpus c.requires.inside in
    let all : size c.args.layout.now < 2 ^ 32 = few-words c.args.layout.now c.requires.sound in
    let within : c.index.result < size c.args.layout.now = c.index.ensures.within tt in
    omega (arith, place, all, within)
