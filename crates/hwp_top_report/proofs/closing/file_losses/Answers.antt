use Rattle.std.proofs.Common.{◌≡◌, ◌<◌, length, arith}
use Rattle.hwp_plain.specs.hwp_core_rule.Words.{words_of}
use Rattle.hwp_top_report.proofs.Tables.{losses-count, take-next}
use Rattle.hwp_top_report.proofs.closing.file_losses.Goals as goal

pub loop-file-preserved : goal.loop-file-preserved
loop-file-preserved c =
    let many : length (words_of c.args.layout.now c.args.words.now).losses ≡ c.args.layout.now.files = losses-count c.args.layout.now c.args.words.now c.requires.whole in
    let less : c.loop-file.file < c.args.layout.now.files = c.loop-file-test.true in
    take-next (words_of c.args.layout.now c.args.words.now).losses c.loop-file.files.items c.push.new.self.items c.loop-file.file c.word.result
    (omega (arith, many, less)) c.loop-file.invariant c.word.ensures c.in_ok-push.ensures.items
