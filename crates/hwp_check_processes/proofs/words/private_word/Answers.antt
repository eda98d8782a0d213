use Rattle.std.proofs.Common.{◌∙◌}
use Rattle.hwp_check_processes.proofs.WordLaws.{private-is}
use Rattle.hwp_check_processes.proofs.words.private_word.Goals as goal

pub returns : goal.returns
returns c =
    c.last_stored.ensures
    ∙ private-is c.args.layout.now c.args.report.now c.args.cpu c.args.fork c.args.spot.now.slot c.args.spot.now.line c.word_at_fork-first.result c.args.earlier.now c.behind-since.result.now c.word_at_fork-first.ensures c.behind-since.ensures
