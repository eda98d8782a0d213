use Rattle.hwp_report_words.proofs.NoLines.{no_counted}
use Rattle.hwp_report_words.proofs.answers.read_counted_answer.Goals as goal

pub returns-in_default : goal.returns-in_default
returns-in_default c = λ answer fits e. no_counted c.args.word.now c.args.value.now c.in_default.ensures answer e
