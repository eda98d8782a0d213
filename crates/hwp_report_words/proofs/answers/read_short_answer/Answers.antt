use Rattle.hwp_report_words.proofs.NoLines.{no_short}
use Rattle.hwp_report_words.proofs.answers.read_short_answer.Goals as goal

pub returns-in_default : goal.returns-in_default
returns-in_default c = λ answer fits e. no_short c.args.word.now c.in_default.ensures answer e
