use Rattle.hwp_report_words.proofs.NoLines.{no_valued, no_value_place}
use Rattle.hwp_report_words.proofs.answers.read_valued_answer.Goals as goal

pub returns-in_default : goal.returns-in_default
returns-in_default c = λ answer fits e. no_valued c.args.word.now c.args.value.now c.args.page.now c.args.entry.now c.in_default.ensures answer e

pub returns-in_default-read_at : goal.returns-in_default-read_at
returns-in_default-read_at c = no_value_place c.args.word.now c.args.value.now c.args.page.now c.args.entry.now c.in_default-read_at.ensures
