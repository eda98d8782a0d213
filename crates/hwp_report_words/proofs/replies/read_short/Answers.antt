use Rattle.hwp_report_words.specs.declared.replies.Short.TheVariants as short
use Rattle.hwp_report_words.specs.Answers.{short_text}
use Rattle.hwp_report_words.proofs.NamedValues.{named_read}
use Rattle.hwp_report_words.proofs.AnswerWords.{all_short, short_listed}
use Rattle.hwp_report_words.proofs.replies.read_short.Goals as goal

pub returns : goal.returns
returns c = named_read short_text all_short short.NoFrame short_listed c.args.word.now _ c.named.ensures
