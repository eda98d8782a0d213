use Rattle.hwp_report_words.specs.declared.replies.Valued.TheVariants as valued
use Rattle.hwp_report_words.specs.Answers.{valued_text}
use Rattle.hwp_report_words.proofs.NamedValues.{named_read}
use Rattle.hwp_report_words.proofs.AnswerWords.{all_valued, valued_listed}
use Rattle.hwp_report_words.proofs.replies.read_valued.Goals as goal

pub returns : goal.returns
returns c = named_read valued_text all_valued valued.Value valued_listed c.args.word.now _ c.named.ensures
