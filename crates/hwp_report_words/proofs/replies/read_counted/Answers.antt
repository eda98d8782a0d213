use Rattle.hwp_report_words.specs.declared.replies.Counted.TheVariants as counted
use Rattle.hwp_report_words.specs.Answers.{counted_text}
use Rattle.hwp_report_words.proofs.NamedValues.{named_read}
use Rattle.hwp_report_words.proofs.AnswerWords.{all_counted, counted_listed}
use Rattle.hwp_report_words.proofs.replies.read_counted.Goals as goal

pub returns : goal.returns
returns c = named_read counted_text all_counted counted.Gone counted_listed c.args.word.now _ c.named.ensures
