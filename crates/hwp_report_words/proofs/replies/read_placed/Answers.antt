use Rattle.hwp_report_words.specs.declared.replies.Placed.TheVariants as placed
use Rattle.hwp_report_words.specs.Answers.{placed_text}
use Rattle.hwp_report_words.proofs.NamedValues.{named_read}
use Rattle.hwp_report_words.proofs.AnswerWords.{all_placed, placed_listed}
use Rattle.hwp_report_words.proofs.replies.read_placed.Goals as goal

pub returns : goal.returns
returns c = named_read placed_text all_placed placed.Stored placed_listed c.args.word.now _ c.named.ensures
