use Rattle.hwp_report.specs.declared.heads.Head.TheVariants as heads
use Rattle.hwp_report.specs.Heads.{head_text}
use Rattle.hwp_report_words.proofs.NamedValues.{named_read}
use Rattle.hwp_report.proofs.HeadWords.{all_heads, head_listed}
use Rattle.hwp_report.proofs.heads.read_head.Goals as goal

pub returns : goal.returns
returns c = named_read head_text all_heads heads.Header head_listed c.args.word.now _ c.named.ensures
