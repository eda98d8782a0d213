use Rattle.hwp_report_text.specs.hwp_page.declared.Situation.TheVariants as situations
use Rattle.hwp_report_text.specs.Terms as terms
use Rattle.hwp_report_words.proofs.NamedValues.{all_situations, situation_listed, named_read}
use Rattle.hwp_report_words.proofs.terms.read_situation.Goals as goal

pub returns : goal.returns
returns c = named_read terms.situation_word all_situations situations.Free situation_listed c.args.word.now _ c.named.ensures
