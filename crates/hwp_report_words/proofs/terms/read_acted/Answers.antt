use Rattle.hwp_report_text.specs.declared.Acted.TheVariants as acts
use Rattle.hwp_report_text.specs.Terms as terms
use Rattle.hwp_report_words.proofs.NamedValues.{all_acted, acted_listed, named_read}
use Rattle.hwp_report_words.proofs.terms.read_acted.Goals as goal

pub returns : goal.returns
returns c = named_read terms.acted_word all_acted acts.None acted_listed c.args.word.now _ c.named.ensures
