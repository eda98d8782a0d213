use Rattle.hwp_report_text.specs.hwp_page.declared.Outcome.TheVariants as outcomes
use Rattle.hwp_report_text.specs.Terms as terms
use Rattle.hwp_report_words.proofs.NamedValues.{all_outcomes, outcome_listed, named_read}
use Rattle.hwp_report_words.proofs.terms.read_outcome.Goals as goal

pub returns : goal.returns
returns c = named_read terms.outcome_word all_outcomes outcomes.Recovered outcome_listed c.args.word.now _ c.named.ensures
