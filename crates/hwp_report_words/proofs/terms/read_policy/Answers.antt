use Rattle.hwp_report_text.specs.hwp_kill.declared.Policy.TheVariants as policies
use Rattle.hwp_report_text.specs.hwp_kill.Prctl as prctl
use Rattle.hwp_report_words.proofs.NamedValues.{all_policies, policy_listed, named_read}
use Rattle.hwp_report_words.proofs.terms.read_policy.Goals as goal

pub returns : goal.returns
returns c = named_read prctl.policy_word all_policies policies.Late policy_listed c.args.word.now _ c.named.ensures
