use Rattle.std.proofs.Common.{◌≡◌, arith, rules}
use Rattle.hwp_report_words.proofs.NamedValues.{none_all, none_more}
use Rattle.hwp_report_words.proofs.words.named.Goals as goal

pub loop-one-preserved : goal.loop-one-preserved
loop-one-preserved g c =
    none_more (λ x. c.args.word.now ≡ g.T.HasWord.text x) c.args.all.now c.loop-one.one-index c.one-item.result (omega arith) c.loop-one.invariant (search rules)

pub returns : goal.returns
returns g c = none_all (λ x. c.args.word.now ≡ g.T.HasWord.text x) c.args.all.now c.loop-one.one-index (omega arith) c.loop-one.invariant
