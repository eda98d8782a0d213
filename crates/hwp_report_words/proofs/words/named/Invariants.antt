use Rattle.std.proofs.Common.{◌≡◌}
use Rattle.hwp_report_words.proofs.NamedValues.{IsNoneOf}
use Rattle.hwp_report_words.proofs.words.named.Given as goal

abbrev pub invariant-loop-one : goal.invariant-loop-one
invariant-loop-one g l = IsNoneOf (λ x. l.word ≡ g.T.HasWord.text x) l.all l.one-index
