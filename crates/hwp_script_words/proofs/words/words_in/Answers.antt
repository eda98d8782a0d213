use Rattle.std.proofs.Common.{rules, ap, ◌∙◌, ◌==◌, not, length}
use Rattle.std.proofs.lemmas.Iterator.Consumers.{map_from_collect, YieldsList-from_filter}
use Rattle.std.proofs.lemmas.Iterator.Splits.{YieldsList-from_slice_split}
use borrow.Author.Tests.{tests}
use Rattle.hwp_script_words.proofs.words.words_in.Goals as goal

pub returns : goal.returns
returns c =
    map_from_collect _ c.collect.ensures.ran (YieldsList-from_filter _ (λ w. not (length w == 0)) (YieldsList-from_slice_split _ (λ b. b == 32) c.args.line.now (ap (λ s. s.rest.now) c.filter.ensures.source ∙ c.split.ensures.rest) (ap (λ s. s.done) c.filter.ensures.source ∙ c.split.ensures.done) (ap (λ s. s.pred) c.filter.ensures.source ∙ c.split.ensures.closure) (search rules)) c.filter.ensures.closure (λ x r q k. search (rules, tests)))
