use Rattle.std.proofs.Common.{List, [], ◌∷◌, ◌++◌, ◌+◌, append_assoc, drop, map, sym, ◌∙◌}
use Rattle.std.proofs.lemmas.List.{append-nil, at_drop_all, at_drop_more}
use Rattle.hwp_check_evidence.specs.Firsts.{entry_of}
use Rattle.hwp_check_evidence.proofs.firsts.entries_named.Goals as goal

pub loop-answer-preserved : goal.loop-answer-preserved
loop-answer-preserved c =
    rw (c.in_ok-push.ensures.items, c.entry_of.ensures) (
    append_assoc c.loop-answer.places.items (_ ∷ []) (map entry_of (drop (c.loop-answer.answer-index + 1) c.args.list.now))
    ∙ sym (at_drop_more (λ (l : List _). c.loop-answer.places.items ++ map entry_of l) c.args.list.now c.loop-answer.answer-index _ c.loop-answer-test.true)
    ∙ c.loop-answer.invariant
    )

pub returns : goal.returns
returns c =
    sym (append-nil c.loop-answer.places.items)
    ∙ sym (at_drop_all (λ (l : List _). c.loop-answer.places.items ++ map entry_of l) c.args.list.now c.loop-answer.answer-index c.loop-answer-test.false)
    ∙ c.loop-answer.invariant
