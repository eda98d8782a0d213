use Rattle.std.proofs.Common.{◌≡◌, ℕ, List, [], ◌∷◌, ◌++◌, replicate, ap, ◌∙◌, arith}
use Rattle.std.proofs.lemmas.List.{replicate_more}
use Rattle.hwp_check_event_line.specs.declared.Shown.{Shown}
use Rattle.hwp_check_events.proofs.index.empty_lists.Goals as goal

pub loop-number-preserved : goal.loop-number-preserved
loop-number-preserved c =
    c.in_ok-push.ensures.items ∙ ap (λ (l : List (List Shown)). l ++ c.new.result ∷ []) c.loop-number.invariant ∙ ap (λ (l : List Shown). replicate c.loop-number.number [] ++ l ∷ []) c.new.ensures
    ∙ replicate_more c.loop-number.number []

pub returns : goal.returns
returns c =
    let all : c.loop-number.number ≡ c.args.count = let past = c.loop-number-test.false in omega arith in
    c.loop-number.invariant ∙ ap (λ (n : ℕ). replicate n []) all
