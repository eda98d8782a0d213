use Rattle.std.proofs.Common.{◌≡◌, map, ap, ◌∙◌}
use Rattle.hwp_script_lines.specs.Grammar.{turn_pieces}
use Rattle.hwp_script_lines.proofs.turns.read_turn.Goals as goal

pub returns : goal.returns
returns c =
    let e : map (λ p. p.now) c.as_slice.result.now ≡ turn_pieces c.args.word.now = ap (map (λ p. p.now)) c.as_slice.ensures.value ∙ c.in_ok-pieces.ensures in
    rw e at c.read_pieces.ensures
