use Rattle.std.proofs.Common.{◌≡◌, ◌∷◌, [], ◌++◌, codes, decimal, refl, inl, ap, ◌∙◌}
use Rattle.hwp_script_lines.proofs.TurnLaws.{no_command}
use Rattle.hwp_script_lines.proofs.turns.read_plain_turn.Goals as goal

pub returns-in_default : goal.returns-in_default
returns-in_default c = (inl refl, λ h. no_command c.in-Some.front.now c.in_default.ensures.none (rw c.in-Some.ensures at h))

pub returns-in-Some-read_number : goal.returns-in-Some-read_number
returns-in-Some-read_number c =
    let e : c.args.word.now ∷ [] ≡ (decimal c.in-Some-read_number.cpu ++ codes ".") ∷ [] = ap (λ w. w ∷ []) (c.in-Some.ensures ∙ ap (λ f. f ++ codes ".") c.in-Some-read_number.ensures.some.digits) in
    rw e c.go_on.ensures
