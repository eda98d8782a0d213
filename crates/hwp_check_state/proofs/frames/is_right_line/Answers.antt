use Rattle.std.proofs.Common.{◌==◌, ◌&&◌, ℕ, not, take, ap, ◌∙◌}
use Rattle.hwp_check_state.specs.Frames.{bad_bit, is_beyond, weak_bit, with_bits}
use Rattle.hwp_check_state.proofs.frames.is_right_line.Goals as goal

pub returns : goal.returns
returns c =
    c.are_right.ensures
    ∙ (λ i. c.has_place-placed.ensures i
    && (c.args.line.now.bad.0 == (c.bad_in-bad.ensures ∙ ap (λ (n : ℕ). with_bits (bad_bit n) 0 c.args.done.now) c.from-at.ensures) i)
    && (c.args.line.now.weak.0 == (c.weak_in-weak.ensures ∙ ap (λ (n : ℕ). with_bits (weak_bit n) 0 c.args.done.now) c.from-at.ensures) i)
    && not ((c.is_beyond-beyond.ensures ∙ (λ j. is_beyond c.args.cached.now (take (c.from-at.ensures j) (c.as_slice-frames.ensures j)) c.args.line.now.place)) i))
