use Rattle.std.proofs.Common.{◌<◌, ℕ, List, get_or, length, ap, ◌∙◌, sym, subst}
use Rattle.hwp_check_state.proofs.TableLaws.{weak-length, marked-weak}
use Rattle.hwp_check_state.proofs.frames.weak_in.Goals as goal

pub lines_at-requires : goal.lines_at-requires
lines_at-requires c =
    subst (λ (n : ℕ). c.args.number < n) (sym (ap (λ (l : List ℕ). length l) (c.as_slice.ensures.value ∙ c.requires.marked.weak) ∙ weak-length c.args.frames c.args.done.now)) c.requires.within

pub returns : goal.returns
returns c =
    c.lines_at.ensures ∙ ap (λ (l : List ℕ). get_or l c.args.number 0) (c.as_slice.ensures.value ∙ c.requires.marked.weak) ∙ marked-weak c.args.frames c.args.number c.args.done.now c.requires.within
