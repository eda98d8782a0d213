use Rattle.std.proofs.Common.{◌≤◌, fold, length, replicate, sym, ap, ◌∙◌, arith}
use Rattle.std.proofs.lemmas.List.{take_all}
use Rattle.std.proofs.lemmas.List.Sums.{fold_more}
use Rattle.hwp_check_state.specs.Frames.{with_bad, with_weak}
use Rattle.hwp_check_state.proofs.frames.marked_by.Goals as goal

pub loop-command-preserved : goal.loop-command-preserved
loop-command-preserved c = (
  c.mark_bad.ensures ∙ (λ i. with_bad (c.loop-command.invariant.0 i) (c.command-item.is i))
      ∙ sym (fold_more with_bad (replicate c.args.frames 0) c.args.done.now c.loop-command.command-index _ c.loop-command-test.true),
  c.mark_weak.ensures ∙ (λ i. with_weak (c.loop-command.invariant.1 i) (c.command-item.is i))
      ∙ sym (fold_more with_weak (replicate c.args.frames 0) c.args.done.now c.loop-command.command-index _ c.loop-command-test.true),
)

pub returns : goal.returns
returns c =
    let past : length c.args.done.now ≤ c.loop-command.command-index = let e = c.loop-command-test.false in omega arith in
    record {
      bad = c.loop-command.invariant.0 ∙ ap (fold with_bad (replicate c.args.frames 0)) (take_all c.loop-command.command-index c.args.done.now past);
      weak = c.loop-command.invariant.1 ∙ ap (fold with_weak (replicate c.args.frames 0)) (take_all c.loop-command.command-index c.args.done.now past);
    }
