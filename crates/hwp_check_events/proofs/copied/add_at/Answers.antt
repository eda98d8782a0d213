use Rattle.std.proofs.Common.{[], ◌∷◌, ◌++◌, map, ap, ◌∙◌, arith}
use Rattle.hwp_law.specs.Copies.{lines_at}
use Rattle.hwp_check_events.specs.Copied.{pair_of}
use Rattle.hwp_check_events.specs.declared.copied.CopyCheck.{CopyCheck}
use Rattle.hwp_check_events.proofs.CopyLaws.{at-all, at-next}
use Rattle.hwp_check_events.proofs.copied.add_at.Goals as goal

pub loop-check-preserved : goal.loop-check-preserved
loop-check-preserved c =
    at-next c.args.n c.args.checks.now c.loop-check.check-index _ c.loop-check.out.items c.add_one.new.out.items (c.args.out.now.items ++ lines_at c.args.n (map pair_of c.args.checks.now)) c.loop-check-test.true c.loop-check.invariant
    (c.in_ok-add_one.ensures ∙ ap (λ (x : CopyCheck). c.loop-check.out.items ++ lines_at c.args.n (pair_of x ∷ [])) c.check-item.is)

pub returns : goal.returns
returns c =
    at-all c.args.n c.args.checks.now c.loop-check.check-index c.loop-check.out.items (c.args.out.now.items ++ lines_at c.args.n (map pair_of c.args.checks.now)) (let past = c.loop-check-test.false in omega arith) c.loop-check.invariant
