use Rattle.std.proofs.Common.{◌≡◌, ◌≤◌, ◌+◌, [], ◌∷◌, ◌++◌, ℕ, length, sym, subst, arith}
use Rattle.hwp_check_rules.specs.Pasts.{AreCounts}
use Rattle.hwp_check_rules.proofs.SettingLaws.{count-more, counts-more, counts-none}
use Rattle.hwp_check_rules.proofs.pasts.counts_of.Goals as goal

pub loop-number-init : goal.loop-number-init
loop-number-init c = counts-none c.args.layout.now c.args.commands.now c.args.done.now c.requires.each c.args.thread c.new-list.result c.new-list.ensures

pub loop-number-preserved : goal.loop-number-preserved
loop-number-preserved c = (
  omega arith,
  subst (AreCounts c.args.layout.now c.args.thread c.args.commands.now c.args.done.now (c.loop-number.number + 1)) (sym c.in_ok-push.ensures)
      (counts-more c.args.layout.now c.args.commands.now c.args.done.now c.requires.each c.args.thread c.loop-number.number c.loop-number.count c.loop-number.list c.loop-number.invariant.1 c.loop-number.invariant.2),
  count-more c.args.layout.now c.args.commands.now c.args.done.now c.requires.each c.args.thread c.loop-number.number c.loop-number.count c.sets-count.result c.loop-number-test.true c.loop-number.invariant.2 c.sets-count.ensures.sets,
)

pub returns : goal.returns
returns c =
    let all : c.loop-number.number ≡ length c.args.commands.now = let past = c.loop-number-test.false in omega arith in
    subst (AreCounts c.args.layout.now c.args.thread c.args.commands.now c.args.done.now (length c.args.commands.now + 1)) (sym c.in_ok-push-2.ensures)
    (subst (λ (n : ℕ). AreCounts c.args.layout.now c.args.thread c.args.commands.now c.args.done.now (n + 1) (c.loop-number.list ++ c.loop-number.count ∷ [])) all
    (counts-more c.args.layout.now c.args.commands.now c.args.done.now c.requires.each c.args.thread c.loop-number.number c.loop-number.count c.loop-number.list c.loop-number.invariant.1 c.loop-number.invariant.2))
