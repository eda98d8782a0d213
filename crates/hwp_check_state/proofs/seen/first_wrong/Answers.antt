use Rattle.std.proofs.Common.{ℕ, ◌+◌, Option, not, take, sym, subst}
use Rattle.std.proofs.lemmas.List.Elements.{All-more}
use Rattle.hwp_check_state.specs.Sights.{IsFirstOf, IsRight, IsSmall, IsWrong}
use Rattle.hwp_check_state.proofs.FirstLaws.{any_sight, first-more, flipped, not-both}
use Rattle.hwp_check_state.proofs.seen.first_wrong.Goals as goal

pub loop-sight-preserved : goal.loop-sight-preserved
loop-sight-preserved c = (
  subst (λ (o : Option ℕ). IsFirstOf (IsRight c.args.script.now c.args.report.now) (IsWrong c.args.script.now c.args.report.now) (take (c.loop-sight.sight-index + 1) c.args.list.now) o)
      (sym c.sooner_if-found.ensures)
      (first-more (IsRight c.args.script.now c.args.report.now) (IsWrong c.args.script.now c.args.report.now) (not-both c.args.script.now c.args.report.now) c.args.list.now c.loop-sight.sight-index any_sight
      c.loop-sight.found (not c.is_right-right.result) c.loop-sight-test.true (flipped _ _ c.is_right-right.result c.is_right-right.ensures) c.loop-sight.invariant.0),
  All-more IsSmall c.args.list.now c.loop-sight.sight-index any_sight c.loop-sight-test.true c.loop-sight.invariant.1 c.small.ensures,
)
