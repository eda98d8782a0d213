use Rattle.std.proofs.Common.{List, [], ◌∷◌, ◌++◌, ap, ◌∙◌, arith}
use Rattle.hwp_script_read.specs.hwp_script_lines.declared.Go.{Go}
use Rattle.rand_pcg.specs.Lcg.{Lcg}
use Rattle.hwp_script.specs.Generated.{go}
use Rattle.hwp_script.proofs.Lists.{many-more, many-none}
use Rattle.hwp_script.proofs.seeding.draw_schedule.Goals as goal

pub loop-number-init : goal.loop-number-init
loop-number-init c = (
  ap (λ (l : List Go). (l, c.args.rng.now)) c.in_ok-words.ensures.items ∙ many-none go c.args.rng.now,
  omega (arith, c.in_ok-words.ensures.len, c.in_ok-words.ensures.capacity),
)

pub loop-number-preserved : goal.loop-number-preserved
loop-number-preserved c = (
  ap (λ (l : List Go). (l, c.draw_go.new.rng)) c.push_reserved.ensures.items
      ∙ ap (λ (p : Go × Lcg). (c.loop-number.words.items ++ p.0 ∷ [], p.1)) c.draw_go.ensures
      ∙ many-more go c.loop-number._number c.args.rng.now c.loop-number.rng c.loop-number.words.items c.loop-number.invariant.0,
  omega (arith, c.push_reserved.ensures.len, c.push_reserved.ensures.capacity, c.loop-number.invariant.1),
)
