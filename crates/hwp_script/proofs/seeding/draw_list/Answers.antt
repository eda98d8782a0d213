use Rattle.std.proofs.Common.{ℕ, List, [], ◌∷◌, ◌++◌, ap, ◌∙◌, arith}
use Rattle.hwp_script_read.specs.hwp_script_lines.declared.Command.{Command}
use Rattle.rand_pcg.specs.Lcg.{Lcg}
use Rattle.hwp_script.specs.Commands.{command}
use Rattle.hwp_script.specs.Generated.{many}
use Rattle.hwp_script.proofs.Lists.{many-more, many-none}
use Rattle.hwp_script.proofs.seeding.draw_list.Goals as goal

pub loop-number-init : goal.loop-number-init
loop-number-init c = (
  ap (λ (l : List Command). (l, c.args.rng.now)) c.in_ok-list.ensures.items ∙ many-none (command c.args.cpu) c.args.rng.now,
  omega (arith, c.in_ok-list.ensures.len, c.in_ok-list.ensures.capacity),
)

pub loop-number-preserved : goal.loop-number-preserved
loop-number-preserved c = (
  ap (λ (l : List Command). (l, c.draw_command.new.rng)) c.push_reserved.ensures.items
      ∙ ap (λ (p : Command × Lcg). (c.loop-number.list.items ++ p.0 ∷ [], p.1)) c.draw_command.ensures
      ∙ many-more (command c.args.cpu) c.loop-number._number c.args.rng.now c.loop-number.rng c.loop-number.list.items c.loop-number.invariant.0,
  omega (arith, c.push_reserved.ensures.len, c.push_reserved.ensures.capacity, c.loop-number.invariant.1),
)

pub returns : goal.returns
returns c =
    ap (λ (l : List Command). (l, c.loop-number.rng)) c.from_vec.ensures
    ∙ (c.loop-number.invariant.0 ∙ ap (λ (n : ℕ). many (command c.args.cpu) n c.args.rng.now) (omega (arith, c.loop-number-test.false, c.loop-number.auto._number-end)))
