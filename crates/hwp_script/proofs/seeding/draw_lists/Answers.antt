use Rattle.std.proofs.Common.{List, [], ◌∷◌, ◌++◌, ap, ◌∙◌}
use Rattle.hwp_script_read.specs.hwp_script_lines.declared.Command.{Command}
use Rattle.rand_pcg.specs.Lcg.{Lcg}
use Rattle.hwp_script.proofs.Lists.{lists-more, lists-none}
use Rattle.hwp_script.proofs.seeding.draw_lists.Goals as goal

pub loop-cpu-init : goal.loop-cpu-init
loop-cpu-init c = ap (λ (l : List (List Command)). (l, c.args.rng.now)) c.new-lists.ensures ∙ lists-none c.args.rng.now

pub loop-cpu-preserved : goal.loop-cpu-preserved
loop-cpu-preserved c =
    ap (λ (l : List (List Command)). (l, c.draw_list.new.rng)) c.in_ok-push.ensures
    ∙ ap (λ (p : List Command × Lcg). (c.loop-cpu.lists ++ p.0 ∷ [], p.1)) c.in_ok-draw_list.ensures
    ∙ lists-more c.loop-cpu.cpu c.args.rng.now c.loop-cpu.rng c.loop-cpu.lists c.loop-cpu.invariant
