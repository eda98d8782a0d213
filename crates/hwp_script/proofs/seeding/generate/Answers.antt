use Rattle.std.proofs.Common.{List, ap}
use Rattle.hwp_script_read.specs.hwp_script_lines.declared.Go.{Go}
use Rattle.rand_pcg.specs.Lcg.{Lcg}
use Rattle.hwp_script.proofs.Valid.{drawn-valid}
use Rattle.hwp_script.proofs.seeding.generate.Goals as goal

pub returns-clause-valid : goal.returns-clause-valid
returns-clause-valid c =
    drawn-valid c.args.seed c.in_ok-layout.layout c.in_ok-lists.lists c.in_ok-go.go c.new-rng.result c.draw_lists.new.rng c.in_ok-layout.ensures c.new-rng.ensures c.in_ok-lists.ensures
    (ap (λ (p : List Go × Lcg). p.0) c.in_ok-go.ensures)
