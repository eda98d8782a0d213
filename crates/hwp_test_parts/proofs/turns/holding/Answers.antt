use Rattle.std.proofs.Common.{ℕ, sym, subst}
use Rattle.hwp_core.specs.hwp_geom.declared.Who.{Who}
use Rattle.hwp_core.specs.hwp_core_rule.declared.View.{View}
use Rattle.hwp_core.specs.declared.hold.Hold.{Hold}
use Rattle.hwp_core.specs.Holds.{Fits, begin}
use Rattle.hwp_core.specs.hwp_core_rule.Boards.{view_of}
use Rattle.hwp_test_parts.proofs.TaskBegins.{hold-open}
use Rattle.hwp_test_parts.proofs.turns.holding.Goals as goal

abbrev first : ℕ → Who
first cpu = record { cpu = record { 0 = cpu }; seq = 0 }

pub returns-clause-fits : goal.returns-clause-fits
returns-clause-fits c = subst (λ (h : Hold). Fits c.args.board.now.layout (view_of c.args.board.now.state c.args.cpu) h) (sym c.new.ensures)
    (subst (λ (v : View). Fits c.args.board.now.layout v (begin (first c.args.cpu) (record { 0 = 0 }))) (sym c.requires.view) (hold-open c.args.board.now.layout (first c.args.cpu) c.requires.page))
