use Rattle.std.proofs.Common.{ℕ, sym, subst}
use Rattle.hwp_core.specs.hwp_geom.declared.Who.{Who}
use Rattle.hwp_core.specs.hwp_core_rule.declared.View.{View}
use Rattle.hwp_evict.specs.declared.Take.{Take}
use Rattle.hwp_evict.specs.Takes.{Fits, begin}
use Rattle.hwp_core.specs.hwp_core_rule.Boards.{view_of}
use Rattle.hwp_test_parts.proofs.TaskBegins.{take-open}
use Rattle.hwp_test_parts.proofs.turns.taking.Goals as goal

abbrev first : ℕ → Who
first cpu = record { cpu = record { 0 = cpu }; seq = 0 }

pub returns-clause-fits : goal.returns-clause-fits
returns-clause-fits c = subst (λ (t : Take). Fits c.args.board.now.layout (view_of c.args.board.now.state c.args.cpu) t) (sym c.new.ensures)
    (subst (λ (v : View). Fits c.args.board.now.layout v (begin (first c.args.cpu))) (sym c.requires) (take-open c.args.board.now.layout (first c.args.cpu)))
