use Rattle.std.proofs.Common.{ap, sym, ◌∙◌, subst}
use Rattle.hwp_core.specs.hwp_geom.declared.Who.{Who}
use Rattle.hwp_core.specs.hwp_core_rule.declared.View.{View}
use Rattle.hwp_core.specs.hwp_core_rule.Boards.{view_of}
use Rattle.hwp_core.specs.hwp_core_rule.Hands.{hand_of}
use Rattle.hwp_evict.specs.declared.Take.{Take}
use Rattle.hwp_evict.specs.Takes.{Fits, begin}
use Rattle.hwp_test_parts.specs.TakenFrames.{taken}
use Rattle.hwp_test_parts.proofs.TaskBegins.{take-open}
use Rattle.hwp_test_parts.proofs.words.taking.Goals as goal

abbrev first : Who
first = record { cpu = record { 0 = 0 }; seq = 0 }

pub returns-clause-fits : goal.returns-clause-fits
returns-clause-fits c = subst (λ (t : Take). Fits c.args.board.now.layout (view_of c.args.board.now.state 0) t) (sym c.new.ensures)
    (subst (λ (v : View). Fits c.args.board.now.layout v (begin first)) (sym c.requires) (take-open c.args.board.now.layout first))

pub returns-clause-hand : goal.returns-clause-hand
returns-clause-hand c = ap hand_of c.requires ∙ ap (λ (t : Take). taken t.at) (sym c.new.ensures)
