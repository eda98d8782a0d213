use Rattle.std.proofs.Common.{List, Option, ap, ◌∙◌, subst}
use Rattle.hwp_core_rule.specs.hwp_geom.declared.Layout.{Layout}
use Rattle.hwp_core_rule.specs.Boards.{view_of}
use Rattle.hwp_plain.specs.declared.trace_line.TraceLine.{TraceLine}
use Rattle.hwp_plain.specs.Notes.{Notes, line_seen}
use Rattle.hwp_plain.specs.Traced.{Traced}
use Rattle.hwp_plain.proofs.LineTells.{turn-traced}
use Rattle.hwp_plain.proofs.traced_board.TracedBoardBoard.advance.Goals as goal

pub invariant_of-self : goal.invariant_of-self
invariant_of-self g c =
    let was = c.self.inside.board in
    let now = c.advance-turn.new.self in
    turn-traced g.M.Task.task was.layout c.args.cpu.0 was.state now.state was.log now.log c.args.task.now c.advance-turn.new.task c.advance-turn.result.0 c.advance-turn.result.1 c.look-seen.result c.line_of-line.result c.self.inside.lines c.noted.result
    c.keeps.ensures.rule.words c.advance-turn.ensures.turn c.look-seen.ensures
    (c.line_of-line.ensures ∙ ap (λ (l : Layout). line_seen l now.state c.look-seen.result c.advance-turn.result.0 c.advance-turn.result.1) c.advance-turn.ensures.same.0)
    (subst (λ (lines : Option (List TraceLine)). Notes lines c.line_of-line.result c.noted.result) c.replace-lines.ensures.value c.noted.ensures)
    c.self.invariant

pub returns-clause-others : goal.returns-clause-others
returns-clause-others g c = λ s other. c.advance-turn.ensures.others s other ∙ ap (λ (b : Traced). view_of b.board.state s) c.self.view_is
