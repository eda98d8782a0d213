use Rattle.hwp_check_events.proofs.FirstAnswers.{Firsts}
use Rattle.hwp_check_events.proofs.index.answers_by_command.Given as goal

abbrev pub invariant-loop-place : goal.invariant-loop-place
invariant-loop-place l = Firsts l.fn.rows l.fn.count l.place l.answers.items
