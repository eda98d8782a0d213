use Rattle.hwp_check_events.proofs.IndexLaws.{So}
use Rattle.hwp_check_events.proofs.index.events_by_command.Given as goal

abbrev pub invariant-loop-place : goal.invariant-loop-place
invariant-loop-place l = So l.fn.rows l.fn.count l.place l.lists.items
