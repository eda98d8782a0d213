use Rattle.hwp_top_report.proofs.ActLaws.{IsNoted}
use Rattle.hwp_top_report.proofs.notes.add_acts.Given as goal

abbrev pub invariant-loop : goal.invariant-loop
invariant-loop l = IsNoted l.fn.who l.fn.told l.fn.offlined l.fn.notes.items l.notes.items l.counter l.events l.frames
