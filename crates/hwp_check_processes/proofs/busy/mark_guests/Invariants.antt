use Rattle.std.proofs.Common.{◌≡◌, drop, fold}
use Rattle.hwp_check_processes.specs.Busy.{guest_by}
use Rattle.hwp_check_processes.proofs.busy.mark_guests.Given as goal

abbrev pub invariant-loop-row : goal.invariant-loop-row
invariant-loop-row l = fold guest_by l.flags.items (drop l.row-index l.fn.rows) ≡ fold guest_by l.fn.flags.items l.fn.rows
