use Rattle.std.proofs.Common.{◌≡◌, drop}
use Rattle.hwp_check_evidence.specs.Ample.{noted_list}
use Rattle.hwp_check_evidence.proofs.ample.note_list.Given as goal

abbrev pub invariant-loop-command : goal.invariant-loop-command
invariant-loop-command l = noted_list l.fn.watches l.flags.items (drop l.command-index l.fn.list) ≡ noted_list l.fn.watches l.fn.flags.items l.fn.list
