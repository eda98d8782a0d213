use Rattle.std.proofs.Common.{◌≡◌, drop, fold}
use Rattle.hwp_law.specs.Commands.{has_watch}
use Rattle.hwp_check_evidence.specs.Ample.{flags_of, noted_list}
use Rattle.hwp_check_evidence.proofs.ample.flags_of.Given as goal

abbrev pub invariant-loop-list : goal.invariant-loop-list
invariant-loop-list l = fold (noted_list (has_watch l.fn.script)) l.flags.items (drop l.list-index l.fn.script.lists) ≡ flags_of l.fn.script
