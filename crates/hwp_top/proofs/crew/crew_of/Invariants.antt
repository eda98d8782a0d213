use Rattle.std.proofs.Common.{◌≡◌, ◌≤◌, length, vec_capacity, vec_len}
use Rattle.std.specs.Arc.{arc_value}
use Rattle.hwp_top.proofs.Crews.{AreBegun}
use Rattle.hwp_top.proofs.crew.crew_of.Given as goal

abbrev pub invariant-loop-cpu : goal.invariant-loop-cpu
invariant-loop-cpu l = (length l.crew.items ≡ l.cpu) × AreBegun l.script l.crew.items × (arc_value l.layout ≡ l.script.layout) × (l.lists ≡ l.script.lists) × (vec_len l.crew ≡ l.cpu) × (length l.lists ≤ vec_capacity l.crew)
