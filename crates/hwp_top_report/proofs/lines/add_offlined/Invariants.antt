use Rattle.std.proofs.Common.{◌≡◌, ◌++◌, map, take}
use Rattle.hwp_law_served.specs.Rows.{offlined_line}
use Rattle.hwp_top_report.proofs.lines.add_offlined.Given as goal

abbrev pub invariant-loop-offlining : goal.invariant-loop-offlining
invariant-loop-offlining l = l.lines.items ≡ l.fn.lines.items ++ map (offlined_line l.fn.seq) (take l.offlining-index l.fn.offlined)
