use Rattle.std.proofs.Common.{◌≡◌, ◌++◌, map}
use Rattle.std.specs.List.{flat_map, range_with_len}
use Rattle.hwp_law.specs.Copies.{lines_at}
use Rattle.hwp_check_events.specs.Copied.{pair_of}
use Rattle.hwp_check_events.proofs.copied.copy_checks.Given as goal

abbrev pub invariant-loop-n : goal.invariant-loop-n
invariant-loop-n l = l.lines.items ≡ flat_map (λ n. lines_at n (map pair_of l.loads.items) ++ lines_at n (map pair_of l.stores.items)) (range_with_len 0 l.n)
