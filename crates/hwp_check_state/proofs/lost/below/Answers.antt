use Rattle.std.proofs.Common.{rules, nat_lt}
use Rattle.std.proofs.lemmas.List.Sorted.{IsPartitionPoint-from_clause, IsPartitionedBy-ltb}
use Rattle.hwp_check_state.specs.declared.lost.Loss.{Loss}
use Rattle.hwp_check_state.specs.Lost.{key_of}
use Rattle.hwp_check_state.proofs.LostLaws.{first-count}
use Rattle.hwp_check_state.proofs.lost.below.Goals as goal

pub returns : goal.returns
returns c =
    let parted = IsPartitionedBy-ltb key_of _ c.args.bound c.requires in
    let point = IsPartitionPoint-from_clause (λ (l : Loss). nat_lt (key_of l) c.args.bound) _ _ c.partition_point.ensures.partitioned parted (λ a r q k. search rules) in
    first-count (λ (l : Loss). nat_lt (key_of l) c.args.bound) c.args.list.now c.partition_point.result c.partition_point.ensures.bound point.0 point.1
