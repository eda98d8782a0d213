use Rattle.std.proofs.Common.{◌≡◌, ◌+◌, ◌++◌, [], length, map}
use Rattle.crossbeam_utils.specs.Padded.{padded_value}
use Rattle.hwp_threads.specs.Dealing.{CanDeal, workers_at}
use Rattle.hwp_threads.proofs.dealing.deal.Given as goal

abbrev pub invariant-loop-cpu : goal.invariant-loop-cpu
invariant-loop-cpu g l = record {
  same : l.pass.table_id ≡ l.fn.sheet.table_id;
  slots : l.pass.me.1 ≡ [];
  can : CanDeal l.cpu l.fn.layout.cpus l.pass.me.0.known;
  count : l.cpu + length l.tasks.items ≡ l.fn.layout.cpus;
  so_far : map padded_value l.workers.items ++ workers_at l.fn.sheet.table_id l.fn.layout l.cpu l.tasks.items ≡ workers_at l.fn.sheet.table_id l.fn.layout 0 l.fn.tasks.items;
}
