use Rattle.std.proofs.Common.{◌≡◌, [], map}
use Rattle.hwp_core_rule.specs.Opening.{below}
use Rattle.hwp_table_words.specs.Known.{idling}
use Rattle.hwp_table.specs.Seats.{seat_open}
use Rattle.hwp_table.proofs.Dealt.{left_from}
use Rattle.hwp_table.proofs.dealing.deal_seats.Given as goal

abbrev pub invariant-loop-cpu : goal.invariant-loop-cpu
invariant-loop-cpu g l = record {
  seats : l.seats.items ≡ map (seat_open l.fn.sheet.table_id l.fn.layout) (below l.cpu);
  same : l.pass.table_id ≡ l.fn.sheet.table_id;
  pass : l.pass.me ≡ (idling (left_from l.cpu l.fn.layout.cpus), []);
}
