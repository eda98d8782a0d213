use Rattle.std.proofs.Common.{rules}
use Rattle.hwp_check_events.proofs.Verdicts.{empty-table}
use Rattle.hwp_check_events.proofs.processors.empty_table.Goals as goal

pub returns : goal.returns
returns c = (search rules, empty-table c.resize.new.self.items (search rules))
