use Rattle.std.proofs.Common.{◌∙◌}
use Rattle.hwp_cpu_access.proofs.instruction.Instruction.begin_next.Goals as goal

pub returns : goal.returns
returns c = c.set.ensures ∙ λ k. record {
  alloc = c.args.alloc;
  request = c.args.request;
  origin = c.args.origin;
  mode = c.args.mode;
  collects = c.args.collects;
  before = record { marker = record {}; value = c.of.ensures k };
  banks = c.args.banks;
  lines = c.new.ensures k;
  at = c.first-at.ensures k;
}
