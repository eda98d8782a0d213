use Rattle.hwp_scrub.specs.declared.raise.RaiseAt.TheVariants as at
use Rattle.hwp_scrub.proofs.raise.Raise.new.Goals as goal

pub returns : goal.returns
returns c = λ i. record {
  alloc = c.args.alloc;
  who = c.args.who;
  raiser = c.args.raiser;
  mcg = c.args.mcg;
  before = record { marker = record {}; value = c.of.ensures i };
  banks = c.args.banks;
  lines = c.new.ensures i;
  at = at.LoadStop;
}
