use Rattle.hwp_scrub.specs.declared.scrub.ScrubAt.TheVariants as at
use Rattle.hwp_scrub.proofs.scrub.Scrub.new.Goals as goal

pub returns : goal.returns
returns c = λ i. record {
  alloc = c.args.alloc;
  who = c.args.who;
  first = c.args.first;
  last = c.args.last;
  before = record { marker = record {}; value = c.of.ensures i };
  banks = c.args.banks;
  lines = c.new.ensures i;
  at = at.LoadStop;
}
