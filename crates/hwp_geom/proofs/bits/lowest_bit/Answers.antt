use Rattle.hwp_geom.proofs.BitLaws.{no_bit, lowest_bit_at}
use Rattle.hwp_geom.proofs.bits.lowest_bit.Goals as goal

pub returns-then-rest-eq0-clause-lowest : goal.returns-then-rest-eq0-clause-lowest
returns-then-rest-eq0-clause-lowest c = no_bit c.args.word c.args.from c.if-rest-eq0.true

pub returns-else-rest-eq0-clause-lowest : goal.returns-else-rest-eq0-clause-lowest
returns-else-rest-eq0-clause-lowest c = lowest_bit_at c.args.word c.args.from c.ranges.word.fits c.if-rest-eq0.false
