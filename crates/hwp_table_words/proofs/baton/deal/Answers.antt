use Rattle.hwp_table_words.proofs.SeatDeals.{deals-named}
use Rattle.hwp_table_words.proofs.baton.deal.Goals as goal

pub split_seat-requires : goal.split_seat-requires
split_seat-requires g c = (c.requires.fits.0, c.requires.fits.1, deals-named g.W.Ways.ways c.args.sheet.now.key _ _ _ c.args.cpu.0 c.requires.named)
