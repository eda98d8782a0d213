use Rattle.hwp_table_words.proofs.SeatDeals.{joins}
use Rattle.hwp_table_words.proofs.baton.join.Goals as goal

pub join_seat-requires : goal.join_seat-requires
join_seat-requires g c = (c.requires.fits.0, c.requires.fits.1, c.requires.empty, c.requires.fits.2, joins g.W.Ways.ways c.args.sheet.now.key _ _ _ _)
