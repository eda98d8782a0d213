use Rattle.hwp_table_words.proofs.SeatDeals.{lets}
use Rattle.hwp_table_words.proofs.baton.let_go.Goals as goal

pub split_seat-requires : goal.split_seat-requires
split_seat-requires g c = (c.requires.fits.0, c.requires.fits.1, lets g.W.Ways.ways c.args.sheet.now.key _ _)
