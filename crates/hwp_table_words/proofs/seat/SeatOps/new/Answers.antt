use Rattle.std.proofs.Common.{◌*◌}
use Rattle.hwp_table_words.proofs.SeatKeeps.{seat-new, cache-new}
use Rattle.hwp_table_words.proofs.seat.SeatOps.new.Goals as goal

pub invariant_of-result : goal.invariant_of-result
invariant_of-result g c = (
  seat-new g.W.Ways.ways c.args.layout.now c.args.sheet.now.key c.args.sheet.now.table_id c.args.pass.table_id c.args.pass.me c.new.result.items
      c.requires.table.0 c.requires.table.1 c.requires.same c.requires.one c.requires.bare.0 c.requires.bare.1 c.new.ensures,
  cache-new (g.W.Ways.ways * c.args.layout.now.cpus) c.args.layout.now c.args.pass.me.0 c.requires.bare.1 c.requires.idle,
)
