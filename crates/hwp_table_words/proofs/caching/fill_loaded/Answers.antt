use Rattle.std.proofs.Common.{◌*◌, sym, true≢false}
use Rattle.hwp_table_words.proofs.Follows.{can-fill, guard-free}
use Rattle.hwp_table_words.proofs.caching.fill_loaded.Goals as goal

pub fill-requires-clause-can : goal.fill-requires-clause-can
fill-requires-clause-can g c =
    can-fill c.args.layout.now c.args.seat.now.me c.args.order.now c.requires.carries c.args.slot c.args.found c.in-Some.frame c.in-Some.ensures.0 c.in-Some.ensures.1 c.in-Some.ensures.2 c.requires.shown

pub returns-clause-guarded : goal.returns-clause-guarded
returns-clause-guarded g c =
    guard-free c.args.layout.now c.args.seat.now.me c.args.order.now c.requires.carries (g.W.Ways.ways * c.args.layout.now.cpus) c.fill.new.seat.me c.fill.ensures.rest (λ any. true≢false (sym (c.if-carries_page.ensures.1 any)))
