use Rattle.std.proofs.Common.{◌*◌, refl, sym, true≢false}
use Rattle.hwp_table_words.proofs.Follows.{guard-free, guard-one}
use Rattle.hwp_table_words.proofs.caching.sweep_locked.Goals as goal

pub returns-clause-guarded : goal.returns-clause-guarded
returns-clause-guarded g c =
    guard-one c.args.layout.now c.args.seat.now.me c.args.order.now c.requires.carries (g.W.Ways.ways * c.args.layout.now.cpus) c.sweep.new.seat.me c.sweep.ensures.rest c.args.frame c.requires.guarded c.sweep.ensures.swept

pub returns-clause-rest : goal.returns-clause-rest
returns-clause-rest g c = c.sweep.ensures.rest.rest

pub returns-then-not-carries_page-clause-guarded : goal.returns-then-not-carries_page-clause-guarded
returns-then-not-carries_page-clause-guarded g c = guard-free c.args.layout.now c.args.seat.now.me c.args.order.now c.requires.carries (g.W.Ways.ways * c.args.layout.now.cpus) c.args.seat.now.me refl (λ any. true≢false (sym (c.if-not-carries_page.ensures.1 any)))
