use Rattle.std.proofs.Common.{sym, ◌∙◌}
use Rattle.hwp_table_words.proofs.Sweeps.{gone-cleared, gone-on, passed-cleared, passed-on}
use Rattle.hwp_table_words.proofs.caching.clear.Goals as goal

pub returns-then-names-clause-rest : goal.returns-then-names-clause-rest
returns-then-names-clause-rest g c = gone-on c.args.frame.0 c.args.place c.search-seen.result c.args.seat.now.me c.search-seen.new.seat.me c.search-seen.ensures.looked (sym c.names.ensures ∙ c.if-names.true)
    c.flush.ensures.flushed.0 c.flush.new.seat.me c.flush.ensures.flushed.1

pub returns-then-names-clause-cleared : goal.returns-then-names-clause-cleared
returns-then-names-clause-cleared g c = gone-cleared c.args.frame.0 c.args.place c.search-seen.result c.args.seat.now.me c.search-seen.new.seat.me c.search-seen.ensures.looked (sym c.names.ensures ∙ c.if-names.true)
    c.flush.ensures.flushed.0 c.flush.new.seat.me c.flush.ensures.flushed.1

pub returns-else-names-clause-rest : goal.returns-else-names-clause-rest
returns-else-names-clause-rest g c = passed-on c.args.frame.0 c.args.place c.search-seen.result c.args.seat.now.me c.search-seen.new.seat.me c.search-seen.ensures.looked (sym c.names.ensures ∙ c.if-names.false)

pub returns-else-names-clause-cleared : goal.returns-else-names-clause-cleared
returns-else-names-clause-cleared g c = passed-cleared c.args.frame.0 c.args.place c.search-seen.result c.args.seat.now.me c.search-seen.new.seat.me c.search-seen.ensures.looked (sym c.names.ensures ∙ c.if-names.false)
