use Rattle.std.proofs.Common.{ℕ, ◌≤◌, sym, ◌∙◌, subst}
use Rattle.hwp_table_words.proofs.EntryAsks.{entry-of}
use Rattle.hwp_table_words.proofs.Follows.{is-load}
use Rattle.hwp_table_words.proofs.Looked.{at-table, can-look, has-looked, some-load}
use Rattle.hwp_table_words.proofs.caching.look.Goals as goal

pub look_as-entry-requires-clause-entry : goal.look_as-entry-requires-clause-entry
look_as-entry-requires-clause-entry g c =
    entry-of (at-table g.W.Ways.ways c.args.layout.now c.args.sheet.now.key c.args.sheet.now.table_id c.args.seat.now.table_id c.args.seat.now.me c.requires.seat.0 c.requires.seat.1
    (subst (λ (n : ℕ). n ≤ 16) c.ways-ways.ensures.value c.ways-ways.ensures.few)) c.entry_at-word.ensures c.in-Some.ensures.1

pub look_as-entry-requires-clause-can : goal.look_as-entry-requires-clause-can
look_as-entry-requires-clause-can g c =
    can-look g.W.Ways.ways c.args.layout.now c.args.sheet.now.key c.args.sheet.now.table_id c.args.seat.now.table_id c.args.seat.now.me c.requires.seat.0 c.requires.seat.1
    c.args.who c.in-Fill.slot c.in-Some.place c.args.step.now c.requires.can.0 (is-load c.args.step.now 0 c.in-Fill.slot (sym c.follow_of.ensures ∙ c.in-Fill.is)) c.requires.guarded c.requires.right c.requires.can.1

pub returns-clause-looked : goal.returns-clause-looked
returns-clause-looked g c =
    has-looked g.W.Ways.ways c.args.layout.now c.args.sheet.now.key c.args.sheet.now.table_id c.args.seat.now.table_id c.args.seat.now.me c.requires.seat.0 c.requires.seat.1
    c.args.who c.in-Fill.slot c.in-Some.place c.args.step.now c.entry_at-word.result c.look_as-entry.result c.answer_of.result c.look_as-entry.new.seat.me
    (is-load c.args.step.now 0 c.in-Fill.slot (sym c.follow_of.ensures ∙ c.in-Fill.is)) c.look_as-entry.ensures.looked c.answer_of.ensures

pub returns-clause-load : goal.returns-clause-load
returns-clause-load g c = some-load c.answer_of.result c.args.step.now c.in-Fill.slot (is-load c.args.step.now 0 c.in-Fill.slot (sym c.follow_of.ensures ∙ c.in-Fill.is))
