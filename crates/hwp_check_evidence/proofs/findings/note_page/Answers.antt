use Rattle.std.proofs.Common.{ℕ, ◌+◌, drop, fold, ap, sym, ◌∙◌}
use Rattle.std.proofs.lemmas.List.{at_drop_all, at_drop_more}
use Rattle.hwp_law.specs.hwp_page.declared.Entry.{Entry}
use Rattle.hwp_check_event_line.specs.Reading.{copies_in}
use Rattle.hwp_check_evidence.specs.Ends.{any_ended, own_ended, own_page_ends}
use Rattle.hwp_check_evidence.specs.Firsts.{is_named}
use Rattle.hwp_check_evidence.specs.Named.{flagged, flagged_page}
use Rattle.hwp_check_evidence.proofs.FindingLaws.{fold-next}
use Rattle.hwp_check_evidence.proofs.findings.note_page.Goals as goal

pub loop-entry-preserved : goal.loop-entry-preserved
loop-entry-preserved c = (
  ap (λ (n : ℕ). n + 1) c.loop-entry.invariant.0,
  rw c.end_any.ensures (fold-next (any_ended c.args.layout.now c.args.cpu) c.loop-entry.ends.items _ c.args.entries.now c.loop-entry.entry-index _ c.loop-entry-test.true c.entry-item.is c.loop-entry.invariant.1),
  rw c.end_own.ensures (fold-next (own_ended c.args.layout.now c.args.cpu) c.loop-entry.ended.items _ c.args.entries.now c.loop-entry.entry-index _ c.loop-entry-test.true c.entry-item.is c.loop-entry.invariant.2),
  rw c.flag.ensures (
      ap (λ (e : Entry). flagged_page (is_named c.args.names.now) (copies_in c.args.copies.now) c.args.cpu c.args.page (flagged (is_named c.args.names.now) (copies_in c.args.copies.now) c.args.cpu c.loop-entry.others.items (record { page = c.args.page; entry = c.loop-entry.number }) e) (c.loop-entry.number + 1) (drop (c.loop-entry.entry-index + 1) c.args.entries.now)) c.entry-item.is
      ∙ sym (at_drop_more (flagged_page (is_named c.args.names.now) (copies_in c.args.copies.now) c.args.cpu c.args.page c.loop-entry.others.items c.loop-entry.number) c.args.entries.now c.loop-entry.entry-index _ c.loop-entry-test.true)
      ∙ c.loop-entry.invariant.3
      ),
)

pub returns-clause-any : goal.returns-clause-any
returns-clause-any c = sym (at_drop_all (fold (any_ended c.args.layout.now c.args.cpu) c.loop-entry.ends.items) c.args.entries.now c.loop-entry.entry-index c.loop-entry-test.false) ∙ c.loop-entry.invariant.1

pub returns-clause-own : goal.returns-clause-own
returns-clause-own c = sym (at_drop_all (own_page_ends c.args.layout.now c.args.cpu c.loop-entry.ended.items) c.args.entries.now c.loop-entry.entry-index c.loop-entry-test.false) ∙ c.loop-entry.invariant.2

pub returns-clause-others : goal.returns-clause-others
returns-clause-others c =
    sym (at_drop_all (flagged_page (is_named c.args.names.now) (copies_in c.args.copies.now) c.args.cpu c.args.page c.loop-entry.others.items c.loop-entry.number) c.args.entries.now c.loop-entry.entry-index c.loop-entry-test.false)
    ∙ c.loop-entry.invariant.3
