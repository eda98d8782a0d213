use Rattle.std.proofs.Common.{ap, ◌∙◌, arith}
use Rattle.hwp_check_rules.specs.hwp_page.declared.Entry.{Entry}
use Rattle.hwp_check_processes.specs.Busy.{marked_by}
use Rattle.hwp_check_processes.proofs.Folds.{folded-all, folded-next}
use Rattle.hwp_check_processes.proofs.busy.mark_entries.Goals as goal

pub loop-entry-preserved : goal.loop-entry-preserved
loop-entry-preserved c =
    folded-next (marked_by c.args.cpu) c.args.entries.now c.loop-entry.entry-index _ c.loop-entry.flags.items c.mark_entry.new.flags.items _ c.loop-entry-test.true
    (c.mark_entry.ensures ∙ ap (λ (e : Entry). marked_by c.args.cpu c.loop-entry.flags.items e) c.entry-item.is) c.loop-entry.invariant

pub returns : goal.returns
returns c = folded-all (marked_by c.args.cpu) c.args.entries.now c.loop-entry.entry-index c.loop-entry.flags.items _ (let past = c.loop-entry-test.false in omega arith) c.loop-entry.invariant
