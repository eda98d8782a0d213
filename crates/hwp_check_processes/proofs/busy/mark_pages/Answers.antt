use Rattle.std.proofs.Common.{List, ap, ◌∙◌, arith}
use Rattle.hwp_check_rules.specs.hwp_page.declared.Entry.{Entry}
use Rattle.hwp_check_processes.specs.Busy.{marked_in}
use Rattle.hwp_check_processes.proofs.Folds.{folded-all, folded-next}
use Rattle.hwp_check_processes.proofs.busy.mark_pages.Goals as goal

pub loop-page-preserved : goal.loop-page-preserved
loop-page-preserved c =
    folded-next (marked_in c.args.cpu) c.args.pages.now c.loop-page.page-index _ c.loop-page.flags.items c.mark_entries.new.flags.items _ c.loop-page-test.true
    (c.mark_entries.ensures ∙ ap (λ (l : List Entry). marked_in c.args.cpu c.loop-page.flags.items l) (c.as_slice.ensures ∙ c.page-item.is)) c.loop-page.invariant

pub returns : goal.returns
returns c = folded-all (marked_in c.args.cpu) c.args.pages.now c.loop-page.page-index c.loop-page.flags.items _ (let past = c.loop-page-test.false in omega arith) c.loop-page.invariant
