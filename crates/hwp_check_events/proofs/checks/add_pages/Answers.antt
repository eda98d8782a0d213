use Rattle.std.proofs.Common.{List, ◌++◌, ap, refl, ◌∙◌, arith}
use Rattle.hwp_law.specs.hwp_page.declared.Entry.{Entry}
use Rattle.hwp_check_events.specs.Indexed.{all_checkers, page_checkers}
use Rattle.hwp_check_events.proofs.Joined.{joined-all, joined-next}
use Rattle.hwp_check_events.proofs.checks.add_pages.Goals as goal

pub loop-entries-preserved : goal.loop-entries-preserved
loop-entries-preserved c =
    joined-next all_checkers page_checkers (λ e es. refl) refl c.args.pages.now c.loop-entries.entries-index _ c.loop-entries.out.items c.add_page.new.out.items _ c.loop-entries-test.true
    (c.in_ok-add_page.ensures ∙ ap (λ (l : List Entry). c.loop-entries.out.items ++ page_checkers l) (c.as_slice.ensures ∙ c.entries-item.is)) c.loop-entries.invariant

pub returns : goal.returns
returns c = joined-all all_checkers page_checkers (λ e es. refl) refl c.args.pages.now c.loop-entries.entries-index c.loop-entries.out.items _ (let past = c.loop-entries-test.false in omega arith) c.loop-entries.invariant
