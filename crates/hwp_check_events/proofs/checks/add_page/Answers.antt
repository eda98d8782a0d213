use Rattle.std.proofs.Common.{◌++◌, ap, refl, ◌∙◌, arith}
use Rattle.hwp_law.specs.hwp_page.declared.Entry.{Entry}
use Rattle.hwp_check_events.specs.Indexed.{checker, page_checkers}
use Rattle.hwp_check_events.proofs.Joined.{joined-all, joined-next}
use Rattle.hwp_check_events.proofs.checks.add_page.Goals as goal

pub loop-entry-preserved : goal.loop-entry-preserved
loop-entry-preserved c =
    joined-next page_checkers checker (λ e es. refl) refl c.args.entries.now c.loop-entry.entry-index _ c.loop-entry.out.items c.add_checker.new.out.items _ c.loop-entry-test.true
    (c.in_ok-add_checker.ensures ∙ ap (λ (e : Entry). c.loop-entry.out.items ++ checker e) c.entry-item.is) c.loop-entry.invariant

pub returns : goal.returns
returns c = joined-all page_checkers checker (λ e es. refl) refl c.args.entries.now c.loop-entry.entry-index c.loop-entry.out.items _ (let past = c.loop-entry-test.false in omega arith) c.loop-entry.invariant
