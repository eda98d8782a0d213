use Rattle.std.proofs.Common.{◌+◌, List, map, sym, subst}
use Rattle.std.proofs.lemmas.Result.{IfOk-from_err}
use Rattle.hwp_core_rule.specs.hwp_page.declared.Entry.{Entry}
use Rattle.hwp_plain.specs.Openings.{home_with}
use Rattle.hwp_plain.proofs.TakenHistories.{Taken, next-body, next-taken}
use Rattle.hwp_plain.proofs.closing.histories.Goals as goal

pub take_history-requires : goal.take_history-requires
take_history-requires c = record {
  full = next-body c.args.frames c.args.caches.now (map home_with c.args.bodies.items) (map home_with c.loop-page.bodies.items) c.loop-page.page c.loop-page.pages.items c.requires.led c.loop-page.invariant c.loop-page-test.true c.slot_by-slot.result c.slot_by-slot.ensures;
}

pub loop-page-preserved : goal.loop-page-preserved
loop-page-preserved c =
    subst (λ (l : List (List Entry)). Taken c.args.frames c.args.caches.now (map home_with c.args.bodies.items) (map home_with c.take_history.new.bodies.items) (c.loop-page.page + 1) l) (sym c.in_ok-push.ensures.items)
    (next-taken c.args.frames c.args.caches.now (map home_with c.args.bodies.items) (map home_with c.loop-page.bodies.items) c.loop-page.page c.loop-page.pages.items c.requires.led c.loop-page.invariant c.loop-page-test.true c.slot_by-slot.result c.slot_by-slot.ensures
    (map home_with c.take_history.new.bodies.items) c.take_history.result c.take_history.ensures.homes c.take_history.ensures.history)

pub returns-in_err-push-clause-count : goal.returns-in_err-push-clause-count
returns-in_err-push-clause-count c = IfOk-from_err c.from_residual.result _ c.from_residual.ensures.0

pub returns-in_err-push-clause-pages : goal.returns-in_err-push-clause-pages
returns-in_err-push-clause-pages c = IfOk-from_err c.from_residual.result _ c.from_residual.ensures.0
