use Rattle.std.proofs.Common.{◌<◌, ◌++◌, length, slice_get, refl, sym, ap, ◌∙◌, subst, arith}
use Rattle.std.proofs.lemmas.Bool.{eqb-true}
use Rattle.std.proofs.lemmas.Result.{IfOk-from_err}
use Rattle.hwp_threads.proofs.Pieces.{none-here, taken-first}
use Rattle.hwp_threads.proofs.SeatJoins.{SoFar, taking-ends, taking-more, tasks_in}
use Rattle.hwp_threads.proofs.gathering.gather.Goals as goal

pub loop-workers-preserved : goal.loop-workers-preserved
loop-workers-preserved g c =
    let o = c.loop-workers.workers.ok in
    let some : 0 < length c.loop-workers.workers.items = omega (arith, o, c.remove-worker.ensures.len) in
    let first = taken-first c.loop-workers.workers.items c.remove-worker.result c.remove-worker.new.self.items some c.remove-worker.ensures.value c.remove-worker.ensures.items in
    subst (λ ts. SoFar c.args.sheet.now.table_id c.args.pass.me.0.known c.args.workers.items c.remove-worker.new.self.items c.bring.new.pass.table_id c.bring.new.pass.me ts) (sym c.in_ok-push.ensures.items)
    (taking-more c.args.sheet.now.table_id c.args.pass.me.0.known c.args.workers.items c.remove-worker.result c.remove-worker.new.self.items c.loop-workers.workers.items c.loop-workers.pass.table_id c.bring.new.pass.table_id c.loop-workers.pass.me c.bring.new.pass.me
    c.loop-workers.tasks.items c.in_ok-bring.field-0 first c.loop-workers.invariant c.in_ok-bring.ensures)

pub returns : goal.returns
returns g c = taking-ends c.args.sheet.now.table_id c.args.pass.me.0.known c.args.workers.items c.loop-workers.workers.items c.loop-workers.pass.table_id c.loop-workers.pass.me c.loop-workers.tasks.items
    (none-here c.loop-workers.workers.items (let o = c.loop-workers.workers.ok in omega (arith, o, eqb-true c.loop-workers.workers.len 0 (sym c.is_empty.ensures ∙ c.loop-workers-test.false)))) c.loop-workers.invariant

pub returns-in_err-bring : goal.returns-in_err-bring
returns-in_err-bring g c = IfOk-from_err c.from_residual.result _ c.from_residual.ensures.0

pub returns-in_err-push : goal.returns-in_err-push
returns-in_err-push g c = IfOk-from_err c.from_residual-in_err-push.result _ c.from_residual-in_err-push.ensures.0

pub loop-workers-init : goal.loop-workers-init
loop-workers-init g c = record {
  same = c.requires.fits.0;
  slots = c.requires.fits.2;
  mines = refl;
  own = refl;
  tasks_are = ap (λ ts. ts ++ tasks_in c.args.workers.items) c.new-tasks.ensures.items;
  bare = c.requires.bare;
  going = λ each. each;
}

pub loop-workers-smaller : goal.loop-workers-smaller
loop-workers-smaller g c =
    let o = c.loop-workers.workers.ok in
    let some : 0 < length c.loop-workers.workers.items = omega (arith, o, c.remove-worker.ensures.len) in
    let first = taken-first c.loop-workers.workers.items c.remove-worker.result c.remove-worker.new.self.items some c.remove-worker.ensures.value c.remove-worker.ensures.items in
    let count = ap length first in
    omega (arith, count)

pub bring-requires-clause-fits : goal.bring-requires-clause-fits
bring-requires-clause-fits g c = (c.loop-workers.invariant.same, c.requires.fits.1)

pub bring-requires-clause-bare : goal.bring-requires-clause-bare
bring-requires-clause-bare g c =
    let o = c.loop-workers.workers.ok in
    let some : 0 < length c.loop-workers.workers.items = omega (arith, o, c.remove-worker.ensures.len) in
    let first = taken-first c.loop-workers.workers.items c.remove-worker.result c.remove-worker.new.self.items some c.remove-worker.ensures.value c.remove-worker.ensures.items in
    c.loop-workers.invariant.bare 0 c.remove-worker.result (ap (λ ws. slice_get ws 0) first)
