use denote.Param.Send.{sendable}
use Rattle.std.proofs.Common.{◌≡◌, length, sym, ap, subst, arith}
use Rattle.hwp_threads.specs.hwp_table_words.Stands.{Me}
use Rattle.hwp_threads.specs.Dealing.{CanDeal}
use Rattle.hwp_threads.proofs.SeatMoves.{stays-ready}
use Rattle.hwp_threads.proofs.SeatDeals.{first-deals}
use Rattle.hwp_top.proofs.Crewed.{bare-then, can-run-all, run-then}
use Rattle.hwp_top.proofs.ProcessorSends.{processor-sent}
use Rattle.hwp_top.proofs.threading.run_crew.Goals as goal

pub deal-requires-clause-seat : goal.deal-requires-clause-seat
deal-requires-clause-seat g c = (
  c.requires.seat.0,
  ap (λ (m : Me). m.1) c.requires.seat.1,
  subst (λ (m : Me). CanDeal 0 c.args.script.now.layout.cpus m.0.known) (sym c.requires.seat.1) (first-deals c.args.script.now.layout),
)

pub run_all-requires-clause-law : goal.run_all-requires-clause-law
run_all-requires-clause-law g c κs within = stays-ready

pub run_all-requires-clause-can : goal.run_all-requires-clause-can
run_all-requires-clause-can g c κs within = can-run-all c.args.script.now c.in_ok-crew.crew.items c.requires.valid c.in_ok-crew.ensures c.args.sheet.now.table_id c.in_ok-pass.workers.items c.deref_mut.result.now c.in_ok-pass.ensures.workers c.deref_mut.ensures.value

pub run_all-requires-send-T : goal.run_all-requires-send-T
run_all-requires-send-T g c κs within = search (processor-sent, sendable) depth 20

pub gather-requires-clause-bare : goal.gather-requires-clause-bare
gather-requires-clause-bare g c =
    let whole : length c.run_all.new.workers ≡ c.in_ok-pass.workers.len = omega (arith, c.run_all.ensures.count, c.deref_mut.ensures.len) in
    bare-then c.args.script.now c.in_ok-crew.crew.items c.requires.valid c.in_ok-crew.ensures c.args.sheet.now.table_id c.in_ok-pass.workers.items c.deref_mut.result.now c.in_ok-pass.ensures.workers c.deref_mut.ensures.value
    c.in_ok-pass.workers.len c.run_all.new.workers whole c.run_all.ensures.count c.run_all.ensures.ran

pub returns-clause-knows : goal.returns-clause-knows
returns-clause-knows g c =
    let whole : length c.run_all.new.workers ≡ c.in_ok-pass.workers.len = omega (arith, c.run_all.ensures.count, c.deref_mut.ensures.len) in
    record {
      now = c.in_ok-seat.tasks.items;
      ran = run-then c.args.script.now c.in_ok-crew.crew.items c.requires.valid c.in_ok-crew.ensures c.args.sheet.now.table_id c.in_ok-pass.workers.items c.deref_mut.result.now c.in_ok-pass.ensures.workers c.deref_mut.ensures.value
          c.in_ok-pass.workers.len c.run_all.new.workers whole c.run_all.ensures.count c.run_all.ensures.ran
          c.in_ok-pass.pass.me.0.known c.in_ok-pass.ensures.left.unused c.in_ok-seat.seat.table_id c.in_ok-seat.seat.me c.in_ok-seat.tasks.items c.in_ok-seat.ensures;
      finished = c.in_ok-rows.ensures;
    }
