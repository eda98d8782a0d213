use Rattle.std.proofs.Common.{◌≡◌, ◌+◌, ◌<◌, [], ◌∷◌, ◌++◌, length, map, refl, sym, ap, ◌∙◌, subst, arith}
use Rattle.std.proofs.lemmas.List.{append-nil}
use Rattle.std.proofs.lemmas.Result.{IfOk-from_err}
use Rattle.crossbeam_utils.specs.Padded.{padded_value}
use Rattle.hwp_table_words.specs.Known.{idling}
use Rattle.hwp_table_words.specs.Seats.{cpu_of, mine_of, slots_of, value_of}
use Rattle.hwp_table_words.specs.Stands.{Me}
use Rattle.hwp_threads.specs.Dealing.{CanDeal, seat_at, seat_known, workers_at}
use Rattle.hwp_threads.proofs.Pieces.{deal-more, none-here, taken-first}
use Rattle.hwp_threads.proofs.SeatDeals.{deals-on}
use Rattle.hwp_threads.proofs.dealing.deal.Goals as goal

pub loop-cpu-preserved : goal.loop-cpu-preserved
loop-cpu-preserved g c =
    let i = c.loop-cpu.invariant in
    let less : c.loop-cpu.cpu < c.args.layout.now.cpus = omega (arith, c.loop-cpu-test.true) in
    let some : 0 < length c.loop-cpu.tasks.items = omega (arith, i.count, less) in
    let first = taken-first c.loop-cpu.tasks.items c.remove-task.result c.remove-task.new.self.items some c.remove-task.ensures.value c.remove-task.ensures.items in
    let own : c.split-own.result.me ≡ (idling (seat_known c.loop-cpu.cpu), []) = c.split-own.ensures.new ∙ (λ j. (idling (i.can.each c.loop-cpu.cpu (omega arith) less j), [])) in
    let seat : c.new-seat.result ≡ seat_at c.args.sheet.now.table_id c.args.layout.now c.loop-cpu.cpu = c.new-seat.ensures ∙ (λ j. value_of c.args.sheet.now.table_id c.args.layout.now (own j).0) in
    record {
      same = c.split-own.ensures.same.0 ∙ i.same;
      slots = ap (λ (m : Me). m.1) c.split-own.ensures.seat ∙ i.slots;
      can = subst (λ (m : Me). CanDeal (c.loop-cpu.cpu + 1) c.args.layout.now.cpus m.0.known) (sym c.split-own.ensures.seat) (deals-on c.loop-cpu.cpu c.args.layout.now.cpus c.loop-cpu.pass.me.0.known i.can);
      count = omega (arith, i.count, ap length first);
      so_far = deal-more c.args.sheet.now.table_id c.args.layout.now c.loop-cpu.workers.items c.push.new.self.items c.new-in-loop-cpu.result c.new.result c.new-seat.result c.loop-cpu.cpu c.remove-task.result c.loop-cpu.tasks.items c.remove-task.new.self.items _
          first seat c.new.ensures c.new-in-loop-cpu.ensures c.in_ok-push.ensures.items i.so_far;
    }

pub new-seat-requires-clause-table : goal.new-seat-requires-clause-table
new-seat-requires-clause-table g c = c.requires.table

pub new-seat-requires-clause-same : goal.new-seat-requires-clause-same
new-seat-requires-clause-same g c = c.split-own.ensures.same.1 ∙ c.loop-cpu.invariant.same

pub new-seat-requires-clause-one : goal.new-seat-requires-clause-one
new-seat-requires-clause-one g c =
    let less : c.loop-cpu.cpu < c.args.layout.now.cpus = omega (arith, c.loop-cpu-test.true) in
    let own : c.split-own.result.me ≡ (idling (seat_known c.loop-cpu.cpu), []) = c.split-own.ensures.new ∙ (λ j. (idling (c.loop-cpu.invariant.can.each c.loop-cpu.cpu (omega arith) less j), [])) in
    subst (λ (m : Me). m.0.known.mines ≡ (cpu_of m.0.known.mines, mine_of m.0.known.mines) ∷ []) (sym own) refl

pub new-seat-requires-clause-bare : goal.new-seat-requires-clause-bare
new-seat-requires-clause-bare g c =
    let less : c.loop-cpu.cpu < c.args.layout.now.cpus = omega (arith, c.loop-cpu-test.true) in
    let own : c.split-own.result.me ≡ (idling (seat_known c.loop-cpu.cpu), []) = c.split-own.ensures.new ∙ (λ j. (idling (c.loop-cpu.invariant.can.each c.loop-cpu.cpu (omega arith) less j), [])) in
    subst (λ (m : Me). (m.1 ≡ []) × (slots_of c.args.layout.now (mine_of m.0.known.mines) ≡ [])) (sym own) (refl, refl)

pub new-seat-requires-clause-idle : goal.new-seat-requires-clause-idle
new-seat-requires-clause-idle g c = ap (λ (m : Me). m.0.caching) c.split-own.ensures.new

pub returns-in_err-push-clause-left : goal.returns-in_err-push-clause-left
returns-in_err-push-clause-left g c = IfOk-from_err c.from_residual.result _ c.from_residual.ensures.0

pub returns-in_err-push-clause-workers : goal.returns-in_err-push-clause-workers
returns-in_err-push-clause-workers g c = IfOk-from_err c.from_residual.result _ c.from_residual.ensures.0

pub returns-clause-left : goal.returns-clause-left
returns-clause-left g c = record { same = c.loop-cpu.invariant.same; slots = c.loop-cpu.invariant.slots; unused = c.loop-cpu.invariant.can.unused }

pub loop-cpu-init : goal.loop-cpu-init
loop-cpu-init g c = record {
  same = c.requires.seat.0;
  slots = c.requires.seat.1;
  can = c.requires.seat.2;
  count = omega (arith, c.requires.one_each);
  so_far = ap (λ ws. map padded_value ws ++ workers_at c.args.sheet.now.table_id c.args.layout.now 0 c.args.tasks.items) c.new-workers.ensures.items;
}

pub returns-clause-workers : goal.returns-clause-workers
returns-clause-workers g c =
    let i = c.loop-cpu.invariant in
    let end = c.loop-cpu-test.false in
    let none = none-here c.loop-cpu.tasks.items (omega (arith, i.count, end)) in
    sym (append-nil (map padded_value c.loop-cpu.workers.items)) ∙ ap (λ ts. map padded_value c.loop-cpu.workers.items ++ workers_at c.args.sheet.now.table_id c.args.layout.now c.loop-cpu.cpu ts) (sym none) ∙ i.so_far
