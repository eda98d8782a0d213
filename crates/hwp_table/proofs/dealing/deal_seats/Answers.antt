use Rattle.std.proofs.Common.{◌≡◌, ◌<◌, [], ◌∷◌, ◌++◌, refl, sym, ap, ◌∙◌, subst, arith}
use Rattle.hwp_table_words.proofs.of_hwp_plain.SlotLists.{map-more}
use Rattle.hwp_table_words.specs.Seats.{SeatValue, cpu_of, mine_of, slots_of, value_of}
use Rattle.hwp_table_words.specs.Stands.{Me}
use Rattle.hwp_table.specs.Seats.{seat_open}
use Rattle.hwp_table.proofs.Dealt.{own-is, left-is}
use Rattle.hwp_table.proofs.dealing.deal_seats.Goals as goal

pub new-requires-clause-one : goal.new-requires-clause-one
new-requires-clause-one g c =
    let less : c.loop-cpu.cpu < c.args.layout.now.cpus = omega (arith, c.loop-cpu-test.true) in
    subst (λ (m : Me). m.0.known.mines ≡ (cpu_of m.0.known.mines, mine_of m.0.known.mines) ∷ []) (sym (own-is c.args.layout.now.cpus c.loop-cpu.cpu less c.loop-cpu.pass.me c.split-own.result.me c.split-own.new.seat.me c.loop-cpu.invariant.pass c.split-own.ensures.new)) refl

pub new-requires-clause-bare : goal.new-requires-clause-bare
new-requires-clause-bare g c =
    let less : c.loop-cpu.cpu < c.args.layout.now.cpus = omega (arith, c.loop-cpu-test.true) in
    subst (λ (m : Me). (m.1 ≡ []) × (slots_of c.args.layout.now (mine_of m.0.known.mines) ≡ [])) (sym (own-is c.args.layout.now.cpus c.loop-cpu.cpu less c.loop-cpu.pass.me c.split-own.result.me c.split-own.new.seat.me c.loop-cpu.invariant.pass c.split-own.ensures.new)) (refl, refl)

pub new-requires-clause-idle : goal.new-requires-clause-idle
new-requires-clause-idle g c = ap (λ (m : Me). m.0.caching) c.split-own.ensures.new

pub loop-cpu-preserved : goal.loop-cpu-preserved
loop-cpu-preserved g c =
    let i = c.loop-cpu.invariant in
    let less : c.loop-cpu.cpu < c.args.layout.now.cpus = omega (arith, c.loop-cpu-test.true) in
    let own = own-is c.args.layout.now.cpus c.loop-cpu.cpu less c.loop-cpu.pass.me c.split-own.result.me c.split-own.new.seat.me i.pass c.split-own.ensures.new in
    let seat : c.new.result ≡ seat_open c.args.sheet.now.table_id c.args.layout.now c.loop-cpu.cpu = c.new.ensures ∙ (λ j. value_of c.args.sheet.now.table_id c.args.layout.now (own j).0) in
    record {
      seats = c.in_ok-push.ensures.items ∙ ap (λ (s : SeatValue). c.loop-cpu.seats.items ++ s ∷ []) seat ∙ map-more (seat_open c.args.sheet.now.table_id c.args.layout.now) c.loop-cpu.seats.items c.loop-cpu.cpu i.seats;
      same = c.split-own.ensures.same.0 ∙ i.same;
      pass = left-is c.args.layout.now.cpus c.loop-cpu.cpu less c.loop-cpu.pass.me c.split-own.result.me c.split-own.new.seat.me i.pass c.split-own.ensures.seat;
    }
