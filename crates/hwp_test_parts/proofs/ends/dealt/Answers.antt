use Rattle.std.proofs.Common.{◌≡◌, map, sym, ap, ◌∙◌, subst, arith}
use Rattle.hwp_core.specs.hwp_geom.declared.Layout.{Layout}
use Rattle.hwp_core.specs.hwp_core_rule.declared.State.{State}
use Rattle.hwp_core.specs.hwp_core_rule.Opening.{opening}
use Rattle.hwp_table.specs.Seats.{AreSeats}
use Rattle.hwp_table.specs.hwp_table_words.Ends.{HasAll}
use Rattle.hwp_table.specs.hwp_table_words.Known.{joined}
use Rattle.hwp_table.specs.hwp_table_words.Seats.{mine}
use Rattle.hwp_table.specs.hwp_table_words.Stands.{Me}
use Rattle.hwp_test_parts.proofs.SeatPasses.{all-joined, first-table, second-table, two-seats}
use Rattle.hwp_test_parts.proofs.ends.dealt.Goals as goal

pub join-requires-clause-fits : goal.join-requires-clause-fits
join-requires-clause-fits g c =
    let layout = c.args.layout.now in
    let layout-is : c.expect-board.result.layout ≡ layout = rw c.expect-board.ensures at c.new.ensures.layout in
    let are : AreSeats g.N.OfTable.table layout c.seats.result = subst (λ (l : Layout). AreSeats g.N.OfTable.table l c.seats.result) layout-is c.seats.ensures.seats in
    let two = two-seats g.N.OfTable.table layout c.seats.result c.into_vec-seats.result.items c.pop.new.self.items c.pop-2.new.self.items c.expect-first.result c.expect-second.result are c.requires.two
    c.into_vec-seats.ensures (rw c.expect-second.ensures at c.pop.ensures.items) (rw c.expect-first.ensures at c.pop-2.ensures.items) in (
      c.pass-pass.ensures.same.0 ∙ first-table g.N.OfTable.table layout c.seats.result c.expect-first.result c.expect-second.result are two ∙ c.requires.named,
      c.pass.ensures.same.0 ∙ second-table g.N.OfTable.table layout c.seats.result c.expect-first.result c.expect-second.result are two ∙ c.requires.named,
      omega (arith, c.requires.table.0.words),
    )

pub returns-clause-same : goal.returns-clause-same
returns-clause-same g c =
    let layout = c.args.layout.now in
    let layout-is : c.expect-board.result.layout ≡ layout = rw c.expect-board.ensures at c.new.ensures.layout in
    let are : AreSeats g.N.OfTable.table layout c.seats.result = subst (λ (l : Layout). AreSeats g.N.OfTable.table l c.seats.result) layout-is c.seats.ensures.seats in
    let two = two-seats g.N.OfTable.table layout c.seats.result c.into_vec-seats.result.items c.pop.new.self.items c.pop-2.new.self.items c.expect-first.result c.expect-second.result are c.requires.two
    c.into_vec-seats.ensures (rw c.expect-second.ensures at c.pop.ensures.items) (rw c.expect-first.ensures at c.pop-2.ensures.items) in
    c.join.ensures.same ∙ c.pass-pass.ensures.same.0 ∙ first-table g.N.OfTable.table layout c.seats.result c.expect-first.result c.expect-second.result are two ∙ c.requires.named

pub returns-clause-all : goal.returns-clause-all
returns-clause-all g c =
    let layout = c.args.layout.now in
    let layout-is : c.expect-board.result.layout ≡ layout = rw c.expect-board.ensures at c.new.ensures.layout in
    let state-is : c.expect-board.result.state ≡ opening layout = rw c.expect-board.ensures at c.new.ensures.state in
    let are : AreSeats g.N.OfTable.table layout c.seats.result = subst (λ (l : Layout). AreSeats g.N.OfTable.table l c.seats.result) layout-is c.seats.ensures.seats in
    let views : map mine c.seats.result ≡ (opening layout).views = c.seats.ensures.views ∙ ap (λ (s : State). s.views) state-is in
    let two = two-seats g.N.OfTable.table layout c.seats.result c.into_vec-seats.result.items c.pop.new.self.items c.pop-2.new.self.items c.expect-first.result c.expect-second.result are c.requires.two
    c.into_vec-seats.ensures (rw c.expect-second.ensures at c.pop.ensures.items) (rw c.expect-first.ensures at c.pop-2.ensures.items) in
    let known : c.join.new.seat.me.0.known ≡ joined c.expect-first.result.known c.expect-second.result.known =
    ap (λ (m : Me). m.0.known) c.join.ensures.seat ∙ (λ i. joined (c.pass-pass.ensures.same.1 i).known (c.pass.ensures.same.1 i).known) in
    subst (HasAll layout) (sym known) (all-joined g.N.OfTable.table layout c.seats.result c.expect-first.result c.expect-second.result are two views)
