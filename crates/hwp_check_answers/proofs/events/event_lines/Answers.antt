use Rattle.std.proofs.Common.{◌≡◌, ◌+◌, ◌≤◌, ℕ, Option, Some, MatchOption, length, slice_get, sym, subst, arith}
use Rattle.hwp_check_evidence.specs.hwp_banks.Banks.{empty_banks}
use Rattle.hwp_check_evidence.specs.hwp_law.Events.{AreEventsFrom}
use Rattle.hwp_check_rules.specs.Standing.{cpu_line, last_line}
use Rattle.hwp_check_rules.proofs.StandingLaws.{next-line, within-report}
use Rattle.hwp_check_answers.proofs.OrderLaws.{read-at}
use Rattle.hwp_check_answers.proofs.Processors.{IsFirst, cpu_of, first-line, row-room}
use Rattle.hwp_check_answers.proofs.Reports.{all-legal, found, legal, one-more, pages-room, row-fits}
use Rattle.hwp_check_answers.proofs.events.event_lines.Goals as goal
use Rattle.hwp_check_rules.specs.hwp_check_event_line.Reading.{copies_in}

pub processor_faults-requires-clause-room : goal.processor_faults-requires-clause-room
processor_faults-requires-clause-room c = pages-room c.args.report.now c.requires.room

pub processor_faults-requires-clause-of_script : goal.processor_faults-requires-clause-of_script
processor_faults-requires-clause-of_script c =
    read-at c.args.script.now.lists c.as_slice-in-loop-cpu.result.now c.loop-cpu.cpu _ _ c.as_slice-commands.result.now c.as_slice-in-loop-cpu.ensures (omega arith) c.index-as_slice-cpu-in-loop-cpu.is c.as_slice-commands.ensures

pub line_of-at-requires : goal.line_of-at-requires
line_of-at-requires c =
    let commands : slice_get c.args.script.now.lists c.loop-cpu.cpu ≡ Some c.as_slice-commands.result.now =
    read-at c.args.script.now.lists c.as_slice-in-loop-cpu.result.now c.loop-cpu.cpu _ _ c.as_slice-commands.result.now c.as_slice-in-loop-cpu.ensures (omega arith) c.index-as_slice-cpu-in-loop-cpu.is c.as_slice-commands.ensures in
    let rows : slice_get c.args.report.now.cpus c.loop-cpu.cpu ≡ Some c.as_slice-rows.result.now =
    read-at c.args.report.now.cpus c.as_slice.result.now c.loop-cpu.cpu _ _ c.as_slice-rows.result.now c.as_slice.ensures (omega arith) c.index-as_slice-cpu.is c.as_slice-rows.ensures in
    let within : c.loop-cpu.line + 1 + length c.as_slice-rows.result.now ≤ last_line c.args.report.now = within-report c.args.report.now c.loop-cpu.cpu c.loop-cpu.line c.as_slice-rows.result.now rows c.loop-cpu.invariant.0 in
    row-fits c.in_ok-found.found.wrong c.loop-cpu.line (length c.as_slice-rows.result.now) (last_line c.args.report.now)
    (λ row is. row-room c.args.script.now (copies_in c.args.copies.now) c.args.report.now c.loop-cpu.cpu c.as_slice-commands.result.now c.as_slice-rows.result.now commands rows c.in_ok-found.found row c.in_ok-found.ensures is) within c.requires.room

pub returns-then-is_some : goal.returns-then-is_some
returns-then-is_some c =
    let commands : slice_get c.args.script.now.lists c.loop-cpu.cpu ≡ Some c.as_slice-commands.result.now =
    read-at c.args.script.now.lists c.as_slice-in-loop-cpu.result.now c.loop-cpu.cpu _ _ c.as_slice-commands.result.now c.as_slice-in-loop-cpu.ensures (omega arith) c.index-as_slice-cpu-in-loop-cpu.is c.as_slice-commands.ensures in
    let rows : slice_get c.args.report.now.cpus c.loop-cpu.cpu ≡ Some c.as_slice-rows.result.now =
    read-at c.args.report.now.cpus c.as_slice.result.now c.loop-cpu.cpu _ _ c.as_slice-rows.result.now c.as_slice.ensures (omega arith) c.index-as_slice-cpu.is c.as_slice-rows.ensures in
    let first = subst (λ (o : Option ℕ). MatchOption o (AreEventsFrom c.args.script.now (copies_in c.args.copies.now) c.args.report.now (cpu_of c.loop-cpu.cpu) 0 c.as_slice-commands.result.now empty_banks) (IsFirst c.args.script.now (copies_in c.args.copies.now) c.args.report.now c.loop-cpu.cpu c.as_slice-commands.result.now c.as_slice-rows.result.now commands rows))
    (sym c.line_of-at.ensures) (first-line c.args.script.now (copies_in c.args.copies.now) c.args.report.now c.loop-cpu.cpu c.as_slice-commands.result.now c.as_slice-rows.result.now commands rows c.in_ok-found.found c.loop-cpu.line c.loop-cpu.invariant.0 c.in_ok-found.ensures) in
    found c.args.script.now (copies_in c.args.copies.now) c.args.report.now c.requires.valid c.small_masks.ensures c.loop-cpu.cpu c.as_slice-commands.result.now c.as_slice-rows.result.now commands rows c.loop-cpu.invariant.1 c.line_of-at.result (sym c.if-is_some.ensures) first

pub overflow_add-line-in-loop-cpu : goal.overflow_add-line-in-loop-cpu
overflow_add-line-in-loop-cpu c =
    let rows : slice_get c.args.report.now.cpus c.loop-cpu.cpu ≡ Some c.as_slice-rows.result.now =
    read-at c.args.report.now.cpus c.as_slice.result.now c.loop-cpu.cpu _ _ c.as_slice-rows.result.now c.as_slice.ensures (omega arith) c.index-as_slice-cpu.is c.as_slice-rows.ensures in
    let within : c.loop-cpu.line + 1 + length c.as_slice-rows.result.now ≤ last_line c.args.report.now = within-report c.args.report.now c.loop-cpu.cpu c.loop-cpu.line c.as_slice-rows.result.now rows c.loop-cpu.invariant.0 in
    omega (arith, within, c.requires.room)

pub loop-cpu-preserved : goal.loop-cpu-preserved
loop-cpu-preserved c =
    let commands : slice_get c.args.script.now.lists c.loop-cpu.cpu ≡ Some c.as_slice-commands.result.now =
    read-at c.args.script.now.lists c.as_slice-in-loop-cpu.result.now c.loop-cpu.cpu _ _ c.as_slice-commands.result.now c.as_slice-in-loop-cpu.ensures (omega arith) c.index-as_slice-cpu-in-loop-cpu.is c.as_slice-commands.ensures in
    let rows : slice_get c.args.report.now.cpus c.loop-cpu.cpu ≡ Some c.as_slice-rows.result.now =
    read-at c.args.report.now.cpus c.as_slice.result.now c.loop-cpu.cpu _ _ c.as_slice-rows.result.now c.as_slice.ensures (omega arith) c.index-as_slice-cpu.is c.as_slice-rows.ensures in
    let first = subst (λ (o : Option ℕ). MatchOption o (AreEventsFrom c.args.script.now (copies_in c.args.copies.now) c.args.report.now (cpu_of c.loop-cpu.cpu) 0 c.as_slice-commands.result.now empty_banks) (IsFirst c.args.script.now (copies_in c.args.copies.now) c.args.report.now c.loop-cpu.cpu c.as_slice-commands.result.now c.as_slice-rows.result.now commands rows))
    (sym c.line_of-at.ensures) (first-line c.args.script.now (copies_in c.args.copies.now) c.args.report.now c.loop-cpu.cpu c.as_slice-commands.result.now c.as_slice-rows.result.now commands rows c.in_ok-found.found c.loop-cpu.line c.loop-cpu.invariant.0 c.in_ok-found.ensures) in
    let next : cpu_line c.args.report.now (c.loop-cpu.cpu + 1) ≡ cpu_line c.args.report.now c.loop-cpu.cpu + 1 + length c.as_slice-rows.result.now = next-line c.args.report.now c.loop-cpu.cpu c.as_slice-rows.result.now rows in
    let was : c.loop-cpu.line ≡ cpu_line c.args.report.now c.loop-cpu.cpu = c.loop-cpu.invariant.0 in (
      omega (arith, next, was),
      one-more c.args.script.now (copies_in c.args.copies.now) c.args.report.now c.requires.valid c.small_masks.ensures c.loop-cpu.cpu c.as_slice-commands.result.now commands
          (legal c.args.script.now (copies_in c.args.copies.now) c.args.report.now c.requires.valid c.small_masks.ensures c.loop-cpu.cpu c.as_slice-commands.result.now c.as_slice-rows.result.now commands rows c.loop-cpu.invariant.1 c.line_of-at.result (sym c.if-is_some.ensures) first)
          c.loop-cpu.invariant.1,
    )

pub returns : goal.returns
returns c = all-legal c.args.script.now (copies_in c.args.copies.now) c.args.report.now c.requires.valid c.small_masks.ensures c.loop-cpu.cpu c.requires.shape (omega arith) c.loop-cpu.invariant.1
