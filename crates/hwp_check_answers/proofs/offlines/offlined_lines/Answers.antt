use Rattle.std.proofs.Common.{◌≡◌, ◌+◌, ◌≤◌, Some, length, slice_get, sym, ◌∙◌, arith}
use Rattle.hwp_check_rules.specs.Standing.{cpu_line, last_line}
use Rattle.hwp_check_rules.proofs.StandingLaws.{next-line, within-report}
use Rattle.hwp_check_answers.proofs.OrderLaws.{none-of, read-at}
use Rattle.hwp_check_answers.proofs.OfflinedOrder.{all-due, due-none, found-due, one-due}
use Rattle.hwp_check_answers.proofs.offlines.offlined_lines.Goals as goal

pub offlined_line-requires-clause-of_script : goal.offlined_line-requires-clause-of_script
offlined_line-requires-clause-of_script c =
    let commands : slice_get c.args.script.now.lists c.loop-cpu.cpu ≡ Some c.as_slice-commands.result.now =
    read-at c.args.script.now.lists c.as_slice-in-loop-cpu.result.now c.loop-cpu.cpu _ _ c.as_slice-commands.result.now c.as_slice-in-loop-cpu.ensures (omega arith) c.index-as_slice-cpu-in-loop-cpu.is c.as_slice-commands.ensures in
    commands

pub offlined_line-requires-clause-of_report : goal.offlined_line-requires-clause-of_report
offlined_line-requires-clause-of_report c =
    let rows : slice_get c.args.report.now.cpus c.loop-cpu.cpu ≡ Some c.as_slice-rows.result.now =
    read-at c.args.report.now.cpus c.as_slice.result.now c.loop-cpu.cpu _ _ c.as_slice-rows.result.now c.as_slice.ensures (omega arith) c.index-as_slice-cpu.is c.as_slice-rows.ensures in
    rows

pub offlined_line-requires-clause-room : goal.offlined_line-requires-clause-room
offlined_line-requires-clause-room c =
    let rows : slice_get c.args.report.now.cpus c.loop-cpu.cpu ≡ Some c.as_slice-rows.result.now =
    read-at c.args.report.now.cpus c.as_slice.result.now c.loop-cpu.cpu _ _ c.as_slice-rows.result.now c.as_slice.ensures (omega arith) c.index-as_slice-cpu.is c.as_slice-rows.ensures in
    let within : c.loop-cpu.line + 1 + length c.as_slice-rows.result.now ≤ last_line c.args.report.now = within-report c.args.report.now c.loop-cpu.cpu c.loop-cpu.line c.as_slice-rows.result.now rows c.loop-cpu.invariant.0 in
    omega (arith, within, c.requires.room)

pub overflow_add-line-in-loop-cpu : goal.overflow_add-line-in-loop-cpu
overflow_add-line-in-loop-cpu c =
    let rows : slice_get c.args.report.now.cpus c.loop-cpu.cpu ≡ Some c.as_slice-rows.result.now =
    read-at c.args.report.now.cpus c.as_slice.result.now c.loop-cpu.cpu _ _ c.as_slice-rows.result.now c.as_slice.ensures (omega arith) c.index-as_slice-cpu.is c.as_slice-rows.ensures in
    let within : c.loop-cpu.line + 1 + length c.as_slice-rows.result.now ≤ last_line c.args.report.now = within-report c.args.report.now c.loop-cpu.cpu c.loop-cpu.line c.as_slice-rows.result.now rows c.loop-cpu.invariant.0 in
    omega (arith, within, c.requires.room)

pub returns-then-is_some : goal.returns-then-is_some
returns-then-is_some c =
    let rows : slice_get c.args.report.now.cpus c.loop-cpu.cpu ≡ Some c.as_slice-rows.result.now =
    read-at c.args.report.now.cpus c.as_slice.result.now c.loop-cpu.cpu _ _ c.as_slice-rows.result.now c.as_slice.ensures (omega arith) c.index-as_slice-cpu.is c.as_slice-rows.ensures in
    let commands : slice_get c.args.script.now.lists c.loop-cpu.cpu ≡ Some c.as_slice-commands.result.now =
    read-at c.args.script.now.lists c.as_slice-in-loop-cpu.result.now c.loop-cpu.cpu _ _ c.as_slice-commands.result.now c.as_slice-in-loop-cpu.ensures (omega arith) c.index-as_slice-cpu-in-loop-cpu.is c.as_slice-commands.ensures in
    let many : length c.args.script.now.lists ≡ length c.args.report.now.cpus = c.requires.valid.one_each ∙ sym c.requires.shape.cpus in
    found-due c.args.script.now c.args.report.now many c.loop-cpu.cpu c.as_slice-commands.result.now c.as_slice-rows.result.now commands rows c.loop-cpu.invariant.1 c.loop-cpu.line c.in_ok-found.found c.loop-cpu.invariant.0 (sym c.if-is_some.ensures) c.in_ok-found.ensures

pub loop-cpu-preserved : goal.loop-cpu-preserved
loop-cpu-preserved c =
    let rows : slice_get c.args.report.now.cpus c.loop-cpu.cpu ≡ Some c.as_slice-rows.result.now =
    read-at c.args.report.now.cpus c.as_slice.result.now c.loop-cpu.cpu _ _ c.as_slice-rows.result.now c.as_slice.ensures (omega arith) c.index-as_slice-cpu.is c.as_slice-rows.ensures in
    let commands : slice_get c.args.script.now.lists c.loop-cpu.cpu ≡ Some c.as_slice-commands.result.now =
    read-at c.args.script.now.lists c.as_slice-in-loop-cpu.result.now c.loop-cpu.cpu _ _ c.as_slice-commands.result.now c.as_slice-in-loop-cpu.ensures (omega arith) c.index-as_slice-cpu-in-loop-cpu.is c.as_slice-commands.ensures in
    let many : length c.args.script.now.lists ≡ length c.args.report.now.cpus = c.requires.valid.one_each ∙ sym c.requires.shape.cpus in
    let next : cpu_line c.args.report.now (c.loop-cpu.cpu + 1) ≡ cpu_line c.args.report.now c.loop-cpu.cpu + 1 + length c.as_slice-rows.result.now = next-line c.args.report.now c.loop-cpu.cpu c.as_slice-rows.result.now rows in
    let was : c.loop-cpu.line ≡ cpu_line c.args.report.now c.loop-cpu.cpu = c.loop-cpu.invariant.0 in (
      omega (arith, next, was),
      one-due c.args.script.now c.args.report.now many c.loop-cpu.cpu c.as_slice-commands.result.now c.as_slice-rows.result.now commands rows c.loop-cpu.invariant.1
          (due-none c.args.script.now c.args.report.now _ c.as_slice-commands.result.now c.as_slice-rows.result.now c.loop-cpu.line c.in_ok-found.found (none-of c.in_ok-found.found (sym c.if-is_some.ensures)) c.in_ok-found.ensures),
    )

pub returns : goal.returns
returns c = all-due c.args.script.now c.args.report.now (c.requires.valid.one_each ∙ sym c.requires.shape.cpus) c.loop-cpu.cpu (omega arith) c.loop-cpu.invariant.1
