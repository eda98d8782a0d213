use Rattle.std.proofs.Common.{◌≡◌, ◌+◌, ◌≤◌, Some, length, slice_get, sym, arith}
use Rattle.hwp_check_rules.specs.Standing.{cpu_line, last_line}
use Rattle.hwp_check_rules.proofs.StandingLaws.{next-line, within-report}
use Rattle.hwp_check_answers.proofs.OrderLaws.{all-orderly, found-first, none-of, one-more, orderly-none, read-at}
use Rattle.hwp_check_answers.proofs.disorders.disorders.Goals as goal

pub overflow_add-line-in-loop-cpu : goal.overflow_add-line-in-loop-cpu
overflow_add-line-in-loop-cpu c =
    let rows : slice_get c.args.report.now.cpus c.loop-cpu.cpu ≡ Some c.as_slice-rows.result.now =
    read-at c.args.report.now.cpus c.as_slice.result.now c.loop-cpu.cpu _ _ c.as_slice-rows.result.now c.as_slice.ensures (omega arith) c.index-as_slice-cpu.is c.as_slice-rows.ensures in
    let within : c.loop-cpu.line + 1 + length c.as_slice-rows.result.now ≤ last_line c.args.report.now = within-report c.args.report.now c.loop-cpu.cpu c.loop-cpu.line c.as_slice-rows.result.now rows c.loop-cpu.invariant.0 in
    omega (arith, within, c.requires.room)

pub returns-then-is_some : goal.returns-then-is_some
returns-then-is_some c =
    let rows : slice_get c.args.report.now.cpus c.loop-cpu.cpu ≡ Some c.as_slice-rows.result.now =
    read-at c.args.report.now.cpus c.as_slice.result.now c.loop-cpu.cpu _ _ c.as_slice-rows.result.now c.as_slice.ensures (omega arith) c.index-as_slice-cpu.is c.as_slice-rows.ensures in
    let commands : slice_get c.args.script.now.lists c.loop-cpu.cpu ≡ Some c.as_slice-in-loop-cpu-2.result.now =
    read-at c.args.script.now.lists c.as_slice-in-loop-cpu.result.now c.loop-cpu.cpu _ _ c.as_slice-in-loop-cpu-2.result.now c.as_slice-in-loop-cpu.ensures (omega arith) c.index-as_slice-cpu-in-loop-cpu.is c.as_slice-in-loop-cpu-2.ensures in
    found-first c.args.script.now c.args.report.now c.loop-cpu.cpu c.as_slice-in-loop-cpu-2.result.now c.as_slice-rows.result.now c.loop-cpu.line c.in_ok-found.found commands rows
    c.loop-cpu.invariant.1 c.loop-cpu.invariant.0 (sym c.if-is_some.ensures) c.in_ok-found.ensures

pub loop-cpu-preserved : goal.loop-cpu-preserved
loop-cpu-preserved c =
    let rows : slice_get c.args.report.now.cpus c.loop-cpu.cpu ≡ Some c.as_slice-rows.result.now =
    read-at c.args.report.now.cpus c.as_slice.result.now c.loop-cpu.cpu _ _ c.as_slice-rows.result.now c.as_slice.ensures (omega arith) c.index-as_slice-cpu.is c.as_slice-rows.ensures in
    let commands : slice_get c.args.script.now.lists c.loop-cpu.cpu ≡ Some c.as_slice-in-loop-cpu-2.result.now =
    read-at c.args.script.now.lists c.as_slice-in-loop-cpu.result.now c.loop-cpu.cpu _ _ c.as_slice-in-loop-cpu-2.result.now c.as_slice-in-loop-cpu.ensures (omega arith) c.index-as_slice-cpu-in-loop-cpu.is c.as_slice-in-loop-cpu-2.ensures in
    let next : cpu_line c.args.report.now (c.loop-cpu.cpu + 1) ≡ cpu_line c.args.report.now c.loop-cpu.cpu + 1 + length c.as_slice-rows.result.now = next-line c.args.report.now c.loop-cpu.cpu c.as_slice-rows.result.now rows in
    let was : c.loop-cpu.line ≡ cpu_line c.args.report.now c.loop-cpu.cpu = c.loop-cpu.invariant.0 in (
      omega (arith, next, was),
      one-more c.args.script.now c.args.report.now c.loop-cpu.cpu c.as_slice-in-loop-cpu-2.result.now c.as_slice-rows.result.now commands rows
          (orderly-none c.as_slice-in-loop-cpu-2.result.now c.as_slice-rows.result.now c.loop-cpu.line c.in_ok-found.found (none-of c.in_ok-found.found (sym c.if-is_some.ensures)) c.in_ok-found.ensures) c.loop-cpu.invariant.1,
    )

pub returns : goal.returns
returns c = all-orderly c.args.script.now c.args.report.now c.loop-cpu.cpu (omega arith) c.loop-cpu.invariant.1
