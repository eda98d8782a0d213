use Rattle.std.proofs.Common.{◌<◌, ◌≤◌, sym, ℕ, Option, length, subst, arith}
use Rattle.hwp_check_rules.specs.Firsts.{IsLeast}
use Rattle.hwp_check_rules.specs.MarkFaults.{IsSoftBeyond}
use Rattle.hwp_check_marks.specs.Unmarked.{IsSoftHome, is_unmarked}
use Rattle.hwp_check_marks.specs.Walks.{IsLowest}
use Rattle.hwp_check_marks.proofs.UnmarkedLaws.{cpus-next, none-soft, soft-least, soft-lowest}
use Rattle.hwp_check_marks.proofs.unmarked.unmarked.Goals as goal

pub loop-cpu-preserved : goal.loop-cpu-preserved
loop-cpu-preserved c =
    let low : c.loop-cpu.cpu < c.args.script.now.layout.cpus = c.loop-cpu-test.true in
    let within : c.loop-cpu.cpu < length c.args.report.now.cpus = omega (arith, low, c.requires.cpus) in
    cpus-next (is_unmarked c.args.script.now c.args.report.now c.in_ok-marks.marks) c.loop-cpu.cpu c.args.report.now.cpus c.rows_on-rows.result.now c.loop-cpu.lowest c.lower_rows-lowest.result _ within c.rows_on-rows.ensures c.lower_rows-lowest.ensures c.loop-cpu.invariant

pub returns-in-Some : goal.returns-in-Some
returns-in-Some c =
    let end : c.args.script.now.layout.cpus ≤ c.loop-cpu.cpu = c.loop-cpu-test.false in
    let all : IsLowest (IsSoftHome c.args.script.now c.args.report.now) c.loop-cpu.lowest =
    soft-lowest c.args.script.now c.args.report.now c.args.index.now.beside c.in_ok-marks.marks c.as_slice.result.now c.loop-cpu.lowest c.loop-cpu.cpu c.requires.index.beside c.as_slice.ensures c.in_ok-marks.ensures (omega (arith, end, c.requires.cpus)) c.loop-cpu.invariant in
    subst (λ (n : ℕ). IsLeast (IsSoftBeyond c.args.script.now c.args.report.now) n) (sym c.line_of.ensures)
    (soft-least c.args.script.now c.args.report.now c.in-Some.home (subst (λ (o : Option ℕ). IsLowest (IsSoftHome c.args.script.now c.args.report.now) o) c.in-Some.is all))

pub returns : goal.returns
returns c =
    let end : c.args.script.now.layout.cpus ≤ c.loop-cpu.cpu = c.loop-cpu-test.false in
    let all : IsLowest (IsSoftHome c.args.script.now c.args.report.now) c.loop-cpu.lowest =
    soft-lowest c.args.script.now c.args.report.now c.args.index.now.beside c.in_ok-marks.marks c.as_slice.result.now c.loop-cpu.lowest c.loop-cpu.cpu c.requires.index.beside c.as_slice.ensures c.in_ok-marks.ensures (omega (arith, end, c.requires.cpus)) c.loop-cpu.invariant in
    none-soft c.args.script.now c.args.report.now (subst (λ (o : Option ℕ). IsLowest (IsSoftHome c.args.script.now c.args.report.now) o) c.in-None.is all)
