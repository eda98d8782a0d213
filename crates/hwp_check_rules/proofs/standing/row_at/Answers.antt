use Rattle.std.proofs.Common.{◌≡◌, ◌<◌, ◌+◌, length, ap, ◌∙◌, arith}
use Rattle.hwp_check_rules.specs.Standing.{cpu_line, last_line}
use Rattle.hwp_check_rules.proofs.StandingLaws.{row-cpu, row-room}
use Rattle.hwp_check_rules.proofs.standing.row_at.Goals as goal

pub cpu_at-requires-clause-within : goal.cpu_at-requires-clause-within
cpu_at-requires-clause-within c =
    let within : c.args.cpu.0 < length c.args.report.now.cpus = row-cpu c.args.report.now c.args.cpu.0 c.args.row c.requires.inside in
    omega (arith, within, c.from.ensures)

pub overflow_add-result : goal.overflow_add-result
overflow_add-result c =
    let at : c.cpu_at.result ≡ cpu_line c.args.report.now c.args.cpu.0 = c.cpu_at.ensures ∙ ap (cpu_line c.args.report.now) c.from.ensures in
    let most : cpu_line c.args.report.now c.args.cpu.0 + 1 + c.args.row < last_line c.args.report.now = row-room c.args.report.now c.args.cpu.0 c.args.row c.requires.inside in
    omega (arith, at, most, c.requires.room)

pub overflow_add-result-2 : goal.overflow_add-result-2
overflow_add-result-2 c =
    let at : c.cpu_at.result ≡ cpu_line c.args.report.now c.args.cpu.0 = c.cpu_at.ensures ∙ ap (cpu_line c.args.report.now) c.from.ensures in
    let most : cpu_line c.args.report.now c.args.cpu.0 + 1 + c.args.row < last_line c.args.report.now = row-room c.args.report.now c.args.cpu.0 c.args.row c.requires.inside in
    omega (arith, at, most, c.requires.room)
