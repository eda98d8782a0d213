use Rattle.std.proofs.Common.{◌<◌, List, length, subst, ◌∙◌}
use Rattle.std.proofs.lemmas.Option.{slice_get_within}
use Rattle.hwp_check_rules.specs.hwp_report_text.declared.CpuLine.{CpuLine}
use Rattle.hwp_check_rules.proofs.StandingLaws.{read-at}
use Rattle.hwp_check_processes.proofs.PrivateLaws.{first-on}
use Rattle.hwp_check_processes.proofs.private.fault_on.Goals as goal

pub row_at-requires-clause-inside : goal.row_at-requires-clause-inside
row_at-requires-clause-inside c =
    let found = rw c.in-Some.is at c.first_wrong.ensures in
    subst (λ (rows : List CpuLine). c.in-Some.row < length rows) c.rows_on-rows.ensures (slice_get_within c.rows_on-rows.result.now c.in-Some.row found.line found.there)

pub returns-in-Some : goal.returns-in-Some
returns-in-Some c =
    first-on c.args.script.now c.args.report.now c.args.cpu c.commands_of-commands.result.now c.rows_on-rows.result.now c.as_slice.result.now c.in-Some.row c.row_at.result
    (read-at c.args.script.now.lists c.args.cpu.0 c.commands_of-commands.result.now c.requires.of_script c.commands_of-commands.ensures)
    (read-at c.args.report.now.cpus c.args.cpu.0 c.rows_on-rows.result.now c.requires.of_report c.rows_on-rows.ensures) (c.as_slice.ensures.value ∙ c.in_ok-pairs.ensures) (rw c.in-Some.is at c.first_wrong.ensures) c.row_at.ensures
