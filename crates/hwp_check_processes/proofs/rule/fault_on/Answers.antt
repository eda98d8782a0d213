use Rattle.std.proofs.Common.{◌<◌, List, length, subst}
use Rattle.std.proofs.lemmas.Option.{slice_get_within}
use Rattle.hwp_check_rules.specs.hwp_report_text.declared.CpuLine.{CpuLine}
use Rattle.hwp_check_rules.proofs.StandingLaws.{read-at}
use Rattle.hwp_check_processes.proofs.RuleLaws.{judged-first, judged-none}
use Rattle.hwp_check_processes.proofs.rule.fault_on.Goals as goal

pub row_at-requires-clause-inside : goal.row_at-requires-clause-inside
row_at-requires-clause-inside c =
    let found = rw c.in-Some-first_wrong.is at c.first_wrong.ensures in
    subst (λ (rows : List CpuLine). c.in-Some-first_wrong.row < length rows) c.rows_on-rows.ensures (slice_get_within c.rows_on-rows.result.now c.in-Some-first_wrong.row found.line found.there)

pub returns-in-Some-first_wrong-clause-judged : goal.returns-in-Some-first_wrong-clause-judged
returns-in-Some-first_wrong-clause-judged c =
    judged-first c.args.script.now c.args.report.now c.args.cpu c.commands_of-commands.result.now c.rows_on-rows.result.now c.in_ok-known.known.admits.items c.as_slice-2.result.now c.in_ok-known.known.flags.items c.as_slice-3.result.now c.in_ok-known.known.told.items
    (read-at c.args.script.now.lists c.args.cpu.0 c.commands_of-commands.result.now c.requires.of_script c.commands_of-commands.ensures)
    (read-at c.args.report.now.cpus c.args.cpu.0 c.rows_on-rows.result.now c.requires.of_report c.rows_on-rows.ensures) c.in_ok-known.ensures.known c.as_slice-2.ensures.value c.as_slice-3.ensures.value
    (rw c.in_default.is at c.first_lacking.ensures) c.in-Some-first_wrong.row c.row_at.result (rw c.in-Some-first_wrong.is at c.first_wrong.ensures) c.row_at.ensures

pub returns-clause-judged : goal.returns-clause-judged
returns-clause-judged c =
    judged-none c.args.script.now c.args.report.now c.args.cpu c.commands_of-commands.result.now c.rows_on-rows.result.now c.in_ok-known.known.admits.items c.as_slice-2.result.now c.in_ok-known.known.flags.items c.as_slice-3.result.now c.in_ok-known.known.told.items
    (read-at c.args.script.now.lists c.args.cpu.0 c.commands_of-commands.result.now c.requires.of_script c.commands_of-commands.ensures)
    (read-at c.args.report.now.cpus c.args.cpu.0 c.rows_on-rows.result.now c.requires.of_report c.rows_on-rows.ensures) c.in_ok-known.ensures.known c.as_slice-2.ensures.value c.as_slice-3.ensures.value
    (rw c.in_default.is at c.first_lacking.ensures) (rw c.in-None.is at c.first_wrong.ensures)
