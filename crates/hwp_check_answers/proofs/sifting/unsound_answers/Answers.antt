use Rattle.std.proofs.Common.{◌≡◌, ℕ, ◌+◌, ◌<◌, ◌≤◌, ◌^◌, MatchOption, Option, Some, length, slice_get, sym, subst, arith}
use Rattle.hwp_check_rules.specs.Standing.{cpu_line, last_line}
use Rattle.hwp_check_answers.specs.Values.{ProcessorValue}
use Rattle.hwp_check_answers.specs.Walk.{AreSoundLines, IsUnsoundLine}
use Rattle.hwp_check_rules.proofs.StandingLaws.{next-line, within-report}
use Rattle.hwp_check_answers.proofs.OrderLaws.{none-of}
use Rattle.hwp_check_answers.proofs.SiftLaws.{all_sound, cpus_fit, found_answer, list_there, none_sound, sound_more}
use Rattle.hwp_check_answers.proofs.sifting.unsound_answers.Goals as goal
use Rattle.hwp_check_rules.specs.hwp_check_event_line.Reading.{copies_in}

-- what was found of a processor whose heading stands at `heading`
abbrev Sifted : ProcessorValue → ℕ → Option ℕ → Type 0
Sifted p heading found = MatchOption found (AreSoundLines p) (IsUnsoundLine p heading)

pub new-requires-clause-of_script : goal.new-requires-clause-of_script
new-requires-clause-of_script c =
    let low : c.loop-number.number < c.args.script.now.layout.cpus = c.loop-number-test.true in
    let many : length c.args.script.now.lists ≡ c.args.script.now.layout.cpus = c.requires.valid.one_each in
    list_there c.args.script.now.lists c.loop-number.number c.commands_of-commands.result.now (omega (arith, low, many)) c.commands_of-commands.ensures

pub new-requires-clause-of_report : goal.new-requires-clause-of_report
new-requires-clause-of_report c =
    let low : c.loop-number.number < c.args.script.now.layout.cpus = c.loop-number-test.true in
    let many : length c.args.report.now.cpus ≡ c.args.script.now.layout.cpus = cpus_fit c.args.script.now c.args.report.now c.requires.shape in
    list_there c.args.report.now.cpus c.loop-number.number c.rows_on-rows.result.now (omega (arith, low, many)) c.rows_on-rows.ensures

pub unsound-requires : goal.unsound-requires
unsound-requires c =
    let low : c.loop-number.number < c.args.script.now.layout.cpus = c.loop-number-test.true in
    let many : length c.args.report.now.cpus ≡ c.args.script.now.layout.cpus = cpus_fit c.args.script.now c.args.report.now c.requires.shape in
    let rows : slice_get c.args.report.now.cpus c.loop-number.number ≡ Some c.rows_on-rows.result.now = list_there c.args.report.now.cpus c.loop-number.number c.rows_on-rows.result.now (omega (arith, low, many)) c.rows_on-rows.ensures in
    let within : c.loop-number.line + 1 + length c.rows_on-rows.result.now ≤ last_line c.args.report.now = within-report c.args.report.now c.loop-number.number c.loop-number.line c.rows_on-rows.result.now rows c.loop-number.invariant.0 in
    subst (λ (p : ProcessorValue). c.loop-number.line + 1 + length p.rows < 2 ^ 64) (sym c.in_ok-processor.ensures) (omega (arith, within, c.requires.room))

pub returns-then-is_some : goal.returns-then-is_some
returns-then-is_some c =
    let low : c.loop-number.number < c.args.script.now.layout.cpus = c.loop-number-test.true in
    let lists : length c.args.script.now.lists ≡ c.args.script.now.layout.cpus = c.requires.valid.one_each in
    let many : length c.args.report.now.cpus ≡ c.args.script.now.layout.cpus = cpus_fit c.args.script.now c.args.report.now c.requires.shape in
    let commands : slice_get c.args.script.now.lists c.loop-number.number ≡ Some c.commands_of-commands.result.now =
    list_there c.args.script.now.lists c.loop-number.number c.commands_of-commands.result.now (omega (arith, low, lists)) c.commands_of-commands.ensures in
    let rows : slice_get c.args.report.now.cpus c.loop-number.number ≡ Some c.rows_on-rows.result.now = list_there c.args.report.now.cpus c.loop-number.number c.rows_on-rows.result.now (omega (arith, low, many)) c.rows_on-rows.ensures in
    found_answer c.args.script.now (copies_in c.args.copies.now) c.args.report.now c.loop-number.number c.loop-number.line c.commands_of-commands.result.now c.rows_on-rows.result.now c.in_ok-found.found commands rows c.loop-number.invariant.0 c.loop-number.invariant.1
    (sym c.if-is_some.ensures) (subst (λ (p : ProcessorValue). Sifted p c.loop-number.line c.in_ok-found.found) c.in_ok-processor.ensures c.in_ok-found.ensures)

pub overflow_add-line-in-loop-number : goal.overflow_add-line-in-loop-number
overflow_add-line-in-loop-number c =
    let low : c.loop-number.number < c.args.script.now.layout.cpus = c.loop-number-test.true in
    let many : length c.args.report.now.cpus ≡ c.args.script.now.layout.cpus = cpus_fit c.args.script.now c.args.report.now c.requires.shape in
    let rows : slice_get c.args.report.now.cpus c.loop-number.number ≡ Some c.rows_on-rows.result.now = list_there c.args.report.now.cpus c.loop-number.number c.rows_on-rows.result.now (omega (arith, low, many)) c.rows_on-rows.ensures in
    let within : c.loop-number.line + 1 + length c.rows_on-rows.result.now ≤ last_line c.args.report.now = within-report c.args.report.now c.loop-number.number c.loop-number.line c.rows_on-rows.result.now rows c.loop-number.invariant.0 in
    omega (arith, within, c.requires.room)

pub loop-number-preserved : goal.loop-number-preserved
loop-number-preserved c =
    let low : c.loop-number.number < c.args.script.now.layout.cpus = c.loop-number-test.true in
    let lists : length c.args.script.now.lists ≡ c.args.script.now.layout.cpus = c.requires.valid.one_each in
    let many : length c.args.report.now.cpus ≡ c.args.script.now.layout.cpus = cpus_fit c.args.script.now c.args.report.now c.requires.shape in
    let commands : slice_get c.args.script.now.lists c.loop-number.number ≡ Some c.commands_of-commands.result.now =
    list_there c.args.script.now.lists c.loop-number.number c.commands_of-commands.result.now (omega (arith, low, lists)) c.commands_of-commands.ensures in
    let rows : slice_get c.args.report.now.cpus c.loop-number.number ≡ Some c.rows_on-rows.result.now = list_there c.args.report.now.cpus c.loop-number.number c.rows_on-rows.result.now (omega (arith, low, many)) c.rows_on-rows.ensures in
    let next : cpu_line c.args.report.now (c.loop-number.number + 1) ≡ cpu_line c.args.report.now c.loop-number.number + 1 + length c.rows_on-rows.result.now = next-line c.args.report.now c.loop-number.number c.rows_on-rows.result.now rows in
    let was : c.loop-number.line ≡ cpu_line c.args.report.now c.loop-number.number = c.loop-number.invariant.0 in (
      omega (arith, next, was),
      sound_more c.args.script.now c.args.report.now c.loop-number.number c.commands_of-commands.result.now c.rows_on-rows.result.now commands rows
          (none_sound c.args.script.now c.args.report.now c.loop-number.number c.loop-number.line c.commands_of-commands.result.now c.rows_on-rows.result.now c.in_ok-found.found (none-of c.in_ok-found.found (sym c.if-is_some.ensures))
          (subst (λ (p : ProcessorValue). Sifted p c.loop-number.line c.in_ok-found.found) c.in_ok-processor.ensures c.in_ok-found.ensures))
          c.loop-number.invariant.1,
    )

pub returns : goal.returns
returns c =
    let many : length c.args.report.now.cpus ≡ c.args.script.now.layout.cpus = cpus_fit c.args.script.now c.args.report.now c.requires.shape in
    let past : c.args.script.now.layout.cpus ≤ c.loop-number.number = let e = c.loop-number-test.false in omega arith in
    all_sound c.args.script.now c.args.report.now c.loop-number.number (omega (arith, many, past)) c.loop-number.invariant.1
