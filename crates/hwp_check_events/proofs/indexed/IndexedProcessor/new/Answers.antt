use Rattle.std.proofs.Common.{◌≤◌, arith, length, refl}
use Rattle.std.proofs.lemmas.Result.{IfOk-from_err}
use Rattle.hwp_check_events.proofs.CaseLaws.{few-of, indexed-is}
use Rattle.hwp_check_events.proofs.indexed.IndexedProcessor.new.Goals as goal

pub copied_of-requires : goal.copied_of-requires
copied_of-requires c =
    let few : length c.args.commands.now ≤ 4096 = few-of (record { script = c.args.script.now; copies = c.args.copies.now; report = c.args.report.now; cpu = c.args.cpu; commands = c.args.commands.now })
    (record { valid = c.requires.valid; frames = c.requires.frames; room = c.requires.room; of_script = c.requires.of_script }) in
    omega (arith, few)

pub invariant_of-result : goal.invariant_of-result
invariant_of-result c =
    indexed-is (record { script = c.args.script.now; copies = c.args.copies.now; report = c.args.report.now; cpu = c.args.cpu; commands = c.args.commands.now }) c.get-told.result.now c.rows_on-rows.result.now _ _
    c.in_ok-lists.lists.items c.in_ok-answers.answers.items c.in_ok-checks.checks.items c.in_ok-copied.copied (record { valid = c.requires.valid; frames = c.requires.frames; room = c.requires.room; of_script = c.requires.of_script })
    c.get-told.ensures c.rows_on-rows.ensures refl c.as_slice.ensures c.in_ok-lists.ensures c.in_ok-answers.ensures c.in_ok-checks.ensures c.in_ok-copied.ensures

pub returns-in_err-lists : goal.returns-in_err-lists
returns-in_err-lists c = IfOk-from_err c.from_residual.result _ c.from_residual.ensures.0

pub returns-in_err-answers : goal.returns-in_err-answers
returns-in_err-answers c = IfOk-from_err c.from_residual-in_err-answers.result _ c.from_residual-in_err-answers.ensures.0

pub returns-in_err-checks : goal.returns-in_err-checks
returns-in_err-checks c = IfOk-from_err c.from_residual-in_err-checks.result _ c.from_residual-in_err-checks.ensures.0

pub returns-in_err-copied : goal.returns-in_err-copied
returns-in_err-copied c = IfOk-from_err c.from_residual-in_err-copied.result _ c.from_residual-in_err-copied.ensures.0
