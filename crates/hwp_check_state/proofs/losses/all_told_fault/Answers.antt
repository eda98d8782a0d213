use Rattle.std.proofs.Common.{rules, ◌+◌, ◌^◌, ◌<◌, ℕ, None, Option, length, replicate, ◌∙◌, sym, subst, arith}
use Rattle.hwp_check_state.specs.Handles.{IsFirst, IsToldWrongBy}
use Rattle.hwp_check_state.specs.Told.{walk}
use Rattle.hwp_check_state.proofs.LossRule.{told-end, told-next}
use Rattle.hwp_check_state.proofs.LostLaws.{few-lost}
use Rattle.hwp_check_state.proofs.losses.all_told_fault.Goals as goal

pub loop-number-preserved : goal.loop-number-preserved
loop-number-preserved c =
    let few : length c.args.list.now < 2 ^ 63 = search rules in
    subst (λ (o : Option ℕ). IsFirst (IsToldWrongBy c.args.script.now c.args.report.now (c.loop-number.number + 1)) o) (sym c.soonest-found.ensures)
    (told-next c.args.script.now c.args.report.now c.requires.shape c.requires.valid c.requires.answers
    (λ file. few-lost c.args.script.now c.args.report.now c.args.list.now c.requires.losses file few) c.loop-number.number c.loop-number.found c.in_ok-told.told (omega arith) c.loop-number.invariant
    (c.in_ok-told.ensures ∙ (λ i. walk c.args.script.now c.args.report.now (record { 0 = c.loop-number.number }) (c.commands_of.ensures i) (replicate c.args.script.now.layout.files 0) None (c.rows_on.ensures i))))

pub returns : goal.returns
returns c = told-end c.args.script.now c.args.report.now c.requires.shape c.loop-number.number c.loop-number.found (omega arith) c.loop-number.invariant
