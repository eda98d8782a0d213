use Rattle.hwp_check_answers.proofs.InPlace.{told}
use Rattle.hwp_check_answers.proofs.placing.unanswered.Goals as goal

pub returns : goal.returns
returns c = told c.args.commands.now c.args.rows.now c.as_slice.result.now c.first_unset.result (rw (← c.as_slice.ensures.value) at c.in_ok-flags.ensures) c.first_unset.ensures
