use Rattle.std.proofs.Common.{Some, sym, ap, ◌∙◌}
use Rattle.hwp_claim_frame.specs.declared.ClaimAnswer.{ClaimAnswer}
use Rattle.hwp_claim.proofs.fail.after_claim.Goals as goal
use Rattle.hwp_claim.proofs.FailLaws.{acts-follow}

pub returns-in-Some-Owned : goal.returns-in-Some-Owned
returns-in-Some-Owned c = acts-follow c.args.who c.args.frame c.args.required c.args.claim c.in-Some-Owned.cycle c.in-Some-Owned.page c.begin_act.result (sym c.answer.ensures ∙ c.in-Some-Owned.is ∙ ap (λ (x : ClaimAnswer). Some x) c.in-Some-Owned.field-0-is) (record {
  body = c.body-body.result;
  body_is = c.body-body.ensures;
  act = c.new.result;
  who_is = c.new.ensures.begun.0;
  page_is = c.new.ensures.begun.1;
  frame_is = c.new.ensures.begun.2;
  starts = c.new.ensures.starts;
  next_is = c.begin_act.ensures;
})
