use Rattle.std.proofs.Common.{inl}
use Rattle.hwp_claim_act.proofs.act.start.Goals as goal

pub returns-in-Err : goal.returns-in-Err
returns-in-Err c = (c.args.body.spare, inl (rw c.in-Err.ensures.err at c.given_up.ensures))
