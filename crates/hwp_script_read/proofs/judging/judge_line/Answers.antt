use Rattle.hwp_script_read.proofs.judging.judge_line.Goals as goal

pub returns-in-Unknown-clause-err : goal.returns-in-Unknown-clause-err
returns-in-Unknown-clause-err c = rw c.in-Unknown.is (c.unknown_fault.ensures c.args.last)

pub returns-in-BadNumber-clause-err : goal.returns-in-BadNumber-clause-err
returns-in-BadNumber-clause-err c = rw c.in-BadNumber.is (c.number_fault.ensures c.args.last)

pub returns-in-OverLimit-clause-err : goal.returns-in-OverLimit-clause-err
returns-in-OverLimit-clause-err c = rw c.in-OverLimit.is (c.range_fault.ensures c.args.last)
