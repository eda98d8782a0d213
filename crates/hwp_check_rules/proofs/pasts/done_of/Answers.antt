use Rattle.std.proofs.Common.{◌∙◌, arith, rules}
use Rattle.hwp_check_rules.proofs.PastLaws.{all-noted, none-noted, note_more}
use Rattle.hwp_check_rules.proofs.pasts.done_of.Goals as goal

pub loop-back-preserved : goal.loop-back-preserved
loop-back-preserved c =
    let both = note_more c.args.rows.now c.loop-back.flags.items c.note.new.flags.items c.loop-back.back _ c.loop-back-test.true c.note.ensures c.loop-back.invariant.1 in
    (both.0 ∙ c.loop-back.invariant.0, both.1)

pub loop-back-init : goal.loop-back-init
loop-back-init c = (search rules, none-noted c.args.rows.now c.resize.new.self.items (search rules))

pub returns-clause-done : goal.returns-clause-done
returns-clause-done c = all-noted c.args.rows.now c.loop-back.flags.items c.loop-back.back (let past = c.loop-back-test.false in omega arith) c.loop-back.invariant.1
