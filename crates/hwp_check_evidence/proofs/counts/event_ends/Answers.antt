use Rattle.std.proofs.Common.{◌≡◌, ◌≤◌, List, false, fold, length, replicate, ap, ◌∙◌, sym, subst, arith}
use Rattle.std.proofs.lemmas.List.{at_drop_more}
use Rattle.hwp_law.specs.hwp_report_text.declared.CpuLine.{CpuLine}
use Rattle.hwp_check_evidence.specs.Counts.{AreFlags, flagged_by}
use Rattle.hwp_check_evidence.proofs.CountLaws.{flags_are}
use Rattle.hwp_check_evidence.proofs.WindowLaws.{past-empty}
use Rattle.hwp_check_evidence.proofs.counts.event_ends.Goals as goal

pub returns-clause-flags : goal.returns-clause-flags
returns-clause-flags c =
    let past : length c.args.rows.now ≤ c.loop-row.row-index = let e = c.loop-row-test.false in let a = c.loop-row.auto.row-index-end in omega arith in
    let all : fold flagged_by (replicate c.args.commands false) c.args.rows.now ≡ c.loop-row.flags.items =
    sym c.loop-row.invariant ∙ ap (λ (l : List CpuLine). fold flagged_by c.loop-row.flags.items l) (past-empty c.args.rows.now c.loop-row.row-index past) in
    subst (AreFlags c.args.rows.now) all (flags_are c.args.rows.now c.args.commands)

pub loop-row-preserved : goal.loop-row-preserved
loop-row-preserved c = rw c.flag.ensures (sym (at_drop_more (fold flagged_by c.loop-row.flags.items) c.args.rows.now c.loop-row.row-index _ c.loop-row-test.true) ∙ c.loop-row.invariant)
