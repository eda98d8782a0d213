use Rattle.std.proofs.Common.{◌≡◌, ℕ, ◌+◌, ◌≤◌, List, drop, fold, length, replicate, ap, ◌∙◌, sym, subst, arith}
use Rattle.std.proofs.lemmas.List.{at_drop_more}
use Rattle.hwp_law.specs.hwp_report_text.declared.CpuLine.{CpuLine}
use Rattle.hwp_check_evidence.specs.Counts.{AreCounts, AreFew, counted}
use Rattle.hwp_check_evidence.proofs.CountLaws.{counts_are, few_more}
use Rattle.hwp_check_evidence.proofs.WindowLaws.{past-empty}
use Rattle.hwp_check_evidence.proofs.counts.event_counts.Goals as goal

pub returns-clause-counts : goal.returns-clause-counts
returns-clause-counts c =
    let past : length c.args.rows.now ≤ c.loop-row.row-index = let e = c.loop-row-test.false in let a = c.loop-row.auto.row-index-end in omega arith in
    let all : fold counted (replicate c.args.commands 0) c.args.rows.now ≡ c.loop-row.counts.items =
    sym c.loop-row.invariant.0 ∙ ap (λ (l : List CpuLine). fold counted c.loop-row.counts.items l) (past-empty c.args.rows.now c.loop-row.row-index past) in
    subst (AreCounts c.args.rows.now) all (counts_are c.args.rows.now c.args.commands)

pub loop-row-preserved : goal.loop-row-preserved
loop-row-preserved c = (
  ap (λ (l : List ℕ). fold counted l (drop (c.loop-row.row-index + 1) c.args.rows.now)) c.count.ensures
      ∙ sym (at_drop_more (fold counted c.loop-row.counts.items) c.args.rows.now c.loop-row.row-index _ c.loop-row-test.true)
      ∙ c.loop-row.invariant.0,
  subst (AreFew (c.loop-row.row-index + 1)) (sym c.count.ensures) (few_more c.loop-row.row-index c.loop-row.counts.items _ c.loop-row.invariant.1),
)
