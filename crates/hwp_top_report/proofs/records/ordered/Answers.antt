use Rattle.std.proofs.Common.{◌∙◌, rules, subst, sym, List}
use Rattle.std.specs.List.Sorted.{IsPermutation}
use Rattle.std.proofs.lemmas.List.Sorted.{IsNonDecreasingBy-from_sort_by_key}
use Rattle.hwp_cpu_row.specs.hwp_report_text.declared.MarkLine.{MarkLine}
use Rattle.hwp_law_served.specs.Runs.{AreSorted, place_in}
use Rattle.hwp_top_report.proofs.records.ordered.Goals as goal

pub returns : goal.returns
returns c =
    subst (AreSorted c.args.gathered.now) (sym c.from_vec.ensures) (record {
      moved = subst (λ (l : List MarkLine). IsPermutation l c.sort_unstable_by_key.new.self.items) (c.into_vec-lines.ensures ∙ c.in_ok-copied.ensures) c.sort_unstable_by_key.ensures.permutation;
      rising = IsNonDecreasingBy-from_sort_by_key place_in _ c.sort_unstable_by_key.ensures.sorted (λ a r q k. search rules);
    })
