use Rattle.std.proofs.Common.{rules, ◌≡◌, cond, count_by, ap, ◌∙◌, subst}
use Rattle.std.specs.List.{All, zip}
use Rattle.std.proofs.lemmas.List.Sorted.{All-permutation, IsNonDecreasingBy-from_sort_by_key, sum_by-IsPermutation}
use Rattle.hwp_check_state.specs.declared.lost.Loss.{Loss}
use Rattle.hwp_check_state.specs.Lost.{IsSmall, key_of, losses, page_losses}
use Rattle.hwp_check_state.proofs.lost.sorted_losses.Goals as goal

pub returns : goal.returns
returns c =
    let listed : c.in_ok-list.list.items ≡ losses c.args.script.now c.args.report.now = c.in_ok-list.ensures ∙ (λ i. page_losses (zip (c.as_slice.ensures i) (c.as_slice-2.ensures i))) in
    record {
      sorted = IsNonDecreasingBy-from_sort_by_key key_of _ c.in_ok-sort_by_key.ensures.sorted (λ a r q k. search rules);
      small = All-permutation IsSmall _ _ c.in_ok-sort_by_key.ensures.permutation (subst (All IsSmall) c.as_slice-3.ensures.value c.all_small.ensures);
      counts = λ test. sum_by-IsPermutation (λ (l : Loss). cond (test l) 1 0) _ _ c.in_ok-sort_by_key.ensures.permutation ∙ ap (count_by test) listed;
    }
