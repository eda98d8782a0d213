use Rattle.std.proofs.Common.{rules, ◌≡◌, ℕ, ◌++◌, List, Option, MatchOption, sym, subst, ◌∙◌}
use Rattle.std.specs.List.{All}
use Rattle.std.specs.List.Sorted.{IsNonDecreasingBy, IsPermutation}
use Rattle.std.proofs.lemmas.List.Sorted.{All-permutation, IsNonDecreasingBy-from_sort_by_key}
use Rattle.hwp_check_state.specs.declared.sights.Sight.{Sight}
use Rattle.hwp_check_rules.specs.Rules.{SeenFit}
use Rattle.hwp_check_state.specs.Sights.{IsBelow, IsFirstOf, IsNotBelow, IsRight, IsSmall, IsWrong, key_of, pages_sights, sights}
use Rattle.hwp_check_state.proofs.SeenRule.{seen-is}
use Rattle.hwp_check_state.proofs.seen.seen_fault.Goals as goal
use Rattle.hwp_check_rules.specs.Firsts.{IsFirstFault}
use Rattle.hwp_check_rules.specs.Faults.{IsSeenFault}

pub first_below-below-requires-clause-sorted : goal.first_below-below-requires-clause-sorted
first_below-below-requires-clause-sorted c =
    subst (IsNonDecreasingBy key_of) (sym c.as_slice-4.ensures.value) (IsNonDecreasingBy-from_sort_by_key key_of _ c.in_ok-sort_by_key.ensures.sorted (λ a r q k. search rules))

pub first_below-below-requires-clause-small : goal.first_below-below-requires-clause-small
first_below-below-requires-clause-small c =
    subst (All IsSmall) (sym c.as_slice-4.ensures.value)
    (All-permutation IsSmall _ _ c.in_ok-sort_by_key.ensures.permutation (subst (All IsSmall) c.as_slice-3.ensures.value c.first_wrong-wrong.ensures.small))

pub returns : goal.returns
returns c =
    let listed : c.add_pages.new.out.items ≡ sights c.args.report.now =
    c.in_ok-add_pages.ensures ∙ (λ i. c.new-list.ensures.items i ++ pages_sights (c.page_at.ensures i) (c.as_slice.ensures i)) in
    subst (λ (o : Option ℕ). MatchOption o (SeenFit c.args.script.now c.args.report.now) (IsFirstFault (SeenFit c.args.script.now c.args.report.now) (IsSeenFault c.args.script.now c.args.report.now))) (sym c.soonest.ensures)
    (seen-is c.args.script.now c.args.report.now c.sort_by_key.new.self.items
    (subst (λ (l : List Sight). IsPermutation l c.sort_by_key.new.self.items) listed c.in_ok-sort_by_key.ensures.permutation) c.first_wrong-wrong.result c.first_below-below.result
    (subst (λ (l : List Sight). IsFirstOf (IsRight c.args.script.now c.args.report.now) (IsWrong c.args.script.now c.args.report.now) l c.first_wrong-wrong.result) (c.as_slice-3.ensures.value ∙ listed) c.first_wrong-wrong.ensures.first)
    (subst (λ (l : List Sight). IsFirstOf (IsNotBelow l) (IsBelow l) l c.first_below-below.result) c.as_slice-4.ensures.value c.first_below-below.ensures))
