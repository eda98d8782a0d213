use Rattle.std.proofs.Common.{◌≡◌, ℕ, ◌+◌, Option, MatchBool, max, nat_lt, take, slice_index_or, ap, ◌∙◌, sym, subst}
use Rattle.hwp_check_state.specs.declared.sights.Sight.{Sight}
use Rattle.hwp_check_state.specs.Sights.{IsBelow, IsFirstOf, IsNotBelow, IsTop, group_of, top_of}
use Rattle.hwp_check_state.proofs.FirstLaws.{any_sight, first-more}
use Rattle.hwp_check_state.proofs.TopLaws.{below-is, top-more}
use Rattle.hwp_check_state.proofs.seen.first_below.Goals as goal

pub loop-sight-preserved : goal.loop-sight-preserved
loop-sight-preserved c =
    let x : Sight = slice_index_or c.args.list.now c.loop-sight.sight-index any_sight in
    let before : c.top_of-before.result ≡ top_of c.loop-sight.group (group_of x) c.loop-sight.top =
    c.top_of-before.ensures ∙ ap (λ (o : ℕ). top_of c.loop-sight.group o c.loop-sight.top) c.group_of-own.ensures.group in
    let decided : MatchBool (nat_lt x.seen.n c.top_of-before.result) (IsBelow c.args.list.now x) (IsNotBelow c.args.list.now x) =
    subst (λ (b : ℕ). MatchBool (nat_lt x.seen.n b) (IsBelow c.args.list.now x) (IsNotBelow c.args.list.now x)) (sym before)
    (below-is c.args.list.now c.requires.sorted c.requires.small c.loop-sight.sight-index any_sight c.loop-sight-test.true c.loop-sight.group c.loop-sight.top c.loop-sight.invariant.1) in (
      subst (λ (o : Option ℕ). IsFirstOf (IsNotBelow c.args.list.now) (IsBelow c.args.list.now) (take (c.loop-sight.sight-index + 1) c.args.list.now) o) (sym c.sooner_if-found.ensures)
          (first-more (IsNotBelow c.args.list.now) (IsBelow c.args.list.now) (λ s none is. none is) c.args.list.now c.loop-sight.sight-index any_sight
          c.loop-sight.found (nat_lt x.seen.n c.top_of-before.result) c.loop-sight-test.true decided c.loop-sight.invariant.0),
      subst (λ (g : ℕ). IsTop (take (c.loop-sight.sight-index + 1) c.args.list.now) g c.max-top.result) (sym c.group_of-own.ensures.group)
          (subst (λ (t : ℕ). IsTop (take (c.loop-sight.sight-index + 1) c.args.list.now) (group_of x) t) (sym (c.max-top.ensures ∙ ap (λ (b : ℕ). max b x.seen.n) before))
          (top-more c.args.list.now c.requires.sorted c.requires.small c.loop-sight.sight-index any_sight c.loop-sight-test.true c.loop-sight.group c.loop-sight.top c.loop-sight.invariant.1)),
    )
