use Rattle.std.proofs.Common.{◌≤◌, ◌++◌, false, ◌∷◌, [], length, map, sym, ap, ◌∙◌, arith}
use Rattle.std.proofs.lemmas.List.{map_more, take_all}
use Rattle.hwp_check_state.specs.Frames.{cached_after}
use Rattle.hwp_check_state.proofs.frames.ends_of.Goals as goal

pub loop-entries-preserved : goal.loop-entries-preserved
loop-entries-preserved c =
    c.in_ok-push.ensures.items ∙ (λ i. c.loop-entries.invariant i ++ (c.ends_cached.ensures ∙ ap (cached_after false) (c.as_slice.ensures ∙ c.entries-item.is)) i ∷ [])
    ∙ sym (map_more (cached_after false) c.args.pages.now c.loop-entries.entries-index _ c.loop-entries-test.true)

pub returns : goal.returns
returns c =
    let past : length c.args.pages.now ≤ c.loop-entries.entries-index = let e = c.loop-entries-test.false in omega arith in
    c.loop-entries.invariant ∙ ap (map (cached_after false)) (take_all c.loop-entries.entries-index c.args.pages.now past)
