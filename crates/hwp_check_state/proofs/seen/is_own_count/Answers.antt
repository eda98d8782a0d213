use Rattle.std.proofs.Common.{ℕ, ◌-◌, ◌<◌, List, length, min, slice_index, ap, ◌∙◌, sym, subst}
use Rattle.hwp_check_state.proofs.OwnLaws.{own-cpu, own-is}
use Rattle.hwp_check_state.proofs.seen.is_own_count.Goals as goal

pub count_before-requires : goal.count_before-requires
count_before-requires c =
    subst (λ (l : List ℕ). 0 < length l) (sym c.as_slice.ensures) c.requires.some

pub returns : goal.returns
returns c =
    own-is c.args.script.now c.args.report.now c.args.sight.now.seen c.args.past.now c.requires c.args.sight.now.who c.from.result c.from.ensures
    (own-cpu c.args.past.now.cpu c.args.sight.now.who.cpu c.if-ne.ensures) c.count_before.result
    (c.count_before.ensures ∙ ap (λ (l : List ℕ). slice_index l (min c.args.sight.now.who.seq (length l - 1))) c.as_slice.ensures)
