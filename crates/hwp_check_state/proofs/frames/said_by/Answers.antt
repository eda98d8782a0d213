use Rattle.std.proofs.Common.{◌≤◌, Bool, false, List, length, replicate, sym, ap, ◌∙◌, arith}
use Rattle.std.proofs.lemmas.List.{take_all}
use Rattle.std.proofs.lemmas.List.Sums.{fold_more}
use Rattle.hwp_check_rules.specs.hwp_report_text.declared.FrameLine.{FrameLine}
use Rattle.hwp_check_state.specs.Frames.{said_by, said_with}
use Rattle.hwp_check_state.proofs.frames.said_by.Goals as goal

pub loop-frame-preserved : goal.loop-frame-preserved
loop-frame-preserved c =
    c.say.ensures ∙ (λ i. said_with (c.loop-frame.invariant i) (c.frame-item.is i).place)
    ∙ sym (fold_more (λ (said : List Bool) (f : FrameLine). said_with said f.place) (replicate c.args.pages false) c.args.frames.now c.loop-frame.frame-index _ c.loop-frame-test.true)

pub returns : goal.returns
returns c =
    let past : length c.args.frames.now ≤ c.loop-frame.frame-index = let e = c.loop-frame-test.false in omega arith in
    c.loop-frame.invariant ∙ ap (said_by c.args.pages) (take_all c.loop-frame.frame-index c.args.frames.now past)
