use Rattle.std.proofs.Common.{◌≡◌, ◌<◌, ℕ, Bool, false, List, Option, Some, None, MatchOption, cond, length, map, ap, sym, subst, ◌∙◌}
use Rattle.hwp_check_rules.specs.hwp_script_words.declared.Command.{Command}
use Rattle.hwp_check_rules.specs.Faults.{first_free, IsFrameFault}
use Rattle.hwp_check_rules.specs.Firsts.{soonest, IsFirstFault}
use Rattle.hwp_check_state.specs.Frames.{AreDoneOf, AreRight, cached_after, ends_of, is_right_frame, is_unsaid_from}
use Rattle.hwp_check_rules.specs.Rules.{FramesFit}
use Rattle.hwp_check_rules.specs.Standing.{frame_line}
use Rattle.hwp_check_state.proofs.FrameRule.{frames-is}
use Rattle.hwp_check_state.proofs.frames.frames_fault.Goals as goal

pub returns : goal.returns
returns c =
    let ends : c.in_ok-cached.cached.items ≡ ends_of c.args.report.now = c.in_ok-cached.ensures ∙ ap (map (cached_after false)) c.as_slice-2.ensures in
    let told = frames-is c.args.script.now c.args.report.now c.as_slice-3.result.now
    (subst (λ (l : List Command). AreDoneOf c.args.script.now c.args.report.now l) (sym c.as_slice-3.ensures.value) c.in_ok-done.ensures)
    (c.requires.valid.sound.kernel ∙ sym c.requires.shape.frames) c.requires.legal c.in_ok-wrong.wrong
    (subst (λ (l : List Bool). MatchOption c.in_ok-wrong.wrong (AreRight c.args.script.now c.args.report.now c.as_slice-3.result.now l (length c.args.report.now.frames))
    (λ at. AreRight c.args.script.now c.args.report.now c.as_slice-3.result.now l at × (at < length c.args.report.now.frames) × (is_right_frame c.args.script.now c.args.report.now c.as_slice-3.result.now l at ≡ false)))
    (c.as_slice-4.ensures.value ∙ ends) c.in_ok-wrong.ensures) in
    let line : c.soonest.result ≡ soonest c.line_of.result c.in_ok-unsaid.unsaid = c.soonest.ensures in
    let unsaid : c.in_ok-unsaid.unsaid ≡ cond (is_unsaid_from 0 (ends_of c.args.report.now) c.args.report.now.frames) (Some (frame_line c.args.report.now (first_free 0 c.args.report.now.frames))) None =
    c.in_ok-unsaid.ensures
    ∙ ap (λ (l : List Bool). cond (is_unsaid_from 0 l c.args.report.now.frames) (Some (frame_line c.args.report.now (first_free 0 c.args.report.now.frames))) None) (c.as_slice-5.ensures.value ∙ ends) in
    subst (λ (o : Option ℕ). MatchOption o (FramesFit c.args.script.now c.args.report.now) (IsFirstFault (FramesFit c.args.script.now c.args.report.now) (IsFrameFault c.args.script.now c.args.report.now)))
    (sym (line ∙ (λ i. soonest (c.line_of.ensures i) (unsaid i)))) told
