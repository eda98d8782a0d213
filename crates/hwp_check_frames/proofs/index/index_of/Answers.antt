use Rattle.std.proofs.Common.{◌≡◌, ◌∙◌, ℕ, List, length, sym, ap, arith}
use Rattle.hwp_check_rules.specs.hwp_report_text.declared.FrameLine.{FrameLine}
use Rattle.hwp_check_frames.specs.Counts.{at_key}
use Rattle.hwp_check_frames.specs.Own.{frames_own}
use Rattle.hwp_check_frames.proofs.IndexLaws.{none-flagged, some-flagged}
use Rattle.hwp_check_frames.proofs.index.index_of.Goals as goal

pub returns : goal.returns
returns c =
    let long : length c.in_ok-beyond.beyond.items ≡ length c.args.report.now.frames = c.in_ok-beyond.ensures.long ∙ sym c.requires.frames in
    let own : (q : (ℕ × ℕ) × ℕ) → at_key c.in_ok-own.own q ≡ frames_own 0 q c.args.report.now.frames = λ q. c.in_ok-own.ensures q ∙ ap (λ (l : List FrameLine). frames_own 0 q l) c.as_slice.ensures in
    record {
      given = c.in_ok-given.ensures;
      beside = c.in_ok-beside.ensures;
      noted = c.in_ok-said.ensures;
      long = long;
      some = λ frame d within is.
          some-flagged c.args.report.now c.in_ok-said.said.many c.in_ok-said.said.rows c.in_ok-said.ensures c.in_ok-own.own own c.args.script.now.layout.cpus c.in_ok-beyond.beyond.items c.in_ok-beyond.ensures.are frame d (omega (arith, within, long)) is;
      none = λ frame d within is.
          none-flagged c.args.report.now c.in_ok-said.said.many c.in_ok-said.said.rows c.in_ok-said.ensures c.in_ok-own.own own c.args.script.now.layout.cpus c.in_ok-beyond.beyond.items c.in_ok-beyond.ensures.are (sym c.requires.cpus) frame d (omega (arith, within, long)) is;
    }
