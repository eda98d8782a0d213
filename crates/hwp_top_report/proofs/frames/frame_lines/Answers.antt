use Rattle.std.proofs.Common.{◌≡◌, ℕ, ◌<◌, ◌≤◌, sym, subst, arith}
use Rattle.hwp_plain.specs.hwp_core_rule.Words.{words_of}
use Rattle.hwp_top_report.specs.Closing.{AreLinesBy}
use Rattle.hwp_top_report.proofs.LineLaws.{line-next}
use Rattle.hwp_top_report.proofs.frames.frame_lines.Goals as goal

pub loop-frame-preserved : goal.loop-frame-preserved
loop-frame-preserved c =
    let count : c.from.result ≡ c.args.layout.now.frames = c.from.ensures in
    let less : c.loop-frame.frame < c.args.layout.now.frames = c.loop-frame-test.true in
    line-next (words_of c.args.layout.now c.args.words.now) c.args.notes.now c.from.result c.loop-frame.frame c.from-in-loop-frame.result c.in_ok-records.records.items c.loop-frame.lines.items c.push.new.self.items c.frame_line.result c.in_ok-marks.marks c.index.result.now
    c.in_ok-records.ensures (omega (arith, count, less)) c.from-in-loop-frame.ensures c.index.ensures c.in_ok-marks.ensures c.frame_line.ensures c.loop-frame.invariant c.in_ok-push.ensures.items

pub returns : goal.returns
returns c =
    let past : c.args.layout.now.frames ≤ c.loop-frame.frame = c.loop-frame-test.false in
    let within : c.loop-frame.frame ≤ c.args.layout.now.frames = c.loop-frame.auto.frame-end in
    let all : c.loop-frame.frame ≡ c.args.layout.now.frames = omega (arith, past, within) in
    subst (AreLinesBy (words_of c.args.layout.now c.args.words.now) c.args.notes.now c.args.layout.now.frames) (sym c.from_vec.ensures)
    (subst (λ (n : ℕ). AreLinesBy (words_of c.args.layout.now c.args.words.now) c.args.notes.now n c.loop-frame.lines.items) all c.loop-frame.invariant)
