use Rattle.std.proofs.Common.{rules, ◌≡◌, ◌∙◌, ap, cond, ℕ}
use Rattle.hwp_check_frames.specs.Counts.{at_key}
use Rattle.hwp_check_rules.specs.MarkFaults.{lines_beside}
use Rattle.hwp_check_frames.proofs.SoftLaws.{lines-are}
use Rattle.hwp_check_frames.proofs.records.soft_lines.Goals as goal

pub returns : goal.returns
returns c =
    let one : c.from-answered.result ≡ cond c.is_soft_so.result 1 0 = search rules in
    let beside : c.count.result ≡ lines_beside c.args.report.now c.args.who c.args.frame.0 c.args.moved =
    c.count.ensures ∙ ap (λ (q : (ℕ × ℕ) × ℕ). at_key c.args.index.now.beside q) c.spot_of.ensures ∙ c.requires.beside.counted c.args.who c.args.frame.0 c.args.moved in
    lines-are c.args.script.now c.args.report.now c.args.who c.args.frame c.args.moved c.is_soft_so.result c.from-answered.result c.count.result one beside c.is_soft_so.ensures
