use Rattle.std.proofs.Common.{rules, ◌≡◌, ◌^◌, ◌<◌, arith}
use Rattle.hwp_check_state.specs.Lost.{below, key}
use Rattle.hwp_check_state.proofs.LostLaws.{before-first, before-is}
use Rattle.hwp_check_state.proofs.lost.lost_before.Goals as goal

pub overflow_sub-result : goal.overflow_sub-result
overflow_sub-result c =
    let first : c.below-first.result ≡ below (key c.args.file.0 c.args.who.cpu.0 0) c.args.list.now = search rules in
    let end : c.below-end.result ≡ below (key c.args.file.0 c.args.who.cpu.0 c.args.who.seq) c.args.list.now = search rules in
    let small-cpu : c.args.who.cpu.0 < 256 = search rules in
    let small-seq : c.args.who.seq < 2 ^ 32 = search rules in
    let less = before-first c.args.script.now c.args.report.now c.args.list.now c.requires c.args.file c.args.who small-cpu small-seq in
    omega (arith, first, end, less)

pub returns-clause-lost : goal.returns-clause-lost
returns-clause-lost c =
    let first : c.below-first.result ≡ below (key c.args.file.0 c.args.who.cpu.0 0) c.args.list.now = search rules in
    let end : c.below-end.result ≡ below (key c.args.file.0 c.args.who.cpu.0 c.args.who.seq) c.args.list.now = search rules in
    let small-cpu : c.args.who.cpu.0 < 256 = search rules in
    let small-seq : c.args.who.seq < 2 ^ 32 = search rules in
    let less = before-first c.args.script.now c.args.report.now c.args.list.now c.requires c.args.file c.args.who small-cpu small-seq in
    before-is c.args.script.now c.args.report.now c.args.list.now c.requires c.args.file c.args.who c.below-first.result c.below-end.result _ small-cpu small-seq first end (omega (arith, first, end, less))
