use Rattle.std.proofs.Common.{rules, ◌≡◌, ◌+◌, arith}
use Rattle.hwp_check_state.specs.Lost.{below, key}
use Rattle.hwp_check_state.proofs.LostLaws.{file-first, lost-is}
use Rattle.hwp_check_state.proofs.lost.lost.Goals as goal

pub overflow_sub-result : goal.overflow_sub-result
overflow_sub-result c =
    let first : c.below-first.result ≡ below (key c.args.file.0 0 0) c.args.list.now = search rules in
    let end : c.below-end.result ≡ below (key (c.args.file.0 + 1) 0 0) c.args.list.now = search rules in
    let less = file-first c.args.script.now c.args.report.now c.args.list.now c.requires c.args.file in
    omega (arith, first, end, less)

pub returns-clause-lost : goal.returns-clause-lost
returns-clause-lost c =
    let first : c.below-first.result ≡ below (key c.args.file.0 0 0) c.args.list.now = search rules in
    let end : c.below-end.result ≡ below (key (c.args.file.0 + 1) 0 0) c.args.list.now = search rules in
    let less = file-first c.args.script.now c.args.report.now c.args.list.now c.requires c.args.file in
    lost-is c.args.script.now c.args.report.now c.args.list.now c.requires c.args.file c.below-first.result c.below-end.result _ first end (omega (arith, first, end, less))
