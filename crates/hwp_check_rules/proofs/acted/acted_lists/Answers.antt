use Rattle.std.proofs.Common.{◌≡◌, ◌+◌, ◌<◌, List, [], ◌∷◌, ◌++◌, Option, Some, length, slice_get, unwrap_or, sym, ap, ◌∙◌, subst, arith}
use Rattle.hwp_law.specs.hwp_geom.declared.VSlot.{VSlot}
use Rattle.hwp_law.specs.hwp_report_text.declared.Answer.{Answer}
use Rattle.hwp_law.specs.hwp_report_text.declared.CpuLine.{CpuLine}
use Rattle.hwp_law.specs.hwp_script_words.declared.Command.{Command}
use Rattle.hwp_law.specs.Lines.{answered}
use Rattle.hwp_check_rules.specs.ActedOn.{AreActed, AreCopied, IsActedOn}
use Rattle.hwp_check_rules.proofs.ActedLists.{next-processor, none-acted, read-list}
use Rattle.hwp_check_rules.proofs.acted.acted_lists.Goals as goal

pub loop-number-init : goal.loop-number-init
loop-number-init c =
    subst (λ (l : List (List Command)). IsActedOn c.args.script.now c.args.report.now l c.new-copies.result 0) (sym c.new-lists.ensures)
    (subst (λ (l : List (List (Option VSlot))). IsActedOn c.args.script.now c.args.report.now [] l 0) (sym c.new-copies.ensures) (none-acted c.args.script.now c.args.report.now))

pub loop-number-preserved : goal.loop-number-preserved
loop-number-preserved c =
    let within : c.loop-number.number < length c.args.script.now.lists = omega arith in
    let there : slice_get c.args.script.now.lists c.loop-number.number ≡ Some c.as_slice-commands.result.now =
    read-list c.args.script.now.lists c.as_slice.result.now c.loop-number.number _ _ c.as_slice-commands.result.now c.as_slice.ensures within c.index-as_slice-number.is c.as_slice-commands.ensures in
    let pairs : c.in_ok-pairs.pairs.items ≡ answered c.as_slice-commands.result.now (unwrap_or (slice_get c.args.report.now.cpus c.loop-number.number) []) =
    c.in_ok-pairs.ensures ∙ ap (answered c.as_slice-commands.result.now) c.rows_at.ensures in
    let acted : AreActed c.args.script.now.layout c.in_ok-pairs.pairs.items c.as_slice-commands.result.now (length c.as_slice-commands.result.now) c.in_ok-list.list =
    subst (λ (p : List (Command × Answer)). AreActed c.args.script.now.layout p c.as_slice-commands.result.now (length c.as_slice-commands.result.now) c.in_ok-list.list) c.as_slice-in-loop-number.ensures.value c.in_ok-list.ensures in
    let copied : AreCopied c.args.script.now.layout c.in_ok-pairs.pairs.items c.as_slice-commands.result.now (length c.as_slice-commands.result.now) c.in_ok-own.own =
    subst (λ (p : List (Command × Answer)). AreCopied c.args.script.now.layout p c.as_slice-commands.result.now (length c.as_slice-commands.result.now) c.in_ok-own.own) c.as_slice-in-loop-number-2.ensures.value c.in_ok-own.ensures in
    subst (λ (l : List (List Command)). IsActedOn c.args.script.now c.args.report.now l c.add-in-loop-number.new.list (c.loop-number.number + 1)) (sym c.in_ok-add.ensures)
    (subst (λ (l : List (List (Option VSlot))). IsActedOn c.args.script.now c.args.report.now (c.loop-number.lists ++ c.in_ok-list.list ∷ []) l (c.loop-number.number + 1)) (sym c.in_ok-add-2.ensures)
    (next-processor c.args.script.now c.args.report.now c.loop-number.number c.loop-number.lists c.loop-number.copies c.as_slice-commands.result.now c.in_ok-pairs.pairs.items c.in_ok-list.list c.in_ok-own.own c.loop-number.invariant there pairs acted copied))
