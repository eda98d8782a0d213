use Rattle.std.specs.Arc.{arc_value}
use Rattle.std.proofs.Common.{◌≡◌, ℕ, ◌+◌, ◌<◌, ◌≤◌, List, [], ◌∷◌, ◌++◌, length, get_or, sym, ap, ◌∙◌, subst, arith}
use Rattle.std.proofs.lemmas.List.{length-append}
use Rattle.hwp_top_report.specs.hwp_geom.declared.Layout.{Layout}
use Rattle.hwp_top_words.specs.hwp_script_read.declared.Command.{Command}
use Rattle.hwp_top_report.specs.hwp_plain.Order.{cpu_of}
use Rattle.hwp_cpu.specs.declared.Processor.{Processor}
use Rattle.hwp_cpu.specs.Processors.{AreCommands, AtBeginning}
use Rattle.hwp_top.proofs.Crews.{AreBegun, begun-more, commands-at}
use Rattle.hwp_top.proofs.crew.crew_of.Goals as goal

pub new-requires-in-loop-cpu-clause-commands : goal.new-requires-in-loop-cpu-clause-commands
new-requires-in-loop-cpu-clause-commands c =
    let lists_are : c.as_slice-lists.result.now ≡ c.args.script.now.lists = c.loop-cpu.invariant.3 in
    let inside : c.loop-cpu.cpu < length c.args.script.now.lists = subst (λ (l : List (List Command)). c.loop-cpu.cpu < length l) lists_are c.loop-cpu-test.true in
    let are : get_or c.args.script.now.lists c.loop-cpu.cpu c.index-lists-cpu.result ≡ c.as_slice-commands.result.now
    = ap (λ (l : List (List Command)). get_or l c.loop-cpu.cpu c.index-lists-cpu.result) (sym lists_are) ∙ sym c.index-lists-cpu.is ∙ sym c.as_slice-commands.ensures in
    subst (λ (l : Layout). AreCommands l (cpu_of c.loop-cpu.cpu) c.as_slice-commands.result.now) (sym c.loop-cpu.invariant.2)
    (subst (AreCommands c.args.script.now.layout (cpu_of c.loop-cpu.cpu)) are (commands-at c.args.script.now c.loop-cpu.cpu c.index-lists-cpu.result c.requires.valid inside))

pub loop-cpu-preserved : goal.loop-cpu-preserved
loop-cpu-preserved c =
    let tasks : List Processor = c.loop-cpu.crew.items in
    let p : Processor = c.in-Ok.processor in
    let count : length tasks ≡ c.loop-cpu.cpu = c.loop-cpu.invariant.0 in
    let lists_are : c.as_slice-lists.result.now ≡ c.args.script.now.lists = c.loop-cpu.invariant.3 in
    let inside : c.loop-cpu.cpu < length c.args.script.now.lists = subst (λ (l : List (List Command)). c.loop-cpu.cpu < length l) lists_are c.loop-cpu-test.true in
    let are : c.as_slice-commands.result.now ≡ get_or c.args.script.now.lists c.loop-cpu.cpu c.index-lists-cpu.result
    = c.as_slice-commands.ensures ∙ c.index-lists-cpu.is ∙ ap (λ (l : List (List Command)). get_or l c.loop-cpu.cpu c.index-lists-cpu.result) lists_are in
    let begins : AtBeginning (arc_value c.in_ok-layout.layout) (cpu_of c.loop-cpu.cpu) c.as_slice-commands.result.now p = c.in-Ok.ensures in
    let of_script : AtBeginning c.args.script.now.layout (cpu_of c.loop-cpu.cpu) (get_or c.args.script.now.lists c.loop-cpu.cpu c.index-lists-cpu.result) p
    = subst (λ (l : Layout). AtBeginning l (cpu_of c.loop-cpu.cpu) (get_or c.args.script.now.lists c.loop-cpu.cpu c.index-lists-cpu.result) p) c.loop-cpu.invariant.2
    (subst (λ (l : List Command). AtBeginning (arc_value c.in_ok-layout.layout) (cpu_of c.loop-cpu.cpu) l p) are begins) in
    let more : AreBegun c.args.script.now (tasks ++ p ∷ [])
    = begun-more c.args.script.now tasks p c.index-lists-cpu.result c.loop-cpu.invariant.1 (omega (arith, inside, count))
    (subst (λ (n : ℕ). AtBeginning c.args.script.now.layout (cpu_of n) (get_or c.args.script.now.lists n c.index-lists-cpu.result) p) (sym count) of_script) in (
      ap (λ (l : List Processor). length l) c.push_reserved.ensures.items ∙ length-append tasks (p ∷ []) ∙ ap (λ (n : ℕ). n + 1) count,
      subst (AreBegun c.args.script.now) (sym c.push_reserved.ensures.items) more,
      c.loop-cpu.invariant.2,
      c.loop-cpu.invariant.3,
      c.push_reserved.ensures.len ∙ ap (λ (n : ℕ). n + 1) c.loop-cpu.invariant.4,
      subst (λ (n : ℕ). length c.as_slice-lists.result.now ≤ n) (sym c.push_reserved.ensures.capacity) c.loop-cpu.invariant.5,
    )
