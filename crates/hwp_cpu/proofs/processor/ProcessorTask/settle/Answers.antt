use Rattle.std.proofs.Common.{◌≡◌, List, ℕ, length, subst, Option, slice_get, sym, ◌∙◌, arith}
use Rattle.std.specs.Arc.{arc_value}
use Rattle.hwp_cpu.specs.declared.course.Course.{Course}
use Rattle.hwp_cpu_row.specs.declared.Local.{Local}
use Rattle.hwp_cpu_row.specs.hwp_geom.declared.Layout.{Layout}
use Rattle.hwp_cpu_row.specs.hwp_script_words.declared.Command.{Command}
use Rattle.hwp_cpu.specs.Processors.{MayTellOf, ShowsOf, command_now}
use Rattle.hwp_cpu.proofs.GuestsKept.{tells-now}
use Rattle.hwp_cpu.proofs.Within.{course-within}
use Rattle.hwp_cpu.proofs.processor.ProcessorTask.settle.Goals as goal

pub finish-row-requires : goal.finish-row-requires
finish-row-requires c =
    let shown = subst (λ (o : Option Course). ShowsOf c.args.self.now o c.args.found c.args.body) c.in-Some.is c.requires.shows in
    record { within = course-within c.args.layout.now c.in-Some.course c.args.found c.args.body c.settle-turn.new.self c.settle-turn.result c.settle-turn.ensures shown.1 }

pub remember-row-requires-clause-meets : goal.remember-row-requires-clause-meets
remember-row-requires-clause-meets c =
    let shown = subst (λ (o : Option Course). ShowsOf c.args.self.now o c.args.found c.args.body) c.in-Some.is c.requires.shows in
    let told : MayTellOf (arc_value c.args.self.now.layout) (command_now c.args.self.now) c.in-Some-answer.answer c.finish-row.new.local.guests = subst (λ (l : Local). MayTellOf (arc_value c.args.self.now.layout) (command_now c.args.self.now) c.in-Some-answer.answer l.guests) (sym c.finish-row.ensures.local)
    (tells-now (arc_value c.args.self.now.layout) c.args.layout.now (command_now c.args.self.now) c.args.self.now.local.guests c.in-Some.course c.settle-turn.new.self c.args.found c.args.body c.settle-turn.result c.in-Some-answer.answer c.settle-turn.ensures shown.4
    (sym c.answer.ensures ∙ c.in-Some-answer.is)) in
    let counted : c.len-number.result ≡ length c.args.self.now.rows.items = omega (arith, c.len-number.ensures) in
    let numbered : MayTellOf (arc_value c.args.self.now.layout) (slice_get c.args.self.now.commands c.len-number.result) c.in-Some-answer.answer c.finish-row.new.local.guests = subst (λ (n : ℕ). MayTellOf (arc_value c.args.self.now.layout) (slice_get c.args.self.now.commands n) c.in-Some-answer.answer c.finish-row.new.local.guests) (sym counted) told in
    let listed : MayTellOf (arc_value c.args.self.now.layout) (slice_get c.as_slice-commands.result.now c.len-number.result) c.in-Some-answer.answer c.finish-row.new.local.guests = subst (λ (xs : List Command). MayTellOf (arc_value c.args.self.now.layout) (slice_get xs c.len-number.result) c.in-Some-answer.answer c.finish-row.new.local.guests) (sym c.as_slice-commands.ensures) numbered in
    subst (λ (y : Layout). MayTellOf y (slice_get c.as_slice-commands.result.now c.len-number.result) c.in-Some-answer.answer c.finish-row.new.local.guests) (sym c.deref.ensures) listed
