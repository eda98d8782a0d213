-- A course fits at its beginning: its own task does, and no frame is due.
use Rattle.hwp_cpu_row.specs.hwp_geom.declared.VSlot.{VSlot}
use Rattle.std.proofs.Common.{Option, ap, true, arith, subst, length, None, refl, sym, Some, ◌≡◌, ◌∙◌, []}
use Rattle.hwp_cpu_row.specs.hwp_core_rule.declared.View.{View}
use Rattle.hwp_cpu.specs.Courses.{IsOfMachine, begin, BeginsCourse, FitsOwn, HasPassed}
use Rattle.hwp_cpu_row.specs.declared.Watching.{Watching}
use Rattle.hwp_cpu.proofs.commands.CommandStops.{look-first, untold-at-start}
use Rattle.hwp_cpu_command.specs.declared.job.Job.{Job}
use Rattle.hwp_cpu_row.specs.declared.Local.{Local}
use Rattle.hwp_cpu.specs.declared.course.Course.{Course}
use Rattle.std.proofs.lemmas.Option.{none-some}
use Rattle.hwp_cpu_row.specs.Locals.{collects}
use Rattle.hwp_cpu_row.specs.hwp_claim.hwp_guest.declared.Admit.{Admit}
use Rattle.hwp_cpu_row.specs.hwp_report_text.declared.Answer.{Answer}
use Rattle.hwp_cpu_command.proofs.JobEnds.{answered-over}
use Rattle.hwp_cpu_row.specs.hwp_law.GuestRule.{denial}
use Rattle.hwp_cpu_row.specs.hwp_script_words.declared.Command.{Command}
use Rattle.hwp_cpu_row.specs.hwp_geom.declared.Who.{Who}
use Rattle.hwp_cpu_command.specs.Stays.{IsAtStop}
use Rattle.hwp_cpu.proofs.commands.CommandRuns.{HasBegun, has-begun, IsTold}
use Rattle.hwp_cpu_row.specs.hwp_geom.declared.Layout.{Layout}
use Rattle.hwp_cpu_command.specs.Jobs as jobs
use Rattle.hwp_cpu_row.specs.hwp_core_rule.declared.Step.TheVariants as steps
use Rattle.hwp_cpu.specs.Courses as courses
use Rattle.hwp_cpu_command.specs.declared.job.Job.TheVariants as kinds
use Rattle.hwp_cpu_row.specs.hwp_core_rule.declared.SharedWord.TheVariants as places

-- a command that has yet to look whether the machine has stopped has no answer
start-unanswered : (j : Job) → IsAtStop j → jobs.answer j ≡ None
start-unanswered j start = which (jobs.answer j) refl
  where
    which : (o : Option Answer) → jobs.answer j ≡ o → jobs.answer j ≡ None
    which None is = is
    which (Some a) is = absurd (none-some (steps.Load places.Stop) (sym (answered-over j is) ∙ look-first j start))

-- an access whose processor collects knows that, and has told of no event
passed-none : (watching : Option Watching) (j : Job) → IsTold (collects watching) j → IsAtStop j → collects watching ≡ true → HasPassed j 0
passed-none watching (kinds.Instruction i) told start on = (told ∙ on, λ goes. sym (ap length (untold-at-start (kinds.Instruction i) start)))
passed-none watching (kinds.Copying y) told start on = (told ∙ on, λ goes. sym (ap length (untold-at-start (kinds.Copying y) start)))
passed-none watching _ told start on = tt

pub course-begins : (layout : Layout) (view : View) (who : Who) (command : Command) (copies : Option VSlot) (admit : Admit) (local : Local) (c : Course) → BeginsCourse layout who command copies admit local c → jobs.FitsFrom [] layout view c.own → IsOfMachine layout local.watching → courses.Fits layout view c
course-begins layout view who command copies admit local c begins fits of = subst (courses.Fits layout view) (sym begins.is) (record {
  frames_are = refl;
  collector = of;
  noted = omega arith;
  for_pages = λ i f there. absurd (none-some f there);
  few = omega arith;
  room = omega arith;
  behind = omega arith;
  at = subst (FitsOwn layout view (begin c.own local.watching layout.frames)) (sym (start-unanswered c.own start)) (record {
    fits = ([], fits);
    none_due = refl;
    passed = passed-none local.watching c.own begun.told start;
  });
})
  where
    begun : HasBegun layout who command copies (denial admit) local.banks (collects local.watching) c.own
    begun = has-begun layout who command copies admit local.banks (collects local.watching) c.own begins.begins

    start : IsAtStop c.own
    start = begun.start
