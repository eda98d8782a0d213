-- Why a soft offline of a frame is answered so.
use Rattle.std.proofs.Common.{◌≡◌, inl, List, Option, Some, refl, sym, ap, ◌∙◌, subst, []}
use Rattle.std.specs.Prelude.{option_and_then}
use Rattle.hwp_law_served.specs.hwp_geom.declared.Frame.{Frame}
use Rattle.hwp_law_served.specs.hwp_geom.declared.Layout.{Layout}
use Rattle.hwp_law_served.specs.hwp_geom.declared.Who.{Who}
use Rattle.hwp_law_served.specs.hwp_core_rule.declared.View.{View}
use Rattle.hwp_law_served.specs.hwp_script_words.declared.Command.{Command}
use Rattle.hwp_law_served.specs.hwp_script_words.declared.Command.TheVariants as commands
use Rattle.hwp_law_served.specs.hwp_report_text.declared.Answer.{Answer}
use Rattle.hwp_law_served.specs.hwp_claim.declared.EventOutcome.{EventOutcome}
use Rattle.hwp_law_served.specs.hwp_cpu_row.declared.FrameChange.{FrameChange}
use Rattle.hwp_law_served.specs.hwp_soft.declared.Soft.{Soft}
use Rattle.hwp_law_served.specs.hwp_soft.declared.SoftAnswer.{SoftAnswer}
use Rattle.hwp_law_served.specs.hwp_soft.declared.SoftAnswer.TheVariants as answers
use Rattle.hwp_law_served.specs.hwp_soft.Offline as offline
use Rattle.hwp_law_served.specs.hwp_soft.Softs as softs
use Rattle.hwp_cpu_command.specs.declared.Job.{Job}
use Rattle.hwp_cpu_command.specs.declared.Job.TheVariants as jobs
use Rattle.hwp_cpu_command.specs.Answers.{soft_answer}
use Rattle.hwp_cpu_command.specs.Begins.{BeginsSoft}
use Rattle.hwp_cpu_command.specs.Jobs.{FitsFrom, answer, offlined_by, own_of}
use Rattle.hwp_cpu_command.specs.Runs.{anew}
use Rattle.hwp_cpu_command.proofs.JobEnds.{mapped, soft-ended}
use Rattle.hwp_cpu_command.proofs.OfKind.{of-soft}
use Rattle.hwp_law_served.specs.Causes.{IsAnswerCaused}
use Rattle.hwp_cpu.proofs.causes.StopCauses.{found-stopped}

-- the command's task, and what it knows of its answer
pub record KnowsSoft (layout : Layout) (view : View) (who : Who) (frame : Frame) (j : Job) (answer : Answer) : Type 0 where
  pub task : Soft
  pub job_is : j ≡ jobs.Soft task
  pub begun : softs.begin task.who task.frame ≡ softs.begin who frame
  pub own : SoftAnswer
  pub said : softs.answer task ≡ Some own
  pub answer_is : soft_answer own ≡ answer
  pub caused : offline.IsCaused [] layout view task.who task.frame own

pub knows-soft : {layout : Layout} {view : View} {who : Who} {frame : Frame} (j : Job) {a : Answer} → BeginsSoft layout who frame (anew j) → FitsFrom [] layout view j → answer j ≡ Some a → KnowsSoft layout view who frame j a
knows-soft {layout} {view} {who} {frame} j {a} runs fits is = record {
  task = task.0;
  job_is = task.1;
  begun = task.2;
  own = own.0;
  said = own.1;
  answer_is = own.2;
  caused = (soft-ended task.0 (subst (FitsFrom [] layout view) task.1 fits) own.1).1;
}
  where
    task : (s : Soft) × (j ≡ jobs.Soft s) × (softs.begin s.who s.frame ≡ softs.begin who frame)
    task = of-soft j runs.job_is

    own : (x : SoftAnswer) × (softs.answer task.0 ≡ Some x) × (soft_answer x ≡ a)
    own = mapped soft_answer (softs.answer task.0) (sym (ap answer task.1) ∙ is)

-- what the task knows is a cause of what the report says
offlined : (layout : Layout) (earlier : List (Command × Answer)) (view : View) (who : Who) (frame : Frame) (told : List EventOutcome) (x : SoftAnswer) → offline.IsCaused [] layout view who frame x
    → IsAnswerCaused layout earlier view who (commands.Soft frame) told (offlined_by frame x) (soft_answer x)
offlined layout earlier view who frame told answers.Stopped has = found-stopped layout (commands.Soft frame) view who (inl has.1) has.0
offlined layout earlier view who frame told answers.Kernel has = (has.1, has.0, refl)
offlined layout earlier view who frame told answers.Already has = (has.2, (record { word = has.1.word; poisoned = has.1.poisoned; saw = has.1.saw; made = has.0 }, refl))
offlined layout earlier view who frame told (answers.HasBad mask) has = (has.2, (record { some = has.1.some; page = has.1.page; saw = has.1.saw; made = has.0 }, refl))
offlined layout earlier view who frame told answers.NoFrame has = (has.2, (has.0, has.1, refl))
offlined layout earlier view who frame told (answers.TakenFree cycle) has = (has.2, record { cycle = cycle; own_is = refl; made = has.0 })
offlined layout earlier view who frame told (answers.Moved to place cycle) has = (has.3, record { cycle = cycle; own_is = refl; word = has.2.0; free = has.2.1; made = record { made = has.0 } })

pub soft-caused : {layout : Layout} (earlier : List (Command × Answer)) {view : View} (told : List EventOutcome) {who : Who} {frame : Frame} (j : Job) {a : Answer} → KnowsSoft layout view who frame j a → IsAnswerCaused layout earlier view who (commands.Soft frame) told (own_of j) a
soft-caused {layout} earlier {view} told {who} {frame} j {a} k =
    subst (λ (s : Soft). IsAnswerCaused layout earlier view s.who (commands.Soft s.frame) told (own_of j) a) k.begun
    (subst (λ (own : Option FrameChange). IsAnswerCaused layout earlier view k.task.who (commands.Soft k.task.frame) told own a) (sym own-is)
    (subst (IsAnswerCaused layout earlier view k.task.who (commands.Soft k.task.frame) told (offlined_by k.task.frame k.own)) k.answer_is
    (offlined layout earlier view k.task.who k.task.frame told k.own k.caused)))
  where
    own-is : own_of j ≡ offlined_by k.task.frame k.own
    own-is = ap own_of k.job_is ∙ ap (λ (o : Option SoftAnswer). option_and_then (offlined_by k.task.frame) o) k.said
