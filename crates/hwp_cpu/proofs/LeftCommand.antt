-- The entry by which a page left its frame, of a command that is answered: that of the command `soft` itself, beside those before.
use Rattle.hwp_cpu.proofs.causes.LeftBeside.{IsNoSoft, left-answered, left-moved, moved_at}
use Rattle.hwp_cpu_row.specs.hwp_geom.declared.Who.{Who}
use Rattle.hwp_cpu_command.specs.declared.job.Job.{Job}
use Rattle.hwp_cpu_row.specs.hwp_core_rule.declared.View.{View}
use Rattle.hwp_law_served.specs.hwp_page.declared.At.{At}
use Rattle.std.proofs.Common.{refl, ◌≡◌, Option, None, ap, ◌++◌, subst, sym, Some, List, ◌∙◌, [], inl, inr}
use Rattle.hwp_cpu_command.proofs.OfKind.{of-evict, of-fork, of-scrub, of-instruction, of-soft, of-fsync, of-raise, of-spoil, of-unpoison, of-prctl, of-inject, of-nested, of-log}
use Rattle.hwp_cpu.specs.Beside.{ArePrior}
use Rattle.hwp_cpu_row.specs.hwp_geom.declared.Layout.{Layout}
use Rattle.hwp_cpu_row.specs.hwp_core_rule.declared.Made.{Made}
use Rattle.std.specs.List.{cons_option}
use Rattle.hwp_cpu_row.specs.hwp_geom.declared.Frame.{Frame}
use Rattle.hwp_cpu_command.specs.hwp_soft.declared.SoftAnswer.{SoftAnswer}
use Rattle.hwp_law_served.specs.Offlinings.{left_among, left_by, left_itself}
use Rattle.hwp_cpu.proofs.commands.CommandRuns.{runs-who}
use Rattle.hwp_cpu_row.specs.hwp_script_words.declared.Command.{Command}
use Rattle.hwp_cpu_command.specs.Answers.{soft_answer}
use Rattle.hwp_cpu_row.specs.hwp_report_text.declared.Answer.{Answer}
use Rattle.hwp_cpu_command.proofs.JobEnds.{mapped}
use Rattle.hwp_cpu_command.specs.hwp_soft.declared.Soft.{Soft}
use Rattle.hwp_cpu_command.specs.Runs.{RunsAs, RunsDenied}
use Rattle.hwp_cpu_command.specs.Jobs as jobs
use Rattle.hwp_cpu_command.specs.hwp_soft.Softs as softs
use Rattle.hwp_cpu_command.specs.declared.job.Job.TheVariants as kinds
use Rattle.hwp_cpu_row.specs.hwp_script_words.declared.Command.TheVariants as commands
use Rattle.hwp_cpu_command.specs.hwp_soft.declared.SoftAnswer.TheVariants as soft_answers
use Rattle.hwp_cpu.proofs.causes.DeniedCauses.{access-by, runs-kind}
use Rattle.hwp_cpu_row.specs.hwp_geom.declared.VSlot.{VSlot}

module _ (layout : Layout) (view : View) (who : Who) (j : Job) (a : Answer) (base : List Made) (fits : jobs.FitsFrom base layout view j) (has : jobs.answer j ≡ Some a) where
  -- of another command
  plain : (command : Command) {k : Job} → RunsAs layout who command None j → j ≡ k → IsNoSoft k → left_by who view ≡ left_among base
  plain command {k} runs is apart = subst (λ (w : Who). left_by w view ≡ left_among base) (runs-who layout who command None j (inr runs)) (left-answered base layout view j (subst IsNoSoft (sym is) apart) fits has)

  itself : (frame : Frame) (x : SoftAnswer) → moved_at x ≡ left_itself (commands.Soft frame) (soft_answer x)
  itself frame soft_answers.Stopped = refl
  itself frame soft_answers.Kernel = refl
  itself frame soft_answers.Already = refl
  itself frame (soft_answers.HasBad mask) = refl
  itself frame soft_answers.NoFrame = refl
  itself frame (soft_answers.TakenFree cycle) = refl
  itself frame (soft_answers.Moved to place cycle) = refl

  -- and of that one
  own-page : (frame : Frame) → RunsAs layout who (commands.Soft frame) None j → base ≡ [] → left_by who view ≡ cons_option (left_itself (commands.Soft frame) a) (left_among base)
  own-page frame runs none = subst (λ (w : Who). left_by w view ≡ cons_option (left_itself (commands.Soft frame) a) (left_among base)) (sym (ap jobs.who task.1) ∙ runs-who layout who (commands.Soft frame) None j (inr runs))
      (left-moved task.0 came.0 (subst (jobs.FitsFrom base layout view) task.1 fits) came.1
      ∙ ap (λ (b : List Made). left_among b ++ cons_option (moved_at came.0) []) none
      ∙ ap (λ (o : Option At). cons_option o []) (itself frame came.0 ∙ ap (left_itself (commands.Soft frame)) came.2)
      ∙ ap (λ (b : List Made). cons_option (left_itself (commands.Soft frame) a) (left_among b)) (sym none))
    where
      task : (s : Soft) × (j ≡ kinds.Soft s) × (softs.begin s.who s.frame ≡ softs.begin who frame)
      task = of-soft j runs.job_is

      came : (x : SoftAnswer) × (softs.answer task.0 ≡ Some x) × (soft_answer x ≡ a)
      came = mapped soft_answer (softs.answer task.0) (sym (ap jobs.answer task.1) ∙ has)

  -- where it copies nothing
  pub left-command : (command : Command) → RunsAs layout who command None j → ArePrior layout command base → left_by who view ≡ cons_option (left_itself command a) (left_among base)
  left-command (commands.Load thread slot line) runs prior = plain (commands.Load thread slot line) runs (of-instruction j runs.job_is).1 tt
  left-command (commands.Fetch thread slot line) runs prior = plain (commands.Fetch thread slot line) runs (of-instruction j runs.job_is).1 tt
  left-command (commands.KLoad thread slot line) runs prior = plain (commands.KLoad thread slot line) runs (of-instruction j runs.job_is).1 tt
  left-command (commands.Store thread slot line word) runs prior = plain (commands.Store thread slot line word) runs (of-instruction j runs.job_is).1 tt
  left-command (commands.Free slot) runs prior = plain (commands.Free slot) runs (of-evict j runs.1.job_is).1 tt
  left-command (commands.Drop page) runs prior = plain (commands.Drop page) runs (of-evict j runs.job_is).1 tt
  left-command (commands.Sync page) runs prior = plain (commands.Sync page) runs (of-evict j runs.job_is).1 tt
  left-command (commands.Out page) runs prior = plain (commands.Out page) runs (of-evict j runs.job_is).1 tt
  left-command (commands.Fsync file) runs prior = plain (commands.Fsync file) runs (of-fsync j runs.2).1 tt
  left-command (commands.Open file) runs prior = plain (commands.Open file) runs (of-fsync j runs.2).1 tt
  left-command (commands.Prctl thread args) runs prior = plain (commands.Prctl thread args) runs (of-prctl j runs.job_is).1 tt
  left-command (commands.Fork thread child) runs prior = plain (commands.Fork thread child) runs (of-fork j runs.job_is).1 tt
  left-command (commands.Bad frame line) runs prior = plain (commands.Bad frame line) runs (of-spoil j runs.job_is).1 tt
  left-command (commands.Weak frame line) runs prior = plain (commands.Weak frame line) runs (of-spoil j runs.job_is).1 tt
  left-command (commands.Scrub first last) runs prior = plain (commands.Scrub first last) runs (of-scrub j runs.job_is).1 tt
  left-command (commands.Log status addr misc) runs prior = plain (commands.Log status addr misc) runs (of-log j runs.job_is).1 tt
  left-command (commands.Watch threshold window) runs prior = plain (commands.Watch threshold window) runs (of-log j runs.job_is).1 tt
  left-command (commands.RaiseUser thread ripv eipv) runs prior = plain (commands.RaiseUser thread ripv eipv) runs (of-raise j runs.job_is).1 tt
  left-command (commands.RaiseKernel ripv eipv) runs prior = plain (commands.RaiseKernel ripv eipv) runs (of-raise j runs.job_is).1 tt
  left-command commands.RaiseNested runs prior = plain commands.RaiseNested runs (of-nested j runs).1 tt
  left-command (commands.Inject frame) runs prior = plain (commands.Inject frame) runs (of-inject j runs.job_is).1 tt
  left-command (commands.Soft frame) runs prior = own-page frame runs prior
  left-command (commands.Unpoison frame) runs prior = plain (commands.Unpoison frame) runs (of-unpoison j runs.job_is).1 tt

  -- one that its guest doesn't admit made no page leave a frame itself
  pub left-by-denied : (command : Command) (copies : Option VSlot) → RunsDenied layout who command copies j → left_by who view ≡ cons_option (left_itself command a) (left_among base)
  left-by-denied command copies denied =
      subst (λ (w : Who). left_by w view ≡ left_among base) (runs-who layout who command copies j (inl denied)) (left-answered base layout view j (subst IsNoSoft (sym (runs-kind j denied).1) tt) fits has)
      ∙ ap (λ (o : Option At). cons_option o (left_among base)) (access-by (λ (c : Command). None ≡ left_itself c a) (λ thread slot line. refl) (λ thread slot line. refl) (λ thread slot line. refl) (λ thread slot line word. refl) command denied.1.access)
