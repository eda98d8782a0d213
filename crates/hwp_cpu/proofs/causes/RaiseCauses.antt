-- Why a command that raises a machine check is answered so, and what it tells.
use Rattle.std.proofs.Common.{◌≡◌, Bool, true, List, [], ◌∷◌, Option, Some, None, length, refl, sym, ap, ◌∙◌, subst, inl, inr, true≢false}
use Rattle.std.specs.Option.{option_map}
use Rattle.std.specs.declared.alloc.Global.{Global}
use Rattle.hwp_law_served.specs.hwp_geom.declared.Layout.{Layout}
use Rattle.hwp_law_served.specs.hwp_geom.declared.Proc.{Proc}
use Rattle.hwp_law_served.specs.hwp_geom.declared.Thread.{Thread}
use Rattle.hwp_law_served.specs.hwp_geom.declared.ThreadDecl.{ThreadDecl}
use Rattle.hwp_law_served.specs.hwp_geom.declared.Who.{Who}
use Rattle.hwp_law_served.specs.hwp_severity.declared.McgBits.{McgBits}
use Rattle.hwp_law_served.specs.hwp_core_rule.declared.View.{View}
use Rattle.hwp_law_served.specs.hwp_script_words.declared.Command.{Command}
use Rattle.hwp_law_served.specs.hwp_script_words.declared.Command.TheVariants as commands
use Rattle.hwp_law_served.specs.hwp_report_text.declared.Answer.{Answer}
use Rattle.hwp_law_served.specs.hwp_banks.Banks.{Banks}
use Rattle.hwp_law_served.specs.hwp_law.Commands.{can_fail, process_of_thread}
use Rattle.hwp_law_served.specs.hwp_claim.declared.EventOutcome.{EventOutcome}
use Rattle.hwp_law_served.specs.hwp_claim.Checks.{IsActedOn}
use Rattle.hwp_law_served.specs.hwp_claim.Told.{halts}
use Rattle.hwp_cpu_command.specs.hwp_scrub.declared.Raise.{Raise}
use Rattle.hwp_cpu_command.specs.hwp_scrub.declared.RaiseAnswer.{RaiseAnswer}
use Rattle.hwp_cpu_command.specs.hwp_scrub.declared.RaiseAnswer.TheVariants as answers
use Rattle.hwp_cpu_command.specs.hwp_scrub.declared.Raiser.{Raiser}
use Rattle.hwp_cpu_command.specs.hwp_scrub.RaiseFits.{GoesOn, HasOnlyFailed, IsEnd, IsGone}
use Rattle.hwp_cpu_command.specs.hwp_scrub.Raises.{how_of, mode_of, thread_of}
use Rattle.hwp_cpu_command.specs.hwp_scrub.Raises as raises
use Rattle.hwp_law_served.specs.hwp_cpu_row.declared.FrameChange.{FrameChange}
use Rattle.hwp_cpu_command.specs.declared.Job.{Job}
use Rattle.hwp_cpu_command.specs.declared.Job.TheVariants as jobs
use Rattle.hwp_cpu_command.specs.Answers.{raise_answer}
use Rattle.hwp_cpu_command.specs.Begins.{BeginsRaiseKernel, BeginsRaiseUser}
use Rattle.hwp_cpu_command.specs.Jobs.{FitsFrom, answer, banks_after, banks_before, told_of}
use Rattle.hwp_cpu_command.specs.Runs.{anew}
use Rattle.hwp_cpu_command.proofs.JobEnds.{mapped, raise-ended}
use Rattle.hwp_cpu_command.proofs.OfKind.{of-raise}
use Rattle.hwp_law_served.specs.Causes.{FoundStopped, HasOnlyMet, IsAnswerCaused, WasRaised}
use Rattle.hwp_law_served.specs.Told.{IsRaiseTold}
use Rattle.hwp_cpu.proofs.causes.StopCauses.{found-stopped}

-- the machine check, and its own answer
pub record KnowsRaise (layout : Layout) (view : View) (who : Who) (raiser : Option Raiser) (mcg : McgBits) (j : Job) (answer : Answer) : Type 0 where
  pub task : Raise
  pub job_is : j ≡ jobs.Raise task
  pub alloc : Global
  pub banks : Banks
  pub begun : raises.begin task.alloc task.who task.raiser task.mcg task.before.value ≡ raises.begin alloc who raiser mcg banks
  pub own : RaiseAnswer
  pub said : raises.answer task ≡ Some own
  pub answer_is : raise_answer (length task.lines.told) own ≡ answer
  pub ended : IsEnd layout view task own

knows-raise : {layout : Layout} {view : View} {who : Who} {raiser : Option Raiser} {mcg : McgBits} (alloc : Global) (banks : Banks) (j : Job) {a : Answer} → anew j ≡ jobs.Raise (raises.begin alloc who raiser mcg banks) → FitsFrom [] layout view j → answer j ≡ Some a
    → KnowsRaise layout view who raiser mcg j a
knows-raise {layout} {view} {who} {raiser} {mcg} alloc banks j {a} begun fits is = record {
  task = task.0;
  job_is = task.1;
  alloc = alloc;
  banks = banks;
  begun = task.2;
  own = own.0;
  said = own.1;
  answer_is = own.2;
  ended = (raise-ended task.0 (subst (FitsFrom [] layout view) task.1 fits).1 own.1).1;
}
  where
    task : (r : Raise) × (j ≡ jobs.Raise r) × (raises.begin r.alloc r.who r.raiser r.mcg r.before.value ≡ raises.begin alloc who raiser mcg banks)
    task = of-raise j begun

    own : (x : RaiseAnswer) × (raises.answer task.0 ≡ Some x) × (raise_answer (length task.0.lines.told) x ≡ a)
    own = mapped (raise_answer (length task.0.lines.told)) (raises.answer task.0) (sym (ap answer task.1) ∙ is)

-- by a thread of the process
pub record KnowsUserRaise (layout : Layout) (view : View) (who : Who) (thread : Thread) (mcg : McgBits) (j : Job) (answer : Answer) : Type 0 where
  pub process : Proc
  pub process_is : process_of_thread layout thread ≡ Some process
  pub knows : KnowsRaise layout view who (Some (record { thread = thread; process = process })) mcg j answer

pub knows-user-raise : {layout : Layout} {view : View} {who : Who} {thread : Thread} {mcg : McgBits} {banks : Banks} (j : Job) {a : Answer} → BeginsRaiseUser layout who thread mcg banks (anew j) → FitsFrom [] layout view j → answer j ≡ Some a → KnowsUserRaise layout view who thread mcg j a
knows-user-raise {banks = banks} j runs fits is = record {
  process = runs.decl.process;
  process_is = ap (option_map (λ (t : ThreadDecl). t.process)) runs.declared;
  knows = knows-raise runs.alloc banks j runs.job_is fits is;
}

pub knows-kernel-raise : {layout : Layout} {view : View} {who : Who} {mcg : McgBits} {banks : Banks} (j : Job) {a : Answer} → BeginsRaiseKernel layout who mcg banks (anew j) → FitsFrom [] layout view j → answer j ≡ Some a → KnowsRaise layout view who None mcg j a
knows-kernel-raise {banks = banks} j runs fits is = knows-raise runs.alloc banks j runs.job_is fits is

-- ---- why it is answered so

-- what holds of the task, as it began, its lines and its own answer holds of the command
carried : {layout : Layout} {view : View} {who : Who} {raiser : Option Raiser} {mcg : McgBits} {j : Job} {a : Answer} (C : Raise → List EventOutcome → Answer → Type 0) (k : KnowsRaise layout view who raiser mcg j a)
    → C (raises.begin k.task.alloc k.task.who k.task.raiser k.task.mcg k.task.before.value) k.task.lines.told (raise_answer (length k.task.lines.told) k.own) → C (raises.begin k.alloc who raiser mcg k.banks) (told_of j) a
carried {layout} {view} {who} {raiser} {mcg} {j} {a} C k has =
    subst (C (raises.begin k.alloc who raiser mcg k.banks) (told_of j)) k.answer_is
    (subst (λ (r : Raise). C r (told_of j) (raise_answer (length k.task.lines.told) k.own)) k.begun
    (subst (λ (told : List EventOutcome). C (raises.begin k.task.alloc k.task.who k.task.raiser k.task.mcg k.task.before.value) told (raise_answer (length k.task.lines.told) k.own)) (sym (ap told_of k.job_is)) has))

module _ (layout : Layout) (view : View) (r : Raise) (command : Command) (fails : can_fail command ≡ true) where
  only-met : HasOnlyFailed view r.who → HasOnlyMet layout view r.who command
  only-met only i m there = inr (inl (fails, only i m there))

  stopped : IsEnd layout view r answers.Stopped → FoundStopped layout view r.who command
  stopped (inl has) = found-stopped layout command view r.who (inl has.1) has.0.made
  stopped (inr has) = record { stopped = has.stops; only = only-met has.only }

  raised : IsEnd layout view r answers.Raised → WasRaised layout view r.who command r.lines.told (length r.lines.told)
  raised has = record { count = refl; only = only-met has.only }

module _ (layout : Layout) (earlier : List (Command × Answer)) (view : View) (r : Raise) (did : Option FrameChange) where
  module _ (thread : Thread) (ripv eipv : Bool) (process : Proc) (process_is : process_of_thread layout thread ≡ Some process) (is : r.raiser ≡ Some (record { thread = thread; process = process })) where
    user : (x : RaiseAnswer) → IsEnd layout view r x → IsAnswerCaused layout earlier view r.who (commands.RaiseUser thread ripv eipv) r.lines.told did (raise_answer (length r.lines.told) x)
    user answers.Raised has = (record { process = process; process_is = process_is; saw = subst (GoesOn view r.who) is has.going }, raised layout view r (commands.RaiseUser thread ripv eipv) refl has)
    user answers.Stopped has = stopped layout view r (commands.RaiseUser thread ripv eipv) refl has
    user (answers.Gone page) has = (record { ended = record { process = process; process_is = process_is; saw = subst (λ (o : Option Raiser). IsGone view r.who o page) is has.1 } }, has.0.made)

  module _ (ripv eipv : Bool) (is : r.raiser ≡ None) where
    kernel : (x : RaiseAnswer) → IsEnd layout view r x → IsAnswerCaused layout earlier view r.who (commands.RaiseKernel ripv eipv) r.lines.told did (raise_answer (length r.lines.told) x)
    kernel answers.Raised has = raised layout view r (commands.RaiseKernel ripv eipv) refl has
    kernel answers.Stopped has = stopped layout view r (commands.RaiseKernel ripv eipv) refl has
    kernel (answers.Gone page) has = absurd (subst (λ (o : Option Raiser). IsGone view r.who o page) is has.1)

module _ {layout : Layout} (earlier : List (Command × Answer)) {view : View} {who : Who} {mcg : McgBits} {j : Job} {a : Answer} (ripv eipv : Bool) (did : Option FrameChange) where
  pub user-caused : {thread : Thread} → KnowsUserRaise layout view who thread mcg j a → IsAnswerCaused layout earlier view who (commands.RaiseUser thread ripv eipv) (told_of j) did a
  user-caused {thread} k = carried (λ (r : Raise) (told : List EventOutcome) (x : Answer). IsAnswerCaused layout earlier view r.who (commands.RaiseUser thread ripv eipv) told did x) k.knows
      (user layout earlier view k.knows.task did thread ripv eipv k.process k.process_is (ap (λ (r : Raise). r.raiser) k.knows.begun) k.knows.own k.knows.ended)

  pub kernel-caused : KnowsRaise layout view who None mcg j a → IsAnswerCaused layout earlier view who (commands.RaiseKernel ripv eipv) (told_of j) did a
  kernel-caused k = carried (λ (r : Raise) (told : List EventOutcome) (x : Answer). IsAnswerCaused layout earlier view r.who (commands.RaiseKernel ripv eipv) told did x) k
      (kernel layout earlier view k.task did ripv eipv (ap (λ (r : Raise). r.raiser) k.begun) k.own k.ended)

-- ---- what it tells

module _ (layout : Layout) (view : View) (r : Raise) where
  -- as it is answered so, with these lines
  abbrev Tells : List EventOutcome → RaiseAnswer → Type 0
  Tells told x = IsRaiseTold layout view r.who (thread_of r.raiser) (how_of r) (raise_answer (length told) x) r.before.value told r.banks

  task-told : (told : List EventOutcome) → r.lines.told ≡ told → (x : RaiseAnswer) → IsEnd layout view r x → Tells told x
  task-told told is answers.Raised has = (subst (IsActedOn layout view r.who (thread_of r.raiser) (how_of r) r.before.value) is has.acted_on, has.emptied)
  task-told told is answers.Stopped (inl has) = subst (λ (l : List EventOutcome). Tells l answers.Stopped) (sym has.0.told_none ∙ is) (refl, has.0.banks_are)
  task-told [] is answers.Stopped (inr has) = absurd (true≢false (sym has.halts_is ∙ ap halts is))
  task-told (t ∷ ts) is answers.Stopped (inr has) = (subst (IsActedOn layout view r.who (thread_of r.raiser) (how_of r) r.before.value) is has.acted_on, has.emptied)
  task-told told is (answers.Gone page) has = (sym is ∙ has.0.told_none, has.0.banks_are)

  task-heeded : (x : RaiseAnswer) → IsEnd layout view r x → halts r.lines.told ≡ true → raise_answer (length r.lines.told) x ≡ raise_answer 0 answers.Stopped
  task-heeded answers.Raised has halted = absurd (true≢false (sym halted ∙ has.halts_is))
  task-heeded answers.Stopped has halted = refl
  task-heeded (answers.Gone page) has halted = absurd (true≢false (sym halted ∙ ap halts has.0.told_none))

module _ {layout : Layout} {view : View} {who : Who} {raiser : Option Raiser} {mcg : McgBits} {j : Job} {a : Answer} (k : KnowsRaise layout view who raiser mcg j a) where
  pub raise-told : (kept : Banks) → IsRaiseTold layout view who (thread_of raiser) (record { mcg = mcg; mode = mode_of raiser }) a (banks_before j kept) (told_of j) (banks_after j kept)
  raise-told kept = subst (λ (q : Job). IsRaiseTold layout view who (thread_of raiser) (record { mcg = mcg; mode = mode_of raiser }) a (banks_before q kept) (told_of j) (banks_after q kept)) (sym k.job_is)
      (carried (λ (r : Raise) (told : List EventOutcome) (x : Answer). IsRaiseTold layout view r.who (thread_of r.raiser) (how_of r) x k.task.before.value told k.task.banks) k (task-told layout view k.task k.task.lines.told refl k.own k.ended))

  pub raise-heeded : halts (told_of j) ≡ true → a ≡ raise_answer 0 answers.Stopped
  raise-heeded halted = sym k.answer_is ∙ task-heeded layout view k.task k.own k.ended (sym (ap (λ (q : Job). halts (told_of q)) k.job_is) ∙ halted)
