-- What a command that is answered tells of its machine checks, and what it leaves in the banks of its processor.
use Rattle.std.proofs.Common.{◌≡◌, ℕ, true, List, [], Option, None, Some, inl, inr, refl, sym, ap, ◌∙◌, subst, true≢false}
use Rattle.hwp_law_served.specs.hwp_geom.declared.Layout.{Layout}
use Rattle.hwp_law_served.specs.hwp_geom.declared.VSlot.{VSlot}
use Rattle.hwp_law_served.specs.hwp_geom.declared.Who.{Who}
use Rattle.hwp_law_served.specs.hwp_core_rule.declared.Made.{Made}
use Rattle.hwp_law_served.specs.hwp_core_rule.declared.View.{View}
use Rattle.hwp_law_served.specs.hwp_script_words.declared.Command.{Command}
use Rattle.hwp_law_served.specs.hwp_script_words.declared.Command.TheVariants as commands
use Rattle.hwp_law_served.specs.hwp_report_text.declared.Answer.{Answer}
use Rattle.hwp_law_served.specs.hwp_report_text.declared.Answer.TheVariants as report_answers
use Rattle.hwp_law_served.specs.hwp_banks.Banks.{Banks, raw_event}
use Rattle.hwp_law_served.specs.hwp_law.Events.{logged_if_done}
use Rattle.hwp_law_served.specs.hwp_claim.Told.{halts}
use Rattle.hwp_cpu_command.specs.hwp_cpu_control.declared.ReadStopAnswer.{ReadStopAnswer}
use Rattle.hwp_cpu_command.specs.hwp_cpu_control.declared.ReadStopAnswer.TheVariants as read_answers
use Rattle.hwp_cpu_command.specs.hwp_scrub.declared.LocalChange.{LocalChange}
use Rattle.hwp_cpu_command.specs.hwp_scrub.declared.LocalChange.TheVariants as changes
use Rattle.hwp_cpu_command.specs.hwp_scrub.declared.Log.{Log}
use Rattle.hwp_cpu_command.specs.hwp_scrub.Logs as logs
use Rattle.hwp_cpu_command.specs.declared.Job.{Job}
use Rattle.hwp_cpu_command.specs.declared.Job.TheVariants as jobs
use Rattle.hwp_cpu_command.specs.Answers.{read_stop_answer}
use Rattle.hwp_cpu_command.specs.Begins.{BeginsLog}
use Rattle.hwp_cpu_command.specs.Jobs.{FitsFrom, answer, banks_after, banks_before, told_of}
use Rattle.hwp_cpu_command.specs.Runs.{Runs, RunsAs, anew}
use Rattle.hwp_cpu_command.proofs.JobEnds.{mapped}
use Rattle.hwp_cpu_command.proofs.OfKind.{of-evict, of-fork, of-fsync, of-inject, of-log, of-nested, of-prctl, of-soft, of-spoil, of-unpoison}
use Rattle.hwp_law_served.specs.Told.{AreToldBy, AreToldWith}
use Rattle.hwp_cpu.specs.Beside.{ArePrior, ArePriorWith}
use Rattle.hwp_cpu.proofs.causes.CauseLaws.{from-none}
use Rattle.hwp_cpu.proofs.causes.DeniedCauses.{denied-told, knows-denied, runs-kind}
use Rattle.hwp_cpu.proofs.causes.AccessCauses.{access-heeded, access-told, knows-access}
use Rattle.hwp_cpu.proofs.causes.CopyCauses.{copy-heeded, copy-told, knows-copy}
use Rattle.hwp_cpu.proofs.causes.RaiseCauses.{knows-kernel-raise, knows-user-raise, raise-heeded, raise-told}
use Rattle.hwp_cpu.proofs.causes.ScrubCauses.{knows-scrub, scrub-heeded, scrub-told}

-- what the command tells is right; and where one of its events stopped the machine, it is answered `stopped`
pub record TellsRight (layout : Layout) (copied : Option VSlot) (view : View) (who : Who) (command : Command) (j : Job) (a : Answer) (kept : Banks) : Type 0 where
  pub told : AreToldWith layout copied view who command a (banks_before j kept) (told_of j) (banks_after j kept)
  pub heeded : halts (told_of j) ≡ true → a ≡ report_answers.Stopped

-- what a `log` or a `watch` leaves in the banks
event-told : (layout : Layout) (view : View) (who : Who) (status addr misc : ℕ) (l : Log) → l.banks ≡ logs.logged_by (logs.answer l) (changes.Event (raw_event status addr misc)) l.before.value → (x : ReadStopAnswer) → logs.answer l ≡ Some x → AreToldBy layout view who (commands.Log status addr misc) (read_stop_answer x) l.before.value [] l.banks
event-told layout view who status addr misc l banks_are x said = (refl, banks_are ∙ ap (λ (o : Option ReadStopAnswer). logs.logged_by o (changes.Event (raw_event status addr misc)) l.before.value) said ∙ by x)
  where
    by : (x : ReadStopAnswer) → logs.logged_by (Some x) (changes.Event (raw_event status addr misc)) l.before.value ≡ logged_if_done (Some (read_stop_answer x)) (raw_event status addr misc) l.before.value
    by read_answers.Done = refl
    by read_answers.Stopped = refl

watch-told : (layout : Layout) (view : View) (who : Who) (threshold window : ℕ) (l : Log) → l.banks ≡ logs.logged_by (logs.answer l) (changes.Watch threshold window) l.before.value → (x : ReadStopAnswer) → logs.answer l ≡ Some x → AreToldBy layout view who (commands.Watch threshold window) (read_stop_answer x) l.before.value [] l.banks
watch-told layout view who threshold window l banks_are x said = (refl, banks_are ∙ ap (λ (o : Option ReadStopAnswer). logs.logged_by o (changes.Watch threshold window) l.before.value) said ∙ by x)
  where
    by : (x : ReadStopAnswer) → logs.logged_by (Some x) (changes.Watch threshold window) l.before.value ≡ l.before.value
    by read_answers.Done = refl
    by read_answers.Stopped = refl

module _ {layout : Layout} {view : View} {who : Who} {a : Answer} (kept : Banks) where
  -- a command that tells nothing
  by-kind : (command : Command) {j k : Job} → j ≡ k → told_of k ≡ [] → AreToldBy layout view who command a (banks_before k kept) (told_of k) (banks_after k kept) → TellsRight layout None view who command j a kept
  by-kind command {j} {k} is none told = record {
    told = subst (λ (q : Job). AreToldBy layout view who command a (banks_before q kept) (told_of q) (banks_after q kept)) (sym is) told;
    heeded = λ halted. absurd (true≢false (sym halted ∙ ap (λ (q : Job). halts (told_of q)) is ∙ ap halts none));
  }

  -- one that changes its processor alone leaves its banks as its answer says
  log-told : (command : Command) {change : LocalChange} {banks : Banks} (j : Job) → BeginsLog layout who change banks (anew j) → FitsFrom [] layout view j → answer j ≡ Some a
      → ((l : Log) → l.banks ≡ logs.logged_by (logs.answer l) change l.before.value → ((x : ReadStopAnswer) → logs.answer l ≡ Some x → AreToldBy layout view who command (read_stop_answer x) l.before.value [] l.banks)) → TellsRight layout None view who command j a kept
  log-told command {change} {banks} j runs fits is right = by-kind command task.1 refl (subst (λ (x : Answer). AreToldBy layout view who command x task.0.before.value [] task.0.banks) own.2 (right task.0 (fit.banks_are ∙ ap (λ (l : Log). logs.logged_by (logs.answer task.0) l.change task.0.before.value) task.2) own.0 own.1))
    where
      task : (l : Log) × (j ≡ jobs.Log l) × (logs.begin l.read.who l.change l.before.value ≡ logs.begin who change banks)
      task = of-log j runs.job_is

      own : (x : ReadStopAnswer) × (logs.answer task.0 ≡ Some x) × (read_stop_answer x ≡ a)
      own = mapped read_stop_answer (logs.answer task.0) (sym (ap answer task.1) ∙ is)

      fit : logs.Fits layout view task.0
      fit = (subst (FitsFrom [] layout view) task.1 fits).1

-- of a command that copies nothing
plain-tells : (layout : Layout) (view : View) (who : Who) (command : Command) (j : Job) {a : Answer} (base : List Made) (kept : Banks) → RunsAs layout who command None j → FitsFrom base layout view j → ArePrior layout command base → answer j ≡ Some a → TellsRight layout None view who command j a kept
plain-tells layout view who (commands.Load thread slot line) j base kept runs fits prior is = let k = knows-access j runs fits is in record { told = access-told k kept; heeded = access-heeded k }
plain-tells layout view who (commands.Fetch thread slot line) j base kept runs fits prior is = let k = knows-access j runs fits is in record { told = access-told k kept; heeded = access-heeded k }
plain-tells layout view who (commands.KLoad thread slot line) j base kept runs fits prior is = let k = knows-access j runs fits is in record { told = access-told k kept; heeded = access-heeded k }
plain-tells layout view who (commands.Store thread slot line word) j base kept runs fits prior is = let k = knows-access j runs fits is in record { told = access-told k kept; heeded = access-heeded k }
plain-tells layout view who (commands.Free slot) j base kept runs fits prior is = by-kind kept (commands.Free slot) (of-evict j runs.1.job_is).1 refl (refl, refl)
plain-tells layout view who (commands.Drop page) j base kept runs fits prior is = by-kind kept (commands.Drop page) (of-evict j runs.job_is).1 refl (refl, refl)
plain-tells layout view who (commands.Sync page) j base kept runs fits prior is = by-kind kept (commands.Sync page) (of-evict j runs.job_is).1 refl (refl, refl)
plain-tells layout view who (commands.Out page) j base kept runs fits prior is = by-kind kept (commands.Out page) (of-evict j runs.job_is).1 refl (refl, refl)
plain-tells layout view who (commands.Fsync file) j base kept runs fits prior is = by-kind kept (commands.Fsync file) (of-fsync j runs.2).1 refl (refl, refl)
plain-tells layout view who (commands.Open file) j base kept runs fits prior is = by-kind kept (commands.Open file) (of-fsync j runs.2).1 refl (refl, refl)
plain-tells layout view who (commands.Prctl thread args) j base kept runs fits prior is = by-kind kept (commands.Prctl thread args) (of-prctl j runs.job_is).1 refl (refl, refl)
plain-tells layout view who (commands.Fork thread child) j base kept runs fits prior is = by-kind kept (commands.Fork thread child) (of-fork j runs.job_is).1 refl (refl, refl)
plain-tells layout view who (commands.Bad frame line) j base kept runs fits prior is = by-kind kept (commands.Bad frame line) (of-spoil j runs.job_is).1 refl (refl, refl)
plain-tells layout view who (commands.Weak frame line) j base kept runs fits prior is = by-kind kept (commands.Weak frame line) (of-spoil j runs.job_is).1 refl (refl, refl)
plain-tells layout view who (commands.Scrub first last) j base kept runs fits prior is = let k = knows-scrub j runs (from-none layout view j prior fits) is in record { told = scrub-told k kept; heeded = scrub-heeded k }
plain-tells layout view who (commands.Log status addr misc) j base kept runs fits prior is = log-told kept (commands.Log status addr misc) j runs (from-none layout view j prior fits) is (event-told layout view who status addr misc)
plain-tells layout view who (commands.Watch threshold window) j base kept runs fits prior is = log-told kept (commands.Watch threshold window) j runs (from-none layout view j prior fits) is (watch-told layout view who threshold window)
plain-tells layout view who (commands.RaiseUser thread ripv eipv) j base kept runs fits prior is = let k = knows-user-raise j runs (from-none layout view j prior fits) is in record { told = raise-told k.knows kept; heeded = raise-heeded k.knows }
plain-tells layout view who (commands.RaiseKernel ripv eipv) j base kept runs fits prior is = let k = knows-kernel-raise j runs (from-none layout view j prior fits) is in record { told = raise-told k kept; heeded = raise-heeded k }
plain-tells layout view who commands.RaiseNested j base kept runs fits prior is = by-kind kept commands.RaiseNested (of-nested j runs).1 refl (refl, refl)
plain-tells layout view who (commands.Inject frame) j base kept runs fits prior is = by-kind kept (commands.Inject frame) (of-inject j runs.job_is).1 refl (refl, refl)
plain-tells layout view who (commands.Soft frame) j base kept runs fits prior is = by-kind kept (commands.Soft frame) (of-soft j runs.job_is).1 refl (refl, refl)
plain-tells layout view who (commands.Unpoison frame) j base kept runs fits prior is = by-kind kept (commands.Unpoison frame) (of-unpoison j runs.job_is).1 refl (refl, refl)

-- of a store that copies
copying-tells : (layout : Layout) (view : View) (who : Who) (command : Command) (from : VSlot) (j : Job) {a : Answer} (kept : Banks) → RunsAs layout who command (Some from) j → FitsFrom [] layout view j → answer j ≡ Some a → TellsRight layout (Some from) view who command j a kept
copying-tells layout view who (commands.Store thread slot line word) from j kept runs fits is = let k = knows-copy j runs fits is in record { told = copy-told k kept; heeded = copy-heeded k }
copying-tells layout view who command from j kept runs fits is = absurd runs

pub tells : (layout : Layout) (copied : Option VSlot) (view : View) (who : Who) (command : Command) (j : Job) {a : Answer} (base : List Made) (kept : Banks) → Runs layout who command copied j → FitsFrom base layout view j → ArePriorWith layout command copied base → answer j ≡ Some a
    → TellsRight layout copied view who command j a kept
tells layout copied view who command j base kept (inl denied) fits prior is = record {
  told = denied-told copied j kept (knows-denied base j denied fits is);
  heeded = λ halted. absurd (true≢false (sym halted ∙ ap (λ (q : Job). halts (told_of q)) (runs-kind j denied).1));
}
tells layout None view who command j base kept (inr runs) fits prior is = plain-tells layout view who command j base kept runs fits prior is
tells layout (Some from) view who command j base kept (inr runs) fits prior is = copying-tells layout view who command from j kept runs (from-none layout view j prior fits) is
