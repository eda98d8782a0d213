-- Why a fork is answered so, and which policies it has set: each thread of the child got the policy of the thread that forked.
use Rattle.std.proofs.Common.{◌≡◌, ◌≢◌, ℕ, zero, suc, ◌<◌, Bool, cond, List, [], ◌∷◌, ◌++◌, Option, Some, None, map, slice_get, take, append-nil, refl, sym, ap, ◌∙◌, subst, inl, arith}
use Rattle.std.specs.List.{cons_option}
use Rattle.std.specs.Option.{option_map}
use Rattle.std.proofs.lemmas.Bool.{lt-ltb, ne_eqb}
use Rattle.hwp_law_served.specs.hwp_geom.declared.Layout.{Layout}
use Rattle.hwp_law_served.specs.hwp_geom.declared.Proc.{Proc}
use Rattle.hwp_law_served.specs.hwp_geom.declared.Thread.{Thread}
use Rattle.hwp_law_served.specs.hwp_geom.declared.ThreadDecl.{ThreadDecl}
use Rattle.hwp_law_served.specs.hwp_geom.declared.Who.{Who}
use Rattle.hwp_law_served.specs.hwp_kill.declared.Policy.{Policy}
use Rattle.hwp_law_served.specs.hwp_kill.declared.Policy.TheVariants as policy_names
use Rattle.hwp_law_served.specs.hwp_core_rule.declared.SharedWord.TheVariants as places
use Rattle.hwp_law_served.specs.hwp_core_rule.declared.View.{View}
use Rattle.hwp_law_served.specs.hwp_core_rule.parts.Policies.{settings_of}
use Rattle.hwp_law_served.specs.hwp_core_rule.Known.{Saw}
use Rattle.hwp_law_served.specs.hwp_script_words.declared.Command.{Command}
use Rattle.hwp_law_served.specs.hwp_script_words.declared.Command.TheVariants as commands
use Rattle.hwp_law_served.specs.hwp_report_text.declared.Answer.{Answer}
use Rattle.hwp_law_served.specs.hwp_law.Settings.{last_policy, settings}
use Rattle.hwp_law_served.specs.hwp_claim.declared.EventOutcome.{EventOutcome}
use Rattle.hwp_law_served.specs.hwp_cpu_row.declared.FrameChange.{FrameChange}
use Rattle.hwp_cpu_command.specs.hwp_cpu_control.declared.Fork.{Fork}
use Rattle.hwp_cpu_command.specs.hwp_cpu_control.declared.ForkAnswer.{ForkAnswer}
use Rattle.hwp_cpu_command.specs.hwp_cpu_control.declared.ForkAnswer.TheVariants as fork_answers
use Rattle.hwp_cpu_command.specs.hwp_cpu_control.declared.fork.ForkAt.{ForkAt}
use Rattle.hwp_cpu_command.specs.hwp_cpu_control.declared.fork.ForkAt.TheVariants as fork_at
use Rattle.hwp_cpu_command.specs.hwp_cpu_control.Forks as forks
use Rattle.hwp_cpu_command.specs.declared.Job.{Job}
use Rattle.hwp_cpu_command.specs.declared.Job.TheVariants as jobs
use Rattle.hwp_cpu_command.specs.Answers.{fork_answer}
use Rattle.hwp_cpu_command.specs.Begins.{BeginsFork}
use Rattle.hwp_cpu_command.specs.Jobs.{FitsFrom, answer}
use Rattle.hwp_cpu_command.specs.Runs.{anew}
use Rattle.hwp_cpu_command.specs.Settings.{AreCounted, given_at, of_thread, policies_in, policies_now}
use Rattle.hwp_cpu_command.proofs.JobEnds.{fork-over, mapped}
use Rattle.hwp_cpu_command.proofs.OfKind.{of-fork}
use Rattle.hwp_law_served.specs.Accounts.{set_by}
use Rattle.hwp_law_served.specs.Causes.{IsAnswerCaused, SawProcess}
use Rattle.hwp_cpu.proofs.causes.CallCauses.{last-same}
use Rattle.hwp_cpu.proofs.causes.StopCauses.{found-stopped}

-- what is known of a fork that has its answer
pub record KnowsFork (layout : Layout) (view : View) (who : Who) (thread : Thread) (child : Proc) (j : Job) (answer : Answer) : Type 0 where
  pub task : Fork
  pub job_is : j ≡ jobs.Fork task
  pub who_is : task.who ≡ who
  pub thread_is : task.thread ≡ thread
  pub listed : take task.targets.count task.targets.threads ≡ forks.threads_of child 0 layout.threads
  pub own : ForkAnswer
  pub over : task.at ≡ fork_at.Over own
  pub answer_is : fork_answer own ≡ answer
  pub fits : forks.Fits layout view task

pub knows-fork : {layout : Layout} {view : View} {who : Who} {thread : Thread} {child : Proc} (j : Job) {a : Answer} → BeginsFork layout who thread child (anew j) → FitsFrom [] layout view j → answer j ≡ Some a → KnowsFork layout view who thread child j a
knows-fork {layout} {view} {who} {thread} {child} j {a} runs fits is = record {
  task = task.0;
  job_is = task.1;
  who_is = ap (λ (f : Fork). f.who) task.2;
  thread_is = ap (λ (f : Fork). f.thread) task.2;
  listed = ap (λ (f : Fork). take f.targets.count f.targets.threads) task.2 ∙ runs.listed;
  own = own.0;
  over = fork-over task.0 own.1;
  answer_is = own.2;
  fits = (subst (FitsFrom [] layout view) task.1 fits).1;
}
  where
    task : (f : Fork) × (j ≡ jobs.Fork f) × (forks.begin f.who f.thread f.process f.targets ≡ forks.begin who thread runs.decl.process runs.targets)
    task = of-fork j runs.job_is

    own : (x : ForkAnswer) × (forks.answer task.0 ≡ Some x) × (fork_answer x ≡ a)
    own = mapped fork_answer (forks.answer task.0) (sym (ap answer task.1) ∙ is)

-- ---- why it is answered so

module _ {layout : Layout} (earlier : List (Command × Answer)) {view : View} (told : List EventOutcome) (did : Option FrameChange) (f : Fork) (fits : forks.Fits layout view f) where
  going : {word : ℕ} → Saw view f.who (places.Process f.process) word → SawProcess layout view f.who f.thread word
  going saw = record { process = f.process; process_is = ap (option_map (λ (t : ThreadDecl). t.process)) fits.declared ∙ ap Some fits.process_is; saw = saw }

  forked : (child : Proc) (x : ForkAnswer) → forks.FitsOver view f.who f.thread f.process x → IsAnswerCaused layout earlier view f.who (commands.Fork f.thread child) told did (fork_answer x)
  forked child fork_answers.Stopped has = found-stopped layout (commands.Fork f.thread child) view f.who (inl has) fits.made
  forked child (fork_answers.Gone page) has = (record { ended = going has }, fits.made)
  forked child (fork_answers.Done policy) has = (going has.0, fits.made)

pub fork-caused : {layout : Layout} (earlier : List (Command × Answer)) {view : View} (told : List EventOutcome) (did : Option FrameChange) {who : Who} {thread : Thread} {child : Proc} {j : Job} {a : Answer} → KnowsFork layout view who thread child j a
    → IsAnswerCaused layout earlier view who (commands.Fork thread child) told did a
fork-caused {layout} earlier {view} told did {who} {thread} {child} {j} {a} k =
    subst (λ (w : Who). IsAnswerCaused layout earlier view w (commands.Fork thread child) told did a) k.who_is
    (subst (λ (t : Thread). IsAnswerCaused layout earlier view k.task.who (commands.Fork t child) told did a) k.thread_is
    (subst (IsAnswerCaused layout earlier view k.task.who (commands.Fork k.task.thread child) told did) k.answer_is
    (forked earlier told did k.task k.fits child k.own (subst (forks.FitsAt view k.task.who k.task.thread k.task.process k.task.targets) k.over k.fits.at))))

-- ---- the policies that it has set

-- none of them is of another thread
given-apart : (thread : Thread) (policy : Policy) (count : ℕ) (l : List Thread) → ((n : ℕ) (t : Thread) → n < count → slice_get l n ≡ Some t → t.0 ≢ thread.0) → of_thread thread (map (λ (t : Thread). (t, policy)) (take count l)) ≡ []
given-apart thread policy zero l apart = refl
given-apart thread policy (suc count) [] apart = refl
given-apart thread policy (suc count) (t ∷ ts) apart =
    ap (λ (b : Bool). cons_option (cond b (Some policy) None) (of_thread thread (map (λ (x : Thread). (x, policy)) (take count ts)))) (ne_eqb t.0 thread.0 (apart 0 t (omega arith) refl))
    ∙ given-apart thread policy count ts (λ n x less there. apart (suc n) x (omega (arith, less)) there)

module _ {layout : Layout} (earlier : List (Command × Answer)) {view : View} (f : Fork) (fits : forks.Fits layout view f) (counted : AreCounted (λ (t : Thread). settings layout t earlier) view (jobs.Fork f)) where
  -- the policy that the thread has is the one that the earlier commands left it
  own-policy : (policy : Policy) → f.at ≡ fork_at.Over (fork_answers.Done policy) → policies_in f.thread view ≡ settings layout f.thread earlier
  own-policy policy over =
      counted f.thread
      ∙ ap (λ (x : ForkAt). settings layout f.thread earlier ++ of_thread f.thread (given_at f.targets x)) over
      ∙ ap (λ (l : List Policy). settings layout f.thread earlier ++ l) (given-apart f.thread policy f.targets.count f.targets.threads (λ n t less there. (fits.targets.each n t (ap (λ (b : Bool). cond b (slice_get f.targets.threads n) None) (lt-ltb n f.targets.count less) ∙ there)).apart))
      ∙ append-nil (settings layout f.thread earlier)

  given : (child : Proc) → take f.targets.count f.targets.threads ≡ forks.threads_of child 0 layout.threads → (x : ForkAnswer) → f.at ≡ fork_at.Over x → forks.FitsOver view f.who f.thread f.process x
      → given_at f.targets (fork_at.Over x) ≡ set_by layout earlier (commands.Fork f.thread child) (fork_answer x)
  given child listed fork_answers.Stopped over has = refl
  given child listed (fork_answers.Gone page) over has = refl
  given child listed (fork_answers.Done policy) over has =
      ap (map (λ (t : Thread). (t, policy))) listed
      ∙ ap (λ (p : Policy). map (λ (t : Thread). (t, p)) (forks.threads_of child 0 layout.threads)) (has.1 ∙ last-same policy_names.Default (settings_of f.thread view.settings) ∙ ap last_policy (own-policy policy over))

pub fork-set : {layout : Layout} (earlier : List (Command × Answer)) {view : View} {who : Who} {thread : Thread} {child : Proc} {j : Job} {a : Answer} → KnowsFork layout view who thread child j a → AreCounted (λ (t : Thread). settings layout t earlier) view j
    → policies_now j ≡ set_by layout earlier (commands.Fork thread child) a
fork-set {layout} earlier {view} {who} {thread} {child} {j} {a} k counted =
    ap policies_now k.job_is ∙ ap (given_at k.task.targets) k.over
    ∙ given earlier k.task k.fits (subst (AreCounted (λ (t : Thread). settings layout t earlier) view) k.job_is counted) child k.listed k.own k.over (subst (forks.FitsAt view k.task.who k.task.thread k.task.process k.task.targets) k.over k.fits.at)
    ∙ ap (λ (t : Thread). set_by layout earlier (commands.Fork t child) (fork_answer k.own)) k.thread_is ∙ ap (set_by layout earlier (commands.Fork thread child)) k.answer_is
