-- Why a scrub is answered so, and what it tells.
use Rattle.std.proofs.Common.{◌≡◌, inl, inr, ℕ, ◌+◌, ◌≤◌, true, List, Option, Some, length, refl, sym, ap, ◌∙◌, subst, arith, true≢false, []}
use Rattle.std.specs.declared.alloc.Global.{Global}
use Rattle.hwp_law_served.specs.hwp_geom.declared.Frame.{Frame}
use Rattle.hwp_law_served.specs.hwp_geom.declared.Layout.{Layout}
use Rattle.hwp_law_served.specs.hwp_geom.declared.Who.{Who}
use Rattle.hwp_law_served.specs.hwp_core_rule.declared.View.{View}
use Rattle.hwp_law_served.specs.hwp_script_words.declared.Command.{Command}
use Rattle.hwp_law_served.specs.hwp_script_words.declared.Command.TheVariants as commands
use Rattle.hwp_law_served.specs.hwp_report_text.declared.Answer.{Answer}
use Rattle.hwp_law_served.specs.hwp_banks.Banks.{Banks}
use Rattle.hwp_law_served.specs.hwp_claim.declared.EventOutcome.{EventOutcome}
use Rattle.hwp_law_served.specs.hwp_claim.Told.{halts}
use Rattle.hwp_law_served.specs.hwp_scrub.declared.Scrub.{Scrub}
use Rattle.hwp_law_served.specs.hwp_scrub.declared.ScrubAnswer.{ScrubAnswer}
use Rattle.hwp_law_served.specs.hwp_scrub.declared.ScrubAnswer.TheVariants as answers
use Rattle.hwp_law_served.specs.hwp_scrub.Fits.{HasOnlyFailed, IsEnd}
use Rattle.hwp_law_served.specs.hwp_scrub.Scrubs as scrubs
use Rattle.hwp_law_served.specs.hwp_scrub.Visits.{IsBadFind, left_by}
use Rattle.hwp_law_served.specs.hwp_cpu_row.declared.FrameChange.{FrameChange}
use Rattle.hwp_cpu_command.specs.declared.Job.{Job}
use Rattle.hwp_cpu_command.specs.declared.Job.TheVariants as jobs
use Rattle.hwp_cpu_command.specs.Answers.{scrub_answer}
use Rattle.hwp_cpu_command.specs.Begins.{BeginsScrub}
use Rattle.hwp_cpu_command.specs.Jobs.{FitsFrom, answer, banks_after, banks_before, told_of}
use Rattle.hwp_cpu_command.specs.Runs.{anew}
use Rattle.hwp_cpu_command.proofs.JobEnds.{mapped, scrub-ended}
use Rattle.hwp_cpu_command.proofs.OfKind.{of-scrub}
use Rattle.hwp_law_served.specs.Causes.{HasOnlyMet, IsAnswerCaused}
use Rattle.hwp_law_served.specs.Told.{IsScrubTold}
use Rattle.hwp_cpu.proofs.causes.StopCauses.{found-stopped}

-- the scrub, and its own answer
pub record KnowsScrub (layout : Layout) (view : View) (who : Who) (first last : Frame) (j : Job) (answer : Answer) : Type 0 where
  pub task : Scrub
  pub job_is : j ≡ jobs.Scrub task
  pub alloc : Global
  pub banks : Banks
  pub begun : scrubs.begin task.alloc task.who task.first task.last task.before.value ≡ scrubs.begin alloc who first last banks
  pub own : ScrubAnswer
  pub said : scrubs.answer task ≡ Some own
  pub answer_is : scrub_answer (length task.lines.told) own ≡ answer
  pub ended : IsEnd layout view task own

pub knows-scrub : {layout : Layout} {view : View} {who : Who} {first last : Frame} {banks : Banks} (j : Job) {a : Answer} → BeginsScrub layout who first last banks (anew j) → FitsFrom [] layout view j → answer j ≡ Some a → KnowsScrub layout view who first last j a
knows-scrub {layout} {view} {who} {first} {last} {banks} j {a} runs fits is = record {
  task = task.0;
  job_is = task.1;
  alloc = runs.alloc;
  banks = banks;
  begun = task.2;
  own = own.0;
  said = own.1;
  answer_is = own.2;
  ended = scrub-ended task.0 (subst (FitsFrom [] layout view) task.1 fits).1 own.1;
}
  where
    task : (s : Scrub) × (j ≡ jobs.Scrub s) × (scrubs.begin s.alloc s.who s.first s.last s.before.value ≡ scrubs.begin runs.alloc who first last banks)
    task = of-scrub j runs.job_is

    own : (x : ScrubAnswer) × (scrubs.answer task.0 ≡ Some x) × (scrub_answer (length task.0.lines.told) x ≡ a)
    own = mapped (scrub_answer (length task.0.lines.told)) (scrubs.answer task.0) (sym (ap answer task.1) ∙ is)

-- what holds of the task, as it began, its lines and its own answer holds of the command
carried : {layout : Layout} {view : View} {who : Who} {first last : Frame} {j : Job} {a : Answer} (C : Scrub → List EventOutcome → Answer → Type 0) (k : KnowsScrub layout view who first last j a)
    → C (scrubs.begin k.task.alloc k.task.who k.task.first k.task.last k.task.before.value) k.task.lines.told (scrub_answer (length k.task.lines.told) k.own) → C (scrubs.begin k.alloc who first last k.banks) (told_of j) a
carried {layout} {view} {who} {first} {last} {j} {a} C k has =
    subst (C (scrubs.begin k.alloc who first last k.banks) (told_of j)) k.answer_is
    (subst (λ (s : Scrub). C s (told_of j) (scrub_answer (length k.task.lines.told) k.own)) k.begun
    (subst (λ (told : List EventOutcome). C (scrubs.begin k.task.alloc k.task.who k.task.first k.task.last k.task.before.value) told (scrub_answer (length k.task.lines.told) k.own)) (sym (ap told_of k.job_is)) has))

module _ (layout : Layout) (earlier : List (Command × Answer)) (view : View) (s : Scrub) (did : Option FrameChange) where
  only-met : HasOnlyFailed view s.who → HasOnlyMet layout view s.who (commands.Scrub s.first s.last)
  only-met only i m there = inr (inl (refl, only i m there))

  task-caused : (x : ScrubAnswer) → IsEnd layout view s x → IsAnswerCaused layout earlier view s.who (commands.Scrub s.first s.last) s.lines.told did (scrub_answer (length s.lines.told) x)
  task-caused answers.Scrubbed has = record { count = refl; only = only-met has.visited.only }
  task-caused answers.Stopped (inl has) = found-stopped layout (commands.Scrub s.first s.last) view s.who (inl has.1) has.0.made
  task-caused answers.Stopped (inr has) = record { stopped = has.1.stops; only = only-met has.1.visited.only }

module _ (layout : Layout) (view : View) (s : Scrub) where
  task-told : (x : ScrubAnswer) → IsEnd layout view s x → IsScrubTold layout view s.who s.first s.last (scrub_answer (length s.lines.told) x) s.before.value s.lines.told s.banks
  task-told answers.Scrubbed has = record {
    visits = has.visits;
    visited = has.visited.visited;
    all = let next : s.first.0 + length has.visits ≡ s.last.0 + 1 = has.visited.next_is in omega (arith, next);
    told_is = has.told_is;
    after_is = has.banks_are;
  }
  task-told answers.Stopped (inl has) = inl (has.0.told_none, has.0.banks_are)
  task-told answers.Stopped (inr (frame, has)) =
      let next : s.first.0 + length has.visits ≡ frame.0 = has.visited.next_is in
      inr (record {
        visits = has.visits;
        visited = has.visited.visited;
        inside = let inside : frame.0 ≤ s.last.0 = has.inside in omega (arith, next, inside);
        bad = has.bad;
        found = subst (λ (n : ℕ). IsBadFind layout view s.who (record { 0 = n }) (left_by s.before.value has.visits) has.bad) (sym next) has.found;
        told_is = has.told_is;
        after_is = has.banks_are;
      })

  task-heeded : (x : ScrubAnswer) → IsEnd layout view s x → halts s.lines.told ≡ true → scrub_answer (length s.lines.told) x ≡ scrub_answer 0 answers.Stopped
  task-heeded answers.Scrubbed has halted = absurd (true≢false (sym halted ∙ ap halts has.told_is ∙ has.visited.halts_none))
  task-heeded answers.Stopped has halted = refl

module _ {layout : Layout} {view : View} {who : Who} {first last : Frame} {j : Job} {a : Answer} (k : KnowsScrub layout view who first last j a) where
  pub scrub-caused : (earlier : List (Command × Answer)) (did : Option FrameChange) → IsAnswerCaused layout earlier view who (commands.Scrub first last) (told_of j) did a
  scrub-caused earlier did = carried (λ (s : Scrub) (told : List EventOutcome) (x : Answer). IsAnswerCaused layout earlier view s.who (commands.Scrub s.first s.last) told did x) k (task-caused layout earlier view k.task did k.own k.ended)

  pub scrub-told : (kept : Banks) → IsScrubTold layout view who first last a (banks_before j kept) (told_of j) (banks_after j kept)
  scrub-told kept = subst (λ (q : Job). IsScrubTold layout view who first last a (banks_before q kept) (told_of j) (banks_after q kept)) (sym k.job_is)
      (carried (λ (s : Scrub) (told : List EventOutcome) (x : Answer). IsScrubTold layout view s.who s.first s.last x k.task.before.value told k.task.banks) k (task-told layout view k.task k.own k.ended))

  pub scrub-heeded : halts (told_of j) ≡ true → a ≡ scrub_answer 0 answers.Stopped
  scrub-heeded halted = sym k.answer_is ∙ task-heeded layout view k.task k.own k.ended (sym (ap (λ (q : Job). halts (told_of q)) k.job_is) ∙ halted)
