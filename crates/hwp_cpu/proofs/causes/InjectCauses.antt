-- Why a memory failure that a command brings about is answered so.
use Rattle.std.proofs.Common.{◌≡◌, ◌⊎◌, inl, inr, ℕ, zero, suc, Bool, true, false, List, [], ◌∷◌, ◌++◌, Option, Some, None, length, slice_get, refl, sym, ap, ◌∙◌, subst, true≢false}
use Rattle.std.proofs.lemmas.Option.{none-some, same_Some}
use Rattle.hwp_law_served.specs.hwp_geom.declared.Frame.{Frame}
use Rattle.hwp_law_served.specs.hwp_geom.declared.Layout.{Layout}
use Rattle.hwp_law_served.specs.hwp_geom.declared.Page.{Page}
use Rattle.hwp_law_served.specs.hwp_geom.declared.Who.{Who}
use Rattle.hwp_law_served.specs.hwp_page.declared.At.{At}
use Rattle.hwp_law_served.specs.hwp_page.declared.Outcome.{Outcome}
use Rattle.hwp_law_served.specs.hwp_page.declared.Outcome.TheVariants as outcomes
use Rattle.hwp_law_served.specs.hwp_page.declared.What.{What}
use Rattle.hwp_law_served.specs.hwp_page.Situations.{outcome_of}
use Rattle.hwp_law_served.specs.hwp_core_rule.declared.Made.{Made}
use Rattle.hwp_law_served.specs.hwp_core_rule.declared.View.{View}
use Rattle.hwp_law_served.specs.hwp_core_rule.Lists.{SomeMember}
use Rattle.hwp_law_served.proofs.of_hwp_core_rule.Lists.{at_last}
use Rattle.hwp_law_served.specs.hwp_script_words.declared.Command.{Command}
use Rattle.hwp_law_served.specs.hwp_script_words.declared.Command.TheVariants as commands
use Rattle.hwp_law_served.specs.hwp_report_text.declared.Answer.{Answer}
use Rattle.hwp_law_served.specs.hwp_law.Outcomes.{outcome_answer}
use Rattle.hwp_law_served.specs.hwp_core_rule.Known.{HasMade, HasOnly, IsAt, deeds, is_failure}
use Rattle.hwp_law_served.specs.hwp_claim.declared.FailAnswer.{FailAnswer}
use Rattle.hwp_law_served.specs.hwp_claim.declared.FailAnswer.TheVariants as answers
use Rattle.hwp_law_served.specs.hwp_claim.declared.Inject.{Inject}
use Rattle.hwp_law_served.specs.hwp_claim.Injects as injects
use Rattle.hwp_law_served.specs.hwp_claim.declared.Found.{Found}
use Rattle.hwp_law_served.specs.hwp_claim.declared.EventOutcome.{EventOutcome}
use Rattle.hwp_law_served.specs.hwp_claim.Fits.{IsEntered}
use Rattle.hwp_law_served.specs.hwp_cpu_row.declared.FrameChange.{FrameChange}
use Rattle.hwp_cpu_command.specs.declared.Job.{Job}
use Rattle.hwp_cpu_command.specs.declared.Job.TheVariants as jobs
use Rattle.hwp_cpu_command.specs.Answers.{fail_answer}
use Rattle.hwp_cpu_command.specs.Begins.{BeginsInject}
use Rattle.hwp_cpu_command.specs.Jobs.{FitsFrom, answer, own_by, own_of}
use Rattle.hwp_cpu_command.specs.Runs.{anew}
use Rattle.hwp_cpu_command.proofs.JobEnds.{InjectEnded, inject-ended, mapped}
use Rattle.hwp_cpu_command.proofs.OfKind.{of-inject}
use Rattle.hwp_law_served.specs.Causes.{HasCome, HasFailed, IsAnswerCaused, IsInjectCaused}
use Rattle.hwp_cpu.proofs.causes.StopCauses.{found-stopped, only-none}

-- the command's failure, and what it knows of its answer
pub record KnowsFailure (layout : Layout) (view : View) (who : Who) (frame : Frame) (j : Job) (answer : Answer) : Type 0 where
  pub inject : Inject
  pub job_is : j ≡ jobs.Inject inject
  pub who_is : inject.who ≡ who
  pub frame_is : inject.frame ≡ frame
  pub own : FailAnswer
  pub said : injects.answer inject ≡ Some own
  pub answer_is : fail_answer own ≡ answer
  pub ended : InjectEnded layout view inject own

pub knows-failure : {layout : Layout} {view : View} {who : Who} {frame : Frame} (j : Job) {a : Answer} → BeginsInject layout who frame (anew j) → FitsFrom [] layout view j → answer j ≡ Some a → KnowsFailure layout view who frame j a
knows-failure {layout} {view} {who} {frame} j {a} runs fits is = record {
  inject = task.0;
  job_is = task.1;
  who_is = ap (λ (i : Inject). i.who) task.2;
  frame_is = ap (λ (i : Inject). i.frame) task.2;
  own = own.0;
  said = own.1;
  answer_is = own.2;
  ended = inject-ended task.0 (subst (FitsFrom [] layout view) task.1 fits).1 own.1;
}
  where
    task : (i : Inject) × (j ≡ jobs.Inject i) × (injects.begin i.alloc i.who i.frame ≡ injects.begin runs.alloc who frame)
    task = of-inject j runs.job_is

    own : (x : FailAnswer) × (injects.answer task.0 ≡ Some x) × (fail_answer x ≡ a)
    own = mapped fail_answer (injects.answer task.0) (sym (ap answer task.1) ∙ is)

-- ---- what the failure found

-- the one entry of a command that made no other is among its entries, and each of them is that one
module _ {view : View} {who : Who} {page : Page} {place : ℕ} {what : What} (has : HasMade (λ (m : Made). ⊥) view who page place what) where
  among : SomeMember (IsAt page place what) (deeds who view)
  among = (length has.before, has.last, ap (λ (l : List Made). slice_get l (length has.before)) has.all ∙ at_last has.before has.last, has.at)

  none-before : (l : List Made) → ((i : ℕ) (m : Made) → slice_get l i ≡ Some m → ⊥) → l ≡ []
  none-before [] none = refl
  none-before (m ∷ l) none = absurd (none 0 m refl)

  single : deeds who view ≡ has.last ∷ []
  single = has.all ∙ ap (λ (l : List Made). l ++ has.last ∷ []) (none-before has.before has.such)

  each-is : (Such : Made → Type 0) → Such has.last → HasOnly Such view who
  each-is Such so i m there = which i (sym (ap (λ (l : List Made). slice_get l i) single) ∙ there)
    where
      which : (n : ℕ) → slice_get (has.last ∷ []) n ≡ Some m → Such m
      which zero is = subst Such (same_Some has.last m is) so
      which (suc n) is = absurd (none-some m is)

module _ (layout : Layout) (view : View) (who : Who) (frame : Frame) where
  came : (found : Found) → injects.HasDone layout view who frame found found.at → HasFailed layout view who frame found
  came found done = let all = which found.at done in record { entered = all.0; only = all.1 }
    where
      which : (at : Option At) → injects.HasDone layout view who frame found at → IsEntered layout view who frame None found at × HasOnly (λ (m : Made). is_failure m.entry.what ≡ true) view who
      which None has = ((has.1, has.2), only-none _ view who has.0)
      which (Some place) has = (
        (record { seen = has.0.seen; signals = has.0.signals; made = among has.0.made; signalled = has.0.signalled_is; paged = has.0.paged }, has.1),
        each-is has.0.made (λ (m : Made). is_failure m.entry.what ≡ true) (ap is_failure has.0.made.at.2),
      )

  by-outcome : (own : Option FrameChange) (outcome : Outcome) → HasCome layout view who frame own outcome → IsInjectCaused layout view who frame own (outcome_answer outcome)
  by-outcome own outcomes.Recovered has = has
  by-outcome own outcomes.Delayed has = has
  by-outcome own outcomes.Ignored has = has

  -- what comes of a failure is no stop of the machine
  caused-by : (earlier : List (Command × Answer)) (told : List EventOutcome) (own : Option FrameChange) (outcome : Outcome) → layout.recovery ≡ true → IsInjectCaused layout view who frame own (outcome_answer outcome)
      → IsAnswerCaused layout earlier view who (commands.Inject frame) told own (outcome_answer outcome)
  caused-by earlier told own outcomes.Recovered recovers has = (recovers, has)
  caused-by earlier told own outcomes.Delayed recovers has = (recovers, has)
  caused-by earlier told own outcomes.Ignored recovers has = (recovers, has)

abbrev is_stopped_answer : FailAnswer → Bool
is_stopped_answer answers.Stopped = true
is_stopped_answer _ = false

-- only a failure that is answered `stopped` is of a machine that doesn't recover
recovers : {recovery : Bool} (x : FailAnswer) → is_stopped_answer x ≡ false → (x ≡ answers.Stopped) ⊎ (recovery ≡ true) → recovery ≡ true
recovers x other (inl is) = absurd (true≢false (sym (ap is_stopped_answer is) ∙ other))
recovers x other (inr so) = so

failed : (layout : Layout) (earlier : List (Command × Answer)) (view : View) (told : List EventOutcome) (i : Inject) (x : FailAnswer) → InjectEnded layout view i x → IsAnswerCaused layout earlier view i.who (commands.Inject i.frame) told (own_by i.frame (Some x)) (fail_answer x)
failed layout earlier view told i answers.Stopped ended = found-stopped layout (commands.Inject i.frame) view i.who ended.over.2 ended.over.0
failed layout earlier view told i answers.Already ended =
    (recovers answers.Already refl ended.recovery, (record { word = ended.over.2.word; poisoned = ended.over.2.poisoned; saw = ended.over.2.saw; made = ended.over.0 }, refl))
failed layout earlier view told i (answers.Done found) ended =
    caused-by layout view i.who i.frame earlier told (own_by i.frame (Some (answers.Done found))) (outcome_of found.situation) (recovers (answers.Done found) refl ended.recovery)
    (by-outcome layout view i.who i.frame (own_by i.frame (Some (answers.Done found))) (outcome_of found.situation)
    (record { found = found; own_is = refl; outcome_is = refl; failed = came layout view i.who i.frame found ended.over.1 }))

pub inject-caused : {layout : Layout} (earlier : List (Command × Answer)) {view : View} (told : List EventOutcome) {who : Who} {frame : Frame} (j : Job) {a : Answer} → KnowsFailure layout view who frame j a → IsAnswerCaused layout earlier view who (commands.Inject frame) told (own_of j) a
inject-caused {layout} earlier {view} told {who} {frame} j {a} k =
    subst (λ (own : Option FrameChange). IsAnswerCaused layout earlier view who (commands.Inject frame) told own a) (sym own-is)
    (subst (IsAnswerCaused layout earlier view who (commands.Inject frame) told (own_by frame (Some k.own))) k.answer_is
    (subst (λ (f : Frame). IsAnswerCaused layout earlier view who (commands.Inject f) told (own_by f (Some k.own)) (fail_answer k.own)) k.frame_is
    (subst (λ (w : Who). IsAnswerCaused layout earlier view w (commands.Inject k.inject.frame) told (own_by k.inject.frame (Some k.own)) (fail_answer k.own)) k.who_is (failed layout earlier view told k.inject k.own k.ended))))
  where
    own-is : own_of j ≡ own_by frame (Some k.own)
    own-is = ap own_of k.job_is ∙ ap (own_by k.inject.frame) k.said ∙ ap (λ (f : Frame). own_by f (Some k.own)) k.frame_is
