-- Why a command that takes a frame's poison back is answered so.
use Rattle.std.proofs.Common.{◌≡◌, ◌==◌, ◌&&◌, not, ℕ, ◌<◌, false, true, inl, List, Option, Some, refl, sym, ap, ◌∙◌, subst, true≢false, []}
use Rattle.std.specs.Prelude.{option_and_then}
use Rattle.std.proofs.lemmas.Bool.{and_from, and_parts, eq-eqb, eqb-true}
use Rattle.hwp_law_served.specs.hwp_geom.declared.Frame.{Frame}
use Rattle.hwp_law_served.specs.hwp_geom.declared.Layout.{Layout}
use Rattle.hwp_law_served.specs.hwp_geom.declared.Who.{Who}
use Rattle.hwp_law_served.specs.hwp_words.Frames.{count_of, is_handled, is_locked, owner_of}
use Rattle.hwp_law_served.specs.hwp_core_rule.declared.View.{View}
use Rattle.hwp_law_served.specs.hwp_script_words.declared.Command.{Command}
use Rattle.hwp_law_served.specs.hwp_script_words.declared.Command.TheVariants as commands
use Rattle.hwp_law_served.specs.hwp_report_text.declared.Answer.{Answer}
use Rattle.hwp_law_served.specs.hwp_claim.declared.EventOutcome.{EventOutcome}
use Rattle.hwp_law_served.specs.hwp_cpu_row.declared.FrameChange.{FrameChange}
use Rattle.hwp_law_served.specs.hwp_soft.declared.Unpoison.{Unpoison}
use Rattle.hwp_law_served.specs.hwp_soft.declared.UnpoisonAnswer.{UnpoisonAnswer}
use Rattle.hwp_law_served.specs.hwp_soft.declared.UnpoisonAnswer.TheVariants as answers
use Rattle.hwp_law_served.specs.hwp_soft.Unpoisons as unpoisons
use Rattle.hwp_law_served.specs.hwp_soft.Unpoisons.{is_revivable}
use Rattle.hwp_law_served.specs.Shown.{IsRevivable}
use Rattle.hwp_cpu_command.specs.declared.Job.{Job}
use Rattle.hwp_cpu_command.specs.declared.Job.TheVariants as jobs
use Rattle.hwp_cpu_command.specs.Answers.{unpoison_answer}
use Rattle.hwp_cpu_command.specs.Begins.{BeginsUnpoison}
use Rattle.hwp_cpu_command.specs.Jobs.{FitsFrom, answer, own_of, revived_by}
use Rattle.hwp_cpu_command.specs.Runs.{anew}
use Rattle.hwp_cpu_command.proofs.JobEnds.{mapped, unpoison-ended}
use Rattle.hwp_cpu_command.proofs.OfKind.{of-unpoison}
use Rattle.hwp_law_served.proofs.of_hwp_core_rule.MetWords.{free-word}
use Rattle.hwp_law_served.specs.Causes.{IsAnswerCaused}
use Rattle.hwp_cpu.proofs.causes.StopCauses.{found-stopped}

-- the command's task, and what it knows of its answer
pub record KnowsUnpoison (layout : Layout) (view : View) (who : Who) (frame : Frame) (j : Job) (answer : Answer) : Type 0 where
  pub task : Unpoison
  pub job_is : j ≡ jobs.Unpoison task
  pub begun : unpoisons.begin task.who task.frame ≡ unpoisons.begin who frame
  pub inside : task.frame.0 < layout.frames
  pub own : UnpoisonAnswer
  pub said : unpoisons.answer task ≡ Some own
  pub answer_is : unpoison_answer own ≡ answer
  pub caused : unpoisons.IsCaused view task.who task.frame own

pub knows-unpoison : {layout : Layout} {view : View} {who : Who} {frame : Frame} (j : Job) {a : Answer} → BeginsUnpoison layout who frame (anew j) → FitsFrom [] layout view j → answer j ≡ Some a → KnowsUnpoison layout view who frame j a
knows-unpoison {layout} {view} {who} {frame} j {a} runs fits is = record {
  task = task.0;
  job_is = task.1;
  begun = task.2;
  inside = fit.frame;
  own = own.0;
  said = own.1;
  answer_is = own.2;
  caused = (unpoison-ended task.0 fit own.1).1;
}
  where
    task : (u : Unpoison) × (j ≡ jobs.Unpoison u) × (unpoisons.begin u.who u.frame ≡ unpoisons.begin who frame)
    task = of-unpoison j runs.job_is

    fit : unpoisons.Fits layout view task.0
    fit = (subst (FitsFrom [] layout view) task.1 fits).1

    own : (x : UnpoisonAnswer) × (unpoisons.answer task.0 ≡ Some x) × (unpoison_answer x ≡ a)
    own = mapped unpoison_answer (unpoisons.answer task.0) (sym (ap answer task.1) ∙ is)

-- the word of a frame whose poison can be taken back passes the task's test
revivable : (word : ℕ) → IsRevivable word → is_revivable word ≡ true
revivable word has =
    and_from (is_handled word) (not (is_locked word) && ((owner_of word == 0) && (count_of word == 1))) has.handled
    (and_from (not (is_locked word)) ((owner_of word == 0) && (count_of word == 1)) (ap (λ (lock : ℕ). not (lock == 1)) has.unlocked)
    (and_from (owner_of word == 0) (count_of word == 1) (eq-eqb (owner_of word) 0 has.unowned) (eq-eqb (count_of word) 1 has.alone)))

-- and one that passes it is such a word
so-revivable : (word : ℕ) → is_revivable word ≡ true → IsRevivable word
so-revivable word is =
    let first = and_parts (is_handled word) (not (is_locked word) && ((owner_of word == 0) && (count_of word == 1))) is in
    let second = and_parts (not (is_locked word)) ((owner_of word == 0) && (count_of word == 1)) first.1 in
    let third = and_parts (owner_of word == 0) (count_of word == 1) second.1 in
    record { handled = first.0; unlocked = free-word word second.0; unowned = eqb-true (owner_of word) 0 third.0; alone = eqb-true (count_of word) 1 third.1 }

in-use : (word : ℕ) → is_revivable word ≡ false → ¬ IsRevivable word
in-use word used has = true≢false (sym (revivable word has) ∙ used)

-- what the task knows is a cause of what the report says
unpoisoned : (layout : Layout) (earlier : List (Command × Answer)) (view : View) (who : Who) (frame : Frame) (told : List EventOutcome) → frame.0 < layout.frames → (x : UnpoisonAnswer) → unpoisons.IsCaused view who frame x
    → IsAnswerCaused layout earlier view who (commands.Unpoison frame) told (revived_by frame x) (unpoison_answer x)
unpoisoned layout earlier view who frame told inside answers.Stopped has = found-stopped layout (commands.Unpoison frame) view who (inl has.1) has.0
unpoisoned layout earlier view who frame told inside (answers.Done cycle) has =
    let saw = has.1.1 in (
      has.0,
      record {
        cycle = cycle;
        own_is = refl;
        revivable = record { word = saw.revivable.word; poisoned = saw.revivable.such.0; revivable = so-revivable saw.revivable.word saw.revivable.such.1; saw = saw.revivable.saw };
        counter = record { word = saw.counter.word; none = saw.counter.none; saw = saw.counter.saw };
        bad = saw.bad;
      },
    )
unpoisoned layout earlier view who frame told inside answers.NotPoisoned has = (has.0, record { word = has.1.word; sound = has.1.such; saw = has.1.saw })
unpoisoned layout earlier view who frame told inside answers.HardwareSeen has = (has.0, record { word = has.1.word; some = has.1.some; saw = has.1.saw })
unpoisoned layout earlier view who frame told inside (answers.HasBad mask) has = (has.0, record { inside = inside; some = has.1.0; saw = has.1.1 })
unpoisoned layout earlier view who frame told inside (answers.InUse count) has = (has.0, record { word = has.1.word; used = in-use has.1.word has.1.such.1; count_is = has.1.such.2; saw = has.1.saw })

pub unpoison-caused : {layout : Layout} (earlier : List (Command × Answer)) {view : View} (told : List EventOutcome) {who : Who} {frame : Frame} (j : Job) {a : Answer} → KnowsUnpoison layout view who frame j a → IsAnswerCaused layout earlier view who (commands.Unpoison frame) told (own_of j) a
unpoison-caused {layout} earlier {view} told {who} {frame} j {a} k =
    subst (λ (u : Unpoison). IsAnswerCaused layout earlier view u.who (commands.Unpoison u.frame) told (own_of j) a) k.begun
    (subst (λ (own : Option FrameChange). IsAnswerCaused layout earlier view k.task.who (commands.Unpoison k.task.frame) told own a) (sym own-is)
    (subst (IsAnswerCaused layout earlier view k.task.who (commands.Unpoison k.task.frame) told (revived_by k.task.frame k.own)) k.answer_is
    (unpoisoned layout earlier view k.task.who k.task.frame told k.inside k.own k.caused)))
  where
    own-is : own_of j ≡ revived_by k.task.frame k.own
    own-is = ap own_of k.job_is ∙ ap (λ (o : Option UnpoisonAnswer). option_and_then (revived_by k.task.frame) o) k.said
