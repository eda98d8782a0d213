-- A command while frames are taken out of use beside it: what it has done so far where it rests, behind its pause, and where memory ran
-- out for that.
use Rattle.std.proofs.Common.{◌≡◌, inl, inr, ℕ, ◌||◌, Bool, true, false, true≢false, List, [], ◌++◌, Option, Some, None, is_some, length, option_map, filter_map, refl, sym, ap, ◌∙◌, subst}
use Rattle.std.proofs.lemmas.Option.{none-some, same_Some}
use Rattle.hwp_cpu_command.specs.hwp_geom.declared.Layout.{Layout}
use Rattle.hwp_cpu_command.specs.hwp_geom.declared.Who.{Who}
use Rattle.hwp_cpu_command.specs.hwp_banks.Banks.{Banks}
use Rattle.hwp_cpu_command.specs.hwp_page.History.{BodyValue}
use Rattle.hwp_cpu_command.specs.hwp_core_rule.declared.Step.{Step}
use Rattle.hwp_cpu_command.specs.hwp_core_rule.declared.Turn.{Turn}
use Rattle.hwp_cpu_command.specs.hwp_claim_act.declared.Failed.{Failed}
use Rattle.hwp_cpu_command.specs.hwp_report_text.declared.Answer.{Answer}
use Rattle.hwp_cpu_command.specs.hwp_report_text.declared.Answer.TheVariants as answers
use Rattle.hwp_cpu_command.specs.hwp_fault.declared.Request.{Request}
use Rattle.hwp_cpu_command.specs.hwp_claim.CheckDone.{marked_in}
use Rattle.hwp_cpu_command.specs.hwp_cpu_access.declared.Instruction.{Instruction}
use Rattle.hwp_cpu_command.specs.hwp_cpu_access.declared.InstructionAnswer.{InstructionAnswer}
use Rattle.hwp_cpu_command.specs.hwp_cpu_access.declared.instruction.InstructionAt.{InstructionAt}
use Rattle.hwp_cpu_command.specs.hwp_cpu_access.declared.instruction.InstructionAt.TheVariants as instruction_at
use Rattle.hwp_cpu_command.specs.hwp_cpu_access.declared.instruction.Pause.{Pause}
use Rattle.hwp_cpu_command.specs.hwp_cpu_access.declared.instruction.Pause.TheVariants as pauses
use Rattle.hwp_cpu_command.specs.hwp_cpu_access.Done as instruction_done
use Rattle.hwp_cpu_command.specs.hwp_cpu_access.Instructions as instructions
use Rattle.hwp_cpu_command.specs.hwp_cpu_access.declared.copying.CopyingAt.{CopyingAt}
use Rattle.hwp_cpu_command.specs.hwp_cpu_access.declared.copying.CopyingAt.TheVariants as copying_at
use Rattle.hwp_cpu_command.specs.hwp_cpu_access.Copyings as copyings
use Rattle.hwp_cpu_command.specs.hwp_cpu_access.declared.Copying.{Copying}
use Rattle.hwp_cpu_command.specs.hwp_cpu_access.CopyDone as copying_done
use Rattle.hwp_cpu_command.proofs.of_hwp_cpu_access.CopyEnds as copy_ends
use Rattle.hwp_cpu_command.proofs.of_hwp_cpu_access.CopyResting as copy_resting
use Rattle.hwp_cpu_command.specs.hwp_scrub.declared.LocalChange.{LocalChange}
use Rattle.hwp_cpu_command.specs.hwp_scrub.declared.Raise.{Raise}
use Rattle.hwp_cpu_command.specs.hwp_scrub.declared.raise.RaiseAt.{RaiseAt}
use Rattle.hwp_cpu_command.specs.hwp_scrub.RaiseDone as raise_done
use Rattle.hwp_cpu_command.specs.hwp_scrub.Raises as raises
use Rattle.hwp_cpu_command.specs.hwp_scrub.declared.Scrub.{Scrub}
use Rattle.hwp_cpu_command.specs.hwp_scrub.declared.scrub.ScrubAt.{ScrubAt}
use Rattle.hwp_cpu_command.specs.hwp_scrub.Done as scrub_done
use Rattle.hwp_cpu_command.specs.hwp_scrub.Scrubs as scrubs
use Rattle.hwp_cpu_command.specs.declared.job.Job.{Job}
use Rattle.hwp_cpu_command.specs.declared.job.Job.TheVariants as jobs
use Rattle.hwp_cpu_command.specs.Answers.{instruction_answer, raise_answer, scrub_answer}
use Rattle.hwp_cpu_command.specs.Done.{failed_now, marked_beyond, marked_now, owed_now}
use Rattle.hwp_cpu_command.specs.FileHandles.{HasChangeWithin, IsChangeWithin}
use Rattle.hwp_cpu_command.specs.Jobs.{Next, answer, bare, give_up, pauses as is_paused, plan, resume, told_of}
use Rattle.hwp_cpu_command.specs.Stays.{EndsStopped, HasGivenUp, IsAtStop}
use Rattle.hwp_cpu_command.proofs.JobEnds.{instruction-over, mapped, raise-over, scrub-over}
use Rattle.hwp_cpu.proofs.commands.CommandRuns.{GoesOn, log-kept}

-- ---- the same command goes on

pub resume-goes : (j : Job) → GoesOn j (resume j)
resume-goes (jobs.Instruction i) = which (instructions.pause i)
  where
    which : (o : Option Pause) → GoesOn (jobs.Instruction i) (jobs.Instruction (instructions.resume_by i o))
    which None = record { anew_is = refl; before = λ kept. refl; fails = refl; collects = refl }
    which (Some p) = record { anew_is = refl; before = λ kept. refl; fails = refl; collects = refl }
resume-goes (jobs.Copying c) = by c.at
  where
    which : (o : Option Pause) → GoesOn (jobs.Copying c) (jobs.Copying (record c { instruction = instructions.resume_by c.instruction o }))
    which None = record { anew_is = refl; before = λ kept. refl; fails = refl; collects = refl }
    which (Some p) = record { anew_is = refl; before = λ kept. refl; fails = refl; collects = refl }

    by : (x : CopyingAt) → GoesOn (jobs.Copying c) (jobs.Copying (copyings.resume_at c x))
    by copying_at.Access = which (instructions.pause c.instruction)
    by (copying_at.Free e stored) = record { anew_is = refl; before = λ kept. refl; fails = refl; collects = refl }
    by (copying_at.Over answer) = record { anew_is = refl; before = λ kept. refl; fails = refl; collects = refl }
resume-goes _ = record { anew_is = refl; before = λ kept. refl; fails = refl; collects = refl }

pub give-up-goes : (j : Job) → GoesOn j (give_up j)
give-up-goes (jobs.Instruction i) = record { anew_is = refl; before = λ kept. refl; fails = refl; collects = refl }
give-up-goes (jobs.Copying c) = record { anew_is = refl; before = λ kept. refl; fails = refl; collects = refl }
give-up-goes (jobs.Raise r) = record { anew_is = refl; before = λ kept. refl; fails = refl; collects = refl }
give-up-goes (jobs.Scrub s) = record { anew_is = refl; before = λ kept. refl; fails = refl; collects = refl }
give-up-goes _ = record { anew_is = refl; before = λ kept. refl; fails = refl; collects = refl }

-- ---- at its pause, and behind it

unpaused : (x : InstructionAt) → is_some (instructions.answer_at x) ≡ true → instructions.pause_at x ≡ None
unpaused (instruction_at.Paused p) some = absurd (true≢false (sym some))
unpaused _ some = refl

answers-some : (o : Option InstructionAnswer) → is_some (option_map instruction_answer o) ≡ true → is_some o ≡ true
answers-some None is = is
answers-some (Some a) is = refl

-- a task that has its answer stays as it is
pub answered-resumes : (j : Job) → is_some (answer j) ≡ true → resume j ≡ j
answered-resumes (jobs.Instruction i) is = ap (λ (o : Option Pause). jobs.Instruction (instructions.resume_by i o)) (unpaused i.at (answers-some (instructions.answer i) is))
answered-resumes (jobs.Copying c) is = ap jobs.Copying (by c.at refl (answers-some (copyings.answer c) is))
  where
    by : (x : CopyingAt) → c.at ≡ x → is_some (copyings.answer_at c.instruction x) ≡ true → copyings.resume_at c x ≡ c
    by copying_at.Access own some = ap (λ (o : Option Pause). record c { instruction = instructions.resume_by c.instruction o }) (unpaused c.instruction.at some)
    by (copying_at.Free e stored) own some = refl
    by (copying_at.Over answer) own some = refl
answered-resumes _ is = refl

-- where an instruction pauses
pub at-pause : (x : InstructionAt) {p : Pause} → instructions.pause_at x ≡ Some p → x ≡ instruction_at.Paused p
at-pause (instruction_at.Paused q) {p} is = ap instruction_at.Paused (same_Some q p is)
at-pause (instruction_at.Access a) {p} is = absurd (none-some p is)
at-pause (instruction_at.Handle frame h) {p} is = absurd (none-some p is)
at-pause (instruction_at.LoadFrame frame) {p} is = absurd (none-some p is)
at-pause (instruction_at.LoadStop frame) {p} is = absurd (none-some p is)
at-pause instruction_at.GiveUp {p} is = absurd (none-some p is)
at-pause (instruction_at.Over answer) {p} is = absurd (none-some p is)

-- at its pause it has no answer, and hasn't yet to look whether the machine has stopped
pub paused-unanswered : (i : Instruction) {p : Pause} {a : Answer} → instructions.pause i ≡ Some p → answer (jobs.Instruction i) ≡ Some a → ⊥
paused-unanswered i {p} {a} is has = none-some a (sym (ap (λ (x : InstructionAt). option_map instruction_answer (instructions.answer_at x)) (at-pause i.at is)) ∙ has)

pub paused-late : (i : Instruction) {p : Pause} → instructions.pause i ≡ Some p → EndsStopped (jobs.Instruction i) → ⊥
paused-late i {p} is (inl start) = none-some p (sym (ap instructions.pause_at start.1) ∙ is)
paused-late i {p} is (inr stopped) = paused-unanswered i is stopped

-- and neither there nor behind it is there anything under way that it has marked, or owes
marks-none : (request : Request) (p : Pause) → instruction_done.marked_at (instructions.resumed request p) ≡ []
marks-none request (pauses.Sigbus place) = refl
marks-none request (pauses.Wait frame) = refl
marks-none request pauses.Again = refl

fails-none : (request : Request) (p : Pause) → instruction_done.failed_at (instructions.resumed request p) ≡ []
fails-none request (pauses.Sigbus place) = refl
fails-none request (pauses.Wait frame) = refl
fails-none request pauses.Again = refl

owes-none : (request : Request) (p : Pause) → instruction_done.owed_at (instructions.resumed request p) ≡ 0
owes-none request (pauses.Sigbus place) = refl
owes-none request (pauses.Wait frame) = refl
owes-none request pauses.Again = refl

-- what it has done is as it was behind its pause
pub record IsSameBehind (j after : Job) : Type 0 where
  pub told : told_of after ≡ told_of j
  pub beyond : marked_beyond after ≡ []
  pub failed : failed_now after ≡ failed_now j
  pub owed : owed_now after ≡ 0

pub behind-same : (i : Instruction) {p : Pause} → instructions.pause i ≡ Some p → IsSameBehind (jobs.Instruction i) (resume (jobs.Instruction i))
behind-same i {p} is = subst (λ (o : Option Pause). IsSameBehind (jobs.Instruction i) (jobs.Instruction (instructions.resume_by i o))) (sym is) (record {
  told = refl;
  beyond = marks-none i.request p;
  failed = ap (λ (l : List Failed). instruction_done.failed_by (Some i.request.thread) i.lines.told ++ l) (fails-none i.request p ∙ sym (ap instruction_done.failed_at (at-pause i.at is)));
  owed = owes-none i.request p;
})

-- ---- where it rests

-- what it marked is what the events tell that it told of
pub marked-parts : (j : Job) → marked_now j ≡ filter_map marked_in (told_of j) ++ marked_beyond j
marked-parts (jobs.Instruction i) = refl
marked-parts (jobs.Copying c) = refl
marked-parts (jobs.Raise r) = refl
marked-parts (jobs.Scrub s) = refl
marked-parts _ = refl

-- at its pause it owes no count
pub paused-unowed : (i : Instruction) {p : Pause} → instructions.pause i ≡ Some p → owed_now (jobs.Instruction i) ≡ 0
paused-unowed i is = ap instruction_done.owed_at (at-pause i.at is)

pub paused-unmarked : (i : Instruction) {p : Pause} → instructions.pause i ≡ Some p → marked_beyond (jobs.Instruction i) ≡ []
paused-unmarked i is = ap instruction_done.marked_at (at-pause i.at is)

-- nor has one of which events were told anything under way, where it has its answer
pub answered-unmarked : (j : Job) {a : Answer} → answer j ≡ Some a → (told_of j ≡ [] → ⊥) → marked_beyond j ≡ []
answered-unmarked (jobs.Instruction i) is told = ap instruction_done.marked_at (instruction-over i (mapped _ (instructions.answer i) is).1)
answered-unmarked (jobs.Copying c) is told = (copy_ends.all-told c (mapped _ (copyings.answer c) is).1).0
answered-unmarked (jobs.Raise r) is told = ap raise_done.marked_at (raise-over r (mapped _ (raises.answer r) is).1)
answered-unmarked (jobs.Scrub s) is told = ap scrub_done.marked_at (scrub-over s (mapped _ (scrubs.answer s) is).1)
answered-unmarked _ is told = absurd (told refl)

-- whatever the command, at its pause it has no answer, and nothing is under way; and so it is behind it
pub record IsAtPause (j : Job) : Type 0 where
  pub unanswered : answer j ≡ None
  pub late : EndsStopped j → ⊥
  pub unowed : owed_now j ≡ 0
  pub unmarked : marked_beyond j ≡ []
  pub behind : IsSameBehind j (resume j)

no-end : (j : Job) → answer j ≡ None → (IsAtStop j → ⊥) → EndsStopped j → ⊥
no-end j none begun (inl start) = begun start
no-end j none begun (inr stopped) = none-some answers.Stopped (sym none ∙ stopped)

access-at-pause : (i : Instruction) {p : Pause} → instructions.pause i ≡ Some p → IsAtPause (jobs.Instruction i)
access-at-pause i {p} is = record {
  unanswered = ap (λ (x : InstructionAt). option_map instruction_answer (instructions.answer_at x)) (at-pause i.at is);
  late = paused-late i is;
  unowed = paused-unowed i is;
  unmarked = paused-unmarked i is;
  behind = behind-same i is;
}

copy-at-pause : (c : Copying) {p : Pause} → copyings.pause c ≡ Some p → IsAtPause (jobs.Copying c)
copy-at-pause c {p} is = record {
  unanswered = unanswered;
  late = no-end (jobs.Copying c) unanswered (λ start. none-some p (sym (ap instructions.pause_at start.2.1) ∙ own.1));
  unowed = ap (copying_done.owed_at c.instruction) own.0 ∙ ap instruction_done.owed_at there;
  unmarked = ap (copying_done.marked_at c.instruction) own.0 ∙ ap instruction_done.marked_at there;
  behind = subst (λ (x : CopyingAt). IsSameBehind (jobs.Copying c) (jobs.Copying (copyings.resume_at c x))) (sym own.0)
      (subst (λ (o : Option Pause). IsSameBehind (jobs.Copying c) (jobs.Copying (record c { instruction = instructions.resume_by c.instruction o }))) (sym own.1) same);
}
  where
    own : (c.at ≡ copying_at.Access) × (instructions.pause c.instruction ≡ Some p)
    own = copy_resting.at-pause c is

    there : c.instruction.at ≡ instruction_at.Paused p
    there = at-pause c.instruction.at own.1

    unanswered : answer (jobs.Copying c) ≡ None
    unanswered = ap (λ (x : CopyingAt). option_map instruction_answer (copyings.answer_at c.instruction x)) own.0 ∙ ap (λ (x : InstructionAt). option_map instruction_answer (instructions.answer_at x)) there

    resumed : Instruction
    resumed = instructions.resume_by c.instruction (Some p)

    same : IsSameBehind (jobs.Copying c) (jobs.Copying (record c { instruction = instructions.resume_by c.instruction (Some p) }))
    same = record {
      told = refl;
      beyond = ap (copying_done.marked_at resumed) own.0 ∙ marks-none c.instruction.request p;
      failed = ap (λ (l : List Failed). instruction_done.failed_by (Some c.store.thread) c.instruction.lines.told ++ l)
          (ap (copying_done.failed_at resumed) own.0 ∙ fails-none c.instruction.request p ∙ sym (ap (copying_done.failed_at c.instruction) own.0 ∙ ap instruction_done.failed_at there));
      owed = ap (copying_done.owed_at resumed) own.0 ∙ owes-none c.instruction.request p;
    }

pub job-at-pause : (j : Job) → is_paused j ≡ true → IsAtPause j
job-at-pause (jobs.Instruction i) is = which (instructions.pause i) refl is
  where
    which : (o : Option Pause) → instructions.pause i ≡ o → is_some o ≡ true → IsAtPause (jobs.Instruction i)
    which None own some = absurd (true≢false (sym some))
    which (Some p) own some = access-at-pause i own
job-at-pause (jobs.Copying c) is = which (copyings.pause c) refl is
  where
    which : (o : Option Pause) → copyings.pause c ≡ o → is_some o ≡ true → IsAtPause (jobs.Copying c)
    which None own some = absurd (true≢false (sym some))
    which (Some p) own some = copy-at-pause c own
job-at-pause (jobs.Evict e) is = absurd (true≢false (sym is))
job-at-pause (jobs.Fsync f) is = absurd (true≢false (sym is))
job-at-pause (jobs.Prctl p) is = absurd (true≢false (sym is))
job-at-pause (jobs.Denied p) is = absurd (true≢false (sym is))
job-at-pause (jobs.Fork f) is = absurd (true≢false (sym is))
job-at-pause (jobs.Log l) is = absurd (true≢false (sym is))
job-at-pause (jobs.Raise r) is = absurd (true≢false (sym is))
job-at-pause (jobs.Scrub s) is = absurd (true≢false (sym is))
job-at-pause (jobs.Spoil s) is = absurd (true≢false (sym is))
job-at-pause (jobs.Nested n) is = absurd (true≢false (sym is))
job-at-pause (jobs.Inject i) is = absurd (true≢false (sym is))
job-at-pause (jobs.Soft s) is = absurd (true≢false (sym is))
job-at-pause (jobs.Unpoison u) is = absurd (true≢false (sym is))

-- ---- memory that ran out for what comes beside it

pub gives-up : (j : Job) → (told_of j ≡ [] → ⊥) → HasGivenUp (give_up j)
gives-up (jobs.Instruction i) told = inl refl
gives-up (jobs.Copying c) told = (refl, inl refl)
gives-up (jobs.Raise r) told = inl refl
gives-up (jobs.Scrub s) told = inl refl
gives-up _ told = absurd (told refl)

-- a copy rests where its access does
abbrev copy-rests : Instruction → CopyingAt → Bool
copy-rests i x = is_some (copyings.pause_at i x) || is_some (option_map instruction_answer (copyings.answer_at i x))

pub given-up-rests : (j : Job) → HasGivenUp j → (is_paused j || is_some (answer j)) ≡ false
given-up-rests (jobs.Instruction i) (inl is) = ap (λ (x : InstructionAt). is_some (instructions.pause_at x) || is_some (option_map instruction_answer (instructions.answer_at x))) is
given-up-rests (jobs.Instruction i) (inr is) = ap (λ (x : InstructionAt). is_some (instructions.pause_at x) || is_some (option_map instruction_answer (instructions.answer_at x))) is
given-up-rests (jobs.Copying c) (own, inl is) = ap (copy-rests c.instruction) own ∙ ap (λ (x : InstructionAt). is_some (instructions.pause_at x) || is_some (option_map instruction_answer (instructions.answer_at x))) is
given-up-rests (jobs.Copying c) (own, inr is) = ap (copy-rests c.instruction) own ∙ ap (λ (x : InstructionAt). is_some (instructions.pause_at x) || is_some (option_map instruction_answer (instructions.answer_at x))) is
given-up-rests (jobs.Raise r) (inl is) = ap (λ (x : RaiseAt). is_some (option_map (raise_answer (length r.lines.told)) (raises.answer_at x))) is
given-up-rests (jobs.Raise r) (inr is) = ap (λ (x : RaiseAt). is_some (option_map (raise_answer (length r.lines.told)) (raises.answer_at x))) is
given-up-rests (jobs.Scrub s) (inl is) = ap (λ (x : ScrubAt). is_some (option_map (scrub_answer (length s.lines.told)) (scrubs.answer_at x))) is
given-up-rests (jobs.Scrub s) (inr is) = ap (λ (x : ScrubAt). is_some (option_map (scrub_answer (length s.lines.told)) (scrubs.answer_at x))) is
given-up-rests (jobs.Evict e) up = absurd up
given-up-rests (jobs.Fsync f) up = absurd up
given-up-rests (jobs.Prctl p) up = absurd up
given-up-rests (jobs.Denied p) up = absurd up
given-up-rests (jobs.Fork f) up = absurd up
given-up-rests (jobs.Log l) up = absurd up
given-up-rests (jobs.Spoil s) up = absurd up
given-up-rests (jobs.Nested n) up = absurd up
given-up-rests (jobs.Inject i) up = absurd up
given-up-rests (jobs.Soft s) up = absurd up
given-up-rests (jobs.Unpoison u) up = absurd up

or-false : (a b : Bool) → (a || b) ≡ false → b ≡ false
or-false false b is = is
or-false true b is = absurd (true≢false is)

-- so it has no answer
pub given-up-unanswered : (j : Job) → HasGivenUp j → answer j ≡ None
given-up-unanswered j up = which (answer j) refl
  where
    which : (o : Option Answer) → answer j ≡ o → answer j ≡ None
    which None is = is
    which (Some a) is = absurd (true≢false (sym (ap is_some is) ∙ or-false (is_paused j) (is_some (answer j)) (given-up-rests j up)))

-- it has given up after the step in which it does
pub given-up-stays : (layout : Layout) (j after : Job) (step : Step) (found : ℕ) (got : Option BodyValue) (turn : Turn) → plan j ≡ Some step → Next layout (bare j) found got after turn → HasGivenUp j → HasGivenUp after
given-up-stays layout (jobs.Instruction i) after step found got turn e next (inl is) =
    let to = subst (λ (x : InstructionAt). instructions.FollowsAt layout (instructions.bare i) (instructions.bare_at x) found got next.0 turn) is next.2 in
    subst HasGivenUp (sym next.1) (inr (ap (λ (k : Instruction). k.at) to.0))
given-up-stays layout (jobs.Instruction i) after step found got turn e next (inr is) = absurd (none-some step (sym (ap instructions.plan_at is) ∙ e))
given-up-stays layout (jobs.Copying c) after step found got turn e next (own, inl is) =
    let to : copyings.AccessStepped layout (copyings.bare_at c copying_at.Access) found got next.0 turn = subst (λ (x : CopyingAt). copyings.FollowsAt layout (copyings.bare_at c x) (copyings.bare_at c x).at found got next.0 turn) own next.2 in
    let given = subst (λ (x : InstructionAt). instructions.FollowsAt layout (instructions.bare c.instruction) (instructions.bare_at x) found got to.instruction turn) is to.follows in
    let over : to.instruction.at ≡ instruction_at.Over None = ap (λ (k : Instruction). k.at) given.0 in
    let same : next.0 ≡ record (copyings.bare_at c copying_at.Access) { instruction = to.instruction } =
    to.next_is ∙ ap (λ (x : InstructionAt). copyings.after_access (record (copyings.bare_at c copying_at.Access) { instruction = to.instruction }) (instructions.answer_at x)) over in
    subst HasGivenUp (sym (next.1 ∙ ap jobs.Copying same)) (refl, inr over)
given-up-stays layout (jobs.Copying c) after step found got turn e next (own, inr is) = absurd (none-some step (sym (ap (copyings.plan_at c.instruction) own ∙ ap instructions.plan_at is) ∙ e))
given-up-stays layout (jobs.Raise r) after step found got turn e next (inl is) =
    let to = subst (λ (x : RaiseAt). raises.FollowsAt layout (raises.bare r) (raises.bare_at x) found got next.0 turn) is next.2 in
    subst HasGivenUp (sym next.1) (inr (ap (λ (k : Raise). k.at) to.0))
given-up-stays layout (jobs.Raise r) after step found got turn e next (inr is) = absurd (none-some step (sym (ap raises.plan_at is) ∙ e))
given-up-stays layout (jobs.Scrub s) after step found got turn e next (inl is) =
    let to = subst (λ (x : ScrubAt). scrubs.FollowsAt layout (scrubs.bare s) (scrubs.bare_at x) found got next.0 turn) is next.2 in
    subst HasGivenUp (sym next.1) (inr (ap (λ (k : Scrub). k.at) to.0))
given-up-stays layout (jobs.Scrub s) after step found got turn e next (inr is) = absurd (none-some step (sym (ap scrubs.plan_at is) ∙ e))
given-up-stays layout (jobs.Evict x) after step found got turn e next up = absurd up
given-up-stays layout (jobs.Fsync f) after step found got turn e next up = absurd up
given-up-stays layout (jobs.Prctl p) after step found got turn e next up = absurd up
given-up-stays layout (jobs.Denied p) after step found got turn e next up = absurd up
given-up-stays layout (jobs.Fork f) after step found got turn e next up = absurd up
given-up-stays layout (jobs.Log l) after step found got turn e next up = absurd up
given-up-stays layout (jobs.Spoil s) after step found got turn e next up = absurd up
given-up-stays layout (jobs.Nested n) after step found got turn e next up = absurd up
given-up-stays layout (jobs.Inject i) after step found got turn e next up = absurd up
given-up-stays layout (jobs.Soft s) after step found got turn e next up = absurd up
given-up-stays layout (jobs.Unpoison u) after step found got turn e next up = absurd up

-- ---- the numbers of a collector

-- they stay within their limits
pub within-stays : (layout : Layout) (j after : Job) (found : ℕ) (got : Option BodyValue) (turn : Turn) → Next layout j found got after turn → HasChangeWithin j → HasChangeWithin after
within-stays layout (jobs.Log l) after found got turn next has = subst HasChangeWithin (sym next.0) (subst IsChangeWithin (sym (ap (λ (a : Who × LocalChange × Banks). a.1) (log-kept l found))) has)
within-stays layout (jobs.Instruction i) after found got turn next has = subst HasChangeWithin (sym next.1) tt
within-stays layout (jobs.Copying c) after found got turn next has = subst HasChangeWithin (sym next.1) tt
within-stays layout (jobs.Evict e) after found got turn next has = subst HasChangeWithin (sym next.1) tt
within-stays layout (jobs.Raise r) after found got turn next has = subst HasChangeWithin (sym next.1) tt
within-stays layout (jobs.Scrub s) after found got turn next has = subst HasChangeWithin (sym next.1) tt
within-stays layout (jobs.Inject i) after found got turn next has = subst HasChangeWithin (sym next.1) tt
within-stays layout (jobs.Soft s) after found got turn next has = subst HasChangeWithin (sym next.1) tt
within-stays layout (jobs.Fsync f) after found got turn next has = subst HasChangeWithin (sym next.0) tt
within-stays layout (jobs.Prctl p) after found got turn next has = subst HasChangeWithin (sym next.0) tt
within-stays layout (jobs.Denied p) after found got turn next has = subst HasChangeWithin (sym next.0) tt
within-stays layout (jobs.Fork f) after found got turn next has = subst HasChangeWithin (sym next.0) tt
within-stays layout (jobs.Spoil s) after found got turn next has = subst HasChangeWithin (sym next.0) tt
within-stays layout (jobs.Nested n) after found got turn next has = subst HasChangeWithin (sym next.0) tt
within-stays layout (jobs.Unpoison u) after found got turn next has = subst HasChangeWithin (sym next.0) tt

-- also behind a pause, and where memory runs out
pub behind-within : (j : Job) → HasChangeWithin j → HasChangeWithin (resume j)
behind-within (jobs.Log l) has = has
behind-within (jobs.Instruction i) has = tt
behind-within (jobs.Copying c) has = tt
behind-within (jobs.Evict e) has = tt
behind-within (jobs.Fsync f) has = tt
behind-within (jobs.Prctl p) has = tt
behind-within (jobs.Denied p) has = tt
behind-within (jobs.Fork f) has = tt
behind-within (jobs.Raise r) has = tt
behind-within (jobs.Scrub s) has = tt
behind-within (jobs.Spoil s) has = tt
behind-within (jobs.Nested n) has = tt
behind-within (jobs.Inject i) has = tt
behind-within (jobs.Soft s) has = tt
behind-within (jobs.Unpoison u) has = tt

pub give-up-within : (j : Job) → HasChangeWithin j → HasChangeWithin (give_up j)
give-up-within (jobs.Log l) has = has
give-up-within (jobs.Instruction i) has = tt
give-up-within (jobs.Copying c) has = tt
give-up-within (jobs.Evict e) has = tt
give-up-within (jobs.Fsync f) has = tt
give-up-within (jobs.Prctl p) has = tt
give-up-within (jobs.Denied p) has = tt
give-up-within (jobs.Fork f) has = tt
give-up-within (jobs.Raise r) has = tt
give-up-within (jobs.Scrub s) has = tt
give-up-within (jobs.Spoil s) has = tt
give-up-within (jobs.Nested n) has = tt
give-up-within (jobs.Inject i) has = tt
give-up-within (jobs.Soft s) has = tt
give-up-within (jobs.Unpoison u) has = tt
