-- When a command is answered, each handle of its processor has the number that the answer gives it, and where the answer tells the
-- number a step of the command showed it.
use Rattle.std.proofs.Common.{◌≡◌, ℕ, ◌+◌, ◌<◌, ◌==◌, eq-eqb, Bool, true, false, cond, List, Option, None, Some, inl, inr, slice_get, slice_set, unwrap_or, refl, sym, ap, ◌∙◌, subst, arith}
use Rattle.std.proofs.lemmas.Bool.{both_ways, eqb-true}
use Rattle.hwp_law_served.specs.hwp_geom.declared.FileNo.{FileNo}
use Rattle.hwp_law_served.specs.hwp_geom.declared.Layout.{Layout}
use Rattle.hwp_law_served.specs.hwp_geom.declared.VSlot.{VSlot}
use Rattle.hwp_law_served.specs.hwp_geom.declared.Who.{Who}
use Rattle.hwp_law_served.specs.hwp_core_rule.declared.Made.{Made}
use Rattle.hwp_law_served.specs.hwp_core_rule.declared.View.{View}
use Rattle.hwp_law_served.proofs.of_hwp_core_rule.Lists.{set_else, set_here}
use Rattle.hwp_law_served.specs.hwp_script_words.declared.Command.{Command}
use Rattle.hwp_law_served.specs.hwp_script_words.declared.Command.TheVariants as commands
use Rattle.hwp_law_served.specs.hwp_report_text.declared.Answer.{Answer}
use Rattle.hwp_law_served.specs.hwp_report_text.declared.Answer.TheVariants as answers
use Rattle.hwp_law_served.specs.hwp_law.Losses.{number_by, tells_number}
use Rattle.hwp_law_served.specs.hwp_evict.declared.Fsync.{Fsync}
use Rattle.hwp_law_served.specs.hwp_evict.declared.FsyncAnswer.{FsyncAnswer}
use Rattle.hwp_law_served.specs.hwp_evict.declared.FsyncAnswer.TheVariants as fsync_answers
use Rattle.hwp_law_served.specs.hwp_evict.declared.fsync.FsyncAt.TheVariants as fsync_at
use Rattle.hwp_law_served.specs.hwp_evict.Fsyncs as fsyncs
use Rattle.hwp_law_served.specs.hwp_cpu_row.Locals.{number_in}
use Rattle.hwp_law_served.specs.Handles.{KnowsNumber}
use Rattle.hwp_cpu_command.specs.declared.Job.{Job}
use Rattle.hwp_cpu_command.specs.declared.Job.TheVariants as jobs
use Rattle.hwp_cpu_command.specs.Answers.{fsync_answer}
use Rattle.hwp_cpu_command.specs.Begins.{BeginsFsync}
use Rattle.hwp_cpu_command.specs.FileHandles.{HasHandle, IsToldBy, handles_after}
use Rattle.hwp_cpu_command.specs.Jobs.{FitsFrom, answer}
use Rattle.hwp_cpu_command.specs.Runs.{Runs, RunsAs, RunsDenied, anew}
use Rattle.hwp_cpu_command.proofs.JobEnds.{fsync-over, mapped}
use Rattle.hwp_cpu_command.proofs.OfKind.{of-copying, of-evict, of-fork, of-fsync, of-inject, of-instruction, of-log, of-nested, of-prctl, of-raise, of-scrub, of-soft, of-spoil, of-unpoison}
use Rattle.hwp_cpu.proofs.causes.DeniedCauses.{access-by, runs-kind}
use Rattle.hwp_law_served.specs.hwp_law.Commands.{Access, access_of}

-- a handle that had the number m has the number that the answer gives it; where the answer tells it, it was shown
pub record IsNumbered (layout : Layout) (view : View) (who : Who) (command : Command) (a : Answer) (file : FileNo) (m : ℕ) (after : List ℕ) : Type 0 where
  pub has : slice_get after file.0 ≡ Some (number_by file m command a)
  pub knows : tells_number file command a ≡ true → KnowsNumber layout view who file (number_by file m command a)

-- ---- the answer of an `fsync` or an `open`

-- the command that asks a handle of the file, or opens it
abbrev asking : Bool → FileNo → Command
asking false file = commands.Fsync file
asking true file = commands.Open file

module _ (layout : Layout) (view : View) (handles : List ℕ) (f : Fsync) where
  abbrev command : Command
  command = asking f.opens f.file

  abbrev Caused : FsyncAnswer → Type 0
  Caused x = fsyncs.IsCaused layout view f.who f.file f.handle (fsyncs.number f) x

  abbrev Told : Bool → FsyncAnswer → Type 0
  Told opens x = IsToldBy opens (fsync_at.Over x (fsyncs.number f))

  -- the file that it names
  number-own : (opens : Bool) (x : FsyncAnswer) → Caused x → Told opens x → number_by f.file f.handle (asking opens f.file) (fsync_answer x) ≡ fsyncs.number f
  number-own false fsync_answers.Stopped caused by = sym caused.1
  number-own true fsync_answers.Stopped caused by = sym caused.1
  number-own false fsync_answers.Done caused by = sym caused.0
  number-own true fsync_answers.Done caused by = absurd by
  number-own false (fsync_answers.Eio more) caused by = ap (λ (b : Bool). f.handle + cond b more 0) (eq-eqb f.file.0 f.file.0 refl) ∙ sym caused.1
  number-own true (fsync_answers.Eio more) caused by = absurd by
  number-own false (fsync_answers.Opened lost) caused by = absurd by
  number-own true (fsync_answers.Opened lost) caused by = ap (λ (b : Bool). cond b lost f.handle) (eq-eqb f.file.0 f.file.0 refl) ∙ sym caused.0

  knows-own : (opens : Bool) (x : FsyncAnswer) → Caused x → Told opens x → tells_number f.file (asking opens f.file) (fsync_answer x) ≡ true → KnowsNumber layout view f.who f.file (fsyncs.number f)
  knows-own false fsync_answers.Stopped caused by told = absurd (both_ways false refl told)
  knows-own true fsync_answers.Stopped caused by told = absurd (both_ways false refl told)
  knows-own opens fsync_answers.Done caused by told = (caused.1, caused.2)
  knows-own opens (fsync_answers.Eio more) caused by told = (caused.2, caused.3)
  knows-own opens (fsync_answers.Opened lost) caused by told = (caused.1, caused.2)

  own-file : (x : FsyncAnswer) → Caused x → Told f.opens x → slice_get handles f.file.0 ≡ Some f.handle → IsNumbered layout view f.who command (fsync_answer x) f.file f.handle (slice_set handles f.file.0 (fsyncs.number f))
  own-file x caused by there = record {
    has = set_here handles f.file.0 (fsyncs.number f) f.handle there ∙ ap (λ (n : ℕ). Some n) (sym (number-own f.opens x caused by));
    knows = λ told. subst (KnowsNumber layout view f.who f.file) (sym (number-own f.opens x caused by)) (knows-own f.opens x caused by told);
  }

  -- another file
  module _ (file : FileNo) (m : ℕ) (other : (f.file.0 == file.0) ≡ false) where
    number-other : (opens : Bool) (x : FsyncAnswer) → number_by file m (asking opens f.file) (fsync_answer x) ≡ m
    number-other false fsync_answers.Stopped = refl
    number-other true fsync_answers.Stopped = refl
    number-other false fsync_answers.Done = refl
    number-other true fsync_answers.Done = refl
    number-other false (fsync_answers.Eio more) = let none : cond (f.file.0 == file.0) more 0 ≡ 0 = ap (λ (b : Bool). cond b more 0) other in omega (arith, none)
    number-other true (fsync_answers.Eio more) = refl
    number-other false (fsync_answers.Opened lost) = refl
    number-other true (fsync_answers.Opened lost) = ap (λ (b : Bool). cond b lost m) other

    untold : (opens : Bool) (x : FsyncAnswer) → tells_number file (asking opens f.file) (fsync_answer x) ≡ false
    untold false fsync_answers.Stopped = refl
    untold true fsync_answers.Stopped = refl
    untold false fsync_answers.Done = other
    untold true fsync_answers.Done = refl
    untold false (fsync_answers.Eio more) = other
    untold true (fsync_answers.Eio more) = refl
    untold false (fsync_answers.Opened lost) = refl
    untold true (fsync_answers.Opened lost) = other

    other-file : (x : FsyncAnswer) → slice_get handles file.0 ≡ Some m → IsNumbered layout view f.who command (fsync_answer x) file m (slice_set handles f.file.0 (fsyncs.number f))
    other-file x there = record {
      has = set_else handles f.file.0 file.0 (fsyncs.number f) (λ same. both_ways (f.file.0 == file.0) other (eq-eqb f.file.0 file.0 (sym same))) ∙ there ∙ ap (λ (n : ℕ). Some n) (sym (number-other f.opens x));
      knows = λ told. absurd (both_ways (tells_number file command (fsync_answer x)) (untold f.opens x) told);
    }

  each-file : (x : FsyncAnswer) → Caused x → Told f.opens x → f.handle ≡ number_in handles f.file → (file : FileNo) (m : ℕ) → slice_get handles file.0 ≡ Some m
      → IsNumbered layout view f.who command (fsync_answer x) file m (slice_set handles f.file.0 (fsyncs.number f))
  each-file x caused by handle file m there = which (f.file.0 == file.0) refl
    where
      own : f.file ≡ file → IsNumbered layout view f.who command (fsync_answer x) file m (slice_set handles f.file.0 (fsyncs.number f))
      own same =
          let here : slice_get handles f.file.0 ≡ Some m = ap (λ (n : FileNo). slice_get handles n.0) same ∙ there in
          let is : f.handle ≡ m = handle ∙ ap (λ o. unwrap_or o 0) here in
          subst (λ (n : FileNo). IsNumbered layout view f.who command (fsync_answer x) n m (slice_set handles f.file.0 (fsyncs.number f))) same
          (subst (λ (k : ℕ). IsNumbered layout view f.who command (fsync_answer x) f.file k (slice_set handles f.file.0 (fsyncs.number f))) is
          (own-file x caused by (here ∙ ap (λ (k : ℕ). Some k) (sym is))))

      which : (b : Bool) → (f.file.0 == file.0) ≡ b → IsNumbered layout view f.who command (fsync_answer x) file m (slice_set handles f.file.0 (fsyncs.number f))
      which true is = own (λ t. record { 0 = eqb-true f.file.0 file.0 is t })
      which false is = other-file file m is x there

-- a command that tells a number is of a file of the layout
tells-asked : (file other : FileNo) (a : Answer) → tells_number file (commands.Fsync other) a ≡ true → other.0 ≡ file.0
tells-asked file other answers.Done is = eqb-true other.0 file.0 is
tells-asked file other (answers.Eio more) is = eqb-true other.0 file.0 is
tells-asked file other _ is = absurd (both_ways false refl is)

tells-opened : (file other : FileNo) (a : Answer) → tells_number file (commands.Open other) a ≡ true → other.0 ≡ file.0
tells-opened file other (answers.Opened lost) is = eqb-true other.0 file.0 is
tells-opened file other _ is = absurd (both_ways false refl is)

-- a command that copies tells none
untold-copying : {A : Type 0} (layout : Layout) (who : Who) (command : Command) (from : VSlot) (j : Job) (a : Answer) (file : FileNo) → RunsAs layout who command (Some from) j → tells_number file command a ≡ true → A
untold-copying layout who (commands.Store thread slot line word) from j a file runs is = absurd (both_ways false refl is)
untold-copying layout who _ from j a file runs is = absurd runs

inside : (layout : Layout) (who : Who) (command : Command) (j : Job) (a : Answer) (file : FileNo) → RunsAs layout who command None j → tells_number file command a ≡ true → file.0 < layout.files
inside layout who (commands.Fsync other) j a file runs is = subst (λ (n : ℕ). n < layout.files) (tells-asked file other a is) runs.0
inside layout who (commands.Open other) j a file runs is = subst (λ (n : ℕ). n < layout.files) (tells-opened file other a is) runs.0
inside layout who _ j a file runs is = absurd (both_ways false refl is)

-- an access tells none
untold-denied : (command : Command) (a : Answer) (file : FileNo) {at : Access} → access_of command ≡ Some at → tells_number file command a ≡ false
untold-denied command a file is = access-by (λ (c : Command). tells_number file c a ≡ false) (λ thread slot line. refl) (λ thread slot line. refl) (λ thread slot line. refl) (λ thread slot line word. refl) command is

pub tells-inside : (layout : Layout) (who : Who) (command : Command) (copied : Option VSlot) (j : Job) (a : Answer) (file : FileNo) → Runs layout who command copied j → tells_number file command a ≡ true → file.0 < layout.files
tells-inside layout who command copied j a file (inl denied) is = absurd (both_ways (tells_number file command a) (untold-denied command a file denied.1.access) is)
tells-inside layout who command None j a file (inr runs) is = inside layout who command j a file runs is
tells-inside layout who command (Some from) j a file (inr runs) is = untold-copying layout who command from j a file runs is

-- ---- each command

module _ (base : List Made) (layout : Layout) (view : View) (who : Who) (j : Job) {a : Answer} (fits : FitsFrom base layout view j) (is : answer j ≡ Some a) (handles : List ℕ) (file : FileNo) (m : ℕ) (there : slice_get handles file.0 ≡ Some m) where
  -- one that is no `fsync` and no `open` leaves the handles
  leaves : (command : Command) {k : Job} → j ≡ k → handles_after k handles ≡ handles → number_by file m command a ≡ m → tells_number file command a ≡ false → IsNumbered layout view who command a file m (handles_after j handles)
  leaves command same kept number untold = record {
    has = ap (λ (l : List ℕ). slice_get l file.0) (ap (λ (q : Job). handles_after q handles) same ∙ kept) ∙ there ∙ ap (λ (n : ℕ). Some n) (sym number);
    knows = λ told. absurd (both_ways (tells_number file command a) untold told);
  }

  told-by : (opens : Bool) (other : FileNo) → BeginsFsync layout who other opens (anew j) → HasHandle handles j → IsNumbered layout view who (asking opens other) a file m (handles_after j handles)
  told-by opens other runs has =
      subst (λ (f : Fsync). IsNumbered layout view f.who (asking f.opens f.file) a file m (handles_after j handles)) task.2
      (subst (λ (q : Job). IsNumbered layout view task.0.who (asking task.0.opens task.0.file) a file m (handles_after q handles)) (sym task.1)
      (subst (λ (x : Answer). IsNumbered layout view task.0.who (asking task.0.opens task.0.file) x file m (slice_set handles task.0.file.0 (fsyncs.number task.0))) own.2
      (each-file layout view handles task.0 own.0 (subst (fsyncs.FitsAt layout view task.0.who task.0.file task.0.handle) over fit.at) (subst (IsToldBy task.0.opens) over known.1) known.0 file m there)))
    where
      task : (f : Fsync) × (j ≡ jobs.Fsync f) × (fsyncs.begin f.who f.file f.handle f.opens ≡ fsyncs.begin who other runs.1 opens)
      task = of-fsync j runs.2

      own : (x : FsyncAnswer) × (fsyncs.answer task.0 ≡ Some x) × (fsync_answer x ≡ a)
      own = mapped fsync_answer (fsyncs.answer task.0) (sym (ap answer task.1) ∙ is)

      fit : fsyncs.Fits layout view task.0
      fit = (subst (FitsFrom base layout view) task.1 fits).1

      over : task.0.at ≡ fsync_at.Over own.0 (fsyncs.number task.0)
      over = fsync-over task.0 own.1

      known : HasHandle handles (jobs.Fsync task.0)
      known = subst (HasHandle handles) task.1 has

  -- of one that copies nothing
  plain : (command : Command) → RunsAs layout who command None j → HasHandle handles j → IsNumbered layout view who command a file m (handles_after j handles)
  plain (commands.Fsync other) runs has = told-by false other runs has
  plain (commands.Open other) runs has = told-by true other runs has
  plain (commands.Load thread slot line) runs has = leaves (commands.Load thread slot line) (of-instruction j runs.job_is).1 refl refl refl
  plain (commands.Fetch thread slot line) runs has = leaves (commands.Fetch thread slot line) (of-instruction j runs.job_is).1 refl refl refl
  plain (commands.KLoad thread slot line) runs has = leaves (commands.KLoad thread slot line) (of-instruction j runs.job_is).1 refl refl refl
  plain (commands.Store thread slot line word) runs has = leaves (commands.Store thread slot line word) (of-instruction j runs.job_is).1 refl refl refl
  plain (commands.Free slot) runs has = leaves (commands.Free slot) (of-evict j runs.1.job_is).1 refl refl refl
  plain (commands.Drop page) runs has = leaves (commands.Drop page) (of-evict j runs.job_is).1 refl refl refl
  plain (commands.Sync page) runs has = leaves (commands.Sync page) (of-evict j runs.job_is).1 refl refl refl
  plain (commands.Out page) runs has = leaves (commands.Out page) (of-evict j runs.job_is).1 refl refl refl
  plain (commands.Prctl thread args) runs has = leaves (commands.Prctl thread args) (of-prctl j runs.job_is).1 refl refl refl
  plain (commands.Fork thread child) runs has = leaves (commands.Fork thread child) (of-fork j runs.job_is).1 refl refl refl
  plain (commands.Bad frame line) runs has = leaves (commands.Bad frame line) (of-spoil j runs.job_is).1 refl refl refl
  plain (commands.Weak frame line) runs has = leaves (commands.Weak frame line) (of-spoil j runs.job_is).1 refl refl refl
  plain (commands.Scrub first last) runs has = leaves (commands.Scrub first last) (of-scrub j runs.job_is).1 refl refl refl
  plain (commands.Log status addr misc) runs has = leaves (commands.Log status addr misc) (of-log j runs.job_is).1 refl refl refl
  plain (commands.Watch threshold window) runs has = leaves (commands.Watch threshold window) (of-log j runs.job_is).1 refl refl refl
  plain (commands.RaiseUser thread ripv eipv) runs has = leaves (commands.RaiseUser thread ripv eipv) (of-raise j runs.job_is).1 refl refl refl
  plain (commands.RaiseKernel ripv eipv) runs has = leaves (commands.RaiseKernel ripv eipv) (of-raise j runs.job_is).1 refl refl refl
  plain commands.RaiseNested runs has = leaves commands.RaiseNested (of-nested j runs).1 refl refl refl
  plain (commands.Inject frame) runs has = leaves (commands.Inject frame) (of-inject j runs.job_is).1 refl refl refl
  plain (commands.Soft frame) runs has = leaves (commands.Soft frame) (of-soft j runs.job_is).1 refl refl refl
  plain (commands.Unpoison frame) runs has = leaves (commands.Unpoison frame) (of-unpoison j runs.job_is).1 refl refl refl

  copying : (command : Command) (from : VSlot) → RunsAs layout who command (Some from) j → IsNumbered layout view who command a file m (handles_after j handles)
  copying (commands.Store thread slot line word) from runs = leaves (commands.Store thread slot line word) (of-copying j runs.job_is).1 refl refl refl
  copying _ from runs = absurd runs

  denying : (command : Command) {copied : Option VSlot} → RunsDenied layout who command copied j → IsNumbered layout view who command a file m (handles_after j handles)
  denying command denied = let task = (runs-kind j denied).1 in
      access-by (λ (c : Command). IsNumbered layout view who c a file m (handles_after j handles)) (λ thread slot line. leaves (commands.Load thread slot line) task refl refl refl) (λ thread slot line. leaves (commands.Fetch thread slot line) task refl refl refl)
      (λ thread slot line. leaves (commands.KLoad thread slot line) task refl refl refl) (λ thread slot line word. leaves (commands.Store thread slot line word) task refl refl refl) command denied.1.access

  pub numbered : (command : Command) (copied : Option VSlot) → Runs layout who command copied j → HasHandle handles j → IsNumbered layout view who command a file m (handles_after j handles)
  numbered command copied (inl denied) has = denying command denied
  numbered command None (inr runs) has = plain command runs has
  numbered command (Some from) (inr runs) has = copying command from runs
