-- What a step of a command's own task tells of events, and what those note.
use Rattle.hwp_cpu_command.specs.hwp_cpu_access.declared.Copying.{Copying}
use Rattle.hwp_cpu_command.specs.hwp_cpu_access.declared.copying.CopyingAt.{CopyingAt}
use Rattle.hwp_cpu_command.specs.hwp_cpu_access.declared.copying.CopyingAt.TheVariants as copying_at
use Rattle.hwp_cpu_command.specs.hwp_cpu_access.Copyings as copyings
use Rattle.hwp_cpu_command.specs.hwp_cpu_access.CopyFits as copying_fits
use Rattle.hwp_cpu_command.specs.hwp_cpu_access.Runs.{checks_by}
use Rattle.hwp_cpu_command.specs.hwp_cpu_access.hwp_fork.declared.cow.Sub.{Sub}
use Rattle.hwp_cpu_command.specs.hwp_cpu_access.hwp_fork.declared.cow.Sub.TheVariants as subs
use Rattle.hwp_cpu_command.specs.hwp_cpu_access.hwp_fork.Cows as cows
use Rattle.hwp_cpu_command.specs.hwp_evict.declared.Evict.{Evict}
use Rattle.hwp_cpu_command.specs.hwp_evict.declared.EvictAnswer.{EvictAnswer}
use Rattle.hwp_cpu_command.specs.hwp_evict.declared.EvictAnswer.TheVariants as evict_answers
use Rattle.hwp_cpu_command.specs.hwp_evict.Evicts as evicts
use Rattle.hwp_cpu_command.specs.hwp_cpu_access.declared.InstructionAnswer.{InstructionAnswer}
use Rattle.hwp_cpu_command.specs.hwp_cpu_access.declared.InstructionAnswer.TheVariants as access_answers
use Rattle.hwp_cpu_command.specs.hwp_cpu_access.declared.instruction.InstructionAt.TheVariants as instruction_at
use Rattle.hwp_cpu_command.proofs.of_hwp_cpu_access.CowSteps.{request-who}
use Rattle.hwp_cpu_row.specs.hwp_page.declared.At.{At}
use Rattle.hwp_cpu_row.specs.hwp_geom.declared.Who.{Who}
use Rattle.hwp_cpu_row.specs.hwp_core_rule.Calls.{Steps, logs}
use Rattle.std.proofs.lemmas.Option.{none-some}
use Rattle.hwp_cpu_row.specs.hwp_claim.Told.{halts, has_kept}
use Rattle.hwp_cpu.proofs.causes.NotedLines.{answered-unnoted, notes-behind, notes-more}
use Rattle.hwp_cpu_command.proofs.of_hwp_cpu_access.ToldMore.{Tells, told-more}
use Rattle.hwp_cpu_command.specs.Jobs.{told_of}
use Rattle.std.proofs.Common.{Bool, true, ◌≡◌, ◌⊎◌, is_some, subst, false, sym, drop, length, append-nil, inl, true≢false, ◌++◌, refl, List, ◌&&◌, Option, arith, ap, ℕ, inr, ◌∙◌, [], None, Some}
use Rattle.hwp_cpu_command.specs.hwp_cpu_access.declared.Instruction.{Instruction}
use Rattle.hwp_cpu_row.specs.hwp_claim.declared.EventOutcome.{EventOutcome}
use Rattle.hwp_cpu_command.specs.declared.job.Job.{Job}
use Rattle.hwp_cpu_row.specs.Locals.{collects}
use Rattle.hwp_cpu.specs.Serving.{HasToldAll}
use Rattle.hwp_cpu_row.specs.hwp_core_rule.declared.View.{View}
use Rattle.std.proofs.lemmas.List.{drop_all, take-append-le, take_all, drop-append-le}
use Rattle.hwp_cpu_row.specs.Acts.{told_notes}
use Rattle.hwp_cpu_row.specs.hwp_core_rule.declared.Made.{Made}
use Rattle.hwp_cpu_row.specs.hwp_geom.declared.Frame.{Frame}
use Rattle.hwp_cpu_row.specs.declared.Watching.{Watching}
use Rattle.hwp_cpu_command.specs.Stays.{Stepped, HasGivenUp}
use Rattle.hwp_cpu_row.specs.hwp_geom.declared.Layout.{Layout}
use Rattle.hwp_cpu_command.specs.hwp_cpu_access.Instructions as instructions
use Rattle.hwp_cpu_command.specs.declared.job.Job.TheVariants as kinds
use Rattle.hwp_cpu_command.specs.Jobs as jobs
use Rattle.hwp_cpu.proofs.commands.Beside.{given-up-rests}
use Rattle.hwp_cpu.proofs.commands.ToldGrows.{told-longer}
use Rattle.hwp_cpu_command.specs.hwp_cpu_access.declared.instruction.InstructionAt.{InstructionAt}
use Rattle.std.specs.Prelude.{take}
use Rattle.hwp_cpu_command.specs.hwp_cpu_access.declared.instruction.Pause.{Pause}
use Rattle.hwp_cpu_row.specs.hwp_report_text.declared.Answer.{Answer}
use Rattle.hwp_cpu.specs.Courses.{passed, HasPassed, rests}

-- what stands behind a list
drop-length : {A : Type 0} (a b : List A) → drop (length a) (a ++ b) ≡ b
drop-length a b = drop-append-le (length a) a b (omega arith) ∙ ap (λ l. l ++ b) (drop_all (length a) a (omega arith))

-- ---- an access

module _ {base : List Made} (layout : Layout) (old new : View) (i : Instruction) (k : Job) (fits : jobs.FitsFrom base layout old (kinds.Instruction i)) (made : Stepped layout old new (kinds.Instruction i) k) where
  abbrev next : Instruction
  next = made.follows.0

  tells : Tells layout new i fits.checks next
  tells = told-more layout old new i made.step made.found made.got fits made.planned made.made next made.turn made.follows.2

  -- what it tells notes for itself
  pub access-notes : told_notes layout (told_of k) ≡ told_notes layout i.lines.told ++ told_notes layout (drop (length i.lines.told) (told_of k))
  access-notes = subst (λ (j : Job). told_notes layout (told_of j) ≡ told_notes layout i.lines.told ++ told_notes layout (drop (length i.lines.told) (told_of j))) (sym made.follows.1) (which tells)
    where
      which : Tells layout new i fits.checks next → told_notes layout next.lines.told ≡ told_notes layout i.lines.told ++ told_notes layout (drop (length i.lines.told) next.lines.told)
      which (inl same) = ap (told_notes layout) same ∙ sym (append-nil (told_notes layout i.lines.told))
          ∙ ap (λ (l : List EventOutcome). told_notes layout i.lines.told ++ told_notes layout l) (sym (ap (drop (length i.lines.told)) same ∙ drop_all (length i.lines.told) i.lines.told (omega arith)))
      which (inr more) = ap (told_notes layout) more.told_is ∙ notes-more i fits more.more more.of_check
          ∙ ap (λ (l : List EventOutcome). told_notes layout i.lines.told ++ told_notes layout l) (sym (ap (drop (length i.lines.told)) more.told_is ∙ drop-length i.lines.told more.more))

  -- where it doesn't pause, of a processor that collects, that is nothing
  pub access-unnoted : i.collects ≡ true → jobs.pauses k ≡ false → told_notes layout (told_of k) ≡ told_notes layout i.lines.told
  access-unnoted on goes = subst (λ (j : Job). jobs.pauses j ≡ false → told_notes layout (told_of j) ≡ told_notes layout i.lines.told) (sym made.follows.1) (λ still. which still tells) goes
    where
      unkept-by : (more : List EventOutcome) → (halts more ≡ true) ⊎ (has_kept more && i.collects ≡ false) → (halts more ≡ true) ⊎ (has_kept more ≡ false)
      unkept-by more (inl halted) = inl halted
      unkept-by more (inr none) = inr (both (has_kept more) (ap (λ (b : Bool). has_kept more && b) (sym on) ∙ none))
        where
          both : (b : Bool) → (b && true) ≡ false → b ≡ false
          both true is = is
          both false is = refl

      which : jobs.pauses (kinds.Instruction next) ≡ false → Tells layout new i fits.checks next → told_notes layout next.lines.told ≡ told_notes layout i.lines.told
      which still (inl same) = ap (told_notes layout) same
      which still (inr more) = ap (told_notes layout) more.told_is ∙ notes-more i fits more.more more.of_check ∙ ap (λ (l : List Frame). told_notes layout i.lines.told ++ l) (none more.next) ∙ append-nil (told_notes layout i.lines.told)
        where
          none : (is_some (instructions.pause next) ≡ true) ⊎ ((halts more.more ≡ true) ⊎ (has_kept more.more && i.collects ≡ false)) → told_notes layout more.more ≡ []
          none (inl pauses_now) = absurd (true≢false (sym pauses_now ∙ still))
          none (inr why) = answered-unnoted i fits more.more more.of_check (unkept-by more.more why)

-- ---- a copy, by its access

-- what follows an access that went well tells nothing of its own
going-told : (y : Copying) (place : At) (s : Sub) → (copyings.going_on y place s).instruction.lines.told ≡ y.instruction.lines.told
going-told y place (subs.Load slot line) = refl
going-told y place (subs.Store slot line word) = refl
going-told y place (subs.Free slot) = refl
going-told y place subs.Switched = refl

access-told : (y : Copying) (o : Option InstructionAnswer) → (copyings.after_access y o).instruction.lines.told ≡ y.instruction.lines.told
access-told y (Some (access_answers.Value word place)) = going-told (record y { cow = cows.told_by y.cow word }) place (cows.sub_of (cows.told_by y.cow word))
access-told y (Some (access_answers.Stored place)) = going-told (record y { cow = cows.told_by y.cow 0 }) place (cows.sub_of (cows.told_by y.cow 0))
access-told y (Some (access_answers.Sigbus place)) = refl
access-told y (Some access_answers.NoFrame) = refl
access-told y (Some (access_answers.Gone page)) = refl
access-told y (Some access_answers.Stopped) = refl
access-told y None = refl

free-told : (y : Copying) (e : Evict) (stored : At) (o : Option EvictAnswer) → (copyings.after_free_by y e stored o).instruction.lines.told ≡ y.instruction.lines.told
free-told y e stored None = refl
free-told y e stored (Some evict_answers.Stopped) = refl
free-told y e stored (Some (evict_answers.Done place)) = refl
free-told y e stored (Some (evict_answers.Refused refusal place)) = refl

module _ {base : List Made} (layout : Layout) (old new : View) (y : Copying) (k : Job) (fits : copying_fits.FitsFrom base layout old y) (made : Stepped layout old new (kinds.Copying y) k) where
  abbrev went : Copying
  went = made.follows.0

  -- it tells nothing more, or what its access does
  record Lines : Type 0 where
    more : List EventOutcome
    told_is : went.instruction.lines.told ≡ y.instruction.lines.told ++ more
    notes : told_notes layout (y.instruction.lines.told ++ more) ≡ told_notes layout y.instruction.lines.told ++ told_notes layout more
    still : y.instruction.collects ≡ true → is_some (copyings.pause went) ≡ false → told_notes layout more ≡ []

  untold : went.instruction.lines.told ≡ y.instruction.lines.told → Lines
  untold same = record {
    more = [];
    told_is = same ∙ sym (append-nil y.instruction.lines.told);
    notes = ap (told_notes layout) (append-nil y.instruction.lines.told) ∙ sym (append-nil (told_notes layout y.instruction.lines.told));
    still = λ on goes. refl;
  }

  lines : Lines
  lines = by y.at refl fits.at made.planned made.made made.follows.2
    where
      by : (x : CopyingAt) → y.at ≡ x → copying_fits.FitsAt base layout old y fits.runs x → copyings.plan_at y.instruction x ≡ Some made.step → Steps layout y.store.who made.step (logs (copyings.put_at y.instruction x)) old new made.found made.got
          → copyings.FollowsAt layout (copyings.bare_at y x) (copyings.bare_at y x).at made.found made.got went made.turn → Lines
      by copying_at.Access own has planned moved next = which (told-more layout old new y.instruction made.step made.found made.got has.instruction planned (subst (λ (w : Who). Steps layout w made.step (logs (instructions.put y.instruction)) old new made.found made.got) (sym who-is) moved) next.instruction made.turn next.follows)
        where
          who-is : y.instruction.request.who ≡ y.store.who
          who-is = (request-who y.store y.page (cows.sub_of y.cow) has.request_is).0

          then : Copying
          then = record (copyings.bare_at y copying_at.Access) { instruction = next.instruction }

          same-told : went.instruction.lines.told ≡ next.instruction.lines.told
          same-told = ap (λ (x : Copying). x.instruction.lines.told) next.next_is ∙ access-told then (instructions.answer next.instruction)

          -- where the access pauses the copy does
          paused-so : (o : Option InstructionAnswer) → instructions.answer next.instruction ≡ o → is_some (instructions.pause next.instruction) ≡ true → is_some (copyings.pause (copyings.after_access then o)) ≡ true
          paused-so (Some x) is pauses = absurd (both-none next.instruction.at is pauses)
            where
              both-none : (z : InstructionAt) → instructions.answer_at z ≡ Some x → is_some (instructions.pause_at z) ≡ true → ⊥
              both-none (instruction_at.Paused p) said so = none-some x said
              both-none (instruction_at.Over answer) said so = true≢false (sym so)
              both-none (instruction_at.Access a) said so = none-some x said
              both-none (instruction_at.Handle frame h) said so = none-some x said
              both-none (instruction_at.LoadFrame frame) said so = none-some x said
              both-none (instruction_at.LoadStop frame) said so = none-some x said
              both-none instruction_at.GiveUp said so = none-some x said
          paused-so None is pauses = pauses

          which : Tells layout new y.instruction (checks_by fits.runs ++ has.instruction.checks) next.instruction → Lines
          which (inl same) = untold (same-told ∙ same)
          which (inr tells) = record {
            more = tells.more;
            told_is = same-told ∙ tells.told_is;
            notes = notes-behind y.instruction has.instruction fits.has.origin tells.more tells.of_check;
            still = λ on goes. none on goes tells.next;
          }
            where
              halted-or : (halts tells.more ≡ true) ⊎ (has_kept tells.more && y.instruction.collects ≡ false) → y.instruction.collects ≡ true → (halts tells.more ≡ true) ⊎ (has_kept tells.more ≡ false)
              halted-or (inl halted) on = inl halted
              halted-or (inr kept) on = inr (both (has_kept tells.more) (ap (λ (b : Bool). has_kept tells.more && b) (sym on) ∙ kept))
                where
                  both : (b : Bool) → (b && true) ≡ false → b ≡ false
                  both true is = is
                  both false is = is

              none : y.instruction.collects ≡ true → is_some (copyings.pause went) ≡ false → (is_some (instructions.pause next.instruction) ≡ true) ⊎ ((halts tells.more ≡ true) ⊎ (has_kept tells.more && y.instruction.collects ≡ false)) → told_notes layout tells.more ≡ []
              none on goes (inl pauses) = absurd (true≢false (sym (ap (λ (x : Copying). is_some (copyings.pause x)) next.next_is ∙ paused-so (instructions.answer next.instruction) refl pauses) ∙ goes))
              none on goes (inr why) = answered-unnoted y.instruction has.instruction tells.more tells.of_check (halted-or why on)
      by (copying_at.Free e stored) own has planned moved next = untold (ap (λ (x : Copying). x.instruction.lines.told) next.next_is ∙ free-told (copyings.bare_at y (copying_at.Free e stored)) next.evict stored (evicts.answer next.evict))
      by (copying_at.Over answer) own has planned moved follows = absurd (none-some made.step planned)

  pub copy-notes : told_notes layout (told_of k) ≡ told_notes layout y.instruction.lines.told ++ told_notes layout (drop (length y.instruction.lines.told) (told_of k))
  copy-notes = subst (λ (j : Job). told_notes layout (told_of j) ≡ told_notes layout y.instruction.lines.told ++ told_notes layout (drop (length y.instruction.lines.told) (told_of j))) (sym made.follows.1)
      (ap (told_notes layout) lines.told_is ∙ lines.notes
      ∙ ap (λ (l : List EventOutcome). told_notes layout y.instruction.lines.told ++ told_notes layout l) (sym (ap (drop (length y.instruction.lines.told)) lines.told_is ∙ drop-length y.instruction.lines.told lines.more)))

  pub copy-unnoted : y.instruction.collects ≡ true → jobs.pauses k ≡ false → told_notes layout (told_of k) ≡ told_notes layout y.instruction.lines.told
  copy-unnoted on goes = subst (λ (j : Job). jobs.pauses j ≡ false → told_notes layout (told_of j) ≡ told_notes layout y.instruction.lines.told) (sym made.follows.1)
      (λ still. ap (told_notes layout) lines.told_is ∙ lines.notes ∙ ap (λ (l : List Frame). told_notes layout y.instruction.lines.told ++ l) (lines.still on still) ∙ append-nil (told_notes layout y.instruction.lines.told)) goes

-- ---- whatever the task

some-of : {A : Type 0} (o : Option A) → is_some o ≡ true → (a : A) × (o ≡ Some a)
some-of (Some a) is = (a, refl)
some-of None is = absurd (true≢false (sym is))

none-of : {A : Type 0} (o : Option A) → is_some o ≡ false → o ≡ None
none-of None is = refl
none-of (Some a) is = absurd (true≢false is)

abbrev pub is_access : Job → Bool
is_access (kinds.Instruction i) = true
is_access (kinds.Copying y) = true
is_access _ = false

-- of another task the collector still gets nothing
pub none-told : (layout : Layout) (old new : View) (watching : Option Watching) (j k : Job) (noted : ℕ) (made : Stepped layout old new j k) → HasToldAll watching j noted → (collects watching ≡ false) ⊎ (is_access k ≡ false) → HasToldAll watching k noted
none-told layout old new watching (kinds.Instruction i) k noted made told off = subst (λ (x : Job). (collects watching ≡ false) ⊎ (is_access x ≡ false) → HasToldAll watching x noted) (sym made.follows.1) by off
  where
    by : (collects watching ≡ false) ⊎ (true ≡ false) → collects watching ≡ true → noted ≡ length made.follows.0.lines.told
    by (inl none) on = absurd (true≢false (sym on ∙ none))
    by (inr none) on = absurd (true≢false none)
none-told layout old new watching (kinds.Copying y) k noted made told off = subst (λ (x : Job). (collects watching ≡ false) ⊎ (is_access x ≡ false) → HasToldAll watching x noted) (sym made.follows.1) by off
  where
    by : (collects watching ≡ false) ⊎ (true ≡ false) → collects watching ≡ true → noted ≡ length made.follows.0.instruction.lines.told
    by (inl none) on = absurd (true≢false (sym on ∙ none))
    by (inr none) on = absurd (true≢false none)
none-told layout old new watching (kinds.Raise r) k noted made told off = subst (λ (x : Job). HasToldAll watching x noted) (sym made.follows.1) told
none-told layout old new watching (kinds.Scrub s) k noted made told off = subst (λ (x : Job). HasToldAll watching x noted) (sym made.follows.1) told
none-told layout old new watching (kinds.Evict e) k noted made told off = subst (λ (x : Job). HasToldAll watching x noted) (sym made.follows.1) told
none-told layout old new watching (kinds.Inject i) k noted made told off = subst (λ (x : Job). HasToldAll watching x noted) (sym made.follows.1) told
none-told layout old new watching (kinds.Soft s) k noted made told off = subst (λ (x : Job). HasToldAll watching x noted) (sym made.follows.1) told
none-told layout old new watching (kinds.Fsync f) k noted made told off = subst (λ (x : Job). HasToldAll watching x noted) (sym made.follows.0) told
none-told layout old new watching (kinds.Prctl p) k noted made told off = subst (λ (x : Job). HasToldAll watching x noted) (sym made.follows.0) told
none-told layout old new watching (kinds.Denied p) k noted made told off = subst (λ (x : Job). HasToldAll watching x noted) (sym made.follows.0) told
none-told layout old new watching (kinds.Fork g) k noted made told off = subst (λ (x : Job). HasToldAll watching x noted) (sym made.follows.0) told
none-told layout old new watching (kinds.Log l) k noted made told off = subst (λ (x : Job). HasToldAll watching x noted) (sym made.follows.0) told
none-told layout old new watching (kinds.Spoil s) k noted made told off = subst (λ (x : Job). HasToldAll watching x noted) (sym made.follows.0) told
none-told layout old new watching (kinds.Nested n) k noted made told off = subst (λ (x : Job). HasToldAll watching x noted) (sym made.follows.0) told
none-told layout old new watching (kinds.Unpoison u) k noted made told off = subst (λ (x : Job). HasToldAll watching x noted) (sym made.follows.0) told

from-first : (layout : Layout) (lines : List EventOutcome) (n : ℕ) → n ≡ 0 → told_notes layout lines ≡ told_notes layout (take n lines) ++ told_notes layout (drop n lines)
from-first layout lines n none = sym (ap (λ (k : ℕ). told_notes layout (take k lines) ++ told_notes layout (drop k lines)) none)

taken-told : (told more : List EventOutcome) (n : ℕ) → n ≡ length told → take n (told ++ more) ≡ told
taken-told told more n is = ap (λ (k : ℕ). take k (told ++ more)) is ∙ take-append-le (length told) told more (omega arith) ∙ take_all (length told) told (omega arith)

-- what it noted in all is what the collector got, and what it told since
pub own-notes : (base : List Made) (layout : Layout) (old new : View) (watching : Option Watching) (j k : Job) (noted : ℕ) → jobs.FitsFrom base layout old j → Stepped layout old new j k → collects watching ≡ true → HasToldAll watching j noted
    → told_notes layout (told_of k) ≡ told_notes layout (take noted (told_of k)) ++ told_notes layout (drop noted (told_of k))
own-notes base layout old new watching (kinds.Instruction i) k noted fits made on told =
    access-notes layout old new i k fits made
    ∙ ap (λ (l : List EventOutcome). told_notes layout l ++ told_notes layout (drop (length i.lines.told) (told_of k))) (sym (ap (take noted) grown.1 ∙ taken-told i.lines.told grown.0 noted (told on)))
    ∙ ap (λ (n : ℕ). told_notes layout (take noted (told_of k)) ++ told_notes layout (drop n (told_of k))) (sym (told on))
  where
    grown : (more : List EventOutcome) × (told_of k ≡ i.lines.told ++ more)
    grown = told-longer layout (kinds.Instruction i) k made.found made.got made.turn made.follows
own-notes base layout old new watching (kinds.Copying y) k noted fits made on told =
    copy-notes layout old new y k fits made
    ∙ ap (λ (l : List EventOutcome). told_notes layout l ++ told_notes layout (drop (length y.instruction.lines.told) (told_of k))) (sym (ap (take noted) grown.1 ∙ taken-told y.instruction.lines.told grown.0 noted (told on)))
    ∙ ap (λ (n : ℕ). told_notes layout (take noted (told_of k)) ++ told_notes layout (drop n (told_of k))) (sym (told on))
  where
    grown : (more : List EventOutcome) × (told_of k ≡ y.instruction.lines.told ++ more)
    grown = told-longer layout (kinds.Copying y) k made.found made.got made.turn made.follows
own-notes base layout old new watching (kinds.Raise r) k noted fits made on told = from-first layout (told_of k) noted told
own-notes base layout old new watching (kinds.Scrub s) k noted fits made on told = from-first layout (told_of k) noted told
own-notes base layout old new watching (kinds.Evict e) k noted fits made on told = from-first layout (told_of k) noted told
own-notes base layout old new watching (kinds.Inject i) k noted fits made on told = from-first layout (told_of k) noted told
own-notes base layout old new watching (kinds.Soft s) k noted fits made on told = from-first layout (told_of k) noted told
own-notes base layout old new watching (kinds.Fsync f) k noted fits made on told = from-first layout (told_of k) noted told
own-notes base layout old new watching (kinds.Prctl p) k noted fits made on told = from-first layout (told_of k) noted told
own-notes base layout old new watching (kinds.Denied p) k noted fits made on told = from-first layout (told_of k) noted told
own-notes base layout old new watching (kinds.Fork g) k noted fits made on told = from-first layout (told_of k) noted told
own-notes base layout old new watching (kinds.Log l) k noted fits made on told = from-first layout (told_of k) noted told
own-notes base layout old new watching (kinds.Spoil s) k noted fits made on told = from-first layout (told_of k) noted told
own-notes base layout old new watching (kinds.Nested n) k noted fits made on told = from-first layout (told_of k) noted told
own-notes base layout old new watching (kinds.Unpoison u) k noted fits made on told = from-first layout (told_of k) noted told

-- and of an access that doesn't pause, what the collector got
pub own-unnoted : (base : List Made) (layout : Layout) (old new : View) (watching : Option Watching) (j k : Job) (noted : ℕ) → jobs.FitsFrom base layout old j → Stepped layout old new j k → collects watching ≡ true → HasPassed j noted → HasToldAll watching j noted → is_access k ≡ true → jobs.pauses k ≡ false
    → told_notes layout (told_of k) ≡ told_notes layout (take noted (told_of k))
own-unnoted base layout old new watching (kinds.Instruction i) k noted fits made on past told is still =
    access-unnoted layout old new i k fits made past.0 still ∙ ap (told_notes layout) (sym (ap (take noted) grown.1 ∙ taken-told i.lines.told grown.0 noted (told on)))
  where
    grown : (more : List EventOutcome) × (told_of k ≡ i.lines.told ++ more)
    grown = told-longer layout (kinds.Instruction i) k made.found made.got made.turn made.follows
own-unnoted base layout old new watching (kinds.Copying y) k noted fits made on past told is still =
    copy-unnoted layout old new y k fits made past.0 still ∙ ap (told_notes layout) (sym (ap (take noted) grown.1 ∙ taken-told y.instruction.lines.told grown.0 noted (told on)))
  where
    grown : (more : List EventOutcome) × (told_of k ≡ y.instruction.lines.told ++ more)
    grown = told-longer layout (kinds.Copying y) k made.found made.got made.turn made.follows
own-unnoted base layout old new watching (kinds.Raise r) k noted fits made on past told is still = absurd (true≢false (sym is ∙ ap is_access made.follows.1))
own-unnoted base layout old new watching (kinds.Scrub s) k noted fits made on past told is still = absurd (true≢false (sym is ∙ ap is_access made.follows.1))
own-unnoted base layout old new watching (kinds.Evict e) k noted fits made on past told is still = absurd (true≢false (sym is ∙ ap is_access made.follows.1))
own-unnoted base layout old new watching (kinds.Inject i) k noted fits made on past told is still = absurd (true≢false (sym is ∙ ap is_access made.follows.1))
own-unnoted base layout old new watching (kinds.Soft s) k noted fits made on past told is still = absurd (true≢false (sym is ∙ ap is_access made.follows.1))
own-unnoted base layout old new watching (kinds.Fsync f) k noted fits made on past told is still = absurd (true≢false (sym is ∙ ap is_access made.follows.0))
own-unnoted base layout old new watching (kinds.Prctl p) k noted fits made on past told is still = absurd (true≢false (sym is ∙ ap is_access made.follows.0))
own-unnoted base layout old new watching (kinds.Denied p) k noted fits made on past told is still = absurd (true≢false (sym is ∙ ap is_access made.follows.0))
own-unnoted base layout old new watching (kinds.Fork g) k noted fits made on past told is still = absurd (true≢false (sym is ∙ ap is_access made.follows.0))
own-unnoted base layout old new watching (kinds.Log l) k noted fits made on past told is still = absurd (true≢false (sym is ∙ ap is_access made.follows.0))
own-unnoted base layout old new watching (kinds.Spoil s) k noted fits made on past told is still = absurd (true≢false (sym is ∙ ap is_access made.follows.0))
own-unnoted base layout old new watching (kinds.Nested n) k noted fits made on past told is still = absurd (true≢false (sym is ∙ ap is_access made.follows.0))
own-unnoted base layout old new watching (kinds.Unpoison u) k noted fits made on past told is still = absurd (true≢false (sym is ∙ ap is_access made.follows.0))

-- where it pauses
abbrev pub HasPause : Job → Type 0
HasPause j = ((i : Instruction) × (p : Pause) × (j ≡ kinds.Instruction i) × (instructions.pause i ≡ Some p)) ⊎ ((y : Copying) × (p : Pause) × (j ≡ kinds.Copying y) × (copyings.pause y ≡ Some p))

-- a command other than an access or a copy rests with its answer, those at a pause
pub rests-so : (j : Job) → rests j ≡ true → HasPause j ⊎ ((is_access j ≡ false) × ((a : Answer) × (jobs.answer j ≡ Some a)))
rests-so (kinds.Instruction i) is = by (instructions.pause i) refl is
  where
    by : (o : Option Pause) → instructions.pause i ≡ o → is_some o ≡ true → HasPause (kinds.Instruction i) ⊎ ((true ≡ false) × ((a : Answer) × (jobs.answer (kinds.Instruction i) ≡ Some a)))
    by (Some p) at some = inl (inl (i, p, refl, at))
    by None at none = absurd (true≢false (sym none))
rests-so (kinds.Copying y) is = let some = some-of (copyings.pause y) is in inl (inr (y, some.0, refl, some.1))
rests-so (kinds.Evict e) is = inr (refl, some-of (jobs.answer (kinds.Evict e)) is)
rests-so (kinds.Fsync f) is = inr (refl, some-of (jobs.answer (kinds.Fsync f)) is)
rests-so (kinds.Prctl p) is = inr (refl, some-of (jobs.answer (kinds.Prctl p)) is)
rests-so (kinds.Denied p) is = inr (refl, some-of (jobs.answer (kinds.Denied p)) is)
rests-so (kinds.Fork g) is = inr (refl, some-of (jobs.answer (kinds.Fork g)) is)
rests-so (kinds.Log l) is = inr (refl, some-of (jobs.answer (kinds.Log l)) is)
rests-so (kinds.Raise r) is = inr (refl, some-of (jobs.answer (kinds.Raise r)) is)
rests-so (kinds.Scrub s) is = inr (refl, some-of (jobs.answer (kinds.Scrub s)) is)
rests-so (kinds.Spoil s) is = inr (refl, some-of (jobs.answer (kinds.Spoil s)) is)
rests-so (kinds.Nested n) is = inr (refl, some-of (jobs.answer (kinds.Nested n)) is)
rests-so (kinds.Inject i) is = inr (refl, some-of (jobs.answer (kinds.Inject i)) is)
rests-so (kinds.Soft s) is = inr (refl, some-of (jobs.answer (kinds.Soft s)) is)
rests-so (kinds.Unpoison u) is = inr (refl, some-of (jobs.answer (kinds.Unpoison u)) is)

-- one that goes on has no answer, but for an access, which goes past what it told
pub goes-so : (j : Job) → rests j ≡ false → ((is_access j ≡ true) × (jobs.pauses j ≡ false) × ((noted : ℕ) → passed j noted ≡ length (told_of j))) ⊎ ((is_access j ≡ false) × (jobs.answer j ≡ None) × ((noted : ℕ) → passed j noted ≡ noted))
goes-so (kinds.Instruction i) is = inl (refl, is, λ noted. refl)
goes-so (kinds.Copying y) is = inl (refl, is, λ noted. refl)
goes-so (kinds.Evict e) is = inr (refl, none-of (jobs.answer (kinds.Evict e)) is, λ noted. refl)
goes-so (kinds.Fsync f) is = inr (refl, none-of (jobs.answer (kinds.Fsync f)) is, λ noted. refl)
goes-so (kinds.Prctl p) is = inr (refl, none-of (jobs.answer (kinds.Prctl p)) is, λ noted. refl)
goes-so (kinds.Denied p) is = inr (refl, none-of (jobs.answer (kinds.Denied p)) is, λ noted. refl)
goes-so (kinds.Fork g) is = inr (refl, none-of (jobs.answer (kinds.Fork g)) is, λ noted. refl)
goes-so (kinds.Log l) is = inr (refl, none-of (jobs.answer (kinds.Log l)) is, λ noted. refl)
goes-so (kinds.Raise r) is = inr (refl, none-of (jobs.answer (kinds.Raise r)) is, λ noted. refl)
goes-so (kinds.Scrub s) is = inr (refl, none-of (jobs.answer (kinds.Scrub s)) is, λ noted. refl)
goes-so (kinds.Spoil s) is = inr (refl, none-of (jobs.answer (kinds.Spoil s)) is, λ noted. refl)
goes-so (kinds.Nested n) is = inr (refl, none-of (jobs.answer (kinds.Nested n)) is, λ noted. refl)
goes-so (kinds.Inject i) is = inr (refl, none-of (jobs.answer (kinds.Inject i)) is, λ noted. refl)
goes-so (kinds.Soft s) is = inr (refl, none-of (jobs.answer (kinds.Soft s)) is, λ noted. refl)
goes-so (kinds.Unpoison u) is = inr (refl, none-of (jobs.answer (kinds.Unpoison u)) is, λ noted. refl)

-- memory that ran out beside it leaves it no rest
pub given-up-goes : (j : Job) → HasGivenUp j → rests j ≡ false
given-up-goes (kinds.Instruction i) (inl is) = ap (λ (x : InstructionAt). is_some (instructions.pause_at x)) is
given-up-goes (kinds.Instruction i) (inr is) = ap (λ (x : InstructionAt). is_some (instructions.pause_at x)) is
given-up-goes (kinds.Copying y) (own, inl is) = ap (λ (x : CopyingAt). is_some (copyings.pause_at y.instruction x)) own ∙ ap (λ (x : InstructionAt). is_some (instructions.pause_at x)) is
given-up-goes (kinds.Copying y) (own, inr is) = ap (λ (x : CopyingAt). is_some (copyings.pause_at y.instruction x)) own ∙ ap (λ (x : InstructionAt). is_some (instructions.pause_at x)) is
given-up-goes (kinds.Raise r) up = given-up-rests (kinds.Raise r) up
given-up-goes (kinds.Scrub s) up = given-up-rests (kinds.Scrub s) up
given-up-goes (kinds.Evict e) up = absurd up
given-up-goes (kinds.Fsync f) up = absurd up
given-up-goes (kinds.Prctl p) up = absurd up
given-up-goes (kinds.Denied p) up = absurd up
given-up-goes (kinds.Fork g) up = absurd up
given-up-goes (kinds.Log l) up = absurd up
given-up-goes (kinds.Spoil s) up = absurd up
given-up-goes (kinds.Nested n) up = absurd up
given-up-goes (kinds.Inject i) up = absurd up
given-up-goes (kinds.Soft s) up = absurd up
given-up-goes (kinds.Unpoison u) up = absurd up
