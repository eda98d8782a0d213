-- What a step of a command tells of events stands behind what it told before.
use Rattle.std.proofs.Common.{◌≡◌, inl, inr, ℕ, Bool, true, false, List, [], ◌++◌, Option, Some, None, append-nil, refl, sym, ap, ◌∙◌, subst}
use Rattle.hwp_cpu_command.specs.hwp_geom.declared.Frame.{Frame}
use Rattle.hwp_cpu_command.specs.hwp_geom.declared.Layout.{Layout}
use Rattle.hwp_cpu_command.specs.hwp_geom.declared.Page.{Page}
use Rattle.hwp_cpu_command.specs.hwp_page.History.{BodyValue}
use Rattle.hwp_cpu_command.specs.hwp_words.Names.{page_named}
use Rattle.hwp_cpu_command.specs.hwp_words.Stops.{is_stopped}
use Rattle.hwp_cpu_command.specs.hwp_core_rule.declared.Turn.{Turn}
use Rattle.hwp_cpu_command.specs.hwp_fault.declared.AccessAnswer.{AccessAnswer}
use Rattle.hwp_cpu_command.specs.hwp_fault.declared.AccessAnswer.TheVariants as access_answers
use Rattle.hwp_cpu_command.specs.hwp_fault.Accesses as accesses
use Rattle.hwp_cpu_command.specs.hwp_claim.declared.Handler.{Handler}
use Rattle.hwp_cpu_command.specs.hwp_claim.Handlers as handlers
use Rattle.hwp_cpu_command.specs.hwp_cpu_access.declared.Instruction.{Instruction}
use Rattle.hwp_cpu_command.specs.hwp_cpu_access.declared.instruction.InstructionAt.{InstructionAt}
use Rattle.hwp_cpu_command.specs.hwp_cpu_access.declared.instruction.InstructionAt.TheVariants as instruction_at
use Rattle.hwp_cpu_command.specs.hwp_cpu_access.Instructions as instructions
use Rattle.hwp_cpu_command.specs.hwp_page.declared.At.{At}
use Rattle.hwp_cpu_command.specs.hwp_evict.declared.Evict.{Evict}
use Rattle.hwp_cpu_command.specs.hwp_evict.declared.EvictAnswer.{EvictAnswer}
use Rattle.hwp_cpu_command.specs.hwp_evict.declared.EvictAnswer.TheVariants as evict_answers
use Rattle.hwp_cpu_command.specs.hwp_evict.Evicts as evicts
use Rattle.hwp_cpu_command.specs.hwp_cpu_access.declared.InstructionAnswer.{InstructionAnswer}
use Rattle.hwp_cpu_command.specs.hwp_cpu_access.declared.InstructionAnswer.TheVariants as instruction_answers
use Rattle.hwp_cpu_command.specs.hwp_fork.declared.Sub.{Sub}
use Rattle.hwp_cpu_command.specs.hwp_fork.declared.Sub.TheVariants as subs
use Rattle.hwp_cpu_command.specs.hwp_fork.Cows as cows
use Rattle.hwp_cpu_command.specs.hwp_cpu_access.declared.Copying.{Copying}
use Rattle.hwp_cpu_command.specs.hwp_cpu_access.declared.copying.CopyingAt.{CopyingAt}
use Rattle.hwp_cpu_command.specs.hwp_cpu_access.declared.copying.CopyingAt.TheVariants as copying_at
use Rattle.hwp_cpu_command.specs.hwp_cpu_access.Copyings as copyings
use Rattle.hwp_cpu_command.specs.hwp_scrub.declared.Raise.{Raise}
use Rattle.hwp_cpu_command.specs.hwp_scrub.declared.Raiser.{Raiser}
use Rattle.hwp_cpu_command.specs.hwp_scrub.declared.raise.RaiseAt.{RaiseAt}
use Rattle.hwp_cpu_command.specs.hwp_scrub.declared.raise.RaiseAt.TheVariants as raise_at
use Rattle.hwp_cpu_command.specs.hwp_scrub.Raises as raises
use Rattle.hwp_cpu_command.specs.hwp_scrub.declared.Scrub.{Scrub}
use Rattle.hwp_cpu_command.specs.hwp_scrub.declared.scrub.ScrubAt.{ScrubAt}
use Rattle.hwp_cpu_command.specs.hwp_scrub.declared.scrub.ScrubAt.TheVariants as scrub_at
use Rattle.hwp_cpu_command.specs.hwp_scrub.Scrubs as scrubs
use Rattle.hwp_cpu_command.specs.declared.job.Job.{Job}
use Rattle.hwp_cpu_command.specs.declared.job.Job.TheVariants as jobs
use Rattle.hwp_cpu_command.specs.hwp_claim.declared.EventOutcome.{EventOutcome}
use Rattle.hwp_cpu_command.specs.Jobs.{Next, bare, told_of}

abbrev pub IsLonger : List EventOutcome → List EventOutcome → Type 0
IsLonger old new = (more : List EventOutcome) × (new ≡ old ++ more)

same-lines : {old new : List EventOutcome} → new ≡ old → IsLonger old new
same-lines {old} is = ([], is ∙ sym (append-nil old))

-- ---- an instruction

instruction-handled : (i : Instruction) (frame : Frame) (h : Handler) (o : Option Bool) → IsLonger i.lines.told (instructions.after_handler_by i frame h o).lines.told
instruction-handled i frame h None = same-lines refl
instruction-handled i frame h (Some stopped) = (h.events.told, refl)

instruction-longer : (layout : Layout) (i k : Instruction) (found : ℕ) (got : Option BodyValue) (turn : Turn) → instructions.Follows layout (instructions.bare i) found got k turn → IsLonger i.lines.told k.lines.told
instruction-longer layout i k found got turn follows = which i.at follows
  where
    from : {x : Instruction} → k ≡ x → IsLonger i.lines.told x.lines.told → IsLonger i.lines.told k.lines.told
    from is longer = subst (λ (x : Instruction). IsLonger i.lines.told x.lines.told) (sym is) longer

    accessed : (a : _) (o : Option AccessAnswer) → instructions.AfterAccessBy layout (instructions.bare i) a o k → IsLonger i.lines.told k.lines.told
    accessed a (Some (access_answers.Checked frame place)) (inl refused) = from refused (same-lines refl)
    accessed a (Some (access_answers.Checked frame place)) (inr (spare, room, is)) =
        from is (instruction-handled (instructions.emptied (instructions.bare i) spare) frame (instructions.handler_of layout (instructions.bare i) frame) (handlers.answer (instructions.handler_of layout (instructions.bare i) frame)))
    accessed a None is = from is (same-lines refl)
    accessed a (Some (access_answers.Value word place)) is = from is (same-lines refl)
    accessed a (Some (access_answers.Stored place)) is = from is (same-lines refl)
    accessed a (Some (access_answers.Sigbus place)) is = from is (same-lines refl)
    accessed a (Some access_answers.NoFrame) is = from is (same-lines refl)
    accessed a (Some (access_answers.Gone page)) is = from is (same-lines refl)
    accessed a (Some access_answers.Stopped) is = from is (same-lines refl)

    which : (x : InstructionAt) → instructions.FollowsAt layout (instructions.bare i) (instructions.bare_at x) found got k turn → IsLonger i.lines.told k.lines.told
    which (instruction_at.Access a) next = accessed next.access (accesses.answer next.access) next.next_is
    which (instruction_at.Handle frame h) next = from next.next_is (instruction-handled (instructions.bare i) frame next.handler (handlers.answer next.handler))
    which (instruction_at.LoadFrame frame) next = from next.0 (same-lines refl)
    which (instruction_at.LoadStop frame) next = from next.0 (same-lines refl)
    which instruction_at.GiveUp next = from next.0 (same-lines refl)
    which (instruction_at.Paused pause) next = from next.0 (same-lines refl)
    which (instruction_at.Over answer) next = from next.0 (same-lines refl)

-- ---- a copy

copy-going : (c : Copying) (place : At) (sub : Sub) → (copyings.going_on c place sub).instruction.lines.told ≡ c.instruction.lines.told
copy-going c place (subs.Load slot line) = refl
copy-going c place (subs.Store slot line word) = refl
copy-going c place (subs.Free slot) = refl
copy-going c place subs.Switched = refl

copy-accessed : (c : Copying) (o : Option InstructionAnswer) → (copyings.after_access c o).instruction.lines.told ≡ c.instruction.lines.told
copy-accessed c None = refl
copy-accessed c (Some (instruction_answers.Value word place)) = copy-going (record c { cow = cows.told_by c.cow word }) place (cows.sub_of (cows.told_by c.cow word))
copy-accessed c (Some (instruction_answers.Stored place)) = copy-going (record c { cow = cows.told_by c.cow 0 }) place (cows.sub_of (cows.told_by c.cow 0))
copy-accessed c (Some (instruction_answers.Sigbus place)) = refl
copy-accessed c (Some instruction_answers.NoFrame) = refl
copy-accessed c (Some (instruction_answers.Gone page)) = refl
copy-accessed c (Some instruction_answers.Stopped) = refl

copy-freed : (c : Copying) (e : Evict) (stored : At) (o : Option EvictAnswer) → (copyings.after_free_by c e stored o).instruction.lines.told ≡ c.instruction.lines.told
copy-freed c e stored None = refl
copy-freed c e stored (Some evict_answers.Stopped) = refl
copy-freed c e stored (Some (evict_answers.Done place)) = refl
copy-freed c e stored (Some (evict_answers.Refused refusal place)) = refl

copy-longer : (layout : Layout) (c k : Copying) (found : ℕ) (got : Option BodyValue) (turn : Turn) → copyings.Follows layout (copyings.bare c) found got k turn → IsLonger c.instruction.lines.told k.instruction.lines.told
copy-longer layout c k found got turn follows = which c.at follows
  where
    which : (x : CopyingAt) → copyings.FollowsAt layout (copyings.bare_at c x) (copyings.bare_at c x).at found got k turn → IsLonger c.instruction.lines.told k.instruction.lines.told
    which copying_at.Access next = subst (IsLonger c.instruction.lines.told)
        (sym (ap (λ (k : Copying). k.instruction.lines.told) next.next_is ∙ copy-accessed (record (copyings.bare_at c copying_at.Access) { instruction = next.instruction }) (instructions.answer next.instruction)))
        (instruction-longer layout c.instruction next.instruction found got turn next.follows)
    which (copying_at.Free e stored) next = same-lines (ap (λ (k : Copying). k.instruction.lines.told) next.next_is ∙ copy-freed (copyings.bare_at c (copying_at.Free e stored)) next.evict stored (evicts.answer next.evict))
    which (copying_at.Over answer) next = same-lines (ap (λ (k : Copying). k.instruction.lines.told) next.0)

-- ---- a machine check that is raised

raise-handled : (r : Raise) (h : Handler) (o : Option Bool) → IsLonger r.lines.told (raises.after_handler_by r h o).lines.told
raise-handled r h None = same-lines refl
raise-handled r h (Some stopped) = (h.events.told, refl)

raise-longer : (layout : Layout) (r k : Raise) (found : ℕ) (got : Option BodyValue) (turn : Turn) → raises.Follows layout (raises.bare r) found got k turn → IsLonger r.lines.told k.lines.told
raise-longer layout r k found got turn follows = which r.at follows
  where
    from : {x : Raise} → k ≡ x → IsLonger r.lines.told x.lines.told → IsLonger r.lines.told k.lines.told
    from is longer = subst (λ (x : Raise). IsLonger r.lines.told x.lines.told) (sym is) longer

    begun : raises.BeginsCheck layout (raises.bare r) k → IsLonger r.lines.told k.lines.told
    begun (inl refused) = from refused (same-lines refl)
    begun (inr (spare, room, is)) = from is (raise-handled (raises.emptied (raises.bare r) spare) (raises.handler_of layout (raises.bare r)) (handlers.answer (raises.handler_of layout (raises.bare r))))

    by-stop : (b : Bool) (o : Option Raiser) → raises.AfterStopBy layout (raises.bare r) b o k → IsLonger r.lines.told k.lines.told
    by-stop true o is = from is (same-lines refl)
    by-stop false (Some raiser) is = from is (same-lines refl)
    by-stop false None is = begun is

    by-process : (o : Option Page) → raises.AfterProcessBy layout (raises.bare r) o k → IsLonger r.lines.told k.lines.told
    by-process (Some page) is = from is (same-lines refl)
    by-process None is = begun is

    which : (x : RaiseAt) → raises.FollowsAt layout (raises.bare r) (raises.bare_at x) found got k turn → IsLonger r.lines.told k.lines.told
    which raise_at.LoadStop next = by-stop (is_stopped found) r.raiser next.0
    which (raise_at.LoadProcess raiser) next = by-process (page_named found) next.0
    which (raise_at.Handle h) next = from next.next_is (raise-handled (raises.bare r) next.handler (handlers.answer next.handler))
    which raise_at.GiveUp next = from next.0 (same-lines refl)
    which (raise_at.Over answer) next = from next.0 (same-lines refl)

-- ---- a scrub

scrub-handled : (s : Scrub) (frame : Frame) (h : Handler) (o : Option Bool) → IsLonger s.lines.told (scrubs.after_handler_by s frame h o).lines.told
scrub-handled s frame h None = same-lines refl
scrub-handled s frame h (Some stopped) = (h.events.told, refl)

scrub-longer : (layout : Layout) (s k : Scrub) (found : ℕ) (got : Option BodyValue) (turn : Turn) → scrubs.Follows layout (scrubs.bare s) found got k turn → IsLonger s.lines.told k.lines.told
scrub-longer layout s k found got turn follows = which s.at follows
  where
    from : {x : Scrub} → k ≡ x → IsLonger s.lines.told x.lines.told → IsLonger s.lines.told k.lines.told
    from is longer = subst (λ (x : Scrub). IsLonger s.lines.told x.lines.told) (sym is) longer

    bad : (frame : Frame) (o : Option ℕ) → scrubs.AfterBadBy layout (scrubs.bare s) frame o k → IsLonger s.lines.told k.lines.told
    bad frame None is = from is (same-lines refl)
    bad frame (Some line) (inl refused) = from refused (same-lines refl)
    bad frame (Some line) (inr (spare, room, is)) = from is (scrub-handled (scrubs.emptied (scrubs.bare s) spare) frame (scrubs.handler_of layout (scrubs.bare s) frame line) (handlers.answer (scrubs.handler_of layout (scrubs.bare s) frame line)))

    weak : (frame : Frame) (o : Option ℕ) → scrubs.AfterWeakBy (scrubs.bare s) frame o k → IsLonger s.lines.told k.lines.told
    weak frame None is = from is (same-lines refl)
    weak frame (Some line) (inl refused) = from refused (same-lines refl)
    weak frame (Some line) (inr (spare, room, is)) = from is (_, refl)

    which : (x : ScrubAt) → scrubs.FollowsAt layout (scrubs.bare s) (scrubs.bare_at x) found got k turn → IsLonger s.lines.told k.lines.told
    which scrub_at.LoadStop next = from next.0 (same-lines refl)
    which (scrub_at.LoadBad frame) next = bad frame next.0.0 next.0.2
    which (scrub_at.Handle frame h) next = from next.next_is (scrub-handled (scrubs.bare s) frame next.handler (handlers.answer next.handler))
    which (scrub_at.LoadWeak frame) next = weak frame next.0.0 next.0.2
    which scrub_at.GiveUp next = from next.0 (same-lines refl)
    which (scrub_at.Over answer) next = from next.0 (same-lines refl)

-- ---- whatever the command

pub told-longer : (layout : Layout) (j after : Job) (found : ℕ) (got : Option BodyValue) (turn : Turn) → Next layout (bare j) found got after turn → IsLonger (told_of j) (told_of after)
told-longer layout (jobs.Instruction i) after found got turn next = subst (λ (x : Job). IsLonger i.lines.told (told_of x)) (sym next.1) (instruction-longer layout i next.0 found got turn next.2)
told-longer layout (jobs.Copying c) after found got turn next = subst (λ (x : Job). IsLonger c.instruction.lines.told (told_of x)) (sym next.1) (copy-longer layout c next.0 found got turn next.2)
told-longer layout (jobs.Raise r) after found got turn next = subst (λ (x : Job). IsLonger r.lines.told (told_of x)) (sym next.1) (raise-longer layout r next.0 found got turn next.2)
told-longer layout (jobs.Scrub s) after found got turn next = subst (λ (x : Job). IsLonger s.lines.told (told_of x)) (sym next.1) (scrub-longer layout s next.0 found got turn next.2)
told-longer layout (jobs.Evict e) after found got turn next = same-lines (ap told_of next.1)
told-longer layout (jobs.Inject i) after found got turn next = same-lines (ap told_of next.1)
told-longer layout (jobs.Soft s) after found got turn next = same-lines (ap told_of next.1)
told-longer layout (jobs.Fsync f) after found got turn next = same-lines (ap told_of next.0)
told-longer layout (jobs.Prctl p) after found got turn next = same-lines (ap told_of next.0)
told-longer layout (jobs.Denied p) after found got turn next = same-lines (ap told_of next.0)
told-longer layout (jobs.Fork f) after found got turn next = same-lines (ap told_of next.0)
told-longer layout (jobs.Log l) after found got turn next = same-lines (ap told_of next.0)
told-longer layout (jobs.Spoil p) after found got turn next = same-lines (ap told_of next.0)
told-longer layout (jobs.Nested n) after found got turn next = same-lines (ap told_of next.0)
told-longer layout (jobs.Unpoison u) after found got turn next = same-lines (ap told_of next.0)
