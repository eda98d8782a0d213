-- What a step of a copy adds to what the view lists of the command, and to what the command has done: what a step of its access adds.
use Rattle.std.proofs.Common.{◌≡◌, inl, ℕ, ◌+◌, List, [], ◌++◌, Option, Some, None, refl, sym, ap, ◌∙◌, subst}
use Rattle.std.proofs.lemmas.Option.{none-some, same_Some}
use Rattle.hwp_fault.specs.hwp_geom.declared.Layout.{Layout}
use Rattle.hwp_fault.specs.hwp_geom.declared.Page.{Page}
use Rattle.hwp_fault.specs.hwp_geom.declared.Thread.{Thread}
use Rattle.hwp_fault.specs.hwp_geom.declared.Who.{Who}
use Rattle.hwp_fault.specs.hwp_page.declared.At.{At}
use Rattle.hwp_fault.specs.hwp_page.History.{BodyValue}
use Rattle.hwp_fault.specs.hwp_core_rule.declared.Made.{Made}
use Rattle.hwp_fault.specs.hwp_core_rule.declared.Mark.{Mark}
use Rattle.hwp_fault.specs.hwp_core_rule.declared.Step.{Step}
use Rattle.hwp_fault.specs.hwp_core_rule.declared.View.{View}
use Rattle.hwp_fault.specs.hwp_core_rule.declared.Turn.{Turn}
use Rattle.hwp_fault.specs.hwp_core_rule.Calls.{Steps, logs}
use Rattle.hwp_fault.specs.declared.Request.{Request}
use Rattle.hwp_claim.specs.hwp_claim_act.declared.Failed.{Failed}
use Rattle.hwp_claim.specs.hwp_claim_frame.Done.{Grows, Marking, counts_owed, marking_of}
use Rattle.hwp_fault.specs.hwp_evict.declared.evict.Evict.{Evict}
use Rattle.hwp_fault.specs.hwp_evict.declared.evict.EvictAnswer.{EvictAnswer}
use Rattle.hwp_fault.specs.hwp_evict.declared.evict.EvictAnswer.TheVariants as evict_answers
use Rattle.hwp_fault.specs.hwp_evict.declared.evict.Eviction.TheVariants as evictions
use Rattle.hwp_fault.specs.hwp_evict.Evicts as evicts
use Rattle.hwp_fork.specs.declared.cow.Sub.{Sub}
use Rattle.hwp_fork.specs.declared.cow.Sub.TheVariants as subs
use Rattle.hwp_fork.specs.Cows.{sub_of, told_by}
use Rattle.hwp_cpu_access.specs.declared.instruction.Instruction.{Instruction}
use Rattle.hwp_cpu_access.specs.declared.instruction.InstructionAnswer.{InstructionAnswer}
use Rattle.hwp_cpu_access.specs.declared.instruction.InstructionAnswer.TheVariants as answers
use Rattle.hwp_cpu_access.specs.declared.instruction.InstructionAt.TheVariants as instruction_at
use Rattle.hwp_claim.proofs.of_hwp_claim_frame.Quiet.{Alike}
use Rattle.hwp_cpu_access.specs.Done as instruction_done
use Rattle.hwp_cpu_access.specs.Done.{FailuresGrow, failures_by}
use Rattle.hwp_cpu_access.specs.Instructions as instructions
use Rattle.hwp_cpu_access.proofs.InstructionAdds.{instruction-adds}
use Rattle.hwp_cpu_access.specs.declared.copying.Copying.{Copying}
use Rattle.hwp_cpu_access.specs.declared.copying.CopyingAt.{CopyingAt}
use Rattle.hwp_cpu_access.specs.declared.copying.CopyingAt.TheVariants as at
use Rattle.hwp_cpu_access.specs.Copyings.{AccessStepped, Follows, FollowsAt, FreeStepped, after_access, after_free_by, bare, bare_at, going_on, load_of, plan, plan_at, put, put_at, request_by, store_of}
use Rattle.hwp_cpu_access.specs.CopyDone.{Adds, failed_at, failed_now, marked_at, marked_now, owed_at, owed_now}
use Rattle.hwp_cpu_access.specs.CopyFits.{FitsAt, FitsFrom, IsAccessing, IsFreeing}
use Rattle.hwp_cpu_access.proofs.AskedSame.{Asked, asked-same}
use Rattle.hwp_cpu_access.proofs.CopyLaws.{over-instruction}
use Rattle.hwp_cpu_access.proofs.CowSteps.{request-who}
use Rattle.hwp_cpu_access.proofs.FreeLists.{evict-alike, evict-fails}

-- by the thread of the store
request-thread : (store : Request) (page : Page) (sub : Sub) {a : Request} → request_by store page sub ≡ Some a → a.thread ≡ store.thread
request-thread store page (subs.Load slot line) {a} is = ap (λ (r : Request). r.thread) (sym (same_Some (load_of store page slot line) a is))
request-thread store page (subs.Store slot line word) {a} is = ap (λ (r : Request). r.thread) (sym (same_Some (store_of store slot line word) a is))
request-thread store page (subs.Free slot) {a} is = absurd (none-some a is)
request-thread store page subs.Switched {a} is = absurd (none-some a is)

-- the copy has done what this access has
record IsSame (i : Instruction) (after : Copying) : Type 0 where
  marked_is : marked_now after ≡ instruction_done.marked_now i
  failed_is : failed_now after ≡ instruction_done.failed_now i
  owed_is : owed_now after ≡ instruction_done.owed_now i

-- an access that begins has done nothing more than the one before it, which is over
again-same : (c : Copying) (i : Instruction) (request : Request) {answer : InstructionAnswer} → i.at ≡ instruction_at.Over (Some answer) → i.request.thread ≡ c.store.thread → IsSame i (record c { instruction = instructions.again_with i request; at = at.Access })
again-same c i request over thread = record {
  marked_is = ap (λ (l : List Marking). instruction_done.marked_by i.lines.told ++ l) (sym (ap instruction_done.marked_at over));
  failed_is = ap (λ (t : Thread). instruction_done.failed_by (Some t) i.lines.told ++ []) (sym thread) ∙ ap (λ (l : List Failed). instruction_done.failed_by (Some i.request.thread) i.lines.told ++ l) (sym (ap instruction_done.failed_at over));
  owed_is = sym (ap instruction_done.owed_at over);
}

-- the access that is over, of which the lines tell all
told-same : (c : Copying) (i : Instruction) (x : CopyingAt) {answer : InstructionAnswer} → i.at ≡ instruction_at.Over (Some answer) → i.request.thread ≡ c.store.thread → marked_at i x ≡ [] → failed_at i x ≡ [] → owed_at i x ≡ 0
    → IsSame i (record c { instruction = i; at = x })
told-same c i x over thread unmarked unfailed unowed = record {
  marked_is = ap (λ (l : List Marking). instruction_done.marked_by i.lines.told ++ l) (unmarked ∙ sym (ap instruction_done.marked_at over));
  failed_is = ap (λ (t : Thread). instruction_done.failed_by (Some t) i.lines.told ++ failed_at i x) (sym thread)
      ∙ ap (λ (l : List Failed). instruction_done.failed_by (Some i.request.thread) i.lines.told ++ l) (unfailed ∙ sym (ap instruction_done.failed_at over));
  owed_is = unowed ∙ sym (ap instruction_done.owed_at over);
}

abbrev in_access : Copying → Instruction → Copying
in_access c i = record c { instruction = i; at = at.Access }

going-same : (c : Copying) (i : Instruction) (place : At) (sub : Sub) {answer : InstructionAnswer} → i.at ≡ instruction_at.Over (Some answer) → i.request.thread ≡ c.store.thread → IsSame i (going_on (in_access c i) place sub)
going-same c i place (subs.Load slot line) over thread = again-same c i (load_of c.store c.page slot line) over thread
going-same c i place (subs.Store slot line word) over thread = again-same c i (store_of c.store slot line word) over thread
going-same c i place (subs.Free slot) over thread = told-same c i (at.Free (evicts.begin c.store.who c.page (evictions.Free slot)) place) over thread refl refl refl
going-same c i place subs.Switched over thread = told-same c i (at.Over (answers.Stored place)) over thread refl refl refl

as-access : (c : Copying) (i : Instruction) → i.request.thread ≡ c.store.thread → IsSame i (in_access c i)
as-access c i thread = record { marked_is = refl; failed_is = ap (λ (t : Thread). instruction_done.failed_by (Some t) i.lines.told ++ instruction_done.failed_at i.at) (sym thread); owed_is = refl }

access-same : (c : Copying) (i : Instruction) (o : Option InstructionAnswer) → instructions.answer i ≡ o → i.request.thread ≡ c.store.thread → IsSame i (after_access (in_access c i) o)
access-same c i None is thread = as-access c i thread
access-same c i (Some (answers.Value word place)) is thread = going-same (record c { cow = told_by c.cow word }) i place (sub_of (told_by c.cow word)) (over-instruction i is) thread
access-same c i (Some (answers.Stored place)) is thread = going-same (record c { cow = told_by c.cow 0 }) i place (sub_of (told_by c.cow 0)) (over-instruction i is) thread
access-same c i (Some (answers.Sigbus place)) is thread = as-access c i thread
access-same c i (Some answers.NoFrame) is thread = as-access c i thread
access-same c i (Some (answers.Gone page)) is thread = as-access c i thread
access-same c i (Some answers.Stopped) is thread = as-access c i thread

-- nothing is done while the translation is freed
record IsStill (c after : Copying) : Type 0 where
  marked_is : marked_now after ≡ instruction_done.marked_by c.instruction.lines.told ++ []
  failed_is : failed_now after ≡ instruction_done.failed_by (Some c.store.thread) c.instruction.lines.told ++ []
  owed_is : owed_now after ≡ 0

free-still : (c : Copying) (e : Evict) (stored : At) (o : Option EvictAnswer) → IsStill c (after_free_by c e stored o)
free-still c e stored None = record { marked_is = refl; failed_is = refl; owed_is = refl }
free-still c e stored (Some evict_answers.Stopped) = record { marked_is = refl; failed_is = refl; owed_is = refl }
free-still c e stored (Some (evict_answers.Done place)) = record { marked_is = refl; failed_is = refl; owed_is = refl }
free-still c e stored (Some (evict_answers.Refused refusal place)) = record { marked_is = refl; failed_is = refl; owed_is = refl }

module _ {base : List Made} (layout : Layout) (old new : View) (c : Copying) (step : Step) (found : ℕ) (got : Option BodyValue) (fits : FitsFrom base layout old c) (after : Copying) (turn : Turn) where
  access-adds : IsAccessing base layout old c fits.runs → instructions.plan c.instruction ≡ Some step → Steps layout c.store.who step (logs (instructions.put c.instruction)) old new found got → AccessStepped layout (bare_at c at.Access) found got after turn → Adds old new (record c { at = at.Access }) after
  access-adds has e made next = record {
    marked = subst (Grows (λ (m : Mark). m.stamp.who) marking_of old.marks new.marks c.store.who (instruction_done.marked_now c.instruction)) (sym same.marked_is)
        (subst (λ (w : Who). Grows (λ (m : Mark). m.stamp.who) marking_of old.marks new.marks w (instruction_done.marked_now c.instruction) (instruction_done.marked_now next.instruction)) own adds.marked);
    failed = subst (λ (l : List Failed). FailuresGrow (failures_by c.store.who old) (failures_by c.store.who new) l (failed_now after)) (sym (as-access c c.instruction (request-thread c.store c.page (sub_of c.cow) has.request_is)).failed_is)
        (subst (FailuresGrow (failures_by c.store.who old) (failures_by c.store.who new) (instruction_done.failed_now c.instruction)) (sym same.failed_is)
        (subst (λ (w : Who). FailuresGrow (failures_by w old) (failures_by w new) (instruction_done.failed_now c.instruction) (instruction_done.failed_now next.instruction)) own adds.failed));
    counted = adds.counted ∙ ap (λ (n : ℕ). counts_owed old + n) (sym same.owed_is);
  }
    where
      own : c.instruction.request.who ≡ c.store.who
      own = (request-who c.store c.page (sub_of c.cow) has.request_is).0

      adds : instruction_done.Adds old new c.instruction next.instruction
      adds = instruction-adds layout old new c.instruction step found got has.instruction e (subst (λ (w : Who). Steps layout w step (logs (instructions.put c.instruction)) old new found got) (sym own) made) next.instruction turn next.follows

      thread : next.instruction.request.thread ≡ c.store.thread
      thread = ap (λ (s : Asked). s.0.thread) (asked-same layout c.instruction next.instruction found got turn next.follows) ∙ request-thread c.store c.page (sub_of c.cow) has.request_is

      same : IsSame next.instruction after
      same = subst (IsSame next.instruction) (sym next.next_is) (access-same c next.instruction (instructions.answer next.instruction) refl thread)

  free-adds : (e : Evict) (stored : At) → IsFreeing base layout old c fits.runs e stored → evicts.plan e ≡ Some step → Steps layout c.store.who step (logs (evicts.put e)) old new found got
      → FreeStepped (bare_at c (at.Free e stored)) (evicts.bare e) stored found got after turn → Adds old new (record c { at = at.Free e stored }) after
  free-adds e stored has is made next = record {
    marked = inl (alike.marks, same.marked_is);
    failed = inl (subst (λ (w : Who). failures_by w new ≡ failures_by w old) own (evict-fails e has.evict is here), same.failed_is);
    counted = ap (λ (n : ℕ). n + 0) alike.owed ∙ ap (λ (n : ℕ). counts_owed old + n) (sym same.owed_is);
  }
    where
      own : e.who ≡ c.store.who
      own = ap (λ (x : Evict). x.who) has.evict_is

      here : Steps layout e.who step (logs (evicts.put e)) old new found got
      here = subst (λ (w : Who). Steps layout w step (logs (evicts.put e)) old new found got) (sym own) made

      alike : Alike old new
      alike = evict-alike e is here

      still : IsStill (bare_at c (at.Free e stored)) after
      still = subst (IsStill (bare_at c (at.Free e stored))) (sym next.next_is) (free-still (bare_at c (at.Free e stored)) next.evict stored (evicts.answer next.evict))

      same : IsStill c after
      same = record { marked_is = still.marked_is; failed_is = still.failed_is; owed_is = still.owed_is }

pub copy-adds : {base : List Made} (layout : Layout) (old new : View) (c : Copying) (step : Step) (found : ℕ) (got : Option BodyValue) → FitsFrom base layout old c → plan c ≡ Some step → Steps layout c.store.who step (logs (put c)) old new found got
    → (after : Copying) (turn : Turn) → Follows layout (bare c) found got after turn → Adds old new c after
copy-adds {base} layout old new c step found got fits is made after turn follows = which c.at fits.at is made follows
  where
    which : (x : CopyingAt) → FitsAt base layout old c fits.runs x → plan_at c.instruction x ≡ Some step → Steps layout c.store.who step (logs (put_at c.instruction x)) old new found got → FollowsAt layout (bare_at c x) (bare_at c x).at found got after turn → Adds old new (record c { at = x }) after
    which at.Access has e made next = access-adds layout old new c step found got fits after turn has e made next
    which (at.Free e stored) has is made next = free-adds layout old new c step found got fits after turn e stored has is made next
    which (at.Over answer) has e made next = absurd (none-some step e)
