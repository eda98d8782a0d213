-- What a command's own task costs in a course, where it rests and behind that; and what a frame costs that is taken out of use.
use Rattle.std.proofs.Common.{◌≡◌, ◌≢◌, ℕ, ◌+◌, ◌-◌, ◌*◌, ◌<◌, ◌≤◌, ◌⊎◌, inl, inr, Bool, true, false, cond, [], Option, Some, None, is_some, length, refl, sym, ap, ◌∙◌, subst, arith}
use Rattle.std.proofs.lemmas.Bool.{both_ways}
use Rattle.std.proofs.lemmas.Option.{slice_get_within}
use Rattle.hwp_cpu_row.specs.hwp_geom.declared.Frame.{Frame}
use Rattle.hwp_cpu_row.specs.hwp_geom.declared.Layout.{Layout}
use Rattle.hwp_cpu_row.specs.hwp_page.History.{BodyValue}
use Rattle.hwp_cpu_row.specs.hwp_core_rule.declared.State.{State}
use Rattle.hwp_cpu_row.specs.hwp_core_rule.declared.Step.{Step}
use Rattle.hwp_cpu_row.specs.hwp_core_rule.declared.View.{View}
use Rattle.hwp_cpu_row.specs.hwp_core_rule.Rule.{Holds}
use Rattle.hwp_cpu_row.specs.hwp_core_rule.Words.{Words}
use Rattle.hwp_cpu_row.specs.hwp_core_rule.declared.Turn.{Turn}
use Rattle.hwp_cpu_row.specs.hwp_core_rule.Lasting.{LeavesPoison}
use Rattle.hwp_cpu_row.specs.hwp_core_rule.Ranks.{failure_weight, free_room, words_at}
use Rattle.hwp_cpu_command.specs.declared.job.Job.{Job}
use Rattle.hwp_cpu_command.specs.declared.job.Job.TheVariants as kinds
use Rattle.hwp_cpu_command.specs.Jobs as jobs
use Rattle.hwp_cpu_command.proofs.JobEnds.{answered-over}
use Rattle.hwp_cpu.proofs.commands.Beside.{answered-resumes, at-pause}
use Rattle.hwp_cpu_command.specs.hwp_cpu_access.declared.Instruction.{Instruction}
use Rattle.hwp_cpu_command.specs.hwp_cpu_access.declared.instruction.InstructionAt.{InstructionAt}
use Rattle.hwp_cpu_command.specs.hwp_cpu_access.declared.instruction.InstructionAt.TheVariants as instruction_at
use Rattle.hwp_cpu_command.specs.hwp_cpu_access.declared.instruction.Pause.{Pause}
use Rattle.hwp_cpu_command.specs.hwp_cpu_access.declared.instruction.Pause.TheVariants as pauses
use Rattle.hwp_cpu_command.specs.hwp_cpu_access.Costs as instruction_costs
use Rattle.hwp_cpu_command.specs.hwp_cpu_access.Costs.{anew_after_wait}
use Rattle.hwp_cpu_command.specs.hwp_cpu_access.Instructions as instructions
use Rattle.hwp_cpu_command.proofs.of_hwp_cpu_access.InstructionCosts.{resumed-cost}
use Rattle.hwp_cpu_command.specs.hwp_cpu_access.declared.Copying.{Copying}
use Rattle.hwp_cpu_command.specs.hwp_cpu_access.declared.copying.CopyingAt.{CopyingAt}
use Rattle.hwp_cpu_command.specs.hwp_cpu_access.declared.copying.CopyingAt.TheVariants as copying_at
use Rattle.hwp_cpu_command.specs.hwp_cpu_access.Copyings as copyings
use Rattle.hwp_cpu_command.specs.hwp_cpu_access.CopyCosts as copying_costs
use Rattle.hwp_cpu_command.specs.hwp_cpu_access.CopyFits as copying_fits
use Rattle.hwp_cpu_command.proofs.of_hwp_cpu_access.InstructionRank.{instruction-lasting}
use Rattle.hwp_cpu_command.proofs.of_hwp_cpu_access.CopyRank.{copy-lasting}
use Rattle.hwp_cpu_command.proofs.of_hwp_scrub.RaiseRank.{raise-lasting}
use Rattle.hwp_cpu_command.proofs.of_hwp_scrub.ScrubRank.{scrub-lasting}
use Rattle.hwp_cpu_command.specs.hwp_scrub.RaiseCosts as raise_costs
use Rattle.hwp_cpu_command.specs.hwp_scrub.Raises as raises
use Rattle.hwp_cpu_command.specs.hwp_scrub.declared.raise.RaiseAt.{RaiseAt}
use Rattle.hwp_cpu_command.specs.hwp_scrub.declared.raise.RaiseAt.TheVariants as raise_at
use Rattle.hwp_cpu_command.specs.hwp_scrub.Costs as scrub_costs
use Rattle.hwp_cpu_command.specs.hwp_scrub.Scrubs as scrubs
use Rattle.hwp_cpu_command.specs.hwp_scrub.declared.scrub.ScrubAt.{ScrubAt}
use Rattle.hwp_cpu_command.specs.hwp_scrub.declared.scrub.ScrubAt.TheVariants as scrub_at
use Rattle.hwp_cpu_command.specs.hwp_soft.declared.Soft.{Soft}
use Rattle.hwp_cpu_command.specs.hwp_soft.Softs as softs
use Rattle.hwp_cpu_command.proofs.of_hwp_soft.SoftRank.{soft-small}
use Rattle.hwp_cpu.specs.declared.course.Course.{Course}
use Rattle.hwp_cpu_row.specs.Dues.{next_due}
use Rattle.hwp_cpu.specs.Courses.{RestsNow, behind_cost, cost, cost_behind, flat, gives_up, gives_up_access, gives_up_copy, going_on, own_cost, rests, soft_weight}
use Rattle.hwp_cpu_command.proofs.of_hwp_cpu_access.CopyResting.{at-pause as copy-at-pause}
use Rattle.hwp_cpu.proofs.CopyRests.{copy-behind, copy-gives-over}
use Rattle.hwp_cpu.proofs.RestLaws.{some-of}
use Rattle.hwp_cpu.proofs.ToldSince.{most}

-- ---- what its own task costs

-- no more than its turns, with what it pays for frames that may be due
pub own-most : (j : Job) (o : Option Step) (w : Words) → own_cost j o w ≤ jobs.cost j w + flat j + 3
own-most j None w = omega arith
own-most j (Some step) w = which (gives_up j)
  where
    which : (b : Bool) → cond b 2 (jobs.cost j w + flat j + 3) ≤ jobs.cost j w + flat j + 3
    which true = omega arith
    which false = omega arith

-- one that gives up
pub given-up-cost : (j : Job) (o : Option Step) (w : Words) → gives_up j ≡ true → own_cost j o w ≤ 2
given-up-cost j None w gives = omega arith
given-up-cost j (Some step) w gives = let is : cond (gives_up j) 2 (jobs.cost j w + flat j + 3) ≡ 2 = ap (λ (b : Bool). cond b 2 (jobs.cost j w + flat j + 3)) gives in omega (arith, is)

-- and what one costs that has a step to come and doesn't
pub own-is : (j : Job) (step : Step) (w : Words) → jobs.plan j ≡ Some step → gives_up j ≡ false → own_cost j (jobs.plan j) w ≡ jobs.cost j w + flat j + 3
own-is j step w planned goes = ap (λ (o : Option Step). own_cost j o w) planned ∙ ap (λ (b : Bool). cond b 2 (jobs.cost j w + flat j + 3)) goes

pub over-cost : (j : Job) (w : Words) → jobs.plan j ≡ None → own_cost j (jobs.plan j) w ≡ 0
over-cost j w over = ap (λ (o : Option Step). own_cost j o w) over

-- its kind stays
pub flat-stays : (layout : Layout) (j k : Job) (found : ℕ) (got : Option BodyValue) (t : Turn) → jobs.Next layout (jobs.bare j) found got k t → flat k ≡ flat j
flat-stays layout (kinds.Instruction x) k found got t next = ap flat next.1
flat-stays layout (kinds.Copying x) k found got t next = ap flat next.1
flat-stays layout (kinds.Evict x) k found got t next = ap flat next.1
flat-stays layout (kinds.Fsync x) k found got t next = ap flat next.0
flat-stays layout (kinds.Prctl x) k found got t next = ap flat next.0
flat-stays layout (kinds.Denied x) k found got t next = ap flat next.0
flat-stays layout (kinds.Fork x) k found got t next = ap flat next.0
flat-stays layout (kinds.Log x) k found got t next = ap flat next.0
flat-stays layout (kinds.Raise x) k found got t next = ap flat next.1
flat-stays layout (kinds.Scrub x) k found got t next = ap flat next.1
flat-stays layout (kinds.Spoil x) k found got t next = ap flat next.0
flat-stays layout (kinds.Nested x) k found got t next = ap flat next.0
flat-stays layout (kinds.Inject x) k found got t next = ap flat next.1
flat-stays layout (kinds.Soft x) k found got t next = ap flat next.1
flat-stays layout (kinds.Unpoison x) k found got t next = ap flat next.0

-- ---- one that gives up is over by its next step

pub record IsOver (k : Job) : Type 0 where
  pub plan : jobs.plan k ≡ None
  pub rests : rests k ≡ false

pub gives-over : (layout : Layout) (j k : Job) (found : ℕ) (got : Option BodyValue) (t : Turn) → jobs.Next layout (jobs.bare j) found got k t → gives_up j ≡ true → IsOver k
gives-over layout (kinds.Instruction i) k found got t next gives = which i.at refl next.2
  where
    which : (x : InstructionAt) → i.at ≡ x → instructions.FollowsAt layout (instructions.bare i) (instructions.bare_at x) found got next.0 t → IsOver k
    which instruction_at.GiveUp is follows = record {
      plan = ap jobs.plan (next.1 ∙ ap kinds.Instruction follows.0);
      rests = ap rests (next.1 ∙ ap kinds.Instruction follows.0);
    }
    which (instruction_at.Access a) is follows = absurd (both_ways true (sym gives ∙ ap (λ (x : InstructionAt). gives_up (kinds.Instruction (record i { at = x }))) is) refl)
    which (instruction_at.Handle frame h) is follows = absurd (both_ways true (sym gives ∙ ap (λ (x : InstructionAt). gives_up (kinds.Instruction (record i { at = x }))) is) refl)
    which (instruction_at.LoadFrame frame) is follows = absurd (both_ways true (sym gives ∙ ap (λ (x : InstructionAt). gives_up (kinds.Instruction (record i { at = x }))) is) refl)
    which (instruction_at.LoadStop frame) is follows = absurd (both_ways true (sym gives ∙ ap (λ (x : InstructionAt). gives_up (kinds.Instruction (record i { at = x }))) is) refl)
    which (instruction_at.Paused p) is follows = absurd (both_ways true (sym gives ∙ ap (λ (x : InstructionAt). gives_up (kinds.Instruction (record i { at = x }))) is) refl)
    which (instruction_at.Over answer) is follows = absurd (both_ways true (sym gives ∙ ap (λ (x : InstructionAt). gives_up (kinds.Instruction (record i { at = x }))) is) refl)
gives-over layout (kinds.Copying c) k found got t next gives = record {
  plan = ap jobs.plan next.1 ∙ ap (copyings.plan_at next.0.instruction) over.0 ∙ ap instructions.plan_at over.1;
  rests = ap rests next.1 ∙ ap (λ (x : CopyingAt). is_some (copyings.pause_at next.0.instruction x)) over.0 ∙ ap (λ (x : InstructionAt). is_some (instructions.pause_at x)) over.1;
}
  where
    access-gives : (x : InstructionAt) → gives_up_access x ≡ true → x ≡ instruction_at.GiveUp
    access-gives instruction_at.GiveUp is = refl
    access-gives (instruction_at.Access a) is = absurd (both_ways true (sym is) refl)
    access-gives (instruction_at.Handle frame h) is = absurd (both_ways true (sym is) refl)
    access-gives (instruction_at.LoadFrame frame) is = absurd (both_ways true (sym is) refl)
    access-gives (instruction_at.LoadStop frame) is = absurd (both_ways true (sym is) refl)
    access-gives (instruction_at.Paused p) is = absurd (both_ways true (sym is) refl)
    access-gives (instruction_at.Over answer) is = absurd (both_ways true (sym is) refl)

    at-access : (x : CopyingAt) → gives_up_copy c.instruction.at x ≡ true → (x ≡ copying_at.Access) × (c.instruction.at ≡ instruction_at.GiveUp)
    at-access copying_at.Access is = (refl, access-gives c.instruction.at is)
    at-access (copying_at.Free e stored) is = absurd (both_ways true (sym is) refl)
    at-access (copying_at.Over answer) is = absurd (both_ways true (sym is) refl)

    own : (c.at ≡ copying_at.Access) × (c.instruction.at ≡ instruction_at.GiveUp)
    own = at-access c.at gives

    over : (next.0.at ≡ copying_at.Access) × (next.0.instruction.at ≡ instruction_at.Over None)
    over = copy-gives-over layout c next.0 found got t next.2 own.0 own.1
gives-over layout (kinds.Raise r) k found got t next gives = which r.at refl next.2
  where
    which : (x : RaiseAt) → r.at ≡ x → raises.FollowsAt layout (raises.bare r) (raises.bare_at x) found got next.0 t → IsOver k
    which raise_at.GiveUp is follows = record {
      plan = ap jobs.plan (next.1 ∙ ap kinds.Raise follows.0);
      rests = ap rests (next.1 ∙ ap kinds.Raise follows.0);
    }
    which raise_at.LoadStop is follows = absurd (both_ways true (sym gives ∙ ap (λ (x : RaiseAt). gives_up (kinds.Raise (record r { at = x }))) is) refl)
    which (raise_at.LoadProcess raiser) is follows = absurd (both_ways true (sym gives ∙ ap (λ (x : RaiseAt). gives_up (kinds.Raise (record r { at = x }))) is) refl)
    which (raise_at.Handle h) is follows = absurd (both_ways true (sym gives ∙ ap (λ (x : RaiseAt). gives_up (kinds.Raise (record r { at = x }))) is) refl)
    which (raise_at.Over answer) is follows = absurd (both_ways true (sym gives ∙ ap (λ (x : RaiseAt). gives_up (kinds.Raise (record r { at = x }))) is) refl)
gives-over layout (kinds.Scrub s) k found got t next gives = which s.at refl next.2
  where
    which : (x : ScrubAt) → s.at ≡ x → scrubs.FollowsAt layout (scrubs.bare s) (scrubs.bare_at x) found got next.0 t → IsOver k
    which scrub_at.GiveUp is follows = record {
      plan = ap jobs.plan (next.1 ∙ ap kinds.Scrub follows.0);
      rests = ap rests (next.1 ∙ ap kinds.Scrub follows.0);
    }
    which scrub_at.LoadStop is follows = absurd (both_ways true (sym gives ∙ ap (λ (x : ScrubAt). gives_up (kinds.Scrub (record s { at = x }))) is) refl)
    which (scrub_at.LoadBad frame) is follows = absurd (both_ways true (sym gives ∙ ap (λ (x : ScrubAt). gives_up (kinds.Scrub (record s { at = x }))) is) refl)
    which (scrub_at.Handle frame h) is follows = absurd (both_ways true (sym gives ∙ ap (λ (x : ScrubAt). gives_up (kinds.Scrub (record s { at = x }))) is) refl)
    which (scrub_at.LoadWeak frame) is follows = absurd (both_ways true (sym gives ∙ ap (λ (x : ScrubAt). gives_up (kinds.Scrub (record s { at = x }))) is) refl)
    which (scrub_at.Over answer) is follows = absurd (both_ways true (sym gives ∙ ap (λ (x : ScrubAt). gives_up (kinds.Scrub (record s { at = x }))) is) refl)
gives-over layout (kinds.Evict x) k found got t next gives = absurd (both_ways true (sym gives) refl)
gives-over layout (kinds.Fsync x) k found got t next gives = absurd (both_ways true (sym gives) refl)
gives-over layout (kinds.Prctl x) k found got t next gives = absurd (both_ways true (sym gives) refl)
gives-over layout (kinds.Denied x) k found got t next gives = absurd (both_ways true (sym gives) refl)
gives-over layout (kinds.Fork x) k found got t next gives = absurd (both_ways true (sym gives) refl)
gives-over layout (kinds.Log x) k found got t next gives = absurd (both_ways true (sym gives) refl)
gives-over layout (kinds.Spoil x) k found got t next gives = absurd (both_ways true (sym gives) refl)
gives-over layout (kinds.Nested x) k found got t next gives = absurd (both_ways true (sym gives) refl)
gives-over layout (kinds.Inject x) k found got t next gives = absurd (both_ways true (sym gives) refl)
gives-over layout (kinds.Soft x) k found got t next gives = absurd (both_ways true (sym gives) refl)
gives-over layout (kinds.Unpoison x) k found got t next gives = absurd (both_ways true (sym gives) refl)

-- and takes back no poison by it
pub gives-lasting : (j : Job) (step : Step) → gives_up j ≡ true → jobs.plan j ≡ Some step → LeavesPoison step
gives-lasting (kinds.Instruction x) step gives planned = instruction-lasting x step planned
gives-lasting (kinds.Copying x) step gives planned = copy-lasting x step planned
gives-lasting (kinds.Raise x) step gives planned = raise-lasting x step planned
gives-lasting (kinds.Scrub x) step gives planned = scrub-lasting x step planned
gives-lasting (kinds.Evict x) step gives planned = absurd (both_ways true (sym gives) refl)
gives-lasting (kinds.Fsync x) step gives planned = absurd (both_ways true (sym gives) refl)
gives-lasting (kinds.Prctl x) step gives planned = absurd (both_ways true (sym gives) refl)
gives-lasting (kinds.Denied x) step gives planned = absurd (both_ways true (sym gives) refl)
gives-lasting (kinds.Fork x) step gives planned = absurd (both_ways true (sym gives) refl)
gives-lasting (kinds.Log x) step gives planned = absurd (both_ways true (sym gives) refl)
gives-lasting (kinds.Spoil x) step gives planned = absurd (both_ways true (sym gives) refl)
gives-lasting (kinds.Nested x) step gives planned = absurd (both_ways true (sym gives) refl)
gives-lasting (kinds.Inject x) step gives planned = absurd (both_ways true (sym gives) refl)
gives-lasting (kinds.Soft x) step gives planned = absurd (both_ways true (sym gives) refl)
gives-lasting (kinds.Unpoison x) step gives planned = absurd (both_ways true (sym gives) refl)

-- ---- behind a rest

-- behind its pause an access costs no more than an access that begins anew, a copy those that come behind it as well, and has nothing in
-- hand; a task with its answer is over
pub record GoesOnFrom (j : Job) (w : Words) : Type 0 where
  pub cost : own_cost (jobs.resume j) (jobs.plan (jobs.resume j)) w ≤ behind_cost 3 j
  pub idle : (jobs.plan (jobs.resume j) ≡ None) ⊎ (1 < jobs.class (jobs.resume j))

resumed-class : (i : Instruction) (p : Pause) → (jobs.plan (kinds.Instruction (record i { at = instructions.resumed i.request p })) ≡ None) ⊎ (1 < jobs.class (kinds.Instruction (record i { at = instructions.resumed i.request p })))
resumed-class i (pauses.Sigbus place) = inl refl
resumed-class i (pauses.Wait frame) = inr (omega arith)
resumed-class i pauses.Again = inr (omega arith)

pub goes-from : (layout : Layout) (view : View) (j : Job) (w : Words) → length w.frees ≤ free_room → RestsNow layout view j → GoesOnFrom j w
goes-from layout view j w few (inl (said, idle)) = record {
  cost = let same : own_cost (jobs.resume j) (jobs.plan (jobs.resume j)) w ≡ own_cost j (jobs.plan j) w = ap (λ (k : Job). own_cost k (jobs.plan k) w) (answered-resumes j said) in let none = over-cost j w over in omega (arith, same, none);
  idle = inl (ap jobs.plan (answered-resumes j said) ∙ over);
}
  where
    over : jobs.plan j ≡ None
    over = answered-over j (some-of (jobs.answer j) said).1
goes-from layout view (kinds.Instruction i) w few (inr ((p, rest), none)) = record {
  cost =
      let all : own_cost (kinds.Instruction (instructions.resume i)) (jobs.plan (kinds.Instruction (instructions.resume i))) w ≤ jobs.cost (kinds.Instruction (instructions.resume i)) w + 0 + 3 = own-most (kinds.Instruction (instructions.resume i)) _ w in
      let same : jobs.cost (kinds.Instruction (instructions.resume i)) w ≡ instruction_costs.cost k w = ap (λ (x : Instruction). instruction_costs.cost x w) is in
      let low : instruction_costs.cost k w ≤ anew_after_wait = resumed-cost i p w rest.empty_are few in
      let paused : cond (is_some (instructions.pause i)) (anew_after_wait + 3) 0 ≡ anew_after_wait + 3 = ap (λ (x : InstructionAt). cond (is_some (instructions.pause_at x)) (anew_after_wait + 3) 0) rest.at_is in
      omega (arith, all, same, low, paused);
  idle = subst (λ (x : Instruction). (jobs.plan (kinds.Instruction x) ≡ None) ⊎ (1 < jobs.class (kinds.Instruction x))) (sym is) (resumed-class i p);
}
  where
    k : Instruction
    k = record i { at = instructions.resumed i.request p }

    is : instructions.resume i ≡ k
    is = ap (λ (x : InstructionAt). instructions.resume_by i (instructions.pause_at x)) rest.at_is
goes-from layout view (kinds.Copying c) w few (inr ((p, base, rest), none)) = record {
  cost =
      let all : own_cost (kinds.Copying (copyings.resume c)) (jobs.plan (kinds.Copying (copyings.resume c))) w ≤ jobs.cost (kinds.Copying (copyings.resume c)) w + 0 + 3 = own-most (kinds.Copying (copyings.resume c)) _ w in
      let same : jobs.cost (kinds.Copying (copyings.resume c)) w ≡ failure_weight * copying_costs.behind c.cow.at + instruction_costs.cost i w = ap (λ (x : Copying). copying_costs.cost x w) is in
      let low : instruction_costs.cost i w ≤ anew_after_wait = resumed-cost c.instruction p w rest.rests.empty_are few in
      let paused : behind_cost 3 (kinds.Copying c) ≡ failure_weight * copying_costs.behind c.cow.at + anew_after_wait + 3 =
      ap (λ (x : CopyingAt). cond (is_some (copyings.pause_at c.instruction x)) (failure_weight * copying_costs.behind c.cow.at + anew_after_wait + 3) 0) rest.at_is
      ∙ ap (λ (x : InstructionAt). cond (is_some (instructions.pause_at x)) (failure_weight * copying_costs.behind c.cow.at + anew_after_wait + 3) 0) rest.rests.at_is in
      omega (arith, all, same, low, paused);
  idle = subst (λ (x : Copying). (jobs.plan (kinds.Copying x) ≡ None) ⊎ (1 < jobs.class (kinds.Copying x))) (sym is) (resumed-class c.instruction p);
}
  where
    i : Instruction
    i = record c.instruction { at = instructions.resumed c.instruction.request p }

    is : copyings.resume c ≡ record c { instruction = i; at = copying_at.Access }
    is = copy-behind c p rest.at_is rest.rests.at_is
goes-from layout view _ w few (inr none) = absurd none.0

-- the frame that comes next is taken out of use: that costs less than it weighs
pub next-cost : (layout : Layout) (b : State) (x : Course) (frame : Frame) → Holds layout b → next_due x.due ≡ Some frame
    → cost (going_on x (Some frame)) (words_at layout b) + 4 ≤ soft_weight * (length x.due.frames - length x.due.offlined) + behind_cost 4 x.own
next-cost layout b x frame kept is =
    let within : length x.due.offlined < length x.due.frames = slice_get_within x.due.frames (length x.due.offlined) frame is in
    let few : softs.cost (softs.begin (jobs.who x.own) frame) (words_at layout b) ≤ softs.soft_most = soft-small layout b (softs.begin (jobs.who x.own) frame) kept in
    which (behind_cost 4 x.own) within few
  where
    which : (n : ℕ) → length x.due.offlined < length x.due.frames → softs.cost (softs.begin (jobs.who x.own) frame) (words_at layout b) ≤ softs.soft_most
        → softs.cost (softs.begin (jobs.who x.own) frame) (words_at layout b) + soft_weight * (length x.due.frames - (length x.due.offlined + 1)) + n + 1 + 4
        ≤ soft_weight * (length x.due.frames - length x.due.offlined) + n
    which n within few = omega (arith, within, few)

-- what it pays for where it rests, and told of something
pub pays-for : (k : Job) (w : Words) → rests k ≡ true → jobs.told_of k ≢ [] → soft_weight * most k + behind_cost 0 k ≤ jobs.cost k w + flat k
pays-for (kinds.Instruction i) w is told =
    let some = some-of (instructions.pause i) is in
    let paused : cond (is_some (instructions.pause i)) (anew_after_wait + 0) 0 ≡ anew_after_wait + 0 = ap (λ (b : Bool). cond b (anew_after_wait + 0) 0) is in
    let costs : instruction_costs.cost i w ≡ instruction_costs.paused_cost = ap (λ (x : InstructionAt). instruction_costs.cost_at i.banks x w) (at-pause i.at some.1) in
    omega (arith, paused, costs)
pays-for (kinds.Copying c) w is told =
    let some = some-of (copyings.pause c) is in
    let own = copy-at-pause c some.1 in
    let paused : cond (is_some (copyings.pause c)) (failure_weight * copying_costs.behind c.cow.at + anew_after_wait + 0) 0 ≡ failure_weight * copying_costs.behind c.cow.at + anew_after_wait + 0 = ap (λ (b : Bool). cond b (failure_weight * copying_costs.behind c.cow.at + anew_after_wait + 0) 0) is in
    let costs : copying_costs.cost c w ≡ failure_weight * copying_costs.behind c.cow.at + instruction_costs.paused_cost =
    ap (λ (x : CopyingAt). failure_weight * copying_costs.behind c.cow.at + copying_costs.cost_at c.instruction x w) own.0
    ∙ ap (λ (x : InstructionAt). failure_weight * copying_costs.behind c.cow.at + instruction_costs.cost_at c.instruction.banks x w) (at-pause c.instruction.at own.1) in
    omega (arith, paused, costs)
pays-for (kinds.Raise r) w is told = omega arith
pays-for (kinds.Scrub s) w is told = omega arith
pays-for _ w is told = absurd (told refl)

-- and one with its answer for all
pub pays-flat : (k : Job) → rests k ≡ true → jobs.told_of k ≢ [] → jobs.pauses k ≡ false → soft_weight * most k ≤ flat k
pays-flat (kinds.Instruction i) is told off = absurd (both_ways true (sym is ∙ off) refl)
pays-flat (kinds.Copying c) is told off = absurd (both_ways true (sym is ∙ off) refl)
pays-flat (kinds.Raise r) is told off = omega arith
pays-flat (kinds.Scrub s) is told off = omega arith
pays-flat _ is told off = absurd (told refl)

-- nothing is claimed or given up at a pause
pub paused-idle : (j : Job) → jobs.pauses j ≡ true → (jobs.claims j ≡ None) × (jobs.aborts j ≡ false)
paused-idle (kinds.Instruction i) is = let there = at-pause i.at (some-of (instructions.pause i) is).1 in (ap instruction_costs.claims_at there, ap instruction_costs.aborts_at there)
paused-idle (kinds.Copying c) is =
    let own = copy-at-pause c (some-of (copyings.pause c) is).1 in
    let there = at-pause c.instruction.at own.1 in
    (ap (copying_costs.claims_at c.instruction) own.0 ∙ ap instruction_costs.claims_at there, ap (copying_costs.aborts_at c.instruction) own.0 ∙ ap instruction_costs.aborts_at there)
paused-idle (kinds.Evict x) is = absurd (both_ways true (sym is) refl)
paused-idle (kinds.Fsync x) is = absurd (both_ways true (sym is) refl)
paused-idle (kinds.Prctl x) is = absurd (both_ways true (sym is) refl)
paused-idle (kinds.Denied x) is = absurd (both_ways true (sym is) refl)
paused-idle (kinds.Fork x) is = absurd (both_ways true (sym is) refl)
paused-idle (kinds.Log x) is = absurd (both_ways true (sym is) refl)
paused-idle (kinds.Raise x) is = absurd (both_ways true (sym is) refl)
paused-idle (kinds.Scrub x) is = absurd (both_ways true (sym is) refl)
paused-idle (kinds.Spoil x) is = absurd (both_ways true (sym is) refl)
paused-idle (kinds.Nested x) is = absurd (both_ways true (sym is) refl)
paused-idle (kinds.Inject x) is = absurd (both_ways true (sym is) refl)
paused-idle (kinds.Soft x) is = absurd (both_ways true (sym is) refl)
paused-idle (kinds.Unpoison x) is = absurd (both_ways true (sym is) refl)

-- one that is told to give up holds nothing
pub given-up-class : (j : Job) → jobs.told_of j ≢ [] → 1 < jobs.class (jobs.give_up j)
given-up-class (kinds.Instruction i) told = omega arith
given-up-class (kinds.Copying c) told = omega arith
given-up-class (kinds.Raise r) told = omega arith
given-up-class (kinds.Scrub s) told = omega arith
given-up-class _ told = absurd (told refl)

-- it plans nothing, or has nothing in hand
abbrev pub IsIdle : Job → Type 0
IsIdle j = (jobs.plan j ≡ None) ⊎ (1 < jobs.class j)
