-- A copy at its pause, behind it and where it gives up, as its access is there.
use Rattle.std.proofs.Common.{◌≡◌, Bool, true, false, true≢false, ℕ, ◌≤◌, Option, Some, None, is_some, refl, sym, ap, ◌∙◌, subst, arith}
use Rattle.hwp_cpu_row.specs.hwp_geom.declared.Layout.{Layout}
use Rattle.hwp_cpu_row.specs.hwp_page.History.{BodyValue}
use Rattle.hwp_cpu_row.specs.hwp_page.declared.At.{At}
use Rattle.hwp_cpu_row.specs.hwp_core_rule.declared.Turn.{Turn}
use Rattle.hwp_cpu_command.specs.hwp_cpu_access.declared.Instruction.{Instruction}
use Rattle.hwp_cpu_command.specs.hwp_cpu_access.declared.instruction.InstructionAt.{InstructionAt}
use Rattle.hwp_cpu_command.specs.hwp_cpu_access.declared.instruction.InstructionAt.TheVariants as instruction_at
use Rattle.hwp_cpu_command.specs.hwp_cpu_access.declared.InstructionAnswer.{InstructionAnswer}
use Rattle.hwp_cpu_command.specs.hwp_cpu_access.declared.InstructionAnswer.TheVariants as answers
use Rattle.hwp_cpu_command.specs.hwp_cpu_access.declared.instruction.Pause.{Pause}
use Rattle.hwp_cpu_command.specs.hwp_cpu_access.Instructions as instructions
use Rattle.hwp_cpu_command.specs.hwp_cpu_access.declared.Copying.{Copying}
use Rattle.hwp_cpu_command.specs.hwp_cpu_access.declared.copying.CopyingAt.{CopyingAt}
use Rattle.hwp_cpu_command.specs.hwp_cpu_access.declared.copying.CopyingAt.TheVariants as copying_at
use Rattle.hwp_cpu_command.specs.hwp_cpu_access.Copyings as copyings
use Rattle.hwp_cpu_command.specs.hwp_cpu_access.CopyCosts as copying_costs
use Rattle.hwp_cpu_command.specs.hwp_cpu_access.hwp_fork.declared.cow.Sub.{Sub}
use Rattle.hwp_cpu_command.specs.hwp_cpu_access.hwp_fork.declared.cow.Sub.TheVariants as subs
use Rattle.hwp_cpu_command.specs.hwp_cpu_access.hwp_fork.declared.cow.CowAt.{CowAt}
use Rattle.hwp_cpu_command.specs.hwp_cpu_access.hwp_fork.declared.cow.CowAt.TheVariants as cow_at
use Rattle.hwp_cpu_command.specs.hwp_cpu_access.hwp_fork.Cows as cows

-- behind its pause
pub copy-behind : (c : Copying) (p : Pause) → c.at ≡ copying_at.Access → c.instruction.at ≡ instruction_at.Paused p
    → copyings.resume c ≡ record c { instruction = record c.instruction { at = instructions.resumed c.instruction.request p }; at = copying_at.Access }
copy-behind c p own is =
    ap (copyings.resume_at c) own
    ∙ ap (λ (x : InstructionAt). record c { instruction = instructions.resume_by c.instruction (instructions.pause_at x) }) is
    ∙ ap (λ (x : CopyingAt). record c { instruction = record c.instruction { at = instructions.resumed c.instruction.request p }; at = x }) own

-- by the step in which it gives up its access is over, without an answer
pub copy-gives-over : (layout : Layout) (c k : Copying) (found : ℕ) (got : Option BodyValue) (t : Turn) → copyings.Follows layout (copyings.bare c) found got k t → c.at ≡ copying_at.Access → c.instruction.at ≡ instruction_at.GiveUp
    → (k.at ≡ copying_at.Access) × (k.instruction.at ≡ instruction_at.Over None)
copy-gives-over layout c k found got t follows own is =
    let to : copyings.AccessStepped layout (copyings.bare_at c copying_at.Access) found got k t = subst (λ (x : CopyingAt). copyings.FollowsAt layout (copyings.bare_at c x) (copyings.bare_at c x).at found got k t) own follows in
    let given = subst (λ (x : InstructionAt). instructions.FollowsAt layout (instructions.bare c.instruction) (instructions.bare_at x) found got to.instruction t) is to.follows in
    let over : to.instruction.at ≡ instruction_at.Over None = ap (λ (i : Instruction). i.at) given.0 in
    let same : k ≡ record (copyings.bare_at c copying_at.Access) { instruction = to.instruction } =
    to.next_is ∙ ap (λ (x : InstructionAt). copyings.after_access (record (copyings.bare_at c copying_at.Access) { instruction = to.instruction }) (instructions.answer_at x)) over in
    (ap (λ (x : Copying). x.at) same, ap (λ (x : Copying). x.instruction.at) same ∙ over)

-- the access that comes behind one that went well doesn't pause
going-unpaused : (c : Copying) (place : At) (s : Sub) → is_some (copyings.pause (copyings.going_on (record c { at = copying_at.Access }) place s)) ≡ false
going-unpaused c place (subs.Load slot line) = refl
going-unpaused c place (subs.Store slot line word) = refl
going-unpaused c place (subs.Free slot) = refl
going-unpaused c place subs.Switched = refl

-- so where it pauses behind a step of an access, that has no answer by which it goes on
pub copy-paused : (c : Copying) (o : Option InstructionAnswer) → is_some (copyings.pause (copyings.after_access (record c { at = copying_at.Access }) o)) ≡ true → copyings.after_access (record c { at = copying_at.Access }) o ≡ record c { at = copying_at.Access }
copy-paused c (Some (answers.Value word place)) is = absurd (true≢false (sym is ∙ going-unpaused (record c { cow = cows.told_by c.cow word }) place (cows.sub_of (cows.told_by c.cow word))))
copy-paused c (Some (answers.Stored place)) is = absurd (true≢false (sym is ∙ going-unpaused (record c { cow = cows.told_by c.cow 0 }) place (cows.sub_of (cows.told_by c.cow 0))))
copy-paused c (Some (answers.Sigbus place)) is = refl
copy-paused c (Some answers.NoFrame) is = refl
copy-paused c (Some (answers.Gone page)) is = refl
copy-paused c (Some answers.Stopped) is = refl
copy-paused c None is = refl

-- of all accesses no more than these are still to come
pub few-behind : (x : CowAt) → copying_costs.behind x ≤ 129
few-behind (cow_at.Load line) = omega arith
few-behind (cow_at.Store line word) = omega arith
few-behind cow_at.Last = omega arith
few-behind cow_at.Free = omega arith
few-behind cow_at.Switched = omega arith
