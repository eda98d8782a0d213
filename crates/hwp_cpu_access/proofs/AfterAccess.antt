-- What follows an access that has its answer doesn't ask where the instruction was.
use Rattle.std.proofs.Common.{◌≡◌, ℕ, Bool, Option, Some, None, inl, inr, refl, sym, ◌∙◌, subst}
use Rattle.hwp_fault.specs.hwp_geom.declared.Frame.{Frame}
use Rattle.hwp_fault.specs.hwp_geom.declared.Layout.{Layout}
use Rattle.hwp_fault.specs.hwp_page.History.{BodyValue}
use Rattle.hwp_fault.specs.hwp_core_rule.declared.Turn.{Turn}
use Rattle.hwp_fault.specs.declared.Access.{Access}
use Rattle.hwp_fault.specs.declared.AccessAnswer.{AccessAnswer}
use Rattle.hwp_fault.specs.declared.AccessAnswer.TheVariants as access_answers
use Rattle.hwp_fault.specs.Accesses as accesses
use Rattle.hwp_claim.specs.declared.Handler.{Handler}
use Rattle.hwp_claim.specs.Handlers as handlers
use Rattle.hwp_cpu_access.specs.Instructions.{AfterAccess, AfterAccessBy, BeginsCheck, Follows, FollowsAt, after_handler_by, emptied, handler_of}
use Rattle.hwp_cpu_access.specs.declared.instruction.Instruction.{Instruction}
use Rattle.hwp_cpu_access.specs.declared.instruction.InstructionAt.{InstructionAt}
use Rattle.hwp_cpu_access.specs.declared.instruction.InstructionAt.TheVariants as at

module _ (layout : Layout) (i : Instruction) (x : InstructionAt) where
  checked : (frame : Frame) (after : Instruction) → BeginsCheck layout (record i { at = x }) frame after → BeginsCheck layout i frame after
  checked frame after (inl gives_up) = inl gives_up
  checked frame after (inr (spare, most, is)) = inr (spare, most, is ∙ same spare (handler_of layout i frame) (handlers.answer (handler_of layout i frame)))
    where
      same : (spare : ℕ) (h : Handler) (o : Option Bool) → after_handler_by (emptied (record i { at = x }) spare) frame h o ≡ after_handler_by (emptied i spare) frame h o
      same spare h None = refl
      same spare h (Some stopped) = refl

  from-any : (a : Access) (answer : AccessAnswer) (after : Instruction) → AfterAccessBy layout (record i { at = x }) a (Some answer) after → AfterAccessBy layout i a (Some answer) after
  from-any a (access_answers.Checked frame place) after is = checked frame after is
  from-any a (access_answers.Value word place) after is = is
  from-any a (access_answers.Stored place) after is = is
  from-any a (access_answers.Sigbus place) after is = is
  from-any a access_answers.NoFrame after is = is
  from-any a (access_answers.Gone page) after is = is
  from-any a access_answers.Stopped after is = is

-- the turn of an access that has its answer
pub answered-follows : (layout : Layout) (i : Instruction) (a b : Access) (found : ℕ) (got : Option BodyValue) (turn : Turn) (o : Option AccessAnswer) (answer : AccessAnswer) (after : Instruction) → i.at ≡ at.Access a
    → accesses.Next layout a found got b turn → o ≡ accesses.answer b → o ≡ Some answer → AfterAccessBy layout (record i { at = at.Access b }) b (Some answer) after → Follows layout i found got after turn
answered-follows layout i a b found got turn o answer after at_is follows told is next =
    subst (λ (y : InstructionAt). FollowsAt layout i y found got after turn) (sym at_is) (record { access = b; follows = follows; next_is = next_is })
  where
    next_is : AfterAccess layout i b after
    next_is = subst (λ (p : Option AccessAnswer). AfterAccessBy layout i b p after) (sym is ∙ told) (from-any layout i (at.Access b) b answer after next)
